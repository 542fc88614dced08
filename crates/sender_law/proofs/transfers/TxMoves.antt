-- What a sender's moves come to, one by one: time passes, a session is joined, its cells are read, its phase changes, a frame is offered.
use Rattle.std.proofs.Common.{◌≡◌, ℕ, ◌+◌, ◌<◌, ◌≤◌, Option, Some, None, List, [], ◌∷◌, ◌++◌, length, true, refl, ap, sym, subst, ◌∙◌, arith, append-nil, append_assoc, length-append}
use Rattle.tp_sender.specs.declared.transmission.Phase.{Phase}
use Rattle.tp_sender.specs.declared.transmission.Phase.TheVariants.{Start, Bytes, Box, Gap}
use Rattle.flow_plan.specs.Pace.{Control}
use Rattle.tp_sender.specs.State.{Transmission}
use Rattle.std.specs.Prelude.{take, drop}
use Rattle.std.specs.List.{AllByRecursion}
use Rattle.std.proofs.lemmas.List.{length-take-le, take-append-drop}
use Rattle.gw_base.specs.Cell.{bytes_of}
use Rattle.gw_base.specs.declared.numbers.Tick.{Tick}
use Rattle.tp_attempts.specs.Cuts.{Cut}
use Rattle.tp_attempts.specs.Seen.{Seen}
use Rattle.tp_attempts.specs.Walk.{Piece, Walk, walk_of}
use Rattle.tp_sender.specs.Frame.{part_after, unit_after}
use Rattle.tp_sender.specs.Table.{fetched, in_phase, joined_in}
use Rattle.tp_unit.specs.declared.shape.Shape.{Shape}
use Rattle.tp_unit.specs.Shape.{address_size, fits_shape}
use Rattle.gw_base.proofs.Lists.{all-weaker}
use Rattle.sender_law.proofs.transfers.TxPaces.{come-after, paced-more, permits-later}
use Rattle.sender_law.proofs.transfers.TxWorld.{AnswersMore, Boxed, GoesOn, Grows, IsOnWay, Lives, SoFar, Way, World, Unsent, UnderWay, so-on}
use Rattle.hub_core.proofs.Growing.{slice_get-pushed}

-- nothing is added to lists and bytes
pub answers-same : (clear : ℕ) (answers : List Control) → AnswersMore clear answers answers
answers-same clear answers = record { more = []; are = sym (append-nil answers); after = tt }

pub grows-same : (v w : World) → v.clear ≤ w.clear → w.told.address ≡ v.told.address → w.told.answers ≡ v.told.answers → w.told.lens ≡ v.told.lens → ((number : ℕ) → w.told.read number ≡ v.told.read number) → Grows v w
grows-same v w clear address answers lens read = record {
  address = address;
  clear = clear;
  answers = record { more = []; are = answers ∙ sym (append-nil v.told.answers); after = tt };
  lens = ([], lens ∙ sym (append-nil v.told.lens));
  read = λ number. ([], read number ∙ sym (append-nil (v.told.read number)));
}

on-way-later : (shape : Shape) (answers : List Control) (clear begin now later len : ℕ) (taken : List ℕ) (walk : Walk) → now ≤ later → IsOnWay shape answers clear begin now len taken walk → IsOnWay shape answers clear begin later len taken walk
on-way-later shape answers clear begin now later len taken walk le is = record {
  len_is = is.len_is;
  size = is.size;
  right = is.right;
  bytes = is.bytes;
  ticks = all-weaker (λ (piece : Piece). (begin ≤ piece.at) × (piece.at ≤ now)) (λ (piece : Piece). (begin ≤ piece.at) × (piece.at ≤ later)) walk.pieces (λ piece at. (at.0, omega (arith, at.1, le))) is.ticks;
  clear_is = is.clear_is;
  paced = is.paced;
}

pub on-way-answered : (shape : Shape) (answers more : List Control) (clear begin now len : ℕ) (taken : List ℕ) (walk : Walk) → AllByRecursion (λ (c : Control). clear ≤ c.tick) more → IsOnWay shape answers clear begin now len taken walk → IsOnWay shape (answers ++ more) clear begin now len taken walk
on-way-answered shape answers more clear begin now len taken walk after is = record {
  len_is = is.len_is;
  size = is.size;
  right = is.right;
  bytes = is.bytes;
  ticks = is.ticks;
  clear_is = is.clear_is;
  paced = paced-more answers more walk.pieces (come-after clear walk.pieces more is.clear_is after) is.paced;
}

-- the tick
abbrev pub at_tick : ℕ → World → World
at_tick tick w = record w { told = record w.told { now = tick } }

later-way : (shape : Shape) (answers : List Control) (clear begin now later len number sent block gap : ℕ) (taken : List ℕ) (phase : Phase) (since : ℕ) (going : List (Cut Seen)) → now ≤ later →
    Way shape answers clear begin now len number sent block gap taken phase since going → Way shape answers clear begin later len number sent block gap taken phase since going
later-way shape answers clear begin now later len number sent block gap taken phase since going le (Unsent none first bytes cuts early) = Unsent none first bytes cuts early
later-way shape answers clear begin now later len number sent block gap taken phase since going le (UnderWay cut some cuts count way every ready) =
    UnderWay cut some cuts count (on-way-later shape answers clear begin now later len taken (walk_of (address_size shape) cut) le way) every ready

later-lives : (shape : Shape) (w : World) (tick : ℕ) (live : Option Transmission) (going : List (Cut Seen)) → w.told.now ≤ tick → Lives shape w live going → Lives shape (at_tick tick w) live going
later-lives shape w tick None going le lives = lives
later-lives shape w tick (Some s) going le lives = record {
  joined_is = lives.joined_is;
  next = lives.next;
  before = lives.before;
  unfinished = lives.unfinished;
  begin = omega (arith, lives.begin, le);
  since = omega (arith, lives.since, le);
  taken = lives.taken;
  offered = lives.offered;
  read = lives.read;
  sent = lives.sent;
  box = lives.box;
  way = later-way shape w.told.answers w.clear s.begin w.told.now tick s.len s.number s.sent s.block s.gap lives.taken s.phase s.since going le lives.way;
}

pub later : (shape : Shape) (w : World) (tick : ℕ) → w.told.now ≤ tick → SoFar shape w → SoFar shape (at_tick tick w)
later shape w tick le so =
    so-on shape w (at_tick tick w) so (grows-same w (at_tick tick w) (omega arith) refl refl refl (λ number. refl))
    (all-weaker (λ (c : Control). c.tick ≤ w.told.now) (λ (c : Control). c.tick ≤ tick) w.told.answers (λ c at. omega (arith, at, le)) so.past)
    (omega (arith, so.clear_now, le)) refl refl so.lens so.unread (later-lives shape w tick w.told.live so.going le so.lives)

-- the session that is being sent
abbrev pub with_live : Option Transmission → World → World
with_live live w = record w { told = record w.told { live = live } }

pub lives-none : (shape : Shape) (w : World) (live : Option Transmission) (going : List (Cut Seen)) → live ≡ None → Lives shape w live going → (going ≡ []) × (length w.told.records ≡ w.next)
lives-none shape w live going is lives = let P : Option Transmission → Type 0 = λ l. Lives shape w l going in subst P is lives

pub lives-some : (shape : Shape) (w : World) (live : Option Transmission) (s : Transmission) (going : List (Cut Seen)) → live ≡ Some s → Lives shape w live going → GoesOn shape w s going
lives-some shape w live s going is lives = let P : Option Transmission → Type 0 = λ l. Lives shape w l going in subst P is lives

-- a session is joined
abbrev pub joins : ℕ → World → World
joins len w = record w { told = record w.told { lens = w.told.lens ++ len ∷ []; live = Some (joined_in w.told.now w.next len) }; next = w.next + 1 }

pub joined : (shape : Shape) (w : World) (len : ℕ) → w.told.live ≡ None → 0 < len → SoFar shape w → SoFar shape (joins len w)
joined shape w len idle some so =
    let none = lives-none shape w w.told.live so.going idle so.lives in
    so-on shape w (joins len w) so (record { address = refl; clear = omega arith; answers = answers-same w.clear w.told.answers; lens = (len ∷ [], refl); read = λ number. ([], sym (append-nil (w.told.read number))) }) so.past so.clear_now refl refl
    (omega (arith, so.lens, length-append w.told.lens (len ∷ []))) (λ number le. so.unread number (omega (arith, le)))
    (record {
      joined_is = slice_get-pushed w.told.lens len w.next so.lens;
      next = refl;
      before = none.1;
      unfinished = some;
      begin = omega arith;
      since = omega arith;
      taken = [];
      offered = [];
      read = so.unread w.next (omega arith);
      sent = refl;
      box = refl;
      way = Unsent refl refl refl none.0 tt;
    })

-- bytes of the session are read
abbrev pub reads : (ℕ → List ℕ) → List ℕ → Transmission → World → World
reads read cells s w = record w { told = record w.told { read = read; live = Some (fetched cells s) } }

pub is-read : (shape : Shape) (w : World) (s : Transmission) (cells : List ℕ) (read : ℕ → List ℕ) → w.told.live ≡ Some s → ((number : ℕ) → (more : List ℕ) × (read number ≡ w.told.read number ++ more)) → read s.seq ≡ w.told.read s.seq ++ bytes_of cells →
    ((number : ℕ) → w.next ≤ number → read number ≡ []) → SoFar shape w → SoFar shape (reads read cells s w)
is-read shape w s cells read is grows own unread so =
    let on : GoesOn shape w s so.going = lives-some shape w w.told.live s so.going is so.lives in
    so-on shape w (reads read cells s w) so (record { address = refl; clear = omega arith; answers = answers-same w.clear w.told.answers; lens = ([], sym (append-nil w.told.lens)); read = grows }) so.past so.clear_now refl refl so.lens unread
    (record {
      joined_is = on.joined_is;
      next = on.next;
      before = on.before;
      unfinished = on.unfinished;
      begin = on.begin;
      since = on.since;
      taken = on.taken;
      offered = on.offered;
      read = own ∙ ap (λ l. l ++ bytes_of cells) on.read ∙ append_assoc on.taken (on.offered ++ s.carried) (bytes_of cells) ∙ ap (λ l. on.taken ++ l) (append_assoc on.offered s.carried (bytes_of cells));
      sent = on.sent;
      box = on.box;
      way = on.way;
    })

-- the session's phase changes, with what lies in its box and with the flow controls so far
pub turns : (shape : Shape) (w : World) (s : Transmission) (phase : Phase) (since : ℕ) → w.told.live ≡ Some s → since ≤ w.told.now →
    ((offered : List ℕ) → Boxed shape s.len s.sent s.number s.phase w.box offered → Boxed shape s.len s.sent s.number phase w.box offered) →
    ((taken : List ℕ) (going : List (Cut Seen)) → Way shape w.told.answers w.clear s.begin w.told.now s.len s.number s.sent s.block s.gap taken s.phase s.since going → Way shape w.told.answers w.clear s.begin w.told.now s.len s.number s.sent s.block s.gap taken phase since going) →
    SoFar shape w → SoFar shape (with_live (Some (in_phase phase since s)) w)
turns shape w s phase since is le box way so =
    let on : GoesOn shape w s so.going = lives-some shape w w.told.live s so.going is so.lives in
    so-on shape w (with_live (Some (in_phase phase since s)) w) so (grows-same w (with_live (Some (in_phase phase since s)) w) (omega arith) refl refl refl (λ number. refl)) so.past so.clear_now refl refl so.lens so.unread
    (record {
      joined_is = on.joined_is;
      next = on.next;
      before = on.before;
      unfinished = on.unfinished;
      begin = on.begin;
      since = le;
      taken = on.taken;
      offered = on.offered;
      read = on.read;
      sent = on.sent;
      box = box on.offered on.box;
      way = way on.taken so.going on.way;
    })

way-start : (shape : Shape) (answers : List Control) (clear begin now len number sent block gap : ℕ) (taken : List ℕ) (was since : ℕ) (going : List (Cut Seen)) →
    Way shape answers clear begin now len number sent block gap taken Start was going → Way shape answers clear begin now len number sent block gap taken Bytes since going
way-start shape answers clear begin now len number sent block gap taken was since going (Unsent none first bytes cuts early) = Unsent none first bytes cuts tt
way-start shape answers clear begin now len number sent block gap taken was since going (UnderWay cut some cuts count way every ready) = absurd ready

way-gap : (shape : Shape) (answers : List Control) (clear begin now len number sent block gap : ℕ) (taken : List ℕ) (until : Tick) (was since : ℕ) (going : List (Cut Seen)) → until.0 ≤ since →
    Way shape answers clear begin now len number sent block gap taken (Gap until) was going → Way shape answers clear begin now len number sent block gap taken Bytes since going
way-gap shape answers clear begin now len number sent block gap taken until was since going le (Unsent none first bytes cuts early) = absurd early
way-gap shape answers clear begin now len number sent block gap taken until was since going le (UnderWay cut some cuts count way every ready) =
    UnderWay cut some cuts count way every (permits-later answers (walk_of (address_size shape) cut).pieces block gap until.0 since le ready)

pub starts : (shape : Shape) (w : World) (s : Transmission) → w.told.live ≡ Some s → s.phase ≡ Start → SoFar shape w → SoFar shape (with_live (Some (in_phase Bytes w.told.now s)) w)
starts shape w s is phase so =
    turns shape w s Bytes w.told.now is (omega arith)
    (λ offered. let P : Phase → Type 0 = λ p. Boxed shape s.len s.sent s.number p w.box offered → offered ≡ [] in subst P (sym phase) (λ b. b))
    (λ taken going. let P : Phase → Type 0 = λ p. Way shape w.told.answers w.clear s.begin w.told.now s.len s.number s.sent s.block s.gap taken p s.since going → Way shape w.told.answers w.clear s.begin w.told.now s.len s.number s.sent s.block s.gap taken Bytes w.told.now going in
    subst P (sym phase) (way-start shape w.told.answers w.clear s.begin w.told.now s.len s.number s.sent s.block s.gap taken s.since w.told.now going)) so

pub resumes : (shape : Shape) (w : World) (s : Transmission) (until : Tick) → w.told.live ≡ Some s → s.phase ≡ Gap until → until.0 ≤ w.told.now → SoFar shape w → SoFar shape (with_live (Some (in_phase Bytes w.told.now s)) w)
resumes shape w s until is phase le so =
    turns shape w s Bytes w.told.now is (omega arith)
    (λ offered. let P : Phase → Type 0 = λ p. Boxed shape s.len s.sent s.number p w.box offered → offered ≡ [] in subst P (sym phase) (λ b. b))
    (λ taken going. let P : Phase → Type 0 = λ p. Way shape w.told.answers w.clear s.begin w.told.now s.len s.number s.sent s.block s.gap taken p s.since going → Way shape w.told.answers w.clear s.begin w.told.now s.len s.number s.sent s.block s.gap taken Bytes w.told.now going in
    subst P (sym phase) (way-gap shape w.told.answers w.clear s.begin w.told.now s.len s.number s.sent s.block s.gap taken until s.since w.told.now going le)) so

-- the next frame is offered into the box
abbrev pub offers : Shape → Transmission → World → World
offers shape s w = record w {
  told = record w.told { live = Some (in_phase Box w.told.now (record s { carried = drop (part_after shape s.len s.sent) s.carried })) };
  box = Some (unit_after shape s.len s.sent s.number (take (part_after shape s.len s.sent) s.carried));
}

way-box : (shape : Shape) (answers : List Control) (clear begin now len number sent block gap : ℕ) (taken : List ℕ) (was since : ℕ) (going : List (Cut Seen)) → was ≤ since →
    Way shape answers clear begin now len number sent block gap taken Bytes was going → Way shape answers clear begin now len number sent block gap taken Box since going
way-box shape answers clear begin now len number sent block gap taken was since going le (Unsent none first bytes cuts early) = Unsent none first bytes cuts tt
way-box shape answers clear begin now len number sent block gap taken was since going le (UnderWay cut some cuts count way every ready) =
    UnderWay cut some cuts count way every (permits-later answers (walk_of (address_size shape) cut).pieces block gap was since le ready)

pub offered : (shape : Shape) (w : World) (s : Transmission) → w.told.live ≡ Some s → s.phase ≡ Bytes → part_after shape s.len s.sent ≤ length s.carried →
    fits_shape shape (unit_after shape s.len s.sent s.number (take (part_after shape s.len s.sent) s.carried)) ≡ true → SoFar shape w → SoFar shape (offers shape s w)
offered shape w s is phase enough fits so =
    let on : GoesOn shape w s so.going = lives-some shape w w.told.live s so.going is so.lives in
    let part : ℕ = part_after shape s.len s.sent in
    let none : on.offered ≡ [] = (let P : Phase → Type 0 = λ p. Boxed shape s.len s.sent s.number p w.box on.offered in subst P phase on.box) in
    let old : Way shape w.told.answers w.clear s.begin w.told.now s.len s.number s.sent s.block s.gap on.taken Bytes s.since so.going =
    (let P : Phase → Type 0 = λ p. Way shape w.told.answers w.clear s.begin w.told.now s.len s.number s.sent s.block s.gap on.taken p s.since so.going in subst P phase on.way) in
    so-on shape w (offers shape s w) so (grows-same w (offers shape s w) (omega arith) refl refl refl (λ number. refl)) so.past so.clear_now refl refl so.lens so.unread
    (record {
      joined_is = on.joined_is;
      next = on.next;
      before = on.before;
      unfinished = on.unfinished;
      begin = on.begin;
      since = omega arith;
      taken = on.taken;
      offered = take part s.carried;
      read = on.read ∙ ap (λ l. on.taken ++ (l ++ s.carried)) none ∙ ap (λ l. on.taken ++ l) (sym (take-append-drop part s.carried));
      sent = on.sent;
      box = record { lies = refl; part = length-take-le part s.carried enough; fits = fits };
      way = way-box shape w.told.answers w.clear s.begin w.told.now s.len s.number s.sent s.block s.gap on.taken s.since w.told.now so.going on.since old;
    })
