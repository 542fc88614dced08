-- What a flow control that comes for a sender comes to: it is ignored, lets frames come, or asks for a pause.
use Rattle.std.proofs.Common.{◌≡◌, ℕ, ◌<◌, ◌≤◌, Option, Some, None, List, [], ◌∷◌, ◌++◌, refl, ap, sym, subst, ◌∙◌, arith, append-nil}
use Rattle.tp_sender.specs.declared.transmission.Phase.{Phase}
use Rattle.tp_sender.specs.declared.transmission.Phase.TheVariants.{Start, Bytes, Box, Fc, Gap}
use Rattle.flow_plan.specs.Pace.{Control, answered, answered_by}
use Rattle.flow_plan.proofs.Paces.{is-counted}
use Rattle.tp_sender.specs.State.{Transmission}
use Rattle.std.specs.List.{AllByRecursion}
use Rattle.tp_attempts.specs.Cuts.{Cut}
use Rattle.tp_attempts.specs.Seen.{Seen}
use Rattle.tp_attempts.specs.Walk.{Piece, walk_of}
use Rattle.tp_sender.specs.Table.{in_phase}
use Rattle.tp_unit.specs.declared.shape.Shape.{Shape}
use Rattle.tp_unit.specs.Shape.{address_size}
use Rattle.gw_base.proofs.Lists.{all-push}
use Rattle.sender_law.proofs.transfers.TxPaces.{ComeAfter, Permits, come-after, pace-answered, pace_after, permits-more}
use Rattle.sender_law.proofs.transfers.TxWorld.{Boxed, GoesOn, Lives, Ready, SoFar, Unanswered, Way, World, Unsent, UnderWay, so-on}
use Rattle.sender_law.proofs.transfers.TxMoves.{lives-some, on-way-answered}

-- a flow control comes
abbrev pub answers : Control → Option Transmission → World → World
answers c live w = record w { told = record w.told { answers = w.told.answers ++ c ∷ []; live = live } }

-- none is awaited
abbrev pub IsNotAwaiting : Phase → Type 0
IsNotAwaiting Start = Unit {0}
IsNotAwaiting Bytes = Unit {0}
IsNotAwaiting Box = Unit {0}
IsNotAwaiting Fc = ⊥
IsNotAwaiting (Gap until) = Unit {0}

ready-more : (all : List Control) (c : Control) (clear : ℕ) (pieces : List Piece) (block gap : ℕ) (phase : Phase) (since : ℕ) → ComeAfter pieces (c ∷ []) → IsNotAwaiting phase → Ready all clear pieces block gap phase since → Ready (all ++ c ∷ []) clear pieces block gap phase since
ready-more all c clear pieces block gap Start since after out ready = ready
ready-more all c clear pieces block gap Bytes since after out ready = permits-more all c pieces block gap since after ready
ready-more all c clear pieces block gap Box since after out ready = permits-more all c pieces block gap since after ready
ready-more all c clear pieces block gap Fc since after out ready = absurd out
ready-more all c clear pieces block gap (Gap until) since after out ready = permits-more all c pieces block gap until.0 after ready

way-answered : (shape : Shape) (all : List Control) (c : Control) (clear begin now len number sent block gap : ℕ) (taken : List ℕ) (phase : Phase) (since : ℕ) (going : List (Cut Seen)) → clear ≤ c.tick → IsNotAwaiting phase →
    Way shape all clear begin now len number sent block gap taken phase since going → Way shape (all ++ c ∷ []) clear begin now len number sent block gap taken phase since going
way-answered shape all c clear begin now len number sent block gap taken phase since going le out (Unsent none first bytes cuts early) = Unsent none first bytes cuts early
way-answered shape all c clear begin now len number sent block gap taken phase since going le out (UnderWay cut some cuts count way every ready) =
    UnderWay cut some cuts count (on-way-answered shape all (c ∷ []) clear begin now len taken (walk_of (address_size shape) cut) (le, tt) way) every
    (ready-more all c clear (walk_of (address_size shape) cut).pieces block gap phase since (come-after clear (walk_of (address_size shape) cut).pieces (c ∷ []) way.clear_is (le, tt)) out ready)

abbrev pub NotAwaiting : Option Transmission → Type 0
NotAwaiting None = Unit {0}
NotAwaiting (Some s) = IsNotAwaiting s.phase

answered-lives : (shape : Shape) (w : World) (c : Control) (live : Option Transmission) (going : List (Cut Seen)) → w.clear ≤ c.tick → NotAwaiting live → Lives shape w live going → Lives shape (answers c live w) live going
answered-lives shape w c None going le out lives = lives
answered-lives shape w c (Some s) going le out on = record {
  joined_is = on.joined_is;
  next = on.next;
  before = on.before;
  unfinished = on.unfinished;
  begin = on.begin;
  since = on.since;
  taken = on.taken;
  offered = on.offered;
  read = on.read;
  sent = on.sent;
  box = on.box;
  way = way-answered shape w.told.answers c w.clear s.begin w.told.now s.len s.number s.sent s.block s.gap on.taken s.phase s.since going le out on.way;
}

pub ignored : (shape : Shape) (w : World) (c : Control) → NotAwaiting w.told.live → c.tick ≤ w.told.now → w.clear ≤ c.tick → SoFar shape w → SoFar shape (answers c w.told.live w)
ignored shape w c out le from so =
    so-on shape w (answers c w.told.live w) so
    (record { address = refl; clear = omega arith; answers = record { more = c ∷ []; are = refl; after = (from, tt) }; lens = ([], sym (append-nil w.told.lens)); read = λ number. ([], sym (append-nil (w.told.read number))) })
    (all-push (λ (a : Control). a.tick ≤ w.told.now) w.told.answers c so.past le) so.clear_now refl refl so.lens so.unread (answered-lives shape w c w.told.live so.going from out so.lives)

-- the flow control that is awaited
counted : (all : List Control) (c : Control) (clear : ℕ) (pieces : List Piece) → clear ≤ c.tick → AllByRecursion (λ (piece : Piece). piece.at < clear) pieces → (un : Unanswered all clear pieces) → pace_after (all ++ c ∷ []) pieces ≡ answered_by c un.left c.status
counted all c clear pieces le before un =
    pace-answered all c pieces (come-after clear pieces (c ∷ []) before (le, tt)) ∙ ap (λ p. answered p c) un.is ∙ is-counted un.left un.since c (omega (arith, le, un.before))

ready-continued : (all : List Control) (c : Control) (clear : ℕ) (pieces : List Piece) → c.status ≡ 0 → clear ≤ c.tick → AllByRecursion (λ (piece : Piece). piece.at < clear) pieces → Unanswered all clear pieces → Permits (all ++ c ∷ []) pieces c.block c.gap c.tick
ready-continued all c clear pieces is le before un = record { from = c.tick; is = counted all c clear pieces le before un ∙ ap (λ n. answered_by c un.left n) is; by = omega arith }

ready-waits : (all : List Control) (c : Control) (clear : ℕ) (pieces : List Piece) → c.status ≡ 1 → clear ≤ c.tick → AllByRecursion (λ (piece : Piece). piece.at < clear) pieces → Unanswered all clear pieces → Unanswered (all ++ c ∷ []) clear pieces
ready-waits all c clear pieces is le before un = record { left = un.left; since = c.tick; is = counted all c clear pieces le before un ∙ ap (λ n. answered_by c un.left n) is; before = un.before }

way-continued : (shape : Shape) (all : List Control) (c : Control) (clear begin now len number sent block gap : ℕ) (taken : List ℕ) (was : ℕ) (going : List (Cut Seen)) → c.status ≡ 0 → clear ≤ c.tick →
    Way shape all clear begin now len number sent block gap taken Fc was going → Way shape (all ++ c ∷ []) clear begin now len number sent c.block c.gap taken Bytes c.tick going
way-continued shape all c clear begin now len number sent block gap taken was going is le (Unsent none first bytes cuts early) = absurd early
way-continued shape all c clear begin now len number sent block gap taken was going is le (UnderWay cut some cuts count way every ready) =
    UnderWay cut some cuts count (on-way-answered shape all (c ∷ []) clear begin now len taken (walk_of (address_size shape) cut) (le, tt) way) every (ready-continued all c clear (walk_of (address_size shape) cut).pieces is le way.clear_is ready)

way-waits : (shape : Shape) (all : List Control) (c : Control) (clear begin now len number sent block gap : ℕ) (taken : List ℕ) (was since : ℕ) (going : List (Cut Seen)) → c.status ≡ 1 → clear ≤ c.tick →
    Way shape all clear begin now len number sent block gap taken Fc was going → Way shape (all ++ c ∷ []) clear begin now len number sent block gap taken Fc since going
way-waits shape all c clear begin now len number sent block gap taken was since going is le (Unsent none first bytes cuts early) = absurd early
way-waits shape all c clear begin now len number sent block gap taken was since going is le (UnderWay cut some cuts count way every ready) =
    UnderWay cut some cuts count (on-way-answered shape all (c ∷ []) clear begin now len taken (walk_of (address_size shape) cut) (le, tt) way) every (ready-waits all c clear (walk_of (address_size shape) cut).pieces is le way.clear_is ready)

-- the session by such a block and gap
abbrev pub with_block : (block gap : ℕ) → Transmission → Transmission
with_block block gap s = record s { block = block; gap = gap }

-- the session with that flow control
obeys : (shape : Shape) (w : World) (s : Transmission) (phase : Phase) (block gap : ℕ) (c : Control) → w.told.live ≡ Some s → s.phase ≡ Fc → c.tick ≡ w.told.now → w.clear ≤ c.tick →
    ((offered : List ℕ) → offered ≡ [] → Boxed shape s.len s.sent s.number phase w.box offered) →
    ((taken : List ℕ) (going : List (Cut Seen)) → Way shape w.told.answers w.clear s.begin w.told.now s.len s.number s.sent s.block s.gap taken Fc s.since going →
    Way shape (w.told.answers ++ c ∷ []) w.clear s.begin w.told.now s.len s.number s.sent block gap taken phase w.told.now going) →
    SoFar shape w → SoFar shape (answers c (Some (in_phase phase w.told.now (with_block block gap s))) w)
obeys shape w s phase block gap c is at tick from box way so =
    let on : GoesOn shape w s so.going = lives-some shape w w.told.live s so.going is so.lives in
    let none : on.offered ≡ [] = (let P : Phase → Type 0 = λ p. Boxed shape s.len s.sent s.number p w.box on.offered in subst P at on.box) in
    let old : Way shape w.told.answers w.clear s.begin w.told.now s.len s.number s.sent s.block s.gap on.taken Fc s.since so.going =
    (let P : Phase → Type 0 = λ p. Way shape w.told.answers w.clear s.begin w.told.now s.len s.number s.sent s.block s.gap on.taken p s.since so.going in subst P at on.way) in
    so-on shape w (answers c (Some (in_phase phase w.told.now (with_block block gap s))) w) so
    (record { address = refl; clear = omega arith; answers = record { more = c ∷ []; are = refl; after = (from, tt) }; lens = ([], sym (append-nil w.told.lens)); read = λ number. ([], sym (append-nil (w.told.read number))) })
    (all-push (λ (a : Control). a.tick ≤ w.told.now) w.told.answers c so.past (omega (arith, tick))) so.clear_now refl refl so.lens so.unread
    (record {
      joined_is = on.joined_is;
      next = on.next;
      before = on.before;
      unfinished = on.unfinished;
      begin = on.begin;
      since = omega arith;
      taken = on.taken;
      offered = on.offered;
      read = on.read;
      sent = on.sent;
      box = box on.offered none;
      way = way on.taken so.going old;
    })

pub continues : (shape : Shape) (w : World) (s : Transmission) (c : Control) → w.told.live ≡ Some s → s.phase ≡ Fc → c.tick ≡ w.told.now → c.status ≡ 0 → w.clear ≤ w.told.now → SoFar shape w →
    SoFar shape (answers c (Some (in_phase Bytes w.told.now (with_block c.block c.gap s))) w)
continues shape w s c is at tick status le so =
    obeys shape w s Bytes c.block c.gap c is at tick (omega (arith, tick, le)) (λ offered none. none)
    (λ taken going way. let P : ℕ → Type 0 = λ t. Way shape (w.told.answers ++ c ∷ []) w.clear s.begin w.told.now s.len s.number s.sent c.block c.gap taken Bytes t going in
    subst P tick (way-continued shape w.told.answers c w.clear s.begin w.told.now s.len s.number s.sent s.block s.gap taken s.since going status (omega (arith, tick, le)) way)) so

pub waits : (shape : Shape) (w : World) (s : Transmission) (c : Control) → w.told.live ≡ Some s → s.phase ≡ Fc → c.tick ≡ w.told.now → c.status ≡ 1 → w.clear ≤ w.told.now → SoFar shape w →
    SoFar shape (answers c (Some (in_phase Fc w.told.now s)) w)
waits shape w s c is at tick status le so =
    obeys shape w s Fc s.block s.gap c is at tick (omega (arith, tick, le)) (λ offered none. none)
    (λ taken going way. way-waits shape w.told.answers c w.clear s.begin w.told.now s.len s.number s.sent s.block s.gap taken s.since w.told.now going status (omega (arith, tick, le)) way) so
