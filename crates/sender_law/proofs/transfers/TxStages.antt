-- All so far, save what is left of an event: where a step of a sender stands between two effects.
use Rattle.std.proofs.Common.{◌≡◌, ◌≢◌, ℕ, ◌≤◌, Option, Some, None, List, [], ◌∷◌, ◌++◌, map, true, false, refl, ap, sym, subst, ◌∙◌, arith, append-nil}
use Rattle.std.specs.Prelude.{◌==◌}
use Rattle.std.proofs.Math.Path.{fun_ext}
use Rattle.std.proofs.lemmas.Bool.Decides.{nat_tests}
use Rattle.gw_base.specs.Cell.{bytes_of}
use Rattle.hub_core.specs.View.{Event, Read}
use Rattle.hub_core.specs.declared.port.Seen.{Seen as Look}
use Rattle.hub_core.specs.declared.record.DestRecord.{DestRecord}
use Rattle.tp_attempts.specs.Seen.{Seen}
use Rattle.tp_sender.specs.declared.event.TxEvent.{TxEvent}
use Rattle.tp_sender.specs.declared.event.TxEvent.TheVariants.{Turn, Fc as CameFc, Left, RunEnd}
use Rattle.tp_sender.specs.declared.set.TxSet.{TxSet}
use Rattle.tp_sender.specs.Effects.{AsksForOne, TxStage, TxDone, done_by}
use Rattle.tp_sender.specs.Effects.{Reads}
use Rattle.flow_plan.specs.Pace.{Control}
use Rattle.tp_unit.specs.Box.{box_then}
use Rattle.tp_sender.specs.Runs.{after_left, controls_in, box_once, cells_in, lens_in, written_at}
use Rattle.tp_sender.specs.State.{Transmission}
use Rattle.tp_sender.proofs.Made.{amid}
use Rattle.tp_unit.specs.declared.shape.Shape.{Shape}
use Rattle.tp_unit.specs.Shape.{address_size}
use Rattle.tp_unit.specs.Unit.{Meaning}
use Rattle.sender_law.specs.Pacing.{controls_of}
use Rattle.sender_law.specs.Transfer.{seen_of}
use Rattle.sender_law.proofs.transfers.TxAnswers.{answers}
use Rattle.sender_law.proofs.transfers.TxMoves.{is-read, lives-some, reads}
use Rattle.sender_law.proofs.transfers.TxWorld.{GoesOn, SoFar, World}

-- worlds of equal parts
parts-so : (shape : Shape) (v : World) (address : ℕ) (frames : List Seen) (answers : List Control) (lens : List ℕ) (read : ℕ → List ℕ) (records : List DestRecord) (live : Option Transmission) (now : ℕ) (box : Option Meaning) (clear next : ℕ) →
    v.told.address ≡ address → v.told.frames ≡ frames → v.told.answers ≡ answers → v.told.lens ≡ lens → ((number : ℕ) → v.told.read number ≡ read number) → v.told.records ≡ records → v.told.live ≡ live → v.told.now ≡ now → v.box ≡ box → v.clear ≡ clear → v.next ≡ next →
    SoFar shape v → SoFar shape (record { told = record { address = address; frames = frames; answers = answers; lens = lens; read = read; records = records; live = live; now = now }; box = box; clear = clear; next = next })
parts-so shape v address frames answers lens read records live now box clear next a f w l r e i n b c x so = rw (← a, ← f, ← w, ← l, ← fun_ext r, ← e, ← i, ← n, ← b, ← c, ← x) so

pub same-so : (shape : Shape) (v w : World) → v.told.address ≡ w.told.address → v.told.frames ≡ w.told.frames → v.told.answers ≡ w.told.answers → v.told.lens ≡ w.told.lens → ((number : ℕ) → v.told.read number ≡ w.told.read number) → v.told.records ≡ w.told.records →
    v.told.live ≡ w.told.live → v.told.now ≡ w.told.now → v.box ≡ w.box → v.clear ≡ w.clear → v.next ≡ w.next → SoFar shape v → SoFar shape w
same-so shape v w a f n l r e i o b c x so = parts-so shape v w.told.address w.told.frames w.told.answers w.told.lens w.told.read w.told.records w.told.live w.told.now w.box w.clear w.next a f n l r e i o b c x so

-- what an event adds by itself: a frame that left, a flow control that came
abbrev pub event_in : TxSet → (tick : ℕ) → TxEvent → World → World
event_in set tick event w = record w {
  told = record w.told { frames = w.told.frames ++ map (seen_of (address_size set.shape)) (written_at set.shape event tick w.box); answers = w.told.answers ++ controls_of set.period (controls_in tick event) };
  box = box_once event w.box;
  clear = after_left event tick w.clear;
}

-- what is done adds its calls and records
abbrev pub done_in : TxDone → World → World
done_in d w = record w {
  told = record w.told { lens = w.told.lens ++ lens_in d.calls; read = λ number. w.told.read number ++ bytes_of (cells_in number d.calls); records = w.told.records ++ d.records; live = d.new.live };
  box = box_then d.act w.box;
  next = d.new.next;
}

-- the order of work: flow controls come before frames leave
abbrev pub IsTimely : TxEvent → (tick clear : ℕ) → Type 0
IsTimely Turn tick clear = Unit {0}
IsTimely (CameFc fs bs st) tick clear = clear ≤ tick
IsTimely Left tick clear = Unit {0}
IsTimely RunEnd tick clear = Unit {0}

-- all so far but the event, which is told and not dealt with
pub record IsTold (set : TxSet) (tick : ℕ) (event : TxEvent) (w : World) : Type 0 where
  pub before : World
  pub is : w ≡ event_in set tick event before
  pub timely : IsTimely event tick before.clear
  pub so : SoFar set.shape before

-- all so far, save what is left of an event
abbrev pub SoFarBut : TxSet → (tick : ℕ) → Option TxEvent → World → Type 0
SoFarBut set tick None w = SoFar set.shape w
SoFarBut set tick (Some event) w = IsTold set tick event w

-- the stage of a step and the world are at one
pub record IsAt (tick : ℕ) (p : TxStage) (w : World) : Type 0 where
  pub live : w.told.live ≡ p.live
  pub next : w.next ≡ p.next
  pub now : w.told.now ≡ tick

-- what is done leads on
abbrev pub LeadsOn : TxSet → (tick : ℕ) → TxStage → TxDone → Type 0
LeadsOn set tick p d = (w : World) → IsAt tick p w → SoFarBut set tick p.event w → SoFarBut set tick d.new.event (done_in d w)

-- an event that adds nothing
pub quiet : (set : TxSet) (tick : ℕ) (event : TxEvent) (v : World) → AsksForOne event → SoFar set.shape v → SoFar set.shape (event_in set tick event v)
quiet set tick Turn v asks so = same-so set.shape v (event_in set tick Turn v) refl (sym (append-nil v.told.frames)) (sym (append-nil v.told.answers)) refl (λ number. refl) refl refl refl refl refl refl so
quiet set tick (CameFc fs bs st) v asks so = absurd asks
quiet set tick Left v asks so = absurd asks
quiet set tick RunEnd v asks so = same-so set.shape v (event_in set tick RunEnd v) refl (sym (append-nil v.told.frames)) (sym (append-nil v.told.answers)) refl (λ number. refl) refl refl refl refl refl refl so

pub asked : (set : TxSet) (tick : ℕ) (event : TxEvent) (w : World) → AsksForOne event → IsTold set tick event w → SoFar set.shape w
asked set tick event w asks told = let P : World → Type 0 = λ v. SoFar set.shape v in subst P (sym told.is) (quiet set tick event told.before asks told.so)

pub in-turn : (set : TxSet) (tick : ℕ) (event : TxEvent) (w : World) → event ≡ Turn → IsTold set tick event w → SoFar set.shape w
in-turn set tick event w is told = asked set tick event w (rw is tt) told

pub told-anew : (set : TxSet) (tick : ℕ) (event : TxEvent) (w : World) → AsksForOne event → SoFar set.shape w → IsTold set tick event w
told-anew set tick Turn w asks so = record { before = w; is = rw (append-nil w.told.frames, append-nil w.told.answers) refl; timely = tt; so = so }
told-anew set tick (CameFc fs bs st) w asks so = absurd asks
told-anew set tick Left w asks so = absurd asks
told-anew set tick RunEnd w asks so = record { before = w; is = rw (append-nil w.told.frames, append-nil w.told.answers) refl; timely = tt; so = so }

pub turn-anew : (set : TxSet) (tick : ℕ) (event : TxEvent) (w : World) → event ≡ Turn → SoFar set.shape w → IsTold set tick event w
turn-anew set tick event w is so = told-anew set tick event w (rw is tt) so

-- calls that join no session and read no cells
pub nothing-more : (w : World) (number : ℕ) → w.told.read number ≡ w.told.read number ++ bytes_of []
nothing-more w number = sym (append-nil (w.told.read number))

-- cells of the session with that number alone
pub record AreOf (number : ℕ) (cells : List ℕ) (calls : List Event) : Type 0 where
  pub lens : lens_in calls ≡ []
  pub own : cells_in number calls ≡ cells
  pub others : (other : ℕ) → other ≢ number → cells_in other calls ≡ []

are-read : (path dest number : ℕ) (cells : List ℕ) → AreOf number cells (map (Read path dest number) cells)
are-read path dest number [] = record { lens = refl; own = refl; others = λ other ne. refl }
are-read path dest number (cell ∷ cells) =
    let later : AreOf number cells (map (Read path dest number) cells) = are-read path dest number cells in
    let own : (number == number) ≡ true = grind (arith, nat_tests) in
    record {
      lens = later.lens;
      own = rw (own, later.own) refl;
      others = λ other ne. let no_own : (number == other) ≡ false = grind (arith, nat_tests, ne) in rw (no_own, later.others other ne) refl;
    }

pub reads-so : (set : TxSet) (tick : ℕ) (event : TxEvent) (look : Option Look) (next : ℕ) (s : Transmission) (cells : List ℕ) (w : World) → w.told.live ≡ Some s → w.next ≡ next → SoFar set.shape w → SoFar set.shape (done_in (done_by set tick (amid event look next (Some s)) (Reads s cells)) w)
reads-so set tick event look next s cells w live same so =
    let calls : List Event = map (Read set.path.0 set.dest.0 s.seq) cells in
    let of : AreOf s.seq cells calls = are-read set.path.0 set.dest.0 s.seq cells in
    let on : GoesOn set.shape w s so.going = lives-some set.shape w w.told.live s so.going live so.lives in
    let read : ℕ → List ℕ = λ number. w.told.read number ++ bytes_of (cells_in number calls) in
    same-so set.shape (reads read cells s w) (done_in (done_by set tick (amid event look next (Some s)) (Reads s cells)) w) refl refl refl (sym (append-nil w.told.lens) ∙ ap (λ l. w.told.lens ++ l) (sym of.lens)) (λ number. refl) (sym (append-nil w.told.records)) refl refl refl refl same
    (is-read set.shape w s cells read live (λ number. (bytes_of (cells_in number calls), refl)) (ap (λ c. w.told.read s.seq ++ bytes_of c) of.own)
    (λ number le.
    let ne : number ≢ s.seq = omega (arith, on.next, le) in
    ap (λ l. l ++ bytes_of (cells_in number calls)) (so.unread number le) ∙ ap bytes_of (of.others number ne)) so)

-- the same world but for what a deed without calls and records changes
pub alone-so : (shape : Shape) (v w : World) (d : TxDone) → d.calls ≡ [] → d.records ≡ [] → v.told.address ≡ w.told.address → v.told.frames ≡ w.told.frames → v.told.answers ≡ w.told.answers → v.told.lens ≡ w.told.lens → ((number : ℕ) → v.told.read number ≡ w.told.read number) → v.told.records ≡ w.told.records →
    v.told.live ≡ d.new.live → v.told.now ≡ w.told.now → v.box ≡ box_then d.act w.box → v.clear ≡ w.clear → v.next ≡ d.new.next → SoFar shape v → SoFar shape (done_in d w)
alone-so shape v w d silent none a f n l r e i o b c x so =
    same-so shape v (done_in d w) a f n (l ∙ sym (append-nil w.told.lens) ∙ ap (λ k. w.told.lens ++ lens_in k) (sym silent)) (λ number. r number ∙ nothing-more w number ∙ ap (λ k. w.told.read number ++ bytes_of (cells_in number k)) (sym silent))
    (e ∙ sym (append-nil w.told.records) ∙ ap (λ k. w.told.records ++ k) (sym none)) i o b c x so
