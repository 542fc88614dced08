-- What stood before a window of a run: the view after the windows before it, with all that the machines did below its first tick, and
-- calls of the window no older than that.
use Rattle.std.proofs.Common.{◌≡◌, ℕ, ◌<◌, ◌≤◌, zero, suc, inl, inr, true, false, Some, List, [], ◌∷◌, ◌++◌, refl, ap, sym, ◌∙◌, subst, arith, append_assoc, cond}
use Rattle.std.specs.Prelude.{nat_lt, slice_get}
use Rattle.std.proofs.lemmas.Bool.{cases_lt}
use Rattle.std.proofs.lemmas.Bool.Decides.{nat_tests}
use Rattle.std.proofs.lemmas.List.{append_cancel_left}
use Rattle.gw_base.proofs.Lists.{all-at, all-split}
use Rattle.hub_core.proofs.Growing.{grows-append}
use Rattle.hub_core.proofs.Turns.{calls-append}
use Rattle.hub_core.specs.Floors.{AreFresh, Floors, IsFresh, floors_of}
use Rattle.hub_core.specs.Turns.{Part, calls_by, tick_after, turns_of}
use Rattle.hub_core.specs.View.{Event, View, empty_view, grow, grows}
use Rattle.sender_law.specs.Starts.{IsAmong}
use Rattle.tp_sender.specs.State.{TxTurn}
use Rattle.gw_law.specs.Deeds.{AreWindows, IsWindow, LiesIn, LiesWithin, SeesSent, Window, before, over_at, own_view, view_at}
use Rattle.gw_law.proofs.runs.Barriers.{Pair, far-at, far-none, lies-below, lies-earlier, over-all}
use Rattle.gw_law.proofs.runs.Before.{AreRising, InTicks, front-of, turns-append}
use Rattle.gw_law.proofs.runs.Meetings.{AsFar}
use Rattle.gw_law.proofs.runs.PartCalls.{BeforeIt, part-calls, window-by}
use Rattle.gw_law.proofs.runs.Parts.{tx-rising}

-- both parties at the opening of the next window
pub far-opening : (p : Pair) (earlier : List Window) → AreWindows p.groups p.most p.d earlier → AsFar p.rx.set p.tx.set (turns_of (before (over_at earlier) p.rx.parts)) (turns_of (before (over_at earlier) p.tx.parts)) (view_at earlier)
far-opening p [] are = far-none p
far-opening p (w ∷ earlier) are = far-at p (view_at earlier) w are.0

-- the window of a tick
pub record Opening (p : Pair) (tick : ℕ) : Type 0 where
  pub w : Window
  pub from : w.from ≤ tick
  pub to : tick < w.to
  pub opens : BeforeIt p.groups p.most p.d p.windows w

pub opening : (p : Pair) (tick : ℕ) → LiesIn p.windows tick → Opening p tick
opening p tick lies = record { w = lies.0; from = lies.2; to = lies.3; opens = window-by p.groups p.most p.d p.windows lies.1.0 lies.0 p.are lies.1.1 }

-- parts that don't lie before the window lie in it, or after it
pub none-before : {T : Type 0} (p : Pair) (tick : ℕ) (o : Opening p tick) (parts : List (Part T)) → LiesWithin p.windows parts → InTicks (λ (t : ℕ). over_at o.opens.earlier ≤ t) parts → InTicks (λ (t : ℕ). o.w.from ≤ t) parts
none-before p tick o [] lies late = tt
none-before p tick o (part ∷ parts) lies late = (
  elim (cases_lt part.tick o.w.from) [
    | inl below ↦ absurd (omega (arith, late.0, lies-below p o.opens.earlier part.tick o.opens.are (o.opens.lies part.tick below lies.0)))
    | inr from ↦ from
  ],
  none-before p tick o parts lies.1 late.1,
)

-- each of fresh calls is fresh
fresh-at : (f : Floors) (v : View) (earlier : List Event) (call : Event) (later : List Event) → AreFresh f v (earlier ++ call ∷ later) → IsFresh (grows earlier v) f call
fresh-at f v [] call later fresh = fresh.0
fresh-at f v (first ∷ earlier) call later fresh = fresh-at f (grow first v) earlier call later fresh.1

-- the calls of the sender in a part of the window are no older than what stood before the window
calls-fresh : (p : Pair) (tick : ℕ) (o : Opening p tick) (later : List (Part TxTurn)) (part : Part TxTurn) (earlier : List (Part TxTurn)) → p.tx.parts ≡ later ++ part ∷ earlier → part.tick ≡ tick →
    AreFresh (floors_of p.groups (view_at o.opens.earlier)) (own_view (calls_by (turns_of earlier))) (calls_by part.turns)
calls-fresh p tick o later part earlier are at =
    let sees : SeesSent p.groups (view_at o.opens.earlier) o.w p.tx = all-at (SeesSent p.groups (view_at o.opens.earlier) o.w) p.d.senders p.tx_at p.tx o.opens.is.sent_fresh p.tx_there in
    part-calls (floors_of p.groups (view_at o.opens.earlier)) o.w.from o.w.to p.tx.parts later part earlier sees.0 are (tx-rising p.tx.full p.tx.parts p.tx_run.parts_are) (omega (arith, at, o.from)) (omega (arith, at, o.to)) sees.1 sees.2

-- one of them
pub sent-fresh : (p : Pair) (tick : ℕ) (o : Opening p tick) (later : List (Part TxTurn)) (part : Part TxTurn) (earlier : List (Part TxTurn)) (call : Event) → p.tx.parts ≡ later ++ part ∷ earlier → part.tick ≡ tick → IsAmong call (calls_by part.turns) → (v : View) × IsFresh v (floors_of p.groups (view_at o.opens.earlier)) call
sent-fresh p tick o later part earlier call are at among =
    let f : Floors = floors_of p.groups (view_at o.opens.earlier) in
    let v : View = own_view (calls_by (turns_of earlier)) in
    let F : List Event → Type 0 = λ c. AreFresh f v c in
    (grows among.before v, fresh-at f v among.before call among.after (subst F among.are (calls-fresh p tick o later part earlier are at)))

-- and all of each part
pub part-fresh : (p : Pair) (later : List (Part TxTurn)) (part : Part TxTurn) (earlier : List (Part TxTurn)) → p.tx.parts ≡ later ++ part ∷ earlier → (f : Floors) × AreFresh f (own_view (calls_by (turns_of earlier))) (calls_by part.turns)
part-fresh p later part earlier are =
    let W : List (Part TxTurn) → Type 0 = λ l. LiesWithin p.windows l in
    let lies : LiesIn p.windows part.tick = (all-split (λ (part : Part TxTurn). LiesIn p.windows part.tick) later earlier part (subst W are p.tx_within)).0 in
    let o : Opening p part.tick = opening p part.tick lies in
    (floors_of p.groups (view_at o.opens.earlier), calls-fresh p part.tick o later part earlier are refl)
