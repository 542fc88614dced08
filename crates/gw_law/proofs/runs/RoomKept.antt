-- A receiver's looks at the room count at least what its session's writer knew before: each is as fresh as what stood before its window.
use Rattle.std.proofs.Common.{◌≡◌, ℕ, ◌+◌, ◌≤◌, Option, Some, None, List, [], ◌∷◌, ◌++◌, length, refl, ap, sym, ◌∙◌, subst, arith, append_assoc}
use Rattle.std.specs.Prelude.{slice_get}
use Rattle.gw_base.proofs.Lists.{all-at}
use Rattle.hub_core.proofs.Turns.{calls-append}
use Rattle.hub_core.specs.Floors.{AreFresh, Floors, IsFresh, IsRoomFresh, floors_of}
use Rattle.hub_core.specs.Turns.{Part, calls_by, state_after, turns_of}
use Rattle.hub_core.specs.View.{Asked, Event, Session, View, empty_view, grow, grows, session_at}
use Rattle.receiver_law.specs.Looks.{LooksKeepRoom}
use Rattle.receiver_law.specs.Parts.{EndsReceiving}
use Rattle.receiver_law.specs.RxRun.{IsRxRun, RxRun, turns_in}
use Rattle.tp_receiver.specs.Runs.{HasReceived}
use Rattle.tp_receiver.specs.State.{Reception, RxDid, RxEvent, RxState, RxTurn, RunEnd, rx_new}
use Rattle.tp_receiver.specs.Table.{EndRow, RxStep}
use Rattle.tp_receiver.specs.declared.set.RxSet.{RxSet}
use Rattle.gw_law.specs.Account.{Account}
use Rattle.gw_law.specs.Deeds.{AreWindows, Deeds, LiesWithin, SeesReceived, Window, own_view, view_at}
use Rattle.gw_law.specs.Run.{IsRun}
use Rattle.gw_law.proofs.runs.Before.{AreRising}
use Rattle.gw_law.proofs.runs.PartCalls.{part-calls, window-by}
use Rattle.gw_law.proofs.runs.Parts.{rx-rising}

-- a look counts at least the room that the session's writer knew, at most the buffer, and at least all of it but the cells that were put
pub record IsRoomSeen (s : Session) (cells : ℕ) : Type 0 where
  pub kept : s.room ≤ cells
  pub most : cells ≤ s.size
  pub least : s.size ≤ cells + length s.cells

-- a call does so in a view where it is a look, and each of some calls from a view on
abbrev pub KeepsAt : View → Event → Type 0
KeepsAt v call = (path seq cells readers : ℕ) (s : Session) → call ≡ Asked path seq cells readers → session_at v path seq ≡ Some s → IsRoomSeen s cells

abbrev pub KeepRoom : View → List Event → Type 0
KeepRoom v [] = Unit {0}
KeepRoom v (call ∷ calls) = KeepsAt v call × KeepRoom (grow call v) calls

keep-join : (v : View) (calls more : List Event) → KeepRoom v calls → KeepRoom (grows calls v) more → KeepRoom v (calls ++ more)
keep-join v [] more first later = later
keep-join v (call ∷ calls) more first later = (first.0, keep-join (grow call v) calls more first.1 later)

keep-at : (v : View) (before : List Event) (call : Event) (after : List Event) → KeepRoom v (before ++ call ∷ after) → KeepsAt (grows before v) call
keep-at v [] call after keep = keep.0
keep-at v (first ∷ before) call after keep = keep-at (grow first v) before call after keep.1

-- fresh looks do
fresh-keep : (f : Floors) (v : View) (calls : List Event) → AreFresh f v calls → KeepRoom v calls
fresh-keep f v [] fresh = tt
fresh-keep f v (call ∷ calls) fresh = (
  λ path seq cells readers s is there.
      let F : Event → Type 0 = λ c. IsFresh v f c in
      let look : IsRoomFresh f path seq s cells readers = subst F is fresh.0 s there in
      record { kept = look.kept; most = look.most; least = omega (arith, look.room 0 (omega arith) (λ dest below stays. omega arith)) },
  fresh-keep f (grow call v) calls fresh.1,
)

-- at the run's end a receiver doesn't look
end-keeps : (set : RxSet) (old : RxState) (busy : Option Reception) (m : RxDid) (v : View) → EndRow set old busy m → KeepRoom v m.calls
end-keeps set old None m v row = rw row.calls tt
end-keeps set old (Some busy) m v row = rw row.calls ((λ path seq cells readers s is there. cc), tt)

ends-keep : (run : RxRun) (end : List RxTurn) (turns : List RxTurn) → EndsReceiving run.last end → IsRxRun run → run.end ≡ end → turns ≡ turns_of run.parts → KeepRoom (own_view (calls_by turns)) (calls_by end)
ends-keep run [] turns ends is end_is turns_are = absurd ends
ends-keep run (turn ∷ more) turns ends is end_is turns_are =
    let one : run.end ≡ turn ∷ [] = end_is ∙ ap (λ m. turn ∷ m) ends.2 in
    let step : RxStep run.set (state_after rx_new turns) turn.event turn.did = step-of run turn turns one turns_are is in
    let row : RxStep run.set (state_after rx_new turns) RunEnd turn.did = subst (λ (e : RxEvent). RxStep run.set (state_after rx_new turns) e turn.did) ends.0 step in
    let P : List RxTurn → Type 0 = λ l. KeepRoom (own_view (calls_by turns)) (calls_by (turn ∷ l)) in
    subst P (sym ends.2) (end-keeps run.set (state_after rx_new turns) (state_after rx_new turns).busy turn.did (own_view (calls_by turns)) row)
  where
    step-of : (run : RxRun) (turn : RxTurn) (turns : List RxTurn) → run.end ≡ turn ∷ [] → turns ≡ turns_of run.parts → IsRxRun run → RxStep run.set (state_after rx_new turns) turn.event turn.did
    step-of run turn turns one are is =
        let T : List RxTurn → Type 0 = λ t. HasReceived run.set t in
        (subst T (ap (λ e. e ++ turns_of run.parts) one ∙ ap (λ t. turn ∷ t) (sym are)) is.happened).1

-- the looks of a receiver's parts, each in its window
parts-keep : (groups : List (List ℕ)) (most : ℕ) (d : Deeds) (windows : List Window) (run : RxRun) (place : ℕ) (later parts : List (Part RxTurn)) → AreWindows groups most d windows → slice_get d.receivers place ≡ Some run → AreRising run.parts →
    run.parts ≡ later ++ parts → LiesWithin windows parts → KeepRoom empty_view (calls_by (turns_of parts))
parts-keep groups most d windows run place later [] are there rising split lies = tt
parts-keep groups most d windows run place later (part ∷ earlier) are there rising split lies =
    let rest : run.parts ≡ (later ++ part ∷ []) ++ earlier = split ∙ sym (append_assoc later (part ∷ []) earlier) in
    let before : KeepRoom empty_view (calls_by (turns_of earlier)) = parts-keep groups most d windows run place (later ++ part ∷ []) earlier are there rising rest lies.1 in
    let w : Window = lies.0.0 in
    let by = window-by groups most d windows lies.0.1.0 w are lies.0.1.1 in
    let opening : View = view_at by.earlier in
    let sees : SeesReceived groups opening w run = all-at (SeesReceived groups opening w) d.receivers place run by.is.received_fresh there in
    let fresh = part-calls (floors_of groups opening) w.from w.to run.parts later part earlier sees.0 split rising lies.0.2 lies.0.3 sees.1 sees.2 in
    let K : List Event → Type 0 = λ c. KeepRoom empty_view c in
    subst K (sym (calls-append part.turns (turns_of earlier)))
    (keep-join empty_view (calls_by (turns_of earlier)) (calls_by part.turns) before (fresh-keep (floors_of groups opening) (own_view (calls_by (turns_of earlier))) (calls_by part.turns) fresh))

-- the looks of each receiver of a run
pub room-kept : (a : Account) (d : Deeds) (windows : List Window) (v : View) (place : ℕ) (run : RxRun) → IsRun a d windows v → slice_get d.receivers place ≡ Some run → IsRxRun run → KeepRoom empty_view (calls_by (turns_in run))
room-kept a d windows v place run is there run_is =
    let lies : LiesWithin windows run.parts = all-at (λ (run : RxRun). LiesWithin windows run.parts) d.receivers place run is.received_within there in
    let parts : KeepRoom empty_view (calls_by (turns_of run.parts)) = parts-keep a.plan.groups a.plan.window d windows run place [] run.parts is.windows_are there (rx-rising run.full run.parts run_is.parts_are) refl lies in
    let end : KeepRoom (own_view (calls_by (turns_of run.parts))) (calls_by run.end) = ends-keep run run.end (turns_of run.parts) run_is.ends run_is refl refl in
    let K : List Event → Type 0 = λ c. KeepRoom empty_view c in
    subst K (sym (calls-append run.end (turns_of run.parts))) (keep-join empty_view (calls_by (turns_of run.parts)) (calls_by run.end) parts end)

pub looks-of : (a : Account) (d : Deeds) (windows : List Window) (v : View) (place : ℕ) (run : RxRun) → IsRun a d windows v → slice_get d.receivers place ≡ Some run → IsRxRun run → LooksKeepRoom run.set (calls_by (turns_in run))
looks-of a d windows v place run is there run_is before after seq cells readers s calls at =
    let K : List Event → Type 0 = λ c. KeepRoom empty_view c in
    (keep-at empty_view before (Asked run.set.path.0 seq cells readers) after (subst K calls (room-kept a d windows v place run is there run_is)) run.set.path.0 seq cells readers s refl at).kept
