-- Each step keeps to what holds of a reception between two steps: its block lasts while a frame is awaited, and nothing else lies in the box.
use Rattle.std.proofs.Common.{◌≡◌, ◌≢◌, ℕ, ◌+◌, ◌-◌, Bool, true, false, Option, Some, None, List, refl, arith, ap, sym, ◌∙◌, subst}
use Rattle.std.specs.Prelude.{zero, suc}
use Rattle.hub_core.specs.declared.record.RxWait.TheVariants.{Box, Room, Cf}
use Rattle.hub_core.specs.declared.record.SessionResult.{SessionResult}
use Rattle.tp_receiver.specs.declared.set.RxSet.{RxSet}
use Rattle.tp_receiver.specs.State.{IsConsistent, IsGoingOn, Reception, RxDid, RxEvent, RxState, Came, Timer, FcLeft, RunEnd, busy_with, idle}
use Rattle.tp_receiver.specs.Table.{Answers, Begins, Carries, ConsecutiveRow, Continues, EndRow, Ends, FirstRow, Grants, LeftRow, Quiet, RxStep, SendsControl, Starts, TimerRow, awaited_after, gone_on, one_less}
use Rattle.tp_receiver.specs.Table.{NoneReads, SomeRead, All, Block, Wait, TooManyWaits, NoBuffer, Completes, NoBufferFirst, Opened, NoneReadsOn, TooLittleRoom, Adds, EndsBlock, Fills, TooLong, TooShort, WrongNumber, RightNumber, InTime, LiesTooLong, LooksAgain, TooLate, NoneLies, MayLie, Revoked, FromBox, NotAwaited}
use Rattle.tp_receiver.proofs.Made.{passed}
use Rattle.tp_unit.specs.Unit.{Meaning, SingleFrame, FirstFrame, ConsecutiveFrame, FlowControl, NoUnit}

-- where no reception is in progress, and where one is
idle-so : (state : RxState) → state.busy ≡ None → IsConsistent state
idle-so state was busy is = let no : None ≡ Some busy = sym was ∙ is in cc

busy-so : (state : RxState) (busy : Reception) → state.busy ≡ Some busy → IsGoingOn busy state.refusing → IsConsistent state
busy-so state busy was so = passed state busy (λ (b : Reception). IsGoingOn b state.refusing) was so

-- a row that says so of its new state
by : (m : RxDid) (state : RxState) → m.new ≡ state → IsConsistent state → IsConsistent m.new
by m state is so = subst IsConsistent (sym is) so

gone : (m : RxDid) → m.new.busy ≡ None → IsConsistent m.new
gone m is = idle-so m.new is

quiet : (old : RxState) (m : RxDid) → IsConsistent old → Quiet old m → IsConsistent m.new
quiet old m so row = by m old row.new so

quiet-busy : (old : RxState) (busy : Reception) (m : RxDid) → old.busy ≡ Some busy → IsConsistent old → Quiet (busy_with (idle old) busy) m → IsConsistent m.new
quiet-busy old busy m was so row = by m old (row.new ∙ sym (ap (λ b. record old { busy = b }) was)) so

ends : (set : RxSet) (old : RxState) (busy : Reception) (result : SessionResult) (m : RxDid) → Ends set (idle old) busy result m → IsConsistent m.new
ends set old busy result m row = by m (idle old) row.new (idle-so (idle old) refl)

-- a flow control that is put into the box
sends : (old : RxState) (busy : Reception) (control : Meaning) (left : Option ℕ) (waits : ℕ) (m : RxDid) → SendsControl old busy control left waits m → IsConsistent m.new
sends old busy control left waits m row =
    let boxed : Reception = record busy { wait = Box; since = m.tick; left = left; waits = waits } in
    by m (record old { busy = Some boxed; refusing = None }) row.new (busy-so (record old { busy = Some boxed; refusing = None }) boxed refl (record { frames = λ is. cc; pause = λ is. cc; alone = refl }))

answers : (set : RxSet) (old : RxState) (busy : Reception) (room : ℕ) (m : RxDid) → Answers set (idle old) busy room m → IsConsistent m.new
answers set old busy room m (All is row) = sends (idle old) busy _ _ _ m row
answers set old busy room m (Block frames is row) = sends (idle old) busy _ _ _ m row
answers set old busy room m (Wait is below row) = sends (idle old) busy _ _ _ m row
answers set old busy room m (TooManyWaits is most row) = ends set old busy _ m row

grants : (set : RxSet) (old : RxState) (busy : Reception) (m : RxDid) → Grants set (idle old) busy m → IsConsistent m.new
grants set old busy m (NoneReads room readers unread row) = ends set old busy _ (record m { calls = row.rest }) row.row
grants set old busy m (SomeRead room readers some row) = answers set old busy room (record m { calls = row.rest }) row.row

-- a start, where no reception is in progress
begins : (set : RxSet) (size : ℕ) (meaning : Meaning) (old : RxState) (m : RxDid) → Begins set (idle old) size meaning m → IsConsistent m.new
begins set size (SingleFrame bytes) old m (NoBuffer row) = gone m (ap (λ (s : RxState). s.busy) row.new)
begins set size (SingleFrame bytes) old m (Completes opened opening row rest) = gone m (ap (λ (s : RxState). s.busy) rest.row.new)
begins set size (FirstFrame len bytes) old m (NoBufferFirst more row) = gone m (ap (λ (s : RxState). s.busy) row.new)
begins set size (FirstFrame len bytes) old m (Opened more opened opening row rest) = grants set (record old { next = old.next + 1; seq = old.seq + 1 }) _ (record m { calls = rest.rest }) rest.row
begins set size (ConsecutiveFrame number bytes) old m row = absurd row
begins set size (FlowControl status block_size separation) old m row = absurd row
begins set size (NoUnit why) old m row = absurd row

starts : (set : RxSet) (size : ℕ) (meaning : Meaning) (old : RxState) (m : RxDid) → Starts set old size meaning m → IsConsistent m.new
starts set size meaning old m row = subst IsConsistent (sym row.new) (begins set size meaning old row.later row.begins)

-- a frame of a block that goes on
less-frames : (left : Option ℕ) → left ≢ Some 1 → left ≢ Some 0 → one_less left ≢ Some 0
less-frames None not_one not_zero is = cc
less-frames (Some zero) not_one not_zero is = not_zero refl
less-frames (Some (suc zero)) not_one not_zero is = not_one refl
less-frames (Some (suc (suc frames))) not_one not_zero is = let e : suc (suc frames) - 1 ≡ 0 = cc in absurd (omega (arith, e))

goes-on : (old : RxState) (busy : Reception) (more tick : ℕ) → busy.left ≢ Some 1 → IsGoingOn busy old.refusing → IsConsistent (busy_with (idle old) (gone_on busy more tick))
goes-on old busy more tick not_one so =
    busy-so (busy_with (idle old) (gone_on busy more tick)) (gone_on busy more tick) refl (record { frames = λ cf. less-frames busy.left not_one (so.frames cf); pause = λ room. ap one_less (so.pause room); alone = so.alone })

carries : (set : RxSet) (old : RxState) (busy : Reception) (bytes : List ℕ) (m : RxDid) → IsGoingOn busy old.refusing → Carries set (idle old) busy bytes m → IsConsistent m.new
carries set old busy bytes m so (NoneReadsOn room readers unread row) = ends set old busy _ (record m { calls = row.rest }) row.row
carries set old busy bytes m so (TooLittleRoom room readers need some need_is little row) = ends set old busy _ (record m { calls = row.rest }) row.row
carries set old busy bytes m so (Adds room readers cells some fits packed not_one row) = by m _ row.row.row.new (goes-on old busy _ m.tick not_one so)
carries set old busy bytes m so (EndsBlock room readers cells some fits packed one row) = grants set old _ (record m { calls = row.row.rest }) row.row.row.grants
carries set old busy bytes m so (Fills room readers cells some fits packed full row) = ends set old _ _ (record m { calls = row.row.rest }) row.row.row

continues : (set : RxSet) (size number : ℕ) (bytes : List ℕ) (old : RxState) (busy : Reception) (m : RxDid) → old.busy ≡ Some busy → IsConsistent old → Continues set (idle old) busy size number bytes m → IsConsistent m.new
continues set size number bytes old busy m was so (TooLong long row) = quiet-busy old busy m was so row
continues set size number bytes old busy m was so (TooShort short row) = quiet-busy old busy m was so row
continues set size number bytes old busy m was so (WrongNumber looked other row) = ends set old busy _ m row
continues set size number bytes old busy m was so (RightNumber looked right row) = carries set old busy _ m (so busy was) row

consecutive : (set : RxSet) (size number : ℕ) (bytes : List ℕ) (old : RxState) (busy : Option Reception) (m : RxDid) → old.busy ≡ busy → IsConsistent old → ConsecutiveRow set old size number bytes busy m → IsConsistent m.new
consecutive set size number bytes old None m was so row = quiet old m so row
consecutive set size number bytes old (Some busy) m was so row = continues set size number bytes old busy m was so row

first : (set : RxSet) (size len : ℕ) (bytes : List ℕ) (old : RxState) (functional : Bool) (m : RxDid) → IsConsistent old → FirstRow set old size (FirstFrame len bytes) functional m → IsConsistent m.new
first set size len bytes old true m so row = quiet old m so row
first set size len bytes old false m so row = starts set size (FirstFrame len bytes) old m row

frame : (set : RxSet) (size : ℕ) (meaning : Meaning) (old : RxState) (m : RxDid) → IsConsistent old → RxStep set old (Came size meaning) m → IsConsistent m.new
frame set size (SingleFrame bytes) old m so row = starts set size (SingleFrame bytes) old m row
frame set size (FirstFrame len bytes) old m so row = first set size len bytes old set.functional m so row
frame set size (ConsecutiveFrame number bytes) old m so row = consecutive set size number bytes old old.busy m refl so row
frame set size (FlowControl status block_size separation) old m so row = quiet old m so row
frame set size (NoUnit why) old m so row = quiet old m so row

-- a flow control that refused a message isn't in the box any more
forgets : (old : RxState) (m : RxDid) → old.busy ≡ None → m.new ≡ record old { refusing = None } → IsConsistent m.new
forgets old m was new = by m (record old { refusing = None }) new (idle-so (record old { refusing = None }) was)

times : (set : RxSet) (old : RxState) (busy : Option Reception) (m : RxDid) → old.busy ≡ busy → IsConsistent old → TimerRow set old busy m → IsConsistent m.new
times set old None m was so (NoneLies lies row) = quiet old m so row
times set old None m was so (MayLie since lies early row) = quiet old m so row
times set old None m was so (Revoked since lies late row) = forgets old m was row.new
times set old (Some busy) m was so (InTime early row) = quiet-busy old busy m was so row
times set old (Some busy) m was so (LiesTooLong late row) = ends set old busy _ m row
times set old (Some busy) m was so (LooksAgain late row) = grants set old busy m row
times set old (Some busy) m was so (TooLate late row) = ends set old busy _ m row

-- what is awaited once a flow control left
awaits-frames : (left : Option ℕ) → awaited_after left ≡ Cf → left ≢ Some 0
awaits-frames None is same = cc
awaits-frames (Some zero) is same = cc
awaits-frames (Some (suc frames)) is same = cc

awaits-room : (left : Option ℕ) → awaited_after left ≡ Room → left ≡ Some 0
awaits-room None is = cc
awaits-room (Some zero) is = refl
awaits-room (Some (suc frames)) is = cc

leaves : (old : RxState) (busy : Option Reception) (m : RxDid) → old.busy ≡ busy → IsConsistent old → LeftRow old busy m → IsConsistent m.new
leaves old None m was so row = forgets old m was row.new
leaves old (Some busy) m was so (FromBox box row) =
    let on : Reception = record busy { wait = awaited_after busy.left; since = m.tick } in
    by m (busy_with (idle old) on) row.new (busy-so (busy_with (idle old) on) on refl (record { frames = awaits-frames busy.left; pause = awaits-room busy.left; alone = (so busy was).alone }))
leaves old (Some busy) m was so (NotAwaited other row) = quiet-busy old busy m was so row

run-ends : (set : RxSet) (old : RxState) (busy : Option Reception) (m : RxDid) → IsConsistent old → EndRow set old busy m → IsConsistent m.new
run-ends set old None m so row = quiet old m so row
run-ends set old (Some busy) m so row = ends set old busy _ m row

pub consistent-step : (set : RxSet) (old : RxState) (event : RxEvent) (m : RxDid) → IsConsistent old → RxStep set old event m → IsConsistent m.new
consistent-step set old (Came size meaning) m so row = frame set size meaning old m so row
consistent-step set old Timer m so row = times set old old.busy m refl so row
consistent-step set old FcLeft m so row = leaves old old.busy m refl so row
consistent-step set old RunEnd m so row = run-ends set old old.busy m so row
