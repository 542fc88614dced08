-- Each row of a receiver's table is a list of effects: the one walk over the rows.
use Rattle.std.proofs.Common.{◌≡◌, ◌≢◌, ◌⊎◌, inl, inr, ℕ, ◌+◌, ◌<◌, ◌≤◌, Bool, true, false, Option, Some, None, List, [], ◌∷◌, ◌++◌, length, take, refl, ap, sym, ◌∙◌, subst, arith, append-nil}
use Rattle.std.specs.Prelude.{zero, suc}
use Rattle.cell_stream.specs.Packing.{IsPacked}
use Rattle.flow_plan.specs.declared.block.Grant.{Grant}
use Rattle.flow_plan.specs.declared.block.Grant.TheVariants.{All as AllFrames, Block as BlockOf, Wait as NoFrames}
use Rattle.hub_core.specs.View.{Event, Refused}
use Rattle.hub_core.specs.declared.port.Room.{Room as Look}
use Rattle.hub_core.specs.declared.record.OpenedAt.{OpenedAt}
use Rattle.hub_core.specs.declared.record.SessionResult.{SessionResult}
use Rattle.hub_core.specs.declared.record.SessionResult.TheVariants.{Whole, WrongSn, RxTimeout, Restarted, NoRoom, WaitOver, NoReaders, RunEnd as EndOfRun}
use Rattle.hub_core.specs.declared.record.RxLimit.TheVariants.{Box as BoxLimit, Cf as CfLimit}
use Rattle.hub_core.specs.declared.record.RxWait.{RxWait}
use Rattle.hub_core.specs.declared.record.RxWait.TheVariants.{Box, Room, Cf}
use Rattle.tp_attempts.specs.Seen.{bytes_of, is_start, len_of}
use Rattle.tp_receiver.specs.Grant.{MayGrant, control_of, grant_in, left_of, overflow, waits_of}
use Rattle.tp_receiver.specs.declared.set.RxSet.{RxSet}
use Rattle.tp_receiver.specs.State.{Reception, RxDid, RxEvent, RxState, Came, Timer, FcLeft, RunEnd, busy_with, idle}
use Rattle.tp_receiver.specs.Table.{Begins, BeginsSingle, Carries, ConsecutiveRow, Continues, EndRow, FirstRow, Interrupts, LeftRow, IsLookedAt, Overflows, Quiet, RxStep, SendsControl, Starts, TimerRow, after_opening, asks, awaited_after, begun, due, gone_on, later_act, one_less, puts, refused, revoking}
use Rattle.tp_receiver.specs.Table.{Answers, Grants, Ends as EndsRow, Forgets as ForgetsRow, Opens as OpensRow, NoneReads, SomeRead, All, Block, Wait, TooManyWaits, NoBuffer, Completes, NoBufferFirst, Opened, NoneReadsOn, TooLittleRoom, Adds, EndsBlock, Fills, TooLong, TooShort, WrongNumber, RightNumber, InTime, LiesTooLong, LooksAgain, TooLate, NoneLies, MayLie, Revoked, FromBox, NotAwaited}
use Rattle.tp_receiver.specs.Effects.{AreEffects, AfterBlock, AfterPause, AfterStart, Because, EndsAt, HasAsked, HasLeft, IsAskedFor, IsForgotten, IsMade, IsUnused, LayTooLong, MayLook, RxDone, RxEffect, RxStage, at_stage, first_stage, refusal_act, refusing_since, used_after, Ends, Forgets, Looks, Opens, Puts, Refuses, Waits}
use Rattle.tp_unit.specs.Unit.{BoxMeaning, Keeps, Offers, Revokes, Meaning, SingleFrame, FirstFrame, ConsecutiveFrame, FlowControl, NoUnit}
use Rattle.tp_receiver.proofs.Composing.{later-keeps}

-- what a step does in one effect
abbrev pub done_by : RxDid → RxStage → RxDone
done_by m new = record { calls = m.calls; act = m.act; records = m.records; new = new }

-- no effect
made-none : (set : RxSet) (event : RxEvent) (old : RxStage) (m : RxDid) → m.calls ≡ [] → m.act ≡ Keeps → m.records ≡ [] → m.new ≡ old.state → (old.used ≡ false → IsUnused set event old.state) → ((busy : Reception) → old.used ≡ true → old.state.busy ≡ Some busy → busy.bytes < busy.len) → HasAsked set event old → IsMade set event old m
made-none set event old m calls act records new unused more asked = record { effects = []; last = old; are = refl; state = new; calls = calls; act = act; records = records; unused = unused; more = more; asked = asked }

-- an effect, and then others
made-then : (set : RxSet) (event : RxEvent) (old : RxStage) (m : RxDid) (done : RxDone) (rest : RxDid) → RxEffect set event m.tick old done → IsMade set event done.new rest → rest.tick ≡ m.tick → m.calls ≡ done.calls ++ rest.calls → m.act ≡ later_act done.act rest.act →
    m.records ≡ done.records ++ rest.records → m.new ≡ rest.new → IsMade set event old m
made-then set event old m done rest effect later tick calls act records new = record {
  effects = done ∷ later.effects;
  last = later.last;
  are = (effect, subst (λ (t : ℕ). AreEffects set event t done.new later.effects later.last) tick later.are);
  state = new ∙ later.state;
  calls = calls ∙ ap (λ c. done.calls ++ c) later.calls;
  act = act ∙ ap (later_act done.act) later.act;
  records = records ∙ ap (λ r. done.records ++ r) later.records;
  unused = later.unused;
  more = later.more;
  asked = later.asked;
}

later-nothing : (act : BoxMeaning) → act ≡ later_act act Keeps
later-nothing act = refl

-- one effect
made-one : (set : RxSet) (event : RxEvent) (old new : RxStage) (m : RxDid) → m.new ≡ new.state → RxEffect set event m.tick old (done_by m new) → (new.used ≡ false → IsUnused set event new.state) → ((busy : Reception) → new.used ≡ true → new.state.busy ≡ Some busy → busy.bytes < busy.len) → HasAsked set event new → IsMade set event old m
made-one set event old new m is effect unused more asked =
    made-then set event old m (done_by m new) (record { tick = m.tick; calls = []; act = Keeps; records = []; new = new.state }) effect
    (made-none set event new (record { tick = m.tick; calls = []; act = Keeps; records = []; new = new.state }) refl refl refl refl unused more asked) refl (sym (append-nil m.calls)) (later-nothing m.act) (sym (append-nil m.records)) is

-- a row that calls nothing and tells nothing
quiet : (set : RxSet) (event : RxEvent) (old : RxState) (m : RxDid) → Quiet old m → IsUnused set event old → IsMade set event (first_stage old) m
quiet set event old m row unused = made-none set event (first_stage old) m row.calls row.act row.records row.new (λ is. unused) (λ busy is. cc) (λ busy size meaning came start is. cc)

-- and a reception goes on as it did
quiet-busy : (set : RxSet) (event : RxEvent) (old : RxState) (busy : Reception) (m : RxDid) → old.busy ≡ Some busy → Quiet (busy_with (idle old) busy) m → IsUnused set event old → IsMade set event (first_stage old) m
quiet-busy set event old busy m was row unused = quiet set event old m (record { calls = row.calls; act = row.act; records = row.records; new = row.new ∙ sym (ap (λ b. record old { busy = b }) was) }) unused

-- a reception ends
ends-effect : (set : RxSet) (event : RxEvent) (old : RxState) (busy : Reception) (look : Option Look) (used : Bool) (result : SessionResult) (m : RxDid) → old.busy ≡ Some busy → EndsAt set event (at_stage old look used) busy result → (used ≡ true → (result ≡ Whole → ⊥) → busy.bytes < busy.len) →
    EndsRow set (idle old) busy result m → RxEffect set event m.tick (at_stage old look used) (done_by m (at_stage (idle old) None (used_after result used)))
ends-effect set event old busy look used result m was at part row = Ends (record { busy = busy; was = was; result = result; at = at; part = part; left = row.left; calls = row.calls; act = row.act; records = row.records; new = refl })

ends : (set : RxSet) (event : RxEvent) (old : RxState) (busy : Reception) (look : Option Look) (used : Bool) (result : SessionResult) (m : RxDid) → old.busy ≡ Some busy → EndsAt set event (at_stage old look used) busy result → (used ≡ true → (result ≡ Whole → ⊥) → busy.bytes < busy.len) →
    (used_after result used ≡ false → IsUnused set event (idle old)) → EndsRow set (idle old) busy result m → IsMade set event (at_stage old look used) m
ends set event old busy look used result m was at part unused row =
    made-one set event (at_stage old look used) (at_stage (idle old) None (used_after result used)) m row.new (ends-effect set event old busy look used result m was at part row) unused (λ going is none. cc) (λ going size meaning came start is none. cc)

-- a look at the room, and then others
looks : (set : RxSet) (event : RxEvent) (old : RxState) (busy : Reception) (before : Option Look) (used : Bool) (room readers : ℕ) (m : RxDid) (rest : List Event) → MayLook event → old.busy ≡ Some busy → m.calls ≡ asks set busy room readers ++ rest →
    IsMade set event (at_stage old (Some (record { cells = room; readers = readers })) used) (record m { calls = rest }) → IsMade set event (at_stage old before used) m
looks set event old busy before used room readers m rest may was calls later =
    let look : Look = record { cells = room; readers = readers } in
    made-then set event (at_stage old before used) m (record { calls = asks set busy room readers; act = Keeps; records = []; new = at_stage old (Some look) used }) (record m { calls = rest })
    (Looks (record { of = may; busy = busy; was = was; look = look; calls = refl; act = refl; records = refl; new = refl })) later refl calls (sym (later-keeps m.act)) refl refl

-- what holds of the reception in progress
pub passed : (old : RxState) (busy : Reception) (P : Reception → Type 0) → old.busy ≡ Some busy → P busy → (going : Reception) → old.busy ≡ Some going → P going
passed old busy P was so going same = let both : Some busy ≡ Some going = sym was ∙ same in let is : busy ≡ going = cc in subst P is so

-- the flow control of a grant is put into the box
sends : (set : RxSet) (event : RxEvent) (old : RxState) (busy : Reception) (used : Bool) (room readers : ℕ) (grant : Grant) (m : RxDid) → old.busy ≡ Some busy → (used ≡ true → busy.bytes < busy.len) → 0 < readers → grant_in set busy room ≡ grant → MayGrant set busy grant →
    IsAskedFor set event m.tick (at_stage old (Some (record { cells = room; readers = readers })) used) busy → (used ≡ false → (state : RxState) → IsUnused set event state) → SendsControl (idle old) busy (control_of set grant) (left_of grant) (waits_of grant busy.waits) m →
    IsMade set event (at_stage old (Some (record { cells = room; readers = readers })) used) m
sends set event old busy used room readers grant m was more some is may asked unused row =
    let look : Look = record { cells = room; readers = readers } in
    let boxed : Reception = record busy { wait = Box; since = m.tick; left = left_of grant; waits = waits_of grant busy.waits } in
    let on : RxState = record old { busy = Some boxed; refusing = None } in
    made-one set event (at_stage old (Some look) used) (at_stage on None used) m row.new
    (Waits (record {
      busy = busy;
      was = was;
      wait = Box;
      left = left_of grant;
      waits = waits_of grant busy.waits;
      refusing = None;
      because = record { asked = asked; grant = grant; seen = record { look = look; looked = refl; some = some; grant_is = is }; may = may; act_is = row.act; left_is = refl; waits_is = refl; refusing_is = refl };
      calls = row.calls;
      records = row.records;
      new = refl;
    }))
    (λ none. unused none on) (λ going used_is. passed on boxed (λ b. b.bytes < b.len) refl (more used_is) going) (λ going size meaning came start used_is. passed on boxed (λ b. b.wait ≡ Box) refl refl going)

-- what is answered after a look
answers : (set : RxSet) (event : RxEvent) (old : RxState) (busy : Reception) (used : Bool) (room readers : ℕ) (m : RxDid) → old.busy ≡ Some busy → (used ≡ true → busy.bytes < busy.len) → 0 < readers → (event ≡ RunEnd → ⊥) → (used ≡ false → (state : RxState) → IsUnused set event state) →
    IsAskedFor set event m.tick (at_stage old (Some (record { cells = room; readers = readers })) used) busy → Answers set (idle old) busy room m → IsMade set event (at_stage old (Some (record { cells = room; readers = readers })) used) m
answers set event old busy used room readers m was more some going unused asked (All is row) = sends set event old busy used room readers AllFrames m was more some is tt asked unused row
answers set event old busy used room readers m was more some going unused asked (Block frames is row) = sends set event old busy used room readers (BlockOf frames) m was more some is tt asked unused row
answers set event old busy used room readers m was more some going unused asked (Wait is below row) = sends set event old busy used room readers NoFrames m was more some is below asked unused row
answers set event old busy used room readers m was more some going unused asked (TooManyWaits is most row) =
    let look : Look = record { cells = room; readers = readers } in
    ends set event old busy (Some look) used WaitOver m was (record { look = look; looked = refl; some = some; grant_is = is }, most, going) (λ used_is other. more used_is) (λ none. unused none (idle old)) row

-- what is granted
grants : (set : RxSet) (event : RxEvent) (old : RxState) (busy : Reception) (used : Bool) (m : RxDid) → MayLook event → old.busy ≡ Some busy → (used ≡ true → busy.bytes < busy.len) → (event ≡ RunEnd → ⊥) → (used ≡ false → (state : RxState) → IsUnused set event state) →
    ((look : Option Look) → IsAskedFor set event m.tick (at_stage old look used) busy) → Grants set (idle old) busy m → IsMade set event (at_stage old None used) m
grants set event old busy used m may was more going unused asked (NoneReads room readers none row) =
    let look : Look = record { cells = room; readers = readers } in
    looks set event old busy None used room readers m row.rest may was row.calls
    (ends set event old busy (Some look) used NoReaders (record m { calls = row.rest }) was (look, refl, none, going) (λ used_is other. more used_is) (λ free. unused free (idle old)) row.row)
grants set event old busy used m may was more going unused asked (SomeRead room readers some row) =
    looks set event old busy None used room readers m row.rest may was row.calls
    (answers set event old busy used room readers (record m { calls = row.rest }) was more some going unused (asked (Some (record { cells = room; readers = readers }))) row.row)

-- no buffer fits
refuses : (set : RxSet) (size : ℕ) (meaning : Meaning) (old : RxState) (act : BoxMeaning) (refusing : Option ℕ) (m : RxDid) → old.busy ≡ None → is_start set.functional meaning ≡ true → refusal_act meaning ≡ act → refusing_since meaning m.tick old.refusing ≡ refusing →
    Overflows set old size (len_of meaning) (bytes_of meaning) act refusing m → IsMade set (Came size meaning) (first_stage old) m
refuses set size meaning old act refusing m was start acts since row =
    let on : RxState = record old { next = old.next + 1; refusing = refusing } in
    made-one set (Came size meaning) (first_stage old) (at_stage on None true) m row.new
    (Refuses (record {
      size = size;
      meaning = meaning;
      of = record { came = refl; start = start; unused = refl; idle = was };
      number = row.number;
      free = row.free;
      calls = row.calls ∙ ap (λ n. Refused set.group.0 row.number row.free n ∷ []) row.need_is;
      act = row.act_is ∙ sym acts;
      records = row.records ∙ ap (λ n. refused set old.next (len_of meaning) m.tick row.number row.free n ∷ []) row.need_is;
      new = ap (λ r. at_stage (record old { next = old.next + 1; refusing = r }) None true) (sym since);
    }))
    (λ is. cc) (λ going is same. let no : None ≡ Some going = sym was ∙ same in cc) (λ going other message came other_start is same. let no : None ≡ Some going = sym was ∙ same in cc)

-- a session is opened, and then others
opens : (set : RxSet) (size : ℕ) (meaning : Meaning) (old : RxState) (opened : OpenedAt) (opening : List Event) (m : RxDid) (rest : List Event) → old.busy ≡ None → is_start set.functional meaning ≡ true → length (bytes_of meaning) ≤ len_of meaning →
    OpensRow set old.seq size (len_of meaning) (bytes_of meaning) opened opening → m.calls ≡ opening ++ rest →
    IsMade set (Came size meaning) (at_stage (busy_with (after_opening old) (begun old.next (len_of meaning) size (length (bytes_of meaning)) m.tick opened)) None true) (record m { calls = rest }) → IsMade set (Came size meaning) (first_stage old) m
opens set size meaning old opened opening m rest was start within row calls later =
    let new : RxStage = at_stage (busy_with (after_opening old) (begun old.next (len_of meaning) size (length (bytes_of meaning)) m.tick opened)) None true in
    made-then set (Came size meaning) (first_stage old) m (record { calls = opening; act = Keeps; records = []; new = new }) (record m { calls = rest })
    (Opens (record { size = size; meaning = meaning; of = record { came = refl; start = start; unused = refl; idle = was }; within = within; opened = opened; opens = row; act = refl; records = refl; new = refl }))
    later refl calls (sym (later-keeps m.act)) refl refl

-- a start, where no reception is in progress
begins-single : (set : RxSet) (size : ℕ) (bytes : List ℕ) (old : RxState) (m : RxDid) → BeginsSingle set (idle old) size bytes m → IsMade set (Came size (SingleFrame bytes)) (first_stage (idle old)) m
begins-single set size bytes old m (NoBuffer row) = refuses set size (SingleFrame bytes) (idle old) Keeps old.refusing m refl refl refl refl row
begins-single set size bytes old m (Completes opened opening row rest) =
    opens set size (SingleFrame bytes) (idle old) opened opening m rest.rest refl refl (omega arith) row rest.calls
    (ends set (Came size (SingleFrame bytes)) (busy_with (after_opening old) (begun old.next (length bytes) size (length bytes) m.tick opened)) (begun old.next (length bytes) size (length bytes) m.tick opened) None true Whole (record m { calls = rest.rest }) refl (refl, refl) (λ is other. absurd (other refl)) (λ is. cc) rest.row)

begins : (set : RxSet) (size : ℕ) (meaning : Meaning) (old : RxState) (m : RxDid) → is_start set.functional meaning ≡ true → Begins set (idle old) size meaning m → IsMade set (Came size meaning) (first_stage (idle old)) m
begins set size (SingleFrame bytes) old m start row = begins-single set size bytes old m row
begins set size (FirstFrame len bytes) old m start (NoBufferFirst more row) = refuses set size (FirstFrame len bytes) (idle old) (Offers overflow) (Some m.tick) m refl start refl refl row
begins set size (FirstFrame len bytes) old m start (Opened more opened opening row rest) =
    opens set size (FirstFrame len bytes) (idle old) opened opening m rest.rest refl start (omega (arith, more)) row rest.calls
    (grants set (Came size (FirstFrame len bytes)) (busy_with (after_opening old) (begun old.next len size (length bytes) m.tick opened)) (begun old.next len size (length bytes) m.tick opened) true (record m { calls = rest.rest }) tt refl (λ is. more) (λ is. cc) (λ is. cc)
    (λ look. AfterStart size len bytes refl refl refl refl) rest.row)
begins set size (ConsecutiveFrame number bytes) old m start row = absurd row
begins set size (FlowControl status block_size separation) old m start row = absurd row
begins set size (NoUnit why) old m start row = absurd row

-- in a step whose parts have its tick
made-as : (set : RxSet) (event : RxEvent) (old : RxStage) (m part : RxDid) → part.tick ≡ m.tick → m.calls ≡ part.calls → m.act ≡ part.act → m.records ≡ part.records → m.new ≡ part.new → IsMade set event old part → IsMade set event old m
made-as set event old m part tick calls act records new made = record {
  effects = made.effects;
  last = made.last;
  are = subst (λ (t : ℕ). AreEffects set event t old made.effects made.last) tick made.are;
  state = new ∙ made.state;
  calls = calls ∙ made.calls;
  act = act ∙ made.act;
  records = records ∙ made.records;
  unused = made.unused;
  more = made.more;
  asked = made.asked;
}

-- what was ends first
interrupted : (set : RxSet) (size : ℕ) (meaning : Meaning) (next seq : ℕ) (busy : Option Reception) (refusing : Option ℕ) (m earlier later : RxDid) → is_start set.functional meaning ≡ true → earlier.tick ≡ m.tick → later.tick ≡ m.tick → m.calls ≡ earlier.calls ++ later.calls → m.act ≡ later_act earlier.act later.act →
    m.records ≡ earlier.records ++ later.records → m.new ≡ later.new → Interrupts set (record { next = next; seq = seq; busy = busy; refusing = refusing }) busy earlier → IsMade set (Came size meaning) (first_stage (record { next = next; seq = seq; busy = None; refusing = refusing })) later →
    IsMade set (Came size meaning) (first_stage (record { next = next; seq = seq; busy = busy; refusing = refusing })) m
interrupted set size meaning next seq None refusing m earlier later start earlier_tick later_tick calls act records new row made =
    made-as set (Came size meaning) (first_stage (record { next = next; seq = seq; busy = None; refusing = refusing })) m later later_tick (calls ∙ ap (λ c. c ++ later.calls) row.calls) (act ∙ ap (λ a. later_act a later.act) row.act ∙ later-keeps later.act) (records ∙ ap (λ r. r ++ later.records) row.records) new made
interrupted set size meaning next seq (Some busy) refusing m earlier later start earlier_tick later_tick calls act records new row made =
    let old : RxState = record { next = next; seq = seq; busy = Some busy; refusing = refusing } in
    made-then set (Came size meaning) (first_stage old) m (done_by earlier (first_stage (idle old))) later
    (subst (λ (t : ℕ). RxEffect set (Came size meaning) t (first_stage old) (done_by earlier (first_stage (idle old)))) earlier_tick
    (ends-effect set (Came size meaning) old busy None false Restarted earlier refl (size, meaning, refl, start) (λ is. cc) row)) made later_tick calls act records new

starts : (set : RxSet) (size : ℕ) (meaning : Meaning) (old : RxState) (m : RxDid) → is_start set.functional meaning ≡ true → Starts set old size meaning m → IsMade set (Came size meaning) (first_stage old) m
starts set size meaning old m start row =
    interrupted set size meaning old.next old.seq old.busy old.refusing m row.earlier row.later start row.earlier_tick row.later_tick row.calls row.act row.records row.new row.interrupts (begins set size meaning old row.later start row.begins)

-- the due bytes of a consecutive frame are put, and then others
adds : (set : RxSet) (size : ℕ) (bytes : List ℕ) (old : RxState) (busy : Reception) (room readers : ℕ) (cells : List ℕ) (m : RxDid) (rest last : List Event) → old.busy ≡ Some busy → IsLookedAt set busy size bytes → 0 < readers → length cells ≤ room → IsPacked (take (due set.a busy) bytes) cells →
    m.calls ≡ asks set busy room readers ++ rest → rest ≡ puts set.path.0 busy.opened.seq cells ++ last →
    IsMade set (Came size (ConsecutiveFrame busy.number bytes)) (at_stage (busy_with old (gone_on busy (length (take (due set.a busy) bytes)) m.tick)) None true) (record m { calls = last }) →
    IsMade set (Came size (ConsecutiveFrame busy.number bytes)) (first_stage old) m
adds set size bytes old busy room readers cells m rest last was looked some fits packed calls more later =
    let event : RxEvent = Came size (ConsecutiveFrame busy.number bytes) in
    let look : Look = record { cells = room; readers = readers } in
    let new : RxStage = at_stage (busy_with old (gone_on busy (length (take (due set.a busy) bytes)) m.tick)) None true in
    looks set event old busy None false room readers m rest tt was calls
    (made-then set event (at_stage old (Some look) false) (record m { calls = rest }) (record { calls = puts set.path.0 busy.opened.seq cells; act = Keeps; records = []; new = new }) (record m { calls = last })
    (Puts (record {
      busy = busy;
      was = was;
      size = size;
      bytes = bytes;
      of = record { came = refl; looked = looked; unused = refl };
      look = look;
      looked = refl;
      some = some;
      cells = cells;
      fits = fits;
      packed = packed;
      calls = refl;
      act = refl;
      records = refl;
      new = refl;
    })) later refl more (sym (later-keeps m.act)) refl refl)

carries : (set : RxSet) (size : ℕ) (bytes : List ℕ) (old : RxState) (busy : Reception) (m : RxDid) → old.busy ≡ Some busy → IsLookedAt set busy size bytes → Carries set (idle old) busy (take (due set.a busy) bytes) m → IsMade set (Came size (ConsecutiveFrame busy.number bytes)) (first_stage old) m
carries set size bytes old busy m was looked (NoneReadsOn room readers none row) =
    let event : RxEvent = Came size (ConsecutiveFrame busy.number bytes) in
    let look : Look = record { cells = room; readers = readers } in
    looks set event old busy None false room readers m row.rest tt was row.calls
    (ends set event old busy (Some look) false NoReaders (record m { calls = row.rest }) was (look, refl, none, (λ is. cc)) (λ is. cc) (λ is. (refl, λ going none. cc)) row.row)
carries set size bytes old busy m was looked (TooLittleRoom room readers need some need_is little row) =
    let event : RxEvent = Came size (ConsecutiveFrame busy.number bytes) in
    let look : Look = record { cells = room; readers = readers } in
    looks set event old busy None false room readers m row.rest tt was row.calls
    (ends set event old busy (Some look) false (NoRoom room need) (record m { calls = row.rest }) was (look, refl, some, refl, little) (λ is. cc) (λ is. (refl, λ going none. cc)) row.row)
carries set size bytes old busy m was looked (Adds room readers cells some fits packed on_block row) =
    let on : Reception = gone_on busy (length (take (due set.a busy) bytes)) m.tick in
    adds set size bytes old busy room readers cells m row.rest row.row.rest was looked some fits packed row.calls row.row.calls
    (made-none set (Came size (ConsecutiveFrame busy.number bytes)) (at_stage (busy_with old on) None true) (record m { calls = row.row.rest }) row.row.row.calls row.row.row.act row.row.row.records row.row.row.new (λ is. cc)
    (λ going is same. let is_it : on ≡ going = cc in subst (λ (b : Reception). b.bytes < b.len) is_it row.row.row.more_due)
    (λ going other meaning came start is same. let message : ConsecutiveFrame busy.number bytes ≡ meaning = cc in let no : is_start set.functional (ConsecutiveFrame busy.number bytes) ≡ true = ap (is_start set.functional) message ∙ start in cc))
carries set size bytes old busy m was looked (EndsBlock room readers cells some fits packed one row) =
    let on : Reception = gone_on busy (length (take (due set.a busy) bytes)) m.tick in
    adds set size bytes old busy room readers cells m row.rest row.row.rest was looked some fits packed row.calls row.row.calls
    (grants set (Came size (ConsecutiveFrame busy.number bytes)) (busy_with old on) on true (record m { calls = row.row.rest }) tt refl (λ is. row.row.row.more_due) (λ is. cc) (λ is. cc)
    (λ look. AfterBlock size busy.number bytes refl refl (ap one_less one)) row.row.row.grants)
carries set size bytes old busy m was looked (Fills room readers cells some fits packed full row) =
    adds set size bytes old busy room readers cells m row.rest row.row.rest was looked some fits packed row.calls row.row.calls
    (ends set (Came size (ConsecutiveFrame busy.number bytes)) (busy_with old (gone_on busy (length (take (due set.a busy) bytes)) m.tick)) (gone_on busy (length (take (due set.a busy) bytes)) m.tick) None true Whole (record m { calls = row.row.rest }) refl (full, refl) (λ is other. absurd (other refl)) (λ is. cc) row.row.row)

-- a consecutive frame, by the reception that it comes to
continues : (set : RxSet) (size number : ℕ) (bytes : List ℕ) (old : RxState) (busy : Reception) (m : RxDid) → old.busy ≡ Some busy → Continues set (idle old) busy size number bytes m → IsMade set (Came size (ConsecutiveFrame number bytes)) (first_stage old) m
continues set size number bytes old busy m was (TooLong long row) =
    quiet-busy set (Came size (ConsecutiveFrame number bytes)) old busy m was row (refl, passed old busy (λ b. (b.size < size) ⊎ (length bytes < due set.a b)) was (inl long))
continues set size number bytes old busy m was (TooShort short row) =
    quiet-busy set (Came size (ConsecutiveFrame number bytes)) old busy m was row (refl, passed old busy (λ b. (b.size < size) ⊎ (length bytes < due set.a b)) was (inr short))
continues set size number bytes old busy m was (WrongNumber looked other row) =
    ends set (Came size (ConsecutiveFrame number bytes)) old busy None false (WrongSn busy.number number) m was (refl, other, (size, bytes, record { came = refl; looked = looked; unused = refl })) (λ is. cc) (λ is. cc) row
continues set size number bytes old busy m was (RightNumber looked right row) =
    subst (λ (n : ℕ). IsMade set (Came size (ConsecutiveFrame n bytes)) (first_stage old) m) (sym right) (carries set size bytes old busy m was looked row)

consecutive : (set : RxSet) (size number : ℕ) (bytes : List ℕ) (old : RxState) (busy : Option Reception) (m : RxDid) → old.busy ≡ busy → ConsecutiveRow set old size number bytes busy m → IsMade set (Came size (ConsecutiveFrame number bytes)) (first_stage old) m
consecutive set size number bytes old None m was row = quiet set (Came size (ConsecutiveFrame number bytes)) old m row (refl, λ going same. let no : None ≡ Some going = sym was ∙ same in cc)
consecutive set size number bytes old (Some busy) m was row = continues set size number bytes old busy m was row

first : (set : RxSet) (size len : ℕ) (bytes : List ℕ) (old : RxState) (functional : Bool) (m : RxDid) → set.functional ≡ functional → FirstRow set old size (FirstFrame len bytes) functional m → IsMade set (Came size (FirstFrame len bytes)) (first_stage old) m
first set size len bytes old true m is row = quiet set (Came size (FirstFrame len bytes)) old m row (rw is refl, λ going same. tt)
first set size len bytes old false m is row = starts set size (FirstFrame len bytes) old m (rw is refl) row

-- a frame that came
frame : (set : RxSet) (size : ℕ) (meaning : Meaning) (old : RxState) (m : RxDid) → RxStep set old (Came size meaning) m → IsMade set (Came size meaning) (first_stage old) m
frame set size (SingleFrame bytes) old m row = starts set size (SingleFrame bytes) old m refl row
frame set size (FirstFrame len bytes) old m row = first set size len bytes old set.functional m refl row
frame set size (ConsecutiveFrame number bytes) old m row = consecutive set size number bytes old old.busy m refl row
frame set size (FlowControl status block_size separation) old m row = quiet set (Came size (FlowControl status block_size separation)) old m row (refl, λ going same. tt)
frame set size (NoUnit why) old m row = quiet set (Came size (NoUnit why)) old m row (refl, λ going same. tt)

-- a flow control that refused a message isn't in the box any more
forgets : (set : RxSet) (event : RxEvent) (old : RxState) (act : BoxMeaning) (m : RxDid) → old.busy ≡ None → IsForgotten set event m.tick (first_stage old) act → ((state : RxState) → IsUnused set event state) → ForgetsRow old act m → IsMade set event (first_stage old) m
forgets set event old act m was because unused row =
    made-one set event (first_stage old) (first_stage (record old { refusing = None })) m row.new
    (Forgets (record { idle = was; because = subst (λ (a : BoxMeaning). IsForgotten set event m.tick (first_stage old) a) (sym row.act_is) because; calls = row.calls; records = row.records; new = refl }))
    (λ is. unused (record old { refusing = None })) (λ going is. cc) (λ going size meaning came start is. cc)

-- the timer
times : (set : RxSet) (old : RxState) (busy : Option Reception) (m : RxDid) → old.busy ≡ busy → TimerRow set old busy m → IsMade set Timer (first_stage old) m
times set old None m was (NoneLies none row) = quiet set Timer old m row tt
times set old None m was (MayLie since lies early row) = quiet set Timer old m row tt
times set old None m was (Revoked since lies late row) = forgets set Timer old Revokes m was (LayTooLong since refl lies late refl) (λ state. tt) row
times set old (Some busy) m was (InTime early row) = quiet-busy set Timer old busy m was row tt
times set old (Some busy) m was (LiesTooLong late row) = ends set Timer old busy None false (RxTimeout BoxLimit) m was refl (λ is. cc) (λ is. tt) row
times set old (Some busy) m was (LooksAgain late row) = grants set Timer old busy false m tt was (λ is. cc) (λ is. cc) (λ is state. tt) (λ look. AfterPause refl late) row
times set old (Some busy) m was (TooLate late row) = ends set Timer old busy None false (RxTimeout CfLimit) m was refl (λ is. cc) (λ is. tt) row

-- the flow control left
gone : (set : RxSet) (tick : ℕ) (old : RxStage) (busy : Reception) (left : Option ℕ) → busy.wait ≡ Box → busy.left ≡ left → Because set FcLeft tick old busy Keeps (awaited_after left) busy.left busy.waits old.state.refusing
gone set tick old busy None box is = record { act_is = refl; was_boxed = box; told = refl; wait_is = sym (ap awaited_after is); left_is = refl; waits_is = refl; refusing_is = refl }
gone set tick old busy (Some zero) box is = record { act_is = refl; was_boxed = box; told = refl; wait_is = sym (ap awaited_after is); left_is = refl; waits_is = refl; refusing_is = refl }
gone set tick old busy (Some (suc frames)) box is = record { act_is = refl; was_boxed = box; told = refl; wait_is = sym (ap awaited_after is); left_is = refl; waits_is = refl; refusing_is = refl }

leaves : (set : RxSet) (old : RxState) (busy : Option Reception) (m : RxDid) → old.busy ≡ busy → LeftRow old busy m → IsMade set FcLeft (first_stage old) m
leaves set old None m was row = forgets set FcLeft old Keeps m was (HasLeft refl refl) (λ state. tt) row
leaves set old (Some busy) m was (FromBox box row) =
    let on : RxState = busy_with old (record busy { wait = awaited_after busy.left; since = m.tick }) in
    made-one set FcLeft (first_stage old) (first_stage on) m row.new
    (Waits (record {
      busy = busy;
      was = was;
      wait = awaited_after busy.left;
      left = busy.left;
      waits = busy.waits;
      refusing = old.refusing;
      because = subst (λ (a : BoxMeaning). Because set FcLeft m.tick (first_stage old) busy a (awaited_after busy.left) busy.left busy.waits old.refusing) (sym row.act) (gone set m.tick (first_stage old) busy busy.left box refl);
      calls = row.calls;
      records = row.records;
      new = refl;
    }))
    (λ is. tt) (λ going is. cc) (λ going size meaning came. cc)
leaves set old (Some busy) m was (NotAwaited other row) = quiet-busy set FcLeft old busy m was row tt

-- the run's end
run-ends : (set : RxSet) (old : RxState) (busy : Option Reception) (m : RxDid) → old.busy ≡ busy → EndRow set old busy m → IsMade set RunEnd (first_stage old) m
run-ends set old None m was row = quiet set RunEnd old m row tt
run-ends set old (Some busy) m was row = ends set RunEnd old busy None false (EndOfRun busy.wait (record { 0 = busy.since })) m was (refl, refl, refl) (λ is. cc) (λ is. tt) row

-- each step is made of effects
pub made : (set : RxSet) (old : RxState) (event : RxEvent) (m : RxDid) → RxStep set old event m → IsMade set event (first_stage old) m
made set old (Came size meaning) m row = frame set size meaning old m row
made set old Timer m row = times set old old.busy m refl row
made set old FcLeft m row = leaves set old old.busy m refl row
made set old RunEnd m row = run-ends set old old.busy m refl row

-- after the run's end no reception is in progress
idle-by : (set : RxSet) (old : RxState) (busy : Option Reception) (m : RxDid) → old.busy ≡ busy → EndRow set old busy m → m.new.busy ≡ None
idle-by set old None m was row = ap (λ (s : RxState). s.busy) row.new ∙ was
idle-by set old (Some busy) m was row = ap (λ (s : RxState). s.busy) row.new

pub idle-ended : (set : RxSet) (old : RxState) (m : RxDid) → RxStep set old RunEnd m → m.new.busy ≡ None
idle-ended set old m row = idle-by set old old.busy m refl row

-- and no flow control is offered
revoking-by : (wait : RxWait) → (revoking wait ≡ Keeps) ⊎ (revoking wait ≡ Revokes)
revoking-by Box = inr refl
revoking-by Room = inl refl
revoking-by Cf = inl refl

box-by : (set : RxSet) (old : RxState) (busy : Option Reception) (m : RxDid) → EndRow set old busy m → (m.act ≡ Keeps) ⊎ (m.act ≡ Revokes)
box-by set old None m row = inl row.act
box-by set old (Some busy) m row = subst (λ (a : BoxMeaning). (a ≡ Keeps) ⊎ (a ≡ Revokes)) (sym row.act) (revoking-by busy.wait)

pub ended-box : (set : RxSet) (old : RxState) (m : RxDid) → RxStep set old RunEnd m → (m.act ≡ Keeps) ⊎ (m.act ≡ Revokes)
ended-box set old m row = box-by set old old.busy m row

-- where its flow control left, a reception that waited for that waits for what it asked for
pub record IsAfterLeft (old : Reception) (new : Option Reception) : Type 0 where
  pub on : Reception
  pub new_is : new ≡ Some on
  pub begin : on.begin ≡ old.begin
  pub awaits : old.wait ≡ Box → on.wait ≡ awaited_after old.left
  pub stays : old.wait ≢ Box → on.wait ≡ old.wait

abbrev pub AreAfterLeft : Option Reception → Option Reception → Type 0
AreAfterLeft None new = new ≡ None
AreAfterLeft (Some busy) new = IsAfterLeft busy new

left-by : (old : RxState) (busy : Option Reception) (m : RxDid) → old.busy ≡ busy → LeftRow old busy m → (m.act ≡ Keeps) × (m.records ≡ []) × AreAfterLeft busy m.new.busy
left-by old None m was row = (row.act_is, row.records, ap (λ (s : RxState). s.busy) row.new ∙ was)
left-by old (Some busy) m was (FromBox box row) = (row.act, row.records, record { on = record busy { wait = awaited_after busy.left; since = m.tick }; new_is = ap (λ (s : RxState). s.busy) row.new; begin = refl; awaits = λ is. refl; stays = λ other. absurd (other box) })
left-by old (Some busy) m was (NotAwaited other row) = (row.act, row.records, record { on = busy; new_is = ap (λ (s : RxState). s.busy) row.new; begin = refl; awaits = λ is. absurd (other is); stays = λ is. refl })

pub after-left : (set : RxSet) (old : RxState) (m : RxDid) → RxStep set old FcLeft m → (m.act ≡ Keeps) × (m.records ≡ []) × AreAfterLeft old.busy m.new.busy
after-left set old m row = left-by old old.busy m refl row
