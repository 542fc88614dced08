-- The law of a source channel, by the effects of its receiver's steps.
use Rattle.std.proofs.Common.{◌≡◌, inl, inr, ℕ, ◌<◌, ◌≤◌, ◌↔◌, Bool, true, false, if◌then◌else◌, Option, Some, None, List, [], ◌∷◌, ◌++◌, refl, ap, sym, subst, arith, append-nil}
use Rattle.gw_base.proofs.Lists.{zip-weaker}
use Rattle.gw_base.specs.Cell.{bytes_of as cell_bytes_of}
use Rattle.hub_core.specs.Turns.{calls_by, now_of, came_by, state_after, records_by}
use Rattle.hub_core.specs.View.{Event}
use Rattle.hub_core.specs.declared.record.SessionRecord.{SessionRecord}
use Rattle.hub_core.specs.declared.record.SessionResult.{SessionResult}
use Rattle.hub_core.specs.declared.record.SessionResult.TheVariants.{Whole, Overflow, WrongSn, RxTimeout, Restarted, NoRoom, WaitOver, NoReaders, Cancelled, RunEnd as EndOfRun}
use Rattle.tp_attempts.specs.Attempts.{attempts_in}
use Rattle.tp_attempts.specs.Seen.{Seen, bytes_of, is_start, len_of}
use Rattle.tp_attempts.specs.Walk.{look_at, walk_of}
use Rattle.tp_attempts.proofs.Walks.{look-long, look-short}
use Rattle.tp_receiver.specs.declared.set.RxSet.{RxSet}
use Rattle.tp_receiver.specs.Effects.{Ends, EndsAt, Forgets, HasConsecutive, IsPassed, IsUnused, Looks, Opens, Puts, Refuses, RxDone, RxEffect, RxStage, Waits, used_after}
use Rattle.tp_receiver.specs.Runs.{HasReceived, cells_in, put_in, frames_in}
use Rattle.tp_receiver.specs.State.{Reception, RxState, RxEvent, RxDid, Came, Timer, FcLeft, RunEnd, RxTurn, rx_new}
use Rattle.tp_receiver.specs.Table.{RxStep, ended, refused}
use Rattle.tp_receiver.proofs.Through.{IsThrough, step-through}
use Rattle.tp_unit.specs.Unit.{Meaning, SingleFrame, FirstFrame, ConsecutiveFrame, FlowControl, NoUnit}
use Rattle.receiver_law.specs.Source.{Puts as PutsLaw, SourceLaw, StoredLaw, Tells, is_overflow}
use Rattle.receiver_law.proofs.records.SoFars.{IsBusy, IsIdle, Same, busy-later, busy-passed, idle-later, idle-other}
use Rattle.receiver_law.proofs.records.SoFarSteps.{begins, closes, closes-wrong, due-is, goes-on, overflows}
use Rattle.receiver_law.proofs.sessions.Stores.{Adds, adds-cells, store, store-keeps}
use Rattle.receiver_law.proofs.records.Tellings.{TellsPut}

-- what holds so far, by the receiver's state
abbrev pub HoldsBy : RxSet → (next seq : ℕ) → Option Reception → List Event → ℕ → List Seen → List SessionRecord → Type 0
HoldsBy set next seq None calls now seen records = IsIdle set next seq calls now seen records
HoldsBy set next seq (Some busy) calls now seen records = IsBusy set next seq busy calls now seen records × (busy.bytes < busy.len)

abbrev pub Holds : RxSet → RxState → List Event → ℕ → List Seen → List SessionRecord → Type 0
Holds set state calls now seen records = HoldsBy set state.next state.seq state.busy calls now seen records

-- calls that put nothing
same-by : (path : ℕ) (calls more : List Event) → ((number : ℕ) → cells_in path number more ≡ []) → Same path calls (calls ++ more)
same-by path calls more none number = store-keeps path number calls more (none number)

-- time passes
pub holds-later : (set : RxSet) (next seq : ℕ) (busy : Option Reception) (calls : List Event) (before now : ℕ) (seen : List Seen) (records : List SessionRecord) → before ≤ now → HoldsBy set next seq busy calls before seen records → HoldsBy set next seq busy calls now seen records
holds-later set next seq None calls before now seen records later so = idle-later set next seq calls calls before now seen records later (λ number. refl) so
holds-later set next seq (Some busy) calls before now seen records later so = (busy-later set next seq busy calls calls before now seen records later (λ number. refl) so.0, so.1)

-- what is waited for doesn't matter
busy-waits : (set : RxSet) (next seq : ℕ) (busy other : Reception) (calls : List Event) (now : ℕ) (seen : List Seen) (records : List SessionRecord) → other ≡ record busy { wait = other.wait; since = other.since; left = other.left; waits = other.waits } → IsBusy set next seq busy calls now seen records → IsBusy set next seq other calls now seen records
busy-waits set next seq busy other calls now seen records is so =
    let P : Reception → Type 0 = λ b. IsBusy set next seq b calls now seen records in
    subst P (sym is) (record {
      earlier = so.earlier;
      attempt = so.attempt;
      cut = so.cut;
      told = so.told;
      n_is = so.n_is;
      next_is = so.next_is;
      at_is = so.at_is;
      seq_is = so.seq_is;
      fresh = so.fresh;
      underway = record { len = so.underway.len; begin = so.underway.begin; by = so.underway.by; size = so.underway.size; bytes = so.underway.bytes; number = so.underway.number; right = so.underway.right; early = so.underway.early; puts = so.underway.puts };
    })

-- the frames up to the one that came, once it is used
abbrev pub seen_so : List Seen → ℕ → RxEvent → Bool → List Seen
seen_so seen tick event used = if used then seen ++ frames_in tick event else seen

-- what holds at a stage of a step: bytes are to come where nothing was put or begun in it yet
abbrev pub HoldsIn : RxSet → ℕ → RxEvent → List Seen → (next seq : ℕ) → Option Reception → (used : Bool) → List Event → List SessionRecord → Type 0
HoldsIn set tick event seen next seq None used calls records = IsIdle set next seq calls tick (seen_so seen tick event used) records
HoldsIn set tick event seen next seq (Some busy) used calls records = IsBusy set next seq busy calls tick (seen_so seen tick event used) records × (used ≡ false → busy.bytes < busy.len)

abbrev pub HoldsAt : RxSet → ℕ → RxEvent → List Seen → RxStage → List Event → List SessionRecord → Type 0
HoldsAt set tick event seen stage calls records = HoldsIn set tick event seen stage.state.next stage.state.seq stage.state.busy stage.used calls records

pub idle-at : (set : RxSet) (tick : ℕ) (event : RxEvent) (seen : List Seen) (next seq : ℕ) (busy : Option Reception) (used : Bool) (calls : List Event) (records : List SessionRecord) → busy ≡ None → used ≡ false → HoldsIn set tick event seen next seq busy used calls records →
    IsIdle set next seq calls tick seen records
idle-at set tick event seen next seq busy used calls records is unused so =
    subst (λ (u : Bool). IsIdle set next seq calls tick (seen_so seen tick event u) records) unused (subst (λ (b : Option Reception). HoldsIn set tick event seen next seq b used calls records) is so)

pub busy-at : (set : RxSet) (tick : ℕ) (event : RxEvent) (seen : List Seen) (next seq : ℕ) (was : Option Reception) (busy : Reception) (used : Bool) (calls : List Event) (records : List SessionRecord) → was ≡ Some busy → HoldsIn set tick event seen next seq was used calls records →
    HoldsIn set tick event seen next seq (Some busy) used calls records
busy-at set tick event seen next seq was busy used calls records is so = subst (λ (b : Option Reception). HoldsIn set tick event seen next seq b used calls records) is so

pub unused-busy : (set : RxSet) (tick : ℕ) (event : RxEvent) (seen : List Seen) (next seq : ℕ) (busy : Reception) (used : Bool) (calls : List Event) (records : List SessionRecord) → used ≡ false → HoldsIn set tick event seen next seq (Some busy) used calls records → IsBusy set next seq busy calls tick seen records
unused-busy set tick event seen next seq busy used calls records unused so = subst (λ (u : Bool). IsBusy set next seq busy calls tick (seen_so seen tick event u) records) unused so.0

more-of : (used : Bool) (busy : Reception) → (used ≡ true → busy.bytes < busy.len) → (used ≡ false → busy.bytes < busy.len) → busy.bytes < busy.len
more-of true busy one two = one refl
more-of false busy one two = two refl

-- a reception ends, not by a wrong number
closes-so : (set : RxSet) (tick : ℕ) (event : RxEvent) (seen : List Seen) (next seq : ℕ) (busy : Reception) (used : Bool) (calls more : List Event) (records : List SessionRecord) (how : SessionResult) → HoldsIn set tick event seen next seq (Some busy) used calls records →
    ((number : ℕ) → cells_in set.path.0 number more ≡ []) → is_overflow how ≡ false → (how ≡ Whole) ↔ (busy.bytes ≡ busy.len) → ((want got : ℕ) → how ≡ WrongSn want got → ⊥) →
    IsIdle set next seq (calls ++ more) tick (seen_so seen tick event used) (records ++ ended set busy how tick ∷ [])
closes-so set tick event seen next seq busy used calls more records how so none other whole right =
    idle-later set next seq calls (calls ++ more) tick tick (seen_so seen tick event used) (records ++ ended set busy how tick ∷ []) (omega arith) (same-by set.path.0 calls more none) (closes set next seq busy how calls tick (seen_so seen tick event used) records so.0 other whole right)

-- not whole where bytes remain
not-whole : (how : SessionResult) (busy : Reception) → (how ≡ Whole → ⊥) → busy.bytes < busy.len → (how ≡ Whole) ↔ (busy.bytes ≡ busy.len)
not-whole how busy other more = ((λ is. absurd (other is)), (λ same. absurd (omega (arith, same, more))))

ends-so : (set : RxSet) (tick : ℕ) (event : RxEvent) (seen : List Seen) (old : RxStage) (busy : Reception) (calls more : List Event) (records : List SessionRecord) (how : SessionResult) → HoldsIn set tick event seen old.state.next old.state.seq (Some busy) old.used calls records →
    ((number : ℕ) → cells_in set.path.0 number more ≡ []) → EndsAt set event old busy how → (old.used ≡ true → (how ≡ Whole → ⊥) → busy.bytes < busy.len) →
    IsIdle set old.state.next old.state.seq (calls ++ more) tick (seen_so seen tick event (used_after how old.used)) (records ++ ended set busy how tick ∷ [])
ends-so set tick event seen old busy calls more records Whole so none at part = closes-so set tick event seen _ _ busy old.used calls more records Whole so none refl ((λ is. at.0), (λ is. refl)) (λ want got is. cc)
ends-so set tick event seen old busy calls more records (Overflow change free need) so none at part = absurd at
ends-so set tick event seen old busy calls more records (WrongSn want got) so none at part =
    let came : HasConsecutive set event old busy at.2.0 got at.2.1 = at.2.2 in
    let frame : Seen = record { at = tick; size = at.2.0; meaning = ConsecutiveFrame got at.2.1 } in
    let known : IsBusy set old.state.next old.state.seq busy calls tick seen records = unused-busy set tick event seen _ _ busy old.used calls records came.unused so in
    let wrong : IsIdle set old.state.next old.state.seq (calls ++ more) tick (seen ++ frame ∷ []) (records ++ ended set busy (WrongSn busy.number got) tick ∷ []) =
    idle-later set _ _ calls (calls ++ more) tick tick (seen ++ frame ∷ []) (records ++ ended set busy (WrongSn busy.number got) tick ∷ []) (omega arith) (same-by set.path.0 calls more none)
    (closes-wrong set _ _ busy calls tick at.2.0 got at.2.1 seen records known (so.1 came.unused) came.looked.short came.looked.enough at.1) in
    rw (came.came, at.0) wrong
ends-so set tick event seen old busy calls more records (RxTimeout limit) so none at part =
    closes-so set tick event seen _ _ busy old.used calls more records (RxTimeout limit) so none refl (not-whole (RxTimeout limit) busy (λ is. cc) (more-of old.used busy (λ used. part used (λ is. cc)) so.1)) (λ want got is. cc)
ends-so set tick event seen old busy calls more records Restarted so none at part =
    closes-so set tick event seen _ _ busy old.used calls more records Restarted so none refl (not-whole Restarted busy (λ is. cc) (more-of old.used busy (λ used. part used (λ is. cc)) so.1)) (λ want got is. cc)
ends-so set tick event seen old busy calls more records (NoRoom room need) so none at part =
    closes-so set tick event seen _ _ busy old.used calls more records (NoRoom room need) so none refl (not-whole (NoRoom room need) busy (λ is. cc) (more-of old.used busy (λ used. part used (λ is. cc)) so.1)) (λ want got is. cc)
ends-so set tick event seen old busy calls more records WaitOver so none at part =
    closes-so set tick event seen _ _ busy old.used calls more records WaitOver so none refl (not-whole WaitOver busy (λ is. cc) (more-of old.used busy (λ used. part used (λ is. cc)) so.1)) (λ want got is. cc)
ends-so set tick event seen old busy calls more records NoReaders so none at part =
    closes-so set tick event seen _ _ busy old.used calls more records NoReaders so none refl (not-whole NoReaders busy (λ is. cc) (more-of old.used busy (λ used. part used (λ is. cc)) so.1)) (λ want got is. cc)
ends-so set tick event seen old busy calls more records Cancelled so none at part = absurd at
ends-so set tick event seen old busy calls more records (EndOfRun wait since) so none at part =
    closes-so set tick event seen _ _ busy old.used calls more records (EndOfRun wait since) so none refl (not-whole (EndOfRun wait since) busy (λ is. cc) (more-of old.used busy (λ used. part used (λ is. cc)) so.1)) (λ want got is. cc)

-- each effect
pub holds-effect : (set : RxSet) (event : RxEvent) (tick : ℕ) (seen : List Seen) (old : RxStage) (done : RxDone) (calls : List Event) (records : List SessionRecord) → RxEffect set event tick old done → HoldsAt set tick event seen old calls records →
    HoldsAt set tick event seen done.new (calls ++ done.calls) (records ++ done.records)
holds-effect set event tick seen old done calls records (Refuses e) so =
    let frame : Seen = record { at = tick; size = e.size; meaning = e.meaning } in
    let idle : IsIdle set old.state.next old.state.seq calls tick seen records = idle-at set tick event seen _ _ old.state.busy old.used calls records e.of.idle e.of.unused so in
    rw (e.calls, e.records, e.new, e.of.came, e.of.idle)
    (idle-later set _ _ calls _ tick tick (seen ++ frame ∷ []) (records ++ refused set old.state.next (len_of e.meaning) tick e.number e.free _ ∷ []) (omega arith) (same-by set.path.0 calls _ (λ number. refl))
    (overflows set old.state.next old.state.seq (len_of e.meaning) e.number e.free _ calls seen records frame e.of.start refl idle))
holds-effect set event tick seen old done calls records (Opens e) so =
    let frame : Seen = record { at = tick; size = e.size; meaning = e.meaning } in
    let idle : IsIdle set old.state.next old.state.seq calls tick seen records = idle-at set tick event seen _ _ old.state.busy old.used calls records e.of.idle e.of.unused so in
    let adds : Adds set.path.0 calls done.calls old.state.seq (bytes_of e.meaning) = adds-cells set.path.0 old.state.seq e.opens.cells (bytes_of e.meaning) calls done.calls (λ number. ap (cells_in set.path.0 number) e.opens.calls_are) e.opens.packed.same_bytes in
    rw (e.records, e.new, e.of.came, append-nil) (begins set old.state.next old.state.seq (len_of e.meaning) e.size e.opened calls done.calls seen records frame e.of.start refl refl e.opens.seq_is adds idle, λ is. cc)
holds-effect set event tick seen old done calls records (Looks e) so =
    let known = busy-at set tick event seen _ _ old.state.busy e.busy old.used calls records e.was so in
    rw (e.calls, e.records, e.new, e.was, append-nil) (busy-later set _ _ e.busy calls _ tick tick (seen_so seen tick event old.used) records (omega arith) (same-by set.path.0 calls _ (λ number. refl)) known.0, known.1)
holds-effect set event tick seen old done calls records (Puts e) so =
    let known = busy-at set tick event seen _ _ old.state.busy e.busy old.used calls records e.was so in
    rw (e.calls, e.records, e.new, e.of.came, append-nil) (
      goes-on set _ _ e.busy calls _ tick e.size e.busy.number e.bytes seen records (unused-busy set tick event seen _ _ e.busy old.used calls records e.of.unused known) (known.1 e.of.unused) e.of.looked.short e.of.looked.enough refl
          (adds-cells set.path.0 e.busy.opened.seq e.cells _ calls _ (λ number. refl) e.packed.same_bytes),
      λ is. cc,
    )
holds-effect set event tick seen old done calls records (Waits e) so =
    let known = busy-at set tick event seen _ _ old.state.busy e.busy old.used calls records e.was so in
    rw (e.calls, e.records, e.new, append-nil, append-nil) (busy-waits set _ _ e.busy (record e.busy { wait = e.wait; since = tick; left = e.left; waits = e.waits }) calls tick (seen_so seen tick event old.used) records refl known.0, known.1)
holds-effect set event tick seen old done calls records (Forgets e) so = rw (e.calls, e.records, e.new, append-nil, append-nil) so
holds-effect set event tick seen old done calls records (Ends e) so =
    let known = busy-at set tick event seen _ _ old.state.busy e.busy old.used calls records e.was so in
    rw (e.records, e.new) (ends-so set tick event seen old e.busy calls done.calls records e.result known (λ number. ap (cells_in set.path.0 number) e.calls) e.at e.part)

-- a frame that is passed over
pub passes : (set : RxSet) (next seq : ℕ) (busy : Reception) (calls : List Event) (seen : List Seen) (records : List SessionRecord) (tick size : ℕ) (meaning : Meaning) (so : IsBusy set next seq busy calls tick seen records) → is_start set.functional meaning ≡ false → IsPassed set busy size meaning →
    look_at set.a (walk_of set.a so.attempt) tick size meaning ≡ walk_of set.a so.attempt
passes set next seq busy calls seen records tick size (SingleFrame bytes) so other passed = refl
passes set next seq busy calls seen records tick size (FirstFrame len bytes) so other passed = refl
passes set next seq busy calls seen records tick size (ConsecutiveFrame number bytes) so other (inl long) = look-long set.a (walk_of set.a so.attempt) tick size (ConsecutiveFrame number bytes) (omega (arith, long, so.underway.size))
passes set next seq busy calls seen records tick size (ConsecutiveFrame number bytes) so other (inr short) = look-short set.a (walk_of set.a so.attempt) tick size number bytes (omega (arith, short, due-is set busy calls tick so.attempt so.underway))
passes set next seq busy calls seen records tick size (FlowControl status block_size separation) so other passed = refl
passes set next seq busy calls seen records tick size (NoUnit why) so other passed = refl

-- after the step's last effect
passed-over : (set : RxSet) (tick size : ℕ) (meaning : Meaning) (seen : List Seen) (next seq : ℕ) (busy : Option Reception) (calls : List Event) (records : List SessionRecord) → HoldsIn set tick (Came size meaning) seen next seq busy false calls records →
    is_start set.functional meaning ≡ false → ((going : Reception) → busy ≡ Some going → IsPassed set going size meaning) → HoldsBy set next seq busy calls tick (seen ++ record { at = tick; size = size; meaning = meaning } ∷ []) records
passed-over set tick size meaning seen next seq None calls records so other passed = idle-other set next seq calls seen records (record { at = tick; size = size; meaning = meaning }) other so
passed-over set tick size meaning seen next seq (Some busy) calls records so other passed =
    (busy-passed set next seq busy calls seen records (record { at = tick; size = size; meaning = meaning }) so.0 other (passes set next seq busy calls seen records tick size meaning so.0 other (passed busy refl)), so.1 refl)

nothing-came : (set : RxSet) (tick : ℕ) (event : RxEvent) (seen : List Seen) (next seq : ℕ) (busy : Option Reception) (calls : List Event) (records : List SessionRecord) → frames_in tick event ≡ [] → HoldsIn set tick event seen next seq busy false calls records →
    HoldsBy set next seq busy calls tick (seen ++ frames_in tick event) records
nothing-came set tick event seen next seq None calls records none so = rw (none, append-nil) so
nothing-came set tick event seen next seq (Some busy) calls records none so = rw (none, append-nil) (so.0, so.1 refl)

holds-last : (set : RxSet) (tick : ℕ) (event : RxEvent) (seen : List Seen) (state : RxState) (used : Bool) (calls : List Event) (records : List SessionRecord) → HoldsIn set tick event seen state.next state.seq state.busy used calls records → (used ≡ false → IsUnused set event state) →
    ((busy : Reception) → used ≡ true → state.busy ≡ Some busy → busy.bytes < busy.len) → Holds set state calls tick (seen ++ frames_in tick event) records
holds-last set tick event seen state true calls records so unused more = of state.busy so (λ busy is. more busy refl is)
  where
    of : (busy : Option Reception) → HoldsIn set tick event seen state.next state.seq busy true calls records → ((going : Reception) → busy ≡ Some going → going.bytes < going.len) → HoldsBy set state.next state.seq busy calls tick (seen ++ frames_in tick event) records
    of None so more = so
    of (Some busy) so more = (so.0, more busy refl)
holds-last set tick (Came size meaning) seen state false calls records so unused more = passed-over set tick size meaning seen state.next state.seq state.busy calls records so (unused refl).0 (unused refl).1
holds-last set tick Timer seen state false calls records so unused more = nothing-came set tick Timer seen state.next state.seq state.busy calls records refl so
holds-last set tick FcLeft seen state false calls records so unused more = nothing-came set tick FcLeft seen state.next state.seq state.busy calls records refl so
holds-last set tick RunEnd seen state false calls records so unused more = nothing-came set tick RunEnd seen state.next state.seq state.busy calls records refl so

-- before the step's first effect
pub holds-first : (set : RxSet) (tick : ℕ) (event : RxEvent) (seen : List Seen) (next seq : ℕ) (busy : Option Reception) (calls : List Event) (records : List SessionRecord) → HoldsBy set next seq busy calls tick seen records → HoldsIn set tick event seen next seq busy false calls records
holds-first set tick event seen next seq None calls records so = so
holds-first set tick event seen next seq (Some busy) calls records so = (so.0, λ is. so.1)

-- a step
holds-step : (set : RxSet) (old : RxState) (event : RxEvent) (m : RxDid) (calls : List Event) (seen : List Seen) (records : List SessionRecord) → RxStep set old event m → Holds set old calls m.tick seen records → Holds set m.new (calls ++ m.calls) m.tick (seen ++ frames_in m.tick event) (records ++ m.records)
holds-step set old event m calls seen records row so =
    let by : IsThrough set event m (λ last. HoldsAt set m.tick event seen last (calls ++ m.calls) (records ++ m.records)) =
    step-through set old event m (HoldsAt set m.tick event seen) (holds-effect set event m.tick seen) row calls records (holds-first set m.tick event seen old.next old.seq old.busy calls records so) in
    subst (λ (s : RxState). Holds set s (calls ++ m.calls) m.tick (seen ++ frames_in m.tick event) (records ++ m.records)) (sym by.state)
    (holds-last set m.tick event seen by.last.state by.last.used (calls ++ m.calls) (records ++ m.records) by.holds by.unused by.more)

-- all turns
pub holds : (set : RxSet) (turns : List RxTurn) → HasReceived set turns → Holds set (state_after rx_new turns) (calls_by turns) (now_of turns) (came_by frames_in turns) (records_by turns)
holds set [] happened = record {
  told = record { tells = tt; numbers = tt; sessions = tt; over = tt };
  next_is = refl;
  seq_is = refl;
  fresh = λ number above. refl;
}
holds set (turn ∷ earlier) happened =
    holds-step set (state_after rx_new earlier) turn.event turn.did (calls_by earlier) (came_by frames_in earlier) (records_by earlier) happened.1
    (holds-later set (state_after rx_new earlier).next (state_after rx_new earlier).seq (state_after rx_new earlier).busy (calls_by earlier) (now_of earlier) turn.did.tick (came_by frames_in earlier) (records_by earlier) happened.0 (holds set earlier happened.2))

-- the laws, where no reception is in progress
idle-so : (set : RxSet) (next seq now : ℕ) (busy : Option Reception) (calls : List Event) (seen : List Seen) (records : List SessionRecord) → busy ≡ None → HoldsBy set next seq busy calls now seen records → IsIdle set next seq calls now seen records
idle-so set next seq now None calls seen records is so = so
idle-so set next seq now (Some busy) calls seen records is so = cc

pub idle-of : (set : RxSet) (turns : List RxTurn) → HasReceived set turns → (state_after rx_new turns).busy ≡ None → IsIdle set (state_after rx_new turns).next (state_after rx_new turns).seq (calls_by turns) (now_of turns) (came_by frames_in turns) (records_by turns)
idle-of set turns happened idle_is = idle-so set (state_after rx_new turns).next (state_after rx_new turns).seq (now_of turns) (state_after rx_new turns).busy (calls_by turns) (came_by frames_in turns) (records_by turns) idle_is (holds set turns happened)

pub source_law_of : (set : RxSet) (turns : List RxTurn) → HasReceived set turns → (state_after rx_new turns).busy ≡ None → SourceLaw set.chan.0 set.a set.functional (came_by frames_in turns) (records_by turns)
source_law_of set turns happened idle_is =
    let so = idle-of set turns happened idle_is in
    record {
      numbered = so.told.numbers;
      sessions = so.told.sessions;
      tells = zip-weaker (TellsPut set.chan.0 set.a (store set.path.0 (calls_by turns))) (Tells set.chan.0 set.a) (attempts_in set.functional (came_by frames_in turns)) (records_by turns) (λ attempt told both. both.0) so.told.tells;
    }

pub stored_law_of : (set : RxSet) (turns : List RxTurn) → HasReceived set turns → (state_after rx_new turns).busy ≡ None → StoredLaw set.a set.functional (λ seq. cell_bytes_of (put_in set turns seq)) (came_by frames_in turns) (records_by turns)
stored_law_of set turns happened idle_is =
    let so = idle-of set turns happened idle_is in
    record {
      puts = zip-weaker (TellsPut set.chan.0 set.a (store set.path.0 (calls_by turns))) (PutsLaw set.a (store set.path.0 (calls_by turns))) (attempts_in set.functional (came_by frames_in turns)) (records_by turns) (λ attempt told both. both.1) so.told.tells;
      no_more = λ number above. so.fresh number (omega (arith, so.seq_is, above));
    }
