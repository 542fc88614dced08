-- Each step is made of effects: the one walk over the rows of the table.
use Rattle.std.proofs.Common.{◌≡◌, ℕ, ◌+◌, ◌-◌, ◌%◌, Option, None, Some, List, [], ◌∷◌, ◌++◌, refl, ap, sym, ◌∙◌, subst, arith}
use Rattle.std.specs.Prelude.{map}
use Rattle.flow_plan.specs.Gap.{gap_in}
use Rattle.gw_base.specs.declared.numbers.Tick.{Tick}
use Rattle.hub_core.specs.View.{Event, Read}
use Rattle.hub_core.specs.declared.port.Seen.{Seen as Look}
use Rattle.hub_core.specs.declared.record.DestResult.{DestResult}
use Rattle.hub_core.specs.declared.record.DestResult.TheVariants.{Sent, SourceEnded, BsTimeout, FcOverflow, InvalidFs, CsTimeout, AsTimeout, RunEnd as EndOfRun}
use Rattle.hub_core.specs.declared.record.TxWait.TheVariants.{Turn as ForTurn}
use Rattle.tp_unit.specs.Unit.{BoxMeaning, Keeps, Offers as OffersUnit, Revokes}
use Rattle.tp_sender.specs.declared.event.TxEvent.{TxEvent}
use Rattle.tp_sender.specs.declared.event.TxEvent.TheVariants.{Turn, Fc as CameFc, Left, RunEnd}
use Rattle.tp_sender.specs.declared.transmission.Phase.{Phase}
use Rattle.tp_sender.specs.declared.transmission.Phase.TheVariants.{Start, Bytes, Box, Fc, Gap}
use Rattle.tp_sender.specs.declared.set.TxSet.{TxSet}
use Rattle.tp_sender.specs.State.{Transmission, TxDid, TxState}
use Rattle.tp_sender.specs.Table.{Answered, Ends as EndsRow, FrameLeft, GoesOn, IdleRow, InAnswer, InBytes, InGap, InStart, InTurn, InWait, Lacks, LiveRow, NoneStands, TxRow, TxStep, continued, fetched, in_phase, joined_in, next_part, revoked, wait_of}
use Rattle.tp_sender.specs.Table.{AsksToWait, BlockLeft, Continues, Due, Enough, FindsOne, FirstLeft, GapLasts, GapOver, IsInvalid, Joins as JoinsRow, LastLeft, MayCome, NeverReached, NextLeft, NotDue, NotReached, NothingStands, NothingToSend, Overflows, Reached, Short, TooLate, WriterGone}
use Rattle.tp_sender.specs.Effects.{AreEffects, IsAwaiting, IsEffect, IsMade, IsSettled, IsShort, MayEnd, TxStage, ShowsEnd, TxDone, TxEffect, act_then, done_by, done_by_all, nothing_at}
use Rattle.tp_sender.specs.Effects.{Misses, Joins, Looks, Reads, Offers, Leaves, Waits, Ends, AfterBlock, AfterFirst, AfterNext, IsReached, GapIsOver, IsContinued, IsPaused, NoNext, NoStart, IsWhole, IsCut}

-- the rest of a step, from where it is with these calls left, is made of effects
record IsMadeOf (set : TxSet) (p : TxStage) (calls : List Event) (did : TxDid) : Type 0 where
  effects : List TxEffect
  are : AreEffects set did.tick p effects
  calls_are : calls ≡ (done_by_all set did.tick p effects).calls
  act : did.act ≡ (done_by_all set did.tick p effects).act
  records : did.records ≡ (done_by_all set did.tick p effects).records
  live : did.new.live ≡ (done_by_all set did.tick p effects).new.live
  next : (done_by_all set did.tick p effects).new.next ≡ p.next
  settled : IsSettled (done_by_all set did.tick p effects).new.event did.new.live

-- in the midst of a step that was told of an event
abbrev pub amid : TxEvent → Option Look → (next : ℕ) → Option Transmission → TxStage
amid event look next live = record { event = Some event; look = look; next = next; live = live }

-- nothing more is done
stays : (set : TxSet) (event : TxEvent) (look : Option Look) (next : ℕ) (s : Transmission) (calls : List Event) (did : TxDid) → IsSettled (Some event) (Some s) → GoesOn s calls did → IsMadeOf set (amid event look next (Some s)) calls did
stays set event look next s calls did settled row = record {
  effects = [];
  are = tt;
  calls_are = row.calls_are;
  act = row.act;
  records = row.records;
  live = row.live;
  next = refl;
  settled = rw row.live settled;
}

-- first an effect that has nothing to do with the box, then the rest
first-then : (set : TxSet) (p : TxStage) (effect : TxEffect) (calls more : List Event) (did : TxDid) → IsEffect set did.tick p effect → (done_by set did.tick p effect).act ≡ Keeps → (done_by set did.tick p effect).records ≡ [] →
    (done_by set did.tick p effect).new.next ≡ p.next → calls ≡ (done_by set did.tick p effect).calls ++ more → IsMadeOf set (done_by set did.tick p effect).new more did → IsMadeOf set p calls did
first-then set p effect calls more did is keeps none next are rest = record {
  effects = effect ∷ rest.effects;
  are = (is, rest.are);
  calls_are = are ∙ ap (λ l. (done_by set did.tick p effect).calls ++ l) rest.calls_are;
  act = rest.act ∙ ap (λ a. act_then a (done_by_all set did.tick (done_by set did.tick p effect).new rest.effects).act) (sym keeps);
  records = rest.records ∙ ap (λ l. l ++ (done_by_all set did.tick (done_by set did.tick p effect).new rest.effects).records) (sym none);
  live = rest.live;
  next = rest.next ∙ next;
  settled = rest.settled;
}

-- the session goes on after one effect
goes-on : (set : TxSet) (event : TxEvent) (look : Option Look) (next : ℕ) (s t : Transmission) (effect : TxEffect) (calls : List Event) (did : TxDid) → IsEffect set did.tick (amid event look next (Some s)) effect →
    done_by set did.tick (amid event look next (Some s)) effect ≡ nothing_at did.tick (record { event = None; look = look; next = next; live = Some t }) → GoesOn t calls did → IsMadeOf set (amid event look next (Some s)) calls did
goes-on set event look next s t effect calls did is same row =
    let D : TxDone → Type 0 = λ d. IsMadeOf set d.new [] did in
    first-then set (amid event look next (Some s)) effect calls [] did is (ap (λ (d : TxDone). d.act) same) (ap (λ (d : TxDone). d.records) same) (ap (λ (d : TxDone). d.new.next) same)
    (row.calls_are ∙ sym (ap (λ (d : TxDone). d.calls ++ []) same))
    (subst D (sym same) (record { effects = []; are = tt; calls_are = refl; act = row.act; records = row.records; live = row.live; next = refl; settled = tt }))

act-alone : (act : BoxMeaning) → act ≡ act_then act Keeps
act-alone Keeps = refl
act-alone (OffersUnit unit) = refl
act-alone Revokes = refl

-- the session ends
ends : (set : TxSet) (event : TxEvent) (look : Option Look) (next : ℕ) (s : Transmission) (sent : ℕ) (act : BoxMeaning) (result : DestResult) (calls : List Event) (did : TxDid) → MayEnd set event look s sent act result →
    EndsRow set (record s { sent = sent }) act result calls did → IsMadeOf set (amid event look next (Some s)) calls did
ends set event look next s sent act result calls did may row = record {
  effects = Ends s sent act result row.left ∷ [];
  are = (record { event = event; told = refl; finds = refl; may = may }, tt);
  calls_are = row.calls_are;
  act = row.act_is ∙ act-alone act;
  records = row.records;
  live = row.live;
  next = refl;
  settled = tt;
}

-- before its last frame left
cut : (set : TxSet) (event : TxEvent) (look : Option Look) (next : ℕ) (s : Transmission) (result : DestResult) (calls : List Event) (did : TxDid) → (event ≡ Left → ⊥) → (result ≡ Sent → ⊥) → ShowsEnd set event look s result →
    EndsRow set s (revoked s.phase) result calls did → IsMadeOf set (amid event look next (Some s)) calls did
cut set event look next s result calls did told other shows row = ends set event look next s s.sent (revoked s.phase) result calls did (IsCut told other refl refl shows) row

-- nothing lies in the box
keeps-at : (set : TxSet) (s : Transmission) (phase : Phase) (result : DestResult) (calls : List Event) (did : TxDid) → s.phase ≡ phase → EndsRow set s (revoked phase) result calls did → EndsRow set s (revoked s.phase) result calls did
keeps-at set s phase result calls did at row = let P : Phase → Type 0 = λ p. EndsRow set s (revoked p) result calls did in subst P (sym at) row

-- the rows of a turn
of-lacks : (set : TxSet) (look : Look) (next : ℕ) (s : Transmission) (calls : List Event) (did : TxDid) → IsShort set s look → Lacks set s look calls did → IsMadeOf set (amid Turn (Some look) next (Some s)) calls did
of-lacks set look next s calls did short (WriterGone gone row) = cut set Turn (Some look) next s SourceEnded calls did (λ e. cc) (λ e. cc) (gone, NoNext short) (keeps-at set s Bytes SourceEnded calls did short.phase row)
of-lacks set look next s calls did short (TooLate there late row) = cut set Turn (Some look) next s (CsTimeout look.bytes) calls did (λ e. cc) (λ e. cc) (refl, short) (keeps-at set s Bytes (CsTimeout look.bytes) calls did short.phase row)
of-lacks set look next s calls did short (MayCome there early row) = stays set Turn (Some look) next s calls did tt row

of-bytes : (set : TxSet) (look : Option Look) (next : ℕ) (s : Transmission) (calls : List Event) (did : TxDid) → s.phase ≡ Bytes → InBytes set s calls did → IsMadeOf set (amid Turn look next (Some s)) calls did
of-bytes set look next s calls did phase (Enough seen cells fetches row) =
    let more : List Event = map (Read set.path.0 set.dest.0 s.seq) cells ++ [] in
    first-then set (amid Turn look next (Some s)) (Looks s seen) calls more did (record { event = Turn; told = refl; finds = refl; may = refl }) refl refl refl fetches.calls_are
    (first-then set (amid Turn (Some seen) next (Some s)) (Reads s cells) more [] did (record { event = Turn; told = refl; finds = refl; may = (refl, fetches.cells_only) }) refl refl refl refl
    (record {
      effects = Offers (fetched cells s) ∷ [];
      are = (record { event = Turn; told = refl; finds = refl; may = record { turn = refl; phase = phase; enough = row.enough; fits = row.fits } }, tt);
      calls_are = refl;
      act = row.act;
      records = row.records;
      live = row.live;
      next = refl;
      settled = tt;
    }))
of-bytes set look next s calls did phase (Short seen cells more fetches short row) =
    first-then set (amid Turn look next (Some s)) (Looks s seen) calls (map (Read set.path.0 set.dest.0 s.seq) cells ++ more) did (record { event = Turn; told = refl; finds = refl; may = refl }) refl refl refl fetches.calls_are
    (first-then set (amid Turn (Some seen) next (Some s)) (Reads s cells) (map (Read set.path.0 set.dest.0 s.seq) cells ++ more) more did (record { event = Turn; told = refl; finds = refl; may = (refl, fetches.cells_only) }) refl refl refl refl
    (of-lacks set seen next (fetched cells s) more did (record { phase = phase; all = short.all; few = short.few }) row))

of-start : (set : TxSet) (look : Option Look) (next : ℕ) (s : Transmission) (calls : List Event) (did : TxDid) → s.phase ≡ Start → InStart set s calls did → IsMadeOf set (amid Turn look next (Some s)) calls did
of-start set look next s calls did phase (Reached seen more are reached row) =
    first-then set (amid Turn look next (Some s)) (Looks s seen) calls more did (record { event = Turn; told = refl; finds = refl; may = refl }) refl refl refl are
    (first-then set (amid Turn (Some seen) next (Some s)) (Waits s Bytes s.block s.gap) more more did (record { event = Turn; told = refl; finds = refl; may = IsReached refl phase refl (refl, refl) }) refl refl refl refl
    (of-bytes set (Some seen) next (in_phase Bytes did.tick s) more did refl row))
of-start set look next s calls did phase (NeverReached seen more are reached gone row) =
    first-then set (amid Turn look next (Some s)) (Looks s seen) calls more did (record { event = Turn; told = refl; finds = refl; may = refl }) refl refl refl are
    (cut set Turn (Some seen) next s SourceEnded more did (λ e. cc) (λ e. cc) (gone, NoStart phase reached) (keeps-at set s Start SourceEnded more did phase row))
of-start set look next s calls did phase (NotReached seen more are reached stands row) =
    first-then set (amid Turn look next (Some s)) (Looks s seen) calls more did (record { event = Turn; told = refl; finds = refl; may = refl }) refl refl refl are (stays set Turn (Some seen) next s more did tt row)

of-wait : (set : TxSet) (next : ℕ) (s : Transmission) (limit : ℕ) (result : DestResult) (calls : List Event) (did : TxDid) → (result ≡ Sent → ⊥) → ShowsEnd set Turn None s result → InWait set s limit result calls did → IsMadeOf set (amid Turn None next (Some s)) calls did
of-wait set next s limit result calls did other shows (Due late row) = cut set Turn None next s result calls did (λ e. cc) other shows row
of-wait set next s limit result calls did other shows (NotDue early row) = stays set Turn None next s calls did tt row

of-gap : (set : TxSet) (next : ℕ) (s : Transmission) (until : Tick) (calls : List Event) (did : TxDid) → s.phase ≡ Gap until → InGap set s until.0 calls did → IsMadeOf set (amid Turn None next (Some s)) calls did
of-gap set next s until calls did phase (GapOver over row) =
    first-then set (amid Turn None next (Some s)) (Waits s Bytes s.block s.gap) calls calls did (record { event = Turn; told = refl; finds = refl; may = GapIsOver until refl phase over refl (refl, refl) }) refl refl refl refl
    (of-bytes set None next (in_phase Bytes did.tick s) calls did refl row)
of-gap set next s until calls did phase (GapLasts before row) = stays set Turn None next s calls did tt row

of-turn : (set : TxSet) (next : ℕ) (s : Transmission) (phase : Phase) (calls : List Event) (did : TxDid) → s.phase ≡ phase → InTurn set s phase calls did → IsMadeOf set (amid Turn None next (Some s)) calls did
of-turn set next s Start calls did at row = of-start set None next s calls did at row
of-turn set next s Bytes calls did at row = of-bytes set None next s calls did at row
of-turn set next s Box calls did at row = of-wait set next s set.n_as AsTimeout calls did (λ e. cc) at row
of-turn set next s Fc calls did at row = of-wait set next s set.n_bs BsTimeout calls did (λ e. cc) at row
of-turn set next s (Gap until) calls did at row = of-gap set next s until calls did at row

-- the rows of a flow control
of-answered : (set : TxSet) (next : ℕ) (s : Transmission) (fs bs st : ℕ) (calls : List Event) (did : TxDid) → s.phase ≡ Fc → Answered set s fs bs st calls did → IsMadeOf set (amid (CameFc fs bs st) None next (Some s)) calls did
of-answered set next s fs bs st calls did at (Continues is row) =
    goes-on set (CameFc fs bs st) None next s (in_phase Bytes did.tick (continued set bs st s)) (Waits s Bytes bs (gap_in st set.period)) calls did
    (record { event = CameFc fs bs st; told = refl; finds = refl; may = IsContinued bs st (ap (λ n. CameFc n bs st) is) at refl refl refl }) refl row
of-answered set next s fs bs st calls did at (AsksToWait is row) =
    goes-on set (CameFc fs bs st) None next s (in_phase Fc did.tick s) (Waits s Fc s.block s.gap) calls did
    (record { event = CameFc fs bs st; told = refl; finds = refl; may = IsPaused bs st (ap (λ n. CameFc n bs st) is) at refl (refl, refl) }) refl row
of-answered set next s fs bs st calls did at (Overflows is row) = cut set (CameFc fs bs st) None next s FcOverflow calls did (λ e. cc) (λ e. cc) at (keeps-at set s Fc FcOverflow calls did at row)
of-answered set next s fs bs st calls did at (IsInvalid is row) = cut set (CameFc fs bs st) None next s (InvalidFs fs) calls did (λ e. cc) (λ e. cc) at (keeps-at set s Fc (InvalidFs fs) calls did at row)

ignored : (set : TxSet) (next : ℕ) (s : Transmission) (phase : Phase) (fs bs st : ℕ) (calls : List Event) (did : TxDid) → s.phase ≡ phase → (IsAwaiting phase → ⊥) → GoesOn s calls did → IsMadeOf set (amid (CameFc fs bs st) None next (Some s)) calls did
ignored set next s phase fs bs st calls did at out row = stays set (CameFc fs bs st) None next s calls did (let P : Phase → Type 0 = λ p. IsAwaiting p → ⊥ in subst P (sym at) out) row

of-answer : (set : TxSet) (next : ℕ) (s : Transmission) (phase : Phase) (fs bs st : ℕ) (calls : List Event) (did : TxDid) → s.phase ≡ phase → InAnswer set s phase fs bs st calls did → IsMadeOf set (amid (CameFc fs bs st) None next (Some s)) calls did
of-answer set next s Start fs bs st calls did at row = ignored set next s Start fs bs st calls did at (λ a. a) row
of-answer set next s Bytes fs bs st calls did at row = ignored set next s Bytes fs bs st calls did at (λ a. a) row
of-answer set next s Box fs bs st calls did at row = ignored set next s Box fs bs st calls did at (λ a. a) row
of-answer set next s Fc fs bs st calls did at row = of-answered set next s fs bs st calls did at row
of-answer set next s (Gap until) fs bs st calls did at row = ignored set next s (Gap until) fs bs st calls did at (λ a. a) row

-- the rows of a frame that left
of-left : (set : TxSet) (next : ℕ) (s : Transmission) (calls : List Event) (did : TxDid) → s.phase ≡ Box → FrameLeft set s calls did → IsMadeOf set (amid Left None next (Some s)) calls did
of-left set next s calls did box (LastLeft whole row) = ends set Left None next s s.len Keeps Sent calls did (IsWhole refl box whole refl refl refl) row
of-left set next s calls did box (FirstLeft first more row) =
    goes-on set Left None next s (in_phase Fc did.tick (record s { sent = next_part set s })) (Leaves s (next_part set s) s.number s.block Fc) calls did
    (record { event = Left; told = refl; finds = refl; may = record { left = refl; box = box; more = omega (arith, first, more); next = AfterFirst first refl refl refl refl } }) refl row
of-left set next s calls did box (BlockLeft some more one row) =
    goes-on set Left None next s _ (Leaves s (s.sent + next_part set s) ((s.number + 1) % 16) (s.block - 1) Fc) calls did
    (record { event = Left; told = refl; finds = refl; may = record { left = refl; box = box; more = more; next = AfterBlock (record { some = some; sent_is = refl; number_is = refl; block_is = refl }) one refl } }) refl row
of-left set next s calls did box (NextLeft some more out row) =
    goes-on set Left None next s _ (Leaves s (s.sent + next_part set s) ((s.number + 1) % 16) (s.block - 1) (Gap (record { 0 = did.tick + s.gap }))) calls did
    (record { event = Left; told = refl; finds = refl; may = record { left = refl; box = box; more = more; next = AfterNext (record { some = some; sent_is = refl; number_is = refl; block_is = refl }) out refl } }) refl row

-- a session's rows
of-live : (set : TxSet) (next : ℕ) (s : Transmission) (event : TxEvent) (calls : List Event) (did : TxDid) → LiveRow set s event calls did → IsMadeOf set (amid event None next (Some s)) calls did
of-live set next s Turn calls did row = of-turn set next s s.phase calls did refl row
of-live set next s (CameFc fs bs st) calls did row = of-answer set next s s.phase fs bs st calls did refl row
of-live set next s Left calls did row = of-left set next s calls did row.0 row.1
of-live set next s RunEnd calls did row = cut set RunEnd None next s (EndOfRun (wait_of s.phase) (record { 0 = s.since })) calls did (λ e. cc) (λ e. cc) refl row

-- a whole step
whole : (set : TxSet) (next : ℕ) (live : Option Transmission) (event : TxEvent) (did : TxDid) → did.new.next ≡ next → IsMadeOf set (amid event None next live) did.calls did → IsMade set (record { next = next; live = live }) event did
whole set next live event did same made = record { effects = made.effects; are = made.are; calls = made.calls_are; act = made.act; records = made.records; next = same ∙ sym made.next; live = made.live; settled = made.settled }

-- no session stands
none-stands : (set : TxSet) (next : ℕ) (event : TxEvent) (did : TxDid) → IsEffect set did.tick (amid event None next None) Misses → NoneStands set next did → IsMade set (record { next = next; live = None }) event did
none-stands set next event did is row = record { effects = Misses ∷ []; are = (is, tt); calls = row.calls_are; act = row.act; records = row.records; next = row.next_is; live = row.live; settled = tt }

-- a session is joined, and the rest follows
joined : (set : TxSet) (next buf len : ℕ) (event : TxEvent) (did : TxDid) (more : List Event) → IsEffect set did.tick (amid event None next None) (Joins buf len) → did.new.next ≡ next + 1 →
    did.calls ≡ (done_by set did.tick (amid event None next None) (Joins buf len)).calls ++ more → IsMadeOf set (amid event None (next + 1) (Some (joined_in did.tick next len))) more did → IsMade set (record { next = next; live = None }) event did
joined set next buf len event did more is next_is are rest = record {
  effects = Joins buf len ∷ rest.effects;
  are = (is, rest.are);
  calls = are ∙ ap (λ l. (done_by set did.tick (amid event None next None) (Joins buf len)).calls ++ l) rest.calls_are;
  act = rest.act;
  records = rest.records;
  next = next_is ∙ sym rest.next;
  live = rest.live;
  settled = rest.settled;
}

of-idle : (set : TxSet) (next : ℕ) (event : TxEvent) (did : TxDid) → IdleRow set next event did → IsMade set (record { next = next; live = None }) event did
of-idle set next Turn did (NothingToSend row) = none-stands set next Turn did (record { event = Turn; told = refl; finds = refl; may = tt }) row
of-idle set next Turn did (JoinsRow buf len more row start) =
    joined set next buf len Turn did more (record { event = Turn; told = refl; finds = refl; may = (tt, row.some) }) row.next_is row.calls_are (of-start set None (next + 1) (joined_in did.tick next len) more did refl start)
of-idle set next (CameFc fs bs st) did row = record { effects = []; are = tt; calls = row.calls_are; act = row.act; records = row.records; next = row.next_is; live = row.live; settled = rw row.live (λ a. a) }
of-idle set next Left did row = absurd row
of-idle set next RunEnd did (NothingStands row) = none-stands set next RunEnd did (record { event = RunEnd; told = refl; finds = refl; may = tt }) row
of-idle set next RunEnd did (FindsOne buf len more row end) =
    joined set next buf len RunEnd did more (record { event = RunEnd; told = refl; finds = refl; may = (tt, row.some) }) row.next_is row.calls_are
    (cut set RunEnd None (next + 1) (joined_in did.tick next len) (EndOfRun ForTurn (record { 0 = did.tick })) more did (λ e. cc) (λ e. cc) refl end)

made-by : (set : TxSet) (next : ℕ) (live : Option Transmission) (event : TxEvent) (did : TxDid) → TxRow set next live event did → IsMade set (record { next = next; live = live }) event did
made-by set next None event did row = of-idle set next event did row
made-by set next (Some s) event did row = whole set next (Some s) event did row.1 (of-live set next s event did.calls did row.0)

pub made : (set : TxSet) (old : TxState) (event : TxEvent) (did : TxDid) → TxStep set old event did → IsMade set old event did
made set old event did row = made-by set old.next old.live event did row
