-- Parts of a step, one after another.
use Rattle.std.proofs.Common.{◌≡◌, ℕ, ◌+◌, ◌%◌, ◌<◌, ◌≤◌, true, None, List, [], ◌∷◌, ◌++◌, length, refl, ap, sym, ◌∙◌, subst, arith}
use Rattle.tp_receiver.specs.Port.{HasOpened, carried}
use Rattle.tp_receiver.specs.Grant.{need_of}
use Rattle.tp_receiver.specs.State.{Reception, RxState, RxDid, reception_in, reception_of, idle, state_of}
use Rattle.tp_receiver.specs.Table.{awaited_since, gone_on, later_act, one_less, After, Begins, Interrupts, Opens, Starts, asks, puts}
use Rattle.hub_core.specs.Moves.{moves_of, moves_in}
use Rattle.hub_core.specs.Turns.{Over}
use Rattle.std.proofs.lemmas.Grind.{flat_map-append}
use Rattle.cell_stream.specs.Packing.{IsPacked}
use Rattle.gw_base.specs.Cell.{counted}
use Rattle.std.specs.Prelude.{map}
use Rattle.hub_core.specs.Floors.{Floors, Rise, IsFresh, AreFresh}
use Rattle.hub_core.specs.Tokens.{Writes, SameOpened, asked, opened_new}
use Rattle.hub_core.specs.View.{View, Event, Took, Entered, Asked, Put, Published, grow, grows}
use Rattle.hub_core.specs.declared.port.Room.{Room}
use Rattle.hub_core.specs.declared.record.Move.{Move}
use Rattle.hub_core.specs.declared.record.OpenedAt.{OpenedAt}
use Rattle.hub_core.specs.declared.record.RxWait.TheVariants.{Cf}
use Rattle.hub_core.specs.declared.record.SessionRecord.{SessionRecord}
use Rattle.hub_core.specs.declared.token.Held.{Held}
use Rattle.hub_core.specs.declared.token.Opened.{Opened}
use Rattle.hub_core.proofs.Fresh.{are-fresh-append}
use Rattle.tp_receiver.specs.declared.reception.Reception.{Reception as HeldReception}
use Rattle.tp_receiver.specs.declared.receiver.Receiver.{Receiver}
use Rattle.tp_receiver.specs.declared.reception.State.{State}
use Rattle.tp_receiver.specs.declared.reception.State.TheVariants.{Idle}
use Rattle.tp_receiver.specs.declared.set.RxSet.{RxSet}
use Rattle.tp_unit.specs.Unit.{Meaning, BoxMeaning, Keeps, Offers, Revokes}
use Rattle.hub_core.proofs.Growing.{grows-append, opened-is}

pub moves_in-append : (xs ys : List Event) → moves_in (xs ++ ys) ≡ moves_in xs ++ moves_in ys
moves_in-append xs ys = flat_map-append moves_of xs ys

pub moves_in-puts : (path seq : ℕ) (cells : List ℕ) (count : ℕ) → moves_in (map (λ cell. Put path seq cell) cells ++ Published path seq count ∷ []) ≡ []
moves_in-puts path seq [] count = refl
moves_in-puts path seq (cell ∷ cells) count = moves_in-puts path seq cells count

pub puts-fresh : (floors : Floors) (v : View) (path seq : ℕ) (cells : List ℕ) (count : ℕ) → AreFresh floors v (map (λ cell. Put path seq cell) cells ++ Published path seq count ∷ [])
puts-fresh floors v path seq [] count = (tt, tt)
puts-fresh floors v path seq (cell ∷ cells) count = (tt, puts-fresh floors (grow (Put path seq cell) v) path seq cells count)

pub later-keeps : (act : BoxMeaning) → later_act Keeps act ≡ act
later-keeps Keeps = refl
later-keeps (Offers meaning) = refl
later-keeps Revokes = refl

-- an idle receiver's state
pub idle-is : (r : Receiver) → r.state ≡ Idle → idle (state_of r) ≡ state_of r
idle-is r is = ap (λ (s : State). record (state_of r) { busy = reception_in s }) (sym is)

-- what a part says in other words
pub over-by : {f : Floors} {v w : View} {moves : List Move} {Row Other : List Event → Type 0} → Over f v w moves Row → ((calls : List Event) → Row calls → Other calls) → Over f v w moves Other
over-by over says = record { calls = over.calls; grown = over.grown; fresh = over.fresh; moves_are = over.moves_are; row = says over.calls over.row }

-- first calls, and then a part
pub over-after : {low high : Floors} (u v w : View) (before : List Event) (tick : ℕ) (act : BoxMeaning) (records : List SessionRecord) (new : RxState) (first moves : List Move) (Row : RxDid → Type 0) →
    v ≡ grows before u → Rise low high → AreFresh low u before → first ≡ moves_in before → Over high v w moves (λ calls. Row (record { tick = tick; calls = calls; act = act; records = records; new = new })) →
    Over low u w (first ++ moves) (λ calls. After before (record { tick = tick; calls = calls; act = act; records = records; new = new }) Row)
over-after {low = low} {high = high} u v w before tick act records new first moves Row grown rise fresh firsts over = record {
  calls = before ++ over.calls;
  grown = over.grown ∙ ap (grows over.calls) grown ∙ sym (grows-append before over.calls u);
  fresh = are-fresh-append low high u v before over.calls grown rise fresh over.fresh;
  moves_are = rw (moves_in-append before over.calls, ← firsts, ← over.moves_are) refl;
  row = record { rest = over.calls; calls = refl; row = over.row };
}

-- a look at the room, and then a part
pub over-asked : {low high : Floors} (u v w : View) (set : RxSet) (r : HeldReception) (room : Room) (t : Opened) (tick : ℕ) (act : BoxMeaning) (records : List SessionRecord) (new : RxState) (moves : List Move) (Row : Reception → RxDid → Type 0) →
    r.writer.path.0 ≡ set.path.0 → SameOpened t (asked room r.writer) → v ≡ grow (Asked r.writer.path.0 r.writer.seq room.cells room.readers) u →
    Rise low high → IsFresh u low (Asked r.writer.path.0 r.writer.seq room.cells room.readers) → Over high v w moves (λ calls. Row (reception_of (record r { writer = t })) (record { tick = tick; calls = calls; act = act; records = records; new = new })) →
    Over low u w moves (λ calls. After (asks set (reception_of r) room.cells room.readers) (record { tick = tick; calls = calls; act = act; records = records; new = new }) (Row (reception_of r)))
over-asked {high = high} u v w set r room t tick act records new moves Row path is grown rise fresh over =
    let P : Opened → Type 0 = λ s. Over high v w moves (λ calls. Row (reception_of (record r { writer = s })) (record { tick = tick; calls = calls; act = act; records = records; new = new })) in
    over-after u v w (asks set (reception_of r) room.cells room.readers) tick act records new [] moves (Row (reception_of r))
    (grown ∙ ap (λ p. grow (Asked p r.writer.seq room.cells room.readers) u) path) rise (rw (← path) fresh, tt) refl (subst P (opened-is t (asked room r.writer) is) over)

-- cells are put, and then a part
pub over-put : {low high : Floors} (u v w : View) (set : RxSet) (r next : HeldReception) (t : Opened) (cells : List ℕ) (count tick : ℕ) (act : BoxMeaning) (records : List SessionRecord) (new : RxState) (moves : List Move) (Row : Reception → RxDid → Type 0) →
    r.writer.path.0 ≡ set.path.0 → counted cells ≡ count → SameOpened t (carried cells r.writer) → v ≡ grows (puts r.writer.path.0 r.writer.seq cells) u → Rise low high →
    reception_of next ≡ record (reception_of (record r { writer = t })) { number = (r.number + 1) % 16; since = awaited_since r.wait r.since.0 tick; left = one_less r.left; waits = 0 } →
    Over high v w moves (λ calls. Row (reception_of next) (record { tick = tick; calls = calls; act = act; records = records; new = new })) →
    Over low u w moves (λ calls. After (puts set.path.0 r.writer.seq cells) (record { tick = tick; calls = calls; act = act; records = records; new = new }) (Row (gone_on (reception_of r) count tick)))
over-put {low = low} {high = high} u v w set r next t cells count tick act records new moves Row path counts is grown rise goes over =
    let given : t.given ≡ r.writer.given + count = is.given ∙ ap (λ n. r.writer.given + n) counts in
    let gone : reception_of next ≡ gone_on (reception_of r) count tick = goes ∙ rw (is.len, given, is.seq, is.buf) refl in
    let P : Reception → Type 0 = λ b. Over high v w moves (λ calls. Row b (record { tick = tick; calls = calls; act = act; records = records; new = new })) in
    over-after u v w (puts set.path.0 r.writer.seq cells) tick act records new [] moves (Row (gone_on (reception_of r) count tick))
    (grown ∙ ap (λ p. grows (puts p r.writer.seq cells) u) path) rise (puts-fresh low u set.path.0 r.writer.seq cells (counted cells)) (sym (moves_in-puts set.path.0 r.writer.seq cells (counted cells))) (subst P gone over)

-- a session that is opened
pub has-opened : {low : Floors} (set : RxSet) (next seq len size tick need change : ℕ) (bytes cells : List ℕ) (u v w x : View) (held : Held) (writer t : Opened) →
    v ≡ grow (Took set.group.0 change held.buf.0 held.cells need) u → low.changes set.group.0 < change → held.change ≡ change → need ≤ held.cells → need ≡ need_of set size len (length bytes) →
    w ≡ grow (Entered set.path.0 seq held.buf.0 held.change held.cells len set.readers) v → writer ≡ opened_new held set.path seq len set.readers →
    x ≡ grows (puts writer.path.0 writer.seq cells) w → SameOpened t (carried cells writer) → IsPacked bytes cells → counted cells ≡ length bytes → Writes x t →
    HasOpened set next seq len size tick bytes low u x (record { n = next; size = size; begin = record { 0 = tick }; number = 1; wait = Cf; since = record { 0 = tick }; left = None; waits = 0; change = change; writer = t })
has-opened {low = low} set next seq len size tick need change bytes cells u v w x held writer t took fresh same fits need_is entered new grown carries packed counts writes =
    let Q : Opened → Type 0 = λ o. SameOpened t (carried cells o) in
    let is : SameOpened t (carried cells (opened_new held set.path seq len set.readers)) = subst Q new carries in
    let R : Opened → Type 0 = λ o. x ≡ grows (puts o.path.0 o.seq cells) w in
    let all : x ≡ grows (puts set.path.0 seq cells) w = subst R new grown in
    let given : t.given ≡ length bytes = omega (arith, is.given, counts) in
    record {
      over = record {
        calls = Took set.group.0 change t.buf.0 held.cells need ∷ Entered set.path.0 seq t.buf.0 change held.cells len set.readers ∷ puts set.path.0 seq cells;
        grown = all ∙ ap (grows (puts set.path.0 seq cells)) (entered ∙ ap (grow (Entered set.path.0 seq held.buf.0 held.change held.cells len set.readers)) took)
            ∙ ap (λ n. grows (puts set.path.0 seq cells) (grow (Entered set.path.0 seq held.buf.0 n held.cells len set.readers) (grow (Took set.group.0 change held.buf.0 held.cells need) u))) same
            ∙ ap (λ b. grows (puts set.path.0 seq cells) (grow (Entered set.path.0 seq b.0 change held.cells len set.readers) (grow (Took set.group.0 change b.0 held.cells need) u))) (sym is.buf);
        fresh = (fresh, (tt, puts-fresh low _ set.path.0 seq cells (counted cells)));
        moves_are = ap (λ ms. record { change = change; took = true; buf = t.buf } ∷ ms) (sym (moves_in-puts set.path.0 seq cells (counted cells)));
        row = record { need = need; buffer = held.cells; cells = cells; seq_is = is.seq; need_is = need_is; fits = fits; packed = packed; calls_are = refl };
      };
      is = rw (is.len, given) refl;
      path_is = ap (λ p. p.0) is.path;
      writes = writes;
      told = is.told ∙ sym is.given;
    }

-- a session is opened, and then a part
pub over-opened : {low high : Floors} (u v w : View) (set : RxSet) (seq size len : ℕ) (bytes : List ℕ) (opened : OpenedAt) (tick : ℕ) (act acts : BoxMeaning) (records told : List SessionRecord) (new : RxState) (first moves both : List Move) (Row : RxDid → Type 0) →
    Over low u v first (Opens set seq size len bytes opened) → Rise low high → Over high v w moves (λ calls. Row (record { tick = tick; calls = calls; act = act; records = records; new = new })) →
    both ≡ first ++ moves → acts ≡ act → told ≡ records →
    Over low u w both (λ calls. (opening : List Event) × Opens set seq size len bytes opened opening × After opening (record { tick = tick; calls = calls; act = acts; records = told; new = new }) Row)
over-opened u v w set seq size len bytes opened tick act acts records told new first moves both Row opens rise over boths acts_are tolds =
    rw (boths, acts_are, tolds) (over-by (over-after u v w opens.calls tick act records new first moves Row opens.grown rise opens.fresh opens.moves_are over) (λ calls row. (opens.calls, opens.row, row)))

-- a part in other words of its state
pub over-same : {f : Floors} (v w : View) (set own : RxSet) (old old_is : RxState) (busy busy_is : Reception) (moves : List Move) (Row : RxSet → RxState → Reception → List Event → Type 0) →
    own ≡ set → old_is ≡ old → busy_is ≡ busy → Over f v w moves (Row own old_is busy_is) → Over f v w moves (Row set old busy)
over-same {f = f} v w set own old old_is busy busy_is moves Row sets olds busies over =
    let P : RxSet → Type 0 = λ s. Over f v w moves (Row s old_is busy_is) in
    let Q : RxState → Type 0 = λ o. Over f v w moves (Row set o busy_is) in
    let R : Reception → Type 0 = λ b. Over f v w moves (Row set old b) in
    subst R busies (subst Q olds (subst P sets over))

-- what was ends, and a start begins
pub over-starts : {low high : Floors} (u v w : View) (set own : RxSet) (old mid : RxState) (size : ℕ) (meaning : Meaning) (tick : ℕ) (act later acts : BoxMeaning) (records told both : List SessionRecord) (new final : RxState) (first moves all : List Move) →
    Over low u v first (λ calls. Interrupts set old old.busy (record { tick = tick; calls = calls; act = act; records = records; new = idle old })) →
    own ≡ set → mid ≡ idle old → Rise low high → Over high v w moves (λ calls. Begins own mid size meaning (record { tick = tick; calls = calls; act = later; records = told; new = new })) →
    all ≡ first ++ moves → acts ≡ later_act act later → both ≡ records ++ told → final ≡ new →
    Over low u w all (λ calls. Starts set old size meaning (record { tick = tick; calls = calls; act = acts; records = both; new = final }))
over-starts {low = low} {high = high} u v w set own old mid size meaning tick act later acts records told both new final first moves all ends sets mids rise begins alls acts_are boths finals =
    let P : RxSet → Type 0 = λ s. Over high v w moves (λ calls. Begins s mid size meaning (record { tick = tick; calls = calls; act = later; records = told; new = new })) in
    let Q : RxState → Type 0 = λ o. Over high v w moves (λ calls. Begins set o size meaning (record { tick = tick; calls = calls; act = later; records = told; new = new })) in
    let start : Over high v w moves (λ calls. Begins set (idle old) size meaning (record { tick = tick; calls = calls; act = later; records = told; new = new })) = subst Q mids (subst P sets begins) in
    record {
      calls = ends.calls ++ start.calls;
      grown = start.grown ∙ ap (grows start.calls) ends.grown ∙ sym (grows-append ends.calls start.calls u);
      fresh = are-fresh-append low high u v ends.calls start.calls ends.grown rise ends.fresh start.fresh;
      moves_are = alls ∙ rw (moves_in-append ends.calls start.calls, ← ends.moves_are, ← start.moves_are) refl;
      row = record {
        earlier = record { tick = tick; calls = ends.calls; act = act; records = records; new = idle old };
        later = record { tick = tick; calls = start.calls; act = later; records = told; new = new };
        interrupts = ends.row;
        begins = start.row;
        earlier_tick = refl;
        later_tick = refl;
        calls = refl;
        act = acts_are;
        records = boths;
        new = finals;
      };
    }
