-- What a receiver's looks at the room see: a destination that hadn't left before the look's window.
use Rattle.std.proofs.Common.{◌≡◌, ℕ, ◌<◌, zero, suc, Bool, true, false, Option, Some, None, List, [], ◌∷◌, ◌++◌, refl, ap, sym, ◌∙◌, subst, arith, cond}
use Rattle.std.specs.List.{AllByRecursion}
use Rattle.hub_core.proofs.Growing.{grows-append}
use Rattle.hub_core.proofs.Turns.{calls-append}
use Rattle.hub_core.specs.Floors.{AreFresh, Floors, IsRoomFresh, staying}
use Rattle.hub_core.specs.Turns.{calls_by}
use Rattle.hub_core.specs.View.{Asked, Event, Session, View, empty_view, grows, session_at}
use Rattle.receiver_law.proofs.records.PutSteps.{AllSee, SeesIn}
use Rattle.tp_receiver.specs.Table.{EndRow}
use Rattle.tp_receiver.specs.State.{Reception, RxDid, RxState, RxTurn}
use Rattle.tp_receiver.specs.declared.set.RxSet.{RxSet}
use Rattle.gw_law.specs.Deeds.{own_view}
use Rattle.gw_law.proofs.runs.PartCalls.{fresh-split}

-- of some that stay one hasn't left
pub stays-one : (parted : ℕ → Bool) (dests : ℕ) → 0 < staying parted dests → (dest : ℕ) × (dest < dests) × (parted dest ≡ false)
stays-one parted zero some = absurd (omega (arith, some))
stays-one parted (suc dests) some = by (parted dests) refl (λ more. stays-one parted dests more)
  where
    by : (b : Bool) → parted dests ≡ b → (0 < staying parted dests → (dest : ℕ) × (dest < dests) × (parted dest ≡ false)) → (dest : ℕ) × (dest < suc dests) × (parted dest ≡ false)
    by false is rest = (dests, omega arith, is)
    by true is rest =
        let count : Bool → ℕ = λ b. cond b 0 1 in
        let none : count (parted dests) ≡ count true = ap count is in
        let one = rest (omega (arith, some, none)) in
        (one.0, omega (arith, one.1), one.2)

-- what follows of each look with floors that it isn't older than
abbrev pub SeesOf : ((seq tick : ℕ) → Type 0) → RxSet → Floors → (tick : ℕ) → Type 0
SeesOf Sees set f tick = (seq dest : ℕ) → dest < set.readers → f.parted set.path.0 dest seq ≡ false → Sees seq tick

look-sees : (Sees : (seq tick : ℕ) → Type 0) (set : RxSet) (f : Floors) (tick : ℕ) (first calls : List Event) (v : View) → v ≡ grows first empty_view → AreFresh f v calls → SeesOf Sees set f tick → SeesIn Sees set first calls tick
look-sees Sees set f tick first calls v is fresh on seq readers look some =
    let F : List Event → Type 0 = λ c. AreFresh f v c in
    let at = (fresh-split f v look.before (Asked set.path.0 seq look.cells readers ∷ look.after) (subst F look.are fresh)).1.0 in
    let view : grows look.before v ≡ grows (first ++ look.before) empty_view = ap (grows look.before) is ∙ sym (grows-append first look.before empty_view) in
    let room : IsRoomFresh f set.path.0 seq look.session look.cells readers = at look.session (ap (λ w. session_at w set.path.0 seq) view ∙ look.there) in
    let one = stays-one (λ dest. f.parted set.path.0 dest seq) look.session.dests (omega (arith, some, room.dests)) in
    on seq one.0 (omega (arith, one.1, look.dests)) one.2

-- so of the turns of a part
pub turns-see : (Sees : (seq tick : ℕ) → Type 0) (set : RxSet) (f : Floors) (tick : ℕ) (turns base : List RxTurn) → AreFresh f (own_view (calls_by base)) (calls_by turns) → AllByRecursion (λ (turn : RxTurn). turn.did.tick ≡ tick) turns → SeesOf Sees set f tick → AllSee Sees set base →
    AllSee Sees set (turns ++ base)
turns-see Sees set f tick [] base fresh timed on earlier = earlier
turns-see Sees set f tick (turn ∷ turns) base fresh timed on earlier =
    let so = fresh-split f (own_view (calls_by base)) (calls_by turns) turn.did.calls fresh in
    let view : grows (calls_by turns) (own_view (calls_by base)) ≡ grows (calls_by (turns ++ base)) empty_view = sym (grows-append (calls_by base) (calls_by turns) empty_view) ∙ ap (λ c. grows c empty_view) (sym (calls-append turns base)) in
    let T : ℕ → Type 0 = λ t. SeesIn Sees set (calls_by (turns ++ base)) turn.did.calls t in
    (subst T (sym timed.0) (look-sees Sees set f tick (calls_by (turns ++ base)) turn.did.calls (grows (calls_by turns) (own_view (calls_by base))) view so.1 on), turns-see Sees set f tick turns base so.0 timed.1 on earlier)

-- at the run's end a receiver doesn't look
pub end-sees : (Sees : (seq tick : ℕ) → Type 0) (set : RxSet) (old : RxState) (busy : Option Reception) (m : RxDid) (first : List Event) → EndRow set old busy m → SeesIn Sees set first m.calls m.tick
end-sees Sees set old None m first row seq readers look some = no-call look.before (sym row.calls ∙ look.are)
  where
    no-call : (before : List Event) → [] ≡ before ++ Asked set.path.0 seq look.cells readers ∷ look.after → Sees seq m.tick
    no-call [] is = absurd cc
    no-call (call ∷ before) is = absurd cc
end-sees Sees set old (Some busy) m first row seq readers look some = no-look look.before (sym row.calls ∙ look.are)
  where
    no-look : (before : List Event) → Rattle.hub_core.specs.View.Closed set.path.0 busy.opened.seq (Rattle.hub_core.specs.Calls.freed_by row.left) ∷ [] ≡ before ++ Asked set.path.0 seq look.cells readers ∷ look.after → Sees seq m.tick
    no-look [] is = absurd cc
    no-look (call ∷ []) is = absurd cc
    no-look (call ∷ next ∷ before) is = absurd cc
