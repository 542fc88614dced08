-- Flow controls and frames up to a tick, and what a transmission is at by them.
use Rattle.std.proofs.Common.{◌≡◌, ℕ, zero, suc, ◌+◌, ◌<◌, ◌≤◌, Bool, true, false, cond, Option, List, [], ◌∷◌, ◌++◌, refl, ap, sym, ◌∙◌, arith, append-nil}
use Rattle.flow_plan.specs.Pace.{Awaits, Control, May, Pace, Refused, after_frames, answered, answered_all, answered_by, block_of, came_to, pace_once}
use Rattle.flow_plan.proofs.Paces.{answered-more, came-all, came-none, is-counted, may-stays, refused-stays}
use Rattle.tp_unit.specs.Box.{Answer}
use Rattle.tp_sender.specs.declared.set.TxSet.{TxSet}
use Rattle.std.specs.Prelude.{nat_le}
use Rattle.std.specs.List.{AllByRecursion}
use Rattle.std.proofs.lemmas.Bool.Decides.{nat_tests}
use Rattle.std.proofs.lemmas.List.{map-append}
use Rattle.std.proofs.lemmas.List.Elements.{filter-append}
use Rattle.gw_base.proofs.Lists.{all-map}
use Rattle.sender_law.specs.Pacing.{control_of, controls_of}
use Rattle.sender_law.specs.TransmissionCauses.{last_of, left_up_to}

-- what is kept up to a tick
pub left-all : (tick : ℕ) (ticks : List ℕ) → AllByRecursion (λ at. at ≤ tick) ticks → left_up_to tick ticks ≡ ticks
left-all tick [] all = refl
left-all tick (x ∷ xs) all =
    let is : nat_le x tick ≡ true = grind (arith, nat_tests, all.0) in
    rw is (ap (λ l. x ∷ l) (left-all tick xs all.1))

pub left-next : (tick : ℕ) (ticks : List ℕ) (next : ℕ) → tick < next → left_up_to tick (ticks ++ next ∷ []) ≡ left_up_to tick ticks
left-next tick ticks next later =
    let is : nat_le next tick ≡ false = grind (arith, nat_tests) in
    filter-append (λ (at : ℕ). nat_le at tick) ticks (next ∷ []) ∙ rw (is, append-nil) refl

-- the flow controls of a run: those that came so far, none above a tick, and those that come later, none below another one
pub record Splits (all so_far : List Answer) (now next : ℕ) : Type 0 where
  pub rest : List Answer
  pub all_is : all ≡ so_far ++ rest
  pub past : AllByRecursion (λ (a : Answer). a.tick ≤ now) so_far
  pub later : AllByRecursion (λ (a : Answer). next ≤ a.tick) rest

-- what they ask for
abbrev pub asked : TxSet → List Answer → List Control
asked tx answers = controls_of tx.period answers

asked-past : (tx : TxSet) (now : ℕ) (answers : List Answer) → AllByRecursion (λ (a : Answer). a.tick ≤ now) answers → came_to now (asked tx answers) ≡ asked tx answers
asked-past tx now answers past = came-all now (asked tx answers) (all-map (λ (c : Control). c.tick ≤ now) (control_of tx.period) answers past)

asked-came : (tx : TxSet) (all so_far : List Answer) (now next : ℕ) → (is : Splits all so_far now next) → came_to now (asked tx all) ≡ asked tx so_far ++ came_to now (asked tx is.rest)
asked-came tx all so_far now next is =
    ap (λ l. came_to now (asked tx l)) is.all_is ∙ ap (came_to now) (map-append (control_of tx.period) so_far is.rest) ∙ filter-append (λ (c : Control). nat_le c.tick now) (asked tx so_far) (asked tx is.rest)
    ∙ ap (λ l. l ++ came_to now (asked tx is.rest)) (asked-past tx now so_far is.past)

pub asked-so-far : (tx : TxSet) (all so_far : List Answer) (now : ℕ) → Splits all so_far now (now + 1) → came_to now (asked tx all) ≡ asked tx so_far
asked-so-far tx all so_far now is =
    asked-came tx all so_far now (now + 1) is ∙ ap (λ l. asked tx so_far ++ l) (came-none now (asked tx is.rest) (all-map (λ (c : Control). now + 1 ≤ c.tick) (control_of tx.period) is.rest is.later)) ∙ append-nil (asked tx so_far)

-- what a transmission is at once these frames left, by the flow controls so far
abbrev pub pace_by : TxSet → (all so_far : List Answer) → (first : ℕ) → (later : List ℕ) → Pace
pace_by tx all so_far first later = answered_all (after_frames (asked tx all) (Awaits first first) later) (asked tx so_far)

-- where those so far are all that came up to a tick, it is at that in the tick
pub pace-now : (tx : TxSet) (all so_far : List Answer) (now first : ℕ) (later : List ℕ) → Splits all so_far now (now + 1) → pace_once now first (asked tx all) later ≡ pace_by tx all so_far first later
pace-now tx all so_far now first later is = ap (answered_all (after_frames (asked tx all) (Awaits first first) later)) (asked-so-far tx all so_far now is)

-- one more flow control
pub pace-answered : (tx : TxSet) (all so_far : List Answer) (a : Answer) (first : ℕ) (later : List ℕ) → pace_by tx all (so_far ++ a ∷ []) first later ≡ answered (pace_by tx all so_far first later) (control_of tx.period a)
pace-answered tx all so_far a first later =
    let q : Pace = after_frames (asked tx all) (Awaits first first) later in
    ap (answered_all q) (map-append (control_of tx.period) so_far (a ∷ [])) ∙ answered-more q (asked tx so_far) (control_of tx.period a ∷ [])

pub pace-may : (tx : TxSet) (all so_far : List Answer) (a : Answer) (first : ℕ) (later : List ℕ) (from gap block : ℕ) → pace_by tx all so_far first later ≡ May from gap (block_of block) → pace_by tx all (so_far ++ a ∷ []) first later ≡ May from gap (block_of block)
pace-may tx all so_far a first later from gap block is = pace-answered tx all so_far a first later ∙ ap (λ p. answered p (control_of tx.period a)) is

pub pace-counted : (tx : TxSet) (all so_far : List Answer) (a : Answer) (first : ℕ) (later : List ℕ) (left since : ℕ) → left < a.tick → pace_by tx all so_far first later ≡ Awaits left since → pace_by tx all (so_far ++ a ∷ []) first later ≡ answered_by (control_of tx.period a) left a.status
pace-counted tx all so_far a first later left since lt is = pace-answered tx all so_far a first later ∙ ap (λ p. answered p (control_of tx.period a)) is ∙ is-counted left since (control_of tx.period a) lt

-- by what came up to a tick, the flow controls so far are answered first
pub pace-later : (tx : TxSet) (all so_far : List Answer) (now first : ℕ) (later : List ℕ) (splits : Splits all so_far now now) → pace_once now first (asked tx all) later ≡ answered_all (pace_by tx all so_far first later) (came_to now (asked tx splits.rest))
pace-later tx all so_far now first later splits =
    let q : Pace = after_frames (asked tx all) (Awaits first first) later in
    ap (answered_all q) (asked-came tx all so_far now now splits) ∙ answered-more q (asked tx so_far) (came_to now (asked tx splits.rest))

-- a refusal stands in its tick
pub pace-refused : (tx : TxSet) (all so_far : List Answer) (now first : ℕ) (later : List ℕ) (at status : ℕ) → Splits all so_far now now → pace_by tx all so_far first later ≡ Refused at status → pace_once now first (asked tx all) later ≡ Refused at status
pace-refused tx all so_far now first later at status splits is =
    let more : List Control = came_to now (asked tx splits.rest) in
    pace-later tx all so_far now first later splits ∙ ap (λ p. answered_all p more) is ∙ refused-stays at status more

-- a next frame that was allowed so far is allowed from the same tick; one for which a flow control is awaited so far, from none earlier
pub may-now : (tx : TxSet) (all so_far : List Answer) (now first : ℕ) (later : List ℕ) (from gap : ℕ) (more : Option ℕ) → Splits all so_far now now → pace_by tx all so_far first later ≡ May from gap more → pace_once now first (asked tx all) later ≡ May from gap more
may-now tx all so_far now first later from gap more splits is = pace-later tx all so_far now first later splits ∙ ap (λ p. answered_all p (came_to now (asked tx splits.rest))) is ∙ may-stays from gap more (came_to now (asked tx splits.rest))

came-one : (bound : ℕ) (c : Control) (controls : List Control) (keeps : Bool) → bound ≤ c.tick → AllByRecursion (λ (d : Control). bound ≤ d.tick) controls → AllByRecursion (λ (d : Control). bound ≤ d.tick) (cond keeps (c ∷ controls) controls)
came-one bound c controls true is all = (is, all)
came-one bound c controls false is all = all

came-from : (bound now : ℕ) (controls : List Control) → AllByRecursion (λ (c : Control). bound ≤ c.tick) controls → AllByRecursion (λ (c : Control). bound ≤ c.tick) (came_to now controls)
came-from bound now [] all = tt
came-from bound now (c ∷ controls) all = came-one bound c (came_to now controls) (nat_le c.tick now) all.0 (came-from bound now controls all.1)

awaits-by : (bound left since from gap : ℕ) (more : Option ℕ) (c : Control) (controls : List Control) (early : Bool) (status : ℕ) → bound ≤ c.tick → ((l s : ℕ) → answered_all (Awaits l s) controls ≡ May from gap more → bound ≤ from) →
    answered_all (cond early (Awaits left since) (answered_by c left status)) controls ≡ May from gap more → bound ≤ from
awaits-by bound left since from gap more c controls true status at later is = later left since is
awaits-by bound left since from gap more c controls false zero at later is =
    let both : May c.tick c.gap (block_of c.block) ≡ May from gap more = sym (may-stays c.tick c.gap (block_of c.block) controls) ∙ is in
    let same : c.tick ≡ from = cc in
    omega (arith, at, same)
awaits-by bound left since from gap more c controls false (suc zero) at later is = later left c.tick is
awaits-by bound left since from gap more c controls false (suc (suc status)) at later is =
    let no : Refused c.tick (suc (suc status)) ≡ May from gap more = sym (refused-stays c.tick (suc (suc status)) controls) ∙ is in cc

awaits-may : (bound left since from gap : ℕ) (more : Option ℕ) (controls : List Control) → AllByRecursion (λ (c : Control). bound ≤ c.tick) controls → answered_all (Awaits left since) controls ≡ May from gap more → bound ≤ from
awaits-may bound left since from gap more [] all is = let no : Awaits left since ≡ May from gap more = is in cc
awaits-may bound left since from gap more (c ∷ controls) all is = awaits-by bound left since from gap more c controls (nat_le c.tick left) c.status all.0 (λ l s. awaits-may bound l s from gap more controls all.1) is

pub may-from : (tx : TxSet) (all so_far : List Answer) (now first : ℕ) (later : List ℕ) (left since from gap : ℕ) (more : Option ℕ) → Splits all so_far now now → pace_by tx all so_far first later ≡ Awaits left since → pace_once now first (asked tx all) later ≡ May from gap more → now ≤ from
may-from tx all so_far now first later left since from gap more splits is may =
    let rest : List Control = asked tx splits.rest in
    let late : AllByRecursion (λ (c : Control). now ≤ c.tick) rest = all-map (λ (c : Control). now ≤ c.tick) (control_of tx.period) splits.rest splits.later in
    awaits-may now left since from gap more (came_to now rest) (came-from now now rest late) (ap (λ p. answered_all p (came_to now rest)) (sym is) ∙ sym (pace-later tx all so_far now first later splits) ∙ may)

-- the last of some ticks and one more
pub last_of-next : (first : ℕ) (more : List ℕ) (next : ℕ) → last_of first (more ++ next ∷ []) ≡ next
last_of-next first [] next = refl
last_of-next first (second ∷ more) next = last_of-next second more next
