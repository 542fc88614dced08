-- A seat that has all parts knows the whole.
use Rattle.std.proofs.Common.{◌≡◌, ℕ, ◌/◌, ◌%◌, ◌^◌, ◌<◌, Bool, true, false, List, [], length, set, get_or, refl, ap, sym, ◌∙◌, subst, arith}
use Rattle.std.specs.Prelude.{if◌then◌else◌}
use mathlib.Core.Option.{none, some}
use mathlib.Core.Path.{fun_ext}
use lib.ListN.{get_elem?}
use Rattle.atomic_table.specs.Table.{step, keeps, Allows}
use Rattle.hub_core.proofs.Quiet.{quiet-joint}
use Rattle.hub_core.specs.Groups.{IsWordOf, changes_in, sizes_of}
use Rattle.hub_core.specs.Joint.{Joint}
use Rattle.hub_core.specs.Journal.{replay}
use Rattle.hub_core.specs.View.{View}
use Rattle.hub_shared.proofs.Cores.{HubState, law, count-now, was-now}
use Rattle.hub_shared.proofs.Dealt.{total-alone, total-part}
use Rattle.hub_shared.proofs.Steps.{same-word, stays}
use Rattle.hub_shared.proofs.Weights.{WeighSame}
use Rattle.hub_shared.proofs.Wholes.{joint-same, word-same}
use Rattle.hub_shared.specs.History.{state_of}
use Rattle.hub_shared.specs.Plays.{SeatMe, KnowsWhole, learned}
use Rattle.hub_shared.specs.Counts.{counts_one, weigh, AreDealt, IsOfOne}
use Rattle.hub_shared.specs.Rule.{Knows, Kept}
use Rattle.hub_shared.specs.Sights.{view_of}
use Rattle.hub_shared.specs.declared.sight.Entry.{Entry}
use Rattle.hub_shared.specs.declared.sight.Sight.{Sight}

module _ (groups : List (List ℕ)) (s : HubState) (k : Kept groups s) (id : ℕ) (v : Sight) (at : get_elem? s.views id ≡ some v) (all : v.parts ≡ 1024) where
  -- a number that is 0 without a history is the one seat's
  alone : (f : List Entry → ℕ) → f [] ≡ 0 → Rattle.hub_shared.specs.Counts.total (λ u. f u.entries) s.views ≡ f v.entries
  alone f empty = total-alone (λ u. f u.entries) (λ u. u.parts) s.views id v at (omega (arith, k.parts, all)) (λ j u is nothing. ap f (k.spent_is j u is nothing) ∙ empty)

  alone-dealt : {A : Type 0} (own : View → List A) (whole : List A) → own (state_of []).view ≡ [] → AreDealt (λ u. own (view_of u)) whole s.views → WeighSame (own (view_of v)) whole
  alone-dealt own whole empty dealt h = sym (alone (λ entries. weigh h (own (state_of entries).view)) (ap (weigh h) empty)) ∙ dealt h

  alone-party : {A : Type 0} (acts : List Entry → Bool) (own : List Entry → List A) (whole : List A) → acts [] ≡ false → IsOfOne (λ u. acts u.entries) (λ u. own u.entries) whole s.views → own v.entries ≡ whole
  alone-party acts own whole idle so = so.each id v at ∙ ap (λ (b : Bool). if b then whole else []) (yes-one (acts v.entries) (sym (alone (λ entries. counts_one (acts entries)) (ap counts_one idle)) ∙ so.one))
    where
      yes-one : (b : Bool) → counts_one b ≡ 1 → b ≡ true
      yes-one true is = refl
      yes-one false is = absurd (omega (arith, is))

  changes : WeighSame (view_of v).changes k.core.changes
  changes = alone-dealt (λ u. u.changes) k.core.changes refl k.changes

  refused : WeighSame (view_of v).refused k.core.refused
  refused = alone-dealt (λ u. u.refused) k.core.refused refl k.refused

  sessions : (view_of v).sessions ≡ k.core.sessions
  sessions = fun_ext (λ path. alone-party (λ entries. (state_of entries).part.writes path) (λ entries. (state_of entries).view.sessions path) (k.core.sessions path) refl (k.writers path))

  readings : (view_of v).readings ≡ k.core.readings
  readings = fun_ext (λ path. fun_ext (λ dest. alone-party (λ entries. (state_of entries).part.reads path dest) (λ entries. (state_of entries).view.readings path dest) (k.core.readings path dest) refl (k.readers path dest)))

  joint-core : Joint groups k.core
  joint-core = quiet-joint groups k.core (law groups s k) k.quiet

  pub knows-whole : (group : ℕ) → group < length groups → KnowsWhole group (get_or s.words group 0) v
  knows-whole group there = record {
    word_is = subst (λ (g : List (List ℕ)). IsWordOf g group (view_of v) (get_or s.words group 0 / 2 ^ 32) (get_or s.words group 0 % 2 ^ 32)) (sym known.groups_are)
        (word-same groups k.core (view_of v) joint-core changes refused group (get_or s.words group 0 / 2 ^ 32) (get_or s.words group 0 % 2 ^ 32)
        (record { number_is = count-now groups s k group there; free_is = (was-now groups s k group there).free ∙ ap (replay (sizes_of groups group) (changes_in groups group k.core)) (count-now groups s k group there) }));
    joint = subst (λ (g : List (List ℕ)). Joint g (view_of v)) (sym known.groups_are) (joint-same groups k.core (view_of v) joint-core changes refused sessions readings);
  }
    where
      known : Knows groups k.core s.words v
      known = k.each id v at (omega (arith, all))

-- a look at a pool word by a seat that may have all parts
pub learns : (groups : List (List ℕ)) (slots id group : ℕ) (m : SeatMe) → 0 < m.0.parts → group < length groups → Allows (Kept groups) slots id m group (λ n. n) (learned (step slots group 0 0 none) m)
learns groups slots id group m live there s k long at low = (
  m.0,
  keeps,
  tt,
  same-word groups s (set s.views id m.0) group (stays groups s k id m.0 at live m.0.hand (k.each id m.0 at live).hand),
  (refl, (let part = total-part (λ u. u.takes) s.views id m.0 at in omega (arith, part, k.takes)), λ all. knows-whole groups s k id m.0 at all group there),
)
