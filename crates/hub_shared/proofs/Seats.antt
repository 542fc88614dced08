-- Seats are made, divided and joined.
use Rattle.std.proofs.Common.{◌≡◌, ℕ, zero, suc, ◌<◌, ◌≤◌, inl, inr, Bool, true, false, List, [], ◌∷◌, ◌++◌, length, set, get_or, refl, ap, sym, ◌∙◌, subst, arith, ◌%◌, ◌^◌, ◌⊎◌, None}
use Rattle.std.specs.Prelude.{if◌then◌else◌, ◌==◌, slice_get}
use mathlib.Core.Option.{some}
use lib.ListN.{get_elem?}
use Rattle.atomic_table.specs.Table.{Splits, Joins, opening}
use Rattle.atomic_table.proofs.Lists.{at_set}
use Rattle.hub_core.proofs.Cut.{all-cut, count-cut, groups-cut}
use Rattle.hub_core.proofs.Fresh.{rise-same}
use Rattle.hub_core.specs.Floors.{Rise, floors_of, number_in, has_left, is_for_in}
use Rattle.hub_core.specs.Groups.{all_sizes, group_of, grouped, journal_of, sizes_of}
use Rattle.hub_layout.specs.Places.{Card, words_in}
use Rattle.hub_layout.specs.Pool.{IsPool}
use Rattle.hub_core.specs.Journal.{changed_buf}
use Rattle.hub_core.specs.Parts.{both, given, kept}
use Rattle.hub_core.specs.View.{Change, Session, Reading, session_at, reading_at, empty_view}
use Rattle.pool_words.specs.Pools.{full_pool, pool_of}
use Rattle.hub_shared.proofs.Cores.{HubState}
use Rattle.hub_shared.proofs.Dealt.{each-set, each-added, total-set, total-part, total-added, dealt-divided, dealt-joined}
use Rattle.hub_shared.proofs.Holding.{held-divided, held-joined}
use Rattle.hub_shared.proofs.Histories.{Goes, begins, goes-kept, goes-given, goes-joined}
use Rattle.hub_shared.proofs.Parties.{of-one-divided, of-one-joined}
use Rattle.hub_shared.proofs.Weights.{length-weight, journal-weight}
use Rattle.hub_shared.specs.History.{state_of, part_of, without, within, united}
use Rattle.hub_shared.specs.Counts.{count_held, weigh}
use Rattle.hub_shared.specs.Cards.{place_of_word}
use Rattle.hub_shared.specs.Rule.{AreWhole, HandKnows, Knows, Kept}
use Rattle.hub_shared.specs.Sights.{view_of, newcomer, kept_sight, given_sight, kept_by, given_by, both_sights, spent}
use Rattle.hub_shared.specs.declared.part.HubPart.{HubPart}
use Rattle.hub_shared.specs.declared.sight.Entry.TheVariants.{Kept as KeptEntry, Given, Joined}
use Rattle.hub_shared.specs.declared.sight.Hand.TheVariants.{Idle, Parting}
use Rattle.hub_shared.specs.declared.sight.Sight.{Sight}

-- what a seat did is a part of what was done, so the numbers of the whole aren't behind its own
rise-own : (groups : List (List ℕ)) (s : HubState) (k : Kept groups s) (id : ℕ) (v : Sight) → get_elem? s.views id ≡ some v → Rise (floors_of groups (view_of v)) (floors_of groups k.core)
rise-own groups s k id v at = record {
  changes = λ group.
      let h : Change → ℕ = λ c. if group_of groups (changed_buf c) == group then 1 else 0 in
      let count : (changes : List Change) → length (journal_of groups group changes) ≡ weigh h changes = λ changes. length-weight (journal_of groups group changes) ∙ journal-weight groups group (λ c. 1) changes in
      let part = total-part (λ u. weigh h (view_of u).changes) s.views id v at in
      omega (arith, part, k.changes h, count (view_of v).changes, count k.core.changes);
  entered = λ group path dest seq. own-session path (λ l. is_for_in groups group dest (slice_get l seq) ≡ true → is_for_in groups group dest (session_at k.core path seq) ≡ true) (λ is. is) (λ is. absurd (no-one is));
  shown = λ path seq. own-session path (λ l. number_in (λ t. t.shown) (slice_get l seq) ≤ number_in (λ t. t.shown) (session_at k.core path seq)) (omega arith) (omega arith);
  closed = λ path seq. own-session path (λ l. has_left (λ t. t.stands) (slice_get l seq) ≡ true → has_left (λ t. t.stands) (session_at k.core path seq) ≡ true) (λ is. is) (λ is. absurd (no-one is));
  read = λ path dest seq. own-reading path dest (λ l. number_in (λ r. length r.cells) (slice_get l seq) ≤ number_in (λ r. length r.cells) (reading_at k.core path dest seq)) (omega arith) (omega arith);
  parted = λ path dest seq. own-reading path dest (λ l. has_left (λ r. r.stands) (slice_get l seq) ≡ true → has_left (λ r. r.stands) (reading_at k.core path dest seq) ≡ true) (λ is. is) (λ is. absurd (no-one is));
}
  where
    no-one : false ≡ true → ⊥
    no-one is = cc

    whole-or : {A : Type 0} (whole : List A) (P : List A → Type 0) → P whole → P [] → (b : Bool) → P (if b then whole else [])
    whole-or whole P all none true = all
    whole-or whole P all none false = none

    own-session : (path : ℕ) (P : List Session → Type 0) → P (k.core.sessions path) → P [] → P ((view_of v).sessions path)
    own-session path P all none = subst P (sym ((k.writers path).each id v at)) (whole-or (k.core.sessions path) P all none ((state_of v.entries).part.writes path))

    own-reading : (path dest : ℕ) (P : List Reading → Type 0) → P (k.core.readings path dest) → P [] → P ((view_of v).readings path dest)
    own-reading path dest P all none = subst P (sym ((k.readers path dest).each id v at)) (whole-or (k.core.readings path dest) P all none ((state_of v.entries).part.reads path dest))

-- a seat is divided by the part that it announced
pub divides : (groups : List (List ℕ)) (id : ℕ) (v : Sight) (named : HubPart) → v.hand ≡ Parting named → 1 < v.parts → named.takes ≤ v.takes → Splits (Kept groups) id v (kept_sight v) (given_sight v)
divides groups id v named hand parts takes s k at =
    subst (λ (x : Sight × Sight). Kept groups (record { words = s.words; homes = s.homes; views = set s.views id x.0 ++ x.1 ∷ [] })) (λ i. (kept_by (sym hand i) v, given_by (sym hand i) v)) (record {
      core = k.core;
      steps = k.steps;
      leads = k.leads;
      quiet = k.quiet;
      wide = k.wide;
      pools = k.pools;
      changes = dealt-divided (λ u. (view_of u).changes) k.core.changes s.views id v l r at (ap (λ p. p.view.changes) mine.is) (ap (λ p. p.view.changes) theirs.is) k.changes;
      refused = dealt-divided (λ u. (view_of u).refused) k.core.refused s.views id v l r at (ap (λ p. p.view.refused) mine.is) (ap (λ p. p.view.refused) theirs.is) k.refused;
      writers = λ path. of-one-divided _ _ _ s.views (k.writers path) id v at ((part_of named).writes path) l r
          (ap (λ p. p.part.writes path) mine.is) (ap (λ p. p.part.writes path) theirs.is) (ap (λ p. p.view.sessions path) mine.is) (ap (λ p. p.view.sessions path) theirs.is);
      readers = λ path dest. of-one-divided _ _ _ s.views (k.readers path dest) id v at ((part_of named).reads path dest) l r
          (ap (λ p. p.part.reads path dest) mine.is) (ap (λ p. p.part.reads path dest) theirs.is) (ap (λ p. p.view.readings path dest) mine.is) (ap (λ p. p.view.readings path dest) theirs.is);
      holders = λ buf. held-divided _ _ s.views (k.holders buf) id v at l r (ap (λ p. p.view.held buf) mine.is) (ap (λ p. p.view.held buf) theirs.is);
      entered = k.entered;
      shown = k.shown;
      takes = let t = total-set (λ u. u.takes) s.views id v l at in let n = total-added (λ u. u.takes) (set s.views id l) r in omega (arith, t, n, k.takes, takes);
      parts = let t = total-set (λ u. u.parts) s.views id v l at in let n = total-added (λ u. u.parts) (set s.views id l) r in omega (arith, t, n, k.parts, parts);
      each = each-added (λ j u. 0 < u.parts → Knows groups k.core s.words u) (set s.views id l) r (λ j some-part. record { groups_are = known.groups_are; whole = theirs.whole; floors = rise; hand = tt })
          (each-set (λ j u. 0 < u.parts → Knows groups k.core s.words u) s.views id l (λ some-part. record { groups_are = known.groups_are; whole = mine.whole; floors = rise; hand = tt }) (λ j u other is. k.each j u is));
      spent_is = each-added (λ j u. u.parts ≡ 0 → u.entries ≡ []) (set s.views id l) r (λ j none. absurd (omega (arith, none)))
          (each-set (λ j u. u.parts ≡ 0 → u.entries ≡ []) s.views id l (λ none. absurd (omega (arith, none, parts))) (λ j u other is. k.spent_is j u is));
    })
  where
    known : Knows groups k.core s.words v
    known = k.each id v at (omega (arith, parts))

    l : Sight
    l = kept_by (Parting named) v

    r : Sight
    r = given_by (Parting named) v

    mine : Goes (KeptEntry named ∷ v.entries) (record { view = kept (part_of named) (view_of v); part = without (part_of named) (state_of v.entries).part })
    mine = goes-kept named v.entries known.whole

    theirs : Goes (Given named ∷ v.entries) (record { view = given (part_of named) (view_of v); part = within (part_of named) (state_of v.entries).part })
    theirs = goes-given named v.entries known.whole

    rise : Rise (floors_of v.groups (view_of v)) (floors_of groups k.core)
    rise = subst (λ (g : List (List ℕ)). Rise (floors_of g (view_of v)) (floors_of groups k.core)) (sym known.groups_are) (rise-own groups s k id v at)

-- a seat takes in another
pub unites : (groups : List (List ℕ)) (id other : ℕ) (v w : Sight) → v.hand ≡ Idle → 0 < v.parts → 0 < w.parts → Joins (Kept groups) id v other w (both_sights v w) spent
unites groups id other v w idle live alive s k at apart found = record {
  core = k.core;
  steps = k.steps;
  leads = k.leads;
  quiet = k.quiet;
  wide = k.wide;
  pools = k.pools;
  changes = dealt-joined (λ u. (view_of u).changes) k.core.changes s.views id other v w b spent at found (ap (λ p. p.view.changes) went.is) refl k.changes;
  refused = dealt-joined (λ u. (view_of u).refused) k.core.refused s.views id other v w b spent at found (ap (λ p. p.view.refused) went.is) refl k.refused;
  writers = λ path. of-one-joined _ _ _ s.views (k.writers path) id v at other w b spent apart found (ap (λ p. p.part.writes path) went.is) (ap (λ p. p.view.sessions path) went.is) refl refl;
  readers = λ path dest. of-one-joined _ _ _ s.views (k.readers path dest) id v at other w b spent apart found (ap (λ p. p.part.reads path dest) went.is) (ap (λ p. p.view.readings path dest) went.is) refl refl;
  holders = λ buf. held-joined _ _ s.views (k.holders buf) id v at other w b spent apart found (ap (λ p. p.view.held buf) went.is) refl;
  entered = k.entered;
  shown = k.shown;
  takes = let t = total-set (λ u. u.takes) s.views id v b at in let n = total-set (λ u. u.takes) views other w spent found in omega (arith, t, n, k.takes);
  parts = let t = total-set (λ u. u.parts) s.views id v b at in let n = total-set (λ u. u.parts) views other w spent found in omega (arith, t, n, k.parts);
  each = each-set (λ j u. 0 < u.parts → Knows groups k.core s.words u) views other spent (λ some-part. absurd (omega (arith, some-part)))
      (λ j u ne e. each-set (λ i x. 0 < x.parts → Knows groups k.core s.words x) s.views id b (λ some-part. record { groups_are = known.groups_are; whole = went.whole; floors = known.floors; hand = subst (HandKnows groups k.core s.words (view_of b).held) (sym idle) tt }) (λ i x away was. k.each i x was) j u e);
  spent_is = each-set (λ j u. u.parts ≡ 0 → u.entries ≡ []) views other spent (λ none. refl)
      (λ j u ne e. each-set (λ i x. x.parts ≡ 0 → x.entries ≡ []) s.views id b (λ none. absurd (omega (arith, none, live))) (λ i x away was. k.spent_is i x was) j u e);
}
  where
    b : Sight
    b = both_sights v w

    views : List Sight
    views = set s.views id b

    known : Knows groups k.core s.words v
    known = k.each id v at live

    theirs : get_elem? s.views other ≡ some w
    theirs = elim (at_set s.views id other b w found) [ inl same ↦ absurd (apart same.0) | inr was ↦ was.1 ]

    went : Goes (Joined ∷ (w.entries ++ v.entries)) (record { view = both (view_of v) (view_of w); part = united (state_of v.entries).part (state_of w.entries).part })
    went = goes-joined v.entries w.entries known.whole (k.each other w theirs alive).whole

-- the first seat of a hub, at words of groups that are whole
pub opens : (groups : List (List ℕ)) (words : List ℕ) → words_in (length groups) (all_sizes groups) ≤ length words → ((group : ℕ) → group < length groups → pool_of (get_or words group 0) ≡ full_pool (length (sizes_of groups group))) → ((at : ℕ) → length groups ≤ at → get_or words at 0 ≡ 0) → Kept groups (opening words [] (newcomer groups))
opens groups words wide full rest = record {
  core = empty_view;
  steps = [];
  leads = refl;
  quiet = λ path seq t at over. absurd cc;
  wide = wide;
  pools = full;
  changes = λ h. refl;
  refused = λ h. refl;
  writers = λ path. record { one = refl; each = λ id v is. only id v is (λ u. (view_of u).sessions path ≡ (if (state_of u.entries).part.writes path then [] else [])) refl };
  readers = λ path dest. record { one = refl; each = λ id v is. only id v is (λ u. (view_of u).readings path dest ≡ (if (state_of u.entries).part.reads path dest then [] else [])) refl };
  holders = λ buf. record { one = refl; each = λ id v is. only id v is (λ u. ((view_of u).held buf ≡ None) ⊎ ((view_of u).held buf ≡ None)) (inl refl) };
  entered = λ path. omega (arith, nothing (length (all_sizes groups)));
  shown = record {
    cards = λ path seq t at some. absurd cc;
    lengths = λ path seq t at some. absurd cc;
    small = λ path seq t at. absurd cc;
    empty = λ buf below nobody. ap (λ (n : ℕ). n % 2 ^ 9) (rest (place_of_word groups (Card buf)) (omega arith));
  };
  takes = omega arith;
  parts = refl;
  each = λ id v is. only id v is (λ u. 0 < u.parts → Knows groups empty_view words u) (λ live. record { groups_are = refl; whole = begins; floors = rise-same (floors_of groups empty_view); hand = tt });
  spent_is = λ id v is. only id v is (λ u. u.parts ≡ 0 → u.entries ≡ []) (λ none. absurd (omega (arith, none)));
}
  where
    nothing : (n : ℕ) → count_held empty_view.held n ≡ 0
    nothing zero = refl
    nothing (suc n) = let rest = nothing n in omega (arith, rest)

    only : (id : ℕ) (v : Sight) → get_elem? (newcomer groups ∷ []) id ≡ some v → (P : Sight → Type 0) → P (newcomer groups) → P v
    only zero v is P holds = let same : newcomer groups ≡ v = cc in subst P same holds
    only (suc id) v is P holds = absurd cc

-- the same by the groups' numbers of buffers
pub opens-at : (counts cells words : List ℕ) → IsPool cells counts → length words ≡ words_in (length counts) cells → AreWhole counts words → ((at : ℕ) → length counts ≤ at → get_or words at 0 ≡ 0) → Kept (grouped counts cells) (opening words [] (newcomer (grouped counts cells)))
opens-at counts cells words pool long full rest = opens (grouped counts cells) words (let same : words_in (length (grouped counts cells)) (all_sizes (grouped counts cells)) ≡ words_in (length counts) cells = (λ i. words_in (groups-cut counts cells i) (all-cut counts cells pool.all i)) in omega (arith, long, same))
    (λ group there. let low : group < length counts = omega (arith, there, groups-cut counts cells) in full group low ∙ ap full_pool (sym (count-cut counts cells group low pool.all)))
    (λ at past. rest at (omega (arith, past, groups-cut counts cells)))
