-- The entries of one bus beside the whole list, and the one entry that matches.
use Rattle.std.proofs.Common.{◌≡◌, ℕ, zero, suc, Bool, true, false, ◌&&◌, cond, not, Option, Some, None, List, [], ◌∷◌, refl, sym, ap, ◌∙◌, arith}
use Rattle.std.specs.Prelude.{◌==◌, AllPairs, filter, find, map, option_map, option_to_list, slice_get}
use Rattle.std.specs.List.{list_all}
use Rattle.std.proofs.lemmas.Bool.{and_from, and_parts, both_ways, eq-eqb, eqb-true, false_from_ne_true, not-true, not_from_false}
use Rattle.std.proofs.lemmas.List.Sums.{list_all-from_AllPass}
use Rattle.std.proofs.lemmas.Option.{slice_get-map}
use Rattle.can_frame.specs.declared.id.CanId.{CanId}
use Rattle.can_frame.specs.declared.id.CanId.TheVariants.{Std, Ext}
use Rattle.gw_base.specs.declared.numbers.BusNo.{BusNo}
use Rattle.route_table.specs.declared.entry.ChanEntry.{ChanEntry}
use Rattle.route_table.specs.declared.entry.IfEntry.{IfEntry}
use Rattle.route_table.specs.Match.{addresses_overlap, are_apart, channels_of, is_addressed, is_match, frame_fits, overlap, paths_of, same_id}

module _ {X : Type 0} (p q : X → Bool) where
  find_next : (x : X) (xs : List X) (passes : Bool) → find p (filter q xs) ≡ find (λ x. q x && p x) xs →
      find p (cond passes (x ∷ filter q xs) (filter q xs)) ≡ cond (passes && p x) (Some x) (find (λ x. q x && p x) xs)
  find_next x xs true rest = ap (cond (p x) (Some x)) rest
  find_next x xs false rest = rest

  -- the first that passes among those that pass another test
  pub find-filter : (xs : List X) → find p (filter q xs) ≡ find (λ x. q x && p x) xs
  find-filter [] = refl
  find-filter (x ∷ xs) = find_next x xs (q x) (find-filter xs)

  filter_next : (x : X) (xs : List X) (passes : Bool) → filter p (filter q xs) ≡ filter (λ x. q x && p x) xs →
      filter p (cond passes (x ∷ filter q xs) (filter q xs)) ≡ cond (passes && p x) (x ∷ filter (λ x. q x && p x) xs) (filter (λ x. q x && p x) xs)
  filter_next x xs true rest = ap (λ kept. cond (p x) (x ∷ kept) kept) rest
  filter_next x xs false rest = rest

  -- those that pass among those that pass another test
  pub filter-filter : (xs : List X) → filter p (filter q xs) ≡ filter (λ x. q x && p x) xs
  filter-filter [] = refl
  filter-filter (x ∷ xs) = filter_next x xs (q x) (filter-filter xs)

same_numbers : (one other number : ℕ) → (one == number) ≡ true → (other == number) ≡ true → (one == other) ≡ true
same_numbers one other number first second = eq-eqb one other (eqb-true one number first ∙ sym (eqb-true other number second))

same_ids : (one other id : CanId) → same_id one id ≡ true → same_id other id ≡ true → same_id one other ≡ true
same_ids (Std one) (Std other) (Std id) first second = same_numbers one other id first second
same_ids (Ext one) (Ext other) (Ext id) first second = same_numbers one other id first second
same_ids (Std one) (Std other) (Ext id) first second = cc
same_ids (Std one) (Ext other) (Std id) first second = cc
same_ids (Std one) (Ext other) (Ext id) first second = cc
same_ids (Ext one) (Std other) (Std id) first second = cc
same_ids (Ext one) (Std other) (Ext id) first second = cc
same_ids (Ext one) (Ext other) (Std id) first second = cc

same_addresses : (one other first : Option ℕ) → is_addressed one first ≡ true → is_addressed other first ≡ true → addresses_overlap one other ≡ true
same_addresses None other first a b = refl
same_addresses (Some one) None first a b = refl
same_addresses (Some one) (Some other) (Some first) a b = same_numbers one other first a b
same_addresses (Some one) (Some other) None a b = cc

module _ (bus : BusNo) (id : CanId) (first : Option ℕ) where
  -- entries that one frame matches overlap
  match_overlap : (one other : ChanEntry) → is_match bus id first one ≡ true → is_match bus id first other ≡ true → overlap one other ≡ true
  match_overlap one other a b =
      let on_a : ((one.bus.0 == bus.0) ≡ true) × (frame_fits id first one ≡ true) = and_parts _ _ a in
      let on_b : ((other.bus.0 == bus.0) ≡ true) × (frame_fits id first other ≡ true) = and_parts _ _ b in
      let named_a : (same_id one.id id ≡ true) × (is_addressed one.address first ≡ true) = and_parts _ _ on_a.1 in
      let named_b : (same_id other.id id ≡ true) × (is_addressed other.address first ≡ true) = and_parts _ _ on_b.1 in
      and_from _ _ (same_numbers one.bus.0 other.bus.0 bus.0 on_a.0 on_b.0)
      (and_from _ _ (same_ids one.id other.id id named_a.0 named_b.0) (same_addresses one.address other.address first named_a.1 named_b.1))

  -- no entry matches that overlaps with none of them
  none_after : (one : ChanEntry) (rest : List ChanEntry) → is_match bus id first one ≡ true → list_all (λ other. not (overlap one other)) rest ≡ true →
      filter (is_match bus id first) rest ≡ []
  none_after one [] a apart = refl
  none_after one (other ∷ rest) a apart =
      let parts : (not (overlap one other) ≡ true) × (list_all (λ other. not (overlap one other)) rest ≡ true) = and_parts _ _ apart in
      let misses : is_match bus id first other ≡ false = false_from_ne_true _ (λ b. both_ways _ (not-true _ parts.0) (match_overlap one other a b)) in
      rw misses (none_after one rest a parts.1)

  one_next : (one : ChanEntry) (rest : List ChanEntry) (matches : Bool) → is_match bus id first one ≡ matches → list_all (λ other. not (overlap one other)) rest ≡ true →
      filter (is_match bus id first) rest ≡ option_to_list (find (is_match bus id first) rest) →
      cond matches (one ∷ filter (is_match bus id first) rest) (filter (is_match bus id first) rest) ≡ option_to_list (cond matches (Some one) (find (is_match bus id first) rest))
  one_next one rest true is apart so_far = ap (λ others. one ∷ others) (none_after one rest is apart)
  one_next one rest false is apart so_far = so_far

  -- of entries that don't overlap at most one matches
  one_match : (channels : List ChanEntry) → are_apart channels ≡ true →
      filter (is_match bus id first) channels ≡ option_to_list (find (is_match bus id first) channels)
  one_match [] apart = refl
  one_match (one ∷ rest) apart =
      let parts : (list_all (λ other. not (overlap one other)) rest ≡ true) × (are_apart rest ≡ true) = and_parts _ _ apart in
      one_next one rest (is_match bus id first one) refl parts.0 (one_match rest parts.1)

  map_list : {A B : Type 0} (f : A → B) (found : Option A) → option_to_list (option_map f found) ≡ map f (option_to_list found)
  map_list f None = refl
  map_list f (Some value) = refl

  -- the first entry of the bus that the frame fits is the one that matches
  pub channel_found : (channels on : List ChanEntry) → are_apart channels ≡ true → on ≡ filter (λ entry. entry.bus.0 == bus.0) channels →
      option_to_list (option_map (λ entry. entry.chan) (find (frame_fits id first) on)) ≡ channels_of channels bus id first
  channel_found channels on apart same =
      rw (same, find-filter (frame_fits id first) (λ entry. entry.bus.0 == bus.0) channels) (map_list (λ entry. entry.chan) _ ∙ ap (map (λ entry. entry.chan)) (sym (one_match channels apart)))

-- entries of which no two overlap are apart
pub are_apart-pairs : (channels : List ChanEntry) → AllPairs (λ one other. overlap one other ≡ false) channels → are_apart channels ≡ true
are_apart-pairs [] pairs = refl
are_apart-pairs (one ∷ rest) pairs =
    and_from _ _
    (list_all-from_AllPass (λ other. not (overlap one other)) rest (λ k d within. not_from_false _ (pairs zero (suc k) d (omega arith) (omega arith))))
    (are_apart-pairs rest (λ i j d below within. pairs (suc i) (suc j) d (omega arith) (omega arith)))

-- the entry of this number among those of the bus that the frame fits is that of this number among all that match
pub path_found : (bus : BusNo) (id : CanId) (at : ℕ) (paths on : List IfEntry) (found : Option IfEntry) → on ≡ filter (λ entry. entry.bus.0 == bus.0) paths →
    found ≡ slice_get (filter (λ entry. same_id entry.id id) on) at → option_map (λ entry. entry.path) found ≡ slice_get (paths_of paths bus id) at
path_found bus id at paths on found same is =
    rw (is, same, filter-filter (λ entry. same_id entry.id id) (λ entry. entry.bus.0 == bus.0) paths) (sym (slice_get-map (λ entry. entry.path) _ at))
