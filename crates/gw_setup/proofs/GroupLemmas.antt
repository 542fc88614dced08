-- The groups of buffers as one list of cells and one of counts, and the group of a path.
use Rattle.std.proofs.Common.{◌≡◌, ℕ, suc, ◌+◌, ◌<◌, ◌≤◌, ◌&&◌, Bool, true, false, Option, Some, None, List, [], ◌∷◌, ◌++◌, length, map, take, drop, sum, refl, sym, ap, ◌∙◌, append_assoc, length-append, arith}
use Rattle.std.specs.Prelude.{slice_get, sum_by, unwrap_or, nat_lt}
use Rattle.std.specs.List.{list_all}
use Rattle.std.specs.Str.{bytes_eq}
use Rattle.std.proofs.Math.Seq.{drop-append_seam, take-append_seam, take-suc}
use Rattle.std.proofs.lemmas.Bool.{and_from, and_parts}
use Rattle.std.proofs.lemmas.List.{append-nil, map-append}
use Rattle.std.proofs.lemmas.List.Folds.{list_all-append}
use Rattle.std.proofs.lemmas.List.Sums.{sum-map, sum_by-cons}
use Rattle.std.proofs.lemmas.Option.{get_or_from_slice_get, slice_get_within}
use Rattle.gw_config.specs.Config.{BusEntry, ChannelEntry, Configuration, PathEntry}
use Rattle.gw_config.specs.Groups.{group_fits}
use Rattle.gw_config.specs.Rows.{number_fits}
use Rattle.gw_config.specs.declared.keys.TheConstants.{GROUP_BUFFER}
use Rattle.hub_core.specs.Groups.{all_sizes, grouped}
use Rattle.route_check.specs.Conflicts.{IsAccepted}
use Rattle.route_check.specs.Entries.{buffers_of, is_source_bus, least_cells}
use Rattle.route_check.specs.declared.conflict.ConflictKind.TheVariants.{NoBuffer}
use Rattle.route_check.specs.declared.conflict.Place.TheVariants.{Bus, Path}
use Rattle.gw_setup.proofs.ConfigLemmas.{bus_named, same_text, source_named, text_same}
use Rattle.gw_setup.proofs.EntryLemmas.{in_range}
use Rattle.gw_setup.proofs.PlaceLemmas.{all_at, any_at, place_of_any}

-- ---- lists of groups

sizes_pushed : (groups : List (List ℕ)) (group : List ℕ) → all_sizes (groups ++ group ∷ []) ≡ all_sizes groups ++ group
sizes_pushed [] group = append-nil group
sizes_pushed (first ∷ groups) group = ap (λ l. first ++ l) (sizes_pushed groups group) ∙ sym (append_assoc first (all_sizes groups) group)

one_more : (groups : List (List ℕ)) (count : ℕ) (group : List ℕ) → slice_get groups count ≡ Some group → take (count + 1) groups ≡ take count groups ++ group ∷ []
one_more groups count group there =
    let next : count + 1 ≡ suc count = omega arith in
    rw next (take-suc groups count group (slice_get_within groups count group there) ∙ ap (λ g. take count groups ++ g ∷ []) (get_or_from_slice_get groups count group group there))

module _ (groups : List (List ℕ)) where
  pub cells_more : (cells longer group : List ℕ) (count : ℕ) → cells ≡ all_sizes (take count groups) → slice_get groups count ≡ Some group → longer ≡ cells ++ group → longer ≡ all_sizes (take (count + 1) groups)
  cells_more cells longer group count before there same =
      same ∙ ap (λ l. l ++ group) before ∙ sym (ap all_sizes (one_more groups count group there) ∙ sizes_pushed (take count groups) group)

  pub counts_more : (counts longer group : List ℕ) (count : ℕ) → counts ≡ map length (take count groups) → slice_get groups count ≡ Some group → longer ≡ counts ++ length group ∷ [] → longer ≡ map length (take (count + 1) groups)
  counts_more counts longer group count before there same =
      same ∙ ap (λ l. l ++ length group ∷ []) before ∙ sym (ap (map length) (one_more groups count group there) ∙ map-append length (take count groups) (group ∷ []))

-- ---- what the groups are cut into

grouped_back : (groups : List (List ℕ)) → grouped (map length groups) (all_sizes groups) ≡ groups
grouped_back [] = refl
grouped_back (group ∷ groups) =
    rw (take-append_seam group (all_sizes groups), drop-append_seam group (all_sizes groups)) (ap (λ l. group ∷ l) (grouped_back groups))

pub groups_are : (groups : List (List ℕ)) (counts cells : List ℕ) → counts ≡ map length groups → cells ≡ all_sizes groups → grouped counts cells ≡ groups
groups_are groups counts cells counts_are cells_are = rw (counts_are, cells_are) (grouped_back groups)

pub grouped_length : (counts cells : List ℕ) → length (grouped counts cells) ≡ length counts
grouped_length [] cells = refl
grouped_length (count ∷ counts) cells = ap suc (grouped_length counts (drop count cells))

sum_by_length : (groups : List (List ℕ)) → sum_by length groups ≡ length (all_sizes groups)
sum_by_length [] = refl
sum_by_length (group ∷ groups) = sum_by-cons length group groups ∙ ap (λ n. length group + n) (sum_by_length groups) ∙ sym (length-append group (all_sizes groups))

pub sum_of_lengths : (groups : List (List ℕ)) → sum (map length groups) ≡ length (all_sizes groups)
sum_of_lengths groups = sum-map length groups ∙ sum_by_length groups

sizes_fit : (groups : List (List ℕ)) → list_all group_fits groups ≡ true → list_all (number_fits GROUP_BUFFER) (all_sizes groups) ≡ true
sizes_fit [] fits = refl
sizes_fit (group ∷ groups) fits =
    let both = and_parts (group_fits group) (list_all group_fits groups) fits in
    list_all-append (number_fits GROUP_BUFFER) group (all_sizes groups) ∙ and_from _ _ (and_parts _ _ both.0).1 (sizes_fit groups both.1)

pub size_fits : (groups : List (List ℕ)) → list_all group_fits groups ≡ true → (k size : ℕ) → slice_get (all_sizes groups) k ≡ Some size → (1 ≤ size) × (size ≤ 8192)
size_fits groups fits k size there = in_range 1 8192 size (all_at (number_fits GROUP_BUFFER) (all_sizes groups) (sizes_fit groups fits) k size there)

pub group_size : (groups : List (List ℕ)) → list_all group_fits groups ≡ true → (k : ℕ) (group : List ℕ) → slice_get groups k ≡ Some group → (1 ≤ length group) × (length group ≤ 32)
group_size groups fits k group there = in_range 1 32 (length group) (and_parts _ _ (all_at group_fits groups fits k group there)).0

-- ---- the group of a path

there_of : (groups : List (List ℕ)) (number : ℕ) (found : Option (List ℕ)) → slice_get groups number ≡ found → (p : ℕ → Bool) → list_all p (unwrap_or found []) ≡ false → number < length groups
there_of groups number None is p not_all = let clash : true ≡ false = not_all in cc
there_of groups number (Some group) is p not_all = slice_get_within groups number group is

module _ (config : Configuration) (accepted : IsAccepted config) where
  group_case : (number on : ℕ) (path : PathEntry) (bus : BusEntry) → slice_get config.path number ≡ Some path → slice_get config.bus on ≡ Some bus → is_source_bus config.channel path bus ≡ true →
      (b : Bool) → list_all (λ cells. nat_lt cells (least_cells path bus.fd)) (buffers_of config.groups path.group) ≡ b → path.group < length config.groups
  group_case number on path bus there here source true is = absurd (accepted (record { kind = NoBuffer; place = Path; first = number; other = Bus; second = on }) (rw (there, here) (and_from _ _ source is)))
  group_case number on path bus there here source false is = there_of config.groups path.group _ refl (λ cells. nat_lt cells (least_cells path bus.fd)) is

  -- a path's group is there, since one of its buffers is large enough for the path
  pub group_there : (number : ℕ) (path : PathEntry) → slice_get config.path number ≡ Some path → path.group < length config.groups
  group_there number path there =
      let channel = source_named config accepted number path there in
      let bus = place_of_any _ config.bus (bus_named config accepted channel.0 channel.1.item channel.1.there) in
      let on : bytes_eq channel.1.item.bus bus.1.item.name ≡ true = text_same channel.1.item.bus bus.1.item.name (sym (same_text bus.1.item.name channel.1.item.bus bus.1.passes)) in
      let source : is_source_bus config.channel path bus.1.item ≡ true =
      any_at (λ (c : ChannelEntry). bytes_eq c.name path.from && bytes_eq c.bus bus.1.item.name) config.channel channel.0 channel.1.item channel.1.there (and_from _ _ channel.1.passes on) in
      group_case number bus.0 path bus.1.item there bus.1.there source _ refl
