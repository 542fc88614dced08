-- The numbers of a conflict's entries are below how many there are.
use Rattle.std.proofs.Common.{◌≡◌, ℕ, ◌+◌, ◌-◌, ◌<◌, Bool, true, false, ◌&&◌, ◌||◌, List, [], ◌∷◌, length, zero, suc, Option, None, Some, refl, subst, arith}
use Rattle.std.specs.Prelude.{slice_get, ◌==◌, option_and_then, option_map, if◌then◌else◌}
use Rattle.std.specs.Option.{option_map_or}
use Rattle.std.proofs.lemmas.Bool.Decides.{nat_tests}
use Rattle.gw_config.specs.Config.{Configuration, PathEntry, InterfaceEntry}
use Rattle.route_check.specs.declared.conflict.ConflictKind.{ConflictKind}
use Rattle.route_check.specs.declared.conflict.ConflictKind.TheVariants.{UnknownName, SameAddress, SharedSender, SelfRoute, MixedLength, FunctionalSend, IfOverlap, NoBuffer, BadCancel}
use Rattle.route_check.specs.declared.conflict.Place.{Place}
use Rattle.route_check.specs.declared.conflict.Place.TheVariants.{Bus, Channel, Path, Interface, Cancel}
use Rattle.route_check.specs.declared.conflict.Conflict.{Conflict}
use Rattle.route_check.specs.Names.{entry_count, name_count, channel_of_path, bus_of_interface}
use Rattle.route_check.specs.Entries.{leads_back, repeats}
use Rattle.route_check.specs.Conflicts.{is_so, are_so, is_missing, has_unknown_name, has_same_address, has_shared_sender, has_self_route, has_mixed_length, has_functional_send, has_if_overlap, has_no_buffer, has_bad_cancel, has_conflict}
use Rattle.route_check.specs.Search.{second_count, IsOfTables}

-- an entry that is there has a number below their count
is_so_below : {A : Type 0} → (test : A → Bool) (entries : List A) (i : ℕ) → is_so test (slice_get entries i) ≡ true → i < length entries
is_so_below test [] i so = cc
is_so_below test (entry ∷ entries) zero so = omega arith
is_so_below test (entry ∷ entries) (suc i) so = omega (arith, is_so_below test entries i so)

-- so for two entries
are_so_below : {A B : Type 0} → (test : A → B → Bool) (entries : List A) (others : List B) (i j : ℕ) → are_so test (slice_get entries i) (slice_get others j) ≡ true → (i < length entries) × (j < length others)
are_so_below test [] others i j so = cc
are_so_below test (entry ∷ entries) others (suc i) j so = let rest = are_so_below test entries others i j so in (omega (arith, rest.0), rest.1)
are_so_below test (entry ∷ entries) [] zero j so = cc
are_so_below test (entry ∷ entries) (other ∷ others) zero zero so = (omega arith, omega arith)
are_so_below test (entry ∷ entries) (other ∷ others) zero (suc j) so = let rest = are_so_below test (entry ∷ entries) others zero j so in (rest.0, omega (arith, rest.1))

left_of : (a b : Bool) → (a && b) ≡ true → a ≡ true
left_of true b both = refl
left_of false b both = cc

right_of : (a b : Bool) → (a && b) ≡ true → b ≡ true
right_of true b both = both
right_of false b both = cc

same_number : (i j : ℕ) → (i == j) ≡ true → i ≡ j
same_number i j same = grind (arith, nat_tests)

-- one entry twice
is_so_at_both : {A : Type 0} → (test : A → Bool) (entries : List A) (i j : ℕ) → (i == j && is_so test (slice_get entries i)) ≡ true → (i < length entries) × (j < length entries)
is_so_at_both test entries i j so =
    let below = is_so_below test entries i (right_of _ _ so) in
    let same = same_number i j (left_of _ _ so) in
    (below, omega (arith, below, same))

-- one of the two
either_of : (a b : Bool) (P : Type 0) → (a || b) ≡ true → (a ≡ true → P) → (b ≡ true → P) → P
either_of true b P either left right = left refl
either_of false b P either left right = right either

-- a name said by an entry that is there
missing_mapped : {A : Type 0} → (config : Configuration) (place : Place) (name_of : A → List ℕ) (entries : List A) (i : ℕ) → is_missing config place (option_map name_of (slice_get entries i)) ≡ true → i < length entries
missing_mapped config place name_of [] i missing = cc
missing_mapped config place name_of (entry ∷ entries) zero missing = omega arith
missing_mapped config place name_of (entry ∷ entries) (suc i) missing = omega (arith, missing_mapped config place name_of entries i missing)

missing_chosen : {A : Type 0} → (config : Configuration) (place : Place) (name_of : A → Option (List ℕ)) (entries : List A) (i : ℕ) → is_missing config place (option_and_then name_of (slice_get entries i)) ≡ true → i < length entries
missing_chosen config place name_of [] i missing = cc
missing_chosen config place name_of (entry ∷ entries) zero missing = omega arith
missing_chosen config place name_of (entry ∷ entries) (suc i) missing = omega (arith, missing_chosen config place name_of entries i missing)

-- a name is chosen from an entry that is there
chosen : {A : Type 0} → (test : List ℕ → Bool) (name_of : A → Option (List ℕ)) (P : Type 0) (entries : List A) (i : ℕ) → ((entry : A) → is_so test (name_of entry) ≡ true → P) → is_so test (option_and_then name_of (slice_get entries i)) ≡ true → P
chosen test name_of P [] i use_it so = cc
chosen test name_of P (entry ∷ entries) zero use_it so = use_it entry so
chosen test name_of P (entry ∷ entries) (suc i) use_it so = chosen test name_of P entries i use_it so

-- a path says its source and its destinations
channel_below : (test : List ℕ → Bool) (path : PathEntry) (k : ℕ) (is_source : Bool) → (k == 0) ≡ is_source → is_so test (if is_source then Some path.from else slice_get path.to (k - 1)) ≡ true → k < length path.to + 1
channel_below test path k true is so = let none = same_number k 0 is in omega (arith, none)
channel_below test path k false is so = omega (arith, is_so_below test path.to (k - 1) so)

path_below : (test : List ℕ → Bool) (paths : List PathEntry) (i k : ℕ) → is_so test (option_and_then (channel_of_path k) (slice_get paths i)) ≡ true → k < option_map_or (λ path. length path.to + 1) (slice_get paths i) 0
path_below test [] i k so = cc
path_below test (path ∷ paths) zero k so = channel_below test path k (k == 0) refl so
path_below test (path ∷ paths) (suc i) k so = path_below test paths i k so

-- an interface path says two buses
bus_below : (test : List ℕ → Bool) (interface : InterfaceEntry) (k : ℕ) (is_from is_to : Bool) → (k == 0) ≡ is_from → (k == 1) ≡ is_to → is_so test (if is_from then Some interface.from_bus else if is_to then Some interface.to_bus else None) ≡ true → k < 2
bus_below test interface k true is_to from to so = let none = same_number k 0 from in omega (arith, none)
bus_below test interface k false true from to so = let one = same_number k 1 to in omega (arith, one)
bus_below test interface k false false from to so = cc

unknown_name_below : (config : Configuration) (place : Place) (i : ℕ) (other : Place) (k : ℕ) → has_unknown_name config place i other k ≡ true → (i < entry_count config place) × (k < name_count config place i)
unknown_name_below config Channel i Bus k holds = (missing_mapped config Bus _ config.channel i (right_of _ _ holds), (let is = same_number k 0 (left_of _ _ holds) in omega (arith, is)))
unknown_name_below config Path i Channel k holds = (missing_chosen config Channel (channel_of_path k) config.path i holds, path_below _ config.path i k holds)
unknown_name_below config Interface i Bus k holds = (missing_chosen config Bus (bus_of_interface k) config.interface i holds, chosen _ (bus_of_interface k) (k < 2) config.interface i (λ entry so. bus_below _ entry k (k == 0) (k == 1) refl refl so) holds)
unknown_name_below config Cancel i Channel k holds = (missing_chosen config Channel _ config.cancel i (right_of _ _ holds), (let is = same_number k 1 (left_of _ _ holds) in omega (arith, is)))
unknown_name_below config Cancel i Path k holds = (missing_mapped config Path _ config.cancel i (right_of _ _ holds), (let is = same_number k 0 (left_of _ _ holds) in omega (arith, is)))
unknown_name_below config _ i _ k holds = cc

same_address_below : (config : Configuration) (place : Place) (i : ℕ) (other : Place) (j : ℕ) → has_same_address config place i other j ≡ true → (i < entry_count config place) × (j < entry_count config other)
same_address_below config Channel i Channel j holds = are_so_below _ config.channel config.channel i j (right_of _ _ holds)
same_address_below config _ i _ j holds = cc

shared_sender_below : (config : Configuration) (place : Place) (i : ℕ) (other : Place) (j : ℕ) → has_shared_sender config place i other j ≡ true → (i < entry_count config place) × (j < entry_count config other)
shared_sender_below config Path i Path j holds =
    either_of _ _ ((i < length config.path) × (j < length config.path)) holds
    (λ two. are_so_below _ config.path config.path i j (right_of _ _ two))
    (λ one. is_so_at_both (λ path. repeats path.to) config.path i j one)
shared_sender_below config _ i _ j holds = cc

self_route_below : (config : Configuration) (place : Place) (i : ℕ) (other : Place) (j : ℕ) → has_self_route config place i other j ≡ true → (i < entry_count config place) × (j < entry_count config other)
self_route_below config Path i Channel j holds = are_so_below _ config.path config.channel i j holds
self_route_below config Interface i Interface j holds = is_so_at_both leads_back config.interface i j holds
self_route_below config _ i _ j holds = cc

mixed_length_below : (config : Configuration) (place : Place) (i : ℕ) (other : Place) (j : ℕ) → has_mixed_length config place i other j ≡ true → (i < entry_count config place) × (j < entry_count config other)
mixed_length_below config Channel i Bus j holds = are_so_below _ config.channel config.bus i j holds
mixed_length_below config _ i _ j holds = cc

functional_send_below : (config : Configuration) (place : Place) (i : ℕ) (other : Place) (j : ℕ) → has_functional_send config place i other j ≡ true → (i < entry_count config place) × (j < entry_count config other)
functional_send_below config Path i Channel j holds = are_so_below _ config.path config.channel i j holds
functional_send_below config _ i _ j holds = cc

if_overlap_below : (config : Configuration) (place : Place) (i : ℕ) (other : Place) (j : ℕ) → has_if_overlap config place i other j ≡ true → (i < entry_count config place) × (j < entry_count config other)
if_overlap_below config Interface i Channel j holds = are_so_below _ config.interface config.channel i j holds
if_overlap_below config Interface i Interface j holds = are_so_below _ config.interface config.interface i j (right_of _ _ holds)
if_overlap_below config _ i _ j holds = cc

no_buffer_below : (config : Configuration) (place : Place) (i : ℕ) (other : Place) (j : ℕ) → has_no_buffer config place i other j ≡ true → (i < entry_count config place) × (j < entry_count config other)
no_buffer_below config Path i Bus j holds = are_so_below _ config.path config.bus i j holds
no_buffer_below config _ i _ j holds = cc

bad_cancel_below : (config : Configuration) (place : Place) (i : ℕ) (other : Place) (j : ℕ) → has_bad_cancel config place i other j ≡ true → (i < entry_count config place) × (j < entry_count config other)
bad_cancel_below config Cancel i Path j holds = are_so_below _ config.cancel config.path i j holds
bad_cancel_below config _ i _ j holds = cc

-- so for every kind
numbers_below : (config : Configuration) (kind : ConflictKind) (place : Place) (i : ℕ) (other : Place) (j : ℕ) → has_conflict kind config place i other j ≡ true → (i < entry_count config place) × (j < second_count kind config place i other)
numbers_below config UnknownName = unknown_name_below config
numbers_below config SameAddress = same_address_below config
numbers_below config SharedSender = shared_sender_below config
numbers_below config SelfRoute = self_route_below config
numbers_below config MixedLength = mixed_length_below config
numbers_below config FunctionalSend = functional_send_below config
numbers_below config IfOverlap = if_overlap_below config
numbers_below config NoBuffer = no_buffer_below config
numbers_below config BadCancel = bad_cancel_below config

-- a conflict's first entry is there
pub first_below : (config : Configuration) (kind : ConflictKind) (place : Place) (i : ℕ) (other : Place) (j : ℕ) → has_conflict kind config place i other j ≡ true → i < entry_count config place
first_below config kind place i other j holds = (numbers_below config kind place i other j holds).0

-- its other number is one of those that it may have
pub second_below : (config : Configuration) (kind : ConflictKind) (place : Place) (at : ℕ) (other : Place) (conflict : Conflict) → IsOfTables kind place at other conflict → has_conflict conflict.kind config conflict.place conflict.first conflict.other conflict.second ≡ true → conflict.second < second_count kind config place at other
second_below config kind place at other conflict among holds =
    subst (λ n. conflict.second < n) (same conflict.kind conflict.place conflict.first conflict.other among.0.0.0 among.0.0.1 among.0.1 among.1)
    (numbers_below config conflict.kind conflict.place conflict.first conflict.other conflict.second holds).1
  where
    same : (k : ConflictKind) (p : Place) (f : ℕ) (o : Place) → k ≡ kind → p ≡ place → f ≡ at → o ≡ other → second_count k config p f o ≡ second_count kind config place at other
    same k p f o ek ep ef eo = cc
