-- The conflicts of a configuration: of each kind, which places it has and what holds of the entries there.
use Rattle.std.specs.Prelude.{ℕ, ◌==◌, Bool, false, not, ◌&&◌, ◌||◌, nat_lt, IsTrue, List, Option, None, Some, slice_get, option_map, option_and_then}
use Rattle.std.specs.Option.{option_map_or}
use Rattle.gw_config.specs.Config.{Configuration}
use Rattle.route_check.specs.declared.conflict.ConflictKind.{ConflictKind}
use Rattle.route_check.specs.declared.conflict.ConflictKind.TheVariants.{UnknownName, SameAddress, SharedSender, SelfRoute, MixedLength, FunctionalSend, IfOverlap, NoBuffer, BadCancel}
use Rattle.route_check.specs.declared.conflict.Place.{Place}
use Rattle.route_check.specs.declared.conflict.Place.TheVariants.{Bus, Channel, Path, Interface, Cancel}
use Rattle.route_check.specs.declared.conflict.Conflict.{Conflict}
use Rattle.route_check.specs.Names.{is_named, channel_of_path, bus_of_interface}
use Rattle.route_check.specs.Entries.{share_address, share_channel, repeats, leads_back_to, leads_back, is_too_long_for, sends_functionally, overlaps_channel, share_target, lacks_buffer, is_unfit_for}
use Rattle.route_check.specs.Order.{IsBefore}

-- the entry is there, and it is so
abbrev pub is_so : {A : Type 0} → (A → Bool) → Option A → Bool
is_so test found = option_map_or test found false

-- both entries are there, and they are so
abbrev pub are_so : {A B : Type 0} → (A → B → Bool) → Option A → Option B → Bool
are_so test (Some one) (Some other) = test one other
are_so test (Some one) None = false
are_so test None other = false

-- a name is said that no entry of the table has
abbrev pub is_missing : Configuration → Place → Option (List ℕ) → Bool
is_missing config place said = is_so (λ name. not (is_named config place name)) said

-- the entry numbered i says, as its k-th name, one that isn't there; a cancellation's names are its path, 0, and its destination, 1
abbrev pub has_unknown_name : Configuration → Place → ℕ → Place → ℕ → Bool
has_unknown_name config Channel i Bus k = k == 0 && is_missing config Bus (option_map (λ channel. channel.bus) (slice_get config.channel i))
has_unknown_name config Path i Channel k = is_missing config Channel (option_and_then (channel_of_path k) (slice_get config.path i))
has_unknown_name config Interface i Bus k = is_missing config Bus (option_and_then (bus_of_interface k) (slice_get config.interface i))
has_unknown_name config Cancel i Channel k = k == 1 && is_missing config Channel (option_and_then (λ cancel. cancel.to) (slice_get config.cancel i))
has_unknown_name config Cancel i Path k = k == 0 && is_missing config Path (option_map (λ cancel. cancel.path) (slice_get config.cancel i))
has_unknown_name config _ _ _ _ = false

-- channel i and a later channel j share an address
abbrev pub has_same_address : Configuration → Place → ℕ → Place → ℕ → Bool
has_same_address config Channel i Channel j = nat_lt i j && are_so share_address (slice_get config.channel i) (slice_get config.channel j)
has_same_address config _ _ _ _ = false

-- path i and a later path j share a channel, or path i sends twice to one
abbrev pub has_shared_sender : Configuration → Place → ℕ → Place → ℕ → Bool
has_shared_sender config Path i Path j =
    nat_lt i j && are_so share_channel (slice_get config.path i) (slice_get config.path j)
    || i == j && is_so (λ path. repeats path.to) (slice_get config.path i)
has_shared_sender config _ _ _ _ = false

-- path i leads to its source, channel c, or interface path i to where it comes from
abbrev pub has_self_route : Configuration → Place → ℕ → Place → ℕ → Bool
has_self_route config Path i Channel c = are_so leads_back_to (slice_get config.path i) (slice_get config.channel c)
has_self_route config Interface i Interface j = i == j && is_so leads_back (slice_get config.interface i)
has_self_route config _ _ _ _ = false

-- channel i has frames that are too long for its bus b
abbrev pub has_mixed_length : Configuration → Place → ℕ → Place → ℕ → Bool
has_mixed_length config Channel i Bus b = are_so is_too_long_for (slice_get config.channel i) (slice_get config.bus b)
has_mixed_length config _ _ _ _ = false

-- path i leads to channel c, which is functional
abbrev pub has_functional_send : Configuration → Place → ℕ → Place → ℕ → Bool
has_functional_send config Path i Channel c = are_so sends_functionally (slice_get config.path i) (slice_get config.channel c)
has_functional_send config _ _ _ _ = false

-- interface path i overlaps channel c, or gives the same frames as a later interface path j
abbrev pub has_if_overlap : Configuration → Place → ℕ → Place → ℕ → Bool
has_if_overlap config Interface i Channel c = are_so overlaps_channel (slice_get config.interface i) (slice_get config.channel c)
has_if_overlap config Interface i Interface j = nat_lt i j && are_so share_target (slice_get config.interface i) (slice_get config.interface j)
has_if_overlap config _ _ _ _ = false

-- no buffer of the group of path i is large enough for it from its bus b
abbrev pub has_no_buffer : Configuration → Place → ℕ → Place → ℕ → Bool
has_no_buffer config Path i Bus b = are_so (lacks_buffer config.groups config.channel) (slice_get config.path i) (slice_get config.bus b)
has_no_buffer config _ _ _ _ = false

-- cancellation i doesn't fit its path p
abbrev pub has_bad_cancel : Configuration → Place → ℕ → Place → ℕ → Bool
has_bad_cancel config Cancel i Path p = are_so is_unfit_for (slice_get config.cancel i) (slice_get config.path p)
has_bad_cancel config _ _ _ _ = false

-- a conflict of this kind between entries of these tables and numbers
abbrev pub has_conflict : ConflictKind → Configuration → Place → ℕ → Place → ℕ → Bool
has_conflict UnknownName = has_unknown_name
has_conflict SameAddress = has_same_address
has_conflict SharedSender = has_shared_sender
has_conflict SelfRoute = has_self_route
has_conflict MixedLength = has_mixed_length
has_conflict FunctionalSend = has_functional_send
has_conflict IfOverlap = has_if_overlap
has_conflict NoBuffer = has_no_buffer
has_conflict BadCancel = has_bad_cancel

-- the configuration has this conflict
abbrev pub IsConflict : Configuration → Conflict → Type 0
IsConflict config conflict = IsTrue (has_conflict conflict.kind config conflict.place conflict.first conflict.other conflict.second)

-- the configuration has no conflict
abbrev pub IsAccepted : Configuration → Type 0
IsAccepted config = (conflict : Conflict) → IsConflict config conflict → ⊥

-- a conflict of the configuration that none of its conflicts is before
pub record IsFirstConflict (config : Configuration) (conflict : Conflict) : Type 0 where
  pub holds : IsConflict config conflict
  pub first : (other : Conflict) → IsConflict config other → IsBefore other conflict → ⊥
