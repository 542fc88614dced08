-- What two entries have in conflict.
use Rattle.std.specs.Prelude.{ℕ, ◌+◌, ◌-◌, ◌==◌, max, Bool, true, false, not, ◌&&◌, ◌||◌, nat_lt, List, [], ◌∷◌, Option, None, Some, slice_get, unwrap_or, if◌then◌else◌}
use Rattle.std.specs.List.{list_any, list_all}
use Rattle.std.specs.Str.{bytes_eq}
use Rattle.can_frame.specs.declared.id.CanId.{CanId}
use Rattle.can_frame.specs.declared.id.CanId.TheVariants.{Std, Ext}
use Rattle.gw_config.specs.declared.words.Role.{Role}
use Rattle.gw_config.specs.declared.words.Role.TheVariants.{Receive, Send}
use Rattle.gw_config.specs.Config.{BusEntry, ChannelEntry, PathEntry, InterfaceEntry, CancelEntry}
use Rattle.route_check.specs.Names.{is_among}

-- one identifier, of one format
abbrev pub same_id : CanId → CanId → Bool
same_id (Std one) (Std other) = one == other
same_id (Ext one) (Ext other) = one == other
same_id (Std one) (Ext other) = false
same_id (Ext one) (Std other) = false

-- addresses overlap unless both are there and differ
abbrev pub addresses_overlap : Option ℕ → Option ℕ → Bool
addresses_overlap (Some one) (Some other) = one == other
addresses_overlap (Some one) None = true
addresses_overlap None other = true

-- two channels of one bus that a frame may be for, or may come from, both
abbrev pub share_address : ChannelEntry → ChannelEntry → Bool
share_address one other =
    bytes_eq one.bus other.bus
    && (same_id one.rx other.rx && addresses_overlap one.rx_address other.rx_address
    || same_id one.tx other.tx && addresses_overlap one.tx_address other.tx_address)

-- two paths with one source, or with a destination in common
abbrev pub share_channel : PathEntry → PathEntry → Bool
share_channel one other = bytes_eq one.from other.from || list_any (is_among other.to) one.to

-- a name stands twice in a list
abbrev pub repeats : List (List ℕ) → Bool
repeats [] = false
repeats (name ∷ names) = is_among names name || repeats names

-- a path that leads to its source, which is this channel
abbrev pub leads_back_to : PathEntry → ChannelEntry → Bool
leads_back_to path channel = bytes_eq channel.name path.from && is_among path.to path.from

-- an interface path from a bus and identifier to the same bus and identifier
abbrev pub leads_back : InterfaceEntry → Bool
leads_back interface = bytes_eq interface.from_bus interface.to_bus && same_id interface.from_id interface.to_id

-- a channel with frames of more than 8 bytes on this bus, which takes no CAN FD frames
abbrev pub is_too_long_for : ChannelEntry → BusEntry → Bool
is_too_long_for channel bus = nat_lt 8 channel.dl && bytes_eq channel.bus bus.name && not bus.fd

-- a path to this channel, which is functional
abbrev pub sends_functionally : PathEntry → ChannelEntry → Bool
sends_functionally path channel = channel.functional && is_among path.to channel.name

-- an interface path takes what the channel receives, or gives what it sends
abbrev pub overlaps_channel : InterfaceEntry → ChannelEntry → Bool
overlaps_channel interface channel =
    bytes_eq interface.from_bus channel.bus && same_id interface.from_id channel.rx
    || bytes_eq interface.to_bus channel.bus && same_id interface.to_id channel.tx

-- two interface paths give the same frames to one bus
abbrev pub share_target : InterfaceEntry → InterfaceEntry → Bool
share_target one other = bytes_eq one.to_bus other.to_bus && same_id one.to_id other.to_id

-- the bus is that of the path's source
abbrev pub is_source_bus : List ChannelEntry → PathEntry → BusEntry → Bool
is_source_bus channels path bus = list_any (λ channel. bytes_eq channel.name path.from && bytes_eq channel.bus bus.name) channels

-- the most cells that a frame of a bus carries, of CAN FD 9, else 1
abbrev pub frame_cells : Bool → ℕ
frame_cells fd = if fd then 9 else 1

-- the cells that some buffer must have: those of a frame, and, unless a unit is stored whole first, all below the threshold beside them
abbrev pub least_cells : PathEntry → Bool → ℕ
least_cells path fd = if path.store then frame_cells fd else max (frame_cells fd) (path.threshold + frame_cells fd - 1)

-- the buffers of the group of this number; there are none where that group isn't there
abbrev pub buffers_of : List (List ℕ) → ℕ → List ℕ
buffers_of groups number = unwrap_or (slice_get groups number) []

-- a path from this bus for whose units every buffer of its group is too small
abbrev pub lacks_buffer : List (List ℕ) → List ChannelEntry → PathEntry → BusEntry → Bool
lacks_buffer groups channels path bus =
    is_source_bus channels path bus
    && list_all (λ cells. nat_lt cells (least_cells path bus.fd)) (buffers_of groups path.group)

-- a receiving side has no destination, and a sending side has one of the path's; else they don't fit
abbrev pub is_misplaced : Role → Option (List ℕ) → List (List ℕ) → Bool
is_misplaced Receive (Some name) destinations = true
is_misplaced Receive None destinations = false
is_misplaced Send None destinations = true
is_misplaced Send (Some name) destinations = not (is_among destinations name)

-- a cancellation of this path that doesn't fit it
abbrev pub is_unfit_for : CancelEntry → PathEntry → Bool
is_unfit_for cancel path = bytes_eq path.name cancel.path && is_misplaced cancel.role cancel.to path.to
