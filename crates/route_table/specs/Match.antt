-- Which channel and which interface paths a frame belongs to.
use Rattle.std.specs.Prelude.{◌==◌, ◌&&◌, ℕ, Bool, true, false, not, List, [], ◌∷◌, Option, Some, None, filter, map}
use Rattle.std.specs.List.{list_all}
use Rattle.can_frame.specs.declared.id.CanId.{CanId}
use Rattle.can_frame.specs.declared.id.CanId.TheVariants.{Std, Ext}
use Rattle.gw_base.specs.declared.numbers.BusNo.{BusNo}
use Rattle.gw_base.specs.declared.numbers.ChanNo.{ChanNo}
use Rattle.gw_base.specs.declared.numbers.PathNo.{PathNo}
use Rattle.route_table.specs.declared.entry.ChanEntry.{ChanEntry}
use Rattle.route_table.specs.declared.entry.IfEntry.{IfEntry}

-- one format and one number
abbrev pub same_id : CanId → CanId → Bool
same_id (Std one) (Std other) = one == other
same_id (Ext one) (Ext other) = one == other
same_id one other = false

-- the first byte is the address, or there is no address
abbrev pub is_addressed : Option ℕ → Option ℕ → Bool
is_addressed None first = true
is_addressed (Some address) (Some first) = address == first
is_addressed (Some address) None = false

-- a frame of the entry's bus has the entry's identifier and address
abbrev pub frame_fits : CanId → Option ℕ → ChanEntry → Bool
frame_fits id first entry = same_id entry.id id && is_addressed entry.address first

-- a frame of this bus, with this identifier and first byte, matches the entry
abbrev pub is_match : BusNo → CanId → Option ℕ → ChanEntry → Bool
is_match bus id first entry = (entry.bus.0 == bus.0) && frame_fits id first entry

-- the addresses aren't two that differ
abbrev pub addresses_overlap : Option ℕ → Option ℕ → Bool
addresses_overlap (Some one) (Some other) = one == other
addresses_overlap one other = true

-- one bus, one identifier and overlapping addresses
abbrev pub overlap : ChanEntry → ChanEntry → Bool
overlap one other = (one.bus.0 == other.bus.0) && (same_id one.id other.id && addresses_overlap one.address other.address)

-- no two entries overlap
abbrev pub are_apart : List ChanEntry → Bool
are_apart [] = true
are_apart (one ∷ rest) = list_all (λ other. not (overlap one other)) rest && are_apart rest

-- the channels whose entries match, in list order
abbrev pub channels_of : List ChanEntry → BusNo → CanId → Option ℕ → List ChanNo
channels_of channels bus id first = map (λ entry. entry.chan) (filter (is_match bus id first) channels)

-- a frame of this bus with this identifier matches the entry
abbrev pub is_if_match : BusNo → CanId → IfEntry → Bool
is_if_match bus id entry = (entry.bus.0 == bus.0) && same_id entry.id id

-- the interface paths whose entries match, in list order
abbrev pub paths_of : List IfEntry → BusNo → CanId → List PathNo
paths_of paths bus id = map (λ entry. entry.path) (filter (is_if_match bus id) paths)
