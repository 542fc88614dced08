-- The order of conflicts: by kind, then by the first place and its number, then by the other place and its number.
use Rattle.std.specs.Prelude.{◌≡◌, ℕ, ◌<◌, ◌⊎◌}
use Rattle.route_check.specs.declared.conflict.ConflictKind.{ConflictKind}
use Rattle.route_check.specs.declared.conflict.ConflictKind.TheVariants.{UnknownName, SameAddress, SharedSender, SelfRoute, MixedLength, FunctionalSend, IfOverlap, NoBuffer, BadCancel}
use Rattle.route_check.specs.declared.conflict.Place.{Place}
use Rattle.route_check.specs.declared.conflict.Place.TheVariants.{Bus, Channel, Path, Interface, Cancel}
use Rattle.route_check.specs.declared.conflict.Conflict.{Conflict}

-- the place of a kind among the kinds
abbrev pub kind_rank : ConflictKind → ℕ
kind_rank UnknownName = 0
kind_rank SameAddress = 1
kind_rank SharedSender = 2
kind_rank SelfRoute = 3
kind_rank MixedLength = 4
kind_rank FunctionalSend = 5
kind_rank IfOverlap = 6
kind_rank NoBuffer = 7
kind_rank BadCancel = 8

-- the place of a table among the tables of entries
abbrev pub place_rank : Place → ℕ
place_rank Bus = 0
place_rank Channel = 1
place_rank Path = 2
place_rank Interface = 3
place_rank Cancel = 4

-- the first number is below the second, or they are equal and what follows them decides
abbrev pub IsBelowOr : ℕ → ℕ → Type 0 → Type 0
IsBelowOr one other Follows = (one < other) ⊎ ((one ≡ other) × Follows)

-- the one conflict is before the other
abbrev pub IsBefore : Conflict → Conflict → Type 0
IsBefore one other =
    IsBelowOr (kind_rank one.kind) (kind_rank other.kind)
    (IsBelowOr (place_rank one.place) (place_rank other.place)
    (IsBelowOr one.first other.first
    (IsBelowOr (place_rank one.other) (place_rank other.other)
    (one.second < other.second))))
