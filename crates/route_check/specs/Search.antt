-- What a search through some of the conflicts has found.
use Rattle.std.specs.Prelude.{◌≡◌, ℕ, Option, None, Some}
use Rattle.gw_config.specs.Config.{Configuration}
use Rattle.route_check.specs.declared.conflict.ConflictKind.{ConflictKind}
use Rattle.route_check.specs.declared.conflict.ConflictKind.TheVariants.{UnknownName}
use Rattle.route_check.specs.declared.conflict.Place.{Place}
use Rattle.route_check.specs.declared.conflict.Conflict.{Conflict}
use Rattle.route_check.specs.Names.{entry_count, name_count}
use Rattle.route_check.specs.Conflicts.{IsConflict}
use Rattle.route_check.specs.Order.{IsBefore}

-- any conflict
abbrev pub IsAny : Conflict → Type 0
IsAny conflict = Unit {0}

-- a conflict of the kind
abbrev pub IsOfKind : ConflictKind → Conflict → Type 0
IsOfKind kind conflict = conflict.kind ≡ kind

-- so, and of the first table
abbrev pub IsOfTable : ConflictKind → Place → Conflict → Type 0
IsOfTable kind place conflict = IsOfKind kind conflict × (conflict.place ≡ place)

-- so, and of the first entry
abbrev pub IsOfEntry : ConflictKind → Place → ℕ → Conflict → Type 0
IsOfEntry kind place first conflict = IsOfTable kind place conflict × (conflict.first ≡ first)

-- so, and of the other table
abbrev pub IsOfTables : ConflictKind → Place → ℕ → Place → Conflict → Type 0
IsOfTables kind place first other conflict = IsOfEntry kind place first conflict × (conflict.other ≡ other)

-- a conflict among some that none of them is before
pub record IsFirstOf (config : Configuration) (IsAmong : Conflict → Type 0) (found : Conflict) : Type 0 where
  pub among : IsAmong found
  pub holds : IsConflict config found
  pub first : (other : Conflict) → IsAmong other → IsConflict config other → IsBefore other found → ⊥

-- the first conflict among some, or none where none of them holds
abbrev pub IsFirstAmong : Configuration → (Conflict → Type 0) → Option Conflict → Type 0
IsFirstAmong config IsAmong None = (conflict : Conflict) → IsAmong conflict → IsConflict config conflict → ⊥
IsFirstAmong config IsAmong (Some found) = IsFirstOf config IsAmong found

-- how many numbers the other place may have: those of a table's entries, or of an entry's names
abbrev pub second_count : ConflictKind → Configuration → Place → ℕ → Place → ℕ
second_count UnknownName config place first other = name_count config place first
second_count _ config place first other = entry_count config other
