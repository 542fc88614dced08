-- What a search knows when it has passed some of the conflicts.
use Rattle.std.proofs.Common.{◌≡◌, ℕ, ◌+◌, ◌<◌, inl, inr, arith}
use Rattle.std.proofs.lemmas.Bool.{cases_order}
use Rattle.gw_config.specs.Config.{Configuration}
use Rattle.route_check.specs.declared.conflict.Conflict.{Conflict}
use Rattle.route_check.specs.Conflicts.{IsConflict}
use Rattle.route_check.specs.Order.{IsBelowOr, IsBefore}
use Rattle.route_check.specs.Search.{IsFirstOf}

-- no conflict among some has a number below this one
abbrev pub NoneBelow : Configuration → (Conflict → Type 0) → (Conflict → ℕ) → ℕ → Type 0
NoneBelow config IsAmong number_of number = (conflict : Conflict) → IsAmong conflict → number_of conflict < number → IsConflict config conflict → ⊥

-- what is below or followed is not above
pub not_above : (one other : ℕ) (Follows : Type 0) → other < one → IsBelowOr one other Follows → ⊥
not_above one other Follows above (inl below) = omega arith
not_above one other Follows above (inr tail) = omega (arith, tail.0)

-- at equal numbers what follows decides
pub decides : (one other : ℕ) (Follows : Type 0) → one ≡ other → IsBelowOr one other Follows → Follows
decides one other Follows equal (inl below) = absurd (omega arith)
decides one other Follows equal (inr tail) = tail.1

-- none has this number, so none is below the next
pub none_more : (config : Configuration) (IsAmong IsThere : Conflict → Type 0) (number_of : Conflict → ℕ) (number : ℕ) → NoneBelow config IsAmong number_of number → ((conflict : Conflict) → IsAmong conflict → number_of conflict ≡ number → IsThere conflict) → ((conflict : Conflict) → IsThere conflict → IsConflict config conflict → ⊥) → NoneBelow config IsAmong number_of (number + 1)
none_more config IsAmong IsThere number_of number below there none conflict among less holds =
    elim (cases_order (number_of conflict) number) [
      | inl equal ↦ none conflict (there conflict among equal) holds
      | inr rest ↦ elim rest [ inl is_below ↦ below conflict among is_below holds | inr above ↦ absurd (omega arith) ]
    ]

-- the first of those with the least number is the first of all
pub first_of_all : (config : Configuration) (IsAmong IsThere : Conflict → Type 0) (number_of : Conflict → ℕ) (number : ℕ) (found : Conflict) → NoneBelow config IsAmong number_of number → ((conflict : Conflict) → IsAmong conflict → number_of conflict ≡ number → IsThere conflict) → IsAmong found → ((conflict : Conflict) → IsAmong conflict → number < number_of conflict → IsBefore conflict found → ⊥) → IsFirstOf config IsThere found → IsFirstOf config IsAmong found
first_of_all config IsAmong IsThere number_of number found below there among after first = record {
  among = among;
  holds = first.holds;
  first = λ conflict is_among holds before. elim (cases_order (number_of conflict) number) [
    | inl equal ↦ first.first conflict (there conflict is_among equal) holds before
    | inr rest ↦ elim rest [ inl is_below ↦ below conflict is_among is_below holds | inr above ↦ after conflict is_among above before ]
  ];
}
