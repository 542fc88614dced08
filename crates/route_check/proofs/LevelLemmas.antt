-- Each step of the search, by the numbers that it goes through.
use Rattle.std.proofs.Common.{◌≡◌, ℕ, zero, suc, ◌+◌, ◌<◌, true, false, List, [], ◌∷◌, slice_index_or, refl, sym, ap, subst, ◌∙◌, arith}
use Rattle.gw_config.specs.Config.{Configuration}
use Rattle.route_check.specs.declared.conflict.ConflictKind.{ConflictKind}
use Rattle.route_check.specs.declared.conflict.ConflictKind.TheVariants.{UnknownName, SameAddress, SharedSender, SelfRoute, MixedLength, FunctionalSend, IfOverlap, NoBuffer, BadCancel}
use Rattle.route_check.specs.declared.conflict.Place.{Place}
use Rattle.route_check.specs.declared.conflict.Place.TheVariants.{Bus, Channel, Path, Interface, Cancel}
use Rattle.route_check.specs.declared.conflict.Conflict.{Conflict}
use Rattle.route_check.specs.Conflicts.{has_conflict}
use Rattle.route_check.specs.Order.{kind_rank, place_rank}
use Rattle.route_check.specs.Search.{IsAny, IsOfKind, IsOfTable, IsOfEntry, IsOfTables, IsFirstOf}
use Rattle.route_check.proofs.OrderLemmas.{NoneBelow, not_above, decides, none_more, first_of_all}

-- the kinds in order
abbrev pub kinds : List ConflictKind
kinds = UnknownName ∷ SameAddress ∷ SharedSender ∷ SelfRoute ∷ MixedLength ∷ FunctionalSend ∷ IfOverlap ∷ NoBuffer ∷ BadCancel ∷ []

-- there are as many
pub kind_rank_below : (kind : ConflictKind) → kind_rank kind < 9
kind_rank_below UnknownName = omega arith
kind_rank_below SameAddress = omega arith
kind_rank_below SharedSender = omega arith
kind_rank_below SelfRoute = omega arith
kind_rank_below MixedLength = omega arith
kind_rank_below FunctionalSend = omega arith
kind_rank_below IfOverlap = omega arith
kind_rank_below NoBuffer = omega arith
kind_rank_below BadCancel = omega arith

-- each stands at its rank
at_kind_rank : (kind other : ConflictKind) → kind ≡ slice_index_or kinds (kind_rank kind) other
at_kind_rank UnknownName other = refl
at_kind_rank SameAddress other = refl
at_kind_rank SharedSender other = refl
at_kind_rank SelfRoute other = refl
at_kind_rank MixedLength other = refl
at_kind_rank FunctionalSend other = refl
at_kind_rank IfOverlap other = refl
at_kind_rank NoBuffer other = refl
at_kind_rank BadCancel other = refl

pub kind_at : (kind other : ConflictKind) (i : ℕ) → kind_rank kind ≡ i → kind ≡ slice_index_or kinds i other
kind_at kind other i is = subst (λ n. kind ≡ slice_index_or kinds n other) is (at_kind_rank kind other)

pub rank_of_kind_at : (i : ℕ) (other : ConflictKind) → i < 9 → kind_rank (slice_index_or kinds i other) ≡ i
rank_of_kind_at zero other below = refl
rank_of_kind_at (suc zero) other below = refl
rank_of_kind_at (suc (suc zero)) other below = refl
rank_of_kind_at (suc (suc (suc zero))) other below = refl
rank_of_kind_at (suc (suc (suc (suc zero)))) other below = refl
rank_of_kind_at (suc (suc (suc (suc (suc zero))))) other below = refl
rank_of_kind_at (suc (suc (suc (suc (suc (suc zero)))))) other below = refl
rank_of_kind_at (suc (suc (suc (suc (suc (suc (suc zero))))))) other below = refl
rank_of_kind_at (suc (suc (suc (suc (suc (suc (suc (suc zero)))))))) other below = refl
rank_of_kind_at (suc (suc (suc (suc (suc (suc (suc (suc (suc i))))))))) other below = absurd (omega arith)

-- the places in order
abbrev pub places : List Place
places = Bus ∷ Channel ∷ Path ∷ Interface ∷ Cancel ∷ []

-- there are as many
pub place_rank_below : (place : Place) → place_rank place < 5
place_rank_below Bus = omega arith
place_rank_below Channel = omega arith
place_rank_below Path = omega arith
place_rank_below Interface = omega arith
place_rank_below Cancel = omega arith

-- each stands at its rank
at_place_rank : (place other : Place) → place ≡ slice_index_or places (place_rank place) other
at_place_rank Bus other = refl
at_place_rank Channel other = refl
at_place_rank Path other = refl
at_place_rank Interface other = refl
at_place_rank Cancel other = refl

pub place_at : (place other : Place) (i : ℕ) → place_rank place ≡ i → place ≡ slice_index_or places i other
place_at place other i is = subst (λ n. place ≡ slice_index_or places n other) is (at_place_rank place other)

pub rank_of_place_at : (i : ℕ) (other : Place) → i < 5 → place_rank (slice_index_or places i other) ≡ i
rank_of_place_at zero other below = refl
rank_of_place_at (suc zero) other below = refl
rank_of_place_at (suc (suc zero)) other below = refl
rank_of_place_at (suc (suc (suc zero))) other below = refl
rank_of_place_at (suc (suc (suc (suc zero)))) other below = refl
rank_of_place_at (suc (suc (suc (suc (suc i))))) other below = absurd (omega arith)

-- the first conflict of a kind with the least kind is the first of all
pub first_kind : (config : Configuration) (i : ℕ) (other : ConflictKind) (found : Conflict) → i < 9 → NoneBelow config IsAny (λ conflict. kind_rank conflict.kind) i → IsFirstOf config (IsOfKind (slice_index_or kinds i other)) found → IsFirstOf config IsAny found
first_kind config i other found below none first =
    first_of_all config IsAny (IsOfKind (slice_index_or kinds i other)) (λ conflict. kind_rank conflict.kind) i found none
    (λ conflict among rank. kind_at conflict.kind other i rank) tt
    (λ conflict among above before.
    let rank : kind_rank found.kind ≡ i = ap kind_rank first.among ∙ rank_of_kind_at i other below in
    not_above (kind_rank conflict.kind) (kind_rank found.kind) _ (omega arith) before)
    first

-- so for the tables of a kind
pub first_table : (config : Configuration) (kind : ConflictKind) (i : ℕ) (other : Place) (found : Conflict) → i < 5 → NoneBelow config (IsOfKind kind) (λ conflict. place_rank conflict.place) i → IsFirstOf config (IsOfTable kind (slice_index_or places i other)) found → IsFirstOf config (IsOfKind kind) found
first_table config kind i other found below none first =
    first_of_all config (IsOfKind kind) (IsOfTable kind (slice_index_or places i other)) (λ conflict. place_rank conflict.place) i found none
    (λ conflict among rank. (among, place_at conflict.place other i rank)) first.among.0
    (λ conflict among above before.
    let rank : place_rank found.place ≡ i = ap place_rank first.among.1 ∙ rank_of_place_at i other below in
    not_above (place_rank conflict.place) (place_rank found.place) _ (omega arith)
    (decides _ _ _ (ap kind_rank (among ∙ sym first.among.0)) before))
    first

-- so for the entries of a table
pub first_entry : (config : Configuration) (kind : ConflictKind) (place : Place) (i : ℕ) (found : Conflict) → NoneBelow config (IsOfTable kind place) (λ conflict. conflict.first) i → IsFirstOf config (IsOfEntry kind place i) found → IsFirstOf config (IsOfTable kind place) found
first_entry config kind place i found none first =
    first_of_all config (IsOfTable kind place) (IsOfEntry kind place i) (λ conflict. conflict.first) i found none
    (λ conflict among is. (among, is)) first.among.0
    (λ conflict among above before.
    let is : found.first ≡ i = first.among.1 in
    not_above conflict.first found.first _ (omega arith)
    (decides _ _ _ (ap place_rank (among.1 ∙ sym first.among.0.1))
    (decides _ _ _ (ap kind_rank (among.0 ∙ sym first.among.0.0)) before)))
    first

-- so for the other tables
pub first_other : (config : Configuration) (kind : ConflictKind) (place : Place) (at i : ℕ) (other : Place) (found : Conflict) → i < 5 → NoneBelow config (IsOfEntry kind place at) (λ conflict. place_rank conflict.other) i → IsFirstOf config (IsOfTables kind place at (slice_index_or places i other)) found → IsFirstOf config (IsOfEntry kind place at) found
first_other config kind place at i other found below none first =
    first_of_all config (IsOfEntry kind place at) (IsOfTables kind place at (slice_index_or places i other)) (λ conflict. place_rank conflict.other) i found none
    (λ conflict among rank. (among, place_at conflict.other other i rank)) first.among.0
    (λ conflict among above before.
    let rank : place_rank found.other ≡ i = ap place_rank first.among.1 ∙ rank_of_place_at i other below in
    not_above (place_rank conflict.other) (place_rank found.other) _ (omega arith)
    (decides _ _ _ (among.1 ∙ sym first.among.0.1)
    (decides _ _ _ (ap place_rank (among.0.1 ∙ sym first.among.0.0.1))
    (decides _ _ _ (ap kind_rank (among.0.0 ∙ sym first.among.0.0.0)) before))))
    first

-- the first number at which a conflict holds gives the first conflict
pub first_second : (config : Configuration) (kind : ConflictKind) (place : Place) (at : ℕ) (other : Place) (i : ℕ) → NoneBelow config (IsOfTables kind place at other) (λ conflict. conflict.second) i → has_conflict kind config place at other i ≡ true → IsFirstOf config (IsOfTables kind place at other) (record { kind = kind; place = place; first = at; other = other; second = i })
first_second config kind place at other i none holds = record {
  among = (((refl, refl), refl), refl);
  holds = holds;
  first = λ conflict among is before.
      none conflict among
      (decides _ _ _ (ap place_rank among.1)
      (decides _ _ _ among.0.1
      (decides _ _ _ (ap place_rank among.0.0.1)
      (decides _ _ _ (ap kind_rank among.0.0.0) before)))) is;
}

-- where none holds at a number, none is below the next
pub none_second : (config : Configuration) (kind : ConflictKind) (place : Place) (at : ℕ) (other : Place) (i : ℕ) → NoneBelow config (IsOfTables kind place at other) (λ conflict. conflict.second) i → has_conflict kind config place at other i ≡ false → NoneBelow config (IsOfTables kind place at other) (λ conflict. conflict.second) (i + 1)
none_second config kind place at other i none fails =
    none_more config (IsOfTables kind place at other) (λ conflict. IsOfTables kind place at other conflict × (conflict.second ≡ i)) (λ conflict. conflict.second) i none
    (λ conflict among is. (among, is))
    (λ conflict there holds. absurd_at conflict.kind conflict.place conflict.first conflict.other conflict.second there.0.0.0.0 there.0.0.0.1 there.0.0.1 there.0.1 there.1 holds)
  where
    absurd_at : (k : ConflictKind) (p : Place) (f : ℕ) (o : Place) (s : ℕ) → k ≡ kind → p ≡ place → f ≡ at → o ≡ other → s ≡ i → has_conflict k config p f o s ≡ true → ⊥
    absurd_at k p f o s ek ep ef eo es holds = cc
