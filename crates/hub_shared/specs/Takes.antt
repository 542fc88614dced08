-- What a take comes to: one exchange of a group's pool word, and then another one as long as another seat was first.
use Rattle.std.specs.Prelude.{◌≡◌, ℕ, ◌+◌, ◌-◌, ◌/◌, ◌^◌, ◌<◌, ◌≤◌, List, length, Result, MatchResult}
use Rattle.atomic_table.specs.declared.shared.Seat.{Seat}
use Rattle.gw_base.specs.Fit.{NoneFits}
use Rattle.hub_core.specs.Calls.{IsBufferOf}
use Rattle.hub_core.specs.Groups.{sizes_of}
use Rattle.hub_core.specs.declared.history.Deed.{Deed}
use Rattle.hub_core.specs.declared.history.Deed.TheVariants.{Took, Refused}
use Rattle.hub_core.specs.declared.port.Take.{Take}
use Rattle.hub_core.specs.declared.port.Take.TheVariants.{Granted, Overflow}
use Rattle.hub_shared.specs.Plays.{SeatMe, Lost, with_deed}
use Rattle.hub_shared.specs.Seats.{groups_of}
use Rattle.hub_shared.specs.Sights.{floors_at}
use Rattle.hub_shared.specs.declared.hub.SharedHub.{SharedHub}
use Rattle.hub_shared.specs.declared.sight.Hand.TheVariants.{Looked}
use Rattle.hub_shared.specs.declared.sight.Note.{Note}
use Rattle.hub_shared.specs.declared.sight.Sight.{Sight}

-- a seat that has a take left, and what it knows of the group's word
pub record HasLooked (hub : SharedHub) (group word : ℕ) (seat : Seat Note Sight) : Type 0 where
  pub of : seat.table_id ≡ hub.table.shared.table_id
  pub there : group < length (groups_of hub)
  pub hand : seat.me.0.hand ≡ Looked group word
  pub live : 0 < seat.me.0.parts
  pub spare : 0 < seat.me.0.takes
  pub few : word / 2 ^ 32 ≤ 8000000

-- what an answer notes in the seat's history
abbrev pub deed_of : (group need : ℕ) → Take → Deed
deed_of group need (Granted change held) = Took group change held.buf.0 held.cells need
deed_of group need (Overflow change free) = Refused group change free need

-- a grant is the change after the word's; an overflow is of the word itself
abbrev pub IsByWord : (word : ℕ) → Take → Type 0
IsByWord word (Granted change held) = change ≡ word / 2 ^ 32 + 1
IsByWord word (Overflow change free) = change ≡ word / 2 ^ 32

-- a granted buffer is one of the group and has the cells that are needed; a refusal had no fitting buffer of the group
abbrev pub IsAnswer : List (List ℕ) → (group need : ℕ) → Take → Type 0
IsAnswer groups group need (Granted change held) = (held.change ≡ change) × (need ≤ held.cells) × IsBufferOf groups group held.buf.0 held.cells
IsAnswer groups group need (Overflow change free) = NoneFits (sizes_of groups group) free need

-- what a take leaves of the seat
abbrev pub after_call : Deed → Sight → Sight
after_call deed v = record (with_deed deed v) { takes = v.takes - 1 }

-- an exchange that ends a take
pub record EndsTake (groups : List (List ℕ)) (group word need : ℕ) (old new : SeatMe) (take : Take) : Type 0 where
  pub me : new ≡ (after_call (deed_of group need take) old.0, old.1)
  pub number : IsByWord word take
  pub answer : IsAnswer groups group need take

-- an exchange that ends a take, or loses
pub record Tries (hub : SharedHub) (group word need : ℕ) (old new : Seat Note Sight) (result : Result Take ℕ) : Type 0 where
  pub of : new.table_id ≡ old.table_id
  pub told : MatchResult result (λ take. EndsTake (groups_of hub) group word need old.me new.me take) (λ found. Lost group word found old.me new.me)

-- a whole take, by the last word that was seen
pub record IsTaken (groups : List (List ℕ)) (group need : ℕ) (old new : SeatMe) (take : Take) : Type 0 where
  pub word : ℕ
  pub ends : EndsTake groups group word need old new take
  pub floor : (floors_at old.0).changes group ≤ word / 2 ^ 32
