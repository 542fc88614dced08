-- How far a run over two logs has come: what came of them so far, and what is still to come.
use Rattle.std.specs.Prelude.{◌≡◌, ◌⊎◌, ℕ, ◌+◌, ◌<◌, ◌≤◌, Bool, false, List, [], ◌∷◌, ◌++◌, length}
use Rattle.tp_unit.specs.Box.{Answer}
use Rattle.tp_attempts.specs.Seen.{Seen}
use Rattle.gw_run.specs.Feed.{ComeWithin}
use Rattle.gw_law.specs.Channels.{InTick}
use Rattle.gw_law.specs.Plan.{Address}
use Rattle.gw_run.specs.Frames.{address_of, answers_for, seen_for}
use Rattle.gw_run.specs.Standing.{AtBarrier, InDestination, InSource, IsQuiet}
use Rattle.gw_run.specs.declared.gateway.Gateway.{Gateway}
use Rattle.gw_run.specs.declared.machines.Machines.{Machines}

-- these frames of the source channel came, and with those that are still to come, from one tick to another, they are all of them
pub record SourceSoFar (address : Address) (all : List Seen) (least last : ℕ) (came : List Seen) (coming : List InTick) : Type 0 where
  pub all_is : came ++ seen_for address coming ≡ all
  pub few : length came + length coming ≤ 1000000
  pub within : ComeWithin least last coming

-- these flow controls of the destination's channel came, and with those that are still to come, from one tick to another, they are all of them
pub record DestinationSoFar (address : Address) (all : List Answer) (least last : ℕ) (came : List Answer) (coming : List InTick) : Type 0 where
  pub all_is : came ++ answers_for address coming ≡ all
  pub within : ComeWithin least last coming

-- a tick's work may begin on the source's bus
abbrev pub MayWorkOnSource : (sizes : List ℕ) → Address → (tick : ℕ) → Gateway → List InTick → Type 0
MayWorkOnSource sizes address tick g coming =
    (seen : List Seen) × (all : List Seen) × (answers : List Answer) × (last : ℕ) × SourceSoFar address all tick last seen coming × InSource sizes g seen answers tick

-- a tick's work on the source's bus is done: its frames came
abbrev pub WorksOnSource : (sizes : List ℕ) → Address → (tick : ℕ) → (old : Gateway) → (before : List InTick) → (new : Gateway) → (after : List InTick) → Type 0
WorksOnSource sizes address tick old before new after =
    (seen all : List Seen) (answers : List Answer) (last : ℕ) → SourceSoFar address all tick last seen before → InSource sizes old seen answers tick →
    (now : List Seen) × SourceSoFar address all (tick + 1) last now after × InDestination sizes new now answers tick

-- a tick's work may begin on the destination's bus
abbrev pub MayWorkOnDestination : (sizes : List ℕ) → Address → (tick : ℕ) → Gateway → List InTick → Type 0
MayWorkOnDestination sizes address tick g coming =
    (seen : List Seen) × (answers : List Answer) × (all : List Answer) × (last : ℕ) × DestinationSoFar address all tick last answers coming × InDestination sizes g seen answers tick

-- a tick's work on the destination's bus is done: its flow controls came
abbrev pub WorksOnDestination : (sizes : List ℕ) → Address → (tick : ℕ) → (old : Gateway) → (before : List InTick) → (new : Gateway) → (after : List InTick) → Type 0
WorksOnDestination sizes address tick old before new after =
    (seen : List Seen) (answers all : List Answer) (last : ℕ) → DestinationSoFar address all tick last answers before → InDestination sizes old seen answers tick →
    (now : List Answer) × DestinationSoFar address all (tick + 1) last now after × AtBarrier sizes new seen now (tick + 1)

-- between two ticks: the next one may be that tick, and what came and what is still to come from it on are all that the logs have for the channels
pub record SoFar (g : Gateway) (m : Machines) (all : List Seen) (all_answers : List Answer) (tick last : ℕ) (source destination : List InTick) : Type 0 where
  pub seen : List Seen
  pub answers : List Answer
  pub next : ℕ
  pub at : AtBarrier (m.cells ∷ []) g seen answers next
  pub begun : next ≤ tick
  pub quiet : IsQuiet g ⊎ (tick ≡ next)
  pub machines : g.machines ≡ m
  pub on_source : SourceSoFar (address_of m.source) all tick last seen source
  pub on_destination : DestinationSoFar (address_of m.destination) all_answers tick last answers destination

-- the tick to go on with, or the one after the last: no tick is left out where something goes on, and none of a frame
pub record IsNext (live : Bool) (tick last : ℕ) (source destination : List InTick) (next : ℕ) : Type 0 where
  pub later : tick < next
  pub in_time : next ≤ last + 1
  pub idle : (live ≡ false) ⊎ (next ≡ tick + 1)
  pub on_source : ComeWithin next last source
  pub on_destination : ComeWithin next last destination
