-- A configuration as contracts see it: a record for each table, with its keys' values.
use Rattle.std.specs.Prelude.{ℕ, List, Bool, Option}
use Rattle.can_frame.specs.declared.id.CanId.{CanId}
use Rattle.gw_base.specs.declared.numbers.Tick.{Tick}
use Rattle.gw_config.specs.declared.words.Mode.{Mode}
use Rattle.gw_config.specs.declared.words.Addressing.{Addressing}
use Rattle.gw_config.specs.declared.words.QueueKind.{QueueKind}
use Rattle.gw_config.specs.declared.words.Role.{Role}

-- what the table of a bus says
pub record BusEntry : Type 0 where
  pub name : List ℕ
  pub log : List ℕ
  pub out : List ℕ
  pub fd : Bool
  pub brs : Bool
  pub budget : ℕ

-- what the table of a channel says
pub record ChannelEntry : Type 0 where
  pub name : List ℕ
  pub bus : List ℕ
  pub rx : CanId
  pub tx : CanId
  pub addressing : Addressing
  pub rx_address : Option ℕ
  pub tx_address : Option ℕ
  pub functional : Bool
  pub pad : Bool
  pub dl : ℕ
  pub fill : ℕ
  pub bs : ℕ
  pub stmin : ℕ
  pub wft_max : ℕ
  pub n_as : ℕ
  pub n_ar : ℕ
  pub n_bs : ℕ
  pub n_br : ℕ
  pub n_cs : ℕ
  pub n_cr : ℕ

-- what the table of a path says
pub record PathEntry : Type 0 where
  pub name : List ℕ
  pub from : List ℕ
  pub to : List (List ℕ)
  pub threshold : ℕ
  pub store : Bool
  pub group : ℕ

-- what the table of an interface path says
pub record InterfaceEntry : Type 0 where
  pub name : List ℕ
  pub from_bus : List ℕ
  pub from_id : CanId
  pub to_bus : List ℕ
  pub to_id : CanId
  pub queue : QueueKind
  pub depth : ℕ

-- what the table of a cancellation says
pub record CancelEntry : Type 0 where
  pub path : List ℕ
  pub tick : Tick
  pub role : Role
  pub to : Option (List ℕ)

-- what the whole text says
pub record Configuration : Type 0 where
  pub period : ℕ
  pub window : ℕ
  pub linger : ℕ
  pub mode : Mode
  pub groups : List (List ℕ)
  pub bus : List BusEntry
  pub channel : List ChannelEntry
  pub path : List PathEntry
  pub interface : List InterfaceEntry
  pub cancel : List CancelEntry
