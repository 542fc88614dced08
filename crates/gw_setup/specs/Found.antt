-- What is found in a configuration for the channel of a number (this project's own).
use Rattle.std.specs.Prelude.{◌≡◌, ◌≢◌, ◌<◌, ℕ, List, Some, slice_get}
use Rattle.gw_config.specs.Config.{ChannelEntry, Configuration, PathEntry}
use Rattle.gw_setup.specs.Placed.{IsDestination, IsSource}
use Rattle.gw_setup.specs.declared.destination.Destination.{Destination}
use Rattle.gw_setup.specs.declared.names.DestPlace.{DestPlace}
use Rattle.gw_setup.specs.declared.source.Source.{Source}

-- no path comes from the channel of this number
abbrev pub IsNoSource : Configuration → (number : ℕ) → Type 0
IsNoSource config number =
    (channel : ChannelEntry) (place : ℕ) (path : PathEntry) → slice_get config.channel number ≡ Some channel → slice_get config.path place ≡ Some path → path.from ≢ channel.name

-- the receiver of the path that comes from the channel of this number
pub record IsSourceAt (config : Configuration) (number : ℕ) (source : Source) : Type 0 where
  pub is : IsSource config source
  pub number_is : source.set.chan.0 ≡ number

-- no path has this name among its destinations
abbrev pub NoneLeadTo : List PathEntry → (name : List ℕ) → Type 0
NoneLeadTo paths name = (place dest : ℕ) (path : PathEntry) → slice_get paths place ≡ Some path → slice_get path.to dest ≢ Some name

-- this destination of this path has the name, one of up to 8
pub record LeadsTo (paths : List PathEntry) (name : List ℕ) (found : DestPlace) : Type 0 where
  pub path : PathEntry
  pub there : slice_get paths found.path ≡ Some path
  pub named : slice_get path.to found.dest ≡ Some name
  pub few : found.dest < 8

-- no path leads to the channel of this number
abbrev pub IsNoDestination : Configuration → (number : ℕ) → Type 0
IsNoDestination config number = (channel : ChannelEntry) → slice_get config.channel number ≡ Some channel → NoneLeadTo config.path channel.name

-- the sender of the path that leads to the channel of this number
pub record IsDestinationAt (config : Configuration) (number : ℕ) (destination : Destination) : Type 0 where
  pub is : IsDestination config destination
  pub number_is : destination.chan.0 ≡ number
