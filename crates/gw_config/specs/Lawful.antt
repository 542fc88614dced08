-- The rules that every configuration keeps.
use Rattle.std.specs.Prelude.{◌≡◌, ℕ, Bool, true, List, length, Option, None, Some, is_some}
use Rattle.std.specs.List.{list_all, AllByRecursion}
use Rattle.can_frame.specs.Id.{id_fits}
use Rattle.gw_config.specs.declared.rows.TextRow.{TextRow}
use Rattle.gw_config.specs.declared.keys.TheConstants as row
use Rattle.gw_config.specs.Config.{BusEntry, ChannelEntry, PathEntry, InterfaceEntry, CancelEntry, Configuration}
use Rattle.gw_config.specs.Groups.{group_fits}
use Rattle.gw_config.specs.Repeated.{repeated_in}
use Rattle.gw_config.specs.Rows.{number_fits, text_fits, count_fits, list_fits, address_fits, has_address, is_frame_length}

-- each number and text of a bus is in its range
pub record IsLawfulBus (entry : BusEntry) : Type 0 where
  pub name : text_fits row.BUS_NAME entry.name ≡ true
  pub log : text_fits row.BUS_LOG entry.log ≡ true
  pub out : text_fits row.BUS_OUT entry.out ≡ true
  pub budget : number_fits row.BUS_BUDGET entry.budget ≡ true

-- so for a channel, which has address bytes exactly where its addressing isn't normal
pub record IsLawfulChannel (entry : ChannelEntry) : Type 0 where
  pub name : text_fits row.CHANNEL_NAME entry.name ≡ true
  pub bus : text_fits row.CHANNEL_BUS entry.bus ≡ true
  pub rx : id_fits entry.rx ≡ true
  pub tx : id_fits entry.tx ≡ true
  pub rx_address : is_some entry.rx_address ≡ has_address entry.addressing
  pub tx_address : is_some entry.tx_address ≡ has_address entry.addressing
  pub rx_range : address_fits row.CHANNEL_RX_ADDRESS entry.rx_address ≡ true
  pub tx_range : address_fits row.CHANNEL_TX_ADDRESS entry.tx_address ≡ true
  pub dl : is_frame_length entry.dl ≡ true
  pub dl_range : number_fits row.CHANNEL_DL entry.dl ≡ true
  pub fill : number_fits row.CHANNEL_FILL entry.fill ≡ true
  pub bs : number_fits row.CHANNEL_BS entry.bs ≡ true
  pub stmin : number_fits row.CHANNEL_STMIN entry.stmin ≡ true
  pub wft_max : number_fits row.CHANNEL_WFT_MAX entry.wft_max ≡ true
  pub n_as : number_fits row.CHANNEL_N_AS entry.n_as ≡ true
  pub n_ar : number_fits row.CHANNEL_N_AR entry.n_ar ≡ true
  pub n_bs : number_fits row.CHANNEL_N_BS entry.n_bs ≡ true
  pub n_br : number_fits row.CHANNEL_N_BR entry.n_br ≡ true
  pub n_cs : number_fits row.CHANNEL_N_CS entry.n_cs ≡ true
  pub n_cr : number_fits row.CHANNEL_N_CR entry.n_cr ≡ true

-- so for a path
pub record IsLawfulPath (entry : PathEntry) : Type 0 where
  pub name : text_fits row.PATH_NAME entry.name ≡ true
  pub from : text_fits row.PATH_FROM entry.from ≡ true
  pub count : list_fits row.PATH_TO (length entry.to) ≡ true
  pub to : list_all (text_fits row.PATH_DESTINATION) entry.to ≡ true
  pub threshold : number_fits row.PATH_THRESHOLD entry.threshold ≡ true
  pub group : number_fits row.PATH_GROUP entry.group ≡ true

-- so for an interface path
pub record IsLawfulInterface (entry : InterfaceEntry) : Type 0 where
  pub name : text_fits row.INTERFACE_NAME entry.name ≡ true
  pub from_bus : text_fits row.INTERFACE_FROM_BUS entry.from_bus ≡ true
  pub from_id : id_fits entry.from_id ≡ true
  pub to_bus : text_fits row.INTERFACE_TO_BUS entry.to_bus ≡ true
  pub to_id : id_fits entry.to_id ≡ true
  pub depth : number_fits row.INTERFACE_DEPTH entry.depth ≡ true

-- the text, where there is one, is in its range
abbrev pub optional_fits : TextRow → Option (List ℕ) → Bool
optional_fits text_row None = true
optional_fits text_row (Some text) = text_fits text_row text

-- so for a cancellation
pub record IsLawfulCancel (entry : CancelEntry) : Type 0 where
  pub path : text_fits row.CANCEL_PATH entry.path ≡ true
  pub tick : number_fits row.CANCEL_TICK entry.tick.0 ≡ true
  pub to : optional_fits row.CANCEL_TO entry.to ≡ true

-- so for the whole, in which no name and no output is used twice; each entry keeps the rules of its own
pub record IsLawful (config : Configuration) : Type 0 where
  pub period : number_fits row.PERIOD config.period ≡ true
  pub window : number_fits row.WINDOW config.window ≡ true
  pub linger : number_fits row.LINGER config.linger ≡ true
  pub group_count : list_fits row.GROUPS (length config.groups) ≡ true
  pub groups : list_all group_fits config.groups ≡ true
  pub bus : count_fits row.BUSES (length config.bus) ≡ true
  pub channel : count_fits row.CHANNELS (length config.channel) ≡ true
  pub path : count_fits row.PATHS (length config.path) ≡ true
  pub interface : count_fits row.INTERFACES (length config.interface) ≡ true
  pub cancel : count_fits row.CANCELS (length config.cancel) ≡ true
  pub repeated : repeated_in config ≡ None

-- each entry keeps the rules of its own
pub record AreLawful (config : Configuration) : Type 0 where
  pub bus : AllByRecursion IsLawfulBus config.bus
  pub channel : AllByRecursion IsLawfulChannel config.channel
  pub path : AllByRecursion IsLawfulPath config.path
  pub interface : AllByRecursion IsLawfulInterface config.interface
  pub cancel : AllByRecursion IsLawfulCancel config.cancel
