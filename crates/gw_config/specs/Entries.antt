-- What the entries and the whole text say: each row in its order, up to the first fault.
use Rattle.std.specs.Prelude.{◌≡◌, ℕ, List, length, Bool, true, is_some, Option, None, Some, Result, Ok, Err, if◌then◌else◌}
use Rattle.std.specs.List.{list_all}
use Rattle.toml.specs.Data.{Data}
use Rattle.can_frame.specs.Id.{id_fits}
use Rattle.gw_settings.specs.declared.key.Key.{Key}
use Rattle.gw_settings.specs.declared.fault.ConfigFault.{ConfigFault}
use Rattle.gw_settings.specs.declared.table_kind.TableKind.TheVariants as table
use Rattle.gw_settings.specs.Readings.{group_count}
use Rattle.gw_settings.specs.Tree.{entry_of}
use Rattle.gw_config.specs.declared.keys.TheConstants as row
use Rattle.gw_config.specs.declared.words.Addressing.{Addressing}
use Rattle.gw_config.specs.declared.read.Address.{Address}
use Rattle.gw_config.specs.declared.read.Counts.{Counts}
use Rattle.gw_config.specs.declared.read.Entries.{Entries}
use Rattle.gw_config.specs.declared.read.Shape.{Shape}
use Rattle.gw_config.specs.declared.read.Timers.{Timers}
use Rattle.gw_config.specs.declared.read.Top.{Top}
use Rattle.gw_config.specs.Config.{BusEntry, ChannelEntry, PathEntry, InterfaceEntry, CancelEntry, Configuration}
use Rattle.gw_config.specs.Groups.{group_fits, groups_found}
use Rattle.gw_config.specs.Outcome.{◌>>=◌}
use Rattle.gw_config.specs.Repeated.{repeated_among}
use Rattle.gw_config.specs.Rows.{number_row, flag_row, text_row, optional_text_row, word_row, count_row, texts_row, known_row, address_row, length_row, each_from, has_address, number_fits, count_fits, list_fits, address_fits, is_frame_length}
use Rattle.gw_config.specs.Words.{mode_of, addressing_of, queue_of, role_of, id_of}

-- a bus, from the keys of its table
abbrev pub bus_at : Data → ℕ → Result BusEntry ConfigFault
bus_at root index = do
  name ← text_row row.BUS_NAME index (entry_of root table.Bus index)
  log ← text_row row.BUS_LOG index (entry_of root table.Bus index)
  out ← text_row row.BUS_OUT index (entry_of root table.Bus index)
  fd ← flag_row row.BUS_FD index (entry_of root table.Bus index)
  brs ← flag_row row.BUS_BRS index (entry_of root table.Bus index)
  budget ← number_row row.BUS_BUDGET index (entry_of root table.Bus index)
  known ← known_row table.Bus index row.BUS_KEYS root
  Ok (record { name = name; log = log; out = out; fd = fd; brs = brs; budget = budget })

-- the six timers of a channel
abbrev pub timers_in : ℕ → Option Data → Result Timers ConfigFault
timers_in index entry = do
  n_as ← number_row row.CHANNEL_N_AS index entry
  n_ar ← number_row row.CHANNEL_N_AR index entry
  n_bs ← number_row row.CHANNEL_N_BS index entry
  n_br ← number_row row.CHANNEL_N_BR index entry
  n_cs ← number_row row.CHANNEL_N_CS index entry
  n_cr ← number_row row.CHANNEL_N_CR index entry
  Ok (record { n_as = n_as; n_ar = n_ar; n_bs = n_bs; n_br = n_br; n_cs = n_cs; n_cr = n_cr })

-- the form of a channel's frames and its flow control
abbrev pub shape_in : ℕ → Option Data → Result Shape ConfigFault
shape_in index entry = do
  functional ← flag_row row.CHANNEL_FUNCTIONAL index entry
  pad ← flag_row row.CHANNEL_PAD index entry
  dl ← length_row row.CHANNEL_DL index entry
  fill ← number_row row.CHANNEL_FILL index entry
  bs ← number_row row.CHANNEL_BS index entry
  stmin ← number_row row.CHANNEL_STMIN index entry
  wft_max ← number_row row.CHANNEL_WFT_MAX index entry
  Ok (record { functional = functional; pad = pad; dl = dl; fill = fill; bs = bs; stmin = stmin; wft_max = wft_max })

-- the addresses of a channel
abbrev pub address_in : ℕ → Option Data → Result Address ConfigFault
address_in index entry = do
  rx ← word_row id_of row.CHANNEL_RX index entry
  tx ← word_row id_of row.CHANNEL_TX index entry
  addressing ← word_row addressing_of row.CHANNEL_ADDRESSING index entry
  rx_address ← address_row row.CHANNEL_RX_ADDRESS addressing index entry
  tx_address ← address_row row.CHANNEL_TX_ADDRESS addressing index entry
  Ok (record { rx = rx; tx = tx; addressing = addressing; rx_address = rx_address; tx_address = tx_address })

-- the keys of a channel of this addressing
abbrev pub channel_keys : Addressing → List Key
channel_keys addressing = if has_address addressing then row.ADDRESSED_CHANNEL_KEYS else row.PLAIN_CHANNEL_KEYS

-- a channel, from the keys of its table
abbrev pub channel_at : Data → ℕ → Result ChannelEntry ConfigFault
channel_at root index = do
  name ← text_row row.CHANNEL_NAME index (entry_of root table.Channel index)
  bus ← text_row row.CHANNEL_BUS index (entry_of root table.Channel index)
  address ← address_in index (entry_of root table.Channel index)
  shape ← shape_in index (entry_of root table.Channel index)
  timers ← timers_in index (entry_of root table.Channel index)
  known ← known_row table.Channel index (channel_keys address.addressing) root
  Ok (record {
    name = name;
    bus = bus;
    rx = address.rx;
    tx = address.tx;
    addressing = address.addressing;
    rx_address = address.rx_address;
    tx_address = address.tx_address;
    functional = shape.functional;
    pad = shape.pad;
    dl = shape.dl;
    fill = shape.fill;
    bs = shape.bs;
    stmin = shape.stmin;
    wft_max = shape.wft_max;
    n_as = timers.n_as;
    n_ar = timers.n_ar;
    n_bs = timers.n_bs;
    n_br = timers.n_br;
    n_cs = timers.n_cs;
    n_cr = timers.n_cr;
  })

-- a path, from the keys of its table
abbrev pub path_at : Data → ℕ → Result PathEntry ConfigFault
path_at root index = do
  name ← text_row row.PATH_NAME index (entry_of root table.Path index)
  source ← text_row row.PATH_FROM index (entry_of root table.Path index)
  to ← texts_row row.PATH_TO row.PATH_DESTINATION index root
  threshold ← number_row row.PATH_THRESHOLD index (entry_of root table.Path index)
  store ← flag_row row.PATH_STORE index (entry_of root table.Path index)
  group ← number_row row.PATH_GROUP index (entry_of root table.Path index)
  known ← known_row table.Path index row.PATH_KEYS root
  Ok (record { name = name; from = source; to = to; threshold = threshold; store = store; group = group })

-- an interface path, from the keys of its table
abbrev pub interface_at : Data → ℕ → Result InterfaceEntry ConfigFault
interface_at root index = do
  name ← text_row row.INTERFACE_NAME index (entry_of root table.Interface index)
  from_bus ← text_row row.INTERFACE_FROM_BUS index (entry_of root table.Interface index)
  from_id ← word_row id_of row.INTERFACE_FROM_ID index (entry_of root table.Interface index)
  to_bus ← text_row row.INTERFACE_TO_BUS index (entry_of root table.Interface index)
  to_id ← word_row id_of row.INTERFACE_TO_ID index (entry_of root table.Interface index)
  queue ← word_row queue_of row.INTERFACE_QUEUE index (entry_of root table.Interface index)
  depth ← number_row row.INTERFACE_DEPTH index (entry_of root table.Interface index)
  known ← known_row table.Interface index row.INTERFACE_KEYS root
  Ok (record { name = name; from_bus = from_bus; from_id = from_id; to_bus = to_bus; to_id = to_id; queue = queue; depth = depth })

-- a cancellation, from the keys of its table
abbrev pub cancel_at : Data → ℕ → Result CancelEntry ConfigFault
cancel_at root index = do
  path ← text_row row.CANCEL_PATH index (entry_of root table.Cancel index)
  tick ← number_row row.CANCEL_TICK index (entry_of root table.Cancel index)
  role ← word_row role_of row.CANCEL_ROLE index (entry_of root table.Cancel index)
  to ← optional_text_row row.CANCEL_TO index (entry_of root table.Cancel index)
  known ← known_row table.Cancel index row.CANCEL_KEYS root
  Ok (record { path = path; tick = record { 0 = tick }; role = role; to = to })

-- the keys of the top table that are no tables of their own
abbrev pub top_in : Data → Result Top ConfigFault
top_in root = do
  period ← number_row row.PERIOD 0 (entry_of root table.Top 0)
  window ← number_row row.WINDOW 0 (entry_of root table.Top 0)
  linger ← number_row row.LINGER 0 (entry_of root table.Top 0)
  mode ← word_row mode_of row.MODE 0 (entry_of root table.Top 0)
  count ← group_count root
  groups ← groups_found root count
  Ok (record { period = period; window = window; linger = linger; mode = mode; groups = groups; is_grouped = is_some count })

-- the keys of a top table with groups, or without
abbrev pub top_keys : Bool → List Key
top_keys is_grouped = if is_grouped then row.GROUPED_TOP_KEYS else row.TOP_KEYS

-- how many tables there are of each kind
abbrev pub counts_in : Data → Result Counts ConfigFault
counts_in root = do
  bus ← count_row row.BUSES root
  channel ← count_row row.CHANNELS root
  path ← count_row row.PATHS root
  interface ← count_row row.INTERFACES root
  cancel ← count_row row.CANCELS root
  Ok (record { bus = bus; channel = channel; path = path; interface = interface; cancel = cancel })

-- each number is in its row's range
pub record TimersFit (timers : Timers) : Type 0 where
  pub n_as : number_fits row.CHANNEL_N_AS timers.n_as ≡ true
  pub n_ar : number_fits row.CHANNEL_N_AR timers.n_ar ≡ true
  pub n_bs : number_fits row.CHANNEL_N_BS timers.n_bs ≡ true
  pub n_br : number_fits row.CHANNEL_N_BR timers.n_br ≡ true
  pub n_cs : number_fits row.CHANNEL_N_CS timers.n_cs ≡ true
  pub n_cr : number_fits row.CHANNEL_N_CR timers.n_cr ≡ true

pub record ShapeFits (shape : Shape) : Type 0 where
  pub dl : is_frame_length shape.dl ≡ true
  pub dl_range : number_fits row.CHANNEL_DL shape.dl ≡ true
  pub fill : number_fits row.CHANNEL_FILL shape.fill ≡ true
  pub bs : number_fits row.CHANNEL_BS shape.bs ≡ true
  pub stmin : number_fits row.CHANNEL_STMIN shape.stmin ≡ true
  pub wft_max : number_fits row.CHANNEL_WFT_MAX shape.wft_max ≡ true

pub record AddressFits (address : Address) : Type 0 where
  pub rx : id_fits address.rx ≡ true
  pub tx : id_fits address.tx ≡ true
  pub rx_address : is_some address.rx_address ≡ has_address address.addressing
  pub tx_address : is_some address.tx_address ≡ has_address address.addressing
  pub rx_range : address_fits row.CHANNEL_RX_ADDRESS address.rx_address ≡ true
  pub tx_range : address_fits row.CHANNEL_TX_ADDRESS address.tx_address ≡ true

pub record TopFits (top : Top) : Type 0 where
  pub period : number_fits row.PERIOD top.period ≡ true
  pub window : number_fits row.WINDOW top.window ≡ true
  pub linger : number_fits row.LINGER top.linger ≡ true
  pub group_count : list_fits row.GROUPS (length top.groups) ≡ true
  pub groups : list_all group_fits top.groups ≡ true

pub record CountsFit (counts : Counts) : Type 0 where
  pub bus : count_fits row.BUSES counts.bus ≡ true
  pub channel : count_fits row.CHANNELS counts.channel ≡ true
  pub path : count_fits row.PATHS counts.path ≡ true
  pub interface : count_fits row.INTERFACES counts.interface ≡ true
  pub cancel : count_fits row.CANCELS counts.cancel ≡ true

-- there are so many entries of each kind
pub record HasCounts (counts : Counts) (entries : Entries) : Type 0 where
  pub bus : length entries.bus ≡ counts.bus
  pub channel : length entries.channel ≡ counts.channel
  pub path : length entries.path ≡ counts.path
  pub interface : length entries.interface ≡ counts.interface
  pub cancel : length entries.cancel ≡ counts.cancel

-- the entries, kind by kind
abbrev pub entries_in : Data → Counts → Result Entries ConfigFault
entries_in root counts = do
  bus ← each_from (bus_at root) 0 counts.bus
  channel ← each_from (channel_at root) 0 counts.channel
  path ← each_from (path_at root) 0 counts.path
  interface ← each_from (interface_at root) 0 counts.interface
  cancel ← each_from (cancel_at root) 0 counts.cancel
  Ok (record { bus = bus; channel = channel; path = path; interface = interface; cancel = cancel })

-- the value, unless there is a fault
abbrev pub unless : {A : Type 0} → Option ConfigFault → A → Result A ConfigFault
unless None value = Ok value
unless (Some fault) value = Err fault

-- the whole text: the top table, then each entry, then what is repeated
abbrev pub config_in : Data → Result Configuration ConfigFault
config_in root = do
  top ← top_in root
  counts ← counts_in root
  known ← known_row table.Top 0 (top_keys top.is_grouped) root
  entries ← entries_in root counts
  unless (repeated_among entries.bus entries.channel entries.path entries.interface)
      (record {
        period = top.period;
        window = top.window;
        linger = top.linger;
        mode = top.mode;
        groups = top.groups;
        bus = entries.bus;
        channel = entries.channel;
        path = entries.path;
        interface = entries.interface;
        cancel = entries.cancel;
      })
