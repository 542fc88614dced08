-- The tree that a configuration is printed as: each table with all its keys, in alphabetic order.
use Rattle.std.specs.Prelude.{ℕ, zero, suc, ◌/◌, ◌%◌, List, [], ◌∷◌, ◌++◌, map, Some, option_map, codes, pos}
use Rattle.std.specs.Char.{digit_char}
use Rattle.can_frame.specs.declared.id.CanId.{CanId}
use Rattle.can_frame.specs.declared.id.CanId.TheVariants.{Std, Ext}
use Rattle.toml.specs.Data.{Data, string, integer, boolean, array, table, Members, no_members, member}
use Rattle.toml.specs.View.{items_of}
use Rattle.gw_config.specs.declared.words.Mode.{Mode}
use Rattle.gw_config.specs.declared.words.Mode.TheVariants.{Serial, Threads}
use Rattle.gw_config.specs.declared.words.Addressing.{Addressing}
use Rattle.gw_config.specs.declared.words.Addressing.TheVariants.{Normal, Extended, Mixed}
use Rattle.gw_config.specs.declared.words.QueueKind.{QueueKind}
use Rattle.gw_config.specs.declared.words.QueueKind.TheVariants.{Fifo, Last, Keep}
use Rattle.gw_config.specs.declared.words.Role.{Role}
use Rattle.gw_config.specs.declared.words.Role.TheVariants.{Receive, Send}
use Rattle.config_text.specs.Puts.{put, put_some}
use Rattle.gw_config.specs.Config.{BusEntry, ChannelEntry, PathEntry, InterfaceEntry, CancelEntry, Configuration}

-- a number in so many hex digits
abbrev pub hex_text : ℕ → ℕ → List ℕ
hex_text zero value = []
hex_text (suc digits) value = hex_text digits (value / 16) ++ digit_char (value % 16) ∷ []

-- an identifier in its digits
abbrev pub id_text : CanId → List ℕ
id_text (Std value) = hex_text 3 value
id_text (Ext value) = hex_text 8 value

-- the words
abbrev pub mode_text : Mode → List ℕ
mode_text Serial = codes "serial"
mode_text Threads = codes "threads"

abbrev pub addressing_text : Addressing → List ℕ
addressing_text Normal = codes "normal"
addressing_text Extended = codes "extended"
addressing_text Mixed = codes "mixed"

abbrev pub queue_text : QueueKind → List ℕ
queue_text Fifo = codes "fifo"
queue_text Last = codes "last"
queue_text Keep = codes "keep"

abbrev pub role_text : Role → List ℕ
role_text Receive = codes "receive"
role_text Send = codes "send"

-- the table of a bus
abbrev pub bus_table : BusEntry → Data
bus_table entry = table
    (member (codes "brs") (boolean entry.brs)
    (member (codes "budget") (integer (pos entry.budget))
    (member (codes "fd") (boolean entry.fd)
    (member (codes "log") (string entry.log)
    (member (codes "name") (string entry.name)
    (member (codes "out") (string entry.out) no_members))))))

-- the keys of a channel: its name, bus, identifiers and addressing
abbrev pub put_ends : ChannelEntry → Members → Members
put_ends entry before =
    put (Some (codes "addressing")) (string (addressing_text entry.addressing))
    (put (Some (codes "tx")) (string (id_text entry.tx))
    (put (Some (codes "rx")) (string (id_text entry.rx))
    (put (Some (codes "bus")) (string entry.bus)
    (put (Some (codes "name")) (string entry.name) before))))

-- the address bytes that it has
abbrev pub put_addresses : ChannelEntry → Members → Members
put_addresses entry before =
    put_some (Some (codes "tx_address")) (option_map (λ address. integer (pos address)) entry.tx_address)
    (put_some (Some (codes "rx_address")) (option_map (λ address. integer (pos address)) entry.rx_address) before)

-- the form of its frames and its flow control
abbrev pub put_shape : ChannelEntry → Members → Members
put_shape entry before =
    put (Some (codes "wft_max")) (integer (pos entry.wft_max))
    (put (Some (codes "stmin")) (integer (pos entry.stmin))
    (put (Some (codes "bs")) (integer (pos entry.bs))
    (put (Some (codes "fill")) (integer (pos entry.fill))
    (put (Some (codes "dl")) (integer (pos entry.dl))
    (put (Some (codes "pad")) (boolean entry.pad)
    (put (Some (codes "functional")) (boolean entry.functional) before))))))

-- its timers
abbrev pub put_timers : ChannelEntry → Members → Members
put_timers entry before =
    put (Some (codes "n_cr")) (integer (pos entry.n_cr))
    (put (Some (codes "n_cs")) (integer (pos entry.n_cs))
    (put (Some (codes "n_br")) (integer (pos entry.n_br))
    (put (Some (codes "n_bs")) (integer (pos entry.n_bs))
    (put (Some (codes "n_ar")) (integer (pos entry.n_ar))
    (put (Some (codes "n_as")) (integer (pos entry.n_as)) before)))))

-- the table of a channel
abbrev pub channel_table : ChannelEntry → Data
channel_table entry = table (put_timers entry (put_shape entry (put_addresses entry (put_ends entry no_members))))

-- the table of a path
abbrev pub path_table : PathEntry → Data
path_table entry = table
    (member (codes "from") (string entry.from)
    (member (codes "group") (integer (pos entry.group))
    (member (codes "name") (string entry.name)
    (member (codes "store") (boolean entry.store)
    (member (codes "threshold") (integer (pos entry.threshold))
    (member (codes "to") (array (items_of (map string entry.to))) no_members))))))

-- the table of an interface path
abbrev pub interface_table : InterfaceEntry → Data
interface_table entry = table
    (member (codes "depth") (integer (pos entry.depth))
    (member (codes "from_bus") (string entry.from_bus)
    (member (codes "from_id") (string (id_text entry.from_id))
    (member (codes "name") (string entry.name)
    (member (codes "queue") (string (queue_text entry.queue))
    (member (codes "to_bus") (string entry.to_bus)
    (member (codes "to_id") (string (id_text entry.to_id)) no_members)))))))

-- the table of a cancellation
abbrev pub cancel_table : CancelEntry → Data
cancel_table entry = table
    (put_some (Some (codes "to")) (option_map string entry.to)
    (member (codes "path") (string entry.path)
    (member (codes "role") (string (role_text entry.role))
    (member (codes "tick") (integer (pos entry.tick.0)) no_members))))

-- a group of buffers, by the cells of each
abbrev pub group_value : List ℕ → Data
group_value group = array (items_of (map (λ cells. integer (pos cells)) group))

-- the top table
abbrev pub config_table : Configuration → Data
config_table config = table
    (member (codes "bus") (array (items_of (map bus_table config.bus)))
    (member (codes "cancel") (array (items_of (map cancel_table config.cancel)))
    (member (codes "channel") (array (items_of (map channel_table config.channel)))
    (member (codes "groups") (array (items_of (map group_value config.groups)))
    (member (codes "interface") (array (items_of (map interface_table config.interface)))
    (member (codes "linger") (integer (pos config.linger))
    (member (codes "mode") (string (mode_text config.mode))
    (member (codes "path") (array (items_of (map path_table config.path)))
    (member (codes "period") (integer (pos config.period))
    (member (codes "window") (integer (pos config.window)) no_members))))))))))
