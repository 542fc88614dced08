-- The names of keys in the text, and the arrays of the tables.
use Rattle.std.specs.Prelude.{List, ℕ, Option, Some, None, codes}
use Rattle.gw_settings.specs.declared.key.Key.{Key}
use Rattle.gw_settings.specs.declared.key.Key.TheVariants as key
use Rattle.gw_settings.specs.declared.table_kind.TableKind.{TableKind}
use Rattle.gw_settings.specs.declared.table_kind.TableKind.TheVariants.{Top, Bus, Channel, Path, Interface, Cancel}

-- a key's name in the text
abbrev pub key_name : Key → Option (List ℕ)
key_name key.Period = Some (codes "period")
key_name key.Window = Some (codes "window")
key_name key.Linger = Some (codes "linger")
key_name key.Mode = Some (codes "mode")
key_name key.Buffers = Some (codes "buffers")
key_name key.Groups = Some (codes "groups")
key_name key.Bus = Some (codes "bus")
key_name key.Channel = Some (codes "channel")
key_name key.Path = Some (codes "path")
key_name key.Interface = Some (codes "interface")
key_name key.Cancel = Some (codes "cancel")
key_name key.Name = Some (codes "name")
key_name key.Log = Some (codes "log")
key_name key.Out = Some (codes "out")
key_name key.Fd = Some (codes "fd")
key_name key.Brs = Some (codes "brs")
key_name key.Budget = Some (codes "budget")
key_name key.Rx = Some (codes "rx")
key_name key.Tx = Some (codes "tx")
key_name key.Addressing = Some (codes "addressing")
key_name key.RxAddress = Some (codes "rx_address")
key_name key.TxAddress = Some (codes "tx_address")
key_name key.Functional = Some (codes "functional")
key_name key.Pad = Some (codes "pad")
key_name key.Dl = Some (codes "dl")
key_name key.Fill = Some (codes "fill")
key_name key.Bs = Some (codes "bs")
key_name key.Stmin = Some (codes "stmin")
key_name key.WftMax = Some (codes "wft_max")
key_name key.NAs = Some (codes "n_as")
key_name key.NAr = Some (codes "n_ar")
key_name key.NBs = Some (codes "n_bs")
key_name key.NBr = Some (codes "n_br")
key_name key.NCs = Some (codes "n_cs")
key_name key.NCr = Some (codes "n_cr")
key_name key.From = Some (codes "from")
key_name key.To = Some (codes "to")
key_name key.Threshold = Some (codes "threshold")
key_name key.Store = Some (codes "store")
key_name key.Group = Some (codes "group")
key_name key.FromBus = Some (codes "from_bus")
key_name key.FromId = Some (codes "from_id")
key_name key.ToBus = Some (codes "to_bus")
key_name key.ToId = Some (codes "to_id")
key_name key.Queue = Some (codes "queue")
key_name key.Depth = Some (codes "depth")
key_name key.Tick = Some (codes "tick")
key_name key.Role = Some (codes "role")
key_name key.Other = None

-- the key of the top table under which the tables of this kind stand
abbrev pub array_key : TableKind → Key
array_key Top = key.Other
array_key Bus = key.Bus
array_key Channel = key.Channel
array_key Path = key.Path
array_key Interface = key.Interface
array_key Cancel = key.Cancel
