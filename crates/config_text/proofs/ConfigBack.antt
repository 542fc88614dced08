-- The whole tree that a configuration is printed as is read as that configuration, and isn't deep.
use Rattle.std.proofs.Common.{◌≡◌, ℕ, ◌≤◌, ◌^◌, ◌-◌, true, List, [], ◌∷◌, length, map, is_some, pos, Option, None, Some, Ok, zero-add, refl, ap, ◌∙◌, arith}
use Rattle.toml.specs.Data.{Data, Members, integer, as_table, string, depth, items_depth, members_depth}
use Rattle.toml.specs.Data as tree
use Rattle.toml.specs.View.{items_of}
use Rattle.gw_settings.specs.declared.key.Key.TheVariants as key
use Rattle.gw_settings.specs.declared.table_kind.TableKind.TheVariants as table
use Rattle.gw_settings.specs.Readings.{group_count, is_group}
use Rattle.gw_settings.specs.Tree.{element_at, entry_of}
use Rattle.gw_config.specs.declared.words.Mode.{Mode}
use Rattle.gw_config.specs.declared.words.Mode.TheVariants.{Serial, Threads}
use Rattle.gw_config.specs.Config.{ChannelEntry, PathEntry, CancelEntry, Configuration}
use Rattle.gw_config.specs.Document.{Spells}
use Rattle.gw_settings.specs.Tree.{IsText}
use Rattle.gw_config.specs.Entries.{bus_at, channel_at, path_at, interface_at, cancel_at, top_in, counts_in, entries_in, config_in}
use Rattle.gw_config.specs.Lawful.{AreLawful, IsLawful, IsLawfulBus, IsLawfulChannel, IsLawfulPath, IsLawfulInterface, IsLawfulCancel}
use Rattle.config_text.specs.Printed.{bus_table, channel_table, path_table, interface_table, cancel_table, config_table, group_value, mode_text}
use Rattle.gw_config.specs.Groups.{group_at, group_fits, groups_found}
use Rattle.gw_config.specs.Words.{mode_of}
use Rattle.config_text.proofs.GroupsBack.{group_back, is_group-value}
use Rattle.config_text.proofs.ReadBack.{all_fit, all_of-back, each_back, few, bus_back, channel_back, path_back, interface_back, cancel_back}

mode_back : (mode : Mode) → mode_of (mode_text mode) ≡ Some mode
mode_back Serial = refl
mode_back Threads = refl

module _ (config : Configuration) (lawful : IsLawful config) where
  count_back : group_count (config_table config) ≡ Ok (Some (length config.groups))
  count_back =
      let few_groups : length config.groups ≤ 2 ^ 32 - 1 = few 1 4 (length config.groups) lawful.group_count (omega arith) in
      rw (all_of-back group_value is_group is_group-value config.groups few_groups) refl

  groups_back : groups_found (config_table config) (Some (length config.groups)) ≡ Ok config.groups
  groups_back =
      rw (lawful.group_count)
      (each_back group_value (λ group. group_fits group ≡ true) (group_at (config_table config)) (element_at (config_table config) table.Top 0 key.Groups)
      (group_back (config_table config)) config.groups 0 (all_fit group_fits config.groups lawful.groups)
      (λ k. ap (element_at (config_table config) table.Top 0 key.Groups) (zero-add k)))

  top_back : top_in (config_table config) ≡ Ok (record { period = config.period; window = config.window; linger = config.linger; mode = config.mode; groups = config.groups; is_grouped = true })
  top_back = rw (lawful.period, lawful.window, lawful.linger, mode_back config.mode, count_back, groups_back) refl

  counts_back : counts_in (config_table config) ≡ Ok (record { bus = length config.bus; channel = length config.channel; path = length config.path; interface = length config.interface; cancel = length config.cancel })
  counts_back =
      rw (
        all_of-back bus_table (λ element. is_some (as_table element)) (λ entry. refl) config.bus (few 1 8 (length config.bus) lawful.bus (omega arith)),
        lawful.bus,
        all_of-back channel_table (λ element. is_some (as_table element)) (λ entry. refl) config.channel (few 0 64 (length config.channel) lawful.channel (omega arith)),
        lawful.channel,
        all_of-back path_table (λ element. is_some (as_table element)) (λ entry. refl) config.path (few 0 64 (length config.path) lawful.path (omega arith)),
        lawful.path,
        all_of-back interface_table (λ element. is_some (as_table element)) (λ entry. refl) config.interface (few 0 32 (length config.interface) lawful.interface (omega arith)),
        lawful.interface,
        all_of-back cancel_table (λ element. is_some (as_table element)) (λ entry. refl) config.cancel (few 0 64 (length config.cancel) lawful.cancel (omega arith)),
        lawful.cancel,
      ) refl

  module _ (each : AreLawful config) where
    entries_back : entries_in (config_table config) (record { bus = length config.bus; channel = length config.channel; path = length config.path; interface = length config.interface; cancel = length config.cancel }) ≡
        Ok (record { bus = config.bus; channel = config.channel; path = config.path; interface = config.interface; cancel = config.cancel })
    entries_back =
        rw (
          each_back bus_table IsLawfulBus (bus_at (config_table config)) (entry_of (config_table config) table.Bus) (bus_back (config_table config)) config.bus 0 each.bus (λ k. ap (entry_of (config_table config) table.Bus) (zero-add k)),
          each_back channel_table IsLawfulChannel (channel_at (config_table config)) (entry_of (config_table config) table.Channel) (channel_back (config_table config)) config.channel 0 each.channel (λ k. ap (entry_of (config_table config) table.Channel) (zero-add k)),
          each_back path_table IsLawfulPath (path_at (config_table config)) (entry_of (config_table config) table.Path) (path_back (config_table config)) config.path 0 each.path (λ k. ap (entry_of (config_table config) table.Path) (zero-add k)),
          each_back interface_table IsLawfulInterface (interface_at (config_table config)) (entry_of (config_table config) table.Interface) (interface_back (config_table config)) config.interface 0 each.interface (λ k. ap (entry_of (config_table config) table.Interface) (zero-add k)),
          each_back cancel_table IsLawfulCancel (cancel_at (config_table config)) (entry_of (config_table config) table.Cancel) (cancel_back (config_table config)) config.cancel 0 each.cancel (λ k. ap (entry_of (config_table config) table.Cancel) (zero-add k)),
        ) refl

    pub config_back : config_in (config_table config) ≡ Ok config
    config_back = rw (top_back, counts_back, entries_back, lawful.repeated) refl

-- a text of that tree spells the configuration
pub text_back : (text : List ℕ) (members : Members) (config : Configuration) → IsText text (tree.table members) → tree.table members ≡ config_table config → IsLawful config → AreLawful config → Spells text config
text_back text members config is same lawful each = (tree.table members, is, ap config_in same ∙ config_back config lawful each)

-- ---- depth

items_shallow : {A : Type 0} (show : A → Data) (most : ℕ) → ((value : A) → depth (show value) ≤ most) → (values : List A) → items_depth (items_of (map show values)) ≤ most
items_shallow show most shallow [] = omega arith
items_shallow show most shallow (value ∷ values) = omega (arith, shallow value, items_shallow show most shallow values)

group_shallow : (group : List ℕ) → depth (group_value group) ≤ 1
group_shallow group = omega (arith, items_shallow (λ cells. integer (pos cells)) 0 (λ cells. omega arith) group)

path_shallow : (entry : PathEntry) → depth (path_table entry) ≤ 2
path_shallow entry = omega (arith, items_shallow string 0 (λ text. omega arith) entry.to)

channel_shallow : (entry : ChannelEntry) (rx tx : Option ℕ) → entry.rx_address ≡ rx → entry.tx_address ≡ tx → depth (channel_table entry) ≤ 2
channel_shallow entry None None rx tx = rw (rx, tx) (omega arith)
channel_shallow entry None (Some b) rx tx = rw (rx, tx) (omega arith)
channel_shallow entry (Some a) None rx tx = rw (rx, tx) (omega arith)
channel_shallow entry (Some a) (Some b) rx tx = rw (rx, tx) (omega arith)

cancel_shallow : (entry : CancelEntry) (to : Option (List ℕ)) → entry.to ≡ to → depth (cancel_table entry) ≤ 2
cancel_shallow entry None to = rw to (omega arith)
cancel_shallow entry (Some text) to = rw to (omega arith)

config_shallow : (config : Configuration) → depth (config_table config) ≤ 5
config_shallow config =
    omega (
      arith,
      items_shallow group_value 1 group_shallow config.groups,
      items_shallow bus_table 2 (λ entry. omega arith) config.bus,
      items_shallow channel_table 2 (λ entry. channel_shallow entry entry.rx_address entry.tx_address refl refl) config.channel,
      items_shallow path_table 2 path_shallow config.path,
      items_shallow interface_table 2 (λ entry. omega arith) config.interface,
      items_shallow cancel_table 2 (λ entry. cancel_shallow entry entry.to refl) config.cancel,
    )

pub members_shallow : (members : Members) (config : Configuration) → tree.table members ≡ config_table config → members_depth members ≤ 80
members_shallow members config same =
    let deep : depth (tree.table members) ≡ depth (config_table config) = ap depth same in
    omega (arith, deep, config_shallow config)
