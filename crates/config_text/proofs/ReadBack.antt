-- The tree that a configuration is printed as is read as that configuration.
use Rattle.std.proofs.Common.{◌≡◌, ℕ, suc, ◌+◌, ◌≤◌, ◌^◌, ◌-◌, Bool, true, false, ◌&&◌, List, [], ◌∷◌, length, map, min, nat_le, is_some, Option, None, Some, Result, Ok, zero-add, refl, sym, ap, ◌∙◌, arith}
use Rattle.std.proofs.lemmas.Bool.{and_parts, false≢true, leb-true}
use Rattle.std.proofs.lemmas.List.{length-map}
use Rattle.std.specs.List.{list_all, AllByRecursion}
use Rattle.toml.specs.Data.{Data, get_item, string, as_str}
use Rattle.toml.specs.View.{items_of}
use Rattle.gw_settings.specs.declared.fault.ConfigFault.{ConfigFault}
use Rattle.gw_settings.specs.declared.table_kind.TableKind.TheVariants as table
use Rattle.gw_settings.specs.Readings.{all_of}
use Rattle.gw_settings.specs.Tree.{element_at, elements, entry_of}
use Rattle.gw_config.specs.declared.words.Addressing.TheVariants.{Normal, Extended, Mixed}
use Rattle.gw_config.specs.declared.words.Addressing.{Addressing}
use Rattle.gw_config.specs.declared.words.QueueKind.{QueueKind}
use Rattle.gw_config.specs.declared.words.QueueKind.TheVariants.{Fifo, Last, Keep}
use Rattle.gw_config.specs.declared.words.Role.{Role}
use Rattle.gw_config.specs.declared.words.Role.TheVariants.{Receive, Send}
use Rattle.gw_config.specs.Config.{BusEntry, ChannelEntry, PathEntry, InterfaceEntry, CancelEntry}
use Rattle.gw_config.specs.Entries.{bus_at, channel_at, path_at, interface_at, cancel_at}
use Rattle.gw_config.specs.Lawful.{IsLawfulBus, IsLawfulChannel, IsLawfulPath, IsLawfulInterface, IsLawfulCancel}
use Rattle.config_text.specs.Printed.{bus_table, channel_table, path_table, interface_table, cancel_table, queue_text, role_text, addressing_text}
use Rattle.gw_settings.specs.declared.key.Key.TheVariants as key
use Rattle.gw_config.specs.declared.keys.TheConstants as row
use Rattle.gw_config.specs.Rows.{each_from, text_at, text_fits, has_address}
use Rattle.gw_config.specs.Words.{queue_of, role_of, addressing_of}
use Rattle.config_text.proofs.IdBack.{id_back}

-- ---- arrays

pub elements-items_of : (values : List Data) → elements (items_of values) ≡ values
elements-items_of [] = refl
elements-items_of (value ∷ values) = ap (λ rest. value ∷ rest) (elements-items_of values)

module _ {A : Type 0} (show : A → Data) (test : Data → Bool) (passes : (value : A) → test (show value) ≡ true) where
  pub all_pass : (values : List A) → list_all test (map show values) ≡ true
  all_pass [] = refl
  all_pass (value ∷ values) = rw (passes value, all_pass values) refl

  -- an array of one kind alone is counted
  pub all_of-back : (values : List A) → length values ≤ 2 ^ 32 - 1 → all_of test (Some (items_of (map show values))) ≡ Ok (length values)
  all_of-back values few =
      let least : min (length values) (2 ^ 32 - 1) ≡ length values = omega (arith, few) in
      rw (elements-items_of (map show values), all_pass values, length-map values show, least) refl

-- each value of a list is read back where it stands
pub each_back : {A : Type 0} (show : A → Data) (IsLawful : A → Type 0) (read : ℕ → Result A ConfigFault) (get : ℕ → Option Data) →
    ((index : ℕ) (value : A) → IsLawful value → get index ≡ Some (show value) → read index ≡ Ok value) →
    (values : List A) (first : ℕ) → AllByRecursion IsLawful values →
    ((k : ℕ) → get (first + k) ≡ get_item k (items_of (map show values))) → each_from read first (length values) ≡ Ok values
each_back show IsLawful read get back [] first lawful stand = refl
each_back show IsLawful read get back (value ∷ values) first lawful stand =
    let here : get first ≡ Some (show value) = ap get (omega arith) ∙ stand 0 in
    let later : (k : ℕ) → get (first + 1 + k) ≡ get_item k (items_of (map show values)) = λ k. ap get (omega arith) ∙ stand (suc k) in
    rw (back first value lawful.0 here, each_back show IsLawful read get back values (first + 1) lawful.1 later) refl

-- ---- words

queue_back : (queue : QueueKind) → queue_of (queue_text queue) ≡ Some queue
queue_back Fifo = refl
queue_back Last = refl
queue_back Keep = refl

role_back : (role : Role) → role_of (role_text role) ≡ Some role
role_back Receive = refl
role_back Send = refl

pub all_fit : {A : Type 0} (test : A → Bool) (values : List A) → list_all test values ≡ true → AllByRecursion (λ value. test value ≡ true) values
all_fit test [] all = tt
all_fit test (value ∷ values) all =
    let (here, more) = and_parts (test value) (list_all test values) all in
    (here, all_fit test values more)

-- a number in a small range
pub few : (low high count : ℕ) → (nat_le low count && nat_le count high) ≡ true → high ≤ 2 ^ 32 - 1 → count ≤ 2 ^ 32 - 1
few low high count fits small =
    let (least, most) = and_parts (nat_le low count) (nat_le count high) fits in
    omega (arith, small, leb-true count high most)

-- ---- entries

pub bus_back : (root : Data) (index : ℕ) (entry : BusEntry) → IsLawfulBus entry → entry_of root table.Bus index ≡ Some (bus_table entry) → bus_at root index ≡ Ok entry
bus_back root index entry lawful stands = rw (stands, lawful.name, lawful.log, lawful.out, lawful.budget) refl

pub interface_back : (root : Data) (index : ℕ) (entry : InterfaceEntry) → IsLawfulInterface entry → entry_of root table.Interface index ≡ Some (interface_table entry) → interface_at root index ≡ Ok entry
interface_back root index entry lawful stands =
    rw (stands, lawful.name, lawful.from_bus, id_back entry.from_id lawful.from_id, lawful.to_bus, id_back entry.to_id lawful.to_id, queue_back entry.queue, lawful.depth) refl

cancel_without : (root : Data) (index : ℕ) (entry : CancelEntry) → IsLawfulCancel entry → entry_of root table.Cancel index ≡ Some (cancel_table entry) → entry.to ≡ None → cancel_at root index ≡ Ok entry
cancel_without root index entry lawful stands none =
    rw (stands, none, lawful.path, lawful.tick, role_back entry.role) refl

cancel_with : (root : Data) (index : ℕ) (entry : CancelEntry) (to : List ℕ) → IsLawfulCancel entry → entry_of root table.Cancel index ≡ Some (cancel_table entry) → entry.to ≡ Some to → cancel_at root index ≡ Ok entry
cancel_with root index entry to lawful stands some =
    let fits = rw some at lawful.to in
    rw (stands, some, lawful.path, lawful.tick, role_back entry.role, fits) refl

pub cancel_back : (root : Data) (index : ℕ) (entry : CancelEntry) → IsLawfulCancel entry → entry_of root table.Cancel index ≡ Some (cancel_table entry) → cancel_at root index ≡ Ok entry
cancel_back root index entry lawful stands = cancel_by entry.to refl where
  cancel_by : (to : Option (List ℕ)) → entry.to ≡ to → cancel_at root index ≡ Ok entry
  cancel_by None none = cancel_without root index entry lawful stands none
  cancel_by (Some to) some = cancel_with root index entry to lawful stands some

addressing_back : (addressing : Addressing) → addressing_of (addressing_text addressing) ≡ Some addressing
addressing_back Normal = refl
addressing_back Extended = refl
addressing_back Mixed = refl

module _ (root : Data) (index : ℕ) (entry : ChannelEntry) (lawful : IsLawfulChannel entry) (stands : entry_of root table.Channel index ≡ Some (channel_table entry)) where
  channel_plain : has_address entry.addressing ≡ false → entry.rx_address ≡ None → entry.tx_address ≡ None → channel_at root index ≡ Ok entry
  channel_plain plain rx tx =
      rw (
        stands,
        rx,
        tx,
        lawful.name,
        lawful.bus,
        id_back entry.rx lawful.rx,
        id_back entry.tx lawful.tx,
        addressing_back entry.addressing,
        plain,
        lawful.dl_range,
        lawful.dl,
        lawful.fill,
        lawful.bs,
        lawful.stmin,
        lawful.wft_max,
        lawful.n_as,
        lawful.n_ar,
        lawful.n_bs,
        lawful.n_br,
        lawful.n_cs,
        lawful.n_cr,
        plain,
      ) refl

  channel_addressed : (rx_address tx_address : ℕ) → has_address entry.addressing ≡ true → entry.rx_address ≡ Some rx_address → entry.tx_address ≡ Some tx_address → channel_at root index ≡ Ok entry
  channel_addressed rx_address tx_address addressed rx tx =
      let rx_fits = rw rx at lawful.rx_range in
      let tx_fits = rw tx at lawful.tx_range in
      rw (
        stands,
        rx,
        tx,
        lawful.name,
        lawful.bus,
        id_back entry.rx lawful.rx,
        id_back entry.tx lawful.tx,
        addressing_back entry.addressing,
        addressed,
        rx_fits,
        tx_fits,
        lawful.dl_range,
        lawful.dl,
        lawful.fill,
        lawful.bs,
        lawful.stmin,
        lawful.wft_max,
        lawful.n_as,
        lawful.n_ar,
        lawful.n_bs,
        lawful.n_br,
        lawful.n_cs,
        lawful.n_cr,
        addressed,
      ) refl

  channel_by : (rx_address tx_address : Option ℕ) → entry.rx_address ≡ rx_address → entry.tx_address ≡ tx_address → channel_at root index ≡ Ok entry
  channel_by None None rx tx = channel_plain (sym (rw rx at lawful.rx_address)) rx tx
  channel_by (Some rx_address) (Some tx_address) rx tx = channel_addressed rx_address tx_address (sym (rw rx at lawful.rx_address)) rx tx
  channel_by None (Some tx_address) rx tx = absurd (false≢true (rw rx at lawful.rx_address ∙ sym (rw tx at lawful.tx_address)))
  channel_by (Some rx_address) None rx tx = absurd (false≢true (rw tx at lawful.tx_address ∙ sym (rw rx at lawful.rx_address)))

  pub channel_back : channel_at root index ≡ Ok entry
  channel_back = channel_by entry.rx_address entry.tx_address refl refl

-- ---- arrays of texts and numbers

module _ (root : Data) (index : ℕ) (entry : PathEntry) (lawful : IsLawfulPath entry) (stands : entry_of root table.Path index ≡ Some (path_table entry)) where
  to_back : each_from (text_at row.PATH_DESTINATION index root) 0 (length entry.to) ≡ Ok entry.to
  to_back =
      each_back string (λ text. text_fits row.PATH_DESTINATION text ≡ true) (text_at row.PATH_DESTINATION index root) (element_at root table.Path index key.To)
      (λ at text fits is. rw (is, fits) refl) entry.to 0 (all_fit (text_fits row.PATH_DESTINATION) entry.to lawful.to)
      (λ k. rw (stands, zero-add k) refl)

  pub path_back : path_at root index ≡ Ok entry
  path_back =
      let few : length entry.to ≤ 2 ^ 32 - 1 = few 1 8 (length entry.to) lawful.count (omega arith) in
      rw (stands, lawful.name, lawful.from, all_of-back string (λ element. is_some (as_str element)) (λ text. refl) entry.to few, lawful.count, to_back, lawful.threshold, lawful.group) refl
