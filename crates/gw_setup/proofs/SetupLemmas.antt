-- What stands at each place of a setup is lawful.
use Rattle.std.proofs.Common.{◌≡◌, ℕ, ◌<◌, ◌≤◌, ◌&&◌, not, Bool, true, false, Option, Some, None, List, get_or, length, refl, sym, ap, subst, ◌∙◌, arith}
use Rattle.std.specs.Prelude.{slice_get, ◌==◌, nat_le, nat_lt}
use Rattle.std.specs.List.{list_all}
use Rattle.std.proofs.lemmas.Bool.{and_from, and_parts, eqb-true, false_from_ne_true, lt-ltb, or_left}
use Rattle.std.proofs.lemmas.Bool.Decides.{nat_tests}
use Rattle.std.proofs.lemmas.List.{length-map}
use Rattle.std.proofs.lemmas.Option.{same_Some, slice_get-get_or, slice_get_within}
use Rattle.can_frame.specs.declared.id.CanId.{CanId}
use Rattle.can_frame.specs.declared.id.CanId.TheVariants.{Std, Ext}
use Rattle.gw_base.specs.declared.numbers.BusNo.{BusNo}
use Rattle.gw_base.specs.declared.numbers.ChanNo.{ChanNo}
use Rattle.gw_config.specs.Config.{BusEntry, ChannelEntry, Configuration}
use Rattle.gw_config.specs.Lawful.{IsLawful, IsLawfulBus, IsLawfulChannel}
use Rattle.gw_config.specs.Rows.{is_frame_length}
use Rattle.gw_config.specs.Texts.{is_folder, is_name_byte, name_fits}
use Rattle.gw_law.specs.Channels.{bytes_of_address}
use Rattle.route_check.specs.Conflicts.{IsAccepted}
use Rattle.route_check.specs.Entries.{addresses_overlap as check_overlap, same_id as check_id}
use Rattle.route_check.specs.declared.conflict.ConflictKind.TheVariants.{MixedLength, SameAddress}
use Rattle.route_check.specs.declared.conflict.Place.TheVariants.{Bus as BusPlace, Channel}
use Rattle.route_table.proofs.MatchLemmas.{are_apart-pairs}
use Rattle.route_table.specs.Match.{addresses_overlap, are_apart, overlap, same_id}
use Rattle.route_table.specs.declared.entry.ChanEntry.{ChanEntry}
use Rattle.tp_unit.specs.Shape.{IsShape, is_frame_size}
use Rattle.gw_setup.specs.Lawful.{IsBus, IsInTable, IsLawfulDestination, IsLawfulSource, SendsOn}
use Rattle.gw_setup.specs.Machines.{bus_of, comes_to, shape_of}
use Rattle.gw_setup.specs.Placed.{AreAll, IsBusAt, IsChannelAt, IsDestination, IsSetupOf, IsSource, StandsOn}
use Rattle.gw_setup.specs.Setup.{Bus, Setup}
use Rattle.gw_setup.specs.declared.destination.Destination.{Destination}
use Rattle.gw_setup.specs.declared.source.Source.{Source}
use Rattle.gw_setup.proofs.ConfigLemmas.{text_same}
use Rattle.gw_setup.proofs.EntryLemmas.{in_range}
use Rattle.gw_setup.proofs.GroupLemmas.{group_there}
use Rattle.gw_setup.proofs.PlaceLemmas.{item_at}
use Rattle.gw_setup.proofs.RepeatLemmas.{bus_once}
use Rattle.gw_setup.proofs.TextLemmas.{visible}

-- ---- one entry

frame_size : (dl : ℕ) → is_frame_length dl ≡ true → is_frame_size dl ≡ true
frame_size dl is = grind (arith, nat_tests)

pub lawful_shape : (bus : BusEntry) (channel : ChannelEntry) → IsLawfulChannel channel → IsShape (shape_of bus channel)
lawful_shape bus channel fits = record { id = fits.tx; size = frame_size channel.dl fits.dl; fd = refl }

name_size : (most : ℕ) (is_file : Bool) (name : List ℕ) → name_fits most is_file name ≡ true → (1 ≤ length name) × (length name ≤ most)
name_size most is_file name fits = in_range 1 most (length name) (and_parts _ _ fits).0

name_bytes : (most : ℕ) (is_file : Bool) (name : List ℕ) → name_fits most is_file name ≡ true → list_all is_name_byte name ≡ true
name_bytes most is_file name fits = (and_parts _ _ (and_parts (nat_le 1 (length name) && nat_le (length name) most) (list_all is_name_byte name && not (is_file && is_folder name)) fits).1).0

pub lawful_bus : (keys : BusEntry) → IsLawfulBus keys → IsBus (bus_of keys)
lawful_bus keys fits =
    let name = name_size 15 false keys.name fits.name in
    let log = name_size 64 true keys.log fits.log in
    let out = name_size 64 true keys.out fits.out in
    record {
      interface = record { some = omega (arith, name.0); short = name.1; visible = visible keys.name (name_bytes 15 false keys.name fits.name) };
      log = (omega (arith, log.0), log.1);
      out = (omega (arith, out.0), out.1);
      budget = (in_range 1 64 keys.budget fits.budget).0;
    }

all_three : (a b : Bool) → (a && b) ≡ true → (a && true && b) ≡ true
all_three true true is = refl
all_three true false is = let clash : false ≡ true = is in cc
all_three false b is = let clash : false ≡ true = is in cc

-- ---- the buses and the channels of a setup

module _ (config : Configuration) (accepted : IsAccepted config) (lawful : IsLawful config) where
  -- a channel on a bus without CAN FD has classic frames
  pub fits_bus : (number : ℕ) (on : BusNo) (channel : ChannelEntry) (bus : BusEntry) → StandsOn config number on channel bus → (nat_lt 8 channel.dl && not bus.fd) ≡ false
  fits_bus number on channel bus stands = false_from_ne_true _ (λ is.
      accepted (record { kind = MixedLength; place = Channel; first = number; other = BusPlace; second = on.0 })
      (rw (stands.channel_is, stands.bus_is) (rw (text_same channel.bus bus.name stands.by_name) (all_three (nat_lt 8 channel.dl) (not bus.fd) is))))

  pub bus_there : (buses : List Bus) → AreAll config.bus (IsBusAt config) buses → (number : ℕ) (bus : BusEntry) → slice_get config.bus number ≡ Some bus →
      (slice_get buses number ≡ Some (bus_of bus)) × IsLawfulBus bus
  bus_there buses are number bus there =
      let within : number < length config.bus = slice_get_within config.bus number bus there in
      let at = item_at buses number (omega (arith, within, are.as_many)) in
      let is = are.each number at.0 at.1 in
      let one : is.keys ≡ bus = same_Some is.keys bus (sym is.there ∙ there) in
      (at.1 ∙ ap Some (is.is ∙ ap bus_of one), subst IsLawfulBus one is.fits)

  -- two channels of one bus's name stand on one bus
  pub same_bus : (one other : BusNo) (bus another : BusEntry) → slice_get config.bus one.0 ≡ Some bus → slice_get config.bus other.0 ≡ Some another → bus.name ≡ another.name → one ≡ other
  same_bus one other bus another there here same = let number : one.0 ≡ other.0 = bus_once config lawful.repeated one.0 other.0 bus another there here same in ap (λ n. record { 0 = n }) number

  pub channel_there : (channels : List ChanEntry) → AreAll config.channel (IsChannelAt config) channels → (chan : ChanNo) (on : BusNo) (channel : ChannelEntry) (bus : BusEntry) →
      StandsOn config chan.0 on channel bus → IsInTable channels chan on (comes_to channel)
  channel_there channels are chan on channel bus stands =
      let within : chan.0 < length config.channel = slice_get_within config.channel chan.0 channel stands.channel_is in
      let at = item_at channels chan.0 (omega (arith, within, are.as_many)) in
      let is = are.each chan.0 at.0 at.1 in
      let one : is.channel ≡ channel = same_Some is.channel channel (sym is.stands.channel_is ∙ stands.channel_is) in
      let same : at.0.bus ≡ on = same_bus at.0.bus on is.bus bus is.stands.bus_is stands.bus_is (sym is.stands.by_name ∙ ap (λ (c : ChannelEntry). c.bus) one ∙ stands.by_name) in
      at.1 ∙ ap Some (is.is ∙ ap (λ (b : BusNo). record { chan = chan; bus = b; id = is.channel.rx; address = is.channel.rx_address }) same
      ∙ ap (λ (c : ChannelEntry). record { chan = chan; bus = on; id = c.rx; address = c.rx_address }) one)

  pub sends_on : (setup : Setup) → AreAll config.bus (IsBusAt config) setup.buses → (number : ℕ) (on : BusNo) (channel : ChannelEntry) (bus : BusEntry) → StandsOn config number on channel bus → IsLawfulChannel channel →
      SendsOn setup on (shape_of bus channel)
  sends_on setup are number on channel bus stands fits =
      let there = bus_there setup.buses are on.0 bus stands.bus_is in
      record {
        bus = bus_of bus;
        there = there.0;
        is_bus = lawful_bus bus there.1;
        fits = record { fd = fits_bus number on channel bus stands; brs = refl };
        is_shape = lawful_shape bus channel fits;
      }

  -- ---- the frames of two channels

  same_ids : (one other : CanId) → same_id one other ≡ true → check_id one other ≡ true
  same_ids (Std one) (Std other) is = is
  same_ids (Ext one) (Ext other) is = is
  same_ids (Std one) (Ext other) is = is
  same_ids (Ext one) (Std other) is = is

  same_addresses : (one other : Option ℕ) → addresses_overlap one other ≡ true → check_overlap one other ≡ true
  same_addresses (Some one) (Some other) is = is
  same_addresses (Some one) None is = is
  same_addresses None (Some other) is = is
  same_addresses None None is = is

  pub frames_apart : (i j : ℕ) (one other : ChanEntry) → i < j → IsChannelAt config i one → IsChannelAt config j other → overlap one other ≡ true → ⊥
  frames_apart i j one other before at another both =
      let on = and_parts (one.bus.0 == other.bus.0) (same_id one.id other.id && addresses_overlap one.address other.address) both in
      let frames = and_parts (same_id one.id other.id) (addresses_overlap one.address other.address) on.1 in
      let number : one.bus.0 ≡ other.bus.0 = eqb-true one.bus.0 other.bus.0 on.0 in
      let bus : at.bus ≡ another.bus = same_Some at.bus another.bus (sym at.stands.bus_is ∙ ap (slice_get config.bus) number ∙ another.stands.bus_is) in
      let named : at.channel.bus ≡ another.channel.bus = at.stands.by_name ∙ ap (λ (b : BusEntry). b.name) bus ∙ sym another.stands.by_name in
      let id : check_id at.channel.rx another.channel.rx ≡ true = same_ids at.channel.rx another.channel.rx (rw (← ap (λ (e : ChanEntry). e.id) at.is, ← ap (λ (e : ChanEntry). e.id) another.is) frames.0) in
      let address : check_overlap at.channel.rx_address another.channel.rx_address ≡ true =
      same_addresses at.channel.rx_address another.channel.rx_address (rw (← ap (λ (e : ChanEntry). e.address) at.is, ← ap (λ (e : ChanEntry). e.address) another.is) frames.1) in
      accepted (record { kind = SameAddress; place = Channel; first = i; other = Channel; second = j })
      (and_from _ _ (lt-ltb i j before) (rw (at.stands.channel_is, another.stands.channel_is)
      (and_from _ _ (text_same at.channel.bus another.channel.bus named) (or_left _ _ (and_from _ _ id address)))))

  pub channels_apart : (channels : List ChanEntry) → AreAll config.channel (IsChannelAt config) channels → are_apart channels ≡ true
  channels_apart channels are = are_apart-pairs channels (λ i j d before within. false_from_ne_true _ (λ both.
      frames_apart i j (get_or channels i d) (get_or channels j d) before (are.each i (get_or channels i d) (slice_get-get_or channels i d (omega (arith, before, within))))
      (are.each j (get_or channels j d) (slice_get-get_or channels j d within)) both))

  -- ---- a receiver and a sender

  group_count : (setup : Setup) → IsSetupOf config setup → length setup.counts ≡ length config.groups
  group_count setup is = ap length is.counts ∙ length-map config.groups length

  pub lawful_source : (setup : Setup) → IsSetupOf config setup → (source : Source) → IsSource config source → IsLawfulSource setup source
  lawful_source setup is source of =
      let within : source.set.path.0 < length config.path = slice_get_within config.path source.set.path.0 of.path of.path_is in
      let at : source.set.chan.0 < length config.channel = slice_get_within config.channel source.set.chan.0 of.channel of.stands.channel_is in
      let channels = in_range 0 64 (length config.channel) lawful.channel in
      let few = in_range 0 64 (length config.path) lawful.path in
      let readers = in_range 1 8 (length of.path.to) of.path_fits.count in
      record {
        in_table = subst (IsInTable setup.channels source.set.chan source.bus) (sym of.comes) (channel_there setup.channels is.channels source.set.chan source.bus of.channel of.bus of.stands);
        sends = subst (SendsOn setup source.bus) (sym of.shape) (sends_on setup is.buses source.set.chan.0 source.bus of.channel of.bus of.stands of.channel_fits);
        address = ap (λ s. s.a) of.set ∙ ap (λ c. bytes_of_address c.byte) (sym of.comes);
        chan = omega (arith, at, channels.1);
        path = omega (arith, within, few.1);
        group = omega (arith, ap (λ s. s.group.0) of.set, group_there config accepted source.set.path.0 of.path of.path_is, group_count setup is);
        some_readers = rw (ap (λ s. s.readers) of.set) readers.0;
        readers = rw (ap (λ s. s.readers) of.set) readers.1;
        n_ar = rw (ap (λ s. s.n_ar) of.set) (in_range 1 1_000_000 of.channel.n_ar of.channel_fits.n_ar).0;
        n_br = rw (ap (λ s. s.n_br) of.set) (in_range 1 1_000_000 of.channel.n_br of.channel_fits.n_br).0;
        n_cr = rw (ap (λ s. s.n_cr) of.set) (in_range 1 1_000_000 of.channel.n_cr of.channel_fits.n_cr).0;
      }

  pub lawful_destination : (setup : Setup) → IsSetupOf config setup → (destination : Destination) → IsDestination config destination → IsLawfulDestination setup destination
  lawful_destination setup is destination of =
      let within : destination.set.path.0 < length config.path = slice_get_within config.path destination.set.path.0 of.path of.path_is in
      let at : destination.chan.0 < length config.channel = slice_get_within config.channel destination.chan.0 of.channel of.stands.channel_is in
      let channels = in_range 0 64 (length config.channel) lawful.channel in
      let few = in_range 0 64 (length config.path) lawful.path in
      let readers = in_range 1 8 (length of.path.to) of.path_fits.count in
      let one : destination.set.dest.0 < length of.path.to = slice_get_within of.path.to destination.set.dest.0 of.channel.name of.leads_to in
      record {
        in_table = subst (IsInTable setup.channels destination.chan destination.bus) (sym of.comes) (channel_there setup.channels is.channels destination.chan destination.bus of.channel of.bus of.stands);
        sends = subst (SendsOn setup destination.bus) (sym (ap (λ s. s.shape) of.set)) (sends_on setup is.buses destination.chan.0 destination.bus of.channel of.bus of.stands of.channel_fits);
        chan = omega (arith, at, channels.1);
        path = omega (arith, within, few.1);
        group = omega (arith, ap (λ s. s.group.0) of.set, group_there config accepted destination.set.path.0 of.path of.path_is, group_count setup is);
        dest = omega (arith, one, readers.1);
        n_as = rw (ap (λ s. s.n_as) of.set) (in_range 1 1_000_000 of.channel.n_as of.channel_fits.n_as).0;
        n_bs = rw (ap (λ s. s.n_bs) of.set) (in_range 1 1_000_000 of.channel.n_bs of.channel_fits.n_bs).0;
        n_cs = rw (ap (λ s. s.n_cs) of.set) (in_range 1 1_000_000 of.channel.n_cs of.channel_fits.n_cs).0;
        period = ap (λ s. s.period) of.set ∙ sym is.period;
      }
