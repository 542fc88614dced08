-- A setup of an accepted configuration keeps what every setup keeps, and its plan is lawful.
use Rattle.std.proofs.Common.{◌≡◌, ◌≢◌, ℕ, zero, suc, ◌<◌, ◌≤◌, Some, List, [], ◌∷◌, get_or, length, map, inl, inr, refl, sym, ap, subst, ◌∙◌, arith}
use Rattle.std.specs.Prelude.{slice_get, option_map, All, AllPairs}
use Rattle.std.proofs.lemmas.Bool.{cases_order}
use Rattle.std.proofs.lemmas.List.{length-map}
use Rattle.std.proofs.lemmas.List.Elements.{All-map, recursion_from_All}
use Rattle.std.proofs.lemmas.Option.{get_or_from_slice_get, same_Some, slice_get-get_or, slice_get-map, slice_get_within}
use Rattle.gw_config.specs.Config.{Configuration, PathEntry}
use Rattle.gw_config.specs.Lawful.{IsLawful}
use Rattle.gw_law.specs.Plan.{HasSending, IsLawfulPlan, IsLawfulReceiving, IsLawfulSending, Receiving, Sending}
use Rattle.hub_core.specs.Groups.{all_sizes}
use Rattle.route_check.specs.Conflicts.{IsAccepted}
use Rattle.gw_setup.specs.Lawful.{AreLawfulBuses, AreLawfulTimes, IsBus, IsLawfulDestination, IsLawfulPool, IsLawfulSetup, IsLawfulSource}
use Rattle.gw_setup.specs.Placed.{IsBusAt, IsSetupOf, IsSource}
use Rattle.gw_setup.specs.Plan.{budget_in, plan_of, receiving_of, sending_of}
use Rattle.gw_setup.specs.Setup.{Bus, Setup}
use Rattle.gw_setup.specs.declared.destination.Destination.{Destination}
use Rattle.gw_setup.specs.declared.source.Source.{Source}
use Rattle.gw_setup.proofs.EntryLemmas.{in_range}
use Rattle.gw_setup.proofs.GroupLemmas.{group_size, grouped_length, size_fits, sum_of_lengths}
use Rattle.gw_setup.proofs.RepeatLemmas.{bus_names_apart, channel_once, inputs_kept, outputs_apart}
use Rattle.gw_setup.proofs.SetupLemmas.{channels_apart, lawful_bus, lawful_destination, lawful_source}

-- ---- lists

all_from : {X : Type 0} (P : X → Type 0) (xs : List X) → ((k : ℕ) (x : X) → slice_get xs k ≡ Some x → P x) → All P xs
all_from P xs each k d within = each k (get_or xs k d) (slice_get-get_or xs k d within)

pairs_from : {X : Type 0} (R : X → X → Type 0) (xs : List X) → ((j k : ℕ) (x y : X) → j < k → slice_get xs j ≡ Some x → slice_get xs k ≡ Some y → R x y) → AllPairs R xs
pairs_from R xs each j k d before within =
    each j k (get_or xs j d) (get_or xs k d) before (slice_get-get_or xs j d (omega (arith, before, within))) (slice_get-get_or xs k d within)

pair_at : {X : Type 0} (R : X → X → Type 0) (xs : List X) → AllPairs R xs → (j k : ℕ) (x y : X) → j < k → slice_get xs j ≡ Some x → slice_get xs k ≡ Some y → R x y
pair_at R xs pairs j k x y before there here =
    let at : R (get_or xs j x) (get_or xs k x) = pairs j k x before (slice_get_within xs k y here) in
    let first : get_or xs j x ≡ x = get_or_from_slice_get xs j x x there in
    let second : get_or xs k x ≡ y = get_or_from_slice_get xs k y x here in
    subst (λ a. R a y) first (subst (R (get_or xs j x)) second at)

all_there : {X : Type 0} (P : X → Type 0) (xs : List X) → All P xs → (k : ℕ) (x : X) → slice_get xs k ≡ Some x → P x
all_there P xs all k x there = subst P (get_or_from_slice_get xs k x x there) (all k x (slice_get_within xs k x there))

mapped_at : {X Y : Type 0} (f : X → Y) (xs : List X) (k : ℕ) (y : Y) → slice_get (map f xs) k ≡ Some y → (x : X) × (slice_get xs k ≡ Some x) × (f x ≡ y)
mapped_at f [] k y there = cc
mapped_at f (x ∷ xs) zero y there = (x, refl, same_Some (f x) y there)
mapped_at f (x ∷ xs) (suc k) y there = mapped_at f xs k y there

-- ---- buses, pool and times

module _ (config : Configuration) (accepted : IsAccepted config) (lawful : IsLawful config) (setup : Setup) (is : IsSetupOf config setup) where
  bus_is : (k : ℕ) (bus : Bus) → slice_get setup.buses k ≡ Some bus → IsBusAt config k bus
  bus_is k bus there = is.buses.each k bus there

  lawful_buses : AreLawfulBuses setup.buses
  lawful_buses =
      let count = in_range 1 8 (length config.bus) lawful.bus in
      record {
        some = rw is.buses.as_many count.0;
        few = rw is.buses.as_many count.1;
        each = all_from IsBus setup.buses (λ k bus there. let at = bus_is k bus there in subst IsBus (sym at.is) (lawful_bus at.keys at.fits));
        names_apart = pairs_from (λ (one other : Bus). one.interface ≢ other.interface) setup.buses (λ j k one other before there here same.
            let at = bus_is j one there in
            let another = bus_is k other here in
            bus_names_apart config lawful.repeated j k at.keys another.keys before at.there another.there
            (ap (λ (b : Bus). b.interface) (sym at.is) ∙ same ∙ ap (λ (b : Bus). b.interface) another.is));
        outputs_apart = pairs_from (λ (one other : Bus). one.out ≢ other.out) setup.buses (λ j k one other before there here same.
            let at = bus_is j one there in
            let another = bus_is k other here in
            outputs_apart config lawful.repeated j k at.keys another.keys before at.there another.there
            (ap (λ (b : Bus). b.out) (sym at.is) ∙ same ∙ ap (λ (b : Bus). b.out) another.is));
        kept = λ j k one other there here same.
            let at = bus_is j one there in
            let another = bus_is k other here in
            inputs_kept config lawful.repeated j k at.keys another.keys at.there another.there
            (ap (λ (b : Bus). b.out) (sym at.is) ∙ same ∙ ap (λ (b : Bus). b.log) another.is);
      }

  lawful_pool : IsLawfulPool setup.counts setup.cells
  lawful_pool =
      let count = in_range 1 4 (length config.groups) lawful.group_count in
      record {
        some = rw (is.counts, length-map config.groups length) count.0;
        few = rw (is.counts, length-map config.groups length) count.1;
        buffers = rw is.counts (all_from (λ count. (1 ≤ count) × (count ≤ 32)) (map length config.groups) (λ k count there.
            let at = mapped_at length config.groups k count there in
            subst (λ n. (1 ≤ n) × (n ≤ 32)) at.2 (group_size config.groups lawful.groups k at.0 at.1)));
        all = rw (is.counts, is.cells) (sum_of_lengths config.groups);
        sizes = rw is.cells (all_from (λ size. (1 ≤ size) × (size ≤ 8192)) (all_sizes config.groups) (size_fits config.groups lawful.groups));
      }

  lawful_times : AreLawfulTimes setup
  lawful_times =
      let period = in_range 1 1_000_000 config.period lawful.period in
      let window = in_range 1 1000 config.window lawful.window in
      let linger = in_range 0 1_000_000 config.linger lawful.linger in
      record {
        some_period = omega (arith, period.0, is.period);
        period = omega (arith, period.1, is.period);
        some_window = omega (arith, window.0, is.window);
        window = omega (arith, window.1, is.window);
        linger = omega (arith, linger.1, is.linger);
      }

  -- ---- the plan

  lawful_sources : All (IsLawfulSource setup) setup.sources
  lawful_sources = all_from (IsLawfulSource setup) setup.sources (λ k source there. lawful_source config accepted lawful setup is source (is.sources.each k source there))

  lawful_destinations : All (IsLawfulDestination setup) setup.destinations
  lawful_destinations = all_from (IsLawfulDestination setup) setup.destinations (λ k destination there. lawful_destination config accepted lawful setup is destination (is.destinations.each k destination there))

  some_budget : (number : ℕ) (bus : Bus) → slice_get setup.buses number ≡ Some bus → 1 ≤ bus.budget → 1 ≤ budget_in setup.buses number
  some_budget number bus there some = rw there some

  lawful_receiving : (last : ℕ) (source : Source) → IsLawfulSource setup source → IsLawfulReceiving (plan_of setup last) (receiving_of source)
  lawful_receiving last source at = record {
    shape = at.sends.is_shape;
    group = omega (arith, at.group, grouped_length setup.counts setup.cells);
    n_ar = at.n_ar;
    n_br = at.n_br;
    n_cr = at.n_cr;
    budget = some_budget source.bus.0 at.sends.bus at.sends.there at.sends.is_bus.budget;
  }

  lawful_sending : (last : ℕ) (destination : Destination) → IsLawfulDestination setup destination → IsLawfulSending (plan_of setup last) (sending_of destination)
  lawful_sending last destination at = record {
    shape = at.sends.is_shape;
    n_as = at.n_as;
    n_bs = at.n_bs;
    budget = some_budget destination.bus.0 at.sends.bus at.sends.there at.sends.is_bus.budget;
  }

  -- the receivers of one path are one
  same_chan : (one other : Source) → IsSource config one → IsSource config other → one.set.path.0 ≡ other.set.path.0 → one.set.chan.0 ≡ other.set.chan.0
  same_chan one other at another same =
      let path : at.path ≡ another.path = same_Some at.path another.path (sym at.path_is ∙ ap (slice_get config.path) same ∙ another.path_is) in
      channel_once config lawful.repeated one.set.chan.0 other.set.chan.0 at.channel another.channel at.stands.channel_is another.stands.channel_is
      (sym at.comes_from ∙ ap (λ (p : PathEntry). p.from) path ∙ another.comes_from)

  source_once : (place other : ℕ) (one another : Source) → slice_get setup.sources place ≡ Some one → slice_get setup.sources other ≡ Some another → one.set.path.0 ≡ another.set.path.0 → place ≡ other
  source_once place other one another there here same =
      let chan : one.set.chan.0 ≡ another.set.chan.0 = same_chan one another (is.sources.each place one there) (is.sources.each other another here) same in
      let in_order = pair_at (λ (one other : Source). one.set.chan.0 < other.set.chan.0) setup.sources is.sources.in_order in
      elim (cases_order place other) [
        | inl equal ↦ equal
        | inr rest ↦ elim rest [
          | inl before ↦ let less : one.set.chan.0 < another.set.chan.0 = in_order place other one another before there here in absurd (omega (arith, less, chan))
          | inr after ↦ let less : another.set.chan.0 < one.set.chan.0 = in_order other place another one after here there in absurd (omega (arith, less, chan))
        ]
      ]

  readers_are : (source : Source) (of : IsSource config source) → source.set.readers ≡ length of.path.to
  readers_are source of = ap (λ s. s.readers) of.set

  has_sending : (last place dest : ℕ) (source : Source) → slice_get setup.sources place ≡ Some source → dest < source.set.readers → HasSending (plan_of setup last) source.set.path.0 dest
  has_sending last place dest source there within =
      let of = is.sources.each place source there in
      let few : dest < length of.path.to = omega (arith, within, readers_are source of) in
      let has = is.destinations.every source.set.path.0 dest of.path of.path_is few in
      record {
        place = has.place;
        sending = sending_of has.destination;
        there = slice_get-map sending_of setup.destinations has.place ∙ ap (option_map sending_of) has.there;
        path_is = has.path_is;
        dest_is = has.dest_is;
      }

  own_dest : (place other : ℕ) (source : Source) (destination : Destination) → slice_get setup.sources place ≡ Some source → slice_get setup.destinations other ≡ Some destination →
      destination.set.path.0 ≡ source.set.path.0 → destination.set.dest.0 < source.set.readers
  own_dest place other source destination there here same =
      let of = is.sources.each place source there in
      let at = is.destinations.each other destination here in
      let path : at.path ≡ of.path = same_Some at.path of.path (sym at.path_is ∙ ap (slice_get config.path) same ∙ of.path_is) in
      let within : destination.set.dest.0 < length at.path.to = slice_get_within at.path.to destination.set.dest.0 at.channel.name at.leads_to in
      omega (arith, within, ap (λ (p : PathEntry). length p.to) path, readers_are source of)

  lawful_plan : (last : ℕ) → IsLawfulPlan (plan_of setup last)
  lawful_plan last = record {
    window = lawful_times.some_window;
    receivers = recursion_from_All (IsLawfulReceiving (plan_of setup last)) (map receiving_of setup.sources) (All-map (IsLawfulReceiving (plan_of setup last)) receiving_of setup.sources
        (all_from (λ source. IsLawfulReceiving (plan_of setup last) (receiving_of source)) setup.sources
        (λ k source there. lawful_receiving last source (lawful_source config accepted lawful setup is source (is.sources.each k source there)))));
    senders = recursion_from_All (IsLawfulSending (plan_of setup last)) (map sending_of setup.destinations) (All-map (IsLawfulSending (plan_of setup last)) sending_of setup.destinations
        (all_from (λ destination. IsLawfulSending (plan_of setup last) (sending_of destination)) setup.destinations
        (λ k destination there. lawful_sending last destination (lawful_destination config accepted lawful setup is destination (is.destinations.each k destination there)))));
    apart = λ place other r another there here same.
        let one = mapped_at receiving_of setup.sources place r there in
        let two = mapped_at receiving_of setup.sources other another here in
        source_once place other one.0 two.0 one.1 two.1 (ap (λ (x : Receiving). x.set.path.0) one.2 ∙ same ∙ ap (λ (x : Receiving). x.set.path.0) (sym two.2));
    each_dest = λ place dest r there within.
        let one = mapped_at receiving_of setup.sources place r there in
        subst (λ (x : Receiving). HasSending (plan_of setup last) x.set.path.0 dest) one.2
        (has_sending last place dest one.0 one.1 (subst (λ (x : Receiving). dest < x.set.readers) (sym one.2) within));
    own_dest = λ place other r s there here same.
        let one = mapped_at receiving_of setup.sources place r there in
        let two = mapped_at sending_of setup.destinations other s here in
        let paths : two.0.set.path.0 ≡ one.0.set.path.0 = ap (λ (x : Sending). x.set.path.0) two.2 ∙ same ∙ ap (λ (x : Receiving). x.set.path.0) (sym one.2) in
        subst (λ (x : Sending). x.set.dest.0 < r.set.readers) two.2 (subst (λ (x : Receiving). two.0.set.dest.0 < x.set.readers) one.2 (own_dest place other one.0 two.0 one.1 two.1 paths));
  }

  pub lawful_setup : IsLawfulSetup setup
  lawful_setup = record {
    buses = lawful_buses;
    channels = record { few = rw is.channels.as_many (in_range 0 64 (length config.channel) lawful.channel).1; apart = channels_apart config accepted lawful setup.channels is.channels };
    sources = lawful_sources;
    destinations = lawful_destinations;
    one_receiver = is.sources.in_order;
    one_sender = is.destinations.in_order;
    pool = lawful_pool;
    times = lawful_times;
    plan = lawful_plan;
  }
