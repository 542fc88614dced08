-- A receiver and a sender that are made of the entries that were found.
use Rattle.std.proofs.Common.{◌≡◌, ℕ, ◌+◌, ◌<◌, ◌≤◌, ◌&&◌, true, Some, None, List, get_or, length, inl, inr, refl, sym, ap, subst, ◌∙◌, arith}
use Rattle.std.specs.Prelude.{◌≢◌, slice_get, nat_le}
use Rattle.std.specs.List.{position}
use Rattle.std.specs.Str.{bytes_eq}
use Rattle.std.proofs.lemmas.Bool.{both_ways, cases_lt}
use Rattle.std.proofs.lemmas.Bool.Decides.{nat_tests}
use Rattle.std.proofs.lemmas.Option.{get_or_from_slice_get, same_Some, slice_get_within}
use Rattle.gw_base.specs.declared.numbers.BusNo.{BusNo}
use Rattle.gw_base.specs.declared.numbers.ChanNo.{ChanNo}
use Rattle.gw_config.specs.Config.{BusEntry, ChannelEntry, Configuration, PathEntry}
use Rattle.gw_config.specs.Lawful.{IsLawfulChannel, IsLawfulPath}
use Rattle.tp_receiver.specs.declared.set.RxSet.{RxSet}
use Rattle.tp_sender.specs.declared.set.TxSet.{TxSet}
use Rattle.tp_unit.specs.declared.shape.Shape.{Shape}
use Rattle.gw_setup.specs.Found.{IsDestinationAt, IsSourceAt, LeadsTo}
use Rattle.gw_setup.specs.Machines.{comes_to, rx_set_of, shape_of, tx_set_of}
use Rattle.gw_setup.specs.Placed.{StandsOn}
use Rattle.gw_setup.specs.declared.address.Address.{Address}
use Rattle.gw_setup.specs.declared.names.DestPlace.{DestPlace}
use Rattle.gw_setup.proofs.ConfigLemmas.{same_text, text_same}
use Rattle.gw_setup.proofs.PlaceLemmas.{found_at, none_at}

pub in_range : (low high n : ℕ) → (nat_le low n && nat_le n high) ≡ true → (low ≤ n) × (n ≤ high)
in_range low high n is = grind (arith, nat_tests)

pub made_source : (config : Configuration) (number place : ℕ) (on : BusNo) (chan : ChanNo) (channel : ChannelEntry) (bus : BusEntry) (name : List ℕ) (paths others : List PathEntry) (path : PathEntry)
    (set : RxSet) (comes : Address) (shape : Shape) → StandsOn config number on channel bus → chan.0 ≡ number → IsLawfulChannel channel → name ≡ channel.name → paths ≡ config.path →
    position (λ (p : PathEntry). bytes_eq p.from name) paths ≡ Some place → path ≡ get_or others place path → others ≡ config.path → IsLawfulPath path →
    set ≡ rx_set_of (record { 0 = place }) chan path channel → comes ≡ comes_to channel → shape ≡ shape_of bus channel →
    IsSourceAt config number (record { set = set; comes = comes; shape = shape; bus = on })
made_source config number place on chan channel bus name paths others path set comes shape stands chan_is channel_fits named same is read same_others path_fits set_is comes_is shape_is =
    let found = found_at (λ (p : PathEntry). bytes_eq p.from name) paths place is in
    let one : paths ≡ others = same ∙ sym same_others in
    let item_is : found.item ≡ path = sym (get_or_from_slice_get paths place found.item path found.there) ∙ ap (λ l. get_or l place path) one ∙ sym read in
    let there : slice_get config.path place ≡ Some path = ap (λ l. slice_get l place) (sym same) ∙ found.there ∙ ap Some item_is in
    let comes_from : path.from ≡ channel.name = same_text path.from name (ap (λ (p : PathEntry). bytes_eq p.from name) (sym item_is) ∙ found.passes) ∙ named in
    let stands_on : StandsOn config chan.0 on channel bus = subst (λ n. StandsOn config n on channel bus) (sym chan_is) stands in
    rw (set_is, comes_is, shape_is) (record {
      is = record {
        path = path;
        channel = channel;
        bus = bus;
        path_is = there;
        comes_from = comes_from;
        stands = stands_on;
        path_fits = path_fits;
        channel_fits = channel_fits;
        set = refl;
        comes = refl;
        shape = refl;
      };
      number_is = chan_is;
    })

pub made_destination : (config : Configuration) (number : ℕ) (found : DestPlace) (on : BusNo) (chan : ChanNo) (channel : ChannelEntry) (bus : BusEntry) (name : List ℕ) (paths others : List PathEntry) (path : PathEntry)
    (set : TxSet) (comes : Address) → StandsOn config number on channel bus → chan.0 ≡ number → IsLawfulChannel channel → name ≡ channel.name → paths ≡ config.path →
    LeadsTo paths name found → path ≡ get_or others found.path path → others ≡ config.path → IsLawfulPath path →
    set ≡ tx_set_of config.period (record { 0 = found.path }) (record { 0 = found.dest }) path bus channel → comes ≡ comes_to channel →
    IsDestinationAt config number (record { set = set; chan = chan; comes = comes; bus = on })
made_destination config number found on chan channel bus name paths others path set comes stands chan_is channel_fits named same leads read same_others path_fits set_is comes_is =
    let one : paths ≡ others = same ∙ sym same_others in
    let item_is : leads.path ≡ path = sym (get_or_from_slice_get paths found.path leads.path path leads.there) ∙ ap (λ l. get_or l found.path path) one ∙ sym read in
    let there : slice_get config.path found.path ≡ Some path = ap (λ l. slice_get l found.path) (sym same) ∙ leads.there ∙ ap Some item_is in
    let leads_to : slice_get path.to found.dest ≡ Some channel.name = ap (λ (p : PathEntry). slice_get p.to found.dest) (sym item_is) ∙ leads.named ∙ ap Some named in
    let stands_on : StandsOn config chan.0 on channel bus = subst (λ n. StandsOn config n on channel bus) (sym chan_is) stands in
    rw (set_is, comes_is) (record {
      is = record {
        path = path;
        channel = channel;
        bus = bus;
        path_is = there;
        leads_to = leads_to;
        stands = stands_on;
        path_fits = path_fits;
        channel_fits = channel_fits;
        set = refl;
        comes = refl;
      };
      number_is = chan_is;
    })

pub leads_to : (paths : List PathEntry) (name : List ℕ) (place dest : ℕ) (path : PathEntry) (names : List (List ℕ)) → slice_get paths place ≡ Some path → names ≡ path.to → IsLawfulPath path →
    position (λ other. bytes_eq other name) names ≡ Some dest → LeadsTo paths name (record { path = place; dest = dest })
leads_to paths name place dest path names there same fits is =
    let found = found_at (λ other. bytes_eq other name) names dest is in
    let named : slice_get path.to dest ≡ Some name = ap (λ l. slice_get l dest) (sym same) ∙ found.there ∙ ap Some (same_text found.item name found.passes) in
    let few = in_range 1 8 (length path.to) fits.count in
    let within : dest < length path.to = slice_get_within path.to dest name named in
    record { path = path; there = there; named = named; few = omega (arith, few.1, within) }

pub leads_more : (paths : List PathEntry) (name : List ℕ) (count : ℕ) (entry : PathEntry) (names : List (List ℕ)) → slice_get paths count ≡ Some entry → names ≡ entry.to →
    ((place dest : ℕ) (path : PathEntry) → place < count → slice_get paths place ≡ Some path → slice_get path.to dest ≢ Some name) → position (λ other. bytes_eq other name) names ≡ None →
    (place dest : ℕ) (path : PathEntry) → place < count + 1 → slice_get paths place ≡ Some path → slice_get path.to dest ≢ Some name
leads_more paths name count entry names here same before none place dest path within there named =
    elim (cases_lt place count) [ inl less ↦ before place dest path less there named | inr more ↦ next (omega (arith, within, more)) ]
  where
    next : place ≡ count → ⊥
    next is =
        let one : entry ≡ path = same_Some entry path (sym here ∙ ap (slice_get paths) (sym is) ∙ there) in
        let listed : slice_get names dest ≡ Some name = ap (λ l. slice_get l dest) same ∙ ap (λ (p : PathEntry). slice_get p.to dest) one ∙ named in
        both_ways (bytes_eq name name) (none_at (λ other. bytes_eq other name) names none dest name listed) (text_same name name refl)
