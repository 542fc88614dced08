-- What an accepted configuration's names are: each is there, and nothing is led to twice.
use Rattle.std.proofs.Common.{◌≡◌, ℕ, zero, suc, ◌-◌, ◌<◌, ◌≤◌, Bool, true, false, Option, Some, None, List, [], ◌∷◌, get_or, length, inl, inr, refl, sym, ap, ◌∙◌, arith}
use Rattle.std.specs.Prelude.{slice_get, ◌==◌, MatchOption}
use Rattle.std.specs.List.{list_any, position}
use Rattle.std.specs.Str.{bytes_eq}
use Rattle.std.proofs.lemmas.Bool.{and_from, both_ways, cases_order, eq-eqb, lt-ltb, ne_eqb, or_left, or_right}
use Rattle.std.proofs.lemmas.Option.{get_or_from_slice_get, same_Some, slice_get_within}
use Rattle.std.proofs.lemmas.Slice.Eq.{bytes_eq-Decides}
use Rattle.gw_config.specs.Config.{BusEntry, ChannelEntry, Configuration, PathEntry}
use Rattle.route_check.specs.Conflicts.{IsAccepted}
use Rattle.route_check.specs.Entries.{repeats, share_channel}
use Rattle.route_check.specs.Names.{is_among}
use Rattle.route_check.specs.declared.conflict.ConflictKind.TheVariants.{SharedSender, UnknownName}
use Rattle.route_check.specs.declared.conflict.Place.TheVariants.{Bus, Channel, Path}
use Rattle.gw_setup.specs.Found.{IsDestinationAt, IsNoDestination, IsNoSource, IsSourceAt}
use Rattle.gw_setup.specs.Placed.{AreDestinations, AreSources, HasDestination, HasSource, IsDestination, IsSource, StandsOn}
use Rattle.gw_setup.specs.declared.destination.Destination.{Destination}
use Rattle.gw_setup.specs.declared.source.Source.{Source}
use Rattle.gw_setup.proofs.FoundLemmas.{AreFound, FoundAt}
use Rattle.gw_setup.proofs.PlaceLemmas.{Passes, any_at, found_at, item_at, none_at, place_of_any, some_at}

pub same_text : (one other : List ℕ) → bytes_eq one other ≡ true → one ≡ other
same_text one other is = (bytes_eq-Decides one other).0 is

pub text_same : (one other : List ℕ) → one ≡ other → bytes_eq one other ≡ true
text_same one other is = (bytes_eq-Decides one other).1 is

module _ (config : Configuration) (accepted : IsAccepted config) where
  -- a channel's bus is there
  bus_case : (number : ℕ) (channel : ChannelEntry) → slice_get config.channel number ≡ Some channel →
      (b : Bool) → list_any (λ (bus : BusEntry). bytes_eq bus.name channel.bus) config.bus ≡ b → b ≡ true
  bus_case number channel there true is = refl
  bus_case number channel there false is =
      absurd (accepted (record { kind = UnknownName; place = Channel; first = number; other = Bus; second = 0 }) (rw there (rw is refl)))

  pub bus_named : (number : ℕ) (channel : ChannelEntry) → slice_get config.channel number ≡ Some channel →
      list_any (λ (bus : BusEntry). bytes_eq bus.name channel.bus) config.bus ≡ true
  bus_named number channel there = let is = bus_case number channel there _ refl in is

  -- a path's source is there
  source_case : (number : ℕ) (path : PathEntry) → slice_get config.path number ≡ Some path →
      (b : Bool) → list_any (λ (channel : ChannelEntry). bytes_eq channel.name path.from) config.channel ≡ b → b ≡ true
  source_case number path there true is = refl
  source_case number path there false is =
      absurd (accepted (record { kind = UnknownName; place = Path; first = number; other = Channel; second = 0 }) (rw there (rw is refl)))

  pub source_named : (number : ℕ) (path : PathEntry) → slice_get config.path number ≡ Some path →
      (place : ℕ) × Passes (λ (channel : ChannelEntry). bytes_eq channel.name path.from) config.channel place
  source_named number path there = place_of_any _ config.channel (source_case number path there _ refl)

  -- a path's destination is there
  dest_case : (number dest : ℕ) (path : PathEntry) (name : List ℕ) → slice_get config.path number ≡ Some path → slice_get path.to dest ≡ Some name →
      (b : Bool) → list_any (λ (channel : ChannelEntry). bytes_eq channel.name name) config.channel ≡ b → b ≡ true
  dest_case number dest path name there named true is = refl
  dest_case number dest path name there named false is =
      let same : suc dest - 1 ≡ dest = omega arith in
      let other : (suc dest == 0) ≡ false = ne_eqb (suc dest) 0 (λ none. absurd (omega (arith, none))) in
      absurd (accepted (record { kind = UnknownName; place = Path; first = number; other = Channel; second = suc dest }) (rw there (rw (other, same, named, is) refl)))

  pub dest_named : (number dest : ℕ) (path : PathEntry) (name : List ℕ) → slice_get config.path number ≡ Some path → slice_get path.to dest ≡ Some name →
      (place : ℕ) × Passes (λ (channel : ChannelEntry). bytes_eq channel.name name) config.channel place
  dest_named number dest path name there named = place_of_any _ config.channel (dest_case number dest path name there named _ refl)

  -- two paths share no channel
  sharing : (one other : ℕ) (path another : PathEntry) → one < other → slice_get config.path one ≡ Some path → slice_get config.path other ≡ Some another →
      share_channel path another ≡ true → ⊥
  sharing one other path another before there here share =
      accepted (record { kind = SharedSender; place = Path; first = one; other = Path; second = other })
      (or_left _ _ (and_from _ _ (lt-ltb one other before) (rw (there, here) share)))

  -- so two that share one, each with the other, are one
  share_once : (one other : ℕ) (path another : PathEntry) → slice_get config.path one ≡ Some path → slice_get config.path other ≡ Some another →
      share_channel path another ≡ true → share_channel another path ≡ true → one ≡ other
  share_once one other path another there here share back = elim (cases_order one other) [
    | inl same ↦ same
    | inr rest ↦ elim rest [
      | inl before ↦ absurd (sharing one other path another before there here share)
      | inr after ↦ absurd (sharing other one another path after here there back)
    ]
  ]

  pub path_once : (one other : ℕ) (path another : PathEntry) → slice_get config.path one ≡ Some path → slice_get config.path other ≡ Some another →
      path.from ≡ another.from → one ≡ other
  path_once one other path another there here same =
      share_once one other path another there here (or_left _ _ (text_same path.from another.from same)) (or_left _ _ (text_same another.from path.from (sym same)))

  common : (names others : List (List ℕ)) (place other : ℕ) (name : List ℕ) → slice_get names place ≡ Some name → slice_get others other ≡ Some name →
      list_any (is_among others) names ≡ true
  common names others place other name there here =
      any_at (is_among others) names place name there (any_at (λ text. bytes_eq text name) others other name here (text_same name name refl))

  -- two destinations of one name are of one path
  pub dest_path_once : (one other dest another_dest : ℕ) (path another : PathEntry) (name : List ℕ) → slice_get config.path one ≡ Some path → slice_get config.path other ≡ Some another →
      slice_get path.to dest ≡ Some name → slice_get another.to another_dest ≡ Some name → one ≡ other
  dest_path_once one other dest another_dest path another name there here named same =
      share_once one other path another there here (or_right _ _ (common path.to another.to dest another_dest name named same))
      (or_right _ _ (common another.to path.to another_dest dest name same named))

  twice : (names : List (List ℕ)) (place other : ℕ) (name : List ℕ) → place < other → slice_get names place ≡ Some name → slice_get names other ≡ Some name → repeats names ≡ true
  twice [] place other name before there here = cc
  twice (text ∷ names) place zero name before there here = absurd (omega (arith, before))
  twice (text ∷ names) zero (suc other) name before there here =
      let same : text ≡ name = same_Some text name there in
      or_left (is_among names text) (repeats names) (any_at (λ other. bytes_eq other text) names other name here (text_same name text (sym same)))
  twice (text ∷ names) (suc place) (suc other) name before there here = or_right (is_among names text) (repeats names) (twice names place other name (omega (arith, before)) there here)

  no_repeats : (number : ℕ) (path : PathEntry) → slice_get config.path number ≡ Some path → repeats path.to ≡ true → ⊥
  no_repeats number path there again =
      accepted (record { kind = SharedSender; place = Path; first = number; other = Path; second = number })
      (or_right _ _ (and_from _ _ (eq-eqb number number refl) (rw there again)))

  -- and they are one
  pub dest_once : (number dest other : ℕ) (path : PathEntry) (name : List ℕ) → slice_get config.path number ≡ Some path → slice_get path.to dest ≡ Some name →
      slice_get path.to other ≡ Some name → dest ≡ other
  dest_once number dest other path name there named same = elim (cases_order dest other) [
    | inl is ↦ is
    | inr rest ↦ elim rest [
      | inl before ↦ absurd (no_repeats number path there (twice path.to dest other name before named same))
      | inr after ↦ absurd (no_repeats number path there (twice path.to other dest name after same named))
    ]
  ]

  -- ---- where a channel stands

  pub bus_missing : (number : ℕ) (channel : ChannelEntry) (name : List ℕ) (buses : List BusEntry) → slice_get config.channel number ≡ Some channel → name ≡ channel.bus → buses ≡ config.bus →
      position (λ (bus : BusEntry). bytes_eq bus.name name) buses ≡ None → ⊥
  bus_missing number channel name buses there named same none =
      some_at (λ (bus : BusEntry). bytes_eq bus.name name) buses (rw (named, same) (bus_named number channel there)) none

  pub stands : (number on : ℕ) (channel : ChannelEntry) (name : List ℕ) (buses : List BusEntry) (bus : BusEntry) → slice_get config.channel number ≡ Some channel → name ≡ channel.bus → buses ≡ config.bus →
      position (λ (bus : BusEntry). bytes_eq bus.name name) buses ≡ Some on → bus ≡ get_or buses on bus → StandsOn config number (record { 0 = on }) channel bus
  stands number on channel name buses bus there named same is read =
      let found = found_at (λ (bus : BusEntry). bytes_eq bus.name name) buses on is in
      let item_is : found.item ≡ bus = sym (get_or_from_slice_get buses on found.item bus found.there) ∙ sym read in
      record {
        channel_is = there;
        bus_is = rw (← same, ← item_is) found.there;
        by_name = sym named ∙ sym (same_text bus.name name (rw (← item_is) found.passes));
      }

  -- ---- the paths from channels

  pub no_source : (number : ℕ) (channel : ChannelEntry) (name : List ℕ) (paths : List PathEntry) → slice_get config.channel number ≡ Some channel → name ≡ channel.name → paths ≡ config.path →
      position (λ (path : PathEntry). bytes_eq path.from name) paths ≡ None → IsNoSource config number
  no_source number channel name paths there named same none another place path here path_is from_is =
      let one : channel ≡ another = same_Some channel another (sym there ∙ here) in
      both_ways (bytes_eq path.from name) (none_at (λ (path : PathEntry). bytes_eq path.from name) paths none place path (rw same path_is))
      (text_same path.from name (from_is ∙ ap (λ (c : ChannelEntry). c.name) (sym one) ∙ sym named))

-- a path comes from the channel of a number
pub record SourceLeads (config : Configuration) (number path : ℕ) : Type 0 where
  pub channel : ChannelEntry
  pub keys : PathEntry
  pub channel_is : slice_get config.channel number ≡ Some channel
  pub path_is : slice_get config.path path ≡ Some keys
  pub from_is : keys.from ≡ channel.name

module _ (config : Configuration) (accepted : IsAccepted config) where
  -- the one path that comes from the channel of a source is the source's
  source_is_of : (number : ℕ) (source : Source) → IsSourceAt config number source → (path : ℕ) → SourceLeads config number path → source.set.path.0 ≡ path
  source_is_of number source at path leads =
      let one : at.is.channel ≡ leads.channel = same_Some at.is.channel leads.channel (sym at.is.stands.channel_is ∙ ap (slice_get config.channel) at.number_is ∙ leads.channel_is) in
      path_once config accepted source.set.path.0 path at.is.path leads.keys at.is.path_is leads.path_is
      (at.is.comes_from ∙ ap (λ (c : ChannelEntry). c.name) one ∙ sym leads.from_is)

  pub source_found : (number : ℕ) (found : Option Source) → MatchOption found (IsNoSource config number) (IsSourceAt config number) →
      FoundAt (IsSource config) (λ (s : Source). s.set.chan.0) (λ (s : Source) (path : ℕ). s.set.path.0 ≡ path) (SourceLeads config) number found
  source_found number None none = λ path leads. none leads.channel path leads.keys leads.channel_is leads.path_is leads.from_is
  source_found number (Some source) at = (at.is, at.number_is, source_is_of number source at)

  source_of_path : (count : ℕ) (sources : List Source) → AreFound (IsSource config) (λ (s : Source). s.set.chan.0) (λ (s : Source) (path : ℕ). s.set.path.0 ≡ path) (SourceLeads config) count sources →
      length config.channel ≤ count → (path : ℕ) → path < length config.path → HasSource sources path
  source_of_path count sources found all path within =
      let at = item_at config.path path within in
      let named = source_named config accepted path at.0 at.1 in
      let less : named.0 < length config.channel = slice_get_within config.channel named.0 named.1.item named.1.there in
      let has = found.every named.0 path (omega (arith, all, less)) (record {
        channel = named.1.item;
        keys = at.0;
        channel_is = named.1.there;
        path_is = at.1;
        from_is = sym (same_text named.1.item.name at.0.from named.1.passes);
      }) in
      record { place = has.place; source = has.item; there = has.there; path_is = has.is_of }

  pub sources_all : (count : ℕ) (sources : List Source) → AreFound (IsSource config) (λ (s : Source). s.set.chan.0) (λ (s : Source) (path : ℕ). s.set.path.0 ≡ path) (SourceLeads config) count sources →
      length config.channel ≤ count → AreSources config sources
  sources_all count sources found all = record { each = found.each; every = source_of_path count sources found all; in_order = found.in_order }

-- a destination of a path is the channel of a number
pub record DestinationLeads (config : Configuration) (number : ℕ) (key : ℕ × ℕ) : Type 0 where
  pub channel : ChannelEntry
  pub keys : PathEntry
  pub channel_is : slice_get config.channel number ≡ Some channel
  pub path_is : slice_get config.path key.0 ≡ Some keys
  pub named : slice_get keys.to key.1 ≡ Some channel.name

-- a sender is that of this path and this destination
abbrev pub IsSenderOf : Destination → ℕ × ℕ → Type 0
IsSenderOf destination key = (destination.set.path.0 ≡ key.0) × (destination.set.dest.0 ≡ key.1)

module _ (config : Configuration) (accepted : IsAccepted config) where
  destination_is_of : (number : ℕ) (destination : Destination) → IsDestinationAt config number destination → (key : ℕ × ℕ) → DestinationLeads config number key → IsSenderOf destination key
  destination_is_of number destination at key leads =
      let one : at.is.channel ≡ leads.channel = same_Some at.is.channel leads.channel (sym at.is.stands.channel_is ∙ ap (slice_get config.channel) at.number_is ∙ leads.channel_is) in
      let named : slice_get at.is.path.to destination.set.dest.0 ≡ Some leads.channel.name = at.is.leads_to ∙ ap (λ (c : ChannelEntry). Some c.name) one in
      let path_is : destination.set.path.0 ≡ key.0 = dest_path_once config accepted destination.set.path.0 key.0 destination.set.dest.0 key.1 at.is.path leads.keys leads.channel.name at.is.path_is leads.path_is named leads.named in
      let same : at.is.path ≡ leads.keys = same_Some at.is.path leads.keys (sym at.is.path_is ∙ ap (slice_get config.path) path_is ∙ leads.path_is) in
      let other : slice_get leads.keys.to destination.set.dest.0 ≡ Some leads.channel.name = ap (λ (p : PathEntry). slice_get p.to destination.set.dest.0) (sym same) ∙ named in
      (path_is, dest_once config accepted key.0 destination.set.dest.0 key.1 leads.keys leads.channel.name leads.path_is other leads.named)

  pub destination_found : (number : ℕ) (found : Option Destination) → MatchOption found (IsNoDestination config number) (IsDestinationAt config number) →
      FoundAt (IsDestination config) (λ (d : Destination). d.chan.0) IsSenderOf (DestinationLeads config) number found
  destination_found number None none = λ key leads. none leads.channel leads.channel_is key.0 key.1 leads.keys leads.path_is leads.named
  destination_found number (Some destination) at = (at.is, at.number_is, destination_is_of number destination at)

  destination_of : (count : ℕ) (destinations : List Destination) → AreFound (IsDestination config) (λ (d : Destination). d.chan.0) IsSenderOf (DestinationLeads config) count destinations →
      length config.channel ≤ count → (number dest : ℕ) (path : PathEntry) → slice_get config.path number ≡ Some path → dest < length path.to → HasDestination destinations number dest
  destination_of count destinations found all number dest path there within =
      let name = item_at path.to dest within in
      let named = dest_named config accepted number dest path name.0 there name.1 in
      let less : named.0 < length config.channel = slice_get_within config.channel named.0 named.1.item named.1.there in
      let has = found.every named.0 (number, dest) (omega (arith, all, less)) (record {
        channel = named.1.item;
        keys = path;
        channel_is = named.1.there;
        path_is = there;
        named = name.1 ∙ ap Some (sym (same_text named.1.item.name name.0 named.1.passes));
      }) in
      record { place = has.place; destination = has.item; there = has.there; path_is = has.is_of.0; dest_is = has.is_of.1 }

  pub destinations_all : (count : ℕ) (destinations : List Destination) → AreFound (IsDestination config) (λ (d : Destination). d.chan.0) IsSenderOf (DestinationLeads config) count destinations →
      length config.channel ≤ count → AreDestinations config destinations
  destinations_all count destinations found all = record { each = found.each; every = destination_of count destinations found all; in_order = found.in_order }
