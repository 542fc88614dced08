-- What a configuration leaves free is one thing, and why one isn't built.
use Rattle.std.proofs.Common.{◌≡◌, ◌≢◌, ℕ, ◌<◌, ◌≤◌, ◌&&◌, nat_le, nat_lt, not, Bool, true, false, if◌then◌else◌, Option, Some, None, option_map, List, [], ◌∷◌, ◌++◌, get_or, length, ap, refl, sym, subst, ◌∙◌, arith}
use Rattle.std.specs.Option.{option_or}
use Rattle.std.specs.Prelude.{slice_get}
use Rattle.std.specs.List.{list_all}
use Rattle.std.proofs.lemmas.Bool.Decides.{nat_tests}
use Rattle.std.proofs.lemmas.Slice.Eq.{bytes_eq-Decides}
use Rattle.gw_config.specs.Config.{BusEntry, ChannelEntry, Configuration, PathEntry}
use Rattle.gw_config.specs.Lawful.{IsLawful, IsLawfulChannel}
use Rattle.gw_config.specs.Groups.{group_fits}
use Rattle.gw_config.specs.Rows.{is_frame_length}
use Rattle.route_check.specs.Conflicts.{IsAccepted}
use Rattle.route_check.specs.declared.conflict.ConflictKind.TheVariants.{MixedLength}
use Rattle.route_check.specs.declared.conflict.Place.TheVariants.{Bus, Channel}
use Rattle.tp_unit.specs.Shape.{is_frame_size}
use Rattle.gw_config.specs.Repeated.{bus_repeats, is_used, repeated_among, repeated_in}
use Rattle.gw_run.specs.Setup.{FitsBus, HasLawfulNumbers, IsBaseBus, IsBasePath, IsBuiltConfig, Setup, bus_of}

-- a list of two items, and of one
pub two-items : {A : Type 0} (l : List A) (x y : A) → 2 ≤ length l → length l < 3 → x ≡ get_or l 0 x → y ≡ get_or l 1 y → l ≡ x ∷ y ∷ []
two-items [] x y some few first second = absurd (omega (arith, some))
two-items (a ∷ []) x y some few first second = absurd (omega (arith, some))
two-items (a ∷ b ∷ []) x y some few first second = rw (first, second) refl
two-items (a ∷ b ∷ c ∷ l) x y some few first second = absurd (omega (arith, few))

pub one-item : {A : Type 0} (l : List A) (x : A) → 1 ≤ length l → length l < 2 → x ≡ get_or l 0 x → l ≡ x ∷ []
one-item [] x some few first = absurd (omega (arith, some))
one-item (a ∷ []) x some few first = rw first refl
one-item (a ∷ b ∷ l) x some few first = absurd (omega (arith, few))

first-same : {A : Type 0} (l : List A) (a b c d : A) → l ≡ a ∷ b ∷ [] → l ≡ c ∷ d ∷ [] → a ≡ c
first-same l a b c d one other = let same : a ∷ b ∷ [] ≡ c ∷ d ∷ [] = sym one ∙ other in cc

second-same : {A : Type 0} (l : List A) (a b c d : A) → l ≡ a ∷ b ∷ [] → l ≡ c ∷ d ∷ [] → b ≡ d
second-same l a b c d one other = let same : a ∷ b ∷ [] ≡ c ∷ d ∷ [] = sym one ∙ other in cc

only-same : {A : Type 0} (l : List A) (a b : A) → l ≡ a ∷ [] → l ≡ b ∷ [] → a ≡ b
only-same l a b one other = let same : a ∷ [] ≡ b ∷ [] = sym one ∙ other in cc

only-buffer : (groups : List (List ℕ)) (a b : ℕ) → groups ≡ (a ∷ []) ∷ [] → groups ≡ (b ∷ []) ∷ [] → a ≡ b
only-buffer groups a b one other = let same : (a ∷ []) ∷ [] ≡ (b ∷ []) ∷ [] = sym one ∙ other in cc

-- two are one where all of their fields are
same-fields : (some other : Setup) → some.source ≡ other.source → some.destination ≡ other.destination → some.receiver ≡ other.receiver → some.sender ≡ other.sender → some.path ≡ other.path →
    some.cells ≡ other.cells → some.period ≡ other.period → some.linger ≡ other.linger → some ≡ other
same-fields some other source destination receiver sender path cells period linger =
    ap (λ x. record some { source = x }) source ∙ ap (λ x. record some { source = other.source; destination = x }) destination
    ∙ ap (λ x. record some { source = other.source; destination = other.destination; receiver = x }) receiver
    ∙ ap (λ x. record some { source = other.source; destination = other.destination; receiver = other.receiver; sender = x }) sender
    ∙ ap (λ x. record other { path = x; cells = some.cells; period = some.period; linger = some.linger }) path
    ∙ ap (λ x. record other { cells = x; period = some.period; linger = some.linger }) cells
    ∙ ap (λ x. record other { period = x; linger = some.linger }) period ∙ ap (λ x. record other { linger = x }) linger

pub setup-once : (c : Configuration) (some other : Setup) → IsBuiltConfig c some → IsBuiltConfig c other → some ≡ other
setup-once c some other one two =
    same-fields some other (one.source_bus ∙ ap bus_of (first-same c.bus one.source one.destination two.source two.destination one.buses two.buses) ∙ sym two.source_bus)
    (one.destination_bus ∙ ap bus_of (second-same c.bus one.source one.destination two.source two.destination one.buses two.buses) ∙ sym two.destination_bus)
    (first-same c.channel some.receiver some.sender other.receiver other.sender one.channels two.channels)
    (second-same c.channel some.receiver some.sender other.receiver other.sender one.channels two.channels) (only-same c.path some.path other.path one.paths two.paths)
    (only-buffer c.groups some.cells other.cells one.buffer two.buffer) (one.period ∙ sym two.period) (one.linger ∙ sym two.linger)

-- ---- why a configuration isn't built

pub other_source : (c : Configuration) (source destination : BusEntry) → c.bus ≡ source ∷ destination ∷ [] → ¬ IsBaseBus source → (setup : Setup) → ¬ IsBuiltConfig c setup
other_source c source destination is not setup built =
    not (rw (first-same c.bus source destination built.source built.destination is built.buses) built.source_is)

pub other_destination : (c : Configuration) (source destination : BusEntry) → c.bus ≡ source ∷ destination ∷ [] → ¬ IsBaseBus destination → (setup : Setup) → ¬ IsBuiltConfig c setup
other_destination c source destination is not setup built =
    not (rw (second-same c.bus source destination built.source built.destination is built.buses) built.destination_is)

pub other_receiver : (c : Configuration) (source destination : BusEntry) (receiver sender : ChannelEntry) → c.bus ≡ source ∷ destination ∷ [] → c.channel ≡ receiver ∷ sender ∷ [] →
    receiver.bus ≢ source.name → (setup : Setup) → ¬ IsBuiltConfig c setup
other_receiver c source destination receiver sender buses channels not setup built =
    not (rw (first-same c.bus source destination built.source built.destination buses built.buses, first-same c.channel receiver sender setup.receiver setup.sender channels built.channels) built.receiver_on)

pub other_sender : (c : Configuration) (source destination : BusEntry) (receiver sender : ChannelEntry) → c.bus ≡ source ∷ destination ∷ [] → c.channel ≡ receiver ∷ sender ∷ [] →
    sender.bus ≢ destination.name → (setup : Setup) → ¬ IsBuiltConfig c setup
other_sender c source destination receiver sender buses channels not setup built =
    not (rw (second-same c.bus source destination built.source built.destination buses built.buses, second-same c.channel receiver sender setup.receiver setup.sender channels built.channels) built.sender_on)

pub other_path : (c : Configuration) (receiver sender : ChannelEntry) (path : PathEntry) → c.channel ≡ receiver ∷ sender ∷ [] → c.path ≡ path ∷ [] →
    ¬ IsBasePath receiver.name sender.name path → (setup : Setup) → ¬ IsBuiltConfig c setup
other_path c receiver sender path channels paths not setup built =
    not (rw (first-same c.channel receiver sender setup.receiver setup.sender channels built.channels, second-same c.channel receiver sender setup.receiver setup.sender channels built.channels, only-same c.path path setup.path paths built.paths) built.path_is)

-- ---- what a lawful configuration leaves free is lawful

in-range : (low high n : ℕ) → (nat_le low n && nat_le n high) ≡ true → (low ≤ n) × (n ≤ high)
in-range low high n is = grind (arith, nat_tests)

-- the one buffer has a lawful size
only-cells : (groups : List (List ℕ)) (cells : ℕ) → list_all group_fits groups ≡ true → groups ≡ (cells ∷ []) ∷ [] → (1 ≤ cells) × (cells ≤ 8192)
only-cells groups cells all is =
    let fits : (((nat_le 1 cells && nat_le cells 8192) && true) && true) ≡ true = subst (λ l. list_all group_fits l ≡ true) is all in
    grind (arith, nat_tests)

all-three : (a b : Bool) → (a && b) ≡ true → (a && true && b) ≡ true
all-three true true is = refl
all-three true false is = let clash : false ≡ true = is in cc
all-three false b is = let clash : false ≡ true = is in cc

-- an accepted configuration has no channel of longer frames than its bus has
pub fits-bus : (c : Configuration) (place other : ℕ) (channel : ChannelEntry) (bus : BusEntry) → IsAccepted c → slice_get c.channel place ≡ Some channel → slice_get c.bus other ≡ Some bus → channel.bus ≡ bus.name →
    (b : Bool) → (nat_lt 8 channel.dl && not bus.fd) ≡ b → b ≡ false
fits-bus c place other channel bus accepted there here on false is = refl
fits-bus c place other channel bus accepted there here on true is =
    absurd (accepted (record { kind = MixedLength; place = Channel; first = place; other = Bus; second = other })
    (rw (there, here) (rw ((bytes_eq-Decides channel.bus bus.name).1 on) (all-three (nat_lt 8 channel.dl) (not bus.fd) is))))

frame-size : (dl : ℕ) → is_frame_length dl ≡ true → is_frame_size dl ≡ true
frame-size dl is = grind (arith, nat_tests)

pub lawful_numbers : (c : Configuration) (setup : Setup) → IsLawful c → c.groups ≡ (setup.cells ∷ []) ∷ [] → setup.period ≡ c.period → setup.linger ≡ c.linger →
    IsLawfulChannel setup.receiver → IsLawfulChannel setup.sender → setup.source.out ≢ setup.destination.out →
    2 ≤ setup.source.budget → 2 ≤ setup.destination.budget → FitsBus setup.source setup.receiver → FitsBus setup.destination setup.sender → HasLawfulNumbers setup
lawful_numbers c setup lawful buffer period_is linger_is received sent apart source_budget destination_budget received_fits sent_fits =
    let ticks = in-range 1 1_000_000 c.period lawful.period in
    let on = in-range 0 1_000_000 c.linger lawful.linger in
    let size = only-cells c.groups setup.cells lawful.groups buffer in
    record {
      apart = apart;
      some_cells = size.0;
      cells = size.1;
      some = omega (arith, ticks.0, period_is);
      period = omega (arith, ticks.1, period_is);
      linger = omega (arith, on.1, linger_is);
      receiver_tx = received.tx;
      sender_tx = sent.tx;
      receiver_size = frame-size setup.receiver.dl received.dl;
      sender_size = frame-size setup.sender.dl sent.dl;
      source_budget = source_budget;
      destination_budget = destination_budget;
      receiver_fits = received_fits;
      sender_fits = sent_fits;
      n_ar = (in-range 1 1_000_000 setup.receiver.n_ar received.n_ar).0;
      n_br = (in-range 1 1_000_000 setup.receiver.n_br received.n_br).0;
      n_cr = (in-range 1 1_000_000 setup.receiver.n_cr received.n_cr).0;
      n_as = (in-range 1 1_000_000 setup.sender.n_as sent.n_as).0;
      n_bs = (in-range 1 1_000_000 setup.sender.n_bs sent.n_bs).0;
      n_cs = (in-range 1 1_000_000 setup.sender.n_cs sent.n_cs).0;
    }

none-of : {A : Type 0} (one other : Option A) → option_or one other ≡ None → (one ≡ None) × (other ≡ None)
none-of None other is = (refl, is)
none-of (Some x) other is = let clash : Some x ≡ None = is in cc

no-key : {A B : Type 0} (f : A → B) (o : Option A) → option_map f o ≡ None → o ≡ None
no-key f None is = refl
no-key f (Some x) is = let clash : Some (f x) ≡ None = is in cc

-- what comes second comes, where what comes first doesn't
second-comes : {A : Type 0} (first second : Bool) (x y : A) (rest : Option A) → second ≡ true → (if first then Some x else if second then Some y else rest) ≡ None → ⊥
second-comes true second x y rest is none = let clash : Some x ≡ None = none in cc
second-comes false true x y rest is none = let clash : Some y ≡ None = none in cc
second-comes false false x y rest is none = let clash : false ≡ true = is in cc

-- an output that an earlier bus has repeats
out-used : (source destination : BusEntry) → source.out ≡ destination.out → bus_repeats (source ∷ destination ∷ []) (source ∷ []) destination ≡ None → ⊥
out-used source destination same none =
    let used : is_used (λ (other : BusEntry). other.out) (source ∷ []) destination.out ≡ true = rw ((bytes_eq-Decides source.out destination.out).1 same) refl in
    second-comes (is_used (λ (other : BusEntry). other.name) (source ∷ []) destination.name) (is_used (λ (other : BusEntry). other.out) (source ∷ []) destination.out) _ _ _ used none

-- two buses of a lawful configuration have two outputs
pub outs_apart : (c : Configuration) (source destination : BusEntry) → repeated_in c ≡ None → c.bus ≡ source ∷ destination ∷ [] → source.out ≢ destination.out
outs_apart c source destination none buses same =
    let all : repeated_among (source ∷ destination ∷ []) c.channel c.path c.interface ≡ None = rw buses at none in
    let bus = (none-of _ _ all).0 in
    let second = (none-of _ _ (none-of _ _ bus).1).0 in
    let key : bus_repeats (source ∷ destination ∷ []) ([] ++ source ∷ []) destination ≡ None = no-key _ _ second in
    out-used source destination same key
