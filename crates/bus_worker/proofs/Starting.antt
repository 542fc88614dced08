-- A new worker's machines stand before their first tick.
use Rattle.std.proofs.Common.{◌≡◌, ℕ, suc, ◌+◌, ◌<◌, ◌≤◌, ◌∷◌, ◌++◌, take, get_or, Option, Some, None, List, [], length, refl, ap, sym, subst, ◌∙◌, arith}
use Rattle.std.specs.Prelude.{map, option_and_then, option_map, slice_get}
use Rattle.std.specs.List.{AllZip}
use Rattle.gw_base.proofs.Lists.{mapped-at, none-some, same-some, zip-back, zip-long, zip-push}
use Rattle.std.proofs.Math.Seq.{take-suc}
use Rattle.std.proofs.lemmas.List.{map-append}
use Rattle.gw_base.specs.declared.numbers.Tick.{Tick}
use Rattle.hub_core.specs.Calls.{Means}
use Rattle.hub_core.specs.View.{View}
use Rattle.tp_receiver.specs.Port.{ActsFor, KnowsState}
use Rattle.tp_receiver.specs.State.{LiesBy, RxState, WaitsIn, reception_in}
use Rattle.tp_receiver.specs.declared.reception.State.{State}
use Rattle.tp_receiver.specs.declared.reception.State.TheVariants.{Idle, Busy}
use Rattle.tp_receiver.specs.declared.set.RxSet.{RxSet}
use Rattle.tp_sender.specs.Port.{ActsForSet, KnowsLive}
use Rattle.tp_sender.specs.State.{HasFrame, TxState, since_of, transmission_of}
use Rattle.tp_sender.specs.declared.set.TxSet.{TxSet}
use Rattle.tp_sender.specs.declared.transmission.Transmission.{Transmission}
use Rattle.tp_unit.specs.declared.shape.Shape.{Shape}
use Rattle.gw_law.specs.Channels.{bytes_of_address}
use Rattle.tx_mailbox.specs.Boxes.{Pending, content}
use Rattle.bus_worker.specs.Did.{IsAtView}
use Rattle.bus_worker.specs.Stands.{ActsForAll, AreApart, AreRouted, ReceiverStands, SenderStands, receiver_at, receives_at, sender_at, sends_at}
use Rattle.bus_worker.specs.Start.{IsBusPlan, IsNewChannel, IsNewDestination, IsNewReceiving, IsNewSending, IsNewSource, IsReady, IsSource, IsSourcePlan}
use Rattle.bus_worker.specs.declared.channel.Channel.{Channel}
use Rattle.bus_worker.specs.declared.channel.Receiving.{Receiving}
use Rattle.bus_worker.specs.declared.channel.Sending.{Sending}
use Rattle.bus_worker.specs.declared.comes.Comes.{Comes}
use Rattle.bus_worker.specs.declared.plan.ChannelPlan.{ChannelPlan}
use Rattle.bus_worker.specs.declared.plan.SourcePlan.{SourcePlan}
use Rattle.bus_worker.specs.declared.worker.Worker.{Worker}

in-both : {A B : Type 0} (f : A → Option B) (found : Option A) (b : B) → option_and_then f found ≡ Some b → (a : A) × (found ≡ Some a) × (f a ≡ Some b)
in-both f None b is = absurd (none-some refl is)
in-both f (Some a) b is = (a, refl, is)

in-map : {A B : Type 0} (f : A → B) (found : Option A) (b : B) → option_map f found ≡ Some b → (a : A) × (found ≡ Some a) × (f a ≡ b)
in-map f None b is = absurd (none-some refl is)
in-map f (Some a) b is = (a, refl, same-some refl is)

source-planned : (plan : Option SourcePlan) (found : Option Receiving) (r : Receiving) → IsNewSource plan found → found ≡ Some r → (one : SourcePlan) × (plan ≡ Some one) × IsNewReceiving one r
source-planned None None r so is = absurd (none-some refl is)
source-planned None (Some x) r so is = absurd so
source-planned (Some one) None r so is = absurd so
source-planned (Some one) (Some x) r so is = (one, refl, subst (IsNewReceiving one) (same-some refl is) so)

destination-planned : (plan : Option TxSet) (found : Option Sending) (s : Sending) → IsNewDestination plan found → found ≡ Some s → (set : TxSet) × (plan ≡ Some set) × IsNewSending set s
destination-planned None None s so is = absurd (none-some refl is)
destination-planned None (Some x) s so is = absurd so
destination-planned (Some set) None s so is = absurd so
destination-planned (Some set) (Some x) s so is = (set, refl, subst (IsNewSending set) (same-some refl is) so)

source-is : (address : ℕ) (plan : Option SourcePlan) (one : SourcePlan) → plan ≡ Some one → IsSource address plan → IsSourcePlan address one
source-is address plan one is so = (let P : Option SourcePlan → Type 0 = λ p. IsSource address p in subst P is so)

idle-knows : (view : View) (path : ℕ) (state : State) → reception_in state ≡ None → KnowsState view path state
idle-knows view path Idle is = tt
idle-knows view path (Busy r) is = absurd cc

idle-waits : (state : State) → reception_in state ≡ None → WaitsIn state 0
idle-waits Idle is = tt
idle-waits (Busy r) is = absurd cc

none-lies : (refusing : Option Tick) → option_map (λ (since : Tick). since.0) refusing ≡ None → LiesBy refusing 0
none-lies None is = tt
none-lies (Some since) is = absurd cc

none-live : (view : View) (set : TxSet) (next : ℕ) (live : Option Transmission) → option_map transmission_of live ≡ None → KnowsLive view set next live
none-live view set next None is = tt
none-live view set next (Some live) is = absurd cc

-- one plan more
pub planned-next : (plans : List ChannelPlan) (at : ℕ) (channels new : List Channel) (channel : Channel) (first : ChannelPlan) → at < length plans → AllZip IsNewChannel (take at plans) channels → IsNewChannel (get_or plans at first) channel →
    new ≡ channels ++ channel ∷ [] → AllZip IsNewChannel (take (at + 1) plans) new
planned-next plans at channels new channel first below zip one is =
    let more : at + 1 ≡ suc at = omega arith in
    let next : take (at + 1) plans ≡ take at plans ++ get_or plans at first ∷ [] = ap (λ n. take n plans) more ∙ take-suc plans at first below in
    let Z : List ChannelPlan → Type 0 = λ l. AllZip IsNewChannel l new in
    let Y : List Channel → Type 0 = λ l. AllZip IsNewChannel (take at plans ++ get_or plans at first ∷ []) l in
    subst Z (sym next) (subst Y (sym is) (zip-push IsNewChannel (take at plans) channels (get_or plans at first) channel zip one))

pub routed-next : (plans : List ChannelPlan) (at : ℕ) (routes new : List Comes) (first : ChannelPlan) → at < length plans → routes ≡ map (λ (plan : ChannelPlan). plan.comes) (take at plans) → new ≡ routes ++ (get_or plans at first).comes ∷ [] →
    new ≡ map (λ (plan : ChannelPlan). plan.comes) (take (at + 1) plans)
routed-next plans at routes new first below so is =
    let comes : ChannelPlan → Comes = λ plan. plan.comes in
    let more : at + 1 ≡ suc at = omega arith in
    let next : take (at + 1) plans ≡ take at plans ++ get_or plans at first ∷ [] = ap (λ n. take n plans) more ∙ take-suc plans at first below in
    is ∙ ap (λ (l : List Comes). l ++ (get_or plans at first).comes ∷ []) so ∙ sym (map-append comes (take at plans) (get_or plans at first ∷ [])) ∙ ap (map comes) (sym next)

-- a machine that did nothing stands over a view that has nothing of it
new-receiver : (view : View) (one : SourcePlan) (r : Receiving) → IsNewReceiving one r → view.sessions one.set.path.0 ≡ [] → ReceiverStands 0 view [] r
new-receiver view one r new empty =
    let at : view.sessions r.machine.set.path.0 ≡ [] = ap (λ (set : RxSet). view.sessions set.path.0) new.set ∙ empty in
    let seq : r.machine.next_seq ≡ 0 = ap (λ (s : RxState). s.seq) new.state in
    let next : r.machine.next_n ≡ 0 = ap (λ (s : RxState). s.next) new.state in
    let busy = ap (λ (s : RxState). s.busy) new.state in
    record {
      happened = tt;
      state = new.state;
      knows = record { number = ap length at ∙ sym seq; session = idle-knows view r.machine.set.path.0 r.machine.state busy };
      number = omega (arith, next);
      now = omega arith;
      waits = record { reception = idle-waits r.machine.state busy; refusing = none-lies r.machine.refusing (ap (λ (s : RxState). s.refusing) new.state) };
      fits = tt;
      sessions = new.sessions;
      own = at;
      made = record { changes = tt; refused = tt };
    }

new-sender : (view : View) (set : TxSet) (s : Sending) → IsNewSending set s → view.readings set.path.0 set.dest.0 ≡ [] → SenderStands 0 view [] s
new-sender view set s new empty =
    let at : view.readings s.machine.set.path.0 s.machine.set.dest.0 ≡ [] = ap (λ (x : TxSet). view.readings x.path.0 x.dest.0) new.set_is ∙ empty in
    let next : s.machine.next ≡ 0 = ap (λ (x : TxState). x.next) new.state in
    let live = ap (λ (x : TxState). x.live) new.state in
    let H : TxState → Type 0 = λ x. HasFrame x.live → ⊥ in
    let S : TxState → Type 0 = λ x. since_of x.live ≤ 0 in
    record {
      happened = tt;
      state = new.state;
      knows = record { next = ap length at ∙ sym next; live = none-live view s.machine.set s.machine.next s.machine.live live };
      now = omega arith;
      since = subst S (sym new.state) (omega arith);
      fits = tt;
      has = λ has. absurd (subst H (sym new.state) (λ x. x) has);
      had = λ lies. absurd lies;
      dests = new.dests;
      own = at;
      made = record { changes = tt; refused = tt };
    }

-- the plan of a channel's machine
record SourceAt (plans : List ChannelPlan) (place : ℕ) (r : Receiving) : Type 0 where
  plan : ChannelPlan
  one : SourcePlan
  there : slice_get plans place ≡ Some plan
  is : plan.source ≡ Some one
  new : IsNewReceiving one r

source-at : (plans : List ChannelPlan) (channels : List Channel) (place : ℕ) (r : Receiving) → AllZip IsNewChannel plans channels → receiver_at channels place ≡ Some r → SourceAt plans place r
source-at plans channels place r zip is =
    let found = in-both (λ (c : Channel). c.receiving) (slice_get channels place) r is in
    let back = zip-back IsNewChannel plans channels place found.0 zip found.1 in
    let one = source-planned back.0.source found.0.receiving r back.2.source found.2 in
    record { plan = back.0; one = one.0; there = back.1; is = one.1; new = one.2 }

record DestinationAt (plans : List ChannelPlan) (place : ℕ) (s : Sending) : Type 0 where
  plan : ChannelPlan
  set : TxSet
  there : slice_get plans place ≡ Some plan
  is : plan.destination ≡ Some set
  new : IsNewSending set s

destination-at : (plans : List ChannelPlan) (channels : List Channel) (place : ℕ) (s : Sending) → AllZip IsNewChannel plans channels → sender_at channels place ≡ Some s → DestinationAt plans place s
destination-at plans channels place s zip is =
    let found = in-both (λ (c : Channel). c.sending) (slice_get channels place) s is in
    let back = zip-back IsNewChannel plans channels place found.0 zip found.1 in
    let set = destination-planned back.0.destination found.0.sending s back.2.destination found.2 in
    record { plan = back.0; set = set.0; there = back.1; is = set.1; new = set.2 }

receives-by : (channels : List Channel) (place : ℕ) (one : RxSet × Shape) → receives_at channels place ≡ Some one → (r : Receiving) × (receiver_at channels place ≡ Some r) × ((r.machine.set, r.shape) ≡ one)
receives-by channels place one is = in-map (λ (r : Receiving). (r.machine.set, r.shape)) (receiver_at channels place) one is

sends-by : (channels : List Channel) (place : ℕ) (set : TxSet) → sends_at channels place ≡ Some set → (s : Sending) × (sender_at channels place ≡ Some s) × (s.machine.set ≡ set)
sends-by channels place set is = in-map (λ (s : Sending). s.machine.set) (sender_at channels place) set is

module _ (plans : List ChannelPlan) (w : Worker) (planned : IsBusPlan plans) (zip : AllZip IsNewChannel plans w.channels.items) (routes : w.routes.items ≡ map (λ (plan : ChannelPlan). plan.comes) plans) (empty : w.boxes ≡ []) (view : View) (means : Means) (ready : IsReady plans view means) where
  new-apart : AreApart w.channels.items
  new-apart = record {
    paths = λ place other one another is also same.
        let a = receives-by w.channels.items place one is in
        let b = receives-by w.channels.items other another also in
        let mine = source-at plans w.channels.items place a.0 zip a.1 in
        let theirs = source-at plans w.channels.items other b.0 zip b.1 in
        planned.paths place other mine.plan theirs.plan mine.one theirs.one mine.there theirs.there mine.is theirs.is
        (ap (λ (x : RxSet). x.path.0) (sym mine.new.set) ∙ ap (λ (x : RxSet × Shape). x.0.path.0) a.2 ∙ same ∙ ap (λ (x : RxSet × Shape). x.0.path.0) (sym b.2) ∙ ap (λ (x : RxSet). x.path.0) theirs.new.set);
    dests = λ place other one another is also path dest.
        let a = sends-by w.channels.items place one is in
        let b = sends-by w.channels.items other another also in
        let mine = destination-at plans w.channels.items place a.0 zip a.1 in
        let theirs = destination-at plans w.channels.items other b.0 zip b.1 in
        let to : mine.set ≡ one = sym mine.new.set_is ∙ a.2 in
        let from : another ≡ theirs.set = sym b.2 ∙ theirs.new.set_is in
        planned.dests place other mine.plan theirs.plan mine.set theirs.set mine.there theirs.there mine.is theirs.is
        (ap (λ (x : TxSet). x.path.0) to ∙ path ∙ ap (λ (x : TxSet). x.path.0) from) (ap (λ (x : TxSet). x.dest.0) to ∙ dest ∙ ap (λ (x : TxSet). x.dest.0) from);
  }

  new-acts : ActsForAll w.channels.items means
  new-acts = record {
    receivers = λ place one is.
        let a = receives-by w.channels.items place one is in
        let mine = source-at plans w.channels.items place a.0 zip a.1 in
        let A : RxSet → Type 0 = λ set. ActsFor set means in
        subst A (sym mine.new.set ∙ ap (λ (x : RxSet × Shape). x.0) a.2) (ready.sources place mine.plan mine.one mine.there mine.is).0;
    senders = λ place set is.
        let a = sends-by w.channels.items place set is in
        let mine = destination-at plans w.channels.items place a.0 zip a.1 in
        let A : TxSet → Type 0 = λ x. ActsForSet means x in
        subst A (sym mine.new.set_is ∙ a.2) (ready.destinations place mine.plan mine.set mine.there mine.is).0;
  }

  new-routed : AreRouted w.routes.items w.channels.items
  new-routed = record {
    address = λ place comes one at is.
        let a = receives-by w.channels.items place one is in
        let mine = source-at plans w.channels.items place a.0 zip a.1 in
        let M : List Comes → Type 0 = λ l. slice_get l place ≡ Some comes in
        let from = mapped-at (λ (plan : ChannelPlan). plan.comes) place plans comes (subst M routes at) in
        let same : from.0 ≡ mine.plan = same-some from.1 mine.there in
        let so = source-is (bytes_of_address mine.plan.comes.byte) mine.plan.source mine.one mine.is (planned.each place mine.plan mine.there).source in
        ap (λ (x : RxSet × Shape). x.0.a) (sym a.2) ∙ ap (λ (x : RxSet). x.a) mine.new.set ∙ so.address_is
        ∙ ap (λ (x : ChannelPlan). bytes_of_address x.comes.byte) (sym same) ∙ ap (λ (x : Comes). bytes_of_address x.byte) from.2;
  }

  nothing : (number : ℕ) → content number w.boxes ≡ None
  nothing number = ap (λ (l : List Pending). content number l) empty

  pub new-stands : IsAtView 0 [] (λ number. content number w.boxes) w view means
  new-stands = record {
    stand = record {
      receivers = λ place r is. let mine = source-at plans w.channels.items place r zip is in new-receiver view mine.one r mine.new (ready.sources place mine.plan mine.one mine.there mine.is).1;
      senders = λ place s is. let mine = destination-at plans w.channels.items place s zip is in new-sender view mine.set s mine.new (ready.destinations place mine.plan mine.set mine.there mine.is).1;
      apart = new-apart;
      few = subst (λ (n : ℕ). n ≤ 64) (zip-long IsNewChannel plans w.channels.items zip) planned.few;
    };
    acts_for = new-acts;
    lie = record {
      controls = λ place r is. nothing _;
      frames = λ place s is. nothing _;
      no_controls = λ place none. nothing _;
      no_frames = λ place none. nothing _;
    };
    routed = new-routed;
  }
