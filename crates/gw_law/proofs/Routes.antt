-- The laws of each path's source channel and one of its destinations, by both machines' runs.
use Rattle.std.proofs.Common.{◌≡◌, ℕ, ◌≤◌, false, Some, List, length, refl, ap, sym, ◌∙◌, subst, arith}
use Rattle.std.specs.Prelude.{slice_get}
use Rattle.gw_base.proofs.Lists.{all-at, zip-at}
use Rattle.hub_core.specs.Turns.{state_after}
use Rattle.hub_core.specs.View.{View}
use Rattle.receiver_law.proofs.runs.RxLaws.{ends-idle, source_law_of_run}
use Rattle.receiver_law.specs.Channel.{SourceChannel}
use Rattle.receiver_law.specs.RxRun.{RxRun, source_of, turns_in as received_in}
use Rattle.receiver_law.specs.Source.{SourceLaw}
use Rattle.sender_law.proofs.transfers.TxWritten.{ticks-counted}
use Rattle.sender_law.specs.Channel.{DestChannel}
use Rattle.sender_law.specs.Runs.{HasLimits, TxRun, leg_of, turns_in as sent_in}
use Rattle.sender_law.specs.Transfer.{has_sent, transfer_of}
use Rattle.std.specs.Prelude.{filter}
use Rattle.tp_attempts.specs.Attempts.{attempts_in}
use Rattle.tp_receiver.specs.declared.set.RxSet.{RxSet}
use Rattle.tp_sender.specs.State.{tx_new}
use Rattle.tp_sender.specs.declared.set.TxSet.{TxSet}
use Rattle.gw_base.specs.declared.numbers.PathNo.{PathNo}
use Rattle.gw_law.specs.Account.{Account, Route, route_in}
use Rattle.gw_law.specs.Deeds.{Deeds, IsReadBy, IsWrittenBy, LiesWithin, Window}
use Rattle.gw_law.specs.Delivery.{AreWholeRuns, DeliveryLaw}
use Rattle.gw_law.specs.Lawful.{IsLawfulRoute}
use Rattle.gw_law.specs.Plan.{IsLawfulSending, Receiving, Sending}
use Rattle.gw_law.specs.Run.{HasJoinedAll, IsReceiverRun, IsRun, IsSenderRun}
use Rattle.gw_law.specs.Timely.{TimelyLaw, delivery_of_route}
use Rattle.gw_law.proofs.causes.FirstFrames.{all-start}
use Rattle.gw_law.proofs.causes.Held.{causes-held, held_at}
use Rattle.gw_law.proofs.causes.HeldBytes.{holds-all}
use Rattle.gw_law.proofs.causes.JointCauses.{Known, all-short, all-unread}
use Rattle.gw_law.proofs.causes.JointWaits.{none-waits}
use Rattle.gw_law.proofs.causes.SoonOver.{all-soon}
use Rattle.gw_law.proofs.deliveries.Deliveries.{delivery_law_of}
use Rattle.gw_law.proofs.deliveries.EachSession.{each_session_of}
use Rattle.gw_law.proofs.runs.Barriers.{Pair}
use Rattle.gw_law.proofs.runs.Meetings.{met}
use Rattle.gw_law.proofs.runs.Moments.{Whole, received, sent}
use Rattle.gw_law.proofs.times.Timely.{AreIdle, begins-all, frames-of, route_told, sends-all, timely-all}

-- a whole run of both, whose view is joint and was joined whole by the destination
pub record Crossing : Type 0 where
  pub whole : Whole
  pub idle : AreIdle whole
  pub served : length (whole.view.sessions whole.pair.rx.set.path.0) ≤ (state_after tx_new (sent whole)).next
  pub limits : HasLimits whole.pair.tx.set

whole-runs : (c : Crossing) → AreWholeRuns c.whole.pair.rx.set (received c.whole) c.whole.pair.tx.set (sent c.whole) c.whole.view
whole-runs c = record {
  shape = c.whole.far.shape;
  path = c.whole.far.path;
  received = c.whole.far.received;
  idle = c.idle.rx;
  sent = c.whole.far.sent;
  ended = c.idle.tx;
  streams = c.whole.far.met.streams;
  sessions = c.whole.far.sessions;
  readings = c.whole.far.readings;
}

timely-law : (c : Crossing) (b e : ℕ) → SourceLaw c.whole.pair.rx.set.chan.0 c.whole.pair.rx.set.a c.whole.pair.rx.set.functional (route_told b e c.whole).source.seen (route_told b e c.whole).source.sessions → DeliveryLaw (delivery_of_route (route_told b e c.whole)) → TimelyLaw (route_told b e c.whole)
timely-law c b e source delivers =
    let o : Whole = c.whole in
    let frames = frames-of o in
    let t = transfer_of o.pair.tx.set (sent o) in
    record {
      begins = begins-all o c.idle;
      starts = all-start o b e c.idle source delivers;
      timely = timely-all o c.idle;
      own = frames.own;
      counted = frames.counted ∙ ticks-counted t (attempts_in false t.frames) (filter has_sent t.records) (sends-all o c.idle);
    }

pub route-law : (c : Crossing) (b e : ℕ) → IsLawfulRoute (route_told b e c.whole)
route-law c b e =
    let o : Whole = c.whole in
    let r : Route = route_told b e o in
    let delivers : DeliveryLaw (delivery_of_route r) = delivery_law_of o.pair.rx.set (received o) o.pair.tx.set (sent o) o.view (whole-runs c) in
    let source : SourceLaw r.source.rx.chan.0 r.source.rx.a r.source.rx.functional r.source.seen r.source.sessions = source_law_of_run o.pair.rx b o.pair.rx_run in
    let known : Known o r = record { rx = refl; tx = refl; window = refl; sessions = refl; dests = refl; source = source; delivers = delivers; served = c.served } in
    let timely : TimelyLaw r = timely-law c b e source delivers in
    record {
      delivery = delivers;
      each = each_session_of o.pair.rx.set (received o) o.pair.tx.set (sent o) o.view (whole-runs c) c.served;
      timely = timely;
      joint = record {
        unread = all-unread o r known;
        short = all-short o r known;
        soon = all-soon o b e c.limits;
        in_time = none-waits r (held_at o.pair.tx.parts) o.far.shape source (causes-held o.pair.tx e o.pair.tx_run c.limits) (holds-all o b e c.idle) timely delivers;
      };
    }

pub same-path : (one other : PathNo) → one.0 ≡ other.0 → one ≡ other
same-path one other is = ap (λ (n : ℕ). record { 0 = n }) is

-- a receiver and a sender of its path in a run
unfoldable pub crossing : (a : Account) (d : Deeds) (windows : List Window) (v : View) (place other : ℕ) (r : Receiving) (s : Sending) (rx : RxRun) (tx : TxRun) → IsRun a d windows v → slice_get d.receivers place ≡ Some rx → slice_get d.senders other ≡ Some tx →
    IsReceiverRun a r rx → IsSenderRun a s tx → slice_get a.plan.senders other ≡ Some s → s.set.path.0 ≡ r.set.path.0 → Crossing
crossing a d windows v place other r s rx tx is rx_there tx_there rx_is tx_is s_there path =
    let rx_set : rx.set ≡ r.set = ap (λ (c : SourceChannel). c.rx) rx_is.tells in
    let tx_set : tx.set ≡ s.set = ap (λ (c : DestChannel). c.tx) tx_is.tells in
    let paths : tx.set.path ≡ rx.set.path = same-path tx.set.path rx.set.path (ap (λ (x : TxSet). x.path.0) tx_set ∙ path ∙ ap (λ (x : RxSet). x.path.0) (sym rx_set)) in
    let same : v.sessions tx.set.path.0 ≡ v.sessions rx.set.path.0 = ap (λ (p : PathNo). v.sessions p.0) paths in
    let pair : Pair = record {
      d = d;
      groups = a.plan.groups;
      most = a.plan.window;
      some = is.plan.window;
      windows = windows;
      are = is.windows_are;
      rx = rx;
      tx = tx;
      rx_at = place;
      tx_at = other;
      rx_there = rx_there;
      tx_there = tx_there;
      rx_run = rx_is.run_is;
      tx_run = tx_is.run_is;
      path = paths;
      rx_within = all-at (λ (run : RxRun). LiesWithin windows run.parts) d.receivers place rx is.received_within rx_there;
      tx_within = all-at (λ (run : TxRun). LiesWithin windows run.parts) d.senders other tx is.sent_within tx_there;
    } in
    let served : HasJoinedAll v tx = all-at (HasJoinedAll v) d.senders other tx is.served tx_there in
    let plan : IsLawfulSending a.plan s = all-at (IsLawfulSending a.plan) a.plan.senders other s is.plan.senders s_there in
    record {
      whole = record {
        pair = pair;
        last = a.plan.last;
        rx_last = ap (λ (c : SourceChannel). c.last) rx_is.tells;
        tx_last = ap (λ (c : DestChannel). c.last) tx_is.tells;
        view = v;
        far = record {
          shape = tx_is.run_is.shape;
          path = paths;
          received = rx_is.run_is.happened;
          sent = tx_is.run_is.happened;
          met = met a.plan.groups v is.joint;
          sessions = all-at (λ (run : RxRun). IsWrittenBy v run (received_in run)) d.receivers place rx is.joined.sessions rx_there;
          readings = all-at (λ (run : TxRun). IsReadBy v run (sent_in run)) d.senders other tx is.joined.readings tx_there;
        };
      };
      idle = record { rx = ends-idle rx rx_is.run_is; tx = tx_is.run_is.idle };
      served = omega (arith, served, ap length same);
      limits = record { n_as = omega (arith, plan.n_as, ap (λ (x : TxSet). x.n_as) tx_set); n_bs = omega (arith, plan.n_bs, ap (λ (x : TxSet). x.n_bs) tx_set) };
    }

pub all-routes : (a : Account) (d : Deeds) (windows : List Window) (v : View) (place other : ℕ) (r : Receiving) (s : Sending) → IsRun a d windows v → slice_get a.plan.receivers place ≡ Some r → slice_get a.plan.senders other ≡ Some s → s.set.path.0 ≡ r.set.path.0 →
    IsLawfulRoute (route_in a r s)
unfolding crossing
all-routes a d windows v place other r s is r_there s_there path =
    let rx = zip-at (IsReceiverRun a) a.plan.receivers d.receivers place r is.receivers r_there in
    let tx = zip-at (IsSenderRun a) a.plan.senders d.senders other s is.senders s_there in
    let c : Crossing = crossing a d windows v place other r s rx.0 tx.0 is rx.1 tx.1 rx.2 tx.2 s_there path in
    let law : IsLawfulRoute (record { source = source_of (a.plan.budget r.bus) rx.0; leg = leg_of (a.plan.budget s.bus) tx.0; window = a.plan.window }) = route-law c (a.plan.budget r.bus) (a.plan.budget s.bus) in
    let P : SourceChannel → Type 0 = λ x. IsLawfulRoute (record { source = x; leg = leg_of (a.plan.budget s.bus) tx.0; window = a.plan.window }) in
    let Q : DestChannel → Type 0 = λ y. IsLawfulRoute (record { source = source_of (a.plan.budget r.bus) rx.0; leg = y; window = a.plan.window }) in
    let R : DestChannel → Type 0 = λ y. IsLawfulRoute (record { source = (route_in a r s).source; leg = y; window = a.plan.window }) in
    subst R tx.2.tells (subst P rx.2.tells law)
