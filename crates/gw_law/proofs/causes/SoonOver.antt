-- A destination that ended with its source did so soon after that: what it sees in a window is no older than what stood before it.
use Rattle.std.proofs.Common.{◌≡◌, ℕ, ◌+◌, ◌<◌, ◌≤◌, cond, inl, inr, max, Bool, true, false, Some, List, [], ◌++◌, refl, ap, sym, ◌∙◌, subst, arith}
use Rattle.std.specs.Prelude.{filter, slice_get}
use Rattle.std.specs.List.{AllByRecursion}
use Rattle.std.proofs.lemmas.Bool.{cases_lt}
use Rattle.gw_base.proofs.Lists.{all-at, all-both, all-front, all-join, all-split, all-weaker, zip-all}
use Rattle.hub_core.specs.Floors.{floors_of, has_left}
use Rattle.hub_core.specs.Turns.{Part, calls_by, records_by, turns_of}
use Rattle.hub_core.specs.View.{Session, View, empty_view, grows, session_at}
use Rattle.hub_core.specs.declared.record.DestRecord.{DestRecord}
use Rattle.hub_core.specs.declared.record.SessionRecord.{SessionRecord}
use Rattle.receiver_law.proofs.records.JointReceivers.{known-sessions}
use Rattle.receiver_law.proofs.records.JointSessions.{IsLeft}
use Rattle.receiver_law.specs.RxRun.{RxRun}
use Rattle.sender_law.proofs.causes.SourceEnds.{SawBefore, SawLast}
use Rattle.sender_law.proofs.causes.SourceSeen.{seen-last}
use Rattle.sender_law.proofs.causes.TransmissionCauses.{AreOfFrames}
use Rattle.sender_law.proofs.records.DestRecords.{dest_records}
use Rattle.sender_law.specs.Emission.{IsOfDestination}
use Rattle.sender_law.specs.Pacing.{controls_of}
use Rattle.sender_law.specs.Runs.{HasLimits, TxRun, leg_of}
use Rattle.sender_law.specs.Starts.{look_of}
use Rattle.sender_law.specs.Transfer.{has_sent}
use Rattle.sender_law.specs.TransmissionCauses.{left_in}
use Rattle.tp_attempts.specs.Cuts.{Cut}
use Rattle.tp_attempts.specs.Seen.{Seen}
use Rattle.tp_receiver.specs.Runs.{HasReceived}
use Rattle.tp_receiver.specs.State.{RxTurn}
use Rattle.tp_sender.specs.State.{TxTurn}
use Rattle.tp_unit.specs.Shape.{address_size}
use Rattle.gw_law.specs.Account.{Route}
use Rattle.gw_law.specs.Deeds.{LiesIn, LiesWithin, before, over_at, view_at}
use Rattle.gw_law.specs.Delivery.{IsNamed}
use Rattle.gw_law.specs.JointCauses.{AreSoonOver, IsSoonOver}
use Rattle.gw_law.specs.Timely.{delivery_of_route}
use Rattle.gw_law.proofs.causes.JointEnds.{in-front}
use Rattle.gw_law.proofs.causes.JointTicks.{turns-told}
use Rattle.gw_law.proofs.deliveries.Deliveries.{all-sent}
use Rattle.gw_law.proofs.runs.Before.{AreTimed, Cut as PartsCut, cut as cut-parts, timed-front, turns-in}
use Rattle.gw_law.proofs.runs.Fronts.{TurnIn}
use Rattle.gw_law.proofs.runs.Meetings.{AsFar}
use Rattle.gw_law.proofs.runs.Moments.{Whole, received, sent, split-turns}
use Rattle.gw_law.proofs.runs.Openings.{Opening, far-opening, none-before, opening, sent-fresh}
use Rattle.gw_law.proofs.runs.Parts.{rx-end, rx-rising, rx-timed}
use Rattle.gw_law.proofs.times.Timely.{route_told}

-- a session that ended before a window had left its hub as that opened
closed-before : (o : Whole) (tick : ℕ) (op : Opening o.pair tick) (unit : Cut Seen) (session : SessionRecord) (number : ℕ) → IsNamed (delivery_of_route (route_told 0 0 o)) number unit session → session.end.0 < op.w.from → session.end.0 < o.pair.rx.last →
    (s : Session) × (session_at (view_at op.opens.earlier) o.pair.rx.set.path.0 number ≡ Some s) × (s.stands ≡ false)
closed-before o tick op unit session number named soon ends =
    let rx : RxRun = o.pair.rx in
    let over : ℕ = over_at op.opens.earlier in
    let turns : List RxTurn = turns_of (before over rx.parts) in
    let c : PartsCut over rx.parts = cut-parts over rx.parts (rx-rising rx.full rx.parts o.pair.rx_run.parts_are) in
    let W : List (Part RxTurn) → Type 0 = λ l. LiesWithin o.pair.windows l in
    let T : List (Part RxTurn) → Type 0 = λ l. AreTimed l in
    let R : List RxTurn → Type 0 = λ l. HasReceived rx.set l in
    let within = all-front (λ (part : Part RxTurn). LiesIn o.pair.windows part.tick) c.later (before over rx.parts) (subst W (sym c.is) o.pair.rx_within) in
    let timed = timed-front c.later (before over rx.parts) (subst T (sym c.is) (rx-timed rx.full rx.parts o.pair.rx_run.parts_are)) in
    let late : AllByRecursion (TurnIn (λ (t : ℕ). session.end.0 < t)) (rx.end ++ turns_of c.later) =
    all-join (TurnIn (λ (t : ℕ). session.end.0 < t)) rx.end (turns_of c.later)
    (all-weaker (TurnIn (λ (t : ℕ). t ≡ rx.last)) (TurnIn (λ (t : ℕ). session.end.0 < t)) rx.end (λ turn is. omega (arith, is, ends)) (rx-end rx.last rx.end o.pair.rx_run.ends))
    (turns-in (λ (t : ℕ). session.end.0 < t) c.later timed.0 (all-weaker (λ (part : Part RxTurn). op.w.from ≤ part.tick) (λ (part : Part RxTurn). session.end.0 < part.tick) c.later (λ part le. omega (arith, le, soon)) (none-before o.pair tick op c.later within c.late))) in
    let is : (rx.end ++ turns_of c.later) ++ turns ≡ received o = split-turns rx.end c.later (before over rx.parts) rx.parts c.is in
    let grown = turns-told (λ (t : ℕ). session.end.0 < t) rx.set (rx.end ++ turns_of c.later) turns (subst R (sym is) o.far.received) late in
    let here : slice_get (records_by turns) named.place ≡ Some session =
    in-front (λ (s : SessionRecord). s.end.0) session.end.0 (records_by turns) grown.more (records_by (received o)) named.place session (ap records_by (sym is) ∙ grown.is) grown.all named.session_is (omega arith) in
    let far : AsFar rx.set o.pair.tx.set turns _ (view_at op.opens.earlier) = far-opening o.pair op.opens.earlier op.opens.are in
    let known = known-sessions rx.set turns far.received in
    let left : IsLeft rx.set ((grows (calls_by turns) empty_view).sessions rx.set.path.0) session named.opened = all-at _ (records_by turns) named.place session known.told here named.opened named.opened_is in
    (left.session, ap (λ n. session_at (view_at op.opens.earlier) rx.set.path.0 n) (sym named.seq_is) ∙ ap (λ l. slice_get l named.opened.seq) far.sessions ∙ left.there, left.stands)

-- so the destination can't have seen it write in that window
not-seen : (o : Whole) (unit : Cut Seen) (session : SessionRecord) (number end : ℕ) → IsNamed (delivery_of_route (route_told 0 0 o)) number unit session → SawBefore o.pair.tx.set o.pair.tx.parts number end → session.end.0 + o.pair.most < end → end ≤ o.pair.tx.last → ⊥
not-seen o unit session number end named saw late last =
    let tx : TxRun = o.pair.tx in
    let W : List (Part TxTurn) → Type 0 = λ l. LiesWithin o.pair.windows l in
    let lies : LiesIn o.pair.windows saw.part.tick = (all-split (λ (part : Part TxTurn). LiesIn o.pair.windows part.tick) saw.later saw.earlier saw.part (subst W saw.are o.pair.tx_within)).0 in
    let op : Opening o.pair saw.part.tick = opening o.pair saw.part.tick lies in
    let fresh = sent-fresh o.pair saw.part.tick op saw.later saw.part saw.earlier (look_of tx.set number saw.saw.look) saw.are refl saw.saw.among in
    let view : View = view_at op.opens.earlier in
    let stands : (floors_of o.pair.groups view).closed tx.set.path.0 number ≡ false = fresh.1.1 saw.saw.writes in
    let gone = closed-before o saw.part.tick op unit session number named (omega (arith, late, saw.tick_is, op.to, op.opens.is.short)) (omega (arith, late, last, o.rx_last, o.tx_last)) in
    let path : tx.set.path.0 ≡ o.pair.rx.set.path.0 = ap (λ p. p.0) o.pair.path in
    let closed : (floors_of o.pair.groups view).closed tx.set.path.0 number ≡ true =
    ap (λ p. has_left (λ (s : Session). s.stands) (session_at view p number)) path ∙ ap (has_left (λ (s : Session). s.stands)) gone.1 ∙ ap (λ (b : Bool). cond b false true) gone.2 in
    let no : true ≡ false = sym closed ∙ stands in
    cc

soon-over : (o : Whole) (source_budget budget : ℕ) (ticks : List ℕ) (one : DestRecord) → one.end.0 ≤ o.pair.tx.last → SawLast o.pair.tx.set (controls_of o.pair.tx.set.period (leg_of budget o.pair.tx).answers) o.pair.tx.parts ticks one → IsSoonOver (route_told source_budget budget o) ticks one
soon-over o source_budget budget ticks one within last unit session named how from allowed = elim (cases_lt (max (max one.begin.0 from) (session.end.0 + o.pair.most)) one.end.0) [
  | inr most ↦ most
  | inl late ↦ absurd (not-seen o unit session one.seq one.end.0 named (last how from allowed (omega (arith, late)) (omega (arith, late))) (omega (arith, late)) within)
]

pub all-soon : (o : Whole) (source_budget budget : ℕ) → HasLimits o.pair.tx.set → AreSoonOver (route_told source_budget budget o)
all-soon o source_budget budget limits =
    let tx : TxRun = o.pair.tx in
    let r : Route = route_told source_budget budget o in
    let R : List ℕ → DestRecord → Type 0 = λ ticks one. SawLast tx.set (controls_of tx.set.period (leg_of budget tx).answers) tx.parts ticks one in
    let so : AreOfFrames R tx = seen-last tx o.pair.tx_run limits in
    let own : AllByRecursion (IsOfDestination (leg_of budget tx)) (records_by (sent o)) = (dest_records tx budget o.pair.tx_run).own in
    record {
      sent = zip-all (IsOfDestination (leg_of budget tx)) (λ cut one. R (left_in (address_size tx.set.shape) cut) one) (λ cut one. IsSoonOver r (left_in (address_size tx.set.shape) cut) one) _ (filter has_sent (records_by (sent o)))
          (λ cut one of last. soon-over o source_budget budget (left_in (address_size tx.set.shape) cut) one of.end last) (all-sent (IsOfDestination (leg_of budget tx)) (records_by (sent o)) own) so.sent;
      unsent = all-both (IsOfDestination (leg_of budget tx)) (λ (one : DestRecord). one.sent ≡ 0 → R [] one) (λ (one : DestRecord). one.sent ≡ 0 → IsSoonOver r [] one) (records_by (sent o))
          (λ one of last none. soon-over o source_budget budget [] one of.end (last none)) own so.unsent;
    }
