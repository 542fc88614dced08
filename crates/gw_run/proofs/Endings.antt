-- The run's end: both machines are told, and the whole run is one.
use Rattle.std.proofs.Common.{◌≡◌, ◌⊎◌, ℕ, zero, suc, ◌+◌, ◌-◌, ◌*◌, ◌<◌, ◌≤◌, Option, List, [], ◌∷◌, ◌++◌, length, refl, sym, subst, ap, ◌∙◌, append-nil, length-append, arith}
use Rattle.tp_unit.specs.Box.{Answer, Written}
use Rattle.tp_receiver.specs.State.{RunEnd, RxTurn}
use Rattle.tp_receiver.proofs.Made.{idle-ended}
use Rattle.hub_core.specs.Turns.{came_by, calls_by}
use Rattle.tp_receiver.specs.Runs.{frames_in}
use Rattle.hub_core.specs.Floors.{AreFresh, IsFresh, floors_of}
use Rattle.hub_core.specs.Journal.{AreInOrder}
use Rattle.hub_core.proofs.OneGroup.{same}
use Rattle.hub_core.specs.Groups.{changes_in, IsWordOf}
use Rattle.hub_core.specs.Joint.{Joint}
use Rattle.gw_base.specs.declared.numbers.PathNo.{PathNo}
use Rattle.hub_core.proofs.Hubs.{is-joint, none-missed}
use Rattle.hub_core.specs.declared.plain.PlainHub.{PlainHub}
use Rattle.hub_core.specs.View.{Event, Missed, Session, View, grows}
use Rattle.hub_core.specs.declared.record.DestRecord.{DestRecord}
use Rattle.hub_core.specs.declared.record.Move.{Move}
use Rattle.hub_core.specs.declared.record.SessionRecord.{SessionRecord}
use Rattle.gw_run.specs.Works.{IsIdle, RunTold, Work, moments_of, turns_of, view_of}
use Rattle.tick_clock.specs.declared.clock.Clock.{Clock}
use Rattle.tp_attempts.specs.Seen.{Seen}
use Rattle.tp_sender.specs.State.{TxState, TxTurn, set_of, state_of}
use Rattle.sender_law.proofs.causes.RunEnds.{none-told, sent_now, some-told}
use Rattle.tp_sender.specs.declared.event.TxEvent.TheVariants.{RunEnd}
use Rattle.tp_sender.specs.declared.set.TxSet.{TxSet}
use Rattle.tp_unit.specs.Unit.{Meaning}
use Rattle.gw_run.specs.Played.{Told, told_with}
use Rattle.gw_run.specs.Standing.{groups_in, AtBarrier, Finishes, IsQuiet, RxStands, Stands, TxStands, lying, view_in}
use Rattle.gw_run.specs.Telling.{EndsTelling, IsOver, Tells, TellsReceiver, TellsSender}
use Rattle.gw_run.specs.declared.gateway.Gateway.{Gateway}
use Rattle.gw_run.specs.declared.machines.Machines.{Machines}
use Rattle.gw_run.proofs.Barriers.{frames-same}
use Rattle.gw_run.proofs.Beginning.{idle-or, stands-later}
use Rattle.gw_run.proofs.RxTurns.{turn-stands}
use Rattle.gw_run.proofs.Ticks.{stands-joint, told-same}
use Rattle.gw_run.proofs.TxMoments.{moment-stands}
use Rattle.sender_law.proofs.causes.TxCausesEnd.{end-answers}
use Rattle.gw_base.proofs.Lists.{there-at}
use Rattle.hub_core.proofs.Growing.{grows-append}
use Rattle.std.proofs.lemmas.Option.{slice_get_within}

-- what is left for the sender at the run's end: the one that it sends, and those that it hasn't joined
abbrev pub remaining : Gateway → ℕ
remaining g = 2 * (length ((view_in g.hub).sessions g.sender.set.path.0) - g.sender.next) + sent_now (state_of g.sender).live

-- the sender is told once more
pub ends-more : (sizes : List ℕ) (g h : Gateway) (last : ℕ) (turns : List RxTurn) (moments : List TxTurn) (view : View) → EndsTelling sizes g last turns moments view → TellsSender g h RunEnd last (lying g.frame) g.frames → EndsTelling sizes h last turns moments view
ends-more sizes g h last turns moments view ends told =
    let turn = told.turn in
    let stands = moment-stands sizes g h last last turns (ends.more ++ moments) (grows (calls_by ends.more) view) RunEnd ends.stands (omega arith) tt (frames-same g h RunEnd last (lying g.frame) told) in
    let V : View → Type 0 = λ v. Stands sizes h last turns (turn ∷ (ends.more ++ moments)) v in
    record {
      more = turn ∷ ends.more;
      only = ((told.stepped.event_is, told.stepped.tick_is), ends.only);
      stands = subst V (sym (grows-append (calls_by ends.more) turn.did.calls view)) stands;
    }

missed-fresh : (hub : PlainHub) (group path dest number : ℕ) (calls more : List Event) → length (groups_in hub) ≡ 1 → dest ≡ 0 → group ≡ 0 → AreFresh (floors_of (groups_in hub) (view_in hub)) (view_in hub) calls → calls ≡ Missed group path dest number ∷ more →
    length ((view_in hub).sessions path) ≤ number
missed-fresh hub group path dest number calls more alone first one fresh is =
    let P : List Event → Type 0 = λ c. AreFresh (floors_of (groups_in hub) (view_in hub)) (view_in hub) c in
    let Q : ℕ × ℕ → Type 0 = λ x. IsFresh (view_in hub) (floors_of (groups_in hub) (view_in hub)) (Missed x.0 path x.1 number) in
    none-missed hub path number alone (subst Q (λ i. (one i, first i)) (subst P is fresh).0)

no-more : (before after more : List DestRecord) → after ≡ before ++ more → length after ≤ length before → more ≡ []
no-more before after [] is few = refl
no-more before after (told ∷ more) is few = absurd (omega (arith, ap length is ∙ length-append before (told ∷ more), few))

pub is-over : (g h : Gateway) (last : ℕ) → length (groups_in g.hub) ≡ 1 → (set_of g.sender).dest.0 ≡ 0 → (set_of g.sender).group.0 ≡ 0 → TellsSender g h RunEnd last (lying g.frame) g.frames → length h.dests ≤ length g.dests → IsOver h
is-over g h last alone first one told few =
    let turn = told.turn in
    let st = told.stepped in
    let next = ap (λ (s : TxState). s.next) st.state in
    let out = none-told (set_of g.sender) (state_of g.sender) turn.event turn.did (λ path. length ((view_in g.hub).sessions path)) st.event_is st.row (no-more g.dests h.dests turn.did.records told.dests few)
    (λ number more is. missed-fresh g.hub (set_of g.sender).group.0 (set_of g.sender).path.0 (set_of g.sender).dest.0 number turn.did.calls more alone first one st.fresh is) in
    let joined : length ((view_in h.hub).sessions h.sender.set.path.0) ≡ length ((view_in g.hub).sessions g.sender.set.path.0) =
    ap (λ (s : ℕ → List Session). length (s h.sender.set.path.0)) st.sessions ∙ ap (λ (x : TxSet). length ((view_in g.hub).sessions x.path.0)) st.set in
    record { live = ap (λ (s : TxState). s.live) st.state ∙ out.0; joined = omega (arith, joined, next, out.1) }

-- where the sender makes a record, less is left for it
readings-most : (groups : List (List ℕ)) (v : View) (path dest number : ℕ) → Joint groups v → length (v.readings path dest) ≡ number → number ≤ length (v.sessions path)
readings-most groups v path dest zero joint is = omega arith
readings-most groups v path dest (suc seq) joint is =
    let item = there-at (v.readings path dest) seq (omega (arith, is)) in
    let session = joint.streams.joined path dest seq item.0 item.1 in
    omega (arith, slice_get_within (v.sessions path) seq session.0 session.1)

pub less-remains : (g h : Gateway) (last : ℕ) (lies : Option Meaning) (frames : List Written) → TellsSender g h RunEnd last lies frames → length g.dests < length h.dests → remaining h < remaining g
less-remains g h last lies frames told more =
    let turn = told.turn in
    let st = told.stepped in
    let out = some-told (set_of g.sender) (state_of g.sender) turn.event turn.did st.event_is st.row (λ none. omega (arith, ap length told.dests, ap (λ (e : List DestRecord). length (g.dests ++ e)) none, ap length (append-nil g.dests), more)) in
    let next : h.sender.next ≡ turn.did.new.next = ap (λ (s : TxState). s.next) st.state in
    let live : sent_now (state_of h.sender).live ≡ 0 = ap (λ (s : TxState). sent_now s.live) st.state ∙ ap sent_now out.0 in
    let same : length ((view_in h.hub).sessions h.sender.set.path.0) ≡ length ((view_in g.hub).sessions g.sender.set.path.0) =
    ap (λ (s : ℕ → List Session). length (s h.sender.set.path.0)) st.sessions ∙ ap (λ (x : TxSet). length ((view_in g.hub).sessions x.path.0)) st.set in
    let joint = is-joint h.hub in
    let most : h.sender.next ≤ length ((view_in h.hub).sessions h.sender.set.path.0) = readings-most _ (view_in h.hub) h.sender.set.path.0 h.sender.set.dest.0 h.sender.next joint st.knows.next in
    omega (arith, next, live, same, most, out.1, out.2)

same-told : (count free : ℕ) (seen : List Seen) (answers : List Answer) (controls frames : List Written) (sessions : List SessionRecord) (dests : List DestRecord) (moves : List Move) (told : Told) (seen_told : List Seen) (answers_told : List Answer) →
    seen ≡ seen_told → answers ≡ answers_told → told.controls ≡ controls → told.frames ≡ frames → told.report.sessions ≡ sessions → told.report.dests ≡ dests → told.report.moves ≡ moves → told.report.pool.changes ≡ count → told.report.pool.free ≡ free →
    (let r : RunTold = record {
      seen = seen;
      controls = controls;
      sessions = sessions;
      answers = answers;
      frames = frames;
      dests = dests;
      moves = moves;
      count = count;
      free = free;
    } in r) ≡ told_with seen_told answers_told told
same-told count free seen answers controls frames sessions dests moves told seen_told answers_told a b c d e f g h i = rw (a, b, ← c, ← d, ← e, ← f, ← g, ← h, ← i) refl

-- the receiver was told of the run's end
pub end-stands : (sizes : List ℕ) (g k : Gateway) (last : ℕ) (seen : List Seen) (answers : List Answer) (next : ℕ) → next ≤ last + 1 → (at : AtBarrier sizes g seen answers next) → (first : TellsReceiver g k RunEnd last (lying g.control) g.controls) →
    Stands sizes k last (record { event = RunEnd; did = first.did } ∷ turns_of at.works) (moments_of at.works) (grows first.did.calls (view_of at.works))
end-stands sizes g k last seen answers next in_time at first =
    turn-stands sizes g k last last (turns_of at.works) (moments_of at.works) (view_of at.works) RunEnd (stands-later sizes g (next - 1) last (turns_of at.works) (moments_of at.works) (view_of at.works) (omega arith) at.stands) (omega arith) (told-same g k RunEnd last (lying g.control) first)

pub finishes : (sizes : List ℕ) (g k h : Gateway) (clock : Clock) (last : ℕ) (seen : List Seen) (answers : List Answer) (next : ℕ) (told : Told) → next ≤ last + 1 → IsQuiet g ⊎ (next ≡ last + 1) → AtBarrier sizes g seen answers next →
    TellsReceiver g k RunEnd last (lying g.control) g.controls → ((turns : List RxTurn) (moments : List TxTurn) (view : View) → Stands sizes k last turns moments view → EndsTelling sizes h last turns moments view) → IsOver h → h.machines ≡ k.machines → Tells h clock told →
    Finishes sizes g.machines clock last seen answers told
finishes sizes g k h clock last seen answers next told in_time quiet at first ends over machines tells =
    let works = at.works in
    let turn : RxTurn = record { event = RunEnd; did = first.did } in
    let stands = end-stands sizes g k last seen answers next in_time at first in
    let out = ends (turn ∷ turns_of works) (moments_of works) (grows first.did.calls (view_of works)) stands in
    let all = out.stands in
    let end : Work = record { tick = last; turns = turn ∷ []; moments = out.more } in
    let m_is : h.machines ≡ g.machines = machines ∙ ap (λ (x : Gateway). x.machines) first.rest in
    let R : Machines → Type 0 = λ m. RxStands m.rx m.shape last (turns_of (end ∷ works)) (view_of (end ∷ works)) h.receiver (lying h.control) h.controls h.sessions in
    let T : Machines → Type 0 = λ m. TxStands m.tx last (moments_of (end ∷ works)) (view_of (end ∷ works)) h.sender (lying h.frame) h.frames h.dests in
    let rx : R g.machines = subst R m_is all.receives in
    let tx : T g.machines = subst T m_is all.sends in
    let J : View → Type 0 = λ v. Joint (sizes ∷ []) v × IsWordOf (sizes ∷ []) 0 v told.report.pool.changes told.report.pool.free in
    let S : List (List ℕ) → Type 0 = λ groups. Joint groups (view_in h.hub) × IsWordOf groups 0 (view_in h.hub) told.report.pool.changes told.report.pool.free in
    let pool : J (view_of (end ∷ works)) = subst J all.pool.view_is (subst S all.pool.groups (tells.joint, tells.word)) in
    let O : View → Type 0 = λ v. AreInOrder v.changes in
    let I : List (List ℕ) → Type 0 = λ groups. Joint groups (view_in h.hub) × AreInOrder (changes_in groups 0 (view_in h.hub)) in
    let sorted : I (sizes ∷ []) = subst I all.pool.groups (tells.joint, tells.in_order) in
    let path : h.sender.set.path.0 ≡ g.machines.rx.path.0 = ap (λ (x : TxSet). x.path.0) tx.set ∙ ap (λ (p : PathNo). p.0) g.machines.are.same_path in
    let count : length ((view_in h.hub).sessions h.sender.set.path.0) ≡ length ((view_of (end ∷ works)).sessions g.machines.rx.path.0) =
    ap (λ (p : ℕ). length ((view_in h.hub).sessions p)) path ∙ ap (λ (v : View). length (v.sessions g.machines.rx.path.0)) all.pool.view_is in
    let number = ap (λ (s : TxState). s.next) tx.state in
    let reached : IsQuiet g ⊎ (next ≡ last + 1) → IsIdle works ⊎ (next ≡ last + 1) = λ q. idle-or sizes g (next - 1) works next (last + 1) at.stands q in
    let N : ℕ → Type 0 = λ n. IsIdle works ⊎ (n ≡ last + 1) in
    record {
      ticks = works;
      end = end;
      run = record {
        shape = g.machines.are.frames;
        path = g.machines.are.same_path;
        readers = g.machines.are.readers;
        ticks_are = at.ticks;
        ends = record {
          tick_is = refl;
          in_time = omega (arith, at.next_is, in_time);
          reached = subst N (sym at.next_is) (reached quiet);
          receives = (refl, first.stepped.tick_is, refl);
          between = stands-joint sizes k last _ _ _ stands;
          sends = out.only;
          idle = record { receiver = idle-ended _ _ first.did first.stepped.row; sender = sym (ap (λ (s : TxState). s.live) tx.state) ∙ over.live };
          joined = omega (arith, over.joined, count, number);
        };
        received = rx.happened;
        sent = tx.happened;
        joint = pool.0;
        word = pool.1;
        in_order = subst O all.pool.view_is (subst AreInOrder (same sizes (view_in h.hub) sorted.0) sorted.1);
      };
      tells = same-told _ _ _ _ _ _ _ _ _ told seen answers (append-nil (came_by frames_in (turns_of works)) ∙ at.seen_is) (end-answers last out.more (moments_of works) out.only ∙ at.answers_is)
          (tells.controls ∙ rx.controls_are) (tells.frames ∙ tx.frames_are) (tells.sessions ∙ rx.sessions_are) (tells.dests ∙ tx.dests_are) (tells.moves ∙ all.pool.moves_are) refl refl;
      clock_is = tells.clock_is;
      buffers = tells.buffers;
    }
