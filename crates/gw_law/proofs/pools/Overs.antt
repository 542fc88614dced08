-- At a run's end all sessions are over, and each take is of one of them.
use Rattle.std.proofs.Common.{◌≡◌, ℕ, ◌<◌, zero, suc, cond, inl, inr, Option, Some, None, List, [], ◌∷◌, length, get_or, refl, ap, sym, ◌∙◌, subst, arith, append-nil}
use Rattle.std.specs.Prelude.{slice_get}
use Rattle.std.proofs.lemmas.Bool.{false_from_ne_true}
use Rattle.std.proofs.lemmas.Bool.Decides.{eqb_tells}
use Rattle.std.proofs.lemmas.Option.{slice_get-get_or, slice_get_within}
use Rattle.gw_base.proofs.Lists.{all-at, mapped-at, zip-at, zip-back}
use Rattle.hub_core.proofs.Standing.{IsUsed, Stands, take_of, takes_of}
use Rattle.hub_core.specs.Joint.{HasLeft, IsOver}
use Rattle.hub_core.specs.Groups.{group_of, in_group, journal_of}
use Rattle.hub_core.specs.Journal.{changed_buf, number_of, numbered}
use Rattle.hub_core.specs.Turns.{calls_by, state_after}
use Rattle.hub_core.specs.View.{Change, Freed, Reading, Session, Taken, View, empty_view, reading_at, reading_new, session_at}
use Rattle.receiver_law.proofs.runs.RxLaws.{ends-idle}
use Rattle.receiver_law.proofs.sessions.StandingWriter.{session_of, turns-step}
use Rattle.receiver_law.specs.Channel.{SourceChannel}
use Rattle.receiver_law.specs.RxRun.{IsRxRun, RxRun, turns_in as received_in}
use Rattle.sender_law.proofs.records.StandingReader.{moments-step, session_of as sent_session}
use Rattle.sender_law.specs.Channel.{DestChannel}
use Rattle.sender_law.specs.Runs.{IsTxRun, TxRun, turns_in as sent_in}
use Rattle.tp_receiver.specs.Runs.{HasReceived}
use Rattle.tp_receiver.specs.State.{rx_new}
use Rattle.tp_sender.specs.Runs.{HasSent}
use Rattle.tp_sender.specs.State.{tx_new}
use Rattle.gw_law.specs.Account.{Account}
use Rattle.gw_law.specs.Deeds.{Deeds, IsMadeBy, IsReadBy, IsWrittenBy, Window, own_view}
use Rattle.gw_law.specs.Plan.{HasSending, Receiving}
use Rattle.gw_law.specs.Pool.{AreAllOver, AreAllUsed}
use Rattle.gw_law.specs.Run.{HasJoinedAll, IsReceiverRun, IsRun, IsSenderRun}

-- what a receiver's and a sender's turns leave in a view of their own
abbrev RxLeaves : RxRun → Type 0
RxLeaves run = Stands run.set.path.0 0 run.set.readers (state_after rx_new (received_in run)).seq None 0 None (own_view (calls_by (received_in run)))

abbrev TxLeaves : TxRun → Type 0
TxLeaves run = Stands run.set.path.0 run.set.dest.0 0 0 None (state_after tx_new (sent_in run)).next None (own_view (calls_by (sent_in run)))

nothing : (path dest dests : ℕ) → Stands path dest dests 0 None 0 None empty_view
nothing path dest dests = record {
  written = record { count = refl; left = λ k s is. absurd cc; used = tt };
  only = λ other ne. refl;
  read = record { count = refl; left = λ k r is. absurd cc };
}

rx-leaves : (run : RxRun) → IsRxRun run → RxLeaves run
rx-leaves run is =
    let turns : List _ = received_in run in
    let P : Option ℕ → Type 0 = λ going. Stands run.set.path.0 0 run.set.readers (state_after rx_new turns).seq going 0 None (own_view (calls_by turns)) in
    let step = turns-step run.set turns [] (let Q : List _ → Type 0 = λ l. HasReceived run.set l in subst Q (sym (append-nil turns)) is.happened) in
    let S : List _ → Type 0 = λ l. Stands run.set.path.0 0 run.set.readers (state_after rx_new l).seq (session_of (state_after rx_new l).busy) 0 None (own_view (calls_by turns)) in
    subst P (ap session_of (ends-idle run is)) (subst S (append-nil turns) (step 0 0 None empty_view (nothing run.set.path.0 0 run.set.readers)))

tx-leaves : (run : TxRun) → IsTxRun run → TxLeaves run
tx-leaves run is =
    let turns : List _ = sent_in run in
    let P : Option ℕ → Type 0 = λ going. Stands run.set.path.0 run.set.dest.0 0 0 None (state_after tx_new turns).next going (own_view (calls_by turns)) in
    let step = moments-step run.set turns [] (let Q : List _ → Type 0 = λ l. HasSent run.set l in subst Q (sym (append-nil turns)) is.happened) in
    let S : List _ → Type 0 = λ l. Stands run.set.path.0 run.set.dest.0 0 0 None (state_after tx_new l).next (sent_session (state_after tx_new l).live) (own_view (calls_by turns)) in
    subst P (ap sent_session is.idle) (subst S (append-nil turns) (step 0 0 None empty_view (nothing run.set.path.0 run.set.dest.0 0)))

-- a receiver of the run, with its place
pub record Receives (a : Account) (d : Deeds) (v : View) (place : ℕ) (run : RxRun) : Type 0 where
  pub r : Receiving
  pub r_there : slice_get a.plan.receivers place ≡ Some r
  pub is : IsReceiverRun a r run
  pub set_is : run.set ≡ r.set
  pub sessions : IsWrittenBy v run (received_in run)

pub receives : (a : Account) (d : Deeds) (windows : List Window) (v : View) (run : RxRun) (place : ℕ) → IsRun a d windows v → slice_get d.receivers place ≡ Some run → Receives a d v place run
receives a d windows v run place is there =
    let at = zip-back (IsReceiverRun a) a.plan.receivers d.receivers place run is.receivers there in
    record {
      r = at.0;
      r_there = at.1;
      is = at.2;
      set_is = ap (λ (c : SourceChannel). c.rx) at.2.tells;
      sessions = all-at (λ (x : RxRun). IsWrittenBy v x (received_in x)) d.receivers place run is.joined.sessions there;
    }

-- a destination left each session of its path
has-left : (a : Account) (d : Deeds) (windows : List Window) (v : View) (path dest seq : ℕ) (s : Session) → IsRun a d windows v → HasSending a.plan path dest → session_at v path seq ≡ Some s → HasLeft v path dest seq
has-left a d windows v path dest seq s is has at =
    let one = zip-at (IsSenderRun a) a.plan.senders d.senders has.place has.sending is.senders has.there in
    let run : TxRun = one.0 in
    let set_is : run.set ≡ has.sending.set = ap (λ (c : DestChannel). c.tx) one.2.tells in
    let path_is : run.set.path.0 ≡ path = ap (λ (s : _). s.path.0) set_is ∙ has.path_is in
    let dest_is : run.set.dest.0 ≡ dest = ap (λ (s : _). s.dest.0) set_is ∙ has.dest_is in
    let leaves : TxLeaves run = tx-leaves run one.2.run_is in
    let read : IsReadBy v run (sent_in run) = all-at (λ (x : TxRun). IsReadBy v x (sent_in x)) d.senders has.place run is.joined.readings one.1 in
    let served : HasJoinedAll v run = all-at (HasJoinedAll v) d.senders has.place run is.served one.1 in
    let own : List Reading = (own_view (calls_by (sent_in run))).readings run.set.path.0 run.set.dest.0 in
    let r : Reading = get_or own seq (reading_new 0 0) in
    let inside : seq < length own = omega (arith, slice_get_within (v.sessions path) seq s at, served, ap (λ p. length (v.sessions p)) path_is, leaves.read.count) in
    let there : slice_get own seq ≡ Some r = slice_get-get_or own seq (reading_new 0 0) inside in
    let here : reading_at v run.set.path.0 run.set.dest.0 seq ≡ Some r = ap (λ l. slice_get l seq) read ∙ there in
    let P : ℕ → Type 0 = λ p. HasLeft v p run.set.dest.0 seq in
    let Q : ℕ → Type 0 = λ k. HasLeft v path k seq in
    subst Q dest_is (subst P path_is (r, here, false_from_ne_true r.stands (λ on. let no : None ≡ Some seq = (leaves.read.left seq r there).1 on in absurd cc)))

-- each session is over
session-over : (a : Account) (d : Deeds) (windows : List Window) (v : View) (place : ℕ) (run : RxRun) (seq : ℕ) (s : Session) → IsRun a d windows v → Receives a d v place run → session_at v run.set.path.0 seq ≡ Some s → IsOver v run.set.path.0 seq s
session-over a d windows v place run seq s is of at =
    let leaves : RxLeaves run = rx-leaves run of.is.run_is in
    let own = leaves.written.left seq s (ap (λ l. slice_get l seq) (sym of.sessions) ∙ at) in
    let path : run.set.path.0 ≡ of.r.set.path.0 = ap (λ (s : _). s.path.0) of.set_is in
    let P : ℕ → ℕ → Type 0 = λ p dest. HasSending a.plan p dest in
    record {
      writer = false_from_ne_true s.stands (λ on. let no : None ≡ Some seq = own.1 on in absurd cc);
      dests = λ dest below.
          let Q : ℕ → Type 0 = λ p. HasSending a.plan p dest in
          has-left a d windows v run.set.path.0 dest seq s is (subst Q (sym path) (is.plan.each_dest place dest of.r of.r_there (omega (arith, below, own.0, ap (λ (s : _). s.readers) of.set_is)))) at;
    }

pub all-over : (a : Account) (d : Deeds) (windows : List Window) (v : View) → IsRun a d windows v → AreAllOver v
all-over a d windows v is path seq s at =
    let by = is.joined.no_others path seq s at in
    let of : Receives a d v by.1.0 by.0 = receives a d windows v by.0 by.1.0 is by.1.1 in
    let P : ℕ → Type 0 = λ p. IsOver v p seq s in
    let Q : ℕ → Type 0 = λ p. session_at v p seq ≡ Some s in
    subst P by.2 (session-over a d windows v by.1.0 by.0 seq s is of (subst Q (sym by.2) at))

-- each take is of a session
no-items : {A : Type 0} (xs : List A) → length xs ≡ 0 → xs ≡ []
no-items [] is = refl
no-items (x ∷ xs) is = absurd (omega (arith, is))

-- a take of a group is a change of the view
grouped-from : (groups : List (List ℕ)) (group : ℕ) (changes : List Change) (number place need : ℕ) → numbered (journal_of groups group changes) number ≡ Some (Taken number place need) →
    (at : ℕ) × (buf : ℕ) × (slice_get changes at ≡ Some (Taken number buf need)) × (group_of groups buf ≡ group)
grouped-from groups group [] number place need is = absurd cc
grouped-from groups group (x ∷ changes) number place need is = elim (eqb_tells (group_of groups (changed_buf x)) group) [
  | inr other ↦
      let rest = grouped-from groups group changes number place need (ap (λ b. numbered (cond b (in_group groups x ∷ journal_of groups group changes) (journal_of groups group changes)) number) (sym other.0) ∙ is) in
      (suc rest.0, rest.1, rest.2, rest.3)
  | inl mine ↦
      let here : numbered (in_group groups x ∷ journal_of groups group changes) number ≡ Some (Taken number place need) = ap (λ b. numbered (cond b (in_group groups x ∷ journal_of groups group changes) (journal_of groups group changes)) number) (sym mine.0) ∙ is in
      elim (eqb_tells (number_of (in_group groups x)) number) [
        | inr later ↦
            let rest = grouped-from groups group changes number place need (ap (λ b. cond b (Some (in_group groups x)) (numbered (journal_of groups group changes) number)) (sym later.0) ∙ here) in
            (suc rest.0, rest.1, rest.2, rest.3)
        | inl same ↦
            let one : Some (in_group groups x) ≡ Some (Taken number place need) = ap (λ b. cond b (Some (in_group groups x)) (numbered (journal_of groups group changes) number)) (sym same.0) ∙ here in
            taken x mine.1 one
      ]
]
  where
    taken : (x : Change) → group_of groups (changed_buf x) ≡ group → Some (in_group groups x) ≡ Some (Taken number place need) → (at : ℕ) × (buf : ℕ) × (slice_get (x ∷ changes) at ≡ Some (Taken number buf need)) × (group_of groups buf ≡ group)
    taken (Taken n buf asked) mine one =
        let number_is : n ≡ number = cc in
        let need_is : asked ≡ need = cc in
        (zero, buf, ap (λ (p : ℕ × ℕ). Some (Taken p.0 buf p.1)) (λ i. (number_is i, need_is i)), mine)
    taken (Freed n buf) mine one = absurd cc

pub all-used : (a : Account) (d : Deeds) (windows : List Window) (v : View) (group : ℕ) → IsRun a d windows v → AreAllUsed a.plan.groups group v
all-used a d windows v group is number place need there =
    let from = grouped-from a.plan.groups group v.changes number place need there in
    let buf : ℕ = from.1 in
    elim (all-at (IsMadeBy d received_in sent_in) v.changes from.0 (Taken number buf need) is.joined.only from.2) [
      | inl by ↦
          let of : Receives a d v by.1.0 by.0 = receives a d windows v by.0 by.1.0 is by.1.1 in
          let leaves : RxLeaves by.0 = rx-leaves by.0 of.is.run_is in
          let own : List Session = (own_view (calls_by (received_in by.0))).sessions by.0.set.path.0 in
          let used = all-at (IsUsed (takes_of own)) (own_view (calls_by (received_in by.0))).changes by.2.0 (Taken number buf need) leaves.written.used by.2.1 in
          let s = mapped-at take_of used.0 own (number, buf) used.1 in
          (by.0.set.path.0, used.0, s.0, ap (λ l. slice_get l used.0) of.sessions ∙ s.1, ap (λ p. p.0) s.2, ap (λ p. group_of a.plan.groups p.1) s.2 ∙ from.3)
      | inr by ↦
          let one = zip-back (IsSenderRun a) a.plan.senders d.senders by.1.0 by.0 is.senders by.1.1 in
          let leaves : TxLeaves by.0 = tx-leaves by.0 one.2.run_is in
          let none : (own_view (calls_by (sent_in by.0))).sessions by.0.set.path.0 ≡ [] = no-items _ leaves.written.count in
          let used = all-at (IsUsed (takes_of ((own_view (calls_by (sent_in by.0))).sessions by.0.set.path.0))) (own_view (calls_by (sent_in by.0))).changes by.2.0 (Taken number buf need) leaves.written.used by.2.1 in
          let no : slice_get [] used.0 ≡ Some (number, buf) = ap (λ (l : List Session). slice_get (takes_of l) used.0) (sym none) ∙ used.1 in
          absurd cc
    ]
