-- The run's end: what each sender does until nothing is left for it.
use Rattle.std.proofs.Common.{◌≡◌, inl, inr, ℕ, ◌+◌, ◌<◌, Bool, true, false, Option, None, Some, List, [], ◌∷◌, ◌++◌, length, length-append, refl, ap, sym, subst, ◌∙◌, arith, append-nil, append_assoc, ltb-true, ltb-false}
use Rattle.std.specs.Bool.{MatchBool}
use Rattle.std.specs.Prelude.{nat_lt, option_and_then, option_map, slice_get}
use Rattle.std.proofs.lemmas.Option.{slice_get_within}
use Rattle.std.specs.List.{AllByRecursion}
use Rattle.std.proofs.lemmas.Bool.{cases_eq}
use Rattle.gw_base.proofs.Lists.{all-join, none-some, same-some}
use Rattle.hub_core.specs.Floors.{AreFresh, Floors, Rise}
use Rattle.hub_core.specs.Stays.{PortState}
use Rattle.hub_core.specs.View.{Event, Missed, View}
use Rattle.hub_core.specs.declared.record.DestRecord.{DestRecord}
use Rattle.sender_law.specs.Parts.{IsStepIn}
use Rattle.tp_receiver.specs.State.{RunEnd, RxTurn}
use Rattle.tp_receiver.specs.declared.set.RxSet.{RxSet}
use Rattle.tp_unit.specs.declared.shape.Shape.{Shape}
use Rattle.tp_sender.specs.State.{Transmission, TxDid, TxState, TxTurn, set_of, state_of}
use Rattle.tp_sender.specs.Table.{FindsOne, NothingStands, TxRow}
use Rattle.tp_sender.specs.declared.event.TxEvent.TheVariants.{RunEnd as EndOfRun}
use Rattle.tp_sender.specs.declared.set.TxSet.{TxSet}
use Rattle.bus_worker.proofs.ActLists.{received-append, sent-append}
use Rattle.bus_worker.proofs.Doing.{did-then}
use Rattle.bus_worker.proofs.Phasing.{sent-is}
use Rattle.bus_worker.proofs.SenderSteps.{act-of}
use Rattle.bus_worker.proofs.Working.{sender-works, works-none, works-so, works-then}
use Rattle.bus_worker.specs.Acts.{Act, received_at, sent_at}
use Rattle.bus_worker.specs.Ending.{AreEnded, EndsOneAfter, EndsReceivers, EndsSender, EndsSenders, Finishes, IsEnded, IsOver, IsToldOnce}
use Rattle.bus_worker.specs.Phases.{OneReceived, Rests, RestsBy, WorksAfter}
use Rattle.bus_worker.specs.Stands.{SameChannels, receives_at, sender_at, sends_at}
use Rattle.bus_worker.specs.Steps.{SenderWasTold}
use Rattle.bus_worker.specs.declared.channel.Channel.{Channel}
use Rattle.bus_worker.specs.declared.channel.Receiving.{Receiving}
use Rattle.bus_worker.specs.declared.channel.Sending.{Sending}
use Rattle.bus_worker.specs.declared.worker.Worker.{Worker}

-- a sender's step at the run's end
ended-is : {Home : Type 0} (place last : ℕ) (v w : Worker) (old new : PortState Home) (told : SenderWasTold place EndOfRun last v w old new) (done : List Act) → done ≡ act-of place last EndOfRun v w old new told ∷ [] → IsEnded last place v.channels.items done
ended-is place last v w old new told done is =
    let sent = sent-is place last EndOfRun v w old new told done is in
    let one = sent.own (set_of told.before.machine) (ap (option_map (λ (s : Sending). set_of s.machine)) told.was) in
    let A : List TxTurn → Type 0 = λ l. AllByRecursion (IsStepIn last EndOfRun) l in
    record { own = subst A (sym one.turns_are) ((one.event_is, one.tick_is), tt); none = sent.none; others = sent.others; receivers = sent.receivers }

-- it made no record only where nothing stood
none-by : (set : TxSet) (next : ℕ) (live : Option Transmission) (did : TxDid) → TxRow set next live EndOfRun did → did.records ≡ [] → (did.new.live ≡ None) × (did.calls ≡ Missed set.group.0 set.path.0 set.dest.0 did.new.next ∷ [])
none-by set next (Some s) did row none = let some = row.0.records in cc
none-by set next None did (NothingStands row) none = (row.live, row.calls_are ∙ ap (λ n. Missed set.group.0 set.path.0 set.dest.0 n ∷ []) (sym row.next_is))
none-by set next None did (FindsOne buf len more joins ends) none = let some = ends.records in cc

not-entered : (f : Floors) (v : View) (group path dest number : ℕ) (calls : List Event) → calls ≡ Missed group path dest number ∷ [] → AreFresh f v calls → f.entered group path dest number ≡ false
not-entered f v group path dest number calls is fresh = (let F : List Event → Type 0 = λ l. AreFresh f v l in subst F is fresh).0

was-false : (was now : Bool) → (was ≡ true → now ≡ true) → now ≡ false → was ≡ false
was-false true now rise none = sym (rise refl) ∙ none
was-false false now rise none = refl

pub over-earlier : (f g : Floors) (s : Sending) → Rise f g → IsOver g s → IsOver f s
over-earlier f g s rise over =
    let set = set_of s.machine in
    let next = (state_of s.machine).next in
    record { live = over.live; none = was-false (f.entered set.group.0 set.path.0 set.dest.0 next) (g.entered set.group.0 set.path.0 set.dest.0 next) (rise.entered set.group.0 set.path.0 set.dest.0 next) over.none }

pub over-now : {Home : Type 0} (place last : ℕ) (v w : Worker) (old new : PortState Home) (told : SenderWasTold place EndOfRun last v w old new) → told.tells.did.records ≡ [] → (s : Sending) → sender_at w.channels.items place ≡ Some s → IsOver old.floors s
over-now place last v w old new told none s is =
    let after-is : told.after ≡ s = same-some told.there is in
    let tells = told.tells in
    let did = tells.did in
    let set = set_of told.before.machine in
    let row = none-by set (state_of told.before.machine).next (state_of told.before.machine).live did tells.row none in
    let missed = not-entered old.floors old.view set.group.0 set.path.0 set.dest.0 did.new.next did.calls row.1 tells.fresh in
    let O : Sending → Type 0 = λ x. IsOver old.floors x in
    let T : TxSet → Type 0 = λ x. old.floors.entered x.group.0 x.path.0 x.dest.0 did.new.next ≡ false in
    let N : TxState → Type 0 = λ x. old.floors.entered (set_of told.after.machine).group.0 (set_of told.after.machine).path.0 (set_of told.after.machine).dest.0 x.next ≡ false in
    subst O after-is (record { live = ap (λ (x : TxState). x.live) tells.state ∙ row.0; none = subst N (sym tells.state) (subst T (sym tells.set) missed) })

-- whether there are more records than before
made-in : (test : Bool) (a b : ℕ) (old new records : List DestRecord) → nat_lt a b ≡ test → a ≡ length old → b ≡ length new → new ≡ old ++ records → MatchBool test (records ≡ [] → ⊥) (records ≡ [])
made-in true a b old new records is was now grown = λ none. (let more = ltb-true a b is in let same = ap length (grown ∙ ap (λ l. old ++ l) none ∙ append-nil old) in omega (arith, more, same, was, now))
made-in false a b old new [] is was now grown = refl
made-in false a b old new (told ∷ records) is was now grown = absurd (let few = ltb-false a b is in let same = ap length grown ∙ length-append old (told ∷ records) in omega (arith, few, same, was, now))

pub made-of : (a b : ℕ) (old new records : List DestRecord) → a ≡ length old → b ≡ length new → new ≡ old ++ records → MatchBool (nat_lt a b) (records ≡ [] → ⊥) (records ≡ [])
made-of a b old new records was now grown = made-in (nat_lt a b) a b old new records refl was now grown

-- one step more of the same sender
pub ends-none : {Home : Type 0} (last place : ℕ) (v : Worker) (port : PortState Home) → EndsOneAfter last place v v port port
ends-none last place v port since acts by at = record {
  works = works-none last (IsEnded last place v.channels.items) v port (record { own = tt; none = λ is. refl; others = λ other ne. refl; receivers = λ other. refl }) since acts by at;
  others = λ other ne. refl;
}

ended-more : (last place : ℕ) (channels after : List Channel) (done later : List Act) → SameChannels channels after → IsEnded last place channels done → IsEnded last place after later → IsEnded last place channels (later ++ done)
ended-more last place channels after done later same first second =
    let A : List TxTurn → Type 0 = λ l. AllByRecursion (IsStepIn last EndOfRun) l in
    record {
      own = subst A (sym (sent-append place later done)) (all-join (IsStepIn last EndOfRun) (sent_at place later) (sent_at place done) second.own first.own);
      none = λ is. sent-append place later done ∙ ap (λ l. l ++ sent_at place done) (second.none (same.sends place ∙ is)) ∙ first.none is;
      others = λ other ne. sent-append other later done ∙ ap (λ l. l ++ sent_at other done) (second.others other ne) ∙ first.others other ne;
      receivers = λ other. received-append other later done ∙ ap (λ l. l ++ received_at other done) (second.receivers other) ∙ first.receivers other;
    }

told-ends : {Home : Type 0} (last place : ℕ) (some : Bool) (v w : Worker) (old new : PortState Home) → IsToldOnce last place some v w old new → WorksAfter last 0 0 (IsEnded last place v.channels.items) v w old new
told-ends last place some v w old new once since acts by at =
    works-so last 0 0 _ (IsEnded last place v.channels.items) acts v w old new (ended-is place last v w old new once.told) (sender-works place last EndOfRun v w old new once.told (λ lies. refl) since acts by at tt)

pub ends-more : {Home : Type 0} (last place : ℕ) (some : Bool) (u v w : Worker) (one two three : PortState Home) → EndsOneAfter last place u v one two → IsToldOnce last place some v w two three → EndsOneAfter last place u w one three
ends-more last place some u v w one two three ends once since acts by at =
    record {
      works = works-then last 0 0 0 0 (IsEnded last place u.channels.items) (IsEnded last place v.channels.items) (IsEnded last place u.channels.items) u v w one two three
          (λ done later did are also. ended-more last place u.channels.items v.channels.items done later did.channels are also) (λ s a b r. (ends s a b r).works) (told-ends last place some v w two three once) since acts by at;
      others = λ other ne. once.told.others.senders other ne ∙ (ends since acts by at).others other ne;
    }

-- some work of one sender leaves all machines standing
pub rests-after-ends : {Home : Type 0} (last place : ℕ) (v w : Worker) (old new : PortState Home) → RestsBy last v old → EndsOneAfter last place v w old new → RestsBy last w new
rests-after-ends last place v w old new rests ends =
    let one = ends rests.since rests.acts rests.by rests.at in
    record { since = last; acts = one.works.done ++ rests.acts; by = omega arith; at = one.works.at }

-- one sender after another
pub senders-none : {Home : Type 0} (last : ℕ) (v : Worker) (port : PortState Home) → EndsSenders last 0 v v port port
senders-none last v port = record {
  ends = works-none last (AreEnded last 0 v.channels.items) v port (record { each = λ place. tt; none = λ place is. refl; receivers = λ place. refl });
  over = λ place s below. absurd (omega (arith, below));
}

one-more : (last count : ℕ) (channels after : List Channel) (done later : List Act) → SameChannels channels after → AreEnded last count channels done → IsEnded last count after later → AreEnded last (count + 1) channels (later ++ done)
one-more last count channels after done later same first second =
    let A : List TxTurn → Type 0 = λ l. AllByRecursion (IsStepIn last EndOfRun) l in
    record {
      each = λ place. subst A (sym (sent-append place later done)) (all-join (IsStepIn last EndOfRun) (sent_at place later) (sent_at place done) (elim (cases_eq place count) [
        | inl here ↦ subst (λ (p : ℕ). A (sent_at p later)) (sym here) second.own
        | inr ne ↦ subst A (sym (second.others place ne)) tt
      ]) (first.each place));
      none = λ place is. sent-append place later done ∙ ap (λ l. sent_at place later ++ l) (first.none place is) ∙ append-nil (sent_at place later) ∙ elim (cases_eq place count) [
        | inl here ↦ ap (λ p. sent_at p later) here ∙ second.none (same.sends count ∙ ap (sends_at channels) (sym here) ∙ is)
        | inr ne ↦ second.others place ne
      ];
      receivers = λ place. received-append place later done ∙ ap (λ l. l ++ received_at place done) (second.receivers place) ∙ first.receivers place;
    }

pub senders-more : {Home : Type 0} (last count : ℕ) (u v w : Worker) (one two three : PortState Home) → RestsBy last u one → EndsSenders last count u v one two → EndsSender last count v w two three → EndsSenders last (count + 1) u w one three
senders-more last count u v w one two three rests ends sender =
    let first = ends.ends rests.since rests.acts rests.by rests.at in
    let second = sender.ends last (first.done ++ rests.acts) (omega arith) first.at in
    record {
      ends = works-then last 0 0 0 0 (AreEnded last count u.channels.items) (IsEnded last count v.channels.items) (AreEnded last (count + 1) u.channels.items) u v w one two three
          (λ done later did are also. one-more last count u.channels.items v.channels.items done later did.channels are also) ends.ends (λ s a b r. (sender.ends s a b r).works);
      over = λ place s below is. elim (cases_eq place count) [
        | inl here ↦ over-earlier one.floors two.floors s first.did.same.rise (sender.over s (ap (sender_at w.channels.items) (sym here) ∙ is))
        | inr ne ↦ ends.over place s (omega (arith, below, ne)) (sym (second.others place ne) ∙ is)
      ];
    }

-- machines stand at the channels' places alone
within-by : (found : Option Channel) (channels : List Channel) (place : ℕ) → slice_get channels place ≡ found → (found ≡ None → ⊥) → place < length channels
within-by None channels place is some = absurd (some refl)
within-by (Some channel) channels place is some = slice_get_within channels place channel is

pub receives-within : (channels : List Channel) (place : ℕ) (one : RxSet × Shape) → receives_at channels place ≡ Some one → place < length channels
receives-within channels place one there = within-by (slice_get channels place) channels place refl (λ none. none-some (ap (λ (found : Option Channel). option_map (λ (r : Receiving). (r.machine.set, r.shape)) (option_and_then (λ (channel : Channel). channel.receiving) found)) none) there)

sender-within : (channels : List Channel) (place : ℕ) (s : Sending) → sender_at channels place ≡ Some s → place < length channels
sender-within channels place s there = within-by (slice_get channels place) channels place refl (λ none. none-some (ap (λ (found : Option Channel). option_and_then (λ (channel : Channel). channel.sending) found) none) there)

-- both phases of the run's end
pub finishes : {Home : Type 0} (last : ℕ) (u v w : Worker) (one two three : PortState Home) → RestsBy last u one → EndsReceivers last (length u.channels.items) u v one two → EndsSenders last (length v.channels.items) v w two three → Finishes last u w one three
finishes {Home = Home} last u v w one two three rests receivers senders since acts by at =
    let a = receivers since acts by at in
    let b = senders.ends last (a.done ++ acts) (omega arith) a.at in
    let R : List Act → Type 0 = λ l. Rests {Home = Home} last l w three in
    let sends : (place : ℕ) → sends_at v.channels.items place ≡ sends_at u.channels.items place = a.did.channels.sends in
    let A : List TxTurn → Type 0 = λ l. AllByRecursion (IsStepIn last EndOfRun) l in
    let sent-only : (place : ℕ) → sent_at place (b.done ++ a.done) ≡ sent_at place b.done = λ place. sent-append place b.done a.done ∙ ap (λ l. sent_at place b.done ++ l) (a.are.senders place) ∙ append-nil (sent_at place b.done) in
    let received-only : (place : ℕ) → received_at place (b.done ++ a.done) ≡ received_at place a.done = λ place. received-append place b.done a.done ∙ ap (λ l. l ++ received_at place a.done) (b.are.receivers place) in
    record {
      done = b.done ++ a.done;
      at = subst R (sym (append_assoc b.done a.done acts)) b.at;
      did = did-then 0 0 0 0 a.done b.done u v w one two three a.did b.did;
      are = record {
        receivers = λ place set there. subst (λ (l : List RxTurn). OneReceived last RunEnd l) (sym (received-only place)) (a.are.each place set (receives-within u.channels.items place set there) there);
        senders = λ place. subst A (sym (sent-only place)) (b.are.each place);
        no_receivers = λ place is. received-only place ∙ a.are.none place is;
        no_senders = λ place is. sent-only place ∙ b.are.none place (sends place ∙ is);
      };
      over = λ place s is. over-earlier one.floors two.floors s a.did.same.rise (senders.over place s (let below = sender-within w.channels.items place s is in let count = b.did.channels.count in omega (arith, below, count)) is);
      sent = b.sent ∙ a.sent;
    }

pub sends-within : (channels : List Channel) (place : ℕ) (one : TxSet) → sends_at channels place ≡ Some one → place < length channels
sends-within channels place one there = within-by (slice_get channels place) channels place refl (λ none. none-some (ap (λ (found : Option Channel). option_map (λ (s : Sending). set_of s.machine) (option_and_then (λ (channel : Channel). channel.sending) found)) none) there)
