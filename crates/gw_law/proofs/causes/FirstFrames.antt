-- A transmission's first frame leaves only once enough of its unit came: its sender had looked, and no look shows more than was put.
use Rattle.std.proofs.Common.{◌≡◌, ◌⊎◌, ℕ, ◌+◌, ◌<◌, ◌≤◌, inl, inr, Bool, true, false, cond, None, Some, List, [], ◌∷◌, ◌++◌, length, refl, ap, sym, ◌∙◌, subst, arith, append-nil, append_assoc}
use Rattle.std.specs.Prelude.{filter, map, nat_lt, slice_get}
use Rattle.std.specs.List.{AllByRecursion, AllZip}
use Rattle.std.proofs.lemmas.Bool.{cases_lt}
use Rattle.std.proofs.lemmas.Bool.Decides.{nat_tests}
use Rattle.std.proofs.lemmas.List.{length-append, length-take}
use Rattle.std.proofs.lemmas.List.Concat.{flat_map-append}
use Rattle.std.proofs.lemmas.List.Sums.{sum_by-take-le}
use Rattle.gw_base.proofs.Lists.{all-at, all-weaker, slice_get-more, zip-index, zip-pair}
use Rattle.gw_base.specs.Cell.{bytes_of, count_of, counted}
use Rattle.hub_core.proofs.Sides.{cells_at-there}
use Rattle.hub_core.proofs.Turns.{calls-append, happened-front}
use Rattle.hub_core.specs.Turns.{Part, calls_by, came_by as frames_came, records_by, state_after, tick_after, turns_of}
use Rattle.hub_core.specs.View.{Event, Session, empty_view, grows}
use Rattle.hub_core.specs.declared.record.DestRecord.{DestRecord}
use Rattle.hub_core.specs.declared.record.SessionRecord.{SessionRecord}
use Rattle.receiver_law.proofs.records.SourceLaws.{source_law_of, stored_law_of}
use Rattle.receiver_law.proofs.sessions.Openings.{openings}
use Rattle.receiver_law.proofs.sessions.Stores.{store, store-more}
use Rattle.receiver_law.specs.Source.{CountsFrom, Puts, SourceLaw, sessions_in}
use Rattle.receiver_law.specs.RxRun.{RxRun}
use Rattle.sender_law.proofs.transfers.TxBegun.{HasBegun, begun-live, begun-told, end-told}
use Rattle.sender_law.proofs.transfers.TxLaw.{law, so-far, world_of}
use Rattle.sender_law.proofs.transfers.TxWorld.{SoFar}
use Rattle.sender_law.specs.Parts.{IsStepIn}
use Rattle.sender_law.specs.Runs.{TxRun}
use Rattle.sender_law.specs.Starts.{IsAmong, look_of}
use Rattle.sender_law.specs.Transfer.{SendsFor, has_sent, seen_of, transfer_of}
use Rattle.tp_attempts.specs.Attempts.{attempts_in}
use Rattle.tp_attempts.specs.Cuts.{Cut}
use Rattle.tp_attempts.specs.Seen.{Seen, len_of}
use Rattle.tp_attempts.specs.Walk.{reassembled, walk_of}
use Rattle.tp_receiver.specs.Runs.{HasReceived, frames_in, put_in}
use Rattle.tp_receiver.specs.State.{RxTurn, rx_new}
use Rattle.tp_sender.specs.Runs.{HasSent, box_after, left_by, len_joined, lens_in, written_at}
use Rattle.tp_sender.specs.State.{TxTurn, tx_new}
use Rattle.tp_sender.specs.declared.event.TxEvent.{TxEvent}
use Rattle.tp_sender.specs.declared.event.TxEvent.TheVariants.{RunEnd}
use Rattle.tp_sender.specs.declared.set.TxSet.{TxSet}
use Rattle.tp_unit.specs.Box.{Written}
use Rattle.tp_unit.specs.Shape.{IsShape, address_size}
use Rattle.tp_unit.specs.declared.shape.Shape.{Shape}
use Rattle.gw_law.specs.Account.{Route}
use Rattle.gw_law.specs.Deeds.{before, own_view}
use Rattle.gw_law.specs.Delivery.{Delivers, DeliveryLaw, IsNamed}
use Rattle.gw_law.specs.Timely.{StartsInTime, bytes_below, cells_below, delivery_of_route, first_pieces}
use Rattle.gw_law.proofs.causes.HeldBytes.{Front, front-at}
use Rattle.gw_law.proofs.causes.JointWaits.{len-named, named-once}
use Rattle.gw_law.proofs.deliveries.Deliveries.{all-sent}
use Rattle.gw_law.proofs.runs.Barriers.{Barrier, barrier, received-below, sent-below}
use Rattle.gw_law.proofs.runs.Before.{Cut as PartsCut, cut as cut-parts, front-of, timed-front, turns-in, AreTimed}
use Rattle.gw_law.proofs.runs.Fronts.{TurnIn}
use Rattle.gw_law.proofs.runs.Looks.{IsShown, shown-parts}
use Rattle.gw_law.proofs.runs.Moments.{IsFront, Whole, front-below, received, sent, split-turns}
use Rattle.gw_law.proofs.runs.Parts.{rx-rising, rx-timed}
use Rattle.gw_law.proofs.times.Pieces.{After, Within}
use Rattle.gw_law.proofs.times.RxCame.{HasCome, front-counted, has-come}
use Rattle.gw_law.proofs.times.Timely.{AreIdle, route_told, sends-all}
use Rattle.gw_law.proofs.times.TxUpTo.{GoesOnThere, IsFrontFor, ToldThere, front-cut, front-for, joined-in, seqs-below, told-before}

-- the records with sent bytes have some
some-by : (told : DestRecord) (rest : List DestRecord) (sends : Bool) → has_sent told ≡ sends → AllByRecursion (λ (d : DestRecord). 0 < d.sent) rest → AllByRecursion (λ (d : DestRecord). 0 < d.sent) (cond sends (told ∷ rest) rest)
some-by told rest true is all = (grind (arith, nat_tests, is), all)
some-by told rest false is all = all

all-some : (records : List DestRecord) → AllByRecursion (λ (d : DestRecord). 0 < d.sent) (filter has_sent records)
all-some [] = tt
all-some (told ∷ records) = some-by told (filter has_sent records) (has_sent told) refl (all-some records)

-- a transmission of a front looked in it
begun-of : (set : TxSet) (front : List TxTurn) (k : ℕ) (cut : Cut Seen) (told : DestRecord) → HasSent set front → IsShape set.shape → IsFrontFor set front k cut told → HasBegun set (calls_by front) told.seq
begun-of set front k cut told happened sound (ToldThere there sends) =
    all-at (λ (d : DestRecord). 0 < d.sent → HasBegun set (calls_by front) d.seq) (filter has_sent (records_by front)) k told (all-sent (λ (d : DestRecord). 0 < d.sent → HasBegun set (calls_by front) d.seq) (records_by front) (begun-told set front sound happened)) there
    (all-at (λ (d : DestRecord). 0 < d.sent) (filter has_sent (records_by front)) k told (all-some (records_by front)) there)
begun-of set front k cut told happened sound (GoesOnThere s live same some sends) =
    let P : ℕ → Type 0 = λ n. HasBegun set (calls_by front) n in
    subst P (sym same) (begun-live set front s sound happened live some)

-- the run's end lets no frame leave
end-left : (shape : Shape) (last : ℕ) (end front : List TxTurn) → AllByRecursion (IsStepIn last RunEnd) end → left_by shape (end ++ front) ≡ left_by shape front
end-left shape last [] front ends = refl
end-left shape last (turn ∷ end) front ends =
    ap (λ (e : TxEvent). left_by shape (end ++ front) ++ written_at shape e turn.did.tick (box_after (end ++ front))) ends.0.0 ∙ append-nil (left_by shape (end ++ front)) ∙ end-left shape last end front ends.1

-- parts of the sender's run in which the transmission's session looked, and saw enough: those up to its first frame's tick
record LookedIn (o : Whole) (told : DestRecord) (tick : ℕ) : Type 0 where
  parts : List (Part TxTurn)
  later : List (Part TxTurn)
  are : o.pair.tx.parts ≡ later ++ parts
  begun : HasBegun o.pair.tx.set (calls_by (turns_of parts)) told.seq
  within : (bound : ℕ) → tick < bound → IsFront (turns_of parts) (turns_of (before bound o.pair.tx.parts))

before-all : (bound : ℕ) (parts : List (Part TxTurn)) → tick_after parts ≤ bound → before bound parts ≡ parts
before-all bound [] le = refl
before-all bound (part ∷ earlier) le =
    let keeps : nat_lt part.tick bound ≡ true = grind (arith, nat_tests, le) in
    ap (λ b. cond b (part ∷ earlier) (before bound earlier)) keeps

looked-by : (o : Whole) (k : ℕ) (cut : Cut Seen) (told : DestRecord) → cut.start.at < o.pair.tx.last → slice_get (attempts_in false (transfer_of o.pair.tx.set (sent o)).frames) k ≡ Some cut → slice_get (filter has_sent (records_by (sent o))) k ≡ Some told → SendsFor (transfer_of o.pair.tx.set (sent o)) cut told →
    LookedIn o told cut.start.at
looked-by o k cut told soon cut_is told_is sends =
    let set : TxSet = o.pair.tx.set in
    let tick : ℕ = cut.start.at in
    let front : List TxTurn = turns_of (before (tick + 1) o.pair.tx.parts) in
    let f : Front o.pair.tx tick front = front-at o tick soon in
    let H : List TxTurn → Type 0 = λ l. HasSent set l in
    let K : List TxTurn → Type 0 = λ l. slice_get (attempts_in false (transfer_of set l).frames) k ≡ Some cut in
    let T : List TxTurn → Type 0 = λ l. slice_get (filter has_sent (records_by l)) k ≡ Some told in
    let S : List TxTurn → Type 0 = λ l. SendsFor (transfer_of set l) cut told in
    let split = front-of (tick + 1) o.pair.tx.parts in
    record {
      parts = before (tick + 1) o.pair.tx.parts;
      later = split.0;
      are = split.1;
      begun = elim (front-cut set f.later front tick k cut f.late (subst K (sym f.is) cut_is)) [
        | After long after ↦ absurd (omega (arith, after.0))
        | Within first is start more ↦
            let happened : HasSent set (f.later ++ front) = subst H (sym f.is) o.far.sent in
            let next = joined-in set f.later front tick k first cut told o.far.shape happened f.late f.early (subst T (sym f.is) told_is) (subst S (sym f.is) sends) is start in
            begun-of set front k first told (happened-front _ f.later front happened) o.far.shape (front-for set f.later front k first told o.far.shape happened is (subst T (sym f.is) told_is) next)
      ];
      within = λ bound lt. front-below (tick + 1) bound o.pair.tx.parts (omega (arith, lt));
    }

looked-last : (o : Whole) (k : ℕ) (cut : Cut Seen) (told : DestRecord) → o.pair.tx.last ≤ cut.start.at → slice_get (attempts_in false (transfer_of o.pair.tx.set (sent o)).frames) k ≡ Some cut → slice_get (filter has_sent (records_by (sent o))) k ≡ Some told → LookedIn o told cut.start.at
looked-last o k cut told late cut_is told_is =
    let set : TxSet = o.pair.tx.set in
    let run : TxRun = o.pair.tx in
    let front : List TxTurn = turns_of run.parts in
    let past : HasSent set front = happened-front _ run.end front o.far.sent in
    let F : List Written → Type 0 = λ l. slice_get (attempts_in false (map (seen_of (address_size set.shape)) l)) k ≡ Some cut in
    let so : SoFar set.shape (world_of set front) = so-far set front o.far.shape past in
    let most : length (records_by front) ≤ (state_after tx_new front).next = told-before set.shape (world_of set front) (state_after tx_new front).live so.going so.lives in
    let below : AllByRecursion (λ (d : DestRecord). 0 < d.sent → d.seq < (state_after tx_new front).next) (records_by (sent o)) =
    end-told set run.last run.end front o.far.shape o.far.sent o.pair.tx_run.ends
    (all-weaker (λ (d : DestRecord). d.seq < 0 + length (records_by front)) (λ (d : DestRecord). 0 < d.sent → d.seq < (state_after tx_new front).next) (records_by front) (λ d lt some. omega (arith, lt, most)) (seqs-below 0 (records_by front) so.numbered)) in
    let next : told.seq < (state_after tx_new front).next =
    all-at (λ (d : DestRecord). 0 < d.sent → d.seq < (state_after tx_new front).next) (filter has_sent (records_by (sent o))) k told (all-sent (λ (d : DestRecord). 0 < d.sent → d.seq < (state_after tx_new front).next) (records_by (sent o)) below) told_is
    (all-at (λ (d : DestRecord). 0 < d.sent) (filter has_sent (records_by (sent o))) k told (all-some (records_by (sent o))) told_is) in
    record {
      parts = run.parts;
      later = [];
      are = refl;
      begun = begun-of set front k cut told past o.far.shape (front-for set run.end front k cut told o.far.shape o.far.sent (subst F (end-left set.shape run.last run.end front o.pair.tx_run.ends) cut_is) told_is next);
      within = λ bound lt. record { later = []; is = ap turns_of (before-all bound run.parts (omega (arith, o.pair.tx_run.in_time, late, lt))) };
    }

looked-in : (o : Whole) (k : ℕ) (cut : Cut Seen) (told : DestRecord) → slice_get (attempts_in false (transfer_of o.pair.tx.set (sent o)).frames) k ≡ Some cut → slice_get (filter has_sent (records_by (sent o))) k ≡ Some told → SendsFor (transfer_of o.pair.tx.set (sent o)) cut told → LookedIn o told cut.start.at
looked-in o k cut told cut_is told_is sends = elim (cases_lt cut.start.at o.pair.tx.last) [
  | inl soon ↦ looked-by o k cut told soon cut_is told_is sends
  | inr late ↦ looked-last o k cut told late cut_is told_is
]

-- what the look showed was put below a window from the first frame's tick on
record HasShown (o : Whole) (told : DestRecord) (unit : Cut Seen) (session : SessionRecord) (tick : ℕ) (len : ℕ) : Type 0 where
  cells : ℕ
  bytes : ℕ
  enough : (bytes ≡ len) ⊎ ((o.pair.tx.set.store ≡ false) × (o.pair.tx.set.threshold ≤ cells))
  cells_most : cells ≤ cells_below (tick + o.pair.most) (first_pieces session.bytes (walk_of o.pair.rx.set.a unit).pieces)
  bytes_most : bytes ≤ bytes_below (tick + o.pair.most) (walk_of o.pair.rx.set.a unit).pieces
  bytes_told : bytes ≤ session.bytes

has-shown : (o : Whole) (told : DestRecord) (unit : Cut Seen) (session : SessionRecord) (tick : ℕ) → AreIdle o → IsNamed (delivery_of_route (route_told 0 0 o)) told.seq unit session → (l : LookedIn o told tick) → HasShown o told unit session tick l.begun.len
has-shown o told unit session tick idle named l =
    let rx : RxRun = o.pair.rx in
    let tx : TxRun = o.pair.tx in
    let b : Barrier o.pair tick = barrier o.pair tick in
    let bound : ℕ = b.past + 1 in
    let turns : List RxTurn = turns_of (before bound rx.parts) in
    let moments : List TxTurn = turns_of (before bound tx.parts) in
    let fits = l.within bound (omega (arith, b.above)) in
    let split = front-of bound tx.parts in
    let C : List Event → Type 0 = λ c. HasBegun tx.set c told.seq in
    let calls : calls_by moments ≡ calls_by (turns_of l.parts) ++ calls_by fits.later = ap calls_by fits.is ∙ calls-append fits.later (turns_of l.parts) in
    let look = l.begun.looked.look in
    let among : IsAmong (look_of tx.set told.seq look) (calls_by moments) = record {
      before = l.begun.looked.among.before;
      after = l.begun.looked.among.after ++ calls_by fits.later;
      are = calls ∙ ap (λ c. c ++ calls_by fits.later) l.begun.looked.among.are ∙ append_assoc l.begun.looked.among.before _ (calls_by fits.later);
    } in
    let shown : IsShown ((own_view (calls_by moments)).readings tx.set.path.0 tx.set.dest.0) told.seq look.cells look.bytes = shown-parts o.pair split.0 (before bound tx.parts) told.seq look.cells look.bytes look.writer split.1 (sent-below o.pair bound) among in
    let known = b.far.met.streams.joined tx.set.path.0 tx.set.dest.0 told.seq shown.reading (ap (λ l. slice_get l told.seq) b.far.readings ∙ shown.there) in
    let s : Session = known.0 in
    let path : tx.set.path.0 ≡ rx.set.path.0 = ap (λ p. p.0) o.pair.path in
    let there : slice_get ((grows (calls_by turns) empty_view).sessions rx.set.path.0) told.seq ≡ Some s = sym (ap (λ l. slice_get l told.seq) b.far.sessions) ∙ ap (λ (p : ℕ). slice_get (b.view.sessions p) told.seq) (sym path) ∙ known.1 in
    let put = (openings rx.set turns b.far.received).fill empty_view refl in
    let cells : s.cells ≡ put_in rx.set turns told.seq = sym (cells_at-there (λ (x : Session). x.cells) told.seq ((grows (calls_by turns) empty_view).sessions rx.set.path.0) s there) ∙ put.cells told.seq in
    let written = b.far.met.streams.written tx.set.path.0 told.seq s known.1 in
    let rx_split = front-of bound rx.parts in
    let rx_later : List RxTurn = rx.end ++ turns_of rx_split.0 in
    let whole : rx_later ++ turns ≡ received o = split-turns rx.end rx_split.0 (before bound rx.parts) rx.parts (sym rx_split.1) in
    let R : List RxTurn → Type 0 = λ l. HasReceived rx.set l in
    let I : List RxTurn → Type 0 = λ l. (state_after rx_new l).busy ≡ None in
    let U : List RxTurn → Type 0 = λ l. slice_get (attempts_in rx.set.functional (frames_came frames_in l)) named.place ≡ Some unit in
    let V : List RxTurn → Type 0 = λ l. slice_get (records_by l) named.place ≡ Some session in
    let N : List RxTurn → Type 0 = λ l. CountsFrom 0 (sessions_in (records_by l)) in
    let rx_cut : PartsCut bound rx.parts = cut-parts bound rx.parts (rx-rising rx.full rx.parts o.pair.rx_run.parts_are) in
    let T : List (Part RxTurn) → Type 0 = λ l. AreTimed l in
    let timed = timed-front rx_cut.later (before bound rx.parts) (subst T (sym rx_cut.is) (rx-timed rx.full rx.parts o.pair.rx_run.parts_are)) in
    let early : AllByRecursion (TurnIn (λ (t : ℕ). t < bound)) turns = turns-in (λ (t : ℕ). t < bound) (before bound rx.parts) timed.1 rx_cut.early in
    let source = source_law_of rx.set (received o) o.far.received idle.rx in
    let come : HasCome rx.set turns (tick + o.pair.most) named.opened.seq session.bytes unit =
    has-come rx.set rx_later turns bound (tick + o.pair.most) named.place unit session named.opened (subst R (sym whole) o.far.received) (subst I (sym whole) idle.rx) (subst N (sym whole) source.sessions) early (omega (arith, b.near)) (subst U (sym whole) named.unit_is) (subst V (sym whole) named.session_is) named.opened_is (received-below o.pair bound) in
    let stored = stored_law_of rx.set (received o) o.far.received idle.rx in
    let puts : Puts rx.set.a (λ seq. bytes_of (put_in rx.set (received o) seq)) unit session = zip-pair (Puts rx.set.a (λ seq. bytes_of (put_in rx.set (received o) seq))) (attempts_in rx.set.functional (frames_came frames_in (received o))) (records_by (received o)) named.place unit session stored.puts named.unit_is named.session_is in
    let seq : named.opened.seq ≡ told.seq = named.seq_is in
    let all : length (store rx.set.path.0 (calls_by (received o)) told.seq) ≡ length (store rx.set.path.0 (calls_by turns) told.seq) + length (store rx.set.path.0 (calls_by rx_later) told.seq) =
    ap (λ l. length (store rx.set.path.0 (calls_by l) told.seq)) (sym whole) ∙ ap (λ c. length (store rx.set.path.0 c told.seq)) (calls-append rx_later turns) ∙ ap length (store-more rx.set.path.0 told.seq (calls_by turns) (calls_by rx_later)) ∙ length-append (store rx.set.path.0 (calls_by turns) told.seq) (store rx.set.path.0 (calls_by rx_later) told.seq) in
    let count : shown.reading.bytes ≤ length (store rx.set.path.0 (calls_by turns) told.seq) =
    omega (arith, known.2.bytes, sum_by-take-le count_of s.cells shown.reading.seen, ap counted cells, front-counted rx.set turns told.seq b.far.received) in
    record {
      cells = look.cells;
      bytes = look.bytes;
      enough = l.begun.looked.enough;
      cells_most = omega (arith, shown.cells_most, known.2.seen, written.shown, ap length cells, ap (λ n. length (put_in rx.set turns n)) seq, come.cells);
      bytes_most = omega (arith, shown.bytes_most, count, ap (λ n. length (store rx.set.path.0 (calls_by turns) n)) seq, come.bytes);
      bytes_told = omega (arith, shown.bytes_most, count, all, ap (λ n. length (bytes_of (put_in rx.set (received o) n))) seq, ap length (puts named.opened named.opened_is), length-take session.bytes (reassembled rx.set.a unit));
    }

-- the length that the sender knows is the session's
len-is : (o : Whole) (source_budget budget : ℕ) (cut : Cut Seen) (told : DestRecord) (unit : Cut Seen) (session : SessionRecord) (l : LookedIn o told cut.start.at) → SourceLaw o.pair.rx.set.chan.0 o.pair.rx.set.a o.pair.rx.set.functional (route_told source_budget budget o).source.seen (route_told source_budget budget o).source.sessions →
    DeliveryLaw (delivery_of_route (route_told source_budget budget o)) → Delivers (delivery_of_route (route_told source_budget budget o)) cut told → SendsFor (transfer_of o.pair.tx.set (sent o)) cut told → IsNamed (delivery_of_route (route_told source_budget budget o)) told.seq unit session → l.begun.len ≡ session.len
len-is o source_budget budget cut told unit session l source law delivers sends named =
    let r : Route = route_told source_budget budget o in
    let tx : TxRun = o.pair.tx in
    let same = named-once r told.seq delivers.names.unit unit delivers.names.session session law delivers.names.named named in
    let whole : sent o ≡ (tx.end ++ turns_of l.later) ++ turns_of l.parts = sym (split-turns tx.end l.later l.parts tx.parts (sym l.are)) in
    let lens : lens_in (calls_by (sent o)) ≡ lens_in (calls_by (turns_of l.parts)) ++ lens_in (calls_by (tx.end ++ turns_of l.later)) =
    ap (λ m. lens_in (calls_by m)) whole ∙ ap lens_in (calls-append (tx.end ++ turns_of l.later) (turns_of l.parts)) ∙ flat_map-append len_joined (calls_by (turns_of l.parts)) (calls_by (tx.end ++ turns_of l.later)) in
    let found : slice_get (lens_in (calls_by (sent o))) told.seq ≡ Some l.begun.len = ap (λ m. slice_get m told.seq) lens ∙ slice_get-more (lens_in (calls_by (turns_of l.parts))) (lens_in (calls_by (tx.end ++ turns_of l.later))) told.seq l.begun.len l.begun.joined in
    let both : Some l.begun.len ≡ Some (len_of cut.start.meaning) = sym found ∙ sends.len in
    let one : l.begun.len ≡ len_of cut.start.meaning = cc in
    one ∙ delivers.len ∙ ap (λ (c : Cut Seen). len_of c.start.meaning) same.0 ∙ sym (len-named r told.seq unit session source named)

-- each transmission
pub all-start : (o : Whole) (source_budget budget : ℕ) → AreIdle o → SourceLaw o.pair.rx.set.chan.0 o.pair.rx.set.a o.pair.rx.set.functional (route_told source_budget budget o).source.seen (route_told source_budget budget o).source.sessions → DeliveryLaw (delivery_of_route (route_told source_budget budget o)) →
    AllZip (StartsInTime (route_told source_budget budget o)) (attempts_in false (transfer_of o.pair.tx.set (sent o)).frames) (filter has_sent (records_by (sent o)))
all-start o source_budget budget idle source law =
    let r : Route = route_told source_budget budget o in
    zip-index (SendsFor (transfer_of o.pair.tx.set (sent o))) (StartsInTime r) (attempts_in false (transfer_of o.pair.tx.set (sent o)).frames) (filter has_sent (records_by (sent o))) (λ k cut told cut_is told_is sends unit session named.
    let l : LookedIn o told cut.start.at = looked-in o k cut told cut_is told_is sends in
    let shown : HasShown o told unit session cut.start.at l.begun.len = has-shown o told unit session cut.start.at idle named l in
    let delivers : Delivers (delivery_of_route r) cut told = zip-pair (Delivers (delivery_of_route r)) (attempts_in false (transfer_of o.pair.tx.set (sent o)).frames) (filter has_sent (records_by (sent o))) k cut told law.delivers cut_is told_is in
    let len : l.begun.len ≡ session.len = len-is o source_budget budget cut told unit session l source law delivers sends named in
    elim shown.enough [
      | inl all ↦ inl (omega (arith, all, len, shown.bytes_most, shown.bytes_told))
      | inr some ↦ inr (some.0, omega (arith, some.1, shown.cells_most))
    ]) (sends-all o idle)
