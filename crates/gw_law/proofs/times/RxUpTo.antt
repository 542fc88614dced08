-- What was put into a source's session up to a tick: no more than what had come of its unit by then.
use Rattle.std.proofs.Common.{◌≡◌, ℕ, ◌+◌, ◌<◌, ◌≤◌, zero, suc, inl, inr, Option, Some, None, option_map, List, [], ◌∷◌, ◌++◌, length, refl, ap, sym, ◌∙◌, subst, arith, append-nil, append_assoc}
use Rattle.tp_receiver.specs.State.{Reception, RxTurn, rx_new}
use Rattle.tp_receiver.specs.Runs.{HasReceived, frames_in}
use Rattle.hub_core.specs.Turns.{calls_by, now_of, came_by, state_after, records_by}
use Rattle.std.specs.Prelude.{option_to_list, slice_get}
use Rattle.std.specs.List.{AllByRecursion}
use Rattle.std.proofs.lemmas.Bool.{cases_lt, cases_order}
use Rattle.std.proofs.lemmas.List.{length-append, length-take-le}
use Rattle.std.proofs.lemmas.Grind.{flat_map-append}
use Rattle.std.proofs.lemmas.Option.{slice_get_within}
use Rattle.hub_core.specs.declared.record.OpenedAt.{OpenedAt}
use Rattle.hub_core.specs.declared.record.SessionRecord.{SessionRecord}
use Rattle.hub_core.specs.View.{Event}
use Rattle.tp_attempts.specs.Attempts.{attempts_in}
use Rattle.tp_attempts.specs.Cuts.{Cut}
use Rattle.tp_attempts.specs.Seen.{Seen, is_start}
use Rattle.tp_attempts.specs.Walk.{joined, reassembled, walk_of}
use Rattle.tp_receiver.specs.declared.set.RxSet.{RxSet}
use Rattle.receiver_law.specs.Source.{CountsFrom, Tells, opened_by, sessions_in}
use Rattle.gw_law.specs.Timely.{bytes_to}
use Rattle.receiver_law.proofs.sessions.Begins.{Split, begin-at, begin_going, begins-are, begins-more, begins_by, begins_told, seq-at, splits, told-long}
use Rattle.gw_law.proofs.runs.Fronts.{More, TurnIn, received-more, seen-more}
use Rattle.gw_law.proofs.times.Pieces.{After, CutFront, CutIn, Within, bytes-front, bytes-whole, cut-front, cuts-in, pieces-in}
use Rattle.receiver_law.proofs.records.SoFars.{AreTold, IsBusy}
use Rattle.receiver_law.proofs.records.SourceLaws.{HoldsBy, holds, source_law_of}
use Rattle.receiver_law.proofs.sessions.Stores.{store}
use Rattle.receiver_law.proofs.records.Tellings.{TellsPut}
use Rattle.gw_base.proofs.Lists.{all-at, get-append, slice_get-more, zip-at, zip-back, zip-long}
use Rattle.hub_core.proofs.Growing.{slice_get-pushed}
use Rattle.hub_core.proofs.Turns.{happened-front}

-- the sessions of a front of the records have the first numbers
seq-earlier : (records : List SessionRecord) (place : ℕ) (s : SessionRecord) (o : OpenedAt) → CountsFrom 0 (sessions_in records) → slice_get records place ≡ Some s → s.opened ≡ Some o → o.seq < length (sessions_in records)
seq-earlier records place s o counts is opened =
    let sp : Split records place s = splits records place s is in
    let all : sessions_in records ≡ sessions_in sp.before ++ o.seq ∷ sessions_in sp.after =
    ap sessions_in sp.is ∙ flat_map-append opened_by sp.before (s ∷ sp.after) ∙ ap (λ (w : Option OpenedAt). sessions_in sp.before ++ (option_to_list (option_map (λ (x : OpenedAt). x.seq) w) ++ sessions_in sp.after)) opened in
    omega (arith, seq-at records sp.before sp.after s o sp.is counts opened, ap length all, length-append (sessions_in sp.before) (o.seq ∷ sessions_in sp.after))

pub seq-later : (records front more : List SessionRecord) (j : ℕ) (s : SessionRecord) (o : OpenedAt) → records ≡ front ++ more → CountsFrom 0 (sessions_in records) → slice_get more j ≡ Some s → s.opened ≡ Some o → length (sessions_in front) ≤ o.seq
seq-later records front more j s o are counts is opened =
    let sp : Split more j s = splits more j s is in
    let all : records ≡ (front ++ sp.before) ++ s ∷ sp.after = are ∙ ap (λ l. front ++ l) sp.is ∙ sym (append_assoc front sp.before (s ∷ sp.after)) in
    omega (arith, seq-at records (front ++ sp.before) sp.after s o all counts opened, ap length (flat_map-append opened_by front sp.before), length-append (sessions_in front) (sessions_in sp.before))

-- an attempt of the front has all its bytes by the tick
within : (address tick place : ℕ) (fronts : List (Cut Seen)) (front unit : Cut Seen) → AllByRecursion (CutIn (λ (s : Seen). s.at ≤ tick)) fronts → slice_get fronts place ≡ Some front → CutFront (λ (s : Seen). tick < s.at) fronts place unit →
    bytes_to tick (walk_of address unit).pieces ≡ length (reassembled address front)
within address tick place fronts front unit early is (After long late) = absurd (omega (arith, long, slice_get_within fronts place front is))
within address tick place fronts front unit early is (Within before at start more) =
    let same : front ≡ before = cc in
    rw same (bytes-front tick address before unit start more
    ∙ ap (λ l. length (joined l)) (bytes-whole tick (walk_of address before).pieces (pieces-in (λ (t : ℕ). t ≤ tick) address before (all-at (CutIn (λ (s : Seen). s.at ≤ tick)) fronts place before early at))))

-- what is known of a record's session and unit, and of the turns up to the tick
record Known (rx : RxSet) (tick place : ℕ) (front : List RxTurn) (records more : List SessionRecord) (unit : Cut Seen) (session : SessionRecord) (opened : OpenedAt) : Type 0 where
  split : records ≡ records_by front ++ more
  counts : CountsFrom 0 (sessions_in records)
  session_is : slice_get records place ≡ Some session
  opened_is : session.opened ≡ Some opened
  begin : session.begin.0 ≡ unit.start.at
  begin_at : slice_get (begins_told records) opened.seq ≡ Some session.begin.0
  begins : (later : List ℕ) × (begins_told records ≡ begins_by front ++ later)
  early : AllByRecursion (CutIn (λ (s : Seen). s.at ≤ tick)) (attempts_in rx.functional (came_by frames_in front))
  cut : CutFront (λ (s : Seen). tick < s.at) (attempts_in rx.functional (came_by frames_in front)) place unit

-- the session of an earlier record
told-put : (rx : RxSet) (tick place now : ℕ) (front : List RxTurn) (records more : List SessionRecord) (unit : Cut Seen) (session : SessionRecord) (opened : OpenedAt) (ended going : List (Cut Seen)) → Known rx tick place front records more unit session opened →
    attempts_in rx.functional (came_by frames_in front) ≡ ended ++ going → AreTold rx (calls_by front) now ended (records_by front) → opened.seq < length (sessions_in (records_by front)) → length (store rx.path.0 (calls_by front) opened.seq) ≤ bytes_to tick (walk_of rx.a unit).pieces
told-put rx tick place now front records more unit session opened ended going known cuts told below = elim (get-append (records_by front) more place session (ap (λ l. slice_get l place) (sym known.split) ∙ known.session_is)) [
  | inl here ↦
      let zipped = zip-back (TellsPut rx.chan.0 rx.a (store rx.path.0 (calls_by front))) ended (records_by front) place session told.tells here in
      let is : slice_get (attempts_in rx.functional (came_by frames_in front)) place ≡ Some zipped.0 = ap (λ l. slice_get l place) cuts ∙ slice_get-more ended going place zipped.0 zipped.1 in
      omega (arith, ap length (zipped.2.1 opened known.opened_is), length-take-le session.bytes (reassembled rx.a zipped.0) zipped.2.0.within, zipped.2.0.within, within rx.a tick place (attempts_in rx.functional (came_by frames_in front)) zipped.0 unit known.early is known.cut)
  | inr later ↦ absurd (omega (arith, below, seq-later records (records_by front) more later.0 session opened known.split known.counts later.2 known.opened_is))
]

-- the session that is going on is of the last attempt
last-place : (tick place : ℕ) (ended : List (Cut Seen)) (attempt unit : Cut Seen) (count j : ℕ) → length ended ≡ count → place ≡ count + j → unit.start.at ≤ tick → CutFront (λ (s : Seen). tick < s.at) (ended ++ attempt ∷ []) place unit → slice_get (ended ++ attempt ∷ []) place ≡ Some attempt
last-place tick place ended attempt unit count j long at by (After le late) = absurd (omega (arith, by, late.0))
last-place tick place ended attempt unit count zero long at by (Within before is start more) = slice_get-pushed ended attempt place (omega (arith, long, at))
last-place tick place ended attempt unit count (suc j) long at by (Within before is start more) =
    absurd (omega (arith, at, long, slice_get_within (ended ++ attempt ∷ []) place before is, length-append ended (attempt ∷ [])))

going-put : (rx : RxSet) (tick place next seq : ℕ) (busy : Reception) (front : List RxTurn) (records more : List SessionRecord) (unit : Cut Seen) (session : SessionRecord) (opened : OpenedAt) → Known rx tick place front records more unit session opened →
    begins_by front ≡ begins_told (records_by front) ++ busy.begin ∷ [] → (so : IsBusy rx next seq busy (calls_by front) (now_of front) (came_by frames_in front) (records_by front)) → opened.seq ≡ length (sessions_in (records_by front)) →
    length (store rx.path.0 (calls_by front) opened.seq) ≤ bytes_to tick (walk_of rx.a unit).pieces
going-put rx tick place next seq busy front records more unit session opened known begun so number = elim (get-append (records_by front) more place session (ap (λ l. slice_get l place) (sym known.split) ∙ known.session_is)) [
  | inl here ↦ absurd (omega (arith, number, seq-earlier (records_by front) place session opened so.told.sessions here known.opened_is))
  | inr later ↦
      let begins : slice_get (begins_told records) opened.seq ≡ Some busy.begin =
      ap (λ l. slice_get l opened.seq) (known.begins.1 ∙ ap (λ l. l ++ known.begins.0) begun)
      ∙ slice_get-more (begins_told (records_by front) ++ busy.begin ∷ []) known.begins.0 opened.seq busy.begin (slice_get-pushed (begins_told (records_by front)) busy.begin opened.seq (omega (arith, told-long (records_by front), number))) in
      let both : Some session.begin.0 ≡ Some busy.begin = sym known.begin_at ∙ begins in
      let same : session.begin.0 ≡ busy.begin = cc in
      let last : slice_get (attempts_in rx.functional (came_by frames_in front)) (length so.earlier) ≡ Some so.attempt = ap (λ l. slice_get l (length so.earlier)) so.cut ∙ slice_get-pushed so.earlier so.attempt (length so.earlier) refl in
      let starts : CutIn (λ (s : Seen). s.at ≤ tick) so.attempt = all-at (CutIn (λ (s : Seen). s.at ≤ tick)) (attempts_in rx.functional (came_by frames_in front)) (length so.earlier) so.attempt known.early last in
      let P : List (Cut Seen) → Type 0 = λ l. CutFront (λ (s : Seen). tick < s.at) l place unit in
      let is : slice_get (so.earlier ++ so.attempt ∷ []) place ≡ Some so.attempt =
      last-place tick place so.earlier so.attempt unit (length (records_by front)) later.0 (zip-long (TellsPut rx.chan.0 rx.a (store rx.path.0 (calls_by front))) so.earlier (records_by front) so.told.tells) later.1
      (omega (arith, same, known.begin, so.underway.begin, starts.0)) (subst P so.cut known.cut) in
      let put : store rx.path.0 (calls_by front) opened.seq ≡ reassembled rx.a so.attempt = ap (store rx.path.0 (calls_by front)) (omega (arith, number, so.at_is)) ∙ so.underway.puts in
      omega (arith, ap length put, within rx.a tick place (attempts_in rx.functional (came_by frames_in front)) so.attempt unit known.early (ap (λ l. slice_get l place) so.cut ∙ is) known.cut)
]

none-put : (rx : RxSet) (calls : List Event) (number bytes : ℕ) → store rx.path.0 calls number ≡ [] → length (store rx.path.0 calls number) ≤ bytes
none-put rx calls number bytes none = omega (arith, ap length none)

put-by : (rx : RxSet) (tick place next seq : ℕ) (busy : Option Reception) (front : List RxTurn) (records more : List SessionRecord) (unit : Cut Seen) (session : SessionRecord) (opened : OpenedAt) → Known rx tick place front records more unit session opened →
    begins_by front ≡ begins_told (records_by front) ++ begin_going busy → HoldsBy rx next seq busy (calls_by front) (now_of front) (came_by frames_in front) (records_by front) → length (store rx.path.0 (calls_by front) opened.seq) ≤ bytes_to tick (walk_of rx.a unit).pieces
put-by rx tick place next seq None front records more unit session opened known begun so = elim (cases_lt opened.seq (length (sessions_in (records_by front)))) [
  | inl below ↦ told-put rx tick place (now_of front) front records more unit session opened (attempts_in rx.functional (came_by frames_in front)) [] known (sym (append-nil (attempts_in rx.functional (came_by frames_in front)))) so.told below
  | inr above ↦ none-put rx (calls_by front) opened.seq (bytes_to tick (walk_of rx.a unit).pieces) (so.fresh opened.seq (omega (arith, above, so.seq_is)))
]
put-by rx tick place next seq (Some busy) front records more unit session opened known begun so = elim (cases_order opened.seq (length (sessions_in (records_by front)))) [
  | inl same ↦ going-put rx tick place next seq busy front records more unit session opened known begun so.0 same
  | inr (inl below) ↦ told-put rx tick place (now_of front) front records more unit session opened so.0.earlier (so.0.attempt ∷ []) known so.0.cut so.0.told below
  | inr (inr above) ↦ none-put rx (calls_by front) opened.seq (bytes_to tick (walk_of rx.a unit).pieces) (so.0.fresh opened.seq (omega (arith, above, so.0.seq_is)))
]

pub seen-all : (P : ℕ → Type 0) (turns : List RxTurn) → AllByRecursion (TurnIn P) turns → AllByRecursion (λ (s : Seen). P s.at) (came_by frames_in turns)
seen-all P turns all =
    let so : More (λ (s : Seen). P s.at) [] (came_by frames_in (turns ++ [])) = seen-more P turns [] all in
    let Q : List Seen → Type 0 = λ l. AllByRecursion (λ (s : Seen). P s.at) l in
    subst Q (sym so.is ∙ ap (came_by frames_in) (append-nil turns)) so.all

-- the bytes that the turns up to a tick put into a session are no more than those that its unit has up to then
pub put-up-to : (rx : RxSet) (later front : List RxTurn) (tick place : ℕ) (unit : Cut Seen) (session : SessionRecord) (opened : OpenedAt) → HasReceived rx (later ++ front) → (state_after rx_new (later ++ front)).busy ≡ None →
    AllByRecursion (TurnIn (λ (t : ℕ). tick < t)) later → AllByRecursion (TurnIn (λ (t : ℕ). t ≤ tick)) front → slice_get (attempts_in rx.functional (came_by frames_in (later ++ front))) place ≡ Some unit → slice_get (records_by (later ++ front)) place ≡ Some session → session.opened ≡ Some opened →
    length (store rx.path.0 (calls_by front) opened.seq) ≤ bytes_to tick (walk_of rx.a unit).pieces
put-up-to rx later front tick place unit session opened happened idle late early unit_is session_is opened_is =
    let law = source_law_of rx (later ++ front) happened idle in
    let past : HasReceived rx front = happened-front _ later front happened in
    let told = received-more later front in
    let frames : More (λ (s : Seen). tick < s.at) (came_by frames_in front) (came_by frames_in (later ++ front)) = seen-more (λ (t : ℕ). tick < t) later front late in
    let more = begins-more later front in
    let sp : Split (records_by (later ++ front)) place session = splits (records_by (later ++ front)) place session session_is in
    let all : begins_told (records_by (later ++ front)) ≡ begins_by (later ++ front) =
    sym (begins-are rx (later ++ front) happened ∙ ap (λ b. begins_told (records_by (later ++ front)) ++ begin_going b) idle ∙ append-nil (begins_told (records_by (later ++ front)))) in
    let zipped = zip-at (Tells rx.chan.0 rx.a) (attempts_in rx.functional (came_by frames_in (later ++ front))) (records_by (later ++ front)) place unit law.tells unit_is in
    let same : session ≡ zipped.0 = cc in
    let known : Known rx tick place front (records_by (later ++ front)) told.more unit session opened = record {
      split = told.is;
      counts = law.sessions;
      session_is = session_is;
      opened_is = opened_is;
      begin = rw same zipped.2.begin;
      begin_at = begin-at (records_by (later ++ front)) sp.before sp.after session opened sp.is law.sessions opened_is;
      begins = (more.0, all ∙ more.1);
      early = cuts-in (λ (s : Seen). s.at ≤ tick) (λ (s : Seen). is_start rx.functional s.meaning) (came_by frames_in front) (seen-all (λ (t : ℕ). t ≤ tick) front early);
      cut = cut-front (λ (s : Seen). tick < s.at) (λ (s : Seen). is_start rx.functional s.meaning) (came_by frames_in front) frames.more place unit frames.all (ap (λ l. slice_get (attempts_in rx.functional l) place) (sym frames.is) ∙ unit_is);
    } in
    put-by rx tick place (state_after rx_new front).next (state_after rx_new front).seq (state_after rx_new front).busy front (records_by (later ++ front)) told.more unit session opened known (begins-are rx front past) (holds rx front past)
