-- What was put into the session of a record, after any of the receiver's turns: all bytes that its attempt has by then, or those
-- that the record tells.
use Rattle.std.proofs.Common.{◌≡◌, ℕ, ◌+◌, ◌<◌, ◌≤◌, ◌⊎◌, inl, inr, Option, None, Some, option_map, List, [], ◌∷◌, ◌++◌, length, refl, ap, sym, ◌∙◌, arith, append-nil, append_assoc}
use Rattle.std.specs.Prelude.{option_to_list, slice_get}
use Rattle.std.proofs.lemmas.Bool.{cases_lt, cases_order}
use Rattle.std.proofs.lemmas.Grind.{flat_map-append}
use Rattle.std.proofs.lemmas.List.{length-append, length-take-le}
use Rattle.std.proofs.lemmas.Option.{slice_get_past, slice_get_within}
use Rattle.gw_base.proofs.Lists.{get-append, same-some, slice_get-more, zip-back, zip-long}
use Rattle.hub_core.proofs.Growing.{slice_get-pushed}
use Rattle.hub_core.proofs.Turns.{happened-front}
use Rattle.hub_core.specs.Turns.{calls_by, came_by, now_of, records_by, state_after}
use Rattle.hub_core.specs.View.{Event}
use Rattle.hub_core.specs.declared.record.OpenedAt.{OpenedAt}
use Rattle.hub_core.specs.declared.record.SessionRecord.{SessionRecord}
use Rattle.receiver_law.proofs.records.SoFars.{AreTold, IsBusy}
use Rattle.receiver_law.proofs.records.SourceLaws.{HoldsBy, holds}
use Rattle.receiver_law.proofs.records.Tellings.{TellsPut}
use Rattle.receiver_law.proofs.sessions.Stores.{store}
use Rattle.receiver_law.specs.Source.{CountsFrom, opened_by, sessions_in}
use Rattle.tp_attempts.specs.Attempts.{attempts_in}
use Rattle.tp_attempts.specs.Cuts.{Cut}
use Rattle.tp_attempts.specs.Seen.{Seen}
use Rattle.tp_attempts.specs.Walk.{Piece, joined, reassembled, walk_of}
use Rattle.tp_receiver.proofs.Through.{state-through}
use Rattle.tp_receiver.specs.Effects.{Ends, Forgets, Looks, Opens, Puts, Refuses, RxDone, RxEffect, RxStage, Waits}
use Rattle.tp_receiver.specs.Runs.{HasReceived, frames_in}
use Rattle.tp_receiver.specs.State.{Reception, RxEvent, RxState, RxTurn, rx_new}
use Rattle.tp_receiver.specs.declared.set.RxSet.{RxSet}
use Rattle.gw_law.proofs.times.RxUpTo.{seq-later}

-- the pieces of an attempt, where there is one
abbrev pub pieces_of : (address : ℕ) → Option (Cut Seen) → List Piece
pieces_of address None = []
pieces_of address (Some attempt) = (walk_of address attempt).pieces

-- of a record's session so many bytes are put: as many as the record tells, where it is told, else all that its attempt has
pub record IsPutSo (told place bytes put came : ℕ) : Type 0 where
  pub within : put ≤ came
  pub either : ((place < told) × (put ≡ bytes)) ⊎ ((told ≤ place) × (put ≡ came))

-- a reception in progress is the next one that is told
abbrev IsNext : OpenedAt → RxState → List SessionRecord → Type 0
IsNext opened state records = ((busy : Reception) × (state.busy ≡ Some busy) × (busy.opened ≡ opened) × (records ≡ [])) ⊎ ((told : SessionRecord) × (rest : List SessionRecord) × (records ≡ told ∷ rest) × (told.opened ≡ Some opened))

same-busy : (was : Option Reception) (one other : Reception) → was ≡ Some one → was ≡ Some other → one ≡ other
same-busy was one other is also = same-some is also

next-effect : (set : RxSet) (event : RxEvent) (tick : ℕ) (opened : OpenedAt) (old : RxStage) (done : RxDone) (calls : List Event) (records : List SessionRecord) → RxEffect set event tick old done → IsNext opened old.state records → IsNext opened done.new.state (records ++ done.records)
next-effect set event tick opened old done calls records effect (inr (told, rest, are, is)) = inr (told, rest ++ done.records, ap (λ l. l ++ done.records) are, is)
next-effect set event tick opened old done calls records (Refuses e) (inl (busy, was, is, none)) = absurd (let no : None ≡ Some busy = sym e.of.idle ∙ was in cc)
next-effect set event tick opened old done calls records (Opens e) (inl (busy, was, is, none)) = absurd (let no : None ≡ Some busy = sym e.of.idle ∙ was in cc)
next-effect set event tick opened old done calls records (Looks e) (inl (busy, was, is, none)) = rw (e.new, e.records, append-nil) (inl (busy, was, is, none))
next-effect set event tick opened old done calls records (Puts e) (inl (busy, was, is, none)) =
    rw (e.new, e.records, append-nil) (inl (_, refl, ap (λ (b : Reception). b.opened) (same-busy old.state.busy e.busy busy e.was was) ∙ is, none))
next-effect set event tick opened old done calls records (Waits e) (inl (busy, was, is, none)) =
    rw (e.new, e.records, append-nil) (inl (_, refl, ap (λ (b : Reception). b.opened) (same-busy old.state.busy e.busy busy e.was was) ∙ is, none))
next-effect set event tick opened old done calls records (Forgets e) (inl (busy, was, is, none)) = absurd (let no : None ≡ Some busy = sym e.idle ∙ was in cc)
next-effect set event tick opened old done calls records (Ends e) (inl (busy, was, is, none)) =
    rw (e.new, e.records, none) (inr (_, [], refl, ap (λ (b : Reception). Some b.opened) (same-busy old.state.busy e.busy busy e.was was) ∙ ap (λ o. Some o) is))

next-then : (set : RxSet) (later front : List RxTurn) (busy : Reception) → HasReceived set (later ++ front) → (state_after rx_new front).busy ≡ Some busy → (more : List SessionRecord) × (records_by (later ++ front) ≡ records_by front ++ more) × IsNext busy.opened (state_after rx_new (later ++ front)) more
next-then set [] front busy happened is = ([], sym (append-nil (records_by front)), inl (busy, is, refl, refl))
next-then set (turn ∷ later) front busy happened is =
    let so = next-then set later front busy happened.2 is in (
      so.0 ++ turn.did.records,
      ap (λ l. l ++ turn.did.records) so.1 ∙ append_assoc (records_by front) so.0 turn.did.records,
      state-through set (state_after rx_new (later ++ front)) turn.event turn.did (λ state calls records. IsNext busy.opened state records)
          (λ stage done calls records effect next. next-effect set turn.event turn.did.tick busy.opened stage done calls records effect next) happened.1 [] so.0 so.2,
    )

-- at the end it is told
next-told : (set : RxSet) (later front : List RxTurn) (busy : Reception) → HasReceived set (later ++ front) → (state_after rx_new (later ++ front)).busy ≡ None → (state_after rx_new front).busy ≡ Some busy →
    (told : SessionRecord) × (rest : List SessionRecord) × (records_by (later ++ front) ≡ records_by front ++ told ∷ rest) × (told.opened ≡ Some busy.opened)
next-told set later front busy happened idle is =
    let so = next-then set later front busy happened is in
    elim so.2 [
      | inl going ↦ absurd (let no : None ≡ Some going.0 = sym idle ∙ going.1 in cc)
      | inr told ↦ (told.0, told.1, so.1 ∙ ap (λ l. records_by front ++ l) told.2, told.3)
    ]

-- a record that is told
told-put : (set : RxSet) (front : List RxTurn) (whole more : List SessionRecord) (place : ℕ) (session : SessionRecord) (opened : OpenedAt) (ended going : List (Cut Seen)) → whole ≡ records_by front ++ more → slice_get whole place ≡ Some session → session.opened ≡ Some opened →
    attempts_in set.functional (came_by frames_in front) ≡ ended ++ going → AreTold set (calls_by front) (now_of front) ended (records_by front) → place < length (records_by front) →
    IsPutSo (length (records_by front)) place session.bytes (length (store set.path.0 (calls_by front) opened.seq)) (length (joined (pieces_of set.a (slice_get (attempts_in set.functional (came_by frames_in front)) place))))
told-put set front whole more place session opened ended going split is opened_is cuts told below = elim (get-append (records_by front) more place session (ap (λ l. slice_get l place) (sym split) ∙ is)) [
  | inl here ↦
      let zipped = zip-back (TellsPut set.chan.0 set.a (store set.path.0 (calls_by front))) ended (records_by front) place session told.tells here in
      let unit : slice_get (attempts_in set.functional (came_by frames_in front)) place ≡ Some zipped.0 = ap (λ l. slice_get l place) cuts ∙ slice_get-more ended going place zipped.0 zipped.1 in
      let put : length (store set.path.0 (calls_by front) opened.seq) ≡ session.bytes = ap length (zipped.2.1 opened opened_is) ∙ length-take-le session.bytes (reassembled set.a zipped.0) zipped.2.0.within in
      record { within = omega (arith, put, zipped.2.0.within, ap (λ o. length (joined (pieces_of set.a o))) unit); either = inl (below, put) }
  | inr later ↦ absurd (omega (arith, below, later.1))
]

none-put : (set : RxSet) (front : List RxTurn) (place bytes number : ℕ) (attempts : List (Cut Seen)) → length attempts ≤ place → length (records_by front) ≤ place → store set.path.0 (calls_by front) number ≡ [] →
    IsPutSo (length (records_by front)) place bytes (length (store set.path.0 (calls_by front) number)) (length (joined (pieces_of set.a (slice_get attempts place))))
none-put set front place bytes number attempts past over none =
    let unit : length (joined (pieces_of set.a (slice_get attempts place))) ≡ 0 = ap (λ o. length (joined (pieces_of set.a o))) (slice_get_past attempts place past) in
    record { within = omega (arith, ap length none); either = inr (over, omega (arith, ap length none, unit)) }

put-by : (set : RxSet) (later front : List RxTurn) (place next seq : ℕ) (busy : Option Reception) (more : List SessionRecord) (session : SessionRecord) (opened : OpenedAt) → HasReceived set (later ++ front) → (state_after rx_new (later ++ front)).busy ≡ None → (state_after rx_new front).busy ≡ busy →
    records_by (later ++ front) ≡ records_by front ++ more → CountsFrom 0 (sessions_in (records_by (later ++ front))) → slice_get (records_by (later ++ front)) place ≡ Some session → session.opened ≡ Some opened →
    HoldsBy set next seq busy (calls_by front) (now_of front) (came_by frames_in front) (records_by front) →
    IsPutSo (length (records_by front)) place session.bytes (length (store set.path.0 (calls_by front) opened.seq)) (length (joined (pieces_of set.a (slice_get (attempts_in set.functional (came_by frames_in front)) place))))
put-by set later front place next seq None more session opened happened idle is split counts session_is opened_is so =
    let attempts : List (Cut Seen) = attempts_in set.functional (came_by frames_in front) in
    let long : length attempts ≡ length (records_by front) = zip-long (TellsPut set.chan.0 set.a (store set.path.0 (calls_by front))) attempts (records_by front) so.told.tells in
    elim (cases_lt place (length (records_by front))) [
      | inl below ↦ told-put set front (records_by (later ++ front)) more place session opened attempts [] split session_is opened_is (sym (append-nil attempts)) so.told below
      | inr over ↦ elim (get-append (records_by front) more place session (ap (λ l. slice_get l place) (sym split) ∙ session_is)) [
        | inl here ↦ absurd (omega (arith, over, slice_get_within (records_by front) place session here))
        | inr after ↦ none-put set front place session.bytes opened.seq attempts (omega (arith, long, over)) over
            (so.fresh opened.seq (omega (arith, so.seq_is, seq-later (records_by (later ++ front)) (records_by front) more after.0 session opened split counts after.2 opened_is)))
      ]
    ]
put-by set later front place next seq (Some busy) more session opened happened idle is split counts session_is opened_is so =
    let b : IsBusy set next seq busy (calls_by front) (now_of front) (came_by frames_in front) (records_by front) = so.0 in
    let attempts : List (Cut Seen) = attempts_in set.functional (came_by frames_in front) in
    let long : length b.earlier ≡ length (records_by front) = zip-long (TellsPut set.chan.0 set.a (store set.path.0 (calls_by front))) b.earlier (records_by front) b.told.tells in
    let told = next-told set later front busy happened idle is in
    elim (cases_order place (length (records_by front))) [
      | inl same ↦
          let at : slice_get (records_by (later ++ front)) place ≡ Some told.0 = ap (λ l. slice_get l place) (told.2 ∙ sym (append_assoc (records_by front) (told.0 ∷ []) told.1)) ∙ slice_get-more (records_by front ++ told.0 ∷ []) told.1 place told.0 (slice_get-pushed (records_by front) told.0 place (sym same)) in
          let both : Some busy.opened ≡ Some opened = sym told.3 ∙ ap (λ (s : SessionRecord). s.opened) (same-some at session_is) ∙ opened_is in
          let number : busy.opened ≡ opened = cc in
          let unit : slice_get attempts place ≡ Some b.attempt = ap (λ l. slice_get l place) b.cut ∙ slice_get-pushed b.earlier b.attempt place (omega (arith, long, same)) in
          let put : length (store set.path.0 (calls_by front) opened.seq) ≡ length (joined (pieces_of set.a (slice_get attempts place))) =
          ap (λ (o : OpenedAt). length (store set.path.0 (calls_by front) o.seq)) (sym number) ∙ ap length b.underway.puts ∙ ap (λ o. length (joined (pieces_of set.a o))) (sym unit) in
          record { within = omega (arith, put); either = inr (omega (arith, same), put) }
      | inr (inl below) ↦ told-put set front (records_by (later ++ front)) more place session opened b.earlier (b.attempt ∷ []) split session_is opened_is b.cut b.told below
      | inr (inr over) ↦
          let first : List SessionRecord = records_by front ++ told.0 ∷ [] in
          let rest : records_by (later ++ front) ≡ first ++ told.1 = told.2 ∙ sym (append_assoc (records_by front) (told.0 ∷ []) told.1) in
          let sessions : length (sessions_in first) ≡ length (sessions_in (records_by front)) + 1 =
          ap length (flat_map-append opened_by (records_by front) (told.0 ∷ [])) ∙ length-append (sessions_in (records_by front)) (sessions_in (told.0 ∷ []))
          ∙ ap (λ (w : Option OpenedAt). length (sessions_in (records_by front)) + length (option_to_list (option_map (λ (x : OpenedAt). x.seq) w) ++ [])) told.3 in
          elim (get-append first told.1 place session (ap (λ l. slice_get l place) (sym rest) ∙ session_is)) [
            | inl here ↦ absurd (omega (arith, over, slice_get_within first place session here, length-append (records_by front) (told.0 ∷ [])))
            | inr after ↦ none-put set front place session.bytes opened.seq attempts (omega (arith, ap length b.cut, length-append b.earlier (b.attempt ∷ []), long, over)) (omega (arith, over))
                (b.fresh opened.seq (omega (arith, b.seq_is, sessions, seq-later (records_by (later ++ front)) first told.1 after.0 session opened rest counts after.2 opened_is)))
          ]
    ]

-- after the turns of a front, in a run of turns after which no reception is in progress
pub put-so : (set : RxSet) (later front : List RxTurn) (place : ℕ) (more : List SessionRecord) (session : SessionRecord) (opened : OpenedAt) → HasReceived set (later ++ front) → (state_after rx_new (later ++ front)).busy ≡ None → records_by (later ++ front) ≡ records_by front ++ more →
    CountsFrom 0 (sessions_in (records_by (later ++ front))) → slice_get (records_by (later ++ front)) place ≡ Some session → session.opened ≡ Some opened →
    IsPutSo (length (records_by front)) place session.bytes (length (store set.path.0 (calls_by front) opened.seq)) (length (joined (pieces_of set.a (slice_get (attempts_in set.functional (came_by frames_in front)) place))))
put-so set later front place more session opened happened idle split counts is opened_is =
    put-by set later front place (state_after rx_new front).next (state_after rx_new front).seq (state_after rx_new front).busy more session opened happened idle refl split counts is opened_is (holds set front (happened-front _ later front happened))
