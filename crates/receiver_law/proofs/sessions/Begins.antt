-- The ticks in which a receiver's sessions begin: its records tell those in which its calls entered them.
use Rattle.std.proofs.Common.{◌≡◌, ℕ, ◌+◌, zero, suc, Option, Some, None, option_map, List, [], ◌∷◌, ◌++◌, length, map, refl, ap, sym, ◌∙◌, subst, arith, append-nil, append_assoc}
use Rattle.std.specs.Prelude.{option_to_list, slice_get}
use Rattle.std.specs.List.{AllByRecursion, flat_map}
use Rattle.std.proofs.lemmas.List.{length-append}
use Rattle.std.proofs.lemmas.Grind.{flat_map-append}
use Rattle.gw_base.specs.Cell.{counted}
use Rattle.hub_core.specs.Turns.{calls_by, state_after, records_by}
use Rattle.hub_core.specs.View.{Event, Took, Refused, Entered, Asked, Put, Published, Joining, Missed, Saw, Read, Closed, Parted}
use Rattle.hub_core.proofs.Growing.{slice_get-pushed}
use Rattle.hub_core.specs.declared.record.OpenedAt.{OpenedAt}
use Rattle.hub_core.specs.declared.record.SessionRecord.{SessionRecord}
use Rattle.receiver_law.specs.Source.{CountsFrom, opened_by, sessions_in}
use Rattle.receiver_law.proofs.sessions.Entries.{entry_by, join-lists}
use Rattle.gw_base.proofs.Lists.{all-join, slice_get-more}
use Rattle.tp_attempts.specs.Seen.{bytes_of}
use Rattle.tp_receiver.specs.declared.set.RxSet.{RxSet}
use Rattle.tp_receiver.specs.Effects.{Ends, Forgets, Looks, Opens, Puts, Refuses, RxDone, RxEffect, RxStage, Waits}
use Rattle.tp_receiver.specs.Runs.{HasReceived}
use Rattle.tp_receiver.specs.State.{Reception, RxDid, RxEvent, RxState, RxTurn, rx_new}
use Rattle.tp_receiver.specs.Table.{Opens as OpensSession, RxStep, begun}
use Rattle.tp_receiver.proofs.Through.{state-through}

-- the tick of a call that entered a session
abbrev pub begin_by : ℕ → Event → List ℕ
begin_by tick (Entered path seq buf number size len readers) = tick ∷ []
begin_by tick (Took group number buf size need) = []
begin_by tick (Refused group number free need) = []
begin_by tick (Asked path seq cells readers) = []
begin_by tick (Put path seq cell) = []
begin_by tick (Published path seq bytes) = []
begin_by tick (Joining path dest seq buf len) = []
begin_by tick (Missed group path dest seq) = []
begin_by tick (Saw path dest seq cells bytes writer) = []
begin_by tick (Read path dest seq cell) = []
begin_by tick (Closed path seq freed) = []
begin_by tick (Parted path dest seq freed) = []

abbrev pub begins_in : ℕ → List Event → List ℕ
begins_in tick calls = flat_map (begin_by tick) calls

-- the ticks in which the sessions were entered, the oldest first
abbrev pub begins_by : List RxTurn → List ℕ
begins_by [] = []
begins_by (turn ∷ earlier) = begins_by earlier ++ begins_in turn.did.tick turn.did.calls

-- the begins that records of opened sessions tell, and that of the one that is going on
abbrev pub begin_in : SessionRecord → List ℕ
begin_in told = option_to_list (option_map (λ (o : OpenedAt). told.begin.0) told.opened)

abbrev pub begins_told : List SessionRecord → List ℕ
begins_told records = flat_map begin_in records

abbrev pub begin_going : Option Reception → List ℕ
begin_going None = []
begin_going (Some busy) = busy.begin ∷ []

-- what was going on, and what is entered, is told or going on
abbrev pub AreBegun : ℕ → Option Reception → List Event → List SessionRecord → Option Reception → Type 0
AreBegun tick busy calls records new = begin_going busy ++ begins_in tick calls ≡ begins_told records ++ begin_going new

none-put : (tick path seq count : ℕ) (cells : List ℕ) → begins_in tick (map (λ cell. Put path seq cell) cells ++ Published path seq count ∷ []) ≡ []
none-put tick path seq count [] = refl
none-put tick path seq count (cell ∷ cells) = none-put tick path seq count cells

opens : (set : RxSet) (seq len tick next size count : ℕ) (bytes : List ℕ) (opened : OpenedAt) (opening : List Event) → OpensSession set seq size len bytes opened opening → AreBegun tick None opening [] (Some (begun next len size count tick opened))
opens set seq len tick next size count bytes opened opening row = rw (row.calls_are, none-put tick set.path.0 seq (counted row.cells) row.cells) refl

-- each effect
begun-effect : (set : RxSet) (event : RxEvent) (tick : ℕ) (old : RxStage) (done : RxDone) → RxEffect set event tick old done → AreBegun tick old.state.busy done.calls done.records done.new.state.busy
begun-effect set event tick old done (Refuses e) = rw (e.calls, e.records, e.new, e.of.idle) refl
begun-effect set event tick old done (Opens e) = rw (e.of.idle, e.records, e.new) (opens set old.state.seq _ tick old.state.next e.size (length (bytes_of e.meaning)) _ e.opened done.calls e.opens)
begun-effect set event tick old done (Looks e) = rw (e.calls, e.records, e.new, e.was) refl
begun-effect set event tick old done (Puts e) = rw (e.was, e.calls, e.records, e.new, none-put tick set.path.0 e.busy.opened.seq (counted e.cells) e.cells) refl
begun-effect set event tick old done (Waits e) = rw (e.was, e.calls, e.records, e.new) refl
begun-effect set event tick old done (Forgets e) = rw (e.calls, e.records, e.new, e.idle) refl
begun-effect set event tick old done (Ends e) = rw (e.was, e.calls, e.records, e.new) refl

-- a step
step : (set : RxSet) (old : RxState) (event : RxEvent) (m : RxDid) → RxStep set old event m → AreBegun m.tick old.busy m.calls m.records m.new.busy
step set old event m row =
    state-through set old event m (λ state calls records. AreBegun m.tick old.busy calls records state.busy)
    (λ stage done calls records effect so.
    rw (flat_map-append (begin_by m.tick) calls done.calls, flat_map-append begin_in records done.records)
    (join-lists (begin_going old.busy) (begin_going stage.state.busy) (begin_going done.new.state.busy) (begins_in m.tick calls) (begins_in m.tick done.calls) (begins_told records) (begins_told done.records) so (begun-effect set event m.tick stage done effect)))
    row [] [] (append-nil (begin_going old.busy))

-- a whole run
pub begins-are : (set : RxSet) (turns : List RxTurn) → HasReceived set turns → begins_by turns ≡ begins_told (records_by turns) ++ begin_going (state_after rx_new turns).busy
begins-are set [] happened = refl
begins-are set (turn ∷ earlier) happened =
    let old : RxState = state_after rx_new earlier in
    ap (λ l. l ++ begins_in turn.did.tick turn.did.calls) (begins-are set earlier happened.2) ∙ append_assoc (begins_told (records_by earlier)) (begin_going old.busy) (begins_in turn.did.tick turn.did.calls)
    ∙ ap (λ l. begins_told (records_by earlier) ++ l) (step set old turn.event turn.did happened.1)
    ∙ sym (append_assoc (begins_told (records_by earlier)) (begins_told turn.did.records) (begin_going turn.did.new.busy)) ∙ ap (λ l. l ++ begin_going turn.did.new.busy) (sym (flat_map-append begin_in (records_by earlier) turn.did.records))

-- later turns enter later sessions
pub begins-more : (turns earlier : List RxTurn) → (more : List ℕ) × (begins_by (turns ++ earlier) ≡ begins_by earlier ++ more)
begins-more [] earlier = ([], sym (append-nil (begins_by earlier)))
begins-more (turn ∷ turns) earlier =
    let so = begins-more turns earlier in
    (so.0 ++ begins_in turn.did.tick turn.did.calls, ap (λ l. l ++ begins_in turn.did.tick turn.did.calls) so.1 ∙ append_assoc (begins_by earlier) so.0 (begins_in turn.did.tick turn.did.calls))

-- each is entered in a tick of the turns
in-call : (P : ℕ → Type 0) (tick : ℕ) (call : Event) → P tick → AllByRecursion P (begin_by tick call)
in-call P tick (Entered path seq buf number size len readers) at = (at, tt)
in-call P tick (Took group number buf size need) at = tt
in-call P tick (Refused group number free need) at = tt
in-call P tick (Asked path seq cells readers) at = tt
in-call P tick (Put path seq cell) at = tt
in-call P tick (Published path seq bytes) at = tt
in-call P tick (Joining path dest seq buf len) at = tt
in-call P tick (Missed group path dest seq) at = tt
in-call P tick (Saw path dest seq cells bytes writer) at = tt
in-call P tick (Read path dest seq cell) at = tt
in-call P tick (Closed path seq freed) at = tt
in-call P tick (Parted path dest seq freed) at = tt

in-calls : (P : ℕ → Type 0) (tick : ℕ) (calls : List Event) → P tick → AllByRecursion P (begins_in tick calls)
in-calls P tick [] at = tt
in-calls P tick (call ∷ calls) at = all-join P (begin_by tick call) (begins_in tick calls) (in-call P tick call at) (in-calls P tick calls at)

pub begins-in : (P : ℕ → Type 0) (turns : List RxTurn) → AllByRecursion (λ (turn : RxTurn). P turn.did.tick) turns → AllByRecursion P (begins_by turns)
begins-in P [] all = tt
begins-in P (turn ∷ earlier) all = all-join P (begins_by earlier) (begins_in turn.did.tick turn.did.calls) (begins-in P earlier all.1) (in-calls P turn.did.tick turn.did.calls all.0)

-- as many begin as are entered
call-long : (tick : ℕ) (call : Event) → length (begin_by tick call) ≡ length (entry_by call)
call-long tick (Entered path seq buf number size len readers) = refl
call-long tick (Took group number buf size need) = refl
call-long tick (Refused group number free need) = refl
call-long tick (Asked path seq cells readers) = refl
call-long tick (Put path seq cell) = refl
call-long tick (Published path seq bytes) = refl
call-long tick (Joining path dest seq buf len) = refl
call-long tick (Missed group path dest seq) = refl
call-long tick (Saw path dest seq cells bytes writer) = refl
call-long tick (Read path dest seq cell) = refl
call-long tick (Closed path seq freed) = refl
call-long tick (Parted path dest seq freed) = refl

calls-long : (tick : ℕ) (calls : List Event) → length (begins_in tick calls) ≡ length (flat_map entry_by calls)
calls-long tick [] = refl
calls-long tick (call ∷ calls) = omega (arith, length-append (begin_by tick call) (begins_in tick calls), length-append (entry_by call) (flat_map entry_by calls), call-long tick call, calls-long tick calls)

pub begins-long : (turns : List RxTurn) → length (begins_by turns) ≡ length (flat_map entry_by (calls_by turns))
begins-long [] = refl
begins-long (turn ∷ earlier) =
    omega (
      arith,
      length-append (begins_by earlier) (begins_in turn.did.tick turn.did.calls),
      begins-long earlier,
      calls-long turn.did.tick turn.did.calls,
      ap length (flat_map-append entry_by (calls_by earlier) turn.did.calls),
      length-append (flat_map entry_by (calls_by earlier)) (flat_map entry_by turn.did.calls),
    )

-- an item of a list, with what stands before and after it
pub record Split {A : Type 0} (xs : List A) (place : ℕ) (x : A) : Type 0 where
  pub before : List A
  pub after : List A
  pub is : xs ≡ before ++ x ∷ after
  pub place_is : length before ≡ place

pub splits : {A : Type 0} (xs : List A) (place : ℕ) (x : A) → slice_get xs place ≡ Some x → Split xs place x
splits [] place x is = cc
splits (y ∷ xs) zero x is = record { before = []; after = xs; is = cc; place_is = refl }
splits (y ∷ xs) (suc place) x is =
    let so : Split xs place x = splits xs place x is in
    record { before = y ∷ so.before; after = so.after; is = ap (λ l. y ∷ l) so.is; place_is = omega (arith, so.place_is) }

counts-at : (first : ℕ) (before after : List ℕ) (number : ℕ) → CountsFrom first (before ++ number ∷ after) → number ≡ first + length before
counts-at first [] after number counts = omega (arith, counts.0)
counts-at first (x ∷ before) after number counts = omega (arith, counts-at (first + 1) before after number counts.1)

-- the number of a session counts those that were opened before
pub seq-at : (records before after : List SessionRecord) (s : SessionRecord) (o : OpenedAt) → records ≡ before ++ s ∷ after → CountsFrom 0 (sessions_in records) → s.opened ≡ Some o → o.seq ≡ length (sessions_in before)
seq-at records before after s o is counts opened =
    let P : List ℕ → Type 0 = λ l. CountsFrom 0 l in
    let all : sessions_in records ≡ sessions_in before ++ o.seq ∷ sessions_in after = ap sessions_in is ∙ flat_map-append opened_by before (s ∷ after) ∙ ap (λ w. sessions_in before ++ (option_to_list (option_map (λ (x : OpenedAt). x.seq) w) ++ sessions_in after)) opened in
    omega (arith, counts-at 0 (sessions_in before) (sessions_in after) o.seq (subst P all counts))

one-each : (begin : ℕ) (was : Option OpenedAt) → length (option_to_list (option_map (λ (o : OpenedAt). begin) was)) ≡ length (option_to_list (option_map (λ (o : OpenedAt). o.seq) was))
one-each begin None = refl
one-each begin (Some opened) = refl

pub told-long : (records : List SessionRecord) → length (begins_told records) ≡ length (sessions_in records)
told-long [] = refl
told-long (told ∷ records) = omega (arith, length-append (begin_in told) (begins_told records), length-append (opened_by told) (sessions_in records), one-each told.begin.0 told.opened, told-long records)

-- the begin of the session with a number
pub begin-at : (records before after : List SessionRecord) (s : SessionRecord) (o : OpenedAt) → records ≡ before ++ s ∷ after → CountsFrom 0 (sessions_in records) → s.opened ≡ Some o → slice_get (begins_told records) o.seq ≡ Some s.begin.0
begin-at records before after s o is counts opened =
    let all : begins_told records ≡ (begins_told before ++ s.begin.0 ∷ []) ++ begins_told after =
    ap begins_told is ∙ flat_map-append begin_in before (s ∷ after) ∙ ap (λ w. begins_told before ++ (option_to_list (option_map (λ (x : OpenedAt). s.begin.0) w) ++ begins_told after)) opened
    ∙ sym (append_assoc (begins_told before) (s.begin.0 ∷ []) (begins_told after)) in
    rw all (slice_get-more (begins_told before ++ s.begin.0 ∷ []) (begins_told after) o.seq s.begin.0 (slice_get-pushed (begins_told before) s.begin.0 o.seq (omega (arith, told-long before, seq-at records before after s o is counts opened))))
