-- What a receiver's steps leave standing of its path's sessions.
use Rattle.std.proofs.Common.{◌≡◌, ℕ, ◌+◌, false, Option, Some, None, option_map, List, [], ◌∷◌, ◌++◌, length, refl, ap, sym, ◌∙◌, subst}
use Rattle.std.specs.Prelude.{◌-◌, map}
use Rattle.std.specs.List.{AllByRecursion}
use Rattle.gw_base.specs.Cell.{counted}
use Rattle.hub_core.specs.Calls.{freed_by}
use Rattle.hub_core.specs.Turns.{calls_by, state_after}
use Rattle.hub_core.specs.View.{View, Event, Session, change_at, session_new, grow, grows, Took, Refused, Entered, Asked, Put, Published, Closed}
use Rattle.hub_core.specs.declared.port.Left.{Left}
use Rattle.hub_core.specs.declared.port.Left.TheVariants.{Others, Last}
use Rattle.hub_core.specs.declared.record.OpenedAt.{OpenedAt}
use Rattle.hub_core.proofs.Growing.{grows-append}
use Rattle.tp_receiver.specs.declared.set.RxSet.{RxSet}
use Rattle.tp_receiver.specs.Effects.{Ends, Forgets, Looks, Opens, Puts, Refuses, RxDone, RxEffect, RxStage, Waits}
use Rattle.tp_receiver.specs.Runs.{HasReceived}
use Rattle.tp_receiver.specs.State.{Reception, RxDid, RxEvent, RxState, RxTurn, rx_new}
use Rattle.tp_receiver.specs.Table.{Opens as OpensSession, RxStep, asks, puts}
use Rattle.tp_receiver.proofs.Through.{state-through}
use Rattle.hub_core.proofs.Standing.{Frees, Stands, stands-written, written-changed, written-left, written-opened}

-- the session that a reception writes
abbrev pub session_of : Option Reception → Option ℕ
session_of busy = option_map (λ (b : Reception). b.opened.seq) busy

-- calls that lead from so many sessions, and the one that is written, to others
abbrev pub Steps : RxSet → ℕ → Option ℕ → List Event → ℕ → Option ℕ → Type 0
Steps set n going calls k after = (dest m : ℕ) (reads : Option ℕ) (v : View) → Stands set.path.0 dest set.readers n going m reads v → Stands set.path.0 dest set.readers k after m reads (grows calls v)

silent : (set : RxSet) (n : ℕ) (going : Option ℕ) (calls : List Event) → calls ≡ [] → Steps set n going calls n going
silent set n going calls is = rw is (λ dest m reads v so. so)

parts : (set : RxSet) (a b c : ℕ) (x y z : Option ℕ) (calls before rest : List Event) → calls ≡ before ++ rest → Steps set a x before b y → Steps set b y rest c z → Steps set a x calls c z
parts set a b c x y z calls before rest is first second dest m reads v so =
    let P : View → Type 0 = λ w. Stands set.path.0 dest set.readers c z m reads w in
    subst P (sym (ap (λ l. grows l v) is ∙ grows-append before rest v)) (second dest m reads (grows before v) (first dest m reads v so))

-- each call
frees : (left : Left) → AllByRecursion Frees (freed_by left)
frees Others = tt
frees (Last change buf) = (tt, tt)

asked : (set : RxSet) (n : ℕ) (going : Option ℕ) (busy : Reception) (room readers : ℕ) → Steps set n going (asks set busy room readers) n going
unfolding grow
asked set n going busy room readers dest m reads v so =
    let f : Session → Session = λ s. record s { room = room; readers = readers } in
    stands-written set.path.0 dest set.readers n n m going going reads v (grow (Asked set.path.0 busy.opened.seq room readers) v) (change_at busy.opened.seq f (v.sessions set.path.0)) refl refl
    (written-changed set.readers n busy.opened.seq going f (v.sessions set.path.0) v.changes (λ s. refl) (λ s. refl) (λ s. refl) so.written) so

put : (set : RxSet) (n seq count : ℕ) (going : Option ℕ) (cells : List ℕ) → Steps set n going (map (λ cell. Put set.path.0 seq cell) cells ++ Published set.path.0 seq count ∷ []) n going
unfolding grow
put set n seq count going [] dest m reads v so =
    let f : Session → Session = λ s. record s { shown = length s.cells; told = s.told + count } in
    stands-written set.path.0 dest set.readers n n m going going reads v (grow (Published set.path.0 seq count) v) (change_at seq f (v.sessions set.path.0)) refl refl
    (written-changed set.readers n seq going f (v.sessions set.path.0) v.changes (λ s. refl) (λ s. refl) (λ s. refl) so.written) so
put set n seq count going (cell ∷ cells) dest m reads v so =
    let f : Session → Session = λ s. record s { cells = s.cells ++ cell ∷ []; room = s.room - 1 } in
    put set n seq count going cells dest m reads (grow (Put set.path.0 seq cell) v)
    (stands-written set.path.0 dest set.readers n n m going going reads v (grow (Put set.path.0 seq cell) v) (change_at seq f (v.sessions set.path.0)) refl refl
    (written-changed set.readers n seq going f (v.sessions set.path.0) v.changes (λ s. refl) (λ s. refl) (λ s. refl) so.written) so)

closed : (set : RxSet) (n seq : ℕ) (left : Left) → Steps set n (Some seq) (Closed set.path.0 seq (freed_by left) ∷ []) n None
unfolding grow
closed set n seq left dest m reads v so =
    stands-written set.path.0 dest set.readers n n m (Some seq) None reads v (grow (Closed set.path.0 seq (freed_by left)) v) (change_at seq (λ s. record s { stands = false }) (v.sessions set.path.0)) refl refl
    (written-left set.readers n seq (v.sessions set.path.0) v.changes (freed_by left) (frees left) so.written) so

entered : (set : RxSet) (n seq buf number size need len : ℕ) → Steps set n None (Took set.group.0 number buf size need ∷ Entered set.path.0 seq buf number size len set.readers ∷ []) (n + 1) (Some n)
unfolding grow
entered set n seq buf number size need len dest m reads v so =
    let s : Session = session_new buf number size len set.readers in
    stands-written set.path.0 dest set.readers n (n + 1) m None (Some n) reads v (grow (Entered set.path.0 seq buf number size len set.readers) (grow (Took set.group.0 number buf size need) v)) (v.sessions set.path.0 ++ s ∷ []) refl refl
    (written-opened set.readers n need s (v.sessions set.path.0) v.changes refl so.written) so

denied : (set : RxSet) (n number free need : ℕ) (going : Option ℕ) → Steps set n going (Refused set.group.0 number free need ∷ []) n going
unfolding grow
denied set n number free need going dest m reads v so = record { written = so.written; only = so.only; read = so.read }

opens : (set : RxSet) (seq size len : ℕ) (bytes : List ℕ) (opened : OpenedAt) (opening : List Event) → OpensSession set seq size len bytes opened opening → Steps set seq None opening (seq + 1) (Some opened.seq)
opens set seq size len bytes opened opening row =
    rw row.seq_is (parts set seq (seq + 1) (seq + 1) None (Some seq) (Some seq) opening (Took set.group.0 opened.change opened.buf.0 row.buffer row.need ∷ Entered set.path.0 seq opened.buf.0 opened.change row.buffer len set.readers ∷ []) (puts set.path.0 seq row.cells) row.calls_are
    (entered set seq seq opened.buf.0 opened.change row.buffer row.need len) (put set (seq + 1) seq (counted row.cells) (Some seq) row.cells))

-- each effect
steps-effect : (set : RxSet) (event : RxEvent) (tick : ℕ) (old : RxStage) (done : RxDone) → RxEffect set event tick old done → Steps set old.state.seq (session_of old.state.busy) done.calls done.new.state.seq (session_of done.new.state.busy)
steps-effect set event tick old done (Refuses e) = rw (e.calls, e.new, e.of.idle) (denied set old.state.seq e.number e.free _ None)
steps-effect set event tick old done (Opens e) = rw (e.of.idle, e.new) (opens set old.state.seq _ _ _ e.opened done.calls e.opens)
steps-effect set event tick old done (Looks e) = rw (e.calls, e.new, e.was) (asked set old.state.seq (Some e.busy.opened.seq) e.busy e.look.cells e.look.readers)
steps-effect set event tick old done (Puts e) = rw (e.was, e.calls, e.new) (put set old.state.seq e.busy.opened.seq (counted e.cells) (Some e.busy.opened.seq) e.cells)
steps-effect set event tick old done (Waits e) = rw (e.was, e.calls, e.new) (silent set old.state.seq (Some e.busy.opened.seq) [] refl)
steps-effect set event tick old done (Forgets e) = rw (e.calls, e.new) (silent set old.state.seq (session_of old.state.busy) [] refl)
steps-effect set event tick old done (Ends e) = rw (e.was, e.calls, e.new) (closed set old.state.seq e.busy.opened.seq e.left)

step : (set : RxSet) (old : RxState) (event : RxEvent) (m : RxDid) → RxStep set old event m → Steps set old.seq (session_of old.busy) m.calls m.new.seq (session_of m.new.busy)
step set old event m row =
    state-through set old event m (λ state calls records. Steps set old.seq (session_of old.busy) calls state.seq (session_of state.busy))
    (λ stage done calls records effect so.
    parts set old.seq stage.state.seq done.new.state.seq (session_of old.busy) (session_of stage.state.busy) (session_of done.new.state.busy) (calls ++ done.calls) calls done.calls refl so (steps-effect set event m.tick stage done effect))
    row [] [] (silent set old.seq (session_of old.busy) [] refl)

-- the turns after earlier ones
pub turns-step : (set : RxSet) (turns earlier : List RxTurn) → HasReceived set (turns ++ earlier) →
    Steps set (state_after rx_new earlier).seq (session_of (state_after rx_new earlier).busy) (calls_by turns) (state_after rx_new (turns ++ earlier)).seq (session_of (state_after rx_new (turns ++ earlier)).busy)
turns-step set [] earlier happened = λ dest m reads v so. so
turns-step set (turn ∷ turns) earlier happened =
    let old : RxState = state_after rx_new (turns ++ earlier) in
    parts set (state_after rx_new earlier).seq old.seq turn.did.new.seq (session_of (state_after rx_new earlier).busy) (session_of old.busy) (session_of turn.did.new.busy) (calls_by turns ++ turn.did.calls) (calls_by turns) turn.did.calls refl
    (turns-step set turns earlier happened.2) (step set old turn.event turn.did happened.1)
