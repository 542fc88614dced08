-- What a writer's calls make of its path's sessions.
use Rattle.std.proofs.Common.{◌≡◌, ◌≢◌, ℕ, ◌+◌, ◌-◌, ◌<◌, zero, suc, Bool, true, false, ◌==◌, if◌then◌else◌, Some, List, [], ◌∷◌, ◌++◌, length, refl, ap, sym, ◌∙◌, subst, arith, append-nil, append_assoc, eq-eqb}
use Rattle.std.specs.Prelude.{map, slice_get}
use Rattle.std.proofs.lemmas.Bool.Decides.{nat_tests}
use Rattle.std.proofs.lemmas.Grind.{flat_map-append}
use Rattle.std.proofs.lemmas.List.{length-append}
use Rattle.hub_core.proofs.Growing.{at_one-same, grows-append, length-change_at}
use Rattle.hub_core.specs.Calls.{freed_by}
use Rattle.hub_core.specs.Turns.{calls_by, state_after}
use Rattle.hub_core.specs.View.{View, Change, Event, Session, at_one, change_at, empty_view, session_at, session_new, grow, grows, Took, Refused, Entered, Asked, Put, Published, Closed}
use Rattle.hub_core.specs.declared.record.OpenedAt.{OpenedAt}
use Rattle.hub_core.specs.declared.record.SessionRecord.{SessionRecord}
use Rattle.gw_base.specs.Cell.{counted}
use Rattle.tp_receiver.specs.declared.set.RxSet.{RxSet}
use Rattle.tp_receiver.specs.Effects.{Ends, Forgets, Looks, Opens, Puts, Refuses, RxDone, RxEffect, RxStage, Waits}
use Rattle.tp_receiver.specs.Runs.{HasReceived, cell_in, cells_in, put_in}
use Rattle.tp_receiver.specs.State.{RxEvent, RxState, RxTurn, rx_new}
use Rattle.tp_receiver.specs.Table.{Opens as OpensSession}
use Rattle.tp_receiver.proofs.Through.{turns-through}
use Rattle.receiver_law.proofs.sessions.Entries.{IsBelow}
use Rattle.receiver_law.proofs.sessions.Openings.{below-of}

false_true : false ≡ true → ⊥
false_true is = cc

-- the cells of the session in a place, and none past the end
abbrev pub cells_at : List Session → ℕ → List ℕ
cells_at [] place = []
cells_at (session ∷ sessions) zero = session.cells
cells_at (session ∷ sessions) (suc place) = cells_at sessions place

-- a change that leaves the cells, and one that adds a cell
cells_at-kept : (seq : ℕ) (f : Session → Session) → ((s : Session) → (f s).cells ≡ s.cells) → (sessions : List Session) (place : ℕ) → cells_at (change_at seq f sessions) place ≡ cells_at sessions place
cells_at-kept seq f keeps [] place = refl
cells_at-kept zero f keeps (s ∷ sessions) zero = keeps s
cells_at-kept zero f keeps (s ∷ sessions) (suc place) = refl
cells_at-kept (suc seq) f keeps (s ∷ sessions) zero = refl
cells_at-kept (suc seq) f keeps (s ∷ sessions) (suc place) = cells_at-kept seq f keeps sessions place

cells_at-put : (seq cell : ℕ) (f : Session → Session) → ((s : Session) → (f s).cells ≡ s.cells ++ cell ∷ []) → (sessions : List Session) → seq < length sessions → cells_at (change_at seq f sessions) seq ≡ cells_at sessions seq ++ cell ∷ []
cells_at-put seq cell f adds [] inside = absurd (omega arith)
cells_at-put zero cell f adds (s ∷ sessions) inside = adds s
cells_at-put (suc seq) cell f adds (s ∷ sessions) inside = cells_at-put seq cell f adds sessions (omega arith)

cells_at-beside : (seq : ℕ) (f : Session → Session) (sessions : List Session) (place : ℕ) → place ≢ seq → cells_at (change_at seq f sessions) place ≡ cells_at sessions place
cells_at-beside seq f [] place ne = refl
cells_at-beside zero f (s ∷ sessions) zero ne = absurd (ne refl)
cells_at-beside zero f (s ∷ sessions) (suc place) ne = refl
cells_at-beside (suc seq) f (s ∷ sessions) zero ne = refl
cells_at-beside (suc seq) f (s ∷ sessions) (suc place) ne = cells_at-beside seq f sessions place (λ is. ne (ap suc is))

-- a session more has no cells
cells_at-pushed : (sessions : List Session) (s : Session) (place : ℕ) → s.cells ≡ [] → cells_at (sessions ++ s ∷ []) place ≡ cells_at sessions place
cells_at-pushed [] s zero none = none
cells_at-pushed [] s (suc place) none = refl
cells_at-pushed (t ∷ sessions) s zero none = refl
cells_at-pushed (t ∷ sessions) s (suc place) none = cells_at-pushed sessions s place none

pub cells_at-is : (sessions : List Session) (place : ℕ) (s : Session) → slice_get sessions place ≡ Some s → cells_at sessions place ≡ s.cells
cells_at-is [] place s is = cc
cells_at-is (t ∷ sessions) zero s is = let same : t ≡ s = cc in ap (λ (x : Session). x.cells) same
cells_at-is (t ∷ sessions) (suc place) s is = cells_at-is sessions place s is

-- the calls add to the sessions of the path just the cells that they put, and so many sessions
pub record Fills (path more : ℕ) (calls : List Event) (old new : View) : Type 0 where
  pub number : length (new.sessions path) ≡ length (old.sessions path) + more
  pub cells : (place : ℕ) → cells_at (new.sessions path) place ≡ cells_at (old.sessions path) place ++ cells_in path place calls

fills-none : (path : ℕ) (calls : List Event) (old new : View) → new.sessions path ≡ old.sessions path → ((place : ℕ) → cells_in path place calls ≡ []) → Fills path 0 calls old new
fills-none path calls old new same none = record {
  number = omega (arith, ap length same);
  cells = λ place. ap (λ s. cells_at s place) same ∙ sym (append-nil (cells_at (old.sessions path) place)) ∙ ap (λ c. cells_at (old.sessions path) place ++ c) (sym (none place));
}

fills-then : (path a b : ℕ) (xs ys : List Event) (u v w : View) → Fills path a xs u v → Fills path b ys v w → Fills path (a + b) (xs ++ ys) u w
fills-then path a b xs ys u v w first second = record {
  number = omega (arith, first.number, second.number);
  cells = λ place. second.cells place ∙ ap (λ c. c ++ cells_in path place ys) (first.cells place) ∙ append_assoc (cells_at (u.sessions path) place) (cells_in path place xs) (cells_in path place ys)
      ∙ ap (λ c. cells_at (u.sessions path) place ++ c) (sym (flat_map-append (cell_in path place) xs ys));
}

-- a change of one session that leaves its cells
fills-kept : (path seq : ℕ) (f : Session → Session) (calls : List Event) (old new : View) → ((s : Session) → (f s).cells ≡ s.cells) → new.sessions ≡ at_one path (change_at seq f (old.sessions path)) old.sessions → ((place : ℕ) → cells_in path place calls ≡ []) → Fills path 0 calls old new
fills-kept path seq f calls old new keeps grown none =
    let is : new.sessions path ≡ change_at seq f (old.sessions path) = ap (λ s. s path) grown ∙ at_one-same path (change_at seq f (old.sessions path)) old.sessions in
    record {
      number = omega (arith, ap length is, length-change_at seq f (old.sessions path));
      cells = λ place. ap (λ s. cells_at s place) is ∙ cells_at-kept seq f keeps (old.sessions path) place ∙ sym (append-nil (cells_at (old.sessions path) place)) ∙ ap (λ c. cells_at (old.sessions path) place ++ c) (sym (none place));
    }

pub fills-refused : (group path number free need : ℕ) (v : View) → Fills path 0 (Refused group number free need ∷ []) v (grow (Refused group number free need) v)
unfolding grow
fills-refused group path number free need v = fills-none path (Refused group number free need ∷ []) v (grow (Refused group number free need) v) refl (λ place. refl)

fills-took : (group path number buf size need : ℕ) (v : View) → Fills path 0 (Took group number buf size need ∷ []) v (grow (Took group number buf size need) v)
unfolding grow
fills-took group path number buf size need v = fills-none path (Took group number buf size need ∷ []) v (grow (Took group number buf size need) v) refl (λ place. refl)

fills-entered : (path seq buf number size len readers : ℕ) (v : View) → Fills path 1 (Entered path seq buf number size len readers ∷ []) v (grow (Entered path seq buf number size len readers) v)
unfolding grow
fills-entered path seq buf number size len readers v =
    let new : Session = session_new buf number size len readers in
    let is : (grow (Entered path seq buf number size len readers) v).sessions path ≡ v.sessions path ++ new ∷ [] = at_one-same path (v.sessions path ++ new ∷ []) v.sessions in
    record {
      number = ap length is ∙ length-append (v.sessions path) (new ∷ []);
      cells = λ place. ap (λ s. cells_at s place) is ∙ cells_at-pushed (v.sessions path) new place refl ∙ sym (append-nil (cells_at (v.sessions path) place));
    }

pub fills-asked : (path seq room readers : ℕ) (v : View) → Fills path 0 (Asked path seq room readers ∷ []) v (grow (Asked path seq room readers) v)
unfolding grow
fills-asked path seq room readers v = fills-kept path seq (λ s. record s { room = room; readers = readers }) (Asked path seq room readers ∷ []) v (grow (Asked path seq room readers) v) (λ s. refl) refl (λ place. refl)

fills-published : (path seq bytes : ℕ) (v : View) → Fills path 0 (Published path seq bytes ∷ []) v (grow (Published path seq bytes) v)
unfolding grow
fills-published path seq bytes v = fills-kept path seq (λ s. record s { shown = length s.cells; told = s.told + bytes }) (Published path seq bytes ∷ []) v (grow (Published path seq bytes) v) (λ s. refl) refl (λ place. refl)

pub fills-closed : (path seq : ℕ) (freed : List Change) (v : View) → Fills path 0 (Closed path seq freed ∷ []) v (grow (Closed path seq freed) v)
unfolding grow
fills-closed path seq freed v = fills-kept path seq (λ s. record s { stands = false }) (Closed path seq freed ∷ []) v (grow (Closed path seq freed) v) (λ s. refl) refl (λ place. refl)

put-cells : (path seq cell place : ℕ) (sessions : List Session) (same : Bool) → (seq == place) ≡ same → seq < length sessions → cells_at (change_at seq (λ s. record s { cells = s.cells ++ cell ∷ []; room = s.room - 1 }) sessions) place ≡ cells_at sessions place ++ (if same then cell ∷ [] else [])
put-cells path seq cell place sessions true same inside =
    let is : seq ≡ place = grind (arith, nat_tests) in
    let P : ℕ → Type 0 = λ p. cells_at (change_at seq (λ s. record s { cells = s.cells ++ cell ∷ []; room = s.room - 1 }) sessions) p ≡ cells_at sessions p ++ cell ∷ [] in
    subst P is (cells_at-put seq cell (λ s. record s { cells = s.cells ++ cell ∷ []; room = s.room - 1 }) (λ s. refl) sessions inside)
put-cells path seq cell place sessions false same inside =
    cells_at-beside seq (λ s. record s { cells = s.cells ++ cell ∷ []; room = s.room - 1 }) sessions place (λ is. false_true (sym same ∙ eq-eqb seq place (sym is))) ∙ sym (append-nil (cells_at sessions place))

fills-put : (path seq cell : ℕ) (v : View) → seq < length (v.sessions path) → Fills path 0 (Put path seq cell ∷ []) v (grow (Put path seq cell) v)
unfolding grow
fills-put path seq cell v inside =
    let f : Session → Session = λ s. record s { cells = s.cells ++ cell ∷ []; room = s.room - 1 } in
    let is : (grow (Put path seq cell) v).sessions path ≡ change_at seq f (v.sessions path) = at_one-same path (change_at seq f (v.sessions path)) v.sessions in
    record {
      number = omega (arith, ap length is, length-change_at seq f (v.sessions path));
      cells = λ place. ap (λ s. cells_at s place) is ∙ put-cells path seq cell place (v.sessions path) (seq == place) refl inside ∙ ap (λ c. cells_at (v.sessions path) place ++ c) (rw (eq-eqb path path refl, append-nil) refl);
    }

pub fills-puts : (path seq count : ℕ) (cells : List ℕ) (v : View) → seq < length (v.sessions path) →
    Fills path 0 (map (λ cell. Put path seq cell) cells ++ Published path seq count ∷ []) v (grows (map (λ cell. Put path seq cell) cells ++ Published path seq count ∷ []) v)
fills-puts path seq count [] v inside = fills-published path seq count v
fills-puts path seq count (cell ∷ cells) v inside =
    let one : Fills path 0 (Put path seq cell ∷ []) v (grow (Put path seq cell) v) = fills-put path seq cell v inside in
    fills-then path 0 0 (Put path seq cell ∷ []) (map (λ c. Put path seq c) cells ++ Published path seq count ∷ []) v (grow (Put path seq cell) v) (grows (map (λ c. Put path seq c) cells ++ Published path seq count ∷ []) (grow (Put path seq cell) v))
    one (fills-puts path seq count cells (grow (Put path seq cell) v) (omega (arith, one.number, inside)))

pub fills-opening : (group path seq buf number size need len readers count : ℕ) (cells : List ℕ) (v : View) → length (v.sessions path) ≡ seq →
    Fills path 1 (Took group number buf size need ∷ Entered path seq buf number size len readers ∷ (map (λ cell. Put path seq cell) cells ++ Published path seq count ∷ [])) v
    (grows (Took group number buf size need ∷ Entered path seq buf number size len readers ∷ (map (λ cell. Put path seq cell) cells ++ Published path seq count ∷ [])) v)
fills-opening group path seq buf number size need len readers count cells v at =
    let took : View = grow (Took group number buf size need) v in
    let entered : View = grow (Entered path seq buf number size len readers) took in
    let one : Fills path 0 (Took group number buf size need ∷ []) v took = fills-took group path number buf size need v in
    let two : Fills path 1 (Entered path seq buf number size len readers ∷ []) took entered = fills-entered path seq buf number size len readers took in
    let rest : List Event = map (λ cell. Put path seq cell) cells ++ Published path seq count ∷ [] in
    fills-then path 0 1 (Took group number buf size need ∷ []) (Entered path seq buf number size len readers ∷ rest) v took (grows rest entered) one
    (fills-then path 1 0 (Entered path seq buf number size len readers ∷ []) rest took entered (grows rest entered) two (fills-puts path seq count cells entered (omega (arith, one.number, two.number, at))))

pub fills-after : (path a b : ℕ) (xs ys : List Event) (v : View) → Fills path a xs v (grows xs v) → Fills path b ys (grows xs v) (grows ys (grows xs v)) → Fills path (a + b) (xs ++ ys) v (grows (xs ++ ys) v)
fills-after path a b xs ys v first second =
    let P : View → Type 0 = λ w. Fills path (a + b) (xs ++ ys) v w in
    subst P (sym (grows-append xs ys v)) (fills-then path a b xs ys v (grows xs v) (grows ys (grows xs v)) first second)

pub fills-nothing : (path : ℕ) (v : View) → Fills path 0 [] v v
fills-nothing path v = fills-none path [] v v refl (λ place. refl)

-- the calls so far fill the sessions of the path, and the state counts them
pub record IsFilled (path : ℕ) (state : RxState) (calls : List Event) : Type 0 where
  pub number : length ((grows calls empty_view).sessions path) ≡ state.seq
  pub below : IsBelow state.seq state.busy
  pub cells : (place : ℕ) → cells_at ((grows calls empty_view).sessions path) place ≡ cells_in path place calls

filled-more : (path more : ℕ) (old new : RxState) (calls done : List Event) → IsFilled path old calls → Fills path more done (grows calls empty_view) (grows done (grows calls empty_view)) → new.seq ≡ old.seq + more → IsBelow new.seq new.busy → IsFilled path new (calls ++ done)
filled-more path more old new calls done so fills counts below =
    let is : grows (calls ++ done) empty_view ≡ grows done (grows calls empty_view) = grows-append calls done empty_view in
    record {
      number = ap (λ (w : View). length (w.sessions path)) is ∙ omega (arith, fills.number, so.number, counts);
      below = below;
      cells = λ place. ap (λ (w : View). cells_at (w.sessions path) place) is ∙ fills.cells place ∙ ap (λ c. c ++ cells_in path place done) (so.cells place) ∙ sym (flat_map-append (cell_in path place) calls done);
    }

filled-opens : (set : RxSet) (size len : ℕ) (bytes : List ℕ) (opened : OpenedAt) (old new : RxState) (calls done : List Event) → IsFilled set.path.0 old calls → OpensSession set old.seq size len bytes opened done → new.seq ≡ old.seq + 1 → IsBelow new.seq new.busy → IsFilled set.path.0 new (calls ++ done)
filled-opens set size len bytes opened old new calls done so opens counts below =
    let v : View = grows calls empty_view in
    let P : List Event → Type 0 = λ c. Fills set.path.0 1 c v (grows c v) in
    filled-more set.path.0 1 old new calls done so (subst P (sym opens.calls_are) (fills-opening set.group.0 set.path.0 old.seq opened.buf.0 opened.change opens.buffer opens.need len set.readers (counted opens.cells) opens.cells v so.number)) counts below

-- each effect
filled-effect : (set : RxSet) (event : RxEvent) (tick : ℕ) (old : RxStage) (done : RxDone) (calls : List Event) (records : List SessionRecord) → RxEffect set event tick old done → IsFilled set.path.0 old.state calls → IsFilled set.path.0 done.new.state (calls ++ done.calls)
filled-effect set event tick old done calls records (Refuses e) so = rw (e.calls, e.new) (filled-more set.path.0 0 old.state _ calls _ so (fills-refused set.group.0 set.path.0 e.number e.free _ (grows calls empty_view)) (omega arith) so.below)
filled-effect set event tick old done calls records (Opens e) so = rw e.new (filled-opens set _ _ _ e.opened old.state _ calls done.calls so e.opens refl (omega (arith, e.opens.seq_is)))
filled-effect set event tick old done calls records (Looks e) so =
    rw (e.calls, e.new) (filled-more set.path.0 0 old.state _ calls _ so (fills-asked set.path.0 e.busy.opened.seq e.look.cells e.look.readers (grows calls empty_view)) (omega arith) so.below)
filled-effect set event tick old done calls records (Puts e) so =
    let below : e.busy.opened.seq < old.state.seq = below-of old.state.seq old.state.busy e.busy e.was so.below in
    rw (e.calls, e.new) (filled-more set.path.0 0 old.state _ calls _ so (fills-puts set.path.0 e.busy.opened.seq (counted e.cells) e.cells (grows calls empty_view) (omega (arith, so.number, below))) (omega arith) below)
filled-effect set event tick old done calls records (Waits e) so =
    rw (e.calls, e.new) (filled-more set.path.0 0 old.state _ calls _ so (fills-nothing set.path.0 (grows calls empty_view)) (omega arith) (below-of old.state.seq old.state.busy e.busy e.was so.below))
filled-effect set event tick old done calls records (Forgets e) so = rw (e.calls, e.new) (filled-more set.path.0 0 old.state _ calls _ so (fills-nothing set.path.0 (grows calls empty_view)) (omega arith) so.below)
filled-effect set event tick old done calls records (Ends e) so =
    rw (e.calls, e.new) (filled-more set.path.0 0 old.state _ calls _ so (fills-closed set.path.0 e.busy.opened.seq (freed_by e.left) (grows calls empty_view)) (omega arith) tt)

-- all turns
pub record AllFilled (set : RxSet) (turns : List RxTurn) : Type 0 where
  pub number : length ((grows (calls_by turns) empty_view).sessions set.path.0) ≡ (state_after rx_new turns).seq
  pub below : IsBelow (state_after rx_new turns).seq (state_after rx_new turns).busy
  pub cells : (place : ℕ) → cells_at ((grows (calls_by turns) empty_view).sessions set.path.0) place ≡ put_in set turns place

pub all-filled : (set : RxSet) (turns : List RxTurn) → HasReceived set turns → AllFilled set turns
all-filled set turns happened =
    let so : IsFilled set.path.0 (state_after rx_new turns) (calls_by turns) = turns-through set (λ state calls records. IsFilled set.path.0 state calls) (λ event tick. filled-effect set event tick) (record { number = refl; below = tt; cells = λ place. refl }) turns happened in
    record { number = so.number; below = so.below; cells = so.cells }

pub stored_in : (set : RxSet) (turns : List RxTurn) → HasReceived set turns → (seq : ℕ) (s : Session) → session_at (grows (calls_by turns) empty_view) set.path.0 seq ≡ Some s → s.cells ≡ put_in set turns seq
stored_in set turns happened seq s known =
    sym (cells_at-is ((grows (calls_by turns) empty_view).sessions set.path.0) seq s known) ∙ (all-filled set turns happened).cells seq
