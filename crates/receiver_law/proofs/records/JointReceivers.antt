-- The sessions of a view after each effect of a receiver's steps.
use Rattle.std.proofs.Common.{◌≡◌, ℕ, ◌+◌, ◌*◌, ◌≤◌, false, Option, Some, None, option_map, List, [], ◌∷◌, ◌++◌, length, All, zero, suc, refl, ap, sym, ◌∙◌, subst, arith, append-nil, append_assoc}
use Rattle.std.specs.Prelude.{◌-◌, map, slice_get}
use Rattle.std.proofs.lemmas.List.{length-append}
use Rattle.std.proofs.lemmas.List.Elements.{All-head, All-tail}
use Rattle.std.proofs.lemmas.List.Sums.{sum_by-cons}
use Rattle.cell_stream.specs.Packing.{IsPacked}
use Rattle.gw_base.proofs.Cells.{length-bytes_of}
use Rattle.gw_base.specs.Cell.{IsCell, count_of, counted}
use Rattle.hub_core.proofs.Growing.{at_one-same, grows-append, slice_get-change_at}
use Rattle.hub_core.specs.Calls.{freed_by}
use Rattle.hub_core.specs.Turns.{calls_by, state_after, records_by}
use Rattle.hub_core.specs.View.{View, Change, Event, Session, change_at, empty_view, session_new, grow, grows, Took, Refused, Entered, Asked, Put, Published, Closed}
use Rattle.hub_core.specs.declared.port.Room.{Room}
use Rattle.hub_core.specs.declared.record.OpenedAt.{OpenedAt}
use Rattle.hub_core.specs.declared.record.SessionRecord.{SessionRecord}
use Rattle.hub_core.specs.declared.record.SessionResult.{SessionResult}
use Rattle.hub_core.specs.declared.record.SessionResult.TheVariants.{NoReaders, NoRoom}
use Rattle.tp_receiver.specs.declared.set.RxSet.{RxSet}
use Rattle.tp_receiver.specs.Effects.{Ends, EndsAt, Forgets, Looks, Opens, Puts, Refuses, RxDone, RxEffect, RxStage, Waits, first_stage}
use Rattle.tp_receiver.specs.Runs.{HasReceived}
use Rattle.tp_receiver.specs.State.{Reception, RxEvent, RxState, RxTurn, rx_new}
use Rattle.tp_receiver.specs.Table.{Opens as OpensSession, begun, puts}
use Rattle.tp_receiver.proofs.Through.{IsThrough, step-through}
use Rattle.receiver_law.proofs.records.JointSessions.{Filling, Known, filling_of, known-changed, known-closed, known-entered, known-refused}

abbrev pub KnownIn : RxSet → View → List SessionRecord → ℕ → Option Reception → Type 0
KnownIn set v records seq busy = Known set (v.sessions set.path.0) records seq (option_map filling_of busy)

abbrev pub KnownBy : RxSet → View → List SessionRecord → RxState → Type 0
KnownBy set v records state = KnownIn set v records state.seq state.busy

-- cells are put and published: one change of the session
record PutsBy (seq count : ℕ) (cells : List ℕ) (old new : List Session) : Type 0 where
  change : Session → Session
  is : new ≡ change_at seq change old
  cells_are : (s : Session) → (change s).cells ≡ s.cells ++ cells
  shown : (s : Session) → (change s).shown ≡ length (s.cells ++ cells)
  told : (s : Session) → (change s).told ≡ s.told + count
  len : (s : Session) → (change s).len ≡ s.len
  dests : (s : Session) → (change s).dests ≡ s.dests
  stands : (s : Session) → (change s).stands ≡ s.stands

change-twice : {A : Type 0} (k : ℕ) (f g : A → A) (xs : List A) → change_at k g (change_at k f xs) ≡ change_at k (λ x. g (f x)) xs
change-twice k f g [] = refl
change-twice zero f g (x ∷ xs) = refl
change-twice (suc k) f g (x ∷ xs) = ap (λ l. x ∷ l) (change-twice k f g xs)

puts-by : (path seq count : ℕ) (cells : List ℕ) (v : View) → PutsBy seq count cells (v.sessions path) ((grows (map (λ cell. Put path seq cell) cells ++ Published path seq count ∷ []) v).sessions path)
unfolding grow
puts-by path seq count [] v = record {
  change = λ s. record s { shown = length s.cells; told = s.told + count };
  is = at_one-same path _ v.sessions;
  cells_are = λ s. sym (append-nil s.cells);
  shown = λ s. ap length (sym (append-nil s.cells));
  told = λ s. refl;
  len = λ s. refl;
  dests = λ s. refl;
  stands = λ s. refl;
}
puts-by path seq count (cell ∷ cells) v =
    let f : Session → Session = λ s. record s { cells = s.cells ++ cell ∷ []; room = s.room - 1 } in
    let more : PutsBy seq count cells ((grow (Put path seq cell) v).sessions path) ((grows (map (λ c. Put path seq c) cells ++ Published path seq count ∷ []) (grow (Put path seq cell) v)).sessions path) = puts-by path seq count cells (grow (Put path seq cell) v) in
    record {
      change = λ s. more.change (f s);
      is = more.is ∙ ap (change_at seq more.change) (at_one-same path (change_at seq f (v.sessions path)) v.sessions) ∙ change-twice seq f more.change (v.sessions path);
      cells_are = λ s. more.cells_are (f s) ∙ append_assoc s.cells (cell ∷ []) cells;
      shown = λ s. more.shown (f s) ∙ ap length (append_assoc s.cells (cell ∷ []) cells);
      told = λ s. more.told (f s);
      len = λ s. more.len (f s);
      dests = λ s. more.dests (f s);
      stands = λ s. more.stands (f s);
    }

counted-most : (cells : List ℕ) → All IsCell cells → counted cells ≤ 7 * length cells
counted-most [] all = omega arith
counted-most (cell ∷ cells) all = omega (arith, sum_by-cons count_of cell cells, (All-head IsCell cell cells all).most, counted-most cells (All-tail IsCell cell cells all))

known-puts : (set : RxSet) (v : View) (records : List SessionRecord) (seq total : ℕ) (f : Filling) (bytes cells : List ℕ) → total ≡ f.bytes + length bytes → IsPacked bytes cells → Known set (v.sessions set.path.0) records seq (Some f) →
    Known set ((grows (puts set.path.0 f.at cells) v).sessions set.path.0) records seq (Some (record f { bytes = total }))
known-puts set v records seq total f bytes cells sum packed known =
    let by : PutsBy f.at (counted cells) cells (v.sessions set.path.0) ((grows (puts set.path.0 f.at cells) v).sessions set.path.0) = puts-by set.path.0 f.at (counted cells) cells v in
    let count : counted cells ≡ length bytes = sym (length-bytes_of cells packed.cells_only) ∙ ap length packed.same_bytes in
    rw by.is (known-changed set (v.sessions set.path.0) records seq total f by.change by.stands (λ s put. record {
      len_is = by.len s ∙ put.len_is;
      told = omega (arith, by.told s, put.told, count, sum);
      shown = by.shown s ∙ ap length (sym (by.cells_are s));
      full = omega (arith, by.told s, put.full, counted-most cells packed.cells_only, ap length (by.cells_are s), length-append s.cells cells);
      dests = by.dests s ∙ put.dests;
    }) known)

-- a look at the room
grow-asked : (path seq room readers : ℕ) (v : View) → (grow (Asked path seq room readers) v).sessions path ≡ change_at seq (λ s. record s { room = room; readers = readers }) (v.sessions path)
unfolding grow
grow-asked path seq room readers v = at_one-same path _ v.sessions

-- the writer leaves
grow-closed : (path seq : ℕ) (freed : List Change) (v : View) → (grow (Closed path seq freed) v).sessions path ≡ change_at seq (λ s. record s { stands = false }) (v.sessions path)
unfolding grow
grow-closed path seq freed v = at_one-same path _ v.sessions

-- a session is opened
grow-took : (group path number buf size need : ℕ) (v : View) → (grow (Took group number buf size need) v).sessions path ≡ v.sessions path
unfolding grow
grow-took group path number buf size need v = refl

grow-entered : (path seq buf number size len readers : ℕ) (v : View) → (grow (Entered path seq buf number size len readers) v).sessions path ≡ v.sessions path ++ session_new buf number size len readers ∷ []
unfolding grow
grow-entered path seq buf number size len readers v = at_one-same path _ v.sessions

opens-so : (set : RxSet) (next seq len size tick : ℕ) (bytes : List ℕ) (opened : OpenedAt) (opening : List Event) (v : View) (records : List SessionRecord) → OpensSession set seq size len bytes opened opening → KnownIn set v records seq None →
    KnownIn set (grows opening v) records (seq + 1) (Some (begun next len size (length bytes) tick opened))
opens-so set next seq len size tick bytes opened opening v records row known =
    let path : ℕ = set.path.0 in
    let w : View = grow (Entered path seq opened.buf.0 opened.change row.buffer len set.readers) (grow (Took set.group.0 opened.change opened.buf.0 row.buffer row.need) v) in
    let sessions : w.sessions path ≡ v.sessions path ++ session_new opened.buf.0 opened.change row.buffer len set.readers ∷ [] =
    grow-entered path seq opened.buf.0 opened.change row.buffer len set.readers (grow (Took set.group.0 opened.change opened.buf.0 row.buffer row.need) v) ∙ ap (λ l. l ++ session_new opened.buf.0 opened.change row.buffer len set.readers ∷ []) (grow-took set.group.0 path opened.change opened.buf.0 row.buffer row.need v) in
    let one : Known set (w.sessions path) records (seq + 1) (Some (record { at = seq; len = len; bytes = 0 })) = rw sessions (known-entered set (v.sessions path) records seq opened.buf.0 opened.change row.buffer len known) in
    let two : Known set ((grows (puts path seq row.cells) w).sessions path) records (seq + 1) (Some (record { at = seq; len = len; bytes = length bytes })) = known-puts set w records (seq + 1) (length bytes) (record { at = seq; len = len; bytes = 0 }) bytes row.cells (omega arith) row.packed one in
    rw (row.calls_are, row.seq_is) two

-- what the last look at the room answered, the session of the reception says of its destinations and of its room
abbrev IsLookedOf : Option Reception → Option Room → List Session → Type 0
IsLookedOf busy look sessions = (going : Reception) (room : Room) (s : Session) → busy ≡ Some going → look ≡ Some room → slice_get sessions going.opened.seq ≡ Some s → (s.readers ≡ room.readers) × (s.room ≡ room.cells)

-- a stage: what is known of the path's sessions
pub record KnownAt (set : RxSet) (v : View) (records : List SessionRecord) (stage : RxStage) : Type 0 where
  pub known : KnownBy set v records stage.state
  looked : IsLookedOf stage.state.busy stage.look (v.sessions set.path.0)

grow-refused : (group path number free need : ℕ) (v : View) → (grow (Refused group number free need) v).sessions path ≡ v.sessions path
unfolding grow
grow-refused group path number free need v = refl

-- a look at the room
looks-at : (set : RxSet) (v : View) (records : List SessionRecord) (seq : ℕ) (busy : Reception) (look : Room) → KnownIn set v records seq (Some busy) → IsLookedOf (Some busy) (Some look) ((grow (Asked set.path.0 busy.opened.seq look.cells look.readers) v).sessions set.path.0)
looks-at set v records seq busy look known going room s is answers there =
    let f : Session → Session = λ s. record s { room = look.cells; readers = look.readers } in
    let same_busy : busy ≡ going = cc in
    let same_room : look ≡ room = cc in
    let here : slice_get ((grow (Asked set.path.0 busy.opened.seq look.cells look.readers) v).sessions set.path.0) busy.opened.seq ≡ Some (f known.going.session) =
    ap (λ l. slice_get l busy.opened.seq) (grow-asked set.path.0 busy.opened.seq look.cells look.readers v) ∙ slice_get-change_at busy.opened.seq f (v.sessions set.path.0) known.going.session known.going.there in
    let place : busy.opened.seq ≡ going.opened.seq = ap (λ (b : Reception). b.opened.seq) same_busy in
    let same : Some s ≡ Some (f known.going.session) = sym there ∙ ap (λ n. slice_get ((grow (Asked set.path.0 busy.opened.seq look.cells look.readers) v).sessions set.path.0) n) (sym place) ∙ here in
    let at : s ≡ f known.going.session = cc in
    (ap (λ (x : Session). x.readers) at ∙ ap (λ (r : Room). r.readers) same_room, ap (λ (x : Session). x.room) at ∙ ap (λ (r : Room). r.cells) same_room)

asked : (set : RxSet) (v : View) (records : List SessionRecord) (seq room readers : ℕ) (busy : Reception) → KnownIn set v records seq (Some busy) → KnownIn set (grow (Asked set.path.0 busy.opened.seq room readers) v) records seq (Some busy)
asked set v records seq room readers busy known =
    rw (grow-asked set.path.0 busy.opened.seq room readers v) (known-changed set (v.sessions set.path.0) records seq busy.bytes (filling_of busy) (λ s. record s { room = room; readers = readers }) (λ s. refl)
    (λ s put. record { len_is = put.len_is; told = put.told; shown = put.shown; full = put.full; dests = put.dests }) known)

-- no look
pub unlooked : (busy : Option Reception) (sessions : List Session) → IsLookedOf busy None sessions
unlooked busy sessions going room s is none there = cc

none-read : (set : RxSet) (event : RxEvent) (old : RxStage) (busy : Reception) (result : SessionResult) (sessions : List Session) → old.state.busy ≡ Some busy → EndsAt set event old busy result → IsLookedOf old.state.busy old.look sessions →
    (s : Session) → slice_get sessions busy.opened.seq ≡ Some s → result ≡ NoReaders → s.readers ≡ 0
none-read set event old busy result sessions was at looked s there is = let gone = subst (EndsAt set event old busy) is at in (looked busy gone.0 s was gone.1 there).0 ∙ gone.2

none-fits : (set : RxSet) (event : RxEvent) (old : RxStage) (busy : Reception) (result : SessionResult) (sessions : List Session) → old.state.busy ≡ Some busy → EndsAt set event old busy result → IsLookedOf old.state.busy old.look sessions →
    (s : Session) → slice_get sessions busy.opened.seq ≡ Some s → (room need : ℕ) → result ≡ NoRoom room need → s.room ≡ room
none-fits set event old busy result sessions was at looked s there room need is = let full = subst (EndsAt set event old busy) is at in (looked busy full.0 s was full.1 there).1 ∙ full.3

-- each effect
pub known-effect : (set : RxSet) (event : RxEvent) (tick : ℕ) (old : RxStage) (done : RxDone) (v : View) (records : List SessionRecord) → RxEffect set event tick old done → KnownAt set v records old → KnownAt set (grows done.calls v) (records ++ done.records) done.new
known-effect set event tick old done v records (Refuses e) so =
    let known : KnownIn set v records old.state.seq None = subst (KnownIn set v records old.state.seq) e.of.idle so.known in
    rw (e.calls, e.records, e.new, e.of.idle) (record { known = rw (grow-refused set.group.0 set.path.0 e.number e.free _ v) (known-refused set (v.sessions set.path.0) records old.state.seq None _ refl known); looked = unlooked None _ })
known-effect set event tick old done v records (Opens e) so =
    let known : KnownIn set v records old.state.seq None = subst (KnownIn set v records old.state.seq) e.of.idle so.known in
    rw (e.records, e.new, append-nil) (record { known = opens-so set old.state.next old.state.seq _ e.size tick _ e.opened done.calls v records e.opens known; looked = unlooked _ _ })
known-effect set event tick old done v records (Looks e) so =
    let known : KnownIn set v records old.state.seq (Some e.busy) = subst (KnownIn set v records old.state.seq) e.was so.known in
    rw (e.calls, e.records, e.new, append-nil) (record {
      known = rw e.was (asked set v records old.state.seq e.look.cells e.look.readers e.busy known);
      looked = rw e.was (looks-at set v records old.state.seq e.busy e.look known);
    })
known-effect set event tick old done v records (Puts e) so =
    let known : KnownIn set v records old.state.seq (Some e.busy) = subst (KnownIn set v records old.state.seq) e.was so.known in
    rw (e.calls, e.records, e.new, append-nil) (record { known = known-puts set v records old.state.seq _ (filling_of e.busy) _ e.cells refl e.packed known; looked = unlooked _ _ })
known-effect set event tick old done v records (Waits e) so =
    let known : KnownIn set v records old.state.seq (Some e.busy) = subst (KnownIn set v records old.state.seq) e.was so.known in
    rw (e.calls, e.records, e.new, append-nil) (record { known = known; looked = unlooked _ _ })
known-effect set event tick old done v records (Forgets e) so = rw (e.calls, e.records, e.new, append-nil) (record { known = so.known; looked = so.looked })
known-effect set event tick old done v records (Ends e) so =
    let known : KnownIn set v records old.state.seq (Some e.busy) = subst (KnownIn set v records old.state.seq) e.was so.known in
    rw (e.calls, e.records, e.new) (record {
      known = rw (grow-closed set.path.0 e.busy.opened.seq (freed_by e.left) v)
          (known-closed set (v.sessions set.path.0) records old.state.seq (filling_of e.busy) _ e.busy.opened refl refl refl refl (none-read set event old e.busy e.result (v.sessions set.path.0) e.was e.at so.looked) (none-fits set event old e.busy e.result (v.sessions set.path.0) e.was e.at so.looked) known);
      looked = unlooked None _;
    })

-- a whole run
pub known-sessions : (set : RxSet) (turns : List RxTurn) → HasReceived set turns → KnownBy set (grows (calls_by turns) empty_view) (records_by turns) (state_after rx_new turns)
known-sessions set [] happened = record { number = refl; told = tt; left = λ k s is left. cc; going = tt }
known-sessions set (turn ∷ earlier) happened =
    let Holds : RxStage → List Event → List SessionRecord → Type 0 = λ stage calls records. KnownAt set (grows calls empty_view) records stage in
    let by : IsThrough set turn.event turn.did (λ last. Holds last (calls_by earlier ++ turn.did.calls) (records_by earlier ++ turn.did.records)) =
    step-through set (state_after rx_new earlier) turn.event turn.did Holds
    (λ old done calls records effect so. subst (λ (v : View). KnownAt set v (records ++ done.records) done.new) (sym (grows-append calls done.calls empty_view)) (known-effect set turn.event turn.did.tick old done (grows calls empty_view) records effect so))
    happened.1 (calls_by earlier) (records_by earlier) (record { known = known-sessions set earlier happened.2; looked = unlooked _ _ }) in
    subst (λ (s : RxState). KnownBy set (grows (calls_by earlier ++ turn.did.calls) empty_view) (records_by earlier ++ turn.did.records) s) (sym by.state) by.holds.known

-- at the first stage of a step after them
pub known-first : (set : RxSet) (turns : List RxTurn) → HasReceived set turns → KnownAt set (grows (calls_by turns) empty_view) (records_by turns) (first_stage (state_after rx_new turns))
known-first set turns happened = record { known = known-sessions set turns happened; looked = unlooked _ _ }
