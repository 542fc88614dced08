-- How each part of a step changes what a receiver's records say so far.
use Rattle.std.proofs.Common.{◌≡◌, ◌≢◌, ℕ, ◌+◌, ◌%◌, ◌<◌, ◌≤◌, ◌↔◌, Bool, true, false, Some, List, [], ◌∷◌, ◌++◌, fold, length, map, take, refl, ap, sym, ◌∙◌, subst, arith, append-nil, take_all}
use Rattle.tp_receiver.specs.State.{Reception}
use Rattle.tp_receiver.specs.Table.{ended, refused, gone_on, due as busy_due, begun as busy_begun}
use Rattle.std.specs.List.{AllByRecursion}
use Rattle.std.proofs.lemmas.List.{length-append, length-map, map-append}
use Rattle.std.proofs.lemmas.Grind.{flat_map-append}
use Rattle.hub_core.specs.View.{Event}
use Rattle.hub_core.specs.declared.record.OpenedAt.{OpenedAt}
use Rattle.hub_core.specs.declared.record.SessionRecord.{SessionRecord}
use Rattle.hub_core.specs.declared.record.SessionResult.{SessionResult}
use Rattle.hub_core.specs.declared.record.SessionResult.TheVariants.{Whole, WrongSn}
use Rattle.tp_attempts.specs.Attempts.{attempts_in}
use Rattle.tp_attempts.specs.Cuts.{Cut}
use Rattle.tp_attempts.specs.Seen.{Seen, is_start, len_of, bytes_of}
use Rattle.tp_attempts.specs.Walk.{Piece, Walk, Wrong, begun as begun_walk, due, due_number, joined, look, walk_of, reassembled}
use Rattle.tp_attempts.proofs.Cuts.{cuts-begin, cuts-more}
use Rattle.tp_attempts.proofs.Walks.{walk_of-more, joined-more, len-walk_of, look-counts, look-wrong}
use Rattle.tp_receiver.specs.declared.set.RxSet.{RxSet}
use Rattle.tp_unit.specs.Unit.{ConsecutiveFrame}
use Rattle.receiver_law.specs.Source.{CountsFrom, is_overflow, opened_by, sessions_in}
use Rattle.receiver_law.proofs.sessions.Stores.{store, Adds}
use Rattle.receiver_law.proofs.records.Tellings.{TellsPut, counts-push, looked, with_frame}
use Rattle.gw_base.proofs.Lists.{all-push, all-weaker, none-some, zip-push}
use Rattle.receiver_law.proofs.records.SoFars.{IsOver, AreTold, IsIdle, IsUnderway, IsBusy, told-later}

-- clashes
differ : {b : Bool} → b ≡ false → b ≡ true → ⊥
differ other is = cc

next-number : (n : ℕ) → (n % 16 + 1) % 16 ≡ (n + 1) % 16
next-number n = omega arith

-- one attempt more is told
told-push : (set : RxSet) (calls : List Event) (now : ℕ) (attempts : List (Cut Seen)) (records : List SessionRecord) (attempt : Cut Seen) (told : SessionRecord) → AreTold set calls now attempts records →
    TellsPut set.chan.0 set.a (store set.path.0 calls) attempt told → told.n ≡ length records → told.end.0 ≤ now → CountsFrom 0 (sessions_in records ++ opened_by told) →
    ((opened : OpenedAt) → told.opened ≡ Some opened → opened.seq < length (sessions_in records ++ opened_by told)) → AreTold set calls now (attempts ++ attempt ∷ []) (records ++ told ∷ [])
told-push set calls now attempts records attempt told so tells n ended counts below =
    let sessions : sessions_in (records ++ told ∷ []) ≡ sessions_in records ++ opened_by told = flat_map-append opened_by records (told ∷ []) ∙ ap (λ xs. sessions_in records ++ xs) (append-nil (opened_by told)) in
    let more : length (sessions_in records) ≤ length (sessions_in (records ++ told ∷ [])) = rw (sessions, length-append) (omega arith) in
    record {
      tells = zip-push (TellsPut set.chan.0 set.a (store set.path.0 calls)) attempts records attempt told so.tells tells;
      numbers = rw (map-append) (counts-push 0 told.n (map (λ (r : SessionRecord). r.n) records) so.numbers (rw length-map (omega (arith, n))));
      sessions = rw sessions counts;
      over = all-push (IsOver now (length (sessions_in (records ++ told ∷ [])))) records told
          (all-weaker (IsOver now (length (sessions_in records))) (IsOver now (length (sessions_in (records ++ told ∷ [])))) records (λ r over. record { ended = over.ended; below = λ opened at. omega (arith, over.below opened at, more) }) so.over)
          (record { ended = ended; below = λ opened at. rw sessions (below opened at) });
    }

-- an attempt's walk has its start's piece
pub pieces-some : (address : ℕ) (attempt : Cut Seen) → 0 < length (walk_of address attempt).pieces
pieces-some address attempt = looks-some address attempt.after (begun_walk attempt.start) (omega arith)
  where
    looks-some : (address : ℕ) (frames : List Seen) (walk : Walk) → 0 < length walk.pieces → 0 < length (fold (look address) walk frames).pieces
    looks-some address [] walk some = some
    looks-some address (frame ∷ frames) walk some =
        let on = looked address walk frame.at frame.size frame.meaning in
        looks-some address frames (look address walk frame) (omega (arith, ap length on.pieces, length-append walk.pieces on.more, some))

-- what the record of a reception that ends says
tells-ended : (set : RxSet) (busy : Reception) (how : SessionResult) (calls : List Event) (now : ℕ) (attempt : Cut Seen) → busy.len ≡ len_of attempt.start.meaning → busy.begin ≡ attempt.start.at → busy.begin ≤ now →
    busy.bytes ≡ length (reassembled set.a attempt) → AllByRecursion (λ (piece : Piece). piece.at ≤ now) (walk_of set.a attempt).pieces → store set.path.0 calls busy.opened.seq ≡ reassembled set.a attempt →
    is_overflow how ≡ false → (how ≡ Whole) ↔ (busy.bytes ≡ busy.len) → ((want got : ℕ) → how ≡ WrongSn want got → (walk_of set.a attempt).wrong ≡ Some (record { at = now; want = want; got = got })) →
    ((wrong : Wrong) → (walk_of set.a attempt).wrong ≡ Some wrong → now ≤ wrong.at) → TellsPut set.chan.0 set.a (store set.path.0 calls) attempt (ended set busy how now)
tells-ended set busy how calls now attempt len begin by bytes early puts other whole wrong passed = (
  record {
    chan_is = refl;
    len = len;
    begin = begin;
    order = by;
    opens = rw other refl;
    overflow = λ is. absurd (differ other is);
    covers = λ is. record {
      first = (walk_of set.a attempt).pieces;
      rest = [];
      all = sym (append-nil (walk_of set.a attempt).pieces);
      some = pieces-some set.a attempt;
      sum = bytes;
      none_above = early;
      all_below = tt;
    };
    whole = λ is. whole;
    within = omega (arith, bytes);
    wrong = λ want got is. (bytes, wrong want got is);
    none_passed = passed;
  },
  λ opened at. let same : busy.opened ≡ opened = cc in ap (λ (o : OpenedAt). store set.path.0 calls o.seq) (sym same) ∙ puts ∙ sym (take_all busy.bytes (reassembled set.a attempt) (omega (arith, bytes))),
)

-- a reception that ends so, by its record
over-ends : (set : RxSet) (next seq : ℕ) (busy : Reception) (how : SessionResult) (calls : List Event) (now : ℕ) (seen : List Seen) (records : List SessionRecord) (earlier : List (Cut Seen)) (attempt : Cut Seen) →
    attempts_in set.functional seen ≡ earlier ++ attempt ∷ [] → AreTold set calls now earlier records → busy.n ≡ length records → next ≡ length records + 1 → busy.opened.seq ≡ length (sessions_in records) → seq ≡ length (sessions_in records) + 1 →
    ((number : ℕ) → seq ≤ number → store set.path.0 calls number ≡ []) → TellsPut set.chan.0 set.a (store set.path.0 calls) attempt (ended set busy how now) → IsIdle set next seq calls now seen (records ++ ended set busy how now ∷ [])
over-ends set next seq busy how calls now seen records earlier attempt cut told n next_is at seq_is fresh tells =
    let r : SessionRecord = ended set busy how now in
    let P : List (Cut Seen) → Type 0 = λ attempts. AreTold set calls now attempts (records ++ r ∷ []) in
    let sessions : sessions_in (records ++ r ∷ []) ≡ sessions_in records ++ busy.opened.seq ∷ [] = flat_map-append opened_by records (r ∷ []) in
    record {
      told = subst P (sym cut) (told-push set calls now earlier records attempt r told tells n (omega arith) (counts-push 0 busy.opened.seq (sessions_in records) told.sessions (omega (arith, at)))
          (λ opened is. let same : busy.opened ≡ opened = cc in rw length-append (omega (arith, at, ap (λ (o : OpenedAt). o.seq) same))));
      next_is = rw length-append (omega (arith, next_is));
      seq_is = rw (sessions, length-append) (omega (arith, seq_is));
      fresh = fresh;
    }

-- a reception ends, not by a wrong number
pub closes : (set : RxSet) (next seq : ℕ) (busy : Reception) (how : SessionResult) (calls : List Event) (now : ℕ) (seen : List Seen) (records : List SessionRecord) → IsBusy set next seq busy calls now seen records →
    is_overflow how ≡ false → (how ≡ Whole) ↔ (busy.bytes ≡ busy.len) → ((want got : ℕ) → how ≡ WrongSn want got → ⊥) → IsIdle set next seq calls now seen (records ++ ended set busy how now ∷ [])
closes set next seq busy how calls now seen records so other whole right =
    over-ends set next seq busy how calls now seen records so.earlier so.attempt so.cut so.told so.n_is so.next_is so.at_is so.seq_is so.fresh
    (tells-ended set busy how calls now so.attempt so.underway.len so.underway.begin so.underway.by so.underway.bytes so.underway.early so.underway.puts other whole (λ want got is. absurd (right want got is)) (λ wrong is. absurd (none-some so.underway.right is)))

-- the bytes that are due, by the reception and by the attempt
pub due-is : (set : RxSet) (busy : Reception) (calls : List Event) (now : ℕ) (attempt : Cut Seen) → IsUnderway set busy calls now attempt → busy_due set.a busy ≡ due set.a (walk_of set.a attempt)
due-is set busy calls now attempt so =
    let len : busy.len ≡ (walk_of set.a attempt).len = so.len ∙ sym (len-walk_of set.a attempt) in
    rw (so.size, so.bytes, len) refl

-- a reception ends by a wrong number
pub closes-wrong : (set : RxSet) (next seq : ℕ) (busy : Reception) (calls : List Event) (at size number : ℕ) (bytes : List ℕ) (seen : List Seen) (records : List SessionRecord) → IsBusy set next seq busy calls at seen records → busy.bytes < busy.len →
    size ≤ busy.size → busy_due set.a busy ≤ length bytes → number ≢ busy.number →
    IsIdle set next seq calls at (seen ++ record { at = at; size = size; meaning = ConsecutiveFrame number bytes } ∷ []) (records ++ ended set busy (WrongSn busy.number number) at ∷ [])
closes-wrong set next seq busy calls at size number bytes seen records so more short enough other =
    let frame : Seen = record { at = at; size = size; meaning = ConsecutiveFrame number bytes } in
    let w : Walk = walk_of set.a so.attempt in
    let len : busy.len ≡ w.len = so.underway.len ∙ sym (len-walk_of set.a so.attempt) in
    let wrong : Wrong = record { at = at; want = due_number w; got = number } in
    let is : walk_of set.a (with_frame so.attempt frame) ≡ record w { wrong = Some wrong } = walk_of-more set.a so.attempt frame ∙ look-wrong set.a w at size number bytes (omega (arith, so.underway.bytes, len, more)) so.underway.right (omega (arith, so.underway.size, short)) (omega (arith, due-is set busy calls at so.attempt so.underway, enough)) (λ same. other (same ∙ sym so.underway.number)) in
    over-ends set next seq busy (WrongSn busy.number number) calls at (seen ++ frame ∷ []) records so.earlier (with_frame so.attempt frame)
    (cuts-more (λ (s : Seen). is_start set.functional s.meaning) seen frame so.earlier so.attempt refl so.cut) so.told so.n_is so.next_is so.at_is so.seq_is so.fresh
    (tells-ended set busy (WrongSn busy.number number) calls at (with_frame so.attempt frame) so.underway.len so.underway.begin so.underway.by
    (so.underway.bytes ∙ ap (λ (v : Walk). length (joined v.pieces)) (sym is)) (let P : Walk → Type 0 = λ v. AllByRecursion (λ (piece : Piece). piece.at ≤ at) v.pieces in subst P (sym is) so.underway.early) (so.underway.puts ∙ ap (λ (v : Walk). joined v.pieces) (sym is))
    refl ((λ whole. cc), (λ same. absurd (omega (arith, same, more))))
    (λ want got same. ap (λ (v : Walk). v.wrong) is ∙ (let wants : busy.number ≡ want = cc in let gots : number ≡ got = cc in rw (← wants, ← gots, so.underway.number) refl))
    (λ passed stands. let same : Some wrong ≡ Some passed = sym (ap (λ (v : Walk). v.wrong) is) ∙ stands in let eq : wrong ≡ passed = cc in omega (arith, ap (λ (x : Wrong). x.at) eq)))

-- a consecutive frame counts, and its bytes are put
pub goes-on : (set : RxSet) (next seq : ℕ) (busy : Reception) (calls more : List Event) (at size number : ℕ) (bytes : List ℕ) (seen : List Seen) (records : List SessionRecord) → IsBusy set next seq busy calls at seen records → busy.bytes < busy.len →
    size ≤ busy.size → busy_due set.a busy ≤ length bytes → number ≡ busy.number → Adds set.path.0 calls more busy.opened.seq (take (busy_due set.a busy) bytes) →
    IsBusy set next seq (gone_on busy (length (take (busy_due set.a busy) bytes)) at) (calls ++ more) at (seen ++ record { at = at; size = size; meaning = ConsecutiveFrame number bytes } ∷ []) records
goes-on set next seq busy calls more at size number bytes seen records so left short enough right adds =
    let frame : Seen = record { at = at; size = size; meaning = ConsecutiveFrame number bytes } in
    let w : Walk = walk_of set.a so.attempt in
    let len : busy.len ≡ w.len = so.underway.len ∙ sym (len-walk_of set.a so.attempt) in
    let same : busy_due set.a busy ≡ due set.a w = due-is set busy calls at so.attempt so.underway in
    let piece : Piece = record { at = at; bytes = take (busy_due set.a busy) bytes } in
    let is : walk_of set.a (with_frame so.attempt frame) ≡ record w { pieces = w.pieces ++ piece ∷ [] } = walk_of-more set.a so.attempt frame
    ∙ look-counts set.a w at size number bytes (omega (arith, so.underway.bytes, len, left)) so.underway.right (omega (arith, so.underway.size, short)) (omega (arith, same, enough)) (right ∙ so.underway.number)
    ∙ ap (λ n. record w { pieces = w.pieces ++ record { at = at; bytes = take n bytes } ∷ [] }) (sym same) in
    let all : reassembled set.a (with_frame so.attempt frame) ≡ reassembled set.a so.attempt ++ take (busy_due set.a busy) bytes = ap (λ (v : Walk). joined v.pieces) is ∙ joined-more w.pieces piece in
    record {
      earlier = so.earlier;
      attempt = with_frame so.attempt frame;
      cut = cuts-more (λ (s : Seen). is_start set.functional s.meaning) seen frame so.earlier so.attempt refl so.cut;
      told = told-later set calls (calls ++ more) at at so.earlier records (omega arith) (λ other below. adds.others other (λ is_it. absurd (omega (arith, is_it, so.at_is, below)))) so.told;
      n_is = so.n_is;
      next_is = so.next_is;
      at_is = so.at_is;
      seq_is = so.seq_is;
      fresh = λ other above. adds.others other (λ is_it. absurd (omega (arith, is_it, so.at_is, so.seq_is, above))) ∙ so.fresh other above;
      underway = record {
        len = so.underway.len;
        begin = so.underway.begin;
        by = so.underway.by;
        size = so.underway.size ∙ ap (λ (v : Walk). v.size) (sym is);
        bytes = rw (all, length-append) (omega (arith, so.underway.bytes));
        number = ap (λ n. (n + 1) % 16) so.underway.number ∙ next-number (length w.pieces) ∙ ap (λ n. n % 16) (sym (ap (λ (v : Walk). length v.pieces) is ∙ length-append w.pieces (piece ∷ [])));
        right = ap (λ (v : Walk). v.wrong) is ∙ so.underway.right;
        early = let P : Walk → Type 0 = λ v. AllByRecursion (λ (p : Piece). p.at ≤ at) v.pieces in subst P (sym is) (all-push (λ (p : Piece). p.at ≤ at) w.pieces piece so.underway.early (omega arith));
        puts = adds.same ∙ ap (λ b. b ++ take (busy_due set.a busy) bytes) so.underway.puts ∙ sym all;
      };
    }

-- a start begins a reception
pub begins : (set : RxSet) (next seq len size : ℕ) (opened : OpenedAt) (calls more : List Event) (seen : List Seen) (records : List SessionRecord) (frame : Seen) → is_start set.functional frame.meaning ≡ true → len ≡ len_of frame.meaning → size ≡ frame.size → opened.seq ≡ seq →
    Adds set.path.0 calls more seq (bytes_of frame.meaning) → IsIdle set next seq calls frame.at seen records →
    IsBusy set (next + 1) (seq + 1) (busy_begun next len size (length (bytes_of frame.meaning)) frame.at opened) (calls ++ more) frame.at (seen ++ frame ∷ []) records
begins set next seq len size opened calls more seen records frame start len_is size_is seq_same adds so =
    let all : reassembled set.a (record { start = frame; after = [] }) ≡ bytes_of frame.meaning = append-nil (bytes_of frame.meaning) in
    record {
      earlier = attempts_in set.functional seen;
      attempt = record { start = frame; after = [] };
      cut = cuts-begin (λ (s : Seen). is_start set.functional s.meaning) seen frame start;
      told = told-later set calls (calls ++ more) frame.at frame.at (attempts_in set.functional seen) records (omega arith) (λ other below. adds.others other (λ is_it. absurd (omega (arith, is_it, so.seq_is, below)))) so.told;
      n_is = so.next_is;
      next_is = omega (arith, so.next_is);
      at_is = seq_same ∙ so.seq_is;
      seq_is = omega (arith, so.seq_is);
      fresh = λ other above. adds.others other (λ is_it. absurd (omega (arith, is_it, above))) ∙ so.fresh other (omega (arith, above));
      underway = record {
        len = len_is;
        begin = refl;
        by = omega arith;
        size = size_is;
        bytes = ap length (sym all);
        number = refl;
        right = refl;
        early = (omega arith, tt);
        puts = ap (store set.path.0 (calls ++ more)) seq_same ∙ adds.same ∙ ap (λ b. b ++ bytes_of frame.meaning) (so.fresh seq (omega arith)) ∙ sym all;
      };
    }

-- a start finds no buffer
pub overflows : (set : RxSet) (next seq len number free need : ℕ) (calls : List Event) (seen : List Seen) (records : List SessionRecord) (frame : Seen) → is_start set.functional frame.meaning ≡ true → len ≡ len_of frame.meaning → IsIdle set next seq calls frame.at seen records →
    IsIdle set (next + 1) seq calls frame.at (seen ++ frame ∷ []) (records ++ refused set next len frame.at number free need ∷ [])
overflows set next seq len number free need calls seen records frame start len_is so =
    let r : SessionRecord = refused set next len frame.at number free need in
    let P : List (Cut Seen) → Type 0 = λ attempts. AreTold set calls frame.at attempts (records ++ r ∷ []) in
    let sessions : sessions_in (records ++ r ∷ []) ≡ sessions_in records = flat_map-append opened_by records (r ∷ []) ∙ append-nil (sessions_in records) in
    record {
      told = subst P (sym (cuts-begin (λ (s : Seen). is_start set.functional s.meaning) seen frame start)) (told-push set calls frame.at (attempts_in set.functional seen) records (record { start = frame; after = [] }) r so.told (
        record {
          chan_is = refl;
          len = len_is;
          begin = refl;
          order = omega arith;
          opens = refl;
          overflow = λ is. (refl, refl);
          covers = λ is. cc;
          whole = λ is. cc;
          within = omega arith;
          wrong = λ want got is. cc;
          none_passed = λ wrong is. cc;
        },
        λ opened is. cc,
      )
          so.next_is (omega arith) (rw append-nil so.told.sessions) (λ opened is. cc));
      next_is = rw length-append (omega (arith, so.next_is));
      seq_is = so.seq_is ∙ ap length (sym sessions);
      fresh = so.fresh;
    }
