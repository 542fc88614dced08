-- What a consecutive frame adds to the attempt of a reception in progress.
use Rattle.std.proofs.Common.{◌≡◌, ◌≢◌, ℕ, ◌<◌, ◌≤◌, List, [], ◌∷◌, ◌++◌, length, take, ap, sym, ◌∙◌, subst, arith}
use Rattle.std.proofs.lemmas.List.{same_from_push}
use Rattle.hub_core.specs.View.{Event}
use Rattle.hub_core.specs.declared.record.SessionRecord.{SessionRecord}
use Rattle.tp_attempts.specs.Attempts.{attempts_in}
use Rattle.tp_attempts.specs.Cuts.{Cut}
use Rattle.tp_attempts.specs.Seen.{Seen}
use Rattle.tp_attempts.specs.Walk.{Walk, walk_of}
use Rattle.tp_attempts.proofs.Walks.{len-walk_of, look-counts, look-long, look-short, look-wrong, walk_of-more}
use Rattle.tp_receiver.specs.State.{Reception}
use Rattle.tp_receiver.specs.Table.{due as busy_due}
use Rattle.tp_receiver.specs.declared.set.RxSet.{RxSet}
use Rattle.tp_unit.specs.Unit.{ConsecutiveFrame}
use Rattle.receiver_law.proofs.records.SoFars.{IsBusy, IsUnderway}
use Rattle.receiver_law.proofs.records.SoFarSteps.{due-is}
use Rattle.receiver_law.proofs.records.Tellings.{with_frame}

-- what is known of the attempt
pub under : (set : RxSet) (next seq : ℕ) (busy : Reception) (calls : List Event) (now : ℕ) (seen : List Seen) (records : List SessionRecord) → IsBusy set next seq busy calls now seen records → (earlier : List (Cut Seen)) (attempt : Cut Seen) →
    attempts_in set.functional seen ≡ earlier ++ attempt ∷ [] → IsUnderway set busy calls now attempt
under set next seq busy calls now seen records so earlier attempt cut =
    let P : Cut Seen → Type 0 = λ a. IsUnderway set busy calls now a in
    subst P ((same_from_push so.earlier earlier so.attempt attempt (sym so.cut ∙ cut)).1) so.underway

-- a consecutive frame of that tick
abbrev pub consecutive_at : (at size number : ℕ) → List ℕ → Seen
consecutive_at at size number bytes = record { at = at; size = size; meaning = ConsecutiveFrame number bytes }

-- it counts
pub walk-counts : (set : RxSet) (busy : Reception) (calls : List Event) (now at size number : ℕ) (bytes : List ℕ) (attempt : Cut Seen) → IsUnderway set busy calls now attempt → busy.bytes < busy.len → size ≤ busy.size → busy_due set.a busy ≤ length bytes → number ≡ busy.number →
    walk_of set.a (with_frame attempt (consecutive_at at size number bytes)) ≡ record (walk_of set.a attempt) { pieces = (walk_of set.a attempt).pieces ++ record { at = at; bytes = take (busy_due set.a busy) bytes } ∷ [] }
walk-counts set busy calls now at size number bytes attempt so left short enough right =
    let w : Walk = walk_of set.a attempt in
    let len : busy.len ≡ w.len = so.len ∙ sym (len-walk_of set.a attempt) in
    walk_of-more set.a attempt (consecutive_at at size number bytes)
    ∙ look-counts set.a w at size number bytes (omega (arith, so.bytes, len, left)) so.right (omega (arith, so.size, short)) (omega (arith, due-is set busy calls now attempt so, enough)) (right ∙ so.number)
    ∙ ap (λ n. record w { pieces = w.pieces ++ record { at = at; bytes = take n bytes } ∷ [] }) (sym (due-is set busy calls now attempt so))

-- its number is wrong
pub walk-ends : (set : RxSet) (busy : Reception) (calls : List Event) (now at size number : ℕ) (bytes : List ℕ) (attempt : Cut Seen) → IsUnderway set busy calls now attempt → busy.bytes < busy.len → size ≤ busy.size → busy_due set.a busy ≤ length bytes → number ≢ busy.number →
    (walk_of set.a (with_frame attempt (consecutive_at at size number bytes))).pieces ≡ (walk_of set.a attempt).pieces
walk-ends set busy calls now at size number bytes attempt so left short enough other =
    let w : Walk = walk_of set.a attempt in
    let len : busy.len ≡ w.len = so.len ∙ sym (len-walk_of set.a attempt) in
    ap (λ (v : Walk). v.pieces) (walk_of-more set.a attempt (consecutive_at at size number bytes)
    ∙ look-wrong set.a w at size number bytes (omega (arith, so.bytes, len, left)) so.right (omega (arith, so.size, short)) (omega (arith, due-is set busy calls now attempt so, enough)) (λ same. other (same ∙ sym so.number)))

-- it is passed over
pub walk-long : (set : RxSet) (busy : Reception) (calls : List Event) (now at size number : ℕ) (bytes : List ℕ) (attempt : Cut Seen) → IsUnderway set busy calls now attempt → busy.size < size →
    (walk_of set.a (with_frame attempt (consecutive_at at size number bytes))).pieces ≡ (walk_of set.a attempt).pieces
walk-long set busy calls now at size number bytes attempt so long =
    ap (λ (v : Walk). v.pieces) (walk_of-more set.a attempt (consecutive_at at size number bytes) ∙ look-long set.a (walk_of set.a attempt) at size (ConsecutiveFrame number bytes) (omega (arith, long, so.size)))

pub walk-short : (set : RxSet) (busy : Reception) (calls : List Event) (now at size number : ℕ) (bytes : List ℕ) (attempt : Cut Seen) → IsUnderway set busy calls now attempt → length bytes < busy_due set.a busy →
    (walk_of set.a (with_frame attempt (consecutive_at at size number bytes))).pieces ≡ (walk_of set.a attempt).pieces
walk-short set busy calls now at size number bytes attempt so short =
    ap (λ (v : Walk). v.pieces) (walk_of-more set.a attempt (consecutive_at at size number bytes) ∙ look-short set.a (walk_of set.a attempt) at size number bytes (omega (arith, short, due-is set busy calls now attempt so)))
