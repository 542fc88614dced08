-- A number's digits at the end of a field of zeros.
use Rattle.std.proofs.Common.{◌≡◌, ℕ, ◌+◌, ◌-◌, ◌≤◌, List, ◌++◌, length, take, drop, min, refl, ap, sym, ◌∙◌, arith}
use Rattle.std.proofs.Math.ListN.{replicate}
use Rattle.std.proofs.lemmas.List.{drop-replicate, take-replicate, length-replicate, take-append-drop, drop-append-le}
use Rattle.std.proofs.Math.Seq.{take-length}

-- as many items as there are make the whole list
pub take-whole : (n : ℕ) (xs : List ℕ) → length xs ≡ n → take n xs ≡ xs
take-whole n xs all = rw (← all) (take-length xs)

-- where a text ends a field of zeros, dropping the zeros past a width leaves the padded text
pub drop-field : (field text : List ℕ) (start width most : ℕ) → width ≤ most → start + length text ≡ most →
    take start field ≡ take start (replicate most 48) → drop start field ≡ text →
    drop (min start (most - width)) field ≡ replicate (width - length text) 48 ++ text
drop-field field text start width most fits ends before after =
    let zeros : take start field ≡ replicate start 48 = before ∙ take-replicate start most 48 (omega arith) in
    let whole : field ≡ replicate start 48 ++ text = sym (take-append-drop start field) ∙ let split : take start field ++ drop start field ≡ replicate start 48 ++ text = rw (zeros, after) refl in split in
    let inside : min start (most - width) ≤ length (replicate start 48) = rw length-replicate (omega arith) in
    let count : start - min start (most - width) ≡ width - length text = omega arith in
    ap (drop (min start (most - width))) whole ∙ drop-append-le (min start (most - width)) (replicate start 48) text inside ∙ rw (drop-replicate, count) refl
