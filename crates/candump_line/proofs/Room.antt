-- The data of a line in a buffer: all of it, or more than there is room for.
use Rattle.std.proofs.Common.{◌≡◌, ℕ, zero, suc, ◌+◌, ◌*◌, ◌≤◌, ◌%◌, eqb, leb, ltb, cond, true, false, Ok, Err, List, [], ◌∷◌, ◌++◌, length, take, drop, refl, ap, ◌∙◌, arith, length-append}
use Rattle.std.specs.List.{prefix_len}
use Rattle.std.proofs.lemmas.Bool.{le-leb, lt-leb, ne_eqb}
use Rattle.std.proofs.lemmas.List.{length-take-le}
use Rattle.candump_line.specs.Steps.{data_within}
use Rattle.candump_line.specs.Fault.{fault_at, ◌>>=◌}
use Rattle.candump_line.specs.Reading.{data_at, hex_bytes, is_hex}
use Rattle.candump_line.specs.declared.fault.LineKind.TheVariants.{BadLength}
use Rattle.candump_line.proofs.Counting.{data_read}

-- the bytes that a buffer holds, where no digit is left
pub data_held : (len : ℕ) (rest buffer left : List ℕ) (size count : ℕ) → prefix_len is_hex rest ≡ 2 * count + prefix_len is_hex left →
    hex_bytes (take (prefix_len is_hex rest) rest) ≡ take count buffer ++ hex_bytes (take (prefix_len is_hex left) left) → left ≡ drop (2 * count) rest → count ≤ size → size ≤ 64 →
    length buffer ≡ size → prefix_len is_hex left ≡ 0 → data_within size len rest ≡ Ok (take count buffer, left)
unfolding data_within
data_held len rest buffer left size count digits bytes_are left_is most few size_is none =
    let long : length (take count buffer) ≡ count = length-take-le count buffer (omega arith) in
    let read : data_at len rest ≡ Ok (take count buffer, left) = data_read len rest (take count buffer) left (rw long digits) bytes_are (rw long left_is) (omega (arith, long)) none in
    let fits : leb (length (take count buffer)) size ≡ true = le-leb (length (take count buffer)) size (omega (arith, long)) in
    rw (read, fits) refl

-- two digits or more write a byte
hex_bytes-some : (rest : List ℕ) (n : ℕ) → 2 ≤ n → n ≤ length rest → 1 ≤ length (hex_bytes (take n rest))
unfolding hex_bytes
hex_bytes-some [] n two fits = absurd (omega arith)
hex_bytes-some (a ∷ []) n two fits = absurd (omega arith)
hex_bytes-some (a ∷ b ∷ rest) zero two fits = absurd (omega arith)
hex_bytes-some (a ∷ b ∷ rest) (suc zero) two fits = absurd (omega arith)
hex_bytes-some (a ∷ b ∷ rest) (suc (suc n)) two fits = omega arith

-- the buffer is full, and pairs of digits are left
pub data_over : (len : ℕ) (rest buffer left : List ℕ) (size count : ℕ) → prefix_len is_hex rest ≡ 2 * count + prefix_len is_hex left →
    hex_bytes (take (prefix_len is_hex rest) rest) ≡ take count buffer ++ hex_bytes (take (prefix_len is_hex left) left) → count ≡ size →
    length buffer ≡ size → prefix_len is_hex left ≤ length left → 2 ≤ prefix_len is_hex left → prefix_len is_hex left % 2 ≡ 0 → data_within size len rest ≡ Err (fault_at len BadLength rest)
unfolding data_within data_at
data_over len rest buffer left size count digits bytes_are full size_is inside two pairs =
    let held : length (take count buffer) ≡ count = length-take-le count buffer (omega arith) in
    let more : 1 ≤ length (hex_bytes (take (prefix_len is_hex left) left)) = hex_bytes-some left (prefix_len is_hex left) two inside in
    let long : length (hex_bytes (take (prefix_len is_hex rest) rest)) ≡ length (take count buffer) + length (hex_bytes (take (prefix_len is_hex left) left)) =
    ap length bytes_are ∙ length-append (take count buffer) (hex_bytes (take (prefix_len is_hex left) left)) in
    let even : eqb (prefix_len is_hex rest % 2) 1 ≡ false = ne_eqb (prefix_len is_hex rest % 2) 1 (λ odd. omega (arith, digits, pairs, odd)) in
    let over : leb (length (hex_bytes (take (prefix_len is_hex rest) rest))) size ≡ false = lt-leb (length (hex_bytes (take (prefix_len is_hex rest) rest))) size (omega (arith, long, held, more)) in
    rw even
    (elim (ltb 128 (prefix_len is_hex rest)) as (λ b. (cond b (Err (fault_at len BadLength rest)) (Ok (hex_bytes (take (prefix_len is_hex rest) rest), drop (prefix_len is_hex rest) rest)) >>= (λ (read : List ℕ × List ℕ). cond (leb (length read.0) size) (Ok read) (Err (fault_at len BadLength rest)))) ≡ Err (fault_at len BadLength rest)) [
      | true ↦ refl
      | false ↦ rw over refl
    ])
