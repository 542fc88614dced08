-- A word of a count, its bytes and zeros is the cell of these bytes.
use Rattle.std.proofs.Common.{◌≡◌, ℕ, ◌+◌, ◌-◌, ◌<◌, ◌≤◌, ◌^◌, zero, suc, List, ◌∷◌, [], ◌++◌, length, get_or, take, drop, refl, ap, ◌∙◌, arith, length-append, add-one}
use Rattle.std.proofs.Math.ListN.{replicate}
use Rattle.std.proofs.lemmas.List.{length-replicate}
use Rattle.std.proofs.lemmas.Nat.{le_bytes_8}
use Rattle.std.proofs.Math.Seq.{drop-append_seam, take-append_seam}
use borrow.Rule.Slice.PartMut.{put_mid}
use Rattle.std.specs.Int.{w64, to_le_bytes, from_le_bytes}
use Rattle.gw_base.specs.Cell.{IsCell, cell_bytes, count_of}

-- the eight bytes of the cell of these bytes
abbrev pub padded : List ℕ → List ℕ
padded bs = length bs ∷ (bs ++ replicate (7 - length bs) 0)

zeros-below : (k i : ℕ) → get_or (replicate k 0) i 0 < 256
zeros-below zero i = omega arith
zeros-below (suc k) zero = omega arith
zeros-below (suc k) (suc i) = zeros-below k i

padded-below : (bs zeros : List ℕ) → ((i : ℕ) → get_or bs i 0 < 256) → ((i : ℕ) → get_or zeros i 0 < 256) → (i : ℕ) → get_or (bs ++ zeros) i 0 < 256
padded-below [] zeros p q i = q i
padded-below (b ∷ bs) zeros p q zero = p 0
padded-below (b ∷ bs) zeros p q (suc i) = padded-below bs zeros (λ j. p (suc j)) q i

with-count : (n : ℕ) (bs : List ℕ) → n < 256 → ((i : ℕ) → get_or bs i 0 < 256) → (i : ℕ) → get_or (n ∷ bs) i 0 < 256
with-count n bs lt p zero = lt
with-count n bs lt p (suc i) = p i

count-is : (bs : List ℕ) (n : ℕ) → to_le_bytes w64 n ≡ padded bs → count_of n ≡ length bs
count-is bs n is = ap (λ l. get_or l 0 0) is

-- the bytes written after the count, into eight zeros
mid-padded : (bs : List ℕ) → length bs ≤ 7 → put_mid 1 (1 + length bs - 1) (length bs ∷ 0 ∷ 0 ∷ 0 ∷ 0 ∷ 0 ∷ 0 ∷ 0 ∷ []) bs ≡ padded bs
mid-padded [] most = refl
mid-padded (a ∷ []) most = refl
mid-padded (a ∷ b ∷ []) most = refl
mid-padded (a ∷ b ∷ c ∷ []) most = refl
mid-padded (a ∷ b ∷ c ∷ d ∷ []) most = refl
mid-padded (a ∷ b ∷ c ∷ d ∷ e ∷ []) most = refl
mid-padded (a ∷ b ∷ c ∷ d ∷ e ∷ f ∷ []) most = refl
mid-padded (a ∷ b ∷ c ∷ d ∷ e ∷ f ∷ g ∷ []) most = refl
mid-padded (a ∷ b ∷ c ∷ d ∷ e ∷ f ∷ g ∷ h ∷ bs) most = absurd (omega arith)

-- the number that these bytes are read as has them as its bytes
pub word-is : (bs part : List ℕ) (n : ℕ) → length bs ≤ 7 → ((i : ℕ) → get_or bs i 0 < 256) → part ≡ bs →
    n ≡ from_le_bytes w64 (put_mid 1 (1 + length bs - 1) (length bs ∷ 0 ∷ 0 ∷ 0 ∷ 0 ∷ 0 ∷ 0 ∷ 0 ∷ []) part) →
    to_le_bytes w64 n ≡ padded bs
word-is bs part n most bytes same is =
    let whole : length (padded bs) ≡ 8 = omega (arith, length-append bs (replicate (7 - length bs) 0), length-replicate {A = ℕ} (7 - length bs) 0) in
    let read : n ≡ from_le_bytes w64 (padded bs) = is ∙ ap (from_le_bytes w64) (ap (put_mid 1 (1 + length bs - 1) (length bs ∷ 0 ∷ 0 ∷ 0 ∷ 0 ∷ 0 ∷ 0 ∷ 0 ∷ [])) same ∙ mid-padded bs most) in
    le_bytes_8 (padded bs) n whole (with-count (length bs) (bs ++ replicate (7 - length bs) 0) (omega arith) (padded-below bs (replicate (7 - length bs) 0) bytes (zeros-below (7 - length bs)))) read

pub cell-word : (bs : List ℕ) (n : ℕ) → 0 < length bs → length bs ≤ 7 → n < 2 ^ 64 → to_le_bytes w64 n ≡ padded bs → IsCell n
cell-word bs n some most fits is =
    let count : count_of n ≡ length bs = count-is bs n is in
    let rest : drop (count_of n + 1) (to_le_bytes w64 n) ≡ replicate (7 - count_of n) 0 = ap (drop (count_of n + 1)) is ∙ rw (count, add-one) (drop-append_seam bs (replicate (7 - length bs) 0)) in
    record { fits = fits; some = omega arith; most = omega arith; rest = rest }

pub cell-word_bytes : (bs : List ℕ) (n : ℕ) → to_le_bytes w64 n ≡ padded bs → cell_bytes n ≡ bs
unfolding cell_bytes
cell-word_bytes bs n is =
    ap (λ l. take (count_of n) (drop 1 l)) is ∙ rw (count-is bs n is) (take-append_seam bs (replicate (7 - length bs) 0))
