-- The free set after lawful moves: it has every buffer whose last move isn't a take.
use Rattle.std.proofs.Common.{◌≡◌, ◌≢◌, ◌⊎◌, ℕ, ◌+◌, ◌-◌, ◌*◌, ◌^◌, ◌<◌, ◌≤◌, ◌==◌, zero, suc, Bool, true, false, cond, Some, List, [], ◌∷◌, length, map, inl, inr, refl, ap, sym, ◌∙◌, subst, arith}
use Rattle.std.specs.Prelude.{IsBitSet}
use Rattle.std.specs.Int.{bit_at}
use Rattle.std.specs.Int.Bits.{bit_xor, xor_add_and}
use Rattle.std.proofs.lemmas.Bool.Decides.{eqb_tells}
use Rattle.std.proofs.lemmas.Nat.{pow_pos}
use Rattle.std.proofs.lemmas.Nat.Bits.{and_pow, bit_at-lt, bit_at-pow_other, bit_at-pow_same, bit_at_ones, bit_at_xor}
use Rattle.hub_core.specs.Groups.{place_of, sizes_of}
use Rattle.hub_core.specs.declared.record.Move.{Move}
use Rattle.gw_law.specs.Pool.{Channel, AreFreed, AreNamed, IsLawfulMove, IsReplayed, MovesBuf, free_after, free_at, move_numbered}
use Rattle.receiver_law.specs.Source.{CountsFrom}

-- a bit is set where its digit is 1
is-one : (n k : ℕ) → IsBitSet n k → bit_at n k ≡ 1
is-one n k is = elim (eqb_tells (bit_at n k) 0) [
  | inl none ↦ absurd (is (omega (arith, and_pow n k ∙ ap (λ d. d * 2 ^ k) none.1)))
  | inr some ↦ omega (arith, bit_at-lt n k, some.1)
]

is-set : (n k : ℕ) → bit_at n k ≡ 1 → IsBitSet n k
is-set n k is none = absurd (omega (arith, pow_pos k, and_pow n k ∙ ap (λ d. d * 2 ^ k) is, none))

is-zero : (n k : ℕ) → (IsBitSet n k → ⊥) → bit_at n k ≡ 0
is-zero n k none = elim (eqb_tells (bit_at n k) 0) [
  | inl none_set ↦ none_set.1
  | inr some ↦ absurd (none (is-set n k (omega (arith, bit_at-lt n k, some.1))))
]

-- a lawful move turns the bit of its buffer
turned : (sizes : List ℕ) (free : ℕ) (move : Move) (took : Bool) → move.took ≡ took → IsLawfulMove sizes free move → free_after (Some move) free ≡ bit_xor free (2 ^ move.buf.0)
turned sizes free move true is lawful =
    rw is (omega (arith, xor_add_and free (2 ^ move.buf.0), and_pow free move.buf.0 ∙ ap (λ d. d * 2 ^ move.buf.0) (is-one free move.buf.0 (lawful.kind.0 is))))
turned sizes free move false is lawful =
    rw is (omega (arith, xor_add_and free (2 ^ move.buf.0), and_pow free move.buf.0 ∙ ap (λ d. d * 2 ^ move.buf.0) (is-zero free move.buf.0 (λ set. let both : true ≡ false = sym (lawful.kind.1 set) ∙ is in absurd cc))))

-- the last move of a buffer, of those up to a number, is a take
record IsOut (moves : List Move) (buf number : ℕ) : Type 0 where
  taken : ℕ
  move : Move
  is : move_numbered moves taken ≡ Some move
  took : move.took ≡ true
  last : (other : ℕ) → MovesBuf moves buf other → other ≤ number → other ≤ taken
  buf_is : move.buf.0 ≡ buf

abbrev IsFreeOrOut : List ℕ → List Move → (buf number : ℕ) → Type 0
IsFreeOrOut sizes moves buf number = IsBitSet (free_at sizes moves number) buf ⊎ IsOut moves buf number

-- one more move: of this buffer, or of another one
own-move : (sizes : List ℕ) (moves : List Move) (number : ℕ) (move : Move) (took : Bool) → move.took ≡ took → move_numbered moves (suc number) ≡ Some move → IsLawfulMove sizes (free_at sizes moves number) move →
    free_at sizes moves (suc number) ≡ bit_xor (free_at sizes moves number) (2 ^ move.buf.0) → IsFreeOrOut sizes moves move.buf.0 (suc number)
own-move sizes moves number move true is there lawful turn = inr (record { taken = suc number; move = move; is = there; took = is; last = λ other here le. le; buf_is = refl })
own-move sizes moves number move false is there lawful turn =
    let buf : ℕ = move.buf.0 in
    let free : ℕ = free_at sizes moves number in
    let none : bit_at free buf ≡ 0 = is-zero free buf (λ set. let both : true ≡ false = sym (lawful.kind.1 set) ∙ is in absurd cc) in
    let P : ℕ → Type 0 = λ f. IsBitSet f buf in
    inl (subst P (sym turn) (is-set (bit_xor free (2 ^ buf)) buf (bit_at_xor free (2 ^ buf) buf ∙ rw (none, bit_at-pow_same buf) refl)))

other-move : (sizes : List ℕ) (moves : List Move) (buf number : ℕ) (move : Move) → buf ≢ move.buf.0 → move_numbered moves (suc number) ≡ Some move → free_at sizes moves (suc number) ≡ bit_xor (free_at sizes moves number) (2 ^ move.buf.0) →
    IsFreeOrOut sizes moves buf number → IsFreeOrOut sizes moves buf (suc number)
other-move sizes moves buf number move ne there turn (inl set) =
    let free : ℕ = free_at sizes moves number in
    let P : ℕ → Type 0 = λ f. IsBitSet f buf in
    inl (subst P (sym turn) (is-set (bit_xor free (2 ^ move.buf.0)) buf (bit_at_xor free (2 ^ move.buf.0) buf ∙ rw (is-one free buf set, bit_at-pow_other move.buf.0 buf ne) refl)))
other-move sizes moves buf number move ne there turn (inr out) = inr (record {
  taken = out.taken;
  move = out.move;
  is = out.is;
  took = out.took;
  last = λ other here le. elim (eqb_tells other (suc number)) [
    | inl same ↦
        let one : Some here.0 ≡ Some move = sym here.1 ∙ ap (move_numbered moves) same.1 ∙ there in
        let equal : here.0 ≡ move = cc in
        absurd (ne (sym here.2 ∙ ap (λ (m : Move). m.buf.0) equal))
    | inr before ↦ out.last other here (omega (arith, le, before.1))
  ];
  buf_is = out.buf_is;
})

free-or-out : (sizes : List ℕ) (count free : ℕ) (moves : List Move) (buf number : ℕ) → IsReplayed sizes count free moves → buf < length sizes → number ≤ count → IsFreeOrOut sizes moves buf number
free-or-out sizes count free moves buf zero replayed there le = inl (is-set (2 ^ length sizes - 1) buf (bit_at_ones (length sizes) buf there))
free-or-out sizes count free moves buf (suc number) replayed there le =
    let one = replayed.each number (omega (arith, le)) in
    let next : number + 1 ≡ suc number = omega arith in
    let is : move_numbered moves (suc number) ≡ Some one.0 = ap (move_numbered moves) (sym next) ∙ one.1 in
    let turn : free_at sizes moves (suc number) ≡ bit_xor (free_at sizes moves number) (2 ^ one.0.buf.0) =
    ap (λ m. free_after m (free_at sizes moves number)) is ∙ turned sizes (free_at sizes moves number) one.0 one.0.took refl one.2 in
    elim (eqb_tells buf one.0.buf.0) [
      | inl same ↦ let P : ℕ → Type 0 = λ b. IsFreeOrOut sizes moves b (suc number) in subst P (sym same.1) (own-move sizes moves number one.0 one.0.took refl is one.2 turn)
      | inr other ↦ other-move sizes moves buf number one.0 other.1 is turn (free-or-out sizes count free moves buf number replayed there (omega (arith, le)))
    ]

-- a move's number is at most their count
numbered-by : (first number : ℕ) (x move : Move) (moves : List Move) (same : Bool) → (x.change == number) ≡ same → x.change ≡ first → (move_numbered moves number ≡ Some move → number < (first + 1) + length moves) →
    cond same (Some x) (move_numbered moves number) ≡ Some move → number < first + suc (length moves)
numbered-by first number x move moves same test at later there = elim (eqb_tells x.change number) [
  | inl is ↦ omega (arith, is.1, at)
  | inr other ↦ let no : same ≡ false = sym test ∙ other.0 in let P : Bool → Type 0 = λ b. cond b (Some x) (move_numbered moves number) ≡ Some move in omega (arith, later (subst P no there))
]

numbered-le : (first number : ℕ) (moves : List Move) (move : Move) → CountsFrom first (map (λ (m : Move). m.change) moves) → move_numbered moves number ≡ Some move → number < first + length moves
numbered-le first number [] move counts there = absurd cc
numbered-le first number (x ∷ moves) move counts there =
    numbered-by first number x move moves (x.change == number) refl counts.0 (λ is. numbered-le (first + 1) number moves move counts.1 is) there

-- where each take has its free, every buffer is free in the end
pub whole-again : (groups : List (List ℕ)) (group count free : ℕ) (channels : List Channel) (moves : List Move) → IsReplayed (sizes_of groups group) count free moves → AreFreed groups channels moves → AreNamed groups channels moves → (buf : ℕ) → buf < length (sizes_of groups group) → IsBitSet free buf
whole-again groups group count free channels moves replayed freed named buf there = elim (free-or-out (sizes_of groups group) count free moves buf count replayed there (omega arith)) [
  | inl set ↦ let P : ℕ → Type 0 = λ f. IsBitSet f buf in subst P (sym replayed.free_is) set
  | inr out ↦
      let by = named out.taken out.move out.is out.took in
      let next = freed by.chan by.place by.opened by.is in
      let same : place_of groups by.opened.buf.0 ≡ buf = ap (λ b. b.0) by.buf_is ∙ out.buf_is in
      let here = next.1.moves_buf in
      let within = numbered-le 1 next.0 moves here.0 replayed.numbered here.1 in
      absurd (omega (arith, out.last next.0 (here.0, here.1, here.2 ∙ same) (omega (arith, within, replayed.count_is)), next.1.after, by.change_is))
]
