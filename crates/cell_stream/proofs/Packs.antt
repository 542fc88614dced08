-- How far a payload is packed: whole cells, until the last one.
use Rattle.std.proofs.Common.{◌≡◌, ℕ, ◌+◌, ◌-◌, ◌*◌, ◌<◌, ◌≤◌, List, ◌∷◌, [], ◌++◌, length, get_or, take, drop, min, All, refl, ap, sym, ◌∙◌, arith, append_assoc, length-append, length-take, length-drop, inl, inr}
use Rattle.std.proofs.Math.ListN.{get_or-append}
use Rattle.std.proofs.lemmas.Bool.{cases_lt}
use Rattle.std.proofs.lemmas.List.{take-append-drop, append-nil, get_or_push}
use Rattle.std.proofs.lemmas.List.Concat.{flat_map-append}
use Rattle.std.proofs.lemmas.List.Elements.{All-nil, All-push}
use Rattle.gw_base.specs.Cell.{IsCell, cell_bytes, count_of, bytes_of, counted}
use Rattle.gw_base.proofs.Cells.{length-cell_bytes, length-bytes_of}

-- the cells so far and the bytes that are left are the payload; a cell is full where as many bytes were there
pub record PackedTo (bytes cells rest : List ℕ) : Type 0 where
  pub cells_only : All IsCell cells
  pub same_bytes : bytes_of cells ++ rest ≡ bytes
  pub left : length rest ≡ length bytes - 7 * length cells
  pub below : 7 * length cells < length bytes + 7
  pub full : (k : ℕ) → k < length cells → 7 * (k + 1) ≤ length bytes → count_of (get_or cells k 0) ≡ 7

pub packed-none : (bytes cells : List ℕ) → cells ≡ [] → PackedTo bytes cells bytes
packed-none bytes cells none = rw none (record {
  cells_only = All-nil IsCell;
  same_bytes = refl;
  left = omega arith;
  below = omega arith;
  full = λ k lt. absurd (omega arith);
})

-- one more cell, of the next seven bytes or of all that are left
same-bytes : (bytes cells rest : List ℕ) (cell n : ℕ) → cell_bytes cell ≡ take n rest → bytes_of cells ++ rest ≡ bytes →
    bytes_of (cells ++ cell ∷ []) ++ drop n rest ≡ bytes
same-bytes bytes cells rest cell n holds so =
    let one : bytes_of (cells ++ cell ∷ []) ≡ bytes_of cells ++ take n rest = flat_map-append cell_bytes cells (cell ∷ []) ∙ ap (λ l. bytes_of cells ++ l) (append-nil (cell_bytes cell) ∙ holds) in
    rw (one, append_assoc, take-append-drop n rest) so

full-more : (bytes cells rest : List ℕ) (cell n k : ℕ) → n ≡ min (length rest) 7 → length rest ≡ length bytes - 7 * length cells → count_of cell ≡ n →
    ((k : ℕ) → k < length cells → 7 * (k + 1) ≤ length bytes → count_of (get_or cells k 0) ≡ 7) →
    k < length (cells ++ cell ∷ []) → 7 * (k + 1) ≤ length bytes → count_of (get_or (cells ++ cell ∷ []) k 0) ≡ 7
full-more bytes cells rest cell n k size left count full lt enough =
    elim (cases_lt k (length cells)) [
      | inl before ↦ ap count_of (get_or-append cells (cell ∷ []) 0 k before) ∙ full k before enough
      | inr past ↦
          let at : length cells ≡ k = omega (arith, length-append cells (cell ∷ [])) in
          ap count_of (get_or_push cells cell 0 k at) ∙ omega arith
    ]

pub packed-more : (bytes cells rest more later : List ℕ) (cell n : ℕ) → n ≡ min (length rest) 7 → 0 < length rest → IsCell cell →
    cell_bytes cell ≡ take n rest → PackedTo bytes cells rest → more ≡ cells ++ cell ∷ [] → later ≡ drop n rest → PackedTo bytes more later
packed-more bytes cells rest more later cell n size some is holds so grown cut =
    let count : count_of cell ≡ n = sym (length-cell_bytes cell is) ∙ ap length holds ∙ length-take n rest ∙ omega arith in
    rw (grown, cut) (record {
      cells_only = All-push IsCell cells cell so.cells_only is;
      same_bytes = same-bytes bytes cells rest cell n holds so.same_bytes;
      left = omega (arith, length-drop n rest, length-append cells (cell ∷ []), so.left, so.below);
      below = omega (arith, length-append cells (cell ∷ []), so.left, so.below);
      full = λ k. full-more bytes cells rest cell n k size so.left count so.full;
    })

pub packed-counted : (bytes cells rest : List ℕ) → length rest ≡ 0 → PackedTo bytes cells rest → counted cells ≡ length bytes
packed-counted bytes cells rest none so =
    omega (arith, length-bytes_of cells so.cells_only, length-append (bytes_of cells) rest, ap length so.same_bytes)
