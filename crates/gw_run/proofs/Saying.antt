-- A whole text that is said piece by piece.
use Rattle.std.proofs.Common.{◌≡◌, ℕ, ◌+◌, ◌-◌, ◌≤◌, Bool, true, List, ◌++◌, length, take, drop, Ok, sym, ◌∙◌, ap, append_assoc, length-drop, arith}
use Rattle.std.proofs.Math.Seq.{take-add}
use Rattle.gw_depot.specs.Files.{SaysPiece}

-- so many bytes of the text were said
pub record Said (told : Bool) (old new text : List ℕ) (done : ℕ) : Type 0 where
  pub within : done ≤ length text
  pub content : told ≡ true → new ≡ old ++ take done text

pub said_more : {E : Type 0} (told : Bool) (old mid new text : List ℕ) (done count : ℕ) →
    Said told old mid text done → (piece : List ℕ) → piece ≡ drop done text → count ≤ length piece →
    (told ≡ true → SaysPiece {E = E} mid new piece (Ok count)) → Said told old new text (done + count)
said_more told old mid new text done count so_far piece is_rest fits says = record {
  within = let most : length piece ≡ length text - done = ap length is_rest ∙ length-drop done text in omega (arith, so_far.within);
  content = λ is.
      (says is).added
      ∙ ap (λ t. t ++ take count piece) (so_far.content is)
      ∙ append_assoc old (take done text) (take count piece)
      ∙ ap (λ t. old ++ t) (ap (λ t. take done text ++ take count t) is_rest ∙ sym (take-add done count text));
}
