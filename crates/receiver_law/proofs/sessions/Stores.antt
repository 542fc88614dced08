-- What calls put into the sessions of a path.
use Rattle.std.proofs.Common.{◌≡◌, ◌≢◌, ℕ, List, [], ◌∷◌, ◌++◌, refl, ap, sym, ◌∙◌, append-nil, eq-eqb}
use Rattle.tp_receiver.specs.Table.{puts}
use Rattle.tp_receiver.specs.Runs.{cell_in, cells_in}
use Rattle.std.specs.Prelude.{map}
use Rattle.std.proofs.lemmas.Bool.{ne_eqb}
use Rattle.std.proofs.lemmas.Grind.{flat_map-append}
use Rattle.gw_base.specs.Cell.{bytes_of, cell_bytes, counted}
use Rattle.hub_core.specs.View.{Event, Put, Published}

-- the bytes that calls put into the session of a number
abbrev pub store : ℕ → List Event → ℕ → List ℕ
store path calls seq = bytes_of (cells_in path seq calls)

pub store-more : (path seq : ℕ) (calls more : List Event) → store path (calls ++ more) seq ≡ store path calls seq ++ store path more seq
store-more path seq calls more = ap bytes_of (flat_map-append (cell_in path seq) calls more) ∙ flat_map-append cell_bytes (cells_in path seq calls) (cells_in path seq more)

pub store-keeps : (path seq : ℕ) (calls more : List Event) → cells_in path seq more ≡ [] → store path (calls ++ more) seq ≡ store path calls seq
store-keeps path seq calls more none = store-more path seq calls more ∙ ap (λ cells. store path calls seq ++ bytes_of cells) none ∙ append-nil (store path calls seq)

pub cells_in-puts : (path seq count : ℕ) (cells : List ℕ) → cells_in path seq (map (λ cell. Put path seq cell) cells ++ Published path seq count ∷ []) ≡ cells
cells_in-puts path seq count [] = refl
cells_in-puts path seq count (cell ∷ cells) = rw (eq-eqb path path refl, eq-eqb seq seq refl, cells_in-puts path seq count cells) refl

pub cells_in-others : (path seq other count : ℕ) (cells : List ℕ) → other ≢ seq → cells_in path other (map (λ cell. Put path seq cell) cells ++ Published path seq count ∷ []) ≡ []
cells_in-others path seq other count [] ne = refl
cells_in-others path seq other count (cell ∷ cells) ne = rw (eq-eqb path path refl, ne_eqb seq other (λ is. ne (sym is)), cells_in-others path seq other count cells ne) refl

-- calls that put these bytes into one session
pub record Adds (path : ℕ) (calls more : List Event) (seq : ℕ) (bytes : List ℕ) : Type 0 where
  pub same : store path (calls ++ more) seq ≡ store path calls seq ++ bytes
  pub others : (other : ℕ) → other ≢ seq → store path (calls ++ more) other ≡ store path calls other

-- calls that put these cells, and nothing else
pub adds-cells : (path seq : ℕ) (cells bytes : List ℕ) (calls more : List Event) → ((number : ℕ) → cells_in path number more ≡ cells_in path number (puts path seq cells)) → bytes_of cells ≡ bytes → Adds path calls more seq bytes
adds-cells path seq cells bytes calls more are is = record {
  same = store-more path seq calls more ∙ ap (λ c. store path calls seq ++ bytes_of c) (are seq ∙ cells_in-puts path seq (counted cells) cells) ∙ ap (λ b. store path calls seq ++ b) is;
  others = λ other ne. store-keeps path other calls more (are other ∙ cells_in-others path seq other (counted cells) cells ne);
}
