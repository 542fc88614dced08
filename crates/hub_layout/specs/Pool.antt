-- What a layout is made of: groups of buffers, and the cells of each buffer.
use Rattle.std.specs.Prelude.{◌≡◌, ℕ, ◌+◌, ◌≤◌, zero, suc, List, [], ◌∷◌, ◌++◌, length, sum, All}
use Rattle.hub_layout.specs.Places.{first_word, words_in}

-- the number of groups, and the cells of the buffers, numbered through the groups
pub record Pool : Type 0 where
  pub groups : ℕ
  pub cells : List ℕ

-- 1 to 4 groups of 1 to 32 buffers, all of them 1 to 8192 cells
pub record IsPool (cells sizes : List ℕ) : Type 0 where
  pub some : 1 ≤ length sizes
  pub few : length sizes ≤ 4
  pub groups_are : All (λ size. (1 ≤ size) × (size ≤ 32)) sizes
  pub all : sum sizes ≡ length cells
  pub buffers_are : All (λ size. (1 ≤ size) × (size ≤ 8192)) cells

-- the first word of each of so many buffers
abbrev pub first_words : (groups : ℕ) → List ℕ → (buffers : ℕ) → List ℕ
first_words groups cells zero = []
first_words groups cells (suc buf) = first_words groups cells buf ++ first_word groups cells buf ∷ []

-- what a layout keeps: few groups of few buffers, of few cells each, with their first words and the number of all words
pub record IsLaid (groups : ℕ) (cells firsts : List ℕ) (words : ℕ) : Type 0 where
  pub few_groups : groups ≤ 4
  pub few_buffers : length cells ≤ 128
  pub few_cells : All (λ size. size ≤ 8192) cells
  pub firsts_are : firsts ≡ first_words groups cells (length cells)
  pub words_are : words ≡ words_in groups cells
