-- The words of a shared hub, and where each lies: the groups' pool words first, and then buffer by buffer (this project's own).
use Rattle.std.specs.Prelude.{◌≡◌, ℕ, ◌+◌, ◌*◌, ◌<◌, Some, List, length, slice_get, sum, take}

-- a word: a group's pool word; of a buffer its card, the length of its session, its count, the position of a destination, or a cell
pub data Place : Type 0 where
  Pool : (group : ℕ) → Place
  Card : (buf : ℕ) → Place
  Length : (buf : ℕ) → Place
  Count : (buf : ℕ) → Place
  Position : (buf dest : ℕ) → Place
  Cell : (buf at : ℕ) → Place

-- the word is there, over so many groups and buffers of so many cells, for eight destinations
abbrev pub IsThere : (groups : ℕ) → List ℕ → Place → Type 0
IsThere groups cells (Pool group) = group < groups
IsThere groups cells (Card buf) = buf < length cells
IsThere groups cells (Length buf) = buf < length cells
IsThere groups cells (Count buf) = buf < length cells
IsThere groups cells (Position buf dest) = (buf < length cells) × (dest < 8)
IsThere groups cells (Cell buf at) = (size : ℕ) × (slice_get cells buf ≡ Some size) × (at < size)

-- the first word of a buffer: each earlier buffer has eleven words beside its cells
abbrev pub first_word : (groups : ℕ) → List ℕ → (buf : ℕ) → ℕ
first_word groups cells buf = groups + 11 * buf + sum (take buf cells)

abbrev pub words_in : (groups : ℕ) → List ℕ → ℕ
words_in groups cells = first_word groups cells (length cells)

-- where a word lies
abbrev pub place_at : (groups : ℕ) → List ℕ → Place → ℕ
place_at groups cells (Pool group) = group
place_at groups cells (Card buf) = first_word groups cells buf
place_at groups cells (Length buf) = first_word groups cells buf + 1
place_at groups cells (Count buf) = first_word groups cells buf + 2
place_at groups cells (Position buf dest) = first_word groups cells buf + 3 + dest
place_at groups cells (Cell buf at) = first_word groups cells buf + 11 + at

-- two words that are there lie at different places
abbrev pub PlacesDiffer : Type 0
PlacesDiffer = (groups : ℕ) (cells : List ℕ) (p q : Place) → IsThere groups cells p → IsThere groups cells q → place_at groups cells p ≡ place_at groups cells q → p ≡ q

-- and each lies among all words
abbrev pub PlacesLieWithin : Type 0
PlacesLieWithin = (groups : ℕ) (cells : List ℕ) (p : Place) → IsThere groups cells p → place_at groups cells p < words_in groups cells
