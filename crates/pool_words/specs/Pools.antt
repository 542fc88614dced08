-- The pool of a group of buffers as one word, and which of two buffers is smaller (this project's own).
use Rattle.std.specs.Prelude.{ℕ, ◌-◌, ◌/◌, ◌%◌, ◌^◌, nat_lt, Bool, true, List, Option, Some, None, slice_index}
use Rattle.pool_words.specs.declared.pool.Pool.{Pool}

-- the pool of a group of so many buffers, all of them free and none changed yet
abbrev pub full_pool : (buffers : ℕ) → Pool
full_pool buffers = record { changes = 0; free = 2 ^ buffers - 1 }

-- the pool that a word is: the number of changes in its upper 32 bits, the free set in its lower 32
abbrev pub pool_of : (word : ℕ) → Pool
pool_of word = record { changes = word / 2 ^ 32; free = word % 2 ^ 32 }

-- whether a buffer has fewer cells than the one found before, where one was
abbrev pub is_smaller : List ℕ → (buf : ℕ) → Option ℕ → Bool
is_smaller sizes buf None = true
is_smaller sizes buf (Some found) = nat_lt (slice_index sizes buf) (slice_index sizes found)
