-- Groups of buffers: buffers are numbered through the groups, and each group has a journal and a free set of its own.
use Rattle.std.specs.Prelude.{◌≡◌, ℕ, ◌-◌, ◌==◌, nat_lt, if◌then◌else◌, suc, List, [], ◌∷◌, ◌++◌, length, take, drop, sum, get_or}
use Rattle.hub_core.specs.Journal.{changed_buf, replay}
use Rattle.hub_core.specs.View.{View, Change, Taken, Freed}

-- the cells of all buffers, in the order of their numbers, cut into groups of so many buffers
abbrev pub grouped : (counts cells : List ℕ) → List (List ℕ)
grouped [] cells = []
grouped (count ∷ counts) cells = take count cells ∷ grouped counts (drop count cells)

-- the number of a group's first buffer, where the groups have so many buffers
abbrev pub first_of : (counts : List ℕ) → (group : ℕ) → ℕ
first_of counts group = sum (take group counts)

-- the cells of all buffers, in the order of their numbers
abbrev pub all_sizes : List (List ℕ) → List ℕ
all_sizes [] = []
all_sizes (sizes ∷ groups) = sizes ++ all_sizes groups

-- the group of a buffer, where the cells of the buffers are given group by group
abbrev pub group_of : List (List ℕ) → ℕ → ℕ
group_of [] buf = 0
group_of (sizes ∷ groups) buf = if nat_lt buf (length sizes) then 0 else suc (group_of groups (buf - length sizes))

-- the number of a buffer in its group
abbrev pub place_of : List (List ℕ) → ℕ → ℕ
place_of [] buf = buf
place_of (sizes ∷ groups) buf = if nat_lt buf (length sizes) then buf else place_of groups (buf - length sizes)

-- the cells of a group's buffers
abbrev pub sizes_of : List (List ℕ) → ℕ → List ℕ
sizes_of groups group = get_or groups group []

-- a change, with its buffer's number in the group
abbrev pub in_group : List (List ℕ) → Change → Change
in_group groups (Taken number buf need) = Taken number (place_of groups buf) need
in_group groups (Freed number buf) = Freed number (place_of groups buf)

-- a group's changes among those of all groups
abbrev pub journal_of : List (List ℕ) → ℕ → List Change → List Change
journal_of groups group [] = []
journal_of groups group (change ∷ changes) = if group_of groups (changed_buf change) == group then in_group groups change ∷ journal_of groups group changes else journal_of groups group changes

-- a group's changes in a view
abbrev pub changes_in : List (List ℕ) → ℕ → View → List Change
changes_in groups group v = journal_of groups group v.changes

-- a group's free set after all its changes
abbrev pub free_in : List (List ℕ) → ℕ → View → ℕ
free_in groups group v = replay (sizes_of groups group) (changes_in groups group v) (length (changes_in groups group v))

-- the pool word of a group: the number of its changes, and its free set after them
pub record IsWordOf (groups : List (List ℕ)) (group : ℕ) (v : View) (number free : ℕ) : Type 0 where
  pub number_is : number ≡ length (changes_in groups group v)
  pub free_is : free ≡ free_in groups group v
