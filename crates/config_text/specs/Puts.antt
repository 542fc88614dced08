-- Tables into which keys are put.
use Rattle.std.specs.Prelude.{ℕ, List, Option, None, Some}
use Rattle.std.specs.Ordering.{nat_cmp, match_ordering}
use Rattle.std.specs.Cmp.Lexicographic.{slice_cmp}
use Rattle.toml.specs.Data.{Data, Members, no_members, member}

-- a key with its value at its place in alphabetic order
abbrev pub put_name : List ℕ → Data → Members → Members
put_name name value no_members = member name value no_members
put_name name value (member key here rest) =
    match_ordering (slice_cmp nat_cmp name key) (member name value (member key here rest)) (member key value rest) (member key here (put_name name value rest))

-- the same of a key that may have no name
abbrev pub put : Option (List ℕ) → Data → Members → Members
put None value before = before
put (Some name) value before = put_name name value before

-- the same of a value that may be absent
abbrev pub put_some : Option (List ℕ) → Option Data → Members → Members
put_some name None before = before
put_some name (Some value) before = put name value before
