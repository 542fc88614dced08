-- What the text says of the groups of buffers: those of the key `groups`, or the one group of the key `buffers`.
use Rattle.std.specs.Prelude.{ℕ, List, [], ◌∷◌, length, Bool, ◌&&◌, Option, None, Some, Result, Ok, pos, nat_abs}
use Rattle.std.specs.List.{list_all}
use Rattle.toml.specs.Data.{Data}
use Rattle.gw_settings.specs.declared.fault.ConfigFault.{ConfigFault}
use Rattle.gw_settings.specs.Readings.{group_integer, group_size}
use Rattle.gw_config.specs.declared.keys.TheConstants as row
use Rattle.gw_config.specs.Outcome.{◌>>=◌}
use Rattle.gw_config.specs.Rows.{each_from, list_fits, list_found, number_fits, numbers_row}

-- the cells of one buffer of a group
abbrev pub buffer_at : Data → ℕ → ℕ → Result ℕ ConfigFault
buffer_at root group n =
    group_integer (pos row.GROUP_BUFFER.low) (pos row.GROUP_BUFFER.high) root group n >>= (λ number. Ok (nat_abs number))

-- the cells of each buffer of a group
abbrev pub group_at : Data → ℕ → Result (List ℕ) ConfigFault
group_at root group =
    group_size root group >>= (λ count. list_found row.GROUP 0 (Some count)) >>= each_from (buffer_at root group) 0

-- the buffers of a text without groups
abbrev pub one_group : Data → Result (List (List ℕ)) ConfigFault
one_group root = numbers_row row.BUFFERS row.BUFFER 0 root >>= (λ group. Ok (group ∷ []))

-- the groups, so many, or the one group where the key `groups` is absent
abbrev pub groups_found : Data → Option ℕ → Result (List (List ℕ)) ConfigFault
groups_found root None = one_group root
groups_found root (Some count) = list_found row.GROUPS 0 (Some count) >>= each_from (group_at root) 0

-- a group of lawful length, each of whose buffers has a lawful number of cells
abbrev pub group_fits : List ℕ → Bool
group_fits group = list_fits row.GROUP (length group) && list_all (number_fits row.GROUP_BUFFER) group
