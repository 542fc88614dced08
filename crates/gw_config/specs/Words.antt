-- The words that stand for a choice, and identifiers in hex digits.
use Rattle.std.specs.Prelude.{ℕ, List, Option, Some, None, ◌==◌, ◌&&◌, ◌||◌, nat_le, length, codes, if◌then◌else◌}
use Rattle.std.specs.Option.{option_and_then}
use Rattle.std.specs.Str.{bytes_eq}
use Rattle.can_frame.specs.declared.id.CanId.{CanId}
use Rattle.can_frame.specs.declared.id.CanId.TheVariants.{Std, Ext}
use Rattle.gw_config.specs.Hex.{hex_value}
use Rattle.gw_config.specs.declared.words.Mode.{Mode}
use Rattle.gw_config.specs.declared.words.Mode.TheVariants.{Serial, Threads}
use Rattle.gw_config.specs.declared.words.Addressing.{Addressing}
use Rattle.gw_config.specs.declared.words.Addressing.TheVariants.{Normal, Extended, Mixed}
use Rattle.gw_config.specs.declared.words.QueueKind.{QueueKind}
use Rattle.gw_config.specs.declared.words.QueueKind.TheVariants.{Fifo, Last, Keep}
use Rattle.gw_config.specs.declared.words.Role.{Role}
use Rattle.gw_config.specs.declared.words.Role.TheVariants.{Receive, Send}

-- how the workers run, by its word
abbrev pub mode_of : List ℕ → Option Mode
mode_of word = if bytes_eq word (codes "serial") then Some Serial else if bytes_eq word (codes "threads") then Some Threads else None

-- an addressing format, by its word
abbrev pub addressing_of : List ℕ → Option Addressing
addressing_of word = if bytes_eq word (codes "normal") then Some Normal else if bytes_eq word (codes "extended") then Some Extended else if bytes_eq word (codes "mixed") then Some Mixed else None

-- a kind of queue, by its word
abbrev pub queue_of : List ℕ → Option QueueKind
queue_of word = if bytes_eq word (codes "fifo") then Some Fifo else if bytes_eq word (codes "last") then Some Last else if bytes_eq word (codes "keep") then Some Keep else None

-- the side that a cancellation ends, by its word
abbrev pub role_of : List ℕ → Option Role
role_of word = if bytes_eq word (codes "receive") then Some Receive else if bytes_eq word (codes "send") then Some Send else None

-- an identifier of 11 bits in 3 digits, or of 29 bits in 8
abbrev pub id_of_digits : ℕ → ℕ → Option CanId
id_of_digits digits value = if digits == 3 && nat_le value 0x7FF then Some (Std value) else if digits == 8 && nat_le value 0x1FFF_FFFF then Some (Ext value) else None

-- an identifier, by its hex digits
abbrev pub id_of : List ℕ → Option CanId
id_of word = if length word == 3 || length word == 8 then option_and_then (id_of_digits (length word)) (hex_value word) else None
