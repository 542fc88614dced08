-- What is appended so far is the digits of the bytes so far.
use Rattle.std.proofs.Common.{◌≡◌, ◌+◌, ◌*◌, ◌++◌, length, take}
use Rattle.hex.specs.Hex.{encode_upper}
use Rattle.candump_line.proofs.spell.put_bytes.Given as goal

abbrev pub invariant-loop-byte : goal.invariant-loop-byte
invariant-loop-byte l =
    (l.text.items ≡ l.initial.text.items ++ encode_upper (take l.byte-index l.bytes)) × (length l.text.items ≡ length l.initial.text.items + 2 * l.byte-index)
