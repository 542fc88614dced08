-- The numbers of records.
use Rattle.std.proofs.Common.{◌≡◌, ℕ, ◌+◌, List, [], ◌∷◌, ◌++◌, length, arith}
use Rattle.hub_core.specs.declared.record.DestRecord.{DestRecord}
use Rattle.sender_law.specs.Transfer.{NumberedFrom}

pub numbered-next : (number : ℕ) (records : List DestRecord) (told : DestRecord) → NumberedFrom number records → told.seq ≡ number + length records → NumberedFrom number (records ++ told ∷ [])
numbered-next number [] told numbered is = (omega (arith, is), tt)
numbered-next number (first ∷ records) told numbered is = (numbered.0, numbered-next (number + 1) records told numbered.1 (omega (arith, is)))
