-- The faults of a line: their words, and their places.
use Rattle.std.specs.Prelude.{◌≡◌, ℕ, ◌-◌, List, length, codes, Result, Ok, Err, MatchResult}
use Rattle.candump_line.specs.declared.fault.LineKind.{LineKind}
use Rattle.candump_line.specs.declared.fault.LineKind.TheVariants.{TooLong, NoStamp, BadStamp, NoIface, BadId, NoHash, BadData, BadLength}
use Rattle.candump_line.specs.declared.fault.LineFault.{LineFault}

-- the cause in words
abbrev pub cause_text : LineKind → List ℕ
cause_text TooLong = codes "too long"
cause_text NoStamp = codes "no stamp"
cause_text BadStamp = codes "bad stamp"
cause_text NoIface = codes "no interface"
cause_text BadId = codes "bad id"
cause_text NoHash = codes "no hash"
cause_text BadData = codes "bad data"
cause_text BadLength = codes "bad length"

-- a fault at the place where the rest of a line of so many bytes begins
abbrev pub fault_at : (len : ℕ) → LineKind → (rest : List ℕ) → LineFault
fault_at len kind rest = record { kind = kind; at = len - length rest }

-- an answer, as it is seen, is what is told, or its fault is
abbrev pub Gives : {A B : Type 0} → Result A LineFault → (A → B) → Result B LineFault → Type 0
Gives result seen told = MatchResult result (λ answer. told ≡ Ok (seen answer)) (λ fault. told ≡ Err fault)

-- what is read first, and then what goes on from it; the first fault counts
infixl 10 ◌>>=◌
abbrev pub ◌>>=◌ : {A B : Type 0} → Result A LineFault → (A → Result B LineFault) → Result B LineFault
Ok x >>= f = f x
Err fault >>= f = Err fault
