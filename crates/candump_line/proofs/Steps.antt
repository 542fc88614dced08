-- The steps of the reading are parts of its table.
use Rattle.std.proofs.Common.{◌≡◌, ◌≤◌, ◌<◌, ◌%◌, ◌==◌, ◌⊎◌, ℕ, leb, true, false, Some, None, Ok, Err, List, [], ◌∷◌, length, take, drop, refl, sym, ap, arith, inl, inr}
use Rattle.std.specs.Prelude.{Option, Result, if◌then◌else◌}
use Rattle.std.specs.Str.{bytes_eq}
use Rattle.std.specs.List.{list_all}
use Rattle.std.proofs.lemmas.Bool.{cases_Bool, eqb-true, le-leb, le-ltb, leb-false, leb-true, lt-leb}
use Rattle.std.proofs.lemmas.List.{length-take-le}
use Rattle.can_frame.specs.Frame.{CanFrame}
use Rattle.can_frame.specs.Length.{length_fits}
use Rattle.can_frame.specs.declared.id.CanId.{CanId}
use Rattle.candump_line.specs.Fault.{fault_at, ◌>>=◌}
use Rattle.candump_line.specs.Reading.{begins, classic_at, data_at, digits_in, end_at, ended_at, fd_at, frame_of, interface_at, is_space, length_code_at, line_of, named_at, number_in, stamp_at}
use Rattle.candump_line.specs.Steps.{data_within, name_at}
use Rattle.candump_line.specs.declared.fault.LineFault.{LineFault}
use Rattle.candump_line.specs.declared.fault.LineKind.TheVariants.{BadLength}
use Rattle.candump_line.specs.declared.line.Line.{Line}
use Rattle.candump_line.specs.declared.line.Line.TheVariants.{Frame as FrameLine, Passed}
use Rattle.candump_line.proofs.Spelled.{fits-most}

-- ---- the data

-- data that there is room for is the data
record Within (len most : ℕ) (found : Result (List ℕ × List ℕ) LineFault) (bytes left : List ℕ) : Type 0 where
  is : found ≡ Ok (bytes, left)
  few : length bytes ≤ most

-- data that is too much is read, and too long
record Over (len most : ℕ) (rest : List ℕ) (found : Result (List ℕ × List ℕ) LineFault) (fault : LineFault) : Type 0 where
  bytes : List ℕ
  left : List ℕ
  is : found ≡ Ok (bytes, left)
  many : most < length bytes
  fault_is : fault ≡ fault_at len BadLength rest

abbrev yes : List ℕ × List ℕ → Result (List ℕ × List ℕ) LineFault
yes read = Ok read

abbrev no : LineFault → Result (List ℕ × List ℕ) LineFault
no fault = Err fault

abbrev within : (len most : ℕ) (rest : List ℕ) → Result (List ℕ × List ℕ) LineFault → Result (List ℕ × List ℕ) LineFault
within len most rest found = found >>= (λ (read : List ℕ × List ℕ). if leb (length read.0) most then Ok read else Err (fault_at len BadLength rest))

within-ok : (len most : ℕ) (rest : List ℕ) (found : Result (List ℕ × List ℕ) LineFault) (bytes left : List ℕ) → within len most rest found ≡ Ok (bytes, left) → Within len most found bytes left
within-ok len most rest (Err fault) bytes left is = cc
within-ok len most rest (Ok read) bytes left is =
    elim (cases_Bool (leb (length read.0) most)) [
      | inl few ↦ (let same : yes read ≡ Ok (bytes, left) = rw few at is in let pair : read ≡ (bytes, left) = cc in record { is = same; few = rw (sym (ap (λ (r : List ℕ × List ℕ). r.0) pair)) (leb-true (length read.0) most few) })
      | inr over ↦ (let none : no (fault_at len BadLength rest) ≡ Ok (bytes, left) = rw over at is in cc)
    ]

within-err : (len most : ℕ) (rest : List ℕ) (found : Result (List ℕ × List ℕ) LineFault) (fault : LineFault) → within len most rest found ≡ Err fault → (found ≡ Err fault) ⊎ Over len most rest found fault
within-err len most rest (Err other) fault is = inl is
within-err len most rest (Ok read) fault is =
    elim (cases_Bool (leb (length read.0) most)) [
      | inl few ↦ (let none : yes read ≡ Err fault = rw few at is in cc)
      | inr over ↦ (let same : no (fault_at len BadLength rest) ≡ Err fault = rw over at is in inr (record { bytes = read.0; left = read.1; is = refl; many = leb-false (length read.0) most over; fault_is = cc }))
    ]

-- ---- a classic frame

fd-over : (n : ℕ) → 64 < n → length_fits true n ≡ false
fd-over n many = elim (cases_Bool (length_fits true n)) [ inl fits ↦ (let few = fits-most true n fits in absurd (omega (arith, few, many))) | inr other ↦ other ]

framed-ended : (len at : ℕ) (left : List ℕ) (framed : Result CanFrame LineFault) →
    ended_at len at (framed >>= (λ (frame : CanFrame). Ok (frame, left))) ≡ (framed >>= (λ (frame : CanFrame). end_at len left >>= (λ end. Ok (FrameLine (record { 0 = at }) frame))))
framed-ended len at left (Ok frame) = refl
framed-ended len at left (Err fault) = refl

joined : (len at count : ℕ) (left : List ℕ) (frame : CanFrame) (code : Result (List ℕ) LineFault) →
    ended_at len at (code >>= (λ (after : List ℕ). Ok (frame, after))) ≡ (code >>= (λ (after : List ℕ). end_at len after >>= (λ end. Ok (FrameLine (record { 0 = at }) frame))))
joined len at count left frame (Ok after) = refl
joined len at count left frame (Err fault) = refl

module _ (len : ℕ) (id : CanId) (rest : List ℕ) where
  pub classic_fault : (fault : LineFault) → data_within 8 len rest ≡ Err fault → classic_at len id rest ≡ Err fault
  unfolding data_within classic_at
  classic_fault fault is =
      elim (within-err len 8 rest (data_at len rest) fault is) [
        | inl none ↦ rw none refl
        | inr over ↦ rw over.is (rw (lt-leb (length over.bytes) 8 over.many) (ap Err (sym over.fault_is)))
      ]

  pub classic_ended : (at count : ℕ) (buffer left : List ℕ) → data_within 8 len rest ≡ Ok (take count buffer, left) → count ≤ 8 → length buffer ≡ 8 →
      ended_at len at (classic_at len id rest)
      ≡ (length_code_at len count left >>= (λ (after : List ℕ). end_at len after >>= (λ end. Ok (FrameLine (record { 0 = at }) (record { id = id; fd = false; brs = false; bytes = take count buffer })))))
  unfolding data_within classic_at
  classic_ended at count buffer left is few size =
      let read = within-ok len 8 rest (data_at len rest) (take count buffer) left is in
      let long : length (take count buffer) ≡ count = length-take-le count buffer (omega (arith, few, size)) in
      rw read.is (rw (le-leb (length (take count buffer)) 8 read.few) (rw long (joined len at count left (record { id = id; fd = false; brs = false; bytes = take count buffer }) (length_code_at len count left))))

  -- ---- an FD frame

  pub fd_fault : (fault : LineFault) → digits_in 16 1 rest ≡ 1 → data_within 64 len (drop 1 rest) ≡ Err fault → fd_at len id rest ≡ Err fault
  unfolding data_within fd_at
  fd_fault fault one is =
      elim (within-err len 64 (drop 1 rest) (data_at len (drop 1 rest)) fault is) [
        | inl none ↦ rw one (rw none refl)
        | inr over ↦ rw one (rw over.is (rw (fd-over (length over.bytes) over.many) (ap Err (sym over.fault_is))))
      ]

  pub fd_ended : (at flags count : ℕ) (buffer left : List ℕ) → digits_in 16 1 rest ≡ 1 → flags ≡ number_in 16 1 rest → data_within 64 len (drop 1 rest) ≡ Ok (take count buffer, left) →
      ended_at len at (fd_at len id rest)
      ≡ (frame_of len (record { id = id; fd = true; brs = flags % 2 == 1; bytes = take count buffer }) (drop 1 rest) >>= (λ (frame : CanFrame). end_at len left >>= (λ end. Ok (FrameLine (record { 0 = at }) frame))))
  unfolding data_within fd_at
  fd_ended at flags count buffer left one flags_are is =
      let read = within-ok len 64 (drop 1 rest) (data_at len (drop 1 rest)) (take count buffer) left is in
      rw one (rw read.is (rw flags_are (framed-ended len at left (frame_of len (record { id = id; fd = true; brs = number_in 16 1 rest % 2 == 1; bytes = take count buffer }) (drop 1 rest)))))

-- ---- the whole line

-- a line with a stamp isn't blank
pub stamped_not_blank : (line : List ℕ) (read : ℕ × List ℕ) → stamp_at line ≡ Ok read → list_all is_space line ≡ false
unfolding stamp_at
stamped_not_blank [] read is = cc
stamped_not_blank (b ∷ line) read is =
    elim (cases_Bool (begins 40 (b ∷ line))) [
      | inl first ↦ rw (eqb-true b 40 first) refl
      | inr other ↦ (let none = rw other at is in cc)
    ]

-- what stands after the name, read on
abbrev pub after_name_at : (len at : ℕ) (found : Option (List ℕ)) → Result Line LineFault
after_name_at len at None = Ok Passed
after_name_at len at (Some rest) = named_at len at rest

named : (len at : ℕ) (iface : List ℕ) (found : Result (List ℕ × List ℕ) LineFault) →
    (found >>= (λ (name : List ℕ × List ℕ). if bytes_eq name.0 iface then named_at len at name.1 else Ok Passed))
    ≡ ((found >>= (λ (name : List ℕ × List ℕ). Ok (if bytes_eq name.0 iface then Some name.1 else None))) >>= after_name_at len at)
named len at iface (Err fault) = refl
named len at iface (Ok name) = elim (cases_Bool (bytes_eq name.0 iface)) [ inl is ↦ rw is refl | inr other ↦ rw other refl ]

-- a line that has a stamp is what its interface and what stands after it say
pub line_ended : (iface line : List ℕ) (read : ℕ × List ℕ) → length line ≤ 512 → stamp_at line ≡ Ok read →
    line_of iface line ≡ (name_at (length line) iface read.1 >>= after_name_at (length line) read.0)
unfolding line_of name_at
line_ended iface line read short is =
    rw (le-ltb 512 (length line) short, stamped_not_blank line read is, is) (named (length line) read.0 iface (interface_at (length line) read.1))
