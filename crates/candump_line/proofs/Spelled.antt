-- A line that is spelled so is read as its stamp and its frame.
use Rattle.std.proofs.Common.{◌≡◌, ◌⊎◌, ℕ, ◌+◌, ◌*◌, ◌/◌, ◌%◌, ◌^◌, ◌<◌, ◌≤◌, Bool, true, false, eqb, ltb, ◌==◌, List, [], ◌∷◌, ◌++◌, length, Some, Ok, inl, inr, refl, sym, ap, ◌∙◌, subst, append_assoc, append-nil, arith}
use Rattle.std.specs.Prelude.{All, codes}
use Rattle.std.specs.Str.{bytes_eq}
use Rattle.std.proofs.Math.Bool.{and-false}
use Rattle.std.specs.Char.{digit_value}
use Rattle.std.specs.List.{list_all, prefix_len}
use Rattle.std.specs.Str.Parse.{AllDigits}
use Rattle.std.proofs.lemmas.Bool.{eq-eqb, le-leb, le-ltb, leb-true, lt-ltb, ne_eqb}
use Rattle.std.proofs.lemmas.Bool.Decides.{nat_tests}
use Rattle.std.proofs.lemmas.List.Elements.{All-tail}
use Rattle.std.proofs.lemmas.List.{drop_at, take_at}
use Rattle.can_frame.specs.Frame.{CanFrame}
use Rattle.can_frame.specs.Length.{length_fits}
use Rattle.can_frame.specs.declared.id.CanId.{CanId}
use Rattle.can_frame.specs.declared.id.CanId.TheVariants.{Std, Ext}
use Rattle.candump_line.specs.Line.{IsInterface}
use Rattle.candump_line.specs.declared.line.Line.TheVariants.{Frame as FrameLine}
use Rattle.candump_line.specs.Reading.{begins, classic_at, content_at, data_at, digits_in, end_at, fd_at, hex_bytes, id_at, interface_at, is_hex, is_space, is_visible, length_code_at, line_of, micros_at, named_at, seconds_at, stamp_at}
use Rattle.candump_line.specs.Spelling.{AreDataDigits, AreSomeSpaces, AreSpaces, IsEndText, IsIdText, IsKindText, IsLengthCode, Spells, Writes}
use Rattle.candump_line.proofs.Runs.{digits-all, digits-run, digits_pass, run-ends, space-first, spaces-gone, spaces-over}

-- ---- the stamp

seconds-of : (len value : ℕ) (xs rest : List ℕ) → Writes 10 value xs → 1 ≤ length xs → length xs ≤ 10 → seconds_at len (xs ++ 46 ∷ rest) ≡ Ok (value, rest)
unfolding seconds_at
seconds-of len value xs rest writes some few =
    let n : digits_in 10 10 (xs ++ 46 ∷ rest) ≡ length xs = digits-run 10 10 xs 46 rest writes.all few refl in
    rw n (rw (drop_at xs (46 ∷ rest) (length xs) refl, take_at xs (46 ∷ rest) (length xs) refl) (rw (le-leb 1 (length xs) some, writes.value) refl))

micros-of : (len value : ℕ) (xs ys rest : List ℕ) → Writes 10 value xs → length xs ≡ 6 → AllDigits 10 ys → (length ys ≡ 0) ⊎ (length ys ≡ 3) → micros_at len (xs ++ (ys ++ 41 ∷ rest)) ≡ Ok (value, rest)
unfolding micros_at
micros-of len value xs ys rest writes six more (inl none) =
    let n : digits_in 10 6 (xs ++ (ys ++ 41 ∷ rest)) ≡ 6 = digits-all 10 6 xs (ys ++ 41 ∷ rest) writes.all six in
    let m : digits_in 10 3 (ys ++ 41 ∷ rest) ≡ 0 = digits-run 10 3 ys 41 rest more (omega (arith, none)) refl ∙ none in
    rw n (rw (drop_at xs (ys ++ 41 ∷ rest) 6 six, take_at xs (ys ++ 41 ∷ rest) 6 six) (rw m (rw (drop_at ys (41 ∷ rest) 0 none) (rw writes.value refl))))
micros-of len value xs ys rest writes six more (inr three) =
    let n : digits_in 10 6 (xs ++ (ys ++ 41 ∷ rest)) ≡ 6 = digits-all 10 6 xs (ys ++ 41 ∷ rest) writes.all six in
    let m : digits_in 10 3 (ys ++ 41 ∷ rest) ≡ 3 = digits-run 10 3 ys 41 rest more (omega (arith, three)) refl ∙ three in
    rw n (rw (drop_at xs (ys ++ 41 ∷ rest) 6 six, take_at xs (ys ++ 41 ∷ rest) 6 six) (rw m (rw (drop_at ys (41 ∷ rest) 3 three) (rw writes.value refl))))

pub stamp-of : (seconds micros : ℕ) (xs ys zs rest : List ℕ) → Writes 10 seconds xs → 1 ≤ length xs → length xs ≤ 10 → Writes 10 micros ys → length ys ≡ 6 → AllDigits 10 zs → (length zs ≡ 0) ⊎ (length zs ≡ 3) →
    seconds < 2 ^ 32 → stamp_at (40 ∷ (xs ++ 46 ∷ (ys ++ (zs ++ 41 ∷ rest)))) ≡ Ok (seconds * 1_000_000 + micros, rest)
unfolding stamp_at
stamp-of seconds micros xs ys zs rest writes some few writes' six more three below =
    rw (seconds-of _ seconds xs (ys ++ (zs ++ 41 ∷ rest)) writes some few) (rw (micros-of _ micros ys zs rest writes' six more three) (rw (le-leb seconds 4_294_967_295 (omega (arith, below))) refl))

-- ---- the interface and the identifier

pub visible-pass : (xs : List ℕ) → All (λ b. (0x21 ≤ b) × (b ≤ 0x7E)) xs → list_all is_visible xs ≡ true
visible-pass [] all = refl
visible-pass (x ∷ xs) all =
    let first = all 0 0 (omega arith) in
    rw (le-leb 0x21 x first.0, le-leb x 0x7E first.1, visible-pass xs (All-tail (λ b. (0x21 ≤ b) × (b ≤ 0x7E)) x xs all)) refl

visible-first : (xs rest : List ℕ) → 0 < length xs → All (λ b. (0x21 ≤ b) × (b ≤ 0x7E)) xs → prefix_len is_space (xs ++ rest) ≡ 0
visible-first [] rest some all = absurd (omega arith)
visible-first (x ∷ xs) rest some all =
    let first = all 0 0 (omega arith) in
    rw (ne_eqb x 32 (λ is. omega (arith, first.0, is))) refl

-- a space is not visible
space-ends : (gap rest : List ℕ) → AreSomeSpaces gap → prefix_len is_visible (gap ++ rest) ≡ 0
space-ends [] rest some = absurd (omega (arith, some.0))
space-ends (x ∷ gap) rest some = subst (λ b. prefix_len is_visible (b ∷ (gap ++ rest)) ≡ 0) (sym (some.1 0 0 (omega arith))) refl

pub interface-of : (len : ℕ) (gap iface space rest : List ℕ) → IsInterface iface → AreSomeSpaces gap → AreSomeSpaces space → interface_at len (gap ++ (iface ++ (space ++ rest))) ≡ Ok (iface, space ++ rest)
unfolding interface_at
interface-of len gap iface space rest name some after =
    let n : prefix_len is_visible (iface ++ (space ++ rest)) ≡ length iface = run-ends is_visible iface (space ++ rest) (visible-pass iface name.visible) (space-ends space rest after) in
    rw (space-first gap (iface ++ (space ++ rest)) some, spaces-gone gap (iface ++ (space ++ rest)) some.1 (visible-first iface (space ++ rest) name.some name.visible))
    (rw n (rw (le-leb 1 (length iface) name.some, le-leb (length iface) 15 name.short, drop_at iface (space ++ rest) (length iface) refl, take_at iface (space ++ rest) (length iface) refl) refl))

-- a digit is no such byte
not-digit : (base c : ℕ) (xs rest : List ℕ) → AllDigits base xs → 0 < length xs → base ≤ digit_value c → begins c (xs ++ rest) ≡ false
not-digit base c [] rest all some other = absurd (omega arith)
not-digit base c (x ∷ xs) rest all some other = ne_eqb x c (λ is. let low : digit_value c < base = subst (λ b. digit_value b < base) is all.0 in omega (arith, low, other))

digit-first : (xs rest : List ℕ) → AllDigits 16 xs → 0 < length xs → prefix_len is_space (xs ++ rest) ≡ 0
digit-first [] rest all some = absurd (omega arith)
digit-first (x ∷ xs) rest all some =
    let other : eqb x 32 ≡ false = ne_eqb x 32 (λ is. let low : digit_value 32 < 16 = subst (λ b. digit_value b < 16) is all.0 in omega (arith, low)) in
    rw other refl

pub id-of : (len : ℕ) (gap xs : List ℕ) (id : CanId) (rest : List ℕ) → AreSomeSpaces gap → IsIdText xs id → id_at len (gap ++ (xs ++ 35 ∷ rest)) ≡ Ok (Some id, 35 ∷ rest)
unfolding id_at
id-of len gap xs (Std number) rest some (three, fits, writes) =
    let n : digits_in 16 9 (xs ++ 35 ∷ rest) ≡ 3 = digits-run 16 9 xs 35 rest writes.all (omega (arith, three)) refl ∙ three in
    rw (spaces-gone gap (xs ++ 35 ∷ rest) some.1 (digit-first xs (35 ∷ rest) writes.all (omega (arith, three))))
    (rw n (rw (drop_at xs (35 ∷ rest) 3 three, take_at xs (35 ∷ rest) 3 three) (rw (writes.value, le-leb number 0x7FF fits) refl)))
id-of len gap xs (Ext number) rest some (eight, fits, writes) =
    let n : digits_in 16 9 (xs ++ 35 ∷ rest) ≡ 8 = digits-run 16 9 xs 35 rest writes.all (omega (arith, eight)) refl ∙ eight in
    let clear : number / 0x2000_0000 ≡ 0 = omega (arith, fits) in
    rw (spaces-gone gap (xs ++ 35 ∷ rest) some.1 (digit-first xs (35 ∷ rest) writes.all (omega (arith, eight))))
    (rw n (rw (drop_at xs (35 ∷ rest) 8 eight, take_at xs (35 ∷ rest) 8 eight) (rw (writes.value, clear, le-leb number 0x1FFF_FFFF fits) refl)))

-- ---- the data

-- the digits of data, and what they write
record DataDigits (digits bytes : List ℕ) : Type 0 where
  pub all : AllDigits 16 digits
  pub twice : length digits ≡ 2 * length bytes
  pub bytes_are : hex_bytes digits ≡ bytes

data-digits : (digits bytes : List ℕ) → AreDataDigits digits bytes → DataDigits digits bytes
unfolding AreDataDigits hex_bytes
data-digits [] [] are = record { all = tt; twice = refl; bytes_are = refl }
data-digits [] (byte ∷ bytes) are = absurd are
data-digits (high ∷ []) bytes are = absurd are
data-digits (high ∷ low ∷ digits) [] are = absurd are
data-digits (high ∷ low ∷ digits) (byte ∷ bytes) (h, l, is, rest) =
    let later = data-digits digits bytes rest in
    record {
      all = (h, (l, later.all));
      twice = omega (arith, later.twice);
      bytes_are = ap (λ b. b ∷ hex_bytes digits) (sym is) ∙ ap (λ t. byte ∷ t) later.bytes_are;
    }

data-of : (len : ℕ) (digits bytes rest : List ℕ) → AreDataDigits digits bytes → length bytes ≤ 64 → prefix_len is_hex rest ≡ 0 → data_at len (digits ++ rest) ≡ Ok (bytes, rest)
unfolding data_at
data-of len digits bytes rest are most stop =
    let d = data-digits digits bytes are in
    let n : prefix_len is_hex (digits ++ rest) ≡ length digits = run-ends is_hex digits rest (digits_pass 16 digits d.all) stop in
    let even : eqb (length digits % 2) 1 ≡ false = ne_eqb (length digits % 2) 1 (λ odd. omega (arith, d.twice, odd)) in
    let short : ltb 128 (length digits) ≡ false = le-ltb 128 (length digits) (omega (arith, d.twice, most)) in
    rw n (rw (even, short) (rw (take_at digits rest (length digits) refl, drop_at digits rest (length digits) refl, d.bytes_are) refl))

-- ---- what stands after the data

-- a tail begins with none of these
record Tail (text : List ℕ) : Type 0 where
  pub hex : prefix_len is_hex text ≡ 0
  pub remote : begins 82 text ≡ false
  pub small_remote : begins 114 text ≡ false
  pub hash : begins 35 text ≡ false

-- nor an end with a length code's mark
record Ends (text : List ℕ) : Type 0 where
  pub tail : Tail text
  pub mark : begins 95 text ≡ false

space-tail : (gap rest : List ℕ) → AreSomeSpaces gap → Ends (gap ++ rest)
space-tail [] rest some = absurd (omega (arith, some.0))
space-tail (x ∷ gap) rest some =
    subst (λ b. Ends (b ∷ (gap ++ rest))) (sym (some.1 0 0 (omega arith))) (record { tail = record { hex = refl; remote = refl; small_remote = refl; hash = refl }; mark = refl })

ends-of : (text : List ℕ) → IsEndText text → Ends text
ends-of [] (inl spaces) = record { tail = record { hex = refl; remote = refl; small_remote = refl; hash = refl }; mark = refl }
ends-of (x ∷ text) (inl spaces) = subst Ends (append-nil (x ∷ text)) (space-tail (x ∷ text) [] (omega arith, spaces))
ends-of text (inr direction) = subst Ends (sym direction.text_is) (space-tail direction.before (direction.mark ∷ direction.after) direction.some)

tail-of : (code end : List ℕ) (fd : Bool) (bytes : ℕ) → IsLengthCode code fd bytes → IsEndText end → Tail (code ++ end)
tail-of code end fd bytes (inl none) is = subst (λ t. Tail (t ++ end)) (sym none) (ends-of end is).tail
tail-of code end fd bytes (inr (digit, text_is, classic, eight, least, most)) is = subst (λ t. Tail (t ++ end)) (sym text_is) (record { hex = refl; remote = refl; small_remote = refl; hash = refl })

-- what begins with data digits or such a tail begins with no mark of another kind
content-first : (c : ℕ) (digits bytes tail : List ℕ) → AreDataDigits digits bytes → 16 ≤ digit_value c → begins c tail ≡ false → begins c (digits ++ tail) ≡ false
content-first c [] bytes tail are other none = none
content-first c (x ∷ digits) bytes tail are other none = not-digit 16 c (x ∷ digits) tail (data-digits (x ∷ digits) bytes are).all (omega arith) other

code-of : (len bytes : ℕ) (code end : List ℕ) → IsLengthCode code false bytes → IsEndText end → length_code_at len bytes (code ++ end) ≡ Ok end
unfolding length_code_at
code-of len bytes code end (inl none) is =
    subst (λ t. length_code_at len bytes (t ++ end) ≡ Ok end) (sym none) (rw (ends-of end is).mark (rw (and-false (bytes == 8)) refl))
code-of len bytes code end (inr (digit, text_is, classic, eight, least, most)) is =
    subst (λ t. length_code_at len bytes (t ++ end) ≡ Ok end) (sym text_is)
    (subst (λ n. length_code_at len n (95 ∷ digit ∷ end) ≡ Ok end) (sym eight) (rw (lt-ltb (digit_value digit) 16 most) (rw (le-leb 9 (0 + digit_value digit) (omega (arith, least))) refl)))

not-space : (mark : ℕ) → (mark ≡ 82) ⊎ (mark ≡ 84) → (after : List ℕ) → prefix_len is_space (mark ∷ after) ≡ 0
not-space mark (inl is) after = subst (λ b. prefix_len is_space (b ∷ after) ≡ 0) (sym is) refl
not-space mark (inr is) after = subst (λ b. prefix_len is_space (b ∷ after) ≡ 0) (sym is) refl

direction-of : (len : ℕ) (before after : List ℕ) (mark : ℕ) → (mark ≡ 82) ⊎ (mark ≡ 84) → AreSomeSpaces before → AreSpaces after → end_at len (before ++ mark ∷ after) ≡ Ok tt
unfolding end_at
direction-of len before after mark (inl is) some spaces =
    rw (space-first before (mark ∷ after) some, spaces-gone before (mark ∷ after) some.1 (not-space mark (inl is) after)) (rw is (rw (spaces-over after spaces) refl))
direction-of len before after mark (inr is) some spaces =
    rw (space-first before (mark ∷ after) some, spaces-gone before (mark ∷ after) some.1 (not-space mark (inr is) after)) (rw is (rw (spaces-over after spaces) refl))

end-of : (len : ℕ) (text : List ℕ) → IsEndText text → end_at len text ≡ Ok tt
unfolding end_at
end-of len text (inl spaces) = rw (spaces-over text spaces) (rw (and-false (begins 32 text)) refl)
end-of len text (inr d) = subst (λ t. end_at len t ≡ Ok tt) (sym d.text_is) (direction-of len d.before d.after d.mark d.mark_is d.some d.spaces)

-- ---- the frame

pub fits-most : (fd : Bool) (n : ℕ) → length_fits fd n ≡ true → n ≤ 64
fits-most false n fits = let most = leb-true n 8 fits in omega (arith, most)
fits-most true n fits = grind (arith, nat_tests)

classic-of : (len : ℕ) (id : CanId) (digits bytes code end : List ℕ) → AreDataDigits digits bytes → length_fits false (length bytes) ≡ true → IsLengthCode code false (length bytes) → IsEndText end →
    classic_at len id (digits ++ (code ++ end)) ≡ Ok (record { id = id; fd = false; brs = false; bytes = bytes }, end)
unfolding classic_at
classic-of len id digits bytes code end are fits code_is end_is =
    rw (data-of len digits bytes (code ++ end) are (fits-most false (length bytes) fits) (tail-of code end false (length bytes) code_is end_is).hex) (rw fits (rw (code-of len (length bytes) code end code_is end_is) refl))

fd-of : (len : ℕ) (id : CanId) (flags : ℕ) (brs : Bool) (digits bytes end : List ℕ) → digit_value flags < 16 → (digit_value flags % 2 == 1) ≡ brs → AreDataDigits digits bytes → length_fits true (length bytes) ≡ true → IsEndText end →
    fd_at len id (flags ∷ (digits ++ end)) ≡ Ok (record { id = id; fd = true; brs = brs; bytes = bytes }, end)
unfolding fd_at
fd-of len id flags brs digits bytes end small bit are fits end_is =
    let one : 0 + digit_value flags ≡ digit_value flags = omega arith in
    let low : ((0 + digit_value flags) % 2 == 1) ≡ brs = ap (λ n. n % 2 == 1) one ∙ bit in
    rw (lt-ltb (digit_value flags) 16 small) (rw (data-of len digits bytes end are (fits-most true (length bytes) fits) (ends-of end end_is).tail.hex) (rw (fits, low) refl))

no-code : (code : List ℕ) (bytes : ℕ) → IsLengthCode code true bytes → code ≡ []
no-code code bytes (inl none) = none
no-code code bytes (inr (digit, text_is, classic, eight, least, most)) = cc

-- what stands after the identifier
pub content-of : (len stamp : ℕ) (id : CanId) (fd brs : Bool) (kind digits bytes code end : List ℕ) → IsKindText kind fd brs → AreDataDigits digits bytes → IsLengthCode code fd (length bytes) → IsEndText end →
    length_fits fd (length bytes) ≡ true → (fd ≡ false → brs ≡ false) →
    content_at len stamp (Some id) (kind ++ (digits ++ (code ++ end))) ≡ Ok (FrameLine (record { 0 = stamp }) (record { id = id; fd = fd; brs = brs; bytes = bytes }))
unfolding content_at
content-of len stamp id false true kind digits bytes code end kind_is are code_is end_is fits slow = let clash : true ≡ false = slow refl in cc
content-of len stamp id false false kind digits bytes code end kind_is are code_is end_is fits slow =
    let tail = tail-of code end false (length bytes) code_is end_is in
    subst (λ t. content_at len stamp (Some id) (t ++ (digits ++ (code ++ end))) ≡ Ok (FrameLine (record { 0 = stamp }) (record { id = id; fd = false; brs = false; bytes = bytes }))) (sym kind_is)
    (rw (content-first 82 digits bytes (code ++ end) are (omega arith) tail.remote, content-first 114 digits bytes (code ++ end) are (omega arith) tail.small_remote, content-first 35 digits bytes (code ++ end) are (omega arith) tail.hash)
    (rw (classic-of len id digits bytes code end are fits code_is end_is) (rw (end-of len end end_is) refl)))
content-of len stamp id true brs kind digits bytes code end (flags, text_is, small, bit) are code_is end_is fits slow =
    subst (λ t. content_at len stamp (Some id) (t ++ (digits ++ (code ++ end))) ≡ Ok (FrameLine (record { 0 = stamp }) (record { id = id; fd = true; brs = brs; bytes = bytes }))) (sym text_is)
    (subst (λ t. content_at len stamp (Some id) (35 ∷ 35 ∷ flags ∷ (digits ++ (t ++ end))) ≡ Ok (FrameLine (record { 0 = stamp }) (record { id = id; fd = true; brs = brs; bytes = bytes }))) (sym (no-code code (length bytes) code_is))
    (rw (fd-of len id flags brs digits bytes end small bit are fits end_is) (rw (end-of len end end_is) refl)))

-- ---- the whole line

kind-first : (kind : List ℕ) (fd brs : Bool) (rest : List ℕ) → IsKindText kind fd brs → (later : List ℕ) × (kind ++ rest ≡ 35 ∷ later)
kind-first kind false brs rest is = (rest, ap (λ t. t ++ rest) is)
kind-first kind true brs rest (flags, text_is, small, bit) = (35 ∷ flags ∷ rest, ap (λ t. t ++ rest) text_is)

named-of : (len stamp : ℕ) (space id_digits : List ℕ) (id : CanId) (fd brs : Bool) (kind digits bytes code end : List ℕ) → AreSomeSpaces space → IsIdText id_digits id → IsKindText kind fd brs →
    AreDataDigits digits bytes → IsLengthCode code fd (length bytes) → IsEndText end → length_fits fd (length bytes) ≡ true → (fd ≡ false → brs ≡ false) →
    named_at len stamp (space ++ (id_digits ++ (kind ++ (digits ++ (code ++ end))))) ≡ Ok (FrameLine (record { 0 = stamp }) (record { id = id; fd = fd; brs = brs; bytes = bytes }))
unfolding named_at
named-of len stamp space id_digits id fd brs kind digits bytes code end some id_is kind_is are code_is end_is fits slow =
    let rest : List ℕ = kind ++ (digits ++ (code ++ end)) in
    let first = kind-first kind fd brs (digits ++ (code ++ end)) kind_is in
    let read : id_at len (space ++ (id_digits ++ rest)) ≡ Ok (Some id, rest) =
    ap (λ t. id_at len (space ++ (id_digits ++ t))) first.1 ∙ id-of len space id_digits id first.0 some id_is ∙ ap (λ t. Ok (Some id, t)) (sym first.1) in
    rw read (content-of len stamp id fd brs kind digits bytes code end kind_is are code_is end_is fits slow)

pub same-name : (name : List ℕ) → bytes_eq name name ≡ true
same-name [] = refl
same-name (b ∷ name) = rw (eq-eqb b b refl, same-name name) refl

regroup : (p q r xs ys zs gap iface space id kind digits code end : List ℕ) →
    (p ++ xs ++ q ++ ys ++ zs ++ r) ++ gap ++ iface ++ space ++ id ++ kind ++ digits ++ code ++ end
    ≡ p ++ (xs ++ (q ++ (ys ++ (zs ++ (r ++ (gap ++ (iface ++ (space ++ (id ++ (kind ++ (digits ++ (code ++ end))))))))))))
regroup p q r xs ys zs gap iface space id kind digits code end = simp append_assoc

-- the line is read as its stamp and its frame
pub spelled : (iface line : List ℕ) (at : ℕ) (frame : CanFrame) → IsInterface iface → Spells iface line at frame → line_of iface line ≡ Ok (FrameLine (record { 0 = at }) frame)
unfolding line_of
spelled iface line at frame name s =
    let t = s.stamp_is in
    let named : List ℕ = s.space ++ (s.id ++ (s.kind ++ (s.digits ++ (s.code ++ s.end)))) in
    let pieces : List ℕ = 40 ∷ (t.second_digits ++ 46 ∷ (t.micro_digits ++ (t.more_digits ++ 41 ∷ (s.gap ++ (iface ++ named))))) in
    let grouped : line ≡ pieces =
    s.line_is ∙ ap (λ p. p ++ s.gap ++ iface ++ s.space ++ s.id ++ s.kind ++ s.digits ++ s.code ++ s.end) t.text_is
    ∙ regroup (codes "(") (codes ".") (codes ")") t.second_digits t.micro_digits t.more_digits s.gap iface s.space s.id s.kind s.digits s.code s.end in
    let short : length pieces ≤ 512 = subst (λ l. length l ≤ 512) grouped s.short in
    subst (λ l. line_of iface l ≡ Ok (FrameLine (record { 0 = at }) frame)) (sym grouped)
    (rw (le-ltb 512 (length pieces) short)
    (rw (stamp-of t.seconds t.micros t.second_digits t.micro_digits t.more_digits (s.gap ++ (iface ++ named)) t.seconds_are t.some t.few t.micros_are t.six t.more_are t.three t.below)
    (rw (interface-of (length pieces) s.gap iface s.space (s.id ++ (s.kind ++ (s.digits ++ (s.code ++ s.end)))) name s.gap_is s.space_is)
    (rw (same-name iface)
    (named-of (length pieces) (t.seconds * 1_000_000 + t.micros) s.space s.id frame.id frame.fd frame.brs s.kind s.digits frame.bytes s.code s.end s.space_is s.id_is s.kind_is s.digits_are s.code_is s.end_is s.lawful.len s.lawful.brs
    ∙ ap (λ n. Ok (FrameLine (record { 0 = n }) frame)) (sym t.at_is))))))
