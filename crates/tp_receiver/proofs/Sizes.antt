-- How many bytes a unit has that was read of a frame.
use Rattle.std.proofs.Common.{◌≡◌, ℕ, ◌+◌, ◌-◌, ◌<◌, ◌≤◌, Bool, true, false, ◌&&◌, ◌==◌, nat_le, nat_lt, if◌then◌else◌, List, length, take, drop, slice_index, refl, ap, arith, length-drop, length-take}
use Rattle.tp_receiver.specs.Port.{IsRead}
use Rattle.std.proofs.lemmas.Bool.Decides.{nat_tests}
use Rattle.tp_unit.specs.Reading.{unit_in, kind_at, low_nibble_at, short_length, long_length, least_segmented, short_single_frame, long_single_frame, first_frame, long_first_frame}
use Rattle.tp_unit.specs.Unit.{Meaning, SingleFrame, FirstFrame}

-- what holds in both cases
pub either : (P : Meaning → Type 0) (b : Bool) (x y : Meaning) → (b ≡ true → P x) → (b ≡ false → P y) → P (if b then x else y)
either P true x y yes_case no_case = yes_case refl
either P false x y yes_case no_case = no_case refl

-- a single frame has a byte, and leaves place for its head; a first frame has eight bytes, and not all of its message
abbrev pub HasByte : (address : ℕ) → List ℕ → Meaning → Type 0
HasByte address bytes meaning = (message : List ℕ) → meaning ≡ SingleFrame message → (0 < length message) × (address + length message < length bytes)

abbrev pub HasPart : List ℕ → Meaning → Type 0
HasPart bytes meaning = (len : ℕ) (message : List ℕ) → meaning ≡ FirstFrame len message → (length message < len) × (8 ≤ length bytes)

taken : (address from count : ℕ) (bytes message : List ℕ) → address < from → 1 ≤ count → from + count ≤ length bytes → SingleFrame (take count (drop from bytes)) ≡ SingleFrame message → (0 < length message) × (address + length message < length bytes)
taken address from count bytes message head some there same =
    let is : take count (drop from bytes) ≡ message = cc in
    let size : length (take count (drop from bytes)) ≡ count = rw (length-take, length-drop) (omega arith) in
    (omega (arith, ap length is, size), omega (arith, ap length is, size, head, there))

dropped : (from len n : ℕ) (bytes message : List ℕ) → 8 ≤ length bytes → length bytes < len + from → 0 < len → FirstFrame len (drop from bytes) ≡ FirstFrame n message → (length message < n) × (8 ≤ length bytes)
dropped from len n bytes message long short some same =
    let is : drop from bytes ≡ message = cc in
    let lens : len ≡ n = cc in
    (omega (arith, ap length is, length-drop from bytes), long)

short_single : (a : ℕ) (bytes : List ℕ) → HasByte a bytes (short_single_frame a bytes)
short_single a bytes =
    either (HasByte a bytes) (nat_le 1 (low_nibble_at a bytes) && nat_le (low_nibble_at a bytes) (7 - a) && nat_le (low_nibble_at a bytes + 1 + a) (length bytes)) _ _
    (λ is message same. taken a (a + 1) (low_nibble_at a bytes) bytes message (omega arith) (grind (arith, nat_tests)) (grind (arith, nat_tests)) same) (λ is message same. cc)

long_single : (a : ℕ) (bytes : List ℕ) → a ≤ 1 → HasByte a bytes (long_single_frame a bytes)
long_single a bytes one =
    either (HasByte a bytes) (low_nibble_at a bytes == 0 && nat_le (8 - a) (slice_index bytes (a + 1)) && nat_le (slice_index bytes (a + 1)) (length bytes - 2 - a)) _ _
    (λ is message same. taken a (a + 2) (slice_index bytes (a + 1)) bytes message (omega arith) (grind (arith, nat_tests)) (grind (arith, nat_tests)) same) (λ is message same. cc)

long_first : (a : ℕ) (bytes : List ℕ) → 8 ≤ length bytes → length bytes ≤ 64 → HasPart bytes (long_first_frame a bytes)
long_first a bytes long most =
    either (HasPart bytes) (nat_lt 4095 (long_length a bytes)) _ _
    (λ is len message same. let large : 4095 < long_length a bytes = grind (arith, nat_tests) in dropped (a + 6) (long_length a bytes) len bytes message long (omega arith) (omega arith) same) (λ is len message same. cc)

short_first : (a : ℕ) (bytes : List ℕ) → a ≤ 1 → length bytes ≤ 64 → HasPart bytes (first_frame a bytes)
short_first a bytes one most =
    either (HasPart bytes) (nat_lt (length bytes) 8) _ _ (λ is len message same. cc)
    (λ whole. either (HasPart bytes) (short_length a bytes == 0) _ _ (λ zero. long_first a bytes (grind (arith, nat_tests)) most)
    (λ nonzero. either (HasPart bytes) (nat_le (least_segmented a (length bytes)) (short_length a bytes)) _ _
    (λ is len message same. let long : 8 ≤ length bytes = grind (arith, nat_tests) in let least : length bytes < short_length a bytes + (a + 2) = grind (arith, nat_tests) in let some : 0 < short_length a bytes = grind (arith, nat_tests) in dropped (a + 2) (short_length a bytes) len bytes message long least some same)
    (λ is len message same. cc)))

has_byte : (a : ℕ) (bytes : List ℕ) → a ≤ 1 → HasByte a bytes (unit_in a bytes)
unfolding unit_in
has_byte a bytes one =
    either (HasByte a bytes) (nat_le (length bytes) a) _ _ (λ is message same. cc)
    (λ more. either (HasByte a bytes) (kind_at a bytes == 0) _ _ (λ kind. either (HasByte a bytes) (nat_le (length bytes) 8) _ _ (λ is. short_single a bytes) (λ is. long_single a bytes one))
    (λ k0. either (HasByte a bytes) (kind_at a bytes == 1) _ _ (λ kind. either (HasByte a bytes) (nat_lt (length bytes) 8) _ _ (λ is message same. cc) (λ is. either (HasByte a bytes) (short_length a bytes == 0) _ _
    (λ zero. either (HasByte a bytes) (nat_lt 4095 (long_length a bytes)) _ _ (λ t message same. cc) (λ t message same. cc)) (λ nonzero. either (HasByte a bytes) (nat_le (least_segmented a (length bytes)) (short_length a bytes)) _ _ (λ t message same. cc) (λ t message same. cc))))
    (λ k1. either (HasByte a bytes) (kind_at a bytes == 2) _ _ (λ kind message same. cc)
    (λ k2. either (HasByte a bytes) (kind_at a bytes == 3) _ _ (λ kind. either (HasByte a bytes) (nat_lt (length bytes) (3 + a)) _ _ (λ t message same. cc) (λ t message same. cc)) (λ k3 message same. cc)))))

has_part : (a : ℕ) (bytes : List ℕ) → a ≤ 1 → length bytes ≤ 64 → HasPart bytes (unit_in a bytes)
unfolding unit_in
has_part a bytes one most =
    either (HasPart bytes) (nat_le (length bytes) a) _ _ (λ is len message same. cc)
    (λ more. either (HasPart bytes) (kind_at a bytes == 0) _ _ (λ kind. either (HasPart bytes) (nat_le (length bytes) 8) _ _
    (λ is. either (HasPart bytes) (nat_le 1 (low_nibble_at a bytes) && nat_le (low_nibble_at a bytes) (7 - a) && nat_le (low_nibble_at a bytes + 1 + a) (length bytes)) _ _ (λ t len message same. cc) (λ t len message same. cc))
    (λ is. either (HasPart bytes) (low_nibble_at a bytes == 0 && nat_le (8 - a) (slice_index bytes (a + 1)) && nat_le (slice_index bytes (a + 1)) (length bytes - 2 - a)) _ _ (λ t len message same. cc) (λ t len message same. cc)))
    (λ k0. either (HasPart bytes) (kind_at a bytes == 1) _ _ (λ kind. short_first a bytes one most)
    (λ k1. either (HasPart bytes) (kind_at a bytes == 2) _ _ (λ kind len message same. cc)
    (λ k2. either (HasPart bytes) (kind_at a bytes == 3) _ _ (λ kind. either (HasPart bytes) (nat_lt (length bytes) (3 + a)) _ _ (λ t len message same. cc) (λ t len message same. cc)) (λ k3 len message same. cc)))))

pub some-single : (address size : ℕ) (message : List ℕ) → address ≤ 1 → IsRead address size (SingleFrame message) → 0 < length message
some-single address size message one read = (has_byte address read.frame.bytes one message read.reads).0

pub fits-single : (address size : ℕ) (message : List ℕ) → address ≤ 1 → IsRead address size (SingleFrame message) → address + length message < size
fits-single address size message one read = omega (arith, (has_byte address read.frame.bytes one message read.reads).1, read.size_is)

pub more-first : (address size len : ℕ) (message : List ℕ) → address ≤ 1 → IsRead address size (FirstFrame len message) → length message < len
more-first address size len message one read = (has_part address read.frame.bytes one (omega (arith, read.size_is, read.most)) len message read.reads).0

pub long-first : (address size len : ℕ) (message : List ℕ) → address ≤ 1 → IsRead address size (FirstFrame len message) → 8 ≤ size
long-first address size len message one read = omega (arith, (has_part address read.frame.bytes one (omega (arith, read.size_is, read.most)) len message read.reads).1, read.size_is)
