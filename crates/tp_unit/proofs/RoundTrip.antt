-- A frame that was written is read as its unit.
use Rattle.std.proofs.Common.{◌≡◌, ℕ, ◌+◌, ◌-◌, ◌/◌, ◌%◌, ◌^◌, ◌<◌, ◌≤◌, Bool, true, false, Option, None, Some, List, [], ◌∷◌, ◌++◌, length, take, drop, arith, refl, ap, sym, subst, append-nil, ◌∙◌}
use Rattle.std.proofs.Math.Seq.{take-append_seam}
use Rattle.std.specs.Prelude.{slice_index, option_to_list, nat_le, if◌then◌else◌}
use Rattle.std.specs.Int.{w32, to_be_bytes}
use Rattle.std.proofs.lemmas.Nat.{from_be_bytes-to_be_bytes_4}
use Rattle.std.proofs.lemmas.Bool.Decides.{nat_tests}
use Rattle.std.proofs.lemmas.Grind.{common_steps}
use Rattle.tp_unit.specs.Reading.{unit_in, short_length, long_length, least_segmented}
use Rattle.tp_unit.specs.Shape.{IsShape, fits_shape, address_size}
use Rattle.tp_unit.specs.Writing.{unfilled, fill_of, frame_of, read_back}
use Rattle.tp_unit.specs.declared.shape.Shape.{Shape}
use Rattle.tp_unit.proofs.Sizes.{size_of, length-address, length-fill_of, fill_of-whole, filled_length-short, length-short_single, length-first}
use Rattle.tp_unit.specs.Unit.{Meaning, SingleFrame, FirstFrame, ConsecutiveFrame, FlowControl, NoUnit}

-- one row of the table each: what a frame with these bytes at these places is read as
pub short_single-row : (a : ℕ) (bytes : List ℕ) (len : ℕ) → a ≤ 1 → slice_index bytes a ≡ len → 1 ≤ len → len ≤ 7 - a → len + 1 + a ≤ length bytes → length bytes ≤ 8 →
    unit_in a bytes ≡ SingleFrame (take len (drop (a + 1) bytes))
unfolding unit_in
short_single-row a bytes len one at low high there short = grind (arith, nat_tests)

pub long_single-row : (a : ℕ) (bytes : List ℕ) (len : ℕ) → a ≤ 1 → slice_index bytes a ≡ 0 → slice_index bytes (a + 1) ≡ len → 8 - a ≤ len → len + 2 + a ≤ length bytes → 8 < length bytes →
    unit_in a bytes ≡ SingleFrame (take len (drop (a + 2) bytes))
unfolding unit_in
long_single-row a bytes len one at next low there long = grind (arith, nat_tests)

pub short_first-row : (a : ℕ) (bytes : List ℕ) (len : ℕ) → a ≤ 1 → 8 ≤ length bytes → slice_index bytes a ≡ 16 + len / 256 → slice_index bytes (a + 1) ≡ len % 256 → 0 < len → len ≤ 4095 →
    least_segmented a (length bytes) ≤ len → unit_in a bytes ≡ FirstFrame len (drop (a + 2) bytes)
unfolding unit_in
short_first-row a bytes len one whole at next some small segmented =
    let stated : short_length a bytes ≡ len = omega arith in
    let kind : slice_index bytes a / 16 ≡ 1 = omega arith in
    grind (arith, nat_tests)

pub long_first-row : (a : ℕ) (bytes : List ℕ) (len : ℕ) → a ≤ 1 → 8 ≤ length bytes → slice_index bytes a ≡ 16 → slice_index bytes (a + 1) ≡ 0 → long_length a bytes ≡ len → 4095 < len →
    unit_in a bytes ≡ FirstFrame len (drop (a + 6) bytes)
unfolding unit_in
long_first-row a bytes len one whole at next stated large = grind (arith, nat_tests)

pub consecutive-row : (a : ℕ) (bytes : List ℕ) (number : ℕ) → a < length bytes → slice_index bytes a ≡ 32 + number → number ≤ 15 →
    unit_in a bytes ≡ ConsecutiveFrame number (drop (a + 1) bytes)
unfolding unit_in
consecutive-row a bytes number there at small = grind (arith, nat_tests)

pub flow_control-row : (a : ℕ) (bytes : List ℕ) (status : ℕ) → 3 + a ≤ length bytes → slice_index bytes a ≡ 48 + status → status ≤ 15 →
    unit_in a bytes ≡ FlowControl status (slice_index bytes (a + 1)) (slice_index bytes (a + 2))
unfolding unit_in
flow_control-row a bytes status there at small = grind (arith, nat_tests)

-- a single frame, with or without an address byte
pub short_single-read : (address : Option ℕ) (message fill : List ℕ) → 1 ≤ length message → length message ≤ 7 - length (option_to_list address) →
    length message + 1 + length (option_to_list address) + length fill ≤ 8 →
    unit_in (length (option_to_list address)) (option_to_list address ++ (length message ∷ []) ++ message ++ fill) ≡ SingleFrame message
short_single-read None message fill low high short =
    let there : length (length message ∷ (message ++ fill)) ≡ length message + 1 + length fill = grind (arith, common_steps) in
    short_single-row 0 (length message ∷ (message ++ fill)) (length message) (omega arith) refl low high (omega arith) (omega arith) ∙ ap SingleFrame (take-append_seam message fill)
short_single-read (Some byte) message fill low high short =
    let there : length (byte ∷ length message ∷ (message ++ fill)) ≡ length message + 2 + length fill = grind (arith, common_steps) in
    short_single-row 1 (byte ∷ length message ∷ (message ++ fill)) (length message) (omega arith) refl low high (omega arith) (omega arith) ∙ ap SingleFrame (take-append_seam message fill)

pub long_single-read : (address : Option ℕ) (message fill : List ℕ) → 8 - length (option_to_list address) ≤ length message →
    unit_in (length (option_to_list address)) (option_to_list address ++ (0 ∷ length message ∷ []) ++ message ++ fill) ≡ SingleFrame message
long_single-read None message fill low =
    let there : length (0 ∷ length message ∷ (message ++ fill)) ≡ length message + 2 + length fill = grind (arith, common_steps) in
    long_single-row 0 (0 ∷ length message ∷ (message ++ fill)) (length message) (omega arith) refl refl low (omega arith) (omega arith) ∙ ap SingleFrame (take-append_seam message fill)
long_single-read (Some byte) message fill low =
    let there : length (byte ∷ 0 ∷ length message ∷ (message ++ fill)) ≡ length message + 3 + length fill = grind (arith, common_steps) in
    long_single-row 1 (byte ∷ 0 ∷ length message ∷ (message ++ fill)) (length message) (omega arith) refl refl low (omega arith) (omega arith) ∙ ap SingleFrame (take-append_seam message fill)

pub single-read : (address : Option ℕ) (message fill : List ℕ) (short : Bool) → nat_le (length message) (7 - length (option_to_list address)) ≡ short → 1 ≤ length message →
    (length message ≤ 7 - length (option_to_list address) → length message + 1 + length (option_to_list address) + length fill ≤ 8) →
    unit_in (length (option_to_list address)) (option_to_list address ++ (if short then length message ∷ [] else 0 ∷ length message ∷ []) ++ message ++ fill) ≡ SingleFrame message
single-read address message fill true is low fits =
    let high : length message ≤ 7 - length (option_to_list address) = grind (arith, nat_tests) in
    short_single-read address message fill low high (fits high)
single-read address message fill false is low fits =
    let high : 8 - length (option_to_list address) ≤ length message = grind (arith, nat_tests) in
    long_single-read address message fill high

-- a first frame, whose frame isn't filled
pub short_first-read : (address : Option ℕ) (len size : ℕ) (message : List ℕ) → length (option_to_list address ++ ((16 + len / 256) ∷ len % 256 ∷ []) ++ message) ≡ size → 8 ≤ size → 0 < len → len ≤ 4095 →
    least_segmented (length (option_to_list address)) size ≤ len →
    unit_in (length (option_to_list address)) (option_to_list address ++ ((16 + len / 256) ∷ len % 256 ∷ []) ++ message) ≡ FirstFrame len message
short_first-read None len size message whole large some small segmented =
    let P : ℕ → Type 0 = λ n. least_segmented 0 n ≤ len in
    short_first-row 0 ((16 + len / 256) ∷ len % 256 ∷ message) len (omega arith) (omega (arith, whole)) refl refl some small (subst P (sym whole) segmented)
short_first-read (Some byte) len size message whole large some small segmented =
    let P : ℕ → Type 0 = λ n. least_segmented 1 n ≤ len in
    short_first-row 1 (byte ∷ (16 + len / 256) ∷ len % 256 ∷ message) len (omega arith) (omega (arith, whole)) refl refl some small (subst P (sym whole) segmented)

pub long_first-read : (address : Option ℕ) (len : ℕ) (message : List ℕ) → 8 ≤ length (option_to_list address ++ (16 ∷ 0 ∷ to_be_bytes w32 len) ++ message) → 4095 < len → len < 2 ^ 32 →
    unit_in (length (option_to_list address)) (option_to_list address ++ (16 ∷ 0 ∷ to_be_bytes w32 len) ++ message) ≡ FirstFrame len message
long_first-read None len message large long fits =
    long_first-row 0 (16 ∷ 0 ∷ (to_be_bytes w32 len ++ message)) len (omega arith) large refl refl (from_be_bytes-to_be_bytes_4 len fits) long
long_first-read (Some byte) len message large long fits =
    long_first-row 1 (byte ∷ 16 ∷ 0 ∷ (to_be_bytes w32 len ++ message)) len (omega arith) large refl refl (from_be_bytes-to_be_bytes_4 len fits) long

pub first-read : (address : Option ℕ) (len size : ℕ) (message : List ℕ) (short : Bool) → nat_le len 4095 ≡ short → len < 2 ^ 32 → 0 < len →
    length (option_to_list address ++ (if short then (16 + len / 256) ∷ len % 256 ∷ [] else 16 ∷ 0 ∷ to_be_bytes w32 len) ++ message) ≡ size → 8 ≤ size →
    least_segmented (length (option_to_list address)) size ≤ len →
    unit_in (length (option_to_list address)) (option_to_list address ++ (if short then (16 + len / 256) ∷ len % 256 ∷ [] else 16 ∷ 0 ∷ to_be_bytes w32 len) ++ message) ≡ FirstFrame len message
first-read address len size message true is fits some whole large segmented =
    let small : len ≤ 4095 = grind (arith, nat_tests) in
    short_first-read address len size message whole large some small segmented
first-read address len size message false is fits some whole large segmented =
    let long : 4095 < len = grind (arith, nat_tests) in
    long_first-read address len message (omega (arith, whole)) long fits

-- a consecutive frame, whose fill bytes can't be told from its own
pub consecutive-read : (address : Option ℕ) (number : ℕ) (message fill : List ℕ) → number ≤ 15 →
    unit_in (length (option_to_list address)) (option_to_list address ++ ((32 + number) ∷ []) ++ message ++ fill) ≡ ConsecutiveFrame number (message ++ fill)
consecutive-read None number message fill small = consecutive-row 0 ((32 + number) ∷ (message ++ fill)) number (omega arith) refl small
consecutive-read (Some byte) number message fill small = consecutive-row 1 (byte ∷ (32 + number) ∷ (message ++ fill)) number (omega arith) refl small

-- a flow control
pub flow_control-read : (address : Option ℕ) (status block_size separation : ℕ) (fill : List ℕ) → status ≤ 15 →
    unit_in (length (option_to_list address)) (option_to_list address ++ ((48 + status) ∷ block_size ∷ separation ∷ []) ++ [] ++ fill) ≡ FlowControl status block_size separation
flow_control-read None status block_size separation fill small = flow_control-row 0 ((48 + status) ∷ block_size ∷ separation ∷ fill) status (omega arith) refl small
flow_control-read (Some byte) status block_size separation fill small = flow_control-row 1 (byte ∷ (48 + status) ∷ block_size ∷ separation ∷ fill) status (omega arith) refl small

-- a unit that fits its shape is read back from its frame
pub reads_back : (shape : Shape) (unit : Meaning) → IsShape shape → fits_shape shape unit ≡ true → unit_in (address_size shape) (frame_of shape unit).bytes ≡ read_back shape unit
reads_back shape (SingleFrame bytes) sound fits =
    let low : 1 ≤ length bytes = grind (arith, nat_tests) in
    single-read shape.address bytes (fill_of shape (length (unfilled shape (SingleFrame bytes)))) (nat_le (length bytes) (7 - address_size shape)) refl low
    (λ short. let before : length (unfilled shape (SingleFrame bytes)) ≡ address_size shape + 1 + length bytes = length-short_single shape bytes short in
    omega (arith, before, length-fill_of shape (length (unfilled shape (SingleFrame bytes))), filled_length-short shape (length (unfilled shape (SingleFrame bytes))) (omega (arith, before, length-address shape.address)), length-address shape.address))
reads_back shape (FirstFrame len bytes) sound fits =
    let whole : length (unfilled shape (FirstFrame len bytes)) ≡ shape.dl = length-first shape len bytes sound fits in
    let none : fill_of shape (length (unfilled shape (FirstFrame len bytes))) ≡ [] = fill_of-whole shape (length (unfilled shape (FirstFrame len bytes))) sound whole in
    let large : 8 ≤ shape.dl = (size_of shape sound).0 in
    let small : len < 2 ^ 32 = grind (arith, nat_tests) in
    let some : 0 < len = grind (arith, nat_tests) in
    let segmented : least_segmented (address_size shape) shape.dl ≤ len = grind (arith, nat_tests, length-address shape.address) in
    ap (λ xs. unit_in (address_size shape) (unfilled shape (FirstFrame len bytes) ++ xs)) none ∙ ap (unit_in (address_size shape)) (append-nil (unfilled shape (FirstFrame len bytes)))
    ∙ first-read shape.address len shape.dl bytes (nat_le len 4095) refl small some whole large segmented
reads_back shape (ConsecutiveFrame number bytes) sound fits =
    let small : number ≤ 15 = grind (arith, nat_tests) in
    consecutive-read shape.address number bytes (fill_of shape (length (unfilled shape (ConsecutiveFrame number bytes)))) small
reads_back shape (FlowControl status block_size separation) sound fits =
    let small : status ≤ 15 = grind (arith, nat_tests) in
    flow_control-read shape.address status block_size separation (fill_of shape (length (unfilled shape (FlowControl status block_size separation)))) small
reads_back shape (NoUnit why) sound fits = cc
