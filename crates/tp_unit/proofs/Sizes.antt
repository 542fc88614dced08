-- How long the frames of a shape are.
use Rattle.std.proofs.Common.{◌≡◌, ℕ, ◌+◌, ◌-◌, ◌≤◌, Bool, true, false, Option, None, Some, List, [], ◌++◌, length, max, arith, ap, ◌∙◌}
use Rattle.std.proofs.Math.ListN.{replicate}
use Rattle.std.specs.Prelude.{option_to_list, if◌then◌else◌}
use Rattle.std.proofs.lemmas.Bool.Decides.{nat_tests}
use Rattle.std.proofs.lemmas.Grind.{common_steps}
use Rattle.std.proofs.lemmas.List.{length-append, length-replicate}
use Rattle.can_frame.specs.Length.{length_fits, least_fd_length}
use Rattle.tp_unit.specs.Shape.{IsShape, fits_shape, address_size}
use Rattle.tp_unit.specs.Writing.{unfilled, filled_length, fill_of, frame_of}
use Rattle.tp_unit.specs.declared.shape.Shape.{Shape}
use Rattle.tp_unit.specs.Unit.{Meaning, SingleFrame, FirstFrame, ConsecutiveFrame, FlowControl, NoUnit}

-- there is at most one address byte
pub length-address : (address : Option ℕ) → length (option_to_list address) ≤ 1
length-address None = omega arith
length-address (Some byte) = omega arith

-- the least lawful length isn't below, is lawful, and stays within a lawful one
pub least_fd_length-ge : (len : ℕ) → len ≤ 64 → len ≤ least_fd_length len
least_fd_length-ge len small = grind (arith, nat_tests)

pub least_fd_length-fits : (len : ℕ) → length_fits true (least_fd_length len) ≡ true
least_fd_length-fits len = grind (arith, nat_tests)

pub least_fd_length-le : (len most : ℕ) → len ≤ most → length_fits true most ≡ true → least_fd_length len ≤ most
least_fd_length-le len most below lawful = grind (arith, nat_tests)

-- a shape's frames have at least 8 and at most 64 bytes, and no more than 8 where they are classic
pub size_of : (shape : Shape) → IsShape shape → (8 ≤ shape.dl) × (shape.dl ≤ 64) × (shape.fd ≡ false → shape.dl ≡ 8) × (length_fits true shape.dl ≡ true)
size_of shape sound = grind (arith, nat_tests, sound.size, sound.fd)

-- a unit that fits its shape takes no more bytes than a frame has
pub length-unfilled : (shape : Shape) (unit : Meaning) → IsShape shape → fits_shape shape unit ≡ true → length (unfilled shape unit) ≤ shape.dl
length-unfilled shape (SingleFrame bytes) sound fits = grind (arith, nat_tests, common_steps, size_of shape sound, length-address shape.address)
length-unfilled shape (FirstFrame len bytes) sound fits = grind (arith, nat_tests, common_steps, size_of shape sound, length-address shape.address)
length-unfilled shape (ConsecutiveFrame number bytes) sound fits = grind (arith, nat_tests, common_steps, size_of shape sound, length-address shape.address)
length-unfilled shape (FlowControl status block_size separation) sound fits = grind (arith, nat_tests, common_steps, size_of shape sound, length-address shape.address)
length-unfilled shape (NoUnit why) sound fits = grind (arith, nat_tests, common_steps, size_of shape sound, length-address shape.address)

within : (fd : Bool) (len most : ℕ) → len ≤ most → length_fits true most ≡ true → (if fd then least_fd_length len else len) ≤ most
within true len most below lawful = least_fd_length-le len most below lawful
within false len most below lawful = below

-- filling adds, never takes, stays within the frame's size and gives a lawful length
pub filled_length-ge : (shape : Shape) (len : ℕ) → IsShape shape → len ≤ shape.dl → len ≤ filled_length shape len
filled_length-ge shape len sound below = grind (arith, nat_tests, size_of shape sound, least_fd_length-ge)

pub filled_length-le : (shape : Shape) (len : ℕ) → IsShape shape → len ≤ shape.dl → filled_length shape len ≤ shape.dl
filled_length-le shape len sound below =
    let padded : (if shape.pad then max 8 len else len) ≤ shape.dl = grind (arith, size_of shape sound) in
    within shape.fd (if shape.pad then max 8 len else len) shape.dl padded (size_of shape sound).3

pub filled_length-fits : (shape : Shape) (len : ℕ) → IsShape shape → len ≤ shape.dl → length_fits shape.fd (filled_length shape len) ≡ true
filled_length-fits shape len sound below = grind (arith, nat_tests, size_of shape sound, least_fd_length-fits)

-- a filled frame has the length that it is filled up to
pub length-filled : (shape : Shape) (bytes : List ℕ) → IsShape shape → length bytes ≤ shape.dl → length (bytes ++ fill_of shape (length bytes)) ≡ filled_length shape (length bytes)
length-filled shape bytes sound below = simp (length-append, length-replicate) (omega (arith, filled_length-ge shape (length bytes) sound below))

-- the frame of a unit that fits has a lawful length
pub length-frame_of : (shape : Shape) (unit : Meaning) → IsShape shape → fits_shape shape unit ≡ true → length_fits shape.fd (length (frame_of shape unit).bytes) ≡ true
length-frame_of shape unit sound fits =
    let below : length (unfilled shape unit) ≤ shape.dl = length-unfilled shape unit sound fits in
    rw (length-filled shape (unfilled shape unit) sound below) (filled_length-fits shape (length (unfilled shape unit)) sound below)

-- how many fill bytes there are, none after a frame that is whole, and no more than 8 bytes with them where there were no more
pub length-fill_of : (shape : Shape) (len : ℕ) → length (fill_of shape len) ≡ filled_length shape len - len
length-fill_of shape len = length-replicate (filled_length shape len - len) shape.fill

pub fill_of-whole : (shape : Shape) (len : ℕ) → IsShape shape → len ≡ shape.dl → fill_of shape len ≡ []
fill_of-whole shape len sound whole =
    let below : len ≤ shape.dl = omega arith in
    let none : filled_length shape len - len ≡ 0 = omega (arith, filled_length-le shape len sound below) in
    ap (λ n. replicate n shape.fill) none

pub filled_length-short : (shape : Shape) (len : ℕ) → len ≤ 8 → filled_length shape len ≤ 8
filled_length-short shape len short = grind (arith, nat_tests)

-- the bytes of a single frame of the short form, and of a first frame, before they are filled
pub length-short_single : (shape : Shape) (bytes : List ℕ) → length bytes ≤ 7 - address_size shape → length (unfilled shape (SingleFrame bytes)) ≡ address_size shape + 1 + length bytes
length-short_single shape bytes short = grind (arith, nat_tests, common_steps)

pub length-first : (shape : Shape) (len : ℕ) (bytes : List ℕ) → IsShape shape → fits_shape shape (FirstFrame len bytes) ≡ true → length (unfilled shape (FirstFrame len bytes)) ≡ shape.dl
length-first shape len bytes sound fits = grind (arith, nat_tests, common_steps, size_of shape sound, length-address shape.address)

-- no frame is longer than the shape allows, and a first frame is just so long
pub length-frame_of-le : (shape : Shape) (unit : Meaning) → IsShape shape → fits_shape shape unit ≡ true → length (frame_of shape unit).bytes ≤ shape.dl
length-frame_of-le shape unit sound fits =
    let below : length (unfilled shape unit) ≤ shape.dl = length-unfilled shape unit sound fits in
    rw (length-filled shape (unfilled shape unit) sound below) (filled_length-le shape (length (unfilled shape unit)) sound below)

pub length-frame_of-first : (shape : Shape) (len : ℕ) (bytes : List ℕ) → IsShape shape → fits_shape shape (FirstFrame len bytes) ≡ true → length (frame_of shape (FirstFrame len bytes)).bytes ≡ shape.dl
length-frame_of-first shape len bytes sound fits =
    let whole : length (unfilled shape (FirstFrame len bytes)) ≡ shape.dl = length-first shape len bytes sound fits in
    let below : length (unfilled shape (FirstFrame len bytes)) ≤ shape.dl = omega arith in
    let stays : filled_length shape (length (unfilled shape (FirstFrame len bytes))) ≡ shape.dl =
    omega (arith, filled_length-ge shape (length (unfilled shape (FirstFrame len bytes))) sound below, filled_length-le shape (length (unfilled shape (FirstFrame len bytes))) sound below) in
    length-filled shape (unfilled shape (FirstFrame len bytes)) sound below ∙ stays

-- where `grind` looks for the sizes
pub ruleset sizes = (filled_length-ge, filled_length-le, nat_tests, common_steps)
