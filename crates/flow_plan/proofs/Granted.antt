-- What is granted has room.
use Rattle.std.proofs.Common.{◌≡◌, ℕ, ◌+◌, ◌*◌, ◌/◌, ◌<◌, ◌≤◌, Some, List, length, refl, ap, sym, ◌∙◌, subst, inl, inr, arith}
use Rattle.std.specs.Prelude.{slice_get, take}
use Rattle.std.proofs.Math.Nat.{div-mul-le_self, lt-div-mul-add, min-le_left, min-le_right, mul-le-mul_right}
use Rattle.std.proofs.lemmas.Bool.Decides.{eqb_tells, leb_tells}
use Rattle.flow_plan.proofs.Payloads.{first-of-all, first-of-full, payloads-most}
use Rattle.flow_plan.specs.Cells.{ArePayloads, cells_for, cells_in}
use Rattle.flow_plan.specs.Grant.{frames_of, granted_of, with_room}
use Rattle.flow_plan.specs.Laws.{IsGranted, grant_for}
use Rattle.flow_plan.specs.declared.block.Grant.{Grant}
use Rattle.flow_plan.specs.declared.block.Grant.TheVariants.{Wait}

-- of so many frames that have room: no more are granted, no more than the block size, and none only where none has room
record IsGrantOf (bs frames left : ℕ) (grant : Grant) : Type 0 where
  most : frames_of grant left ≤ frames
  block : 0 < bs → frames_of grant left ≤ bs
  waits : grant ≡ Wait → frames ≡ 0

grant-of : (bs frames left : ℕ) → IsGrantOf bs frames left (granted_of bs frames left)
grant-of bs frames left = elim (eqb_tells bs 0) [
  | inl free ↦ elim (eqb_tells frames left) [
    | inl all ↦ rw (free.0, all.0) (record { most = omega (arith, all.1); block = λ some. absurd (omega (arith, free.1, some)); waits = λ is. cc })
    | inr fewer ↦ elim (eqb_tells frames 0) [
      | inl none ↦ rw (free.0, fewer.0, none.0) (record { most = omega arith; block = λ some. omega arith; waits = λ is. none.1 })
      | inr some ↦ rw (free.0, fewer.0, some.0) (record { most = min-le_left frames 255; block = λ set. absurd (omega (arith, free.1, set)); waits = λ is. cc })
    ]
  ]
  | inr set ↦ elim (eqb_tells frames 0) [
    | inl none ↦ rw (set.0, none.0) (record { most = omega arith; block = λ some. omega arith; waits = λ is. none.1 })
    | inr some ↦ rw (set.0, some.0) (record { most = min-le_left frames bs; block = λ below. min-le_right frames bs; waits = λ is. cc })
  ]
]

-- the frames that have room: all that remain, or as many full ones as the room has
data HaveRoom (room per_cf cells left frames : ℕ) : Type 0 where
  AllOf : cells ≤ room → frames ≡ left → HaveRoom room per_cf cells left frames
  Full : room < cells → frames ≡ room / per_cf → HaveRoom room per_cf cells left frames

have-room : (room per_cf cells left : ℕ) → HaveRoom room per_cf cells left (with_room room per_cf cells left)
have-room room per_cf cells left = elim (leb_tells cells room) [
  | inl fits ↦ rw fits.0 (AllOf fits.1 refl)
  | inr more ↦ rw more.0 (Full (omega (arith, more.1)) refl)
]

room-by : (room cf left frames : ℕ) (payloads : List ℕ) (place bytes : ℕ) → ArePayloads cf left payloads → HaveRoom room (cells_for cf) (cells_in payloads) (length payloads) frames → place < frames →
    slice_get payloads place ≡ Some bytes → cells_in (take place payloads) + cells_for bytes ≤ room
room-by room cf left frames payloads place bytes are (AllOf fits all) below is = let so = first-of-all payloads place bytes is in omega (arith, so, fits)
room-by room cf left frames payloads place bytes are (Full more full) below is =
    let so = first-of-full cf left payloads place bytes are is in
    let times : (place + 1) * cells_for cf ≤ frames * cells_for cf = mul-le-mul_right (cells_for cf) (omega (arith, below)) in
    let within : frames * cells_for cf ≤ room = subst (λ (n : ℕ). n * cells_for cf ≤ room) (sym full) (div-mul-le_self room (cells_for cf)) in
    omega (arith, so, times, within)

remain-by : (room cf left frames : ℕ) (payloads : List ℕ) → ArePayloads cf left payloads → HaveRoom room (cells_for cf) (cells_in payloads) (length payloads) frames → frames ≤ length payloads
remain-by room cf left frames payloads are (AllOf fits all) = omega (arith, all)
remain-by room cf left frames payloads are (Full more full) =
    let most : cells_in payloads ≤ length payloads * cells_for cf = payloads-most cf left payloads are in
    let within : frames * cells_for cf ≤ room = subst (λ (n : ℕ). n * cells_for cf ≤ room) (sym full) (div-mul-le_self room (cells_for cf)) in
    elim (leb_tells frames (length payloads)) [
      | inl le ↦ le.1
      | inr above ↦ let times : length payloads * cells_for cf ≤ frames * cells_for cf = mul-le-mul_right (cells_for cf) (omega (arith, above.1)) in absurd (omega (arith, most, within, times, more))
    ]

wait-by : (room cf frames : ℕ) (payloads : List ℕ) → 0 < cf → HaveRoom room (cells_for cf) (cells_in payloads) (length payloads) frames → frames ≡ 0 → 0 < length payloads → (room < cells_for cf) × (room < cells_in payloads)
wait-by room cf frames payloads some (AllOf fits all) none more = absurd (omega (arith, all, none, more))
wait-by room cf frames payloads some (Full above full) none more =
    let per : 0 < cells_for cf = omega (arith, some) in
    let short : room < room / cells_for cf * cells_for cf + cells_for cf = lt-div-mul-add per in
    let zeros : room / cells_for cf * cells_for cf ≡ 0 * cells_for cf = ap (λ (n : ℕ). n * cells_for cf) (sym full ∙ none) in
    (omega (arith, short, zeros), above)

pub granted_has_room : (bs room cf left : ℕ) (payloads : List ℕ) → 0 < cf → ArePayloads cf left payloads → IsGranted bs room cf payloads (grant_for bs room cf payloads)
granted_has_room bs room cf left payloads some are =
    let frames : ℕ = with_room room (cells_for cf) (cells_in payloads) (length payloads) in
    let have : HaveRoom room (cells_for cf) (cells_in payloads) (length payloads) frames = have-room room (cells_for cf) (cells_in payloads) (length payloads) in
    let so : IsGrantOf bs frames (length payloads) (granted_of bs frames (length payloads)) = grant-of bs frames (length payloads) in
    let remain : frames ≤ length payloads = remain-by room cf left frames payloads are have in
    record {
      room_for = λ place bytes below is. room-by room cf left frames payloads place bytes are have (omega (arith, below, so.most)) is;
      remain = omega (arith, so.most, remain);
      block = so.block;
      waits = λ is more. wait-by room cf frames payloads some have (so.waits is) more;
    }
