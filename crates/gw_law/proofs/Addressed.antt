-- A frame that a channel writes is one of its own: it has the channel's identifier and address byte, and is read as what it was written of.
use Rattle.std.proofs.Common.{◌≡◌, ℕ, Bool, true, false, ◌&&◌, cond, Option, None, Some, List, [], ◌∷◌, ◌++◌, refl, ap, sym, ◌∙◌, subst, eq-eqb}
use Rattle.std.specs.Prelude.{filter, option_to_list}
use Rattle.std.specs.List.{AllByRecursion}
use Rattle.can_frame.specs.Frame.{CanFrame}
use Rattle.can_frame.specs.declared.id.CanId.{CanId}
use Rattle.can_frame.specs.declared.id.CanId.TheVariants.{Std, Ext}
use Rattle.receiver_law.specs.Channel.{WritesControl}
use Rattle.sender_law.specs.Channel.{WritesData}
use Rattle.tp_attempts.specs.Seen.{is_data}
use Rattle.tp_receiver.specs.Own.{AsksToWait, Continues, IsControl, TellsOverflow}
use Rattle.tp_receiver.specs.declared.set.RxSet.{RxSet}
use Rattle.tp_unit.proofs.RoundTrip.{reads_back}
use Rattle.tp_unit.specs.Box.{IsNoData, Written}
use Rattle.tp_unit.specs.Reading.{unit_of}
use Rattle.tp_unit.specs.Shape.{IsShape, address_size}
use Rattle.tp_unit.specs.Unit.{ConsecutiveFrame, FirstFrame, FlowControl, Meaning, NoUnit, SingleFrame}
use Rattle.tp_unit.specs.Writing.{frame_of, read_back}
use Rattle.tp_unit.specs.declared.shape.Shape.{Shape}
use Rattle.gw_law.specs.Channels.{address_in, begins_with, controls_of, data_of, is_addressed, is_control, is_same_id}

same-id : (id : CanId) → is_same_id id id ≡ true
same-id (Std number) = eq-eqb number number refl
same-id (Ext number) = eq-eqb number number refl

begins : (address : Option ℕ) (control message fill : List ℕ) → begins_with address (option_to_list address ++ control ++ message ++ fill) ≡ true
begins None control message fill = refl
begins (Some byte) control message fill = eq-eqb byte byte refl

both : (a b : Bool) → a ≡ true → b ≡ true → (a && b) ≡ true
both true b is so = so
both false b is so = is

addressed : (shape : Shape) (unit : Meaning) → is_addressed (address_in shape) (frame_of shape unit) ≡ true
addressed shape unit = both (begins_with shape.address (frame_of shape unit).bytes) (is_same_id shape.id shape.id) (begins shape.address _ _ _) (same-id shape.id)

-- what is kept whole by a filter
kept : {A : Type 0} (keeps : A → Bool) (xs : List A) → AllByRecursion (λ x. keeps x ≡ true) xs → filter keeps xs ≡ xs
kept keeps [] all = refl
kept keeps (x ∷ xs) all = ap (λ b. cond b (x ∷ filter keeps xs) (filter keeps xs)) all.0 ∙ ap (λ l. x ∷ l) (kept keeps xs all.1)

control-by : (set : RxSet) (shape : Shape) (meaning : Meaning) → IsControl set meaning → is_control (read_back shape meaning) ≡ true
control-by set shape meaning (Continues frames block is) = ap (λ m. is_control (read_back shape m)) is
control-by set shape meaning (AsksToWait is) = ap (λ m. is_control (read_back shape m)) is
control-by set shape meaning (TellsOverflow is) = ap (λ m. is_control (read_back shape m)) is

-- a flow control of a channel, and a data frame of one
abbrev pub IsControlOf : Shape → Written → Type 0
IsControlOf shape w = (is_addressed (address_in shape) w.frame && is_control (unit_of (address_size shape) w.frame)) ≡ true

abbrev pub IsDataOf : Shape → Written → Type 0
IsDataOf shape w = (is_addressed (address_in shape) w.frame && is_data (unit_of (address_size shape) w.frame)) ≡ true

pub control-is : (set : RxSet) (shape : Shape) (w : Written) → IsShape shape → WritesControl set shape w → IsControlOf shape w
control-is set shape w sound is =
    let C : CanFrame → Type 0 = λ f. (is_addressed (address_in shape) f && is_control (unit_of (address_size shape) f)) ≡ true in
    subst C (sym is.frame)
    (both (is_addressed (address_in shape) (frame_of shape is.meaning)) (is_control (unit_of (address_size shape) (frame_of shape is.meaning))) (addressed shape is.meaning)
    (ap is_control (reads_back shape is.meaning sound is.fits) ∙ control-by set shape is.meaning is.control))

data-by : (shape : Shape) (meaning : Meaning) → (IsNoData meaning → ⊥) → is_data (read_back shape meaning) ≡ true
data-by shape (SingleFrame bytes) carries = refl
data-by shape (FirstFrame len bytes) carries = refl
data-by shape (ConsecutiveFrame number bytes) carries = refl
data-by shape (FlowControl status block_size separation) carries = absurd (carries tt)
data-by shape (NoUnit why) carries = absurd (carries tt)

pub data-is : (shape : Shape) (w : Written) → IsShape shape → WritesData shape w → IsDataOf shape w
data-is shape w sound is =
    let D : CanFrame → Type 0 = λ f. (is_addressed (address_in shape) f && is_data (unit_of (address_size shape) f)) ≡ true in
    subst D (sym is.frame)
    (both (is_addressed (address_in shape) (frame_of shape is.meaning)) (is_data (unit_of (address_size shape) (frame_of shape is.meaning))) (addressed shape is.meaning)
    (ap is_data (reads_back shape is.meaning sound is.fits) ∙ data-by shape is.meaning is.carries))

-- where all that left is a channel's, all is kept
pub controls-kept : (shape : Shape) (left : List Written) → AllByRecursion (IsControlOf shape) left → controls_of shape left ≡ left
controls-kept shape left all = kept (λ (w : Written). is_addressed (address_in shape) w.frame && is_control (unit_of (address_size shape) w.frame)) left all

pub data-kept : (shape : Shape) (left : List Written) → AllByRecursion (IsDataOf shape) left → data_of shape left ≡ left
data-kept shape left all = kept (λ (w : Written). is_addressed (address_in shape) w.frame && is_data (unit_of (address_size shape) w.frame)) left all
