-- Each frame that a bus sends is what its channel's shape makes of a unit.
use Rattle.std.proofs.Common.{◌≡◌, ◌⊎◌, inl, inr, ℕ, Bool, true, false, ◌&&◌, cond, List, [], ◌∷◌, ap, subst, ◌∙◌}
use Rattle.std.specs.Prelude.{filter}
use Rattle.std.specs.List.{AllByRecursion}
use Rattle.can_frame.specs.Frame.{CanFrame}
use Rattle.gw_base.proofs.Lists.{all-at, all-weaker}
use Rattle.receiver_law.specs.Channel.{WritesControl}
use Rattle.sender_law.specs.Channel.{WritesData}
use Rattle.tp_attempts.specs.Seen.{is_data}
use Rattle.tp_unit.specs.Box.{Written}
use Rattle.tp_unit.specs.Reading.{unit_of}
use Rattle.tp_unit.specs.Shape.{address_size}
use Rattle.gw_law.specs.Account.{Account}
use Rattle.gw_law.specs.Channels.{address_in, controls_of, data_of, is_addressed, is_control}
use Rattle.gw_law.specs.Deeds.{StandsIn}
use Rattle.gw_law.specs.Emission.{BusLaw, IsClassicBus, IsControlOn, IsDataOn, WritesControlOn, WritesDataOn, WrittenLaw}
use Rattle.gw_law.specs.Lawful.{IsLawfulDest, IsLawfulSource}
use Rattle.gw_law.specs.Plan.{Receiving, Sending}

-- what holds of all that a filter keeps holds of the first item, where it is kept, and of what is kept of the others
first-kept : {A : Type 0} (P : A → Type 0) (keeps : A → Bool) (x : A) (xs : List A) → keeps x ≡ true → AllByRecursion P (filter keeps (x ∷ xs)) → P x
first-kept P keeps x xs is all =
    let Q : Bool → Type 0 = λ b. AllByRecursion P (cond b (x ∷ filter keeps xs) (filter keeps xs)) in
    (subst Q is all).0

others-by : {A : Type 0} (P : A → Type 0) (kept : Bool) (x : A) (others : List A) → AllByRecursion P (cond kept (x ∷ others) others) → AllByRecursion P others
others-by P true x others all = all.1
others-by P false x others all = all

others-kept : {A : Type 0} (P : A → Type 0) (keeps : A → Bool) (x : A) (xs : List A) → AllByRecursion P (filter keeps (x ∷ xs)) → AllByRecursion P (filter keeps xs)
others-kept P keeps x xs all = others-by P (keeps x) x (filter keeps xs) all

by-shape : (a : Account) (bus : ℕ) (left : List Written) →
    ((r : Receiving) → StandsIn a.plan.receivers r → r.bus ≡ bus → AllByRecursion (WritesControl r.set r.shape) (controls_of r.shape left)) →
    ((s : Sending) → StandsIn a.plan.senders s → s.bus ≡ bus → AllByRecursion (WritesData s.set.shape) (data_of s.set.shape left)) →
    AllByRecursion (λ (w : Written). IsControlOn a bus w ⊎ IsDataOn a bus w) left → AllByRecursion (λ (w : Written). WritesControlOn a bus w ⊎ WritesDataOn a bus w) left
by-shape a bus [] controls frames own = tt
by-shape a bus (w ∷ left) controls frames own = (
  elim own.0 [
    | inl is ↦ inl (is.0, is.1, is.2, first-kept (WritesControl is.0.set is.0.shape) (λ (w : Written). is_addressed (address_in is.0.shape) w.frame && is_control (unit_of (address_size is.0.shape) w.frame)) w left is.3 (controls is.0 is.1 is.2))
    | inr is ↦ inr (is.0, is.1, is.2, first-kept (WritesData is.0.set.shape) (λ (w : Written). is_addressed (address_in is.0.set.shape) w.frame && is_data (unit_of (address_size is.0.set.shape) w.frame)) w left is.3 (frames is.0 is.1 is.2))
  ],
  by-shape a bus left
      (λ r there on. others-kept (WritesControl r.set r.shape) (λ (w : Written). is_addressed (address_in r.shape) w.frame && is_control (unit_of (address_size r.shape) w.frame)) w left (controls r there on))
      (λ s there on. others-kept (WritesData s.set.shape) (λ (w : Written). is_addressed (address_in s.set.shape) w.frame && is_data (unit_of (address_size s.set.shape) w.frame)) w left (frames s there on)) own.1,
)

-- a frame is of the kind that its channel's shape has
no-fd : (a : Account) (bus : ℕ) → IsClassicBus a bus → (w : Written) → WritesControlOn a bus w ⊎ WritesDataOn a bus w → w.frame.fd ≡ false
no-fd a bus classic w (inl is) =
    ap (λ (f : CanFrame). f.fd) is.3.frame ∙ all-at (λ (r : Receiving). r.bus ≡ bus → r.shape.fd ≡ false) a.plan.receivers is.1.0 is.0 classic.receivers is.1.1 is.2
no-fd a bus classic w (inr is) =
    ap (λ (f : CanFrame). f.fd) is.3.frame ∙ all-at (λ (s : Sending). s.bus ≡ bus → s.set.shape.fd ≡ false) a.plan.senders is.1.0 is.0 classic.senders is.1.1 is.2

pub written-law : (a : Account) → AllByRecursion (IsLawfulSource a) a.plan.receivers → AllByRecursion (IsLawfulDest a) a.plan.senders → (bus : ℕ) → BusLaw a bus → WrittenLaw a bus
written-law a sources dests bus law =
    let all = by-shape a bus (a.left bus)
    (λ r there on. subst (λ (b : ℕ). AllByRecursion (WritesControl r.set r.shape) (controls_of r.shape (a.left b))) on (all-at (IsLawfulSource a) a.plan.receivers there.0 r sources there.1).emission.are_controls)
    (λ s there on. subst (λ (b : ℕ). AllByRecursion (WritesData s.set.shape) (data_of s.set.shape (a.left b))) on (all-at (IsLawfulDest a) a.plan.senders there.0 s dests there.1).emission.are_data) law.own in
    record {
      by_shape = all;
      classic = λ classic. all-weaker (λ (w : Written). WritesControlOn a bus w ⊎ WritesDataOn a bus w) (λ (w : Written). w.frame.fd ≡ false) (a.left bus) (no-fd a bus classic) all;
    }
