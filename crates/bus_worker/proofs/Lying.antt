-- What lies in a machine's box after a step: as a unit, and as the frame of it.
use Rattle.std.proofs.Common.{◌≡◌, Option, None, refl}
use Rattle.can_frame.specs.Frame.{CanFrame}
use Rattle.tp_receiver.specs.Runs.{control_once}
use Rattle.tp_receiver.specs.State.{RxEvent, Came, Timer, FcLeft, RunEnd}
use Rattle.tp_sender.specs.Runs.{box_once}
use Rattle.tp_sender.specs.State.{HasFrame, IsInBox, StillHasFrame, Transmission}
use Rattle.tp_sender.specs.declared.event.TxEvent.{TxEvent}
use Rattle.tp_sender.specs.declared.event.TxEvent.TheVariants.{Turn, Fc, Left, RunEnd as EndOfRun}
use Rattle.tp_unit.specs.Box.{box_then}
use Rattle.tp_unit.specs.Unit.{BoxMeaning, Keeps, Meaning, Offers, Revokes}
use Rattle.tp_unit.specs.declared.shape.Shape.{Shape}
use Rattle.bus_worker.specs.Boxed.{FitsAct, frame_then}
use Rattle.bus_worker.specs.Stands.{FitsIn, Lies, framed}

pub framed-then : (shape : Shape) (act : BoxMeaning) (lies : Option Meaning) → framed shape (box_then act lies) ≡ frame_then shape act (framed shape lies)
framed-then shape Keeps lies = refl
framed-then shape (Offers meaning) lies = refl
framed-then shape Revokes lies = refl

-- the frame that lies in the box still, once the event came
abbrev pub control_frame_once : RxEvent → Option CanFrame → Option CanFrame
control_frame_once (Came size meaning) lies = lies
control_frame_once Timer lies = lies
control_frame_once FcLeft lies = None
control_frame_once RunEnd lies = lies

pub framed-control : (shape : Shape) (event : RxEvent) (lies : Option Meaning) → framed shape (control_once event lies) ≡ control_frame_once event (framed shape lies)
framed-control shape (Came size meaning) lies = refl
framed-control shape Timer lies = refl
framed-control shape FcLeft lies = refl
framed-control shape RunEnd lies = refl

abbrev pub data_frame_once : TxEvent → Option CanFrame → Option CanFrame
data_frame_once Turn lies = lies
data_frame_once (Fc fs bs st) lies = lies
data_frame_once Left lies = None
data_frame_once EndOfRun lies = lies

pub framed-data : (shape : Shape) (event : TxEvent) (lies : Option Meaning) → framed shape (box_once event lies) ≡ data_frame_once event (framed shape lies)
framed-data shape Turn lies = refl
framed-data shape (Fc fs bs st) lies = refl
framed-data shape Left lies = refl
framed-data shape EndOfRun lies = refl

pub fits-put : (shape : Shape) (act : BoxMeaning) (lies : Option Meaning) → FitsAct shape act → FitsIn shape lies → FitsIn shape (box_then act lies)
fits-put shape Keeps lies act fits = fits
fits-put shape (Offers meaning) lies act fits = act
fits-put shape Revokes lies act fits = tt

pub fits-control : (shape : Shape) (event : RxEvent) (lies : Option Meaning) → FitsIn shape lies → FitsIn shape (control_once event lies)
fits-control shape (Came size meaning) lies fits = fits
fits-control shape Timer lies fits = fits
fits-control shape FcLeft lies fits = tt
fits-control shape RunEnd lies fits = fits

pub fits-frame : (shape : Shape) (event : TxEvent) (lies : Option Meaning) → FitsIn shape lies → FitsIn shape (box_once event lies)
fits-frame shape Turn lies fits = fits
fits-frame shape (Fc fs bs st) lies fits = fits
fits-frame shape Left lies fits = tt
fits-frame shape EndOfRun lies fits = fits

-- both say the same
abbrev pub Both : Type 0 → Type 0 → Type 0
Both one other = (one → other) × (other → one)

pub has-still : (event : TxEvent) (live : Option Transmission) (lies : Option Meaning) → Both (HasFrame live) (Lies lies) → Both (StillHasFrame event live) (Lies (box_once event lies))
has-still Turn live lies both = both
has-still (Fc fs bs st) live lies both = both
has-still Left live lies both = (λ x. x, λ x. x)
has-still EndOfRun live lies both = both

pub has-then : (act : BoxMeaning) (was : Type 0) (live : Option Transmission) (lies : Option Meaning) → IsInBox act was live → Both was (Lies lies) → Both (HasFrame live) (Lies (box_then act lies))
has-then Keeps was live lies boxed both = (λ h. both.0 (boxed.1 h), λ l. boxed.0 (both.1 l))
has-then (Offers meaning) was live lies boxed both = (λ h. tt, λ l. boxed)
has-then Revokes was live lies boxed both = (λ h. boxed h, λ l. absurd l)
