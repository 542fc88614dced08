-- What a step leaves in a box fits the channel's shape, and a frame of the sender lies in its box where its session says so.
use Rattle.std.proofs.Common.{◌≡◌, Option, refl}
use Rattle.tp_sender.specs.Runs.{box_once}
use Rattle.tp_unit.specs.Box.{box_then}
use Rattle.tp_receiver.specs.State.{RxEvent, Came, Timer, FcLeft, RunEnd}
use Rattle.tp_receiver.specs.Runs.{control_once}
use Rattle.tp_sender.specs.Own.{IsFittingAct}
use Rattle.tp_sender.specs.State.{HasFrame, IsInBox, StillHasFrame, Transmission}
use Rattle.tp_sender.specs.declared.event.TxEvent.{TxEvent}
use Rattle.tp_sender.specs.declared.event.TxEvent.TheVariants.{Turn, Fc, Left, RunEnd}
use Rattle.tp_sender.specs.declared.set.TxSet.{TxSet}
use Rattle.tp_unit.specs.Shape.{fits_shape}
use Rattle.tp_unit.specs.Unit.{BoxMeaning, Keeps, Offers, Revokes, Meaning}
use Rattle.tp_unit.specs.declared.shape.Shape.{Shape}
use Rattle.gw_run.specs.Standing.{FitsIn, Lies}
use Rattle.std.specs.Prelude.{true}

-- what an act offers can be written in the channel's shape
abbrev pub FitsAct : Shape → BoxMeaning → Type 0
FitsAct shape Keeps = Unit {0}
FitsAct shape (Offers meaning) = fits_shape shape meaning ≡ true
FitsAct shape Revokes = Unit {0}

pub fits-offers : (shape : Shape) (act : BoxMeaning) → ((meaning : Meaning) → act ≡ Offers meaning → fits_shape shape meaning ≡ true) → FitsAct shape act
fits-offers shape Keeps fits = tt
fits-offers shape (Offers meaning) fits = fits meaning refl
fits-offers shape Revokes fits = tt

-- what a sender offers fits
pub fits-offered : (set : TxSet) (act : BoxMeaning) → IsFittingAct set act → FitsAct set.shape act
fits-offered set Keeps is = tt
fits-offered set (Offers meaning) is = is.fits
fits-offered set Revokes is = tt

pub fits-put : (shape : Shape) (act : BoxMeaning) (lies : Option Meaning) → FitsAct shape act → FitsIn shape lies → FitsIn shape (box_then act lies)
fits-put shape Keeps lies act fits = fits
fits-put shape (Offers meaning) lies act fits = act
fits-put shape Revokes lies act fits = tt

pub fits-control : (shape : Shape) (event : RxEvent) (lies : Option Meaning) → FitsIn shape lies → FitsIn shape (control_once event lies)
fits-control shape (Came size meaning) lies fits = fits
fits-control shape Timer lies fits = fits
fits-control shape FcLeft lies fits = tt
fits-control shape RunEnd lies fits = fits

pub fits-frame : (shape : Shape) (event : TxEvent) (lies : Option Meaning) → FitsIn shape lies → FitsIn shape (box_once event lies)
fits-frame shape Turn lies fits = fits
fits-frame shape (Fc fs bs st) lies fits = fits
fits-frame shape Left lies fits = tt
fits-frame shape RunEnd lies fits = fits

-- both say the same
abbrev pub Both : Type 0 → Type 0 → Type 0
Both one other = (one → other) × (other → one)

pub has-still : (event : TxEvent) (live : Option Transmission) (lies : Option Meaning) → Both (HasFrame live) (Lies lies) → Both (StillHasFrame event live) (Lies (box_once event lies))
has-still Turn live lies both = both
has-still (Fc fs bs st) live lies both = both
has-still Left live lies both = (λ x. x, λ x. x)
has-still RunEnd live lies both = both

pub has-then : (act : BoxMeaning) (was : Type 0) (live : Option Transmission) (lies : Option Meaning) → IsInBox act was live → Both was (Lies lies) → Both (HasFrame live) (Lies (box_then act lies))
has-then Keeps was live lies boxed both = (λ h. both.0 (boxed.1 h), λ l. boxed.0 (both.1 l))
has-then (Offers meaning) was live lies boxed both = (λ h. tt, λ l. boxed)
has-then Revokes was live lies boxed both = (λ h. boxed h, λ l. absurd l)
