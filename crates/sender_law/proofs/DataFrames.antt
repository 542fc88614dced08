-- Which frames leave from a sender's box: data frames that fit the channel's shape, and no others.
use Rattle.std.proofs.Common.{ℕ, Option, None, Some, List, [], ◌∷◌, refl}
use Rattle.std.specs.List.{AllByRecursion}
use Rattle.hub_core.specs.Turns.{state_after}
use Rattle.tp_unit.specs.Box.{box_then}
use Rattle.tp_unit.specs.Unit.{BoxMeaning, Keeps, Offers, Revokes, Meaning}
use Rattle.tp_sender.specs.Own.{IsFitting, IsFittingAct}
use Rattle.tp_sender.specs.Runs.{HasSent, box_after, box_once, left_by, written_at}
use Rattle.tp_sender.specs.State.{TxTurn, tx_new}
use Rattle.tp_sender.specs.declared.event.TxEvent.{TxEvent}
use Rattle.tp_sender.specs.declared.event.TxEvent.TheVariants.{Turn, Fc as CameFc, Left, RunEnd}
use Rattle.tp_sender.specs.declared.set.TxSet.{TxSet}
use Rattle.tp_sender.proofs.Own.{own}
use Rattle.sender_law.specs.Channel.{WritesData}
use Rattle.gw_base.proofs.Lists.{all-join}

-- what lies in the sender's box
abbrev pub IsDataIn : TxSet → Option Meaning → Type 0
IsDataIn set None = Unit {0}
IsDataIn set (Some meaning) = IsFitting set meaning

lies-then : (set : TxSet) (act : BoxMeaning) (lies : Option Meaning) → IsFittingAct set act → IsDataIn set lies → IsDataIn set (box_then act lies)
lies-then set Keeps lies is so = so
lies-then set (Offers meaning) lies is so = is
lies-then set Revokes lies is so = tt

lies-once : (set : TxSet) (event : TxEvent) (lies : Option Meaning) → IsDataIn set lies → IsDataIn set (box_once event lies)
lies-once set Turn lies so = so
lies-once set (CameFc status bs st) lies so = so
lies-once set Left lies so = tt
lies-once set RunEnd lies so = so

pub lies-data : (set : TxSet) (moments : List TxTurn) → HasSent set moments → IsDataIn set (box_after moments)
lies-data set [] happened = tt
lies-data set (m ∷ earlier) happened =
    lies-then set m.did.act (box_once m.event (box_after earlier)) (own set (state_after tx_new earlier) m.event m.did happened.1.1).act (lies-once set m.event (box_after earlier) (lies-data set earlier happened.2))

written-data : (set : TxSet) (event : TxEvent) (tick : ℕ) (lies : Option Meaning) → IsDataIn set lies → AllByRecursion (WritesData set.shape) (written_at set.shape event tick lies)
written-data set Turn tick lies so = tt
written-data set (CameFc status bs st) tick lies so = tt
written-data set Left tick None so = tt
written-data set Left tick (Some meaning) so = (record { meaning = meaning; carries = so.carries; fits = so.fits; frame = refl }, tt)
written-data set RunEnd tick lies so = tt

pub are-data : (set : TxSet) (moments : List TxTurn) → HasSent set moments → AllByRecursion (WritesData set.shape) (left_by set.shape moments)
are-data set [] happened = tt
are-data set (m ∷ earlier) happened =
    all-join (WritesData set.shape) (left_by set.shape earlier) (written_at set.shape m.event m.did.tick (box_after earlier)) (are-data set earlier happened.2) (written-data set m.event m.did.tick (box_after earlier) (lies-data set earlier happened.2))
