-- A sender's part of a tick in its turns, and that nothing lies in its box where it sends nothing.
use Rattle.std.proofs.Common.{Bool, ◌≡◌, ℕ, Option, None, Some, List, [], ◌∷◌, ◌++◌, refl, ap, ◌∙◌, subst, append_assoc}
use Rattle.hub_core.specs.Turns.{Part, state_after}
use Rattle.tp_sender.specs.Runs.{HasSent, box_after, box_once}
use Rattle.tp_sender.specs.State.{HasFrame, IsInBox, StillHasFrame, TxTurn, Transmission, tx_new}
use Rattle.tp_sender.specs.declared.event.TxEvent.{TxEvent}
use Rattle.tp_sender.specs.declared.event.TxEvent.TheVariants.{Turn, Fc, Left, RunEnd}
use Rattle.tp_sender.specs.declared.set.TxSet.{TxSet}
use Rattle.tp_sender.proofs.Settles.{box-settles}
use Rattle.tp_unit.specs.Box.{box_then}
use Rattle.tp_unit.specs.Unit.{BoxMeaning, Keeps, Offers, Revokes, Meaning}
use Rattle.sender_law.specs.Parts.{IsTxPart}
use Rattle.sender_law.specs.Runs.{AreTxParts}

-- a part's turns, after earlier ones
pub turns-in : (full : ℕ → Bool) (earlier : List TxTurn) (part : Part TxTurn) → (is : IsTxPart full earlier part) → part.turns ++ earlier ≡ is.left ++ is.turn ∷ (is.answers ++ earlier)
turns-in full earlier part is = ap (λ l. l ++ earlier) is.turns_are ∙ append_assoc is.left (is.turn ∷ is.answers) earlier

-- where no session is sent nothing lies in the box
abbrev pub Agrees : Option Meaning → Type 0 → Type 0
Agrees None has = Unit {0}
Agrees (Some meaning) has = has

agrees-then : (act : BoxMeaning) (lies : Option Meaning) (was : Type 0) (live : Option Transmission) → IsInBox act was live → Agrees lies was → Agrees (box_then act lies) (HasFrame live)
agrees-then Keeps None was live is agrees = tt
agrees-then Keeps (Some meaning) was live is agrees = is.0 agrees
agrees-then (Offers meaning) lies was live is agrees = is
agrees-then Revokes lies was live is agrees = tt

agrees-once : (event : TxEvent) (lies : Option Meaning) (live : Option Transmission) → Agrees lies (HasFrame live) → Agrees (box_once event lies) (StillHasFrame event live)
agrees-once Turn lies live agrees = agrees
agrees-once (Fc fs bs st) lies live agrees = agrees
agrees-once Left lies live agrees = tt
agrees-once RunEnd lies live agrees = agrees

pub box-agrees : (set : TxSet) (turns : List TxTurn) → HasSent set turns → Agrees (box_after turns) (HasFrame (state_after tx_new turns).live)
box-agrees set [] happened = tt
box-agrees set (turn ∷ earlier) happened =
    agrees-then turn.did.act (box_once turn.event (box_after earlier)) (StillHasFrame turn.event (state_after tx_new earlier).live) turn.did.new.live (box-settles set (state_after tx_new earlier) turn.event turn.did happened.1.1)
    (agrees-once turn.event (box_after earlier) (state_after tx_new earlier).live (box-agrees set earlier happened.2))

none-lies : (lies : Option Meaning) (live : Option Transmission) → live ≡ None → Agrees lies (HasFrame live) → lies ≡ None
none-lies None live is agrees = refl
none-lies (Some meaning) live is agrees = let P : Option Transmission → Type 0 = λ l. HasFrame l in absurd (subst P is agrees)

pub idle-box : (set : TxSet) (turns : List TxTurn) → HasSent set turns → (state_after tx_new turns).live ≡ None → box_after turns ≡ None
idle-box set turns happened is = none-lies (box_after turns) (state_after tx_new turns).live is (box-agrees set turns happened)

-- earlier parts of a run
pub parts-front : (full : ℕ → Bool) (later earlier : List (Part TxTurn)) → AreTxParts full (later ++ earlier) → AreTxParts full earlier
parts-front full [] earlier are = are
parts-front full (part ∷ later) earlier are = parts-front full later earlier are.1
