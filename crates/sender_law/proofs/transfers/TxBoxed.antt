-- Where a session ends while its next frame waits for the bus, that frame lay in the box.
use Rattle.std.proofs.Common.{◌≡◌, ℕ, Option, None, Some, List, [], ◌∷◌, refl, sym, ◌∙◌}
use Rattle.std.specs.List.{AllByRecursion}
use Rattle.hub_core.specs.Turns.{state_after}
use Rattle.hub_core.specs.declared.record.DestRecord.{DestRecord}
use Rattle.hub_core.specs.declared.record.DestResult.{DestResult}
use Rattle.hub_core.specs.declared.record.DestResult.TheVariants.{Sent, SourceEnded, BsTimeout, FcOverflow, InvalidFs, CsTimeout, AsTimeout, Cancelled, RunEnd as EndOfRun}
use Rattle.hub_core.specs.declared.record.TxWait.TheVariants.{Bus as ForBus, Start as ForStart, Bytes as ForBytes, Fc as ForFc, Gap as ForGap}
use Rattle.tp_sender.specs.Runs.{HasSent, box_after}
use Rattle.tp_sender.specs.State.{Transmission, TxDid, TxTurn, tx_new}
use Rattle.tp_sender.specs.Table.{TxRow, wait_of}
use Rattle.tp_sender.specs.declared.event.TxEvent.{TxEvent}
use Rattle.tp_sender.specs.declared.set.TxSet.{TxSet}
use Rattle.tp_sender.specs.declared.transmission.Phase.{Phase}
use Rattle.tp_sender.specs.declared.transmission.Phase.TheVariants.{Start, Bytes, Box, Fc, Gap}
use Rattle.tp_unit.specs.Shape.{IsShape}
use Rattle.sender_law.specs.Boxed.{BoxedLaw, LayInBox, WaitedForBus}
use Rattle.sender_law.proofs.transfers.TxEnds.{EndsFrom, IsEndNew, IsEndOf, of-idle, of-live}
use Rattle.sender_law.proofs.transfers.TxLaw.{so-far, world_of}
use Rattle.sender_law.proofs.transfers.TxLeft.{in-box}
use Rattle.sender_law.proofs.transfers.TxMoves.{lives-some}
use Rattle.sender_law.proofs.transfers.TxWorld.{GoesOn as Goes, IsBoxed, SoFar}
use Rattle.gw_base.proofs.Lists.{all-weaker}

awaits-bus : (phase : Phase) → wait_of phase ≡ ForBus → phase ≡ Box
awaits-bus Start is = let no : ForStart ≡ ForBus = is in cc
awaits-bus Bytes is = let no : ForBytes ≡ ForBus = is in cc
awaits-bus Box is = refl
awaits-bus Fc is = let no : ForFc ≡ ForBus = is in cc
awaits-bus (Gap until) is = let no : ForGap ≡ ForBus = is in cc

-- a result that tells of the bus ends a session whose next frame lies in the box
bus-of : (s : Transmission) (event : TxEvent) (sent : ℕ) (result : DestResult) → EndsFrom s event sent result → WaitedForBus result → (sent ≡ s.sent) × (s.phase ≡ Box)
bus-of s event sent Sent from waited = absurd waited
bus-of s event sent SourceEnded from waited = absurd waited
bus-of s event sent BsTimeout from waited = absurd waited
bus-of s event sent FcOverflow from waited = absurd waited
bus-of s event sent (InvalidFs status) from waited = absurd waited
bus-of s event sent (CsTimeout seen) from waited = absurd waited
bus-of s event sent AsTimeout from waited = from
bus-of s event sent Cancelled from waited = absurd waited
bus-of s event sent (EndOfRun wait since) from waited = (from.0, awaits-bus s.phase (sym from.1 ∙ waited))

-- what lay in the box then
lay : (set : TxSet) (earlier : List TxTurn) (s : Transmission) (event : TxEvent) (told : DestRecord) → IsShape set.shape → HasSent set earlier → (state_after tx_new earlier).live ≡ Some s → IsEndOf s event told → WaitedForBus told.result → LayInBox set earlier told
lay set earlier s event told sound happened is of waited =
    let so : SoFar set.shape (world_of set earlier) = so-far set earlier sound happened in
    let on : Goes set.shape (world_of set earlier) s so.going = lives-some set.shape (world_of set earlier) (state_after tx_new earlier).live s so.going is so.lives in
    let bus = bus-of s event told.sent told.result of.from waited in
    let boxed : IsBoxed set.shape s.len s.sent s.number (box_after earlier) on.offered = in-box set.shape s.len s.sent s.number s.phase (box_after earlier) on.offered bus.1 on.box in
    record { s = s; live = is; seq = of.seq; sent = bus.0; bytes = on.offered; lies = boxed.lies; part = boxed.part }

of-row : (set : TxSet) (earlier : List TxTurn) (next : ℕ) (live : Option Transmission) (event : TxEvent) (did : TxDid) → IsShape set.shape → HasSent set earlier → (state_after tx_new earlier).live ≡ live → TxRow set next live event did →
    AllByRecursion (λ (told : DestRecord). WaitedForBus told.result → LayInBox set earlier told) did.records
of-row set earlier next None event did sound happened is row =
    all-weaker (IsEndNew did.tick) (λ (told : DestRecord). WaitedForBus told.result → LayInBox set earlier told) did.records (λ told new waited. absurd (new.bus waited)) (of-idle set next event did row)
of-row set earlier next (Some s) event did sound happened is row =
    all-weaker (IsEndOf s event) (λ (told : DestRecord). WaitedForBus told.result → LayInBox set earlier told) did.records (λ told of waited. lay set earlier s event told sound happened is of waited) (of-live set s event did.calls did row.0)

pub boxed : (set : TxSet) (turns : List TxTurn) → IsShape set.shape → HasSent set turns → BoxedLaw set turns
boxed set [] sound happened = tt
boxed set (turn ∷ earlier) sound happened =
    (of-row set earlier (state_after tx_new earlier).next (state_after tx_new earlier).live turn.event turn.did sound happened.2 refl happened.1.1, boxed set earlier sound happened.2)
