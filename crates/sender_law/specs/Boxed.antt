-- Where a session ends while its next frame waits for the bus, that frame lay in the box.
use Rattle.std.specs.Prelude.{◌≡◌, ℕ, Some, List, [], ◌∷◌, length}
use Rattle.std.specs.List.{AllByRecursion}
use Rattle.hub_core.specs.Turns.{state_after}
use Rattle.hub_core.specs.declared.record.DestRecord.{DestRecord}
use Rattle.hub_core.specs.declared.record.DestResult.{DestResult}
use Rattle.hub_core.specs.declared.record.DestResult.TheVariants.{Sent, SourceEnded, BsTimeout, FcOverflow, InvalidFs, CsTimeout, AsTimeout, Cancelled, RunEnd}
use Rattle.hub_core.specs.declared.record.TxWait.TheVariants.{Bus}
use Rattle.tp_sender.specs.Frame.{part_after, unit_after}
use Rattle.tp_sender.specs.Runs.{box_after}
use Rattle.tp_sender.specs.State.{Transmission, TxTurn, tx_new}
use Rattle.tp_sender.specs.declared.set.TxSet.{TxSet}

-- a result that tells that the next frame waited for the bus
abbrev pub WaitedForBus : DestResult → Type 0
WaitedForBus Sent = ⊥
WaitedForBus SourceEnded = ⊥
WaitedForBus BsTimeout = ⊥
WaitedForBus FcOverflow = ⊥
WaitedForBus (InvalidFs status) = ⊥
WaitedForBus (CsTimeout seen) = ⊥
WaitedForBus AsTimeout = Unit {0}
WaitedForBus Cancelled = ⊥
WaitedForBus (RunEnd wait since) = wait ≡ Bus

-- as the session of a record ended, its next frame lay in the box, with all bytes that it carries
pub record LayInBox (set : TxSet) (earlier : List TxTurn) (told : DestRecord) : Type 0 where
  pub s : Transmission
  pub live : (state_after tx_new earlier).live ≡ Some s
  pub seq : told.seq ≡ s.seq
  pub sent : told.sent ≡ s.sent
  pub bytes : List ℕ
  pub lies : box_after earlier ≡ Some (unit_after set.shape s.len s.sent s.number bytes)
  pub part : length bytes ≡ part_after set.shape s.len s.sent

-- each record that tells so
abbrev pub BoxedLaw : TxSet → List TxTurn → Type 0
BoxedLaw set [] = Unit {0}
BoxedLaw set (turn ∷ earlier) = AllByRecursion (λ (told : DestRecord). WaitedForBus told.result → LayInBox set earlier told) turn.did.records × BoxedLaw set earlier
