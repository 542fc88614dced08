-- The laws of each destination, by its sender's run.
use Rattle.std.proofs.Common.{ℕ, List, [], ◌∷◌, ap, subst, arith}
use Rattle.std.specs.List.{AllByRecursion, AllZip}
use Rattle.sender_law.proofs.Emission.{emission}
use Rattle.sender_law.proofs.causes.TransmissionCauses.{causes, causes-fuller}
use Rattle.sender_law.proofs.records.DestRecords.{dest_records}
use Rattle.sender_law.specs.Channel.{DestChannel}
use Rattle.sender_law.specs.Emission.{DataEmission, DestRecords}
use Rattle.sender_law.specs.Runs.{HasLimits, TxRun, leg_of}
use Rattle.sender_law.specs.TransmissionCauses.{TransmissionCauses}
use Rattle.gw_law.specs.Account.{Account}
use Rattle.gw_law.specs.Lawful.{IsLawfulDest, is_full_of}
use Rattle.gw_law.specs.Plan.{IsLawfulSending, Sending}
use Rattle.gw_law.specs.Run.{IsSenderRun}

dest-of : (a : Account) (s : Sending) (run : TxRun) → IsLawfulSending a.plan s → IsSenderRun a s run → IsLawfulDest a s
dest-of a s run plan is =
    let b : ℕ = a.plan.budget s.bus in
    let limits : HasLimits run.set = record { n_as = omega (arith, plan.n_as, ap (λ (c : DestChannel). c.tx.n_as) is.tells); n_bs = omega (arith, plan.n_bs, ap (λ (c : DestChannel). c.tx.n_bs) is.tells) } in
    record {
      records = subst DestRecords is.tells (dest_records run b is.run_is);
      emission = subst DataEmission is.tells (emission run b is.run_is);
      transmissions = subst (TransmissionCauses (is_full_of a s)) is.tells (causes-fuller run.full (is_full_of a s) (leg_of b run) is.full (causes run b is.run_is limits));
    }

pub all-dests : (a : Account) (ss : List Sending) (runs : List TxRun) → AllByRecursion (IsLawfulSending a.plan) ss → AllZip (IsSenderRun a) ss runs → AllByRecursion (IsLawfulDest a) ss
all-dests a [] runs plan are = tt
all-dests a (s ∷ ss) [] plan are = absurd are
all-dests a (s ∷ ss) (run ∷ runs) plan are = (dest-of a s run plan.0 are.0, all-dests a ss runs plan.1 are.1)
