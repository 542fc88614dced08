-- What a sender is told at the run's end: it makes a record of each session that it sends or finds, until none stands.
use Rattle.std.proofs.Common.{◌≡◌, ℕ, ◌+◌, ◌*◌, ◌≤◌, Option, Some, None, List, [], ◌∷◌, subst, arith}
use Rattle.hub_core.specs.View.{Event, Missed}
use Rattle.tp_sender.specs.State.{Transmission, TxDid, TxState}
use Rattle.tp_sender.specs.Table.{FindsOne, NothingStands, TxRow, TxStep}
use Rattle.tp_sender.specs.declared.event.TxEvent.{TxEvent}
use Rattle.tp_sender.specs.declared.event.TxEvent.TheVariants.{RunEnd}
use Rattle.tp_sender.specs.declared.set.TxSet.{TxSet}

-- how many sessions are sent
abbrev pub sent_now : Option Transmission → ℕ
sent_now None = 0
sent_now (Some s) = 1

none-by : (set : TxSet) (next : ℕ) (live : Option Transmission) (did : TxDid) (entered : ℕ → ℕ) → TxRow set next live RunEnd did → did.records ≡ [] →
    ((number : ℕ) (more : List Event) → did.calls ≡ Missed set.group.0 set.path.0 set.dest.0 number ∷ more → entered set.path.0 ≤ number) → (did.new.live ≡ None) × (entered set.path.0 ≤ did.new.next)
none-by set next (Some s) did entered row none missed = let some = row.0.records in cc
none-by set next None did entered (NothingStands row) none missed = (row.live, omega (arith, missed next [] row.calls_are, row.next_is))
none-by set next None did entered (FindsOne buf len more joins ends) none missed = let some = ends.records in cc

-- it makes no record only where no session stands
pub none-told : (set : TxSet) (old : TxState) (event : TxEvent) (did : TxDid) (entered : ℕ → ℕ) → event ≡ RunEnd → TxStep set old event did → did.records ≡ [] →
    ((number : ℕ) (more : List Event) → did.calls ≡ Missed set.group.0 set.path.0 set.dest.0 number ∷ more → entered set.path.0 ≤ number) → (did.new.live ≡ None) × (entered set.path.0 ≤ did.new.next)
none-told set old event did entered is step none missed = let P : TxEvent → Type 0 = λ e. TxRow set old.next old.live e did in none-by set old.next old.live did entered (subst P is step) none missed

some-by : (set : TxSet) (next : ℕ) (live : Option Transmission) (did : TxDid) → TxRow set next live RunEnd did → (did.records ≡ [] → ⊥) → (did.new.live ≡ None) × (next ≤ did.new.next) × (2 * next + 1 ≤ 2 * did.new.next + sent_now live)
some-by set next (Some s) did row some = (row.0.live, omega (arith, row.1), omega (arith, row.1))
some-by set next None did (NothingStands row) some = absurd (some row.records)
some-by set next None did (FindsOne buf len more joins ends) some = (ends.live, omega (arith, joins.next_is), omega (arith, joins.next_is))

-- and where it makes one, the one that it sent has ended, or it has joined one more
pub some-told : (set : TxSet) (old : TxState) (event : TxEvent) (did : TxDid) → event ≡ RunEnd → TxStep set old event did → (did.records ≡ [] → ⊥) →
    (did.new.live ≡ None) × (old.next ≤ did.new.next) × (2 * old.next + 1 ≤ 2 * did.new.next + sent_now old.live)
some-told set old event did is step some = let P : TxEvent → Type 0 = λ e. TxRow set old.next old.live e did in some-by set old.next old.live did (subst P is step) some
