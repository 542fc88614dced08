-- Items at places of a list in which one was exchanged, and the machines of channels there.
use Rattle.std.proofs.Common.{◌≡◌, ◌≢◌, ◌<◌, ℕ, zero, suc, Option, Some, List, [], ◌∷◌, length, refl, ap, arith}
use Rattle.std.specs.Prelude.{slice_get, slice_set, option_and_then}
use Rattle.bus_worker.specs.declared.channel.Channel.{Channel}
use Rattle.bus_worker.specs.declared.channel.Receiving.{Receiving}
use Rattle.bus_worker.specs.declared.channel.Sending.{Sending}

pub at-set : {A : Type 0} (xs : List A) (k : ℕ) (x : A) → k < length xs → slice_get (slice_set xs k x) k ≡ Some x
at-set [] k x within = absurd (omega arith)
at-set (y ∷ ys) zero x within = refl
at-set (y ∷ ys) (suc k) x within = at-set ys k x (omega arith)

pub at-other : {A : Type 0} (xs : List A) (k j : ℕ) (x : A) → j ≢ k → slice_get (slice_set xs k x) j ≡ slice_get xs j
at-other [] k j x ne = refl
at-other (y ∷ ys) zero zero x ne = absurd (ne refl)
at-other (y ∷ ys) zero (suc j) x ne = refl
at-other (y ∷ ys) (suc k) zero x ne = refl
at-other (y ∷ ys) (suc k) (suc j) x ne = at-other ys k j x (λ is. ne (ap suc is))

abbrev pub receiving-in : Option Channel → Option Receiving
receiving-in found = option_and_then (λ (channel : Channel). channel.receiving) found

abbrev pub sending-in : Option Channel → Option Sending
sending-in found = option_and_then (λ (channel : Channel). channel.sending) found
