-- The three steps of entering a session, named by the hub and the seat.
use Rattle.std.proofs.Common.{◌≡◌, ℕ, ◌<◌, Some, sym, ◌∙◌, subst}
use mathlib.Core.Option.{none}
use Rattle.atomic_table.specs.Table.{step, Allows}
use Rattle.hub_layout.specs.Places.{Card, Length, place_at}
use Rattle.hub_shared.proofs.Entered.{CanEnter, enters}
use Rattle.hub_shared.proofs.Enters.{prepares}
use Rattle.hub_shared.proofs.Hubs.{of_rule, place-is}
use Rattle.hub_shared.specs.Cards.{card_of}
use Rattle.hub_shared.specs.Plays.{SeatMe, entered, prepared}
use Rattle.hub_shared.specs.Rule.{Kept}
use Rattle.hub_shared.specs.Sights.{view_of}
use Rattle.hub_shared.specs.declared.hub.SharedHub.{SharedHub}
use Rattle.hub_shared.specs.declared.sight.Hand.TheVariants.{Entering}
use Rattle.hub_shared.specs.declared.sight.Opening.{Opening}

module _ (hub : SharedHub) (slots id at : ℕ) (m : SeatMe) (o : Opening) where
  -- the store of the length may be made
  pub may-prepare : at ≡ place_at hub.layout.groups hub.layout.cells (Length o.buf) → (len : ℕ) → len ≡ o.len → 0 < m.0.parts → m.0.hand ≡ Entering o → (view_of m.0).held o.buf ≡ Some (record { number = o.change; size = o.cells }) →
      Allows (Kept (of_rule hub)) slots id m at (λ n. len) (λ n. prepared (step slots at len 0 none) m len)
  may-prepare is len same live hand holds = subst (λ (x : ℕ × ℕ). Allows (Kept (of_rule hub)) slots id m x.0 (λ n. x.1) (λ n. prepared (step slots x.0 x.1 0 none) m x.1)) (λ i. (sym (is ∙ place-is hub (Length o.buf)) i, sym same i))
      (prepares (of_rule hub) slots id m o live hand holds)

  -- and that of the card
  pub may-enter : at ≡ place_at hub.layout.groups hub.layout.cells (Card o.buf) → (word parties : ℕ) → word ≡ card_of o.path o.seq parties → CanEnter m o parties → Allows (Kept (of_rule hub)) slots id m at (λ n. word) (λ n. entered (step slots at word 0 none) m word)
  may-enter is word parties same can = subst (λ (x : ℕ × ℕ). Allows (Kept (of_rule hub)) slots id m x.0 (λ n. x.1) (λ n. entered (step slots x.0 x.1 0 none) m x.1)) (λ i. (sym (is ∙ place-is hub (Card o.buf)) i, sym same i))
      (enters (of_rule hub) slots id m o parties can)
