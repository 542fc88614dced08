use Rattle.std.proofs.Common.{◌≡◌, ◌≢◌, ◌∙◌, true, false, ◌<◌, ℕ, List, length, Some, ap, arith, refl, sym, subst}
use Rattle.hub_core.specs.Groups.{all_sizes}
use Rattle.hub_layout.specs.Places.{Card}
use Rattle.hub_shared.proofs.Hubs.{buffer-words, cells-few, in-cells, in-group, of-group}
use Rattle.hub_shared.proofs.Nexts.{card-place, may-sight, none-left}
use Rattle.hub_shared.proofs.hub.SharedHub.find.Goals as goal
use Rattle.hub_shared.specs.Plays.{IsPlaceFor}
use Rattle.hub_shared.specs.Seats.{groups_of}
use Rattle.hub_shared.specs.Seeks.{IsLooking}
use Rattle.hub_shared.specs.declared.sight.Hand.TheVariants.{Seeking}

pub returns-then-sought-ge-MOST_DESTINATIONS-clause-finds : goal.returns-then-sought-ge-MOST_DESTINATIONS-clause-finds
returns-then-sought-ge-MOST_DESTINATIONS-clause-finds c = (refl, none-left c.args.sought.now c.args.seat.now.me c.requires.looks (λ at is. omega (arith, (c.requires.looks.there at is).few, c.if-sought-ge-MOST_DESTINATIONS.true)))

pub loop-buf-init : goal.loop-buf-init
loop-buf-init c = (
  refl,
  refl,
  λ at is.
      let look = c.requires.looks in
      let same : Seeking c.args.sought.now look.buf ≡ Seeking c.args.sought.now (Some at) = sym look.hand ∙ is in
      let here : look.buf ≡ Some at = cc in
      let so = subst (λ (g : List (List ℕ)). IsPlaceFor g c.args.sought.now at) c.requires.groups (look.there at here) in
      (in-group c.args.self.now c.args.sought.now.group c.buffers_of-first.result.0 c.buffers_of-first.result.1 at c.requires.group c.buffers_of-first.ensures.first c.buffers_of-first.ensures.last so.its so.below).0,
)

pub overflow_cast-buf : goal.overflow_cast-buf
overflow_cast-buf c = omega (arith, c.loop-buf-test.true, c.buffers_of-first.ensures.few, cells-few c.args.self.now)

pub load-card-requires : goal.load-card-requires
load-card-requires c =
    let so = c.loop-buf.invariant in
    let its = of-group c.args.self.now c.args.sought.now.group c.buffers_of-first.result.0 c.buffers_of-first.result.1 c.loop-buf.buf c.requires.group c.buffers_of-first.ensures.first c.buffers_of-first.ensures.last c.loop-buf.auto.buf c.loop-buf-test.true in (
      so.0 ∙ c.requires.of,
      buffer-words c.args.self.now (Card c.loop-buf.buf) c.card-at.result c.card-at.ensures (in-cells c.args.self.now c.loop-buf.buf (groups_of c.args.self.now) refl its.1),
      may-sight c.args.self.now _ _ _ _ c.args.sought.now c.loop-buf.buf c.card-at.ensures (subst (IsLooking c.args.sought.now) (sym so.1) c.requires.looks) its.1 its.0 (omega (arith, c.fits-sought)) c.if-sought-ge-MOST_DESTINATIONS.false,
    )

pub returns-then-is_card_for-clause-of : goal.returns-then-is_card_for-clause-of
returns-then-is_card_for-clause-of c = c.load-card.ensures.0 ∙ c.loop-buf.invariant.0

pub returns-then-is_card_for-clause-finds : goal.returns-then-is_card_for-clause-finds
returns-then-is_card_for-clause-finds c =
    let so = c.loop-buf.invariant in
    let look = subst (IsLooking c.args.sought.now) (sym so.1) c.requires.looks in
    let its = of-group c.args.self.now c.args.sought.now.group c.buffers_of-first.result.0 c.buffers_of-first.result.1 c.loop-buf.buf c.requires.group c.buffers_of-first.ensures.first c.buffers_of-first.ensures.last c.loop-buf.auto.buf c.loop-buf-test.true in
    let groups = ap (λ m. m.0.groups) so.1 ∙ c.requires.groups in
    let told = c.load-card.ensures.2 c.args.sought.now look.buf c.loop-buf.buf look.hand (subst (λ (g : List (List ℕ)). c.loop-buf.buf < length (all_sizes g)) (sym groups) its.1)
    (card-place c.args.self.now 0 0 c.card-at.result c.loop-buf.seat.me c.args.sought.now c.loop-buf.buf groups c.card-at.ensures) in (
      told.shows (c.is_card_for.ensures.0 c.if-is_card_for.true) ∙ ap (λ m. (record m.0 { hand = Seeking c.args.sought.now (Some c.loop-buf.buf) }, m.1)) so.1,
      subst (λ (g : List (List ℕ)). IsPlaceFor g c.args.sought.now c.loop-buf.buf) (sym c.requires.groups) (record { its = its.0; below = its.1; few = c.if-sought-ge-MOST_DESTINATIONS.false }),
    )

pub loop-buf-preserved : goal.loop-buf-preserved
loop-buf-preserved c =
    let so = c.loop-buf.invariant in
    let look = subst (IsLooking c.args.sought.now) (sym so.1) c.requires.looks in
    let its = of-group c.args.self.now c.args.sought.now.group c.buffers_of-first.result.0 c.buffers_of-first.result.1 c.loop-buf.buf c.requires.group c.buffers_of-first.ensures.first c.buffers_of-first.ensures.last c.loop-buf.auto.buf c.loop-buf-test.true in
    let groups = ap (λ m. m.0.groups) so.1 ∙ c.requires.groups in
    let told = c.load-card.ensures.2 c.args.sought.now look.buf c.loop-buf.buf look.hand (subst (λ (g : List (List ℕ)). c.loop-buf.buf < length (all_sizes g)) (sym groups) its.1)
    (card-place c.args.self.now 0 0 c.card-at.result c.loop-buf.seat.me c.args.sought.now c.loop-buf.buf groups c.card-at.ensures) in
    let hides = told.hides (λ is. absurd (let no : true ≡ false = sym (c.is_card_for.ensures.1 is) ∙ c.if-is_card_for.false in cc)) in (
      c.load-card.ensures.0 ∙ so.0,
      hides.0 ∙ so.1,
      λ at is.
          let same : Seeking c.args.sought.now look.buf ≡ Seeking c.args.sought.now (Some at) = sym look.hand ∙ ap (λ m. m.0.hand) so.1 ∙ is in
          let here : look.buf ≡ Some at = cc in
          let other : at ≢ c.loop-buf.buf = (λ e. hides.1 (here ∙ ap Some e)) in
          omega (arith, so.2 at is, other),
    )

pub returns-clause-of : goal.returns-clause-of
returns-clause-of c = c.loop-buf.invariant.0

pub returns-clause-finds : goal.returns-clause-finds
returns-clause-finds c =
    let look = c.requires.looks in
    let so = c.loop-buf.invariant in (
      so.1,
      none-left c.args.sought.now c.args.seat.now.me look (λ at is.
          let there = subst (λ (g : List (List ℕ)). IsPlaceFor g c.args.sought.now at) c.requires.groups (look.there at is) in
          let its = in-group c.args.self.now c.args.sought.now.group c.buffers_of-first.result.0 c.buffers_of-first.result.1 at c.requires.group c.buffers_of-first.ensures.first c.buffers_of-first.ensures.last there.its there.below in
          omega (arith, its.1, c.loop-buf-test.false, so.2 at (look.hand ∙ ap (Seeking c.args.sought.now) is))),
    )
