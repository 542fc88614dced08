use Rattle.std.proofs.Common.{ℕ, ◌+◌, List, [], ◌∷◌, length, arith, ap, sym, subst, ◌∙◌, length-append}
use Rattle.hub_core.proofs.Beginnings.{start-next, start-most}
use Rattle.hub_core.proofs.Scans.{start-more}
use Rattle.hub_core.proofs.rings.ring_starts.Goals as goal
use Rattle.hub_core.specs.Plain.{StartAt}

pub overflow_add-words : goal.overflow_add-words
overflow_add-words c =
    let next = start-next c.args.sizes.now c.loop-buf.buf c.loop-buf-test.true in
    omega (arith, next, c.loop-buf.invariant.1, start-most c.args.sizes.now (c.loop-buf.buf + 1) c.requires.few c.requires.sizes)

pub loop-buf-preserved : goal.loop-buf-preserved
loop-buf-preserved c =
    let items = c.in_ok-push.ensures.items in (
      ap (λ (l : List ℕ). length l) items ∙ omega (arith, c.loop-buf.invariant.0, length-append c.loop-buf.starts.items (c.loop-buf.words ∷ [])),
      omega (arith, c.loop-buf.invariant.1, start-next c.args.sizes.now c.loop-buf.buf c.loop-buf-test.true),
      subst (StartAt c.args.sizes.now (c.loop-buf.buf + 1)) (sym items) (start-more c.args.sizes.now c.loop-buf.starts.items c.loop-buf.buf c.loop-buf.words c.loop-buf.invariant.0 c.loop-buf.invariant.1 c.loop-buf.invariant.2),
    )
