use Rattle.std.proofs.Common.{◌∙◌, ◌∷◌, [], length, ap, sym, subst, arith, length-append, List}
use Rattle.std.specs.Prelude.{slice_get}
use Rattle.std.proofs.lemmas.Option.{slice_get-get_or}
use Rattle.if_core.specs.Alone.{EachIsNew}
use Rattle.if_core.specs.declared.queue.PlainQueue.{PlainQueue}
use Rattle.if_core.proofs.Newly.{one_more}
use Rattle.if_core.proofs.plain.empty_queues.Goals as goal

pub loop-at-preserved : goal.loop-at-preserved
loop-at-preserved c =
    let items = c.in_ok-push.ensures.items in
    let longer = ap length items ∙ length-append c.loop-at.queues.items (c.in_ok-new.field-0 ∷ []) in (
      omega (arith, longer, c.loop-at.invariant.0),
      subst (λ (queues : List PlainQueue). EachIsNew c.args.kinds.now queues) (sym items)
          (one_more c.args.kinds.now c.loop-at.queues.items _ c.in_ok-new.field-0
          (ap (λ at. slice_get c.args.kinds.now at) c.loop-at.invariant.0 ∙ slice_get-get_or c.args.kinds.now c.loop-at.at _ (omega (arith, c.loop-at-test.true)))
          (c.in_ok-new.ensures.past, c.in_ok-new.ensures.kind.0 ∙ c.from.ensures, c.in_ok-new.ensures.kind.1) c.loop-at.invariant.1),
    )
