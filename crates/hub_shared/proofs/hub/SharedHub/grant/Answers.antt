use Rattle.std.proofs.Common.{◌≡◌, ◌∙◌, ◌+◌, ◌<◌, Some, ap, arith, length, refl, sym}
use Rattle.std.proofs.lemmas.Option.{slice_get_read, get_or_from_slice_get}
use Rattle.std.specs.Prelude.{slice_get}
use Rattle.hub_core.specs.Groups.{sizes_of}
use Rattle.hub_core.specs.declared.history.Deed.TheVariants.{Took}
use Rattle.hub_shared.proofs.Hubs.{buffer-from, buffer-of, cells-few, group-few, word-there}
use Rattle.hub_shared.proofs.Exchanges.{is-taking, may-grant}
use Rattle.hub_shared.proofs.hub.SharedHub.grant.Goals as goal
use Rattle.hub_shared.specs.Seats.{groups_of}
use Rattle.hub_shared.specs.Takes.{after_call}
use Rattle.pool_words.specs.declared.pool.Pool.{Pool}

pub overflow_cast-buf : goal.overflow_cast-buf
overflow_cast-buf c = omega (arith, c.requires.smallest.fits.there, c.buffers_of-first.ensures.last, c.buffers_of-first.ensures.few, cells-few c.args.self.now)

pub after_take-next-requires-clause-place : goal.after_take-next-requires-clause-place
after_take-next-requires-clause-place c = omega (arith, c.requires.smallest.fits.there, group-few c.args.self.now c.args.group.0 c.requires.seat.there)

pub compare_exchange_with-found-requires : goal.compare_exchange_with-found-requires
compare_exchange_with-found-requires c =
    let hub = c.args.self.now in
    let first = c.buffers_of-first.result.0 in
    let low : first + c.args.place < length hub.buffers.cells.items = omega (arith, c.requires.smallest.fits.there, c.buffers_of-first.ensures.last, c.buffers_of-first.ensures.few) in
    let has = slice_get_read hub.buffers.cells.items (length hub.buffers.cells.items) (first + c.args.place) c.index-cells.result.now refl low c.index-cells.ensures in (
      c.requires.seat.of,
      word-there hub c.args.group.0 c.pool-at.result c.requires.seat.there c.pool-at.ensures,
      may-grant hub c.args.group.0 c.args.word c.args.seat.now c.requires.seat _ _ c.pool-at.ensures c.args.need c.word_of.result (first + c.args.place) c.index-cells.result.now
          (is-taking hub c.args.group.0 c.args.word c.args.seat.now c.requires.seat _ _ c.pool-at.ensures c.args.need c.word_of.result first c.args.place (first + c.args.place) c.index-cells.result.now c.pool_of.result c.after_take-next.result
          c.buffers_of-first.ensures.first c.requires.smallest refl has c.pool_of.ensures c.after_take-next.ensures.changes c.after_take-next.ensures.free c.word_of.ensures),
    )

pub returns : goal.returns
returns c =
    let hub = c.args.self.now in
    let first = c.buffers_of-first.result.0 in
    let low : first + c.args.place < length hub.buffers.cells.items = omega (arith, c.requires.smallest.fits.there, c.buffers_of-first.ensures.last, c.buffers_of-first.ensures.few) in
    let has = slice_get_read hub.buffers.cells.items (length hub.buffers.cells.items) (first + c.args.place) c.index-cells.result.now refl low c.index-cells.ensures in
    let its = buffer-from hub c.args.group.0 first c.args.place c.requires.seat.there c.buffers_of-first.ensures.first c.requires.smallest.fits.there in
    let is = buffer-of hub c.args.group.0 (first + c.args.place) c.index-cells.result.now its.0 has in
    let size : slice_get (sizes_of (groups_of hub) c.args.group.0) c.args.place ≡ Some c.index-cells.result.now = ap (slice_get (sizes_of (groups_of hub) c.args.group.0)) (sym its.1) ∙ is.1 in
    let number = c.after_take-next.ensures.changes ∙ ap (λ (p : Pool). p.changes + 1) c.pool_of.ensures in
    let won = c.compare_exchange_with-found.ensures.2.0 c.if-found-word.false c.args.need (first + c.args.place) c.index-cells.result.now refl in
    record {
      of = c.compare_exchange_with-found.ensures.0;
      told = record {
        me = won ∙ (λ i. (after_call (Took (c.pool-at.ensures i) (sym number i) (first + c.args.place) c.index-cells.result.now c.args.need) c.args.seat.now.me.0, c.args.seat.now.me.1));
        number = number;
        answer = (refl, omega (arith, c.requires.smallest.fits.enough, get_or_from_slice_get (sizes_of (groups_of hub) c.args.group.0) c.args.place c.index-cells.result.now 0 size), is);
      };
    }
