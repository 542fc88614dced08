use Rattle.std.proofs.Common.{ℕ, List, [], length, refl, ap, sym, subst, ◌∙◌}
use Rattle.std.proofs.lemmas.List.{length-replicate}
use Rattle.hub_core.proofs.Beginnings.{begins, full-words}
use Rattle.hub_core.proofs.Cut.{few-buffers}
use Rattle.hub_core.proofs.Pools.{AreWords}
use Rattle.hub_core.proofs.plain.PlainHub.new.Goals as goal
use Rattle.hub_core.specs.Groups.{grouped}
use Rattle.hub_core.specs.Past.{view_after}
use Rattle.hub_core.specs.Plain.{AreLaid}
use Rattle.hub_core.specs.declared.place.Place.{Place}
use Rattle.hub_core.specs.declared.place.Place.TheVariants.{Free}
use Rattle.pool_words.specs.declared.pool.Pool.{Pool}

pub ring_starts-requires-clause-few : goal.ring_starts-requires-clause-few
ring_starts-requires-clause-few c = few-buffers c.args.counts.now c.args.cells.now c.requires.groups.1 c.requires.buffers c.requires.all

pub invariant_of-result : goal.invariant_of-result
invariant_of-result c =
    let sizes = c.in_ok-sizes.ensures.items in
    let counts = c.in_ok-from_slice.ensures.items in
    let words = c.in_ok-words.ensures.items_if_clones_equal (λ y same. same) in
    let places = c.in_ok-places.ensures.items_if_clones_equal (λ y same. same) in
    let laid : AreLaid c.args.counts.now c.args.cells.now c.in_ok-starts.starts.items c.in_ok-words.words.items c.in_ok-places.places.items = record {
      groups = c.requires.groups;
      buffers = c.requires.buffers;
      all = c.requires.all;
      each = c.requires.cells;
      begin = c.in_ok-starts.ensures.starts;
      words_are = ap (λ (l : List ℕ). length l) words ∙ length-replicate c.in_ok-starts.total 0 ∙ c.in_ok-starts.ensures.words;
      places_are = ap (λ (l : List Place). length l) places ∙ length-replicate (length c.args.cells.now) Free;
    } in
    let L : List ℕ × List ℕ → Type 0 = λ x. AreLaid x.0 x.1 c.in_ok-starts.starts.items c.in_ok-words.words.items c.in_ok-places.places.items in
    let P : List ℕ × List ℕ × List Pool → Type 0 = λ x. AreWords (grouped x.0 x.1) x.2 [] in
    let pools = subst P (λ i. (sym counts i, sym sizes i, sym c.in_ok-full_pools.ensures i)) (full-words c.args.counts.now c.args.cells.now c.requires.all) in
    let all = begins (grouped c.in_ok-from_slice.field-0.items c.in_ok-sizes.sizes.items) c.in_ok-words.words.items c.in_ok-places.places.items c.in_ok-full_pools.field-0.items (length c.args.cells.now) 1000000
    (view_after c.in_ok-new.field-0.seat.me.0.deeds) (ap view_after c.in_ok-new.ensures) places pools refl in
    record {
      laid = subst L (λ i. (sym counts i, sym sizes i)) laid;
      shown = all;
    }
