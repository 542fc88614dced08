use Rattle.std.proofs.Common.{◌≡◌, ◌∙◌, ◌<◌, ◌≤◌, List, ℕ, get_or, length, ap, sym, arith}
use Rattle.std.proofs.lemmas.Option.{get_or_from_slice_get}
use Rattle.hub_layout.proofs.Firsts.{first-at, long, most}
use Rattle.hub_layout.proofs.layout.Layout.first_word.Goals as goal
use Rattle.hub_layout.specs.Places.{first_word}
use Rattle.hub_layout.specs.Pool.{Pool, first_words}

pub bounds-deref-from : goal.bounds-deref-from
bounds-deref-from c =
    let cells : List ℕ = c.self.inside.cells.items in
    let same = ap (λ (p : Pool). length p.cells) c.self.view_is in
    omega (arith, c.requires, same, c.from.ensures, ap length c.deref.ensures.0, ap length c.self.invariant.firsts_are, long c.self.inside.groups cells (length cells))

pub returns-clause-first : goal.returns-clause-first
returns-clause-first c =
    let cells : List ℕ = c.self.inside.cells.items in
    let groups : ℕ = c.self.inside.groups in
    let same = ap (λ (p : Pool). length p.cells) c.self.view_is in
    let there = first-at groups cells (length cells) c.args.buf.0 (omega (arith, c.requires, same)) in
    ap (λ (l : List ℕ). get_or l c.from.result 0) (c.deref.ensures.0 ∙ c.self.invariant.firsts_are) ∙ ap (λ (n : ℕ). get_or (first_words groups cells (length cells)) n 0) c.from.ensures
    ∙ get_or_from_slice_get (first_words groups cells (length cells)) c.args.buf.0 (first_word groups cells c.args.buf.0) 0 there ∙ ap (λ (p : Pool). first_word p.groups p.cells c.args.buf.0) c.self.view_is

pub returns-clause-few : goal.returns-clause-few
returns-clause-few c =
    let cells : List ℕ = c.self.inside.cells.items in
    let groups : ℕ = c.self.inside.groups in
    let same = ap (λ (p : Pool). length p.cells) c.self.view_is in
    let there = first-at groups cells (length cells) c.args.buf.0 (omega (arith, c.requires, same)) in
    let is = ap (λ (l : List ℕ). get_or l c.from.result 0) (c.deref.ensures.0 ∙ c.self.invariant.firsts_are) ∙ ap (λ (n : ℕ). get_or (first_words groups cells (length cells)) n 0) c.from.ensures
    ∙ get_or_from_slice_get (first_words groups cells (length cells)) c.args.buf.0 (first_word groups cells c.args.buf.0) 0 there in
    omega (arith, is, most groups cells c.args.buf.0 c.self.invariant.few_groups c.self.invariant.few_buffers (omega (arith, c.requires, same)) c.self.invariant.few_cells)
