-- So many fewer at the front.
use Rattle.std.proofs.Common.{◌≡◌, ◌≤◌, ◌+◌, ◌-◌, ◌∙◌, ℕ, length, take, drop, sym, ap, arith, length-take}
use Rattle.std.proofs.lemmas.List.{drop-drop, drop-take}
use Rattle.candump_log.proofs.held.HeldBytes.pass.Goals as goal

pub returns : goal.returns
returns c =
    let all = c.self.inside.bytes in
    let start = c.self.inside.start in
    let end = c.self.inside.end in
    let count = c.args.count in
    let size : length c.args.self.now ≤ end - start = rw (← c.self.view_is) (rw length-take (omega arith)) in
    let left : ℕ = end - (start + count) in
    let split : end - start ≡ count + left = omega (arith, size, c.requires) in
    sym (ap (drop count) (sym c.self.view_is) ∙ ap (λ n. drop count (take n (drop start all))) split ∙ drop-take count left (drop start all) ∙ ap (take left) (drop-drop count start all))
