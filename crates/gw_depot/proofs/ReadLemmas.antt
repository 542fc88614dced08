-- What one read says of a file whose content is known.
use Rattle.std.proofs.Common.{◌≡◌, ℕ, ◌+◌, ◌-◌, ◌≤◌, List, length, take, drop, Some, ◌∙◌, ap, length-drop, length-take, arith}
use Rattle.std.proofs.Math.Seq.{take-length}
use Rattle.gw_base.proofs.Lists.{same-some}
use Rattle.gw_depot.specs.Files.{Files, ReadsFile}

pub take-whole : (xs : List ℕ) (n : ℕ) → n ≡ length xs → take n xs ≡ xs
take-whole xs n all = rw all (take-length xs)

-- as many bytes as were counted lie past the place that was read from
pub read_within : (files : Files) (name got content : List ℕ) (at count : ℕ) →
    ReadsFile files name at count got → length got ≡ count → files name ≡ Some content → at ≤ length content →
    (got ≡ take count (drop at content)) × (at + count ≤ length content)
read_within files name got content at count reads long there inside =
    let same : reads.content ≡ content = same-some reads.there there in
    let bytes : got ≡ take count (drop at content) = reads.bytes ∙ ap (λ c. take count (drop at c)) same in
    let most : count ≤ length (drop at content) = rw (← long, bytes) (rw length-take (omega arith)) in
    (bytes, let rest : length (drop at content) ≡ length content - at = length-drop at content in omega arith)
