-- What is read stands behind the bytes that were held.
use Rattle.std.proofs.Common.{◌≡◌, ◌≤◌, ◌+◌, ◌++◌, ◌∙◌, ℕ, Bool, true, List, length, take, sym, ap, length-take-le}
use Rattle.std.proofs.Math.Seq.{take-append-add}
use Rattle.std.proofs.lemmas.List.{take-append-le}
use Rattle.gw_depot.specs.Files.{Files, ReadsFile}
use Rattle.candump_log.specs.Held.{ReadsMore}

pub read_behind : (told : Bool) (files : Files) (file : List ℕ) (at count held : ℕ) (old into tail : List ℕ) → length old ≡ held → count ≤ length into →
    (told ≡ true → ReadsFile files file at count (take count into)) → ReadsMore told files file at count old (take (held + count) (old ++ (into ++ tail)))
read_behind told files file at count held old into tail long few read = record {
  got = take count into;
  added = ap (λ n. take (n + count) (old ++ (into ++ tail))) (sym long) ∙ take-append-add old (into ++ tail) count ∙ ap (λ t. old ++ t) (take-append-le count into tail few);
  long = length-take-le count into few;
  read = read;
}
