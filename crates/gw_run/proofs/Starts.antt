-- The least stamp of two logs.
use Rattle.std.proofs.Common.{◌≡◌, ℕ, ◌≤◌, ◌<◌, ◌*◌, ◌^◌, min, List, [], ◌++◌, length, Option, Some, None, IfSome, MatchOption, inl, inr, sym, ◌∙◌, ap, arith}
use Rattle.std.specs.Prelude.{All}
use Rattle.std.proofs.lemmas.Bool.{cases_lt}
use Rattle.std.proofs.lemmas.List.Elements.{All-append, All-weaker, All-map, All-contains, Contains-append_left, Contains-append_right}
use Rattle.candump_log.specs.declared.log.Stamped.{Stamped}
use Rattle.candump_log.specs.Dated.{AreDated}
use Rattle.gw_run.specs.Start.{IsLeast, IsStart, stamps_of}

-- the lesser of the least stamps of two lists is the least of both
pub start-both : (xs ys : List ℕ) (a b : ℕ) → IsLeast xs a → IsLeast ys b → IsStart (xs ++ ys) (min a b)
start-both xs ys a b one other = inl (record {
  among = elim (cases_lt a b) [
    | inl below ↦ let is : min a b ≡ a = omega arith in rw is (Contains-append_left xs ys a one.among)
    | inr above ↦ let is : min a b ≡ b = omega arith in rw is (Contains-append_right xs ys b other.among)
  ];
  below = All-append (λ n. min a b ≤ n) xs ys
      (All-weaker (λ n. a ≤ n) (λ n. min a b ≤ n) (λ n le. omega arith) xs one.below)
      (All-weaker (λ n. b ≤ n) (λ n. min a b ≤ n) (λ n le. omega arith) ys other.below);
})

-- the least of a log's stamps is one of them
pub least-dated : (frames : List Stamped) (least : Option ℕ) → MatchOption least (stamps_of frames ≡ []) (IsLeast (stamps_of frames)) → AreDated frames →
    IfSome least (λ n. n < 2 ^ 32 * 10 ^ 6)
least-dated frames None none dated = tt
least-dated frames (Some n) least dated =
    let all : All (λ m. m < 2 ^ 32 * 10 ^ 6) (stamps_of frames) = All-map (λ m. m < 2 ^ 32 * 10 ^ 6) (λ (s : Stamped). s.at.0) frames dated in
    All-contains (λ m. m < 2 ^ 32 * 10 ^ 6) (stamps_of frames) n all least.among

-- a run begins once
least-once : (numbers : List ℕ) (a b : ℕ) → IsLeast numbers a → IsLeast numbers b → a ≡ b
least-once numbers a b one other =
    let below : a ≤ b = All-contains (λ n. a ≤ n) numbers b one.below other.among in
    let above : b ≤ a = All-contains (λ n. b ≤ n) numbers a other.below one.among in
    omega (arith, below, above)

none_least : (numbers : List ℕ) (a : ℕ) → numbers ≡ [] → ¬ IsLeast numbers a
none_least numbers a none least =
    let long : length numbers ≡ 0 = ap length none in
    omega (arith, long, least.among.1)

pub start-once : (stamps : List ℕ) (a b : ℕ) → IsStart stamps a → IsStart stamps b → a ≡ b
start-once stamps a b (inl one) (inl other) = least-once stamps a b one other
start-once stamps a b (inl one) (inr (none, same)) = absurd (none_least stamps a none one)
start-once stamps a b (inr (none, same)) (inl other) = absurd (none_least stamps b none other)
start-once stamps a b (inr one) (inr other) = one.1 ∙ sym other.1
