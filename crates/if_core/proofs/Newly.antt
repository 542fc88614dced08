-- Queues with which nothing was done.
use Rattle.std.proofs.Common.{◌≡◌, ℕ, ⊎_elim, Bool, true, false, List, [], ◌∷◌, ◌++◌, length, Some, None, Option, sym, refl, ap, ◌∙◌, subst, arith}
use Rattle.std.specs.Prelude.{slice_get}
use Rattle.std.proofs.lemmas.Option.{slice_get_within}
use Rattle.if_core.specs.Alone.{if_there, by_path, past_of, IsNew, EachIsNew, AreNew, view_of, means_of, if_given, plain_means}
use Rattle.if_core.specs.Lane.{empty_lane}
use Rattle.if_core.specs.declared.queue.PlainQueue.{PlainQueue}
use Rattle.if_core.proofs.Lists.{none_some, same_of, there_is, at_push}

pub none_new : (kinds : List (ℕ × Bool)) → EachIsNew kinds []
none_new kinds path kind queue is e = absurd (none_some e)

pub one_more : (kinds : List (ℕ × Bool)) (queues : List PlainQueue) (kind : ℕ × Bool) (queue : PlainQueue) → slice_get kinds (length queues) ≡ Some kind → IsNew kind queue → EachIsNew kinds queues → EachIsNew kinds (queues ++ queue ∷ [])
one_more kinds queues kind queue there new all path k q is e = ⊎_elim
    (λ old. all path k q is old)
    (λ last. subst (λ (x : PlainQueue). IsNew k x) last.1 (subst (λ (x : ℕ × Bool). IsNew x queue) (same_of (sym there ∙ ap (λ (i : ℕ). slice_get kinds i) (sym last.0) ∙ is)) new))
    (at_push queues queue path q e)

by_kind : {A : Type 0} → (f : PlainQueue → A) (g : ℕ × Bool → A) (d : A) (kinds : List (ℕ × Bool)) (queues : List PlainQueue) → AreNew kinds queues → ((kind : ℕ × Bool) (queue : PlainQueue) → IsNew kind queue → f queue ≡ g kind) →
    (path : ℕ) → by_path f d queues path ≡ if_given g d (slice_get kinds path)
by_kind f g d kinds queues new same path = go (slice_get kinds path) (slice_get queues path) refl refl
  where
    go : (k : Option (ℕ × Bool)) (q : Option PlainQueue) → slice_get kinds path ≡ k → slice_get queues path ≡ q → if_there f d q ≡ if_given g d k
    go None None a b = refl
    go (Some k) (Some q) a b = same k q (new.1 path k q a b)
    go None (Some q) a b = let inside = slice_get_within queues path q b in absurd (none_some (sym a ∙ (there_is kinds path (omega (arith, inside, new.0))).1))
    go (Some k) None a b = let inside = slice_get_within kinds path k a in absurd (none_some (sym b ∙ (there_is queues path (omega (arith, inside, new.0))).1))

pub new_view : (kinds : List (ℕ × Bool)) (queues : List PlainQueue) → AreNew kinds queues → (path : ℕ) → view_of queues path ≡ empty_lane
new_view kinds queues new path = by_kind past_of (λ kind. empty_lane) empty_lane kinds queues new (λ kind queue is. is.0) path ∙ either (slice_get kinds path)
  where
    either : (k : Option (ℕ × Bool)) → if_given (λ kind. empty_lane) empty_lane k ≡ empty_lane
    either None = refl
    either (Some k) = refl

pub new_means : (kinds : List (ℕ × Bool)) (queues : List PlainQueue) → AreNew kinds queues → means_of queues ≡ plain_means kinds
new_means kinds queues new =
    let depth = by_kind (λ queue. queue.depth) (λ kind. kind.0) 0 kinds queues new (λ kind queue is. is.1) in
    let keep = by_kind (λ queue. queue.keep) (λ kind. kind.1) false kinds queues new (λ kind queue is. is.2) in
    let all = by_kind (λ queue. true) (λ kind. true) false kinds queues new (λ kind queue is. refl) in
    λ i. record {
      depth = λ path. depth path i;
      keep = λ path. keep path i;
      offers = λ path. all path i;
      takes = λ path. all path i;
      whole = λ path. all path i;
    }
