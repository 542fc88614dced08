-- Where the first line feed stands among some bytes.
use Rattle.std.proofs.Common.{◌≡◌, ℕ, ◌+◌, ◌<◌, ◌≤◌, Option, None, Some, MatchOption, List, [], ◌∷◌, ◌++◌, append_assoc, length-append, length, take, drop, get_or, refl, sym, ◌∙◌, ap, add-one, drop-cons, arith}
use Rattle.std.proofs.lemmas.Bool.{eq-eqb, eqb-true}
use Rattle.std.proofs.lemmas.List.{get_or_default, get_or-take, length-take-le, take_at, take-append-drop}
use Rattle.memchr.specs.Find.{IsFirstByte, NoneBefore, Nowhere, Passes, is_byte}
use Rattle.candump_log.specs.Log.{HasNoFeed, IsFeedAt}

-- a byte among others
pub among : (bytes : List ℕ) (i : ℕ) → i < length bytes → bytes ≡ take i bytes ++ get_or bytes i 0 ∷ drop (i + 1) bytes
among bytes i inside = sym (take-append-drop i bytes) ∙ ap (λ t. take i bytes ++ t) (rw (add-one, drop-cons bytes i 0) refl)

-- a front in which none is found has none
none_in : (bytes : List ℕ) (front : ℕ) → front ≤ length bytes → Nowhere (Passes (is_byte 10) bytes) 0 front → HasNoFeed (take front bytes)
none_in bytes front most none i d inside is =
    let long : length (take front bytes) ≡ front = length-take-le front bytes most in
    let early : i < front = omega (arith, inside, long) in
    let byte : get_or bytes i 0 ≡ 10 = sym (get_or_default bytes i d 0 (omega (arith, early, most))) ∙ sym (get_or-take front bytes i d early) ∙ is in
    none i (omega arith) early (eq-eqb (get_or bytes i 0) 10 byte)

pub no_feed : (bytes : List ℕ) → Nowhere (Passes (is_byte 10) bytes) 0 (length bytes) → HasNoFeed bytes
no_feed bytes none i d inside is =
    none i (omega arith) inside (eq-eqb (get_or bytes i 0) 10 (sym (get_or_default bytes i d 0 inside) ∙ is))

pub feed_at : (bytes : List ℕ) (place : ℕ) → NoneBefore (Passes (is_byte 10) bytes) 0 (length bytes) place → Passes (is_byte 10) bytes place → IsFeedAt bytes place
feed_at bytes place first is = record {
  inside = first.high;
  line = none_in bytes place (omega (arith, first.high)) first.before;
  feed = among bytes place first.high ∙ ap (λ b. take place bytes ++ b ∷ drop (place + 1) bytes) (eqb-true (get_or bytes place 0) 10 is);
}

pub feed_found : (bytes : List ℕ) (found : Option ℕ) → IsFirstByte (is_byte 10) bytes found → MatchOption found (HasNoFeed bytes) (IsFeedAt bytes)
feed_found bytes None none = no_feed bytes none
feed_found bytes (Some place) found = feed_at bytes place found.0 found.1

-- the bytes as far as the line feed
pub feed_taken : (bytes : List ℕ) (place : ℕ) → IsFeedAt bytes place → take (place + 1) bytes ≡ take place bytes ++ 10 ∷ []
feed_taken bytes place at =
    let long : length (take place bytes) ≡ place = length-take-le place bytes (omega (arith, at.inside)) in
    ap (take (place + 1)) (at.feed ∙ sym (append_assoc (take place bytes) (10 ∷ []) (drop (place + 1) bytes)))
    ∙ take_at (take place bytes ++ 10 ∷ []) (drop (place + 1) bytes) (place + 1) (rw length-append (omega (arith, long)))
