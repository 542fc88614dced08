-- The bits of a card: a destination's is set just where the destination takes part.
use Rattle.std.proofs.Common.{◌≡◌, ℕ, ◌+◌, ◌/◌, ◌%◌, ◌^◌, ◌<◌, ◌≤◌, inl, inr, zero, suc, Bool, true, false, refl, ap, sym, ◌∙◌, arith}
use Rattle.std.proofs.Math.Nat.{pow-le-pow_right}
use Rattle.std.proofs.lemmas.Bool.{cases_lt}
use Rattle.std.proofs.lemmas.Bool.Decides.{eqb_tells}
use Rattle.std.specs.Prelude.{if◌then◌else◌}
use Rattle.hub_core.specs.Floors.{has_left}
use Rattle.hub_core.specs.View.{View, Session, reading_at}
use Rattle.pool_words.proofs.Bits.{digit, digit-there, power, set-digit, digit-set}
use Rattle.hub_shared.specs.Cards.{IsCardFor, IsSmall, card_of, dests_of, parties_of}
use Rattle.hub_shared.specs.Counts.{counts_one}
use Rattle.hub_shared.specs.declared.sight.Sought.{Sought}

-- the highest digit, and those below and above it
low-digit : (n k : ℕ) → n < 2 ^ k → digit n k ≡ 0
low-digit n zero low = omega (arith, low)
low-digit n (suc k) low = low-digit (n / 2) k (omega (arith, low, power k))

halved : (n k : ℕ) → (n + 2 ^ suc k) / 2 ≡ n / 2 + 2 ^ k
halved n k = omega (arith, power k)

top-digit : (n k : ℕ) → n < 2 ^ k → digit (n + 2 ^ k) k ≡ 1
top-digit n zero low = omega (arith, low)
top-digit n (suc k) low = ap (λ (m : ℕ). digit m k) (halved n k) ∙ top-digit (n / 2) k (omega (arith, low, power k))

under-digit : (n k j : ℕ) → j < k → digit (n + 2 ^ k) j ≡ digit n j
under-digit n zero j below = absurd (omega (arith, below))
under-digit n (suc k) zero below = omega (arith, power k)
under-digit n (suc k) (suc j) below = ap (λ (m : ℕ). digit m j) (halved n k) ∙ under-digit (n / 2) k j (omega (arith, below))

-- the digits of a card's lowest nine bits
low-digits : (n k : ℕ) → k < 9 → digit n k ≡ digit (n % 512) k
low-digits n zero below = omega arith
low-digits n (suc zero) below = omega arith
low-digits n (suc (suc zero)) below = omega arith
low-digits n (suc (suc (suc zero))) below = omega arith
low-digits n (suc (suc (suc (suc zero)))) below = omega arith
low-digits n (suc (suc (suc (suc (suc zero))))) below = omega arith
low-digits n (suc (suc (suc (suc (suc (suc zero)))))) below = omega arith
low-digits n (suc (suc (suc (suc (suc (suc (suc zero))))))) below = omega arith
low-digits n (suc (suc (suc (suc (suc (suc (suc (suc zero)))))))) below = omega arith
low-digits n (suc (suc (suc (suc (suc (suc (suc (suc (suc k))))))))) below = absurd (omega (arith, below))

counts-low : (b : Bool) → counts_one b ≤ 1
counts-low true = omega arith
counts-low false = omega arith

some-power : (k : ℕ) → 0 < 2 ^ k
some-power zero = omega arith
some-power (suc k) = let rest = some-power k in omega (arith, rest, power k)

module _ (v : View) (path seq : ℕ) where
  abbrev left : ℕ → Bool
  left dest = has_left (λ r. r.stands) (reading_at v path dest seq)

  abbrev part : ℕ → Bool → ℕ
  part dest b = if b then 0 else 2 ^ (dest + 1)

  next-power : (n : ℕ) → 2 ^ (suc n + 1) ≡ 2 ^ (n + 1) + 2 ^ (n + 1)
  next-power n = ap (λ (e : ℕ). 2 ^ e) (let same : suc n + 1 ≡ suc (n + 1) = omega arith in same) ∙ power (n + 1)

  -- the bits of so many destinations are below the next one's
  pub dests-low : (n : ℕ) → dests_of v path seq n + 2 ≤ 2 ^ (n + 1)
  dests-low zero = omega arith
  dests-low (suc n) = let rest = dests-low n in let next = next-power n in omega (arith, rest, next, most (left n))
    where
      most : (b : Bool) → part n b ≤ 2 ^ (n + 1)
      most true = omega arith
      most false = omega arith

  -- a destination that takes part has its bit
  pub bit-there : (low n dest : ℕ) → low ≤ 1 → dest < n → left dest ≡ false → digit (low + dests_of v path seq n) (dest + 1) ≡ 1
  bit-there low zero dest small below stays = absurd (omega (arith, below))
  bit-there low (suc n) dest small below stays = elim (eqb_tells dest n) [
    | inl same ↦
        let on : part n (left n) ≡ 2 ^ (n + 1) = ap (part n) (ap left (sym same.1) ∙ stays) in
        let sum : low + dests_of v path seq (suc n) ≡ low + dests_of v path seq n + 2 ^ (n + 1) = omega (arith, on) in
        let small-sum : low + dests_of v path seq n < 2 ^ (n + 1) = let h = dests-low n in omega (arith, h, small) in
        ap (λ (x : ℕ). digit (low + dests_of v path seq (suc n)) (x + 1)) same.1 ∙ ap (λ (m : ℕ). digit m (n + 1)) sum ∙ top-digit (low + dests_of v path seq n) (n + 1) small-sum
    | inr other ↦ under (left n) refl (omega (arith, below, other.1)) (bit-there low n dest small (omega (arith, below, other.1)) stays)
  ]
    where
      under : (b : Bool) → left n ≡ b → dest < n → digit (low + dests_of v path seq n) (dest + 1) ≡ 1 → digit (low + dests_of v path seq (suc n)) (dest + 1) ≡ 1
      under true is early rest = ap (λ (m : ℕ). digit m (dest + 1)) (let off : part n (left n) ≡ 0 = ap (part n) is in omega (arith, off)) ∙ rest
      under false is early rest =
          let on : part n (left n) ≡ 2 ^ (n + 1) = ap (part n) is in
          let sum : low + dests_of v path seq (suc n) ≡ low + dests_of v path seq n + 2 ^ (n + 1) = omega (arith, on) in
          ap (λ (m : ℕ). digit m (dest + 1)) sum ∙ under-digit (low + dests_of v path seq n) (n + 1) (dest + 1) (omega (arith, early)) ∙ rest

  -- and a bit that is set is of one
  pub bit-of : (low n dest : ℕ) → low ≤ 1 → digit (low + dests_of v path seq n) (dest + 1) ≡ 1 → (dest < n) × (left dest ≡ false)
  bit-of low zero dest small is =
      let up : 1 ≤ dest + 1 = omega arith in
      let grows : 2 ^ 1 ≤ 2 ^ (dest + 1) = pow-le-pow_right (omega arith) up in
      absurd (let clear = low-digit (low + 0) (dest + 1) (omega (arith, small, grows)) in omega (arith, clear, is))
  bit-of low (suc n) dest small is = by (left n) refl (λ now. bit-of low n dest small now)
    where
      fewer : (dest < n) × (left dest ≡ false) → (dest < suc n) × (left dest ≡ false)
      fewer so = (omega (arith, so.0), so.1)

      by : (b : Bool) → left n ≡ b → (digit (low + dests_of v path seq n) (dest + 1) ≡ 1 → (dest < n) × (left dest ≡ false)) → (dest < suc n) × (left dest ≡ false)
      by true off rest = fewer (rest (ap (λ (m : ℕ). digit m (dest + 1)) (let clear : part n (left n) ≡ 0 = ap (part n) off in omega (arith, clear)) ∙ is))
      by false on rest =
          let one : part n (left n) ≡ 2 ^ (n + 1) = ap (part n) on in
          let sum : low + dests_of v path seq (suc n) ≡ low + dests_of v path seq n + 2 ^ (n + 1) = omega (arith, one) in
          let now : digit (low + dests_of v path seq n + 2 ^ (n + 1)) (dest + 1) ≡ 1 = ap (λ (m : ℕ). digit m (dest + 1)) (sym sum) ∙ is in
          elim (eqb_tells dest n) [
            | inl same ↦ (omega (arith, same.1), ap left same.1 ∙ on)
            | inr other ↦ elim (cases_lt dest n) [
              | inl early ↦ fewer (rest (sym (under-digit (low + dests_of v path seq n) (n + 1) (dest + 1) (omega (arith, early))) ∙ now))
              | inr late ↦
                  let up : suc n + 1 ≤ dest + 1 = omega (arith, late, other.1) in
                  let grows : 2 ^ (suc n + 1) ≤ 2 ^ (dest + 1) = pow-le-pow_right (omega arith) up in
                  let below = dests-low n in
                  let next = next-power n in
                  absurd (let clear = low-digit (low + dests_of v path seq n + 2 ^ (n + 1)) (dest + 1) (omega (arith, small, grows, below, next)) in omega (arith, clear, now))
            ]
          ]

  -- all parties fit into nine bits
  pub parties-low : (s : Session) → s.dests ≤ 8 → parties_of v path seq s < 512
  parties-low s few =
      let up : s.dests + 1 ≤ 9 = omega (arith, few) in
      let most : 2 ^ (s.dests + 1) ≤ 2 ^ 9 = pow-le-pow_right (omega arith) up in
      let low = dests-low s.dests in
      omega (arith, most, low, counts-low s.stands)

  -- where a destination takes part, some party does
  pub some-party : (s : Session) (dest : ℕ) → dest < s.dests → left dest ≡ false → 0 < parties_of v path seq s
  some-party s dest below stays =
      let high = digit-there (counts_one s.stands + dests_of v path seq s.dests) (dest + 1) (bit-there (counts_one s.stands) s.dests dest (counts-low s.stands) below stays) in
      let some = some-power (dest + 1) in
      omega (arith, high, some)

  -- the card of a session of which a destination takes part is one for the destination, and so is no other session's
  pub shows-it : (s : Session) (sought : Sought) (card : ℕ) → IsSmall path s → card ≡ card_of path seq (parties_of v path seq s) → sought.path ≡ path → sought.seq ≡ seq → sought.dest < s.dests → left sought.dest ≡ false → IsCardFor sought card
  shows-it s sought card small is path-is seq-is below stays =
      let low = parties-low s small.dests_small in
      let rest : card % 512 ≡ parties_of v path seq s = omega (arith, is, low) in
      record {
        session = omega (arith, is, low, path-is, seq-is);
        dest = digit-set card (sought.dest + 1) (low-digits card (sought.dest + 1) (omega (arith, below, small.dests_small)) ∙ ap (λ (m : ℕ). digit m (sought.dest + 1)) rest ∙ bit-there (counts_one s.stands) s.dests sought.dest (counts-low s.stands) below stays);
      }

  pub its-session : (s : Session) (sought : Sought) (card : ℕ) → IsSmall path s → sought.path < 2 ^ 8 → card ≡ card_of path seq (parties_of v path seq s) → IsCardFor sought card → (sought.path ≡ path) × (sought.seq ≡ seq)
  its-session s sought card small path-small is shows =
      let low = parties-low s small.dests_small in
      (omega (arith, is, low, shows.session, path-small, small.path_small), omega (arith, is, low, shows.session, path-small, small.path_small))

  pub its-dest : (s : Session) (sought : Sought) (card : ℕ) → IsSmall path s → sought.dest < 8 → card ≡ card_of path seq (parties_of v path seq s) → IsCardFor sought card → (sought.dest < s.dests) × (left sought.dest ≡ false)
  its-dest s sought card small dest-small is shows =
      let low = parties-low s small.dests_small in
      let rest : card % 512 ≡ parties_of v path seq s = omega (arith, is, low) in
      bit-of (counts_one s.stands) s.dests sought.dest (counts-low s.stands)
      (sym (ap (λ (m : ℕ). digit m (sought.dest + 1)) rest) ∙ sym (low-digits card (sought.dest + 1) (omega (arith, dest-small))) ∙ set-digit card (sought.dest + 1) shows.dest)

-- a card without parties is for nobody
pub shows-nobody : (sought : Sought) (card : ℕ) → sought.dest < 8 → card % 2 ^ 9 ≡ 0 → IsCardFor sought card → ⊥
shows-nobody sought card dest-small none shows =
    let zero-is : card % 512 ≡ 0 = omega (arith, none) in
    absurd (let is = sym (ap (λ (m : ℕ). digit m (sought.dest + 1)) zero-is) ∙ sym (low-digits card (sought.dest + 1) (omega (arith, dest-small))) ∙ set-digit card (sought.dest + 1) shows.dest in
    let no = low-digit 0 (sought.dest + 1) (some-power (sought.dest + 1)) in
    omega (arith, is, no))
