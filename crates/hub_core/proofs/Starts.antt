-- The rings of a plain hub's buffers lie apart, and a put leaves each cell that is still to be read.
use Rattle.std.proofs.Common.{◌≡◌, ◌≢◌, ℕ, ◌+◌, ◌-◌, ◌*◌, ◌/◌, ◌<◌, ◌≤◌, ◌%◌, ◌⊎◌, inl, inr, zero, suc, List, [], ◌∷◌, ◌++◌, length, take, Some, All, refl, ap, sym, ◌∙◌, subst, arith, length-append, div-add-mod', mod-lt, lt_of_mul-lt-mul_right}
use Rattle.std.proofs.lemmas.Bool.{cases_order}
use Rattle.std.proofs.lemmas.Bool.Decides.{eqb_tells}
use Rattle.std.proofs.lemmas.List.Elements.{All-push}
use Rattle.std.proofs.lemmas.List.Sums.{sum_by-cons, sum_by-le}
use Rattle.std.proofs.lemmas.Option.{same_Some, some_pair_parts, slice_get_within}
use Rattle.std.specs.Prelude.{slice_get, slice_set, sum}
use Rattle.gw_base.proofs.Lists.{at-next}
use Rattle.gw_base.specs.Cell.{IsCell}
use Rattle.hub_core.proofs.Cut.{all-there}
use Rattle.hub_core.proofs.Growing.{session-changed}
use Rattle.hub_core.proofs.Ledger.{session-size}
use Rattle.hub_core.proofs.Kept.{SameTake}
use Rattle.hub_core.proofs.Rows.{set-here, set-else, freed-on, only-session}
use Rattle.hub_core.proofs.Shown.{writer-place}
use Rattle.hub_core.specs.Groups.{all_sizes}
use Rattle.hub_core.specs.Joint.{IsFreed}
use Rattle.hub_core.specs.Plain.{IsShown, start_of, session_in, ShowWords}
use Rattle.hub_core.specs.Tokens.{Writes}
use Rattle.hub_core.specs.View.{View, Session, session_at, grow, Put}
use Rattle.hub_core.specs.declared.place.Place.{Place}
use Rattle.pool_words.specs.declared.pool.Pool.{Pool}
use Rattle.hub_core.specs.declared.token.Opened.{Opened}

start-suc : (size : ℕ) (sizes : List ℕ) (buf : ℕ) → start_of (size ∷ sizes) (suc buf) ≡ size + start_of sizes buf
start-suc size sizes buf = sum_by-cons (λ (x : ℕ). x) size (take buf sizes)

-- a ring lies before each later one, and within the words
start-before : (sizes : List ℕ) (buf other size : ℕ) → buf < other → slice_get sizes buf ≡ Some size → start_of sizes buf + size ≤ start_of sizes other
start-before [] buf other size below is = absurd cc
start-before (first ∷ sizes) buf zero size below is = absurd (omega (arith, below))
start-before (first ∷ sizes) zero (suc other) size below is = (let same : first ≡ size = same_Some first size is in omega (arith, same, start-suc first sizes other))
start-before (first ∷ sizes) (suc buf) (suc other) size below is =
    (let h = start-before sizes buf other size (omega (arith, below)) is in omega (arith, h, start-suc first sizes buf, start-suc first sizes other))

pub start-within : (sizes : List ℕ) (buf size : ℕ) → slice_get sizes buf ≡ Some size → start_of sizes buf + size ≤ sum sizes
start-within [] buf size is = absurd cc
start-within (first ∷ sizes) zero size is = (let same : first ≡ size = same_Some first size is in omega (arith, same, sum_by-cons (λ (x : ℕ). x) first sizes))
start-within (first ∷ sizes) (suc buf) size is = (let h = start-within sizes buf size is in omega (arith, h, start-suc first sizes buf, sum_by-cons (λ (x : ℕ). x) first sizes))

start-apart : (sizes : List ℕ) (buf other size more i j : ℕ) → buf ≢ other → slice_get sizes buf ≡ Some size → slice_get sizes other ≡ Some more → i < size → j < more → start_of sizes buf + i ≢ start_of sizes other + j
start-apart sizes buf other size more i j apart is too within there e = elim (cases_order buf other) [
  | inl same ↦ apart same
  | inr order ↦ elim order [
    | inl before ↦ (let h = start-before sizes buf other size before is in absurd (omega (arith, h, e, within)))
    | inr after ↦ (let h = start-before sizes other buf more after too in absurd (omega (arith, h, e, there)))
  ]
]

-- numbers less than a ring apart lie at different places of it
mod-apart : (i n size : ℕ) → i < n → n < i + size → i % size ≢ n % size
mod-apart i n size before near same =
    let first = div-add-mod' i size in
    let second = div-add-mod' n size in
    let a : ℕ = i / size * size in
    let b : ℕ = n / size * size in
    let low : a < b = omega (arith, first, second, same, before) in
    let high : b < a + size = omega (arith, first, second, same, near) in
    let more : i / size < n / size = lt_of_mul-lt-mul_right size low in
    let step : (i / size + 1) * size ≡ a + size = one-more (i / size) size in
    let less : n / size < i / size + 1 = lt_of_mul-lt-mul_right size (subst (λ (x : ℕ). b < x) (sym step) high) in
    absurd (omega (arith, more, less))
  where
    one-more : (k m : ℕ) → (k + 1) * m ≡ k * m + m
    one-more k m = grind arith

-- each size is one that a buffer may have
pub size-some : (sizes : List ℕ) (buf size : ℕ) → All (λ n. (1 ≤ n) × (n ≤ 8192)) sizes → slice_get sizes buf ≡ Some size → (1 ≤ size) × (size ≤ 8192)
size-some sizes buf size all is = all-there (λ n. (1 ≤ n) × (n ≤ 8192)) sizes buf size all is

-- a place of a ring is one of the words, which are few
pub in-words : (sizes words : List ℕ) (buf size k : ℕ) → length words ≡ sum sizes → All (λ n. (1 ≤ n) × (n ≤ 8192)) sizes → slice_get sizes buf ≡ Some size → start_of sizes buf + k % size < length words
in-words sizes words buf size k all each is =
    let some = (size-some sizes buf size each is).0 in
    let within : k % size < size = mod-lt k (omega (arith, some)) in
    omega (arith, start-within sizes buf size is, all, within)

pub few-words : (sizes : List ℕ) → length sizes ≤ 128 → All (λ n. (1 ≤ n) × (n ≤ 8192)) sizes → sum sizes ≤ 1048576
few-words sizes few each = let h = sum_by-le (λ (x : ℕ). x) 8192 sizes (most sizes each) in omega (arith, h, few)
  where
    most : (xs : List ℕ) → All (λ n. (1 ≤ n) × (n ≤ 8192)) xs → All (λ n. n ≤ 8192) xs
    most xs all = Rattle.std.proofs.lemmas.List.Elements.All-weaker (λ n. (1 ≤ n) × (n ≤ 8192)) (λ n. n ≤ 8192) (λ n h. h.1) xs all

-- after one cell is put
pub words-put : (groups : List (List ℕ)) (places : List Place) (words more : List ℕ) (pools : List Pool) (takes : ℕ) (v : View) (t : Opened) (cell : ℕ) → IsShown groups places words pools takes v → Writes v t → IsCell cell →
    length words ≡ sum (all_sizes groups) → All (λ n. (1 ≤ n) × (n ≤ 8192)) (all_sizes groups) → more ≡ slice_set words (start_of (all_sizes groups) t.buf.0 + t.put % t.cells) cell → ShowWords groups more (grow (Put t.path.0 t.seq cell) v)
unfolding grow
words-put groups places words more pools takes v t cell shown known word all each set = record {
  cells = λ p k x at. elim (which p k) [
    | inl hit ↦ subst (λ (y : Session). All IsCell y.cells) (same_Some (f s) x (sym (here p k hit) ∙ at)) (All-push IsCell s.cells cell (shown.words_show.cells t.path.0 t.seq s known.known) word)
    | inr other ↦ shown.words_show.cells p k x (sym (elsewhere p k other) ∙ at)
  ];
  ring = λ p k i c x at unfreed get most. elim (which p k) [
    | inl hit ↦
        let it : f s ≡ x = same_Some (f s) x (sym (here p k hit) ∙ at) in
        let buf-is : x.buf ≡ t.buf.0 = sym (ap (λ (y : Session). y.buf) it) ∙ known.says.buf in
        let size-is : x.size ≡ t.cells = sym (ap (λ (y : Session). y.size) it) ∙ known.says.size in
        let got : slice_get (s.cells ++ cell ∷ []) i ≡ Some c = ap (λ (y : Session). slice_get y.cells i) it ∙ get in
        let long : length s.cells + 1 ≤ i + t.cells = omega (arith, most, ap (λ (y : Session). length y.cells) it, size-is, length-append s.cells (cell ∷ [])) in
        ap (λ (y : ℕ × ℕ). slice_get more (start_of (all_sizes groups) y.0 + i % y.1)) (λ j. (buf-is j, size-is j)) ∙ elim (at-next s.cells cell c i got) [
          | inl old ↦
              let below = slice_get_within s.cells i c old in
              let was = shown.words_show.ring t.path.0 t.seq i c s known.known (λ freed. unfreed (freed-on groups v w s x refl (take it) freed)) old (omega (arith, long, known.says.size)) in
              ap (λ (l : List ℕ). slice_get l (start_of (all_sizes groups) t.buf.0 + i % t.cells)) set
              ∙ set-else words (start_of (all_sizes groups) t.buf.0 + t.put % t.cells) (start_of (all_sizes groups) t.buf.0 + i % t.cells) cell
              (λ e. mod-apart i t.put t.cells (omega (arith, below, known.says.put)) (omega (arith, long, known.says.put)) (let h = e in omega (arith, h)))
              ∙ ap (λ (y : ℕ × ℕ). slice_get words (start_of (all_sizes groups) y.0 + i % y.1)) (λ j. (sym known.says.buf j, sym known.says.size j)) ∙ was
          | inr new ↦
              let at-end : i ≡ t.put = new.0 ∙ known.says.put in
              ap (λ (l : List ℕ). slice_get l (start_of (all_sizes groups) t.buf.0 + i % t.cells)) set
              ∙ ap (λ (n : ℕ). slice_get (slice_set words (start_of (all_sizes groups) t.buf.0 + t.put % t.cells) cell) (start_of (all_sizes groups) t.buf.0 + n % t.cells)) at-end
              ∙ set-here words (start_of (all_sizes groups) t.buf.0 + t.put % t.cells) cell (in-words (all_sizes groups) words t.buf.0 t.cells t.put all each own-size) ∙ ap Some new.1
        ]
    | inr other ↦
        let was-at : session_at v p k ≡ Some x = sym (elsewhere p k other) ∙ at in
        let unfreed-before : IsFreed groups v x → ⊥ = λ freed. unfreed (freed-on groups v w x x refl (record { buf = refl; number = refl; size = refl; dests = refl }) freed) in
        let size-of = session-size groups v shown.led p k x was-at in
        let apart : x.buf ≢ t.buf.0 = λ e.
        let keys = sym (shown.places_show.sessions p k x was-at unfreed-before) ∙ ap (λ (b : ℕ). session_in (slice_get places b)) e ∙ writer-place groups places words pools takes v shown t known in
        let parts = some_pair_parts p t.path.0 k t.seq keys in
        other parts.0 parts.1 in
        ap (λ (l : List ℕ). slice_get l (start_of (all_sizes groups) x.buf + i % x.size)) set
        ∙ set-else words (start_of (all_sizes groups) t.buf.0 + t.put % t.cells) (start_of (all_sizes groups) x.buf + i % x.size) cell
        (start-apart (all_sizes groups) x.buf t.buf.0 x.size t.cells (i % x.size) (t.put % t.cells) apart size-of own-size
        (mod-lt i (let h = (size-some (all_sizes groups) x.buf x.size each size-of).0 in omega (arith, h))) (mod-lt t.put (let h = (size-some (all_sizes groups) t.buf.0 t.cells each own-size).0 in omega (arith, h))))
        ∙ shown.words_show.ring p k i c x was-at unfreed-before get most
  ];
}
  where
    s : Session
    s = known.session

    f : Session → Session
    f = λ x. record x { cells = x.cells ++ cell ∷ []; room = x.room - 1 }

    w : View
    w = grow (Put t.path.0 t.seq cell) v

    own-size : slice_get (all_sizes groups) t.buf.0 ≡ Some t.cells
    own-size = ap (slice_get (all_sizes groups)) (sym known.says.buf) ∙ session-size groups v shown.led t.path.0 t.seq s known.known ∙ ap Some known.says.size

    which : (p k : ℕ) → ((p ≡ t.path.0) × (k ≡ t.seq)) ⊎ (p ≡ t.path.0 → k ≡ t.seq → ⊥)
    which p k = elim (eqb_tells p t.path.0) [
      | inl first ↦ elim (eqb_tells k t.seq) [ inl both ↦ inl (first.1, both.1) | inr not ↦ inr (λ a b. not.1 b) ]
      | inr not ↦ inr (λ a b. not.1 a)
    ]

    here : (p k : ℕ) → (p ≡ t.path.0) × (k ≡ t.seq) → session_at w p k ≡ Some (f s)
    here p k hit = ap (λ (y : ℕ × ℕ). session_at w y.0 y.1) (λ j. (hit.0 j, hit.1 j)) ∙ session-changed t.path.0 t.seq f s v w known.known refl

    elsewhere : (p k : ℕ) → (p ≡ t.path.0 → k ≡ t.seq → ⊥) → session_at w p k ≡ session_at v p k
    elsewhere p k other = elim (only-session t.path.0 t.seq f v w refl refl p k) [ inl hit ↦ absurd (other hit.0 hit.1) | inr same ↦ same.0 ]

    take : {x : Session} → f s ≡ x → SameTake s x
    take {x = x} it = record { buf = sym (ap (λ (y : Session). y.buf) it); number = sym (ap (λ (y : Session). y.number) it); size = sym (ap (λ (y : Session). y.size) it); dests = sym (ap (λ (y : Session). y.dests) it) }
