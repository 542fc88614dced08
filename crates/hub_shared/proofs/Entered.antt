-- The card of a session is stored in a buffer that the seat holds, and so the session is entered.
use Rattle.std.proofs.Common.{◌≡◌, ◌≢◌, ℕ, ◌+◌, ◌%◌, ◌^◌, ◌<◌, ◌≤◌, inl, inr, zero, suc, Bool, true, false, List, [], ◌∷◌, ◌++◌, length, set, get_or, Option, Some, None, refl, ap, sym, ◌∙◌, subst, arith, length-append, length-set, get_or-set_same}
use Rattle.std.proofs.lemmas.Bool.Decides.{eqb_tells}
use Rattle.std.proofs.lemmas.List.{get_or-set_other}
use Rattle.std.proofs.lemmas.Option.{slice_get_within}
use Rattle.std.specs.Prelude.{if◌then◌else◌, slice_get}
use mathlib.Core.Option.{none, some}
use lib.ListN.{get_elem?}
use Rattle.atomic_table.specs.Table.{step, keeps, Allows}
use Rattle.hub_core.proofs.Fresh.{rise-grow, rise-twice}
use Rattle.hub_core.proofs.Growing.{at_one-same, at_one-other, slice_get-pushed}
use Rattle.hub_core.proofs.Led.{leads-more}
use Rattle.hub_core.proofs.Kept.{session-pushed}
use Rattle.hub_core.specs.Core.{Does, MayDo}
use Rattle.hub_core.specs.Floors.{Rise, floors_of, has_left}
use Rattle.hub_core.specs.Groups.{all_sizes}
use Rattle.hub_core.specs.Joint.{IsFreed, IsOver, IsQuiet}
use Rattle.hub_core.specs.View.{View, Taking, Session, Reading, Event, Entered, at_one, session_new, session_at, reading_at, empty_view, grow}
use Rattle.hub_layout.proofs.Places.{differ, within}
use Rattle.hub_layout.specs.Places.{Card, Length}
use Rattle.pool_words.proofs.Bits.{power}
use Rattle.pool_words.specs.Pools.{pool_of}
use Rattle.hub_shared.proofs.Cores.{HubState, law}
use Rattle.hub_shared.proofs.Counted.{count-used}
use Rattle.hub_shared.proofs.Dealt.{each-set, total-set, dealt-same}
use Rattle.hub_shared.proofs.Enters.{apart, card-length, held-there, held-whole, session-there}
use Rattle.hub_shared.proofs.Histories.{Goes, goes-did}
use Rattle.hub_shared.proofs.Holding.{held-same, held-used}
use Rattle.hub_shared.proofs.Parties.{of-one-own, of-one-same}
use Rattle.hub_shared.proofs.Steps.{IsLength, knows-on}
use Rattle.hub_shared.specs.Cards.{IsSmall, ShowCards, card_of, dests_of, parties_of, place_of_word}
use Rattle.hub_shared.specs.Counts.{count_held, IsOfOne, IsHeldByOne}
use Rattle.hub_shared.specs.History.{state_of}
use Rattle.hub_shared.specs.Plays.{SeatMe, entered, entry_of, with_deed}
use Rattle.hub_shared.specs.Rule.{HandKnows, Knows, Kept}
use Rattle.hub_shared.specs.Sights.{view_of, floors_at}
use Rattle.hub_shared.specs.declared.sight.Entry.TheVariants.{Did}
use Rattle.hub_shared.specs.declared.sight.Hand.TheVariants.{Prepared}
use Rattle.hub_shared.specs.declared.sight.Opening.{Opening}
use Rattle.hub_shared.specs.declared.sight.Sight.{Sight}

-- what the session's entry is to the plain machine
abbrev event_of_opening : Opening → Event
event_of_opening o = Entered o.path o.seq o.buf o.change o.cells o.len o.readers

abbrev session_of : Opening → Session
session_of o = session_new o.buf o.change o.cells o.len o.readers

-- all destinations of a session that nobody joined take part
all-dests : (v : View) (path seq n : ℕ) → ((dest : ℕ) → reading_at v path dest seq ≡ None) → dests_of v path seq n + 2 ≡ 2 ^ (n + 1)
all-dests v path seq zero nobody = omega arith
all-dests v path seq (suc n) nobody =
    let rest = all-dests v path seq n nobody in
    let one : (let m : ℕ = (if has_left (λ r. r.stands) (reading_at v path n seq) then 0 else 2 ^ (n + 1)) in m) ≡ 2 ^ (n + 1) = ap (λ (r : Option Reading). let m : ℕ = (if has_left (λ x. x.stands) r then 0 else 2 ^ (n + 1)) in m) (nobody n) in
    let next : 2 ^ (suc n + 1) ≡ 2 ^ (n + 1) + 2 ^ (n + 1) = ap (λ (e : ℕ). 2 ^ e) (let same : suc n + 1 ≡ suc (n + 1) = omega arith in same) ∙ power (n + 1) in
    omega (arith, rest, one, next)

card-card : (groups : List (List ℕ)) (a b : ℕ) → a < length (all_sizes groups) → b < length (all_sizes groups) → a ≢ b → place_of_word groups (Card a) ≢ place_of_word groups (Card b)
card-card groups a b here there other is = other (let same : Card a ≡ Card b = differ (length groups) (all_sizes groups) (Card a) (Card b) here there is in cc)

-- what the seat has for the session
pub record CanEnter (m : SeatMe) (o : Opening) (parties : ℕ) : Type 0 where
  pub live : 0 < m.0.parts
  pub hand : m.0.hand ≡ Prepared o
  pub acts : (state_of m.0.entries).part.writes o.path ≡ true
  pub number : length ((view_of m.0).sessions o.path) ≡ o.seq
  pub some_len : 0 < o.len
  pub some_readers : 0 < o.readers
  pub all : parties + 1 ≡ 2 ^ (o.readers + 1)
  pub small : IsSmall o.path (session_of o)

module _ (groups : List (List ℕ)) (id : ℕ) (m : SeatMe) (o : Opening) (parties : ℕ) (can : CanEnter m o parties) (s : HubState) (k : Kept groups s) (at : get_elem? s.views id ≡ some m.0) where
  abbrev next : View
  next = grow (event_of_opening o) k.core

  abbrev new : Session
  new = session_of o

  abbrev p : ℕ
  p = place_of_word groups (Card o.buf)

  abbrev words : List ℕ
  words = set s.words p (card_of o.path o.seq parties)

  abbrev w : Sight
  w = with_deed (entry_of o) m.0

  abbrev h : Taking
  h = record { number = o.change; size = o.cells }

  known : Knows groups k.core s.words m.0
  known = k.each id m.0 at can.live

  prepared-is : ((view_of m.0).held o.buf ≡ Some h) × IsLength groups s.words o
  prepared-is = subst (HandKnows groups k.core s.words (view_of m.0).held) can.hand known.hand

  whole : k.core.held o.buf ≡ Some h
  whole = elim ((k.holders o.buf).each id m.0 at) [ inl nothing ↦ absurd (let no : None ≡ Some h = sym nothing ∙ prepared-is.0 in cc) | inr all ↦ sym all ∙ prepared-is.0 ]

  there : o.buf < length (all_sizes groups)
  there = held-there groups s k o.buf h whole

  own-list : (view_of m.0).sessions o.path ≡ k.core.sessions o.path
  own-list = (k.writers o.path).each id m.0 at ∙ ap (λ (b : Bool). if b then k.core.sessions o.path else []) can.acts

  number : length (k.core.sessions o.path) ≡ o.seq
  number = ap (λ (l : List Session). length l) (sym own-list) ∙ can.number

  may : MayDo k.core (event_of_opening o)
  may = (whole, sym number, can.some_len, can.some_readers)

  went : Goes (Did (entry_of o) ∷ m.0.entries) (record { view = grow (event_of_opening o) (view_of m.0); part = (state_of m.0.entries).part })
  went = goes-did (entry_of o) m.0.entries known.whole

  rise : Rise (floors_of groups k.core) (floors_of groups next)
  rise = rise-grow groups (event_of_opening o) k.core next (law groups s k).streams refl

  nobody : (dest : ℕ) → reading_at k.core o.path dest o.seq ≡ None
  nobody dest = go (reading_at k.core o.path dest o.seq) refl
    where
      go : (found : Option Reading) → reading_at k.core o.path dest o.seq ≡ found → reading_at k.core o.path dest o.seq ≡ None
      go None is = is
      go (Some r) is = absurd (let known = (law groups s k).streams.joined o.path dest o.seq r is in let low = slice_get_within (k.core.sessions o.path) o.seq known.0 known.1 in omega (arith, low, number))

  -- the session is there, and all its parties take part
  pushed : session_at next o.path o.seq ≡ Some new
  unfolding grow
  pushed = ap (λ (l : List Session). slice_get l o.seq) (at_one-same o.path (k.core.sessions o.path ++ new ∷ []) k.core.sessions) ∙ slice_get-pushed (k.core.sessions o.path) new o.seq number

  parties-new : parties_of next o.path o.seq new ≡ parties
  unfolding grow
  parties-new = let all = all-dests k.core o.path o.seq o.readers nobody in omega (arith, all, can.all)

  -- each session is the new one, or was there before
  either-session : (path seq : ℕ) (t : Session) → session_at next path seq ≡ Some t → (P : ℕ → ℕ → Session → Type 0) → P o.path o.seq new → (session_at k.core path seq ≡ Some t → P path seq t) → P path seq t
  unfolding grow
  either-session path seq t is P mine old = elim (session-pushed o.path new k.core next refl path seq) [
    | inl here ↦
        let both : Some new ≡ Some t = sym here.2 ∙ is in
        let same : new ≡ t = cc in
        let last : seq ≡ o.seq = here.1 ∙ number in
        subst (λ (x : ℕ × ℕ × Session). P x.0 x.1 x.2) (λ i. (sym here.0 i, sym last i, same i)) mine
    | inr same ↦ old (sym same ∙ is)
  ]

  still-there : (path seq : ℕ) (t : Session) → session_at k.core path seq ≡ Some t → session_at next path seq ≡ Some t
  unfolding grow
  still-there path seq t is = elim (session-pushed o.path new k.core next refl path seq) [
    | inl here ↦ absurd (let low = slice_get_within (k.core.sessions path) seq t is in omega (arith, low, here.1, ap (λ (q : ℕ). length (k.core.sessions q)) here.0))
    | inr same ↦ same ∙ is
  ]

  shown : ShowCards groups words next
  unfolding grow
  shown = record {
    cards = λ path seq t is stands. either-session path seq t is (λ q j u. 0 < parties_of next q j u → get_or words (place_of_word groups (Card u.buf)) 0 ≡ card_of q j (parties_of next q j u))
        (λ some. get_or-set_same s.words p (card_of o.path o.seq parties) 0 (omega (arith, k.wide, within (length groups) (all_sizes groups) (Card o.buf) there)) ∙ ap (card_of o.path o.seq) (sym parties-new))
        (λ was some. get_or-set_other s.words p (place_of_word groups (Card t.buf)) (card_of o.path o.seq parties) 0 (card-card groups t.buf o.buf (session-there groups s k path seq t was) there (apart groups s k o.buf h whole path seq t was some)) ∙ k.shown.cards path seq t was some)
        stands;
    lengths = λ path seq t is stands. either-session path seq t is (λ q j u. 0 < parties_of next q j u → get_or words (place_of_word groups (Length u.buf)) 0 ≡ u.len)
        (λ some. get_or-set_other s.words p (place_of_word groups (Length o.buf)) (card_of o.path o.seq parties) 0 (λ e. card-length groups o.buf o.buf there there (sym e)) ∙ prepared-is.1)
        (λ was some. get_or-set_other s.words p (place_of_word groups (Length t.buf)) (card_of o.path o.seq parties) 0 (λ e. card-length groups o.buf t.buf there (session-there groups s k path seq t was) (sym e)) ∙ k.shown.lengths path seq t was some)
        stands;
    small = λ path seq t is. either-session path seq t is (λ q j u. IsSmall q u) can.small (λ was. k.shown.small path seq t was);
    empty = λ buf below none-here. elim (eqb_tells buf o.buf) [
      | inl same ↦ absurd (let zero-is = none-here o.path o.seq new pushed (sym same.1) in omega (arith, zero-is))
      | inr other ↦ ap (λ (n : ℕ). n % 2 ^ 9) (get_or-set_other s.words p (place_of_word groups (Card buf)) (card_of o.path o.seq parties) 0 (card-card groups buf o.buf below there other.1))
          ∙ k.shown.empty buf below (λ path seq t is its. none-here path seq t (still-there path seq t is) its)
    ];
  }

  quiet : IsQuiet groups next
  unfolding grow
  quiet path seq t is = either-session path seq t is (λ q j u. IsOver next q j u → IsFreed groups next u) (λ over. absurd (let no : true ≡ false = over.writer in cc)) (λ was over. k.quiet path seq t was (record { writer = over.writer; dests = over.dests }))

  writers : (path : ℕ) → IsOfOne (λ u. (state_of u.entries).part.writes path) (λ u. (view_of u).sessions path) (next.sessions path) (set s.views id w)
  unfolding grow
  writers path = elim (eqb_tells path o.path) [
    | inl same ↦ subst (λ (q : ℕ). IsOfOne (λ u. (state_of u.entries).part.writes q) (λ u. (view_of u).sessions q) (next.sessions q) (set s.views id w)) (sym same.1)
        (subst (λ (l : List Session). IsOfOne (λ u. (state_of u.entries).part.writes o.path) (λ u. (view_of u).sessions o.path) l (set s.views id w)) (sym (at_one-same o.path (k.core.sessions o.path ++ new ∷ []) k.core.sessions))
        (of-one-own _ _ _ s.views (k.writers o.path) id m.0 at w (k.core.sessions o.path ++ new ∷ []) can.acts (ap (λ x. x.part.writes o.path) went.is ∙ can.acts)
        (ap (λ x. x.view.sessions o.path) went.is ∙ at_one-same o.path ((view_of m.0).sessions o.path ++ new ∷ []) (view_of m.0).sessions ∙ ap (λ (l : List Session). l ++ new ∷ []) own-list)))
    | inr other ↦ subst (λ (l : List Session). IsOfOne (λ u. (state_of u.entries).part.writes path) (λ u. (view_of u).sessions path) l (set s.views id w)) (sym (at_one-other o.path path (k.core.sessions o.path ++ new ∷ []) k.core.sessions other.1))
        (of-one-same _ _ _ s.views (k.writers path) id m.0 at w (ap (λ x. x.part.writes path) went.is)
        (ap (λ x. x.view.sessions path) went.is ∙ at_one-other o.path path ((view_of m.0).sessions o.path ++ new ∷ []) (view_of m.0).sessions other.1))
  ]

  holders : (buf : ℕ) → IsHeldByOne (λ u. (view_of u).held buf) (next.held buf) (set s.views id w)
  unfolding grow
  holders buf = elim (eqb_tells buf o.buf) [
    | inl same ↦ subst (λ (b : ℕ). IsHeldByOne (λ u. (view_of u).held b) (next.held b) (set s.views id w)) (sym same.1)
        (subst (λ (x : Option Taking). IsHeldByOne (λ u. (view_of u).held o.buf) x (set s.views id w)) (sym (at_one-same o.buf None k.core.held))
        (held-used _ _ s.views (k.holders o.buf) id m.0 at w h prepared-is.0 (ap (λ x. x.view.held o.buf) went.is ∙ at_one-same o.buf None (view_of m.0).held)))
    | inr other ↦ subst (λ (x : Option Taking). IsHeldByOne (λ u. (view_of u).held buf) x (set s.views id w)) (sym (at_one-other o.buf buf None k.core.held other.1))
        (held-same _ _ s.views (k.holders buf) id m.0 at w (ap (λ x. x.view.held buf) went.is ∙ at_one-other o.buf buf None (view_of m.0).held other.1))
  ]

  more-entered : (path : ℕ) → length (next.sessions path) + count_held next.held (length (all_sizes groups)) ≤ length next.changes
  unfolding grow
  more-entered path =
      let used = count-used k.core.held o.buf (length (all_sizes groups)) h there whole in
      let before = k.entered path in
      elim (eqb_tells path o.path) [
        | inl same ↦ (let list = ap (λ (q : ℕ). length (at_one o.path (k.core.sessions o.path ++ new ∷ []) k.core.sessions q)) same.1 ∙ ap (λ (l : List Session). length l) (at_one-same o.path (k.core.sessions o.path ++ new ∷ []) k.core.sessions) in
            omega (arith, used, before, list, length-append (k.core.sessions o.path) (new ∷ []), ap (λ (q : ℕ). length (k.core.sessions q)) same.1))
        | inr other ↦ (let list = ap (λ (l : List Session). length l) (at_one-other o.path path (k.core.sessions o.path ++ new ∷ []) k.core.sessions other.1) in omega (arith, used, before, list))
      ]

  length-stays : (other : Opening) → other.buf < length (all_sizes groups) → IsLength groups s.words other → IsLength groups words other
  length-stays other below is = get_or-set_other s.words p (place_of_word groups (Length other.buf)) (card_of o.path o.seq parties) 0 (λ e. card-length groups o.buf other.buf there below (sym e)) ∙ is

  entered-now : Kept groups (record { words = words; homes = s.homes; views = set s.views id w })
  unfolding grow
  entered-now = record {
    core = next;
    steps = k.steps ++ Does (event_of_opening o) ∷ [];
    leads = leads-more groups k.steps (Does (event_of_opening o)) empty_view k.core k.leads may;
    quiet = quiet;
    wide = omega (arith, k.wide, length-set s.words p (card_of o.path o.seq parties));
    pools = λ group below. ap pool_of (get_or-set_other s.words p group (card_of o.path o.seq parties) 0 (λ e. omega (arith, e, below))) ∙ k.pools group below;
    changes = dealt-same (λ u. (view_of u).changes) k.core.changes s.views id m.0 w at (ap (λ x. x.view.changes) went.is) k.changes;
    refused = dealt-same (λ u. (view_of u).refused) k.core.refused s.views id m.0 w at (ap (λ x. x.view.refused) went.is) k.refused;
    writers = writers;
    readers = λ path dest. of-one-same _ _ _ s.views (k.readers path dest) id m.0 at w (ap (λ x. x.part.reads path dest) went.is) (ap (λ x. x.view.readings path dest) went.is);
    holders = holders;
    entered = more-entered;
    shown = shown;
    takes = let t = total-set (λ u. u.takes) s.views id m.0 w at in omega (arith, t, k.takes);
    parts = let t = total-set (λ u. u.parts) s.views id m.0 w at in omega (arith, t, k.parts);
    each = each-set (λ j u. 0 < u.parts → Knows groups next words u) s.views id w
        (λ some-part. record { groups_are = known.groups_are; whole = went.whole; floors = rise-twice (floors_at m.0) (floors_of groups k.core) (floors_of groups next) known.floors rise; hand = tt })
        (λ j u other is some-part. knows-on groups k.core next s.words words rise (λ g word so. so) (λ path seq t is. (t, still-there path seq t is, refl, refl)) u
        (λ o' theirs so. length-stays o' (held-there groups s k o'.buf (record { number = o'.change; size = o'.cells }) (held-whole groups s k j u is o'.buf (record { number = o'.change; size = o'.cells }) theirs)) so) (k.each j u is some-part));
    spent_is = each-set (λ j u. u.parts ≡ 0 → u.entries ≡ []) s.views id w (λ nothing. absurd (omega (arith, nothing, can.live))) (λ j u other is. k.spent_is j u is);
  }

-- the store of the card may be made
pub enters : (groups : List (List ℕ)) (slots id : ℕ) (m : SeatMe) (o : Opening) (parties : ℕ) → CanEnter m o parties →
    Allows (Kept groups) slots id m (place_of_word groups (Card o.buf)) (λ n. card_of o.path o.seq parties) (λ n. entered (step slots (place_of_word groups (Card o.buf)) (card_of o.path o.seq parties) 0 none) m (card_of o.path o.seq parties))
enters groups slots id m o parties can s k long at low = (with_deed (entry_of o) m.0, keeps, tt, entered-now groups id m o parties can s k at, (λ o' is. let same : Prepared o ≡ Prepared o' = sym can.hand ∙ is in told o' same))
  where
    told : (o' : Opening) → Prepared o ≡ Prepared o' → ◌≡◌ {A = SeatMe} (with_deed (entry_of o) m.0, m.1) (with_deed (entry_of o') m.0, m.1)
    told o' same = let is : o ≡ o' = cc in ap (λ (x : Opening). let u : SeatMe = (with_deed (entry_of x) m.0, m.1) in u) is
