-- A session is entered in a buffer that the seat holds: its length is stored, and then its card.
use Rattle.std.proofs.Common.{◌≡◌, ◌≢◌, ℕ, ◌+◌, ◌%◌, ◌^◌, ◌<◌, inl, inr, zero, suc, Bool, true, false, List, [], length, set, get_or, Option, Some, None, refl, ap, sym, ◌∙◌, subst, arith, eqb, length-set, get_or-set_same}
use Rattle.std.proofs.lemmas.List.{get_or-set_other}
use Rattle.std.proofs.lemmas.Option.{slice_get_within}
use Rattle.std.specs.Prelude.{if◌then◌else◌}
use mathlib.Core.Option.{none, some}
use lib.ListN.{get_elem?}
use prog.Atomic.{either}
use Rattle.atomic_table.proofs.Lists.{exchanged}
use Rattle.atomic_table.specs.Table.{step, keeps, Allows}
use Rattle.hub_core.proofs.Cut.{size-in}
use Rattle.hub_core.proofs.Fresh.{rise-same}
use Rattle.hub_core.proofs.Owning.{OwnedIn, held-last, held-taken, held-unused, session-taken, session-turn}
use Rattle.hub_core.specs.Floors.{has_left, floors_of}
use Rattle.hub_core.specs.Groups.{all_sizes, group_of, place_of, journal_of}
use Rattle.hub_core.specs.Joint.{IsOver}
use Rattle.hub_core.specs.Journal.{ChangesBuf}
use Rattle.hub_core.specs.View.{View, Taken, Taking, Session, Reading, session_at, reading_at}
use Rattle.hub_layout.proofs.Places.{differ, within}
use Rattle.hub_layout.specs.Places.{Card, Length}
use Rattle.hub_shared.proofs.Cores.{HubState, lawful}
use Rattle.hub_shared.proofs.Dealt.{each-set, total-set, dealt-same}
use Rattle.hub_shared.proofs.Holding.{held-same, others-none}
use Rattle.hub_shared.proofs.Parties.{of-one-same}
use Rattle.hub_shared.proofs.Steps.{Goes, knows-on, same-stay, same-word, stays}
use Rattle.hub_shared.specs.Cards.{dests_of, parties_of, place_of_word}
use Rattle.hub_shared.specs.Counts.{counts_one}
use Rattle.hub_shared.specs.Plays.{SeatMe, IsEntering, entering, prepared}
use Rattle.hub_shared.specs.Rule.{Knows, Kept}
use Rattle.hub_shared.specs.Sights.{view_of}
use Rattle.hub_shared.specs.declared.sight.Hand.TheVariants.{Entering, Prepared}
use Rattle.hub_shared.specs.declared.sight.Note.TheVariants.{Opens}
use Rattle.hub_shared.specs.declared.sight.Opening.{Opening}
use Rattle.hub_shared.specs.declared.sight.Sight.{Sight}

-- where all parties have left, no bit is set
none-left : (v : View) (path seq : ℕ) (s : Session) → IsOver v path seq s → parties_of v path seq s ≡ 0
none-left v path seq s over = let d = dests s.dests (λ dest below. over.dests dest below) in omega (arith, ap counts_one over.writer, d)
  where
    left : (found : Option Reading) → (r : Reading) × (found ≡ Some r) × (r.stands ≡ false) → has_left (λ r. r.stands) found ≡ true
    left None is = absurd (let no : None ≡ Some is.0 = is.1 in cc)
    left (Some r) is = let same : r ≡ is.0 = cc in ap (λ (b : Bool). if b then false else true) (ap (λ (x : Reading). x.stands) same ∙ is.2)

    dests : (n : ℕ) → ((dest : ℕ) → dest < n → (r : Reading) × (reading_at v path dest seq ≡ Some r) × (r.stands ≡ false)) → dests_of v path seq n ≡ 0
    dests zero all = refl
    dests (suc n) all =
        let rest = dests n (λ dest below. all dest (omega (arith, below))) in
        let one : (let m : ℕ = (if has_left (λ r. r.stands) (reading_at v path n seq) then 0 else 2 ^ (n + 1)) in m) ≡ 0 = ap (λ (b : Bool). let m : ℕ = (if b then 0 else 2 ^ (n + 1)) in m) (left (reading_at v path n seq) (all n (omega arith))) in
        omega (arith, rest, one)

module _ (groups : List (List ℕ)) (s : HubState) (k : Kept groups s) where
  -- a buffer of a session is one of the groups', and so is one that is held
  owned : OwnedIn groups k.core
  owned = (lawful groups s k).owned

  pub session-there : (path seq : ℕ) (t : Session) → session_at k.core path seq ≡ Some t → t.buf < length (all_sizes groups)
  session-there path seq t at = slice_get_within (all_sizes groups) t.buf t.size (sym (size-in groups t.buf) ∙ (session-taken groups k.core owned path seq t at).size)

  pub held-there : (buf : ℕ) (t : Taking) → k.core.held buf ≡ Some t → buf < length (all_sizes groups)
  held-there buf t is = slice_get_within (all_sizes groups) buf t.size (sym (size-in groups buf) ∙ (held-taken groups k.core owned buf t is).size_is)

  -- what a seat holds is held
  pub held-whole : (j : ℕ) (u : Sight) → get_elem? s.views j ≡ some u → (buf : ℕ) (t : Taking) → (view_of u).held buf ≡ Some t → k.core.held buf ≡ Some t
  held-whole j u is buf t mine = elim ((k.holders buf).each j u is) [ inl nothing ↦ absurd (let no : None ≡ Some t = sym nothing ∙ mine in cc) | inr all ↦ sym all ∙ mine ]

  -- a session of which a party takes part isn't in a buffer that is held
  pub apart : (buf : ℕ) (h : Taking) → k.core.held buf ≡ Some h → (path seq : ℕ) (t : Session) → session_at k.core path seq ≡ Some t → 0 < parties_of k.core path seq t → t.buf ≢ buf
  apart buf h is path seq t at stands same = elim (session-turn groups k.core owned path seq t at) [
    | inl last ↦
        let mine : ChangesBuf (journal_of groups (group_of groups buf) k.core.changes) (place_of groups buf) h.number = (Taken h.number (place_of groups buf) (held-taken groups k.core owned buf h is).need, (held-taken groups k.core owned buf h is).take, refl) in
        let theirs : ChangesBuf (journal_of groups (group_of groups t.buf) k.core.changes) (place_of groups t.buf) t.number = (Taken t.number (place_of groups t.buf) (session-taken groups k.core owned path seq t at).need, (session-taken groups k.core owned path seq t at).take, refl) in
        let low = held-last groups k.core owned buf h is t.number (subst (λ (b : ℕ). ChangesBuf (journal_of groups (group_of groups b) k.core.changes) (place_of groups b) t.number) same theirs) in
        let high = last h.number (subst (λ (b : ℕ). ChangesBuf (journal_of groups (group_of groups b) k.core.changes) (place_of groups b) h.number) (sym same) mine) in
        held-unused groups k.core owned buf h is path seq t at (ap (group_of groups) same, omega (arith, low, high))
    | inr over ↦ absurd (omega (arith, stands, none-left k.core path seq t over.0))
  ]

-- two words of buffers that are there
pub card-length : (groups : List (List ℕ)) (a b : ℕ) → a < length (all_sizes groups) → b < length (all_sizes groups) → place_of_word groups (Card a) ≢ place_of_word groups (Length b)
card-length groups a b here there is = absurd (let no : Card a ≡ Length b = differ (length groups) (all_sizes groups) (Card a) (Length b) here there is in cc)

pub length-length : (groups : List (List ℕ)) (a b : ℕ) → a < length (all_sizes groups) → b < length (all_sizes groups) → a ≢ b → place_of_word groups (Length a) ≢ place_of_word groups (Length b)
length-length groups a b here there other is = other (let same : Length a ≡ Length b = differ (length groups) (all_sizes groups) (Length a) (Length b) here there is in cc)

-- the length of a session that is to be entered is stored in a buffer that the seat holds
pub prepares : (groups : List (List ℕ)) (slots id : ℕ) (m : SeatMe) (o : Opening) → 0 < m.0.parts → m.0.hand ≡ Entering o → (view_of m.0).held o.buf ≡ Some (record { number = o.change; size = o.cells }) →
    Allows (Kept groups) slots id m (place_of_word groups (Length o.buf)) (λ n. o.len) (λ n. prepared (step slots (place_of_word groups (Length o.buf)) o.len 0 none) m o.len)
prepares groups slots id m o live hand holds s k long at low = (
  w,
  keeps,
  tt,
  record {
    core = k.core;
    steps = k.steps;
    leads = k.leads;
    quiet = k.quiet;
    wide = omega (arith, k.wide, length-set s.words p o.len);
    pools = λ group below. ap Rattle.pool_words.specs.Pools.pool_of (get_or-set_other s.words p group o.len 0 (λ e. omega (arith, e, below))) ∙ k.pools group below;
    changes = dealt-same (λ u. (view_of u).changes) k.core.changes s.views id m.0 w at refl k.changes;
    refused = dealt-same (λ u. (view_of u).refused) k.core.refused s.views id m.0 w at refl k.refused;
    writers = λ path. of-one-same _ _ _ s.views (k.writers path) id m.0 at w refl refl;
    readers = λ path dest. of-one-same _ _ _ s.views (k.readers path dest) id m.0 at w refl refl;
    holders = λ buf. held-same _ _ s.views (k.holders buf) id m.0 at w refl;
    entered = k.entered;
    shown = record {
      cards = λ path seq t is stands. get_or-set_other s.words p (place_of_word groups (Card t.buf)) o.len 0 (card-length groups t.buf o.buf (session-there groups s k path seq t is) there) ∙ k.shown.cards path seq t is stands;
      lengths = λ path seq t is stands.
          get_or-set_other s.words p (place_of_word groups (Length t.buf)) o.len 0 (length-length groups t.buf o.buf (session-there groups s k path seq t is) there (apart groups s k o.buf h whole path seq t is stands)) ∙ k.shown.lengths path seq t is stands;
      small = k.shown.small;
      empty = λ buf below nobody. ap (λ (n : ℕ). n % 2 ^ 9) (get_or-set_other s.words p (place_of_word groups (Card buf)) o.len 0 (card-length groups buf o.buf below there)) ∙ k.shown.empty buf below nobody;
    };
    takes = let t = total-set (λ u. u.takes) s.views id m.0 w at in omega (arith, t, k.takes);
    parts = let t = total-set (λ u. u.parts) s.views id m.0 w at in omega (arith, t, k.parts);
    each = each-set (λ j u. 0 < u.parts → Knows groups k.core words u) s.views id w
        (λ some-part. record { groups_are = known.groups_are; whole = known.whole; floors = known.floors; hand = (holds, get_or-set_same s.words p o.len 0 (omega (arith, k.wide, within (length groups) (all_sizes groups) (Length o.buf) there))) })
        (λ j u other is some-part. knows-on groups k.core k.core s.words words (rise-same (floors_of groups k.core)) (λ g word so. so) (same-stay k.core k.core refl) u (λ o' theirs so.
        get_or-set_other s.words p (place_of_word groups (Length o'.buf)) o.len 0
        (length-length groups o'.buf o.buf (held-there groups s k o'.buf (record { number = o'.change; size = o'.cells }) (held-whole groups s k j u is o'.buf (record { number = o'.change; size = o'.cells }) theirs)) there
        (λ same. absurd (let no : None ≡ Some (record { number = o'.change; size = o'.cells }) = sym (others-none _ _ s.views (k.holders o.buf) id m.0 at h holds j u other is) ∙ ap (view_of u).held (sym same) ∙ theirs in cc)))
        ∙ so) (k.each j u is some-part));
    spent_is = each-set (λ j u. u.parts ≡ 0 → u.entries ≡ []) s.views id w (λ nothing. absurd (omega (arith, nothing, live))) (λ j u other is. k.spent_is j u is);
  },
  (λ o' is. let same : Entering o ≡ Entering o' = sym hand ∙ is in told o' same),
)
  where
    p : ℕ
    p = place_of_word groups (Length o.buf)

    w : Sight
    w = record m.0 { hand = Prepared o }

    words : List ℕ
    words = set s.words p o.len

    h : Taking
    h = record { number = o.change; size = o.cells }

    known : Knows groups k.core s.words m.0
    known = k.each id m.0 at live

    whole : k.core.held o.buf ≡ Some h
    whole = held-whole groups s k id m.0 at o.buf h holds

    there : o.buf < length (all_sizes groups)
    there = held-there groups s k o.buf h whole

    told : (o' : Opening) → Entering o ≡ Entering o' → ◌≡◌ {A = SeatMe} (w, m.1) (record m.0 { hand = Prepared o' }, m.1)
    told o' same = let is : o ≡ o' = cc in ap (λ (x : Opening). let u : SeatMe = (record m.0 { hand = Prepared x }, m.1) in u) is

-- a seat announces the session that it is to enter, by an exchange of 0 for 0 that changes nothing
pub opens-may : (groups : List (List ℕ)) (slots id word : ℕ) (m : SeatMe) (o : Opening) → 0 < m.0.parts → Allows (Kept groups) slots id m word (λ n. either (eqb n 0) 0 n) (entering (step slots word 0 0 (some (Opens o))) m)
opens-may groups slots id word m o live s k long at low =
    let n : ℕ = get_or s.words word 0 in
    let tale : ℕ → SeatMe → Type 0 = entering (step slots word 0 0 (some (Opens o))) m in
    let w : Sight = record m.0 { hand = Entering o } in
    let kept = same-word groups s (set s.views id w) word (stays groups s k id m.0 at live (Entering o) tt) in
    let tells : tale n (w, m.1) = (λ other said. (let same : Opens o ≡ Opens other = mathlib.Core.Option.some-injective _ _ said in told other same)) in
    exchanged n 0 0 (Goes groups s id word m tale n) (λ hit. (w, keeps, tt, subst (λ (z : ℕ). Kept groups (record { words = set s.words word z; homes = s.homes; views = set s.views id w })) hit kept, tells)) (λ other. (w, keeps, tt, kept, tells))
  where
    there : (view_of m.0).held o.buf ≡ Some (record { number = o.change; size = o.cells }) → o.buf < length (all_sizes m.0.groups)
    there holds = subst (λ (g : List (List ℕ)). o.buf < length (all_sizes g)) (sym (k.each id m.0 at live).groups_are)
        (held-there groups s k o.buf (record { number = o.change; size = o.cells }) (held-whole groups s k id m.0 at o.buf (record { number = o.change; size = o.cells }) holds))

    told : (other : Opening) → Opens o ≡ Opens other → IsEntering other m (record m.0 { hand = Entering o }, m.1)
    told other same = let is : o ≡ other = cc in subst (λ (x : Opening). IsEntering x m (record m.0 { hand = Entering o }, m.1)) is (record { me = refl; there = there })
