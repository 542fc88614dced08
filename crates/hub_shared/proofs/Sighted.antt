-- A destination's look for its session: it begins, it goes over the cards, and it ends.
use Rattle.std.proofs.Common.{◌≡◌, ℕ, ◌+◌, ◌*◌, ◌/◌, ◌^◌, ◌<◌, ◌⊎◌, inl, inr, Bool, true, false, List, [], length, get_or, set, Option, Some, None, refl, ap, sym, ◌∙◌, subst, arith, eqb}
use Rattle.std.proofs.lemmas.Bool.{cases_lt, le-ltb}
use Rattle.std.proofs.lemmas.Bool.Decides.{eqb_tells}
use Rattle.std.proofs.lemmas.Option.{slice_get_within}
use Rattle.std.specs.Prelude.{if◌then◌else◌, ◌&&◌, nat_lt}
use mathlib.Core.Option.{none, some}
use lib.ListN.{get_elem?}
use prog.Atomic.{either}
use Rattle.atomic_table.proofs.Lists.{exchanged}
use Rattle.atomic_table.specs.Table.{step, keeps, Allows}
use Rattle.hub_core.specs.Floors.{floors_of, is_for_in}
use Rattle.hub_core.specs.Groups.{all_sizes, group_of}
use Rattle.hub_core.specs.View.{View, Session, Reading, session_at, reading_at}
use Rattle.hub_layout.proofs.Places.{differ}
use Rattle.hub_layout.specs.Places.{Card}
use Rattle.pool_words.proofs.Bits.{digit, digit-most, set-digit, digit-set}
use Rattle.hub_shared.proofs.CardBits.{its-dest, its-session, shows-it, shows-nobody, some-party}
use Rattle.hub_shared.proofs.Cores.{HubState}
use Rattle.hub_shared.proofs.Enters.{session-there}
use Rattle.hub_shared.proofs.Steps.{Goes, same-word, stays}
use Rattle.hub_shared.specs.Cards.{IsCardFor, card_of, parties_of, place_of_word}
use Rattle.hub_shared.specs.Plays.{SeatMe, IsPlaceFor, IsSeeking, IsSighted, seeking, sighted, rested}
use Rattle.hub_shared.specs.Rule.{HandKnows, IsIn, IsWhere, Knows, Kept}
use Rattle.hub_shared.specs.Seeks.{IsLooking}
use Rattle.hub_shared.specs.Sights.{view_of, floors_at}
use Rattle.hub_shared.specs.declared.sight.Hand.TheVariants.{Idle, Seeking}
use Rattle.hub_shared.specs.declared.sight.Note.TheVariants.{Seeks}
use Rattle.hub_shared.specs.declared.sight.Sight.{Sight}
use Rattle.hub_shared.specs.declared.sight.Sought.{Sought}

-- where a session is as the look begins
record Where (groups : List (List ℕ)) (core : View) (sought : Sought) : Type 0 where
  buf : Option ℕ
  is : IsWhere groups core sought buf
  missed : buf ≡ None → is_for_in groups sought.group sought.dest (session_at core sought.path sought.seq) ≡ false
  there : (at : ℕ) → buf ≡ Some at → IsPlaceFor groups sought at

module _ (groups : List (List ℕ)) (s : HubState) (k : Kept groups s) (sought : Sought) where
  where-is : Where groups k.core sought
  where-is = go (session_at k.core sought.path sought.seq) refl
    where
      go : (found : Option Session) → session_at k.core sought.path sought.seq ≡ found → Where groups k.core sought
      go None is = record { buf = None; is = tt; missed = λ nothing. ap (is_for_in groups sought.group sought.dest) is; there = λ at no. absurd cc }
      go (Some t) is = elim (eqb_tells (group_of groups t.buf) sought.group) [
        | inl same ↦ elim (cases_lt sought.dest t.dests) [
          | inl low ↦ record {
            buf = Some t.buf;
            is = record { session = t; known = is; buf_is = refl; its = same.1; for = low };
            missed = λ no. absurd cc;
            there = λ at e. let here : t.buf ≡ at = cc in
                record { its = ap (group_of groups) (sym here) ∙ same.1; below = subst (λ (b : ℕ). b < length (all_sizes groups)) here (session-there groups s k sought.path sought.seq t is); few = omega (arith, low, (k.shown.small sought.path sought.seq t is).dests_small) };
          }
          | inr high ↦ record {
            buf = None;
            is = tt;
            missed = λ nothing. ap (is_for_in groups sought.group sought.dest) is ∙ (λ i. same.0 i && le-ltb sought.dest t.dests high i);
            there = λ at no. absurd cc;
          }
        ]
        | inr other ↦ record {
          buf = None;
          is = tt;
          missed = λ nothing. ap (is_for_in groups sought.group sought.dest) is ∙ ap (λ (b : Bool). b && nat_lt sought.dest t.dests) other.0;
          there = λ at no. absurd cc;
        }
      ]

-- a seat announces the session that its destination looks for, by an exchange of 0 for 0 that changes nothing
pub seeks : (groups : List (List ℕ)) (slots id word : ℕ) (m : SeatMe) (sought : Sought) → 0 < m.0.parts → Allows (Kept groups) slots id m word (λ n. either (eqb n 0) 0 n) (seeking (step slots word 0 0 (some (Seeks sought))) m)
seeks groups slots id word m sought live s k long at low =
    let n : ℕ = get_or s.words word 0 in
    let tale : ℕ → SeatMe → Type 0 = seeking (step slots word 0 0 (some (Seeks sought))) m in
    let w : Sight = record m.0 { hand = Seeking sought (here).buf } in
    let kept = same-word groups s (set s.views id w) word (stays groups s k id m.0 at live (Seeking sought (here).buf) (here).is) in
    let tells : tale n (w, m.1) = (λ other said. (let same : Seeks sought ≡ Seeks other = mathlib.Core.Option.some-injective _ _ said in told other same)) in
    exchanged n 0 0 (Goes groups s id word m tale n) (λ hit. (w, keeps, tt, subst (λ (z : ℕ). Kept groups (record { words = set s.words word z; homes = s.homes; views = set s.views id w })) hit kept, tells)) (λ other. (w, keeps, tt, kept, tells))
  where
    here : Where groups k.core sought
    here = where-is groups s k sought

    known : Knows groups k.core s.words m.0
    known = k.each id m.0 at live

    missed : (here).buf ≡ None → (floors_at m.0).entered sought.group sought.path sought.dest sought.seq ≡ false
    missed nothing = go ((floors_at m.0).entered sought.group sought.path sought.dest sought.seq) refl
      where
        go : (b : Bool) → (floors_at m.0).entered sought.group sought.path sought.dest sought.seq ≡ b → (floors_at m.0).entered sought.group sought.path sought.dest sought.seq ≡ false
        go false is = is
        go true is = absurd (let no : true ≡ false = sym (known.floors.entered sought.group sought.path sought.dest sought.seq is) ∙ here.missed nothing in cc)

    told : (other : Sought) → Seeks sought ≡ Seeks other → IsSeeking other m (record m.0 { hand = Seeking sought (here).buf }, m.1)
    told other same = let is : sought ≡ other = cc in subst (λ (x : Sought). IsSeeking x m (record m.0 { hand = Seeking sought (here).buf }, m.1)) is (record {
      buf = here.buf;
      me = refl;
      missed = missed;
      there = subst (λ (g : List (List ℕ)). (at : ℕ) → here.buf ≡ Some at → IsPlaceFor g sought at) (sym known.groups_are) here.there;
    })

-- whether a card is of the session
card-decides : (sought : Sought) (card : ℕ) → IsCardFor sought card ⊎ (IsCardFor sought card → ⊥)
card-decides sought card = elim (eqb_tells (card / 2 ^ 9) (sought.seq * 2 ^ 8 + sought.path)) [
  | inl same ↦ elim (cases_lt (digit card (sought.dest + 1)) 1) [
    | inl clear ↦ inr (λ is. absurd (let one = set-digit card (sought.dest + 1) is.dest in omega (arith, one, clear)))
    | inr on ↦ inl (record { session = same.1; dest = digit-set card (sought.dest + 1) (let most = digit-most card (sought.dest + 1) in omega (arith, most, on)) })
  ]
  | inr other ↦ inr (λ is. other.1 is.session)
]

-- a seat that looks for its destination's next session
module _ (groups : List (List ℕ)) (id : ℕ) (m : SeatMe) (sought : Sought) (look : IsLooking sought m) (s : HubState) (k : Kept groups s) (at : get_elem? s.views id ≡ some m.0) where
  -- the destination hasn't joined it
  pub unread : reading_at k.core sought.path sought.dest sought.seq ≡ None
  unread = go (reading_at k.core sought.path sought.dest sought.seq) refl
    where
      own : (view_of m.0).readings sought.path sought.dest ≡ k.core.readings sought.path sought.dest
      own = (k.readers sought.path sought.dest).each id m.0 at ∙ ap (λ (b : Bool). if b then k.core.readings sought.path sought.dest else []) look.acts

      go : (found : Option Reading) → reading_at k.core sought.path sought.dest sought.seq ≡ found → reading_at k.core sought.path sought.dest sought.seq ≡ None
      go None is = is
      go (Some r) is = absurd (let low = slice_get_within (k.core.readings sought.path sought.dest) sought.seq r is in omega (arith, low, look.number, ap (λ (l : List Reading). length l) own))

  pub stays-on : Rattle.hub_core.specs.Floors.has_left (λ r. r.stands) (reading_at k.core sought.path sought.dest sought.seq) ≡ false
  stays-on = ap (Rattle.hub_core.specs.Floors.has_left (λ r. r.stands)) unread

  -- a session that is there has its card
  pub its-card : (b : ℕ) → sought.path < 2 ^ 8 → IsIn groups k.core sought b → IsCardFor sought (get_or s.words (place_of_word groups (Card b)) 0)
  its-card b path-small is =
      shows-it k.core sought.path sought.seq is.session sought (get_or s.words (place_of_word groups (Card b)) 0) (k.shown.small sought.path sought.seq is.session is.known)
      (ap (λ (x : ℕ). get_or s.words (place_of_word groups (Card x)) 0) (sym is.buf_is) ∙ k.shown.cards sought.path sought.seq is.session is.known (some-party k.core sought.path sought.seq is.session sought.dest is.for stays-on)) refl refl is.for stays-on

  -- and a card that is the session's shows that it is there
  module _ (b : ℕ) (below : b < length (all_sizes groups)) (its : group_of groups b ≡ sought.group) (path-small : sought.path < 2 ^ 8) (dest-small : sought.dest < 8) (shows : IsCardFor sought (get_or s.words (place_of_word groups (Card b)) 0)) where
    abbrev card : ℕ
    card = get_or s.words (place_of_word groups (Card b)) 0

    card-is : (path seq : ℕ) (t : Session) → session_at k.core path seq ≡ Some t → t.buf ≡ b → 0 < parties_of k.core path seq t → card ≡ card_of path seq (parties_of k.core path seq t)
    card-is path seq t is same on = ap (λ (x : ℕ). get_or s.words (place_of_word groups (Card x)) 0) (sym same) ∙ k.shown.cards path seq t is on

    someone : ((t : Session) → session_at k.core sought.path sought.seq ≡ Some t → t.buf ≡ b → 0 < parties_of k.core sought.path sought.seq t → ⊥) → ⊥
    someone nothing = shows-nobody sought card dest-small (k.shown.empty b below (λ path seq t is same. elim (cases_lt 0 (parties_of k.core path seq t)) [
      | inl on ↦
          let both = its-session k.core path seq t sought card (k.shown.small path seq t is) path-small (card-is path seq t is same on) shows in
          absurd (nothing t ((λ i. session_at k.core (both.0 i) (both.1 i)) ∙ is) same (subst (λ (x : ℕ × ℕ). 0 < parties_of k.core x.0 x.1 t) (λ i. (sym both.0 i, sym both.1 i)) on))
      | inr clear ↦ omega (arith, clear)
    ])) shows

    pub is-in : IsIn groups k.core sought b
    is-in = go (session_at k.core sought.path sought.seq) refl
      where
        go : (found : Option Session) → session_at k.core sought.path sought.seq ≡ found → IsIn groups k.core sought b
        go None is = absurd (someone (λ t there same on. absurd (let no : None ≡ Some t = sym is ∙ there in cc)))
        go (Some t) is = elim (eqb_tells t.buf b) [
          | inl same ↦ elim (cases_lt 0 (parties_of k.core sought.path sought.seq t)) [
            | inl on ↦
                let its-own = its-dest k.core sought.path sought.seq t sought card (k.shown.small sought.path sought.seq t is) dest-small (card-is sought.path sought.seq t is same.1 on) shows in
                record { session = t; known = is; buf_is = same.1; its = its; for = its-own.0 }
            | inr clear ↦ absurd (someone (λ u there here on. let one : Some t ≡ Some u = sym is ∙ there in let it : t ≡ u = cc in omega (arith, clear, subst (λ (x : Session). 0 < parties_of k.core sought.path sought.seq x) (sym it) on)))
          ]
          | inr other ↦ absurd (someone (λ u there here on. let one : Some t ≡ Some u = sym is ∙ there in let it : t ≡ u = cc in absurd (other.1 (ap (λ (x : Session). x.buf) it ∙ here))))
        ]

-- a look at the card of a buffer of the group
pub sights : (groups : List (List ℕ)) (slots id : ℕ) (m : SeatMe) (sought : Sought) (b : ℕ) → IsLooking sought m → b < length (all_sizes groups) → group_of groups b ≡ sought.group → sought.path < 2 ^ 8 → sought.dest < 8 →
    Allows (Kept groups) slots id m (place_of_word groups (Card b)) (λ n. n) (sighted (step slots (place_of_word groups (Card b)) 0 0 none) m)
sights groups slots id m sought b look below its path-small dest-small s k long at low = elim (card-decides sought card) [
  | inl shows ↦ (
    record m.0 { hand = Seeking sought (Some b) },
    keeps,
    tt,
    same-word groups s (set s.views id (record m.0 { hand = Seeking sought (Some b) })) (place_of_word groups (Card b)) (stays groups s k id m.0 at look.live (Seeking sought (Some b)) (is-in groups id m sought look s k at b below its path-small dest-small shows)),
    told (record m.0 { hand = Seeking sought (Some b) }, m.1) (record { shows = λ yes. refl; hides = λ no. absurd (no shows) }),
  )
  | inr hides ↦ (
    m.0,
    keeps,
    tt,
    same-word groups s (set s.views id m.0) (place_of_word groups (Card b)) (stays groups s k id m.0 at look.live m.0.hand known.hand),
    told m (record { shows = λ yes. absurd (hides yes); hides = λ no. (refl, λ is. absurd (hides (its-card groups id m sought look s k at b path-small (there is)))) }),
  )
]
  where
    card : ℕ
    card = get_or s.words (place_of_word groups (Card b)) 0

    known : Knows groups k.core s.words m.0
    known = k.each id m.0 at look.live

    there : look.buf ≡ Some b → IsIn groups k.core sought b
    there is = subst (HandKnows groups k.core s.words (view_of m.0).held) (look.hand ∙ ap (Seeking sought) is) known.hand

    told : (after : SeatMe) → IsSighted sought look.buf b card m after → sighted (step slots (place_of_word groups (Card b)) 0 0 none) m card after
    told after so sought' buf' b' hand below' word =
        let same : Seeking sought look.buf ≡ Seeking sought' buf' = sym look.hand ∙ hand in
        let a : sought ≡ sought' = cc in
        let c : look.buf ≡ buf' = cc in
        let word' : place_of_word groups (Card b) ≡ place_of_word groups (Card b') = word ∙ ap (λ (g : List (List ℕ)). place_of_word g (Card b')) known.groups_are in
        let low' : b' < length (all_sizes groups) = subst (λ (g : List (List ℕ)). b' < length (all_sizes g)) known.groups_are below' in
        let both : Card b ≡ Card b' = differ (length groups) (all_sizes groups) (Card b) (Card b') below low' word' in
        let d : b ≡ b' = cc in
        subst (λ (x : Sought × Option ℕ × ℕ). IsSighted x.0 x.1 x.2 card m after) (λ i. (a i, c i, d i)) so

-- a look that found nothing ends
pub rests : (groups : List (List ℕ)) (slots id word : ℕ) (m : SeatMe) → 0 < m.0.parts → Allows (Kept groups) slots id m word (λ n. n) (rested (step slots word 0 0 none) m)
rests groups slots id word m live s k long at low = (
  record m.0 { hand = Idle },
  keeps,
  tt,
  same-word groups s (set s.views id (record m.0 { hand = Idle })) word (stays groups s k id m.0 at live Idle tt),
  refl,
)
