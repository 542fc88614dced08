-- Each step of a seat keeps the rule.
use Rattle.std.proofs.Common.{◌≡◌, ◌≢◌, ℕ, ◌+◌, ◌-◌, ◌<◌, ◌≤◌, List, [], ◌∷◌, ◌++◌, length, set, get_or, Some, refl, ap, sym, ◌∙◌, subst, arith, eqb, length-append}
use Rattle.std.proofs.lemmas.List.{set-get_or}
use mathlib.Core.Option.{none, some}
use lib.ListN.{get_elem?}
use prog.Atomic.{either}
use Rattle.atomic_table.specs.Table.{Act, step, keeps, stepped, carried_after, Valid, Allows}
use Rattle.atomic_table.proofs.Lists.{exchanged}
use Rattle.hub_core.proofs.Fresh.{rise-twice, rise-grow}
use Rattle.hub_core.proofs.Led.{leads-more}
use Rattle.hub_core.specs.Core.{Step as CoreStep, Takes as TakesStep, Refuses as RefusesStep, May, after}
use Rattle.hub_core.specs.Floors.{Rise, floors_of}
use Rattle.hub_core.specs.Groups.{all_sizes}
use Rattle.hub_core.specs.Joint.{IsQuiet}
use Rattle.hub_core.specs.Past.{event_of}
use Rattle.hub_core.specs.Plain.{pool_after}
use Rattle.hub_core.specs.View.{View, Change, Taken, Taking, Refusal, Session, session_at, at_one, Took as TookEvent, Refused as RefusedEvent, grow}
use Rattle.hub_core.specs.declared.history.Deed.{Deed}
use Rattle.hub_layout.specs.Places.{Length, words_in}
use Rattle.pool_words.specs.Pools.{pool_of}
use Rattle.hub_shared.proofs.Cores.{HubState, law, few-now, count-now, was-now, fewer-then}
use Rattle.hub_shared.proofs.Dealt.{each-set, total-set, dealt-more, dealt-same}
use Rattle.hub_shared.proofs.Holding.{held-same}
use Rattle.hub_shared.proofs.Histories.{goes-did}
use Rattle.hub_shared.proofs.Parties.{of-one-same}
use Rattle.hub_shared.specs.History.{state_of}
use Rattle.hub_shared.specs.Plays.{SeatMe, with_look, IsSeen, Lost, looked, with_deed, announced}
use Rattle.hub_shared.specs.Counts.{total, count_held}
use Rattle.hub_shared.specs.Cards.{ShowCards, place_of_word}
use Rattle.hub_shared.specs.Counts.{IsHeldByOne}
use Rattle.hub_shared.specs.Rule.{IsWhere, WasWord, HandKnows, Knows, Kept}
use Rattle.hub_shared.specs.Sights.{view_of, floors_at}
use Rattle.hub_shared.specs.declared.part.HubPart.{HubPart}
use Rattle.hub_shared.specs.declared.sight.Entry.TheVariants.{Did}
use Rattle.hub_shared.specs.declared.sight.Hand.{Hand}
use Rattle.hub_shared.specs.declared.sight.Hand.TheVariants.{Idle, Looked, Parting, Entering, Prepared, Seeking}
use Rattle.hub_shared.specs.declared.sight.Note.{Note}
use Rattle.hub_shared.specs.declared.sight.Note.TheVariants.{Parts}
use Rattle.hub_shared.specs.declared.sight.Opening.{Opening}
use Rattle.hub_shared.specs.declared.sight.Sight.{Sight}
use Rattle.hub_shared.specs.declared.sight.Sought.{Sought}
use Rattle.std.specs.Prelude.{slice_get, Option, None}

-- a state with other words, and another view of a seat
abbrev changed : HubState → List ℕ → ℕ → Sight → HubState
changed s words id w = record { words = words; homes = s.homes; views = set s.views id w }

-- the length of a session that is to be entered
abbrev pub IsLength : List (List ℕ) → List ℕ → Opening → Type 0
IsLength groups words o = get_or words (place_of_word groups (Length o.buf)) 0 ≡ o.len

-- each session goes on in its buffer, for its destinations
abbrev pub SessionsStay : View → View → Type 0
SessionsStay v w = (path seq : ℕ) (s : Session) → session_at v path seq ≡ Some s → (t : Session) × (session_at w path seq ≡ Some t) × (t.buf ≡ s.buf) × (t.dests ≡ s.dests)

pub same-stay : (v w : View) → w.sessions ≡ v.sessions → SessionsStay v w
same-stay v w same path seq s is = (s, ap (λ (f : ℕ → List Session). slice_get (f path) seq) same ∙ is, refl, refl)

where-on : (groups : List (List ℕ)) (v w : View) → SessionsStay v w → (sought : Sought) (buf : Option ℕ) → IsWhere groups v sought buf → IsWhere groups w sought buf
where-on groups v w stay sought None so = tt
where-on groups v w stay sought (Some buf) so =
    let now = stay sought.path sought.seq so.session so.known in
    record { session = now.0; known = now.1; buf_is = now.2 ∙ so.buf_is; its = so.its; for = subst (λ (n : ℕ). sought.dest < n) (sym now.3) so.for }

-- what a seat knows as the machine and the words go on
pub knows-on : (groups : List (List ℕ)) (core next : View) (words more : List ℕ) → Rise (floors_of groups core) (floors_of groups next) → ((group word : ℕ) → WasWord groups group core word → WasWord groups group next word) → SessionsStay core next → (v : Sight) →
    ((o : Opening) → (view_of v).held o.buf ≡ Some (record { number = o.change; size = o.cells }) → IsLength groups words o → IsLength groups more o) → Knows groups core words v → Knows groups next more v
knows-on groups core next words more rise was stay v length-on known = record { groups_are = known.groups_are; whole = known.whole; floors = rise-twice (floors_at v) (floors_of groups core) (floors_of groups next) known.floors rise; hand = on v.hand known.hand }
  where
    on : (hand : Hand) → HandKnows groups core words (view_of v).held hand → HandKnows groups next more (view_of v).held hand
    on Idle so = tt
    on (Looked group word) so = was group word so
    on (Parting named) so = tt
    on (Entering opening) so = tt
    on (Prepared opening) so = (so.0, length-on opening so.0 so.1)
    on (Seeking sought buf) so = where-on groups core next stay sought buf so

-- a step of a seat
module _ (groups : List (List ℕ)) (s : HubState) (k : Kept groups s) (id : ℕ) (v : Sight) (at : get_elem? s.views id ≡ some v) (live : 0 < v.parts) where
  known : Knows groups k.core s.words v
  known = k.each id v at live

  -- that leaves the machine
  pub stays : (hand : Hand) → HandKnows groups k.core s.words (view_of v).held hand → Kept groups (changed s s.words id (record v { hand = hand }))
  stays hand so = record {
    core = k.core;
    steps = k.steps;
    leads = k.leads;
    quiet = k.quiet;
    wide = k.wide;
    pools = k.pools;
    changes = dealt-same (λ u. (view_of u).changes) k.core.changes s.views id v w at refl k.changes;
    refused = dealt-same (λ u. (view_of u).refused) k.core.refused s.views id v w at refl k.refused;
    writers = λ path. of-one-same _ _ _ s.views (k.writers path) id v at w refl refl;
    readers = λ path dest. of-one-same _ _ _ s.views (k.readers path dest) id v at w refl refl;
    holders = λ buf. held-same _ _ s.views (k.holders buf) id v at w refl;
    entered = k.entered;
    shown = k.shown;
    takes = let t = total-set (λ u. u.takes) s.views id v w at in omega (arith, t, k.takes);
    parts = let t = total-set (λ u. u.parts) s.views id v w at in omega (arith, t, k.parts);
    each = each-set (λ j u. 0 < u.parts → Knows groups k.core s.words u) s.views id w (λ some-part. record { groups_are = known.groups_are; whole = known.whole; floors = known.floors; hand = so }) (λ j u other is. k.each j u is);
    spent_is = each-set (λ j u. u.parts ≡ 0 → u.entries ≡ []) s.views id w (λ none. absurd (omega (arith, none, live))) (λ j u other is. k.spent_is j u is);
  }
    where
      w : Sight
      w = record v { hand = hand }

  -- that is a step of the machine, of no party
  pub record IsDid (deed : Deed) (core-step : CoreStep) (made : List Change) (said : List Refusal) (words : List ℕ) : Type 0 where
    pub may : May groups k.core core-step
    pub is : after core-step k.core ≡ grow (event_of deed) k.core
    pub changes : (u : View) → (grow (event_of deed) u).changes ≡ u.changes ++ made
    pub refused : (u : View) → (grow (event_of deed) u).refused ≡ u.refused ++ said
    pub sessions : (u : View) → (grow (event_of deed) u).sessions ≡ u.sessions
    pub readings : (u : View) → (grow (event_of deed) u).readings ≡ u.readings
    pub quiet : IsQuiet groups (grow (event_of deed) k.core)
    pub was : (group word : ℕ) → WasWord groups group k.core word → WasWord groups group (grow (event_of deed) k.core) word
    pub holders : (w : Sight) → ((buf : ℕ) → (view_of w).held buf ≡ (grow (event_of deed) (view_of v)).held buf) → (buf : ℕ) → IsHeldByOne (λ u. (view_of u).held buf) ((grow (event_of deed) k.core).held buf) (set s.views id w)
    pub entered : (path : ℕ) → length ((grow (event_of deed) k.core).sessions path) + count_held (grow (event_of deed) k.core).held (length (all_sizes groups)) ≤ length (grow (event_of deed) k.core).changes
    pub shown : ShowCards groups words (grow (event_of deed) k.core)
    pub lengths : (o : Opening) → IsLength groups s.words o → IsLength groups words o
    pub wide : words_in (length groups) (all_sizes groups) ≤ length words
    pub pools : (group : ℕ) → group < length groups → pool_of (get_or words group 0) ≡ pool_after groups group (grow (event_of deed) k.core).changes
    pub few : length made ≤ 1

  pub did : (deed : Deed) (core-step : CoreStep) (made : List Change) (said : List Refusal) (words : List ℕ) → IsDid deed core-step made said words → 0 < v.takes → Kept groups (changed s words id (record (with_deed deed v) { takes = v.takes - 1 }))
  did deed core-step made said words so spare = record {
    core = next;
    steps = k.steps ++ core-step ∷ [];
    leads = subst (λ (u : View). Rattle.hub_core.specs.Core.Leads groups Rattle.hub_core.specs.View.empty_view (k.steps ++ core-step ∷ []) u) so.is (leads-more groups k.steps core-step Rattle.hub_core.specs.View.empty_view k.core k.leads so.may);
    quiet = so.quiet;
    wide = so.wide;
    pools = so.pools;
    changes = subst (λ (l : List Change). Rattle.hub_shared.specs.Counts.AreDealt (λ u. (view_of u).changes) l (set s.views id w)) (sym (so.changes k.core))
        (dealt-more (λ u. (view_of u).changes) k.core.changes made s.views id v w at (ap (λ (u : View). u.changes) view-is ∙ so.changes (view_of v)) k.changes);
    refused = subst (λ (l : List Refusal). Rattle.hub_shared.specs.Counts.AreDealt (λ u. (view_of u).refused) l (set s.views id w)) (sym (so.refused k.core))
        (dealt-more (λ u. (view_of u).refused) k.core.refused said s.views id v w at (ap (λ (u : View). u.refused) view-is ∙ so.refused (view_of v)) k.refused);
    writers = λ path. subst (λ l. Rattle.hub_shared.specs.Counts.IsOfOne (λ u. (state_of u.entries).part.writes path) (λ u. (view_of u).sessions path) l (set s.views id w)) (sym (ap (λ f. f path) (so.sessions k.core)))
        (of-one-same _ _ _ s.views (k.writers path) id v at w (ap (λ p. p.part.writes path) went.is) (ap (λ (u : View). u.sessions path) view-is ∙ ap (λ f. f path) (so.sessions (view_of v))));
    readers = λ path dest. subst (λ l. Rattle.hub_shared.specs.Counts.IsOfOne (λ u. (state_of u.entries).part.reads path dest) (λ u. (view_of u).readings path dest) l (set s.views id w)) (sym (ap (λ f. f path dest) (so.readings k.core)))
        (of-one-same _ _ _ s.views (k.readers path dest) id v at w (ap (λ p. p.part.reads path dest) went.is) (ap (λ (u : View). u.readings path dest) view-is ∙ ap (λ f. f path dest) (so.readings (view_of v))));
    holders = so.holders w (λ buf. ap (λ (u : View). u.held buf) view-is);
    entered = so.entered;
    shown = so.shown;
    takes = let t = total-set (λ u. u.takes) s.views id v w at in omega (arith, t, k.takes, spare, so.few, ap (λ (l : List Change). length l) (so.changes k.core), length-append k.core.changes made);
    parts = let t = total-set (λ u. u.parts) s.views id v w at in omega (arith, t, k.parts);
    each = each-set (λ j u. 0 < u.parts → Knows groups next words u) s.views id w (λ some-part. record { groups_are = more.groups_are; whole = went.whole; floors = more.floors; hand = tt })
        (λ j u other is some-part. knows-on groups k.core next s.words words rise so.was stay u (λ o held. so.lengths o) (k.each j u is some-part));
    spent_is = each-set (λ j u. u.parts ≡ 0 → u.entries ≡ []) s.views id w (λ none. absurd (omega (arith, none, live))) (λ j u other is. k.spent_is j u is);
  }
    where
      next : View
      next = grow (event_of deed) k.core

      w : Sight
      w = record (with_deed deed v) { takes = v.takes - 1 }

      went : Rattle.hub_shared.proofs.Histories.Goes (Did deed ∷ v.entries) (record { view = grow (event_of deed) (state_of v.entries).view; part = (state_of v.entries).part })
      went = goes-did deed v.entries known.whole

      view-is : view_of w ≡ grow (event_of deed) (view_of v)
      view-is = ap (λ p. p.view) went.is

      rise : Rise (floors_of groups k.core) (floors_of groups next)
      rise = rise-grow groups (event_of deed) k.core next (law groups s k).streams refl

      stay : SessionsStay k.core next
      stay = same-stay k.core next (so.sessions k.core)

      more : Knows groups next words v
      more = knows-on groups k.core next s.words words rise so.was stay v (λ o held. so.lengths o) known

-- a word that stays
pub same-word : (groups : List (List ℕ)) (s : HubState) (views : List Sight) (group : ℕ) → Kept groups (record { words = s.words; homes = s.homes; views = views }) → Kept groups (record { words = set s.words group (get_or s.words group 0); homes = s.homes; views = views })
same-word groups s views group kept = subst (λ (words : List ℕ). Kept groups (record { words = words; homes = s.homes; views = views })) (sym (set-get_or s.words group 0)) kept

-- what is known of a word that is seen now
seen-now : (groups : List (List ℕ)) (s : HubState) (k : Kept groups s) (id : ℕ) (m : SeatMe) (group : ℕ) → get_elem? s.views id ≡ some m.0 → 0 < m.0.parts → group < length groups → IsSeen group (get_or s.words group 0) m (with_look group (get_or s.words group 0) m.0, m.1)
seen-now groups s k id m group at live there = record {
  me = refl;
  floor = let rise = (k.each id m.0 at live).floors.changes group in omega (arith, rise, count-now groups s k group there);
  few = omega (arith, count-now groups s k group there, few-now groups s k group);
}

pub looks : (groups : List (List ℕ)) (slots id group : ℕ) (m : SeatMe) → 0 < m.0.parts → group < length groups → Allows (Kept groups) slots id m group (λ n. n) (looked (step slots group 0 0 none) m)
looks groups slots id group m live there s k long at low = (
  with_look group (get_or s.words group 0) m.0,
  keeps,
  tt,
  same-word groups s (set s.views id (with_look group (get_or s.words group 0) m.0)) group (stays groups s k id m.0 at live (Looked group (get_or s.words group 0)) (was-now groups s k group there)),
  seen-now groups s k id m group at live there,
)

-- what a step owes at a state
abbrev pub Goes : (groups : List (List ℕ)) → (s : HubState) → (id group : ℕ) → (m : SeatMe) → (ℕ → SeatMe → Type 0) → ℕ → ℕ → Type 0
Goes groups s id group m tale n z = (w : Sight) × (a : Act Note) × Valid s.homes m.1 a × Kept groups (stepped s group z id m.1 w a) × tale n (w, carried_after m.1 a)

-- an exchange that loses
pub loses : (groups : List (List ℕ)) (s : HubState) (k : Kept groups s) (id group old : ℕ) (m : SeatMe) (tale : ℕ → SeatMe → Type 0) → get_elem? s.views id ≡ some m.0 → 0 < m.0.parts → group < length groups → m.0.hand ≡ Looked group old → get_or s.words group 0 ≢ old →
    (Lost group old (get_or s.words group 0) m (with_look group (get_or s.words group 0) m.0, m.1) → tale (get_or s.words group 0) (with_look group (get_or s.words group 0) m.0, m.1)) → Goes groups s id group m tale (get_or s.words group 0) (get_or s.words group 0)
loses groups s k id group old m tale at live there hand other tells = (
  with_look group (get_or s.words group 0) m.0,
  keeps,
  tt,
  same-word groups s (set s.views id (with_look group (get_or s.words group 0) m.0)) group (stays groups s k id m.0 at live (Looked group (get_or s.words group 0)) (was-now groups s k group there)),
  tells (record {
    seen = seen-now groups s k id m group at live there;
    more = fewer-then groups s k group old there (subst (HandKnows groups k.core s.words (view_of m.0).held) hand (k.each id m.0 at live).hand) other;
  }),
)

-- a seat announces what it is to give, by an exchange of 0 for 0 that changes nothing
pub announces : (groups : List (List ℕ)) (slots id word : ℕ) (m : SeatMe) (named : HubPart) → 0 < m.0.parts → Allows (Kept groups) slots id m word (λ n. either (eqb n 0) 0 n) (announced (step slots word 0 0 (some (Parts named))) m)
announces groups slots id word m named live s k long at low =
    let n : ℕ = get_or s.words word 0 in
    let tale : ℕ → SeatMe → Type 0 = announced (step slots word 0 0 (some (Parts named))) m in
    let w : Sight = record m.0 { hand = Parting named } in
    let kept = same-word groups s (set s.views id w) word (stays groups s k id m.0 at live (Parting named) tt) in
    let tells : tale n (w, m.1) = (λ other said. (let same : Parts named ≡ Parts other = mathlib.Core.Option.some-injective _ _ said in told other same)) in
    exchanged n 0 0 (Goes groups s id word m tale n) (λ hit. (w, keeps, tt, subst (λ (z : ℕ). Kept groups (record { words = set s.words word z; homes = s.homes; views = set s.views id w })) hit kept, tells)) (λ other. (w, keeps, tt, kept, tells))
  where
    told : (other : HubPart) → Parts named ≡ Parts other → ◌≡◌ {A = SeatMe} (record m.0 { hand = Parting named }, m.1) (record m.0 { hand = Parting other }, m.1)
    told other same = let a : named ≡ other = cc in ap (λ (h : HubPart). let u : SeatMe = (record m.0 { hand = Parting h }, m.1) in u) a
