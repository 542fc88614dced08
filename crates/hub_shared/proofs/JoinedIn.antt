-- A destination looks at the length of a session that is there, and so joins it.
use Rattle.std.proofs.Common.{◌≡◌, ◌≢◌, ℕ, ◌+◌, ◌^◌, ◌<◌, ◌⊎◌, inl, inr, zero, suc, Bool, true, false, List, [], ◌∷◌, ◌++◌, length, set, get_or, Some, refl, ap, sym, ◌∙◌, subst, arith}
use Rattle.std.proofs.lemmas.Bool.Decides.{eqb_tells}
use Rattle.std.proofs.lemmas.Option.{slice_get_within}
use Rattle.std.specs.Prelude.{if◌then◌else◌}
use mathlib.Core.Option.{none, some}
use lib.ListN.{get_elem?}
use Rattle.atomic_table.specs.Table.{step, keeps, Allows}
use Rattle.hub_core.proofs.Fresh.{rise-grow, rise-twice}
use Rattle.hub_core.proofs.Growing.{at_one-other, at_one-same, at_two-same}
use Rattle.hub_core.proofs.Kept.{reading-pushed}
use Rattle.hub_core.proofs.Led.{leads-more}
use Rattle.hub_core.specs.Core.{Does, MayDo}
use Rattle.hub_core.specs.Floors.{Rise, floors_of, has_left}
use Rattle.hub_core.specs.Joint.{HasLeft, IsQuiet}
use Rattle.hub_core.specs.View.{View, Session, Reading, Joining, reading_new, reading_at, at_one, at_two, empty_view, grow}
use Rattle.hub_layout.specs.Places.{Length}
use Rattle.hub_shared.proofs.CardBits.{some-party}
use Rattle.hub_shared.proofs.Cores.{HubState, law}
use Rattle.hub_shared.proofs.Dealt.{each-set, total-set, dealt-same}
use Rattle.hub_shared.proofs.Histories.{Goes, goes-did}
use Rattle.hub_shared.proofs.Holding.{held-same}
use Rattle.hub_shared.proofs.Parties.{of-one-own, of-one-same}
use Rattle.hub_shared.proofs.Sighted.{stays-on, unread}
use Rattle.hub_shared.proofs.Steps.{knows-on, same-stay, same-word}
use Rattle.hub_shared.specs.Cards.{ShowCards, card_of, dests_of, parties_of, place_of_word}
use Rattle.hub_shared.specs.Counts.{IsOfOne, counts_one}
use Rattle.hub_shared.specs.History.{state_of}
use Rattle.hub_shared.specs.Plays.{SeatMe, IsJoined, join_of, joined, with_deed}
use Rattle.hub_shared.specs.Rule.{HandKnows, IsIn, Knows, Kept}
use Rattle.hub_shared.specs.Seeks.{IsLooking}
use Rattle.hub_shared.specs.Sights.{view_of, floors_at}
use Rattle.hub_shared.specs.declared.sight.Entry.TheVariants.{Did}
use Rattle.hub_shared.specs.declared.sight.Hand.TheVariants.{Seeking}
use Rattle.hub_shared.specs.declared.sight.Sight.{Sight}
use Rattle.hub_shared.specs.declared.sight.Sought.{Sought}

at_two-beside : {A : Type 0} (p d e : ℕ) (x : A) (f : ℕ → ℕ → A) → e ≢ d → at_two p d x f p e ≡ f p e
at_two-beside {A = A} p d e x f other = ap (λ (g : ℕ → A). g e) (at_one-same p (at_one d x (f p)) f) ∙ at_one-other d e x (f p) other

module _ (groups : List (List ℕ)) (id : ℕ) (m : SeatMe) (q : Sought) (b : ℕ) (look : IsLooking q m) (hand : m.0.hand ≡ Seeking q (Some b)) (s : HubState) (k : Kept groups s) (at : get_elem? s.views id ≡ some m.0) where
  known : Knows groups k.core s.words m.0
  known = k.each id m.0 at look.live

  is : IsIn groups k.core q b
  is = subst (HandKnows groups k.core s.words (view_of m.0).held) hand known.hand

  abbrev len : ℕ
  len = get_or s.words (place_of_word groups (Length b)) 0

  abbrev next : View
  next = grow (Joining q.path q.dest q.seq b len) k.core

  abbrev new : Reading
  new = reading_new b len

  abbrev w : Sight
  w = with_deed (join_of q b len) m.0

  len-is : len ≡ is.session.len
  len-is = ap (λ (x : ℕ). get_or s.words (place_of_word groups (Length x)) 0) (sym is.buf_is)
      ∙ k.shown.lengths q.path q.seq is.session is.known (some-party k.core q.path q.seq is.session q.dest is.for (stays-on groups id m q look s k at))

  own-list : (view_of m.0).readings q.path q.dest ≡ k.core.readings q.path q.dest
  own-list = (k.readers q.path q.dest).each id m.0 at ∙ ap (λ (y : Bool). if y then k.core.readings q.path q.dest else []) look.acts

  number : length (k.core.readings q.path q.dest) ≡ q.seq
  number = ap (λ (l : List Reading). length l) (sym own-list) ∙ look.number

  may : MayDo k.core (Joining q.path q.dest q.seq b len)
  may = record { session = is.session; next = sym number; known = is.known; for = is.for; buf_is = sym is.buf_is; len_is = len-is }

  went : Goes (Did (join_of q b len) ∷ m.0.entries) (record { view = grow (Joining q.path q.dest q.seq b len) (view_of m.0); part = (state_of m.0.entries).part })
  went = goes-did (join_of q b len) m.0.entries known.whole

  rise : Rise (floors_of groups k.core) (floors_of groups next)
  rise = rise-grow groups (Joining q.path q.dest q.seq b len) k.core next (law groups s k).streams refl

  -- each reading is the new one, or was there before
  either : (path dest seq : ℕ) → ((path ≡ q.path) × (dest ≡ q.dest) × (seq ≡ length (k.core.readings q.path q.dest)) × (reading_at next path dest seq ≡ Some new)) ⊎ (reading_at next path dest seq ≡ reading_at k.core path dest seq)
  unfolding grow
  either path dest seq = reading-pushed q.path q.dest new k.core next refl path dest seq

  left-same : (path dest seq : ℕ) → has_left (λ r. r.stands) (reading_at next path dest seq) ≡ has_left (λ r. r.stands) (reading_at k.core path dest seq)
  left-same path dest seq = elim (either path dest seq) [
    | inl here ↦ ap (has_left (λ r. r.stands)) here.3
        ∙ sym (ap (has_left (λ r. r.stands)) ((λ i. reading_at k.core (here.0 i) (here.1 i) ((here.2 ∙ number) i)) ∙ unread groups id m q look s k at))
    | inr same ↦ ap (has_left (λ r. r.stands)) same
  ]

  dests-same : (path seq n : ℕ) → dests_of next path seq n ≡ dests_of k.core path seq n
  dests-same path seq zero = refl
  dests-same path seq (suc n) =
      let bit : (let x : ℕ = (if has_left (λ r. r.stands) (reading_at next path n seq) then 0 else 2 ^ (n + 1)) in x) ≡ (if has_left (λ r. r.stands) (reading_at k.core path n seq) then 0 else 2 ^ (n + 1)) = ap (λ (y : Bool). let x : ℕ = (if y then 0 else 2 ^ (n + 1)) in x) (left-same path n seq) in
      let rest = dests-same path seq n in
      omega (arith, bit, rest)

  parties-same : (path seq : ℕ) (t : Session) → parties_of next path seq t ≡ parties_of k.core path seq t
  parties-same path seq t = ap (λ (n : ℕ). counts_one t.stands + n) (dests-same path seq t.dests)

  shown : ShowCards groups s.words next
  unfolding grow
  shown = record {
    cards = λ path seq t there on. k.shown.cards path seq t there (subst (λ (n : ℕ). 0 < n) (parties-same path seq t) on) ∙ ap (card_of path seq) (sym (parties-same path seq t));
    lengths = λ path seq t there on. k.shown.lengths path seq t there (subst (λ (n : ℕ). 0 < n) (parties-same path seq t) on);
    small = k.shown.small;
    empty = λ buf below nobody. k.shown.empty buf below (λ path seq t there its. sym (parties-same path seq t) ∙ nobody path seq t there its);
  }

  quiet : IsQuiet groups next
  unfolding grow
  quiet path seq t there over = k.quiet path seq t there (record { writer = over.writer; dests = λ dest below. before dest (over.dests dest below) })
    where
      before : (dest : ℕ) → HasLeft next path dest seq → HasLeft k.core path dest seq
      before dest gone = elim (either path dest seq) [
        | inl here ↦ absurd (let both : Some new ≡ Some gone.0 = sym here.3 ∙ gone.1 in let same : new ≡ gone.0 = cc in let no : true ≡ false = ap (λ (r : Reading). r.stands) same ∙ gone.2 in cc)
        | inr same ↦ (gone.0, sym same ∙ gone.1, gone.2)
      ]

  elsewhere : (v : View) (path dest : ℕ) → path ≢ q.path → at_two q.path q.dest (v.readings q.path q.dest ++ new ∷ []) v.readings path dest ≡ v.readings path dest
  elsewhere v path dest other = ap (λ (f : ℕ → List Reading). f dest) (at_one-other q.path path (at_one q.dest (v.readings q.path q.dest ++ new ∷ []) (v.readings q.path)) v.readings other)

  abbrev OfReader : ℕ → ℕ → List Reading → Type 0
  OfReader path dest l = IsOfOne (λ u. (state_of u.entries).part.reads path dest) (λ u. (view_of u).readings path dest) l (set s.views id w)

  readers : (path dest : ℕ) → OfReader path dest (next.readings path dest)
  unfolding grow
  readers path dest = elim (eqb_tells path q.path) [
    | inl same ↦ subst (λ (p : ℕ). OfReader p dest (next.readings p dest)) (sym same.1) (elim (eqb_tells dest q.dest) [
      | inl here ↦ subst (λ (d : ℕ). OfReader q.path d (next.readings q.path d)) (sym here.1)
          (subst (OfReader q.path q.dest) (sym (at_two-same q.path q.dest (k.core.readings q.path q.dest ++ new ∷ []) k.core.readings))
          (of-one-own _ _ _ s.views (k.readers q.path q.dest) id m.0 at w (k.core.readings q.path q.dest ++ new ∷ []) look.acts (ap (λ x. x.part.reads q.path q.dest) went.is ∙ look.acts)
          (ap (λ x. x.view.readings q.path q.dest) went.is ∙ at_two-same q.path q.dest ((view_of m.0).readings q.path q.dest ++ new ∷ []) (view_of m.0).readings ∙ ap (λ (l : List Reading). l ++ new ∷ []) own-list)))
      | inr beside ↦ subst (OfReader q.path dest) (sym (at_two-beside q.path q.dest dest (k.core.readings q.path q.dest ++ new ∷ []) k.core.readings beside.1))
          (of-one-same _ _ _ s.views (k.readers q.path dest) id m.0 at w (ap (λ x. x.part.reads q.path dest) went.is)
          (ap (λ x. x.view.readings q.path dest) went.is ∙ at_two-beside q.path q.dest dest ((view_of m.0).readings q.path q.dest ++ new ∷ []) (view_of m.0).readings beside.1))
    ])
    | inr other ↦ subst (OfReader path dest) (sym (elsewhere k.core path dest other.1))
        (of-one-same _ _ _ s.views (k.readers path dest) id m.0 at w (ap (λ x. x.part.reads path dest) went.is) (ap (λ x. x.view.readings path dest) went.is ∙ elsewhere (view_of m.0) path dest other.1))
  ]

  pub joined-now : Kept groups (record { words = s.words; homes = s.homes; views = set s.views id w })
  unfolding grow
  joined-now = record {
    core = next;
    steps = k.steps ++ Does (Joining q.path q.dest q.seq b len) ∷ [];
    leads = leads-more groups k.steps (Does (Joining q.path q.dest q.seq b len)) empty_view k.core k.leads may;
    quiet = quiet;
    wide = k.wide;
    pools = k.pools;
    changes = dealt-same (λ u. (view_of u).changes) k.core.changes s.views id m.0 w at (ap (λ x. x.view.changes) went.is) k.changes;
    refused = dealt-same (λ u. (view_of u).refused) k.core.refused s.views id m.0 w at (ap (λ x. x.view.refused) went.is) k.refused;
    writers = λ path. of-one-same _ _ _ s.views (k.writers path) id m.0 at w (ap (λ x. x.part.writes path) went.is) (ap (λ x. x.view.sessions path) went.is);
    readers = readers;
    holders = λ buf. held-same _ _ s.views (k.holders buf) id m.0 at w (ap (λ x. x.view.held buf) went.is);
    entered = k.entered;
    shown = shown;
    takes = let t = total-set (λ u. u.takes) s.views id m.0 w at in omega (arith, t, k.takes);
    parts = let t = total-set (λ u. u.parts) s.views id m.0 w at in omega (arith, t, k.parts);
    each = each-set (λ j u. 0 < u.parts → Knows groups next s.words u) s.views id w
        (λ some-part. record { groups_are = known.groups_are; whole = went.whole; floors = rise-twice (floors_at m.0) (floors_of groups k.core) (floors_of groups next) known.floors rise; hand = tt })
        (λ j u other there some-part. knows-on groups k.core next s.words s.words rise (λ g word so. so) (same-stay k.core next refl) u (λ o held so. so) (k.each j u there some-part));
    spent_is = each-set (λ j u. u.parts ≡ 0 → u.entries ≡ []) s.views id w (λ nothing. absurd (omega (arith, nothing, look.live))) (λ j u other there. k.spent_is j u there);
  }

  pub tells : IsJoined q b len m (w, m.1)
  tells = record {
    me = refl;
    some = omega (arith, len-is, ((law groups s k).streams.written q.path q.seq is.session is.known).some);
    small = omega (arith, len-is, (k.shown.small q.path q.seq is.session is.known).len_small);
    few = let low = slice_get_within (k.core.sessions q.path) q.seq is.session is.known in omega (arith, low, k.entered q.path, k.takes);
  }

-- the look at the length
pub joins : (groups : List (List ℕ)) (slots id : ℕ) (m : SeatMe) (q : Sought) (b : ℕ) → IsLooking q m → m.0.hand ≡ Seeking q (Some b) →
    Allows (Kept groups) slots id m (place_of_word groups (Length b)) (λ n. n) (joined (step slots (place_of_word groups (Length b)) 0 0 none) m)
joins groups slots id m q b look hand s k long at low = (
  with_deed (join_of q b len) m.0,
  keeps,
  tt,
  same-word groups s (set s.views id (with_deed (join_of q b len) m.0)) (place_of_word groups (Length b)) (joined-now groups id m q b look hand s k at),
  (λ q' b' hand'. let same : Seeking q (Some b) ≡ Seeking q' (Some b') = sym hand ∙ hand' in let a : q ≡ q' = cc in let c : b ≡ b' = cc in
      subst (λ (x : Sought × ℕ). IsJoined x.0 x.1 len m (with_deed (join_of q b len) m.0, m.1)) (λ i. (a i, c i)) (tells groups id m q b look hand s k at)),
)
  where
    len : ℕ
    len = get_or s.words (place_of_word groups (Length b)) 0
