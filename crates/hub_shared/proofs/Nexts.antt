-- A look for a session, named by the hub, and what it leaves of the seat.
use Rattle.std.proofs.Common.{◌≡◌, ℕ, ◌^◌, ◌<◌, true, List, length, Option, Some, None, refl, ap, sym, ◌∙◌, subst}
use mathlib.Core.Option.{none}
use Rattle.atomic_table.specs.Table.{step, Allows}
use Rattle.hub_core.specs.Groups.{all_sizes, group_of}
use Rattle.hub_layout.specs.Places.{Card, Length, place_at}
use Rattle.hub_shared.proofs.Hubs.{of_rule, place-is, rule-groups}
use Rattle.hub_shared.proofs.JoinedIn.{joins}
use Rattle.hub_shared.proofs.Sighted.{sights}
use Rattle.hub_shared.specs.Cards.{place_of_word}
use Rattle.hub_shared.specs.History.{state_of}
use Rattle.hub_shared.specs.Plays.{SeatMe, IsJoined, IsPlaceFor, IsSeeking, join_of, joined, sighted, with_deed}
use Rattle.hub_shared.specs.Rule.{Kept}
use Rattle.hub_shared.specs.Seats.{groups_of}
use Rattle.hub_shared.specs.Seeks.{IsLooking}
use Rattle.hub_shared.specs.Sights.{view_of}
use Rattle.hub_shared.specs.declared.hub.SharedHub.{SharedHub}
use Rattle.hub_shared.specs.declared.sight.Hand.TheVariants.{Idle, Seeking}
use Rattle.hub_shared.specs.declared.sight.Sought.{Sought}

module _ (hub : SharedHub) (slots id at : ℕ) (m : SeatMe) (sought : Sought) (buf : ℕ) where
  -- a look at the card may be made
  pub may-sight : at ≡ place_at hub.layout.groups hub.layout.cells (Card buf) → IsLooking sought m → buf < length (all_sizes (groups_of hub)) → group_of (groups_of hub) buf ≡ sought.group → sought.path < 2 ^ 8 → sought.dest < 8 →
      Allows (Kept (of_rule hub)) slots id m at (λ n. n) (sighted (step slots at 0 0 none) m)
  may-sight is look below its path-small dest-small = subst (λ (x : ℕ). Allows (Kept (of_rule hub)) slots id m x (λ n. n) (sighted (step slots x 0 0 none) m)) (sym (is ∙ place-is hub (Card buf)))
      (sights (of_rule hub) slots id m sought buf look (subst (λ (g : List (List ℕ)). buf < length (all_sizes g)) (sym (rule-groups hub)) below) (ap (λ (g : List (List ℕ)). group_of g buf) (rule-groups hub) ∙ its) path-small dest-small)

  -- the place of a card, by the seat's groups
  pub card-place : m.0.groups ≡ groups_of hub → at ≡ place_at hub.layout.groups hub.layout.cells (Card buf) → at ≡ place_of_word m.0.groups (Card buf)
  card-place groups is = is ∙ place-is hub (Card buf) ∙ ap (λ (g : List (List ℕ)). place_of_word g (Card buf)) (rule-groups hub ∙ sym groups)

  -- and one at the length of a session that is there
  pub may-join : at ≡ place_at hub.layout.groups hub.layout.cells (Length buf) → IsLooking sought m → m.0.hand ≡ Seeking sought (Some buf) → Allows (Kept (of_rule hub)) slots id m at (λ n. n) (joined (step slots at 0 0 none) m)
  may-join is look hand = subst (λ (x : ℕ). Allows (Kept (of_rule hub)) slots id m x (λ n. n) (joined (step slots x 0 0 none) m)) (sym (is ∙ place-is hub (Length buf))) (joins (of_rule hub) slots id m sought buf look hand)

-- a seat begins to look
pub begins-looking : (sought : Sought) (m after : SeatMe) → 0 < m.0.parts → (state_of m.0.entries).part.reads sought.path sought.dest ≡ true → length ((view_of m.0).readings sought.path sought.dest) ≡ sought.seq → IsSeeking sought m after → IsLooking sought after
begins-looking sought m after live acts number told = subst (IsLooking sought) (sym told.me) (record { live = live; acts = acts; number = number; buf = told.buf; hand = refl; there = told.there })

-- it found that the session is in a buffer
pub looks-there : (sought : Sought) (old new : SeatMe) (buf : ℕ) → IsPlaceFor old.0.groups sought buf → IsLooking sought old → new ≡ (record old.0 { hand = Seeking sought (Some buf) }, old.1) → IsLooking sought new
looks-there sought old new buf place look is =
    subst (IsLooking sought) (sym is) (record { live = look.live; acts = look.acts; number = look.number; buf = Some buf; hand = refl; there = λ at e. let here : buf ≡ at = cc in subst (IsPlaceFor old.0.groups sought) here place })

-- it found nothing
pub none-left : (sought : Sought) (m : SeatMe) (look : IsLooking sought m) → ((at : ℕ) → look.buf ≡ Some at → ⊥) → m.0.hand ≡ Seeking sought None
none-left sought m look nothing = go look.buf refl
  where
    go : (buf : Option ℕ) → look.buf ≡ buf → m.0.hand ≡ Seeking sought None
    go None is = look.hand ∙ ap (Seeking sought) is
    go (Some at) is = absurd (nothing at is)

-- the seat after a look that found nothing, and after one that joined
pub missed-is : (sought : Sought) (m a b d : SeatMe) (told : IsSeeking sought m a) → b ≡ a → d ≡ (record b.0 { hand = Idle }, b.1) → d ≡ (record m.0 { hand = Idle }, m.1)
missed-is sought m a b d told same is = is ∙ ap (λ (x : SeatMe). let y : SeatMe = (record x.0 { hand = Idle }, x.1) in y) (same ∙ told.me)

pub missed-then : (sought : Sought) (m a : SeatMe) (told : IsSeeking sought m a) → a.0.hand ≡ Seeking sought None → told.buf ≡ None
missed-then sought m a told is = let same : Seeking sought told.buf ≡ Seeking sought None = sym (ap (λ (x : SeatMe). x.0.hand) told.me) ∙ is in cc

pub joined-is : (sought : Sought) (m a b d : SeatMe) (buf len : ℕ) (told : IsSeeking sought m a) → b ≡ (record a.0 { hand = Seeking sought (Some buf) }, a.1) → IsJoined sought buf len b d → d ≡ (with_deed (join_of sought buf len) m.0, m.1)
joined-is sought m a b d buf len told there is = is.me ∙ ap (λ (x : SeatMe). let y : SeatMe = (with_deed (join_of sought buf len) x.0, x.1) in y) (there ∙ ap (λ (x : SeatMe). let y : SeatMe = (record x.0 { hand = Seeking sought (Some buf) }, x.1) in y) told.me)
