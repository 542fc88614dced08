-- What one more entry makes of a whole history, and two histories that are joined.
use Rattle.std.proofs.Common.{◌≡◌, List, [], ◌∷◌, ◌++◌, refl, ap, sym, ◌∙◌}
use Rattle.hub_core.specs.Parts.{both, given, kept}
use Rattle.hub_core.specs.Past.{event_of}
use Rattle.hub_core.specs.View.{grow}
use Rattle.hub_core.specs.declared.history.Deed.{Deed}
use Rattle.hub_shared.specs.History.{SeatState, states_after, states_of, last_of, state_of, IsWhole, part_of, without, within, united}
use Rattle.hub_shared.specs.declared.part.HubPart.{HubPart}
use Rattle.hub_shared.specs.declared.sight.Entry.{Entry}
use Rattle.hub_shared.specs.declared.sight.Entry.TheVariants.{Begun, Did, Kept, Given, Joined}

-- a history that is another one with one entry more
pub record Goes (entries : List Entry) (state : SeatState) : Type 0 where
  pub is : state_of entries ≡ state
  pub whole : IsWhole entries

goes : (entry : Entry) (f : SeatState → SeatState) → ((s : SeatState) (before : List SeatState) → states_after entry (s ∷ before) ≡ f s ∷ before) → (entries : List Entry) → IsWhole entries → Goes (entry ∷ entries) (f (state_of entries))
goes entry f makes entries whole =
    let is : state_of (entry ∷ entries) ≡ f (state_of entries) = ap last_of (ap (states_after entry) (whole []) ∙ makes (state_of entries) []) in
    record { is = is; whole = λ before. ap (states_after entry) (whole before) ∙ makes (state_of entries) before ∙ ap (λ s. s ∷ before) (sym is) }

pub begins : IsWhole (Begun ∷ [])
begins before = refl

pub goes-did : (deed : Deed) (entries : List Entry) → IsWhole entries → Goes (Did deed ∷ entries) (record { view = grow (event_of deed) (state_of entries).view; part = (state_of entries).part })
goes-did deed = goes (Did deed) (λ s. record { view = grow (event_of deed) s.view; part = s.part }) (λ s before. refl)

pub goes-kept : (named : HubPart) (entries : List Entry) → IsWhole entries → Goes (Kept named ∷ entries) (record { view = kept (part_of named) (state_of entries).view; part = without (part_of named) (state_of entries).part })
goes-kept named = goes (Kept named) (λ s. record { view = kept (part_of named) s.view; part = without (part_of named) s.part }) (λ s before. refl)

pub goes-given : (named : HubPart) (entries : List Entry) → IsWhole entries → Goes (Given named ∷ entries) (record { view = given (part_of named) (state_of entries).view; part = within (part_of named) (state_of entries).part })
goes-given named = goes (Given named) (λ s. record { view = given (part_of named) s.view; part = within (part_of named) s.part }) (λ s before. refl)

states-append : (xs ys : List Entry) (before : List SeatState) → states_of (xs ++ ys) before ≡ states_of xs (states_of ys before)
states-append [] ys before = refl
states-append (x ∷ xs) ys before = ap (states_after x) (states-append xs ys before)

pub goes-joined : (mine theirs : List Entry) → IsWhole mine → IsWhole theirs → Goes (Joined ∷ (theirs ++ mine)) (record { view = both (state_of mine).view (state_of theirs).view; part = united (state_of mine).part (state_of theirs).part })
goes-joined mine theirs whole others = record { is = ap last_of (makes []); whole = λ before. makes before ∙ ap (λ s. s ∷ before) (sym (ap last_of (makes []))) }
  where
    joined : SeatState
    joined = record { view = both (state_of mine).view (state_of theirs).view; part = united (state_of mine).part (state_of theirs).part }

    makes : (before : List SeatState) → states_of (Joined ∷ (theirs ++ mine)) before ≡ joined ∷ before
    makes before = ap (states_after Joined) (states-append theirs mine before ∙ ap (states_of theirs) (whole before) ∙ others (state_of mine ∷ before))
