-- What a plain hub knows of its state because steps that may happen led to it, and how it goes on.
use Rattle.std.proofs.Common.{◌≡◌, ℕ, ◌<◌, inl, inr, Bool, List, [], ◌∷◌, ◌++◌, length, Some, refl, sym, ◌∙◌, subst, arith}
use Rattle.std.specs.Prelude.{slice_get, IsBitSet}
use Rattle.hub_core.proofs.EveryStep.{Lawful, lawful-of}
use Rattle.hub_core.proofs.Cut.{size-in}
use Rattle.hub_core.proofs.Led.{leads-more, led-by}
use Rattle.hub_core.proofs.Numbered.{taken-clear, within}
use Rattle.hub_core.proofs.Owning.{session-taken, session-turn}
use Rattle.hub_core.proofs.Streamed.{streams as streams-of, own, roomy as room-of}
use Rattle.hub_core.proofs.Sure.{NotNot, from, sure-le, sure-lt, sure-some, sure-order, sure-streams, search-free}
use Rattle.hub_core.specs.Core.{Step, Takes as TakesStep, Refuses, Does, after, May, MayDo, MayTake, MayRefuse, Leads, IsLed}
use Rattle.hub_core.specs.Joint.{IsFreed}
use Rattle.hub_core.specs.Groups.{group_of, place_of, sizes_of, all_sizes, changes_in, free_in}
use Rattle.hub_core.specs.Journal.{AreInOrder}
use Rattle.hub_core.specs.Joint.{AreStreams, HasRoom, IsOver}
use Rattle.hub_core.specs.View.{View, Change, Freed, Session, Reading, session_at, reading_at, grow, empty_view}
use Rattle.hub_core.specs.View.{Took, Refused, Entered, Asked, Put, Published, Joining, Saw, Read, Closed, Parted}

-- two steps
pub led-twice : (groups : List (List ℕ)) (one two : Step) (v next : View) → next ≡ after two (after one v) → (Lawful groups v → May groups v one) → (Lawful groups v → Lawful groups (after one v) → May groups (after one v) two) → IsLed groups v → IsLed groups next
led-twice groups one two v next is may-one may-two led not = led (λ steps leads.
    let before = lawful-of groups steps v leads in
    let once = leads-more groups steps one empty_view v leads (may-one before) in
    let more = may-two before (lawful-of groups (steps ++ one ∷ []) (after one v) once) in
    not ((steps ++ one ∷ []) ++ two ∷ []) (subst (Leads groups empty_view ((steps ++ one ∷ []) ++ two ∷ [])) (sym is) (leads-more groups (steps ++ one ∷ []) two empty_view (after one v) once more)))

module _ (groups : List (List ℕ)) (v : View) (led : IsLed groups v) where
  pub lawful : NotNot (Lawful groups v)
  lawful not = led (λ steps leads. not (lawful-of groups steps v leads))

  pub streams : AreStreams v
  streams = sure-streams v (from (λ (l : Lawful groups v). streams-of v l.streamed) lawful)

  pub order : (group : ℕ) → AreInOrder (changes_in groups group v)
  order group = sure-order 1 (changes_in groups group v) (from (λ (l : Lawful groups v). (l.journals group).order) lawful)

  -- a session's buffer has its cells
  pub session-size : (path seq : ℕ) (s : Session) → session_at v path seq ≡ Some s → slice_get (all_sizes groups) s.buf ≡ Some s.size
  session-size path seq s at = sym (size-in groups s.buf) ∙ sure-some _ s.size (from (λ (l : Lawful groups v). (session-taken groups v l.owned path seq s at).size) lawful)

  -- the room that a writer knows is there
  pub roomy : (path seq : ℕ) (s : Session) → session_at v path seq ≡ Some s → HasRoom v path seq s s.room
  roomy path seq s at dest below stays = sure-le _ _ (from (λ (l : Lawful groups v). room-of v l.streamed path seq s at dest below stays) lawful)

  -- who joined a session is one of its destinations
  pub joined-below : (path dest seq : ℕ) (s : Session) (r : Reading) → session_at v path seq ≡ Some s → reading_at v path dest seq ≡ Some r → dest < s.dests
  joined-below path dest seq s r at there = sure-lt _ _ (from (λ (l : Lawful groups v). own v l.streamed path dest seq s r at there) lawful)

  -- a session that a party stands in isn't freed
  pub unfreed : (path seq : ℕ) (s : Session) → session_at v path seq ≡ Some s → (IsOver v path seq s → ⊥) → IsFreed groups v s → ⊥
  unfreed path seq s at stays freed = lawful (λ l. elim (session-turn groups v l.owned path seq s at) [
    | inl last ↦ absurd (let most = last freed.0 (Freed freed.0 (place_of groups s.buf), freed.2, refl) in omega (arith, freed.1, most))
    | inr over ↦ stays over.0
  ])

  -- a buffer that isn't freed after a session's take isn't free
  pub session-clear : (path seq : ℕ) (s : Session) → session_at v path seq ≡ Some s → (IsFreed groups v s → ⊥) → IsBitSet (free_in groups (group_of groups s.buf) v) (place_of groups s.buf) → ⊥
  session-clear path seq s at kept set = lawful (λ l. elim (session-turn groups v l.owned path seq s at) [
    | inl last ↦
        let takes = session-taken groups v l.owned path seq s at in
        let group = group_of groups s.buf in
        taken-clear (sizes_of groups group) (changes_in groups group v) s.number (place_of groups s.buf) takes.need (l.journals group) takes.take last set
    | inr over ↦ kept over.1
  ])

  -- a session is freed or not
  pub freed-or : (path seq : ℕ) (s : Session) → session_at v path seq ≡ Some s → ((IsFreed groups v s → ⊥) → ⊥) → IsFreed groups v s
  freed-or path seq s at nn =
      let mine : List Change = changes_in groups (group_of groups s.buf) v in
      elim (search-free mine (place_of groups s.buf) s.number (length mine)) [
        | inl found ↦ found
        | inr none ↦ absurd (nn (λ freed.
            let low = (within mine freed.0 (Freed freed.0 (place_of groups s.buf)) (order (group_of groups s.buf)) freed.2).1 in
            none freed.0 low freed.1 freed.2))
      ]

  -- a group's smallest free buffer that fits is taken, or none of it fits
  pub led-took : (group number buf size need : ℕ) → MayTake groups v group number buf size need → IsLed groups (grow (Took group number buf size need) v)
  unfolding grow
  led-took group number buf size need may = led-by groups (TakesStep group number buf size need) v (grow (Took group number buf size need) v) refl (λ l. may) led

  pub led-refused : (group number free need : ℕ) → MayRefuse groups v group number free need → IsLed groups (grow (Refused group number free need) v)
  unfolding grow
  led-refused group number free need may = led-by groups (Refuses group number free need) v (grow (Refused group number free need) v) refl (λ l. may) led

  -- a party's call that leaves no buffer
  pub led-entered : (path seq buf number size len readers : ℕ) → MayDo v (Entered path seq buf number size len readers) → IsLed groups (grow (Entered path seq buf number size len readers) v)
  unfolding grow
  led-entered path seq buf number size len readers may = led-by groups (Does (Entered path seq buf number size len readers)) v _ refl (λ l. may) led

  pub led-asked : (path seq cells readers : ℕ) → MayDo v (Asked path seq cells readers) → IsLed groups (grow (Asked path seq cells readers) v)
  unfolding grow
  led-asked path seq cells readers may = led-by groups (Does (Asked path seq cells readers)) v _ refl (λ l. may) led

  pub led-put : (path seq cell : ℕ) → MayDo v (Put path seq cell) → IsLed groups (grow (Put path seq cell) v)
  unfolding grow
  led-put path seq cell may = led-by groups (Does (Put path seq cell)) v _ refl (λ l. may) led

  pub led-published : (path seq bytes : ℕ) → MayDo v (Published path seq bytes) → IsLed groups (grow (Published path seq bytes) v)
  unfolding grow
  led-published path seq bytes may = led-by groups (Does (Published path seq bytes)) v _ refl (λ l. may) led

  pub led-joining : (path dest seq buf len : ℕ) → MayDo v (Joining path dest seq buf len) → IsLed groups (grow (Joining path dest seq buf len) v)
  unfolding grow
  led-joining path dest seq buf len may = led-by groups (Does (Joining path dest seq buf len)) v _ refl (λ l. may) led

  pub led-saw : (path dest seq cells bytes : ℕ) (writer : Bool) → MayDo v (Saw path dest seq cells bytes writer) → IsLed groups (grow (Saw path dest seq cells bytes writer) v)
  unfolding grow
  led-saw path dest seq cells bytes writer may = led-by groups (Does (Saw path dest seq cells bytes writer)) v _ refl (λ l. may) led

  pub led-read : (path dest seq cell : ℕ) → MayDo v (Read path dest seq cell) → IsLed groups (grow (Read path dest seq cell) v)
  unfolding grow
  led-read path dest seq cell may = led-by groups (Does (Read path dest seq cell)) v _ refl (λ l. may) led

  pub led-closed : (path seq : ℕ) → MayDo v (Closed path seq []) → IsLed groups (grow (Closed path seq []) v)
  unfolding grow
  led-closed path seq may = led-by groups (Does (Closed path seq [])) v _ refl (λ l. may) led

  pub led-parted : (path dest seq : ℕ) → MayDo v (Parted path dest seq []) → IsLed groups (grow (Parted path dest seq []) v)
  unfolding grow
  led-parted path dest seq may = led-by groups (Does (Parted path dest seq [])) v _ refl (λ l. may) led
