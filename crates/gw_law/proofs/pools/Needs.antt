-- What each start needs of the pool, and what it was answered.
use Rattle.std.proofs.Common.{◌≡◌, ◌==◌, eq-eqb, cond, zero, suc, ℕ, ◌+◌, Bool, true, false, Option, Some, None, option_map, is_some, not, List, [], ◌∷◌, ◌++◌, map, refl, ap, sym, ◌∙◌, subst, arith, append-nil}
use Rattle.tp_receiver.specs.State.{Came, Timer, FcLeft, RunEnd, RxEvent, RxTurn}
use Rattle.hub_core.specs.Moves.{move_of}
use Rattle.hub_core.specs.Turns.{came_by}
use Rattle.tp_receiver.specs.Runs.{frames_in}
use Rattle.tp_receiver.specs.declared.set.RxSet.{RxSet}
use Rattle.std.specs.Prelude.{slice_get}
use Rattle.std.specs.List.{AllByRecursion, AllZip, flat_map}
use Rattle.std.proofs.lemmas.List.{length-map, map-append}
use Rattle.std.proofs.lemmas.List.Elements.{All-get_or}
use Rattle.std.proofs.lemmas.Option.{get_or_from_slice_get, slice_get_within}
use Rattle.gw_base.specs.Fit.{NoneFits}
use Rattle.hub_core.specs.Groups.{changes_in, group_of, in_group, journal_of, place_of, sizes_of}
use Rattle.hub_core.specs.Joint.{IsOverflowIn, Joint}
use Rattle.hub_core.specs.Journal.{AreInOrder, IsLawful, changed_buf, replay}
use Rattle.tp_receiver.specs.Effects.{OfWriter}
use Rattle.hub_core.specs.View.{View, Change, Taken, Event, Refusal}
use Rattle.hub_core.specs.View.{Took, Refused, Entered, Asked, Put, Published, Joining, Missed, Saw, Read, Closed, Parted}
use Rattle.hub_core.specs.declared.record.OpenedAt.{OpenedAt}
use Rattle.hub_core.specs.declared.record.SessionRecord.{SessionRecord}
use Rattle.hub_core.specs.declared.record.SessionResult.{SessionResult}
use Rattle.hub_core.specs.declared.record.SessionResult.TheVariants.{Overflow}
use Rattle.tp_attempts.specs.Attempts.{attempts_in}
use Rattle.tp_attempts.specs.Cuts.{Cut}
use Rattle.tp_attempts.specs.Seen.{Seen, is_start}
use Rattle.tp_attempts.proofs.Cuts.{cuts-begin, cuts-grow, grow, grow_after}
use Rattle.gw_law.specs.Pool.{Asks, IsIn, IsRefused, IsServed, start_need}
use Rattle.receiver_law.specs.Source.{Tells, is_overflow}
use Rattle.receiver_law.proofs.sessions.Entries.{Denied, Granted, Outcome, need_by, need_in, needs_by, outcome_by, outcome_of, outcome_told}
use Rattle.gw_law.proofs.pools.Changes.{free-is, number-at, numbered-at, numbered-map}

-- the needs of the starts are those of the attempts
module _ (set : RxSet) where
  need-grow_after : (frame : Seen) (cut : Cut Seen) (later : List (Cut Seen)) → map (start_need set) (grow_after frame cut later) ≡ map (start_need set) (cut ∷ later)
  need-grow_after frame cut [] = refl
  need-grow_after frame cut (next ∷ later) = ap (λ l. start_need set cut ∷ l) (need-grow_after frame next later)

  need-grow : (frame : Seen) (cuts : List (Cut Seen)) → map (start_need set) (grow frame cuts) ≡ map (start_need set) cuts
  need-grow frame [] = refl
  need-grow frame (cut ∷ later) = need-grow_after frame cut later

  -- what the starts among some frames need
  abbrev needs_in : List Seen → List ℕ
  needs_in seen = map (start_need set) (attempts_in set.functional seen)

  need-more : (seen : List Seen) (frame : Seen) (starts : Bool) → is_start set.functional frame.meaning ≡ starts → needs_in (seen ++ frame ∷ []) ≡ needs_in seen ++ need_in set (Came frame.size frame.meaning)
  need-more seen frame true is =
      rw (cuts-begin (λ (s : Seen). is_start set.functional s.meaning) seen frame is, is) (map-append (start_need set) (attempts_in set.functional seen) (record { start = frame; after = [] } ∷ []))
  need-more seen frame false is =
      rw (cuts-grow (λ (s : Seen). is_start set.functional s.meaning) seen frame is, is) (need-grow frame (attempts_in set.functional seen) ∙ sym (append-nil (needs_in seen)))

  need-by : (seen : List Seen) (tick : ℕ) (event : RxEvent) → needs_in (seen ++ frames_in tick event) ≡ needs_in seen ++ need_in set event
  need-by seen tick (Came size meaning) = need-more seen (record { at = tick; size = size; meaning = meaning }) (is_start set.functional meaning) refl
  need-by seen tick Timer = rw (append-nil seen) (sym (append-nil (needs_in seen)))
  need-by seen tick FcLeft = rw (append-nil seen) (sym (append-nil (needs_in seen)))
  need-by seen tick RunEnd = rw (append-nil seen) (sym (append-nil (needs_in seen)))

  pub needs-are : (turns : List RxTurn) → needs_by set turns ≡ map (start_need set) (attempts_in set.functional (came_by frames_in turns))
  needs-are [] = refl
  needs-are (turn ∷ earlier) = ap (λ l. l ++ need_in set turn.event) (needs-are earlier) ∙ sym (need-by (came_by frames_in earlier) turn.did.tick turn.event)

-- a change of the group's buffers stands in its journal
pub grouped-at : (groups : List (List ℕ)) (group : ℕ) (changes : List Change) (place : ℕ) (x : Change) → group_of groups (changed_buf x) ≡ group → slice_get changes place ≡ Some x → (k : ℕ) × (slice_get (journal_of groups group changes) k ≡ Some (in_group groups x))
grouped-at groups group [] place x its there = absurd cc
grouped-at groups group (first ∷ changes) zero x its there =
    let same : first ≡ x = cc in
    let mine : (group_of groups (changed_buf first) == group) ≡ true = eq-eqb (group_of groups (changed_buf first)) group (ap (λ c. group_of groups (changed_buf c)) same ∙ its) in
    (zero, ap (λ b. slice_get (cond b (in_group groups first ∷ journal_of groups group changes) (journal_of groups group changes)) zero) mine ∙ ap (λ c. Some (in_group groups c)) same)
grouped-at groups group (first ∷ changes) (suc place) x its there = later (group_of groups (changed_buf first) == group) (grouped-at groups group changes place x its there)
  where
    later : (b : Bool) → (k : ℕ) × (slice_get (journal_of groups group changes) k ≡ Some (in_group groups x)) → (k : ℕ) × (slice_get (cond b (in_group groups first ∷ journal_of groups group changes) (journal_of groups group changes)) k ≡ Some (in_group groups x))
    later true so = (suc so.0, so.1)
    later false so = so

-- what a start asked for, and what became of it, stand in the view: in its group's journal, or in an overflow of the group
abbrev AskedFor : List (List ℕ) → ℕ → View → ℕ → Outcome → Type 0
AskedFor groups group v need (Granted change buf) = group_of groups buf ≡ group → (place : ℕ) × (slice_get (changes_in groups group v) place ≡ Some (Taken change (place_of groups buf) need))
AskedFor groups group v need (Denied change free asked) = (asked ≡ need) × (place : ℕ) × (slice_get v.refused place ≡ Some (record { group = group; number = change; free = free; need = asked }))

abbrev pub Answered : List (List ℕ) → ℕ → View → RxSet → Cut Seen → SessionRecord → Type 0
Answered groups group v set attempt told = AskedFor groups group v (start_need set attempt) (outcome_of told)

-- lists that begin with the same item
heads : {A : Type 0} (x y : A) (xs ys : List A) → x ∷ xs ≡ y ∷ ys → (x ≡ y) × (xs ≡ ys)
heads x y xs ys is = (cc, cc)

module _ (groups : List (List ℕ)) (group : ℕ) (v : View) where
  answered-more : (set : RxSet) (outcome : Outcome) (need : ℕ) (outcomes : List Outcome) (needs : List ℕ) (attempts : List (Cut Seen)) (records : List SessionRecord) → outcome ∷ outcomes ≡ map outcome_of records → need ∷ needs ≡ map (start_need set) attempts → AskedFor groups group v need outcome →
      ((attempts : List (Cut Seen)) (records : List SessionRecord) → outcomes ≡ map outcome_of records → needs ≡ map (start_need set) attempts → AllZip (Answered groups group v set) attempts records) → AllZip (Answered groups group v set) attempts records
  answered-more set outcome need outcomes needs [] records outs are asked later = absurd cc
  answered-more set outcome need outcomes needs (attempt ∷ attempts) [] outs are asked later = absurd cc
  answered-more set outcome need outcomes needs (attempt ∷ attempts) (told ∷ records) outs are asked later =
      let one = heads outcome (outcome_of told) outcomes (map outcome_of records) outs in
      let two = heads need (start_need set attempt) needs (map (start_need set) attempts) are in
      let P : Outcome → Type 0 = λ o. AskedFor groups group v (start_need set attempt) o in
      let Q : ℕ → Type 0 = λ n. AskedFor groups group v n outcome in
      (subst P one.0 (subst Q two.0 asked), later attempts records one.1 two.1)

  denied-here : (its number free need : ℕ) → its ≡ group → IsIn v (Refused its number free need) → AskedFor groups group v need (Denied number free need)
  denied-here its number free need same is = let P : ℕ → Type 0 = λ g. slice_get v.refused is.0 ≡ Some (record { group = g; number = number; free = free; need = need }) in (refl, is.0, subst P same is.1)

  pub answered : (set : RxSet) (calls : List Event) (attempts : List (Cut Seen)) (records : List SessionRecord) → flat_map outcome_by calls ≡ map outcome_of records → flat_map need_by calls ≡ map (start_need set) attempts → AllByRecursion (OfWriter set.path.0 group) calls → AllByRecursion (IsIn v) calls → AllZip (Answered groups group v set) attempts records
  answered set [] [] [] outs are own calls = tt
  answered set [] [] (told ∷ records) outs are own calls = absurd cc
  answered set [] (attempt ∷ attempts) records outs are own calls = absurd cc
  answered set (Took its number buf size need ∷ calls) attempts records outs are own all =
      answered-more set (Granted number buf) need (flat_map outcome_by calls) (flat_map need_by calls) attempts records outs are (λ mine. grouped-at groups group v.changes all.0.0 (Taken number buf need) mine all.0.1) (λ cuts told o n. answered set calls cuts told o n own.1 all.1)
  answered set (Refused its number free need ∷ calls) attempts records outs are own all =
      answered-more set (Denied number free need) need (flat_map outcome_by calls) (flat_map need_by calls) attempts records outs are (denied-here its number free need own.0 all.0) (λ cuts told o n. answered set calls cuts told o n own.1 all.1)
  answered set (Entered p seq buf number size len readers ∷ calls) attempts records outs are own all = answered set calls attempts records outs are own.1 all.1
  answered set (Asked p seq cells readers ∷ calls) attempts records outs are own all = answered set calls attempts records outs are own.1 all.1
  answered set (Put p seq cell ∷ calls) attempts records outs are own all = answered set calls attempts records outs are own.1 all.1
  answered set (Published p seq bytes ∷ calls) attempts records outs are own all = answered set calls attempts records outs are own.1 all.1
  answered set (Joining p dest seq buf len ∷ calls) attempts records outs are own all = answered set calls attempts records outs are own.1 all.1
  answered set (Missed its p dest seq ∷ calls) attempts records outs are own all = answered set calls attempts records outs are own.1 all.1
  answered set (Saw p dest seq cells bytes writer ∷ calls) attempts records outs are own all = answered set calls attempts records outs are own.1 all.1
  answered set (Read p dest seq cell ∷ calls) attempts records outs are own all = answered set calls attempts records outs are own.1 all.1
  answered set (Closed p seq freed ∷ calls) attempts records outs are own all = answered set calls attempts records outs are own.1 all.1
  answered set (Parted p dest seq freed ∷ calls) attempts records outs are own all = answered set calls attempts records outs are own.1 all.1

  module _ (joint : Joint groups v) (counts : AreInOrder (changes_in groups group v)) where
    -- what a record tells of its session's buffer, and of its overflow
    found-change : (place : ℕ) (change : Change) → slice_get (changes_in groups group v) place ≡ Some change → IsLawful (sizes_of groups group) (replay (sizes_of groups group) (changes_in groups group v) place) change
    found-change place change there =
        let journal = joint.journal group in
        let one = journal.each place (slice_get_within (changes_in groups group v) place change there) in
        let same : Some one.0 ≡ Some change = sym one.1 ∙ numbered-at 1 (changes_in groups group v) place (place + 1) change counts (omega arith) there in
        let equal : one.0 ≡ change = cc in
        let P : Change → Type 0 = λ c. IsLawful (sizes_of groups group) (replay (sizes_of groups group) (changes_in groups group v) place) c in
        subst P equal one.2

    served : (need : ℕ) (opened : OpenedAt) → group_of groups opened.buf.0 ≡ group → AskedFor groups group v need (Granted opened.change opened.buf.0) → IsServed groups group (map move_of (changes_in groups group v)) need opened
    served need opened its asked =
        let at = asked its in
        let change : Change = Taken opened.change (place_of groups opened.buf.0) need in
        let number : opened.change ≡ 1 + at.0 = number-at 1 (changes_in groups group v) at.0 change counts at.1 in
        record {
          before = at.0;
          change_is = omega (arith, number);
          its = its;
          takes = numbered-map (changes_in groups group v) opened.change ∙ ap (option_map move_of) (numbered-at 1 (changes_in groups group v) at.0 opened.change change counts number at.1);
          smallest = rw (free-is (sizes_of groups group) (changes_in groups group v) at.0) (found-change at.0 change at.1);
        }

    refused : (need change free asked : ℕ) → AskedFor groups group v need (Denied change free asked) → IsRefused (sizes_of groups group) (map move_of (changes_in groups group v)) need change free asked
    refused need change free asked said =
        let P : Refusal → Type 0 = IsOverflowIn groups v in
        let row : Refusal = record { group = group; number = change; free = free; need = asked } in
        let is = (subst P (get_or_from_slice_get v.refused said.1 row row said.2) (All-get_or P v.refused said.1 row (slice_get_within v.refused said.1 row said.2) joint.overflows)).its in
        let Q : ℕ → Type 0 = λ n. NoneFits (sizes_of groups group) free n in
        record {
          need_is = said.0;
          there = omega (arith, is.there, length-map (changes_in groups group v) move_of);
          free_is = is.set ∙ sym (free-is (sizes_of groups group) (changes_in groups group v) change);
          none_fits = subst Q said.0 is.none_fits;
        }

  -- an overflow has no session
  denied : (need change free asked : ℕ) (result : SessionResult) (opened : Option OpenedAt) → result ≡ Overflow change free asked → is_some opened ≡ not (is_overflow result) → AskedFor groups group v need (outcome_told result opened) → AskedFor groups group v need (Denied change free asked)
  denied need change free asked result None is opens said = let P : SessionResult → Type 0 = λ r. AskedFor groups group v need (outcome_told r None) in subst P is said
  denied need change free asked result (Some opened) is opens said = let no : true ≡ false = opens ∙ ap (λ r. not (is_overflow r)) is in absurd cc

  granted : (need : ℕ) (result : SessionResult) (was : Option OpenedAt) (opened : OpenedAt) → was ≡ Some opened → AskedFor groups group v need (outcome_told result was) → AskedFor groups group v need (Granted opened.change opened.buf.0)
  granted need result was opened is said = let P : Option OpenedAt → Type 0 = λ o. AskedFor groups group v need (outcome_told result o) in subst P is said

  -- a record whose session lies in the group
  abbrev pub LiesInGroup : SessionRecord → Type 0
  LiesInGroup told = (opened : OpenedAt) → told.opened ≡ Some opened → group_of groups opened.buf.0 ≡ group

  pub asks : (set : RxSet) (attempt : Cut Seen) (told : SessionRecord) → Joint groups v → AreInOrder (changes_in groups group v) → LiesInGroup told → Tells set.chan.0 set.a attempt told → Answered groups group v set attempt told →
      Asks groups group (map move_of (changes_in groups group v)) set attempt told
  asks set attempt told joint counts lies tells said = record {
    served = λ opened is. served joint counts (start_need set attempt) opened (lies opened is) (granted (start_need set attempt) told.result told.opened opened is said);
    refused = λ change free need is. refused joint counts (start_need set attempt) change free need (denied (start_need set attempt) change free need told.result told.opened is tells.opens said);
  }
