-- With one group its journal is that of all changes, so a joint view says the same of all changes and of the buffers' own numbers.
use Rattle.std.proofs.Common.{◌≡◌, ◌≢◌, ℕ, ◌+◌, ◌<◌, ◌≤◌, inl, inr, List, [], ◌∷◌, length, Some, None, All, refl, ap, sym, ◌∙◌, subst, arith}
use Rattle.std.proofs.lemmas.Bool.{cases_lt}
use Rattle.std.proofs.lemmas.List.Elements.{All-weaker}
use Rattle.std.specs.Prelude.{◌==◌, slice_get, if◌then◌else◌}
use Rattle.hub_core.proofs.Cut.{first-group, later-group}
use Rattle.hub_core.specs.Groups.{group_of, place_of, sizes_of, in_group, journal_of}
use Rattle.hub_core.specs.Journal.{numbered, replay, IsLawful, IsOverflow, ChangesBuf, IsNextChange, changed_buf}
use Rattle.hub_core.specs.Joint.{HasLeftWriter, IsOver, IsOverflowIn, AreStreams, Joint}
use Rattle.hub_core.specs.View.{View, Change, Taken, Freed, Refusal, Session, Reading, session_at, reading_at}

-- a change of the one group is as it is in the group
in-one : (sizes : List ℕ) (c : Change) → changed_buf c < length sizes → in_group (sizes ∷ []) c ≡ c
in-one sizes (Taken number buf need) below = ap (λ b. Taken number b need) (first-group sizes [] buf below).1
in-one sizes (Freed number buf) below = ap (Freed number) (first-group sizes [] buf below).1

pub all-one : (sizes : List ℕ) (changes : List Change) → journal_of (sizes ∷ []) 1 changes ≡ [] → journal_of (sizes ∷ []) 0 changes ≡ changes
all-one sizes [] none = refl
all-one sizes (c ∷ changes) none = elim (cases_lt (changed_buf c) (length sizes)) [
  | inl below ↦
      let group = (first-group sizes [] (changed_buf c) below).0 in
      let rest = all-one sizes changes (sym (ap (λ (g : ℕ). if g == 1 then in_group (sizes ∷ []) c ∷ journal_of (sizes ∷ []) 1 changes else journal_of (sizes ∷ []) 1 changes) group) ∙ none) in
      ap (λ (g : ℕ). if g == 0 then in_group (sizes ∷ []) c ∷ journal_of (sizes ∷ []) 0 changes else journal_of (sizes ∷ []) 0 changes) group
      ∙ ap (λ (x : Change). x ∷ journal_of (sizes ∷ []) 0 changes) (in-one sizes c below) ∙ ap (λ (l : List Change). c ∷ l) rest
  | inr past ↦
      let group = (later-group sizes [] (changed_buf c) past).0 in
      absurd (let some : in_group (sizes ∷ []) c ∷ journal_of (sizes ∷ []) 1 changes ≡ [] = sym (ap (λ (g : ℕ). if g == 1 then in_group (sizes ∷ []) c ∷ journal_of (sizes ∷ []) 1 changes else journal_of (sizes ∷ []) 1 changes) group) ∙ none in cc)
]

-- past the last group there is no buffer, so no lawful change
pub no-buffer : (free : ℕ) (c : Change) → IsLawful [] free c → ⊥
no-buffer free (Taken number buf need) lawful = absurd (omega (arith, lawful.fits.there))
no-buffer free (Freed number buf) lawful = absurd (omega (arith, lawful.0))

-- the changes, with their number and the free set after them
pub record IsJournal (sizes : List ℕ) (count free : ℕ) (v : View) : Type 0 where
  pub count_is : count ≡ length v.changes
  pub free_is : free ≡ replay sizes v.changes count
  pub each : (number : ℕ) → number < count → (change : Change) × (numbered v.changes (number + 1) ≡ Some change) × IsLawful sizes (replay sizes v.changes number) change
  pub overflows : All (IsOverflow sizes v.changes) v.refused

-- a session's buffer was taken for it
pub record IsTakenAlone (sizes : List ℕ) (v : View) (s : Session) : Type 0 where
  pub need : ℕ
  pub take : numbered v.changes s.number ≡ Some (Taken s.number s.buf need)
  pub size : slice_get sizes s.buf ≡ Some s.size

-- each buffer is taken for one session, and freed once that session's parties have left
pub record AreOwnedAlone (sizes : List ℕ) (v : View) : Type 0 where
  pub taken : (path seq : ℕ) (s : Session) → session_at v path seq ≡ Some s → IsTakenAlone sizes v s
  pub own : (path seq other_path other_seq : ℕ) (s other : Session) → session_at v path seq ≡ Some s → session_at v other_path other_seq ≡ Some other → s.number ≡ other.number →
      (path ≡ other_path) × (seq ≡ other_seq)
  pub unused : (number buf need later : ℕ) → numbered v.changes number ≡ Some (Taken number buf need) → ((path seq : ℕ) (s : Session) → session_at v path seq ≡ Some s → s.number ≢ number) →
      ChangesBuf v.changes buf later → later ≤ number
  pub next : (number buf need next : ℕ) → numbered v.changes number ≡ Some (Taken number buf need) → IsNextChange v.changes buf number next → numbered v.changes next ≡ Some (Freed next buf)
  pub kept : (path seq later : ℕ) (s : Session) → session_at v path seq ≡ Some s → ChangesBuf v.changes s.buf later → s.number < later → IsOver v path seq s
  pub freed : (path seq : ℕ) (s : Session) → session_at v path seq ≡ Some s → IsOver v path seq s → (later : ℕ) × (s.number < later) × (numbered v.changes later ≡ Some (Freed later s.buf))
  pub joined : (path dest seq : ℕ) (s : Session) (r : Reading) → session_at v path seq ≡ Some s → reading_at v path dest seq ≡ Some r → dest < s.dests
  pub no_readers : (path seq : ℕ) (s : Session) → session_at v path seq ≡ Some s → s.readers ≡ 0 → (dest : ℕ) → dest < s.dests → HasLeftWriter v path dest seq

-- a joint view of one group, in the words of all changes
pub record IsJointAlone (sizes : List ℕ) (count free : ℕ) (v : View) : Type 0 where
  pub journal : IsJournal sizes count free v
  pub streams : AreStreams v
  pub owned : AreOwnedAlone sizes v

module _ (sizes : List ℕ) (v : View) (joint : Joint (sizes ∷ []) v) where
  abbrev groups : List (List ℕ)
  groups = sizes ∷ []

  no-other : journal_of groups 1 v.changes ≡ []
  no-other = nothing (journal_of groups 1 v.changes) (λ below. let one = (joint.journal 1).each 0 below in no-buffer (replay [] (journal_of groups 1 v.changes) 0) one.0 one.2)
    where
      nothing : (l : List Change) → (0 < length l → ⊥) → l ≡ []
      nothing [] none = refl
      nothing (c ∷ l) none = absurd (none (omega arith))

  pub same : journal_of groups 0 v.changes ≡ v.changes
  same = all-one sizes v.changes no-other

  -- a session's buffer is one of the group
  pub its : (path seq : ℕ) (s : Session) → session_at v path seq ≡ Some s → (group_of groups s.buf ≡ 0) × (place_of groups s.buf ≡ s.buf)
  its path seq s at = elim (cases_lt s.buf (length sizes)) [
    | inl below ↦ first-group sizes [] s.buf below
    | inr past ↦ absurd (
        let group = (later-group sizes [] s.buf past).0 in
        let none : None ≡ Some s.size = sym (ap (λ (g : ℕ). slice_get (sizes_of groups g) (place_of groups s.buf)) group) ∙ (joint.owned.taken path seq s at).size in
        cc)
  ]

  journal-is : (path seq : ℕ) (s : Session) → session_at v path seq ≡ Some s → journal_of groups (group_of groups s.buf) v.changes ≡ v.changes
  journal-is path seq s at = ap (λ (g : ℕ). journal_of groups g v.changes) (its path seq s at).0 ∙ same

  overflow-alone : (r : Refusal) → IsOverflowIn groups v r → IsOverflow sizes v.changes r
  overflow-alone r is =
      let first : r.group ≡ 0 = omega (arith, is.there) in
      subst (λ (l : List Change). IsOverflow sizes l r) same (subst (λ (g : ℕ). IsOverflow (sizes_of groups g) (journal_of groups g v.changes) r) first is.its)

  journal-alone : IsJournal sizes (length v.changes) (replay sizes v.changes (length v.changes)) v
  journal-alone = record {
    count_is = refl;
    free_is = refl;
    each = subst (λ (l : List Change). (number : ℕ) → number < length l → (change : Change) × (numbered l (number + 1) ≡ Some change) × IsLawful sizes (replay sizes l number) change) same (joint.journal 0).each;
    overflows = All-weaker (IsOverflowIn groups v) (IsOverflow sizes v.changes) overflow-alone v.refused joint.overflows;
  }

  owned-alone : AreOwnedAlone sizes v
  owned-alone = record {
    taken = λ path seq s at. let mine = joint.owned.taken path seq s at in record {
      need = mine.need;
      take = subst (λ (x : List Change × ℕ). numbered x.0 s.number ≡ Some (Taken s.number x.1 mine.need)) (λ i. (journal-is path seq s at i, (its path seq s at).1 i)) mine.take;
      size = subst (λ (x : ℕ × ℕ). slice_get (sizes_of groups x.0) x.1 ≡ Some s.size) (λ i. ((its path seq s at).0 i, (its path seq s at).1 i)) mine.size;
    };
    own = λ path seq p k s t at there number. joint.owned.own path seq p k s t at there ((its p k t there).0 ∙ sym (its path seq s at).0, sym number);
    unused = λ number buf need later take none changed. joint.owned.unused 0 number buf need later (subst (λ (l : List Change). numbered l number ≡ Some (Taken number buf need)) (sym same) take)
        (λ path seq s at mine. none path seq s at mine.1) (subst (λ (l : List Change). ChangesBuf l buf later) (sym same) changed);
    next = λ number buf need next take is. subst (λ (l : List Change). numbered l next ≡ Some (Freed next buf)) same
        (joint.owned.next 0 number buf need next (subst (λ (l : List Change). numbered l number ≡ Some (Taken number buf need)) (sym same) take) (subst (λ (l : List Change). IsNextChange l buf number next) (sym same) is));
    kept = λ path seq later s at changed. joint.owned.kept path seq later s at
        (subst (λ (x : List Change × ℕ). ChangesBuf x.0 x.1 later) (λ i. (sym (journal-is path seq s at) i, sym (its path seq s at).1 i)) changed);
    freed = λ path seq s at over. let free = joint.owned.freed path seq s at over in
        (free.0, free.1, subst (λ (x : List Change × ℕ). numbered x.0 free.0 ≡ Some (Freed free.0 x.1)) (λ i. (journal-is path seq s at i, (its path seq s at).1 i)) free.2);
    joined = joint.owned.joined;
    no_readers = joint.owned.no_readers;
  }

  pub alone : IsJointAlone sizes (length v.changes) (replay sizes v.changes (length v.changes)) v
  alone = record { journal = journal-alone; streams = joint.streams; owned = owned-alone }

  -- the number and the free set of the group's word are those of all changes
  pub alone-with : (count free : ℕ) → count ≡ length (journal_of groups 0 v.changes) → free ≡ replay sizes (journal_of groups 0 v.changes) (length (journal_of groups 0 v.changes)) → IsJointAlone sizes count free v
  alone-with count free counts sets = subst (λ (x : ℕ × ℕ). IsJointAlone sizes x.0 x.1 v)
      (λ i. (sym (counts ∙ ap (λ (l : List Change). length l) same) i, sym (sets ∙ ap (λ (l : List Change). replay sizes l (length l)) same) i)) alone
