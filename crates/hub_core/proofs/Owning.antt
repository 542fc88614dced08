-- Who has each buffer: as one more change comes, as a session is entered, and as parties go on.
use Rattle.std.proofs.Common.{◌≡◌, ℕ, ◌≤◌, ◌⊎◌, inl, inr, List, [], ◌∷◌, ◌++◌, length, Option, Some, None, refl, ap, sym, subst, arith}
use Rattle.std.specs.Prelude.{slice_get, option_map}
use Rattle.gw_base.proofs.Lists.{same-some}
use Rattle.hub_core.proofs.Grouped.{Journals, ComesNext, pushed-same, each-group, found-old}
use Rattle.hub_core.proofs.Numbered.{IsLast, AreFreed, Ends, freed-pushed, numbered-new, within, taken-clear}
use Rattle.hub_core.proofs.Places.{each-at_one, each-session, each-entered}
use Rattle.hub_core.proofs.Streamed.{Take, take_of, HasEnded, Goes}
use Rattle.hub_core.specs.Core.{MayFree}
use Rattle.hub_core.specs.Groups.{group_of, place_of, sizes_of, in_group, journal_of, changes_in}
use Rattle.hub_core.specs.Joint.{IsTaken, IsSessionOf, IsOver, IsFreed}
use Rattle.hub_core.specs.Journal.{numbered, changed_buf, ChangesBuf, IsNextChange}
use Rattle.hub_core.specs.View.{View, Change, Taken, Freed, Taking, Session, at_one, change_at, session_at, reading_at, session_new}

-- who has a take: the port that holds its buffer, or a session
pub data Owner : Type 0 where
  Holder : (buf : ℕ) → Owner
  Writer : (path seq : ℕ) → Owner

abbrev pub take_held : ℕ → Taking → Take
take_held buf t = record { buf = buf; number = t.number; size = t.size }

abbrev pub taken_by : (ℕ → Option Taking) → (ℕ → List Session) → Owner → Option Take
taken_by held sessions (Holder buf) = option_map (take_held buf) (held buf)
taken_by held sessions (Writer path seq) = option_map take_of (slice_get (sessions path) seq)

-- the change of its number took the buffer, which has so many cells
pub record IsTake (groups : List (List ℕ)) (changes : List Change) (t : Take) : Type 0 where
  pub need : ℕ
  pub take : (let group : ℕ = group_of groups t.buf in
      numbered (journal_of groups group changes) t.number ≡ Some (Taken t.number (place_of groups t.buf) need))
  pub size_is : slice_get (sizes_of groups (group_of groups t.buf)) (place_of groups t.buf) ≡ Some t.size

-- both are the change of one number in one group
abbrev pub AreOne : List (List ℕ) → Take → Take → Type 0
AreOne groups t u = (group_of groups t.buf ≡ group_of groups u.buf) × (t.number ≡ u.number)

-- each owner has a take, no two have the same, and each take is its buffer's last change or is done with and freed
pub record Owned (groups : List (List ℕ)) (changes : List Change) (takes : Owner → Option Take) (Done : ℕ → ℕ → Type 0)
    : Type 0 where
  pub taken : (o : Owner) (t : Take) → takes o ≡ Some t → IsTake groups changes t
  pub own : (o p : Owner) (t u : Take) → takes o ≡ Some t → takes p ≡ Some u → AreOne groups t u → o ≡ p
  pub freed : (group : ℕ) → AreFreed (Done group) (journal_of groups group changes)

module _ (groups : List (List ℕ)) (changes : List Change) (takes : Owner → Option Take) (Done : ℕ → ℕ → Type 0)
    (owned : Owned groups changes takes Done) where
  -- one more change comes
  pushed : (c : Change) → Journals groups changes → ComesNext groups changes c →
      (let g : ℕ = group_of groups (changed_buf c) in Ends (Done g) (journal_of groups g changes) (in_group groups c)) →
      Owned groups (changes ++ c ∷ []) takes Done
  pushed c journals next ends = record {
    taken = λ o t at. grind (arith, owned.taken o t at, found-old groups changes c (group_of groups t.buf) t.number);
    own = owned.own;
    freed =
        let g = group_of groups (changed_buf c) in
        let mine = journal_of groups g changes in
        let now = freed-pushed (Done g) mine (in_group groups c) (journals g).order next.number ends (owned.freed g) in
        each-group groups changes c (λ g l. AreFreed (Done g) l) now owned.freed;
  }

  -- what an owner has is a new take, or one that it had and that isn't the new one
  abbrev pub Has : Owner → Take → Owner → Option Take → Type 0
  Has new t o now = (u : Take) → now ≡ Some u → ((o ≡ new) × (u ≡ t)) ⊎ ((takes o ≡ Some u) × (AreOne groups u t → ⊥))

  comes : (now : Owner → Option Take) (new : Owner) (t : Take) → IsTake groups changes t →
      ((o : Owner) → Has new t o (now o)) → Owned groups changes now Done
  comes now new t is has = record {
    taken = λ o u at. grind (arith, has o u at, is, owned.taken o u);
    own = λ o p u w at there one. grind (arith, has o u at, has p w there, owned.own o p u w, one);
    freed = owned.freed;
  }

-- all parties have left the session that has the group's change of that number
abbrev pub IsDone : List (List ℕ) → View → (group number : ℕ) → Type 0
IsDone groups v group number = (path seq : ℕ) × (t : Take) × (group_of groups t.buf ≡ group) × (t.number ≡ number)
    × ((dest : ℕ) → HasEnded t (session_at v path seq) dest (reading_at v path dest seq))

-- parties go on
pub goes-on : (groups : List (List ℕ)) (changes : List Change) (takes : Owner → Option Take) (v w : View) → Goes v w →
    Owned groups changes takes (IsDone groups v) → Owned groups changes takes (IsDone groups w)
goes-on groups changes takes v w goes owned = record {
  taken = owned.taken;
  own = owned.own;
  freed = λ g n p need take. elim (owned.freed g n p need take) [
    | inl last ↦ inl last
    | inr e ↦
        let is = e.0 in
        inr ((is.0, is.1, is.2, is.3, is.4, λ dest. (goes is.0 dest is.1).1 is.2 (is.5 dest)), e.1)
  ];
}

-- what the owners of a view have, where some may have changed, and what they have
abbrev pub OwnedBy : List (List ℕ) → View → (ℕ → Option Taking) → (ℕ → List Session) → Type 0
OwnedBy groups v held sessions = Owned groups v.changes (taken_by held sessions) (IsDone groups v)

abbrev pub OwnedIn : List (List ℕ) → View → Type 0
OwnedIn groups v = OwnedBy groups v v.held v.sessions

module _ (groups : List (List ℕ)) (v : View) (owned : OwnedIn groups v) where
  -- a session is changed that keeps its take
  pub changed : (path seq : ℕ) (f : Session → Session) → ((s : Session) → take_of (f s) ≡ take_of s) →
      OwnedBy groups v v.held (at_one path (change_at seq f (v.sessions path)) v.sessions)
  changed path seq f keeps = subst (λ takes. Owned groups v.changes takes (IsDone groups v)) (λ i o. same o i) owned
    where
      same : (o : Owner) → taken_by v.held v.sessions o
          ≡ taken_by v.held (at_one path (change_at seq f (v.sessions path)) v.sessions) o
      same (Holder buf) = refl
      same (Writer p k) = each-session (λ p k o. option_map take_of (session_at v p k) ≡ option_map take_of o) path v
          (λ p k. refl) seq f (grind (arith, keeps)) p k

  -- a session is entered in a buffer that was held
  pub entered : (path buf number size len readers : ℕ) → v.held buf ≡ Some (record { number = number; size = size }) →
      OwnedBy groups v (at_one buf None v.held)
      (at_one path (v.sessions path ++ session_new buf number size len readers ∷ []) v.sessions)
  entered path buf number size len readers held =
      comes groups v.changes takes (IsDone groups v) owned _ new t (owned.taken (Holder buf) t known) has
    where
      takes : Owner → Option Take
      takes = taken_by v.held v.sessions

      new : Owner
      new = Writer path (length (v.sessions path))

      t : Take
      t = record { buf = buf; number = number; size = size }

      known : takes (Holder buf) ≡ Some t
      known = ap (option_map (take_held buf)) held

      Owns : Owner → Option Take → Type 0
      Owns = Has groups v.changes takes (IsDone groups v) owned new t

      -- who else has a take has another one
      other : (o : Owner) → (o ≡ Holder buf → ⊥) → Owns o (takes o)
      other o ne u at = inr (at, λ one. ne (owned.own o (Holder buf) u t at known one))

      has : (o : Owner) → Owns o (taken_by (at_one buf None v.held)
          (at_one path (v.sessions path ++ session_new buf number size len readers ∷ []) v.sessions) o)
      has (Holder b) = each-at_one (λ b x. Owns (Holder b) (option_map (take_held b) x)) buf _ v.held
          (λ u at. absurd cc) (λ b ne. other (Holder b) (λ e. ne cc)) b
      has (Writer p k) = each-entered (λ p k o. Owns (Writer p k) (option_map take_of o)) path v
          (λ p k. other (Writer p k) (λ e. cc)) _ (λ u at. inl (refl, same-some at refl)) p k

  module _ (journals : Journals groups v.changes) where
    -- a free buffer is taken
    pub took : (number buf size need : ℕ) → ComesNext groups v.changes (Taken number buf need) →
        slice_get (sizes_of groups (group_of groups buf)) (place_of groups buf) ≡ Some size →
        Owned groups (v.changes ++ Taken number buf need ∷ [])
        (taken_by (at_one buf (Some (record { number = number; size = size })) v.held) v.sessions) (IsDone groups v)
    took number buf size need next size-is =
        comes groups (v.changes ++ c ∷ []) takes (IsDone groups v) before _ (Holder buf) t is has
      where
        c : Change
        c = Taken number buf need

        g : ℕ
        g = group_of groups buf

        mine : List Change
        mine = journal_of groups g v.changes

        t : Take
        t = record { buf = buf; number = number; size = size }

        takes : Owner → Option Take
        takes = taken_by v.held v.sessions

        before : Owned groups (v.changes ++ c ∷ []) takes (IsDone groups v)
        before = pushed groups v.changes takes (IsDone groups v) owned c journals next (λ n more take last. absurd (
            let clear = taken-clear (sizes_of groups g) mine n (place_of groups buf) more (journals g) take last in
            clear next.lawful.fits.is_free))

        is : IsTake groups (v.changes ++ c ∷ []) t
        is =
            let there = numbered-new mine (in_group groups c) (journals g).order next.number in
            record { need = need; take = rw (pushed-same groups g v.changes c refl) there; size_is = size-is }

        Owns : Owner → Option Take → Type 0
        Owns = Has groups (v.changes ++ c ∷ []) takes (IsDone groups v) before (Holder buf) t

        -- the take of an owner is an earlier one
        earlier : (o : Owner) → Owns o (takes o)
        earlier o u at = inr (
          at,
          λ one.
              let h = group_of groups u.buf in
              let low = within (journal_of groups h v.changes) u.number _ (journals h).order (owned.taken o u at).take in
              omega (arith, low, one, next.number, ap (λ g. length (journal_of groups g v.changes)) one.0),
        )

        has : (o : Owner) →
            Owns o (taken_by (at_one buf (Some (record { number = number; size = size })) v.held) v.sessions o)
        has (Writer p k) = earlier (Writer p k)
        has (Holder b) = each-at_one (λ b x. Owns (Holder b) (option_map (take_held b) x)) buf _ v.held
            (λ u at. inl (refl, same-some at refl)) (λ b other. earlier (Holder b)) b

    -- a buffer is freed whose session is over
    pub freed : (number buf : ℕ) → MayFree groups v number buf → ComesNext groups v.changes (Freed number buf) →
        Owned groups (v.changes ++ Freed number buf ∷ []) (taken_by v.held v.sessions) (IsDone groups v)
    freed number buf may next =
        pushed groups v.changes (taken_by v.held v.sessions) (IsDone groups v) owned (Freed number buf) journals next (
        λ n need take newest.
        let s = may.session in
        let place = place_of groups buf in
        let mine = owned.taken (Writer may.path may.seq) (take_of s) (ap (option_map take_of) may.known) in
        let low = may.last n (Taken n place need, take, refl) in
        let high = newest s.number (Taken s.number place mine.need, rw (← may.its) mine.take, refl) in
        let its = ap (group_of groups) may.its in
        ((may.path, may.seq, take_of s, its, omega arith, λ d. grind (arith, may.known, may.over)), refl))

  -- what this says of sessions
  pub session-taken : (path seq : ℕ) (s : Session) → session_at v path seq ≡ Some s → IsTaken groups v s
  session-taken path seq s at = grind (arith, owned.taken (Writer path seq) (take_of s), at)

  pub session-own : (path seq p k : ℕ) (s t : Session) → session_at v path seq ≡ Some s → session_at v p k ≡ Some t →
      IsSessionOf groups (group_of groups s.buf) s.number t → (path ≡ p) × (seq ≡ k)
  session-own path seq p k s t at there one =
      grind (arith, owned.own (Writer path seq) (Writer p k) (take_of s) (take_of t), at, there, one)

  -- a take that is done with has a session that is over
  done-session : (group number : ℕ) → IsDone groups v group number → (path seq : ℕ) × (s : Session)
      × (session_at v path seq ≡ Some s) × IsSessionOf groups group number s × IsOver v path seq s
  done-session group number (p, k, t, its, n, ended) =
      let s : (s : Session) × (session_at v p k ≡ Some s) × (take_of s ≡ t) = grind (arith, ended 0) in (
        p,
        k,
        s.0,
        s.1,
        grind (arith, s.2, its, n),
        record {
          writer = grind (arith, s.1, ended 0);
          dests = λ d below. grind (arith, s.1, ended d);
        },
      )

  -- a take of a session is its buffer's last change, or the session is over and the free has come
  pub session-turn : (path seq : ℕ) (s : Session) → session_at v path seq ≡ Some s →
      (let group : ℕ = group_of groups s.buf in IsLast (changes_in groups group v) (place_of groups s.buf) s.number)
      ⊎ (IsOver v path seq s × IsFreed groups v s)
  session-turn path seq s at =
      let its = session-taken path seq s at in
      elim (owned.freed (group_of groups s.buf) s.number (place_of groups s.buf) its.need its.take) [
        | inl last ↦ inl last
        | inr e ↦
            let is = done-session (group_of groups s.buf) s.number e.0 in
            let one = session-own path seq is.0 is.1 s is.2 at is.3 is.4 in
            let there : session_at v path seq ≡ Some is.2 = rw (one.0, one.1) is.3 in
            let over : IsOver v path seq is.2 = rw (one.0, one.1) is.5 in
            inr (subst (IsOver v path seq) (same-some there at) over, (e.1.free, e.1.after, e.1.freed))
      ]

  -- a take without a session is its buffer's last change, and what changes the buffer next is its free
  pub unused : (group number place need later : ℕ) →
      numbered (changes_in groups group v) number ≡ Some (Taken number place need) →
      ((path seq : ℕ) (s : Session) → session_at v path seq ≡ Some s → IsSessionOf groups group number s → ⊥) →
      ChangesBuf (changes_in groups group v) place later → later ≤ number
  unused g n p need later take none changed = elim (owned.freed g n p need take) [
    | inl last ↦ last later changed
    | inr e ↦ absurd (let is = done-session g n e.0 in none is.0 is.1 is.2 is.3 is.4)
  ]

  -- what is held has its take, which no session has and which is its buffer's last change
  pub held-taken : (buf : ℕ) (t : Taking) → v.held buf ≡ Some t → IsTake groups v.changes (take_held buf t)
  held-taken buf t held = owned.taken (Holder buf) (take_held buf t) (ap (option_map (take_held buf)) held)

  pub held-unused : (buf : ℕ) (t : Taking) → v.held buf ≡ Some t → (path seq : ℕ) (s : Session) →
      session_at v path seq ≡ Some s → IsSessionOf groups (group_of groups buf) t.number s → ⊥
  held-unused buf t held path seq s at its =
      let mine = ap (option_map (take_held buf)) held in
      let theirs = ap (option_map take_of) at in
      let same = owned.own (Holder buf) (Writer path seq) (take_held buf t) (take_of s) mine theirs
      (sym its.0, sym its.1) in cc

  pub held-last : (buf : ℕ) (t : Taking) → v.held buf ≡ Some t →
      IsLast (changes_in groups (group_of groups buf) v) (place_of groups buf) t.number
  held-last buf t held later changed =
      let its = held-taken buf t held in
      unused (group_of groups buf) t.number (place_of groups buf) its.need later its.take (held-unused buf t held) changed

  pub free-next : (group number place need next : ℕ) →
      numbered (changes_in groups group v) number ≡ Some (Taken number place need) →
      IsNextChange (changes_in groups group v) place number next →
      numbered (changes_in groups group v) next ≡ Some (Freed next place)
  free-next g n p need next take is = elim (owned.freed g n p need take) [
    | inl last ↦ absurd (grind (arith, last next is.changes_buf, is))
    | inr e ↦
        let low = is.first e.1.free (Freed e.1.free p, e.1.freed, refl) e.1.after in
        grind (arith, e.1, low, e.1.first next is.changes_buf is.after)
  ]
