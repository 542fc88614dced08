-- The pool's law of a whole run: its sessions are those of its source channels, and at its end all are over.
use Rattle.std.proofs.Common.{◌≡◌, ℕ, ◌+◌, ◌<◌, ◌≤◌, ◌==◌, zero, suc, Bool, true, false, cond, inl, inr, Some, List, [], ◌∷◌, ◌++◌, length, map, refl, ap, sym, ◌∙◌, subst, arith, append-nil, option_map, eq-eqb}
use Rattle.std.specs.Prelude.{filter, slice_get}
use Rattle.std.proofs.lemmas.Bool.{cases_lt}
use Rattle.std.proofs.lemmas.Bool.Decides.{nat_tests}
use Rattle.std.proofs.lemmas.List.{get_or_past}
use Rattle.std.specs.List.{AllByRecursion, AllZip}
use Rattle.std.proofs.lemmas.Option.{slice_get-map}
use Rattle.gw_base.proofs.Lists.{all-at, all-map, all-weaker, mapped-at, slice_get-more}
use Rattle.hub_core.proofs.Changed.{all-by}
use Rattle.hub_core.proofs.Growing.{slice_get-pushed}
use Rattle.hub_core.proofs.OneGroup.{no-buffer}
use Rattle.hub_core.specs.Groups.{changes_in, group_of, sizes_of}
use Rattle.hub_core.specs.Joint.{Joint}
use Rattle.hub_core.specs.Journal.{IsLawful, numbered, replay}
use Rattle.hub_core.specs.Moves.{move_of}
use Rattle.hub_core.specs.Turns.{calls_by}
use Rattle.hub_core.specs.declared.record.Move.{Move}
use Rattle.hub_core.specs.View.{Change, Closed, Event, Parted, Refusal, Refused, Session, Taken, Took, View, empty_view, grow, grows, session_at}
use Rattle.receiver_law.proofs.runs.RxLaws.{ends-idle}
use Rattle.receiver_law.specs.Channel.{SourceChannel}
use Rattle.receiver_law.specs.RxRun.{RxRun, source_of, turns_in as received_in}
use Rattle.tp_attempts.specs.Attempts.{attempts_in}
use Rattle.tp_receiver.specs.declared.set.RxSet.{RxSet}
use Rattle.gw_law.specs.Account.{Account, source_in}
use Rattle.gw_law.specs.Deeds.{Deeds, IsMadeIn, StandsIn, Window, own_view}
use Rattle.gw_law.specs.Plan.{Receiving}
use Rattle.gw_law.specs.Pool.{AreNamed, PoolEnds, PoolLaw, Channel, IsIn, IsPoolRun, IsWholeRun, Source, channel_of, moves_of, place_in}
use Rattle.gw_law.specs.PoolOfAccount.{IsOfPool, PoolOf, PoolOfGroup, channel_in, channels_of}
use Rattle.gw_law.specs.Run.{IsReceiverRun, IsRun}
use Rattle.gw_law.proofs.pools.Overs.{Receives, all-over, all-used, receives}
use Rattle.gw_law.proofs.pools.Pools.{named_of, pool_ends_of, pool_law_of}

-- what calls make of nothing they stand in
record Grown (old new : View) : Type 0 where
  changes : List Change
  changes_are : new.changes ≡ old.changes ++ changes
  refused : List Refusal
  refused_are : new.refused ≡ old.refused ++ refused

in-stays : (old new : View) (call : Event) → Grown old new → IsIn old call → IsIn new call
in-stays old new (Took group number buf size need) grown is = (is.0, ap (λ l. slice_get l is.0) grown.changes_are ∙ slice_get-more old.changes grown.changes is.0 (Taken number buf need) is.1)
in-stays old new (Refused group number free need) grown is = (is.0, ap (λ l. slice_get l is.0) grown.refused_are ∙ slice_get-more old.refused grown.refused is.0 (record { group = group; number = number; free = free; need = need }) is.1)
in-stays old new call grown is = is

grown-by : (call : Event) (v : View) → Grown v (grow call v)
unfolding grow
grown-by (Took group number buf size need) v = record { changes = Taken number buf need ∷ []; changes_are = refl; refused = []; refused_are = sym (append-nil v.refused) }
grown-by (Refused group number free need) v = record { changes = []; changes_are = sym (append-nil v.changes); refused = record { group = group; number = number; free = free; need = need } ∷ []; refused_are = refl }
grown-by (Closed path seq freed) v = record { changes = freed; changes_are = refl; refused = []; refused_are = sym (append-nil v.refused) }
grown-by (Parted path dest seq freed) v = record { changes = freed; changes_are = refl; refused = []; refused_are = sym (append-nil v.refused) }
grown-by call v = record { changes = []; changes_are = sym (append-nil v.changes); refused = []; refused_are = sym (append-nil v.refused) }

stay-by : (calls : List Event) (v : View) (call : Event) → IsIn v call → IsIn (grows calls v) call
stay-by [] v call is = is
stay-by (next ∷ calls) v call is = stay-by calls (grow next v) call (in-stays v (grow next v) call (grown-by next v) is)

in-here : (call : Event) (v : View) → IsIn (grow call v) call
unfolding grow
in-here (Took group number buf size need) v = (length v.changes, slice_get-pushed v.changes (Taken number buf need) (length v.changes) refl)
in-here (Refused group number free need) v = (length v.refused, slice_get-pushed v.refused (record { group = group; number = number; free = free; need = need }) (length v.refused) refl)
in-here call v = tt

are-in : (calls : List Event) (v : View) → AllByRecursion (IsIn (grows calls v)) calls
are-in [] v = tt
are-in (call ∷ calls) v = (stay-by calls (grow call v) call (in-here call v), are-in calls (grow call v))

-- so they stand in a view in which all that they make stands
in-made : (v : View) (calls : List Event) (call : Event) → IsMadeIn v calls → IsIn (own_view calls) call → IsIn v call
in-made v calls (Took group number buf size need) made is = all-at (StandsIn v.changes) (own_view calls).changes is.0 (Taken number buf need) made.changes is.1
in-made v calls (Refused group number free need) made is = all-at (StandsIn v.refused) (own_view calls).refused is.0 (record { group = group; number = number; free = free; need = need }) made.refused is.1
in-made v calls call made is = is

-- the source channels of the run whose paths have the group's buffers
abbrev pub source : RxRun → Source
source run = record { set = run.set; turns = received_in run }

abbrev is_of : ℕ → RxRun → Bool
is_of group run = run.set.group.0 == group

abbrev sources_of : Deeds → (group : ℕ) → List Source
sources_of d group = map source (filter (is_of group) d.receivers)

-- what is kept of a list, with its place before
record Kept {A : Type 0} (keeps : A → Bool) (xs : List A) (x : A) : Type 0 where
  place : ℕ
  is : slice_get xs place ≡ Some x
  kept : keeps x ≡ true

kept-later : {A : Type 0} (keeps : A → Bool) (y : A) (xs : List A) (x : A) → Kept keeps xs x → Kept keeps (y ∷ xs) x
kept-later keeps y xs x so = record { place = suc so.place; is = so.is; kept = so.kept }

kept-by : {A : Type 0} (keeps : A → Bool) (y : A) (xs : List A) (place : ℕ) (x : A) (b : Bool) → keeps y ≡ b → ((at : ℕ) → slice_get (filter keeps xs) at ≡ Some x → Kept keeps xs x) →
    slice_get (cond b (y ∷ filter keeps xs) (filter keeps xs)) place ≡ Some x → Kept keeps (y ∷ xs) x
kept-by keeps y xs place x false is later there = kept-later keeps y xs x (later place there)
kept-by keeps y xs zero x true is later there = let same : y ≡ x = cc in record { place = zero; is = ap Some same; kept = ap keeps (sym same) ∙ is }
kept-by keeps y xs (suc place) x true is later there = kept-later keeps y xs x (later place there)

kept-at : {A : Type 0} (keeps : A → Bool) (xs : List A) (place : ℕ) (x : A) → slice_get (filter keeps xs) place ≡ Some x → Kept keeps xs x
kept-at keeps [] place x there = absurd cc
kept-at keeps (y ∷ xs) place x there = kept-by keeps y xs place x (keeps y) refl (λ at is. kept-at keeps xs at x is) there

-- what is kept stands among what is kept
kept-there : {A : Type 0} (keeps : A → Bool) (xs : List A) (place : ℕ) (x : A) → slice_get xs place ≡ Some x → keeps x ≡ true → (at : ℕ) × (slice_get (filter keeps xs) at ≡ Some x)
kept-there keeps [] place x there is = absurd cc
kept-there keeps (y ∷ xs) zero x there is =
    let same : y ≡ x = cc in
    (zero, ap (λ b. slice_get (cond b (y ∷ filter keeps xs) (filter keeps xs)) zero) (ap keeps same ∙ is) ∙ ap Some same)
kept-there {A = A} keeps (y ∷ xs) (suc place) x there is = by (keeps y) (kept-there keeps xs place x there is)
  where
    by : (b : Bool) → (at : ℕ) × (slice_get (filter keeps xs) at ≡ Some x) → (at : ℕ) × (slice_get (cond b (y ∷ filter keeps xs) (filter keeps xs)) at ≡ Some x)
    by true so = (suc so.0, so.1)
    by false so = so

-- no two items have the same key
abbrev AreApart : {A : Type 0} → (A → ℕ) → List A → Type 0
AreApart {A = A} key xs = (place other : ℕ) (x y : A) → slice_get xs place ≡ Some x → slice_get xs other ≡ Some y → key x ≡ key y → place ≡ other

apart-more : {A : Type 0} (key : A → ℕ) (first : A) (xs : List A) → ((place : ℕ) (x : A) → slice_get xs place ≡ Some x → key first ≡ key x → ⊥) → AreApart key xs → AreApart key (first ∷ xs)
apart-more key first xs other rest zero zero x y there here same = refl
apart-more key first xs other rest zero (suc at) x y there here same = let is : first ≡ x = cc in absurd (other at y here (ap key is ∙ same))
apart-more key first xs other rest (suc place) zero x y there here same = let is : first ≡ y = cc in absurd (other place x there (ap key is ∙ sym same))
apart-more key first xs other rest (suc place) (suc at) x y there here same = ap suc (rest place at x y there here same)

apart-by : {A : Type 0} (key : A → ℕ) (first : A) (xs : List A) (b : Bool) → ((place : ℕ) (x : A) → slice_get xs place ≡ Some x → key first ≡ key x → ⊥) → AreApart key xs → AreApart key (cond b (first ∷ xs) xs)
apart-by key first xs true other rest = apart-more key first xs other rest
apart-by key first xs false other rest = rest

apart-kept : {A : Type 0} (key : A → ℕ) (keeps : A → Bool) (xs : List A) → AreApart key xs → AreApart key (filter keeps xs)
apart-kept key keeps [] apart = λ place other x y there here same. absurd cc
apart-kept key keeps (first ∷ xs) apart =
    apart-by key first (filter keeps xs) (keeps first)
    (λ place x there same. let so = kept-at keeps xs place x there in let no = apart zero (suc so.place) first x refl so.is same in omega (arith, no))
    (apart-kept key keeps xs (λ place other x y there here same. let next = apart (suc place) (suc other) x y there here same in omega (arith, next)))

-- a receiver of the run, whose path has the group's buffers
pub run-of : (a : Account) (d : Deeds) (windows : List Window) (v : View) (group place : ℕ) (run : RxRun) → IsRun a d windows v → slice_get d.receivers place ≡ Some run → run.set.group.0 ≡ group → IsWholeRun a.plan.groups group v (source run)
run-of a d windows v group place run is there group_is =
    let of : Receives a d v place run = receives a d windows v run place is there in
    let calls : List Event = calls_by (received_in run) in
    let made : IsMadeIn v calls = all-at (λ (x : RxRun). IsMadeIn v (calls_by (received_in x))) d.receivers place run is.joined.made there in
    let lie = all-at (λ (x : RxRun). (seq : ℕ) (s : Session) → session_at v x.set.path.0 seq ≡ Some s → group_of a.plan.groups s.buf ≡ x.set.group.0) d.receivers place run is.in_groups there in
    record {
      received = of.is.run_is.happened;
      idle = ends-idle run of.is.run_is;
      group_is = group_is;
      calls = all-weaker (IsIn (own_view calls)) (IsIn v) calls (λ call one. in-made v calls call made one) (are-in calls empty_view);
      sessions = of.sessions;
      its = λ seq s at. lie seq s at ∙ group_is;
    }

runs-of : (a : Account) (d : Deeds) (windows : List Window) (v : View) (group : ℕ) → IsRun a d windows v → AllByRecursion (IsWholeRun a.plan.groups group v) (sources_of d group)
runs-of a d windows v group is =
    all-map (IsWholeRun a.plan.groups group v) source (filter (is_of group) d.receivers) (all-by (λ (run : RxRun). IsWholeRun a.plan.groups group v (source run)) (filter (is_of group) d.receivers)
    (λ place run there. let of = kept-at (is_of group) d.receivers place run there in run-of a d windows v group of.place run is of.is (grind (arith, nat_tests, of.kept))))

apart-runs : (a : Account) (d : Deeds) (windows : List Window) (v : View) → IsRun a d windows v → AreApart (λ (run : RxRun). run.set.path.0) d.receivers
apart-runs a d windows v is chan other first second at there same =
    let here : Receives a d v chan first = receives a d windows v first chan is at in
    let also : Receives a d v other second = receives a d windows v second other is there in
    is.plan.apart chan other here.r also.r here.r_there also.r_there (ap (λ (s : RxSet). s.path.0) (sym here.set_is) ∙ same ∙ ap (λ (s : RxSet). s.path.0) also.set_is)

apart-of : (a : Account) (d : Deeds) (windows : List Window) (v : View) (group chan other : ℕ) (one two : Source) → IsRun a d windows v → slice_get (sources_of d group) chan ≡ Some one → slice_get (sources_of d group) other ≡ Some two → one.set.path.0 ≡ two.set.path.0 → chan ≡ other
apart-of a d windows v group chan other one two is at there same =
    let first = mapped-at source chan (filter (is_of group) d.receivers) one at in
    let second = mapped-at source other (filter (is_of group) d.receivers) two there in
    apart-kept (λ (run : RxRun). run.set.path.0) (is_of group) d.receivers (apart-runs a d windows v is) chan other first.0 second.0 first.1 second.1
    (ap (λ (s : Source). s.set.path.0) first.2 ∙ same ∙ ap (λ (s : Source). s.set.path.0) (sym second.2))

pool-run : (a : Account) (d : Deeds) (windows : List Window) (v : View) (group : ℕ) → group < length a.plan.groups → IsRun a d windows v → IsPoolRun (sources_of d group) a.plan.groups group (a.counts group) (a.frees group) v (moves_of a.plan.groups group a.moves)
pool-run a d windows v group there is = record {
  joint = is.joint;
  word = (is.pools group there).word;
  moves_are = is.moves group;
  in_order = (is.pools group there).in_order;
  runs = runs-of a d windows v group is;
  apart = λ chan other one two at there same. apart-of a d windows v group chan other one two is at there same;
  all = λ path seq s at its.
      let by = is.joined.no_others path seq s at in
      let P : ℕ → Type 0 = λ p. session_at v p seq ≡ Some s in
      let lie = all-at (λ (x : RxRun). (k : ℕ) (t : Session) → session_at v x.set.path.0 k ≡ Some t → group_of a.plan.groups t.buf ≡ x.set.group.0) d.receivers by.1.0 by.0 is.in_groups by.1.1 in
      let mine : by.0.set.group.0 ≡ group = sym (lie seq s (subst P (sym by.2) at)) ∙ its in
      let here = kept-there (is_of group) d.receivers by.1.0 by.0 by.1.1 (eq-eqb by.0.set.group.0 group mine) in
      (here.0, source by.0, slice_get-map source (filter (is_of group) d.receivers) here.0 ∙ ap (option_map source) here.1, by.2);
}

-- what is told of a source channel is what its receiver's run tells
abbrev channel : SourceChannel → Channel
channel c = record { set = c.rx; attempts = attempts_in c.rx.functional c.seen; records = c.sessions }

channels-same : (a : Account) (group : ℕ) (rs : List Receiving) (runs : List RxRun) → AllZip (IsReceiverRun a) rs runs → map channel_of (map source (filter (is_of group) runs)) ≡ map (channel_in a) (filter (λ (r : Receiving). r.set.group.0 == group) rs)
channels-same a group [] [] are = refl
channels-same a group [] (run ∷ runs) are = absurd are
channels-same a group (r ∷ rs) [] are = absurd are
channels-same a group (r ∷ rs) (run ∷ runs) are =
    let set_is : run.set ≡ r.set = ap (λ (c : SourceChannel). c.rx) are.0.tells in
    let same : channel (source_of (a.plan.budget r.bus) run) ≡ channel (source_in a r) = ap channel are.0.tells in
    let test : is_of group run ≡ (r.set.group.0 == group) = ap (λ (s : RxSet). s.group.0 == group) set_is in
    by (is_of group run) (r.set.group.0 == group) test same (channels-same a group rs runs are.1)
  where
    by : (one other : Bool) → one ≡ other → channel (source_of (a.plan.budget r.bus) run) ≡ channel (source_in a r) →
        map channel_of (map source (filter (is_of group) runs)) ≡ map (channel_in a) (filter (λ (r : Receiving). r.set.group.0 == group) rs) →
        map channel_of (map source (cond one (run ∷ filter (is_of group) runs) (filter (is_of group) runs))) ≡ map (channel_in a) (cond other (r ∷ filter (λ (r : Receiving). r.set.group.0 == group) rs) (filter (λ (r : Receiving). r.set.group.0 == group) rs))
    by true true test same rest = ap (λ c. c ∷ map channel_of (map source (filter (is_of group) runs))) same ∙ ap (λ l. channel_in a r ∷ l) rest
    by true false test same rest = absurd cc
    by false true test same rest = absurd cc
    by false false test same rest = rest

group-pool : (a : Account) (d : Deeds) (windows : List Window) (v : View) (group : ℕ) → group < length a.plan.groups → IsRun a d windows v → PoolOfGroup a group
group-pool a d windows v group there is =
    let sources : List Source = sources_of d group in
    let groups : List (List ℕ) = a.plan.groups in
    let moves : List Move = moves_of groups group a.moves in
    let pool = pool-run a d windows v group there is in
    let same : map channel_of sources ≡ channels_of a group = channels-same a group a.plan.receivers d.receivers is.receivers in
    let named = named_of sources groups group (a.counts group) (a.frees group) v moves pool (all-used a d windows v group is) in
    let ends = pool_ends_of sources groups group (a.counts group) (a.frees group) v moves pool (all-over a d windows v is) in
    let P : List Channel → Type 0 = λ l. PoolLaw groups group (a.counts group) (a.frees group) l moves in
    let Q : List Channel → Type 0 = λ l. PoolEnds groups group (a.frees group) l moves in
    let R : List Channel → Type 0 = λ l. AreNamed groups l moves in
    record {
      law = subst P same (pool_law_of sources groups group (a.counts group) (a.frees group) v moves pool);
      ends = subst Q same ends;
      named = subst R same named;
      whole = ends.whole named;
    }

-- past the last group there is no buffer, so no change and no move
no-changes : (groups : List (List ℕ)) (v : View) (group : ℕ) → Joint groups v → length groups ≤ group → changes_in groups group v ≡ []
no-changes groups v group joint past = none (changes_in groups group v) (joint.journal group).each
  where
    sizes : sizes_of groups group ≡ []
    sizes = get_or_past groups group [] past

    none : (changes : List Change) → ((number : ℕ) → number < length changes → (change : Change) × (numbered changes (number + 1) ≡ Some change) × IsLawful (sizes_of groups group) (replay (sizes_of groups group) changes number) change) → changes ≡ []
    none [] each = refl
    none (change ∷ changes) each =
        let first = each 0 (omega arith) in
        let L : List ℕ → Type 0 = λ l. IsLawful l (replay l (change ∷ changes) 0) first.0 in
        absurd (no-buffer (replay [] (change ∷ changes) 0) first.0 (subst L sizes first.2))

move-there : (groups : List (List ℕ)) (moves : List Move) → ((group : ℕ) → length groups ≤ group → moves_of groups group moves ≡ []) → AllByRecursion (IsOfPool groups) moves
move-there groups [] none = tt
move-there groups (move ∷ moves) none = (here, move-there groups moves (λ group past. rest group (group_of groups move.buf.0 == group) refl (none group past)))
  where
    rest : (group : ℕ) (b : Bool) → (group_of groups move.buf.0 == group) ≡ b → cond b (record move { buf = place_in groups move.buf } ∷ moves_of groups group moves) (moves_of groups group moves) ≡ [] → moves_of groups group moves ≡ []
    rest group true is at = absurd cc
    rest group false is at = at

    here : group_of groups move.buf.0 < length groups
    here = elim (cases_lt (group_of groups move.buf.0) (length groups)) [
      | inl below ↦ below
      | inr past ↦
          let mine : (group_of groups move.buf.0 == group_of groups move.buf.0) ≡ true = eq-eqb (group_of groups move.buf.0) (group_of groups move.buf.0) refl in
          let some : record move { buf = place_in groups move.buf } ∷ moves_of groups (group_of groups move.buf.0) moves ≡ [] =
          ap (λ b. cond b (record move { buf = place_in groups move.buf } ∷ moves_of groups (group_of groups move.buf.0) moves) (moves_of groups (group_of groups move.buf.0) moves)) (sym mine) ∙ none (group_of groups move.buf.0) past in
          absurd cc
    ]

pub pool_of : (a : Account) (d : Deeds) (windows : List Window) (v : View) → IsRun a d windows v → PoolOf a
pool_of a d windows v is = record {
  each = λ group there. group-pool a d windows v group there is;
  there = move-there a.plan.groups a.moves (λ group past. is.moves group ∙ ap (map move_of) (no-changes a.plan.groups v group is.joint past));
}
