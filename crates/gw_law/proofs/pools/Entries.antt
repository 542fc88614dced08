-- Which session a take is of, and which take a session has.
use Rattle.std.proofs.Common.{◌≡◌, ℕ, ◌+◌, ◌≤◌, zero, suc, Option, Some, None, option_map, List, [], ◌∷◌, ◌++◌, refl, ap, sym, ◌∙◌, subst, arith}
use Rattle.hub_core.specs.Turns.{came_by, records_by}
use Rattle.tp_receiver.specs.Runs.{frames_in}
use Rattle.std.specs.Prelude.{option_to_list, slice_get}
use Rattle.std.proofs.lemmas.Option.{slice_get-map}
use Rattle.hub_core.specs.View.{View, Session, session_at}
use Rattle.hub_core.specs.declared.record.OpenedAt.{OpenedAt}
use Rattle.hub_core.specs.declared.record.SessionRecord.{SessionRecord}
use Rattle.tp_attempts.specs.Attempts.{attempts_in}
use Rattle.gw_law.specs.Pool.{IsWholeRun, Source}
use Rattle.receiver_law.specs.Source.{CountsFrom, Tells, sessions_in}
use Rattle.gw_law.proofs.deliveries.Deliveries.{find}
use Rattle.receiver_law.proofs.sessions.Entries.{Entry, entries_told, entry_told, writing}
use Rattle.receiver_law.proofs.sessions.Openings.{entries-are}
use Rattle.receiver_law.proofs.records.SourceLaws.{source_law_of}
use Rattle.gw_base.proofs.Lists.{mapped-at}

-- the numbers of the sessions after a record
record Further (first : ℕ) (told : SessionRecord) (records : List SessionRecord) : Type 0 where
  next : ℕ
  le : first ≤ next
  counts : CountsFrom next (sessions_in records)
  own : (opened : OpenedAt) → told.opened ≡ Some opened → (opened.seq ≡ first) × (next ≡ first + 1)
  entries : (k : ℕ) (entry : Entry) → slice_get (entries_told records) k ≡ Some entry → (j : ℕ) × (next + k ≡ first + j) × (slice_get (entries_told (told ∷ records)) j ≡ Some entry)

further-by : (first : ℕ) (told : SessionRecord) (records : List SessionRecord) (was : Option OpenedAt) → told.opened ≡ was → CountsFrom first (option_to_list (option_map (λ (o : OpenedAt). o.seq) was) ++ sessions_in records) → Further first told records
further-by first told records None is counts = record { next = first; le = omega arith; counts = counts; own = λ opened at. absurd cc; entries = λ k entry there. (k, refl, rw is there) }
further-by first told records (Some was) is counts = record {
  next = first + 1;
  le = omega arith;
  counts = counts.1;
  own = λ opened at. let one : Some was ≡ Some opened = sym is ∙ at in let same : was ≡ opened = cc in (ap (λ (o : OpenedAt). o.seq) (sym same) ∙ counts.0, refl);
  entries = λ k entry there. (suc k, omega arith, rw is there);
}

further : (first : ℕ) (told : SessionRecord) (records : List SessionRecord) → CountsFrom first (sessions_in (told ∷ records)) → Further first told records
further first told records counts = further-by first told records told.opened refl counts

-- where a record's session stands among all
entry-at : (first : ℕ) (records : List SessionRecord) (place : ℕ) (told : SessionRecord) (opened : OpenedAt) → CountsFrom first (sessions_in records) → slice_get records place ≡ Some told → told.opened ≡ Some opened →
    (k : ℕ) × (opened.seq ≡ first + k) × (slice_get (entries_told records) k ≡ Some (entry_told told opened))
entry-at first [] place told opened counts there is = absurd cc
entry-at first (head ∷ records) zero told opened counts there is =
    let same : head ≡ told = cc in
    let on = further first head records counts in
    let at : head.opened ≡ Some opened = ap (λ (r : SessionRecord). r.opened) same ∙ is in
    (0, omega (arith, (on.own opened at).0), rw at (ap (λ (r : SessionRecord). Some (entry_told r opened)) same))
entry-at first (head ∷ records) (suc place) told opened counts there is =
    let on = further first head records counts in
    let later = entry-at on.next records place told opened on.counts there is in
    let up = on.entries later.0 (entry_told told opened) later.2 in
    (up.0, later.1 ∙ up.1, up.2)

pub same-place : (first : ℕ) (records : List SessionRecord) (place other : ℕ) (told another : SessionRecord) (opened reopened : OpenedAt) → CountsFrom first (sessions_in records) → slice_get records place ≡ Some told → slice_get records other ≡ Some another →
    told.opened ≡ Some opened → another.opened ≡ Some reopened → opened.seq ≡ reopened.seq → place ≡ other
same-place first [] place other told another opened reopened counts there here is at same = absurd cc
same-place first (head ∷ records) zero zero told another opened reopened counts there here is at same = refl
same-place first (head ∷ records) zero (suc other) told another opened reopened counts there here is at same =
    let equal : head ≡ told = cc in
    let on = further first head records counts in
    let own = on.own opened (ap (λ (r : SessionRecord). r.opened) equal ∙ is) in
    absurd (omega (arith, own.0, own.1, (entry-at on.next records other another reopened on.counts here at).1, same))
same-place first (head ∷ records) (suc place) zero told another opened reopened counts there here is at same =
    let equal : head ≡ another = cc in
    let on = further first head records counts in
    let own = on.own reopened (ap (λ (r : SessionRecord). r.opened) equal ∙ at) in
    absurd (omega (arith, own.0, own.1, (entry-at on.next records place told opened on.counts there is).1, same))
same-place first (head ∷ records) (suc place) (suc other) told another opened reopened counts there here is at same =
    let on = further first head records counts in
    ap suc (same-place on.next records place other told another opened reopened on.counts there here is at same)

-- the sessions of the view are those that the records tell
pub record IsOpenedBy (v : View) (path : ℕ) (opened : OpenedAt) : Type 0 where
  pub session : Session
  pub there : session_at v path opened.seq ≡ Some session
  pub number : session.number ≡ opened.change
  pub buf : session.buf ≡ opened.buf.0

pub opened-by : {groups : List (List ℕ)} {group : ℕ} (v : View) (source : Source) (place : ℕ) (told : SessionRecord) (opened : OpenedAt) → IsWholeRun groups group v source → slice_get (records_by source.turns) place ≡ Some told → told.opened ≡ Some opened → IsOpenedBy v source.set.path.0 opened
opened-by v source place told opened run there is =
    let path : ℕ = source.set.path.0 in
    let at = entry-at 0 (records_by source.turns) place told opened (source_law_of source.set source.turns run.received run.idle).sessions there is in
    let one = mapped-at (writing path).fixed at.0 (v.sessions path) (entry_told told opened) (ap (λ l. slice_get l at.0) (entries-are source.set source.turns v run.received run.idle run.sessions) ∙ at.2) in
    let number : at.0 ≡ opened.seq = omega (arith, at.1) in
    let P : ℕ → Type 0 = λ k. slice_get (v.sessions path) k ≡ Some one.0 in
    record { session = one.0; there = subst P number one.1; number = ap (λ (e : Entry). e.change) one.2; buf = ap (λ (e : Entry). e.buf) one.2 }

-- and each session of the path is one of them
pub record IsTold (records : List SessionRecord) (number buf : ℕ) : Type 0 where
  pub place : ℕ
  pub told : SessionRecord
  pub told_is : slice_get records place ≡ Some told
  pub opened : OpenedAt
  pub opened_is : told.opened ≡ Some opened
  pub change_is : opened.change ≡ number
  pub buf_is : opened.buf.0 ≡ buf

pub told-by : {groups : List (List ℕ)} {group : ℕ} (v : View) (source : Source) (seq : ℕ) (s : Session) → IsWholeRun groups group v source → session_at v source.set.path.0 seq ≡ Some s → IsTold (records_by source.turns) s.number s.buf
told-by v source seq s run at =
    let path : ℕ = source.set.path.0 in
    let law = source_law_of source.set source.turns run.received run.idle in
    let entry : slice_get (entries_told (records_by source.turns)) seq ≡ Some ((writing path).fixed s) =
    ap (λ l. slice_get l seq) (sym (entries-are source.set source.turns v run.received run.idle run.sessions)) ∙ slice_get-map (writing path).fixed (v.sessions path) seq ∙ ap (option_map (writing path).fixed) at in
    let found = find (Tells source.set.chan.0 source.set.a) (attempts_in source.set.functional (came_by frames_in source.turns)) (records_by source.turns) 0 seq ((writing path).fixed s) law.tells law.sessions entry in
    record { place = found.place; told = found.session; told_is = found.session_is; opened = found.opened; opened_is = found.opened_is; change_is = ap (λ (e : Entry). e.change) found.entry_is; buf_is = ap (λ (e : Entry). e.buf) found.entry_is }
