-- What a view has of the sessions that a receiver's records tell: the writer left them, with all their bytes published.
use Rattle.std.proofs.Common.{◌≡◌, ◌≢◌, ℕ, ◌+◌, ◌*◌, ◌≤◌, true, false, Option, Some, None, List, [], ◌∷◌, ◌++◌, length, refl, ap, sym, ◌∙◌, arith, inl, inr}
use Rattle.tp_receiver.specs.State.{Reception}
use Rattle.std.specs.Prelude.{slice_get}
use Rattle.std.specs.List.{AllByRecursion}
use Rattle.std.proofs.lemmas.Bool.{cases_eq}
use Rattle.std.proofs.lemmas.List.{length-append}
use Rattle.hub_core.proofs.Growing.{length-change_at, slice_get-change_at, slice_get-pushed}
use Rattle.hub_core.specs.View.{Session, change_at, session_new}
use Rattle.hub_core.specs.declared.record.OpenedAt.{OpenedAt}
use Rattle.hub_core.specs.declared.record.SessionRecord.{SessionRecord}
use Rattle.hub_core.specs.declared.record.SessionResult.TheVariants.{NoReaders, NoRoom}
use Rattle.tp_receiver.specs.declared.set.RxSet.{RxSet}
use Rattle.hub_core.proofs.Changed.{Before, Has, Last, Pushed, has-last, has-more, other-place, pushed}
use Rattle.gw_base.proofs.Lists.{all-push, all-weaker, slice_get-more}

-- a session: all its cells and so many bytes are published, for the path's destinations
pub record IsPut (set : RxSet) (len bytes : ℕ) (s : Session) : Type 0 where
  pub len_is : s.len ≡ len
  pub told : s.told ≡ bytes
  pub shown : s.shown ≡ length s.cells
  pub full : s.told ≤ 7 * length s.cells
  pub dests : s.dests ≡ set.readers

-- the session of a record that opened one: its writer left, and where that was for want of readers it saw none, for want of room that room
pub record IsLeft (set : RxSet) (sessions : List Session) (told : SessionRecord) (opened : OpenedAt) : Type 0 where
  pub session : Session
  pub there : slice_get sessions opened.seq ≡ Some session
  pub put : IsPut set told.len told.bytes session
  pub stands : session.stands ≡ false
  pub none : told.result ≡ NoReaders → session.readers ≡ 0
  pub full : (room need : ℕ) → told.result ≡ NoRoom room need → session.room ≡ room

abbrev pub IsLeftBy : RxSet → List Session → SessionRecord → Type 0
IsLeftBy set sessions told = (opened : OpenedAt) → told.opened ≡ Some opened → IsLeft set sessions told opened

-- the record that opened the session with that number
abbrev pub IsOpenedAs : ℕ → SessionRecord → Type 0
IsOpenedAs seq told = (opened : OpenedAt) × (told.opened ≡ Some opened) × (opened.seq ≡ seq)

-- the session that is being received: its number, its length, the bytes put
pub record Filling : Type 0 where
  pub at : ℕ
  pub len : ℕ
  pub bytes : ℕ

abbrev pub filling_of : Reception → Filling
filling_of busy = record { at = busy.opened.seq; len = busy.len; bytes = busy.bytes }

pub record IsFilling (set : RxSet) (sessions : List Session) (f : Filling) : Type 0 where
  pub session : Session
  pub there : slice_get sessions f.at ≡ Some session
  pub put : IsPut set f.len f.bytes session
  pub stands : session.stands ≡ true

abbrev pub IsFillingBy : RxSet → List Session → Option Filling → Type 0
IsFillingBy set sessions None = Unit {0}
IsFillingBy set sessions (Some f) = IsFilling set sessions f

-- the path's sessions are those of the records and the one that is being received
pub record Known (set : RxSet) (sessions : List Session) (records : List SessionRecord) (seq : ℕ) (f : Option Filling) : Type 0 where
  pub number : length sessions ≡ seq
  pub told : AllByRecursion (IsLeftBy set sessions) records
  pub left : (k : ℕ) (s : Session) → slice_get sessions k ≡ Some s → s.stands ≡ false → Has (IsOpenedAs k) records
  pub going : IsFillingBy set sessions f

stands-both : (s t : Session) → s ≡ t → s.stands ≡ false → t.stands ≡ true → ⊥
stands-both s t same left stands = let no : false ≡ true = sym left ∙ ap (λ (x : Session). x.stands) same ∙ stands in cc

-- a record that opens nothing
pub known-refused : (set : RxSet) (sessions : List Session) (records : List SessionRecord) (seq : ℕ) (f : Option Filling) (told : SessionRecord) → told.opened ≡ None → Known set sessions records seq f → Known set sessions (records ++ told ∷ []) seq f
known-refused set sessions records seq f told none known = record {
  number = known.number;
  told = all-push (IsLeftBy set sessions) records told known.told (λ opened is. cc);
  left = λ k s is left. has-more (IsOpenedAs k) records (told ∷ []) (known.left k s is left);
  going = known.going;
}

-- a session is entered
entered-left : (records : List SessionRecord) (sessions : List Session) (new : Session) (k : ℕ) (s : Session) → new.stands ≡ true → s.stands ≡ false → ((k : ℕ) (s : Session) → slice_get sessions k ≡ Some s → s.stands ≡ false → Has (IsOpenedAs k) records) →
    Pushed sessions new k s → Has (IsOpenedAs k) records
entered-left records sessions new k s stands left known (Before is) = known k s is left
entered-left records sessions new k s stands left known (Last same) = absurd (stands-both s new same left stands)

pub known-entered : (set : RxSet) (sessions : List Session) (records : List SessionRecord) (seq buf number size len : ℕ) → Known set sessions records seq None →
    Known set (sessions ++ session_new buf number size len set.readers ∷ []) records (seq + 1) (Some (record { at = seq; len = len; bytes = 0 }))
known-entered set sessions records seq buf number size len known =
    let new : Session = session_new buf number size len set.readers in
    record {
      number = omega (arith, length-append sessions (new ∷ []), known.number);
      told = all-weaker (IsLeftBy set sessions) (IsLeftBy set (sessions ++ new ∷ [])) records (λ told is opened at.
          let so : IsLeft set sessions told opened = is opened at in
          record { session = so.session; there = slice_get-more sessions (new ∷ []) opened.seq so.session so.there; put = so.put; stands = so.stands; none = so.none; full = so.full }) known.told;
      left = λ k s is left. entered-left records sessions new k s refl left known.left (pushed k sessions new s is);
      going = record { session = new; there = slice_get-pushed sessions new seq known.number; put = record { len_is = refl; told = refl; shown = refl; full = omega arith; dests = refl }; stands = refl };
    }

-- the session that is being received changes
not-same : (sessions : List Session) (k at : ℕ) (s t : Session) → slice_get sessions k ≡ Some s → s.stands ≡ false → slice_get sessions at ≡ Some t → t.stands ≡ true → k ≢ at
not-same sessions k at s t there left other stands same = stands-both s t (let is : Some s ≡ Some t = sym there ∙ ap (slice_get sessions) same ∙ other in cc) left stands

changed-told : (set : RxSet) (sessions : List Session) (f : Filling) (change : Session → Session) (records : List SessionRecord) → IsFilling set sessions f → AllByRecursion (IsLeftBy set sessions) records → AllByRecursion (IsLeftBy set (change_at f.at change sessions)) records
changed-told set sessions f change records going told =
    all-weaker (IsLeftBy set sessions) (IsLeftBy set (change_at f.at change sessions)) records (λ told is opened at.
    let so : IsLeft set sessions told opened = is opened at in
    record {
      session = so.session;
      there = other-place opened.seq f.at change sessions (not-same sessions opened.seq f.at so.session going.session so.there so.stands going.there going.stands) ∙ so.there;
      put = so.put;
      stands = so.stands;
      none = so.none;
      full = so.full;
    }) told

pub known-changed : (set : RxSet) (sessions : List Session) (records : List SessionRecord) (seq bytes : ℕ) (f : Filling) (change : Session → Session) → ((s : Session) → (change s).stands ≡ s.stands) →
    ((s : Session) → IsPut set f.len f.bytes s → IsPut set f.len bytes (change s)) → Known set sessions records seq (Some f) → Known set (change_at f.at change sessions) records seq (Some (record f { bytes = bytes }))
known-changed set sessions records seq bytes f change keeps puts known =
    let s : Session = known.going.session in
    record {
      number = length-change_at f.at change sessions ∙ known.number;
      told = changed-told set sessions f change records known.going known.told;
      left = λ k x is left. elim (cases_eq k f.at) [
        | inl same ↦ absurd (stands-both x (change s) (let both : Some x ≡ Some (change s) = sym is ∙ ap (slice_get (change_at f.at change sessions)) same ∙ slice_get-change_at f.at change sessions s known.going.there in cc) left (keeps s ∙ known.going.stands))
        | inr ne ↦ known.left k x (sym (other-place k f.at change sessions ne) ∙ is) left
      ];
      going = record { session = change s; there = slice_get-change_at f.at change sessions s known.going.there; put = puts s known.going.put; stands = keeps s ∙ known.going.stands };
    }

-- its writer leaves, and it is told
pub known-closed : (set : RxSet) (sessions : List Session) (records : List SessionRecord) (seq : ℕ) (f : Filling) (told : SessionRecord) (opened : OpenedAt) → told.opened ≡ Some opened → opened.seq ≡ f.at → told.len ≡ f.len → told.bytes ≡ f.bytes →
    ((s : Session) → slice_get sessions f.at ≡ Some s → told.result ≡ NoReaders → s.readers ≡ 0) → ((s : Session) → slice_get sessions f.at ≡ Some s → (room need : ℕ) → told.result ≡ NoRoom room need → s.room ≡ room) → Known set sessions records seq (Some f) →
    Known set (change_at f.at (λ s. record s { stands = false }) sessions) (records ++ told ∷ []) seq None
known-closed set sessions records seq f told opened opened_is at len bytes none full known =
    let change : Session → Session = λ s. record s { stands = false } in
    let s : Session = known.going.session in
    let put : IsPut set f.len f.bytes s = known.going.put in
    let last : slice_get (change_at f.at change sessions) f.at ≡ Some (change s) = slice_get-change_at f.at change sessions s known.going.there in
    record {
      number = length-change_at f.at change sessions ∙ known.number;
      told = all-push (IsLeftBy set (change_at f.at change sessions)) records told (changed-told set sessions f change records known.going known.told) (λ other is.
          let same : other ≡ opened = (let both : Some other ≡ Some opened = sym is ∙ opened_is in cc) in
          record {
            session = change s;
            there = ap (λ (o : OpenedAt). slice_get (change_at f.at change sessions) o.seq) same ∙ ap (slice_get (change_at f.at change sessions)) at ∙ last;
            put = record { len_is = put.len_is ∙ sym len; told = put.told ∙ sym bytes; shown = put.shown; full = put.full; dests = put.dests };
            stands = refl;
            none = none s known.going.there;
            full = full s known.going.there;
          });
      left = λ k x is left. elim (cases_eq k f.at) [
        | inl same ↦ has-last (IsOpenedAs k) records told (opened, opened_is, at ∙ sym same)
        | inr ne ↦ has-more (IsOpenedAs k) records (told ∷ []) (known.left k x (sym (other-place k f.at change sessions ne) ∙ is) left)
      ];
      going = tt;
    }
