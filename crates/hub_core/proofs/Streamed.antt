-- Each call of a party that may happen keeps all sessions in order, and who left stays away.
use Rattle.std.proofs.Common.{◌≡◌, ℕ, ◌+◌, ◌<◌, ◌≤◌, true, false, List, [], ◌∷◌, ◌++◌, length, take, subst}
use Rattle.std.proofs.Common.{Option, Some, None, arith, length-append}
use Rattle.std.proofs.lemmas.List.{take-append-le, take_all, take_more}
use Rattle.std.proofs.lemmas.List.Sums.{sum_by_push}
use Rattle.std.proofs.lemmas.Option.{slice_get_past, slice_get_within, get_or_from_slice_get}
use Rattle.std.specs.Prelude.{slice_get, option_map}
use Rattle.gw_base.specs.Cell.{count_of}
use Rattle.hub_core.proofs.Places.{each-session, each-entered, each-reading, each-joined}
use Rattle.hub_core.specs.Core.{MayDo}
use Rattle.hub_core.specs.Joint.{IsWritten, IsStream, AreStreams, HasRoom, HasLeftWriter}
use Rattle.hub_core.specs.View.{View, Session, Reading, session_at, reading_at, with_session, with_reading}
use Rattle.hub_core.specs.View.{reading_new, grow}
use Rattle.hub_core.specs.View.{Event, Took, Refused, Entered, Asked, Put, Published, Joining, Missed, Saw, Read, Closed, Parted}

-- what is so of a session and one that joined it
pub record Follows (s : Session) (dest : ℕ) (r : Reading) : Type 0 where
  pub stream : IsStream s r
  pub own : dest < s.dests
  pub none : s.readers ≡ 0 → (r.stands ≡ false) × (r.writer ≡ true)

-- what is so of a session and a destination, which joined it or may still
abbrev pub Serves : Session → (dest : ℕ) → Option Reading → Type 0
Serves s dest None = dest < s.dests → (length s.cells + s.room ≤ s.size) × (s.readers ≡ 0 → ⊥)
Serves s dest (Some r) = Follows s dest r

pub record Ordered (s : Session) (dest : ℕ) (found : Option Reading) : Type 0 where
  pub written : IsWritten s
  pub most : s.room ≤ s.size
  pub serves : Serves s dest found

-- a session is in order for each destination, and where there is none nobody joined it
abbrev pub Orders : Option Session → (dest : ℕ) → Option Reading → Type 0
Orders None dest found = found ≡ None
Orders (Some s) dest found = Ordered s dest found

abbrev pub Streamed : View → Type 0
Streamed v = (path dest seq : ℕ) → Orders (session_at v path seq) dest (reading_at v path dest seq)

-- a take of a buffer with so many cells, and a session's
pub record Take : Type 0 where
  pub buf : ℕ
  pub number : ℕ
  pub size : ℕ

abbrev pub take_of : Session → Take
take_of s = record { buf = s.buf; number = s.number; size = s.size }

-- the session that has the take is over for a destination: its writer has left, and so has the destination if it
-- is for it
abbrev pub HasEnded : Take → Option Session → (dest : ℕ) → Option Reading → Type 0
HasEnded t None dest found = ⊥
HasEnded t (Some s) dest found =
    (take_of s ≡ t) × (s.stands ≡ false) × (dest < s.dests → (r : Reading) × (found ≡ Some r) × (r.stands ≡ false))

-- a session and a reading of it become others: they are in order, and what is over stays so
abbrev pub GoesOn : Option Session → Option Reading → Option Session → (dest : ℕ) → Option Reading → Type 0
GoesOn old was new dest found =
    Orders new dest found × ((t : Take) → HasEnded t old dest was → HasEnded t new dest found)

-- so do all of a view
abbrev pub Goes : View → View → Type 0
Goes v w = (path dest seq : ℕ) → GoesOn (session_at v path seq) (reading_at v path dest seq)
    (session_at w path seq) dest (reading_at w path dest seq)

-- a list that begins another goes on by the next item
one-more : (xs ys : List ℕ) (y : ℕ) → xs ≡ take (length xs) ys → slice_get ys (length xs) ≡ Some y →
    xs ++ y ∷ [] ≡ take (length (xs ++ y ∷ [])) ys
one-more xs ys y is next =
    let more = take_more ys (length xs) y (slice_get_within ys (length xs) y next) in
    grind (arith, more, length-append xs (y ∷ []), get_or_from_slice_get ys (length xs) y y next)

module _ (v : View) (so : Streamed v) where
  -- a session becomes another one, with the same readings, or a reading of it becomes another one
  abbrev Turns : (path seq : ℕ) → Option Session → Type 0
  Turns path seq new = (dest : ℕ) → let o = reading_at v path dest seq in GoesOn (session_at v path seq) o new dest o

  abbrev TurnsFor : (path dest seq : ℕ) → Option Reading → Type 0
  TurnsFor path dest seq new = let s = session_at v path seq in GoesOn s (reading_at v path dest seq) s dest new

  same : Goes v v
  same path dest seq = (so path dest seq, λ t ended. ended)

  on-session : (path seq : ℕ) (f : Session → Session) → Turns path seq (option_map f (session_at v path seq)) →
      Goes v (with_session path seq f v)
  on-session path seq f new q d j = each-session Turns path v (λ p k d. same p d k) seq f new q j d

  on-reading : (path dest seq : ℕ) (f : Reading → Reading) →
      TurnsFor path dest seq (option_map f (reading_at v path dest seq)) → Goes v (with_reading path dest seq f v)
  on-reading path dest seq f new = each-reading TurnsFor path dest v same seq f new

  -- after a call of a party
  pub calls : (event : Event) → MayDo v event → Goes v (grow event v)
  unfolding grow
  calls (Took group number buf size need) may = absurd may
  calls (Refused group number free need) may = absurd may
  calls (Entered path seq buf number size len readers) may = λ q d j.
      let last = length (v.sessions path) in
      let none = slice_get_past (v.sessions path) last (omega arith) in
      each-entered Turns path v (λ p k d. same p d k) _ (λ d. grind (arith, so path d last, none, may)) q j d
  calls (Asked path seq cells readers) may = on-session path seq _ (λ d.
      let none = λ (no-one : readers ≡ 0). may.none no-one d in
      grind (arith, so path d seq, may.stands, may.most, may.room d, none))
  calls (Put path seq cell) may = on-session path seq _ (λ d.
      let xs = may.0.cells in
      let front = λ (k : ℕ) (below : k ≤ length xs). take-append-le k xs (cell ∷ []) below in
      grind (arith, so path d seq, may, length-append xs (cell ∷ []), sum_by_push count_of xs cell, front))
  calls (Published path seq bytes) may = on-session path seq _ (λ d.
      let xs = may.0.cells in
      grind (arith, so path d seq, may, take_all (length xs) xs (omega arith)))
  calls (Joining path dest seq buf len) may =
      let none = slice_get_past (v.readings path dest) seq (omega (arith, may.next)) in
      let new : TurnsFor path dest seq (Some (reading_new buf len)) = grind (arith, none, so path dest seq, may) in
      each-joined TurnsFor path dest v same _ (rw (← may.next) new)
  calls (Missed group path dest seq) may = same
  calls (Saw path dest seq cells bytes writer) may = on-reading path dest seq _ (grind (arith, so path dest seq, may))
  calls (Read path dest seq cell) may =
      let xs = may.reading.cells in
      on-reading path dest seq _
      (grind (arith, so path dest seq, may, length-append xs (cell ∷ []), one-more xs may.session.cells cell))
  calls (Closed path seq freed) may = on-session path seq _ (λ d. grind (arith, so path d seq, may))
  calls (Parted path dest seq freed) may = on-reading path dest seq _ (grind (arith, so path dest seq, may))

  -- what this says of a session, and of all
  order : (path seq dest : ℕ) (s : Session) → session_at v path seq ≡ Some s →
      Ordered s dest (reading_at v path dest seq)
  order path seq dest s at = subst (λ x. Orders x dest (reading_at v path dest seq)) at (so path dest seq)

  pub streams : AreStreams v
  streams = record {
    written = λ path seq s at. (order path seq 0 s at).written;
    joined = λ path dest seq r there. grind (arith, so path dest seq);
  }

  pub own : (path dest seq : ℕ) (s : Session) (r : Reading) → session_at v path seq ≡ Some s →
      reading_at v path dest seq ≡ Some r → dest < s.dests
  own path dest seq s r at there = grind (arith, order path seq dest s at)

  pub roomy : (path seq : ℕ) (s : Session) → session_at v path seq ≡ Some s → HasRoom v path seq s s.room
  roomy path seq s at dest below stays = grind (arith, order path seq dest s at)

  pub none : (path seq : ℕ) (s : Session) → session_at v path seq ≡ Some s → s.readers ≡ 0 →
      (dest : ℕ) → dest < s.dests → HasLeftWriter v path dest seq
  none path seq s at no-one dest below = grind (arith, order path seq dest s at)
