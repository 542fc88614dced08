-- What a hub keeps of itself as it goes on, and that each exact answer of a port is a step that may happen.
use Rattle.std.proofs.Common.{◌≡◌, ℕ, ◌+◌, ◌<◌, ◌≤◌, inl, inr, zero, suc, Bool, true, false, List, [], ◌∷◌, ◌++◌, length, take, Option, Some, None, refl, ap, sym, ◌∙◌, subst, arith}
use Rattle.std.proofs.lemmas.Bool.{cases_lt}
use Rattle.std.specs.Prelude.{slice_get, if◌then◌else◌}
use Rattle.gw_base.specs.Cell.{IsCell, count_of, counted}
use Rattle.hub_core.proofs.EveryStep.{Lawful, lawful-of}
use Rattle.hub_core.proofs.Quiet.{law}
use Rattle.hub_core.proofs.Sure.{sure-joint}
use Rattle.hub_core.specs.Alone.{IsRoomOf, IsSeenOf}
use Rattle.hub_core.specs.Core.{Step, after, May, MayDo, Leads, IsLed, LedLaw, LeadingLaw}
use Rattle.hub_core.specs.Floors.{staying, has_left}
use Rattle.hub_core.specs.Joint.{AreStreams}
use Rattle.hub_core.specs.Tokens.{Holds, Writes, Reads}
use Rattle.hub_core.specs.View.{View, Session, Reading, session_at, reading_at, empty_view, Entered, Asked, Put, Published, Saw, Read, Closed, Parted}
use Rattle.hub_core.specs.declared.port.Room.{Room}
use Rattle.hub_core.specs.declared.port.Seen.{Seen}
use Rattle.hub_core.specs.declared.token.Held.{Held}
use Rattle.hub_core.specs.declared.token.Joined.{Joined}
use Rattle.hub_core.specs.declared.token.Opened.{Opened}

pub leads-more : (groups : List (List ℕ)) (steps : List Step) (step : Step) (v last : View) → Leads groups v steps last → May groups last step → Leads groups v (steps ++ step ∷ []) (after step last)
leads-more groups [] step v last is may = subst (λ (x : View). Leads groups x (step ∷ []) (after step last)) is (inl (may, refl))
leads-more groups (first ∷ steps) step v last led may = elim led [
  | inl did ↦ inl (did.0, leads-more groups steps step (after first v) last did.1 may)
  | inr stayed ↦ inr (stayed.0, leads-more groups steps step v last stayed.1 may)
]

-- every list of steps leads to just one state
leads-some : (groups : List (List ℕ)) (v : View) (steps : List Step) → ((last : View) → Leads groups v steps last → ⊥) → ⊥
leads-some groups v [] none = none v refl
leads-some groups v (step ∷ steps) none =
    let may-not : May groups v step → ⊥ = λ may. leads-some groups (after step v) steps (λ last led. none last (inl (may, led))) in
    leads-some groups v steps (λ last led. none last (inr (may-not, led)))

leads-one : (groups : List (List ℕ)) (v : View) (steps : List Step) (last other : View) → Leads groups v steps last → Leads groups v steps other → last ≡ other
leads-one groups v [] last other is too = is ∙ sym too
leads-one groups v (step ∷ steps) last other led too = elim led [
  | inl did ↦ elim too [ inl again ↦ leads-one groups (after step v) steps last other did.1 again.1 | inr not ↦ absurd (not.0 did.0) ]
  | inr stayed ↦ elim too [ inl did ↦ absurd (stayed.0 did.0) | inr again ↦ leads-one groups v steps last other stayed.1 again.1 ]
]

pub leading : LeadingLaw
leading groups v steps = record { some = leads-some groups v steps; one = leads-one groups v steps }

-- at the opening, and after each step that may happen
pub led-opening : (groups : List (List ℕ)) → IsLed groups empty_view
led-opening groups not = not [] refl

pub led-by : (groups : List (List ℕ)) (step : Step) (v next : View) → next ≡ after step v → (Lawful groups v → May groups v step) → IsLed groups v → IsLed groups next
led-by groups step v next is may led not =
    led (λ steps leads. not (steps ++ step ∷ []) (subst (Leads groups empty_view (steps ++ step ∷ [])) (sym is) (leads-more groups steps step empty_view v leads (may (lawful-of groups steps v leads)))))

pub led : LedLaw
led groups v is quiet = sure-joint groups v quiet (λ not. is (λ steps leads. not (law groups steps v leads quiet)))

-- a session is entered in a buffer that is held
pub entered-may : (v : View) (held : Held) (path seq len readers : ℕ) → Holds v held → length (v.sessions path) ≡ seq → 0 < len → 0 < readers → MayDo v (Entered path seq held.buf.0 held.change held.cells len readers)
entered-may v held path seq len readers holds number some readers-some = (holds, sym number, some, readers-some)

-- a cell is put where the token has room, and published
pub put-may : (v : View) (t : Opened) (cell : ℕ) → Writes v t → 0 < t.room → IsCell cell → t.given + count_of cell ≤ t.len → MayDo v (Put t.path.0 t.seq cell)
put-may v t cell known room word fits =
    (known.session, (known.known, known.says.stands), omega (arith, known.says.room, room), word, omega (arith, known.says.given, known.says.len, fits))

pub published-may : (v : View) (t : Opened) (bytes : ℕ) → Writes v t → t.told + bytes ≡ t.given → MayDo v (Published t.path.0 t.seq bytes)
published-may v t bytes known all = (known.session, (known.known, known.says.stands), omega (arith, known.says.told, known.says.given, all))

-- who isn't counted has left
none-stay : (parted : ℕ → Bool) (dests dest : ℕ) → staying parted dests ≡ 0 → dest < dests → parted dest ≡ true
none-stay parted zero dest none below = absurd (omega (arith, below))
none-stay parted (suc dests) dest none below = elim (cases_lt dest dests) [
  | inl low ↦ none-stay parted dests dest (omega (arith, none)) low
  | inr at ↦ (let same : dest ≡ dests = omega (arith, at, below) in ap parted same ∙ one (parted dests) (omega (arith, none)))
]
  where
    one : (b : Bool) → (let n : ℕ = (if b then 0 else 1) in n) ≡ 0 → b ≡ true
    one true is = refl
    one false is = absurd (omega (arith, is))

left-now : (found : Option Reading) → has_left (λ r. r.stands) found ≡ true → (r : Reading) × (found ≡ Some r) × (r.stands ≡ false)
left-now None left = absurd cc
left-now (Some r) left = (r, refl, stood r.stands left)
  where
    stood : (b : Bool) → (if b then false else true) ≡ true → b ≡ false
    stood true is = absurd cc
    stood false is = refl

-- an exact look at the positions, and at the count
pub asked-may : (v : View) (t : Opened) (room : Room) → Writes v t → IsRoomOf v t.path.0 t.seq room → room.cells ≤ t.cells → MayDo v (Asked t.path.0 t.seq room.cells room.readers)
asked-may v t room known exact most = record {
  session = known.session;
  stands = (known.known, known.says.stands);
  most = omega (arith, known.says.size, most);
  room = (exact known.session known.known).each;
  none = λ no-one dest below. left-now _ (none-stay (λ d. has_left (λ r. r.stands) (reading_at v t.path.0 d t.seq)) known.session.dests dest (omega (arith, (exact known.session known.known).readers, no-one)) below);
}

pub saw-may : (v : View) (t : Joined) (seen : Seen) → AreStreams v → Reads v t → t.seen ≤ seen.cells → IsSeenOf v t.path.0 t.seq seen → MayDo v (Saw t.path.0 t.dest.0 t.seq seen.cells seen.bytes seen.writer)
saw-may v t seen streams known rises exact =
    let joined = streams.joined t.path.0 t.dest.0 t.seq known.reading known.known in
    let its = exact joined.0 joined.1 in
    record {
      reading = known.reading;
      session = joined.0;
      reads = (known.known, known.says.stands);
      known = joined.1;
      rises = omega (arith, known.says.seen, rises);
      shown = omega (arith, its.0);
      counts = its.1 ∙ (streams.written t.path.0 t.seq joined.0 joined.1).told ∙ ap (λ n. counted (take n joined.0.cells)) (sym its.0);
      last = λ gone. (sym its.2 ∙ gone, its.0);
    }

-- the session's next cell is read
pub read-may : (v : View) (t : Joined) (cell : ℕ) → AreStreams v → Reads v t → t.at < t.seen → ((s : Session) → session_at v t.path.0 t.seq ≡ Some s → slice_get s.cells t.at ≡ Some cell) → MayDo v (Read t.path.0 t.dest.0 t.seq cell)
read-may v t cell streams known more next =
    let joined = streams.joined t.path.0 t.dest.0 t.seq known.reading known.known in
    record {
      session = joined.0;
      reading = known.reading;
      reads = (known.known, known.says.stands);
      known = joined.1;
      more = omega (arith, known.says.at, known.says.seen, more);
      cell_is = ap (slice_get joined.0.cells) known.says.at ∙ next joined.0 joined.1;
    }

-- a party leaves
pub closed-may : (v : View) (t : Opened) → Writes v t → MayDo v (Closed t.path.0 t.seq [])
closed-may v t known = (known.session, (known.known, known.says.stands), refl)

pub parted-may : (v : View) (t : Joined) → Reads v t → MayDo v (Parted t.path.0 t.dest.0 t.seq [])
parted-may v t known = (known.reading, (known.known, known.says.stands), refl)
