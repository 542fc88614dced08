-- What a sender's steps leave standing of its destination's readings.
use Rattle.std.proofs.Common.{◌≡◌, ℕ, ◌+◌, Option, Some, None, option_map, List, [], ◌∷◌, ◌++◌, refl, ap, sym, ◌∙◌, subst, append-nil}
use Rattle.tp_sender.specs.Runs.{HasSent}
use Rattle.tp_sender.specs.State.{TxTurn, tx_new, Transmission}
use Rattle.hub_core.specs.Turns.{calls_by, state_after}
use Rattle.hub_core.specs.Calls.{freed_by}
use Rattle.std.specs.Prelude.{false, map}
use Rattle.std.specs.List.{AllByRecursion}
use Rattle.hub_core.specs.View.{View, Event, Reading, at_two, change_at, reading_new, grow, grows, Joining, Missed, Read, Parted}
use Rattle.hub_core.specs.declared.port.Seen.{Seen as Look}
use Rattle.hub_core.specs.declared.port.Left.{Left as LeftOver}
use Rattle.hub_core.specs.declared.port.Left.TheVariants.{Others, Last}
use Rattle.tp_sender.specs.declared.event.TxEvent.{TxEvent}
use Rattle.tp_sender.specs.declared.set.TxSet.{TxSet}
use Rattle.tp_sender.specs.Effects.{MayBe, TxStage, TxDone, TxEffect, done_by, found_by}
use Rattle.tp_sender.specs.Effects.{Misses, Joins, Looks, Reads, Offers, Leaves, Waits, Ends}
use Rattle.tp_sender.specs.Table.{look_at}
use Rattle.tp_sender.proofs.Effects.{IsDoneLaw, of-step}
use Rattle.tp_sender.proofs.Made.{amid}
use Rattle.hub_core.proofs.Standing.{Frees, Stands, WasRead, read-changed, read-joined, read-left, stands-read}
use Rattle.hub_core.proofs.Growing.{at_two-same, grows-append}

-- the session that is sent
abbrev pub session_of : Option Transmission → Option ℕ
session_of live = option_map (λ (s : Transmission). s.seq) live

-- calls that lead from so many sessions joined, and the one that is read, to others
abbrev pub Steps : TxSet → ℕ → Option ℕ → List Event → ℕ → Option ℕ → Type 0
Steps set m going calls k after = (dests n : ℕ) (writes : Option ℕ) (v : View) → Stands set.path.0 set.dest.0 dests n writes m going v → Stands set.path.0 set.dest.0 dests n writes k after (grows calls v)

-- what calls lead to
abbrev StepsOf : TxSet → TxStage → TxDone → Type 0
StepsOf set p d = Steps set p.next (session_of p.live) d.calls d.new.next (session_of d.new.live)

silent : (set : TxSet) (m : ℕ) (going : Option ℕ) → Steps set m going [] m going
silent set m going dests n writes v so = so

parts : (set : TxSet) (a b c : ℕ) (x y z : Option ℕ) (calls before rest : List Event) → calls ≡ before ++ rest → Steps set a x before b y → Steps set b y rest c z → Steps set a x calls c z
parts set a b c x y z calls before rest is first second dests n writes v so =
    let P : View → Type 0 = λ w. Stands set.path.0 set.dest.0 dests n writes c z w in
    subst P (sym (ap (λ l. grows l v) is ∙ grows-append before rest v)) (second dests n writes (grows before v) (first dests n writes v so))

-- each call
frees : (left : LeftOver) → AllByRecursion Frees (freed_by left)
frees Others = tt
frees (Last change buf) = (tt, tt)

-- a call that makes the destination's readings anew, and frees nothing
anew : (set : TxSet) (dests n m k : ℕ) (writes before after : Option ℕ) (v w : View) (readings : List Reading) → w.sessions ≡ v.sessions → w.changes ≡ v.changes → w.readings ≡ at_two set.path.0 set.dest.0 readings v.readings → WasRead k after readings →
    Stands set.path.0 set.dest.0 dests n writes m before v → Stands set.path.0 set.dest.0 dests n writes k after w
anew set dests n m k writes before after v w readings same changes grown read so =
    stands-read set.path.0 set.dest.0 dests n m k writes before after v w [] readings same (changes ∙ sym (append-nil v.changes)) tt (ap (λ (r : ℕ → ℕ → List Reading). r set.path.0 set.dest.0) grown ∙ at_two-same set.path.0 set.dest.0 readings v.readings) read so

missed : (set : TxSet) (m seq : ℕ) (going : Option ℕ) → Steps set m going (Missed set.group.0 set.path.0 set.dest.0 seq ∷ []) m going
unfolding grow
missed set m seq going dests n writes v so = so

joining : (set : TxSet) (m seq buf len : ℕ) → Steps set m None (Joining set.path.0 set.dest.0 seq buf len ∷ []) (m + 1) (Some m)
unfolding grow
joining set m seq buf len dests n writes v so =
    let known : List Reading = v.readings set.path.0 set.dest.0 in
    anew set dests n m (m + 1) writes None (Some m) v (grow (Joining set.path.0 set.dest.0 seq buf len) v) (known ++ reading_new buf len ∷ []) refl refl refl (read-joined m (reading_new buf len) known so.read) so

saw : (set : TxSet) (m : ℕ) (going : Option ℕ) (s : Transmission) (look : Look) → Steps set m going (look_at set s look ∷ []) m going
unfolding grow
saw set m going s look dests n writes v so =
    let f : Reading → Reading = λ r. record r { seen = look.cells; bytes = look.bytes; writer = look.writer } in
    let known : List Reading = v.readings set.path.0 set.dest.0 in
    anew set dests n m m writes going going v (grow (look_at set s look) v) (change_at s.seq f known) refl refl refl (read-changed m s.seq going f known (λ r. refl) so.read) so

read : (set : TxSet) (m seq cell : ℕ) (going : Option ℕ) → Steps set m going (Read set.path.0 set.dest.0 seq cell ∷ []) m going
unfolding grow
read set m seq cell going dests n writes v so =
    let f : Reading → Reading = λ r. record r { cells = r.cells ++ cell ∷ [] } in
    let known : List Reading = v.readings set.path.0 set.dest.0 in
    anew set dests n m m writes going going v (grow (Read set.path.0 set.dest.0 seq cell) v) (change_at seq f known) refl refl refl (read-changed m seq going f known (λ r. refl) so.read) so

parted : (set : TxSet) (m seq : ℕ) (left : LeftOver) → Steps set m (Some seq) (Parted set.path.0 set.dest.0 seq (freed_by left) ∷ []) m None
unfolding grow
parted set m seq left dests n writes v so =
    let known : List Reading = v.readings set.path.0 set.dest.0 in
    let later : List Reading = change_at seq (λ r. record r { stands = false }) known in
    stands-read set.path.0 set.dest.0 dests n m m writes (Some seq) None v (grow (Parted set.path.0 set.dest.0 seq (freed_by left)) v) (freed_by left) later refl refl (frees left) (at_two-same set.path.0 set.dest.0 later v.readings)
    (read-left m seq known so.read) so

reads : (set : TxSet) (m seq : ℕ) (going : Option ℕ) (cells : List ℕ) → Steps set m going (map (Read set.path.0 set.dest.0 seq) cells) m going
reads set m seq going [] = silent set m going
reads set m seq going (cell ∷ cells) =
    parts set m m m going going going (map (Read set.path.0 set.dest.0 seq) (cell ∷ cells)) (Read set.path.0 set.dest.0 seq cell ∷ []) (map (Read set.path.0 set.dest.0 seq) cells) refl (read set m seq cell going) (reads set m seq going cells)

-- each effect
each : (set : TxSet) (tick : ℕ) (event : TxEvent) (look : Option Look) (next : ℕ) (effect : TxEffect) → MayBe set tick event look effect → StepsOf set (amid event look next (found_by effect)) (done_by set tick (amid event look next (found_by effect)) effect)
each set tick event look next Misses may = missed set next next None
each set tick event look next (Joins buf len) may = joining set next next buf len
each set tick event look next (Looks s seen) may = saw set next (Some s.seq) s seen
each set tick event look next (Reads s cells) may = reads set next s.seq (Some s.seq) cells
each set tick event look next (Offers s) may = silent set next (Some s.seq)
each set tick event look next (Leaves s sent number block phase) may = silent set next (Some s.seq)
each set tick event look next (Waits s phase block gap) may = silent set next (Some s.seq)
each set tick event look next (Ends s sent act result left) may = parted set next s.seq left

law : (set : TxSet) (tick : ℕ) → IsDoneLaw set tick (StepsOf set)
law set tick = record {
  none = λ p. silent set p.next (session_of p.live);
  then = λ p first later one two. parts set p.next first.new.next later.new.next (session_of p.live) (session_of first.new.live) (session_of later.new.live) (first.calls ++ later.calls) first.calls later.calls refl one two;
  each = each set tick;
}

-- the moments after earlier ones
pub moments-step : (set : TxSet) (moments earlier : List TxTurn) → HasSent set (moments ++ earlier) →
    Steps set (state_after tx_new earlier).next (session_of (state_after tx_new earlier).live) (calls_by moments) (state_after tx_new (moments ++ earlier)).next (session_of (state_after tx_new (moments ++ earlier)).live)
moments-step set [] earlier happened = λ dests n writes v so. so
moments-step set (m ∷ moments) earlier happened =
    let next : ℕ = (state_after tx_new (moments ++ earlier)).next in
    let live : Option Transmission = (state_after tx_new (moments ++ earlier)).live in
    parts set (state_after tx_new earlier).next next m.did.new.next (session_of (state_after tx_new earlier).live) (session_of live) (session_of m.did.new.live) (calls_by moments ++ m.did.calls) (calls_by moments) m.did.calls refl (moments-step set moments earlier happened.2) (of-step set (StepsOf set) (state_after tx_new (moments ++ earlier)) m.event m.did (law set m.did.tick) happened.1.1).holds
