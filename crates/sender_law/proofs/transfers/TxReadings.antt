-- The readings that a sender's calls make: their lengths and cells are what it joined and read.
use Rattle.std.proofs.Common.{◌≡◌, ℕ, ◌+◌, ◌<◌, Option, Some, None, List, [], ◌∷◌, ◌++◌, map, length, refl, ap, ◌∙◌, arith, length-append}
use Rattle.std.proofs.lemmas.Grind.{flat_map-append}
use Rattle.std.specs.Prelude.{false}
use Rattle.tp_sender.specs.Runs.{HasSent, cell_read, len_joined}
use Rattle.tp_sender.specs.State.{TxTurn, tx_new, Transmission}
use Rattle.hub_core.specs.Turns.{calls_by, state_after}
use Rattle.hub_core.specs.View.{Event, Change, Reading, reading_new, grow, Joining, Missed, Saw, Read, Parted}
use Rattle.hub_core.specs.declared.port.Seen.{Seen as Look}
use Rattle.tp_sender.specs.declared.event.TxEvent.{TxEvent}
use Rattle.tp_sender.specs.declared.set.TxSet.{TxSet}
use Rattle.tp_sender.specs.Effects.{MayBe, TxStage, TxDone, TxEffect, done_by, found_by}
use Rattle.tp_sender.specs.Effects.{Misses, Joins, Looks, Reads, Offers, Leaves, Waits, Ends}
use Rattle.tp_sender.proofs.Effects.{HoldsOf, IsDoneLaw, of-step}
use Rattle.tp_sender.proofs.Made.{amid}
use Rattle.hub_core.proofs.Sides.{Fill, Side, added, fill-adds, fill-changes, fill-join, fill-none, fill-pushes, fill-same}
use Rattle.hub_core.proofs.Growing.{at_two-same}

-- the readings of a path and destination
abbrev pub reading : ℕ → ℕ → Side Reading ℕ
reading path dest = record { items = λ v. v.readings path dest; fixed = λ r. r.len; cells = λ r. r.cells; fixed_by = len_joined; cells_by = cell_read }

abbrev pub FillBy : TxSet → ℕ → List Event → Type 0
FillBy set n calls = Fill (reading set.path.0 set.dest.0) n calls

fill-missed : (set : TxSet) (n seq : ℕ) → FillBy set n (Missed set.group.0 set.path.0 set.dest.0 seq ∷ [])
unfolding grow
fill-missed set n seq = fill-same (reading set.path.0 set.dest.0) n (Missed set.group.0 set.path.0 set.dest.0 seq) refl (λ k. refl) (λ v. refl)

fill-joining : (set : TxSet) (n seq buf len : ℕ) → FillBy set n (Joining set.path.0 set.dest.0 seq buf len ∷ [])
unfolding grow
fill-joining set n seq buf len = fill-pushes (reading set.path.0 set.dest.0) n (Joining set.path.0 set.dest.0 seq buf len) (reading_new buf len) refl (λ k. refl) (λ v. at_two-same set.path.0 set.dest.0 _ v.readings) refl

fill-parted : (set : TxSet) (n seq : ℕ) (freed : List Change) → FillBy set n (Parted set.path.0 set.dest.0 seq freed ∷ [])
unfolding grow
fill-parted set n seq freed =
    fill-changes (reading set.path.0 set.dest.0) n seq (Parted set.path.0 set.dest.0 seq freed) (λ r. record r { stands = false }) refl (λ k. refl) (λ v. at_two-same set.path.0 set.dest.0 _ v.readings) (λ r. refl) (λ r. refl)

fill-saw : (set : TxSet) (n seq : ℕ) (look : Look) → FillBy set n (Saw set.path.0 set.dest.0 seq look.cells look.bytes look.writer ∷ [])
unfolding grow
fill-saw set n seq look =
    fill-changes (reading set.path.0 set.dest.0) n seq (Saw set.path.0 set.dest.0 seq look.cells look.bytes look.writer) (λ r. record r { seen = look.cells; bytes = look.bytes; writer = look.writer }) refl (λ k. refl)
    (λ v. at_two-same set.path.0 set.dest.0 _ v.readings) (λ r. refl) (λ r. refl)

fill-read : (set : TxSet) (n seq cell : ℕ) → seq < n → FillBy set n (Read set.path.0 set.dest.0 seq cell ∷ [])
unfolding grow
fill-read set n seq cell below =
    fill-adds (reading set.path.0 set.dest.0) n seq cell (Read set.path.0 set.dest.0 seq cell) (λ r. record r { cells = r.cells ++ cell ∷ [] }) refl (λ k. refl) (λ v. at_two-same set.path.0 set.dest.0 _ v.readings) (λ r. refl) (λ r. refl) below

reads : (set : TxSet) (n seq : ℕ) (cells : List ℕ) → seq < n → FillBy set n (map (Read set.path.0 set.dest.0 seq) cells)
reads set n seq [] below = fill-none (reading set.path.0 set.dest.0) n
reads set n seq (cell ∷ cells) below =
    fill-join (reading set.path.0 set.dest.0) n n (Read set.path.0 set.dest.0 seq cell ∷ []) (map (Read set.path.0 set.dest.0 seq) cells) (omega arith) (fill-read set n seq cell below) (reads set n seq cells below)

no-more : (set : TxSet) (seq : ℕ) (cells : List ℕ) → added (reading set.path.0 set.dest.0) (map (Read set.path.0 set.dest.0 seq) cells) ≡ 0
no-more set seq [] = refl
no-more set seq (cell ∷ cells) = no-more set seq cells

-- the session that is sent was joined
abbrev IsJoined : ℕ → Option Transmission → Type 0
IsJoined next None = Unit {0}
IsJoined next (Some s) = s.seq < next

-- what calls add to the readings, up to so many
record Filled (set : TxSet) (next : ℕ) (calls : List Event) (later : ℕ) (live : Option Transmission) : Type 0 where
  fill : FillBy set next calls
  number : later ≡ next + added (reading set.path.0 set.dest.0) calls
  joined : IsJoined later live

abbrev FilledBy : TxSet → TxStage → TxDone → Type 0
FilledBy set p d = IsJoined p.next p.live → Filled set p.next d.calls d.new.next d.new.live

added-join : (set : TxSet) (calls more : List Event) → added (reading set.path.0 set.dest.0) (calls ++ more) ≡ added (reading set.path.0 set.dest.0) calls + added (reading set.path.0 set.dest.0) more
added-join set calls more = ap length (flat_map-append len_joined calls more) ∙ length-append _ _

joins-both : (set : TxSet) (next mid last : ℕ) (calls more : List Event) (live : Option Transmission) (after : Option Transmission) → Filled set next calls mid live → Filled set mid more last after → Filled set next (calls ++ more) last after
joins-both set next mid last calls more live after one two = record {
  fill = fill-join (reading set.path.0 set.dest.0) next mid calls more one.number one.fill two.fill;
  number = omega (arith, one.number, two.number, added-join set calls more);
  joined = two.joined;
}

-- each effect
each : (set : TxSet) (tick : ℕ) (event : TxEvent) (look : Option Look) (next : ℕ) (effect : TxEffect) → MayBe set tick event look effect → FilledBy set (amid event look next (found_by effect)) (done_by set tick (amid event look next (found_by effect)) effect)
each set tick event look next Misses may below = record { fill = fill-missed set next next; number = omega arith; joined = tt }
each set tick event look next (Joins buf len) may below = record { fill = fill-joining set next next buf len; number = omega arith; joined = omega arith }
each set tick event look next (Looks s seen) may below = record { fill = fill-saw set next s.seq seen; number = omega arith; joined = below }
each set tick event look next (Reads s cells) may below = record { fill = reads set next s.seq cells below; number = omega (arith, no-more set s.seq cells); joined = below }
each set tick event look next (Offers s) may below = record { fill = fill-none (reading set.path.0 set.dest.0) next; number = omega arith; joined = below }
each set tick event look next (Leaves s sent number block phase) may below = record { fill = fill-none (reading set.path.0 set.dest.0) next; number = omega arith; joined = below }
each set tick event look next (Waits s phase block gap) may below = record { fill = fill-none (reading set.path.0 set.dest.0) next; number = omega arith; joined = below }
each set tick event look next (Ends s sent act result left) may below = record { fill = fill-parted set next s.seq _; number = omega arith; joined = tt }

law : (set : TxSet) (tick : ℕ) → IsDoneLaw set tick (FilledBy set)
law set tick = record {
  none = λ p below. record { fill = fill-none (reading set.path.0 set.dest.0) p.next; number = omega arith; joined = below };
  then = λ p first later one two below.
      let before = one below in
      joins-both set p.next first.new.next later.new.next first.calls later.calls first.new.live later.new.live before (two before.joined);
  each = each set tick;
}

-- all steps
filled : (set : TxSet) (turns : List TxTurn) → HasSent set turns → Filled set 0 (calls_by turns) (state_after tx_new turns).next (state_after tx_new turns).live
filled set [] happened = record { fill = fill-none (reading set.path.0 set.dest.0) 0; number = refl; joined = tt }
filled set (turn ∷ earlier) happened =
    let before = filled set earlier happened.2 in
    let is : HoldsOf (FilledBy set) (state_after tx_new earlier) turn.event turn.did = of-step set (FilledBy set) (state_after tx_new earlier) turn.event turn.did (law set turn.did.tick) happened.1.1 in
    joins-both set 0 (state_after tx_new earlier).next turn.did.new.next (calls_by earlier) turn.did.calls (state_after tx_new earlier).live turn.did.new.live before (is.holds before.joined)

pub readings : (set : TxSet) (turns : List TxTurn) → HasSent set turns → FillBy set 0 (calls_by turns)
readings set turns happened = (filled set turns happened).fill
