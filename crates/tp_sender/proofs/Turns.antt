-- A turn, put together from a look, the cells that are read, and what comes of them.
use Rattle.std.proofs.Common.{◌≡◌, ℕ, ◌+◌, ◌<◌, ◌≤◌, Bool, true, false, not, Option, None, Some, List, [], ◌∷◌, ◌++◌, length, refl, ap, sym, subst, ◌∙◌, arith, inl, inr}
use Rattle.tp_sender.specs.declared.transmission.Transmission.{Transmission as HeldTransmission}
use Rattle.tp_sender.specs.declared.transmission.Phase.{Phase}
use Rattle.tp_sender.specs.declared.transmission.Phase.TheVariants.{Bytes}
use Rattle.tp_sender.specs.State.{Transmission, transmission_of, TxDid}
use Rattle.tp_sender.specs.Port.{KnowsLive, KnowsToken, KeepsPort, OverRow, ReadsEnough, did_of}
use Rattle.std.specs.Prelude.{map, option_to_list, IfSome}
use Rattle.hub_core.proofs.Turns.{over-after}
use Rattle.hub_core.specs.Moves.{moves_in}
use Rattle.tp_sender.specs.declared.transmission.Outcome.{Outcome}
use Rattle.gw_base.specs.declared.numbers.Tick.{Tick}
use Rattle.hub_core.specs.Calls.{Means, SameMeans, ByReader}
use Rattle.hub_core.specs.Floors.{Floors, Rise, IsFresh, AreFresh}
use Rattle.hub_core.specs.Tokens.{Reads, SameJoined, saw}
use Rattle.hub_core.specs.View.{View, Event, Read, Saw, grow, grows}
use Rattle.hub_core.specs.declared.port.Seen.{Seen as Look}
use Rattle.hub_core.specs.declared.token.Joined.{Joined}
use Rattle.hub_core.proofs.Fresh.{are-fresh-append, rise-same}
use Rattle.hub_core.specs.declared.record.DestResult.TheVariants.{SourceEnded}
use Rattle.tp_unit.specs.Unit.{Keeps}
use Rattle.tp_sender.specs.declared.set.TxSet.{TxSet}
use Rattle.tp_sender.specs.Table.{Ends, Fetches, GoesOn, InBytes, InStart, InTurn, Lacks, OffersNext, fetched, in_phase, is_reached, look_at, next_part}
use Rattle.tp_sender.specs.Table.{Enough, Short, Reached, NeverReached, NotReached}
use Rattle.tp_sender.proofs.Calls.{by-after, means-after, reads-fresh}
use Rattle.tp_sender.proofs.Reading.{sending-with}
use Rattle.hub_core.proofs.Growing.{grows-append}

-- the session after a look
pub record Looks (live next : HeldTransmission) (look : Look) : Type 0 where
  pub token : SameJoined next.at (saw look live.at)
  pub carry : next.carry ≡ live.carry
  pub begin : next.begin ≡ live.begin
  pub sent : next.sent ≡ live.sent
  pub number : next.number ≡ live.number
  pub block : next.block ≡ live.block
  pub gap : next.gap ≡ live.gap
  pub phase : next.phase ≡ live.phase
  pub since : next.since ≡ live.since

looked : (live next : HeldTransmission) (look : Look) → Looks live next look → transmission_of next ≡ transmission_of live
looked live next look is =
    sending-with (transmission_of live) live.at.at live.carry (transmission_of next) is.token.seq is.token.len is.token.at is.carry (ap (λ (t : Tick). t.0) is.begin) is.sent is.number is.block is.gap is.phase (ap (λ (t : Tick). t.0) is.since)

-- a look of the session, by the destination's own numbers
look-of : (set : TxSet) (live : HeldTransmission) (look : Look) (u v : View) → live.at.path ≡ set.path → live.at.dest ≡ set.dest → v ≡ grow (Saw live.at.path.0 live.at.dest.0 live.at.seq look.cells look.bytes look.writer) u →
    v ≡ grow (look_at set (transmission_of live) look) u
look-of set live look u v path dest grown = rw (← path, ← dest) grown

-- and it is as fresh
fresh-of : (low : Floors) (set : TxSet) (live : HeldTransmission) (look : Look) (u : View) → live.at.path ≡ set.path → live.at.dest ≡ set.dest → IsFresh u low (Saw live.at.path.0 live.at.dest.0 live.at.seq look.cells look.bytes look.writer) → IsFresh u low (look_at set (transmission_of live) look)
fresh-of low set live look u path dest fresh = rw (← path, ← dest) fresh

-- the session with another token
abbrev pub with_token : Joined → HeldTransmission → Transmission
with_token at live = record (transmission_of live) { seq = at.seq; len = at.len; at = at.at }

pub looked-at : (live : HeldTransmission) (at : Joined) (look : Look) → SameJoined at (saw look live.at) → with_token at live ≡ transmission_of live
looked-at live at look is = sending-with (transmission_of live) live.at.at live.carry (with_token at live) is.seq is.len is.at refl refl refl refl refl refl refl refl

not-there : (b : Bool) → not b ≡ true → b ≡ false
not-there true is = sym is
not-there false is = refl

there : (b : Bool) → not b ≡ false → b ≡ true
there true is = refl
there false is = sym is

-- a number that is the same
counts-as : {f : Floors} (Row : List Event → TxDid → Type 0) (u w : View) (tick before count : ℕ) (outcome : Outcome) → before ≡ count → OverRow Row f u w tick before outcome → OverRow Row f u w tick count outcome
counts-as {f = f} Row u w tick before count outcome same over = subst (λ n. OverRow Row f u w tick n outcome) same over

pub begins-reached : {low high : Floors} (set : TxSet) (live : HeldTransmission) (next : Transmission) (look : Look) (u v w : View) (tick : ℕ) (outcome : Outcome) → live.at.path ≡ set.path → live.at.dest ≡ set.dest →
    v ≡ grow (Saw live.at.path.0 live.at.dest.0 live.at.seq look.cells look.bytes look.writer) u → Rise low high → IsFresh u low (Saw live.at.path.0 live.at.dest.0 live.at.seq look.cells look.bytes look.writer) → next ≡ transmission_of live → true ≡ is_reached set next look →
    OverRow (InBytes set (in_phase Bytes tick next)) high v w tick (next.seq + 1) outcome → OverRow (InStart set (transmission_of live)) low u w tick (live.at.seq + 1) outcome
begins-reached {low = low} set live next look u v w tick outcome path dest grown rise fresh same reached over =
    let count : ℕ = live.at.seq + 1 in
    let P : Transmission → List Event → List Event → Type 0 = λ s calls all. InBytes set (in_phase Bytes tick s) calls (did_of tick count all outcome) in
    let Q : Transmission → Type 0 = λ s. is_reached set s look ≡ true in
    over-after (look_at set (transmission_of live) look ∷ []) [] (option_to_list outcome.acts.moved) (λ calls. (all : List Event) → P next calls all)
    (λ calls. (all : List Event) → InStart set (transmission_of live) calls (did_of tick count all outcome)) (look-of set live look u v path dest grown) rise (fresh-of low set live look u path dest fresh, tt) refl
    (counts-as (InBytes set (in_phase Bytes tick next)) v w tick (next.seq + 1) count outcome (ap (λ (s : Transmission). s.seq + 1) same) over)
    (λ calls row all. Reached look calls refl (subst Q same (sym reached)) (subst (λ (s : Transmission). P s calls all) same (row all)))

pub begins-gone : {low high : Floors} (set : TxSet) (live : HeldTransmission) (next : Transmission) (look : Look) (u v w : View) (tick : ℕ) (outcome : Outcome) → live.at.path ≡ set.path → live.at.dest ≡ set.dest →
    v ≡ grow (Saw live.at.path.0 live.at.dest.0 live.at.seq look.cells look.bytes look.writer) u → Rise low high → IsFresh u low (Saw live.at.path.0 live.at.dest.0 live.at.seq look.cells look.bytes look.writer) → next ≡ transmission_of live → false ≡ is_reached set next look → not look.writer ≡ true →
    OverRow (Ends set next Keeps SourceEnded) high v w tick (next.seq + 1) outcome → OverRow (InStart set (transmission_of live)) low u w tick (live.at.seq + 1) outcome
begins-gone {low = low} set live next look u v w tick outcome path dest grown rise fresh same reached gone over =
    let count : ℕ = live.at.seq + 1 in
    let P : Transmission → List Event → List Event → Type 0 = λ s calls all. Ends set s Keeps SourceEnded calls (did_of tick count all outcome) in
    let Q : Transmission → Type 0 = λ s. is_reached set s look ≡ false in
    over-after (look_at set (transmission_of live) look ∷ []) [] (option_to_list outcome.acts.moved) (λ calls. (all : List Event) → P next calls all)
    (λ calls. (all : List Event) → InStart set (transmission_of live) calls (did_of tick count all outcome)) (look-of set live look u v path dest grown) rise (fresh-of low set live look u path dest fresh, tt) refl
    (counts-as (Ends set next Keeps SourceEnded) v w tick (next.seq + 1) count outcome (ap (λ (s : Transmission). s.seq + 1) same) over)
    (λ calls row all. NeverReached look calls refl (subst Q same (sym reached)) (not-there look.writer gone) (subst (λ (s : Transmission). P s calls all) same (row all)))

pub begins-later : {low : Floors} (set : TxSet) (live : HeldTransmission) (next : Transmission) (look : Look) (u v : View) (tick count : ℕ) (outcome : Outcome) → live.at.path ≡ set.path → live.at.dest ≡ set.dest →
    v ≡ grow (Saw live.at.path.0 live.at.dest.0 live.at.seq look.cells look.bytes look.writer) u → IsFresh u low (Saw live.at.path.0 live.at.dest.0 live.at.seq look.cells look.bytes look.writer) → next ≡ transmission_of live → false ≡ is_reached set next look → not look.writer ≡ false →
    outcome.acts.moved ≡ None → ((all : List Event) → GoesOn next [] (did_of tick count all outcome)) → OverRow (InStart set (transmission_of live)) low u v tick count outcome
begins-later {low = low} set live next look u v tick count outcome path dest grown fresh same reached stands moved on =
    let Q : Transmission → Type 0 = λ s. is_reached set s look ≡ false in
    record {
      calls = look_at set (transmission_of live) look ∷ [];
      grown = look-of set live look u v path dest grown;
      fresh = (fresh-of low set live look u path dest fresh, tt);
      moves_are = ap option_to_list moved;
      row = λ all. NotReached look [] refl (subst Q same (sym reached)) (there look.writer stands) (subst (λ (s : Transmission). GoesOn s [] (did_of tick count all outcome)) same (on all));
    }

-- cells that are read move nothing
moves_in-reads : (path dest seq : ℕ) (cells : List ℕ) (more : List Event) → moves_in (map (Read path dest seq) cells ++ more) ≡ moves_in more
moves_in-reads path dest seq [] more = refl
moves_in-reads path dest seq (cell ∷ cells) more = moves_in-reads path dest seq cells more

-- the look and the cells of a turn in phase Bytes
reads-of : {low : Floors} (set : TxSet) (live next full : HeldTransmission) (look : Look) (u v w : View) (l m : Means) → live.at.path ≡ set.path → live.at.dest ≡ set.dest →
    v ≡ grow (Saw live.at.path.0 live.at.dest.0 live.at.seq look.cells look.bytes look.writer) u → IsFresh u low (Saw live.at.path.0 live.at.dest.0 live.at.seq look.cells look.bytes look.writer) → Looks live next look → (wanted : ℕ) → wanted ≡ next_part set (transmission_of live) → (read : ReadsEnough wanted next full v w l m) →
    (transmission_of full ≡ fetched read.some.cells (transmission_of live)) ×
    ((more : List Event) → (grows (look_at set (transmission_of live) look ∷ (map (Read set.path.0 set.dest.0 live.at.seq) read.some.cells ++ more)) u ≡ grows more w) ×
    Fetches set (transmission_of live) look read.some.cells (look_at set (transmission_of live) look ∷ (map (Read set.path.0 set.dest.0 live.at.seq) read.some.cells ++ more)) more ×
    ((high : Floors) → Rise low high → AreFresh high w more → AreFresh low u (look_at set (transmission_of live) look ∷ (map (Read set.path.0 set.dest.0 live.at.seq) read.some.cells ++ more))))
reads-of {low = low} set live next full look u v w l m path dest grown fresh looks wanted part read =
    let same : transmission_of next ≡ transmission_of live = looked live next look looks in
    let cells : List ℕ = read.some.cells in
    let state : transmission_of full ≡ fetched cells (transmission_of live) = read.some.on.state ∙ ap (fetched cells) same in
    let e : List Event = map (Read set.path.0 set.dest.0 live.at.seq) cells in
    let own : w ≡ grows e v = rw (← path, ← dest, ← looks.token.path, ← looks.token.dest, ← looks.token.seq) read.some.on.view in
    let left : live.at.at + length cells ≤ look.cells = omega (arith, ap (λ (s : Transmission). s.at) state, read.some.on.within, read.some.on.seen, looks.token.seen) in (
      state,
      λ more. (
        grows-append e more (grow (look_at set (transmission_of live) look) u) ∙ ap (λ x. grows more (grows e x)) (sym (look-of set live look u v path dest grown)) ∙ ap (grows more) (sym own),
        record {
          calls_are = refl;
          cells_only = read.some.on.cells_only;
          wanted = rw (← part, ← looks.carry) read.some.on.wanted_all;
          left = left;
        },
        λ high rise later. (
          fresh-of low set live look u path dest fresh,
          are-fresh-append low high (grow (look_at set (transmission_of live) look) u) w e more
              (own ∙ ap (grows e) (look-of set live look u v path dest grown)) rise (reads-fresh low _ set.path.0 set.dest.0 live.at.seq cells) later,
        ),
      ),
    )

pub fills-enough : {low : Floors} (set : TxSet) (live next full : HeldTransmission) (look : Look) (u v w : View) (l m : Means) (tick : ℕ) (outcome : Outcome) → live.at.path ≡ set.path → live.at.dest ≡ set.dest →
    v ≡ grow (Saw live.at.path.0 live.at.dest.0 live.at.seq look.cells look.bytes look.writer) u → IsFresh u low (Saw live.at.path.0 live.at.dest.0 live.at.seq look.cells look.bytes look.writer) → Looks live next look → (wanted : ℕ) → wanted ≡ next_part set (transmission_of live) → ReadsEnough wanted next full v w l m →
    outcome.acts.moved ≡ None → ((all : List Event) → OffersNext set (transmission_of full) (did_of tick (full.at.seq + 1) all outcome)) → OverRow (InBytes set (transmission_of live)) low u w tick (live.at.seq + 1) outcome
fills-enough {low = low} set live next full look u v w l m tick outcome path dest grown fresh looks wanted part read moved offers =
    let all = reads-of set live next full look u v w l m path dest grown fresh looks wanted part read in
    record {
      calls = look_at set (transmission_of live) look ∷ (map (Read set.path.0 set.dest.0 live.at.seq) read.some.cells ++ []);
      grown = sym (all.1 []).0;
      fresh = (all.1 []).2 low (rise-same low) tt;
      moves_are = ap option_to_list moved ∙ sym (moves_in-reads set.path.0 set.dest.0 live.at.seq read.some.cells []);
      row = λ whole. Enough look read.some.cells (all.1 []).1 (subst (λ (s : Transmission). OffersNext set s (did_of tick (s.seq + 1) whole outcome)) all.0 (offers whole));
    }

pub fills-short : {low high : Floors} (set : TxSet) (live next full : HeldTransmission) (look : Look) (u v w x : View) (l m : Means) (tick : ℕ) (outcome : Outcome) → live.at.path ≡ set.path → live.at.dest ≡ set.dest →
    v ≡ grow (Saw live.at.path.0 live.at.dest.0 live.at.seq look.cells look.bytes look.writer) u → Rise low high → IsFresh u low (Saw live.at.path.0 live.at.dest.0 live.at.seq look.cells look.bytes look.writer) → Looks live next look → (wanted : ℕ) → wanted ≡ next_part set (transmission_of live) → ReadsEnough wanted next full v w l m →
    length full.carry < wanted → OverRow (Lacks set (transmission_of full) look) high w x tick (full.at.seq + 1) outcome → OverRow (InBytes set (transmission_of live)) low u x tick (live.at.seq + 1) outcome
fills-short {high = high} set live next full look u v w x l m tick outcome path dest grown rise fresh looks wanted part read few over =
    let all = reads-of set live next full look u v w l m path dest grown fresh looks wanted part read in
    let Q : List ℕ → Type 0 = λ c. length c < next_part set (transmission_of live) in
    let end : full.at.at ≡ full.at.seen = elim read.stops [ inl enough ↦ absurd (omega (arith, enough, few)) | inr none ↦ none ] in
    record {
      calls = look_at set (transmission_of live) look ∷ (map (Read set.path.0 set.dest.0 live.at.seq) read.some.cells ++ over.calls);
      grown = over.grown ∙ sym (all.1 over.calls).0;
      fresh = (all.1 over.calls).2 high rise over.fresh;
      moves_are = over.moves_are ∙ sym (moves_in-reads set.path.0 set.dest.0 live.at.seq read.some.cells over.calls);
      row = λ whole. Short look read.some.cells over.calls (all.1 over.calls).1
          (record { all = omega (arith, ap (λ (s : Transmission). s.at) all.0, end, read.some.on.seen, looks.token.seen); few = subst Q (ap (λ (s : Transmission). s.carried) all.0) (omega (arith, few, part)) })
          (subst (λ (s : Transmission). Lacks set s look over.calls (did_of tick (s.seq + 1) whole outcome)) all.0 (over.row whole));
    }

-- a phase that is known
pub turns-in : {f : Floors} (set : TxSet) (s : Transmission) (phase is : Phase) (u w : View) (tick count : ℕ) (outcome : Outcome) → phase ≡ is → OverRow (InTurn set s is) f u w tick count outcome → OverRow (InTurn set s phase) f u w tick count outcome
turns-in {f = f} set s phase is u w tick count outcome same over = let P : Phase → Type 0 = λ p. OverRow (InTurn set s p) f u w tick count outcome in subst P (sym same) over

knows-at : (v : View) (set : TxSet) (next : ℕ) (live : Option HeldTransmission) (at : Joined) → IfSome live (λ l. l.at ≡ at) → at.path ≡ set.path → at.dest ≡ set.dest → at.seq + 1 ≡ next → Reads v at → KnowsLive v set next live
knows-at v set next None at same path dest seq reads = tt
knows-at v set next (Some live) at same path dest seq reads = record {
  path = ap (λ (t : Joined). t.path) same ∙ path;
  dest = ap (λ (t : Joined). t.dest) same ∙ dest;
  seq = ap (λ (t : Joined). t.seq + 1) same ∙ seq;
  reads = let P : Joined → Type 0 = λ t. Reads v t in subst P (sym same) reads;
}

-- the port after a look and the cells, where the session's token is the offered one's
pub port-offered : (set : TxSet) (live next full : HeldTransmission) (after : Option HeldTransmission) (look : Look) (u v w : View) (k l m : Means) (wanted : ℕ) → KnowsToken u set (live.at.seq + 1) live → Looks live next look →
    ByReader live.at.path.0 live.at.dest.0 0 u v → SameMeans k l → ReadsEnough wanted next full v w l m → IfSome after (λ offered. offered.at ≡ full.at) → KeepsPort set (live.at.seq + 1) after u w k m
port-offered set live next full after look u v w k l m wanted knows looks by means read offered =
    let later : ByReader set.path.0 set.dest.0 0 v w = rw (← knows.path, ← knows.dest, ← looks.token.path, ← looks.token.dest) read.some.on.by in
    let first : ByReader set.path.0 set.dest.0 0 u v = rw (← knows.path, ← knows.dest) by in
    record {
      by = by-after set.path.0 set.dest.0 0 u v w first later;
      means = means-after k l m means read.some.means;
      knows = knows-at w set (live.at.seq + 1) after full.at offered
          (read.some.on.path ∙ looks.token.path ∙ knows.path) (read.some.on.dest ∙ looks.token.dest ∙ knows.dest)
          (ap (λ n. n + 1) (ap (λ (s : Transmission). s.seq) read.some.on.state ∙ looks.token.seq)) read.some.on.reads;
    }
