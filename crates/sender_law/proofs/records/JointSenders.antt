-- The readings of a view after a sender's steps: what its records tell is what its destination saw and read.
use Rattle.std.proofs.Common.{◌≡◌, ◌≢◌, ℕ, ◌+◌, ◌<◌, Bool, true, false, not, Option, Some, None, List, [], ◌∷◌, ◌++◌, length, All, refl, ap, sym, ◌∙◌, arith, append-nil, append_assoc}
use Rattle.tp_sender.specs.Runs.{HasSent}
use Rattle.tp_sender.specs.State.{TxTurn, tx_new, Transmission}
use Rattle.hub_core.specs.Turns.{calls_by, state_after, records_by}
use Rattle.hub_core.specs.Calls.{freed_by}
use Rattle.tp_sender.specs.declared.transmission.Phase.{Phase}
use Rattle.tp_sender.specs.declared.transmission.Phase.TheVariants.{Start, Bytes, Box, Fc, Gap}
use Rattle.std.specs.Prelude.{◌==◌, ◌&&◌, ◌||◌, nat_le, map}
use Rattle.std.proofs.lemmas.Bool.Decides.{nat_tests}
use Rattle.std.proofs.lemmas.List.{length-append, length-drop}
use Rattle.std.proofs.lemmas.List.Elements.{All-head, All-tail}
use Rattle.std.proofs.lemmas.List.Sums.{sum_by-append, sum_by-cons}
use Rattle.gw_base.proofs.Cells.{length-bytes_of, length-cell_bytes}
use Rattle.gw_base.specs.Cell.{IsCell, bytes_of, cell_bytes, count_of, counted}
use Rattle.hub_core.specs.View.{View, Change, Reading, change_at, empty_view, reading_new, grow, grows, Joining, Missed, Saw, Read, Parted}
use Rattle.hub_core.specs.declared.port.Left.{Left as LeftOver}
use Rattle.hub_core.specs.declared.port.Seen.{Seen as Look}
use Rattle.hub_core.specs.declared.record.DestRecord.{DestRecord}
use Rattle.hub_core.specs.declared.record.DestResult.{DestResult}
use Rattle.hub_core.specs.declared.record.DestResult.TheVariants.{Sent, SourceEnded, BsTimeout, FcOverflow, InvalidFs, CsTimeout, AsTimeout, Cancelled, RunEnd as EndOfRun}
use Rattle.tp_unit.specs.Unit.{BoxMeaning}
use Rattle.tp_sender.specs.Effects.{AwaitsNext, IsShort, MayBe, MayEnd, MayWait, NeverComes, TxStage, ShowsEnd, TxDone, TxEffect, done_by, found_by, once_left, once_waiting, once_offered, once_waited, record_of}
use Rattle.tp_sender.specs.Effects.{Misses, Joins, Looks, Reads as ReadsCells, Offers, Leaves, Waits, Ends, AfterBlock, AfterFirst, AfterNext, IsReached, GapIsOver, IsContinued, IsPaused, NoNext, NoStart, IsWhole, IsCut}
use Rattle.tp_sender.specs.Table.{fetched, joined_in, next_part}
use Rattle.tp_sender.specs.declared.event.TxEvent.{TxEvent}
use Rattle.tp_sender.specs.declared.event.TxEvent.TheVariants.{Turn, Fc as CameFc, Left, RunEnd}
use Rattle.tp_sender.specs.declared.set.TxSet.{TxSet}
use Rattle.tp_sender.proofs.Effects.{HoldsOf, IsDoneLaw, of-step}
use Rattle.tp_sender.proofs.Made.{amid}
use Rattle.sender_law.proofs.records.JointReadings.{IsScant, IsWant, Looked, NoMore, Reads, ShowsBy, WantsNext, WantsStart, boxed, reads-changed, reads-ended, reads-joined, reads-like, reads-parted}
use Rattle.hub_core.proofs.Growing.{at_two-same, grows-append}

abbrev pub ReadsIn : TxSet → Bool → View → List DestRecord → ℕ → Option Transmission → (Reading → Type 0) → Type 0
ReadsIn set ended v records next live P = Reads set ended (v.readings set.path.0 set.dest.0) records next live P

-- what was seen last, where there was a look
abbrev SeenBy : Option Look → Reading → Type 0
SeenBy None = NoMore
SeenBy (Some look) = Looked look

-- what is made of the readings; the run's end is told where it is the event
record ReadsOn (set : TxSet) (ended : Bool) (v : View) (records : List DestRecord) (d : TxDone) : Type 0 where
  told : d.new.event ≡ Some RunEnd → ended ≡ true
  reads : ReadsIn set ended (grows d.calls v) (records ++ d.records) d.new.next d.new.live (SeenBy d.new.look)

abbrev ReadsBy : TxSet → TxStage → TxDone → Type 0
ReadsBy set p d = (v : View) (records : List DestRecord) (ended : Bool) → (p.event ≡ Some RunEnd → ended ≡ true) → ReadsIn set ended v records p.next p.live (SeenBy p.look) → ReadsOn set ended v records d

grow-saw : (path dest seq : ℕ) (look : Look) (v : View) → (grow (Saw path dest seq look.cells look.bytes look.writer) v).readings path dest ≡ change_at seq (λ r. record r { seen = look.cells; bytes = look.bytes; writer = look.writer }) (v.readings path dest)
unfolding grow
grow-saw path dest seq look v = at_two-same path dest _ v.readings

grow-read : (path dest seq cell : ℕ) (v : View) → (grow (Read path dest seq cell) v).readings path dest ≡ change_at seq (λ r. record r { cells = r.cells ++ cell ∷ [] }) (v.readings path dest)
unfolding grow
grow-read path dest seq cell v = at_two-same path dest _ v.readings

grow-parted : (path dest seq : ℕ) (freed : List Change) (v : View) → (grow (Parted path dest seq freed) v).readings path dest ≡ change_at seq (λ r. record r { stands = false }) (v.readings path dest)
unfolding grow
grow-parted path dest seq freed v = at_two-same path dest _ v.readings

grow-joining : (path dest seq buf len : ℕ) (v : View) → (grow (Joining path dest seq buf len) v).readings path dest ≡ v.readings path dest ++ reading_new buf len ∷ []
unfolding grow
grow-joining path dest seq buf len v = at_two-same path dest _ v.readings

grow-missed : (group path dest seq : ℕ) (v : View) → (grow (Missed group path dest seq) v).readings path dest ≡ v.readings path dest
unfolding grow
grow-missed group path dest seq v = refl

-- where no session is sent, what was seen doesn't matter
idle-too : (set : TxSet) (ended : Bool) (v : View) (records : List DestRecord) (next : ℕ) (P Q : Reading → Type 0) → ReadsIn set ended v records next None P → ReadsIn set ended v records next None Q
idle-too set ended v records next P Q reads = record { number = reads.number; told = reads.told; left = reads.left; going = tt }

-- a look, and cells that are read
looks : (set : TxSet) (ended : Bool) (v : View) (records : List DestRecord) (next : ℕ) (s : Transmission) (P : Reading → Type 0) (look : Look) → ReadsIn set ended v records next (Some s) P →
    ReadsIn set ended (grow (Saw set.path.0 set.dest.0 s.seq look.cells look.bytes look.writer) v) records next (Some s) (Looked look)
looks set ended v records next s P look reads =
    rw (grow-saw set.path.0 set.dest.0 s.seq look v)
    (reads-changed set ended (v.readings set.path.0 set.dest.0) records next s s P (Looked look) (λ r. record r { seen = look.cells; bytes = look.bytes; writer = look.writer }) refl refl (λ r. refl) (λ r. refl) (λ r is. is) (λ r is. is) (λ early. early) (λ r so. (refl, refl, refl)) reads)

seen-still : (look : Option Look) (r : Reading) (cells : List ℕ) → SeenBy look r → SeenBy look (record r { cells = cells })
seen-still None r cells so = tt
seen-still (Some look) r cells so = so

reads-cells : (set : TxSet) (ended : Bool) (v : View) (records : List DestRecord) (next : ℕ) (s t : Transmission) (look : Option Look) (cells : List ℕ) → All IsCell cells → t.seq ≡ s.seq → t.len ≡ s.len → t.at ≡ s.at + length cells → t.sent ≡ s.sent → t.phase ≡ s.phase →
    length t.carried ≡ length s.carried + counted cells → ReadsIn set ended v records next (Some s) (SeenBy look) →
    ReadsIn set ended (grows (map (Read set.path.0 set.dest.0 s.seq) cells) v) records next (Some t) (SeenBy look)
reads-cells set ended v records next s t look [] all seq len at sent phase carried reads =
    reads-like set ended (v.readings set.path.0 set.dest.0) records next s t (SeenBy look) (SeenBy look) seq len (omega (arith, at))
    (rw (sent, phase, len) (omega (arith, carried))) (λ early is. sent ∙ early (sym phase ∙ is)) (λ r so. so) reads
reads-cells set ended v records next s t look (cell ∷ cells) all seq len at sent phase carried reads =
    let u : Transmission = record s { at = s.at + 1; carried = s.carried ++ cell_bytes cell } in
    let size : length (cell_bytes cell) ≡ count_of cell = length-cell_bytes cell (All-head IsCell cell cells all) in
    let more : length u.carried ≡ length s.carried + count_of cell = omega (arith, length-append s.carried (cell_bytes cell), size) in
    let one : ReadsIn set ended (grow (Read set.path.0 set.dest.0 s.seq cell) v) records next (Some u) (SeenBy look) =
    rw (grow-read set.path.0 set.dest.0 s.seq cell v)
    (reads-changed set ended (v.readings set.path.0 set.dest.0) records next s u (SeenBy look) (SeenBy look) (λ r. record r { cells = r.cells ++ cell ∷ [] }) refl refl (λ r. refl) (λ r. refl)
    (λ r is. omega (arith, length-append r.cells (cell ∷ []), is)) (λ r is. omega (arith, is, more, sum_by-append count_of r.cells (cell ∷ []), sum_by-cons count_of cell [])) (λ early. early)
    (λ r so. seen-still look r (r.cells ++ cell ∷ []) so) reads) in
    reads-cells set ended (grow (Read set.path.0 set.dest.0 s.seq cell) v) records next u t look cells (All-tail IsCell cell cells all) seq len (omega (arith, at)) sent phase (omega (arith, carried, more, sum_by-cons count_of cell cells)) one

-- the session goes on with the same reading
on : (set : TxSet) (ended : Bool) (v : View) (records : List DestRecord) (next : ℕ) (look : Option Look) (s t : Transmission) → t.seq ≡ s.seq → t.len ≡ s.len → t.at ≡ s.at →
    t.sent + boxed t.phase (next_part set t) + length t.carried ≡ s.sent + boxed s.phase (next_part set s) + length s.carried → (t.phase ≡ Start → ⊥) →
    ReadsIn set ended v records next (Some s) (SeenBy look) → ReadsIn set ended v (records ++ []) next (Some t) (SeenBy look)
on set ended v records next look s t seq len at held begun reads =
    rw append-nil (reads-like set ended (v.readings set.path.0 set.dest.0) records next s t (SeenBy look) (SeenBy look) seq len at held (λ early is. absurd (begun is)) (λ r so. so) reads)

leaves : (set : TxSet) (ended : Bool) (v : View) (records : List DestRecord) (next tick sent number block : ℕ) (look : Option Look) (s : Transmission) (phase : Phase) → s.phase ≡ Box → AwaitsNext set tick s sent number block phase →
    ReadsIn set ended v records next (Some s) (SeenBy look) → ReadsIn set ended v (records ++ []) next (Some (once_left tick sent number block phase s)) (SeenBy look)
leaves set ended v records next tick sent number block look s phase box (AfterFirst first more same kept is) reads =
    let part : ℕ = next_part set s in
    on set ended v records next look s (once_left tick sent number block phase s) refl refl refl (rw (is, box) (omega (arith, first, more))) (λ start. let no : Fc ≡ Start = sym is ∙ start in cc) reads
leaves set ended v records next tick sent number block look s phase box (AfterBlock one over is) reads =
    let part : ℕ = next_part set s in
    on set ended v records next look s (once_left tick sent number block phase s) refl refl refl (rw (is, box) (omega (arith, one.sent_is))) (λ start. let no : Fc ≡ Start = sym is ∙ start in cc) reads
leaves set ended v records next tick sent number block look s phase box (AfterNext one out is) reads =
    let part : ℕ = next_part set s in
    on set ended v records next look s (once_left tick sent number block phase s) refl refl refl (rw (is, box) (omega (arith, one.sent_is))) (λ start. let no : Gap (record { 0 = tick + s.gap }) ≡ Start = sym is ∙ start in cc) reads

waits : (set : TxSet) (ended : Bool) (v : View) (records : List DestRecord) (next tick : ℕ) (look : Option Look) (s : Transmission) (phase : Phase) (block gap : ℕ) (event : TxEvent) → MayWait set tick event s phase block gap →
    ReadsIn set ended v records next (Some s) (SeenBy look) → ReadsIn set ended v (records ++ []) next (Some (once_waiting tick phase block gap s)) (SeenBy look)
waits set ended v records next tick look s phase block gap event (IsReached at was is kept) reads = on set ended v records next look s (once_waiting tick phase block gap s) refl refl refl (rw (is, was) refl) (λ start. let no : Bytes ≡ Start = sym is ∙ start in cc) reads
waits set ended v records next tick look s phase block gap event (GapIsOver until at was le is kept) reads = on set ended v records next look s (once_waiting tick phase block gap s) refl refl refl (rw (is, was) refl) (λ start. let no : Bytes ≡ Start = sym is ∙ start in cc) reads
waits set ended v records next tick look s phase block gap event (IsContinued bs st at was is size gap_is) reads = on set ended v records next look s (once_waiting tick phase block gap s) refl refl refl (rw (is, was) refl) (λ start. let no : Bytes ≡ Start = sym is ∙ start in cc) reads
waits set ended v records next tick look s phase block gap event (IsPaused bs st at was is kept) reads = on set ended v records next look s (once_waiting tick phase block gap s) refl refl refl (rw (is, was) refl) (λ start. let no : Fc ≡ Start = sym is ∙ start in cc) reads

told-on : (set : TxSet) (tick : ℕ) (event : TxEvent) (s : Transmission) (now : Phase) (block gap : ℕ) → MayWait set tick event s now block gap → once_waited (Some event) ≡ Some RunEnd → ⊥
told-on set tick event s now block gap (IsReached at is same kept) told = let no : once_waited (Some Turn) ≡ Some RunEnd = ap (λ e. once_waited (Some e)) (sym at) ∙ told in cc
told-on set tick event s now block gap (GapIsOver until at is le same kept) told = let no : once_waited (Some Turn) ≡ Some RunEnd = ap (λ e. once_waited (Some e)) (sym at) ∙ told in cc
told-on set tick event s now block gap (IsContinued bs st at is same size gap_is) told = let no : once_waited (Some (CameFc 0 bs st)) ≡ Some RunEnd = ap (λ e. once_waited (Some e)) (sym at) ∙ told in cc
told-on set tick event s now block gap (IsPaused bs st at is same kept) told = let no : once_waited (Some (CameFc 1 bs st)) ≡ Some RunEnd = ap (λ e. once_waited (Some e)) (sym at) ∙ told in cc

-- fewer bytes than the next frame takes
scant : (set : TxSet) (s : Transmission) (look : Look) (r : Reading) → s.at ≡ look.cells → length s.carried < next_part set s → boxed s.phase (next_part set s) ≡ 0 → r.len ≡ s.len → length r.cells ≡ s.at →
    s.sent + boxed s.phase (next_part set s) + length s.carried ≡ counted r.cells → r.seen ≡ look.cells → IsScant set s.sent r
scant set s look r all few clear len at held seen =
    let sum : s.sent + length s.carried ≡ counted r.cells = (let plain : s.sent + 0 + length s.carried ≡ counted r.cells = rw clear at held in omega (arith, plain)) in
    record { all = omega (arith, all, at, seen); least = omega (arith, sum); few = rw len (let part : ℕ = next_part set s in omega (arith, sum, few)) }

never-reached : (bytes len threshold cells : ℕ) (store : Bool) → ((bytes == len) || (not store && nat_le threshold cells)) ≡ false → (bytes ≢ len) × (store ≡ false → cells < threshold)
never-reached bytes len threshold cells store is = (λ same. grind (arith, nat_tests, same), λ none. grind (arith, nat_tests, none))

-- what a session that is cut short shows, by what was seen last and what was read
record IsHeld (set : TxSet) (s : Transmission) (r : Reading) : Type 0 where
  len : r.len ≡ s.len
  at : length r.cells ≡ s.at
  held : s.sent + boxed s.phase (next_part set s) + length s.carried ≡ counted r.cells
  early : s.phase ≡ Start → s.sent ≡ 0

short : (set : TxSet) (s : Transmission) (look : Look) (r : Reading) → IsShort set s look → IsHeld set s r → Looked look r → IsScant set s.sent (record r { stands = false })
short set s look r is held so = scant set s look (record r { stands = false }) is.all is.few (ap (λ p. boxed p (next_part set s)) is.phase) held.len held.at held.held so.0

wants : (set : TxSet) (s : Transmission) (look : Look) (r : Reading) → NeverComes set s look → IsHeld set s r → Looked look r → IsWant set s.sent (record r { stands = false })
wants set s look r (NoNext is) held so = WantsNext (short set s look r is held so)
wants set s look r (NoStart start reached) held so =
    let never : (look.bytes ≢ s.len) × (set.store ≡ false → look.cells < set.threshold) = never-reached look.bytes s.len set.threshold look.cells set.store reached in
    WantsStart (held.early start) (λ same. never.0 (sym so.1 ∙ same ∙ held.len)) (λ none. omega (arith, never.1 none, so.0))

shows : (set : TxSet) (ended : Bool) (event : TxEvent) (look : Option Look) (s : Transmission) (result : DestResult) (r : Reading) → (Some event ≡ Some RunEnd → ended ≡ true) → ShowsEnd set event look s result → IsHeld set s r → SeenBy look r →
    ShowsBy set ended s.sent (record r { stands = false }) result
shows set ended event look s Sent r told is held so = absurd is
shows set ended event None s SourceEnded r told is held so = absurd is
shows set ended event (Some look) s SourceEnded r told is held so = (so.2 ∙ is.0, wants set s look r is.1 held so)
shows set ended event look s BsTimeout r told is held so = tt
shows set ended event look s FcOverflow r told is held so = tt
shows set ended event look s (InvalidFs status) r told is held so = tt
shows set ended event None s (CsTimeout seen) r told is held so = absurd is
shows set ended event (Some look) s (CsTimeout seen) r told is held so = (so.1 ∙ is.0, short set s look r is.1 held so)
shows set ended event look s AsTimeout r told is held so = tt
shows set ended event look s Cancelled r told is held so = tt
shows set ended event look s (EndOfRun wait since) r told is held so = told (ap (λ e. Some e) is)

shows-end : (set : TxSet) (ended : Bool) (event : TxEvent) (look : Option Look) (s : Transmission) (sent : ℕ) (act : BoxMeaning) (result : DestResult) (r : Reading) → (Some event ≡ Some RunEnd → ended ≡ true) → MayEnd set event look s sent act result → IsHeld set s r → SeenBy look r →
    ShowsBy set ended sent (record r { stands = false }) result
shows-end set ended event look s sent act result r told (IsWhole left box whole all keeps is) held so =
    let part : ℕ = next_part set s in
    let sum : s.sent + next_part set s + length s.carried ≡ counted r.cells = rw box at held.held in
    rw (is, all) (sym held.len, omega (arith, whole, sum))
shows-end set ended event look s sent act result r told (IsCut out other same keeps is) held so = rw same (shows set ended event look s result r told is held so)

ends : (set : TxSet) (ended : Bool) (v : View) (records : List DestRecord) (next tick sent : ℕ) (look : Option Look) (s : Transmission) (act : BoxMeaning) (result : DestResult) (left : LeftOver) (event : TxEvent) → (Some event ≡ Some RunEnd → ended ≡ true) → MayEnd set event look s sent act result →
    ReadsIn set ended v records next (Some s) (SeenBy look) → ReadsIn set ended (grow (Parted set.path.0 set.dest.0 s.seq (freed_by left)) v) (records ++ record_of set tick s sent result ∷ []) next None (SeenBy look)
ends set ended v records next tick sent look s act result left event told may reads =
    idle-too set ended (grow (Parted set.path.0 set.dest.0 s.seq (freed_by left)) v) (records ++ record_of set tick s sent result ∷ []) next NoMore (SeenBy look)
    (rw (grow-parted set.path.0 set.dest.0 s.seq (freed_by left) v) (reads-parted set ended (v.readings set.path.0 set.dest.0) records next s (SeenBy look) (record_of set tick s sent result) refl
    (λ r len at held early so. shows-end set ended event look s sent act result r told may (record { len = len; at = at; held = held; early = early }) so) reads))

-- each effect
each : (set : TxSet) (tick : ℕ) (event : TxEvent) (look : Option Look) (next : ℕ) (effect : TxEffect) → MayBe set tick event look effect → ReadsBy set (amid event look next (found_by effect)) (done_by set tick (amid event look next (found_by effect)) effect)
each set tick event look next Misses may v records ended told reads = record {
  told = λ no. cc;
  reads = rw (append-nil, grow-missed set.group.0 set.path.0 set.dest.0 next v) reads;
}
each set tick event look next (Joins buf len) may v records ended told reads = record {
  told = told;
  reads = rw (append-nil, grow-joining set.path.0 set.dest.0 next buf len v)
      (reads-joined set ended (v.readings set.path.0 set.dest.0) records next buf len (joined_in tick next len) refl refl refl refl refl refl (idle-too set ended v records next (SeenBy look) NoMore reads));
}
each set tick event look next (Looks s seen) may v records ended told reads = record { told = told; reads = rw append-nil (looks set ended v records next s (SeenBy look) seen reads) }
each set tick event look next (ReadsCells s cells) may v records ended told reads = record {
  told = told;
  reads = rw append-nil (reads-cells set ended v records next s (fetched cells s) look cells may.1 refl refl refl refl refl (omega (arith, length-append s.carried (bytes_of cells), length-bytes_of cells may.1)) reads);
}
each set tick event look next (Offers s) may v records ended told reads = record {
  told = λ no. cc;
  reads = on set ended v records next look s (once_offered set tick s) refl refl refl (rw may.phase (omega (arith, length-drop (next_part set s) s.carried, may.enough))) (λ start. cc) reads;
}
each set tick event look next (Leaves s sent number block phase) may v records ended told reads = record { told = λ no. cc; reads = leaves set ended v records next tick sent number block look s phase may.box may.next reads }
each set tick event look next (Waits s phase block gap) may v records ended told reads = record { told = λ is. absurd (told-on set tick event s phase block gap may is); reads = waits set ended v records next tick look s phase block gap event may reads }
each set tick event look next (Ends s sent act result left) may v records ended told reads = record { told = λ no. cc; reads = ends set ended v records next tick sent look s act result left event told may reads }

law : (set : TxSet) (tick : ℕ) → IsDoneLaw set tick (ReadsBy set)
law set tick = record {
  none = λ p v records ended told reads. record { told = told; reads = rw append-nil reads };
  then = λ p first later one two v records ended told reads.
      let before = one v records ended told reads in
      let after = two (grows first.calls v) (records ++ first.records) ended before.told before.reads in
      record { told = after.told; reads = rw (grows-append first.calls later.calls v, ← append_assoc records first.records later.records) after.reads };
  each = each set tick;
}

-- the run's end is told
abbrev pub ends_by : TxEvent → Bool → Bool
ends_by Turn before = before
ends_by (CameFc fs bs st) before = before
ends_by Left before = before
ends_by RunEnd before = true

abbrev pub has_ended : List TxTurn → Bool
has_ended [] = false
has_ended (m ∷ earlier) = ends_by m.event (has_ended earlier)

told-so : (event : TxEvent) (ended : Bool) → Some event ≡ Some RunEnd → ends_by event ended ≡ true
told-so event ended is = let same : event ≡ RunEnd = cc in rw same refl

reads-told : (set : TxSet) (event : TxEvent) (ended : Bool) (v : View) (records : List DestRecord) (next : ℕ) (live : Option Transmission) → ReadsIn set ended v records next live NoMore → ReadsIn set (ends_by event ended) v records next live NoMore
reads-told set Turn ended v records next live reads = reads
reads-told set (CameFc fs bs st) ended v records next live reads = reads
reads-told set Left ended v records next live reads = reads
reads-told set RunEnd ended v records next live reads = reads-ended set ended (v.readings set.path.0 set.dest.0) records next live NoMore reads

no-more : (set : TxSet) (ended : Bool) (v : View) (records : List DestRecord) (next : ℕ) (live : Option Transmission) (P : Reading → Type 0) → ReadsIn set ended v records next live P → ReadsIn set ended v records next live NoMore
no-more set ended v records next None P reads = idle-too set ended v records next P NoMore reads
no-more set ended v records next (Some s) P reads = reads-like set ended (v.readings set.path.0 set.dest.0) records next s s P NoMore refl refl refl refl (λ early. early) (λ r so. tt) reads

-- a whole run
pub known-readings : (set : TxSet) (moments : List TxTurn) → HasSent set moments → ReadsIn set (has_ended moments) (grows (calls_by moments) empty_view) (records_by moments) (state_after tx_new moments).next (state_after tx_new moments).live NoMore
known-readings set [] happened = record { number = refl; told = tt; left = λ k r is left. cc; going = tt }
known-readings set (m ∷ earlier) happened =
    let v : View = grows (calls_by earlier) empty_view in
    let old = state_after tx_new earlier in
    let ended : Bool = ends_by m.event (has_ended earlier) in
    let is : HoldsOf (ReadsBy set) old m.event m.did = of-step set (ReadsBy set) old m.event m.did (law set m.did.tick) happened.1.1 in
    let reads = is.holds v (records_by earlier) ended (told-so m.event (has_ended earlier)) (reads-told set m.event (has_ended earlier) v (records_by earlier) old.next old.live (known-readings set earlier happened.2)) in
    rw (grows-append (calls_by earlier) m.did.calls empty_view) (no-more set ended (grows m.did.calls v) (records_by earlier ++ m.did.records) m.did.new.next m.did.new.live (SeenBy is.look) reads.reads)
