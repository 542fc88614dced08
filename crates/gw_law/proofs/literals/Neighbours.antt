-- Each neighbour of the lawful run breaks a law.
use Rattle.std.proofs.Common.{◌≡◌, ℕ, zero, suc, ◌<◌, ◌≤◌, Bool, true, false, List, [], ◌∷◌, ◌++◌, length, Option, Some, None, inl, inr, true≢false, refl, ap, sym, ◌∙◌, subst, arith, append-nil}
use Rattle.std.specs.Prelude.{drop, slice_get, take, ◌&&◌, map, reverse}
use Rattle.gw_base.specs.declared.numbers.PathNo.{PathNo}
use Rattle.hub_core.specs.declared.record.DestRecord.{DestRecord}
use Rattle.hub_core.specs.declared.record.Move.{Move}
use Rattle.receiver_law.proofs.receptions.Counting.{last-before}
use Rattle.receiver_law.specs.Channel.{SourceChannel}
use Rattle.receiver_law.specs.FlowControls.{IsFirst, IsOwed, bound_of}
use Rattle.receiver_law.specs.ReceptionCauses.{HasCause, IsAwaited, IsReception}
use Rattle.receiver_law.specs.Receptions.{Continue, ControlLeft, Received, controls_of, frames_of, last_by, written_as}
use Rattle.receiver_law.specs.Source.{is_overflow}
use Rattle.hub_core.specs.declared.record.RxWait.TheVariants.{Cf}
use Rattle.hub_core.specs.declared.record.SessionRecord.{SessionRecord}
use Rattle.hub_core.specs.declared.record.SessionResult.{SessionResult}
use Rattle.hub_core.specs.declared.record.SessionResult.TheVariants.{RunEnd}
use Rattle.std.specs.List.{AllByRecursion, AllZip}
use Rattle.std.proofs.lemmas.List.{length-map, length-reverse}
use Rattle.tp_attempts.specs.Cuts.{Cut}
use Rattle.gw_law.specs.Account.{dest_in, source_in}
use Rattle.gw_law.specs.Readers.{IsReadIn}
use Rattle.gw_law.specs.Rooms.{HasCells}
use Rattle.hub_core.specs.declared.record.OpenedAt.{OpenedAt}
use Rattle.receiver_law.specs.PutCells.{cells_of}
use Rattle.tp_attempts.specs.Walk.{Piece, joined, reassembled}
use Rattle.tp_unit.specs.Box.{Written}
use Rattle.tp_unit.specs.Unit.{FirstFrame}
use Rattle.tp_unit.specs.Reading.{unit_in, unit_of}
use Rattle.tp_unit.specs.Shape.{address_size}
use Rattle.tp_attempts.specs.Seen.{Seen, is_data}
use Rattle.gw_law.proofs.literals.Items.{alone}
use Rattle.gw_law.specs.Channels.{address_in, is_addressed, is_control}
use Rattle.gw_law.specs.Emission.{IsControlOn, IsDataOn, IsOfSending}
use Rattle.gw_law.specs.Examples.{NeighboursAreUnlawful, awaited_too_early, full_after_one_cell, buffer_of_another_group, changed_byte, frame_of_no_channel, leaves, control_frame, long_session, lower_priority_first, no_such_destination, put_for_none, read_to_the_end, refused_at_once, receiving, sent_before_it_came, sent_below_the_threshold, sent_on, single_frame, short_session, sending, source_ended_late, takes, two_takes_of_one_buffer, unsent}
use Rattle.gw_law.specs.JointCauses.{IsOwnEnd}
use Rattle.gw_law.specs.Lawful.{Lawful, is_full_at}
use Rattle.gw_law.specs.Plan.{Receiving, Sending}
use Rattle.gw_law.specs.Pool.{IsLawfulMove}

bytes-kept : Lawful changed_byte → ⊥
unfolding unit_in
bytes-kept law =
    let delivers = (law.routes 1 1 _ _ refl refl refl).delivery.delivers.0 in
    let named = delivers.names.named in
    let unit = alone _ _ named.place named.unit_is in
    let bytes : 7 ∷ 8 ∷ 0 ∷ [] ≡ 7 ∷ 8 ∷ 9 ∷ [] = delivers.bytes ∙ ap (λ cut. take 3 (reassembled 0 cut)) (sym unit) in
    cc

-- no path 2
no-path : IsOfSending no_such_destination (sent_on 2) → ⊥
no-path (s, (zero, there), path, dest) = absurd (let same : sending 0 0x710 0x718 2 1 ≡ s = cc in let number : 2 ≡ 0 = ap (λ (p : PathNo). p.0) (path ∙ ap (λ (x : Sending). x.set.path) (sym same)) in omega (arith, number))
no-path (s, (suc zero, there), path, dest) = absurd (let same : sending 1 0x600 0x608 1 0 ≡ s = cc in let number : 2 ≡ 1 = ap (λ (p : PathNo). p.0) (path ∙ ap (λ (x : Sending). x.set.path) (sym same)) in omega (arith, number))
no-path (s, (suc (suc place), there), path, dest) = absurd (let none : None ≡ Some s = there in cc)

came-in-time : Lawful sent_before_it_came → ⊥
unfolding unit_in
came-in-time law =
    let begins = (law.routes 1 1 _ _ refl refl refl).timely.begins.0 _ (short_session 3) (record { place = 0; unit_is = refl; session_is = refl; opened = _; opened_is = refl; seq_is = refl }) in
    omega (arith, begins)

-- where one flow control left, in tick 1, and one attempt came, it is that of the attempt's reception
record HasOneControl (full : ℕ → Bool) (r : SourceChannel) (attempt : Cut Seen) (told : SessionRecord) : Type 0 where
  one : Received
  is : IsReception full r attempt one
  told_is : one.told ≡ told
  control : ControlLeft
  controls : one.controls ≡ control ∷ []
  tick : control.tick ≡ 1

one-control : (full : ℕ → Bool) (r : SourceChannel) (attempt : Cut Seen) (told : SessionRecord) (bytes : List ℕ) (receptions : List Received) → AllZip (IsReception full r) (attempt ∷ []) receptions → told ∷ [] ≡ map (λ (p : Received). p.told) receptions →
    leaves 1 0x708 bytes ∷ [] ≡ map (written_as r.rx r.shape) (controls_of receptions) → HasOneControl full r attempt told
one-control full r attempt told bytes [] are records wrote = absurd are
one-control full r attempt told bytes (one ∷ next ∷ receptions) are records wrote = absurd are.1
one-control full r attempt told bytes (one ∷ []) are records wrote = of one.controls refl (wrote ∙ ap (map (written_as r.rx r.shape)) (append-nil (reverse one.controls)))
  where
    same-told : one.told ≡ told
    same-told = let same : told ≡ one.told = cc in sym same

    of : (controls : List ControlLeft) → one.controls ≡ controls → leaves 1 0x708 bytes ∷ [] ≡ map (written_as r.rx r.shape) (reverse one.controls) → HasOneControl full r attempt told
    of [] is wrote = let none : leaves 1 0x708 bytes ∷ [] ≡ [] = wrote ∙ ap (λ (c : List ControlLeft). map (written_as r.rx r.shape) (reverse c)) is in cc
    of (control ∷ []) is wrote =
        let same : leaves 1 0x708 bytes ∷ [] ≡ written_as r.rx r.shape control ∷ [] = wrote ∙ ap (λ (c : List ControlLeft). map (written_as r.rx r.shape) (reverse c)) is in
        let w : leaves 1 0x708 bytes ≡ written_as r.rx r.shape control = cc in
        record { one = one; is = are.0; told_is = same-told; control = control; controls = is; tick = sym (ap (λ (v : Written). v.tick) w) }
    of (control ∷ earlier ∷ more) is wrote =
        let many : 1 ≡ length (control ∷ earlier ∷ more) = ap length wrote ∙ length-map (reverse one.controls) (written_as r.rx r.shape) ∙ length-reverse one.controls ∙ ap length is in
        absurd (omega (arith, many))

-- the attempt that the first frame begins
abbrev long_attempt : Cut Seen
long_attempt = record { start = record { at = 0; size = 8; meaning = FirstFrame 10 (1 ∷ 2 ∷ 3 ∷ 4 ∷ 5 ∷ 6 ∷ []) }; after = [] }

-- six bytes are neither ten, nor do they fill two cells
begins-late : Lawful sent_below_the_threshold → ⊥
unfolding unit_in
begins-late law =
    elim ((law.routes 0 0 _ _ refl refl refl).timely.starts.0 _ long_session (record { place = 0; unit_is = refl; session_is = refl; opened = _; opened_is = refl; seq_is = refl })) [
      | inl all ↦ (let bytes : 10 ≤ 6 = all in omega (arith, bytes))
      | inr some ↦ (let cells : 2 ≤ 1 = some.1 in omega (arith, cells))
    ]

by-priority : Lawful lower_priority_first → ⊥
unfolding unit_in
by-priority law =
    let sources = law.sources.0.receptions in
    let one = one-control (is_full_at lower_priority_first (receiving 0 0x700 0x708 0)) (source_in lower_priority_first (receiving 0 0x700 0x708 0)) long_attempt long_session control_frame sources.receptions sources.are sources.sessions sources.controls in
    let opened : is_overflow one.one.told.result ≡ false = ap (λ (t : SessionRecord). is_overflow t.result) one.told_is in
    let answers = one.is.answered.session (subst (λ (s : Seen). IsFirst s.meaning) (sym one.is.answered.start) tt) opened in
    let none : last_by 0 one.one.controls ≡ None = ap (last_by 0) one.controls ∙ last-before 0 one.control [] (omega (arith, one.tick)) in
    let full : false ≡ true = answers.owed 0 (omega (arith, ap (λ (t : SessionRecord). t.begin.0) one.told_is)) (omega (arith, ap bound_of one.told_is)) (subst (λ (c : Option ControlLeft). IsOwed (receiving 0 0x700 0x708 0).set (frames_of 0 long_attempt) c 0) (sym none) tt) in
    cc

-- the frame that leaves in tick 2 is none of a flow control, and no data frame
abbrev stray : Written
stray = leaves 2 0x601 single_frame

no-control : IsControlOn frame_of_no_channel 0 stray → ⊥
no-control (r, (zero, there), bus, ours) = absurd (true≢false (sym (let same : receiving 0 0x700 0x708 0 ≡ r = cc in ap (λ (x : Receiving). is_addressed (address_in x.shape) stray.frame && is_control (unit_of (address_size x.shape) stray.frame)) same ∙ ours)))
no-control (r, (suc zero, there), bus, ours) = absurd (let same : receiving 1 0x500 0x508 1 ≡ r = cc in let other : 1 ≡ 0 = ap (λ (x : Receiving). x.bus) same ∙ bus in omega (arith, other))
no-control (r, (suc (suc place), there), bus, ours) = absurd (let none : None ≡ Some r = there in cc)

no-data : IsDataOn frame_of_no_channel 0 stray → ⊥
no-data (s, (zero, there), bus, ours) = absurd (let same : sending 0 0x710 0x718 2 1 ≡ s = cc in let other : 1 ≡ 0 = ap (λ (x : Sending). x.bus) same ∙ bus in omega (arith, other))
no-data (s, (suc zero, there), bus, ours) = absurd (true≢false (sym (let same : sending 1 0x600 0x608 1 0 ≡ s = cc in ap (λ (x : Sending). is_addressed (address_in x.set.shape) stray.frame && is_data (unit_of (address_size x.set.shape) stray.frame)) same ∙ ours)))
no-data (s, (suc (suc place), there), bus, ours) = absurd (let none : None ≡ Some s = there in cc)

no-stray : Lawful frame_of_no_channel → ⊥
no-stray law = elim (law.buses 0).own.1.1.0 [
  | inl control ↦ no-control control
  | inr frame ↦ no-data frame
]

-- the flow control left in tick 1, and not in tick 0
not-awaited : Lawful awaited_too_early → ⊥
unfolding unit_in
not-awaited law =
    let sources = law.sources.0.receptions in
    let one = one-control (is_full_at awaited_too_early (receiving 0 0x700 0x708 0)) (source_in awaited_too_early (receiving 0 0x700 0x708 0)) long_attempt (record long_session { result = RunEnd Cf (record { 0 = 0 }) }) control_frame sources.receptions sources.are sources.sessions sources.controls in
    let ends : IsAwaited (receiving 0 0x700 0x708 0).set long_attempt one.one 0 4 = (subst (λ (result : SessionResult). HasCause (is_full_at awaited_too_early (receiving 0 0x700 0x708 0)) (source_in awaited_too_early (receiving 0 0x700 0x708 0)) long_attempt one.one result) (ap (λ (t : SessionRecord). t.result) one.told_is) one.is.caused).2 in
    let newest : record { tick = ends.left; kind = Continue ends.block } ∷ ends.earlier ≡ one.control ∷ [] = sym ends.newest ∙ one.controls in
    let same : record { tick = ends.left; kind = Continue ends.block } ≡ one.control = cc in
    omega (arith, ap (λ (c : ControlLeft). c.tick) same, one.tick, ends.since_is)

-- a room of no cell leaves one cell of the buffer that no frame took
first-put : (put rest : List Piece) → record { at = 0; bytes = 1 ∷ 2 ∷ 3 ∷ 4 ∷ 5 ∷ 6 ∷ [] } ∷ record { at = 0; bytes = 7 ∷ 8 ∷ 9 ∷ 10 ∷ [] } ∷ [] ≡ put ++ rest → 6 ≡ length (joined put) → cells_of put ≤ 1
first-put [] rest are sum = absurd (omega (arith, sum))
first-put (first ∷ []) rest are sum = let same : record { at = 0; bytes = 1 ∷ 2 ∷ 3 ∷ 4 ∷ 5 ∷ 6 ∷ [] } ≡ first = cc in subst (λ (p : Piece). cells_of (p ∷ []) ≤ 1) same (omega arith)
first-put (first ∷ second ∷ put) rest are sum =
    let one : record { at = 0; bytes = 1 ∷ 2 ∷ 3 ∷ 4 ∷ 5 ∷ 6 ∷ [] } ≡ first = cc in
    let two : record { at = 0; bytes = 7 ∷ 8 ∷ 9 ∷ 10 ∷ [] } ≡ second = cc in
    absurd (omega (arith, subst (λ (p : Piece). 6 ≡ length (joined (record { at = 0; bytes = 1 ∷ 2 ∷ 3 ∷ 4 ∷ 5 ∷ 6 ∷ [] } ∷ p ∷ put))) (sym two) (subst (λ (p : Piece). 6 ≡ length (joined (p ∷ second ∷ put))) (sym one) sum)))

not-full : Lawful full_after_one_cell → ⊥
unfolding unit_in
not-full law =
    let had = law.sources.0.rooms.0 0 1 refl in
    let opened : record { seq = 0; buf = record { 0 = 0 }; change = 1 } ≡ had.opened = let is = had.opened_is in cc in
    let size : Some 2 ≡ Some had.size = subst (λ (o : OpenedAt). HasCells ((2 ∷ 4 ∷ []) ∷ []) o.buf.0 had.size) (sym opened) had.size_is in
    let cells : 2 ≡ had.size = cc in
    omega (arith, cells, had.least, first-put had.put had.are_put.rest had.are_put.are had.are_put.sum)

-- the destination that would read in tick 4 ended in tick 1
not-read : IsReadIn put_for_none 0 0 4 → ⊥
not-read reads = by reads.other reads.there
  where
    by : (other : ℕ) → slice_get put_for_none.plan.senders other ≡ Some reads.sending → ⊥
    by zero there =
        let same : sending 0 0x710 0x718 1 1 ≡ reads.sending = cc in
        let told : Some refused_at_once ≡ Some reads.told = subst (λ (s : Sending). slice_get (dest_in put_for_none s).dests 0 ≡ Some reads.told) (sym same) reads.told_is in
        let one : refused_at_once ≡ reads.told = cc in
        omega (arith, reads.later, ap (λ (t : DestRecord). t.end.0) one)
    by (suc zero) there = let same : sending 1 0x600 0x608 1 0 ≡ reads.sending = cc in omega (arith, ap (λ (s : Sending). s.set.path.0) same, reads.path_is)
    by (suc (suc other)) there = absurd (let none : None ≡ Some reads.sending = there in cc)

second-put : (put rest : List Piece) → record { at = 0; bytes = 1 ∷ 2 ∷ 3 ∷ 4 ∷ 5 ∷ 6 ∷ [] } ∷ record { at = 4; bytes = 7 ∷ 8 ∷ 9 ∷ 10 ∷ [] } ∷ [] ≡ put ++ rest → 10 ≡ length (joined put) → AllByRecursion (λ (p : Piece). IsReadIn put_for_none 0 0 p.at) (drop 1 put) → ⊥
second-put [] rest are sum read = omega (arith, sum)
second-put (first ∷ []) rest are sum read =
    let same : record { at = 0; bytes = 1 ∷ 2 ∷ 3 ∷ 4 ∷ 5 ∷ 6 ∷ [] } ≡ first = cc in
    let six : 10 ≡ 6 = subst (λ (p : Piece). 10 ≡ length (joined (p ∷ []))) (sym same) sum in
    omega (arith, six)
second-put (first ∷ second ∷ put) rest are sum read =
    let same : record { at = 4; bytes = 7 ∷ 8 ∷ 9 ∷ 10 ∷ [] } ≡ second = cc in
    not-read (subst (λ (p : Piece). IsReadIn put_for_none 0 0 p.at) (sym same) read.0)

no-reader : Lawful put_for_none → ⊥
unfolding unit_in
no-reader law =
    let told = law.sources.0.readers.0 _ refl in
    second-put told.put told.are_put.rest told.are_put.are told.are_put.sum told.read

-- the destination that doesn't read ended with the run
still-reads : Lawful read_to_the_end → ⊥
unfolding unit_in
still-reads law =
    let unread = (law.routes 0 0 _ _ refl refl refl).joint.unread.0 refl in
    let opened : record { seq = 0; buf = record { 0 = 0 }; change = 1 } ≡ unread.opened = let is = unread.opened_is in cc in
    let told : unsent ≡ unread.told = alone _ _ unread.opened.seq unread.told_is in
    subst (λ (told : DestRecord). IsOwnEnd told.result) (sym told) unread.cause

-- by tick 3 the destination has seen that its source ended in tick 0
seen-late : Lawful source_ended_late → ⊥
unfolding unit_in
seen-late law =
    let soon = (law.routes 0 0 _ _ refl refl refl).joint.soon.unsent.0 refl _ _ (record { place = 0; unit_is = refl; session_is = refl; opened = _; opened_is = refl; seq_is = refl }) refl 0 refl in
    let end : 4 ≤ 3 = soon in
    omega (arith, end)

-- the second move takes a buffer that isn't free
one-take : Lawful two_takes_of_one_buffer → ⊥
one-take law =
    let each = (law.pool.each 0 (omega arith)).law.replayed.each 1 (omega arith) in
    let move : takes 2 0 ≡ each.0 = let there = each.1 in cc in
    (subst (λ (m : Move). IsLawfulMove (2 ∷ 4 ∷ []) 2 m) (sym move) each.2).kind.0 refl refl

-- the short message's buffer is the second group's
other-group : Lawful buffer_of_another_group → ⊥
unfolding unit_in
other-group law =
    let served = (law.pool.each 0 (omega arith)).law.asks.1.0.0.served _ refl in
    let group : 1 ≡ 0 = served.its in
    omega (arith, group)

pub neighbours : NeighboursAreUnlawful
unfolding unit_in
neighbours = record {
  changed_byte = bytes-kept;
  wrong_destination = λ law. let each : [] ≡ 0 ∷ [] = (law.routes 1 1 _ _ refl refl refl).each in cc;
  no_such_destination = λ law. no-path law.no_others.dests.1.1.0;
  sent_before_it_came = came-in-time;
  sent_below_the_threshold = begins-late;
  lower_priority_first = by-priority;
  two_in_a_tick = λ law. let most : 2 ≤ 1 = (law.buses 0).most 0 in omega (arith, most);
  frame_of_no_channel = no-stray;
  fd_on_a_classic_bus = λ law.
      let classic : true ≡ false = ((law.written 0).classic (record { receivers = (λ on. refl, (λ on. refl, tt)); senders = (λ on. refl, (λ on. refl, tt)) })).0 in
      true≢false classic;
  frame_after_the_end = λ law. let end : 5 ≤ 4 = law.sources.0.emission.end.0 in omega (arith, end);
  wrong_length = λ law. let len : 11 ≡ 10 = law.sources.0.source.tells.0.len in omega (arith, len);
  awaited_too_early = not-awaited;
  full_after_one_cell = not-full;
  put_for_none = no-reader;
  session_after_the_end = λ law. let end : 5 ≤ 4 = law.sources.0.records.own.0.end in omega (arith, end);
  read_to_the_end = still-reads;
  source_ended_late = seen-late;
  destination_after_the_end = λ law. let end : 5 ≤ 4 = law.dests.1.0.records.own.0.end in omega (arith, end);
  sent_too_late = λ law. let left : 0 ≡ 1 = law.dests.1.0.transmissions.sent.0.cause in omega (arith, left);
  waits_for_an_idle_bus = λ law. let full : false ≡ true = (law.dests.0.transmissions.unsent.0 refl).cause.2.1 0 (omega arith) (omega arith) in cc;
  two_takes_of_one_buffer = one-take;
  numbered_from_two = λ law. let number : 2 ≡ 1 = (law.pool.each 0 (omega arith)).law.replayed.numbered.0 in omega (arith, number);
  buffer_of_another_group = other-group;
  buffer_never_freed = λ law. (law.pool.each 0 (omega arith)).whole 0 (omega arith) refl;
  no_such_buffer = λ law. let there : 1 < 1 = law.pool.there.1.1.1.1.0 in omega (arith, there);
}
