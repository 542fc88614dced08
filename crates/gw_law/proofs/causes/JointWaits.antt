-- No destination waits longer for the next frame's bytes than its limit.
use Rattle.std.proofs.Common.{◌≡◌, ℕ, ◌+◌, ◌-◌, ◌<◌, ◌≤◌, Bool, true, false, ◌==◌, Some, List, [], ◌∷◌, ◌++◌, length, map, min, inl, inr, refl, ap, sym, ◌∙◌, subst, arith}
use Rattle.tp_unit.specs.Box.{Written}
use Rattle.std.specs.Prelude.{filter, slice_get}
use Rattle.std.specs.List.{AllByRecursion, AllZip}
use Rattle.std.proofs.lemmas.Bool.{cases_lt}
use Rattle.std.proofs.lemmas.Bool.Decides.{nat_tests}
use Rattle.std.proofs.lemmas.List.{length-append, length-map, length-take}
use Rattle.can_frame.specs.Frame.{CanFrame}
use Rattle.hub_core.specs.declared.record.DestRecord.{DestRecord}
use Rattle.hub_core.specs.declared.record.SessionRecord.{SessionRecord}
use Rattle.tp_attempts.specs.Attempts.{attempts_in}
use Rattle.tp_attempts.specs.Cuts.{Cut}
use Rattle.tp_attempts.specs.Seen.{Seen, bytes_of, is_start, len_of, seen_frame}
use Rattle.tp_attempts.specs.Walk.{Piece, Walk, joined, reassembled, walk_of}
use Rattle.tp_sender.specs.Frame.{part_after}
use Rattle.tp_unit.proofs.RoundTrip.{reads_back}
use Rattle.tp_unit.proofs.Sizes.{length-address, length-frame_of-first, size_of}
use Rattle.tp_unit.specs.Shape.{IsShape, address_size, fits_shape}
use Rattle.tp_unit.specs.Unit.{Meaning, SingleFrame, FirstFrame, ConsecutiveFrame, FlowControl, NoUnit}
use Rattle.tp_unit.specs.Writing.{frame_of, read_back}
use Rattle.tp_unit.specs.declared.shape.Shape.{Shape}
use Rattle.gw_law.specs.Delivery.{Delivers, DeliveryLaw, IsNamed}
use Rattle.gw_law.specs.JointCauses.{EndsInTime, NoneWaitsTooLong, WaitsTooLong, left_before}
use Rattle.gw_law.specs.Account.{Route}
use Rattle.receiver_law.specs.Source.{SourceLaw, Tells}
use Rattle.sender_law.specs.Channel.{IsOfChannel}
use Rattle.gw_law.specs.Timely.{IsTimely, TimelyLaw, bytes_below, bytes_to, came_by, delivery_of_route}
use Rattle.sender_law.specs.Transfer.{has_sent, seen_of}
use Rattle.sender_law.specs.Pacing.{controls_of}
use Rattle.sender_law.specs.TransmissionCauses.{IsCausedWith, IsLate, TransmissionCauses, left_in, left_up_to}
use Rattle.gw_law.proofs.causes.JointEnds.{once}
use Rattle.gw_law.proofs.causes.OrderedPieces.{IsBegun, Ordered, SplitAt, before-is, begins-below, begun-by, bytes-none-now, later-all, none-now, one-now, paced-ordered, split-at}
use Rattle.gw_law.proofs.times.Pieces.{CutIn, bytes-most, cuts-in}
use Rattle.gw_base.proofs.Lists.{all-at, all-map, all-weaker, zip-index, zip-pair}
use Rattle.tp_attempts.proofs.Cuts.{cuts-starts}
use Rattle.gw_law.proofs.causes.SizedPieces.{IsSized, SizedFrom, sized-at, sized-walk}

-- what a frame of the channel that begins a transmission carries: some bytes, and where more follow it is of the channel's size
abbrev IsStartOf : Shape → Seen → Type 0
IsStartOf shape s = is_start false s.meaning ≡ true → (0 < length (bytes_of s.meaning)) × (length (bytes_of s.meaning) < len_of s.meaning → s.size ≡ shape.dl)

start-by : (shape : Shape) (unit meaning : Meaning) (size : ℕ) → IsShape shape → fits_shape shape unit ≡ true → meaning ≡ read_back shape unit → size ≡ length (frame_of shape unit).bytes → is_start false meaning ≡ true →
    (0 < length (bytes_of meaning)) × (length (bytes_of meaning) < len_of meaning → size ≡ shape.dl)
start-by shape (SingleFrame bytes) meaning size sound fits is size_is start = rw is (grind (arith, nat_tests, fits), λ lt. absurd (omega (arith, lt)))
start-by shape (FirstFrame len bytes) meaning size sound fits is size_is start =
    rw is (grind (arith, nat_tests, fits, size_of shape sound, length-address shape.address), λ lt. size_is ∙ length-frame_of-first shape len bytes sound fits)
start-by shape (ConsecutiveFrame number bytes) meaning size sound fits is size_is start = let no : true ≡ false = sym start ∙ ap (is_start false) is in cc
start-by shape (FlowControl status block_size separation) meaning size sound fits is size_is start = let no : true ≡ false = sym start ∙ ap (is_start false) is in cc
start-by shape (NoUnit why) meaning size sound fits is size_is start = let no : true ≡ false = sym start ∙ ap (is_start false) is in cc

start-of : (shape : Shape) (w : Written) → IsShape shape → IsOfChannel shape w → IsStartOf shape (seen_of (address_size shape) w)
start-of shape w sound own start =
    start-by shape own.unit (seen_of (address_size shape) w).meaning (seen_of (address_size shape) w).size sound own.fits
    (ap (λ f. (seen_frame (address_size shape) w.tick f).meaning) own.frame ∙ reads_back shape own.unit sound own.fits) (ap (λ (f : CanFrame). length f.bytes) own.frame) start

-- the frame after some that left carries the next part
next-part : (address size len : ℕ) (start : List ℕ) (w : Walk) (early : List Piece) (piece : Piece) (rest : List Piece) → IsSized address size len start w → w.pieces ≡ early ++ piece ∷ rest → 0 < length early →
    (length start ≤ length (joined early)) × (length piece.bytes ≡ min (size - 1 - address) (len - length (joined early)))
next-part address size len start w [] piece rest so is some = absurd (omega (arith, some))
next-part address size len start w (first ∷ early) piece rest so is some =
    let both : so.first ∷ so.rest ≡ first ∷ (early ++ piece ∷ rest) = sym so.pieces ∙ is in
    let one : so.first ≡ first = cc in
    let others : so.rest ≡ early ++ piece ∷ rest = cc in
    let P : List Piece → Type 0 = λ l. SizedFrom (size - 1 - address) len (length start) l in
    let begins : length first.bytes ≡ length start = ap (λ (p : Piece). length p.bytes) (sym one) ∙ ap length so.bytes in
    let count : length (joined (first ∷ early)) ≡ length start + length (joined early) = omega (arith, length-append first.bytes (joined early), begins) in
    (omega (arith, count), sized-at (size - 1 - address) len (length start) early piece rest (subst P others so.sized) ∙ ap (λ n. min (size - 1 - address) (len - n)) (sym count))

part-next : (shape : Shape) (len sent : ℕ) → 0 < sent → part_after shape len sent ≡ min (shape.dl - 1 - address_size shape) (len - sent)
part-next shape len sent some = let later : (sent == 0) ≡ false = grind (arith, nat_tests) in rw later refl

part-same : (cap other len start sent part bytes : ℕ) → part ≡ min cap (len - sent) → bytes ≡ min other (len - sent) → start ≤ sent → (start < len → other ≡ cap) → bytes ≡ part
part-same cap other len start sent part bytes part_is bytes_are le same = elim (cases_lt start len) [
  | inl more ↦ omega (arith, part_is, bytes_are, same more)
  | inr none ↦ omega (arith, part_is, bytes_are, le, none)
]

-- in ticks in which its next frame waits for the bus, a transmission's bytes and those of that frame had come
abbrev pub HoldsNext : (r : Route) (full : ℕ → Bool) → Cut Seen → DestRecord → Type 0
HoldsNext r full cut told = (unit : Cut Seen) (session : SessionRecord) → IsNamed (delivery_of_route r) told.seq unit session → (tick : ℕ) → tick < told.end.0 → full tick ≡ true → IsBegun tick (walk_of (address_size r.leg.tx.shape) cut).pieces →
    bytes_to tick (walk_of (address_size r.leg.tx.shape) cut).pieces + part_after r.leg.tx.shape (len_of cut.start.meaning) (bytes_to tick (walk_of (address_size r.leg.tx.shape) cut).pieces) ≤ came_by r unit session tick

-- what is known of a transmission and of the unit that its record names
record Sending (r : Route) (full : ℕ → Bool) (unit cut : Cut Seen) (session : SessionRecord) (told : DestRecord) : Type 0 where
  sound : IsShape r.leg.tx.shape
  caused : IsCausedWith full r.leg cut told
  holds : (tick : ℕ) → tick < told.end.0 → full tick ≡ true → IsBegun tick (walk_of (address_size r.leg.tx.shape) cut).pieces →
      bytes_to tick (walk_of (address_size r.leg.tx.shape) cut).pieces + part_after r.leg.tx.shape (len_of cut.start.meaning) (bytes_to tick (walk_of (address_size r.leg.tx.shape) cut).pieces) ≤ came_by r unit session tick
  timely : (tick : ℕ) → bytes_to tick (walk_of (address_size r.leg.tx.shape) cut).pieces ≤ bytes_below (tick + r.window) (walk_of r.source.rx.a unit).pieces
  start : (0 < length (bytes_of cut.start.meaning)) × (length (bytes_of cut.start.meaning) < len_of cut.start.meaning → cut.start.size ≡ r.leg.tx.shape.dl)
  len : len_of cut.start.meaning ≡ session.len
  put : length (joined (walk_of (address_size r.leg.tx.shape) cut).pieces) ≤ session.bytes
  ordered : Ordered (walk_of (address_size r.leg.tx.shape) cut).pieces
  begins : AllByRecursion (λ (p : Piece). told.begin.0 ≤ p.at) (walk_of (address_size r.leg.tx.shape) cut).pieces

-- no frame leaves in the tick: where the bus has a place, none is late, and where it has none, the next one's bytes had come
none-late : (r : Route) (full : ℕ → Bool) (unit cut : Cut Seen) (session : SessionRecord) (told : DestRecord) (tick : ℕ) (split : SplitAt tick (walk_of (address_size r.leg.tx.shape) cut).pieces) (busy : Bool) → full tick ≡ busy → Sending r full unit cut session told →
    AllByRecursion (λ (p : Piece). tick < p.at) split.later → tick < told.end.0 → WaitsTooLong r unit session told.begin.0 (walk_of (address_size r.leg.tx.shape) cut).pieces tick → ⊥
none-late r full unit cut session told tick split false free so above below waits =
    let pieces : List Piece = (walk_of (address_size r.leg.tx.shape) cut).pieces in
    let before : left_before tick pieces ≡ split.early = before-is tick pieces split in
    let some : 0 < length split.early = omega (arith, waits.started, ap length before) in
    let same : map (λ (p : Piece). p.at) (left_before tick pieces) ≡ left_up_to tick (left_in (address_size r.leg.tx.shape) cut) = ap (map (λ (p : Piece). p.at)) before ∙ sym (none-now tick pieces split.early split.later split.is split.below above) in
    let P : List Piece → Type 0 = λ l. AllByRecursion (λ (p : Piece). told.begin.0 ≤ p.at) l in
    let begun : told.begin.0 ≤ tick = begins-below told.begin.0 tick split.early split.later some split.below (subst P split.is so.begins) in
    let Q : List ℕ → Type 0 = λ l. IsLate r.leg.tx.n_cs (controls_of r.leg.tx.period r.leg.answers) told.begin.0 l tick in
    (so.caused.in_time tick begun below).leaves free (omega (arith, some, ap length (sym same), length-map (left_before tick pieces) (λ (p : Piece). p.at), ap length before)) (subst Q same waits.late)
none-late r full unit cut session told tick split true busy so above below waits =
    let pieces : List Piece = (walk_of (address_size r.leg.tx.shape) cut).pieces in
    let before : left_before tick pieces ≡ split.early = before-is tick pieces split in
    let some : 0 < length split.early = omega (arith, waits.started, ap length before) in
    let sent : bytes_to tick pieces ≡ length (joined (left_before tick pieces)) = bytes-none-now tick pieces split.early split.later split.is split.below above ∙ ap (λ l. length (joined l)) (sym before) in
    let L : ℕ → Type 0 = λ len. length (joined (left_before tick pieces)) + part_after r.leg.tx.shape len (length (joined (left_before tick pieces))) ≤ came_by r unit session tick in
    let B : ℕ → Type 0 = λ n. n + part_after r.leg.tx.shape (len_of cut.start.meaning) n ≤ came_by r unit session tick in
    let all : length (joined (left_before tick pieces)) + part_after r.leg.tx.shape session.len (length (joined (left_before tick pieces))) ≤ came_by r unit session tick =
    subst L so.len (subst B sent (so.holds tick below busy (begun-by tick pieces split.early split.later split.is some split.below))) in
    omega (arith, all, waits.lacks)

late-none : (r : Route) (full : ℕ → Bool) (unit cut : Cut Seen) (session : SessionRecord) (told : DestRecord) (tick : ℕ) (split : SplitAt tick (walk_of (address_size r.leg.tx.shape) cut).pieces) → Sending r full unit cut session told →
    AllByRecursion (λ (p : Piece). tick < p.at) split.later → tick < told.end.0 → WaitsTooLong r unit session told.begin.0 (walk_of (address_size r.leg.tx.shape) cut).pieces tick → ⊥
late-none r full unit cut session told tick split so above below waits = none-late r full unit cut session told tick split (full tick) refl so above below waits

-- a frame leaves in the tick
late-one : (r : Route) (full : ℕ → Bool) (unit cut : Cut Seen) (session : SessionRecord) (told : DestRecord) (tick : ℕ) (split : SplitAt tick (walk_of (address_size r.leg.tx.shape) cut).pieces) (piece : Piece) (rest : List Piece) → Sending r full unit cut session told → split.later ≡ piece ∷ rest → piece.at ≤ tick →
    WaitsTooLong r unit session told.begin.0 (walk_of (address_size r.leg.tx.shape) cut).pieces tick → ⊥
late-one r full unit cut session told tick split piece rest so later now waits =
    let address : ℕ = address_size r.leg.tx.shape in
    let w : Walk = walk_of address cut in
    let before : left_before tick w.pieces ≡ split.early = before-is tick w.pieces split in
    let some : 0 < length split.early = omega (arith, waits.started, ap length before) in
    let is : w.pieces ≡ split.early ++ piece ∷ rest = split.is ∙ ap (λ l. split.early ++ l) later in
    let sizes = next-part address cut.start.size (len_of cut.start.meaning) (bytes_of cut.start.meaning) w split.early piece rest (sized-walk address cut) is some in
    let same : length piece.bytes ≡ part_after r.leg.tx.shape (len_of cut.start.meaning) (length (joined split.early)) =
    part-same (r.leg.tx.shape.dl - 1 - address_size r.leg.tx.shape) (cut.start.size - 1 - address_size r.leg.tx.shape) (len_of cut.start.meaning) (length (bytes_of cut.start.meaning)) (length (joined split.early)) _ (length piece.bytes)
    (part-next r.leg.tx.shape (len_of cut.start.meaning) (length (joined split.early)) (omega (arith, so.start.0, sizes.0))) sizes.1 sizes.0 (λ more. ap (λ s. s - 1 - address_size r.leg.tx.shape) (so.start.1 more)) in
    let came : ℕ = came_by r unit session tick in
    let few : came_by r unit session tick < length (joined split.early) + length piece.bytes =
    subst (λ n. came_by r unit session tick < length (joined split.early) + n) (sym same)
    (subst (λ n. came_by r unit session tick < length (joined split.early) + part_after r.leg.tx.shape n (length (joined split.early))) (sym so.len)
    (subst (λ l. came_by r unit session tick < length (joined l) + part_after r.leg.tx.shape session.len (length (joined l))) before waits.lacks)) in
    omega (arith, few, so.timely tick, ap (bytes_to tick) is, one-now tick split.early piece rest split.below now, bytes-most tick w.pieces, so.put)

late-by : (r : Route) (full : ℕ → Bool) (unit cut : Cut Seen) (session : SessionRecord) (told : DestRecord) (tick : ℕ) (split : SplitAt tick (walk_of (address_size r.leg.tx.shape) cut).pieces) (later : List Piece) → Sending r full unit cut session told → split.later ≡ later → tick < told.end.0 →
    WaitsTooLong r unit session told.begin.0 (walk_of (address_size r.leg.tx.shape) cut).pieces tick → ⊥
late-by r full unit cut session told tick split [] so is below waits =
    let P : List Piece → Type 0 = λ l. AllByRecursion (λ (p : Piece). tick < p.at) l in
    late-none r full unit cut session told tick split so (subst P (sym is) tt) below waits
late-by r full unit cut session told tick split (piece ∷ rest) so is below waits = elim (cases_lt tick piece.at) [
  | inl after ↦
      let P : List Piece → Type 0 = λ l. AllByRecursion (λ (p : Piece). tick < p.at) l in
      let O : List Piece → Type 0 = λ l. Ordered l in
      late-none r full unit cut session told tick split so (subst P (sym is) (all-weaker (λ (p : Piece). tick + 1 ≤ p.at) (λ (p : Piece). tick < p.at) (piece ∷ rest) (λ p le. omega (arith, le)) (later-all (tick + 1) piece rest (omega (arith, after)) (subst O is split.ordered)))) below waits
  | inr now ↦ late-one r full unit cut session told tick split piece rest so is now waits
]

-- a unit and a session that a number names are the only ones, of one length
pub named-once : (r : Route) (seq : ℕ) (unit other : Cut Seen) (session also : SessionRecord) → DeliveryLaw (delivery_of_route r) → IsNamed (delivery_of_route r) seq unit session → IsNamed (delivery_of_route r) seq other also → (unit ≡ other) × (session ≡ also)
named-once r seq unit other session also law one two =
    let same : one.place ≡ two.place = once 0 r.source.sessions one.place two.place session also one.opened two.opened law.sessions one.session_is two.session_is one.opened_is two.opened_is (one.seq_is ∙ sym two.seq_is) in
    let units : Some unit ≡ Some other = sym one.unit_is ∙ ap (slice_get (attempts_in r.source.rx.functional r.source.seen)) same ∙ two.unit_is in
    let sessions : Some session ≡ Some also = sym one.session_is ∙ ap (slice_get r.source.sessions) same ∙ two.session_is in
    (cc, cc)

pub len-named : (r : Route) (seq : ℕ) (unit : Cut Seen) (session : SessionRecord) → SourceLaw r.source.rx.chan.0 r.source.rx.a r.source.rx.functional r.source.seen r.source.sessions → IsNamed (delivery_of_route r) seq unit session → session.len ≡ len_of unit.start.meaning
len-named r seq unit session law named = (zip-pair (Tells r.source.rx.chan.0 r.source.rx.a) (attempts_in r.source.rx.functional r.source.seen) r.source.sessions named.place unit session law.tells named.unit_is named.session_is).len

-- by the laws of the source, of a destination's ends, of time and of delivery
pub none-waits : (r : Route) (full : ℕ → Bool) → IsShape r.leg.tx.shape → SourceLaw r.source.rx.chan.0 r.source.rx.a r.source.rx.functional r.source.seen r.source.sessions → TransmissionCauses full r.leg → AllZip (HoldsNext r full) (attempts_in false (delivery_of_route r).frames) (filter has_sent r.leg.dests) → TimelyLaw r → DeliveryLaw (delivery_of_route r) → NoneWaitsTooLong r
none-waits r full sound source causes holds timely law =
    let frames : List Seen = (delivery_of_route r).frames in
    let starts = cuts-in (IsStartOf r.leg.tx.shape) (λ (s : Seen). is_start false s.meaning) frames (all-map (IsStartOf r.leg.tx.shape) (seen_of (address_size r.leg.tx.shape)) r.leg.frames (all-weaker (IsOfChannel r.leg.tx.shape) (λ w. IsStartOf r.leg.tx.shape (seen_of (address_size r.leg.tx.shape) w)) r.leg.frames (λ w own. start-of r.leg.tx.shape w sound own) timely.own)) in
    let begin = cuts-starts (λ (s : Seen). is_start false s.meaning) frames in
    zip-index (Delivers (delivery_of_route r)) (EndsInTime r) (attempts_in false frames) (filter has_sent r.leg.dests) (λ k cut told cut_is told_is delivers unit session named tick below waits.
    let caused = zip-pair (IsCausedWith full r.leg) (attempts_in false frames) (filter has_sent r.leg.dests) k cut told causes.sent cut_is told_is in
    let held = zip-pair (HoldsNext r full) (attempts_in false frames) (filter has_sent r.leg.dests) k cut told holds cut_is told_is in
    let time = zip-pair (IsTimely r.window (delivery_of_route r)) (attempts_in false frames) (filter has_sent r.leg.dests) k cut told timely.timely cut_is told_is in
    let start = all-at (CutIn (IsStartOf r.leg.tx.shape)) (attempts_in false frames) k cut starts cut_is in
    let is_so = all-at (λ (c : Cut Seen). is_start false c.start.meaning ≡ true) (attempts_in false frames) k cut begin cut_is in
    let same : (delivers.names.unit ≡ unit) × (delivers.names.session ≡ session) = named-once r told.seq delivers.names.unit unit delivers.names.session session law delivers.names.named named in
    let ordered : Ordered (walk_of (address_size r.leg.tx.shape) cut).pieces = paced-ordered (controls_of r.leg.tx.period r.leg.answers) (walk_of (address_size r.leg.tx.shape) cut).pieces delivers.paced in
    let so : Sending r full unit cut session told = record {
      sound = sound;
      caused = caused;
      holds = held unit session named;
      timely = time unit session named;
      start = start.0 is_so;
      len = delivers.len ∙ ap (λ (c : Cut Seen). len_of c.start.meaning) same.0 ∙ sym (len-named r told.seq unit session source named);
      put = omega (arith, ap length delivers.bytes, length-take told.sent (reassembled r.source.rx.a delivers.names.unit), delivers.within, ap (λ (s : SessionRecord). s.bytes) same.1);
      ordered = ordered;
      begins = all-weaker (λ (p : Piece). (told.begin.0 ≤ p.at) × (p.at ≤ told.end.0)) (λ (p : Piece). told.begin.0 ≤ p.at) (walk_of (address_size r.leg.tx.shape) cut).pieces (λ p both. both.0) delivers.ticks;
    } in
    let split : SplitAt tick (walk_of (address_size r.leg.tx.shape) cut).pieces = split-at tick (walk_of (address_size r.leg.tx.shape) cut).pieces ordered in
    late-by r full unit cut session told tick split split.later so refl below waits) law.delivers
