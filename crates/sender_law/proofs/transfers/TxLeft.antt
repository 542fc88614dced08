-- The frame that lay in the box left: the first one, a further one, the last one; or another frame of the channel left.
use Rattle.std.proofs.Common.{◌≡◌, ℕ, ◌+◌, ◌-◌, ◌%◌, ◌<◌, ◌≤◌, Option, Some, None, List, [], ◌∷◌, ◌++◌, length, false, refl, ap, sym, subst, ◌∙◌, arith, append-nil, append_assoc, length-append}
use Rattle.tp_sender.specs.declared.transmission.Phase.{Phase}
use Rattle.tp_sender.specs.declared.transmission.Phase.TheVariants.{Box, Fc, Gap}
use Rattle.flow_plan.specs.Pace.{Awaits, Control, May, answered_all, block_of, gone_on}
use Rattle.flow_plan.proofs.Paces.{awaits-stays, gone-next, may-stays}
use Rattle.tp_sender.specs.State.{Transmission}
use Rattle.std.specs.Prelude.{map}
use Rattle.std.specs.List.{AllByRecursion}
use Rattle.gw_base.specs.declared.numbers.DestNo.{DestNo}
use Rattle.gw_base.specs.declared.numbers.PathNo.{PathNo}
use Rattle.hub_core.specs.declared.record.DestRecord.{DestRecord}
use Rattle.hub_core.specs.declared.record.DestResult.TheVariants.{Sent}
use Rattle.tp_attempts.specs.Attempts.{attempts_in}
use Rattle.tp_attempts.specs.Cuts.{Cut}
use Rattle.tp_attempts.specs.Seen.{Seen}
use Rattle.tp_attempts.specs.Walk.{Piece, walk_of}
use Rattle.tp_sender.specs.Frame.{part_after, unit_after}
use Rattle.tp_sender.specs.Table.{in_phase}
use Rattle.tp_unit.specs.declared.shape.Shape.{Shape}
use Rattle.tp_unit.specs.Shape.{IsShape, address_size}
use Rattle.tp_unit.specs.Unit.{Meaning}
use Rattle.sender_law.specs.Transfer.{ticks_of}
use Rattle.sender_law.proofs.transfers.TxFrames.{seen_unit}
use Rattle.sender_law.proofs.transfers.TxLeaves.{OneSent, finishes, leaves-first, leaves-next, record_of, sends-way}
use Rattle.sender_law.proofs.transfers.TxMoves.{grows-same, lives-some}
use Rattle.sender_law.proofs.transfers.TxPaces.{Permits, pace-first, pace-next, pace_after, permits-later}
use Rattle.sender_law.proofs.transfers.TxWorld.{Boxed, GoesOn, IsBoxed, IsOnWay, Ready, SoFar, Way, World, Unsent, UnderWay, so-cut}

-- a frame left, and the session goes on or ended
abbrev pub leaves : Seen → List DestRecord → Option Transmission → World → World
leaves seen records live w = record w { told = record w.told { frames = w.told.frames ++ seen ∷ []; records = w.told.records ++ records; live = live }; box = None; clear = w.told.now + 1 }

-- what lies in the box of a session whose frame lies there
pub in-box : (shape : Shape) (len sent number : ℕ) (phase : Phase) (box : Option Meaning) (offered : List ℕ) → phase ≡ Box → Boxed shape len sent number phase box offered → IsBoxed shape len sent number box offered
in-box shape len sent number phase box offered is boxed = let P : Phase → Type 0 = λ p. Boxed shape len sent number p box offered in subst P is boxed

way-in-box : (shape : Shape) (answers : List Control) (clear begin now len number sent block gap : ℕ) (taken : List ℕ) (phase : Phase) (since : ℕ) (going : List (Cut Seen)) → phase ≡ Box →
    Way shape answers clear begin now len number sent block gap taken phase since going → Way shape answers clear begin now len number sent block gap taken Box since going
way-in-box shape answers clear begin now len number sent block gap taken phase since going is way = let P : Phase → Type 0 = λ p. Way shape answers clear begin now len number sent block gap taken p since going in subst P is way

-- what the frame that left comes to: the transmission with it, its bytes, and from when on the next frame may leave
pub record Comes (shape : Shape) (w : World) (s : Transmission) (ended : List (Cut Seen)) (unit : Meaning) : Type 0 where
  pub taken : List ℕ
  pub rest : List ℕ
  pub read : w.told.read s.seq ≡ taken ++ (rest ++ s.carried)
  pub bytes : length taken ≡ s.sent + part_after shape s.len s.sent
  pub none_left : rest ≡ []
  pub cut : Cut Seen
  pub cuts : attempts_in false (w.told.frames ++ seen_unit shape w.told.now unit ∷ []) ≡ ended ++ cut ∷ []
  pub every : map (λ piece. piece.at) (walk_of (address_size shape) cut).pieces ≡ ticks_of cut
  pub way : IsOnWay shape w.told.answers (w.told.now + 1) s.begin w.told.now s.len taken (walk_of (address_size shape) cut)
  pub first : s.sent ≡ 0 → (s.number ≡ length (walk_of (address_size shape) cut).pieces % 16) × (pace_after w.told.answers (walk_of (address_size shape) cut).pieces ≡ Awaits w.told.now w.told.now)
  pub next : 0 < s.sent → ((s.number + 1) % 16 ≡ length (walk_of (address_size shape) cut).pieces % 16) × (from : ℕ) × (pace_after w.told.answers (walk_of (address_size shape) cut).pieces ≡ answered_all (gone_on (May from s.gap (block_of s.block)) w.told.now) w.told.answers)

comes-by : (shape : Shape) (w : World) (s : Transmission) (ended going : List (Cut Seen)) (taken offered : List ℕ) → IsShape shape → s.begin ≤ w.told.now → s.since ≤ w.told.now → s.sent < s.len → attempts_in false w.told.frames ≡ ended ++ going →
    AllByRecursion (λ (c : Control). c.tick ≤ w.told.now) w.told.answers → w.told.read s.seq ≡ taken ++ (offered ++ s.carried) → length taken ≡ s.sent → IsBoxed shape s.len s.sent s.number w.box offered →
    Way shape w.told.answers w.clear s.begin w.told.now s.len s.number s.sent s.block s.gap taken Box s.since going → Comes shape w s ended (unit_after shape s.len s.sent s.number offered)
comes-by shape w s ended going taken offered sound le since more cut past read count box (Unsent none number bytes cuts early) =
    let at : attempts_in false w.told.frames ≡ ended = cut ∙ ap (λ l. ended ++ l) cuts ∙ append-nil ended in
    let left = leaves-first shape w.told.answers s.begin w.told.now s.len s.sent s.number w.told.frames ended offered sound le at none box.part box.fits in
    record {
      taken = offered;
      rest = [];
      read = read ∙ ap (λ l. l ++ (offered ++ s.carried)) bytes;
      bytes = omega (arith, box.part, none);
      none_left = refl;
      cut = left.cut;
      cuts = left.cuts;
      every = left.every;
      way = left.way;
      first = λ z. (rw (left.pieces_are, number) refl, ap (pace_after w.told.answers) left.pieces_are ∙ pace-first w.told.answers (record { at = w.told.now; bytes = offered }) past);
      next = λ some. absurd (omega (arith, some, none));
    }
comes-by shape w s ended going taken offered sound le since more cut past read count box (UnderWay one some cuts pieces way every ready) =
    let at : attempts_in false w.told.frames ≡ ended ++ one ∷ [] = cut ∙ ap (λ l. ended ++ l) cuts in
    let old : List Piece = (walk_of (address_size shape) one).pieces in
    let may : Permits w.told.answers old s.block s.gap w.told.now = permits-later w.told.answers old s.block s.gap s.since w.told.now since ready in
    let left = leaves-next shape w.told.answers w.clear s.begin w.told.now s.len s.sent s.number s.block s.gap taken w.told.frames ended one offered sound le at some more count pieces box.part box.fits every past may way in
    record {
      taken = taken ++ offered;
      rest = [];
      read = read ∙ sym (append_assoc taken offered s.carried);
      bytes = length-append taken offered ∙ omega (arith, box.part, count);
      none_left = refl;
      cut = left.cut;
      cuts = left.cuts;
      every = left.every;
      way = left.way;
      first = λ z. absurd (omega (arith, some, z));
      next = λ _. (
        omega (arith, pieces, ap (λ (ps : List Piece). length ps) left.pieces_are, length-append old (record { at = w.told.now; bytes = offered } ∷ [])),
        may.from,
        ap (pace_after w.told.answers) left.pieces_are ∙ pace-next w.told.answers old (record { at = w.told.now; bytes = offered }) s.block s.gap past may,
      );
    }

some-same : (box : Option Meaning) (unit it : Meaning) → box ≡ Some unit → box ≡ Some it → it ≡ unit
some-same box unit it is was = cc

comes : (shape : Shape) (w : World) (s : Transmission) (unit : Meaning) → IsShape shape → w.told.live ≡ Some s → s.phase ≡ Box → w.box ≡ Some unit → (so : SoFar shape w) → Comes shape w s so.ended unit
comes shape w s unit sound is phase box so =
    let on : GoesOn shape w s so.going = lives-some shape w w.told.live s so.going is so.lives in
    let boxed : IsBoxed shape s.len s.sent s.number w.box on.offered = in-box shape s.len s.sent s.number s.phase w.box on.offered phase on.box in
    let P : Meaning → Type 0 = λ u. Comes shape w s so.ended u in
    subst P (some-same w.box unit (unit_after shape s.len s.sent s.number on.offered) box boxed.lies)
    (comes-by shape w s so.ended so.going on.taken on.offered sound on.begin on.since on.unfinished so.cut so.past on.read on.sent boxed
    (way-in-box shape w.told.answers w.clear s.begin w.told.now s.len s.number s.sent s.block s.gap on.taken s.phase s.since so.going phase on.way))

-- the first frame left, and more are to come
pub first-left : (shape : Shape) (w : World) (s : Transmission) (unit : Meaning) → IsShape shape → w.told.live ≡ Some s → s.phase ≡ Box → w.box ≡ Some unit → s.sent ≡ 0 → part_after shape s.len s.sent < s.len → 0 < part_after shape s.len s.sent → SoFar shape w →
    SoFar shape (leaves (seen_unit shape w.told.now unit) [] (Some (in_phase Fc w.told.now (record s { sent = part_after shape s.len s.sent }))) w)
first-left shape w s unit sound is phase box none more some so =
    let on : GoesOn shape w s so.going = lives-some shape w w.told.live s so.going is so.lives in
    let left : Comes shape w s so.ended unit = comes shape w s unit sound is phase box so in
    let v : World = leaves (seen_unit shape w.told.now unit) [] (Some (in_phase Fc w.told.now (record s { sent = part_after shape s.len s.sent }))) w in
    so-cut shape w v (left.cut ∷ []) so (grows-same w v so.clear_now refl refl refl (λ number. refl)) so.past (omega arith) left.cuts (append-nil w.told.records) so.lens so.unread
    (record {
      joined_is = on.joined_is;
      next = on.next;
      before = ap length (append-nil w.told.records) ∙ on.before;
      unfinished = more;
      begin = on.begin;
      since = omega arith;
      taken = left.taken;
      offered = left.rest;
      read = left.read;
      sent = omega (arith, left.bytes, none);
      box = left.none_left;
      way = UnderWay left.cut some refl (left.first none).0 left.way left.every (record { left = w.told.now; since = w.told.now; is = (left.first none).1; before = omega arith });
    })

-- what follows it: a flow control is awaited, or the gap lasts
pub data Follows (now : ℕ) (s : Transmission) (phase : Phase) : Type 0 where
  BlockIsOver : s.block ≡ 1 → phase ≡ Fc → Follows now s phase
  GapBegins : (s.block ≡ 1 → ⊥) → phase ≡ Gap (record { 0 = now + s.gap }) → Follows now s phase

follows-ready : (answers : List Control) (pieces : List Piece) (now from : ℕ) (s : Transmission) (phase : Phase) → AllByRecursion (λ (c : Control). c.tick ≤ now) answers → pace_after answers pieces ≡ answered_all (gone_on (May from s.gap (block_of s.block)) now) answers →
    Follows now s phase → Ready answers (now + 1) pieces (s.block - 1) s.gap phase now
follows-ready answers pieces now from s phase past pace (BlockIsOver one is) =
    let R : Phase → Type 0 = λ p. Ready answers (now + 1) pieces (s.block - 1) s.gap p now in
    subst R (sym is) (record { left = now; since = now; is = pace ∙ ap (λ n. answered_all (gone_on (May from s.gap (block_of n)) now) answers) one ∙ awaits-stays now now answers past; before = omega arith })
follows-ready answers pieces now from s phase past pace (GapBegins out is) =
    let R : Phase → Type 0 = λ p. Ready answers (now + 1) pieces (s.block - 1) s.gap p now in
    subst R (sym is) (record { from = now + s.gap; is = pace ∙ ap (λ p. answered_all p answers) (gone-next from s.gap now s.block out) ∙ may-stays (now + s.gap) s.gap (block_of (s.block - 1)) answers; by = omega arith })

follows-boxed : (shape : Shape) (len sent number now : ℕ) (s : Transmission) (phase : Phase) (box : Option Meaning) (offered : List ℕ) → Follows now s phase → offered ≡ [] → Boxed shape len sent number phase box offered
follows-boxed shape len sent number now s phase box offered (BlockIsOver one is) none = let B : Phase → Type 0 = λ p. Boxed shape len sent number p box offered in subst B (sym is) none
follows-boxed shape len sent number now s phase box offered (GapBegins out is) none = let B : Phase → Type 0 = λ p. Boxed shape len sent number p box offered in subst B (sym is) none

-- the session once a further frame left
abbrev pub next_left : Shape → Transmission → Transmission
next_left shape s = record s { sent = s.sent + part_after shape s.len s.sent; number = (s.number + 1) % 16; block = s.block - 1 }

-- a further frame left, and more are to come
pub next-left : (shape : Shape) (w : World) (s : Transmission) (unit : Meaning) (phase_now : Phase) → IsShape shape → w.told.live ≡ Some s → s.phase ≡ Box → w.box ≡ Some unit → 0 < s.sent → s.sent + part_after shape s.len s.sent < s.len → Follows w.told.now s phase_now → SoFar shape w →
    SoFar shape (leaves (seen_unit shape w.told.now unit) [] (Some (in_phase phase_now w.told.now (next_left shape s))) w)
next-left shape w s unit phase_now sound is phase box some more follows so =
    let on : GoesOn shape w s so.going = lives-some shape w w.told.live s so.going is so.lives in
    let left : Comes shape w s so.ended unit = comes shape w s unit sound is phase box so in
    let v : World = leaves (seen_unit shape w.told.now unit) [] (Some (in_phase phase_now w.told.now (next_left shape s))) w in
    so-cut shape w v (left.cut ∷ []) so (grows-same w v so.clear_now refl refl refl (λ number. refl)) so.past (omega arith) left.cuts (append-nil w.told.records) so.lens so.unread
    (record {
      joined_is = on.joined_is;
      next = on.next;
      before = ap length (append-nil w.told.records) ∙ on.before;
      unfinished = more;
      begin = on.begin;
      since = omega arith;
      taken = left.taken;
      offered = left.rest;
      read = left.read;
      sent = left.bytes;
      box = follows-boxed shape s.len (s.sent + part_after shape s.len s.sent) ((s.number + 1) % 16) w.told.now s phase_now None left.rest follows left.none_left;
      way = UnderWay left.cut (omega (arith, some)) refl (left.next some).0 left.way left.every (follows-ready w.told.answers (walk_of (address_size shape) left.cut).pieces w.told.now (left.next some).1 s phase_now so.past (left.next some).2 follows);
    })

-- the last frame left
pub last-left : (shape : Shape) (w : World) (s : Transmission) (unit : Meaning) (path : PathNo) (dest : DestNo) → IsShape shape → w.told.live ≡ Some s → s.phase ≡ Box → w.box ≡ Some unit → s.sent + part_after shape s.len s.sent ≡ s.len → SoFar shape w →
    SoFar shape (leaves (seen_unit shape w.told.now unit) (record_of path dest s s.len w.told.now Sent ∷ []) None w)
last-left shape w s unit path dest sound is phase box whole so =
    let on : GoesOn shape w s so.going = lives-some shape w w.told.live s so.going is so.lives in
    let left : Comes shape w s so.ended unit = comes shape w s unit sound is phase box so in
    let told : DestRecord = record_of path dest s s.len w.told.now Sent in
    let C : ℕ → Type 0 = λ a. AllByRecursion (λ (piece : Piece). piece.at < w.told.now + 1) (walk_of a left.cut).pieces in
    let v : World = leaves (seen_unit shape w.told.now unit) (told ∷ []) None w in
    let count : length left.taken ≡ s.len = left.bytes ∙ whole in
    finishes shape w v told (left.cut ∷ []) so (grows-same w v so.clear_now refl refl refl (λ number. refl)) so.past (omega arith) left.cuts refl refl (sym on.before) (omega (arith, on.before, on.next)) so.lens so.unread
    (record { len = s.len; joined = on.joined_is; most = omega arith; whole = ((λ e. refl), (λ e. refl)); ticks = on.begin })
    (OneSent left.cut refl (omega (arith, on.unfinished))
    (record { sends = sends-way shape v.told s.seq s.len s.len s.begin (w.told.now + 1) left.taken (left.rest ++ s.carried) left.cut so.address on.joined_is left.read count left.way left.every; clear_is = subst C (sym so.address) left.way.clear_is }))
