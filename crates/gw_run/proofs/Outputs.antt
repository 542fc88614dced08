-- An output is a log of the frames that it was written for.
use Rattle.std.proofs.Common.{◌≡◌, ℕ, ◌+◌, ◌-◌, ◌*◌, ◌^◌, ◌<◌, Bool, true, false, ◌&&◌, not, Option, None, Some, Ok, is_ok, List, [], ◌∷◌, ◌++◌, length, map, get_or, take, refl, sym, subst, ◌∙◌, ap, append-nil, inl, arith}
use Rattle.std.specs.List.{All, AllByRecursion}
use Rattle.std.specs.Prelude.{slice_index}
use Rattle.std.proofs.lemmas.Bool.{ne_eqb}
use Rattle.std.proofs.lemmas.List.{take_more}
use Rattle.std.proofs.lemmas.List.Concat.{flat_map-append}
use Rattle.std.proofs.lemmas.List.Elements.{All-cons, All-head, All-nil, All-push, All-tail}
use Rattle.can_frame.specs.Frame.{CanFrame}
use Rattle.candump_line.specs.Line.{IsInterface, entry_text}
use Rattle.candump_line.specs.Reading.{line_of}
use Rattle.candump_line.specs.declared.line.Line.TheVariants.{Frame}
use Rattle.candump_line.proofs.Written.{line-back, line-shown}
use Rattle.tick_clock.specs.Ticks.{stamp_after}
use Rattle.tp_unit.specs.Box.{Written, written_of}
use Rattle.tp_unit.specs.Unit.{Meaning}
use Rattle.tp_unit.specs.declared.shape.Shape.{Shape}
use Rattle.tp_receiver.specs.Runs.{control_after, control_at, controls_by}
use Rattle.tp_receiver.specs.State.{Came, FcLeft, RunEnd, RxEvent, RxTurn, Timer}
use Rattle.tp_sender.specs.Runs.{box_after, left_by, written_at}
use Rattle.tp_sender.specs.State.{TxTurn}
use Rattle.tp_sender.specs.declared.event.TxEvent.{TxEvent}
use Rattle.tp_sender.specs.declared.event.TxEvent.TheVariants.{Fc, Left, RunEnd as SendEnd, Turn}
use Rattle.candump_log.specs.declared.log.Stamped.{Stamped}
use Rattle.candump_log.specs.Line.{line_taken, taken_of, without_return}
use Rattle.candump_log.specs.Log.{AreTaken, HasNoFeed, ended, frames_of, given}
use Rattle.gw_run.specs.Output.{AreDatedLines, IsLogOf, IsLogWhereDated, IsOnBus, IsOneLine, IsReadable, line_of as output_line, output_text, stamped_of}

module _ (start period : ℕ) (interface : List ℕ) (fd : Bool) where
  -- such a line, of a frame of the bus, with a stamp that a line may have
  record IsEntry (w : Written) : Type 0 where
    pub line : IsOneLine start period interface w
    pub dated : stamp_after start period w.tick < 2 ^ 32 * 10 ^ 6
    pub on_bus : IsOnBus fd w

  entry : Written → List ℕ
  entry w = entry_text (stamp_after start period w.tick) interface w.frame

  stamped : Written → Stamped
  stamped w = record { at = record { 0 = stamp_after start period w.tick }; frame = w.frame }

  no_feed : (w : Written) → IsEntry w → HasNoFeed (entry w)
  unfolding entry
  no_feed w is i d inside feed = let high = is.line.shown i d inside in omega (arith, high, feed)

  some : (w : Written) → 0 < length (entry w)
  unfolding entry
  some w = omega arith

  whole : (w : Written) → IsEntry w → without_return (entry w) ≡ entry w
  unfolding entry
  whole w is =
      let last : ℕ = length (entry w) - 1 in
      let high = is.line.shown last 0 (omega (arith, some w)) in
      rw (ne_eqb (slice_index (entry w) last) 13 (λ return. omega (arith, high, return))) refl

  taken : (w : Written) → IsEntry w → line_taken interface fd (entry w) ≡ Ok (Some (stamped w))
  unfolding entry stamped
  taken w is =
      let read : line_of interface (without_return (entry w)) ≡ Ok (Frame (record { 0 = stamp_after start period w.tick }) w.frame) =
      ap (line_of interface) (whole w is) ∙ is.line.reads_back is.dated in
      ap (taken_of fd) read ∙ rw is.on_bus refl

  bytes_are : (written : List Written) → output_text start period interface written ≡ ended (map entry written)
  unfolding entry
  bytes_are [] = refl
  bytes_are (w ∷ written) = ap (λ t. (entry w ++ 10 ∷ []) ++ t) (bytes_are written)

  no_feeds : (written : List Written) → AllByRecursion IsEntry written → All HasNoFeed (map entry written)
  no_feeds [] all = All-nil HasNoFeed
  no_feeds (w ∷ written) all = All-cons HasNoFeed (entry w) (map entry written) (no_feed w all.0) (no_feeds written all.1)

  all_taken : (written : List Written) → AllByRecursion IsEntry written → AreTaken interface fd (map entry written)
  all_taken [] all = All-nil (λ line. is_ok (line_taken interface fd line) ≡ true)
  all_taken (w ∷ written) all =
      All-cons (λ line. is_ok (line_taken interface fd line) ≡ true) (entry w) (map entry written) (ap is_ok (taken w all.0)) (all_taken written all.1)

  frames_are : (written : List Written) → AllByRecursion IsEntry written → stamped_of start period written ≡ frames_of interface fd (map entry written)
  unfolding stamped
  frames_are [] all = refl
  frames_are (w ∷ written) all =
      ap (λ t. stamped w ∷ t) (frames_are written all.1) ∙ ap (λ r. given r ++ frames_of interface fd (map entry written)) (sym (taken w all.0))

  log-of : (written : List Written) → AllByRecursion IsEntry written → IsLogOf start period interface fd written
  log-of written all = (
    map entry written,
    record {
      cut = record { cut = inl (bytes_are written); no_feed = no_feeds written all };
      taken = all_taken written all;
      frames_are = frames_are written all;
    },
  )

  -- the same of lines that were written
  entries : (written : List Written) → All (IsOneLine start period interface) written → AllByRecursion (IsOnBus fd) written → AreDatedLines start period written →
      AllByRecursion IsEntry written
  entries [] lines own dated = tt
  entries (w ∷ written) lines own dated = (
    record {
      line = All-head (IsOneLine start period interface) w written lines;
      dated = All-head (λ (w : Written). stamp_after start period w.tick < 2 ^ 32 * 10 ^ 6) w written dated;
      on_bus = own.0;
    },
    entries written (All-tail (IsOneLine start period interface) w written lines) own.1
        (All-tail (λ (w : Written). stamp_after start period w.tick < 2 ^ 32 * 10 ^ 6) w written dated),
  )

  pub written-log : (written : List Written) → All (IsOneLine start period interface) written → AllByRecursion (IsOnBus fd) written → IsLogWhereDated start period interface fd written
  written-log written lines own dated = log-of written (entries written lines own dated)

module _ (start period : ℕ) (interface : List ℕ) where
  pub text-more : (frames : List Written) (i : ℕ) (w : Written) (old new : List ℕ) → i < length frames → get_or frames i w ≡ w → old ≡ output_text start period interface (take i frames) →
      new ≡ old ++ output_line start period interface w → new ≡ output_text start period interface (take (i + 1) frames)
  text-more frames i w old new inside is so_far line =
      let more : take (i + 1) frames ≡ take i frames ++ w ∷ [] = take_more frames i w inside ∙ ap (λ x. take i frames ++ x ∷ []) is in
      line ∙ ap (λ t. t ++ output_line start period interface w) so_far
      ∙ ap (λ t. output_text start period interface (take i frames) ++ t) (sym (append-nil (output_line start period interface w)))
      ∙ sym (flat_map-append (output_line start period interface) (take i frames) (w ∷ [])) ∙ ap (output_text start period interface) (sym more)

  -- a line more
  pub one-more : (frames : List Written) (i : ℕ) (w : Written) → i < length frames → get_or frames i w ≡ w → All (IsOneLine start period interface) (take i frames) →
      IsOneLine start period interface w → All (IsOneLine start period interface) (take (i + 1) frames)
  one-more frames i w inside is all one =
      let more : take (i + 1) frames ≡ take i frames ++ w ∷ [] = take_more frames i w inside ∙ ap (λ x. take i frames ++ x ∷ []) is in
      subst (All (IsOneLine start period interface)) (sym more) (All-push (IsOneLine start period interface) (take i frames) w all one)

module _ (start period : ℕ) (interface : List ℕ) (fd : Bool) (name : IsInterface interface) where
  readable : (w : Written) → IsReadable start period fd w → IsEntry start period interface fd w
  readable w is = record {
    line = record {
      shown = line-shown (stamp_after start period w.tick) interface w.frame (omega (arith, is.dated)) name is.lawful.id is.bytes;
      reads_back = λ dated. line-back (stamp_after start period w.tick) interface w.frame dated name is.lawful is.bytes;
    };
    dated = is.dated;
    on_bus = is.on_bus;
  }

  all_readable : (written : List Written) → AllByRecursion (IsReadable start period fd) written → AllByRecursion (IsEntry start period interface fd) written
  all_readable [] all = tt
  all_readable (w ∷ written) all = (readable w all.0, all_readable written all.1)

  pub output-log : (written : List Written) → AllByRecursion (IsReadable start period fd) written → IsLogOf start period interface fd written
  output-log written all = log-of start period interface fd written (all_readable written all)

-- ---- what a run's channels send is of their buses

with-more : {X : Type 0} (P : X → Type 0) (xs ys : List X) → AllByRecursion P xs → AllByRecursion P ys → AllByRecursion P (xs ++ ys)
with-more P [] ys all more = more
with-more P (x ∷ xs) ys all more = (all.0, with-more P xs ys all.1 more)

-- the frames of a shape are of such a bus
abbrev pub FitsBus : (fd : Bool) → Shape → Type 0
FitsBus fd shape = (shape.fd && not fd) ≡ false

of-shape : (fd : Bool) (shape : Shape) (tick : ℕ) (lies : Option Meaning) → FitsBus fd shape → AllByRecursion (IsOnBus fd) (written_of shape tick lies)
of-shape fd shape tick None fits = tt
of-shape fd shape tick (Some meaning) fits = (fits, tt)

frame-fits : (fd : Bool) (shape : Shape) (event : TxEvent) (tick : ℕ) (lies : Option Meaning) → FitsBus fd shape → AllByRecursion (IsOnBus fd) (written_at shape event tick lies)
frame-fits fd shape Turn tick lies fits = tt
frame-fits fd shape (Fc fs bs st) tick lies fits = tt
frame-fits fd shape Left tick lies fits = of-shape fd shape tick lies fits
frame-fits fd shape SendEnd tick lies fits = tt

pub frames-fits : (fd : Bool) (shape : Shape) (moments : List TxTurn) → FitsBus fd shape → AllByRecursion (IsOnBus fd) (left_by shape moments)
frames-fits fd shape [] fits = tt
frames-fits fd shape (turn ∷ earlier) fits =
    with-more (IsOnBus fd) (left_by shape earlier) (written_at shape turn.event turn.did.tick (box_after earlier)) (frames-fits fd shape earlier fits)
    (frame-fits fd shape turn.event turn.did.tick (box_after earlier) fits)

control-fits : (fd : Bool) (shape : Shape) (event : RxEvent) (tick : ℕ) (lies : Option Meaning) → FitsBus fd shape → AllByRecursion (IsOnBus fd) (control_at shape event tick lies)
control-fits fd shape (Came size meaning) tick lies fits = tt
control-fits fd shape Timer tick lies fits = tt
control-fits fd shape FcLeft tick lies fits = of-shape fd shape tick lies fits
control-fits fd shape RunEnd tick lies fits = tt

pub controls-fits : (fd : Bool) (shape : Shape) (turns : List RxTurn) → FitsBus fd shape → AllByRecursion (IsOnBus fd) (controls_by shape turns)
controls-fits fd shape [] fits = tt
controls-fits fd shape (turn ∷ earlier) fits =
    with-more (IsOnBus fd) (controls_by shape earlier) (control_at shape turn.event turn.did.tick (control_after earlier)) (controls-fits fd shape earlier fits)
    (control-fits fd shape turn.event turn.did.tick (control_after earlier) fits)
