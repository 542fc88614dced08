-- A reception that is over: its flow controls and its cause, as frames come, starts come and ticks pass.
use Rattle.std.proofs.Common.{◌≡◌, inl, inr, ℕ, ◌+◌, ◌<◌, ◌≤◌, Bool, true, false, Option, Some, None, List, [], ◌∷◌, ◌++◌, drop, fold, length, map, refl, ap, sym, ◌∙◌, subst, arith, append_assoc}
use Rattle.std.specs.Prelude.{slice_get}
use Rattle.std.specs.List.{AllByRecursion}
use Rattle.std.proofs.lemmas.Bool.{cases_lt}
use Rattle.gw_base.proofs.Lists.{all-join, all-weaker, slice_get-more}
use Rattle.hub_core.specs.declared.record.RxLimit.{RxLimit}
use Rattle.hub_core.specs.declared.record.RxLimit.TheVariants.{Box as BoxLimit, Cf as CfLimit}
use Rattle.hub_core.specs.declared.record.SessionRecord.{SessionRecord}
use Rattle.hub_core.specs.declared.record.SessionResult.{SessionResult}
use Rattle.hub_core.specs.declared.record.SessionResult.TheVariants.{Whole, Overflow, WrongSn, RxTimeout, Restarted, NoRoom, WaitOver, NoReaders, Cancelled, RunEnd}
use Rattle.tp_attempts.specs.Cuts.{Cut}
use Rattle.tp_attempts.specs.Seen.{Seen}
use Rattle.tp_attempts.specs.Walk.{Piece, Walk, begun, joined, last_place, look, look_at, walk_of}
use Rattle.tp_attempts.proofs.Walks.{look-full, walk_of-more}
use Rattle.tp_receiver.specs.declared.set.RxSet.{RxSet}
use Rattle.receiver_law.specs.FlowControls.{AreAnswers, IsFirst, IsLate, IsLateIn, bound_of}
use Rattle.receiver_law.specs.ReceptionCauses.{ArePut, FoundByFrame, FoundByGrant, IsBoxLate, IsNextIn, IsTooFull, IsUnread, IsWaitOver}
use Rattle.receiver_law.specs.Receptions.{ControlKind, Continue, ControlLeft, Received, Refuse, Wait, frames_of, last_by}
use Rattle.receiver_law.specs.Source.{is_overflow}
use Rattle.receiver_law.proofs.receptions.Answers.{answers-more, from-later}
use Rattle.receiver_law.proofs.receptions.Counting.{ComeFrom, counted-more}
use Rattle.receiver_law.proofs.records.Tellings.{Looked, looked, with_frame}

-- the ticks of the starts
abbrev pub starts_of : List (Cut Seen) → List ℕ
starts_of attempts = map (λ (attempt : Cut Seen). attempt.start.at) attempts

-- no later start came up to that tick
abbrev pub NoneStarts : List ℕ → (n tick : ℕ) → Type 0
NoneStarts starts n tick = (later at : ℕ) → n < later → slice_get starts later ≡ Some at → tick < at

-- the flow controls of a first frame that found no buffer, below a tick
pub record RefusalSo (full : ℕ → Bool) (set : RxSet) (tick : ℕ) (starts : List ℕ) (told : SessionRecord) (controls : List ControlLeft) : Type 0 where
  pub kinds : AllByRecursion (λ (control : ControlLeft). control.kind ≡ Refuse) controls
  pub within : AllByRecursion (λ (control : ControlLeft). (told.begin.0 ≤ control.tick) × (control.tick < told.begin.0 + set.n_ar)) controls
  pub once : length controls ≤ 1
  pub by : AllByRecursion (λ (control : ControlLeft). control.tick ≤ tick) controls
  pub owed : (at : ℕ) → told.begin.0 ≤ at → at < told.begin.0 + set.n_ar → at < tick → NoneStarts starts told.n at → last_by at controls ≡ None → full at ≡ true

-- what a result comes of, where no frame comes any more below a tick
abbrev pub LimitSo : (full : ℕ → Bool) → RxSet → (over : ℕ) → Cut Seen → Received → RxLimit → Type 0
LimitSo full set over attempt one BoxLimit = IsBoxLate full set one
LimitSo full set over attempt one CfLimit = IsLate set (frames_of set.a attempt) (last_by one.told.end.0 one.controls) one.told.end.0 × (one.told.end.0 < over)

abbrev pub CauseSo : (full : ℕ → Bool) → RxSet → (over : ℕ) → List ℕ → Cut Seen → Received → SessionResult → Type 0
CauseSo full set over starts attempt one Whole = (one.told.end.0 ≡ last_place one.told.begin.0 (walk_of set.a attempt).pieces) × ((walk_of set.a attempt).len ≤ length (joined (walk_of set.a attempt).pieces))
CauseSo full set over starts attempt one (Overflow change free need) = Unit {0}
CauseSo full set over starts attempt one (WrongSn want got) = Unit {0}
CauseSo full set over starts attempt one (RxTimeout limit) = LimitSo full set over attempt one limit
CauseSo full set over starts attempt one Restarted = slice_get starts (one.told.n + 1) ≡ Some one.told.end.0
CauseSo full set over starts attempt one (NoRoom room need) = IsTooFull full set attempt one room need
CauseSo full set over starts attempt one WaitOver = IsWaitOver set attempt one
CauseSo full set over starts attempt one NoReaders = IsUnread set attempt one
CauseSo full set over starts attempt one Cancelled = ⊥
CauseSo full set over starts attempt one (RunEnd wait since) = ⊥

-- a reception that is over, where ticks below one are over, and no frame comes any more below another one
pub record IsSettled (full : ℕ → Bool) (set : RxSet) (tick over : ℕ) (starts : List ℕ) (attempt : Cut Seen) (one : Received) : Type 0 where
  pub start : one.start ≡ attempt.start
  pub ended : bound_of one.told ≤ over
  pub none : (IsFirst one.start.meaning → ⊥) → one.controls ≡ []
  pub session : IsFirst one.start.meaning → is_overflow one.told.result ≡ false → AreAnswers full set (frames_of set.a attempt) one.told.begin.0 (bound_of one.told) one.controls
  pub refusal : IsFirst one.start.meaning → is_overflow one.told.result ≡ true → RefusalSo full set tick starts one.told one.controls
  pub cause : CauseSo full set over starts attempt one one.told.result

-- an attempt's walk begins with its start
pub record HasPieces (address : ℕ) (attempt : Cut Seen) : Type 0 where
  pub start : Piece
  pub frames : List Piece
  pub are : (walk_of address attempt).pieces ≡ start ∷ frames

pub has-pieces : (address : ℕ) (attempt : Cut Seen) → HasPieces address attempt
has-pieces address attempt = let it = looks-on address attempt.after (begun attempt.start) (record { at = attempt.start.at; bytes = _ }) [] refl in record { start = _; frames = it.0; are = it.1 }
  where
    looks-on : (address : ℕ) (after : List Seen) (walk : Walk) (start : Piece) (frames : List Piece) → walk.pieces ≡ start ∷ frames → (all : List Piece) × ((fold (look address) walk after).pieces ≡ start ∷ all)
    looks-on address [] walk start frames is = (frames, is)
    looks-on address (frame ∷ after) walk start frames is =
        let on : Looked walk (look address walk frame) frame.at = looked address walk frame.at frame.size frame.meaning in
        looks-on address after (look address walk frame) start (frames ++ on.more) (on.pieces ∙ ap (λ (p : List Piece). p ++ on.more) is)

-- with one more frame it has pieces of that tick more
pub record HasGrown (address : ℕ) (attempt : Cut Seen) (frame : Seen) : Type 0 where
  pub more : List Piece
  pub pieces : (walk_of address (with_frame attempt frame)).pieces ≡ (walk_of address attempt).pieces ++ more
  pub frames : frames_of address (with_frame attempt frame) ≡ frames_of address attempt ++ more
  pub late : ComeFrom frame.at more

pub has-grown : (address : ℕ) (attempt : Cut Seen) (frame : Seen) → HasGrown address attempt frame
has-grown address attempt frame =
    let W : Walk = look_at address (walk_of address attempt) frame.at frame.size frame.meaning in
    let on : Looked (walk_of address attempt) W frame.at = looked address (walk_of address attempt) frame.at frame.size frame.meaning in
    let has : HasPieces address attempt = has-pieces address attempt in
    let pieces : (walk_of address (with_frame attempt frame)).pieces ≡ (walk_of address attempt).pieces ++ on.more = ap (λ (w : Walk). w.pieces) (walk_of-more address attempt frame) ∙ on.pieces in
    record {
      more = on.more;
      pieces = pieces;
      frames = ap (drop 1) pieces ∙ ap (λ (p : List Piece). drop 1 (p ++ on.more)) has.are ∙ ap (λ (p : List Piece). drop 1 p ++ on.more) (sym has.are);
      late = on.late;
    }

-- more starts, and no more frames below a later tick
none-front : (starts others : List ℕ) (n tick : ℕ) → NoneStarts (starts ++ others) n tick → NoneStarts starts n tick
none-front starts others n tick none later at above is = none later at above (slice_get-more starts others later at is)

cause-later : (full : ℕ → Bool) (set : RxSet) (over later : ℕ) (starts others : List ℕ) (attempt : Cut Seen) (one : Received) (result : SessionResult) → over ≤ later → CauseSo full set over starts attempt one result → CauseSo full set later (starts ++ others) attempt one result
cause-later full set over later starts others attempt one Whole le so = so
cause-later full set over later starts others attempt one (Overflow change free need) le so = tt
cause-later full set over later starts others attempt one (WrongSn want got) le so = tt
cause-later full set over later starts others attempt one (RxTimeout BoxLimit) le so = so
cause-later full set over later starts others attempt one (RxTimeout CfLimit) le so = (so.0, omega (arith, so.1, le))
cause-later full set over later starts others attempt one Restarted le so = slice_get-more starts others (one.told.n + 1) one.told.end.0 so
cause-later full set over later starts others attempt one (NoRoom room need) le so = so
cause-later full set over later starts others attempt one WaitOver le so = so
cause-later full set over later starts others attempt one NoReaders le so = so
cause-later full set over later starts others attempt one Cancelled le so = so
cause-later full set over later starts others attempt one (RunEnd wait since) le so = so

pub settled-later : (full : ℕ → Bool) (set : RxSet) (tick over later : ℕ) (starts others : List ℕ) (attempt : Cut Seen) (one : Received) → over ≤ later → IsSettled full set tick over starts attempt one → IsSettled full set tick later (starts ++ others) attempt one
settled-later full set tick over later starts others attempt one le so = record {
  start = so.start;
  ended = omega (arith, so.ended, le);
  none = so.none;
  session = so.session;
  refusal = λ first refused. let is = so.refusal first refused in record {
    kinds = is.kinds;
    within = is.within;
    once = is.once;
    by = is.by;
    owed = λ at from to below none. is.owed at from to below (none-front starts others one.told.n at none);
  };
  cause = cause-later full set over later starts others attempt one one.told.result le so.cause;
}

-- a tick is over
pub settled-on : (full : ℕ → Bool) (set : RxSet) (tick over : ℕ) (starts : List ℕ) (attempt : Cut Seen) (one : Received) →
    (IsFirst one.start.meaning → is_overflow one.told.result ≡ true → one.told.begin.0 ≤ tick → tick < one.told.begin.0 + set.n_ar → NoneStarts starts one.told.n tick → last_by tick one.controls ≡ None → full tick ≡ true) →
    IsSettled full set tick over starts attempt one → IsSettled full set (tick + 1) over starts attempt one
settled-on full set tick over starts attempt one owed so = record {
  start = so.start;
  ended = so.ended;
  none = so.none;
  session = so.session;
  refusal = λ first refused. let is = so.refusal first refused in record {
    kinds = is.kinds;
    within = is.within;
    once = is.once;
    by = all-weaker (λ (control : ControlLeft). control.tick ≤ tick) (λ (control : ControlLeft). control.tick ≤ tick + 1) one.controls (λ control by. omega (arith, by)) is.by;
    owed = λ at from to below none gone. elim (cases_lt at tick) [
      | inl before ↦ is.owed at from to before none gone
      | inr after ↦
          let same : at ≡ tick = omega (arith, below, after) in
          subst (λ (t : ℕ). full t ≡ true) (sym same) (owed first refused (omega (arith, from, same)) (omega (arith, to, same)) (subst (λ (t : ℕ). NoneStarts starts one.told.n t) same none) (subst (λ (t : ℕ). last_by t one.controls ≡ None) same gone))
    ];
  };
  cause = so.cause;
}

-- a frame more
put-more : (address : ℕ) (attempt : Cut Seen) (frame : Seen) (bytes : ℕ) (put : List Piece) → ArePut (walk_of address attempt).pieces bytes put → ArePut (walk_of address (with_frame attempt frame)).pieces bytes put
put-more address attempt frame bytes put are =
    let on : HasGrown address attempt frame = has-grown address attempt frame in
    record { rest = are.rest ++ on.more; are = on.pieces ∙ ap (λ (p : List Piece). p ++ on.more) are.are ∙ append_assoc put are.rest on.more; sum = are.sum }

next-more : (address : ℕ) (attempt : Cut Seen) (frame : Seen) (bytes tick : ℕ) (piece : Piece) → IsNextIn (walk_of address attempt).pieces bytes tick piece → IsNextIn (walk_of address (with_frame attempt frame)).pieces bytes tick piece
next-more address attempt frame bytes tick piece is =
    let on : HasGrown address attempt frame = has-grown address attempt frame in
    record { put = is.put; rest = is.rest ++ on.more; are = on.pieces ∙ ap (λ (p : List Piece). p ++ on.more) is.are ∙ append_assoc is.put (piece ∷ is.rest) on.more; sum = is.sum; at = is.at }

all-silent : (limit tick : ℕ) (more : List Piece) → ComeFrom (tick + 1) more → AllByRecursion (λ (piece : Piece). piece.at ≤ tick → piece.at + limit ≤ tick) more
all-silent limit tick more all = all-weaker (λ (piece : Piece). tick + 1 ≤ piece.at) (λ (piece : Piece). piece.at ≤ tick → piece.at + limit ≤ tick) more (λ piece above by. absurd (omega (arith, above, by))) all

late-more : (set : RxSet) (frames more : List Piece) (tick : ℕ) (newest : Option ControlLeft) → ComeFrom (tick + 1) more → IsLate set frames newest tick → IsLate set (frames ++ more) newest tick
late-more set frames more tick None all late = late
late-more set frames more tick (Some control) all late = of control.kind late
  where
    of : (kind : ControlKind) → IsLateIn set frames control.tick kind tick → IsLateIn set (frames ++ more) control.tick kind tick
    of (Continue block) late = record {
      limit = late.limit;
      lets = elim late.lets [ inl all_frames ↦ inl all_frames | inr fewer ↦ inr (omega (arith, fewer, counted-more (control.tick + 1) tick frames more all)) ];
      silent = all-join (λ (piece : Piece). piece.at ≤ tick → piece.at + set.n_cr ≤ tick) frames more late.silent (all-silent set.n_cr tick more all);
    }
    of Wait late = late
    of Refuse late = late

cause-frame : (full : ℕ → Bool) (set : RxSet) (over : ℕ) (starts : List ℕ) (frame : Seen) (attempt : Cut Seen) (one : Received) (result : SessionResult) → over ≤ frame.at → CauseSo full set over starts attempt one result → CauseSo full set over starts (with_frame attempt frame) one result
unfolding next-more
cause-frame full set over starts frame attempt one Whole by so =
    let P : Walk → Type 0 = λ w. (one.told.end.0 ≡ last_place one.told.begin.0 w.pieces) × (w.len ≤ length (joined w.pieces)) in
    subst P (sym (walk_of-more set.a attempt frame ∙ look-full set.a (walk_of set.a attempt) frame.at frame.size frame.meaning so.1)) so
cause-frame full set over starts frame attempt one (Overflow change free need) by so = tt
cause-frame full set over starts frame attempt one (WrongSn want got) by so = tt
cause-frame full set over starts frame attempt one (RxTimeout BoxLimit) by so = so
cause-frame full set over starts frame attempt one (RxTimeout CfLimit) by so =
    let on : HasGrown set.a attempt frame = has-grown set.a attempt frame in
    let end : ℕ = one.told.end.0 in
    (subst (λ (f : List Piece). IsLate set f (last_by end one.controls) end) (sym on.frames) (late-more set (frames_of set.a attempt) on.more end (last_by end one.controls) (from-later (end + 1) frame.at on.more (omega (arith, so.1, by)) on.late) so.0), so.1)
cause-frame full set over starts frame attempt one Restarted by so = so
cause-frame full set over starts frame attempt one (NoRoom room need) by so = record { piece = so.piece; next = next-more set.a attempt frame one.told.bytes one.told.end.0 so.piece so.next; need_is = so.need_is; little = so.little; none = so.none }
cause-frame full set over starts frame attempt one WaitOver by so = record { put = so.put; are_put = put-more set.a attempt frame one.told.bytes so.put so.are_put; many = so.many; asked = so.asked }
cause-frame full set over starts frame attempt one NoReaders by (FoundByFrame piece next) = FoundByFrame piece (next-more set.a attempt frame one.told.bytes one.told.end.0 piece next)
cause-frame full set over starts frame attempt one NoReaders by (FoundByGrant put are asked) = FoundByGrant put (put-more set.a attempt frame one.told.bytes put are) asked
cause-frame full set over starts frame attempt one Cancelled by so = so
cause-frame full set over starts frame attempt one (RunEnd wait since) by so = so

pub settled-frame : (full : ℕ → Bool) (set : RxSet) (tick over : ℕ) (starts : List ℕ) (frame : Seen) → over ≤ frame.at → (attempt : Cut Seen) (one : Received) → IsSettled full set tick over starts attempt one → IsSettled full set tick over starts (with_frame attempt frame) one
settled-frame full set tick over starts frame by attempt one so =
    let on : HasGrown set.a attempt frame = has-grown set.a attempt frame in
    record {
      start = so.start;
      ended = so.ended;
      none = so.none;
      session = λ first opened. subst (λ (f : List Piece). AreAnswers full set f one.told.begin.0 (bound_of one.told) one.controls) (sym on.frames)
          (answers-more full set (frames_of set.a attempt) on.more one.told.begin.0 (bound_of one.told) one.controls (from-later (bound_of one.told) frame.at on.more (omega (arith, so.ended, by)) on.late) (so.session first opened));
      refusal = so.refusal;
      cause = cause-frame full set over starts frame attempt one one.told.result by so.cause;
    }
