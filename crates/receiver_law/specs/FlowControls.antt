-- What the flow controls of a reception ask for, and when one is owed (ISO 15765-2, flow control).
use Rattle.std.specs.Prelude.{◌≡◌, ◌⊎◌, ℕ, ◌+◌, ◌<◌, ◌≤◌, if◌then◌else◌, Bool, true, false, Option, Some, None, List, [], ◌∷◌, length, slice_get}
use Rattle.std.specs.List.{AllByRecursion}
use Rattle.hub_core.specs.declared.record.SessionRecord.{SessionRecord}
use Rattle.tp_attempts.specs.Cuts.{Cut}
use Rattle.tp_attempts.specs.Seen.{Seen}
use Rattle.tp_attempts.specs.Walk.{Piece}
use Rattle.tp_receiver.specs.Own.{IsBlock}
use Rattle.tp_receiver.specs.declared.set.RxSet.{RxSet}
use Rattle.tp_unit.specs.Unit.{Meaning, SingleFrame, FirstFrame, ConsecutiveFrame, FlowControl, NoUnit}
use Rattle.receiver_law.specs.Channel.{SourceChannel}
use Rattle.receiver_law.specs.Receptions.{ControlKind, Continue, ControlLeft, Received, Refuse, Wait, counted, frames_of, last_by, waits_in}
use Rattle.receiver_law.specs.Source.{is_overflow, is_run_end}

-- the bus was full in each tick from one on and below another
abbrev pub IsFullFrom : (full : ℕ → Bool) → (from to : ℕ) → Type 0
IsFullFrom full from to = (tick : ℕ) → from ≤ tick → tick < to → full tick ≡ true

-- a flow control of a session lets so many frames come as is configured, or asks to wait
abbrev pub IsOfSession : RxSet → ControlKind → Type 0
IsOfSession set (Continue frames) = IsBlock set frames
IsOfSession set Wait = Unit {0}
IsOfSession set Refuse = ⊥

-- so many frames came by a tick since a flow control was put into its box: in that tick, or before it while the bus
-- was full
pub record HaveCome (full : ℕ → Bool) (frames : List Piece) (block left tick : ℕ) : Type 0 where
  pub from : ℕ
  pub by : from ≤ left
  pub boxed : IsFullFrom full from left
  pub enough : block ≤ counted from tick frames

-- what a flow control that left asks for is over by a tick: its block came, or its pause was waited for; after one
-- that lets all frames come no further one leaves
abbrev pub IsOver : (full : ℕ → Bool) → RxSet → List Piece → (left : ℕ) → ControlKind → (tick : ℕ) → Type 0
IsOver full set frames left (Continue block) tick = (0 < block) × HaveCome full frames block left tick
IsOver full set frames left Wait tick = left + set.n_br ≤ tick
IsOver full set frames left Refuse tick = ⊥

-- a flow control that left lets no frame come any more: it asked to wait, or its block came by a tick
abbrev pub IsSpent : (full : ℕ → Bool) → List Piece → (left : ℕ) → ControlKind → (tick : ℕ) → Type 0
IsSpent full frames left (Continue block) tick = (0 < block) × HaveCome full frames block left tick
IsSpent full frames left Wait tick = Unit {0}
IsSpent full frames left Refuse tick = ⊥

-- a further flow control may leave in that tick
abbrev pub MayFollow : (full : ℕ → Bool) → RxSet → List Piece → List ControlLeft → (tick : ℕ) → Type 0
MayFollow full set frames [] tick = Unit {0}
MayFollow full set frames (control ∷ earlier) tick = IsOver full set frames control.tick control.kind tick

-- none lets a frame come any more: none left yet, the newest one asked to wait, or its block came
abbrev pub LetsNoneCome : (full : ℕ → Bool) → List Piece → List ControlLeft → (tick : ℕ) → Type 0
LetsNoneCome full frames [] tick = Unit {0}
LetsNoneCome full frames (control ∷ earlier) tick = IsSpent full frames control.tick control.kind tick

-- each one leaves once what the one before it asks for is over
abbrev pub FollowOneAnother : (full : ℕ → Bool) → RxSet → List Piece → List ControlLeft → Type 0
FollowOneAnother full set frames [] = Unit {0}
FollowOneAnother full set frames (control ∷ earlier) = MayFollow full set frames earlier control.tick ×
    FollowOneAnother full set frames earlier

-- no more than so many that ask to wait follow one another with no frame between
abbrev pub WaitsAreFew : (most : ℕ) → List Piece → List ControlLeft → Type 0
WaitsAreFew most frames [] = Unit {0}
WaitsAreFew most frames (control ∷ earlier) = (waits_in control.tick frames (control ∷ earlier) ≤ most) ×
    WaitsAreFew most frames earlier

-- in that tick a further flow control is owed: none left yet, the block of the newest one is over, or so is its pause
abbrev pub IsOwedAfter : RxSet → List Piece → (left : ℕ) → ControlKind → (tick : ℕ) → Type 0
IsOwedAfter set frames left (Continue block) tick = (0 < block) × (block ≤ counted (left + 1) tick frames)
IsOwedAfter set frames left Wait tick = left + set.n_br ≤ tick
IsOwedAfter set frames left Refuse tick = ⊥

abbrev pub IsOwed : RxSet → List Piece → Option ControlLeft → (tick : ℕ) → Type 0
IsOwed set frames None tick = Unit {0}
IsOwed set frames (Some control) tick = IsOwedAfter set frames control.tick control.kind tick

-- each counted frame up to that tick came so long before it
abbrev pub IsSilent : (limit tick : ℕ) → List Piece → Type 0
IsSilent limit tick frames = AllByRecursion (λ (piece : Piece). piece.at ≤ tick → piece.at + limit ≤ tick) frames

-- in that tick a consecutive frame that the newest flow control lets come is late, by the time limit N_Cr
pub record IsLateAfter (set : RxSet) (frames : List Piece) (left block tick : ℕ) : Type 0 where
  pub limit : left + set.n_cr ≤ tick
  pub lets : (block ≡ 0) ⊎ (counted (left + 1) tick frames < block)
  pub silent : IsSilent set.n_cr tick frames

abbrev pub IsLateIn : RxSet → List Piece → (left : ℕ) → ControlKind → (tick : ℕ) → Type 0
IsLateIn set frames left (Continue block) tick = IsLateAfter set frames left block tick
IsLateIn set frames left Wait tick = ⊥
IsLateIn set frames left Refuse tick = ⊥

abbrev pub IsLate : RxSet → List Piece → Option ControlLeft → (tick : ℕ) → Type 0
IsLate set frames None tick = ⊥
IsLate set frames (Some control) tick = IsLateIn set frames control.tick control.kind tick

-- the flow controls of a session that began in a tick, the newest first, and its frames, below another tick
pub record AreAnswers (full : ℕ → Bool) (set : RxSet) (frames : List Piece) (begin end : ℕ) (controls : List ControlLeft) : Type 0 where
  pub kinds : AllByRecursion (λ (control : ControlLeft). IsOfSession set control.kind) controls
  pub within : AllByRecursion (λ (control : ControlLeft). (begin ≤ control.tick) × (control.tick < end)) controls
  pub follow : FollowOneAnother full set frames controls
  pub waits : WaitsAreFew (set.wft_max + 1) frames controls
  -- where one is owed and doesn't leave, its bus is full for it
  pub owed : (tick : ℕ) → begin ≤ tick → tick < end → IsOwed set frames (last_by tick controls) tick → full tick ≡ true
  -- no frame is late, unless the bus is full for the flow control that asks for a further block
  pub in_time : (tick : ℕ) → begin ≤ tick → tick < end → IsLate set frames (last_by tick controls) tick →
      full tick ≡ true

-- a first frame
abbrev pub IsFirst : Meaning → Type 0
IsFirst (SingleFrame bytes) = ⊥
IsFirst (FirstFrame len bytes) = Unit {0}
IsFirst (ConsecutiveFrame number bytes) = ⊥
IsFirst (FlowControl status block_size separation) = ⊥
IsFirst (NoUnit why) = ⊥

-- the tick below which the flow controls of a session left: its end, which they may leave in where the run ended it
abbrev pub bound_of : SessionRecord → ℕ
bound_of told = if is_run_end told.result then told.end.0 + 1 else told.end.0

-- the record of no later start of the channel begins up to that tick
abbrev pub NoneBegins : List SessionRecord → (n tick : ℕ) → Type 0
NoneBegins records n tick = (later : ℕ) (next : SessionRecord) → n < later → slice_get records later ≡ Some next →
    tick < next.begin.0

-- the flow controls of a first frame that found no buffer: at most one leaves, and it refuses the message, within
-- N_Ar; it is owed until the next start or the run's end
pub record AreRefusals (full : ℕ → Bool) (set : RxSet) (records : List SessionRecord) (last : ℕ) (told : SessionRecord) (controls : List ControlLeft) : Type 0 where
  pub kinds : AllByRecursion (λ (control : ControlLeft). control.kind ≡ Refuse) controls
  pub within : AllByRecursion (λ (control : ControlLeft). (told.begin.0 ≤ control.tick) ×
      (control.tick < told.begin.0 + set.n_ar)) controls
  pub once : length controls ≤ 1
  pub owed : (tick : ℕ) → told.begin.0 ≤ tick → tick < told.begin.0 + set.n_ar → tick ≤ last →
      NoneBegins records told.n tick → last_by tick controls ≡ None → full tick ≡ true

-- the flow controls of a reception: none of a single frame; those of a session; or those of an overflow
pub record IsAnswered (full : ℕ → Bool) (r : SourceChannel) (attempt : Cut Seen) (one : Received) : Type 0 where
  pub start : one.start ≡ attempt.start
  pub none : (IsFirst one.start.meaning → ⊥) → one.controls ≡ []
  pub session : IsFirst one.start.meaning → is_overflow one.told.result ≡ false →
      AreAnswers full r.rx (frames_of r.rx.a attempt) one.told.begin.0 (bound_of one.told) one.controls
  pub refusal : IsFirst one.start.meaning → is_overflow one.told.result ≡ true →
      AreRefusals full r.rx r.sessions r.last one.told one.controls
