-- The parts of a receiver's and of a sender's run: they rise, their turns are of their ticks, and in none of them the run's end is told.
use Rattle.std.proofs.Common.{◌≡◌, ℕ, Bool, false, Option, List, [], ◌∷◌, ◌++◌, refl, ap, ◌∙◌}
use Rattle.std.specs.List.{AllByRecursion}
use Rattle.gw_base.proofs.Lists.{all-join, all-weaker}
use Rattle.hub_core.specs.Turns.{Part, turns_of}
use Rattle.receiver_law.specs.Parts.{CameIn, EndsReceiving}
use Rattle.receiver_law.specs.RxRun.{AreRxParts, IsLeftIn, IsRxPart}
use Rattle.sender_law.specs.Parts.{AnswersIn, IsAnswerIn, IsStepIn, IsTxPart}
use Rattle.sender_law.specs.Runs.{AreTxParts}
use Rattle.sender_law.proofs.records.JointSenders.{ends_by, has_ended}
use Rattle.tp_receiver.specs.State.{Came, FcLeft, RunEnd, RxEvent, RxTurn, Timer}
use Rattle.tp_sender.specs.State.{TxTurn}
use Rattle.tp_sender.specs.declared.event.TxEvent.{TxEvent}
use Rattle.tp_sender.specs.declared.event.TxEvent.TheVariants.{Turn, Fc, Left, RunEnd as EndCame}
use Rattle.tp_unit.specs.Box.{Leaves, Nothing, Stays, Went}
use Rattle.tp_unit.specs.Unit.{Meaning}
use Rattle.gw_law.proofs.runs.Before.{AreRising, AreTimed}

-- turns that leave a box
left-all : {T : Type 0} (IsLeft P : T → Type 0) (full : ℕ → Bool) (tick : ℕ) (lies : Option Meaning) (left : List T) → ((t : T) → IsLeft t → P t) → Leaves IsLeft full tick lies left → AllByRecursion P left
left-all IsLeft P full tick lies left on (Nothing none is) = rw is tt
left-all IsLeft P full tick lies left on (Went meaning turn some is went) = rw is (on turn went, tt)
left-all IsLeft P full tick lies left on (Stays meaning some is busy) = rw is tt

-- a receiver's
pub rx-rising : (full : ℕ → Bool) (parts : List (Part RxTurn)) → AreRxParts full parts → AreRising parts
rx-rising full [] are = tt
rx-rising full (part ∷ earlier) are = (are.0.later, rx-rising full earlier are.1)

came-at : (tick : ℕ) (event : RxEvent) (at : ℕ) → CameIn tick event at → at ≡ tick
came-at tick (Came size meaning) at is = is
came-at tick Timer at is = absurd is
came-at tick FcLeft at is = absurd is
came-at tick RunEnd at is = absurd is

pub rx-timed : (full : ℕ → Bool) (parts : List (Part RxTurn)) → AreRxParts full parts → AreTimed parts
rx-timed full [] are = tt
rx-timed full (part ∷ earlier) are =
    let is : IsRxPart full (turns_of earlier) part = are.0.part_is in
    let At : RxTurn → Type 0 = λ turn. turn.did.tick ≡ part.tick in (
      rw is.turns_are (all-join At is.left (is.timer ∷ is.came) (left-all (IsLeftIn part.tick) At full part.tick _ is.left (λ turn went. went.1) is.left_is)
          (is.timer_tick, all-weaker (λ (turn : RxTurn). CameIn part.tick turn.event turn.did.tick) At is.came (λ turn came. came-at part.tick turn.event turn.did.tick came) is.came_only)),
      rx-timed full earlier are.1,
    )

pub rx-end : (last : ℕ) (turns : List RxTurn) → EndsReceiving last turns → AllByRecursion (λ (turn : RxTurn). turn.did.tick ≡ last) turns
rx-end last [] is = absurd is
rx-end last (turn ∷ more) is = (is.1, rw is.2 tt)

-- a sender's
pub tx-rising : (full : ℕ → Bool) (parts : List (Part TxTurn)) → AreTxParts full parts → AreRising parts
tx-rising full [] are = tt
tx-rising full (part ∷ earlier) are = (are.0.later, tx-rising full earlier are.1)

answer-at : (tick : ℕ) (event : TxEvent) (at : ℕ) → AnswersIn tick event at → at ≡ tick
answer-at tick (Fc status block_size separation) at is = is
answer-at tick Turn at is = absurd is
answer-at tick Left at is = absurd is
answer-at tick EndCame at is = absurd is

pub tx-timed : (full : ℕ → Bool) (parts : List (Part TxTurn)) → AreTxParts full parts → AreTimed parts
tx-timed full [] are = tt
tx-timed full (part ∷ earlier) are =
    let is : IsTxPart full (turns_of earlier) part = are.0.part_is in
    let At : TxTurn → Type 0 = λ turn. turn.did.tick ≡ part.tick in (
      rw is.turns_are (all-join At is.left (is.turn ∷ is.answers) (left-all (IsStepIn part.tick Left) At full part.tick _ is.left (λ turn went. went.1) is.left_is)
          (is.turn_tick, all-weaker (IsAnswerIn part.tick) At is.answers (λ turn came. answer-at part.tick turn.event turn.did.tick came) is.answers_only)),
      tx-timed full earlier are.1,
    )

pub tx-end : (last : ℕ) (turns : List TxTurn) → AllByRecursion (IsStepIn last EndCame) turns → AllByRecursion (λ (turn : TxTurn). turn.did.tick ≡ last) turns
tx-end last turns all = all-weaker (IsStepIn last EndCame) (λ (turn : TxTurn). turn.did.tick ≡ last) turns (λ turn is. is.1) all

-- the run's end isn't told in a part
abbrev NoEnd : TxTurn → Type 0
NoEnd m = (ended : Bool) → ends_by m.event ended ≡ ended

no-end : (moments earlier : List TxTurn) → AllByRecursion NoEnd moments → has_ended (moments ++ earlier) ≡ has_ended earlier
no-end [] earlier all = refl
no-end (m ∷ moments) earlier all = all.0 (has_ended (moments ++ earlier)) ∙ no-end moments earlier all.1

answer-goes : (tick : ℕ) (event : TxEvent) (at : ℕ) → AnswersIn tick event at → (ended : Bool) → ends_by event ended ≡ ended
answer-goes tick (Fc status block_size separation) at is ended = refl
answer-goes tick Turn at is ended = refl
answer-goes tick Left at is ended = refl
answer-goes tick EndCame at is ended = absurd is

pub parts-go : (full : ℕ → Bool) (parts : List (Part TxTurn)) → AreTxParts full parts → has_ended (turns_of parts) ≡ false
parts-go full [] are = refl
parts-go full (part ∷ earlier) are =
    let is : IsTxPart full (turns_of earlier) part = are.0.part_is in
    let all : AllByRecursion NoEnd part.turns =
    rw is.turns_are (all-join NoEnd is.left (is.turn ∷ is.answers) (left-all (IsStepIn part.tick Left) NoEnd full part.tick _ is.left (λ turn went ended. ap (λ e. ends_by e ended) went.0) is.left_is)
    (λ ended. ap (λ e. ends_by e ended) is.turn_is, all-weaker (IsAnswerIn part.tick) NoEnd is.answers (λ turn came. answer-goes part.tick turn.event turn.did.tick came) is.answers_only)) in
    no-end part.turns (turns_of earlier) all ∙ parts-go full earlier are.1
