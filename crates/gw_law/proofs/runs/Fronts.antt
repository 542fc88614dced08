-- What came and what left in later turns comes after what came and left in earlier ones.
use Rattle.std.proofs.Common.{◌≡◌, ℕ, Option, Some, None, List, [], ◌∷◌, ◌++◌, ap, sym, ◌∙◌, append-nil, append_assoc}
use Rattle.std.specs.List.{AllByRecursion}
use Rattle.gw_base.proofs.Lists.{all-join}
use Rattle.hub_core.specs.Turns.{came_by, records_by}
use Rattle.hub_core.specs.declared.record.DestRecord.{DestRecord}
use Rattle.hub_core.specs.declared.record.SessionRecord.{SessionRecord}
use Rattle.sender_law.proofs.records.Origins.{InTicks}
use Rattle.tp_attempts.specs.Seen.{Seen}
use Rattle.tp_receiver.specs.Runs.{frames_in}
use Rattle.tp_receiver.specs.State.{RxEvent, Came, Timer, FcLeft, RunEnd, RxTurn}
use Rattle.tp_sender.specs.Runs.{box_after, left_by, written_at}
use Rattle.tp_sender.specs.State.{TxTurn}
use Rattle.tp_sender.specs.declared.event.TxEvent.{TxEvent}
use Rattle.tp_sender.specs.declared.event.TxEvent.TheVariants.{Turn, Fc, Left, RunEnd}
use Rattle.tp_unit.specs.Box.{Written}
use Rattle.tp_unit.specs.Unit.{Meaning}
use Rattle.tp_unit.specs.declared.shape.Shape.{Shape}

-- each turn is of such a tick
abbrev pub TurnIn : (ℕ → Type 0) → RxTurn → Type 0
TurnIn P turn = P turn.did.tick

-- a list that is one more front and items of such ticks
pub record More {A : Type 0} (P : A → Type 0) (front whole : List A) : Type 0 where
  pub more : List A
  pub is : whole ≡ front ++ more
  pub all : AllByRecursion P more

none-more : {A : Type 0} (P : A → Type 0) (front : List A) → More P front front
none-more P front = record { more = []; is = sym (append-nil front); all = tt }

next-more : {A : Type 0} (P : A → Type 0) (front whole next : List A) → More P front whole → AllByRecursion P next → More P front (whole ++ next)
next-more P front whole next so all = record { more = so.more ++ next; is = ap (λ l. l ++ next) so.is ∙ append_assoc front so.more next; all = all-join P so.more next so.all all }

any : {A : Type 0} (xs : List A) → AllByRecursion (λ (x : A). Unit {0}) xs
any [] = tt
any (x ∷ xs) = (tt, any xs)

seen-in : (P : ℕ → Type 0) (tick : ℕ) (event : RxEvent) → P tick → AllByRecursion (λ (s : Seen). P s.at) (frames_in tick event)
seen-in P tick (Came size meaning) at = (at, tt)
seen-in P tick Timer at = tt
seen-in P tick FcLeft at = tt
seen-in P tick RunEnd at = tt

pub seen-more : (P : ℕ → Type 0) (turns earlier : List RxTurn) → AllByRecursion (TurnIn P) turns → More (λ (s : Seen). P s.at) (came_by frames_in earlier) (came_by frames_in (turns ++ earlier))
seen-more P [] earlier all = none-more (λ (s : Seen). P s.at) (came_by frames_in earlier)
seen-more P (turn ∷ turns) earlier all =
    next-more (λ (s : Seen). P s.at) (came_by frames_in earlier) (came_by frames_in (turns ++ earlier)) (frames_in turn.did.tick turn.event) (seen-more P turns earlier all.1) (seen-in P turn.did.tick turn.event all.0)

pub received-more : (turns earlier : List RxTurn) → More (λ (s : SessionRecord). Unit {0}) (records_by earlier) (records_by (turns ++ earlier))
received-more [] earlier = none-more (λ (s : SessionRecord). Unit {0}) (records_by earlier)
received-more (turn ∷ turns) earlier = next-more (λ (s : SessionRecord). Unit {0}) (records_by earlier) (records_by (turns ++ earlier)) turn.did.records (received-more turns earlier) (any turn.did.records)

written-in : (P : ℕ → Type 0) (shape : Shape) (tick : ℕ) (event : TxEvent) (lies : Option Meaning) → P tick → AllByRecursion (λ (w : Written). P w.tick) (written_at shape event tick lies)
written-in P shape tick Turn lies at = tt
written-in P shape tick (Fc fs bs st) lies at = tt
written-in P shape tick Left None at = tt
written-in P shape tick Left (Some meaning) at = (at, tt)
written-in P shape tick RunEnd lies at = tt

pub left-more : (P : ℕ → Type 0) (shape : Shape) (moments earlier : List TxTurn) → AllByRecursion (InTicks P) moments → More (λ (w : Written). P w.tick) (left_by shape earlier) (left_by shape (moments ++ earlier))
left-more P shape [] earlier all = none-more (λ (w : Written). P w.tick) (left_by shape earlier)
left-more P shape (m ∷ moments) earlier all =
    next-more (λ (w : Written). P w.tick) (left_by shape earlier) (left_by shape (moments ++ earlier)) (written_at shape m.event m.did.tick (box_after (moments ++ earlier))) (left-more P shape moments earlier all.1)
    (written-in P shape m.did.tick m.event (box_after (moments ++ earlier)) all.0)

pub sent-more : (moments earlier : List TxTurn) → More (λ (d : DestRecord). Unit {0}) (records_by earlier) (records_by (moments ++ earlier))
sent-more [] earlier = none-more (λ (d : DestRecord). Unit {0}) (records_by earlier)
sent-more (m ∷ moments) earlier = next-more (λ (d : DestRecord). Unit {0}) (records_by earlier) (records_by (moments ++ earlier)) m.did.records (sent-more moments earlier) (any m.did.records)
