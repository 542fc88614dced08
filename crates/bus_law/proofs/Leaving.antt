-- The acts of the machines whose frames left in a tick: each machine's own are as many as its frames.
use Rattle.std.proofs.Common.{◌≡◌, ◌≢◌, inl, inr, ℕ, List, [], ◌∷◌, ◌++◌, ap, sym, ◌∙◌, arith}
use Rattle.receiver_law.specs.RxRun.{IsLeftIn}
use Rattle.sender_law.specs.Parts.{IsStepIn}
use Rattle.tp_sender.specs.declared.event.TxEvent.TheVariants.{Left}
use Rattle.tx_mailbox.specs.Boxes.{Pending}
use Rattle.bus_worker.proofs.ActLists.{received-append, received-other, received-own, sent-append, sent-other, sent-own}
use Rattle.bus_worker.specs.Acts.{Act, Received, Sent, received_at, sent_at}
use Rattle.bus_worker.specs.Emission.{AreLeaving, Control, Data, IsLeaving}
use Rattle.bus_worker.specs.Stands.{control_box, frame_box}
use Rattle.bus_law.proofs.Emitting.{NoneOf, OneOf}

-- an act of another box is none of the machine's
act-none : (tick number place : ℕ) (act : Act) → IsLeaving tick number act → number ≢ control_box place → received_at place (act ∷ []) ≡ []
act-none tick number place act (Control other turn number_is is event tick_is) ne = ap (λ a. received_at place (a ∷ [])) is ∙ received-other other place turn [] (λ same. ne (number_is ∙ ap control_box (sym same)))
act-none tick number place act (Data other turn number_is is event tick_is) ne = ap (λ a. received_at place (a ∷ [])) is

sent-none : (tick number place : ℕ) (act : Act) → IsLeaving tick number act → number ≢ frame_box place → sent_at place (act ∷ []) ≡ []
sent-none tick number place act (Control other turn number_is is event tick_is) ne = ap (λ a. sent_at place (a ∷ [])) is
sent-none tick number place act (Data other turn number_is is event tick_is) ne = ap (λ a. sent_at place (a ∷ [])) is ∙ sent-other other place turn [] (λ same. ne (number_is ∙ ap frame_box (sym same)))

-- one turn of the machine, which was told that its frame has left
pub record OneLeft {T : Type 0} (IsLeft : T → Type 0) (turns : List T) : Type 0 where
  pub turn : T
  pub turns_are : turns ≡ turn ∷ []
  pub is : IsLeft turn

act-one : (tick number place : ℕ) (act : Act) → IsLeaving tick number act → number ≡ control_box place → OneLeft (IsLeftIn tick) (received_at place (act ∷ []))
act-one tick number place act (Control other turn number_is is event tick_is) same =
    let here : other ≡ place = omega (arith, number_is, same) in
    record { turn = turn; turns_are = ap (λ a. received_at place (a ∷ [])) is ∙ ap (λ p. received_at place (Received p turn ∷ [])) here ∙ received-own place turn []; is = (event, tick_is) }
act-one tick number place act (Data other turn number_is is event tick_is) same = absurd (omega (arith, number_is, same))

sent-one : (tick number place : ℕ) (act : Act) → IsLeaving tick number act → number ≡ frame_box place → OneLeft (IsStepIn tick Left) (sent_at place (act ∷ []))
sent-one tick number place act (Data other turn number_is is event tick_is) same =
    let here : other ≡ place = omega (arith, number_is, same) in
    record { turn = turn; turns_are = ap (λ a. sent_at place (a ∷ [])) is ∙ ap (λ p. sent_at place (Sent p turn ∷ [])) here ∙ sent-own place turn []; is = (event, tick_is) }
sent-one tick number place act (Control other turn number_is is event tick_is) same = absurd (omega (arith, number_is, same))

-- a receiver's flow control
pub none-received : (tick place : ℕ) (out : List Pending) (done : List Act) → AreLeaving tick out done → NoneOf (control_box place) out → received_at place done ≡ []
none-received tick place [] done are none = ap (received_at place) are
none-received tick place (entry ∷ later) done so none =
    ap (received_at place) so.2 ∙ received-append place so.1 (so.0 ∷ []) ∙ ap (λ l. l ++ received_at place (so.0 ∷ [])) (none-received tick place later so.1 so.4 none.1) ∙ act-none tick entry.0 place so.0 so.3 none.0

pub one-received : (tick place : ℕ) (out : List Pending) (done : List Act) → AreLeaving tick out done → OneOf (control_box place) out → OneLeft (IsLeftIn tick) (received_at place done)
one-received tick place [] done are one = absurd one
one-received tick place (entry ∷ later) done so (inl first) =
    let one = act-one tick entry.0 place so.0 so.3 first.0 in
    record {
      turn = one.turn;
      turns_are = ap (received_at place) so.2 ∙ received-append place so.1 (so.0 ∷ []) ∙ ap (λ l. l ++ received_at place (so.0 ∷ [])) (none-received tick place later so.1 so.4 first.1) ∙ one.turns_are;
      is = one.is;
    }
one-received tick place (entry ∷ later) done so (inr rest) =
    let one = one-received tick place later so.1 so.4 rest.1 in
    record {
      turn = one.turn;
      turns_are = ap (received_at place) so.2 ∙ received-append place so.1 (so.0 ∷ []) ∙ ap (λ l. received_at place so.1 ++ l) (act-none tick entry.0 place so.0 so.3 rest.0) ∙ ap (λ l. l ++ []) one.turns_are;
      is = one.is;
    }

-- a sender's data frame
pub none-sent : (tick place : ℕ) (out : List Pending) (done : List Act) → AreLeaving tick out done → NoneOf (frame_box place) out → sent_at place done ≡ []
none-sent tick place [] done are none = ap (sent_at place) are
none-sent tick place (entry ∷ later) done so none =
    ap (sent_at place) so.2 ∙ sent-append place so.1 (so.0 ∷ []) ∙ ap (λ l. l ++ sent_at place (so.0 ∷ [])) (none-sent tick place later so.1 so.4 none.1) ∙ sent-none tick entry.0 place so.0 so.3 none.0

pub one-sent : (tick place : ℕ) (out : List Pending) (done : List Act) → AreLeaving tick out done → OneOf (frame_box place) out → OneLeft (IsStepIn tick Left) (sent_at place done)
one-sent tick place [] done are one = absurd one
one-sent tick place (entry ∷ later) done so (inl first) =
    let one = sent-one tick entry.0 place so.0 so.3 first.0 in
    record {
      turn = one.turn;
      turns_are = ap (sent_at place) so.2 ∙ sent-append place so.1 (so.0 ∷ []) ∙ ap (λ l. l ++ sent_at place (so.0 ∷ [])) (none-sent tick place later so.1 so.4 first.1) ∙ one.turns_are;
      is = one.is;
    }
one-sent tick place (entry ∷ later) done so (inr rest) =
    let one = one-sent tick place later so.1 so.4 rest.1 in
    record {
      turn = one.turn;
      turns_are = ap (sent_at place) so.2 ∙ sent-append place so.1 (so.0 ∷ []) ∙ ap (λ l. sent_at place so.1 ++ l) (sent-none tick entry.0 place so.0 so.3 rest.0) ∙ ap (λ l. l ++ []) one.turns_are;
      is = one.is;
    }
