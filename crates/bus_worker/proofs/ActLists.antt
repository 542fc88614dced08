-- Acts and what each machine did among them.
use Rattle.std.proofs.Common.{◌≡◌, ◌≢◌, ◌==◌, ℕ, true, false, cond, arith, List, [], ◌∷◌, ◌++◌, refl, ap, sym, ◌∙◌, append-nil, append_assoc}
use Rattle.std.proofs.lemmas.Bool.Decides.{nat_tests}
use Rattle.tp_receiver.specs.State.{RxTurn}
use Rattle.tp_sender.specs.State.{TxTurn}
use Rattle.bus_worker.specs.Acts.{Act, Received, Sent, calls_in, calls_of, received_at, received_by, sent_at, sent_by}

pub differs : (a b : ℕ) → a ≢ b → (a == b) ≡ false
differs a b ne = grind (arith, nat_tests, ne)

pub is-same : (a : ℕ) → (a == a) ≡ true
is-same a = grind (arith, nat_tests)

pub received-own : (place : ℕ) (turn : RxTurn) (acts : List Act) → received_at place (Received place turn ∷ acts) ≡ turn ∷ received_at place acts
received-own place turn acts = ap (λ b. cond b (turn ∷ []) [] ++ received_at place acts) (is-same place)

pub received-other : (place other : ℕ) (turn : RxTurn) (acts : List Act) → other ≢ place → received_at other (Received place turn ∷ acts) ≡ received_at other acts
received-other place other turn acts ne = ap (λ b. cond b (turn ∷ []) [] ++ received_at other acts) (differs place other (λ is. ne (sym is)))

pub sent-own : (place : ℕ) (turn : TxTurn) (acts : List Act) → sent_at place (Sent place turn ∷ acts) ≡ turn ∷ sent_at place acts
sent-own place turn acts = ap (λ b. cond b (turn ∷ []) [] ++ sent_at place acts) (is-same place)

pub sent-other : (place other : ℕ) (turn : TxTurn) (acts : List Act) → other ≢ place → sent_at other (Sent place turn ∷ acts) ≡ sent_at other acts
sent-other place other turn acts ne = ap (λ b. cond b (turn ∷ []) [] ++ sent_at other acts) (differs place other (λ is. ne (sym is)))

pub received-append : (place : ℕ) (later earlier : List Act) → received_at place (later ++ earlier) ≡ received_at place later ++ received_at place earlier
received-append place [] earlier = refl
received-append place (act ∷ later) earlier = ap (λ l. received_by place act ++ l) (received-append place later earlier) ∙ sym (append_assoc (received_by place act) (received_at place later) (received_at place earlier))

pub sent-append : (place : ℕ) (later earlier : List Act) → sent_at place (later ++ earlier) ≡ sent_at place later ++ sent_at place earlier
sent-append place [] earlier = refl
sent-append place (act ∷ later) earlier = ap (λ l. sent_by place act ++ l) (sent-append place later earlier) ∙ sym (append_assoc (sent_by place act) (sent_at place later) (sent_at place earlier))

pub calls-append : (later earlier : List Act) → calls_in (later ++ earlier) ≡ calls_in earlier ++ calls_in later
calls-append [] earlier = sym (append-nil (calls_in earlier))
calls-append (act ∷ later) earlier = ap (λ l. l ++ calls_of act) (calls-append later earlier) ∙ append_assoc (calls_in earlier) (calls_in later) (calls_of act)
