-- No frame of a session leaves before a look of it that shows enough.
use Rattle.std.proofs.Common.{◌≡◌, ◌⊎◌, inl, inr, ℕ, ◌≤◌, Bool, true, false, Option, None, Some, List, [], ◌∷◌, ◌++◌, refl, ap, sym, ◌∙◌, subst, arith, append_assoc}
use Rattle.std.specs.Prelude.{◌==◌, ◌&&◌, ◌||◌, nat_le, not}
use Rattle.std.proofs.lemmas.Bool.Decides.{nat_tests}
use Rattle.hub_core.specs.Turns.{calls_by, state_after}
use Rattle.hub_core.specs.View.{Event, Joining}
use Rattle.hub_core.specs.declared.port.Seen.{Seen as Look}
use Rattle.hub_core.specs.declared.record.DestResult.{DestResult}
use Rattle.tp_sender.specs.Runs.{HasSent}
use Rattle.tp_sender.specs.State.{Transmission, TxDid, TxTurn, tx_new}
use Rattle.tp_sender.specs.Table.{Answered, FrameLeft, GoesOn, IdleRow, InAnswer, InBytes, InGap, InStart, InTurn, InWait, Lacks, LiveRow, TxRow, fetched, in_phase, is_reached, joined_in, look_at}
use Rattle.tp_sender.specs.Table.{AsksToWait, BlockLeft, Continues, Due, Enough, FindsOne, FirstLeft, GapLasts, GapOver, IsInvalid, Joins, LastLeft, MayCome, NeverReached, NextLeft, NotDue, NotReached, NothingStands, NothingToSend, Overflows, Reached, Short, TooLate, WriterGone}
use Rattle.tp_sender.specs.declared.event.TxEvent.{TxEvent}
use Rattle.tp_sender.specs.declared.event.TxEvent.TheVariants.{Turn, Fc as CameFc, Left, RunEnd}
use Rattle.tp_sender.specs.declared.set.TxSet.{TxSet}
use Rattle.tp_sender.specs.declared.transmission.Phase.{Phase}
use Rattle.tp_sender.specs.declared.transmission.Phase.TheVariants.{Start, Bytes, Box, Fc, Gap}
use Rattle.sender_law.specs.Starts.{HasLooked, IsBegun, StartLaw, look_of}

-- more calls
pub looked-more : (set : TxSet) (calls more : List Event) (seq len : ℕ) → HasLooked set calls seq len → HasLooked set (calls ++ more) seq len
looked-more set calls more seq len has = record {
  look = has.look;
  among = record { before = has.among.before; after = has.among.after ++ more; are = ap (λ l. l ++ more) has.among.are ∙ append_assoc has.among.before (look_of set seq has.look ∷ has.among.after) more };
  enough = has.enough;
}

enough-by : (bytes len threshold cells : ℕ) (store : Bool) → (bytes == len || not store && nat_le threshold cells) ≡ true → (bytes ≡ len) ⊎ ((store ≡ false) × (threshold ≤ cells))
enough-by bytes len threshold cells true is = inl (grind (arith, nat_tests))
enough-by bytes len threshold cells false is = grind (arith, nat_tests)

-- a look that shows it
looked-now : (set : TxSet) (calls more : List Event) (s : Transmission) (look : Look) → is_reached set s look ≡ true → HasLooked set (calls ++ look_at set s look ∷ more) s.seq s.len
looked-now set calls more s look is = record { look = look; among = record { before = calls; after = more; are = refl }; enough = enough-by look.bytes s.len set.threshold look.cells set.store is }

-- of the session that is sent, unless it still waits to be begun
abbrev pub Looks : TxSet → List Event → Option Transmission → Type 0
Looks set calls None = Unit {0}
Looks set calls (Some s) = (s.phase ≡ Start) ⊎ HasLooked set calls s.seq s.len

looks-at : (set : TxSet) (calls : List Event) (live is : Option Transmission) → live ≡ is → Looks set calls is → Looks set calls live
looks-at set calls live is same looks = let P : Option Transmission → Type 0 = λ l. Looks set calls l in subst P (sym same) looks

-- the session goes on, or none is sent
data Keeps (seq len : ℕ) (live : Option Transmission) : Type 0 where
  IsOver : live ≡ None → Keeps seq len live
  IsSame : (t : Transmission) → live ≡ Some t → t.seq ≡ seq → t.len ≡ len → Keeps seq len live

looks-kept : (set : TxSet) (calls : List Event) (s : Transmission) (live : Option Transmission) → HasLooked set calls s.seq s.len → Keeps s.seq s.len live → Looks set calls live
looks-kept set calls s live has (IsOver is) = looks-at set calls live None is tt
looks-kept set calls s live has (IsSame t is seq len) = looks-at set calls live (Some t) is (inr (rw (seq, len) has))

of-lacks : (set : TxSet) (s : Transmission) (look : Look) (calls : List Event) (did : TxDid) → Lacks set s look calls did → Keeps s.seq s.len did.new.live
of-lacks set s look calls did (WriterGone gone row) = IsOver row.live
of-lacks set s look calls did (TooLate there late row) = IsOver row.live
of-lacks set s look calls did (MayCome there early row) = IsSame s row.live refl refl

of-bytes : (set : TxSet) (s : Transmission) (calls : List Event) (did : TxDid) → InBytes set s calls did → Keeps s.seq s.len did.new.live
of-bytes set s calls did (Enough look cells fetches row) = IsSame _ row.live refl refl
of-bytes set s calls did (Short look cells more fetches short lacks) = of-lacks set (fetched cells s) look more did lacks

of-wait : (set : TxSet) (s : Transmission) (limit : ℕ) (result : DestResult) (calls : List Event) (did : TxDid) → InWait set s limit result calls did → Keeps s.seq s.len did.new.live
of-wait set s limit result calls did (Due late row) = IsOver row.live
of-wait set s limit result calls did (NotDue early row) = IsSame s row.live refl refl

of-gap : (set : TxSet) (s : Transmission) (until : ℕ) (calls : List Event) (did : TxDid) → InGap set s until calls did → Keeps s.seq s.len did.new.live
of-gap set s until calls did (GapOver over row) = of-bytes set (in_phase Bytes did.tick s) calls did row
of-gap set s until calls did (GapLasts before row) = IsSame s row.live refl refl

of-answered : (set : TxSet) (s : Transmission) (fs bs st : ℕ) (calls : List Event) (did : TxDid) → Answered set s fs bs st calls did → Keeps s.seq s.len did.new.live
of-answered set s fs bs st calls did (Continues is row) = IsSame _ row.live refl refl
of-answered set s fs bs st calls did (AsksToWait is row) = IsSame _ row.live refl refl
of-answered set s fs bs st calls did (Overflows is row) = IsOver row.live
of-answered set s fs bs st calls did (IsInvalid is row) = IsOver row.live

of-left : (set : TxSet) (s : Transmission) (calls : List Event) (did : TxDid) → FrameLeft set s calls did → Keeps s.seq s.len did.new.live
of-left set s calls did (LastLeft whole row) = IsOver row.live
of-left set s calls did (FirstLeft none more row) = IsSame _ row.live refl refl
of-left set s calls did (BlockLeft some more one row) = IsSame _ row.live refl refl
of-left set s calls did (NextLeft some more out row) = IsSame _ row.live refl refl

-- a session that waits to be begun
of-start : (set : TxSet) (before : List Event) (s : Transmission) (calls : List Event) (did : TxDid) → s.phase ≡ Start → InStart set s calls did → Looks set (before ++ calls) did.new.live
of-start set before s calls did phase (Reached look more are is row) =
    let P : List Event → Type 0 = λ l. HasLooked set (before ++ l) s.seq s.len in
    looks-kept set (before ++ calls) s did.new.live (subst P (sym are) (looked-now set before more s look is)) (of-bytes set (in_phase Bytes did.tick s) more did row)
of-start set before s calls did phase (NeverReached look more are is gone row) = looks-at set (before ++ calls) did.new.live None row.live tt
of-start set before s calls did phase (NotReached look more are is there row) = looks-at set (before ++ calls) did.new.live (Some s) row.live (inl phase)

-- one that was begun
begun : (set : TxSet) (before : List Event) (s : Transmission) (calls : List Event) (did : TxDid) (phase : Phase) → s.phase ≡ phase → (phase ≡ Start → ⊥) → Looks set before (Some s) → Keeps s.seq s.len did.new.live → Looks set (before ++ calls) did.new.live
begun set before s calls did phase at out looks keeps = elim looks [
  | inl start ↦ absurd (out (sym at ∙ start))
  | inr has ↦ looks-kept set (before ++ calls) s did.new.live (looked-more set before calls s.seq s.len has) keeps
]

-- what goes on as it was
goes-on : (set : TxSet) (before : List Event) (s : Transmission) (calls : List Event) (did : TxDid) → Looks set before (Some s) → GoesOn s calls did → Looks set (before ++ calls) did.new.live
goes-on set before s calls did looks row = looks-at set (before ++ calls) did.new.live (Some s) row.live (elim looks [ inl start ↦ inl start | inr has ↦ inr (looked-more set before calls s.seq s.len has) ])

of-turn : (set : TxSet) (before : List Event) (s : Transmission) (phase : Phase) (calls : List Event) (did : TxDid) → s.phase ≡ phase → Looks set before (Some s) → InTurn set s phase calls did → Looks set (before ++ calls) did.new.live
of-turn set before s Start calls did at looks row = of-start set before s calls did at row
of-turn set before s Bytes calls did at looks row = begun set before s calls did Bytes at (λ e. cc) looks (of-bytes set s calls did row)
of-turn set before s Box calls did at looks row = begun set before s calls did Box at (λ e. cc) looks (of-wait set s _ _ calls did row)
of-turn set before s Fc calls did at looks row = begun set before s calls did Fc at (λ e. cc) looks (of-wait set s _ _ calls did row)
of-turn set before s (Gap until) calls did at looks row = begun set before s calls did (Gap until) at (λ e. cc) looks (of-gap set s until.0 calls did row)

of-answer : (set : TxSet) (before : List Event) (s : Transmission) (phase : Phase) (fs bs st : ℕ) (calls : List Event) (did : TxDid) → s.phase ≡ phase → Looks set before (Some s) → InAnswer set s phase fs bs st calls did → Looks set (before ++ calls) did.new.live
of-answer set before s Start fs bs st calls did at looks row = goes-on set before s calls did looks row
of-answer set before s Bytes fs bs st calls did at looks row = goes-on set before s calls did looks row
of-answer set before s Box fs bs st calls did at looks row = goes-on set before s calls did looks row
of-answer set before s Fc fs bs st calls did at looks row = begun set before s calls did Fc at (λ e. cc) looks (of-answered set s fs bs st calls did row)
of-answer set before s (Gap until) fs bs st calls did at looks row = goes-on set before s calls did looks row

of-live : (set : TxSet) (before : List Event) (s : Transmission) (event : TxEvent) (calls : List Event) (did : TxDid) → Looks set before (Some s) → LiveRow set s event calls did → Looks set (before ++ calls) did.new.live
of-live set before s Turn calls did looks row = of-turn set before s s.phase calls did refl looks row
of-live set before s (CameFc fs bs st) calls did looks row = of-answer set before s s.phase fs bs st calls did refl looks row
of-live set before s Left calls did looks row = begun set before s calls did Box row.0 (λ e. cc) looks (of-left set s calls did row.1)
of-live set before s RunEnd calls did looks row = looks-at set (before ++ calls) did.new.live None row.live tt

of-idle : (set : TxSet) (before : List Event) (next : ℕ) (event : TxEvent) (did : TxDid) → IdleRow set next event did → Looks set (before ++ did.calls) did.new.live
of-idle set before next Turn did (NothingToSend row) = looks-at set (before ++ did.calls) did.new.live None row.live tt
of-idle set before next Turn did (Joins buf len more row start) =
    let e : Event = Joining set.path.0 set.dest.0 next buf len in
    let P : List Event → Type 0 = λ l. Looks set l did.new.live in
    subst P (append_assoc before (e ∷ []) more ∙ ap (λ l. before ++ l) (sym row.calls_are)) (of-start set (before ++ e ∷ []) (joined_in did.tick next len) more did refl start)
of-idle set before next (CameFc fs bs st) did row = looks-at set (before ++ did.calls) did.new.live None row.live tt
of-idle set before next Left did row = absurd row
of-idle set before next RunEnd did (NothingStands row) = looks-at set (before ++ did.calls) did.new.live None row.live tt
of-idle set before next RunEnd did (FindsOne buf len more row end) = looks-at set (before ++ did.calls) did.new.live None end.live tt

of-row : (set : TxSet) (before : List Event) (next : ℕ) (live : Option Transmission) (event : TxEvent) (did : TxDid) → Looks set before live → TxRow set next live event did → Looks set (before ++ did.calls) did.new.live
of-row set before next None event did looks row = of-idle set before next event did row
of-row set before next (Some s) event did looks row = of-live set before s event did.calls did looks row.0

pub looks : (set : TxSet) (turns : List TxTurn) → HasSent set turns → Looks set (calls_by turns) (state_after tx_new turns).live
looks set [] happened = tt
looks set (turn ∷ earlier) happened = of-row set (calls_by earlier) (state_after tx_new earlier).next (state_after tx_new earlier).live turn.event turn.did (looks set earlier happened.2) happened.1.1

-- a frame that leaves lay in the box
left-row : (set : TxSet) (earlier : List TxTurn) (next : ℕ) (live : Option Transmission) (did : TxDid) → (state_after tx_new earlier).live ≡ live → Looks set (calls_by earlier) live → TxRow set next live Left did → IsBegun set earlier
left-row set earlier next None did is looks row = absurd row
left-row set earlier next (Some s) did is looks row = record {
  s = s;
  live = is;
  looked = elim looks [ inl start ↦ (let no : Box ≡ Start = sym row.0.0 ∙ start in cc) | inr has ↦ has ];
}

pub starts : (set : TxSet) (turns : List TxTurn) → HasSent set turns → StartLaw set turns
starts set [] happened = tt
starts set (turn ∷ earlier) happened = (
  λ is.
      let P : TxEvent → Type 0 = λ e. TxRow set (state_after tx_new earlier).next (state_after tx_new earlier).live e turn.did in
      left-row set earlier (state_after tx_new earlier).next (state_after tx_new earlier).live turn.did refl (looks set earlier happened.2) (subst P is happened.1.1),
  starts set earlier happened.2,
)
