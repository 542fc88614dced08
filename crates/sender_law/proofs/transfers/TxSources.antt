-- A session that waits for its source after a turn saw in that turn that it still writes.
use Rattle.std.proofs.Common.{◌≡◌, ℕ, true, Option, None, Some, List, [], ◌∷◌, ◌++◌, refl, ap, sym, ◌∙◌, subst, append_assoc}
use Rattle.std.specs.Prelude.{map}
use Rattle.hub_core.specs.View.{Event, Joining, Read}
use Rattle.hub_core.specs.Turns.{state_after}
use Rattle.hub_core.specs.declared.port.Seen.{Seen as Look}
use Rattle.hub_core.specs.declared.record.DestResult.{DestResult}
use Rattle.tp_sender.specs.Runs.{HasSent}
use Rattle.tp_sender.specs.State.{Transmission, TxDid, TxTurn, tx_new}
use Rattle.tp_sender.specs.Table.{IdleTurn, InBytes, InStart, InTurn, InWait, Lacks, TxRow, fetched, in_phase, joined_in, look_at}
use Rattle.tp_sender.specs.Table.{Due, Enough, GapLasts, GapOver, Joins, MayCome, NeverReached, NotDue, NotReached, NothingToSend, Reached, Short, TooLate, WriterGone}
use Rattle.tp_sender.specs.declared.event.TxEvent.{TxEvent}
use Rattle.tp_sender.specs.declared.event.TxEvent.TheVariants.{Turn}
use Rattle.tp_sender.specs.declared.set.TxSet.{TxSet}
use Rattle.tp_sender.specs.declared.transmission.Phase.{Phase}
use Rattle.tp_sender.specs.declared.transmission.Phase.TheVariants.{Start, Bytes, Box, Fc, Gap}
use Rattle.sender_law.specs.Starts.{IsLacking, SawSource, SourceLaw, look_of}

-- what goes on as it must, where the session waits for its source
abbrev Sees : TxSet → List Event → Option Transmission → Type 0
Sees set calls live = (s : Transmission) → live ≡ Some s → IsLacking s.phase → SawSource set calls s.seq

-- earlier calls of the turn
pub saw-more : (set : TxSet) (front calls : List Event) (seq : ℕ) → SawSource set calls seq → SawSource set (front ++ calls) seq
saw-more set front calls seq saw = record {
  look = saw.look;
  among = record { before = front ++ saw.among.before; after = saw.among.after; are = ap (λ l. front ++ l) saw.among.are ∙ sym (append_assoc front saw.among.before (look_of set seq saw.look ∷ saw.among.after)) };
  writes = saw.writes;
}

sees-more : (set : TxSet) (front calls : List Event) (live : Option Transmission) → Sees set calls live → Sees set (front ++ calls) live
sees-more set front calls live sees s is lacks = saw-more set front calls s.seq (sees s is lacks)

sees-as : (set : TxSet) (calls same : List Event) (live : Option Transmission) → calls ≡ same → Sees set same live → Sees set calls live
sees-as set calls same live are sees = let P : List Event → Type 0 = λ l. Sees set l live in subst P (sym are) sees

-- none is sent, or the session waits for something else
none : (set : TxSet) (calls : List Event) (live : Option Transmission) → live ≡ None → Sees set calls live
none set calls live is s some lacks = let no : None ≡ Some s = sym is ∙ some in cc

other : (set : TxSet) (calls : List Event) (live : Option Transmission) (t : Transmission) (phase : Phase) → live ≡ Some t → t.phase ≡ phase → (IsLacking phase → ⊥) → Sees set calls live
other set calls live t phase is at out s some lacks =
    let both : Some t ≡ Some s = sym is ∙ some in
    let same : t ≡ s = cc in
    let P : Transmission → Type 0 = λ x. IsLacking x.phase in
    let Q : Phase → Type 0 = λ p. IsLacking p in
    absurd (out (subst Q at (subst P (sym same) lacks)))

-- the look shows it
looks : (set : TxSet) (calls more : List Event) (s : Transmission) (look : Look) (live : Option Transmission) (t : Transmission) → calls ≡ look_at set s look ∷ more → look.writer ≡ true → live ≡ Some t → t.seq ≡ s.seq → Sees set calls live
looks set calls more s look live t are writes is seq u some lacks =
    let both : Some t ≡ Some u = sym is ∙ some in
    let same : t ≡ u = cc in
    let number : s.seq ≡ u.seq = sym seq ∙ ap (λ (x : Transmission). x.seq) same in
    let P : ℕ → Type 0 = λ n. SawSource set calls n in
    subst P number (record { look = look; among = record { before = []; after = more; are = are }; writes = writes })

of-lacks : (set : TxSet) (s : Transmission) (look : Look) (calls more rest : List Event) (did : TxDid) → calls ≡ look_at set s look ∷ rest → Lacks set s look more did → Sees set calls did.new.live
of-lacks set s look calls more rest did are (WriterGone gone row) = none set calls did.new.live row.live
of-lacks set s look calls more rest did are (TooLate there late row) = none set calls did.new.live row.live
of-lacks set s look calls more rest did are (MayCome there early row) = looks set calls rest s look did.new.live s are there row.live refl

of-bytes : (set : TxSet) (s : Transmission) (calls : List Event) (did : TxDid) → InBytes set s calls did → Sees set calls did.new.live
of-bytes set s calls did (Enough look cells fetches row) = other set calls did.new.live _ Box row.live refl (λ b. b)
of-bytes set s calls did (Short look cells more fetches short lacks) = of-lacks set (fetched cells s) look calls more (map (Read set.path.0 set.dest.0 s.seq) cells ++ more) did fetches.calls_are lacks

of-start : (set : TxSet) (s : Transmission) (calls : List Event) (did : TxDid) → InStart set s calls did → Sees set calls did.new.live
of-start set s calls did (Reached look more are is row) =
    sees-as set calls (look_at set s look ∷ more) did.new.live are (sees-more set (look_at set s look ∷ []) more did.new.live (of-bytes set (in_phase Bytes did.tick s) more did row))
of-start set s calls did (NeverReached look more are is gone row) = none set calls did.new.live row.live
of-start set s calls did (NotReached look more are is there row) = looks set calls more s look did.new.live s are there row.live refl

of-wait : (set : TxSet) (s : Transmission) (phase : Phase) (limit : ℕ) (result : DestResult) (calls : List Event) (did : TxDid) → s.phase ≡ phase → (IsLacking phase → ⊥) → InWait set s limit result calls did → Sees set calls did.new.live
of-wait set s phase limit result calls did at out (Due late row) = none set calls did.new.live row.live
of-wait set s phase limit result calls did at out (NotDue early row) = other set calls did.new.live s phase row.live at out

of-turn : (set : TxSet) (s : Transmission) (phase : Phase) (calls : List Event) (did : TxDid) → s.phase ≡ phase → InTurn set s phase calls did → Sees set calls did.new.live
of-turn set s Start calls did at row = of-start set s calls did row
of-turn set s Bytes calls did at row = of-bytes set s calls did row
of-turn set s Box calls did at row = of-wait set s Box _ _ calls did at (λ b. b) row
of-turn set s Fc calls did at row = of-wait set s Fc _ _ calls did at (λ b. b) row
of-turn set s (Gap until) calls did at (GapOver over row) = of-bytes set (in_phase Bytes did.tick s) calls did row
of-turn set s (Gap until) calls did at (GapLasts before row) = other set calls did.new.live s (Gap until) row.live at (λ b. b)

of-idle : (set : TxSet) (next : ℕ) (did : TxDid) → IdleTurn set next did → Sees set did.calls did.new.live
of-idle set next did (NothingToSend row) = none set did.calls did.new.live row.live
of-idle set next did (Joins buf len more row start) =
    let e : Event = Joining set.path.0 set.dest.0 next buf len in
    sees-as set did.calls (e ∷ more) did.new.live row.calls_are (sees-more set (e ∷ []) more did.new.live (of-start set (joined_in did.tick next len) more did start))

of-row : (set : TxSet) (next : ℕ) (live : Option Transmission) (did : TxDid) → TxRow set next live Turn did → Sees set did.calls did.new.live
of-row set next None did row = of-idle set next did row
of-row set next (Some s) did row = of-turn set s s.phase did.calls did refl row.0

pub sources : (set : TxSet) (turns : List TxTurn) → HasSent set turns → SourceLaw set turns
sources set [] happened = tt
sources set (turn ∷ earlier) happened = (
  λ is.
      let P : TxEvent → Type 0 = λ e. TxRow set (state_after tx_new earlier).next (state_after tx_new earlier).live e turn.did in
      of-row set (state_after tx_new earlier).next (state_after tx_new earlier).live turn.did (subst P is happened.1.1),
  sources set earlier happened.2,
)
