-- A session of which some bytes were sent looked before, and saw enough: where it is sent still, and where its record is told.
use Rattle.std.proofs.Common.{◌≡◌, inl, inr, ℕ, ◌<◌, Option, None, Some, List, [], ◌∷◌, ◌++◌, refl, ap, sym, ◌∙◌, subst, arith}
use Rattle.std.specs.Prelude.{slice_get}
use Rattle.std.specs.List.{AllByRecursion}
use Rattle.std.proofs.lemmas.List.Concat.{flat_map-append}
use Rattle.flow_plan.specs.Pace.{Control}
use Rattle.gw_base.proofs.Lists.{all-join, all-weaker, slice_get-more}
use Rattle.hub_core.specs.Turns.{calls_by, records_by, state_after}
use Rattle.hub_core.specs.View.{Event}
use Rattle.hub_core.specs.declared.record.DestRecord.{DestRecord}
use Rattle.sender_law.proofs.transfers.TxEnds.{IsEndNew, IsEndOf, of-idle, of-live}
use Rattle.sender_law.proofs.transfers.TxLaw.{so-far, world_of}
use Rattle.sender_law.proofs.transfers.TxMoves.{lives-some}
use Rattle.sender_law.proofs.transfers.TxStarts.{Looks, looked-more, looks}
use Rattle.sender_law.proofs.transfers.TxWorld.{GoesOn, SoFar, UnderWay, Unsent, Way}
use Rattle.sender_law.specs.Parts.{IsStepIn}
use Rattle.sender_law.specs.Starts.{HasLooked}
use Rattle.tp_attempts.specs.Cuts.{Cut}
use Rattle.tp_attempts.specs.Seen.{Seen}
use Rattle.tp_sender.specs.Runs.{HasSent, len_joined, lens_in}
use Rattle.tp_sender.specs.State.{Transmission, TxTurn, tx_new}
use Rattle.tp_sender.specs.Table.{FindsOne, IdleEnd, IdleRow, LiveRow, NothingStands, TxRow}
use Rattle.tp_sender.specs.declared.event.TxEvent.{TxEvent}
use Rattle.tp_sender.specs.declared.event.TxEvent.TheVariants.{RunEnd}
use Rattle.tp_sender.specs.declared.set.TxSet.{TxSet}
use Rattle.tp_sender.specs.declared.transmission.Phase.{Phase}
use Rattle.tp_sender.specs.declared.transmission.Phase.TheVariants.{Start, Box}
use Rattle.tp_unit.specs.Shape.{IsShape}
use Rattle.tp_unit.specs.declared.shape.Shape.{Shape}

-- the session of that number was joined, and a look at it showed enough
pub record HasBegun (set : TxSet) (calls : List Event) (seq : ℕ) : Type 0 where
  pub len : ℕ
  pub joined : slice_get (lens_in calls) seq ≡ Some len
  pub looked : HasLooked set calls seq len

pub begun-more : (set : TxSet) (calls more : List Event) (seq : ℕ) → HasBegun set calls seq → HasBegun set (calls ++ more) seq
begun-more set calls more seq has = record {
  len = has.len;
  joined = ap (λ l. slice_get l seq) (flat_map-append len_joined calls more) ∙ slice_get-more (lens_in calls) (lens_in more) seq has.len has.joined;
  looked = looked-more set calls more seq has.len has.looked;
}

way-start : (shape : Shape) (answers : List Control) (clear begin now len number sent block gap : ℕ) (taken : List ℕ) (phase : Phase) (since : ℕ) (going : List (Cut Seen)) → Way shape answers clear begin now len number sent block gap taken phase since going → 0 < sent → phase ≡ Start → ⊥
way-start shape answers clear begin now len number sent block gap taken phase since going (Unsent none one empty cuts early) some at = omega (arith, none, some)
way-start shape answers clear begin now len number sent block gap taken phase since going (UnderWay cut more cuts count way every ready) some at =
    let P : Phase → Type 0 = λ p. Way shape answers clear begin now len number sent block gap taken p since going in
    started (subst P at (UnderWay cut more cuts count way every ready)) some
  where
    started : Way shape answers clear begin now len number sent block gap taken Start since going → 0 < sent → ⊥
    started (Unsent none one empty cuts early) some = omega (arith, none, some)
    started (UnderWay cut more cuts count way every ready) some = ready

-- the session that is sent, once it is past its start
past-start : (set : TxSet) (turns : List TxTurn) (s : Transmission) → IsShape set.shape → HasSent set turns → (state_after tx_new turns).live ≡ Some s → (s.phase ≡ Start → ⊥) → HasBegun set (calls_by turns) s.seq
past-start set turns s sound happened is past =
    let so : SoFar set.shape (world_of set turns) = so-far set turns sound happened in
    let on : GoesOn set.shape (world_of set turns) s so.going = lives-some set.shape (world_of set turns) (state_after tx_new turns).live s so.going is so.lives in
    let P : Option Transmission → Type 0 = λ l. Looks set (calls_by turns) l in
    elim (subst P is (looks set turns happened)) [
      | inl start ↦ absurd (past start)
      | inr has ↦ record { len = s.len; joined = on.joined_is; looked = has }
    ]

not-start : (set : TxSet) (turns : List TxTurn) (s : Transmission) → IsShape set.shape → HasSent set turns → (state_after tx_new turns).live ≡ Some s → 0 < s.sent → s.phase ≡ Start → ⊥
not-start set turns s sound happened is some at =
    let so : SoFar set.shape (world_of set turns) = so-far set turns sound happened in
    let on : GoesOn set.shape (world_of set turns) s so.going = lives-some set.shape (world_of set turns) (state_after tx_new turns).live s so.going is so.lives in
    way-start _ _ _ _ _ _ _ _ _ _ _ _ _ _ on.way some at

pub begun-live : (set : TxSet) (turns : List TxTurn) (s : Transmission) → IsShape set.shape → HasSent set turns → (state_after tx_new turns).live ≡ Some s → 0 < s.sent → HasBegun set (calls_by turns) s.seq
begun-live set turns s sound happened is some = past-start set turns s sound happened is (not-start set turns s sound happened is some)

-- each record with sent bytes
begun-by : (set : TxSet) (earlier : List TxTurn) (turn : TxTurn) (live : Option Transmission) → IsShape set.shape → HasSent set earlier → (state_after tx_new earlier).live ≡ live → TxRow set (state_after tx_new earlier).next live turn.event turn.did → AllByRecursion (λ (told : DestRecord). 0 < told.sent → HasBegun set (calls_by earlier) told.seq) turn.did.records
begun-by set earlier turn None sound happened is row =
    all-weaker (IsEndNew turn.did.tick) (λ (told : DestRecord). 0 < told.sent → HasBegun set (calls_by earlier) told.seq) turn.did.records (λ told new some. absurd (omega (arith, new.unsent, some))) (of-idle set (state_after tx_new earlier).next turn.event turn.did row)
begun-by set earlier turn (Some s) sound happened is row =
    all-weaker (IsEndOf s turn.event) (λ (told : DestRecord). 0 < told.sent → HasBegun set (calls_by earlier) told.seq) turn.did.records
    (λ told of some.
    let Q : ℕ → Type 0 = λ n. HasBegun set (calls_by earlier) n in
    let past : s.phase ≡ Start → ⊥ = λ at. elim of.some [
      | inl same ↦ not-start set earlier s sound happened is (omega (arith, some, same)) at
      | inr box ↦ (let no : Start ≡ Box = sym at ∙ box in cc)
    ] in
    subst Q (sym of.seq) (past-start set earlier s sound happened is past)) (of-live set s turn.event turn.did.calls turn.did row.0)

pub begun-told : (set : TxSet) (turns : List TxTurn) → IsShape set.shape → HasSent set turns → AllByRecursion (λ (told : DestRecord). 0 < told.sent → HasBegun set (calls_by turns) told.seq) (records_by turns)
begun-told set [] sound happened = tt
begun-told set (turn ∷ earlier) sound happened =
    let P : List Event → DestRecord → Type 0 = λ calls told. 0 < told.sent → HasBegun set calls told.seq in
    let more : (told : DestRecord) → P (calls_by earlier) told → P (calls_by earlier ++ turn.did.calls) told = λ told has some. begun-more set (calls_by earlier) turn.did.calls told.seq (has some) in
    all-join (P (calls_by earlier ++ turn.did.calls)) (records_by earlier) turn.did.records
    (all-weaker (P (calls_by earlier)) (P (calls_by earlier ++ turn.did.calls)) (records_by earlier) more (begun-told set earlier sound happened.2))
    (all-weaker (P (calls_by earlier)) (P (calls_by earlier ++ turn.did.calls)) turn.did.records more (begun-by set earlier turn (state_after tx_new earlier).live sound happened.2 refl happened.1.1))

-- at the run's end a session with sent bytes was joined before
end-live : (set : TxSet) (earlier : List TxTurn) (turn : TxTurn) (live : Option Transmission) → turn.event ≡ RunEnd → TxRow set (state_after tx_new earlier).next live turn.event turn.did → turn.did.new.live ≡ None
end-live set earlier turn None at row = idle (subst (λ (e : TxEvent). IdleRow set (state_after tx_new earlier).next e turn.did) at row)
  where
    idle : IdleEnd set (state_after tx_new earlier).next turn.did → turn.did.new.live ≡ None
    idle (NothingStands row) = row.live
    idle (FindsOne buf len more row end) = end.live
end-live set earlier turn (Some s) at row = (subst (λ (e : TxEvent). LiveRow set s e turn.did.calls turn.did) at row.0).live

live-below : (set : TxSet) (front : List TxTurn) (s : Transmission) → IsShape set.shape → HasSent set front → (state_after tx_new front).live ≡ Some s → s.seq < (state_after tx_new front).next
live-below set front s sound happened is =
    let so : SoFar set.shape (world_of set front) = so-far set front sound happened in
    let on : GoesOn set.shape (world_of set front) s so.going = lives-some set.shape (world_of set front) (state_after tx_new front).live s so.going is so.lives in
    omega (arith, on.next)

-- of those that are told there
end-by : (set : TxSet) (next : ℕ) (earlier : List TxTurn) (turn : TxTurn) (live : Option Transmission) → ((s : Transmission) → live ≡ Some s → s.seq < next) → TxRow set (state_after tx_new earlier).next live turn.event turn.did → AllByRecursion (λ (told : DestRecord). 0 < told.sent → told.seq < next) turn.did.records
end-by set next earlier turn None below row =
    all-weaker (IsEndNew turn.did.tick) (λ (told : DestRecord). 0 < told.sent → told.seq < next) turn.did.records (λ told new some. absurd (omega (arith, new.unsent, some))) (of-idle set (state_after tx_new earlier).next turn.event turn.did row)
end-by set next earlier turn (Some s) below row =
    all-weaker (IsEndOf s turn.event) (λ (told : DestRecord). 0 < told.sent → told.seq < next) turn.did.records (λ told of some. omega (arith, of.seq, below s refl)) (of-live set s turn.event turn.did.calls turn.did row.0)

end-live-below : (set : TxSet) (last : ℕ) (end front : List TxTurn) (s : Transmission) → IsShape set.shape → HasSent set (end ++ front) → AllByRecursion (IsStepIn last RunEnd) end → (state_after tx_new (end ++ front)).live ≡ Some s → s.seq < (state_after tx_new front).next
end-live-below set last [] front s sound happened ends is = live-below set front s sound happened is
end-live-below set last (turn ∷ end) front s sound happened ends is =
    absurd (let no : None ≡ Some s = sym (end-live set (end ++ front) turn (state_after tx_new (end ++ front)).live ends.0.0 happened.1.1) ∙ is in cc)

pub end-told : (set : TxSet) (last : ℕ) (end front : List TxTurn) → IsShape set.shape → HasSent set (end ++ front) → AllByRecursion (IsStepIn last RunEnd) end → AllByRecursion (λ (told : DestRecord). 0 < told.sent → told.seq < (state_after tx_new front).next) (records_by front) →
    AllByRecursion (λ (told : DestRecord). 0 < told.sent → told.seq < (state_after tx_new front).next) (records_by (end ++ front))
end-told set last [] front sound happened ends all = all
end-told set last (turn ∷ end) front sound happened ends all =
    all-join (λ (told : DestRecord). 0 < told.sent → told.seq < (state_after tx_new front).next) (records_by (end ++ front)) turn.did.records (end-told set last end front sound happened.2 ends.1 all)
    (end-by set (state_after tx_new front).next (end ++ front) turn (state_after tx_new (end ++ front)).live (λ s is. end-live-below set last end front s sound happened.2 ends.1 is) happened.1.1)
