-- A reception that is over, and a flow control that is asked for, by the rows of the receiver's table.
use Rattle.std.proofs.Common.{◌≡◌, inl, inr, ◌⊎◌, ℕ, ◌+◌, ◌≤◌, Bool, true, false, Option, Some, None, List, [], ◌∷◌, ◌++◌, length, refl, sym, subst, arith, append-nil}
use Rattle.hub_core.specs.declared.record.RxWait.{RxWait}
use Rattle.hub_core.specs.declared.record.RxWait.TheVariants.{Box, Room, Cf}
use Rattle.hub_core.specs.declared.record.SessionRecord.{SessionRecord}
use Rattle.hub_core.specs.declared.record.SessionResult.{SessionResult}
use Rattle.hub_core.specs.declared.record.SessionResult.TheVariants.{WaitOver, NoReaders}
use Rattle.tp_attempts.specs.Attempts.{attempts_in}
use Rattle.tp_attempts.specs.Cuts.{Cut}
use Rattle.tp_attempts.specs.Seen.{Seen}
use Rattle.tp_attempts.specs.Walk.{joined, walk_of}
use Rattle.tp_receiver.specs.Grant.{ask_to_wait, continue_to_send}
use Rattle.tp_receiver.specs.State.{Reception, RxDid, RxState, idle}
use Rattle.tp_receiver.specs.Table.{All, Answers, Block, Ends, Grants, NoneReads, SomeRead, TooManyWaits, Wait, ended, revoking}
use Rattle.tp_receiver.specs.declared.set.RxSet.{RxSet}
use Rattle.tp_unit.specs.Box.{Written, box_then}
use Rattle.tp_unit.specs.Unit.{BoxMeaning, Meaning, Offers}
use Rattle.tp_unit.specs.declared.shape.Shape.{Shape}
use Rattle.receiver_law.specs.FlowControls.{IsFirst}
use Rattle.receiver_law.specs.Receptions.{ControlLeft, Received}
use Rattle.receiver_law.specs.Source.{is_overflow}
use Rattle.receiver_law.proofs.receptions.Ends.{asked-over, asked-unread, received, settles}
use Rattle.receiver_law.proofs.receptions.Going.{IsAsking, IsGoing, WaitsFor}
use Rattle.receiver_law.proofs.receptions.Grants.{grants-all, grants-block, grants-none}
use Rattle.receiver_law.proofs.receptions.Settled.{IsSettled, starts_of}
use Rattle.receiver_law.proofs.receptions.SoFar.{AreTold, BoxSo, BusySo, IdleSo, SoFar, box-quiet, last-quiet, told-more}

-- the box of a reception that is over
pub lies-over : (full : ℕ → Bool) (set : RxSet) (tick over : ℕ) (lies : Option Meaning) (busy : Reception) (attempt : Cut Seen) (controls : List ControlLeft) → IsGoing full set tick over lies busy attempt controls → box_then (revoking busy.wait) lies ≡ None
lies-over full set tick over lies busy attempt controls so = of busy.wait so.waits_for
  where
    of : (wait : RxWait) → WaitsFor full set tick over lies busy so.start so.frames controls wait → box_then (revoking wait) lies ≡ None
    of Box waits = refl
    of Room waits = waits.lies_is
    of Cf waits = waits.lies_is

module _ (full : ℕ → Bool) (set : RxSet) (shape : Shape) where
  -- a move's state, act and records
  pub finish : (over : ℕ) (m : RxDid) (state : RxState) (act : BoxMeaning) (lies : Option Meaning) (seen : List Seen) (records more : List SessionRecord) (written : List Written) → m.new ≡ state → m.act ≡ act → m.records ≡ more →
      SoFar full set shape m.tick over state (box_then act lies) seen (records ++ more) written → SoFar full set shape m.tick over m.new (box_then m.act lies) seen (records ++ m.records) written
  finish over m state act lies seen records more written new acts told so =
      let P : RxState → Type 0 = λ s. SoFar full set shape m.tick over s (box_then m.act lies) seen (records ++ m.records) written in
      let Q : BoxMeaning → Type 0 = λ a. SoFar full set shape m.tick over state (box_then a lies) seen (records ++ m.records) written in
      let R : List SessionRecord → Type 0 = λ r. SoFar full set shape m.tick over state (box_then act lies) seen (records ++ r) written in
      subst P (sym new) (subst Q (sym acts) (subst R (sym told) so))

  -- the box, with one reception more that is over
  box-end : (tick over : ℕ) (refusing : Option ℕ) (lies : Option Meaning) (parts : List Received) (one : Received) → (IsFirst one.start.meaning → is_overflow one.told.result ≡ true → ⊥) → (refusing ≡ None) ⊎ (one.controls ≡ []) → BoxSo set tick over refusing lies parts →
      BoxSo set tick over refusing lies (parts ++ one ∷ [])
  box-end tick over refusing lies parts one other (inl none) so = subst (λ (r : Option ℕ). BoxSo set tick over r lies (parts ++ one ∷ [])) (sym none) (subst (λ (r : Option ℕ). BoxSo set tick over r lies parts) none so)
  box-end tick over refusing lies parts one other (inr none) so = box-quiet set tick over refusing lies parts one (record { none = none; other = other }) so

  -- one reception more is over, of the newest attempt
  pub over-so : (tick over : ℕ) (refusing : Option ℕ) (lies : Option Meaning) (seen : List Seen) (records : List SessionRecord) (written : List Written) (earlier : List (Cut Seen)) (attempt : Cut Seen) (one : Received) (parts : List Received) → attempts_in set.functional seen ≡ earlier ++ attempt ∷ [] →
      (IsFirst one.start.meaning → is_overflow one.told.result ≡ true → ⊥) → (refusing ≡ None) ⊎ (one.controls ≡ []) → IsSettled full set tick over (starts_of (attempts_in set.functional seen)) attempt one → BoxSo set tick over refusing lies parts →
      AreTold full set shape tick over (starts_of (attempts_in set.functional seen)) earlier records written one.controls parts → IdleSo full set shape tick over refusing lies seen (records ++ one.told ∷ []) written
  over-so tick over refusing lies seen records written earlier attempt one parts cut other box settled box_so told =
      let starts : List ℕ = starts_of (attempts_in set.functional seen) in
      record {
        parts = parts ++ one ∷ [];
        told = subst (λ (a : List (Cut Seen)). AreTold full set shape tick over starts a (records ++ one.told ∷ []) written [] (parts ++ one ∷ [])) (sym cut) (told-more full set shape tick over starts earlier records written parts attempt one settled told);
        last = last-quiet set tick refusing parts one other;
        box = box-end tick over refusing lies parts one other box box_so;
      }

  -- a reception that a first frame began ends
  pub ends-so : (over : ℕ) (old : RxState) (busy : Reception) (result : SessionResult) (m : RxDid) (lies : Option Meaning) (seen : List Seen) (records : List SessionRecord) (written : List Written) (earlier : List (Cut Seen)) (attempt : Cut Seen) (own : List ControlLeft) (parts : List Received) →
      attempts_in set.functional seen ≡ earlier ++ attempt ∷ [] → is_overflow result ≡ false → (old.refusing ≡ None) ⊎ (own ≡ []) → IsSettled full set m.tick over (starts_of (attempts_in set.functional seen)) attempt (received set busy attempt own result m.tick) →
      BoxSo set m.tick over old.refusing (box_then (revoking busy.wait) lies) parts → AreTold full set shape m.tick over (starts_of (attempts_in set.functional seen)) earlier records written own parts → Ends set old busy result m →
      SoFar full set shape m.tick over m.new (box_then m.act lies) seen (records ++ m.records) written
  ends-so over old busy result m lies seen records written earlier attempt own parts cut other none settled box told row =
      finish over m (idle old) (revoking busy.wait) lies seen records (ended set busy result m.tick ∷ []) written row.new row.act row.records
      (over-so m.tick over old.refusing (box_then (revoking busy.wait) lies) seen records written earlier attempt (received set busy attempt own result m.tick) parts cut (λ first refused. differ other refused) none settled box told)
    where
      differ : is_overflow result ≡ false → is_overflow result ≡ true → ⊥
      differ is_not is = cc

  -- a flow control is asked for
  pub asked-so : (over : ℕ) (old : RxState) (busy : Reception) (m : RxDid) (lies : Option Meaning) (seen : List Seen) (records : List SessionRecord) (written : List Written) (earlier : List (Cut Seen)) (attempt : Cut Seen) (own : List ControlLeft) (parts : List Received) →
      attempts_in set.functional seen ≡ earlier ++ attempt ∷ [] → IsFirst attempt.start.meaning → (old.refusing ≡ None) ⊎ (own ≡ []) → m.tick ≤ over → over ≤ m.tick + set.n_ar → busy.bytes ≡ length (joined (walk_of set.a attempt).pieces) →
      IsAsking full set m.tick busy attempt own → BoxSo set m.tick over old.refusing (box_then (revoking busy.wait) lies) parts → AreTold full set shape m.tick over (starts_of (attempts_in set.functional seen)) earlier records written own parts → Grants set old busy m →
      SoFar full set shape m.tick over m.new (box_then m.act lies) seen (records ++ m.records) written
  asked-so over old busy m lies seen records written earlier attempt own parts cut first none from by sum asks box told (NoneReads room readers unread row) =
      ends-so over old busy NoReaders (record m { calls = row.rest }) lies seen records written earlier attempt own parts cut refl none
      (settles full set m.tick over (starts_of (attempts_in set.functional seen)) busy attempt asks.start asks.frames own NoReaders refl refl from first asks.under (asked-unread full set m.tick busy attempt own sum asks)) box told row.row
  asked-so over old busy m lies seen records written earlier attempt own parts cut first none from by sum asks box told (SomeRead room readers some row) = answers (record m { calls = row.rest }) refl row.row
    where
      goes : (n : RxDid) → n.tick ≡ m.tick → (control : Meaning) (on : Reception) → n.act ≡ Offers control → n.records ≡ [] → n.new ≡ record old { busy = Some on; refusing = None } → IsGoing full set n.tick over (Some control) on attempt own →
          SoFar full set shape n.tick over n.new (box_then n.act lies) seen (records ++ n.records) written
      goes n at control on act none_told new going =
          finish over n (record old { busy = Some on; refusing = None }) (Offers control) lies seen records [] written new act none_told
          (subst (λ (r : List SessionRecord). BusySo full set shape n.tick over None (Some control) on seen r written) (sym (append-nil records)) (record {
            earlier = earlier;
            attempt = attempt;
            own = own;
            parts = parts;
            cut = cut;
            told = subst (λ (t : ℕ). AreTold full set shape t over (starts_of (attempts_in set.functional seen)) earlier records written own parts) (sym at) told;
            first = first;
            none = refl;
            going = going;
          }))

      answers : (n : RxDid) → n.tick ≡ m.tick → Answers set old busy room n → SoFar full set shape n.tick over n.new (box_then n.act lies) seen (records ++ n.records) written
      answers n at (All is sends) =
          goes n at (continue_to_send set 0) _ sends.act sends.records sends.new (grants-all full set n.tick over room busy attempt own is (omega (arith, at, by)) (subst (λ (t : ℕ). IsAsking full set t busy attempt own) (sym at) asks))
      answers n at (Block frames is sends) =
          goes n at (continue_to_send set frames) _ sends.act sends.records sends.new (grants-block full set n.tick over room frames busy attempt own is (omega (arith, at, by)) (subst (λ (t : ℕ). IsAsking full set t busy attempt own) (sym at) asks))
      answers n at (Wait is below sends) =
          goes n at ask_to_wait _ sends.act sends.records sends.new (grants-none full set n.tick over busy attempt own below (omega (arith, at, by)) (subst (λ (t : ℕ). IsAsking full set t busy attempt own) (sym at) asks))
      answers n at (TooManyWaits is most ends) =
          ends-so over old busy WaitOver n lies seen records written earlier attempt own parts cut refl none
          (subst (λ (t : ℕ). IsSettled full set t over (starts_of (attempts_in set.functional seen)) attempt (received set busy attempt own WaitOver t)) (sym at)
          (settles full set m.tick over (starts_of (attempts_in set.functional seen)) busy attempt asks.start asks.frames own WaitOver refl refl from first asks.under (asked-over full set m.tick busy attempt own sum most asks)))
          (subst (λ (t : ℕ). BoxSo set t over old.refusing (box_then (revoking busy.wait) lies) parts) (sym at) box)
          (subst (λ (t : ℕ). AreTold full set shape t over (starts_of (attempts_in set.functional seen)) earlier records written own parts) (sym at) told) ends
