-- No record of a receiver begins before the one before it ended.
use Rattle.std.proofs.Common.{◌≡◌, inl, inr, ℕ, ◌+◌, ◌≤◌, Option, Some, None, List, [], ◌∷◌, ◌++◌, refl, sym, ◌∙◌, subst, arith, append-nil}
use Rattle.std.specs.Prelude.{slice_get}
use Rattle.std.specs.List.{AllByRecursion}
use Rattle.std.proofs.lemmas.Option.{slice_get_within}
use Rattle.gw_base.proofs.Lists.{all-at, all-push, all-weaker, at-next}
use Rattle.hub_core.specs.Turns.{now_of, records_by, state_after}
use Rattle.hub_core.specs.View.{Event}
use Rattle.hub_core.specs.declared.record.SessionRecord.{SessionRecord}
use Rattle.tp_receiver.proofs.Through.{IsThrough, step-through}
use Rattle.tp_receiver.specs.Effects.{Ends, Forgets, Looks, Opens, Puts, Refuses, RxDone, RxEffect, RxStage, Waits}
use Rattle.tp_receiver.specs.Runs.{HasReceived}
use Rattle.tp_receiver.specs.State.{Reception, RxDid, RxEvent, RxState, RxTurn, rx_new}
use Rattle.tp_receiver.specs.Table.{RxStep}
use Rattle.tp_receiver.specs.declared.set.RxSet.{RxSet}

-- all records end by a tick
abbrev EndBy : ℕ → List SessionRecord → Type 0
EndBy tick records = AllByRecursion (λ (told : SessionRecord). told.end.0 ≤ tick) records

-- each begins no earlier than the one before it ends
abbrev pub Follow : List SessionRecord → Type 0
Follow records = (place : ℕ) (told next : SessionRecord) → slice_get records place ≡ Some told → slice_get records (place + 1) ≡ Some next → told.end.0 ≤ next.begin.0

-- the reception in progress began no earlier than all of them ended
abbrev BeginsAfter : Option Reception → (tick : ℕ) → List SessionRecord → Type 0
BeginsAfter busy tick records = (on : Reception) → busy ≡ Some on → (on.begin ≤ tick) × EndBy on.begin records

record FollowsBy (tick : ℕ) (busy : Option Reception) (records : List SessionRecord) : Type 0 where
  follow : Follow records
  ended : EndBy tick records
  begins : BeginsAfter busy tick records

follow-push : (records : List SessionRecord) (told : SessionRecord) → EndBy told.begin.0 records → Follow records → Follow (records ++ told ∷ [])
follow-push records told by so place one next there after = elim (at-next records told next (place + 1) after) [
  | inl old ↦ elim (at-next records told one place there) [ inl before ↦ so place one next before old | inr now ↦ absurd (omega (arith, now.0, slice_get_within records (place + 1) next old)) ]
  | inr new ↦ elim (at-next records told one place there) [
    | inl before ↦ subst (λ (t : SessionRecord). one.end.0 ≤ t.begin.0) new.1 (all-at (λ (t : SessionRecord). t.end.0 ≤ told.begin.0) records place one by before)
    | inr now ↦ absurd (omega (arith, now.0, new.0))
  ]
]

end-later : (before tick : ℕ) (records : List SessionRecord) → before ≤ tick → EndBy before records → EndBy tick records
end-later before tick records le all = all-weaker (λ (told : SessionRecord). told.end.0 ≤ before) (λ (told : SessionRecord). told.end.0 ≤ tick) records (λ told by. omega (arith, by, le)) all

-- a record more, of this tick, and no reception in progress
tells : (tick : ℕ) (busy : Option Reception) (records : List SessionRecord) (told : SessionRecord) → busy ≡ None → told.end.0 ≡ tick → told.begin.0 ≤ tick → EndBy told.begin.0 records → FollowsBy tick busy records → FollowsBy tick busy (records ++ told ∷ [])
tells tick busy records told none end begin by so = record {
  follow = follow-push records told by so.follow;
  ended = all-push (λ (t : SessionRecord). t.end.0 ≤ tick) records told so.ended (omega (arith, end));
  begins = λ on is. let clash : None ≡ Some on = sym none ∙ is in cc;
}

-- the same, with a reception that began as another one did
goes : (tick : ℕ) (old new : Option Reception) (records more : List SessionRecord) → more ≡ [] → ((on : Reception) → new ≡ Some on → (was : Reception) × (old ≡ Some was) × (on.begin ≡ was.begin)) → FollowsBy tick old records → FollowsBy tick new (records ++ more)
goes tick old new records more none from so = rw (none, append-nil) (record {
  follow = so.follow;
  ended = so.ended;
  begins = λ on is. let was = from on is in let so_far = so.begins was.0 was.1 in (omega (arith, was.2, so_far.0), subst (λ (t : ℕ). EndBy t records) (sym was.2) so_far.1);
})

follow-effect : (set : RxSet) (event : RxEvent) (tick : ℕ) (old : RxStage) (done : RxDone) (calls : List Event) (records : List SessionRecord) → RxEffect set event tick old done → FollowsBy tick old.state.busy records → FollowsBy tick done.new.state.busy (records ++ done.records)
follow-effect set event tick old done calls records (Refuses e) so =
    rw (e.records, e.new) (tells tick old.state.busy records _ e.of.idle refl (omega arith) so.ended so)
follow-effect set event tick old done calls records (Opens e) so = rw (e.records, e.new, append-nil) (record {
  follow = so.follow;
  ended = so.ended;
  begins = λ on is. let begin : tick ≡ on.begin = cc in (omega (arith, begin), subst (λ (t : ℕ). EndBy t records) begin so.ended);
})
follow-effect set event tick old done calls records (Looks e) so = rw e.new (goes tick old.state.busy old.state.busy records done.records e.records (λ on is. (on, is, refl)) so)
follow-effect set event tick old done calls records (Puts e) so = rw e.new (goes tick old.state.busy _ records done.records e.records (λ on is. (e.busy, e.was, let same : e.busy.begin ≡ on.begin = cc in sym same)) so)
follow-effect set event tick old done calls records (Waits e) so = rw e.new (goes tick old.state.busy _ records done.records e.records (λ on is. (e.busy, e.was, let same : e.busy.begin ≡ on.begin = cc in sym same)) so)
follow-effect set event tick old done calls records (Forgets e) so = rw e.new (goes tick old.state.busy old.state.busy records done.records e.records (λ on is. (on, is, refl)) so)
follow-effect set event tick old done calls records (Ends e) so =
    let so_far = so.begins e.busy e.was in
    rw (e.records, e.new) (record {
      follow = follow-push records _ so_far.1 so.follow;
      ended = all-push (λ (t : SessionRecord). t.end.0 ≤ tick) records _ so.ended (omega arith);
      begins = λ on is. cc;
    })

follow-step : (set : RxSet) (old : RxState) (event : RxEvent) (m : RxDid) (records : List SessionRecord) → RxStep set old event m → FollowsBy m.tick old.busy records → FollowsBy m.tick m.new.busy (records ++ m.records)
follow-step set old event m records row so =
    let by : IsThrough set event m (λ last. FollowsBy m.tick last.state.busy (records ++ m.records)) =
    step-through set old event m (λ stage calls told. FollowsBy m.tick stage.state.busy told) (λ old done calls told effect is. follow-effect set event m.tick old done calls told effect is) row [] records so in
    subst (λ (s : RxState). FollowsBy m.tick s.busy (records ++ m.records)) (sym by.state) by.holds

follow-later : (before tick : ℕ) (busy : Option Reception) (records : List SessionRecord) → before ≤ tick → FollowsBy before busy records → FollowsBy tick busy records
follow-later before tick busy records le so = record { follow = so.follow; ended = end-later before tick records le so.ended; begins = λ on is. let so_far = so.begins on is in (omega (arith, so_far.0, le), so_far.1) }

follows-by : (set : RxSet) (turns : List RxTurn) → HasReceived set turns → FollowsBy (now_of turns) (state_after rx_new turns).busy (records_by turns)
follows-by set [] happened = record { follow = λ place told next there. cc; ended = tt; begins = λ on is. cc }
follows-by set (turn ∷ earlier) happened = follow-step set (state_after rx_new earlier) turn.event turn.did (records_by earlier) happened.1 (follow-later (now_of earlier) turn.did.tick (state_after rx_new earlier).busy (records_by earlier) happened.0 (follows-by set earlier happened.2))

pub records-follow : (set : RxSet) (turns : List RxTurn) → HasReceived set turns → Follow (records_by turns)
records-follow set turns happened = (follows-by set turns happened).follow
