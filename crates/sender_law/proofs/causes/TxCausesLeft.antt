-- A destination's session after a tick's work: its frame left, or none did, and no limit is passed in that tick.
use Rattle.std.proofs.Common.{◌≡◌, ℕ, ◌+◌, ◌-◌, ◌<◌, ◌≤◌, Bool, true, false, Option, List, [], ◌∷◌, ◌++◌, length, refl, ap, sym, subst, ◌∙◌, arith, inl, inr, length-append}
use Rattle.flow_plan.specs.Pace.{Awaits, Control, May, Pace, Refused, after_frames, answered_all, block_of, gone_on}
use Rattle.flow_plan.proofs.Paces.{after-next, awaits-stays, gone-next, may-stays}
use Rattle.tp_sender.specs.declared.transmission.Phase.{Phase}
use Rattle.tp_sender.specs.declared.transmission.Phase.TheVariants.{Start, Bytes, Box, Fc, Gap}
use Rattle.tp_unit.specs.Box.{Answer}
use Rattle.tp_sender.specs.State.{Transmission, TxDid}
use Rattle.std.specs.List.{AllByRecursion}
use Rattle.std.proofs.lemmas.Bool.{cases_lt}
use Rattle.hub_core.specs.View.{Event}
use Rattle.hub_core.specs.declared.record.DestResult.TheVariants.{Sent}
use Rattle.tp_sender.specs.declared.set.TxSet.{TxSet}
use Rattle.tp_sender.specs.Table.{FrameLeft, all_sent, in_phase, next_part, next_sent}
use Rattle.tp_sender.specs.Table.{BlockLeft, FirstLeft, LastLeft, NextLeft}
use Rattle.tp_unit.specs.Shape.{IsShape}
use Rattle.tp_unit.specs.Unit.{Keeps}
use Rattle.sender_law.specs.Pacing.{control_of}
use Rattle.sender_law.specs.Runs.{HasLimits}
use Rattle.sender_law.specs.TransmissionCauses.{AwaitsSince, IsInTime, IsLate, IsRefused, LeftIn, left_up_to}
use Rattle.gw_base.proofs.Lists.{all-map, all-push, all-weaker}
use Rattle.sender_law.proofs.causes.TxCausesLists.{Splits, asked, asked-so-far, last_of-next, left-all, left-next, pace-now, pace_by}
use Rattle.sender_law.proofs.causes.TxCausesSteps.{Comes, Counted, InBoxNow, InGapNow, MayFrom, Opens, PhaseIn, Stands, Turned, Waits, Goes, ends}
use Rattle.sender_law.proofs.transfers.TxSteps.{part-some}

-- what a transmission of which frames left is at in a tick, and that it passes no limit there
data IsKept (full : ℕ → Bool) (tx : TxSet) (now : ℕ) (pace : Pace) : Type 0 where
  MayGo : (from gap : ℕ) → (more : Option ℕ) → pace ≡ May from gap more → (full now ≡ false → from + tx.n_cs ≤ now → ⊥) → IsKept full tx now pace
  IsAwaited : (left since : ℕ) → pace ≡ Awaits left since → (since + tx.n_bs ≡ now → ⊥) → IsKept full tx now pace

kept-by : (full : ℕ → Bool) (tx : TxSet) (all so_far : List Answer) (now begin first : ℕ) (later : List ℕ) (block gap since : ℕ) (phase : Phase) → since ≤ now → PhaseIn full tx all so_far (now + 1) (now + 1) begin (first ∷ later) block gap since phase → IsKept full tx now (pace_by tx all so_far first later)
kept-by full tx all so_far now begin first later block gap since Start le is = let no : first ∷ later ≡ [] = is.0 in cc
kept-by full tx all so_far now begin first later block gap since Bytes le is = MayGo since gap (block_of block) is.0.1 (λ free late. omega (arith, late, is.1))
kept-by full tx all so_far now begin first later block gap since Box le is =
    MayGo is.may.from gap (block_of block) is.may.may.1 (λ free late. let busy : full now ≡ true = is.blocked now le (omega arith) in let no : true ≡ false = sym busy ∙ free in cc)
kept-by full tx all so_far now begin first later block gap since Fc le is =
    let both : first ∷ later ≡ is.first ∷ is.later = is.are in
    let one : first ≡ is.first = cc in
    let others : later ≡ is.later = cc in
    let P : ℕ → List ℕ → Type 0 = λ f l. pace_by tx all so_far f l ≡ Awaits is.left since in
    let Q : ℕ → Type 0 = λ f. P f later in
    IsAwaited is.left since (subst Q (sym one) (subst (P is.first) (sym others) is.pace)) (λ due. omega (arith, due, is.in_time))
kept-by full tx all so_far now begin first later block gap since (Gap until) le is = MayGo until.0 gap (block_of block) is.may.1 (λ free late. omega (arith, late, is.in_time))

-- so nothing is passed over in it
in-time-by : (full : ℕ → Bool) (tx : TxSet) (all so_far : List Answer) (now begin first : ℕ) (later : List ℕ) → Splits all so_far now (now + 1) → left_up_to now (first ∷ later) ≡ first ∷ later → IsKept full tx now (pace_by tx all so_far first later) → IsInTime full tx (asked tx all) begin (first ∷ later) now
in-time-by full tx all so_far now begin first later splits kept (MayGo from gap more is out) =
    let pace = pace-now tx all so_far now first later splits ∙ is in
    let R : List ℕ → Type 0 = λ l. (at status : ℕ) → IsRefused (asked tx all) l now at status → ⊥ in
    let L : List ℕ → Type 0 = λ l. 0 < length l → IsLate tx.n_cs (asked tx all) begin l now → ⊥ in
    record {
      accepted = subst R (sym kept) (λ at status refused. let no : May from gap more ≡ Refused at status = sym pace ∙ refused in cc);
      answered = λ overdue. let A : List ℕ → Type 0 = λ l. AwaitsSince (asked tx all) l now overdue.since in
          let awaits = subst A kept overdue.awaits in
          let no : May from gap more ≡ Awaits awaits.0 overdue.since = sym pace ∙ awaits.1 in cc;
      leaves = λ free. subst L (sym kept) (λ some late. let same : May from gap more ≡ May late.from late.allowed.0 late.allowed.1 = sym pace ∙ late.allowed.2 in let one : from ≡ late.from = cc in out free (omega (arith, late.late, one)));
    }
in-time-by full tx all so_far now begin first later splits kept (IsAwaited left since is out) =
    let pace = pace-now tx all so_far now first later splits ∙ is in
    let R : List ℕ → Type 0 = λ l. (at status : ℕ) → IsRefused (asked tx all) l now at status → ⊥ in
    let L : List ℕ → Type 0 = λ l. 0 < length l → IsLate tx.n_cs (asked tx all) begin l now → ⊥ in
    record {
      accepted = subst R (sym kept) (λ at status refused. let no : Awaits left since ≡ Refused at status = sym pace ∙ refused in cc);
      answered = λ overdue. let A : List ℕ → Type 0 = λ l. AwaitsSince (asked tx all) l now overdue.since in
          let awaits = subst A kept overdue.awaits in
          let same : Awaits left since ≡ Awaits awaits.0 overdue.since = sym pace ∙ awaits.1 in
          let one : since ≡ overdue.since = cc in
          out (omega (arith, overdue.due, one));
      leaves = λ free. subst L (sym kept) (λ some late. let no : Awaits left since ≡ May late.from late.allowed.0 late.allowed.1 = sym pace ∙ late.allowed.2 in cc);
    }

in-time-now : (full : ℕ → Bool) (tx : TxSet) (all so_far : List Answer) (now begin : ℕ) (ticks : List ℕ) (block gap since : ℕ) (phase : Phase) → Splits all so_far now (now + 1) → since ≤ now → AllByRecursion (λ (at : ℕ). at ≤ now) ticks →
    PhaseIn full tx all so_far (now + 1) (now + 1) begin ticks block gap since phase → IsInTime full tx (asked tx all) begin ticks now
in-time-now full tx all so_far now begin [] block gap since phase splits le past is = record { accepted = λ at status refused. refused; answered = λ overdue. overdue.awaits; leaves = λ free some late. omega (arith, some) }
in-time-now full tx all so_far now begin (first ∷ later) block gap since phase splits le past is =
    in-time-by full tx all so_far now begin first later splits (left-all now (first ∷ later) past) (kept-by full tx all so_far now begin first later block gap since phase le is)

-- a tick's work is done
pub after : (full : ℕ → Bool) (tx : TxSet) (all so_far : List Answer) (now : ℕ) (ticks : List ℕ) (begin sent block gap since : ℕ) (phase : Phase) → Splits all so_far now (now + 1) → begin ≤ now → since ≤ now → Counted sent ticks → AllByRecursion (λ (at : ℕ). at ≤ now) ticks →
    ((tick : ℕ) → begin ≤ tick → tick < now → IsInTime full tx (asked tx all) begin ticks tick) → PhaseIn full tx all so_far (now + 1) (now + 1) begin ticks block gap since phase → Stands full tx all (now + 1) ticks begin sent since
after full tx all so_far now ticks begin sent block gap since phase splits began le counted past in_time is =
    let here : IsInTime full tx (asked tx all) begin ticks now = in-time-now full tx all so_far now begin ticks block gap since phase splits le past is in
    record {
      began = omega (arith, began);
      waits = omega (arith, le);
      counted = counted;
      past = all-weaker (λ (at : ℕ). at ≤ now) (λ (at : ℕ). at < now + 1) ticks (λ at lt. omega (arith, lt)) past;
      in_time = λ tick from lt. elim (cases_lt tick now) [
        | inl sooner ↦ in_time tick from sooner
        | inr ge ↦ let same : tick ≡ now = omega (arith, ge, lt) in let P : ℕ → Type 0 = λ t. IsInTime full tx (asked tx all) begin ticks t in subst P (sym same) here
      ];
    }

below-now : (ticks : List ℕ) (now : ℕ) → AllByRecursion (λ (at : ℕ). at < now) ticks → AllByRecursion (λ (at : ℕ). at ≤ now) ticks
below-now ticks now past = all-weaker (λ (at : ℕ). at < now) (λ (at : ℕ). at ≤ now) ticks (λ at lt. omega (arith, lt)) past

-- no frame left: none lay in the box, or the bus was full for it
stays-by : (full : ℕ → Bool) (tx : TxSet) (all so_far : List Answer) (now begin : ℕ) (ticks : List ℕ) (block gap since : ℕ) (phase : Phase) → (phase ≡ Box → full now ≡ true) →
    PhaseIn full tx all so_far (now + 1) now begin ticks block gap since phase → PhaseIn full tx all so_far (now + 1) (now + 1) begin ticks block gap since phase
stays-by full tx all so_far now begin ticks block gap since Start busy is = is
stays-by full tx all so_far now begin ticks block gap since Bytes busy is = is
stays-by full tx all so_far now begin ticks block gap since Box busy is = record {
  may = is.may;
  blocked = λ tick from lt. elim (cases_lt tick now) [
    | inl sooner ↦ is.blocked tick from sooner
    | inr ge ↦ let same : tick ≡ now = omega (arith, ge, lt) in ap full same ∙ busy refl
  ];
  in_time = is.in_time;
}
stays-by full tx all so_far now begin ticks block gap since Fc busy is = is
stays-by full tx all so_far now begin ticks block gap since (Gap until) busy is = is

pub stays : (full : ℕ → Bool) (tx : TxSet) (all so_far : List Answer) (now : ℕ) (ticks : List ℕ) (s : Transmission) → Splits all so_far now (now + 1) → (s.phase ≡ Box → full now ≡ true) → Turned full tx all so_far now ticks s → Opens full tx all so_far (now + 1) ticks s
stays full tx all so_far now ticks s splits busy turned =
    let opens = stays-by full tx all so_far now s.begin ticks s.block s.gap s.since s.phase busy turned.phase in
    record {
      stands = after full tx all so_far now ticks s.begin s.sent s.block s.gap s.since s.phase splits turned.stands.began turned.stands.waits turned.stands.counted (below-now ticks now turned.stands.past) turned.stands.in_time opens;
      phase = opens;
    }

-- a frame left now
still-in-time : (full : ℕ → Bool) (tx : TxSet) (all : List Answer) (now begin : ℕ) (ticks : List ℕ) → ((tick : ℕ) → begin ≤ tick → tick < now → IsInTime full tx (asked tx all) begin ticks tick) → (tick : ℕ) → begin ≤ tick → tick < now → IsInTime full tx (asked tx all) begin (ticks ++ now ∷ []) tick
still-in-time full tx all now begin ticks in_time tick from lt =
    let kept : left_up_to tick (ticks ++ now ∷ []) ≡ left_up_to tick ticks = left-next tick ticks now lt in
    let old : IsInTime full tx (asked tx all) begin ticks tick = in_time tick from lt in
    record {
      accepted = let R : List ℕ → Type 0 = λ l. (at status : ℕ) → IsRefused (asked tx all) l tick at status → ⊥ in subst R (sym kept) old.accepted;
      answered = λ overdue. let T : List ℕ → Type 0 = λ l. AwaitsSince (asked tx all) l tick overdue.since in old.answered (record { since = overdue.since; awaits = subst T kept overdue.awaits; due = overdue.due });
      leaves = let L : List ℕ → Type 0 = λ l. full tick ≡ false → 0 < length l → IsLate tx.n_cs (asked tx all) begin l tick → ⊥ in subst L (sym kept) old.leaves;
    }

left-now : (ticks : List ℕ) (now : ℕ) → LeftIn (ticks ++ now ∷ []) now
left-now [] now = refl
left-now (first ∷ later) now = last_of-next first later now

some-next : (ticks : List ℕ) (now : ℕ) → 0 < length (ticks ++ now ∷ [])
some-next ticks now = omega (arith, length-append ticks (now ∷ []))

counted-next : (sent : ℕ) (ticks : List ℕ) (now : ℕ) → 0 < sent → Counted sent (ticks ++ now ∷ [])
counted-next sent ticks now some = record { none = λ none. absurd (omega (arith, some, none)); some = λ _. some-next ticks now }

-- the flow controls so far, all of them up to now, answer no frame of now
asked-past : (tx : TxSet) (now : ℕ) (answers : List Answer) → AllByRecursion (λ (a : Answer). a.tick ≤ now) answers → AllByRecursion (λ (c : Control). c.tick ≤ now) (asked tx answers)
asked-past tx now answers past = all-map (λ (c : Control). c.tick ≤ now) (control_of tx.period) answers past

-- what a transmission is at with one more frame
record Onward (tx : TxSet) (all so_far : List Answer) (now : ℕ) (ticks : List ℕ) (block gap : ℕ) : Type 0 where
  first : ℕ
  later : List ℕ
  are : ticks ++ now ∷ [] ≡ first ∷ later
  from : ℕ
  gapped : 1 ≤ gap
  pace : pace_by tx all so_far first later ≡ answered_all (gone_on (May from gap (block_of block)) now) (asked tx so_far)

onward : (tx : TxSet) (all so_far : List Answer) (now begin : ℕ) (ticks : List ℕ) (block gap from : ℕ) → Splits all so_far now (now + 1) → 0 < length ticks → MayFrom tx all so_far begin ticks block gap from → Onward tx all so_far now ticks block gap
onward tx all so_far now begin [] block gap from splits some may = absurd (omega (arith, some))
onward tx all so_far now begin (first ∷ later) block gap from splits some may =
    let q : Pace = after_frames (asked tx all) (Awaits first first) later in
    record {
      first = first;
      later = later ++ now ∷ [];
      are = refl;
      from = from;
      pace = ap (λ p. answered_all p (asked tx so_far)) (after-next (asked tx all) (Awaits first first) later now ∙ ap (λ l. gone_on (answered_all q l) now) (asked-so-far tx all so_far now splits) ∙ ap (λ p. gone_on p now) may.1);
      gapped = may.0;
    }

-- the gap begins
may-onward : (tx : TxSet) (all so_far : List Answer) (now begin : ℕ) (ticks : List ℕ) (block gap : ℕ) → (block ≡ 1 → ⊥) → Onward tx all so_far now ticks block gap → MayFrom tx all so_far begin (ticks ++ now ∷ []) (block - 1) gap (now + gap)
may-onward tx all so_far now begin ticks block gap out on =
    let P : List ℕ → Type 0 = λ l. MayFrom tx all so_far begin l (block - 1) gap (now + gap) in
    subst P (sym on.are) (on.gapped, on.pace ∙ ap (λ p. answered_all p (asked tx so_far)) (gone-next on.from gap now block out) ∙ may-stays (now + gap) gap (block_of (block - 1)) (asked tx so_far))

-- a flow control is awaited again
waits-onward : (tx : TxSet) (all so_far : List Answer) (now : ℕ) (ticks : List ℕ) (block gap : ℕ) → HasLimits tx → Splits all so_far now (now + 1) → block ≡ 1 → Onward tx all so_far now ticks block gap → Waits tx all so_far (now + 1) (ticks ++ now ∷ []) now
waits-onward tx all so_far now ticks block gap limits splits one on = record {
  first = on.first;
  later = on.later;
  are = on.are;
  left = now;
  pace = on.pace ∙ ap (λ n. answered_all (gone_on (May on.from gap (block_of n)) now) (asked tx so_far)) one ∙ awaits-stays now now (asked tx so_far) (asked-past tx now so_far splits.past);
  before = omega arith;
  in_time = omega (arith, limits.n_bs);
}

-- the frame that lay in the box was allowed
in-box : (full : ℕ → Bool) (tx : TxSet) (all so_far : List Answer) (now : ℕ) (ticks : List ℕ) (s : Transmission) → s.phase ≡ Box → Turned full tx all so_far now ticks s → InBoxNow full tx all so_far (now + 1) now s.begin ticks s.block s.gap s.since
in-box full tx all so_far now ticks s box turned = let P : Phase → Type 0 = λ p. PhaseIn full tx all so_far (now + 1) now s.begin ticks s.block s.gap s.since p in subst P box turned.phase

pub left : (full : ℕ → Bool) (tx : TxSet) (all so_far : List Answer) (last : ℕ) (ticks : List ℕ) (s : Transmission) (calls : List Event) (did : TxDid) → IsShape tx.shape → HasLimits tx → Splits all so_far did.tick (did.tick + 1) → s.phase ≡ Box → s.sent < s.len →
    Turned full tx all so_far did.tick ticks s → FrameLeft tx s calls did → Comes full tx all last (Opens full tx all so_far (did.tick + 1)) (ticks ++ did.tick ∷ []) did.records did.new.live
left full tx all so_far last ticks s calls did sound limits splits phase unfinished turned (LastLeft whole row) =
    ends full tx all last (Opens full tx all so_far (did.tick + 1)) (ticks ++ did.tick ∷ []) (all_sent s) Keeps Sent calls did row (left-now ticks did.tick)
    (counted-next s.len ticks did.tick (omega (arith, unfinished))) (still-in-time full tx all did.tick s.begin ticks turned.stands.in_time)
left full tx all so_far last ticks s calls did sound limits splits phase unfinished turned (FirstLeft none more row) =
    let none_left : ticks ≡ [] = turned.stands.counted.none none in
    let opens : Waits tx all so_far (did.tick + 1) (ticks ++ did.tick ∷ []) did.tick = record {
      first = did.tick;
      later = [];
      are = ap (λ l. l ++ did.tick ∷ []) none_left;
      left = did.tick;
      pace = awaits-stays did.tick did.tick (asked tx so_far) (asked-past tx did.tick so_far splits.past);
      before = omega arith;
      in_time = omega (arith, limits.n_bs);
    } in
    Goes (in_phase Fc did.tick (record s { sent = next_part tx s })) row.records row.live (record {
      stands = after full tx all so_far did.tick (ticks ++ did.tick ∷ []) s.begin (next_part tx s) s.block s.gap did.tick Fc splits turned.stands.began (omega arith) (counted-next (next_part tx s) ticks did.tick (part-some tx.shape s.len s.sent sound unfinished))
          (all-push (λ (at : ℕ). at ≤ did.tick) ticks did.tick (below-now ticks did.tick turned.stands.past) (omega arith)) (still-in-time full tx all did.tick s.begin ticks turned.stands.in_time) opens;
      phase = opens;
    })
left full tx all so_far last ticks s calls did sound limits splits phase unfinished turned (BlockLeft some more one row) =
    let box = in-box full tx all so_far did.tick ticks s phase turned in
    let on : Onward tx all so_far did.tick ticks s.block s.gap = onward tx all so_far did.tick s.begin ticks s.block s.gap box.may.from splits (turned.stands.counted.some some) box.may.may in
    let opens : Waits tx all so_far (did.tick + 1) (ticks ++ did.tick ∷ []) did.tick = waits-onward tx all so_far did.tick ticks s.block s.gap limits splits one on in
    Goes (in_phase Fc did.tick (next_sent tx s)) row.records row.live (record {
      stands = after full tx all so_far did.tick (ticks ++ did.tick ∷ []) s.begin (s.sent + next_part tx s) (s.block - 1) s.gap did.tick Fc splits turned.stands.began (omega arith) (counted-next (s.sent + next_part tx s) ticks did.tick (omega (arith, some)))
          (all-push (λ (at : ℕ). at ≤ did.tick) ticks did.tick (below-now ticks did.tick turned.stands.past) (omega arith)) (still-in-time full tx all did.tick s.begin ticks turned.stands.in_time) opens;
      phase = opens;
    })
left full tx all so_far last ticks s calls did sound limits splits phase unfinished turned (NextLeft some more out row) =
    let box = in-box full tx all so_far did.tick ticks s phase turned in
    let on : Onward tx all so_far did.tick ticks s.block s.gap = onward tx all so_far did.tick s.begin ticks s.block s.gap box.may.from splits (turned.stands.counted.some some) box.may.may in
    let opens : InGapNow tx all so_far (did.tick + 1) s.begin (ticks ++ did.tick ∷ []) (s.block - 1) s.gap did.tick (did.tick + s.gap) = record {
      may = may-onward tx all so_far did.tick s.begin ticks s.block s.gap out on;
      some = some-next ticks did.tick;
      last = left-now ticks did.tick;
      in_time = omega (arith, on.gapped);
    } in
    Goes (in_phase (Gap (record { 0 = did.tick + s.gap })) did.tick (next_sent tx s)) row.records row.live (record {
      stands = after full tx all so_far did.tick (ticks ++ did.tick ∷ []) s.begin (s.sent + next_part tx s) (s.block - 1) s.gap did.tick (Gap (record { 0 = did.tick + s.gap })) splits turned.stands.began (omega arith)
          (counted-next (s.sent + next_part tx s) ticks did.tick (omega (arith, some)))
          (all-push (λ (at : ℕ). at ≤ did.tick) ticks did.tick (below-now ticks did.tick turned.stands.past) (omega arith)) (still-in-time full tx all did.tick s.begin ticks turned.stands.in_time) opens;
      phase = opens;
    })
