-- Where all stands, both machines can be told.
use Rattle.std.proofs.Common.{◌≡◌, ℕ, ◌<◌, ◌≤◌, ◌&&◌, nat_lt, Bool, true, false, List, length, refl, sym, subst, ap, ◌∙◌, arith}
use Rattle.tp_unit.specs.Box.{Answer}
use Rattle.tp_sender.specs.Port.{Knows as KnowsPort}
use Rattle.tp_receiver.specs.Port.{CanTake, Knows}
use Rattle.tp_receiver.specs.State.{RxEvent, Came, RxTurn}
use Rattle.std.proofs.lemmas.Bool.Decides.{nat_tests}
use Rattle.can_frame.specs.Frame.{CanFrame, IsLawful}
use Rattle.can_frame.specs.Length.{length_fits}
use Rattle.gw_base.specs.declared.numbers.GroupNo.{GroupNo}
use Rattle.gw_base.specs.declared.numbers.PathNo.{PathNo}
use Rattle.hub_core.specs.View.{View}
use Rattle.tp_attempts.specs.Seen.{Seen}
use Rattle.tp_receiver.specs.declared.set.RxSet.{RxSet}
use Rattle.tp_sender.specs.State.{HasFrame, state_of, TxTurn}
use Rattle.tp_sender.specs.declared.event.TxEvent.{TxEvent}
use Rattle.tp_sender.specs.declared.event.TxEvent.TheVariants.{Left}
use Rattle.tp_sender.specs.declared.set.TxSet.{TxSet}
use Rattle.tp_unit.specs.Reading.{unit_of}
use Rattle.gw_run.specs.Standing.{InSource, Stands}
use Rattle.gw_run.specs.Telling.{CanTell, CanTellSender, means_in}
use Rattle.gw_run.specs.declared.gateway.Gateway.{Gateway}
use Rattle.gw_run.proofs.Same.{waits-later}

pub can-tell : (sizes : List ℕ) (g : Gateway) (t tick : ℕ) (turns : List RxTurn) (moments : List TxTurn) (view : View) (event : RxEvent) → Stands sizes g t turns moments view → t ≤ tick →
    CanTake g.receiver.set (means_in g.hub) g.receiver.next_n event → CanTell g.receiver g.hub event tick
can-tell sizes g t tick turns moments view event s by can =
    let set = s.receives.set in
    let path : g.receiver.set.path.0 ≡ 0 = ap (λ (r : RxSet). r.path.0) set ∙ g.machines.are.path in
    let group : g.receiver.set.group.0 ≡ 0 = ap (λ (r : RxSet). r.group.0) set ∙ g.machines.are.group in
    let one : length (means_in g.hub).groups ≡ 1 = ap (λ (l : List (List ℕ)). length l) s.pool.groups in
    let readers : g.receiver.set.readers ≡ 1 = ap (λ (r : RxSet). r.readers) set ∙ g.machines.are.readers in
    let P : View → Type 0 = λ v. Knows v g.receiver in
    record {
      acts = record { writes = ap (λ n. nat_lt n 64) path; most = omega (arith, readers); group = omega (arith, group, one) };
      knows = subst P (sym s.pool.view_is) s.receives.knows;
      waits = waits-later g.receiver t tick by s.receives.waits;
      can = can;
    }

lawful-most : (fd : Bool) (len : ℕ) → length_fits fd len ≡ true → len ≤ 64
lawful-most false len fits = grind (arith, nat_tests)
lawful-most true len fits = grind (arith, nat_tests)

-- a frame of the source channel
pub can-receive : (sizes : List ℕ) (g : Gateway) (seen : List Seen) (answers : List Answer) (a tick : ℕ) (frame : CanFrame) → IsLawful frame → length seen < 1000000 → g.machines.rx.a ≡ a → InSource sizes g seen answers tick →
    CanTell g.receiver g.hub (Came (length frame.bytes) (unit_of a frame)) tick
can-receive sizes g seen answers a tick frame lawful few same at =
    let s = at.stands in
    let count = ap length at.seen_is in
    let address : g.receiver.set.a ≡ a = ap (λ (r : RxSet). r.a) s.receives.set ∙ same in
    can-tell sizes g tick tick _ _ _ (Came (length frame.bytes) (unit_of a frame)) s (omega arith) (
      record { takes = omega (arith, count, s.pool.takes); spare = omega arith; number = omega (arith, count, s.receives.number) },
      record { frame = frame; size_is = refl; most = lawful-most frame.fd (length frame.bytes) lawful.len; reads = ap (λ n. unit_of n frame) address },
    )

pub can-tell-sender : (sizes : List ℕ) (g : Gateway) (t tick : ℕ) (turns : List RxTurn) (moments : List TxTurn) (view : View) (event : TxEvent) → Stands sizes g t turns moments view → t ≤ tick → tick ≤ 10000000 →
    (event ≡ Left → HasFrame (state_of g.sender).live) → CanTellSender g.sender g.hub event tick
can-tell-sender sizes g t tick turns moments view event s by low left =
    let set = s.sends.set in
    let path : g.sender.set.path.0 ≡ 0 = ap (λ (r : TxSet). r.path.0) set ∙ ap (λ (p : PathNo). p.0) g.machines.are.same_path ∙ g.machines.are.path in
    let group : g.sender.set.group.0 ≡ 0 = ap (λ (r : TxSet). r.group.0) set ∙ ap (λ (k : GroupNo). k.0) g.machines.are.same_group ∙ g.machines.are.group in
    let one : length (means_in g.hub).groups ≡ 1 = ap (λ (l : List (List ℕ)). length l) s.pool.groups in
    let dest : g.sender.set.dest.0 ≡ 0 = ap (λ (r : TxSet). r.dest.0) set ∙ g.machines.are.dest in
    let P : View → Type 0 = λ v. KnowsPort v g.sender in
    record {
      knows = subst P (sym s.pool.view_is) s.sends.knows;
      acts = record { reads = ap (λ n. nat_lt n 64 && nat_lt g.sender.set.dest.0 8) path ∙ ap (λ n. nat_lt 0 64 && nat_lt n 8) dest; group = omega (arith, group, one) };
      dest = dest;
      group = group;
      since = omega (arith, s.sends.since);
      tick_is = low;
      left = left;
    }
