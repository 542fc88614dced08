-- Each work of the loop is a window of one tick, and after it the hub's view is what both parties did up to then.
use Rattle.std.proofs.Common.{◌≡◌, ◌⊎◌, inl, inr, ℕ, ◌+◌, ◌<◌, ◌≤◌, zero, suc, true, false, cond, List, [], ◌∷◌, ◌++◌, refl, ap, sym, ◌∙◌, subst, arith, append_assoc}
use Rattle.std.specs.Prelude.{nat_lt}
use Rattle.std.specs.List.{AllByRecursion}
use Rattle.std.proofs.lemmas.Bool.Decides.{nat_tests}
use Rattle.gw_base.proofs.Lists.{all-join, all-weaker}
use Rattle.hub_core.proofs.Fresh.{ShowsPut, are-fresh-lower}
use Rattle.hub_core.proofs.Later.{rise-grows, shows-grows, turns-fresh}
use Rattle.hub_core.specs.Floors.{floors_of}
use Rattle.hub_core.proofs.Turns.{calls-append, happened-front}
use Rattle.hub_core.specs.Turns.{Part, calls_by, turns_of as turns_of_parts}
use Rattle.hub_core.specs.View.{Change, View}
use Rattle.receiver_law.specs.RxRun.{RxRun}
use Rattle.sender_law.specs.Runs.{TxRun}
use Rattle.tp_receiver.specs.Runs.{HasReceived}
use Rattle.tp_receiver.specs.State.{RxTurn}
use Rattle.tp_sender.specs.Runs.{HasSent}
use Rattle.tp_sender.specs.State.{TxTurn}
use Rattle.gw_law.proofs.runs.OwnCalls.{reads-fresh, received-writes, sent-reads, writes-fresh}
use Rattle.gw_law.specs.Deeds.{AreFreshAfter, AreWindows, Deeds, IsJoined, IsMadeBy, IsMadeIn, IsWindow, LiesIn, LiesWithin, StandsIn, Window, before, over_at, own_view, view_at}
use Rattle.gw_run.specs.Works.{AreTicks, IsTick, Work, moments_of, tick_after, turns_of, view_between, view_of}
use Rattle.gw_run.proofs.works.Joined.{either-of, made-in, only-path}
use Rattle.gw_run.proofs.works.RxParts.{parts_of, rx_run, turns-same}
use Rattle.gw_run.proofs.works.SerialRun.{SerialRun}
use Rattle.gw_run.proofs.works.TxParts.{parts-turns, tx_parts, tx_run}
use Rattle.gw_run.proofs.works.Wholes.{readings-own, sessions-own, readings-turned}

-- the machines of the run
abbrev pub deeds_of : SerialRun → Deeds
deeds_of o = record { receivers = rx_run o ∷ []; senders = tx_run o ∷ [] }

abbrev pub window_of : Work → List Work → Window
window_of work earlier = record { from = work.tick; to = work.tick + 1; view = view_of (work ∷ earlier) }

abbrev pub windows_of : List Work → List Window
windows_of [] = []
windows_of (work ∷ earlier) = window_of work earlier ∷ windows_of earlier

-- ticks rise
late : (sizes : List ℕ) (bound : ℕ) (later front : List Work) → AreTicks sizes (later ++ front) → bound ≤ tick_after front → AllByRecursion (λ (w : Work). bound ≤ w.tick) later × (bound ≤ tick_after (later ++ front))
late sizes bound [] front ticks le = (tt, le)
late sizes bound (work ∷ later) front ticks le =
    let so = late sizes bound later front ticks.1 le in
    let here : bound ≤ work.tick = omega (arith, so.1, ticks.0.later) in
    ((here, so.0), omega (arith, here))

ticks-front : (sizes : List ℕ) (later front : List Work) → AreTicks sizes (later ++ front) → AreTicks sizes front
ticks-front sizes [] front ticks = ticks
ticks-front sizes (work ∷ later) front ticks = ticks-front sizes later front ticks.1

received-front : (o : SerialRun) (later front : List Work) → HasReceived o.rx (turns_of (later ++ front)) → HasReceived o.rx (turns_of front)
received-front o [] front happened = happened
received-front o (work ∷ later) front happened = received-front o later front (happened-front _ work.turns (turns_of (later ++ front)) happened)

sent-front : (o : SerialRun) (later front : List Work) → HasSent o.tx (moments_of (later ++ front)) → HasSent o.tx (moments_of front)
sent-front o [] front happened = happened
sent-front o (work ∷ later) front happened = sent-front o later front (happened-front _ work.moments (moments_of (later ++ front)) happened)

-- all works end before the tick after the last one
rx-all : (works : List Work) (bound : ℕ) → tick_after works ≤ bound → before bound (parts_of works) ≡ parts_of works
rx-all [] bound after = refl
rx-all (work ∷ earlier) bound after =
    let keeps : nat_lt work.tick bound ≡ true = grind (arith, nat_tests, after) in
    ap (λ b. cond b (parts_of (work ∷ earlier)) (before bound (parts_of earlier))) keeps

tx-all : (works : List Work) (bound : ℕ) → tick_after works ≤ bound → before bound (tx_parts works) ≡ tx_parts works
tx-all [] bound after = refl
tx-all (work ∷ earlier) bound after =
    let keeps : nat_lt work.tick bound ≡ true = grind (arith, nat_tests, after) in
    ap (λ b. cond b (tx_parts (work ∷ earlier)) (before bound (tx_parts earlier))) keeps

-- what the machines did below a window's end is what they did in the works up to it
rx-before : (bound : ℕ) (later earlier : List Work) (work : Work) → work.tick < bound → AllByRecursion (λ (w : Work). bound ≤ w.tick) later → before bound (parts_of (later ++ work ∷ earlier)) ≡ parts_of (work ∷ earlier)
rx-before bound [] earlier work below all =
    let keeps : nat_lt work.tick bound ≡ true = grind (arith, nat_tests, below) in
    ap (λ b. cond b (parts_of (work ∷ earlier)) (before bound (parts_of earlier))) keeps
rx-before bound (one ∷ later) earlier work below all =
    let drops : nat_lt one.tick bound ≡ false = grind (arith, nat_tests, all.0) in
    ap (λ b. cond b (parts_of (one ∷ (later ++ work ∷ earlier))) (before bound (parts_of (later ++ work ∷ earlier)))) drops ∙ rx-before bound later earlier work below all.1

tx-before : (bound : ℕ) (later earlier : List Work) (work : Work) → work.tick < bound → AllByRecursion (λ (w : Work). bound ≤ w.tick) later → before bound (tx_parts (later ++ work ∷ earlier)) ≡ tx_parts (work ∷ earlier)
tx-before bound [] earlier work below all =
    let keeps : nat_lt work.tick bound ≡ true = grind (arith, nat_tests, below) in
    ap (λ b. cond b (tx_parts (work ∷ earlier)) (before bound (tx_parts earlier))) keeps
tx-before bound (one ∷ later) earlier work below all =
    let drops : nat_lt one.tick bound ≡ false = grind (arith, nat_tests, all.0) in
    ap (λ b. cond b (tx_parts (one ∷ (later ++ work ∷ earlier))) (before bound (tx_parts (later ++ work ∷ earlier)))) drops ∙ tx-before bound later earlier work below all.1

-- a view that has what both did in some works
pub joined-in : (o : SerialRun) (received : RxRun → List RxTurn) (sent : TxRun → List TxTurn) (works : List Work) → received (rx_run o) ≡ turns_of works → sent (tx_run o) ≡ moments_of works → HasReceived o.rx (turns_of works) → HasSent o.tx (moments_of works) → IsJoined (deeds_of o) received sent (view_of works)
joined-in o received sent works rx_is tx_is happened has_sent =
    let v : View = view_of works in
    let S : List RxTurn → Type 0 = λ l. v.sessions o.rx.path.0 ≡ (own_view (calls_by l)).sessions o.rx.path.0 in
    let R : List TxTurn → Type 0 = λ l. v.readings o.tx.path.0 o.tx.dest.0 ≡ (own_view (calls_by l)).readings o.tx.path.0 o.tx.dest.0 in
    let M : List RxTurn → Type 0 = λ l. IsMadeIn v (calls_by l) in
    record {
      sessions = (subst S (sym rx_is) (sessions-own o.rx o.tx works happened has_sent), tt);
      readings = (subst R (sym tx_is) (readings-own o.rx o.tx works happened has_sent), tt);
      no_others = λ path seq s at. (rx_run o, (zero, refl), sym (only-path o.rx o.tx works o.run.path happened has_sent path seq s at));
      made = (subst M (sym rx_is) (made-in works), tt);
      only = all-weaker (λ (change : Change). StandsIn (own_view (calls_by (turns_of works))).changes change ⊎ StandsIn (own_view (calls_by (moments_of works))).changes change) (IsMadeBy (deeds_of o) received sent) v.changes
          (λ change is. elim is [
            | inl one ↦ inl (rx_run o, (zero, refl), (let P : List RxTurn → Type 0 = λ l. StandsIn (own_view (calls_by l)).changes change in subst P (sym rx_is) one))
            | inr one ↦ inr (tx_run o, (zero, refl), (let P : List TxTurn → Type 0 = λ l. StandsIn (own_view (calls_by l)).changes change in subst P (sym tx_is) one))
          ]) (either-of works);
    }

-- what each machine saw in a work stood in the view before it
module _ (o : SerialRun) (work : Work) (earlier : List Work) (tick_is : IsTick o.sizes earlier work) (put : ShowsPut (view_of earlier)) (received : HasReceived o.rx (turns_of (work ∷ earlier))) (sent : HasSent o.tx (moments_of (work ∷ earlier))) where
  received-front-of : HasReceived o.rx (turns_of earlier)
  received-front-of = happened-front _ work.turns (turns_of earlier) received

  sent-front-of : HasSent o.tx (moments_of earlier)
  sent-front-of = happened-front _ work.moments (moments_of earlier) sent

  rx-fresh : AreFreshAfter (o.sizes ∷ []) (view_of earlier) (calls_by (turns_of earlier)) (calls_by (turns_of (work ∷ earlier)))
  rx-fresh = (
    calls_by work.turns,
    calls-append work.turns (turns_of earlier),
    writes-fresh o.rx.path.0 o.rx.group.0 (floors_of (o.sizes ∷ []) (view_of earlier)) (calls_by work.turns) (view_of earlier) (own_view (calls_by (turns_of earlier)))
        (sessions-own o.rx o.tx earlier received-front-of sent-front-of) (received-writes o.rx work.turns (turns_of earlier) received)
        (turns-fresh (o.sizes ∷ []) (view_of earlier) work.turns put tick_is.looks),
  )

  tx-fresh : AreFreshAfter (o.sizes ∷ []) (view_of earlier) (calls_by (moments_of earlier)) (calls_by (moments_of (work ∷ earlier)))
  tx-fresh = (
    calls_by work.moments,
    calls-append work.moments (moments_of earlier),
    reads-fresh o.tx.path.0 o.tx.dest.0 (floors_of (o.sizes ∷ []) (view_of earlier)) (calls_by work.moments) (view_between earlier work) (own_view (calls_by (moments_of earlier)))
        (readings-turned o.rx o.tx work.turns (turns_of earlier) (moments_of earlier) (view_of earlier) received (readings-own o.rx o.tx earlier received-front-of sent-front-of))
        (sent-reads o.tx work.moments (moments_of earlier) sent)
        (are-fresh-lower (floors_of (o.sizes ∷ []) (view_of earlier)) (floors_of (o.sizes ∷ []) (view_between earlier work)) (view_between earlier work) (calls_by work.moments)
        (rise-grows (o.sizes ∷ []) (calls_by work.turns) (view_of earlier) put)
        (turns-fresh (o.sizes ∷ []) (view_between earlier work) work.moments (shows-grows (calls_by work.turns) (view_of earlier) put) tick_is.sees)),
  )

shows-put : (works : List Work) → ShowsPut (view_of works)
shows-put [] = λ path seq s there. absurd cc
shows-put (work ∷ earlier) = shows-grows (calls_by work.moments) (view_between earlier work) (shows-grows (calls_by work.turns) (view_of earlier) (shows-put earlier))

-- what a machine did below the tick of a work is what it did in the works before it
rx-below : (later earlier : List Work) (work : Work) → AllByRecursion (λ (w : Work). work.tick ≤ w.tick) (later ++ work ∷ []) → tick_after earlier ≤ work.tick → before work.tick (parts_of (later ++ work ∷ earlier)) ≡ parts_of earlier
rx-below [] earlier work all after =
    let drops : nat_lt work.tick work.tick ≡ false = grind (arith, nat_tests) in
    ap (λ b. cond b (parts_of (work ∷ earlier)) (before work.tick (parts_of earlier))) drops ∙ rx-all earlier work.tick after
rx-below (one ∷ later) earlier work all after =
    let drops : nat_lt one.tick work.tick ≡ false = grind (arith, nat_tests, all.0) in
    ap (λ b. cond b (parts_of (one ∷ (later ++ work ∷ earlier))) (before work.tick (parts_of (later ++ work ∷ earlier)))) drops ∙ rx-below later earlier work all.1 after

tx-below : (later earlier : List Work) (work : Work) → AllByRecursion (λ (w : Work). work.tick ≤ w.tick) (later ++ work ∷ []) → tick_after earlier ≤ work.tick → before work.tick (tx_parts (later ++ work ∷ earlier)) ≡ tx_parts earlier
tx-below [] earlier work all after =
    let drops : nat_lt work.tick work.tick ≡ false = grind (arith, nat_tests) in
    ap (λ b. cond b (tx_parts (work ∷ earlier)) (before work.tick (tx_parts earlier))) drops ∙ tx-all earlier work.tick after
tx-below (one ∷ later) earlier work all after =
    let drops : nat_lt one.tick work.tick ≡ false = grind (arith, nat_tests, all.0) in
    ap (λ b. cond b (tx_parts (one ∷ (later ++ work ∷ earlier))) (before work.tick (tx_parts (later ++ work ∷ earlier)))) drops ∙ tx-below later earlier work all.1 after

window-is : (o : SerialRun) (later earlier : List Work) (work : Work) → later ++ work ∷ earlier ≡ o.ticks → IsWindow (o.sizes ∷ []) 1 (deeds_of o) (view_of earlier) (window_of work earlier)
window-is o later earlier work is =
    let T : List Work → Type 0 = λ l. AreTicks o.sizes l in
    let ticks : AreTicks o.sizes (later ++ work ∷ earlier) = subst T (sym is) o.run.ticks_are in
    let here : AreTicks o.sizes (work ∷ earlier) = ticks-front o.sizes later (work ∷ earlier) ticks in
    let after = late o.sizes (work.tick + 1) later (work ∷ earlier) ticks (omega arith) in
    let H : List Work → Type 0 = λ l. HasReceived o.rx (turns_of l) in
    let G : List Work → Type 0 = λ l. HasSent o.tx (moments_of l) in
    let happened : HasReceived o.rx (turns_of (work ∷ earlier)) = received-front o later (work ∷ earlier) (subst H (sym is) (happened-front _ o.end.turns (turns_of o.ticks) o.run.received)) in
    let has_sent : HasSent o.tx (moments_of (work ∷ earlier)) = sent-front o later (work ∷ earlier) (subst G (sym is) (happened-front _ o.end.moments (moments_of o.ticks) o.run.sent)) in
    let not-before : AllByRecursion (λ (w : Work). work.tick ≤ w.tick) (later ++ work ∷ []) =
    all-join (λ (w : Work). work.tick ≤ w.tick) later (work ∷ []) (all-weaker (λ (w : Work). work.tick + 1 ≤ w.tick) (λ (w : Work). work.tick ≤ w.tick) later (λ w le. omega (arith, le)) after.0) (omega arith, tt) in
    let rx_now : turns_of_parts (before (work.tick + 1) (parts_of o.ticks)) ≡ turns_of (work ∷ earlier) =
    ap (λ l. turns_of_parts (before (work.tick + 1) (parts_of l))) (sym is) ∙ ap turns_of_parts (rx-before (work.tick + 1) later earlier work (omega arith) after.0) ∙ turns-same (work ∷ earlier) in
    let tx_now : turns_of_parts (before (work.tick + 1) (tx_parts o.ticks)) ≡ moments_of (work ∷ earlier) =
    ap (λ l. turns_of_parts (before (work.tick + 1) (tx_parts l))) (sym is) ∙ ap turns_of_parts (tx-before (work.tick + 1) later earlier work (omega arith) after.0) ∙ parts-turns (work ∷ earlier) in
    let rx_then : turns_of_parts (before work.tick (parts_of o.ticks)) ≡ turns_of earlier =
    ap (λ l. turns_of_parts (before work.tick (parts_of l))) (sym is) ∙ ap turns_of_parts (rx-below later earlier work not-before here.0.later) ∙ turns-same earlier in
    let tx_then : turns_of_parts (before work.tick (tx_parts o.ticks)) ≡ moments_of earlier =
    ap (λ l. turns_of_parts (before work.tick (tx_parts l))) (sym is) ∙ ap turns_of_parts (tx-below later earlier work not-before here.0.later) ∙ parts-turns earlier in
    let F : List RxTurn × List RxTurn → Type 0 = λ x. AreFreshAfter (o.sizes ∷ []) (view_of earlier) (calls_by x.0) (calls_by x.1) in
    let K : List TxTurn × List TxTurn → Type 0 = λ x. AreFreshAfter (o.sizes ∷ []) (view_of earlier) (calls_by x.0) (calls_by x.1) in
    record {
      some = omega arith;
      short = omega arith;
      received_fresh = (subst F (λ i. (sym rx_then i, sym rx_now i)) (rx-fresh o work earlier here.0 (shows-put earlier) happened has_sent), tt);
      sent_fresh = (subst K (λ i. (sym tx_then i, sym tx_now i)) (tx-fresh o work earlier here.0 (shows-put earlier) happened has_sent), tt);
      joint = here.0.after;
      joined = joined-in o (λ run. turns_of_parts (before (work.tick + 1) run.parts)) (λ run. turns_of_parts (before (work.tick + 1) run.parts)) (work ∷ earlier) rx_now tx_now happened has_sent;
    }

view-same : (works : List Work) → view_at (windows_of works) ≡ view_of works
view-same [] = refl
view-same (work ∷ earlier) = refl

over-same : (works : List Work) → over_at (windows_of works) ≡ tick_after works
over-same [] = refl
over-same (work ∷ earlier) = refl

windows-front : (o : SerialRun) (later front : List Work) → later ++ front ≡ o.ticks → AreWindows (o.sizes ∷ []) 1 (deeds_of o) (windows_of front)
windows-front o later [] is = tt
windows-front o later (work ∷ earlier) is =
    let T : List Work → Type 0 = λ l. AreTicks o.sizes l in
    let ticks : AreTicks o.sizes (work ∷ earlier) = ticks-front o.sizes later (work ∷ earlier) (subst T (sym is) o.run.ticks_are) in
    (subst (λ (v : View). IsWindow (o.sizes ∷ []) 1 (deeds_of o) v (window_of work earlier)) (sym (view-same earlier)) (window-is o later earlier work is), omega (arith, over-same earlier, ticks.0.later), windows-front o (later ++ work ∷ []) earlier (append_assoc later (work ∷ []) earlier ∙ is))

pub windows-are : (o : SerialRun) → AreWindows (o.sizes ∷ []) 1 (deeds_of o) (windows_of o.ticks)
windows-are o = windows-front o [] o.ticks refl

-- each part lies in its window
lies-more : (w : Window) (windows : List Window) (tick : ℕ) → LiesIn windows tick → LiesIn (w ∷ windows) tick
lies-more w windows tick lies = (lies.0, (suc lies.1.0, lies.1.1), lies.2, lies.3)

pub rx-lies : (works : List Work) → LiesWithin (windows_of works) (parts_of works)
rx-lies [] = tt
rx-lies (work ∷ earlier) =
    ((window_of work earlier, (zero, refl), omega arith, omega arith), all-weaker (λ (part : Part RxTurn). LiesIn (windows_of earlier) part.tick) (λ (part : Part RxTurn). LiesIn (windows_of (work ∷ earlier)) part.tick) (parts_of earlier) (λ part lies. lies-more (window_of work earlier) (windows_of earlier) part.tick lies) (rx-lies earlier))

pub tx-lies : (works : List Work) → LiesWithin (windows_of works) (tx_parts works)
tx-lies [] = tt
tx-lies (work ∷ earlier) =
    ((window_of work earlier, (zero, refl), omega arith, omega arith), all-weaker (λ (part : Part TxTurn). LiesIn (windows_of earlier) part.tick) (λ (part : Part TxTurn). LiesIn (windows_of (work ∷ earlier)) part.tick) (tx_parts earlier) (λ part lies. lies-more (window_of work earlier) (windows_of earlier) part.tick lies) (tx-lies earlier))
