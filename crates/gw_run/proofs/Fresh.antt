-- A gateway that is new stands at the barrier before tick 0.
use Rattle.std.proofs.Common.{◌≡◌, ℕ, ◌≤◌, Option, None, Some, option_map, List, [], ◌∷◌, refl, sym, subst, ap, arith}
use Rattle.tp_sender.specs.Port.{Knows as KnowsPort}
use Rattle.tp_receiver.specs.Port.{KnowsState}
use Rattle.tp_receiver.specs.State.{LiesBy, RxState, WaitsIn, reception_in, rx_new, state_of as receiver_state}
use Rattle.gw_base.specs.declared.numbers.Tick.{Tick}
use Rattle.hub_core.specs.Calls.{Means}
use Rattle.hub_core.specs.Plain.{hub_means}
use Rattle.hub_core.specs.View.{View, empty_view}
use Rattle.tp_receiver.specs.declared.reception.State.{State}
use Rattle.tp_receiver.specs.declared.reception.State.TheVariants.{Idle, Busy}
use Rattle.tp_sender.specs.State.{HasFrame, TxState, set_of, since_of, state_of as sender_state, Transmission, tx_new}
use Rattle.tp_unit.specs.Unit.{Meaning}
use Rattle.gw_run.specs.Standing.{groups_in, AtBarrier, FitsIn, Lies, lying, view_in}
use Rattle.gw_run.specs.Telling.{means_in}
use Rattle.gw_run.specs.declared.gateway.Gateway.{Gateway}

idle-knows : (view : View) (path : ℕ) (state : State) → reception_in state ≡ None → KnowsState view path state
idle-knows view path Idle is = tt
idle-knows view path (Busy r) is = cc

idle-waits : (state : State) (tick : ℕ) → reception_in state ≡ None → WaitsIn state tick
idle-waits Idle tick is = tt
idle-waits (Busy r) tick is = cc

none-lies : (refusing : Option Tick) (tick : ℕ) → option_map (λ (since : Tick). since.0) refusing ≡ None → LiesBy refusing tick
none-lies None tick is = tt
none-lies (Some since) tick is = cc

pub begins : (sizes : List ℕ) (g : Gateway) → view_in g.hub ≡ empty_view → means_in g.hub ≡ hub_means (sizes ∷ []) 1000000 → g.receiver.set ≡ g.machines.rx → receiver_state g.receiver ≡ rx_new →
    set_of g.sender ≡ g.machines.tx → sender_state g.sender ≡ tx_new → KnowsPort empty_view g.sender → lying g.control ≡ None → lying g.frame ≡ None →
    g.controls ≡ [] → g.frames ≡ [] → g.sessions ≡ [] → g.dests ≡ [] → g.moves ≡ [] → AtBarrier sizes g [] [] 0
begins sizes g view means rx rx_state tx tx_state knows control frame controls frames sessions dests moves =
    let busy : reception_in g.receiver.state ≡ None = ap (λ (s : RxState). s.busy) rx_state in
    let next : g.receiver.next_n ≡ 0 = ap (λ (s : RxState). s.next) rx_state in
    let seq : g.receiver.next_seq ≡ 0 = ap (λ (s : RxState). s.seq) rx_state in
    let live : (sender_state g.sender).live ≡ None = ap (λ (s : TxState). s.live) tx_state in
    let takes : g.hub.takes ≡ 1000000 = ap (λ (m : Means). m.takes) means in
    let groups : groups_in g.hub ≡ sizes ∷ [] = ap (λ (m : Means). m.groups) means in
    let L : Option Transmission → Type 0 = λ l. HasFrame l → Lies (lying g.frame) in
    let N : Option Meaning → Type 0 = λ l. Lies l → HasFrame (sender_state g.sender).live in
    let S : Option Transmission → Type 0 = λ l. since_of l ≤ 0 in
    record {
      works = [];
      ticks = tt;
      next_is = refl;
      stands = record {
        receives = record {
          happened = tt;
          set = rx;
          state = rx_state;
          knows = record { number = sym seq; session = idle-knows empty_view g.receiver.set.path.0 g.receiver.state busy };
          number = omega (arith, next);
          now = omega arith;
          waits = record { reception = idle-waits g.receiver.state 0 busy; refusing = none-lies g.receiver.refusing 0 (ap (λ (s : RxState). s.refusing) rx_state) };
          lies_is = control;
          fits = subst (FitsIn g.machines.shape) (sym control) tt;
          controls_are = controls;
          sessions_are = sessions;
        };
        sends = record {
          happened = tt;
          set = tx;
          state = tx_state;
          knows = knows;
          now = omega arith;
          since = subst S (sym live) (omega arith);
          lies_is = frame;
          fits = subst (FitsIn g.machines.tx.shape) (sym frame) tt;
          has = subst L (sym live) (λ h. absurd h);
          had = subst N (sym frame) (λ h. absurd h);
          frames_are = frames;
          dests_are = dests;
        };
        pool = record { view_is = view; groups = groups; takes = omega (arith, takes); moves_are = moves };
      };
      clear = omega arith;
      seen_is = refl;
      answers_is = refl;
    }
