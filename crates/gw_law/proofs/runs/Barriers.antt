-- For each tick of a run there is a barrier soon after it: both parties of a path met there, with all that they did up to some tick
-- less than a window later.
use Rattle.std.proofs.Common.{◌≡◌, ℕ, ◌+◌, ◌<◌, ◌≤◌, zero, suc, inl, inr, false, Some, List, [], ◌∷◌, ◌++◌, refl, ap, sym, ◌∙◌, subst, arith, append_assoc, cond}
use Rattle.std.specs.Prelude.{nat_lt, slice_get}
use Rattle.std.specs.List.{AllByRecursion}
use Rattle.std.proofs.lemmas.Bool.{cases_lt}
use Rattle.std.proofs.lemmas.Bool.Decides.{nat_tests}
use Rattle.gw_base.proofs.Lists.{all-at}
use Rattle.hub_core.proofs.Turns.{happened-front}
use Rattle.hub_core.specs.Turns.{Part, turns_of}
use Rattle.hub_core.specs.View.{View, empty_view}
use Rattle.receiver_law.specs.RxRun.{IsRxRun, RxRun}
use Rattle.sender_law.specs.Runs.{IsTxRun, TxRun}
use Rattle.tp_receiver.specs.Runs.{HasReceived}
use Rattle.tp_sender.specs.Runs.{HasSent}
use Rattle.gw_law.specs.Deeds.{AreWindows, Deeds, IsReadBy, IsWindow, IsWrittenBy, LiesIn, LiesWithin, Window, before, over_at, view_at}
use Rattle.gw_law.proofs.runs.Before.{InTicks, cut, same-before, turns-append}
use Rattle.gw_law.proofs.runs.Meetings.{AsFar, met, met-empty}
use Rattle.gw_law.proofs.runs.Parts.{rx-rising, tx-rising}

-- a receiver and a sender of one path among the machines of a run, and the windows of the run
pub record Pair : Type 0 where
  pub d : Deeds
  pub groups : List (List ℕ)
  pub most : ℕ
  pub some : 1 ≤ most
  pub windows : List Window
  pub are : AreWindows groups most d windows
  pub rx : RxRun
  pub tx : TxRun
  pub rx_at : ℕ
  pub tx_at : ℕ
  pub rx_there : slice_get d.receivers rx_at ≡ Some rx
  pub tx_there : slice_get d.senders tx_at ≡ Some tx
  pub rx_run : IsRxRun rx
  pub tx_run : IsTxRun tx
  pub path : tx.set.path ≡ rx.set.path
  pub rx_within : LiesWithin windows rx.parts
  pub tx_within : LiesWithin windows tx.parts

-- what both did up to a tick that is less than a window after another one
pub record Barrier (p : Pair) (tick : ℕ) : Type 0 where
  pub past : ℕ
  pub above : tick ≤ past
  pub near : past < tick + p.most
  pub view : View
  pub far : AsFar p.rx.set p.tx.set (turns_of (before (past + 1) p.rx.parts)) (turns_of (before (past + 1) p.tx.parts)) view

-- what a machine did below a bound happened
pub received-below : (p : Pair) (bound : ℕ) → HasReceived p.rx.set (turns_of (before bound p.rx.parts))
received-below p bound =
    let so = cut bound p.rx.parts (rx-rising p.rx.full p.rx.parts p.rx_run.parts_are) in
    let H : List _ → Type 0 = λ l. HasReceived p.rx.set l in
    happened-front _ (p.rx.end ++ turns_of so.later) (turns_of (before bound p.rx.parts))
    (subst H (ap (λ l. p.rx.end ++ turns_of l) (sym so.is) ∙ ap (λ l. p.rx.end ++ l) (turns-append so.later (before bound p.rx.parts)) ∙ sym (append_assoc p.rx.end (turns_of so.later) (turns_of (before bound p.rx.parts)))) p.rx_run.happened)

pub sent-below : (p : Pair) (bound : ℕ) → HasSent p.tx.set (turns_of (before bound p.tx.parts))
sent-below p bound =
    let so = cut bound p.tx.parts (tx-rising p.tx.full p.tx.parts p.tx_run.parts_are) in
    let H : List _ → Type 0 = λ l. HasSent p.tx.set l in
    happened-front _ (p.tx.end ++ turns_of so.later) (turns_of (before bound p.tx.parts))
    (subst H (ap (λ l. p.tx.end ++ turns_of l) (sym so.is) ∙ ap (λ l. p.tx.end ++ l) (turns-append so.later (before bound p.tx.parts)) ∙ sym (append_assoc p.tx.end (turns_of so.later) (turns_of (before bound p.tx.parts)))) p.tx_run.happened)

-- what a window's barrier holds of both
pub far-at : (p : Pair) (opening : View) (w : Window) → IsWindow p.groups p.most p.d opening w → AsFar p.rx.set p.tx.set (turns_of (before w.to p.rx.parts)) (turns_of (before w.to p.tx.parts)) w.view
far-at p opening w is = record {
  shape = p.tx_run.shape;
  path = p.path;
  received = received-below p w.to;
  sent = sent-below p w.to;
  met = met p.groups w.view is.joint;
  sessions = all-at (λ (run : RxRun). IsWrittenBy w.view run (turns_of (before w.to run.parts))) p.d.receivers p.rx_at p.rx is.joined.sessions p.rx_there;
  readings = all-at (λ (run : TxRun). IsReadBy w.view run (turns_of (before w.to run.parts))) p.d.senders p.tx_at p.tx is.joined.readings p.tx_there;
}

before-none : {T : Type 0} (parts : List (Part T)) → before 0 parts ≡ []
before-none [] = refl
before-none (part ∷ earlier) = let no : nat_lt part.tick 0 ≡ false = grind (arith, nat_tests) in ap (λ b. cond b (part ∷ earlier) (before 0 earlier)) no ∙ before-none earlier

-- before the first window nothing was done
pub far-none : (p : Pair) → AsFar p.rx.set p.tx.set (turns_of (before 0 p.rx.parts)) (turns_of (before 0 p.tx.parts)) empty_view
far-none p =
    let P : List _ → List _ → Type 0 = λ turns moments. AsFar p.rx.set p.tx.set turns moments empty_view in
    let R : List _ → Type 0 = λ l. P l (turns_of (before 0 p.tx.parts)) in
    let S : List _ → Type 0 = λ l. P [] l in
    subst R (sym (ap turns_of (before-none p.rx.parts))) (subst S (sym (ap turns_of (before-none p.tx.parts))) (record { shape = p.tx_run.shape; path = p.path; received = tt; sent = tt; met = met-empty; sessions = refl; readings = refl }))

-- windows come after one another
pub over-all : (p : Pair) (windows : List Window) (place : ℕ) (w : Window) → AreWindows p.groups p.most p.d windows → slice_get windows place ≡ Some w → w.to ≤ over_at windows
over-all p [] place w are there = absurd cc
over-all p (first ∷ earlier) zero w are there = let same : first ≡ w = cc in omega (arith, ap (λ (x : Window). x.to) same)
over-all p (first ∷ earlier) (suc place) w are there = omega (arith, over-all p earlier place w are.2 there, are.1, are.0.some)

-- a tick that lies in windows lies below their end, and below the newest one in an older one
pub lies-below : (p : Pair) (windows : List Window) (at : ℕ) → AreWindows p.groups p.most p.d windows → LiesIn windows at → at < over_at windows
lies-below p windows at are lies = omega (arith, lies.3, over-all p windows lies.1.0 lies.0 are lies.1.1)

pub lies-earlier : (w : Window) (earlier : List Window) (at : ℕ) → at < w.from → LiesIn (w ∷ earlier) at → LiesIn earlier at
lies-earlier w earlier at below (u, (zero, there), from, to) = let same : w ≡ u = cc in absurd (omega (arith, below, from, ap (λ (x : Window). x.from) same))
lies-earlier w earlier at below (u, (suc place, there), from, to) = (u, (place, there), from, to)

-- parts up to a tick lie in these windows
abbrev LiesUpTo : List Window → (tick : ℕ) → {T : Type 0} → List (Part T) → Type 0
LiesUpTo windows tick parts = AllByRecursion (λ part. part.tick ≤ tick → LiesIn windows part.tick) parts

up-to-earlier : {T : Type 0} (w : Window) (earlier : List Window) (tick : ℕ) (parts : List (Part T)) → tick < w.from → LiesUpTo (w ∷ earlier) tick parts → LiesUpTo earlier tick parts
up-to-earlier w earlier tick [] below lies = tt
up-to-earlier w earlier tick (part ∷ parts) below lies = (λ le. lies-earlier w earlier part.tick (omega (arith, le, below)) (lies.0 le), up-to-earlier w earlier tick parts below lies.1)

up-to-all : {T : Type 0} (windows : List Window) (tick : ℕ) (parts : List (Part T)) → LiesWithin windows parts → LiesUpTo windows tick parts
up-to-all windows tick [] lies = tt
up-to-all windows tick (part ∷ parts) lies = (λ le. lies.0, up-to-all windows tick parts lies.1)

-- so after the windows' end no part lies up to the tick
none-since : {T : Type 0} (p : Pair) (windows : List Window) (tick at : ℕ) (parts : List (Part T)) → AreWindows p.groups p.most p.d windows → over_at windows ≤ at → at < tick + 1 → LiesUpTo windows tick parts → InTicks (λ (t : ℕ). t ≡ at → ⊥) parts
none-since p windows tick at [] are from to lies = tt
none-since p windows tick at (part ∷ parts) are from to lies =
    (λ same. absurd (omega (arith, same, from, lies-below p windows part.tick are (lies.0 (omega (arith, same, to))))), none-since p windows tick at parts are from to lies.1)

rests : (p : Pair) (windows : List Window) (tick : ℕ) (view : View) → AreWindows p.groups p.most p.d windows → over_at windows ≤ tick → LiesUpTo windows tick p.rx.parts → LiesUpTo windows tick p.tx.parts →
    AsFar p.rx.set p.tx.set (turns_of (before (over_at windows) p.rx.parts)) (turns_of (before (over_at windows) p.tx.parts)) view → Barrier p tick
rests p windows tick view are over rx_lies tx_lies far =
    let rx_same : before (tick + 1) p.rx.parts ≡ before (over_at windows) p.rx.parts = same-before (over_at windows) (tick + 1) p.rx.parts (omega (arith, over)) (λ at from to. none-since p windows tick at p.rx.parts are from to rx_lies) in
    let tx_same : before (tick + 1) p.tx.parts ≡ before (over_at windows) p.tx.parts = same-before (over_at windows) (tick + 1) p.tx.parts (omega (arith, over)) (λ at from to. none-since p windows tick at p.tx.parts are from to tx_lies) in
    let R : List _ → Type 0 = λ l. AsFar p.rx.set p.tx.set (turns_of l) (turns_of (before (tick + 1) p.tx.parts)) view in
    let S : List _ → Type 0 = λ l. AsFar p.rx.set p.tx.set (turns_of (before (over_at windows) p.rx.parts)) (turns_of l) view in
    record { past = tick; above = omega arith; near = omega (arith, p.some); view = view; far = subst R (sym rx_same) (subst S (sym tx_same) far) }

pred-suc : (to : ℕ) → 0 < to → (past : ℕ) × (to ≡ past + 1)
pred-suc zero some = absurd (omega (arith, some))
pred-suc (suc past) some = (past, omega arith)

barrier-in : (p : Pair) (windows : List Window) (tick : ℕ) → AreWindows p.groups p.most p.d windows → LiesUpTo windows tick p.rx.parts → LiesUpTo windows tick p.tx.parts → Barrier p tick
barrier-in p [] tick are rx_lies tx_lies = rests p [] tick empty_view tt (omega arith) rx_lies tx_lies (far-none p)
barrier-in p (w ∷ earlier) tick are rx_lies tx_lies = elim (cases_lt tick w.to) [
  | inr over ↦ rests p (w ∷ earlier) tick w.view are over rx_lies tx_lies (far-at p (view_at earlier) w are.0)
  | inl below ↦ elim (cases_lt tick w.from) [
    | inl early ↦ barrier-in p earlier tick are.2 (up-to-earlier w earlier tick p.rx.parts early rx_lies) (up-to-earlier w earlier tick p.tx.parts early tx_lies)
    | inr inside ↦
        let last = pred-suc w.to (omega (arith, below)) in
        let P : ℕ → Type 0 = λ bound. AsFar p.rx.set p.tx.set (turns_of (before bound p.rx.parts)) (turns_of (before bound p.tx.parts)) w.view in
        record { past = last.0; above = omega (arith, last.1, below); near = omega (arith, last.1, are.0.short, inside); view = w.view; far = subst P last.1 (far-at p (view_at earlier) w are.0) }
  ]
]

-- the barrier soon after a tick
pub barrier : (p : Pair) (tick : ℕ) → Barrier p tick
barrier p tick = barrier-in p p.windows tick p.are (up-to-all p.windows tick p.rx.parts p.rx_within) (up-to-all p.windows tick p.tx.parts p.tx_within)
