-- Frames that left are told of one after another.
use Rattle.std.proofs.Common.{◌≡◌, ℕ, suc, ◌+◌, ◌<◌, List, [], ◌∷◌, ◌++◌, length, take, drop, get_or, refl, ap, sym, subst, ◌∙◌, arith, append_assoc}
use Rattle.std.proofs.Math.Seq.{drop-cons, take-suc}
use Rattle.std.proofs.lemmas.List.{map-append}
use Rattle.hub_core.specs.Stays.{PortState}
use Rattle.tp_unit.specs.Box.{Written}
use Rattle.tx_mailbox.specs.Boxes.{Pending}
use Rattle.bus_worker.proofs.Doing.{did-then}
use Rattle.bus_worker.proofs.Emitted.{content-front, out-stays}
use Rattle.bus_worker.specs.Acts.{Act}
use Rattle.bus_worker.specs.Emission.{AreLeaving, AreOut, AwaitsLeft, IsLeaving, LeftBox, NotedAfter, RestsBut, SomeLeaveAfter, all_sent_in, sent_in}
use Rattle.bus_worker.specs.declared.worker.Worker.{Worker}

-- one frame more
pub are-leaving-push : (tick : ℕ) (left : List Pending) (entry : Pending) (done : List Act) (act : Act) → AreLeaving tick left done → IsLeaving tick entry.0 act → AreLeaving tick (left ++ entry ∷ []) (act ∷ done)
are-leaving-push tick [] entry done act none is = (act, [], ap (λ l. act ∷ l) none, is, refl)
are-leaving-push tick (one ∷ later) entry done act so is = (so.0, act ∷ so.1, ap (λ l. act ∷ l) so.2, so.3, are-leaving-push tick later entry so.1 act so.4 is)

module _ {Home : Type 0} (tick at : ℕ) (left : List Pending) (entry : Pending) (u v w : Worker) (one two three : PortState Home) (below : at < length left) (item : get_or left at entry ≡ entry) where
  rest-is : drop at left ≡ entry ∷ drop (at + 1) left
  rest-is = let more : suc at ≡ at + 1 = omega arith in drop-cons left at entry below ∙ ap (λ x. x ∷ drop (suc at) left) item ∙ ap (λ n. entry ∷ drop n left) more

  front-is : take (at + 1) left ≡ take at left ++ entry ∷ []
  front-is = let more : at + 1 ≡ suc at = omega arith in ap (λ n. take n left) more ∙ take-suc left at entry below ∙ ap (λ x. take at left ++ x ∷ []) item

  -- the next frame left its box
  pub next-left : AwaitsLeft tick (drop at left) v two → LeftBox tick entry.0 v two
  next-left awaits =
      let R : List Pending → Type 0 = λ l. RestsBut {Home = Home} awaits.since awaits.acts l v two in
      let O : List Pending → Type 0 = λ l. AreOut l v.boxes in
      record { since = awaits.since; acts = awaits.acts; frame = entry.1; later = drop (at + 1) left; by = awaits.by; at = subst R rest-is awaits.at; out = (subst O rest-is awaits.out).0 }

  -- and the others are awaited then
  pub awaits-next : AwaitsLeft tick (drop at left) v two → NotedAfter tick entry v w two three → AwaitsLeft tick (drop (at + 1) left) w three
  awaits-next awaits noted =
      let R : List Pending → Type 0 = λ l. RestsBut {Home = Home} awaits.since awaits.acts l v two in
      let O : List Pending → Type 0 = λ l. AreOut l v.boxes in
      let out = subst O rest-is awaits.out in
      let so = noted awaits.since awaits.acts (drop (at + 1) left) awaits.by (subst R rest-is awaits.at) out.0 in
      record {
        since = tick;
        acts = so.act ∷ awaits.acts;
        by = omega arith;
        at = so.at;
        out = out-stays entry.0 (drop (at + 1) left) v.boxes w.boxes (content-front entry.0 (drop (at + 1) left) v.boxes out.0) so.others out.1;
      }

  pub some-next : SomeLeaveAfter tick left (take at left) (drop at left) u v one two → NotedAfter tick entry v w two three → SomeLeaveAfter tick left (take (at + 1) left) (drop (at + 1) left) u w one three
  some-next some noted since acts by at' out' =
      let so = some since acts by at' out' in
      let R : List Pending → Type 0 = λ l. RestsBut {Home = Home} tick (so.done ++ acts) l v two in
      let O : List Pending → Type 0 = λ l. AreOut l v.boxes in
      let out = subst O rest-is so.out in
      let more = noted tick (so.done ++ acts) (drop (at + 1) left) (omega arith) (subst R rest-is so.at) out.0 in
      let F : List Pending → Type 0 = λ l. AreLeaving tick l (more.act ∷ so.done) in
      record {
        done = more.act ∷ so.done;
        at = more.at;
        out = out-stays entry.0 (drop (at + 1) left) v.boxes w.boxes (content-front entry.0 (drop (at + 1) left) v.boxes out.0) more.others out.1;
        did = did-then 0 0 0 0 so.done (more.act ∷ []) u v w one two three so.did more.did;
        are = subst F (sym front-is) (are-leaving-push tick (take at left) entry so.done more.act so.are more.is);
        sent = more.sent ∙ ap (λ (l : List Written). l ++ sent_in tick entry ∷ []) so.sent ∙ append_assoc u.sent (all_sent_in tick (take at left)) (sent_in tick entry ∷ [])
            ∙ ap (λ l. u.sent ++ l) (sym (map-append (sent_in tick) (take at left) (entry ∷ [])) ∙ ap (all_sent_in tick) (sym front-is));
      }
