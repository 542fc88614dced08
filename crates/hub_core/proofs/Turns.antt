-- Turns after earlier ones: what they tell together comes after what the earlier ones told.
use Rattle.std.proofs.Common.{◌≡◌, ℕ, List, [], ◌∷◌, ◌++◌, refl, ap, sym, ◌∙◌, append-nil, append_assoc}
use Rattle.std.proofs.lemmas.Grind.{flat_map-append}
use Rattle.hub_core.specs.Floors.{Floors, Rise, AreFresh}
use Rattle.hub_core.specs.Moves.{moves_in, moves_of}
use Rattle.hub_core.specs.View.{View, Event, grows}
use Rattle.hub_core.specs.declared.record.Move.{Move}
use Rattle.hub_core.proofs.Fresh.{are-fresh-append}
use Rattle.hub_core.proofs.Growing.{grows-append}
use Rattle.hub_core.specs.Turns.{Turn, Happened, Over, calls_by, came_by, records_by}

-- what happened earlier happened
pub happened-front : {E C A R S : Type 0} (Step : List (Turn E C A R S) → Turn E C A R S → Type 0) (turns earlier : List (Turn E C A R S)) → Happened Step (turns ++ earlier) → Happened Step earlier
happened-front Step [] earlier happened = happened
happened-front Step (turn ∷ turns) earlier happened = happened-front Step turns earlier happened.2

pub calls-append : {E C A R S : Type 0} (turns earlier : List (Turn E C A R S)) → calls_by (turns ++ earlier) ≡ calls_by earlier ++ calls_by turns
calls-append [] earlier = sym (append-nil (calls_by earlier))
calls-append (turn ∷ turns) earlier = ap (λ c. c ++ turn.did.calls) (calls-append turns earlier) ∙ append_assoc (calls_by earlier) (calls_by turns) turn.did.calls

pub records-append : {E C A R S : Type 0} (turns earlier : List (Turn E C A R S)) → records_by (turns ++ earlier) ≡ records_by earlier ++ records_by turns
records-append [] earlier = sym (append-nil (records_by earlier))
records-append (turn ∷ turns) earlier = ap (λ r. r ++ turn.did.records) (records-append turns earlier) ∙ append_assoc (records_by earlier) (records_by turns) turn.did.records

pub came-append : {E C A R S F : Type 0} (came : ℕ → E → List F) (turns earlier : List (Turn E C A R S)) → came_by came (turns ++ earlier) ≡ came_by came earlier ++ came_by came turns
came-append came [] earlier = sym (append-nil (came_by came earlier))
came-append came (turn ∷ turns) earlier = ap (λ f. f ++ came turn.did.tick turn.event) (came-append came turns earlier) ∙ append_assoc (came_by came earlier) (came_by came turns) (came turn.did.tick turn.event)

-- the moves of calls, one after another
pub moves_in-append : (calls more : List Event) → moves_in (calls ++ more) ≡ moves_in calls ++ moves_in more
moves_in-append calls more = flat_map-append moves_of calls more

-- first calls of a step, and then a part of it
pub over-after : {low high : Floors} {u v w : View} (before : List Event) (first moves : List Move) (Row Other : List Event → Type 0) → v ≡ grows before u → Rise low high → AreFresh low u before → first ≡ moves_in before →
    Over high v w moves Row → ((calls : List Event) → Row calls → Other (before ++ calls)) → Over low u w (first ++ moves) Other
over-after {low = low} {high = high} {u = u} {v = v} {w = w} before first moves Row Other grown rise fresh firsts over on = record {
  calls = before ++ over.calls;
  grown = over.grown ∙ ap (grows over.calls) grown ∙ sym (grows-append before over.calls u);
  fresh = are-fresh-append low high u v before over.calls grown rise fresh over.fresh;
  moves_are = rw (moves_in-append before over.calls, ← firsts, ← over.moves_are) refl;
  row = on over.calls over.row;
}
