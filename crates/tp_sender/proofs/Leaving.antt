-- A session that its destination leaves.
use Rattle.std.proofs.Common.{◌≡◌, ℕ, Option, Some, None, [], ◌∷◌, refl, ap, sym, ◌∙◌, append-nil}
use Rattle.std.specs.Prelude.{map, option_map, option_to_list}
use Rattle.hub_core.specs.Calls.{freed_by}
use Rattle.hub_core.specs.Floors.{Floors}
use Rattle.hub_core.specs.Moves.{move_of}
use Rattle.hub_core.specs.View.{View, Parted, grow}
use Rattle.hub_core.specs.declared.record.DestResult.{DestResult}
use Rattle.hub_core.specs.declared.record.Move.{Move}
use Rattle.tp_unit.specs.Unit.{box_meaning_of}
use Rattle.tp_unit.specs.declared.box_act.BoxAct.{BoxAct}
use Rattle.tp_sender.specs.declared.set.TxSet.{TxSet}
use Rattle.tp_sender.specs.declared.transmission.Outcome.{Outcome}
use Rattle.tp_sender.specs.Port.{IsFree, OverRow, left_by}
use Rattle.tp_sender.specs.State.{Transmission, transmission_of}
use Rattle.tp_sender.specs.Table.{Ends}

-- what the last party freed is the move that is told
moves-left : (moved : Option Move) → IsFree moved → option_to_list moved ≡ map move_of (freed_by (left_by moved))
moves-left None free = refl
moves-left (Some move) free = ap (λ took. record { change = move.change; took = took; buf = move.buf } ∷ []) free

pub over-left : {f : Floors} (set : TxSet) (s : Transmission) (boxed : BoxAct) (result : DestResult) (u v : View) (tick count : ℕ) (outcome : Outcome) →
    v ≡ grow (Parted set.path.0 set.dest.0 s.seq (freed_by (left_by outcome.acts.moved))) u → IsFree outcome.acts.moved → outcome.acts.boxed ≡ boxed →
    outcome.acts.ended ≡ Some (record { path = set.path; dest = set.dest; seq = s.seq; begin = record { 0 = s.begin }; sent = s.sent; end = record { 0 = tick }; result = result }) → outcome.live ≡ None →
    OverRow (Ends set s (box_meaning_of boxed) result) f u v tick count outcome
over-left set s boxed result u v tick count outcome grown free act ended live = record {
  calls = Parted set.path.0 set.dest.0 s.seq (freed_by (left_by outcome.acts.moved)) ∷ [];
  grown = grown;
  fresh = (tt, tt);
  moves_are = moves-left outcome.acts.moved free ∙ sym (append-nil (map move_of (freed_by (left_by outcome.acts.moved))));
  row = λ all. record { left = left_by outcome.acts.moved; calls_are = refl; act_is = ap box_meaning_of act; records = ap option_to_list ended; live = ap (option_map transmission_of) live };
}
