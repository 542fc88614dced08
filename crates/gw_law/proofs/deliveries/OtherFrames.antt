-- Other frames of a sender's channel, such as a receiver's flow controls, leave what they deliver.
use Rattle.std.proofs.Common.{◌≡◌, ◌≤◌, List, ap, sym, ◌∙◌, subst}
use Rattle.std.specs.Prelude.{filter}
use Rattle.std.specs.List.{AllByRecursion}
use Rattle.tp_attempts.specs.Cuts.{Cut}
use Rattle.tp_attempts.specs.Seen.{Seen, carries, is_data}
use Rattle.tp_attempts.specs.Walk.{Piece, Walk, joined, walk_of}
use Rattle.hub_core.specs.declared.record.DestRecord.{DestRecord}
use Rattle.gw_law.specs.Delivery.{Delivers, Delivery, DeliveryLaw, Names}
use Rattle.gw_base.proofs.Lists.{all-weaker}
use Rattle.sender_law.specs.Transfer.{has_sent}
use Rattle.sender_law.specs.Pacing.{Paced}
use Rattle.tp_attempts.proofs.Kept.{kept_of, walk-kept, zip-kept}

-- what a transmission delivers
names-kept : (d : Delivery) (out : List Seen) (told : DestRecord) → Names d told → Names (record d { frames = out }) told
names-kept d out told names = record {
  unit = names.unit;
  session = names.session;
  named = record { place = names.named.place; unit_is = names.named.unit_is; session_is = names.named.session_is; opened = names.named.opened; opened_is = names.named.opened_is; seq_is = names.named.seq_is };
  most = names.most;
  whole = names.whole;
  ticks = names.ticks;
}

delivers-kept : (d : Delivery) (out : List Seen) (cut : Cut Seen) (told : DestRecord) → Delivers d (kept_of carries cut) told → Delivers (record d { frames = out }) cut told
unfolding names-kept
delivers-kept d out cut told delivers =
    let is : walk_of d.address (kept_of carries cut) ≡ walk_of d.address cut = walk-kept d.address cut in
    let T : Walk → Type 0 = λ w. AllByRecursion (λ (piece : Piece). (told.begin.0 ≤ piece.at) × (piece.at ≤ told.end.0)) w.pieces in
    let P : Walk → Type 0 = λ w. Paced d.answers w.pieces in
    record {
      names = names-kept d out told delivers.names;
      len = delivers.len;
      within = delivers.within;
      bytes = ap (λ (w : Walk). joined w.pieces) (sym is) ∙ delivers.bytes;
      right = ap (λ (w : Walk). w.wrong) (sym is) ∙ delivers.right;
      ticks = subst T is delivers.ticks;
      paced = subst P is delivers.paced;
    }

-- the law of delivery, with other frames between
pub others-deliver : (d : Delivery) (out : List Seen) → DeliveryLaw d → filter (λ (s : Seen). is_data s.meaning) out ≡ d.frames → DeliveryLaw (record d { frames = out })
others-deliver d out law is = record {
  sessions = law.sessions;
  numbered = law.numbered;
  names = all-weaker (Names d) (Names (record d { frames = out })) d.records (λ told names. names-kept d out told names) law.names;
  delivers = zip-kept (Delivers d) (Delivers (record d { frames = out })) out d.frames (filter has_sent d.records) (λ one told delivers. delivers-kept d out one told delivers) is law.delivers;
}
