-- One more cell is read.
use Rattle.std.proofs.Common.{◌≡◌, ℕ, ◌+◌, ◌<◌, List, [], ◌∷◌, ◌++◌, length, refl, ap, sym, ◌∙◌, append-nil, append_assoc, length-append, arith}
use Rattle.tp_sender.specs.declared.transmission.Transmission.{Transmission as HeldTransmission}
use Rattle.tp_sender.specs.State.{Transmission, transmission_of}
use Rattle.tp_sender.specs.Port.{ReadsSome}
use Rattle.std.specs.Prelude.{map}
use Rattle.std.proofs.lemmas.List.{map-append}
use Rattle.std.proofs.lemmas.List.Concat.{flat_map-append}
use Rattle.std.proofs.lemmas.List.Elements.{All-nil, All-push}
use Rattle.std.proofs.lemmas.List.Sums.{sum_by-cons}
use Rattle.gw_base.specs.Cell.{IsCell, cell_bytes, count_of, bytes_of, counted}
use Rattle.gw_base.proofs.Cells.{length-bytes_of}
use Rattle.gw_base.specs.declared.numbers.Tick.{Tick}
use Rattle.hub_core.specs.Calls.{Means, SameMeans, ByReader}
use Rattle.hub_core.specs.Tokens.{Reads, SameJoined, read_one}
use Rattle.hub_core.specs.View.{View, Event, Read, grow, grows}
use Rattle.tp_sender.specs.Table.{AreWanted, fetched}
use Rattle.tp_sender.proofs.Calls.{grows-more, by-same, by-after, means-same, means-after}

wanted-more : (wanted carried : ℕ) (cells : List ℕ) (cell : ℕ) → AreWanted wanted carried cells → carried + counted cells < wanted → AreWanted wanted carried (cells ++ cell ∷ [])
wanted-more wanted carried [] cell are few = (omega (arith, few), tt)
wanted-more wanted carried (first ∷ cells) cell are few =
    (are.0, wanted-more wanted (carried + count_of first) cells cell are.1 (omega (arith, few, sum_by-cons count_of first cells)))

-- a session that differs in its cells and bytes alone
pub sending-with : (s : Transmission) (at : ℕ) (carried : List ℕ) (t : Transmission) → t.seq ≡ s.seq → t.len ≡ s.len → t.at ≡ at → t.carried ≡ carried → t.begin ≡ s.begin → t.sent ≡ s.sent → t.number ≡ s.number → t.block ≡ s.block → t.gap ≡ s.gap →
    t.phase ≡ s.phase → t.since ≡ s.since → t ≡ record s { at = at; carried = carried }
sending-with s at carried t seq len ats bytes begin sent number block gap phase since = rw (← seq, ← len, ← ats, ← bytes, ← begin, ← sent, ← number, ← block, ← gap, ← phase, ← since) refl

pub reads-none : (wanted : ℕ) (was : HeldTransmission) (v : View) (m : Means) → Reads v was.at → ReadsSome wanted was was v v m m
reads-none wanted was v m reads = record {
  cells = [];
  on = record {
    view = refl;
    cells_only = All-nil IsCell;
    wanted_all = tt;
    state = sending-with (transmission_of was) (was.at.at + 0) (was.carry ++ []) (transmission_of was) refl refl (omega arith) (sym (append-nil was.carry)) refl refl refl refl refl refl refl;
    path = refl;
    dest = refl;
    seen = refl;
    within = omega (arith, reads.says.at_most);
    reads = reads;
    by = by-same was.at.path.0 was.at.dest.0 v;
  };
  means = means-same m;
}

-- the session with one cell more
pub record OneMore (now next : HeldTransmission) (cell : ℕ) : Type 0 where
  pub token : SameJoined next.at (read_one cell now.at)
  pub carry : next.carry ≡ now.carry ++ cell_bytes cell
  pub begin : next.begin ≡ now.begin
  pub sent : next.sent ≡ now.sent
  pub number : next.number ≡ now.number
  pub block : next.block ≡ now.block
  pub gap : next.gap ≡ now.gap
  pub phase : next.phase ≡ now.phase
  pub since : next.since ≡ now.since

state-more : (was now next : HeldTransmission) (cells : List ℕ) (cell : ℕ) → transmission_of now ≡ fetched cells (transmission_of was) → OneMore now next cell → transmission_of next ≡ fetched (cells ++ cell ∷ []) (transmission_of was)
state-more was now next cells cell so more =
    let all : bytes_of (cells ++ cell ∷ []) ≡ bytes_of cells ++ cell_bytes cell = flat_map-append cell_bytes cells (cell ∷ []) ∙ ap (λ l. bytes_of cells ++ l) (append-nil (cell_bytes cell)) in
    let at : next.at.at ≡ was.at.at + length (cells ++ cell ∷ []) = omega (arith, more.token.at, ap (λ (s : Transmission). s.at) so, length-append cells (cell ∷ [])) in
    let carried : next.carry ≡ was.carry ++ bytes_of (cells ++ cell ∷ []) = more.carry ∙ ap (λ l. l ++ cell_bytes cell) (ap (λ (s : Transmission). s.carried) so) ∙ append_assoc was.carry (bytes_of cells) (cell_bytes cell) ∙ ap (λ l. was.carry ++ l) (sym all) in
    sending-with (transmission_of was) (was.at.at + length (cells ++ cell ∷ [])) (was.carry ++ bytes_of (cells ++ cell ∷ [])) (transmission_of next)
    (more.token.seq ∙ ap (λ (s : Transmission). s.seq) so) (more.token.len ∙ ap (λ (s : Transmission). s.len) so) at carried
    (ap (λ (t : Tick). t.0) more.begin ∙ ap (λ (s : Transmission). s.begin) so) (more.sent ∙ ap (λ (s : Transmission). s.sent) so) (more.number ∙ ap (λ (s : Transmission). s.number) so)
    (more.block ∙ ap (λ (s : Transmission). s.block) so) (more.gap ∙ ap (λ (s : Transmission). s.gap) so)
    (more.phase ∙ ap (λ (s : Transmission). s.phase) so) (ap (λ (t : Tick). t.0) more.since ∙ ap (λ (s : Transmission). s.since) so)

pub reads-more : (wanted : ℕ) (was now next : HeldTransmission) (cell : ℕ) (v w x : View) (l m n : Means) → ReadsSome wanted was now v w l m → length now.carry < wanted → now.at.at < now.at.seen → IsCell cell → OneMore now next cell →
    x ≡ grow (Read now.at.path.0 now.at.dest.0 now.at.seq cell) w → Reads x next.at → ByReader now.at.path.0 now.at.dest.0 0 w x → SameMeans m n → ReadsSome wanted was next v x l n
reads-more wanted was now next cell v w x l m n so few left is more grown reads by means =
    let e : List Event = map (Read was.at.path.0 was.at.dest.0 was.at.seq) so.cells in
    let seq : now.at.seq ≡ was.at.seq = ap (λ (s : Transmission). s.seq) so.on.state in
    let carried : length now.carry ≡ length was.carry + counted so.cells = ap (λ (s : Transmission). length s.carried) so.on.state ∙ length-append was.carry (bytes_of so.cells) ∙ ap (λ k. length was.carry + k) (length-bytes_of so.cells so.on.cells_only) in
    let same : x ≡ grow (Read was.at.path.0 was.at.dest.0 was.at.seq cell) w = rw (← so.on.path, ← so.on.dest, ← seq) grown in
    let by_was : ByReader was.at.path.0 was.at.dest.0 0 w x = rw (← so.on.path, ← so.on.dest) by in
    record {
      cells = so.cells ++ cell ∷ [];
      on = record {
        view = same ∙ ap (grow (Read was.at.path.0 was.at.dest.0 was.at.seq cell)) so.on.view ∙ sym (grows-more e (Read was.at.path.0 was.at.dest.0 was.at.seq cell) v) ∙
            ap (λ es. grows es v) (sym (map-append (Read was.at.path.0 was.at.dest.0 was.at.seq) so.cells (cell ∷ [])));
        cells_only = All-push IsCell so.cells cell so.on.cells_only is;
        wanted_all = wanted-more wanted (length was.carry) so.cells cell so.on.wanted_all (omega (arith, carried, few));
        state = state-more was now next so.cells cell so.on.state more;
        path = more.token.path ∙ so.on.path;
        dest = more.token.dest ∙ so.on.dest;
        seen = more.token.seen ∙ so.on.seen;
        within = omega (arith, more.token.at, more.token.seen, left);
        reads = reads;
        by = by-after was.at.path.0 was.at.dest.0 0 v w x so.on.by by_was;
      };
      means = means-after l m n so.means means;
    }
