-- What was seen up to a tick, and what came later. The ticks never fall.
use Rattle.std.proofs.Common.{◌≡◌, ℕ, ◌<◌, ◌≤◌, Bool, true, false, None, Some, List, [], ◌∷◌, ◌++◌, length, take, refl, ap, sym, append-nil, append_assoc, ◌∙◌, arith}
use Rattle.std.specs.Prelude.{fold, nat_le, ◌==◌, ◌&&◌, if◌then◌else◌}
use Rattle.std.specs.List.{AllByRecursion}
use Rattle.std.proofs.lemmas.Bool.Decides.{nat_tests}
use Rattle.std.proofs.lemmas.Grind.{fold-append, flat_map-append}
use Rattle.std.proofs.lemmas.List.{length-append}
use Rattle.std.proofs.lemmas.List.Elements.{filter-append}
use Rattle.tp_unit.specs.Unit.{Meaning, SingleFrame, FirstFrame, ConsecutiveFrame, FlowControl, NoUnit}
use Rattle.tp_attempts.specs.Cuts.{Cut}
use Rattle.tp_attempts.specs.Seen.{Seen}
use Rattle.tp_attempts.specs.Times.{up_to, RisesFrom, as_of, WrongStands}
use Rattle.tp_attempts.specs.Walk.{Piece, Wrong, Walk, joined, due_number, due, is_open, look_at, look, begun, walk_of, reassembled}

-- one more frame: up to that tick, or later
pub up_to-more : (tick : ℕ) (seen : List Seen) (frame : Seen) → frame.at ≤ tick → up_to tick (seen ++ frame ∷ []) ≡ up_to tick seen ++ frame ∷ []
up_to-more tick seen frame early =
    let is : nat_le frame.at tick ≡ true = grind (arith, nat_tests) in
    filter-append (λ (s : Seen). nat_le s.at tick) seen (frame ∷ []) ∙ rw is refl

pub up_to-later : (tick : ℕ) (seen : List Seen) (frame : Seen) → tick < frame.at → up_to tick (seen ++ frame ∷ []) ≡ up_to tick seen
up_to-later tick seen frame late =
    let is : nat_le frame.at tick ≡ false = grind (arith, nat_tests) in
    filter-append (λ (s : Seen). nat_le s.at tick) seen (frame ∷ []) ∙ rw (is, append-nil) refl

-- the early frames are a front, and all others are above the tick
pub record Split (tick : ℕ) (seen early : List Seen) : Type 0 where
  pub late : List Seen
  pub all : seen ≡ early ++ late
  pub above : AllByRecursion (λ (s : Seen). tick < s.at) late

pub none_later : (tick now : ℕ) (seen : List Seen) → tick < now → RisesFrom now seen → (up_to tick seen ≡ []) × AllByRecursion (λ (s : Seen). tick < s.at) seen
none_later tick now [] late rises = (refl, tt)
none_later tick now (frame ∷ frames) late rises =
    let above : tick < frame.at = omega (arith, rises.0) in
    let is : nat_le frame.at tick ≡ false = grind (arith, nat_tests) in
    let others : (up_to tick frames ≡ []) × AllByRecursion (λ (s : Seen). tick < s.at) frames = none_later tick frame.at frames above rises.1 in
    (rw is others.0, (above, others.1))

splits-by : (tick : ℕ) (frame : Seen) (frames : List Seen) (early : Bool) → nat_le frame.at tick ≡ early → RisesFrom frame.at frames → Split tick frames (up_to tick frames) → Split tick (frame ∷ frames) (up_to tick (frame ∷ frames))
splits-by tick frame frames true is rises others = rw is (record { late = others.late; all = ap (λ l. frame ∷ l) others.all; above = others.above })
splits-by tick frame frames false is rises others =
    let above : tick < frame.at = grind (arith, nat_tests) in
    let none : (up_to tick frames ≡ []) × AllByRecursion (λ (s : Seen). tick < s.at) frames = none_later tick frame.at frames above rises in
    rw (is, none.0) (record { late = frame ∷ frames; all = refl; above = (above, none.1) })

pub splits : (tick now : ℕ) (seen : List Seen) → RisesFrom now seen → Split tick seen (up_to tick seen)
splits tick now [] rises = record { late = []; all = refl; above = tt }
splits tick now (frame ∷ frames) rises = splits-by tick frame frames (nat_le frame.at tick) refl rises.1 (splits tick frame.at frames rises.1)

-- an attempt that went on: further pieces above the tick, and a wrong number stays
pub record Onward (tick : ℕ) (before after : Walk) : Type 0 where
  pub more : List Piece
  pub pieces : after.pieces ≡ before.pieces ++ more
  pub above : AllByRecursion (λ (p : Piece). tick < p.at) more
  pub wrong : (w : Wrong) → before.wrong ≡ Some w → after.wrong ≡ Some w

pub onward-same : (tick : ℕ) (walk : Walk) → Onward tick walk walk
onward-same tick walk = record { more = []; pieces = sym (append-nil walk.pieces); above = tt; wrong = λ w is. is }

all-append : (tick : ℕ) (xs ys : List Piece) → AllByRecursion (λ (p : Piece). tick < p.at) xs → AllByRecursion (λ (p : Piece). tick < p.at) ys → AllByRecursion (λ (p : Piece). tick < p.at) (xs ++ ys)
all-append tick [] ys above others = others
all-append tick (x ∷ xs) ys above others = (above.0, all-append tick xs ys above.1 others)

pub onward-trans : (tick : ℕ) (a b c : Walk) → Onward tick a b → Onward tick b c → Onward tick a c
onward-trans tick a b c first second = record {
  more = first.more ++ second.more;
  pieces = second.pieces ∙ ap (λ l. l ++ second.more) first.pieces ∙ append_assoc a.pieces first.more second.more;
  above = all-append tick first.more second.more first.above second.above;
  wrong = λ w is. second.wrong w (first.wrong w is);
}

either : (tick : ℕ) (walk counted ended : Walk) (looks right : Bool) → Onward tick walk counted → (looks ≡ true → Onward tick walk ended) → Onward tick walk (if looks then (if right then counted else ended) else walk)
either tick walk counted ended true true adds ends = adds
either tick walk counted ended true false adds ends = ends refl
either tick walk counted ended false right adds ends = onward-same tick walk

pub look_at-onward : (address tick : ℕ) (walk : Walk) (at size : ℕ) (meaning : Meaning) → tick < at → Onward tick walk (look_at address walk at size meaning)
look_at-onward address tick walk at size (ConsecutiveFrame number bytes) late =
    either tick walk
    (record walk { pieces = walk.pieces ++ record { at = at; bytes = take (due address walk) bytes } ∷ [] })
    (record walk { wrong = Some (record { at = at; want = due_number walk; got = number }) })
    (is_open walk && nat_le size walk.size && nat_le (due address walk) (length bytes))
    (number == due_number walk)
    (record { more = record { at = at; bytes = take (due address walk) bytes } ∷ []; pieces = refl; above = (late, tt); wrong = λ w is. is })
    (λ looks. record { more = []; pieces = sym (append-nil walk.pieces); above = tt; wrong = λ w is. grind (arith, nat_tests) })
look_at-onward address tick walk at size (SingleFrame bytes) late = onward-same tick walk
look_at-onward address tick walk at size (FirstFrame len bytes) late = onward-same tick walk
look_at-onward address tick walk at size (FlowControl status block_size separation) late = onward-same tick walk
look_at-onward address tick walk at size (NoUnit why) late = onward-same tick walk

pub goes_on : (address tick : ℕ) (walk : Walk) (late : List Seen) → AllByRecursion (λ (s : Seen). tick < s.at) late → Onward tick walk (fold (look address) walk late)
goes_on address tick walk [] above = onward-same tick walk
goes_on address tick walk (frame ∷ frames) above =
    onward-trans tick walk (look address walk frame) (fold (look address) (look address walk frame) frames) (look_at-onward address tick walk frame.at frame.size frame.meaning above.0) (goes_on address tick (look address walk frame) frames above.1)

pub as_of-goes_on : (address tick now : ℕ) (cut : Cut Seen) → RisesFrom now cut.after → Onward tick (walk_of address (as_of tick cut)) (walk_of address cut)
as_of-goes_on address tick now cut rises =
    let split : Split tick cut.after (up_to tick cut.after) = splits tick now cut.after rises in
    let whole : walk_of address cut ≡ fold (look address) (walk_of address (as_of tick cut)) split.late =
    ap (fold (look address) (begun cut.start)) split.all ∙ fold-append (look address) (begun cut.start) (up_to tick cut.after) split.late in
    rw whole (goes_on address tick (walk_of address (as_of tick cut)) split.late split.above)

-- what an attempt has up to a tick is a front of what it has
pub bytes_grow : (address tick now : ℕ) (cut : Cut Seen) → RisesFrom now cut.after → length (reassembled address (as_of tick cut)) ≤ length (reassembled address cut)
bytes_grow address tick now cut rises =
    let on : Onward tick (walk_of address (as_of tick cut)) (walk_of address cut) = as_of-goes_on address tick now cut rises in
    let bytes : reassembled address cut ≡ reassembled address (as_of tick cut) ++ joined on.more =
    ap joined on.pieces ∙ flat_map-append (λ (p : Piece). p.bytes) (walk_of address (as_of tick cut)).pieces on.more in
    rw (bytes, length-append) (omega arith)

-- no wrong number is passed over
pub none_passed_over : (address now : ℕ) (cut : Cut Seen) → RisesFrom now cut.after → (walk_of address cut).wrong ≡ None → (tick : ℕ) → WrongStands address cut tick → ⊥
none_passed_over address now cut rises right tick stands =
    let still : (walk_of address cut).wrong ≡ Some stands.0 = (as_of-goes_on address tick now cut rises).wrong stands.0 stands.1 in cc
