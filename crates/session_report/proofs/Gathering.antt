-- Lines that are gathered one after the other.
use Rattle.std.proofs.Common.{◌≡◌, ℕ, ◌+◌, ◌<◌, ◌≤◌, Bool, true, false, cond, eqb, ◌&&◌, ◌||◌, List, [], ◌∷◌, ◌++◌, length, Option, Some, None, inl, inr, is_some, true≢false, refl, sym, ap, ◌∙◌, subst, append_assoc, append-nil, length-append, arith}
use Rattle.std.proofs.lemmas.Bool.{cases_Bool, cases_lt, eqb-true, eqb-false, ne_eqb}
use Rattle.std.proofs.lemmas.Bool.Decides.{nat_tests}
use Rattle.std.proofs.lemmas.List.{map-append}
use Rattle.std.proofs.lemmas.List.Elements.{All-append, All-cons, All-nil}
use Rattle.std.proofs.lemmas.Option.{none-some, same_Some}
use Rattle.session_report.specs.Lines.{fields_of, line_before, lines_before}
use Rattle.session_report.specs.Orders.{AreInOrder, IsVersion, LineFits, follows, move_goes_on}
use Rattle.session_report.specs.Reading.{AreRead, AreUpTo, StopsAt, added, last_from, line_at, lines_in, no_parts, place_of, pools_in}
use Rattle.session_report.specs.declared.line.Line.{Line}
use Rattle.session_report.specs.declared.line.Line.TheVariants.{Session, Dest, Interface, Move, Pool}
use Rattle.session_report.specs.declared.parts.Parts.{Parts}
use Rattle.session_report.specs.declared.report.GroupMove.{GroupMove}
use Rattle.session_report.specs.declared.report.GroupPool.{GroupPool}
use Rattle.session_report.specs.declared.report.PoolLine.{PoolLine}
use Rattle.session_report.proofs.LineLaws.{line_again, line_takes}

-- ---- a line more

pub order_push : (version : ℕ) (last : Option Line) (lines : List Line) (line : Line) → AreInOrder version last lines → LineFits version line →
    follows (last_from last lines) line ≡ true → AreInOrder version last (lines ++ line ∷ [])
unfolding AreInOrder
order_push version last [] line all fits next = (fits, next, tt)
order_push version last (first ∷ lines) line all fits next = (all.0, all.1, order_push version (Some first) lines line all.2 fits next)

pub text_push : (version : ℕ) (lines : List Line) (line : Line) (rest : List ℕ) →
    lines_before version (lines ++ line ∷ []) rest ≡ lines_before version lines (line_before (fields_of version line) rest)
unfolding lines_before
text_push version [] line rest = refl
text_push version (first ∷ lines) line rest = ap (λ t. line_before (fields_of version first) t) (text_push version lines line rest)

pub last_push : (last : Option Line) (lines : List Line) (line : Line) → last_from last (lines ++ line ∷ []) ≡ Some line
last_push last [] line = refl
last_push last (first ∷ lines) line = last_push (Some first) lines line

-- ---- the places of lines

move_low : (b : Bool) → 4 ≤ cond b 4 5
move_low true = omega arith
move_low false = omega arith

move_high : (b : Bool) → cond b 4 5 ≤ 5
move_high true = omega arith
move_high false = omega arith

pool_low : (b : Bool) → 6 ≤ cond b 6 7
pool_low true = omega arith
pool_low false = omega arith

pool_high : (b : Bool) → cond b 6 7 ≤ 7
pool_high true = omega arith
pool_high false = omega arith

move_rises : (a b : Bool) → (b ≡ true → a ≡ true) → cond a 4 5 ≤ cond b 4 5
move_rises true b h = move_low b
move_rises false true h = absurd (true≢false (sym (h refl)))
move_rises false false h = omega arith

same_group : (a b : GroupMove) → move_goes_on a b ≡ true → eqb b.group 0 ≡ true → eqb a.group 0 ≡ true
same_group a b e first = grind (arith, nat_tests, e, first)

-- a line that may stand after the last one has no lower place
place_rises : (last : Option Line) (line : Line) → follows last line ≡ true → place_of last ≤ place_of (Some line)
place_rises None line e = omega arith
place_rises (Some (Session a)) (Session b) e = omega arith
place_rises (Some (Session a)) (Dest b) e = omega arith
place_rises (Some (Session a)) (Interface b) e = omega arith
place_rises (Some (Session a)) (Move b) e = let low = move_low (eqb b.group 0) in omega (arith, low)
place_rises (Some (Session a)) (Pool b) e = let low = pool_low (eqb b.group 0) in omega (arith, low)
place_rises (Some (Dest a)) (Session b) e = absurd cc
place_rises (Some (Dest a)) (Dest b) e = omega arith
place_rises (Some (Dest a)) (Interface b) e = omega arith
place_rises (Some (Dest a)) (Move b) e = let low = move_low (eqb b.group 0) in omega (arith, low)
place_rises (Some (Dest a)) (Pool b) e = let low = pool_low (eqb b.group 0) in omega (arith, low)
place_rises (Some (Interface a)) (Session b) e = absurd cc
place_rises (Some (Interface a)) (Dest b) e = absurd cc
place_rises (Some (Interface a)) (Interface b) e = omega arith
place_rises (Some (Interface a)) (Move b) e = let low = move_low (eqb b.group 0) in omega (arith, low)
place_rises (Some (Interface a)) (Pool b) e = let low = pool_low (eqb b.group 0) in omega (arith, low)
place_rises (Some (Move a)) (Session b) e = absurd cc
place_rises (Some (Move a)) (Dest b) e = absurd cc
place_rises (Some (Move a)) (Interface b) e = absurd cc
place_rises (Some (Move a)) (Move b) e = move_rises (eqb a.group 0) (eqb b.group 0) (λ first. same_group a b e first)
place_rises (Some (Move a)) (Pool b) e = let low = pool_low (eqb b.group 0) in let high = move_high (eqb a.group 0) in omega (arith, low, high)
place_rises (Some (Pool a)) (Session b) e = absurd cc
place_rises (Some (Pool a)) (Dest b) e = absurd cc
place_rises (Some (Pool a)) (Interface b) e = absurd cc
place_rises (Some (Pool a)) (Move b) e = absurd cc
place_rises (Some (Pool a)) (Pool b) e =
    let next = eqb-true (a.group + 1) b.group e in
    let high = pool_high (eqb a.group 0) in
    let other : eqb b.group 0 ≡ false = ne_eqb b.group 0 (λ is. omega (arith, is, next)) in
    rw other high

-- the first pool stands after no pool
first_pool : (last : Option Line) (g : GroupPool) → follows last (Pool g) ≡ true → g.group ≡ 0 → place_of last < 6
first_pool None g e first = omega arith
first_pool (Some (Session a)) g e first = omega arith
first_pool (Some (Dest a)) g e first = omega arith
first_pool (Some (Interface a)) g e first = omega arith
first_pool (Some (Move a)) g e first = let high = move_high (eqb a.group 0) in omega (arith, high)
first_pool (Some (Pool a)) g e first = let next = eqb-true (a.group + 1) g.group e in absurd (omega (arith, next, first))

begins_first : (a b : Bool) → ((a && b) || false) ≡ true → b ≡ true
begins_first true true e = refl
begins_first true false e = absurd cc
begins_first false b e = absurd cc

-- another one stands after a pool
other_pool : (last : Option Line) (g : GroupPool) → follows last (Pool g) ≡ true → 0 < g.group → 6 ≤ place_of last
other_pool None g e other = let none = eqb-true g.group 0 e in absurd (omega (arith, none, other))
other_pool (Some (Session a)) g e other = let none = eqb-true g.group 0 (begins_first true (eqb g.group 0) e) in absurd (omega (arith, none, other))
other_pool (Some (Dest a)) g e other = let none = eqb-true g.group 0 (begins_first true (eqb g.group 0) e) in absurd (omega (arith, none, other))
other_pool (Some (Interface a)) g e other = let none = eqb-true g.group 0 (begins_first true (eqb g.group 0) e) in absurd (omega (arith, none, other))
other_pool (Some (Move a)) g e other = let none = eqb-true g.group 0 (begins_first true (eqb g.group 0) e) in absurd (omega (arith, none, other))
other_pool (Some (Pool a)) g e other = pool_low (eqb a.group 0)

-- ---- the parts with a line more

-- what the parts with a line more hold, and how far they go
record Gathers (parts : Parts) (line : Line) : Type 0 where
  pub lines : lines_in (added parts line) ≡ lines_in parts ++ line ∷ []
  pub up_to : AreUpTo (added parts line) (place_of (Some line))

first_move : (parts : Parts) (last : Option Line) (m : GroupMove) → AreUpTo parts (place_of last) → follows last (Move m) ≡ true → eqb m.group 0 ≡ true → Gathers parts (Move m)
first_move parts last m up e first =
    let place : place_of (Some (Move m)) ≡ 4 = rw first refl in
    let rises = place_rises last (Move m) e in
    let none : m.group ≡ 0 = eqb-true m.group 0 first in
    let other_moves = up.other_moves (omega (arith, rises, place)) in
    let no_pool = up.no_pool (omega (arith, rises, place)) in
    let other_pools = up.other_pools (omega (arith, rises, place)) in
    let made : added parts (Move m) ≡ record parts { moves = parts.moves ++ m.made ∷ [] } = rw first refl in
    let same : Move (record { group = 0; made = m.made }) ≡ Move m = ap (λ (g : ℕ). Move (record { group = g; made = m.made })) (sym none) in
    record {
      lines =
          ap lines_in made
          ∙ rw (other_moves, no_pool, other_pools) (simp (map-append, append-nil, append_assoc))
          ∙ ap (λ (l : Line). lines_in parts ++ l ∷ []) same;
      up_to = subst (λ (p : Parts). AreUpTo p (place_of (Some (Move m)))) (sym made)
          (record { dests = λ h. absurd (omega (arith, h, place)); ifs = λ h. absurd (omega (arith, h, place)); moves = λ h. absurd (omega (arith, h, place)); other_moves = λ h. other_moves; no_pool = λ h. no_pool; a_pool = λ h. absurd (omega (arith, h, place)); other_pools = λ h. other_pools; groups = up.groups });
    }

other_move : (parts : Parts) (last : Option Line) (m : GroupMove) → AreUpTo parts (place_of last) → follows last (Move m) ≡ true → eqb m.group 0 ≡ false → Gathers parts (Move m)
other_move parts last m up e other =
    let place : place_of (Some (Move m)) ≡ 5 = rw other refl in
    let rises = place_rises last (Move m) e in
    let some : 0 < m.group = let ne = eqb-false m.group 0 other in omega (arith, ne) in
    let no_pool = up.no_pool (omega (arith, rises, place)) in
    let other_pools = up.other_pools (omega (arith, rises, place)) in
    let made : added parts (Move m) ≡ record parts { other_moves = parts.other_moves ++ m ∷ [] } = rw other refl in
    record {
      lines = ap lines_in made ∙ rw (no_pool, other_pools) (simp (map-append, append-nil, append_assoc));
      up_to = subst (λ (p : Parts). AreUpTo p (place_of (Some (Move m)))) (sym made)
          (record {
            dests = λ h. absurd (omega (arith, h, place));
            ifs = λ h. absurd (omega (arith, h, place));
            moves = λ h. absurd (omega (arith, h, place));
            other_moves = λ h. absurd (omega (arith, h, place));
            no_pool = λ h. no_pool;
            a_pool = λ h. absurd (omega (arith, h, place));
            other_pools = λ h. other_pools;
            groups = All-append (λ (m : GroupMove). 0 < m.group) parts.other_moves (m ∷ []) up.groups (All-cons (λ (m : GroupMove). 0 < m.group) m [] some (All-nil (λ (m : GroupMove). 0 < m.group)));
          });
    }

gathers_first : (parts : Parts) (last : Option Line) (g : GroupPool) → AreUpTo parts (place_of last) → follows last (Pool g) ≡ true → eqb g.group 0 ≡ true → Gathers parts (Pool g)
gathers_first parts last g up e first =
    let place : place_of (Some (Pool g)) ≡ 6 = rw first refl in
    let none : g.group ≡ 0 = eqb-true g.group 0 first in
    let before = first_pool last g e none in
    let no_pool = up.no_pool before in
    let other_pools = up.other_pools (omega (arith, before)) in
    let made : added parts (Pool g) ≡ record parts { pool = Some g.pool } = rw first refl in
    let same : Pool (record { group = 0; pool = g.pool }) ≡ Pool g = ap (λ (n : ℕ). Pool (record { group = n; pool = g.pool })) (sym none) in
    record {
      lines =
          ap lines_in made
          ∙ rw (no_pool, other_pools) (simp (append-nil, append_assoc))
          ∙ ap (λ (l : Line). lines_in parts ++ l ∷ []) same;
      up_to = subst (λ (p : Parts). AreUpTo p (place_of (Some (Pool g)))) (sym made)
          (record { dests = λ h. absurd (omega (arith, h, place)); ifs = λ h. absurd (omega (arith, h, place)); moves = λ h. absurd (omega (arith, h, place)); other_moves = λ h. absurd (omega (arith, h, place)); no_pool = λ h. absurd (omega (arith, h, place)); a_pool = λ h. refl; other_pools = λ h. other_pools; groups = up.groups });
    }

pools_push : (pool : Option PoolLine) (others : List GroupPool) (g : GroupPool) → pools_in pool (others ++ g ∷ []) ≡ pools_in pool others ++ Pool g ∷ []
pools_push None others g = map-append Pool others (g ∷ [])
pools_push (Some pool) others g = ap (λ t. Pool (record { group = 0; pool = pool }) ∷ t) (map-append Pool others (g ∷ []))

gathers_other : (parts : Parts) (last : Option Line) (g : GroupPool) → AreUpTo parts (place_of last) → follows last (Pool g) ≡ true → eqb g.group 0 ≡ false → Gathers parts (Pool g)
gathers_other parts last g up e other =
    let place : place_of (Some (Pool g)) ≡ 7 = rw other refl in
    let some : 0 < g.group = let ne = eqb-false g.group 0 other in omega (arith, ne) in
    let before = other_pool last g e some in
    let made : added parts (Pool g) ≡ record parts { other_pools = parts.other_pools ++ g ∷ [] } = rw other refl in
    record {
      lines = ap lines_in made ∙ rw (pools_push parts.pool parts.other_pools g) (simp append_assoc);
      up_to = subst (λ (p : Parts). AreUpTo p (place_of (Some (Pool g)))) (sym made)
          (record { dests = λ h. absurd (omega (arith, h, place)); ifs = λ h. absurd (omega (arith, h, place)); moves = λ h. absurd (omega (arith, h, place)); other_moves = λ h. absurd (omega (arith, h, place)); no_pool = λ h. absurd (omega (arith, h, place)); a_pool = λ h. up.a_pool before; other_pools = λ h. absurd (omega (arith, h, place)); groups = up.groups });
    }

gathers : (parts : Parts) (last : Option Line) (line : Line) → AreUpTo parts (place_of last) → follows last line ≡ true → Gathers parts line
gathers parts last (Session r) up e =
    let rises = place_rises last (Session r) e in
    let dests = up.dests (omega (arith, rises)) in
    let ifs = up.ifs (omega (arith, rises)) in
    let moves = up.moves (omega (arith, rises)) in
    let other_moves = up.other_moves (omega (arith, rises)) in
    let no_pool = up.no_pool (omega (arith, rises)) in
    let other_pools = up.other_pools (omega (arith, rises)) in
    record {
      lines = rw (dests, ifs, moves, other_moves, no_pool, other_pools) (simp (map-append, append-nil));
      up_to = record { dests = λ h. dests; ifs = λ h. ifs; moves = λ h. moves; other_moves = λ h. other_moves; no_pool = λ h. no_pool; a_pool = λ h. absurd (omega (arith, h)); other_pools = λ h. other_pools; groups = up.groups };
    }
gathers parts last (Dest r) up e =
    let rises = place_rises last (Dest r) e in
    let ifs = up.ifs (omega (arith, rises)) in
    let moves = up.moves (omega (arith, rises)) in
    let other_moves = up.other_moves (omega (arith, rises)) in
    let no_pool = up.no_pool (omega (arith, rises)) in
    let other_pools = up.other_pools (omega (arith, rises)) in
    record {
      lines = rw (ifs, moves, other_moves, no_pool, other_pools) (simp (map-append, append-nil, append_assoc));
      up_to = record { dests = λ h. absurd (omega (arith, h)); ifs = λ h. ifs; moves = λ h. moves; other_moves = λ h. other_moves; no_pool = λ h. no_pool; a_pool = λ h. absurd (omega (arith, h)); other_pools = λ h. other_pools; groups = up.groups };
    }
gathers parts last (Interface r) up e =
    let rises = place_rises last (Interface r) e in
    let moves = up.moves (omega (arith, rises)) in
    let other_moves = up.other_moves (omega (arith, rises)) in
    let no_pool = up.no_pool (omega (arith, rises)) in
    let other_pools = up.other_pools (omega (arith, rises)) in
    record {
      lines = rw (moves, other_moves, no_pool, other_pools) (simp (map-append, append-nil, append_assoc));
      up_to = record { dests = λ h. absurd (omega (arith, h)); ifs = λ h. absurd (omega (arith, h)); moves = λ h. moves; other_moves = λ h. other_moves; no_pool = λ h. no_pool; a_pool = λ h. absurd (omega (arith, h)); other_pools = λ h. other_pools; groups = up.groups };
    }
gathers parts last (Move m) up e = elim (cases_Bool (eqb m.group 0)) [
  | inl first ↦ first_move parts last m up e first
  | inr other ↦ other_move parts last m up e other
]
gathers parts last (Pool g) up e = elim (cases_Bool (eqb g.group 0)) [
  | inl first ↦ gathers_first parts last g up e first
  | inr other ↦ gathers_other parts last g up e other
]

-- ---- the loop

-- a line is longer than what stands after it
pub line_longer : (fields : List (List ℕ)) (rest : List ℕ) → length rest + 1 ≤ length (line_before fields rest)
line_longer [] rest = omega arith
line_longer (field ∷ []) rest = let all = length-append field (10 ∷ rest) in omega (arith, all)
line_longer (field ∷ next ∷ more) rest =
    let later = line_longer (next ∷ more) rest in
    let all = length-append field (32 ∷ line_before (next ∷ more) rest) in
    omega (arith, later, all)

none_read : (version : ℕ) (text : List ℕ) → AreRead version text no_parts None text
unfolding AreInOrder lines_before
none_read version text = record {
  in_order = tt;
  begins = refl;
  last_is = refl;
  up_to = record { dests = λ h. refl; ifs = λ h. refl; moves = λ h. refl; other_moves = λ h. refl; no_pool = λ h. refl; a_pool = λ h. absurd (omega (arith, h)); other_pools = λ h. refl; groups = All-nil (λ (m : GroupMove). 0 < m.group) };
}

pub begins_read : (version : ℕ) (text : List ℕ) (parts : Parts) → parts ≡ no_parts → AreRead version text parts None text × (length (lines_in parts) ≡ 0)
begins_read version text parts e = subst (λ (p : Parts). AreRead version text p None text × (length (lines_in p) ≡ 0)) (sym e) (none_read version text, refl)

-- one line more is read
pub record ReadsOn (version : ℕ) (text : List ℕ) (parts : Parts) (line : Line) (rest after : List ℕ) : Type 0 where
  pub read : AreRead version text (added parts line) (Some line) after
  pub counted : length (lines_in (added parts line)) ≡ length (lines_in parts) + 1
  pub shorter : length after + 1 ≤ length rest

pub reads_on : (version : ℕ) (text : List ℕ) (parts : Parts) (last : Option Line) (line : Line) (rest after : List ℕ) → IsVersion version →
    AreRead version text parts last rest → line_at version rest ≡ Some (line, after) → follows last line ≡ true → ReadsOn version text parts line rest after
reads_on version text parts last line rest after known so_far found next =
    let took = line_takes version known rest (line, after) found in
    let more = gathers parts last line so_far.up_to next in
    let next' : follows (last_from None (lines_in parts)) line ≡ true = ap (λ l. follows l line) so_far.last_is ∙ next in
    record {
      read = record {
        in_order = subst (AreInOrder version None) (sym more.lines) (order_push version None (lines_in parts) line so_far.in_order took.0 next');
        begins =
            so_far.begins ∙ ap (lines_before version (lines_in parts)) took.1
            ∙ sym (text_push version (lines_in parts) line after)
            ∙ ap (λ ls. lines_before version ls after) (sym more.lines);
        last_is = ap (last_from None) more.lines ∙ last_push None (lines_in parts) line;
        up_to = more.up_to;
      };
      counted = ap length more.lines ∙ length-append (lines_in parts) (line ∷ []);
      shorter = rw took.1 (line_longer (fields_of version line) after);
    }

-- the text stops where no line is read
pub no_line : (version number : ℕ) (text : List ℕ) (parts : Parts) (last : Option Line) (rest : List ℕ) → AreRead version text parts last rest → number ≡ length (lines_in parts) + 3 →
    0 < length rest → line_at version rest ≡ None → StopsAt version text number
no_line version number text parts last rest so_far counted some none = record {
  lines = lines_in parts;
  rest = rest;
  counted = counted;
  in_order = so_far.in_order;
  begins = so_far.begins;
  stuck = λ next after fits follows_it is. none-some (next, after) (sym none ∙ ap (line_at version) is ∙ line_again version next after fits);
  unfinished = λ is. absurd (let empty : length rest ≡ 0 = ap length is in omega (arith, empty, some));
}

-- or where the line that is read can't stand
pub no_place : (version number : ℕ) (text : List ℕ) (parts : Parts) (last : Option Line) (rest after : List ℕ) (line : Line) → AreRead version text parts last rest →
    number ≡ length (lines_in parts) + 3 → 0 < length rest → line_at version rest ≡ Some (line, after) → follows last line ≡ false → StopsAt version text number
no_place version number text parts last rest after line so_far counted some found other = record {
  lines = lines_in parts;
  rest = rest;
  counted = counted;
  in_order = so_far.in_order;
  begins = so_far.begins;
  stuck = λ next later fits follows_it is.
      let same : (line, after) ≡ (next, later) = same_Some (line, after) (next, later) (sym found ∙ ap (line_at version) is ∙ line_again version next later fits) in
      let line_is : line ≡ next = ap (λ (x : Line × List ℕ). x.0) same in
      true≢false (sym follows_it ∙ ap (λ l. follows l next) so_far.last_is ∙ ap (follows last) (sym line_is) ∙ other);
  unfinished = λ is. absurd (let empty : length rest ≡ 0 = ap length is in omega (arith, empty, some));
}

-- or where it ends before a pool
pub no_end : (version number : ℕ) (text : List ℕ) (parts : Parts) (last : Option Line) (rest : List ℕ) → AreRead version text parts last rest → number ≡ length (lines_in parts) + 3 →
    length rest ≡ 0 → is_some parts.pool ≡ false → StopsAt version text number
no_end version number text parts last rest so_far counted over none = record {
  lines = lines_in parts;
  rest = rest;
  counted = counted;
  in_order = so_far.in_order;
  begins = so_far.begins;
  stuck = λ next after fits follows_it is.
      let longer = line_longer (fields_of version next) after in
      let same : length rest ≡ length (line_before (fields_of version next) after) = ap length is in
      omega (arith, longer, same, over);
  unfinished = λ is. elim (cases_lt (place_of (last_from None (lines_in parts))) 6) [
    | inl below ↦ below
    | inr above ↦ absurd (true≢false (sym (so_far.up_to.a_pool (subst (λ l. 6 ≤ place_of l) so_far.last_is above)) ∙ none))
  ];
}

pub not_empty : (n : ℕ) → eqb n 0 ≡ false → 0 < n
not_empty n e = let other = eqb-false n 0 e in omega (arith, other)

-- the same, where the parts with the line are given
pub goes_on : (version number : ℕ) (text : List ℕ) (parts more : Parts) (last : Option Line) (line : Line) (rest after : List ℕ) → IsVersion version →
    AreRead version text parts last rest → number ≡ length (lines_in parts) + 3 → number + length rest ≤ length text + 3 →
    line_at version rest ≡ Some (line, after) → follows last line ≡ true → more ≡ added parts line →
    AreRead version text more (Some line) after × (number + 1 ≡ length (lines_in more) + 3) × (number + 1 + length after ≤ length text + 3) × (length after < length rest)
goes_on version number text parts more last line rest after known so_far counted fits found next is =
    let on = reads_on version text parts last line rest after known so_far found next in
    let count : length (lines_in more) ≡ length (lines_in parts) + 1 = ap (λ (p : Parts). length (lines_in p)) is ∙ on.counted in (
      subst (λ (p : Parts). AreRead version text p (Some line) after) (sym is) on.read,
      omega (arith, counted, count),
      omega (arith, fits, on.shorter),
      omega (arith, on.shorter),
    )
