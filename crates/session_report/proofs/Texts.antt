-- A whole text: one report at most is spelled so, and one line at most is its first bad one.
use Rattle.std.proofs.Common.{◌≡◌, ℕ, zero, suc, ◌+◌, ◌-◌, ◌<◌, ◌≤◌, Bool, true, false, cond, eqb, List, [], ◌∷◌, ◌++◌, map, length, take, drop, take-append-drop, length-take-le, IfOk, IfErr, Option, Some, None, Result, Ok, Err, inl, inr, decimal, codes, All, refl, sym, ap, ◌∙◌, subst, append_assoc, append-nil, length-append, arith}
use Rattle.std.proofs.Math.Bridge.{le_prop}
use Rattle.std.proofs.lemmas.Bool.{cases_lt, eqb-true, ne_eqb}
use Rattle.std.proofs.lemmas.List.Elements.{All-head, All-tail}
use Rattle.std.proofs.lemmas.Option.{none-some, same_Some}
use Rattle.tick_clock.specs.declared.clock.Clock.{Clock}
use Rattle.hub_core.specs.declared.record.Move.{Move as PoolMove}
use Rattle.hub_core.specs.declared.record.SessionRecord.{SessionRecord}
use Rattle.hub_core.specs.declared.record.DestRecord.{DestRecord}
use Rattle.if_core.specs.declared.record.IfRecord.{IfRecord}
use Rattle.session_report.specs.Lines.{clock_before, fields_of, line_before, lines_before, lines_of, report_text, version_before}
use Rattle.session_report.specs.Orders.{Answers, AreInOrder, ClockFits, HasCause, HasClock, HasLines, IsFirstBad, IsReport, IsVersion, LineFits, follows}
use Rattle.session_report.specs.Reading.{AreRead, StopsAt, StopsFor, added, clock_at, last_from, line_at, lines_in, no_parts, place_of, version_at}
use Rattle.session_report.specs.declared.fault.ReportFault.{ReportFault}
use Rattle.session_report.specs.declared.fault.ReportFault.TheVariants.{Bad, Memory}
use Rattle.session_report.specs.declared.line.Line.{Line}
use Rattle.session_report.specs.declared.line.Line.TheVariants.{Session, Dest, Interface, Move, Pool}
use Rattle.session_report.specs.declared.parts.Parts.{Parts}
use Rattle.session_report.specs.declared.report.GroupMove.{GroupMove}
use Rattle.session_report.specs.declared.report.GroupPool.{GroupPool}
use Rattle.session_report.specs.declared.report.PoolLine.{PoolLine}
use Rattle.session_report.specs.declared.report.Report.{Report}
use Rattle.session_report.proofs.Gathering.{line_longer}
use Rattle.session_report.proofs.LineLaws.{clock_again, clock_takes, line_again, version_again, version_takes}

-- ---- the first two lines

same_version : (v w : ℕ) (a b : List ℕ) → IsVersion v → IsVersion w → version_before v a ≡ version_before w b → (v ≡ w) × (a ≡ b)
same_version v w a b is also e =
    let same : (v, a) ≡ (w, b) = same_Some (v, a) (w, b) (sym (version_again v a is) ∙ ap version_at e ∙ version_again w b also) in
    (ap (λ (x : ℕ × List ℕ). x.0) same, ap (λ (x : ℕ × List ℕ). x.1) same)

clock_found : (c : Clock) (rest : List ℕ) → ClockFits c → clock_at (clock_before c rest) ≡ Some ((c.start.0, c.period), rest)
clock_found c rest fits = clock_again c.start.0 c.period rest fits.start fits.period c.ticking

same_clock : (c d : Clock) (a b : List ℕ) → ClockFits c → ClockFits d → clock_before c a ≡ clock_before d b → (c.start.0 ≡ d.start.0) × (c.period ≡ d.period) × (a ≡ b)
same_clock c d a b is also e =
    let same : ((c.start.0, c.period), a) ≡ ((d.start.0, d.period), b) = same_Some ((c.start.0, c.period), a) ((d.start.0, d.period), b) (sym (clock_found c a is) ∙ ap clock_at e ∙ clock_found d b also) in
    (ap (λ (x : (ℕ × ℕ) × List ℕ). x.0.0) same, ap (λ (x : (ℕ × ℕ) × List ℕ). x.0.1) same, ap (λ (x : (ℕ × ℕ) × List ℕ). x.1) same)

clock_is : (c d : Clock) → c.start.0 ≡ d.start.0 → c.period ≡ d.period → c ≡ d
clock_is c d starts periods =
    let P : ℕ → Type 0 = λ n. (some : 0 < n) → c ≡ record { start = c.start; period = n; ticking = some } in
    subst P periods (λ some. ap (λ (t : 0 < c.period). record { start = c.start; period = c.period; ticking = t }) (le_prop c.ticking some)) d.ticking
    ∙ ap (λ (n : ℕ). record { start = record { 0 = n }; period = d.period; ticking = d.ticking }) starts

-- ---- lines

same_line : (version : ℕ) (l m : Line) (a b : List ℕ) → LineFits version l → LineFits version m → line_before (fields_of version l) a ≡ line_before (fields_of version m) b → (l ≡ m) × (a ≡ b)
same_line version l m a b is also e =
    let same : (l, a) ≡ (m, b) = same_Some (l, a) (m, b) (sym (line_again version l a is) ∙ ap (line_at version) e ∙ line_again version m b also) in
    (ap (λ (x : Line × List ℕ). x.0) same, ap (λ (x : Line × List ℕ). x.1) same)

-- what comes after some lines of a text that has more of them
pub record Goes (version : ℕ) (last : Option Line) (lines others : List Line) (rest after : List ℕ) : Type 0 where
  pub more : List Line
  pub parts : others ≡ lines ++ more
  pub in_order : AreInOrder version (last_from last lines) more
  pub text : rest ≡ lines_before version more after

goes : (version : ℕ) (last : Option Line) (lines others : List Line) (rest after : List ℕ) → AreInOrder version last lines → AreInOrder version last others →
    lines_before version lines rest ≡ lines_before version others after → length lines ≤ length others → Goes version last lines others rest after
unfolding AreInOrder lines_before
goes version last [] others rest after is also e few = record { more = others; parts = refl; in_order = also; text = e }
goes version last (l ∷ lines) [] rest after is also e few = absurd (omega arith)
goes version last (l ∷ lines) (m ∷ others) rest after is also e few =
    let same = same_line version l m (lines_before version lines rest) (lines_before version others after) is.0 also.0 e in
    let more = goes version (Some l) lines others rest after is.2 (subst (λ (x : Line). AreInOrder version (Some x) others) (sym same.0) also.2) same.1 (omega arith) in
    record {
      more = more.more;
      parts = ap (λ (x : Line). x ∷ others) (sym same.0) ∙ ap (λ (ls : List Line). l ∷ ls) more.parts;
      in_order = more.in_order;
      text = more.text;
    }

-- a part of the lines that stand
pub front_stands : (version : ℕ) (last : Option Line) (lines more : List Line) → AreInOrder version last (lines ++ more) → AreInOrder version last lines
unfolding AreInOrder
front_stands version last [] more all = tt
front_stands version last (l ∷ lines) more all = (all.0, all.1, front_stands version (Some l) lines more all.2)

pub lines_join : (version : ℕ) (lines more : List Line) (rest : List ℕ) → lines_before version (lines ++ more) rest ≡ lines_before version lines (lines_before version more rest)
unfolding lines_before
lines_join version [] more rest = refl
lines_join version (l ∷ lines) more rest = ap (λ t. line_before (fields_of version l) t) (lines_join version lines more rest)

-- ---- the last line of a report

pool_place : (b : Bool) → 6 ≤ cond b 6 7
pool_place true = omega arith
pool_place false = omega arith

pools_last : (last : Option Line) (pools : List GroupPool) → 6 ≤ place_of last → 6 ≤ place_of (last_from last (map Pool pools))
pools_last last [] high = high
pools_last last (g ∷ pools) high = pools_last (Some (Pool g)) pools (pool_place (eqb g.group 0))

last_join : (last : Option Line) (lines more : List Line) → last_from last (lines ++ more) ≡ last_from (last_from last lines) more
last_join last [] more = refl
last_join last (l ∷ lines) more = last_join (Some l) lines more

ends_in_pool : (last : Option Line) (lines : List Line) (pool : PoolLine) (others : List GroupPool) →
    6 ≤ place_of (last_from last (lines ++ Pool (record { group = 0; pool = pool }) ∷ map Pool others))
ends_in_pool last lines pool others =
    rw (last_join last lines (Pool (record { group = 0; pool = pool }) ∷ map Pool others)) (pools_last (Some (Pool (record { group = 0; pool = pool }))) others (omega arith))

report_ends : (r : Report) → 6 ≤ place_of (last_from None (lines_of r))
report_ends r =
    let before : List Line = map Session r.sessions ++ (map Dest r.dests ++ (map Interface r.ifs ++ (map (λ m. Move (record { group = 0; made = m })) r.moves ++ map Move r.other_moves))) in
    let grouped : lines_of r ≡ before ++ Pool (record { group = 0; pool = r.pool }) ∷ map Pool r.other_pools = simp append_assoc in
    subst (λ ls. 6 ≤ place_of (last_from None ls)) (sym grouped) (ends_in_pool None before r.pool r.other_pools)

-- ---- the first bad line

-- a text that stops at a line has no report, and no more lines than those before it
pub record Stuck (version : ℕ) (text : List ℕ) (line : ℕ) : Type 0 where
  pub before : ℕ
  pub counted : line ≡ suc (suc (suc before))
  pub lines : List Line
  pub long : length lines ≡ before
  pub rest : List ℕ
  pub in_order : AreInOrder version None lines
  pub begins : text ≡ lines_before version lines rest
  pub no_more : (others : List Line) (after : List ℕ) → AreInOrder version None others → text ≡ lines_before version others after → length others ≡ suc before → ⊥
  pub no_report : (r : Report) → AreInOrder version None (lines_of r) → text ≡ lines_before version (lines_of r) [] → ⊥

-- where one line more stands, the text isn't stuck before it
one_more : (version : ℕ) (lines : List Line) (rest after : List ℕ) (others more : List Line) → others ≡ lines ++ more → length others ≡ suc (length lines) →
    AreInOrder version (last_from None lines) more → rest ≡ lines_before version more after →
    ((next : Line) (after : List ℕ) → LineFits version next → follows (last_from None lines) next ≡ true → rest ≡ line_before (fields_of version next) after → ⊥) → ⊥
unfolding AreInOrder lines_before
one_more version lines rest after others [] parts long is e stuck =
    let count = ap length parts ∙ length-append lines [] in omega (arith, count, long)
one_more version lines rest after others (next ∷ more) parts long is e stuck = stuck next (lines_before version more after) is.0 is.1 e

-- nothing stands after the end
nothing_more : (version : ℕ) (more : List Line) (rest : List ℕ) → 0 < length more → [] ≡ lines_before version more rest → ⊥
unfolding lines_before
nothing_more version [] rest some e = omega (arith, some)
nothing_more version (next ∷ more) rest some e =
    let longer = line_longer (fields_of version next) (lines_before version more rest) in
    let same = ap length e in
    omega (arith, longer, same)

-- a report that goes on from where the text is stuck
ends_so : (version : ℕ) (lines : List Line) (rest : List ℕ) (others more : List Line) → others ≡ lines ++ more → AreInOrder version (last_from None lines) more →
    rest ≡ lines_before version more [] →
    ((next : Line) (after : List ℕ) → LineFits version next → follows (last_from None lines) next ≡ true → rest ≡ line_before (fields_of version next) after → ⊥) →
    (rest ≡ [] → place_of (last_from None lines) < 6) → 6 ≤ place_of (last_from None others) → ⊥
unfolding AreInOrder lines_before
ends_so version lines rest others [] parts is e stuck finish ends =
    let low = finish e in
    let same : others ≡ lines = parts ∙ append-nil lines in
    let high : 6 ≤ place_of (last_from None lines) = subst (λ ls. 6 ≤ place_of (last_from None ls)) same ends in
    omega (arith, low, high)
ends_so version lines rest others (next ∷ more) parts is e stuck finish ends = stuck next (lines_before version more []) is.0 is.1 e

no_more_lines : (version : ℕ) (text : List ℕ) (line : ℕ) (stops : StopsAt version text line) (others : List Line) (after : List ℕ) → AreInOrder version None others →
    text ≡ lines_before version others after → length others ≡ suc (length stops.lines) → ⊥
unfolding AreInOrder lines_before
no_more_lines version text line stops others after is e long =
    let g = goes version None stops.lines others stops.rest after stops.in_order is (sym stops.begins ∙ e) (omega (arith, long)) in
    one_more version stops.lines stops.rest after others g.more g.parts long g.in_order g.text stops.stuck

no_report_there : (version : ℕ) (text : List ℕ) (line : ℕ) (stops : StopsAt version text line) (r : Report) → AreInOrder version None (lines_of r) → text ≡ lines_before version (lines_of r) [] → ⊥
no_report_there version text line stops r is e =
    elim (cases_lt (length (lines_of r)) (length stops.lines)) [
      | inl fewer ↦
          let g = goes version None (lines_of r) stops.lines [] stops.rest is stops.in_order (sym e ∙ stops.begins) (omega (arith, fewer)) in
          let long : length stops.lines ≡ length (lines_of r) + length g.more = ap length g.parts ∙ length-append (lines_of r) g.more in
          nothing_more version g.more stops.rest (omega (arith, long, fewer)) g.text
      | inr as_many ↦
          let g = goes version None stops.lines (lines_of r) stops.rest [] stops.in_order is (sym stops.begins ∙ e) as_many in
          ends_so version stops.lines stops.rest (lines_of r) g.more g.parts g.in_order g.text stops.stuck stops.unfinished (report_ends r)
    ]

pub stuck_at : (version : ℕ) (text : List ℕ) (line : ℕ) → StopsAt version text line → Stuck version text line
stuck_at version text line stops = record {
  before = length stops.lines;
  counted = omega (arith, stops.counted);
  lines = stops.lines;
  long = refl;
  rest = stops.rest;
  in_order = stops.in_order;
  begins = stops.begins;
  no_more = λ others after is e long. no_more_lines version text line stops others after is e long;
  no_report = λ r is e. no_report_there version text line stops r is e;
}

-- ---- one report at most

unfoldable gathered : Parts → List Line → Parts
gathered p [] = p
gathered p (l ∷ lines) = gathered (added p l) lines

gather_sessions : (p : Parts) (xs : List SessionRecord) (more : List Line) → gathered p (map Session xs ++ more) ≡ gathered (record p { sessions = p.sessions ++ xs }) more
unfolding gathered
gather_sessions p [] more = ap (λ (t : List SessionRecord). gathered (record p { sessions = t }) more) (sym (append-nil p.sessions))
gather_sessions p (x ∷ xs) more = gather_sessions (record p { sessions = p.sessions ++ x ∷ [] }) xs more ∙ ap (λ (t : List SessionRecord). gathered (record p { sessions = t }) more) (append_assoc p.sessions (x ∷ []) xs)

gather_dests : (p : Parts) (xs : List DestRecord) (more : List Line) → gathered p (map Dest xs ++ more) ≡ gathered (record p { dests = p.dests ++ xs }) more
unfolding gathered
gather_dests p [] more = ap (λ (t : List DestRecord). gathered (record p { dests = t }) more) (sym (append-nil p.dests))
gather_dests p (x ∷ xs) more = gather_dests (record p { dests = p.dests ++ x ∷ [] }) xs more ∙ ap (λ (t : List DestRecord). gathered (record p { dests = t }) more) (append_assoc p.dests (x ∷ []) xs)

gather_ifs : (p : Parts) (xs : List IfRecord) (more : List Line) → gathered p (map Interface xs ++ more) ≡ gathered (record p { ifs = p.ifs ++ xs }) more
unfolding gathered
gather_ifs p [] more = ap (λ (t : List IfRecord). gathered (record p { ifs = t }) more) (sym (append-nil p.ifs))
gather_ifs p (x ∷ xs) more = gather_ifs (record p { ifs = p.ifs ++ x ∷ [] }) xs more ∙ ap (λ (t : List IfRecord). gathered (record p { ifs = t }) more) (append_assoc p.ifs (x ∷ []) xs)

gather_moves : (p : Parts) (xs : List PoolMove) (more : List Line) → gathered p (map (λ m. Move (record { group = 0; made = m })) xs ++ more) ≡ gathered (record p { moves = p.moves ++ xs }) more
unfolding gathered
gather_moves p [] more = ap (λ (t : List PoolMove). gathered (record p { moves = t }) more) (sym (append-nil p.moves))
gather_moves p (x ∷ xs) more = gather_moves (record p { moves = p.moves ++ x ∷ [] }) xs more ∙ ap (λ (t : List PoolMove). gathered (record p { moves = t }) more) (append_assoc p.moves (x ∷ []) xs)

gather_others : (p : Parts) (xs : List GroupMove) (more : List Line) → All (λ m. 0 < m.group) xs → gathered p (map Move xs ++ more) ≡ gathered (record p { other_moves = p.other_moves ++ xs }) more
unfolding gathered
gather_others p [] more all = ap (λ (t : List GroupMove). gathered (record p { other_moves = t }) more) (sym (append-nil p.other_moves))
gather_others p (x ∷ xs) more all =
    let some : 0 < x.group = All-head (λ (m : GroupMove). 0 < m.group) x xs all in
    let step : added p (Move x) ≡ record p { other_moves = p.other_moves ++ x ∷ [] } = rw (ne_eqb x.group 0 (λ is. omega (arith, is, some))) refl in
    ap (λ (q : Parts). gathered q (map Move xs ++ more)) step
    ∙ gather_others (record p { other_moves = p.other_moves ++ x ∷ [] }) xs more (All-tail (λ (m : GroupMove). 0 < m.group) x xs all)
    ∙ ap (λ (t : List GroupMove). gathered (record p { other_moves = t }) more) (append_assoc p.other_moves (x ∷ []) xs)

gather_pools : (version : ℕ) (p : Parts) (g : GroupPool) (xs : List GroupPool) → AreInOrder version (Some (Pool g)) (map Pool xs) → gathered p (map Pool xs) ≡ record p { other_pools = p.other_pools ++ xs }
unfolding gathered AreInOrder
gather_pools version p g [] all = ap (λ (t : List GroupPool). record p { other_pools = t }) (sym (append-nil p.other_pools))
gather_pools version p g (x ∷ xs) all =
    let next = eqb-true (g.group + 1) x.group all.1 in
    let step : added p (Pool x) ≡ record p { other_pools = p.other_pools ++ x ∷ [] } = rw (ne_eqb x.group 0 (λ is. omega (arith, is, next))) refl in
    ap (λ (q : Parts). gathered q (map Pool xs)) step
    ∙ gather_pools version (record p { other_pools = p.other_pools ++ x ∷ [] }) x xs all.2
    ∙ ap (λ (t : List GroupPool). record p { other_pools = t }) (append_assoc p.other_pools (x ∷ []) xs)

-- the lines after some that stand
rest_stands : (version : ℕ) (last : Option Line) (lines more : List Line) → AreInOrder version last (lines ++ more) → AreInOrder version (last_from last lines) more
unfolding AreInOrder
rest_stands version last [] more all = all
rest_stands version last (l ∷ lines) more all = rest_stands version (Some l) lines more all.2

pools_stand : (version : ℕ) (last : Option Line) (g : GroupPool) (more : List Line) → AreInOrder version last (Pool g ∷ more) → AreInOrder version (Some (Pool g)) more
unfolding AreInOrder
pools_stand version last g more all = all.2

abbrev parts_of : Report → Parts
parts_of r = record { sessions = r.sessions; dests = r.dests; ifs = r.ifs; moves = r.moves; pool = Some r.pool; other_moves = r.other_moves; other_pools = r.other_pools }

gathers_report : (r : Report) → IsReport r → gathered no_parts (lines_of r) ≡ parts_of r
unfolding gathered
gathers_report r is =
    let before : List Line = map Session r.sessions ++ (map Dest r.dests ++ (map Interface r.ifs ++ (map (λ m. Move (record { group = 0; made = m })) r.moves ++ map Move r.other_moves))) in
    let first : GroupPool = record { group = 0; pool = r.pool } in
    let grouped : lines_of r ≡ before ++ Pool first ∷ map Pool r.other_pools = simp append_assoc in
    let stands : AreInOrder r.version (Some (Pool first)) (map Pool r.other_pools) =
    pools_stand r.version (last_from None before) first (map Pool r.other_pools) (rest_stands r.version None before (Pool first ∷ map Pool r.other_pools) (subst (AreInOrder r.version None) grouped is.lines)) in
    gather_sessions no_parts r.sessions _
    ∙ gather_dests _ r.dests _
    ∙ gather_ifs _ r.ifs _
    ∙ gather_moves _ r.moves _
    ∙ gather_others _ r.other_moves _ is.others
    ∙ gather_pools r.version _ first r.other_pools stands

abbrev pool_of : Option PoolLine → PoolLine
pool_of None = record { buffers = 0; changes = 0; free = 0 }
pool_of (Some pool) = pool

abbrev report_of : ℕ → Clock → Parts → Report
report_of version clock p = record { version = version; clock = clock; sessions = p.sessions; dests = p.dests; ifs = p.ifs; moves = p.moves; pool = pool_of p.pool; other_moves = p.other_moves; other_pools = p.other_pools }

same_lines : (version : ℕ) (last : Option Line) (lines others : List Line) → AreInOrder version last lines → AreInOrder version last others → lines_before version lines [] ≡ lines_before version others [] → lines ≡ others
unfolding AreInOrder lines_before
same_lines version last [] [] is also e = refl
same_lines version last [] (m ∷ others) is also e =
    let longer = line_longer (fields_of version m) (lines_before version others []) in let same = ap length e in absurd (omega (arith, longer, same))
same_lines version last (l ∷ lines) [] is also e =
    let longer = line_longer (fields_of version l) (lines_before version lines []) in let same = ap length e in absurd (omega (arith, longer, same))
same_lines version last (l ∷ lines) (m ∷ others) is also e =
    let same = same_line version l m (lines_before version lines []) (lines_before version others []) is.0 also.0 e in
    let more = same_lines version (Some l) lines others is.2 (subst (λ (x : Line). AreInOrder version (Some x) others) (sym same.0) also.2) same.1 in
    ap (λ (x : Line). x ∷ lines) same.0 ∙ ap (λ (ls : List Line). m ∷ ls) more

-- one report is spelled so
pub one_report : (r s : Report) → IsReport r → IsReport s → report_text r ≡ report_text s → r ≡ s
one_report r s is also e =
    let v = same_version r.version s.version _ _ is.version also.version e in
    let c = same_clock r.clock s.clock _ _ is.clock also.clock v.1 in
    let clocks : r.clock ≡ s.clock = clock_is r.clock s.clock c.0 c.1 in
    let texts : lines_before r.version (lines_of r) [] ≡ lines_before r.version (lines_of s) [] = c.2 ∙ ap (λ (n : ℕ). lines_before n (lines_of s) []) (sym v.0) in
    let lines : lines_of r ≡ lines_of s = same_lines r.version None (lines_of r) (lines_of s) is.lines (subst (λ (n : ℕ). AreInOrder n None (lines_of s)) (sym v.0) also.lines) texts in
    let parts : parts_of r ≡ parts_of s = sym (gathers_report r is) ∙ ap (gathered no_parts) lines ∙ gathers_report s also in
    ap (λ (n : ℕ). report_of n r.clock (parts_of r)) v.0 ∙ ap (λ (k : Clock). report_of s.version k (parts_of r)) clocks ∙ ap (λ (p : Parts). report_of s.version s.clock p) parts

-- ---- the first bad line

-- a text without a first line
pub bad_version : (text : List ℕ) → version_at text ≡ None → IsFirstBad text 1
bad_version text none = record {
  before = 0;
  counted = refl;
  stands = tt;
  stuck = λ has. none-some (has.0, has.1) (sym none ∙ ap version_at has.2.begins ∙ version_again has.0 has.1 has.2.is);
  no_report = λ is. none-some (is.0.version, _) (sym none ∙ ap version_at is.2 ∙ version_again is.0.version _ is.1.version);
}

-- or without a second one
pub bad_clock : (text : List ℕ) (version : ℕ) (rest : List ℕ) → IsVersion version → text ≡ version_before version rest → clock_at rest ≡ None → IsFirstBad text 2
bad_clock text version rest known begins none =
    let no_clock : (other : ℕ) (clock : Clock) (after : List ℕ) → IsVersion other → ClockFits clock → text ≡ version_before other (clock_before clock after) → ⊥ =
    λ other clock after is fits e.
    let same = same_version version other rest (clock_before clock after) known is (sym begins ∙ e) in
    none-some ((clock.start.0, clock.period), after) (sym none ∙ ap clock_at same.1 ∙ clock_found clock after fits) in
    record {
      before = 1;
      counted = refl;
      stands = (version, rest, record { is = known; begins = begins });
      stuck = λ has. let front = has.5 in no_clock has.0 has.1 _ front.is front.fits front.begins;
      no_report = λ is. no_clock is.0.version is.0.clock _ is.1.version is.1.clock is.2;
    }

-- the lines of another front of the text
same_front : (text : List ℕ) (version other : ℕ) (clock also : Clock) (after there : List ℕ) → IsVersion version → IsVersion other → ClockFits clock → ClockFits also →
    text ≡ version_before version (clock_before clock after) → text ≡ version_before other (clock_before also there) → (version ≡ other) × (after ≡ there)
same_front text version other clock also after there known is fits fit e f =
    let v = same_version version other _ _ known is (sym e ∙ f) in
    let c = same_clock clock also after there fits fit v.1 in
    (v.0, c.2)

-- or with a later line that can't stand
pub bad_line : (text : List ℕ) (version : ℕ) (clock : Clock) (rest : List ℕ) (line : ℕ) → IsVersion version → ClockFits clock →
    text ≡ version_before version (clock_before clock rest) → Stuck version rest line → IsFirstBad text line
bad_line text version clock rest line known fits begins stuck_there = record {
  before = suc (suc stuck_there.before);
  counted = stuck_there.counted;
  stands = (
    version,
    clock,
    stuck_there.lines,
    stuck_there.rest,
    stuck_there.long,
    record { is = known; fits = fits; in_order = stuck_there.in_order; begins = begins ∙ ap (λ t. version_before version (clock_before clock t)) stuck_there.begins },
  );
  stuck = λ has.
      let h : HasLines text (suc (suc (suc stuck_there.before))) = subst (HasLines text) stuck_there.counted has in
      let front = h.5 in
      let same = same_front text version h.0 clock h.1 rest _ known front.is fits front.fits begins front.begins in
      stuck_there.no_more h.2 h.3 (subst (λ n. AreInOrder n None h.2) (sym same.0) front.in_order) (same.1 ∙ ap (λ (n : ℕ). lines_before n h.2 h.3) (sym same.0)) h.4;
  no_report = λ is.
      let r = is.0 in
      let same = same_front text version r.version clock r.clock rest _ known is.1.version fits is.1.clock begins is.2 in
      stuck_there.no_report r (subst (λ n. AreInOrder n None (lines_of r)) (sym same.0) is.1.lines) (same.1 ∙ ap (λ (n : ℕ). lines_before n (lines_of r) []) (sym same.0));
}

-- ---- there is one first bad line

fewer_lines : (text : List ℕ) (n : ℕ) → HasLines text (suc n) → HasLines text n
fewer_lines text zero has = tt
fewer_lines text (suc zero) has = (has.0, clock_before has.1 (lines_before has.0 has.2 has.3), record { is = has.5.is; begins = has.5.begins })
fewer_lines text (suc (suc n)) has =
    let lines : List Line = take n has.2 in
    let more : List Line = drop n has.2 in
    let parts : has.2 ≡ lines ++ more = sym (take-append-drop n has.2) in (
      has.0,
      has.1,
      lines,
      lines_before has.0 more has.3,
      length-take-le n has.2 (omega (arith, has.4)),
      record {
        is = has.5.is;
        fits = has.5.fits;
        in_order = front_stands has.0 None lines more (subst (AreInOrder has.0 None) parts has.5.in_order);
        begins = has.5.begins ∙ ap (λ (t : List ℕ). version_before has.0 (clock_before has.1 t)) (ap (λ (ls : List Line). lines_before has.0 ls has.3) parts ∙ lines_join has.0 lines more has.3);
      },
    )

less_lines : (text : List ℕ) (n k : ℕ) → HasLines text (k + n) → HasLines text n
less_lines text n zero has = subst (HasLines text) (let same : 0 + n ≡ n = omega arith in same) has
less_lines text n (suc k) has = less_lines text n k (fewer_lines text (k + n) (subst (HasLines text) (let same : suc k + n ≡ suc (k + n) = omega arith in same) has))

not_before : (text : List ℕ) (m n : ℕ) → IsFirstBad text m → IsFirstBad text n → m < n → ⊥
not_before text m n a b less =
    let k : ℕ = b.before - m in
    let same : b.before ≡ k + m = omega (arith, less, b.counted) in
    a.stuck (less_lines text m k (subst (HasLines text) same b.stands))

pub one_first_bad : (text : List ℕ) (m n : ℕ) → IsFirstBad text m → IsFirstBad text n → m ≡ n
one_first_bad text m n a b = elim (cases_lt m n) [
  | inl less ↦ absurd (not_before text m n a b less)
  | inr no_less ↦ elim (cases_lt n m) [
    | inl greater ↦ absurd (not_before text n m b a greater)
    | inr no_greater ↦ omega (arith, no_less, no_greater)
  ]
]

-- ---- the report that is found

pub report_found : (text : List ℕ) (version : ℕ) (clock : Clock) (rest : List ℕ) (parts : Parts) (last : Option Line) (pool : PoolLine) → IsVersion version → ClockFits clock →
    text ≡ version_before version (clock_before clock rest) → AreRead version rest parts last [] → parts.pool ≡ Some pool →
    IsReport (report_of version clock parts) × (text ≡ report_text (report_of version clock parts))
report_found text version clock rest parts last pool known fits begins read some =
    let lines : lines_of (report_of version clock parts) ≡ lines_in parts = rw some refl in (
      record { version = known; clock = fits; lines = subst (AreInOrder version None) (sym lines) read.in_order; others = read.up_to.groups },
      begins ∙ ap (λ t. version_before version (clock_before clock t)) (read.begins ∙ ap (λ ls. lines_before version ls []) (sym lines)),
    )

-- ---- all that is answered

pub answers_report : (text : List ℕ) (result : Result Report ReportFault) → IfOk result (λ r. IsReport r × (text ≡ report_text r)) → IfErr result (HasCause text) →
    (report : Report) → IsReport report → text ≡ report_text report → Answers result (Ok report)
answers_report text (Ok r) found cause report is e = ap (λ (x : Report). Ok x) (one_report r report found.0 is (sym found.1 ∙ e))
answers_report text (Err Memory) found cause report is e = tt
answers_report text (Err (Bad line)) found cause report is e = absurd (cause.no_report (report, is, e))

pub answers_bad : (text : List ℕ) (result : Result Report ReportFault) → IfOk result (λ r. IsReport r × (text ≡ report_text r)) → IfErr result (HasCause text) →
    (line : ℕ) → IsFirstBad text line → Answers result (Err (Bad line))
answers_bad text (Ok r) found cause line bad = absurd (bad.no_report (r, found.0, found.1))
answers_bad text (Err Memory) found cause line bad = tt
answers_bad text (Err (Bad there)) found cause line bad = ap (λ (n : ℕ). Err (Bad n)) (one_first_bad text there line cause bad)

-- the front of a text that has a version and a clock
pub record Heads (text : List ℕ) (version : ℕ) (clock : Clock) (rest : List ℕ) : Type 0 where
  pub has : HasClock text version clock rest
  pub shorter : length rest + 9 ≤ length text

version_longer : (version : ℕ) (rest : List ℕ) → IsVersion version → length rest + 9 ≤ length (version_before version rest)
version_longer version rest (inl one) = rw one (omega arith)
version_longer version rest (inr two) = rw two (omega arith)

pub heads : (text : List ℕ) (version : ℕ) (clock : Clock) (between rest : List ℕ) → version_at text ≡ Some (version, between) →
    clock_at between ≡ Some ((clock.start.0, clock.period), rest) → Heads text version clock rest
heads text version clock between rest first second =
    let v = version_takes text (version, between) first in
    let c = clock_takes between ((clock.start.0, clock.period), rest) second in
    let longer = version_longer version between v.0 in
    let same = ap length v.1 in
    let later = line_longer (codes "clock" ∷ decimal clock.start.0 ∷ decimal clock.period ∷ []) rest in
    let same_later = ap length c.3 in
    record {
      has = record { is = v.0; fits = record { start = c.0; period = c.1 }; begins = v.1 ∙ ap (version_before version) c.3 };
      shorter = omega (arith, longer, same, later, same_later);
    }

pub head_cause : (text : List ℕ) (version : ℕ) (between : List ℕ) → version_at text ≡ Some (version, between) → clock_at between ≡ None → IsFirstBad text 2
head_cause text version between first none =
    let v = version_takes text (version, between) first in bad_clock text version between v.0 v.1 none

pub lines_cause : (text : List ℕ) (version : ℕ) (clock : Clock) (rest : List ℕ) (fault : ReportFault) → HasClock text version clock rest → StopsFor version rest fault → HasCause text fault
lines_cause text version clock rest Memory has stops = tt
lines_cause text version clock rest (Bad line) has stops = bad_line text version clock rest line has.is has.fits has.begins (stuck_at version rest line stops)
