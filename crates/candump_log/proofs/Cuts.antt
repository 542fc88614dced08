-- A content is cut at its line feeds in one way, and so ends in one way.
use Rattle.std.proofs.Common.{◌≡◌, ◌≢◌, ℕ, ◌+◌, ◌<◌, ◌≤◌, ◌==◌, true, false, cond, Result, Err, Option, is_ok, List, [], ◌∷◌, ◌++◌, length, refl, subst, sym, ◌∙◌, ap, append_assoc, append-nil, length-append, inl, inr, arith}
use Rattle.std.specs.List.{All}
use Rattle.std.proofs.lemmas.Bool.{ne_eqb}
use Rattle.std.proofs.lemmas.List.Elements.{All-tail}
use Rattle.candump_log.specs.Source.{Source}
use Rattle.candump_line.specs.declared.fault.LineFault.{LineFault}
use Rattle.candump_log.specs.declared.log.Stamped.{Stamped}
use Rattle.candump_log.specs.Line.{taken_by}
use Rattle.candump_log.specs.Log.{AreTaken, ended, frames_of, HasNoFeed, GoesPast, IsTakenLog, IsCut, StopsAt}

-- a byte more at the front of the first line
abbrev begun : ℕ → List (List ℕ) → List (List ℕ)
begun b [] = (b ∷ []) ∷ []
begun b (line ∷ lines) = (b ∷ line) ∷ lines

-- the lines of some bytes: a line feed ends each, and the end the last one, where it isn't empty
abbrev cut : List ℕ → List (List ℕ)
cut [] = []
cut (b ∷ bytes) = cond (b == 10) ([] ∷ cut bytes) (begun b (cut bytes))

head_no_feed : (b : ℕ) (line : List ℕ) → HasNoFeed (b ∷ line) → (b == 10) ≡ false
head_no_feed b line none = ne_eqb b 10 (none 0 0 (omega arith))

cut-line : (line tail : List ℕ) → HasNoFeed line → cut (line ++ 10 ∷ tail) ≡ line ∷ cut tail
cut-line [] tail none = refl
cut-line (b ∷ line) tail none = rw (head_no_feed b line none, cut-line line tail (All-tail (λ b. b ≢ 10) b line none)) refl

cut-last : (line : List ℕ) → HasNoFeed line → line ≢ [] → cut line ≡ line ∷ []
cut-last [] none some = absurd (some refl)
cut-last (b ∷ []) none some = rw (head_no_feed b [] none) refl
cut-last (b ∷ c ∷ line) none some =
    rw (head_no_feed b (c ∷ line) none) (ap (begun b) (cut-last (c ∷ line) (All-tail (λ b. b ≢ 10) b (c ∷ line) none) (λ e. cc)))

cut-ended : (lines : List (List ℕ)) (rest : List ℕ) → All HasNoFeed lines → cut (ended lines ++ rest) ≡ lines ++ cut rest
cut-ended [] rest none = refl
cut-ended (line ∷ lines) rest none =
    ap cut (append_assoc (line ++ 10 ∷ []) (ended lines) rest ∙ append_assoc line (10 ∷ []) (ended lines ++ rest))
    ∙ cut-line line (ended lines ++ rest) (none 0 [] (omega arith))
    ∙ ap (λ t. line ∷ t) (cut-ended lines rest (All-tail HasNoFeed line lines none))

cut-within : (front : List (List ℕ)) (last : List ℕ) → All HasNoFeed (front ++ last ∷ []) → last ≢ [] → cut (ended front ++ last) ≡ front ++ last ∷ []
cut-within [] last none some = cut-last last (none 0 [] (omega arith)) some
cut-within (line ∷ front) last none some =
    ap cut (append_assoc (line ++ 10 ∷ []) (ended front) last ∙ append_assoc line (10 ∷ []) (ended front ++ last))
    ∙ cut-line line (ended front ++ last) (none 0 [] (omega arith))
    ∙ ap (λ t. line ∷ t) (cut-within front last (All-tail HasNoFeed line (front ++ last ∷ []) none) some)

begun-some : (b : ℕ) (lines : List (List ℕ)) → 0 < length (begun b lines)
begun-some b [] = omega arith
begun-some b (line ∷ lines) = omega arith

cut-some : (bytes : List ℕ) → bytes ≢ [] → 0 < length (cut bytes)
cut-some [] some = absurd (some refl)
cut-some (b ∷ bytes) some =
    elim (b == 10) as (λ t. 0 < length (cond t ([] ∷ cut bytes) (begun b (cut bytes)))) [ true ↦ omega arith | false ↦ begun-some b (cut bytes) ]

-- ---- what each end of a reading says of the lines

cut_lines : (content : List ℕ) (lines : List (List ℕ)) → IsCut content lines → cut content ≡ lines
cut_lines content lines is = elim is.cut [
  | inl whole ↦ ap cut (whole ∙ sym (append-nil (ended lines))) ∙ cut-ended lines [] is.no_feed ∙ append-nil lines
  | inr within ↦ ap cut within.bytes ∙ cut-within within.front within.last (subst (All HasNoFeed) within.all is.no_feed) within.some ∙ sym within.all
]

-- whole lines at the front of the content are its first lines
pub lines-front : (content : List ℕ) (front lines : List (List ℕ)) (rest : List ℕ) → All HasNoFeed front → content ≡ ended front ++ rest → IsCut content lines →
    (more : List (List ℕ)) × (lines ≡ front ++ more)
lines-front content front lines rest none bytes is = (cut rest, sym (cut_lines content lines is) ∙ ap cut bytes ∙ cut-ended front rest none)

-- the lines of a log are taken
abbrev Taken : Source → List (List ℕ) → Type 0
Taken source lines = AreTaken source.interface source.fd lines

all_taken : (source : Source) (content : List ℕ) (count : ℕ) (frames : List Stamped) → IsTakenLog source content count frames → Taken source (cut content)
all_taken source content count frames (lines, is, long) = subst (Taken source) (sym (cut_lines content lines is.cut)) is.taken

-- after lines that are taken stands one that is refused
record IsStopped (source : Source) (all : List (List ℕ)) (number : ℕ) (fault : LineFault) : Type 0 where
  lines : List (List ℕ)
  line : List ℕ
  more : List (List ℕ)
  whole : all ≡ lines ++ line ∷ more
  taken : Taken source lines
  refused : taken_by source line ≡ Err fault
  count : number ≡ length lines + 1

stopped : (source : Source) (most : ℕ) (content : List ℕ) (number : ℕ) (fault : LineFault) → StopsAt source most content number fault → IsStopped source (cut content) number fault
stopped source most content number fault stops =
    let front : cut content ≡ stops.lines ++ cut (stops.line ++ stops.tail) = ap cut (stops.bytes ∙ append_assoc (ended stops.lines) stops.line stops.tail) ∙ cut-ended stops.lines (stops.line ++ stops.tail) stops.no_feed in
    let ends : (more : List (List ℕ)) × (cut (stops.line ++ stops.tail) ≡ stops.line ∷ more) = elim stops.ends [
      | inl none ↦ ([], let same : stops.line ++ stops.tail ≡ stops.line = rw none.0 (append-nil stops.line) in ap cut same ∙ cut-last stops.line stops.is_line none.1)
      | inr feed ↦ (cut feed.0, ap (λ t. cut (stops.line ++ t)) feed.1 ∙ cut-line stops.line feed.0 stops.is_line)
    ] in
    record {
      lines = stops.lines;
      line = stops.line;
      more = ends.0;
      whole = front ∙ ap (λ t. stops.lines ++ t) ends.1;
      taken = stops.taken;
      refused = stops.refused;
      count = stops.count;
    }

-- a line that is refused isn't taken
not_both : (r : Result (Option Stamped) LineFault) (fault : LineFault) → r ≡ Err fault → is_ok r ≡ true → ⊥
not_both r fault refused taken = let clash : false ≡ true = rw refused at taken in cc

-- a line that is refused stands after all that are taken
no_more_taken : (source : Source) (lines lines' : List (List ℕ)) (line : List ℕ) (more rest : List (List ℕ)) (fault : LineFault) →
    lines ++ line ∷ more ≡ lines' ++ rest → Taken source lines' → taken_by source line ≡ Err fault → length lines' ≤ length lines
no_more_taken source lines [] line more rest fault same taken refused = omega arith
no_more_taken source [] (l ∷ lines') line more rest fault same taken refused =
    let first : line ≡ l = cc in
    absurd (not_both (taken_by source l) fault (ap (taken_by source) (sym first) ∙ refused) (taken 0 [] (omega arith)))
no_more_taken source (x ∷ lines) (l ∷ lines') line more rest fault same taken refused =
    let later : lines ++ line ∷ more ≡ lines' ++ rest = cc in
    let fewer = no_more_taken source lines lines' line more rest fault later (All-tail (λ t. is_ok (taken_by source t) ≡ true) l lines' taken) refused in omega (arith, fewer)

-- after as many lines stands the same line
same_line : (lines lines' : List (List ℕ)) (line line' : List ℕ) (more more' : List (List ℕ)) → lines ++ line ∷ more ≡ lines' ++ line' ∷ more' → length lines ≡ length lines' → line ≡ line'
same_line [] [] line line' more more' same long = cc
same_line [] (l ∷ lines') line line' more more' same long = absurd (omega (arith, long))
same_line (x ∷ lines) [] line line' more more' same long = absurd (omega (arith, long))
same_line (x ∷ lines) (l ∷ lines') line line' more more' same long =
    let later : lines ++ line ∷ more ≡ lines' ++ line' ∷ more' = cc in
    same_line lines lines' line line' more more' later (omega (arith, long))

-- ---- a log ends in one way

pub taken-once : (source : Source) (content : List ℕ) (m n : ℕ) (frames frames' : List Stamped) → IsTakenLog source content m frames → IsTakenLog source content n frames' → (m ≡ n) × (frames ≡ frames')
taken-once source content m n frames frames' (lines, one, long) (lines', other, long') =
    let same : lines ≡ lines' = sym (cut_lines content lines one.cut) ∙ cut_lines content lines' other.cut in (
      long ∙ ap length same ∙ sym long',
      one.frames_are ∙ ap (frames_of source.interface source.fd) same ∙ sym other.frames_are,
    )

pub stops-once : (source : Source) (most : ℕ) (content : List ℕ) (m n : ℕ) (r s : LineFault) → StopsAt source most content m r → StopsAt source most content n s → (m ≡ n) × (r ≡ s)
stops-once source most content m n r s one other =
    let a = stopped source most content m r one in
    let b = stopped source most content n s other in
    let all : a.lines ++ a.line ∷ a.more ≡ b.lines ++ b.line ∷ b.more = sym a.whole ∙ b.whole in
    let fewer = no_more_taken source a.lines b.lines a.line a.more (b.line ∷ b.more) r all b.taken a.refused in
    let more = no_more_taken source b.lines a.lines b.line b.more (a.line ∷ a.more) s (sym all) a.taken b.refused in
    let line : a.line ≡ b.line = same_line a.lines b.lines a.line b.line a.more b.more all (omega (arith, fewer, more)) in
    let faults : ◌≡◌ {A = Result (Option Stamped) LineFault} (Err r) (Err s) = sym a.refused ∙ ap (taken_by source) line ∙ b.refused in
    (omega (arith, fewer, more, a.count, b.count), cc)

pub stops-or_taken : (source : Source) (most : ℕ) (content : List ℕ) (number : ℕ) (fault : LineFault) (count : ℕ) (frames : List Stamped) → StopsAt source most content number fault → ¬ IsTakenLog source content count frames
stops-or_taken source most content number fault count frames stops built =
    let a = stopped source most content number fault stops in
    let fewer = no_more_taken source a.lines (cut content) a.line a.more [] fault (sym a.whole ∙ sym (append-nil (cut content))) (all_taken source content count frames built) a.refused in
    let long : length (cut content) ≡ length a.lines + length (a.line ∷ a.more) = ap length a.whole ∙ length-append a.lines (a.line ∷ a.more) in
    omega (arith, fewer, long)

pub stops-or_passes : (source : Source) (most : ℕ) (content : List ℕ) (number : ℕ) (fault : LineFault) → StopsAt source most content number fault → ¬ GoesPast source content most
stops-or_passes source most content number fault stops past =
    let a = stopped source most content number fault stops in
    let whole : cut content ≡ past.lines ++ cut past.rest = ap cut past.bytes ∙ cut-ended past.lines past.rest past.no_feed in
    let fewer = no_more_taken source a.lines past.lines a.line a.more (cut past.rest) fault (sym a.whole ∙ whole) past.taken a.refused in
    omega (arith, fewer, a.count, stops.within, past.count)

pub passes-or_taken : (source : Source) (most : ℕ) (content : List ℕ) (count : ℕ) (frames : List Stamped) → count ≤ most → GoesPast source content most → ¬ IsTakenLog source content count frames
passes-or_taken source most content count frames few past (lines, is, all) =
    let whole : cut content ≡ past.lines ++ cut past.rest = ap cut past.bytes ∙ cut-ended past.lines past.rest past.no_feed in
    let long : length (cut content) ≡ length past.lines + length (cut past.rest) = ap length whole ∙ length-append past.lines (cut past.rest) in
    let same : length (cut content) ≡ length lines = ap length (cut_lines content lines is.cut) in
    omega (arith, few, long, all, same, past.count, cut-some past.rest past.further)
