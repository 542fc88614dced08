-- Lines that are printed piece by piece.
use Rattle.std.proofs.Common.{◌≡◌, ℕ, cond, eqb, List, [], ◌∷◌, ◌++◌, map, flat_map, Result, Ok, Err, OnOk, inl, inr, codes, decimal, refl, sym, ap, ◌∙◌, append_assoc, append-nil}
use Rattle.std.proofs.lemmas.Bool.{cases_Bool}
use Rattle.hub_core.specs.declared.record.Move.{Move as PoolMove}
use Rattle.session_report.specs.Lines.{clock_before, fields_of, group_fields, line_before, lines_before, lines_of, report_text, version_before}
use Rattle.session_report.specs.Printing.{dest_text, first_move_text, group_text, interface_text, move_text, pool_text, session_text}
use Rattle.session_report.specs.declared.line.Line.{Line}
use Rattle.session_report.specs.declared.line.Line.TheVariants.{Session, Dest, Interface, Move, Pool}
use Rattle.session_report.specs.declared.report.Report.{Report}

-- what follows from what holds where a call answers Ok
pub on_ok : {T E : Type 0} (r : Result T E) {P Q : Type 0} → OnOk r P → (P → Q) → OnOk r Q
on_ok (Ok x) p f = f p
on_ok (Err e) p f = tt

-- a piece more, and what stands after it
pub step : (before after piece rest : List ℕ) → after ≡ before ++ piece → after ++ rest ≡ before ++ (piece ++ rest)
step b a p r e = ap (λ (t : List ℕ). t ++ r) e ∙ append_assoc b p r

-- a field more and the byte after it, and what stands after them
pub field_step : (before after field rest : List ℕ) (byte : ℕ) → after ≡ before ++ (field ++ byte ∷ []) → after ++ rest ≡ before ++ (field ++ byte ∷ rest)
field_step b a f r s e =
    ap (λ (t : List ℕ). t ++ r) e ∙ append_assoc b (f ++ s ∷ []) r ∙ ap (λ (t : List ℕ). b ++ t) (append_assoc f (s ∷ []) r)

-- nothing stands after all pieces
pub all_steps : (text total : List ℕ) → text ++ [] ≡ total → text ≡ total
all_steps t all e = sym (append-nil t) ∙ e

-- a line and what stands after it
pub line_joined : (fields : List (List ℕ)) (rest : List ℕ) → line_before fields rest ≡ line_before fields [] ++ rest
line_joined [] rest = refl
line_joined (field ∷ []) rest = sym (append_assoc field (10 ∷ []) rest)
line_joined (field ∷ next ∷ more) rest =
    ap (λ (t : List ℕ). field ++ 32 ∷ t) (line_joined (next ∷ more) rest) ∙ sym (append_assoc field (32 ∷ line_before (next ∷ more) []) rest)

-- a line's group, and the fields after it
pub group_joined : (version group : ℕ) (field : List ℕ) (fields : List (List ℕ)) →
    line_before (group_fields version group (field ∷ fields)) [] ≡ group_text version group ++ line_before (field ∷ fields) []
group_joined version group field fields = elim (cases_Bool (eqb version 1)) [
  | inl one ↦ rw one refl
  | inr other ↦ rw other (sym (append_assoc (decimal group) (32 ∷ []) (line_before (field ∷ fields) [])))
]

-- the lines of one kind, and what stands after them
pub kind_joined : {A : Type 0} (version : ℕ) (kind : A → Line) (xs : List A) (more : List Line) (rest : List ℕ) →
    lines_before version (map kind xs ++ more) rest ≡ flat_map (λ x. line_before (fields_of version (kind x)) []) xs ++ lines_before version more rest
unfolding lines_before
kind_joined version kind [] more rest = refl
kind_joined version kind (x ∷ xs) more rest =
    line_joined (fields_of version (kind x)) (lines_before version (map kind xs ++ more) rest)
    ∙ ap (λ (t : List ℕ). line_before (fields_of version (kind x)) [] ++ t) (kind_joined version kind xs more rest)
    ∙ sym (append_assoc (line_before (fields_of version (kind x)) []) (flat_map (λ y. line_before (fields_of version (kind y)) []) xs) (lines_before version more rest))

grouped : (a b c d e f g h i : List ℕ) → (((((((a ++ b) ++ c) ++ d) ++ e) ++ f) ++ g) ++ h) ++ i ≡ a ++ (b ++ (c ++ (d ++ (e ++ (f ++ (g ++ (h ++ i)))))))
grouped a b c d e f g h i = simp append_assoc

-- the report's text, line after line
pub whole : (r : Report) →
    ((((((((version_before r.version [] ++ clock_before r.clock []) ++ flat_map session_text r.sessions) ++ flat_map dest_text r.dests) ++ flat_map interface_text r.ifs)
    ++ flat_map (first_move_text r.version) r.moves) ++ flat_map (move_text r.version) r.other_moves) ++ pool_text r.version (record { group = 0; pool = r.pool })) ++ flat_map (pool_text r.version) r.other_pools)
    ≡ report_text r
unfolding lines_before
whole r =
    let first : Line = Pool (record { group = 0; pool = r.pool }) in
    let v : ℕ = r.version in
    let others : List ℕ = flat_map (pool_text v) r.other_pools in
    let pools : lines_before v (map Pool r.other_pools) [] ≡ others = ap (λ (ls : List Line). lines_before v ls []) (sym (append-nil (map Pool r.other_pools))) ∙ kind_joined v Pool r.other_pools [] [] ∙ append-nil others in
    let all_pools : lines_before v (first ∷ map Pool r.other_pools) [] ≡ line_before (fields_of v first) [] ++ others =
    line_joined (fields_of v first) (lines_before v (map Pool r.other_pools) []) ∙ ap (λ (t : List ℕ). line_before (fields_of v first) [] ++ t) pools in
    let lines : lines_before v (lines_of r) [] ≡ flat_map session_text r.sessions ++ (flat_map dest_text r.dests ++ (flat_map interface_text r.ifs
    ++ (flat_map (first_move_text v) r.moves ++ (flat_map (move_text v) r.other_moves ++ (line_before (fields_of v first) [] ++ others))))) =
    kind_joined v Session r.sessions _ []
    ∙ ap (λ (t : List ℕ). flat_map session_text r.sessions ++ t) (kind_joined v Dest r.dests _ []
    ∙ ap (λ (t : List ℕ). flat_map dest_text r.dests ++ t) (kind_joined v Interface r.ifs _ []
    ∙ ap (λ (t : List ℕ). flat_map interface_text r.ifs ++ t) (kind_joined v (λ (m : PoolMove). Move (record { group = 0; made = m })) r.moves _ []
    ∙ ap (λ (t : List ℕ). flat_map (first_move_text v) r.moves ++ t) (kind_joined v Move r.other_moves _ []
    ∙ ap (λ (t : List ℕ). flat_map (move_text v) r.other_moves ++ t) all_pools)))) in
    let first_line : List (List ℕ) = codes "report" ∷ cond (eqb v 1) (codes "1") (codes "2") ∷ [] in
    let second_line : List (List ℕ) = codes "clock" ∷ decimal r.clock.start.0 ∷ decimal r.clock.period ∷ [] in
    let head : report_text r ≡ version_before v [] ++ (clock_before r.clock [] ++ lines_before v (lines_of r) []) =
    line_joined first_line (clock_before r.clock (lines_before v (lines_of r) [])) ∙ ap (λ (t : List ℕ). version_before v [] ++ t) (line_joined second_line (lines_before v (lines_of r) [])) in
    grouped (version_before v []) (clock_before r.clock []) (flat_map session_text r.sessions) (flat_map dest_text r.dests) (flat_map interface_text r.ifs) (flat_map (first_move_text v) r.moves) (flat_map (move_text v) r.other_moves) (line_before (fields_of v first) []) others
    ∙ sym (head ∙ ap (λ (t : List ℕ). version_before v [] ++ (clock_before r.clock [] ++ t)) lines)
