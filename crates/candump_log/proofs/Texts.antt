-- What a writer has written stays as it appends it.
use Rattle.std.proofs.Common.{◌≡◌, ◌≤◌, ℕ, Option, Some, List, ◌++◌, take, drop, refl, sym, ◌∙◌, ap, append_assoc, subst}
use Rattle.std.specs.Prelude.{IsSome, None, Ok}
use Rattle.std.proofs.lemmas.List.{take-append-drop}
use Rattle.gw_depot.specs.Fault.{Blame}
use Rattle.gw_depot.specs.Files.{AppendsFile, Files, OthersStay}
use Rattle.gw_depot.specs.declared.outside.Failed.{Failed}
use Rattle.candump_log.specs.Writer.{AddsText, KeepsText, file_of, held_of}
use Rattle.candump_log.specs.declared.writer.LogWriter.{LogWriter}

-- no call has failed
pub record NoFault (before now : ℕ) (old new : Blame) : Type 0 where
  pub later : before ≤ now
  pub left : new ≡ old

-- what was appended and what is left are what was held
pub still_whole : (content held : List ℕ) (count : ℕ) → content ++ held ≡ (content ++ take count held) ++ drop count held
still_whole content held count = ap (λ t. content ++ t) (sym (take-append-drop count held)) ∙ sym (append_assoc content (take count held) (drop count held))

-- other files stay over two calls
pub others_stay : (first second third : Files) (name : List ℕ) → OthersStay first second name → OthersStay second third name → OthersStay first third name
others_stay first second third name before after other ne = after other ne ∙ before other ne

-- a file that is there has a content
some_content : (file : Option (List ℕ)) → IsSome file → (content : List ℕ) × (file ≡ Some content)
some_content None some = cc
some_content (Some content) some = (content, refl)

is_there : (file : Option (List ℕ)) (content : List ℕ) → file ≡ Some content → IsSome file
is_there file content is = subst IsSome (sym is) refl

-- a file that a piece was appended to is still there
pub still_there : (before after : Files) (name piece : List ℕ) (count : ℕ) → AppendsFile {E = Failed} before after name piece (Ok count) → IsSome (before name) → IsSome (after name)
still_there before after name piece count appends some =
    let k = some_content (before name) some in
    is_there (after name) (k.0 ++ take count piece) (appends.added k.0 k.1)

-- a piece more is appended
pub kept_more : (before between after : Files) (first old new : LogWriter) (count : ℕ) → KeepsText before between first old → file_of old ≡ file_of first → file_of new ≡ file_of old →
    held_of new ≡ drop count (held_of old) → AppendsFile {E = Failed} between after (file_of old) (held_of old) (Ok count) → KeepsText before after first new
kept_more before between after first old new count keeps first_same same held appends = record {
  text = λ text is.
      let t = keeps.text text is in
      record {
        content = t.content ++ take count (held_of old);
        there = ap after same ∙ appends.added t.content t.there;
        whole = t.whole ∙ still_whole t.content (held_of old) count ∙ ap (λ h. (t.content ++ take count (held_of old)) ++ h) (sym held);
      };
  others = others_stay before between after (file_of first) keeps.others (subst (OthersStay between after) first_same appends.others);
}

-- bytes are added to what is held
pub added_text : (before after : Files) (first old new : LogWriter) (added : List ℕ) → KeepsText before after first old → file_of new ≡ file_of old → held_of new ≡ held_of old ++ added →
    AddsText before after first new added
added_text before after first old new added keeps same held = record {
  text = λ text is.
      let t = keeps.text text is in
      record {
        content = t.content;
        there = ap after same ∙ t.there;
        whole = ap (λ t. t ++ added) t.whole ∙ append_assoc t.content (held_of old) added ∙ ap (λ h. t.content ++ h) (sym held);
      };
  others = keeps.others;
}
