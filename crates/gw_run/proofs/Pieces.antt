-- A whole text that is appended, compared or read, piece by piece.
use Rattle.std.proofs.Common.{◌≡◌, ℕ, ◌+◌, ◌≤◌, Bool, true, List, ◌++◌, length, take, drop, Option, Some, None, Ok, IsSome, refl, sym, ◌∙◌, ap, append_assoc, length-append, length-drop, ◌-◌, ◌<◌, arith}
use Rattle.std.proofs.Math.Seq.{take-add}
use Rattle.gw_depot.specs.Fault.{Blame}
use Rattle.gw_depot.specs.Files.{Files, OthersStay, AppendsFile, ReadsFile}
use Rattle.gw_depot.proofs.ReadLemmas.{read_within, take-whole}
use Rattle.gw_run.specs.Whole.{IsTooLong}

-- so many bytes of the text were appended, and nothing failed
pub record Appended (told : Bool) (old new : Files) (name text : List ℕ) (done : ℕ) : Type 0 where
  pub within : done ≤ length text
  pub there : told ≡ true → IsSome (new name)
  pub content : told ≡ true → (before : List ℕ) → old name ≡ Some before → new name ≡ Some (before ++ take done text)
  pub others : told ≡ true → OthersStay old new name

-- no call failed so far
pub record NoFault (faults faults' : ℕ) (blame blame' : Blame) : Type 0 where
  pub later : faults ≤ faults'
  pub left : blame' ≡ blame

-- what is there
pub value_of : {X : Type 0} (o : Option X) → IsSome o → (x : X) × (o ≡ Some x)
value_of (Some x) there = (x, refl)
value_of {X} None there = cc

pub appended_more : {E : Type 0} (told : Bool) (old mid new : Files) (name text : List ℕ) (done count : ℕ) →
    Appended told old mid name text done → (piece : List ℕ) → piece ≡ drop done text → count ≤ length piece →
    (told ≡ true → AppendsFile {E = E} mid new name piece (Ok count)) →
    Appended told old new name text (done + count)
appended_more told old mid new name text done count so_far piece is_rest fits adds = record {
  within = let most : length piece ≡ length text - done = ap length is_rest ∙ length-drop done text in omega (arith, so_far.within);
  there = λ is.
      let there = value_of (mid name) (so_far.there is) in
      rw ((adds is).added there.0 there.1) refl;
  content = λ is before was.
      (adds is).added (before ++ take done text) (so_far.content is before was)
      ∙ ap Some (append_assoc before (take done text) (take count piece) ∙ ap (λ t. before ++ t) (ap (λ t. take done text ++ take count t) is_rest ∙ sym (take-add done count text)));
  others = λ is other ne. (adds is).others other ne ∙ so_far.others is other ne;
}

-- the bytes are the beginning of the file
pub record Fronts (told : Bool) (files : Files) (name bytes : List ℕ) : Type 0 where
  pub front : told ≡ true → (content : List ℕ) → files name ≡ Some content → (bytes ≡ take (length bytes) content) × (length bytes ≤ length content)

pub fronts_more : (told : Bool) (files : Files) (name bytes : List ℕ) (count : ℕ) (got : List ℕ) →
    Fronts told files name bytes → (told ≡ true → ReadsFile files name (length bytes) count got) → length got ≡ count → Fronts told files name (bytes ++ got)
fronts_more told files name bytes count got so_far reads long = record {
  front = λ is content there.
      let before = so_far.front is content there in
      let more = read_within files name got content (length bytes) count (reads is) long there before.1 in
      let all : length (bytes ++ got) ≡ length bytes + count = length-append bytes got ∙ ap (λ n. length bytes + n) long in
      (ap (λ t. t ++ got) before.0 ∙ ap (λ t. take (length bytes) content ++ t) more.0 ∙ sym (take-add (length bytes) count content) ∙ ap (λ n. take n content) (sym all), omega (arith, all, more.1));
}

-- where a read gives nothing more, the bytes are the file
pub fronts_whole : (told : Bool) (files : Files) (name bytes got : List ℕ) →
    Fronts told files name bytes → told ≡ true → ReadsFile files name (length bytes) 0 got → files name ≡ Some bytes
fronts_whole told files name bytes got so_far is reads =
    let before = so_far.front is reads.content reads.there in
    let past : length reads.content ≤ length bytes = reads.end.0 refl in
    reads.there ∙ ap Some (sym (before.0 ∙ take-whole reads.content (length bytes) (omega (arith, before.1))))

-- where it gives too many, the file is too long
pub fronts_long : (told : Bool) (files : Files) (name bytes : List ℕ) (most count : ℕ) (got : List ℕ) →
    Fronts told files name bytes → told ≡ true → ReadsFile files name (length bytes) count got → length got ≡ count →
    most < length bytes + count → IsTooLong files name most
fronts_long told files name bytes most count got so_far is reads long over =
    let more = read_within files name got reads.content (length bytes) count reads long reads.there (so_far.front is reads.content reads.there).1 in
    record { bytes = reads.content; there = reads.there; long = omega (arith, more.1) }
