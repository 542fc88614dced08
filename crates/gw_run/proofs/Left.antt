-- What the calls that write the results leave, one after another.
use Rattle.std.proofs.Common.{◌≡◌, ◌≢◌, ℕ, List, [], length, Some, Ok, Err, Result, inl, inr, refl, sym, ◌∙◌, ap}
use Rattle.std.proofs.Math.Seq.{take-length}
use Rattle.gw_depot.specs.Files.{Files, CreatesFile, OthersStay}
use Rattle.gw_run.specs.Results.{HasBegun, HasOutputs, HasResults, IsBegun, OutputsBegun}
use Rattle.gw_run.specs.Setup.{Setup}
use Rattle.gw_run.specs.Whole.{AppendsAll}

-- both outputs were made and written
pub outputs_made : {E F : Type 0} (f0 f1 f2 f3 f4 : Files) (setup : Setup) (controls frames : List ℕ) → setup.source.out ≢ setup.destination.out →
    CreatesFile {E = E} f0 f1 setup.source.out (Ok (tt {0})) → CreatesFile {E = E} f1 f2 setup.destination.out (Ok (tt {0})) →
    AppendsAll {E = F} f2 f3 setup.source.out controls (Ok (tt {0})) → AppendsAll {E = F} f3 f4 setup.destination.out frames (Ok (tt {0})) → HasOutputs f0 f4 setup controls frames
outputs_made f0 f1 f2 f3 f4 setup controls frames apart source destination first second = record {
  source = second.others setup.source.out apart ∙ first.all [] (destination.others setup.source.out apart ∙ source.made);
  destination = second.all [] (first.others setup.destination.out (λ e. apart (sym e)) ∙ destination.made);
  others = λ name a b. second.others name b ∙ first.others name a ∙ destination.others name b ∙ source.others name a;
}

-- nothing was begun
pub begun-nothing : (f : Files) (setup : Setup) (controls frames : List ℕ) → OutputsBegun f f setup controls frames
begun-nothing f setup controls frames = record { source = inl refl; destination = inl refl; others = λ name a b. refl }

-- a call changed the source's output alone, or the destination's
pub begun-source : (f0 f g : Files) (setup : Setup) (controls frames : List ℕ) → setup.source.out ≢ setup.destination.out → OutputsBegun f0 f setup controls frames →
    IsBegun f0 g setup.source.out controls → OthersStay f g setup.source.out → OutputsBegun f0 g setup controls frames
begun-source f0 f g setup controls frames apart so_far is stay = record {
  source = is;
  destination = let same : g setup.destination.out ≡ f setup.destination.out = stay setup.destination.out (λ e. apart (sym e)) in
      elim so_far.destination [ inl kept ↦ inl (same ∙ kept) | inr (count, some) ↦ inr (count, same ∙ some) ];
  others = λ name a b. stay name a ∙ so_far.others name a b;
}

pub begun-destination : (f0 f g : Files) (setup : Setup) (controls frames : List ℕ) → setup.source.out ≢ setup.destination.out → OutputsBegun f0 f setup controls frames →
    IsBegun f0 g setup.destination.out frames → OthersStay f g setup.destination.out → OutputsBegun f0 g setup controls frames
begun-destination f0 f g setup controls frames apart so_far is stay = record {
  source = let same : g setup.source.out ≡ f setup.source.out = stay setup.source.out apart in
      elim so_far.source [ inl kept ↦ inl (same ∙ kept) | inr (count, some) ↦ inr (count, same ∙ some) ];
  destination = is;
  others = λ name a b. stay name b ∙ so_far.others name a b;
}

-- a file that was created, or wasn't
pub begun-created : {E : Type 0} (f g : Files) (name bytes : List ℕ) (failed : E) → CreatesFile {T = Unit {0}} {E = E} f g name (Err failed) → IsBegun f g name bytes
begun-created f g name bytes failed made = elim made.kept [ inl same ↦ inl same | inr empty ↦ inr (0, empty) ]

-- the first create failed
pub not_created : {E : Type 0} (f0 f1 : Files) (setup : Setup) (controls frames : List ℕ) (failed : E) → setup.source.out ≢ setup.destination.out →
    CreatesFile {T = Unit {0}} {E = E} f0 f1 setup.source.out (Err failed) → OutputsBegun f0 f1 setup controls frames
not_created f0 f1 setup controls frames failed apart made =
    begun-source f0 f0 f1 setup controls frames apart (begun-nothing f0 setup controls frames) (begun-created f0 f1 setup.source.out controls failed made) made.others

-- the source's output was created
pub one_created : {E : Type 0} (f0 f1 : Files) (setup : Setup) (controls frames : List ℕ) → setup.source.out ≢ setup.destination.out →
    CreatesFile {E = E} f0 f1 setup.source.out (Ok (tt {0})) → OutputsBegun f0 f1 setup controls frames
one_created f0 f1 setup controls frames apart made =
    begun-source f0 f0 f1 setup controls frames apart (begun-nothing f0 setup controls frames) (inr (0, made.made)) made.others

-- and the second create failed
pub not_both_created : {E F : Type 0} (f0 f1 f2 : Files) (setup : Setup) (controls frames : List ℕ) (failed : F) → setup.source.out ≢ setup.destination.out →
    CreatesFile {E = E} f0 f1 setup.source.out (Ok (tt {0})) → CreatesFile {T = Unit {0}} {E = F} f1 f2 setup.destination.out (Err failed) → OutputsBegun f0 f2 setup controls frames
not_both_created f0 f1 f2 setup controls frames failed apart source made =
    let same : f1 setup.destination.out ≡ f0 setup.destination.out = source.others setup.destination.out (λ e. apart (sym e)) in
    begun-destination f0 f1 f2 setup controls frames apart (one_created f0 f1 setup controls frames apart source)
    (elim made.kept [ inl kept ↦ inl (kept ∙ same) | inr empty ↦ inr (0, empty) ]) made.others

-- both were created, and as much as could be was appended to the source's
pub first_appended : {E F G : Type 0} (f0 f1 f2 f3 : Files) (setup : Setup) (controls frames : List ℕ) (result : Result (Unit {0}) G) → setup.source.out ≢ setup.destination.out →
    CreatesFile {E = E} f0 f1 setup.source.out (Ok (tt {0})) → CreatesFile {E = F} f1 f2 setup.destination.out (Ok (tt {0})) →
    AppendsAll {E = G} f2 f3 setup.source.out controls result → OutputsBegun f0 f3 setup controls frames
first_appended f0 f1 f2 f3 setup controls frames result apart source destination first =
    begun-source f0 f2 f3 setup controls frames apart
    (begun-destination f0 f1 f2 setup controls frames apart (one_created f0 f1 setup controls frames apart source) (inr (0, destination.made)) destination.others)
    (inr (first.some [] (destination.others setup.source.out apart ∙ source.made))) first.others

-- and then to the destination's
pub second_appended : {E F G H : Type 0} (f0 f1 f2 f3 f4 : Files) (setup : Setup) (controls frames : List ℕ) (done : Result (Unit {0}) G) (result : Result (Unit {0}) H) → setup.source.out ≢ setup.destination.out →
    CreatesFile {E = E} f0 f1 setup.source.out (Ok (tt {0})) → CreatesFile {E = F} f1 f2 setup.destination.out (Ok (tt {0})) →
    AppendsAll {E = G} f2 f3 setup.source.out controls done → AppendsAll {E = H} f3 f4 setup.destination.out frames result → OutputsBegun f0 f4 setup controls frames
second_appended f0 f1 f2 f3 f4 setup controls frames done result apart source destination first second =
    begun-destination f0 f3 f4 setup controls frames apart (first_appended f0 f1 f2 f3 setup controls frames done apart source destination first)
    (inr (second.some [] (first.others setup.destination.out (λ e. apart (sym e)) ∙ destination.made))) second.others

-- both outputs are whole, and then the report was made
pub results_made : {E F : Type 0} (f0 f3 f4 f5 : Files) (setup : Setup) (controls frames report text : List ℕ) →
    report ≢ setup.source.out → report ≢ setup.destination.out → HasOutputs f0 f3 setup controls frames →
    CreatesFile {E = E} f3 f4 report (Ok (tt {0})) → AppendsAll {E = F} f4 f5 report text (Ok (tt {0})) → HasResults f0 f5 setup controls frames report text
results_made f0 f3 f4 f5 setup controls frames report text not_source not_destination outputs made told = record {
  source = told.others setup.source.out (λ e. not_source (sym e)) ∙ made.others setup.source.out (λ e. not_source (sym e)) ∙ outputs.source;
  destination = told.others setup.destination.out (λ e. not_destination (sym e)) ∙ made.others setup.destination.out (λ e. not_destination (sym e)) ∙ outputs.destination;
  told = told.all [] made.made;
  others = λ name a b c. told.others name c ∙ made.others name c ∙ outputs.others name a b;
}

-- the outputs were begun, and the report wasn't
pub outputs_begun : (f0 f : Files) (setup : Setup) (controls frames report text : List ℕ) →
    report ≢ setup.source.out → report ≢ setup.destination.out → OutputsBegun f0 f setup controls frames → HasBegun f0 f setup controls frames report text
outputs_begun f0 f setup controls frames report text not_source not_destination begun = record {
  source = begun.source;
  destination = begun.destination;
  told = inl (begun.others report not_source not_destination);
  others = λ name a b c. begun.others name a b;
}

-- both outputs are whole, and the report was begun at most
pub report_begun : (f0 f3 f5 : Files) (setup : Setup) (controls frames report text : List ℕ) →
    report ≢ setup.source.out → report ≢ setup.destination.out → HasOutputs f0 f3 setup controls frames →
    IsBegun f3 f5 report text → OthersStay f3 f5 report → HasBegun f0 f5 setup controls frames report text
report_begun f0 f3 f5 setup controls frames report text not_source not_destination outputs begun stay =
    let source : f5 setup.source.out ≡ Some controls = stay setup.source.out (λ e. not_source (sym e)) ∙ outputs.source in
    let destination : f5 setup.destination.out ≡ Some frames = stay setup.destination.out (λ e. not_destination (sym e)) ∙ outputs.destination in
    record {
      source = inr (length controls, source ∙ ap Some (sym (take-length controls)));
      destination = inr (length frames, destination ∙ ap Some (sym (take-length frames)));
      told = elim begun [ inl same ↦ inl (same ∙ outputs.others report not_source not_destination) | inr some ↦ inr ((source, destination), some) ];
      others = λ name a b c. stay name c ∙ outputs.others name a b;
    }

-- the report wasn't made
pub report_not_made : {E : Type 0} (f0 f3 f4 : Files) (setup : Setup) (controls frames report text : List ℕ) (failed : E) →
    report ≢ setup.source.out → report ≢ setup.destination.out → HasOutputs f0 f3 setup controls frames →
    CreatesFile {T = Unit {0}} {E = E} f3 f4 report (Err failed) → HasBegun f0 f4 setup controls frames report text
report_not_made f0 f3 f4 setup controls frames report text failed not_source not_destination outputs made =
    report_begun f0 f3 f4 setup controls frames report text not_source not_destination outputs (begun-created f3 f4 report text failed made) made.others

-- the report was made, and as much as could be was appended
pub report_made : {E F : Type 0} (f0 f3 f4 f5 : Files) (setup : Setup) (controls frames report text : List ℕ) (result : Result (Unit {0}) F) →
    report ≢ setup.source.out → report ≢ setup.destination.out → HasOutputs f0 f3 setup controls frames →
    CreatesFile {E = E} f3 f4 report (Ok (tt {0})) → AppendsAll {E = F} f4 f5 report text result → HasBegun f0 f5 setup controls frames report text
report_made f0 f3 f4 f5 setup controls frames report text result not_source not_destination outputs made told =
    report_begun f0 f3 f5 setup controls frames report text not_source not_destination outputs (inr (told.some [] made.made)) (λ other apart. told.others other apart ∙ made.others other apart)
