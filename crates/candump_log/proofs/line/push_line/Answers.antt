-- A line that lists a frame of its bus adds it.
use Rattle.std.proofs.Common.{◌≡◌, ◌&&◌, not, ◌++◌, ◌∷◌, [], List, ℕ, Some, Ok, false, refl, sym, subst, ap, ◌∙◌}
use Rattle.candump_line.specs.Reading.{IsLawfulLine, line_of}
use Rattle.candump_line.specs.declared.line.Line.TheVariants.{Frame}
use Rattle.candump_log.specs.Line.{listed, taken_of, without_return}
use Rattle.candump_log.specs.Log.{AddsLine}
use Rattle.candump_log.specs.Source.{Source}
use Rattle.candump_log.specs.declared.log.Stamped.{Stamped}
use Rattle.candump_log.proofs.line.push_line.Goals as goal

adds : (source : Source) (piece : List ℕ) (stamped : Stamped) (old new : List Stamped) → line_of source.interface (without_return piece) ≡ Ok (Frame stamped.at stamped.frame)
    → (stamped.frame.fd && not source.fd) ≡ false → IsLawfulLine (Frame stamped.at stamped.frame) → new ≡ old ++ stamped ∷ [] → AddsLine source piece old new
adds source piece stamped old new read there lawful is = record {
  frame = Some stamped;
  taken =
      let listed_is : listed source.fd (Frame stamped.at stamped.frame) ≡ Some stamped = rw there refl in
      ap (taken_of source.fd) read ∙ ap Ok listed_is;
  added = is;
  dated = lawful.0;
}

pub returns-clause-ok : goal.returns-clause-ok
returns-clause-ok g c =
    let same : line_of (g.S.LogSource.source c.args.source.now).interface (without_return c.args.piece.now) ≡ line_of c.interface.result.now c.without_return.result.now =
    rw (c.without_return.ensures, c.interface.ensures.interface) refl in
    let is : c.in-Ok-Frame.field-0 ≡ Frame c.in-Ok-Frame.at c.in-Ok-Frame.frame = c.in-Ok-Frame.field-0-is in
    adds _ c.args.piece.now (record { at = c.in-Ok-Frame.at; frame = c.in-Ok-Frame.frame }) _ _ (same ∙ sym c.in-Ok-Frame.ensures.read ∙ ap Ok is) (sym c.if-is_passed.ensures) (subst IsLawfulLine is c.in-Ok-Frame.ensures.lawful) c.in_ok-push.ensures.ok
