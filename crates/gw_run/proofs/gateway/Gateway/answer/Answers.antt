use Rattle.std.proofs.Common.{◌≡◌, List, [], ◌++◌, refl, ap, sym, subst, ◌∙◌, arith, append-nil, inl, inr}
use Rattle.tp_unit.specs.Box.{Answer}
use Rattle.tp_sender.specs.declared.event.TxEvent.TheVariants.{Fc}
use Rattle.gw_run.specs.Frames.{address_of, unit_for}
use Rattle.tp_unit.specs.Unit.{Meaning, FlowControl, meaning_of}
use Rattle.gw_law.specs.Channels.{answer_in}
use Rattle.gw_run.specs.Standing.{InDestination}
use Rattle.gw_run.proofs.Barriers.{answered}
use Rattle.gw_run.proofs.CanTell.{can-tell-sender}
use Rattle.gw_run.proofs.gateway.Gateway.answer.Goals as goal

pub tell_sender-requires : goal.tell_sender-requires
tell_sender-requires c =
    can-tell-sender c.requires.at.2 c.args.self.now c.args.tick.0 c.args.tick.0 _ _ _ (Fc c.in-Fc.fs c.in-Fc.bs c.in-Fc.st) c.requires.at.3.stands (omega arith) c.requires.tick (λ e. cc)

pub returns-in_ok-tell_sender-in-Fc-clause-step : goal.returns-in_ok-tell_sender-in-Fc-clause-step
returns-in_ok-tell_sender-in-Fc-clause-step c = λ sizes seen answers at.
    let is : FlowControl c.in-Fc.fs c.in-Fc.bs c.in-Fc.st ≡ unit_for (address_of c.args.address) c.args.frame.now = sym (ap meaning_of c.in-Fc.is) ∙ c.unit.ensures in
    let P : Meaning → Type 0 = λ m. InDestination sizes c.tell_sender.new.self seen (answers ++ answer_in c.args.tick.0 m) c.args.tick.0 in
    subst P is (answered sizes c.args.self.now c.tell_sender.new.self seen answers c.args.tick.0 c.in-Fc.fs c.in-Fc.bs c.in-Fc.st at c.in_ok-tell_sender-in-Fc.ensures)

-- no other frame is an answer
pub returns-in-Sf : goal.returns-in-Sf
returns-in-Sf c = record {
  machines = refl;
  step = λ sizes seen answers at.
      let said = c.unit.ensures in
      let none : [] ≡ answer_in c.args.tick.0 (unit_for (address_of c.args.address) c.args.frame.now) = elim c.in-Sf.is [
        | inl single ↦ ap (answer_in c.args.tick.0) (sym (ap meaning_of single.1) ∙ said)
        | inr more ↦ elim more [
          | inl first ↦ ap (answer_in c.args.tick.0) (sym (ap meaning_of first.2) ∙ said)
          | inr rest ↦ elim rest [
            | inl consecutive ↦ ap (answer_in c.args.tick.0) (sym (ap meaning_of consecutive.2) ∙ said)
            | inr ignored ↦ ap (answer_in c.args.tick.0) (sym (ap meaning_of ignored.1) ∙ said)
          ]
        ]
      ] in
      let P : List Answer → Type 0 = λ l. InDestination sizes c.args.self.now seen l c.args.tick.0 in
      subst P (sym (append-nil answers) ∙ ap (λ (l : List Answer). answers ++ l) none) at;
}
