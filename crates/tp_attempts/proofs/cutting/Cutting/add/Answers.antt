-- Each kind of unit that begins no attempt.
use Rattle.std.proofs.Common.{◌≡◌, None, Some, length, refl, ap}
use Rattle.std.specs.Prelude.{not}
use Rattle.tp_unit.specs.Reading.{unit_of}
use Rattle.tp_unit.specs.Unit.{FirstFrame, FlowControl, NoUnit}
use Rattle.tp_attempts.proofs.Growth.{passes, passes-first, looks-on}
use Rattle.tp_attempts.proofs.cutting.Cutting.add.Goals as goal

pub returns-then-functional : goal.returns-then-functional
returns-then-functional c = λ seen cut.
    passes c.args.a c.args.functional c.args.self.now.done c.args.self.now.last seen c.args.place (length c.args.frame.now.bytes) (FirstFrame c.in-Ff.len c.in-Ff.bytes.items) (unit_of c.args.a c.args.frame.now) c.in-Ff.ensures (ap not c.if-functional.true) (λ walk. refl) cut

pub returns-in_default : goal.returns-in_default
returns-in_default c = λ seen cut.
    let none : c.args.self.now.last ≡ None = cc in
    passes-first c.args.a c.args.functional c.args.self.now.done c.args.self.now.last seen c.args.place (length c.args.frame.now.bytes) c.in-Cf.sn c.in-Cf.bytes.items (unit_of c.args.a c.args.frame.now) none c.in-Cf.ensures cut

pub returns-in_ok-look-in-Cf : goal.returns-in_ok-look-in-Cf
returns-in_ok-look-in-Cf c = λ seen cut.
    let some : c.args.self.now.last ≡ Some c.in-Some.last = cc in
    let bytes : c.as_slice-in-Cf.result.now ≡ c.in-Cf.bytes.items = c.as_slice-in-Cf.ensures.value in
    let size : length c.bytes-size.result.now ≡ length c.args.frame.now.bytes = ap length c.bytes-size.ensures.bytes in
    looks-on c.args.a c.args.functional c.args.self.now.done c.args.self.now.last c.in-Some.last c.look.new.self seen c.args.place (length c.args.frame.now.bytes) c.in-Cf.sn c.in-Cf.bytes.items (unit_of c.args.a c.args.frame.now) some c.in-Cf.ensures
    (λ start walk keeps. rw (← bytes, ← size) (c.in_ok-look-in-Cf.ensures start walk keeps)) cut

pub returns-in-Fc : goal.returns-in-Fc
returns-in-Fc c = λ seen cut.
    passes c.args.a c.args.functional c.args.self.now.done c.args.self.now.last seen c.args.place (length c.args.frame.now.bytes) (FlowControl _ _ _) (unit_of c.args.a c.args.frame.now) c.in-Fc.ensures refl (λ walk. refl) cut

pub returns-in-Ignored : goal.returns-in-Ignored
returns-in-Ignored c = λ seen cut.
    passes c.args.a c.args.functional c.args.self.now.done c.args.self.now.last seen c.args.place (length c.args.frame.now.bytes) (NoUnit _) (unit_of c.args.a c.args.frame.now) c.in-Ignored.ensures refl (λ walk. refl) cut
