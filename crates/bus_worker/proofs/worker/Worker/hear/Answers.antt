use Rattle.std.proofs.Common.{◌≡◌, ◌++◌, [], List, length, refl, ap, sym, subst, ◌∙◌, arith, append_assoc}
use Rattle.std.proofs.lemmas.Option.{get_or_from_slice_get, slice_get_within}
use Rattle.tp_unit.specs.Reading.{unit_of}
use Rattle.tp_unit.specs.Unit.{meaning_of}
use Rattle.gw_law.specs.Channels.{bytes_of_address}
use Rattle.bus_worker.proofs.Doing.{did-then}
use Rattle.bus_worker.proofs.Heard.{answer-heard, answered, frame-heard, no-answer, read-of, sent-same, still-clear, still-hears, works-more}
use Rattle.bus_worker.proofs.Working.{works-none}
use Rattle.bus_worker.specs.Acts.{Act}
use Rattle.bus_worker.specs.Hearing.{IsHeard, Nowhere, Somewhere}
use Rattle.bus_worker.specs.Phases.{Rests}
use Rattle.bus_worker.specs.declared.comes.Comes.{Comes}
use Rattle.bus_worker.proofs.worker.Worker.hear.Goals as goal

pub returns-in_default : goal.returns-in_default
returns-in_default g c since acts by at clear =
    works-more c.args.tick.0 1 9 _ acts c.args.self.now c.args.self.now _ _
    (works-none c.args.tick.0 (IsHeard c.args.tick.0 c.args.self.now.routes.items c.args.self.now.channels.items c.args.frame.now) c.args.self.now _ (Nowhere c.in_default.ensures refl) since acts by at)

pub index-requires : goal.index-requires
index-requires g c = (let below = slice_get_within c.args.self.now.routes.items c.in-Some.place c.in-Some.ensures.comes c.in-Some.ensures.there in let ok = c.args.self.now.routes.ok.0 in omega (arith, below, ok))

pub hear_unit-requires-clause-read : goal.hear_unit-requires-clause-read
hear_unit-requires-clause-read g c =
    let to = c.in-Some.ensures in
    let comes : c.index.result.now ≡ to.comes = c.index.ensures ∙ get_or_from_slice_get c.args.self.now.routes.items c.in-Some.place to.comes c.index.result.now to.there in
    let read = c.unit-unit.ensures ∙ ap (λ (x : Comes). unit_of (bytes_of_address x.byte) c.args.frame.now) comes in
    (to.comes, to.there, read-of to.comes c.args.frame.now c.bytes.result.now (meaning_of c.unit-unit.result) c.bytes.ensures.lawful c.bytes.ensures.bytes read)

pub hear_answer-requires-clause-can : goal.hear_answer-requires-clause-can
hear_answer-requires-clause-can g c =
    still-hears c.args.tick.0 0 c.in-Some.place (length c.bytes.result.now) (meaning_of c.unit-unit.result) c.args.self.now c.hear_unit.new.self _ _ c.requires.can c.in_ok-hear_unit.ensures

pub returns-in_ok-hear_answer : goal.returns-in_ok-hear_answer
returns-in_ok-hear_answer g c since acts by at clear =
    let to = c.in-Some.ensures in
    let place = c.in-Some.place in
    let tick = c.args.tick.0 in
    let v = c.args.self.now in
    let frame = c.args.frame.now in
    let meaning = meaning_of c.unit-unit.result in
    let comes : c.index.result.now ≡ to.comes = c.index.ensures ∙ get_or_from_slice_get v.routes.items place to.comes c.index.result.now to.there in
    let read = c.unit-unit.ensures ∙ ap (λ (x : Comes). unit_of (bytes_of_address x.byte) frame) comes in
    let one = c.in_ok-hear_unit.ensures since acts by at clear in
    let two = c.in_ok-hear_answer.ensures tick (one.done ++ acts) (omega arith) one.at (λ other. still-clear tick other one.done acts (one.are.senders other) (clear other)) in
    let R : List Act → Type 0 = λ l. Rests {Home = g.P.Port.Home} tick l c.hear_answer.new.self (g.P.Port.state c.hear_answer.new.port) in
    let frames = frame-heard tick place to.comes frame c.bytes.result.now meaning v.channels.items one.done c.bytes.ensures.bytes read one.are in
    let answers = answer-heard tick place v.channels.items two.done meaning c.answer_of-answer.result c.in-Some-answer.event c.answer_of-answer.ensures c.in-Some-answer.is (sent-same tick c.in-Some-answer.event place v.channels.items c.hear_unit.new.self.channels.items two.done one.did.channels two.are) in
    record {
      done = two.done ++ one.done;
      at = subst R (sym (append_assoc two.done one.done acts)) two.at;
      did = did-then 1 9 0 0 one.done two.done v c.hear_unit.new.self c.hear_answer.new.self _ _ _ one.did two.did;
      are = Somewhere place to one.done two.done refl frames (answered tick place v.channels.items two.done meaning (unit_of (bytes_of_address to.comes.byte) frame) read answers);
      sent = two.sent ∙ one.sent;
    }

pub returns-in_default-answer : goal.returns-in_default-answer
returns-in_default-answer g c since acts by at clear =
    let to = c.in-Some.ensures in
    let place = c.in-Some.place in
    let tick = c.args.tick.0 in
    let v = c.args.self.now in
    let frame = c.args.frame.now in
    let meaning = meaning_of c.unit-unit.result in
    let comes : c.index.result.now ≡ to.comes = c.index.ensures ∙ get_or_from_slice_get v.routes.items place to.comes c.index.result.now to.there in
    let read = c.unit-unit.ensures ∙ ap (λ (x : Comes). unit_of (bytes_of_address x.byte) frame) comes in
    let one = c.in_ok-hear_unit.ensures since acts by at clear in
    let frames = frame-heard tick place to.comes frame c.bytes.result.now meaning v.channels.items one.done c.bytes.ensures.bytes read one.are in
    record {
      done = one.done;
      at = one.at;
      did = one.did;
      are = Somewhere place to one.done [] refl frames (answered tick place v.channels.items [] meaning (unit_of (bytes_of_address to.comes.byte) frame) read (no-answer tick place v.channels.items meaning c.answer_of-answer.result c.answer_of-answer.ensures c.in_default-answer.is));
      sent = one.sent;
    }
