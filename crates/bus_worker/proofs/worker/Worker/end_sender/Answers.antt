use Rattle.std.proofs.Common.{◌≡◌, Bool, sym, subst, IsSome, Option, [], refl}
use Rattle.std.specs.Bool.{MatchBool}
use Rattle.gw_base.proofs.Lists.{none-some}
use Rattle.bus_worker.proofs.Finishing.{ends-more, ends-none, over-earlier, over-now, rests-after-ends}
use Rattle.bus_worker.specs.declared.channel.Sending.{Sending}
use Rattle.bus_worker.proofs.worker.Worker.end_sender.Goals as goal

pub returns-then-not-is_destination : goal.returns-then-not-is_destination
returns-then-not-is_destination g c = record {
  ends = ends-none c.args.last.0 c.args.place c.args.self.now _;
  over = λ s is. absurd (none-some c.if-not-is_destination.ensures is);
}

pub loop-init : goal.loop-init
loop-init g c = record { there = c.if-not-is_destination.ensures; rests = c.requires.rests; ends = ends-none c.args.last.0 c.args.place c.args.self.now _ }

pub returns-then-not-branch : goal.returns-then-not-branch
returns-then-not-branch g c =
    let so = c.loop.invariant in
    let rests = c.requires.rests in
    let once = c.in_ok-end_once.ensures in
    let records = once.told.tells.did.records in
    let M : Bool → Type 0 = λ b. MatchBool b (records ≡ [] → ⊥) (records ≡ []) in
    let did = (so.ends rests.since rests.acts rests.by rests.at).works.did in
    record {
      ends = ends-more c.args.last.0 c.args.place c.in_ok-end_once.field-0 c.args.self.now c.loop.self c.end_once.new.self _ _ _ so.ends once;
      over = λ s is. over-earlier _ _ s did.same.rise (over-now c.args.place c.args.last.0 c.loop.self c.end_once.new.self _ _ once.told (subst M c.if-not-branch.true once.made) s is);
    }

pub loop-preserved : goal.loop-preserved
loop-preserved g c =
    let so = c.loop.invariant in
    let once = c.in_ok-end_once.ensures in
    let S : Option Sending → Type 0 = λ found. IsSome found in
    let step = ends-more c.args.last.0 c.args.place c.in_ok-end_once.field-0 c.loop.self c.loop.self c.end_once.new.self _ _ _ (ends-none c.args.last.0 c.args.place c.loop.self _) once in
    record {
      there = subst S (sym once.told.there) refl;
      rests = rests-after-ends c.args.last.0 c.args.place c.loop.self c.end_once.new.self _ _ so.rests step;
      ends = ends-more c.args.last.0 c.args.place c.in_ok-end_once.field-0 c.args.self.now c.loop.self c.end_once.new.self _ _ _ so.ends once;
    }
