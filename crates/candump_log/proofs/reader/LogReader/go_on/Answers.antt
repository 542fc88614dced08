-- A line more, a piece more, the log's end, or what stops it.
use Rattle.std.proofs.Common.{◌++◌, ◌∙◌, sym, subst, arith}
use Rattle.std.specs.Prelude.{option_to_list}
use Rattle.std.proofs.lemmas.Result.{err_from_is_err_and}
use Rattle.candump_log.specs.Reader.{GivenAt, TakesFront}
use Rattle.candump_log.proofs.Underway.{log_over, read_underway, same_log, same_underway, stops_over, stops_underway}
use Rattle.candump_log.proofs.reader.LogReader.go_on.Goals as goal

pub returns-in_err-stamped-clause-stops : goal.returns-in_err-stamped-clause-stops
returns-in_err-stamped-clause-stops g c =
    let inv = c.loop-stamped.invariant in
    let p = err_from_is_err_and c.from_residual.result c.from_residual.ensures.1 in
    rw (p.1, p.2) (λ frames up. stops_underway (g.D.Depot.state c.args.depot.now).told (g.D.Depot.state c.args.depot.now).files c.args.self.now c.loop-stamped.self _ frames (inv.6 frames up) inv.0 c.in_err-stamped.ensures.stops)

pub returns-in_err-take_last-in-Unended-clause-stops : goal.returns-in_err-take_last-in-Unended-clause-stops
returns-in_err-take_last-in-Unended-clause-stops g c =
    let inv = c.loop-stamped.invariant in
    let front = subst (TakesFront c.loop-stamped.self c.take_front.new.self) c.in-Unended.is c.in_ok-stamped.ensures.front in
    let read = c.in_ok-read_on-in-Unended.ensures in
    let p = err_from_is_err_and c.from_residual-in_err-take_last-in-Unended.result c.from_residual-in_err-take_last-in-Unended.ensures.1 in
    rw (p.1, p.2) (λ frames up.
    stops_over (g.D.Depot.state c.args.depot.now).told (g.D.Depot.state c.args.depot.now).files c.args.self.now c.take_front.new.self c.read_on.new.self _ frames
    (same_underway (g.D.Depot.state c.args.depot.now).told (g.D.Depot.state c.args.depot.now).files c.loop-stamped.self c.take_front.new.self frames (inv.6 frames up) c.in_ok-stamped.ensures.same c.in_ok-stamped.ensures.taken front.1 front.0)
    (same_log c.args.self.now c.loop-stamped.self c.take_front.new.self inv.0 c.in_ok-stamped.ensures.same) read.same read.lines
    (rw (inv.2, inv.3, c.if-branch-eq0.true) at read.read) c.in_err-take_last-in-Unended.ensures.stops)

pub returns-then-branch-eq0-clause-given : goal.returns-then-branch-eq0-clause-given
returns-then-branch-eq0-clause-given g c frames up =
    let inv = c.loop-stamped.invariant in
    let front = subst (TakesFront c.loop-stamped.self c.take_front.new.self) c.in-Unended.is c.in_ok-stamped.ensures.front in
    let read = c.in_ok-read_on-in-Unended.ensures in
    let last = c.in_ok-take_last-in-Unended.ensures in
    subst (λ s. GivenAt s (g.D.Depot.state c.args.depot.now).told (g.D.Depot.state c.args.depot.now).files c.take_last.new.self (frames ++ option_to_list c.in_ok-take_last-in-Unended.field-0)) (sym last.stage)
    (log_over (g.D.Depot.state c.args.depot.now).told (g.D.Depot.state c.args.depot.now).files c.take_front.new.self c.read_on.new.self c.take_last.new.self _ frames
    (same_underway (g.D.Depot.state c.args.depot.now).told (g.D.Depot.state c.args.depot.now).files c.loop-stamped.self c.take_front.new.self frames (inv.6 frames up) c.in_ok-stamped.ensures.same c.in_ok-stamped.ensures.taken front.1 front.0)
    read.same last.same read.lines (rw (inv.2, inv.3, c.if-branch-eq0.true) at read.read) last.last)

pub loop-stamped-preserved : goal.loop-stamped-preserved
loop-stamped-preserved g c =
    let inv = c.loop-stamped.invariant in
    let front = subst (TakesFront c.loop-stamped.self c.take_front.new.self) c.in-Unended.is c.in_ok-stamped.ensures.front in
    let read = c.in_ok-read_on-in-Unended.ensures in
    let same = same_log c.args.self.now c.loop-stamped.self c.take_front.new.self inv.0 c.in_ok-stamped.ensures.same in (
      same_log c.args.self.now c.take_front.new.self c.read_on.new.self same read.same,
      read.stage ∙ c.in_ok-stamped.ensures.stage ∙ inv.1,
      read.told ∙ inv.2,
      read.files ∙ inv.3,
      omega (arith, inv.4, read.cause.later),
      omega (arith, inv.5, front.0, read.lines),
      λ frames up.
          read_underway (g.D.Depot.state c.args.depot.now).told (g.D.Depot.state c.args.depot.now).files c.take_front.new.self c.read_on.new.self c.in_ok-read_on-in-Unended.field-0 frames
          (same_underway (g.D.Depot.state c.args.depot.now).told (g.D.Depot.state c.args.depot.now).files c.loop-stamped.self c.take_front.new.self frames (inv.6 frames up) c.in_ok-stamped.ensures.same c.in_ok-stamped.ensures.taken front.1 front.0)
          read.same read.count read.lines (rw (inv.2, inv.3) at read.read),
    )
