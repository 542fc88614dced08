-- The text is that of all lines, one after another.
use Rattle.std.proofs.Common.{◌∙◌}
use Rattle.session_report.proofs.Printing.{whole}
use Rattle.session_report.proofs.print.print_report.Goals as goal

pub returns : goal.returns
returns c =
    c.in_ok-push_pools.ensures
    ∙ rw (c.items-6.ensures, c.in_ok-push_pool.ensures, c.in_ok-push_moves.ensures, c.items-5.ensures, c.in_ok-push_first_moves.ensures, c.items-4.ensures, c.in_ok-push_interfaces.ensures, c.items-3.ensures, c.in_ok-push_dests.ensures, c.items-2.ensures, c.in_ok-push_sessions.ensures, c.items.ensures, c.in_ok-push_clock.ensures, c.in_ok-push_version.ensures, c.new-text.ensures)
    (whole c.args.report.now)
