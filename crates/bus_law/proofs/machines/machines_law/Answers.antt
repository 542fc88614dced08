use Rattle.bus_law.proofs.AnswersSeen.{answers-are}
use Rattle.bus_law.proofs.Runs.{receivers-run, senders-run}
use Rattle.bus_law.proofs.Seen.{seen-is}
use Rattle.bus_law.proofs.machines.machines_law.Goals as goal

pub returns-clause-receivers : goal.returns-clause-receivers
returns-clause-receivers c = receivers-run

pub returns-clause-senders : goal.returns-clause-senders
returns-clause-senders c = senders-run

pub returns-clause-came : goal.returns-clause-came
returns-clause-came c = seen-is

pub returns-clause-answers : goal.returns-clause-answers
returns-clause-answers c = answers-are
