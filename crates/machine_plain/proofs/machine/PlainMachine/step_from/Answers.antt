use Rattle.std.proofs.Common.{ap}
use Rattle.journal_pack.specs.Entry.{thread_of}
use Rattle.machine_plain.proofs.machine.PlainMachine.step_from.Goals as goal

pub returns-in-Dead-clause-step : goal.returns-in-Dead-clause-step
returns-in-Dead-clause-step c = rw c.in-Dead.is (c.dead.ensures c.args.cpu)

pub event-requires-clause-serves : goal.event-requires-clause-serves
event-requires-clause-serves c = c.requires.serves c.in-Ev.t (ap thread_of c.in-Ev.is)
