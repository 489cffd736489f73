use Rattle.std.proofs.Common.{ap}
use Rattle.journal_pack.specs.Entry.{thread_of}
use Rattle.replay_machine.proofs.machine.Machine.make.Goals as goal

pub event-requires-clause-serves : goal.event-requires-clause-serves
event-requires-clause-serves c = c.requires.serves c.in-Ev.t (ap thread_of c.in-Ev.is)
