use Rattle.std.proofs.Common.{◌+◌, ◌-◌, ◌*◌, length}
use Rattle.ir_runner.specs.Rounds.{HasRun}
use Rattle.ir_runner.proofs.Counting.{Grew}
use Rattle.ir_runner.proofs.Running.{SoFar}
use Rattle.ir_runner.proofs.run.run_rounds.Given as goal

abbrev pub invariant-loop-rules : goal.invariant-loop-rules
invariant-loop-rules g l = record {
  so : SoFar g.O.Sink.faults g.O.Sink.held g.E.Sink.faults g.E.Sink.held l.fn.hall l.hall l.guests.items l.fn.rules l.fn.out l.out l.fn.err l.err;
  grew : Grew l.fn.hall l.hall;
  run : HasRun (g.N.Engine.count l.fn.engine) (g.N.Engine.count l.engine) l.fn.hall l.hall;
}

abbrev pub decreases-loop-rules : goal.decreases-loop-rules
decreases-loop-rules g l = 2 * l.fn.hall.case.limit + 65538 - length l.hall.journal
