use Rattle.ir_runner.specs.Rounds.{HasRun}
use Rattle.ir_runner.proofs.Walking.{Way}
use Rattle.ir_runner.proofs.rounds.round.Given as goal

abbrev pub invariant-loop-slot : goal.invariant-loop-slot
invariant-loop-slot g l = record {
  way : Way l.fn.hall l.hall l.fn.guests.items l.guests.items l.fn.rules l.slot;
  run : HasRun (g.N.Engine.count l.fn.engine) (g.N.Engine.count l.engine) l.fn.hall l.hall;
}
