use Rattle.std.proofs.Common.{◌+◌, ◌-◌}
use Rattle.machine_model.specs.Gated.{Stand}
use Rattle.guest_parts.specs.Running.{Rises}
use Rattle.guest_entries.specs.Steps.{instruction_steps}
use Rattle.thread_step.specs.Turned.{Ready}
use Rattle.thread_step.proofs.Whole.{OnTheWay}
use Rattle.thread_step.proofs.entries.turn.Given as goal

abbrev pub invariant-loop-i : goal.invariant-loop-i
invariant-loop-i g l = record {
  on : (d : Stand) → Ready l.fn.hall l.fn.t l.fn.own l.fn.table.items d → (e : Stand) × OnTheWay l.fn.hall l.hall l.fn.t l.fn.rules l.fn.own l.own l.table.items d l._i e;
  count : Rises (g.N.Engine.count l.fn.engine) (g.N.Engine.count l.engine) ((instruction_steps l.fn.hall.case l.hall.journal + l.own.k) - (instruction_steps l.fn.hall.case l.fn.hall.journal + l.fn.own.k));
}
