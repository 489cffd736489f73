use Rattle.std.proofs.Common.{◌≡◌, ◌≤◌, ◌-◌, ℕ}
use Rattle.machine_model.specs.Gated.{Stand}
use Rattle.hall_core.specs.Hall.{both, machine}
use Rattle.guest_parts.specs.Running.{Rises}
use Rattle.guest_steps.specs.Own.{Along}
use Rattle.guest_steps.specs.Stretched.{Moved}
use Rattle.guest_steps.proofs.stretch.stretch.Given as goal

abbrev pub invariant-loop-came : goal.invariant-loop-came
invariant-loop-came g l = record {
  moved : (t : ℕ) (d : Stand) → Along l.fn.hall.case (both l.fn.hall) t l.fn.own l.fn.table.items d → (e : Stand) × Moved l.fn.hall.case (both l.fn.hall) t l.fn.own l.own l.table.items d e;
  left : l.left ≡ l.fn.hall.case.limit - (machine l.fn.hall).steps;
  later : l.fn.own.k ≤ l.own.k;
  count : Rises (g.N.Engine.count l.fn.engine) (g.N.Engine.count l.engine) (l.own.k - l.fn.own.k);
}

abbrev pub decreases-loop-came : goal.decreases-loop-came
decreases-loop-came g l = 4097 - l.own.k
