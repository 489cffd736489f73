use Rattle.std.proofs.Common.{ℕ, ◌-◌, ◌≤◌}
use Rattle.machine_model.specs.CaseData.{CaseData}
use Rattle.machine_model.specs.Gated.{Both, Stand}
use Rattle.guest_parts.specs.Running.{Rises}
use Rattle.guest_steps.specs.Ahead.{Strode}
use Rattle.guest_steps.specs.Own.{Along}
use Rattle.guest_steps.proofs.ahead.ahead.Given as goal

pub record Gone (Far Later Count : Type 0) : Type 0 where
  pub far : Far
  pub later : Later
  pub count : Count

abbrev pub invariant-loop : goal.invariant-loop
invariant-loop g l = Gone
    ((c : CaseData) (b : Both) (t : ℕ) (d : Stand) → Along c b t l.initial.own l.initial.table.items d → (e : Stand) × Strode c b t l.initial.own l.own l.table.items d e)
    (l.initial.own.k ≤ l.own.k)
    (Rises (g.N.Engine.count l.initial.engine) (g.N.Engine.count l.engine) (l.own.k - l.initial.own.k))

abbrev pub decreases-loop : goal.decreases-loop
decreases-loop g l = 4096 - l.own.k
