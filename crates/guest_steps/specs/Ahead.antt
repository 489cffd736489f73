-- Private steps of a thread that need nothing of the shared state.
use Rattle.std.specs.Prelude.{◌≡◌, ℕ, ◌-◌, ◌≤◌, Some}
use Rattle.machine_model.specs.CaseData.{CaseData}
use Rattle.machine_model.specs.Gated.{Both, Stand, gated_steps}
use Rattle.guest_steps.specs.declared.own.Own.{Own}
use Rattle.guest_steps.specs.Kept.{Table}
use Rattle.guest_steps.specs.Own.{Along}

-- Private steps led a guest on from d to e, and it stands with its thread there; how many may still be made before the limit
-- isn't asked.
pub record Strode (c : CaseData) (b : Both) (t : ℕ) (old new : Own) (table : Table) (d e : Stand) : Type 0 where
  pub gated : gated_steps c.image b.gate.grown (new.k - old.k) d ≡ Some e
  pub along : Along c b t new table e
  pub later : old.k ≤ new.k
  pub ages : new.ages ≡ old.ages
