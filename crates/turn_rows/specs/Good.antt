-- A run that may make a turn.
use Rattle.std.specs.Prelude.{◌≡◌, ◌≢◌}
use Rattle.ir_syntax.specs.declared.block.Block.{Block}
use Rattle.hall_core.specs.Hall.{HallData}
use Rattle.thread_step.specs.declared.guest.Guest.{Guest}
use Rattle.thread_step.specs.declared.rules.Rules.{Rules}
use Rattle.thread_step.specs.Guest.{IsReady, guest_slot, private_steps}
use Rattle.thread_step.specs.Turned.{AreRules}

-- both guests are ready, they are those of two slots, and the rules are right for the case
pub record IsGood (hall : HallData Block) (guest other : Guest) (rules : Rules) : Type 0 where
  pub ready : IsReady hall guest
  pub second : IsReady hall other
  pub apart : guest_slot other ≢ guest_slot guest
  pub ruled : AreRules hall.case rules

-- the guest has no private steps that no entry told
abbrev pub IsTold : Guest → Type 0
IsTold g = private_steps g ≡ 0
