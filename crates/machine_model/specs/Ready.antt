-- From where the rules of a turn name a step.
use Rattle.std.specs.Prelude.{◌≡◌, ℕ, ◌≤◌, false, ◌⊎◌, length}
use Rattle.elf_image.specs.Layout.{ImageData}
use Rattle.machine_model.specs.CaseData.{CaseData}
use Rattle.machine_model.specs.Gated.{Both, Other, most_grown, spot_at, stand_at}
use Rattle.machine_model.specs.InBlocks.{AreSettled}
use Rattle.machine_model.specs.Own.{IsWhole}
use Rattle.machine_model.specs.Serial.{is_missing}

-- After a miss without a step since, a slot's thread doesn't stand at a place that isn't grown.
abbrev pub HasGrown : ImageData → Both → ℕ → Type 0
HasGrown image b s = ((spot_at b.gate s).latest ≡ Other) ⊎ (is_missing image b.gate.grown (stand_at b s) ≡ false)

-- what holds of a machine and a gate after each gated journal, where no more first places are grown than may be
pub record IsSound (c : CaseData) (b : Both) : Type 0 where
  pub whole : IsWhole b
  pub settled : AreSettled c.image b
  pub few : length b.gate.grown ≤ most_grown
