-- What an entry comes to, as the walker finds it out before anything changes.
use Rattle.std.specs.Prelude.{◌≡◌, true, Option, Some, is_some}
use Rattle.x86_model.specs.declared.cpu.Cpu.{Cpu}
use Rattle.x86_model.specs.declared.want.Want.{Want}
use Rattle.x86_model.specs.Want.{want}
use Rattle.journal_pack.specs.Entry.{private_of}
use Rattle.journal_pack.specs.declared.entry.Entry.{Entry}
use Rattle.machine_model.specs.CaseData.{CaseData}
use Rattle.machine_model.specs.State.{Machine}
use Rattle.machine_model.specs.Gated.{Both, Spot, Stand, IsAllowed, gated_steps, spot_after, spot_at}
use Rattle.machine_model.specs.Step.{admits, after_private, answered, cpu_at, slot_in, step_from}
use Rattle.elf_image.specs.Layout.{ImageData}
use Rattle.replay_view.specs.declared.moment.Moment.{Moment}
use Rattle.replay_view.specs.Follow.{MayCome}
use Rattle.replay_view.specs.Gates.{gate_of}

-- the machine with its gate, as they are kept
abbrev pub both_of : ImageData → Moment → Both
both_of image m = record { machine = m.machine; gate = gate_of image m.gate }

-- the entry is a step, by what its thread works on after the private steps and wants then
pub record IsBegun (c : CaseData) (m : Machine) (e : Entry) (cpu : Cpu) (wanted : Want) : Type 0 where
  pub admits : admits m e ≡ true
  pub private : after_private c.image (private_of e) (cpu_at m (slot_in e)) ≡ Some cpu
  pub wants : wanted ≡ want c.image cpu
  pub stands : is_some (step_from c m e cpu) ≡ true

-- where the private steps lead a thread, if each of them may be made
abbrev pub gated_from : CaseData → Both → Entry → Option Stand
gated_from c b e = gated_steps c.image b.gate.grown (private_of e) (record { cpu = cpu_at b.machine (slot_in e); left = (spot_at b.gate (slot_in e)).left })

-- the entry may come, and leaves its thread here, the instruction of an event begun
pub record IsPlaced (c : CaseData) (b : Both) (e : Entry) (spot : Spot) : Type 0 where
  pub leaves : (after : Cpu) → Some spot ≡ spot_after c.image b.gate.grown e (cpu_at b.machine (slot_in e)) (answered after 0) (spot_at b.gate (slot_in e))
  pub allowed : IsAllowed c.image b.gate e

-- it may not come, or grows against the rule
abbrev pub IsBarred : CaseData → Both → Entry → Type 0
IsBarred c b e = (n : Both) → MayCome c b e n → ⊥
