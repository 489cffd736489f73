-- The guest of a slot's thread, and what it is for it to be ready for a turn.
use Rattle.std.specs.Prelude.{◌≡◌, ◌≢◌, ◌<◌, ℕ, false, List, [], Option, Some, None}
use Rattle.ir_syntax.specs.declared.block.Block.{Block}
use Rattle.lib_table.specs.Library.{birth, is_unborn, life_at}
use Rattle.lib_table.specs.declared.slot.Birth.{Birth}
use Rattle.machine_model.specs.CaseData.{CaseData}
use Rattle.machine_model.specs.Gated.{Stand, no_spot, spot_at}
use Rattle.machine_model.specs.Ready.{HasGrown}
use Rattle.machine_model.specs.State.{Core, core_at, first_core, list_at, thread_in}
use Rattle.machine_model.specs.Step.{born_core}
use Rattle.hall_core.specs.Hall.{HallData, both, machine}
use Rattle.thread_step.specs.declared.guest.Guest.{Guest}
use Rattle.thread_step.specs.declared.rules.Turned.{Turned}
use Rattle.thread_step.specs.declared.rules.Turned.TheVariants.{Ran, Waiting, Ended, Idle, Memory}
use Rattle.guest_steps.specs.Ages.{AreAges}
use Rattle.guest_entries.specs.Entered.{AlongIn}

-- the slot of a guest, the private steps of its thread since the thread's last entry, and the ages of the thread's waiting writes
abbrev pub guest_slot : Guest → ℕ
guest_slot g = g.slot

abbrev pub private_steps : Guest → ℕ
private_steps g = g.own.k

abbrev pub guest_ages : Guest → List ℕ
guest_ages g = g.own.ages

-- what a slot's thread works on before its first step: that of slot 0 was born for no function
abbrev pub starting_core : CaseData → ℕ → Option Birth → Core
starting_core c slot None = first_core c
starting_core c slot (Some b) = born_core slot (Some b)

-- the thread of a slot made no entry yet
pub record IsNewborn (h : HallData Block) (slot : ℕ) : Type 0 where
  pub core : core_at (machine h) slot ≡ starting_core h.case slot (birth (machine h).library slot)
  pub writes : list_at (machine h) slot ≡ []
  pub spot : spot_at (both h).gate slot ≡ no_spot

-- a guest that has begun its thread stands with it, at d
pub record StandsWith (h : HallData Block) (t : ℕ) (g : Guest) (d : Stand) : Type 0 where
  pub along : AlongIn h t g.own g.table.items d
  pub fresh : AreAges 255 g.own.ages

-- no thread that the guest has begun lives in its slot
abbrev pub HasNone : HallData Block → Guest → Type 0
HasNone h g = (t : ℕ) → thread_in (machine h) g.slot ≡ Some t → g.thread ≢ Some t

-- While the run goes on: a thread that lives in the guest's slot was begun by the guest, which stands with it, or made no entry
-- yet. A guest that has none has no private steps and no ages, and a thread that was begun was born.
pub record IsStanding (h : HallData Block) (g : Guest) : Type 0 where
  pub low : g.slot < 64
  pub begun : (t : ℕ) → (machine h).ending ≡ None → thread_in (machine h) g.slot ≡ Some t → g.thread ≡ Some t → (d : Stand) × StandsWith h t g d
  pub new : (t : ℕ) → (machine h).ending ≡ None → thread_in (machine h) g.slot ≡ Some t → g.thread ≢ Some t → IsNewborn h g.slot
  pub told : (machine h).ending ≡ None → HasNone h g → g.own.k ≡ 0
  pub none : (machine h).ending ≡ None → HasNone h g → g.own.ages ≡ []
  pub born : (t : ℕ) → (machine h).ending ≡ None → g.thread ≡ Some t → is_unborn (life_at (machine h).library t) ≡ false

-- the thread doesn't stand, right after a miss, at a place that isn't grown
pub record IsReady (h : HallData Block) (g : Guest) : Type 0 where
  pub stands : IsStanding h g
  pub grown : (t : ℕ) → (machine h).ending ≡ None → thread_in (machine h) g.slot ≡ Some t → HasGrown h.case.image (both h) g.slot

-- after a turn a guest is ready for the next; where memory was wanting, its thread may stand at a place that it missed
abbrev pub IsLeft : Turned → HallData Block → Guest → Type 0
IsLeft Ran h g = IsReady h g
IsLeft Waiting h g = IsReady h g
IsLeft Ended h g = IsReady h g
IsLeft Idle h g = IsReady h g
IsLeft (Memory e) h g = IsStanding h g
