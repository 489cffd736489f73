-- The turn of a guest's slot in the serial order.
use Rattle.std.specs.Prelude.{◌≡◌, ◌≢◌, ℕ, List, [], ◌++◌, length, slice_index_or, Some}
use Rattle.ir_syntax.specs.declared.block.Block.{Block}
use Rattle.journal_pack.specs.declared.entry.Entry.{Entry}
use Rattle.machine_model.specs.Gated.{Stand}
use Rattle.machine_model.specs.Serial.{Reaches, Run, one_turn}
use Rattle.hall_core.specs.Hall.{HallData, both}
use Rattle.thread_step.specs.declared.guest.Guest.{Guest}
use Rattle.thread_step.specs.declared.rules.Rules.{Rules}
use Rattle.thread_step.specs.declared.rules.Turned.{Turned}
use Rattle.thread_step.specs.declared.rules.Turned.TheVariants.{Ran, Waiting, Ended, Idle, Memory}
use Rattle.thread_step.specs.Guest.{guest_ages, guest_slot}
use Rattle.thread_step.specs.Turned.{TurnIs, serial_rules}

-- what the turn of thread t comes to, where d is as far as its guest's private steps lead it
abbrev pub TakesTurn : Turned → HallData Block → HallData Block → ℕ → Rules → Guest → Guest → Stand → Type 0
TakesTurn answer old new t rules before after d = TurnIs answer old new t rules before.own after.own after.table.items d

-- a serial run is at the shared state, and has the ages of a guest for its slot
pub record IsAt (run : Run) (h : HallData Block) (g : Guest) : Type 0 where
  pub both : run.both ≡ both h
  pub journal : run.journal ≡ h.journal
  pub count : length run.ages ≡ 64
  pub ages : slice_index_or run.ages (guest_slot g) [] ≡ guest_ages g

-- The turn of the guest's slot brings the run to the shared state and the guest after it, and leaves the ages of the other
-- slots.
pub record IsOneTurn (reach : Reaches) (rules : Rules) (run : Run) (old new : HallData Block) (before after : Guest) : Type 0 where
  pub next : Run
  pub is : one_turn old.case reach (serial_rules rules) run (guest_slot before) ≡ Some next
  pub there : IsAt next new after
  pub others : (s : ℕ) → s ≢ guest_slot before → slice_index_or next.ages s [] ≡ slice_index_or run.ages s []

-- Memory was wanting: what the turn of the slot adds to the run's journal begins with what was added.
abbrev pub BeginsOneTurn : Reaches → Rules → Run → HallData Block → HallData Block → Guest → Type 0
BeginsOneTurn reach rules run old new before = (next : Run) → one_turn old.case reach (serial_rules rules) run (guest_slot before) ≡ Some next → (rest : List Entry) × (next.journal ≡ new.journal ++ rest)

-- what the turn of the guest's slot is to a serial run
abbrev pub InRun : Turned → Reaches → Rules → Run → HallData Block → HallData Block → Guest → Guest → Type 0
InRun Ran reach rules run old new before after = IsOneTurn reach rules run old new before after
InRun Waiting reach rules run old new before after = IsOneTurn reach rules run old new before after
InRun Ended reach rules run old new before after = IsOneTurn reach rules run old new before after
InRun Idle reach rules run old new before after = IsOneTurn reach rules run old new before after
InRun (Memory e) reach rules run old new before after = BeginsOneTurn reach rules run old new before
