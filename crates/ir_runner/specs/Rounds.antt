-- Rounds: the guests of all slots, and the serial run at which they are.
use Rattle.std.specs.Prelude.{◌≡◌, ◌<◌, ℕ, ◌-◌, List, ◌++◌, length, map, slice_index_or, Some, None, IsSome}
use Rattle.ir_syntax.specs.declared.block.Block.{Block}
use Rattle.journal_pack.specs.declared.entry.Entry.{Entry}
use Rattle.machine_model.specs.Serial.{AreReaches, Reaches, Run, one_turn, round}
use Rattle.machine_model.specs.State.{thread_in}
use Rattle.hall_core.specs.Hall.{HallData, both, machine, mark_at}
use Rattle.guest_parts.specs.Running.{Rises}
use Rattle.thread_step.specs.declared.guest.Guest.{Guest}
use Rattle.thread_step.specs.declared.rules.Rules.{Rules}
use Rattle.thread_step.specs.Guest.{IsReady, guest_ages, guest_slot, private_steps}
use Rattle.guest_entries.specs.Steps.{instruction_steps}
use Rattle.thread_step.specs.Turned.{serial_rules}

-- the guest of a slot is ready, and while the run goes on it has no private steps that no entry told
pub record IsGuestOf (h : HallData Block) (s : ℕ) (g : Guest) : Type 0 where
  pub slot : guest_slot g ≡ s
  pub ready : IsReady h g
  pub told : (machine h).ending ≡ None → private_steps g ≡ 0

-- each slot has its guest
pub record AreGuests (h : HallData Block) (guests : List Guest) : Type 0 where
  pub count : length guests ≡ 64
  pub each : (s : ℕ) (g : Guest) → s < 64 → IsGuestOf h s (slice_index_or guests s g)

-- the serial run at which the shared state and the guests are
abbrev pub run_of : HallData Block → List Guest → Run
run_of h guests = record { both = both h; journal = h.journal; ages = map guest_ages guests }

-- ---- the turn of a slot

-- The turn of the slot's thread, if one lives there, was made. Where that made no entry, a thread that lives there is marked.
pub record TookTurn (old new : HallData Block) (guests after : List Guest) (r : Rules) (s : ℕ) : Type 0 where
  pub turn : (reach : Reaches) → AreReaches old.case.image reach → one_turn old.case reach (serial_rules r) (run_of old guests) s ≡ Some (run_of new after)
  pub ready : AreGuests new after
  pub marked : (t : ℕ) → length new.journal ≡ length old.journal → (machine new).ending ≡ None → thread_in (machine new) s ≡ Some t → IsSome (mark_at new s)

-- memory was wanting in it: what was made is how it begins
pub record BeganTurn (old new : HallData Block) (guests : List Guest) (r : Rules) (s : ℕ) : Type 0 where
  pub grew : (entries : List Entry) × (new.journal ≡ old.journal ++ entries)
  pub begins : (reach : Reaches) (x : Run) → AreReaches old.case.image reach → one_turn old.case reach (serial_rules r) (run_of old guests) s ≡ Some x → (rest : List Entry) × (x.journal ≡ new.journal ++ rest)

-- ---- a round

-- the serial order has a next round
abbrev pub HasRound : HallData Block → List Guest → Rules → Type 0
HasRound h guests r = (reach : Reaches) → AreReaches h.case.image reach → (x : Run) × (round h.case reach (serial_rules r) (run_of h guests) ≡ Some x)

-- the next round was made
abbrev pub TookRound : HallData Block → HallData Block → List Guest → List Guest → Rules → Type 0
TookRound old new guests after r = (reach : Reaches) → AreReaches old.case.image reach → round old.case reach (serial_rules r) (run_of old guests) ≡ Some (run_of new after)

-- memory was wanting in it: what was made is how it begins
pub record BeganRound (old new : HallData Block) (guests : List Guest) (r : Rules) : Type 0 where
  pub grew : (entries : List Entry) × (new.journal ≡ old.journal ++ entries)
  pub begins : (reach : Reaches) (x : Run) → AreReaches old.case.image reach → round old.case reach (serial_rules r) (run_of old guests) ≡ Some x → (rest : List Entry) × (x.journal ≡ new.journal ++ rest)

-- ---- the engine

-- the engine ran a part at least for each step of an instruction that was added
abbrev pub HasRun : ℕ → ℕ → HallData Block → HallData Block → Type 0
HasRun before now old new = Rises before now (instruction_steps old.case new.journal - instruction_steps old.case old.journal)
