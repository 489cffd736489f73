-- Growth after a thread's miss.
use Rattle.std.specs.Prelude.{◌≡◌, ℕ, ◌+◌, ◌≤◌, true, false, List, [], ◌∷◌, ◌++◌, length, Option, Some, Result, Ok, Err, OnOk}
use Rattle.std.specs.declared.alloc.AllocError.{AllocError}
use Rattle.address_space.specs.Slots.{slot_of}
use Rattle.elf_image.specs.Layout.{ImageData}
use Rattle.ir_syntax.specs.declared.block.Block.{Block}
use Rattle.ir_syntax.specs.Typed.{IsWellTyped}
use Rattle.lift_table.specs.Block.{IsFaithful, lifted_block}
use Rattle.basic_blocks.specs.Reach.{IsReach, is_among}
use Rattle.journal_pack.specs.declared.entry.Entry.{Entry}
use Rattle.journal_pack.specs.declared.entry.Entry.TheVariants.{Miss}
use Rattle.machine_model.specs.Gated.{Growing, Stand, Within, most_grown, spot_at, stand_at}
use Rattle.machine_model.specs.Serial.{AreReaches, Reaches, Turn, full_or, grow_all, grow_reach, make, ungrown}
use Rattle.hall_core.specs.Hall.{HallData, both, grown}
use Rattle.guest_parts.specs.Guest.{GuestData, IsGoing, IsWith}
use Rattle.guest_steps.specs.declared.own.Own.{Own}
use Rattle.guest_steps.specs.Kept.{Table}
use Rattle.guest_entries.specs.Entered.{AlongIn, OthersKeepMarks, turn_in}
use Rattle.guest_entries.specs.Steps.{AddsFree}

-- the block is what lifting gives at a place
abbrev pub FitsAt : ImageData → ℕ → Block → Type 0
FitsAt image a b = (b ≡ lifted_block image a) × IsWellTyped b × IsFaithful image b

-- ---- a miss that is told

-- The thread's private steps and its miss of this place are told, and the run goes on.
pub record Missed (old new : HallData Block) (t a : ℕ) (before after : Own) (table : Table) (d : Stand) : Type 0 where
  pub case : new.case ≡ old.case
  pub along : AlongIn new t after table (stand_at (both new) (slot_of t))
  pub latest : (spot_at (both new).gate (slot_of t)).latest ≡ Growing a
  pub same : grown new ≡ grown old
  pub rip : d.cpu.rip ≡ a
  pub at : (stand_at (both new) (slot_of t)).cpu.rip ≡ a
  pub made : make old.case (Miss t before.k d.cpu.last d.cpu.rip) (turn_in old before.ages) ≡ Some (turn_in new before.ages)
  pub marks : OthersKeepMarks old new t

-- ---- growth

-- After the thread's miss of this place there was nothing but growth, and its guest stands with it.
pub record InGrowth (h : HallData Block) (t a : ℕ) (g : GuestData) (d : Stand) : Type 0 where
  pub additive : h.case.strict ≡ false
  pub going : IsGoing (both h) t
  pub with : IsWith h.case (both h) t g d
  pub latest : (spot_at (both h).gate (slot_of t)).latest ≡ Growing a

-- the place is grown, too
pub record IsTargetGrown (h : HallData Block) (t a : ℕ) (g : GuestData) (d : Stand) : Type 0 where
  pub growth : InGrowth h t a g d
  pub target : is_among (grown h) a ≡ true

-- the thread grew places at most
pub record Grew (old new : HallData Block) (t a : ℕ) (g : GuestData) (d : Stand) : Type 0 where
  pub case : new.case ≡ old.case
  pub growth : InGrowth new t a g d
  pub within : Within (grown old) (grown new)
  pub free : AddsFree t old.journal new.journal
  pub marks : OthersKeepMarks old new t

-- what was done is all that a turn does so, or, where memory was wanting, how that begins
abbrev pub Does : Result (Unit {0}) AllocError → (Turn → Option Turn) → HallData Block → HallData Block → List ℕ → Type 0
Does (Ok u) f old new ages = f (turn_in old ages) ≡ Some (turn_in new ages)
Does (Err e) f old new ages = (x : Turn) → f (turn_in old ages) ≡ Some x → (rest : List Entry) × (x.journal ≡ new.journal ++ rest)

-- these are the places that are reached from a grown target, and all of them that aren't grown fit
pub record AreOnward (h : HallData Block) (t a : ℕ) (places : List ℕ) (g : GuestData) (d : Stand) : Type 0 where
  pub target : IsTargetGrown h t a g d
  pub reach : IsReach h.case.image (a ∷ []) places
  pub fits : length (grown h) + length (ungrown (grown h) places) ≤ most_grown

-- each of them that wasn't grown was grown, in order
abbrev pub GrewEach : Result (Unit {0}) AllocError → HallData Block → HallData Block → ℕ → ℕ → List ℕ → GuestData → Stand → Type 0
GrewEach result old new t a places g d = Grew old new t a g d × Does result (grow_all old.case t (ungrown (grown old) places)) old new g.ages

-- what is reached from the target was grown, if it fits
abbrev pub GrewReach : Result (Unit {0}) AllocError → HallData Block → HallData Block → ℕ → ℕ → GuestData → Stand → Type 0
GrewReach result old new t a g d = Grew old new t a g d × ((reach : Reaches) → AreReaches old.case.image reach → Does result (grow_reach old.case t (reach a)) old new g.ages)

-- the target was grown, and what is reached from it, if that fits
abbrev pub GrewTarget : Result (Unit {0}) AllocError → HallData Block → HallData Block → ℕ → ℕ → GuestData → Stand → Type 0
GrewTarget result old new t a g d = Grew old new t a g d × OnOk result (is_among (grown new) a ≡ true) × ((reach : Reaches) → AreReaches old.case.image reach → Does result (λ s. full_or old.case reach t a s false) old new g.ages)
