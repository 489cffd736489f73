use Rattle.std.proofs.Common.{ℕ, List}
use Rattle.elf_image.specs.Layout.{ImageData}
use Rattle.guest_steps.specs.Kept.{AreKept}
use Rattle.thread_step.proofs.guest.empty_table.Given as goal

abbrev pub invariant-loop-i : goal.invariant-loop-i
invariant-loop-i l = (image : ImageData) (grown : List ℕ) → AreKept image grown l.table.items
