use Rattle.elf_image.specs.Spans.{IsTop, LeastBefore}
use Rattle.elf_image.proofs.overlap.least_shared.Given as goal

abbrev pub invariant-loop-i : goal.invariant-loop-i
invariant-loop-i l = record { top : IsTop l.sorted l.i l.top; least : LeastBefore l.sorted l.i l.least }
