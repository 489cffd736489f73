use Rattle.std.proofs.Common.{◌≡◌, ◌≤◌, take, sum_by}
use Rattle.elf_image.proofs.segments.is_too_large.Given as goal

abbrev pub invariant-loop-h : goal.invariant-loop-h
invariant-loop-h l = (l.total ≡ sum_by (λ h. h.memsz) (take l.h-index l.loads)) × (l.total ≤ 67108864)
