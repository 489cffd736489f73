use Rattle.std.proofs.Common.{ℕ, ◌<◌}
use Rattle.elf_image.specs.Loading.{Overlaps}
use Rattle.elf_image.proofs.overlap.partner.Given as goal

abbrev pub invariant-loop-m : goal.invariant-loop-m
invariant-loop-m l = (j : ℕ) → j < l.m → Overlaps l.headers l.n j → ⊥
