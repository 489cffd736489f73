use Rattle.std.proofs.Common.{◌≡◌, ℕ, ◌<◌, get_or, Some}
use Rattle.std.specs.BTreeMap.{get}
use Rattle.std.specs.Ordering.{nat_cmp}
use Rattle.elf_image.specs.Layout.{SegmentData}
use Rattle.dyn_link.proofs.slot.numbers_of.Given as goal

abbrev pub invariant-loop-number : goal.invariant-loop-number
invariant-loop-number l = (k : ℕ) (d : SegmentData) → k < l.number → get nat_cmp l.numbers (get_or l.segments k d).at ≡ Some k
