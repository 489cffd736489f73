use Rattle.std.proofs.Common.{◌++◌, map, take}
use Rattle.elf_image.specs.Loading.{AreInOrder}
use Rattle.dyn_link.specs.Bound.{bound_places}
use Rattle.dyn_link.proofs.entry.add_functions.Given as goal

abbrev pub invariant-loop-p : goal.invariant-loop-p
invariant-loop-p l = AreInOrder (l.initial.entries.items ++ bound_places (map (λ p. p.binding) (take l.p-index l.places))) l.entries.items
