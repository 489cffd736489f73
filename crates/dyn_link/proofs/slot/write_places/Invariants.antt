use Rattle.std.proofs.Common.{◌≡◌, map, take}
use Rattle.std.specs.Prelude.{All}
use Rattle.elf_image.specs.Layout.{IsSegment}
use Rattle.dyn_link.specs.Bound.{bound_segments}
use Rattle.dyn_link.proofs.slot.write_places.Given as goal

abbrev pub invariant-loop-p : goal.invariant-loop-p
invariant-loop-p l = record {
  bound : l.segments.items ≡ bound_segments l.initial.segments.items (map (λ p. p.binding) (take l.p-index l.places));
  whole : All IsSegment l.segments.items;
}
