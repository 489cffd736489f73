use Rattle.std.proofs.Common.{◌≡◌, map, take}
use Rattle.std.specs.Prelude.{All}
use Rattle.dyn_link.specs.Bound.{binding}
use Rattle.dyn_link.specs.Placed.{IsPlaced}
use Rattle.dyn_link.proofs.slot.places_of.Given as goal

abbrev pub invariant-loop-r : goal.invariant-loop-r
invariant-loop-r l = record {
  same : map (λ p. p.binding) l.places.items ≡ map (binding l.image.segments l.names.strings.now l.names.symbols) (take l.r-index l.relocations);
  placed : All (IsPlaced l.image.segments) l.places.items;
}
