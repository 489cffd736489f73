use Rattle.std.proofs.Common.{◌≡◌, ◌++◌, drop}
use Rattle.guest_parts.specs.Standing.{places_in, places_of}
use Rattle.guest_steps.proofs.kept.places_of.Given as goal

abbrev pub invariant-loop-part : goal.invariant-loop-part
invariant-loop-part l = l.places.items ++ places_in l.fn.block.at (drop l.i l.instrs.items) (drop l.part-index l.fn.block.parts) ≡ places_of l.fn.image l.fn.block
