use Rattle.std.proofs.Common.{length, ap, arith, drop}
use Rattle.guest_parts.specs.Standing.{places_of}
use Rattle.guest_steps.proofs.Table.{nothing_more}
use Rattle.guest_steps.proofs.kept.places_of.Goals as goal

pub returns : goal.returns
returns c = nothing_more c.args.block.now.at (drop c.loop-part.i c.in_ok-instrs.instrs.items) c.args.block.now.parts c.loop-part.part-index c.loop-part.places.items (places_of c.args.image.now c.args.block.now) (omega (arith, c.loop-part-test.false, ap length c.as_slice-part-items.ensures)) c.loop-part.invariant
