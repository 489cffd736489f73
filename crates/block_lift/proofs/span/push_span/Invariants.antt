use Rattle.std.proofs.Common.{◌≡◌, ◌-◌, ◌++◌}
use Rattle.basic_blocks.specs.Span.{block_up_to}
use Rattle.lift_table.specs.Faithful.{lifted_all}
use Rattle.basic_blocks.specs.Bytes.{bytes_of}
use Rattle.block_lift.specs.Liftable.{ArePlaced}
use Rattle.block_lift.proofs.span.push_span.Given as goal

abbrev pub invariant-loop-i : goal.invariant-loop-i
invariant-loop-i l =
    (l.code.items ++ bytes_of l.image (block_up_to l.image (64 - l.i) l.at) ≡ l.fn.code.items ++ bytes_of l.image (block_up_to l.image 64 l.a))
    × (l.parts.items ++ lifted_all (block_up_to l.image (64 - l.i) l.at) ≡ l.fn.parts.items ++ lifted_all (block_up_to l.image 64 l.a))
    × (ArePlaced (block_up_to l.image (64 - l.i) l.at) → ArePlaced (block_up_to l.image 64 l.a))
