use Rattle.std.proofs.Common.{◌≡◌, ◌-◌, ◌++◌}
use Rattle.basic_blocks.specs.Span.{block_up_to, block_at}
use Rattle.basic_blocks.proofs.block.block_at.Given as goal

abbrev pub invariant-loop-k : goal.invariant-loop-k
invariant-loop-k l = l.block.items ++ block_up_to l.image (64 - l._k) l.at ≡ block_at l.image l.a
