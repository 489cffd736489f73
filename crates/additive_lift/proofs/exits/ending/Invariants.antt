use Rattle.std.proofs.Common.{◌≡◌, ◌-◌, None}
use Rattle.basic_blocks.specs.Span.{block_up_to, block_at}
use Rattle.additive_lift.specs.Exits.{ending}
use Rattle.additive_lift.proofs.exits.ending.Given as goal

abbrev pub invariant-loop-k : goal.invariant-loop-k
invariant-loop-k l = ending l.last (block_up_to l.image (64 - l._k) l.at) ≡ ending None (block_at l.image l.a)
