use Rattle.std.proofs.Common.{◌≡◌, ◌++◌, length}
use Rattle.std.specs.Vec.Iter.{into_iter_items, into_iter_len}
use Rattle.block_lift.proofs.Handed.{IsKept}
use Rattle.block_lift.proofs.accepting.accept.Given as goal

abbrev pub invariant-loop-block : goal.invariant-loop-block
invariant-loop-block l =
    (goal.iterator-loop-block).can_next l.block-iterator ×
    (goal.iterator-loop-block).is_finite l.block-iterator ×
    IsKept l.image l.yielded l.kept.entries ×
    (l.fn.blocks.items ≡ l.yielded ++ into_iter_items l.block-iterator) ×
    (length (into_iter_items l.block-iterator) ≡ into_iter_len l.block-iterator)
