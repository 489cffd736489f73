use Rattle.std.proofs.Common.{◌≡◌, ℕ, take}
use Rattle.basic_blocks.specs.Reach.{is_among}
use Rattle.machine_plain.proofs.reach.in_order.Given as goal

abbrev pub invariant-loop-a : goal.invariant-loop-a
invariant-loop-a l = (q : ℕ) → is_among l.set.keys q ≡ is_among (take l.a-index l.places) q
