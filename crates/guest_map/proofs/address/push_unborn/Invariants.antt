use Rattle.std.proofs.Common.{◌≡◌, ◌-◌, ◌++◌}
use Rattle.guest_map.specs.Addresses.{unborn_stacks}
use Rattle.guest_map.proofs.address.push_unborn.Given as goal

abbrev pub invariant-loop-t : goal.invariant-loop-t
invariant-loop-t l = l.pieces.items ≡ l.initial.pieces.items ++ unborn_stacks (l.t - 1)
