use Rattle.std.proofs.Common.{◌≡◌, take}
use Rattle.block_lift.specs.Accepted.{places_of}
use Rattle.run_start.proofs.places.addresses.Given as goal

abbrev pub invariant-loop-b : goal.invariant-loop-b
invariant-loop-b l = l.places.items ≡ places_of (take l.b-index l.blocks)
