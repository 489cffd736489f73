use Rattle.std.proofs.Common.{◌≡◌, drop}
use Rattle.machine_plain.specs.PlainGates.{with_places}
use Rattle.machine_plain.proofs.reach.add_all.Given as goal

abbrev pub invariant-loop-a : goal.invariant-loop-a
invariant-loop-a l = with_places l.places.items (drop l.a-index l.more) ≡ with_places l.fn.places.items l.more
