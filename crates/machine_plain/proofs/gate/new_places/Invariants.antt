use Rattle.std.proofs.Common.{◌≡◌, ◌≤◌, take}
use Rattle.machine_plain.specs.PlainGates.{new_places}
use Rattle.machine_plain.proofs.gate.new_places.Given as goal

abbrev pub invariant-loop-p : goal.invariant-loop-p
invariant-loop-p l = (l.count ≡ new_places l.grown (take l.p-index l.places)) × (l.count ≤ l.p-index)
