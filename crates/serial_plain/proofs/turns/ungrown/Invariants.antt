use Rattle.std.proofs.Common.{◌≡◌, take}
use Rattle.machine_model.specs.Serial.{ungrown}
use Rattle.serial_plain.proofs.turns.ungrown.Given as goal

abbrev pub invariant-loop-a : goal.invariant-loop-a
invariant-loop-a l = l.more.items ≡ ungrown l.grown (take l.a-index l.places)
