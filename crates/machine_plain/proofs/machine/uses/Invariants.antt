use Rattle.std.proofs.Common.{◌≡◌, map}
use Rattle.std.specs.List.{range_with_len}
use Rattle.machine_model.specs.Step.{is_in_use}
use Rattle.machine_plain.proofs.machine.uses.Given as goal

abbrev pub invariant-loop-s : goal.invariant-loop-s
invariant-loop-s l = l.uses.items ≡ map (is_in_use l.library) (range_with_len 0 l.s)
