use Rattle.std.proofs.Common.{◌≡◌, Some, take}
use Rattle.machine_model.specs.Play.{play}
use Rattle.machine_plain.proofs.play.play_plain.Given as goal

abbrev pub invariant-loop-entry : goal.invariant-loop-entry
invariant-loop-entry l = play l.case (take l.entry-index l.journal) ≡ Some l.machine
