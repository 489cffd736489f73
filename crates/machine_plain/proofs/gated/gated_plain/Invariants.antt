use Rattle.std.proofs.Common.{take}
use Rattle.machine_model.specs.Gated.{begin, Leads}
use Rattle.machine_plain.proofs.gated.gated_plain.Given as goal

abbrev pub invariant-loop-entry : goal.invariant-loop-entry
invariant-loop-entry l = Leads l.case (begin l.case) (take l.entry-index l.journal) l.walk
