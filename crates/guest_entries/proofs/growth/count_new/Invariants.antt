use Rattle.hall_core.specs.Hall.{grown}
use Rattle.guest_entries.proofs.Grown.{Counted}
use Rattle.guest_entries.proofs.growth.count_new.Given as goal

abbrev pub invariant-loop-a : goal.invariant-loop-a
invariant-loop-a l = Counted (grown l.hall) l.places l.a-index l.count
