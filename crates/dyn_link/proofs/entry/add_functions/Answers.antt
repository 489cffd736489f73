use Rattle.std.proofs.Common.{None, map, take}
use Rattle.dyn_link.specs.declared.slot.Place.{Place}
use Rattle.dyn_link.proofs.Ordering.{own_so_far, functions_more, functions_same}
use Rattle.dyn_link.proofs.entry.add_functions.Goals as goal
use Rattle.dyn_link.proofs.entry.add_functions.Goals.{in-Some+in_ok-add_function-in-Some, in-None}

abbrev none : Place
none = record { segment = 0; binding = record { slot = 0; function = None } }

pub add_function-requires-clause-own : goal.add_function-requires-clause-own
add_function-requires-clause-own c = own_so_far c.args.entries.now.items c.loop-p.entries.items (map (λ (p : Place). p.binding) (take c.loop-p.p-index c.args.places.now)) c.requires.free c.loop-p.invariant

pub loop-p-preserved : goal.loop-p-preserved
loop-p-preserved c = elim c.match-p.branch [
  | in-Some+in_ok-add_function-in-Some w ↦ rw w.entries-is (functions_more c.args.entries.now.items c.loop-p.entries.items c.args.places.now c.loop-p.p-index none c.loop-p-test.true c.loop-p.invariant w.in-Some.function w.add_function.new.entries.items w.in-Some.is w.in_ok-add_function-in-Some.ensures)
  | in-None w ↦ rw w.entries-is (functions_same c.args.entries.now.items c.loop-p.entries.items c.args.places.now c.loop-p.p-index none c.loop-p-test.true c.loop-p.invariant w.in-None.is)
]
