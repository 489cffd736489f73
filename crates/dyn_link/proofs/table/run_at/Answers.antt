use Rattle.dyn_link.proofs.Finding.{segment_found}
use Rattle.dyn_link.proofs.table.run_at.Goals as goal

pub run_in-requires-clause-from : goal.run_in-requires-clause-from
run_in-requires-clause-from c = (segment_found c.args.a c.args.image.now.segments c.in-Some.segment.now c.in-Some.ensures).0

pub run_in-requires-clause-to : goal.run_in-requires-clause-to
run_in-requires-clause-to c = (segment_found c.args.a c.args.image.now.segments c.in-Some.segment.now c.in-Some.ensures).1
