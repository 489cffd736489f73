use Rattle.ir_meaning.proofs.ReadyLemmas.{part_lines, part_end, part_fits}
use Rattle.ir_meaning.proofs.part.run_part.Goals as goal

pub run_ops-requires : goal.run_ops-requires
run_ops-requires c = rw c.as_slice.ensures (part_lines c.args.part.now c.args.state.now c.requires)

pub run_end-requires : goal.run_end-requires
run_end-requires c = rw (c.run_ops.ensures, c.as_slice.ensures) (part_end c.args.part.now c.args.state.now c.requires)

pub returns-clause-fits : goal.returns-clause-fits
returns-clause-fits c types r = rw (c.run_end.ensures.state, c.run_ops.ensures, c.as_slice.ensures) (part_fits types c.args.part.now c.args.state.now r)
