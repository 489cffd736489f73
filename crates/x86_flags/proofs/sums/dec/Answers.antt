use Rattle.x86_flags.proofs.NumberLemmas.{one_lt}
use Rattle.x86_flags.proofs.sums.dec.Goals as goal

pub difference-s-requires-clause-second : goal.difference-s-requires-clause-second
difference-s-requires-clause-second c = one_lt c.args.w
