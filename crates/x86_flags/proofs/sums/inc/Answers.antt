use Rattle.x86_flags.proofs.NumberLemmas.{one_lt}
use Rattle.x86_flags.proofs.sums.inc.Goals as goal

pub sum-s-requires-clause-second : goal.sum-s-requires-clause-second
sum-s-requires-clause-second c = one_lt c.args.w
