use Rattle.std.proofs.Common.{arith, ◌-◌}
use Rattle.ir_meaning.proofs.NumberLemmas.{power_fits}
use Rattle.ir_meaning.proofs.line.half.Goals as goal

pub returns : goal.returns
returns c = power_fits (c.args.bits - 1) (omega (arith, c.requires.some, c.requires.few))
