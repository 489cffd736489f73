use Rattle.std.proofs.Common.{arith}
use Rattle.dyn_link.proofs.Names.{ended_before}
use Rattle.dyn_link.proofs.name.end_of_names.Goals as goal

pub returns : goal.returns
returns c = ended_before c.args.strings.now c.loop-i.end (omega (arith, c.loop-i.invariant.within, c.loop-i.auto.i-end)) c.loop-i.invariant.last (λ k lt past. c.loop-i.invariant.behind k (omega (arith, lt, c.loop-i-test.false)) past)
