use Rattle.std.proofs.Common.{arith}
use Rattle.tso_memory.proofs.NumberLemmas.{numbered_again}
use Rattle.tso_memory.proofs.numbers.Numbers.make_room.Goals as goal

pub returns-clause-numbered : goal.returns-clause-numbered
returns-clause-numbered c = λ ps waits before. numbered_again ps c.args.waiting c.loop-class.self.newest.items waits c.requires.few c.loop-class.invariant.0 (λ k below. c.loop-class.invariant.1 k (omega (arith, c.loop-class-test.false, below)))
