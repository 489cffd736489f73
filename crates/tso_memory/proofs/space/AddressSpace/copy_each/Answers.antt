use Rattle.std.proofs.Common.{length, arith}
use Rattle.tso_memory.proofs.CopyLemmas.{bytes_from-is}
use Rattle.tso_memory.proofs.space.AddressSpace.copy_each.Goals as goal

pub returns : goal.returns
returns c = bytes_from-is c.args.self.now c.args.a (length c.args.to.now) c.loop-k.to c.loop-k.auto.to (λ j within. c.loop-k.invariant j (omega (arith, within)))
