use Rattle.std.proofs.Common.{◌+◌, drop, sym, ap, ◌∙◌, arith}
use Rattle.tso_memory.specs.Memory.{Memory, put_bytes}
use Rattle.tso_memory.proofs.RunLemmas.{put_more, put_end}
use Rattle.tso_memory.proofs.space.AddressSpace.put_each.Goals as goal

pub loop-k-preserved : goal.loop-k-preserved
loop-k-preserved c =
    ap (λ (m : Memory). put_bytes m (c.args.a + (c.loop-k.k + 1)) (drop (c.loop-k.k + 1) c.args.bytes.now)) c.put_byte.ensures
    ∙ (sym (put_more c.loop-k.self c.args.a c.loop-k.k c.args.bytes.now c.loop-k-test.true) ∙ c.loop-k.invariant)

pub returns : goal.returns
returns c = sym (put_end c.loop-k.self (c.args.a + c.loop-k.k) c.loop-k.k c.args.bytes.now (omega arith)) ∙ c.loop-k.invariant
