use Rattle.std.proofs.Common.{◌∙◌}
use Rattle.guest_asm.proofs.PushedBytes.{low_step}
use Rattle.guest_asm.proofs.assembler.pieces.push_number.Goals as goal

pub loop-preserved : goal.loop-preserved
loop-preserved c = rw c.in_ok-push.ensures.items (low_step c.loop.bytes.items c.args.number.len c.loop.counter c.loop.rest c.loop-test.true ∙ c.loop.invariant)
