use Rattle.std.proofs.Common.{arith}
use Rattle.dead_flags.proofs.PassLemmas.{part_step, length_stripped}
use Rattle.dead_flags.proofs.pass.strip_parts.Goals as goal

pub loop-i-preserved : goal.loop-i-preserved
loop-i-preserved c =
    let inside = c.loop-i.invariant.within in
    let so_far = c.loop-i.invariant.stripped in
    record {
      within = omega arith;
      stripped = part_step _ _ _ c.loop-i.i _ _ c.loop-i-test.true inside (length_stripped _ _ c.loop-i.i _ inside so_far) (c.strip_at-live.ensures.kept, c.strip_at-live.ensures.live) so_far;
    }
