use Rattle.dead_flags.proofs.PassLemmas.{gather_step}
use Rattle.dead_flags.proofs.pass.gather.Goals as goal

pub loop-i-preserved : goal.loop-i-preserved
loop-i-preserved c =
    gather_step _ _ _ c.loop-i.i c.loop-i.first _ _ c.loop-i.before _ _ c.loop-i-test.true c.loop-i.auto.lines c.keep-first.ensures.first c.keep-first.ensures.lines c.live_before-before.ensures c.loop-i.invariant
