use Rattle.std.proofs.Common.{arith, ◌∙◌}
use Rattle.machine_model.specs.Step.{is_in_use}
use Rattle.replay_machine.proofs.Births.{used_more, as_long}
use Rattle.replay_machine.proofs.machine.uses.Goals as goal

pub loop-s-preserved : goal.loop-s-preserved
loop-s-preserved c = (as_long c.loop-s.uses c.loop-s.s c.is_in_use.result ∙ c.loop-s.invariant.0, used_more c.loop-s.uses c.loop-s.s c.is_in_use.result (is_in_use c.args.library.now) (omega (arith, c.loop-s.invariant.0)) c.is_in_use.ensures c.loop-s.invariant.1)
