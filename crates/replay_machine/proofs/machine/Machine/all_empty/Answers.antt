use Rattle.std.proofs.Common.{arith, sym}
use Rattle.machine_model.proofs.Slots.{all_lists}
use Rattle.replay_machine.proofs.machine.Machine.all_empty.Goals as goal

pub returns : goal.returns
returns c = sym (all_lists c.args.self.now.tso.buffers 64 c.lists.ensures (λ u lt. c.loop-t.invariant u (omega arith)))
