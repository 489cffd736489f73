use Rattle.std.proofs.Common.{arith, sym}
use Rattle.machine_model.proofs.Slots.{all_lists}
use Rattle.hall_core.proofs.shared.Shared.all_empty.Goals as goal

pub returns : goal.returns
returns c = sym (all_lists c.args.self.now.tso.buffers 64 c.has_lists.ensures (λ u lt. c.loop-s.invariant u (omega arith)))
