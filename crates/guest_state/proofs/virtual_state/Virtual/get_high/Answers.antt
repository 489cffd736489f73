use Rattle.std.proofs.Common.{◌/◌, ◌^◌}
use Rattle.std.proofs.lemmas.Nat.{and_mask}
use Rattle.std.specs.Prelude.{slice_index}
use Rattle.guest_state.specs.Register.{high_of}
use Rattle.guest_state.specs.Virtual.{get_high_of}
use Rattle.guest_state.proofs.virtual_state.Virtual.get_high.Goals as goal

pub returns-clause-value : goal.returns-clause-value
unfolding get_high_of high_of
returns-clause-value c = and_mask (slice_index c.args.self.now.regs c.args.r / 2 ^ 8) 8
