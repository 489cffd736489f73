use Rattle.guest_state.proofs.RegisterLemmas.{byte_between}
use Rattle.guest_state.proofs.virtual_state.written_high.Goals as goal

pub returns : goal.returns
returns c = byte_between c.args.before c.args.v c.ranges.before.fits c.requires
