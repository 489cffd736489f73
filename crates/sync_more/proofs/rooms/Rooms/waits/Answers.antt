use Rattle.std.proofs.Common.{sym}
use Rattle.sync_more.proofs.WaitLemmas.{others-go}
use Rattle.sync_more.proofs.rooms.Rooms.waits.Goals as goal

pub returns-in_default : goal.returns-in_default
returns-in_default c = sym (others-go c.args.self.now.state c.args.t c.args.name c.args.args c.args.holds c.args.free c.in_default.not-CondWait c.in_default.not-BarrierWait c.in_default.not-Once)
