use Rattle.block_lift.proofs.Known.{known}
use Rattle.block_lift.proofs.laws.known_by_its_bytes.Goals as goal

pub returns : goal.returns
returns c = known
