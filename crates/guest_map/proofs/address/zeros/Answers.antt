use Rattle.std.proofs.Common.{rules}
use Rattle.guest_map.specs.Addresses.{zeros}
use Rattle.guest_map.proofs.address.zeros.Goals as goal

pub returns : goal.returns
unfolding zeros
returns c = search rules
