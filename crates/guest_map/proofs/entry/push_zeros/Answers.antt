use Rattle.std.proofs.Common.{rules}
use Rattle.std.proofs.lemmas.List.{take_all}
use Rattle.guest_map.specs.Addresses.{zeros}
use Rattle.guest_map.proofs.entry.push_zeros.Goals as goal

pub returns : goal.returns
unfolding zeros
returns c = search (rules, take_all)
