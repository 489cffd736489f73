use Rattle.std.proofs.Common.{ap}
use Rattle.tso_memory.specs.Memory.{memory_of}
use Rattle.tso_memory.proofs.space.AddressSpace.make.Goals as goal

pub returns : goal.returns
unfolding memory_of
returns c = ap memory_of c.new.ensures.items
