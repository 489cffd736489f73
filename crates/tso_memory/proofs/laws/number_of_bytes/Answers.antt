use Rattle.tso_memory.proofs.MemoryLemmas.{number_from-same}
use Rattle.tso_memory.proofs.laws.number_of_bytes.Goals as goal

pub returns : goal.returns
returns c = λ n a f g h. number_from-same n f g a h
