use Rattle.tso_memory.proofs.MemoryLemmas.{get-put_bytes}
use Rattle.tso_memory.proofs.LawLemmas.{may-put_bytes}
use Rattle.tso_memory.proofs.laws.bytes_put.Goals as goal

pub returns-clause-cell : goal.returns-clause-cell
returns-clause-cell c = λ m a x bs. get-put_bytes bs m a x

pub returns-clause-rights : goal.returns-clause-rights
returns-clause-rights c = λ m a x bs access. may-put_bytes m a x bs access
