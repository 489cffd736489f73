use Rattle.tso_memory.proofs.MemoryLemmas.{memory_at, memory_none}
use Rattle.tso_memory.proofs.laws.pieces_laid.Goals as goal

pub returns-clause-there : goal.returns-clause-there
returns-clause-there c = λ ps i x apart within h. memory_at ps i x apart within h

pub returns-clause-elsewhere : goal.returns-clause-elsewhere
returns-clause-elsewhere c = λ ps x none. memory_none ps x none
