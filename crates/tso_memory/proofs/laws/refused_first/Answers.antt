use Rattle.tso_memory.proofs.MemoryLemmas.{first_denied-none, first_denied-some}
use Rattle.tso_memory.proofs.LawLemmas.{allowed_each}
use Rattle.tso_memory.proofs.laws.refused_first.Goals as goal

pub returns-clause-allowed : goal.returns-clause-allowed
returns-clause-allowed c = λ test a n h. first_denied-none test a n h

pub returns-clause-first : goal.returns-clause-first
returns-clause-first c = λ test a n x from to h shut. first_denied-some test a n x from to h shut

pub returns-clause-each : goal.returns-clause-each
returns-clause-each c = λ test a n e x from to. allowed_each test a n e x from to
