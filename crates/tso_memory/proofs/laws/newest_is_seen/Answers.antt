use Rattle.tso_memory.proofs.LawLemmas.{seen-own, seen-others}
use Rattle.tso_memory.proofs.laws.newest_is_seen.Goals as goal

pub returns-clause-own : goal.returns-clause-own
returns-clause-own c = λ ps p x b t. seen-own ps p x b t

pub returns-clause-others : goal.returns-clause-others
returns-clause-others c = λ ps p x b t. seen-others ps p x b t
