use Rattle.x86_forms.proofs.LawLemmas.{exactly}
use Rattle.x86_forms.proofs.laws.reads_exactly.Goals as goal

pub returns : goal.returns
returns c = exactly
