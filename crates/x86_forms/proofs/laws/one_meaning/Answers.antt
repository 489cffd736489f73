use Rattle.x86_forms.proofs.LawLemmas.{one_meaning}
use Rattle.x86_forms.proofs.laws.one_meaning.Goals as goal

pub returns : goal.returns
returns c = one_meaning
