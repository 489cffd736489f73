use Rattle.x86_forms.proofs.LawLemmas.{no_prefix}
use Rattle.x86_forms.proofs.laws.no_proper_prefix.Goals as goal

pub returns : goal.returns
returns c = no_prefix
