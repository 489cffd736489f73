use Rattle.x86_forms.proofs.LimitLemmas.{spelled_fits}
use Rattle.x86_forms.proofs.laws.spelled_fits.Goals as goal

pub returns : goal.returns
returns c = spelled_fits
