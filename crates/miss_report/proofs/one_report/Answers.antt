use Rattle.miss_report.proofs.ReportLemmas.{same_report}
use Rattle.miss_report.proofs.one_report.Goals as goal

pub returns : goal.returns
returns c = same_report
