use Rattle.std.proofs.Common.{◌∙◌, sym, subst, All}
use Rattle.miss_report.specs.Miss.{IsReportable}
use Rattle.recompile_core.proofs.Writing.{reportable}
use Rattle.recompile_core.proofs.files.report_of.Goals as goal

pub print-requires : goal.print-requires
print-requires c = record { reportable = subst (All IsReportable) (sym (c.deref.ensures.value ∙ c.in_ok-found.ensures)) (reportable c.args.journal.now c.facts.ensures) }
