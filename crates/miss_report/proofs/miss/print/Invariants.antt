use Rattle.std.proofs.Common.{◌≡◌, take, string_bytes}
use Rattle.miss_report.specs.Report.{report}
use Rattle.miss_report.proofs.miss.print.Given as goal

-- the lines so far
abbrev pub invariant-loop-miss : goal.invariant-loop-miss
invariant-loop-miss l = string_bytes l.out ≡ report (take l.miss-index l.misses)
