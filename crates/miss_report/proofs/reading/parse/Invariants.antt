use Rattle.std.proofs.Common.{◌≡◌, ◌+◌, ◌≤◌, ◌++◌, All, length}
use Rattle.miss_report.specs.Miss.{HasLine}
use Rattle.miss_report.specs.Report.{report}
use Rattle.miss_report.proofs.reading.parse.Given as goal

-- the lines so far are those of the misses
abbrev pub invariant-loop-rest : goal.invariant-loop-rest
invariant-loop-rest l = record {
  parts : l.text ≡ report l.misses.items ++ l.rest;
  lines : All HasLine l.misses.items;
  count : length l.misses.items + length l.rest ≤ length l.text;
}

abbrev pub decreases-loop-rest : goal.decreases-loop-rest
decreases-loop-rest l = length l.rest
