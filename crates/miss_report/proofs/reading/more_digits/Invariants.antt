use Rattle.std.proofs.Common.{◌≡◌, length}
use Rattle.miss_report.specs.Reading.{more_digits}
use Rattle.miss_report.proofs.reading.more_digits.Given as goal

-- what is left goes on with the number so far
abbrev pub invariant-loop-next : goal.invariant-loop-next
invariant-loop-next l = more_digits l.base l.value l.rest ≡ more_digits l.base l.fn.value l.bytes

abbrev pub decreases-loop-next : goal.decreases-loop-next
decreases-loop-next l = length l.rest
