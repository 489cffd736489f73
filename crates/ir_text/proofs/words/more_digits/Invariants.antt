use Rattle.std.proofs.Common.{◌≡◌, ◌+◌, length}
use Rattle.ir_text.specs.Reading.{more_digits}
use Rattle.ir_text.proofs.words.more_digits.Given as goal

abbrev pub invariant-loop-first : goal.invariant-loop-first
invariant-loop-first l = more_digits (l.max + 1) l.end l.n l.rest ≡ more_digits (l.max + 1) l.end l.initial.n l.bytes

abbrev pub decreases-loop-first : goal.decreases-loop-first
decreases-loop-first l = length l.rest
