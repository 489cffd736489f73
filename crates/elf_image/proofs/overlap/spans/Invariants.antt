use Rattle.std.proofs.Common.{◌≡◌, ◌++◌, drop}
use Rattle.elf_image.specs.Spans.{spans_from}
use Rattle.elf_image.proofs.overlap.spans.Given as goal

-- what is there, and what the headers from n on give
abbrev pub invariant-loop-n : goal.invariant-loop-n
invariant-loop-n l = l.spans.items ++ spans_from l.n (drop l.n l.headers) ≡ spans_from 0 l.headers
