use Rattle.std.proofs.Common.{◌≡◌, replicate, []}
use Rattle.tso_memory.proofs.tso.empty_buffers.Given as goal

abbrev pub invariant-loop : goal.invariant-loop
invariant-loop l = l.buffers.items ≡ replicate l.counter []
