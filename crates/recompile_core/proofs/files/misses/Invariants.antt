use Rattle.std.proofs.Common.{◌≡◌, ◌++◌}
use Rattle.recompile_core.specs.After.{misses}
use Rattle.recompile_core.proofs.files.misses.Given as goal

-- the misses so far, and those of the entries that are left
abbrev pub invariant-loop-entry : goal.invariant-loop-entry
invariant-loop-entry l = l.found.items ++ misses l.entry-iterator ≡ misses l.journal
