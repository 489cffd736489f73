use Rattle.std.proofs.Common.{◌≡◌, take}
use Rattle.journal_pack.specs.Packed.{packed}
use Rattle.journal_pack.proofs.packing.pack.Given as goal

-- the entries so far
abbrev pub invariant-loop-entry : goal.invariant-loop-entry
invariant-loop-entry l = l.bytes.items ≡ packed (take l.entry-index l.entries)
