use Rattle.std.proofs.Common.{◌≡◌, ◌+◌, ◌≤◌, List, length}
use Rattle.journal_pack.specs.declared.entry.Entry.{Entry}
use Rattle.journal_pack.proofs.PackedLemmas.{IsRead}
use Rattle.journal_pack.proofs.journal.count_entries.Given as goal

-- so many entries are read
abbrev pub invariant-loop-rest : goal.invariant-loop-rest
invariant-loop-rest l = record {
  before : List Entry;
  read : IsRead l.bytes before l.rest;
  counted : l.count ≡ length before;
  few : l.count + length l.rest ≤ length l.bytes;
}

abbrev pub decreases-loop-rest : goal.decreases-loop-rest
decreases-loop-rest l = length l.rest
