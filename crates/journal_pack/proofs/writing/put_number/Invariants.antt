use Rattle.std.proofs.Common.{◌≡◌, ◌+◌, ◌≤◌, ◌++◌, length, vec_len, vec_capacity}
use Rattle.journal_pack.specs.Leb128.{leb128}
use Rattle.journal_pack.proofs.writing.put_number.Given as goal

-- the bytes so far and those that are left are the spelling
abbrev pub invariant-loop-left : goal.invariant-loop-left
invariant-loop-left l = record {
  parts : l.bytes.items ++ leb128 l.left ≡ l.initial.bytes.items ++ leb128 l.n;
  room : vec_len l.bytes + length (leb128 l.left) ≤ vec_capacity l.bytes;
  capacity : vec_capacity l.initial.bytes ≤ vec_capacity l.bytes;
}

abbrev pub decreases-loop-left : goal.decreases-loop-left
decreases-loop-left l = l.left
