use Rattle.std.proofs.Common.{◌≡◌, ◌+◌, ◌≤◌, drop}
use Rattle.ir_text.specs.Faults.{line_from, column_from}
use Rattle.ir_text.proofs.reading.behind.Given as goal

abbrev pub invariant-loop-byte : goal.invariant-loop-byte
invariant-loop-byte l = record {
  line : line_from l.line (drop l.byte-index l.front) ≡ line_from 1 l.front;
  column : column_from l.column (drop l.byte-index l.front) ≡ column_from 1 l.front;
  low : l.line ≤ l.byte-index + 1;
  near : l.column ≤ l.byte-index + 1;
}
