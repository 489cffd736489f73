-- Whatever strings spell the lines that are left, those so far and they spell all lines.
use Rattle.std.proofs.Common.{◌+◌, ◌≤◌, length, drop}
use Rattle.std.specs.List.{AllByRecursion}
use Rattle.guest_gen.specs.Spelling.{CanStand, most_of}
use Rattle.guest_gen.proofs.Lines.{Rest}
use Rattle.guest_gen.proofs.assembling.assembled.Given as goal

abbrev pub invariant-loop-line : goal.invariant-loop-line
invariant-loop-line l = record {
  spelled : Rest l.start l.lines l.label l.bytes.items (drop l.line-index l.lines);
  behind : l.label ≤ l.start + length l.bytes.items;
  short : length l.bytes.items + most_of (drop l.line-index l.lines) ≤ most_of l.lines;
  can : AllByRecursion CanStand (drop l.line-index l.lines);
}
