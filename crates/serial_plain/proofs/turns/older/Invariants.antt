use Rattle.std.proofs.Common.{◌≡◌, ◌+◌, map, take}
use Rattle.serial_plain.proofs.turns.older.Given as goal

abbrev pub invariant-loop-a : goal.invariant-loop-a
invariant-loop-a l = l.more.items ≡ map (λ a. a + 1) (take l.a-index l.ages)
