use Rattle.std.proofs.Common.{◌≡◌, ◌+◌, ◌≤◌, length, map, drop}
use Rattle.std.specs.Prelude.{string_bytes}
use Rattle.guest_map.specs.Entry.{strings}
use Rattle.guest_map.proofs.entry.size_of_strings.Given as goal

abbrev pub invariant-loop-arg : goal.invariant-loop-arg
invariant-loop-arg l = (l.size + length (strings (map string_bytes (drop l.arg-index l.args))) ≡ length (strings (map string_bytes l.args))) × (l.size ≤ 4096)
