use Rattle.std.proofs.Common.{◌≡◌, ◌+◌, ◌++◌, length, map, drop}
use Rattle.std.specs.Prelude.{string_bytes}
use Rattle.guest_map.specs.Entry.{strings, pointers, eightbytes}
use Rattle.guest_map.proofs.entry.push_pointers.Given as goal

abbrev pub invariant-loop-arg : goal.invariant-loop-arg
invariant-loop-arg l = (l.at + length (strings (map string_bytes (drop l.arg-index l.args))) ≡ l.base + length (strings (map string_bytes l.args))) × (l.bytes.items ++ eightbytes (pointers l.at (map string_bytes (drop l.arg-index l.args))) ≡ l.initial.bytes.items ++ eightbytes (pointers l.base (map string_bytes l.args)))
