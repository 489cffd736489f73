use Rattle.std.proofs.Common.{◌≡◌, ◌++◌, map, drop}
use Rattle.std.specs.Prelude.{string_bytes}
use Rattle.guest_map.specs.Entry.{strings}
use Rattle.guest_map.proofs.entry.push_strings.Given as goal

abbrev pub invariant-loop-text : goal.invariant-loop-text
invariant-loop-text l = l.bytes.items ++ strings (map string_bytes (drop l.text-index l.args)) ≡ l.initial.bytes.items ++ strings (map string_bytes l.args)
