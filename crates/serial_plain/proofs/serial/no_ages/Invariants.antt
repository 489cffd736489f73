use Rattle.std.proofs.Common.{◌≡◌, [], map, replicate}
use Rattle.serial_plain.proofs.serial.no_ages.Given as goal

abbrev pub invariant-loop : goal.invariant-loop
invariant-loop l = map (λ v. v.items) l.ages.items ≡ replicate l.counter []
