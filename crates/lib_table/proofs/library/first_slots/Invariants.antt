use Rattle.std.proofs.Common.{◌≡◌, ◌∷◌, replicate}
use Rattle.lib_table.specs.declared.life.Life.TheVariants.{Live}
use Rattle.lib_table.specs.Library.{new_slot}
use Rattle.lib_table.proofs.library.first_slots.Given as goal

abbrev pub invariant-loop : goal.invariant-loop
invariant-loop l = l.slots.items ≡ record { generation = 0; life = Live 0 0 } ∷ replicate l.counter new_slot
