use Rattle.std.proofs.Common.{length, refl, ap, arith}
use Rattle.lib_table.specs.declared.life.Life.TheVariants.{Live}
use Rattle.lib_table.proofs.SlotLemmas.{first-slots}
use Rattle.lib_table.proofs.library.Library.make.Goals as goal

pub invariant_of-result : goal.invariant_of-result
invariant_of-result c =
    let first = first-slots c.in_ok-first_slots.field-0.items (record { generation = 0; life = Live 0 0 }) 63 c.in_ok-first_slots.ensures (record { number = λ e. omega arith; kept = refl }) in
    (first.0, first.1, omega arith, omega (arith, ap length c.new.ensures.items, ap length c.new-2.ensures.items))
