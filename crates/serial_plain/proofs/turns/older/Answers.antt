use Rattle.std.proofs.Common.{◌+◌, ◌<◌, ◌^◌, get_or, arith}
use Rattle.serial_plain.proofs.Young.{young_fits}
use Rattle.serial_plain.proofs.turns.older.Goals as goal

pub overflow_add-next : goal.overflow_add-next
overflow_add-next c =
    let fits : get_or c.args.ages.now c.loop-a.a-index 0 + 1 < 2 ^ 64 = young_fits c.args.ages.now c.loop-a.a-index 0 c.requires c.loop-a-test.true in
    omega arith
