use Rattle.std.proofs.Common.{◌<◌, ◌≤◌, length, arith}
use Rattle.std.proofs.Common.{sym, subst}
use Rattle.guest_steps.specs.Ages.{AreAges}
use Rattle.guest_steps.proofs.Older.{ages_rest}
use Rattle.guest_entries.proofs.Flushed.{full_room, there_is_room}
use Rattle.guest_entries.proofs.flushes.make_room.Goals as goal

pub returns-then-len-ge64-clause-flushed : goal.returns-then-len-ge64-clause-flushed
returns-then-len-ge64-clause-flushed c =
    let full : 64 ≤ length c.args.ages.now = omega (arith, c.if-len-ge64.true, c.len.ensures.len) in
    full_room c.args.hall.now c.flush_one.new.hall c.args.t c.args.ages.now c.flush_one.new.ages full c.flush_one.ensures.flushed

pub returns-else-len-ge64-clause-flushed : goal.returns-else-len-ge64-clause-flushed
returns-else-len-ge64-clause-flushed c =
    let few : length c.args.ages.now < 64 = omega (arith, c.if-len-ge64.false, c.len.ensures.len) in
    there_is_room c.args.hall.now c.args.t c.args.ages.now few

pub returns-then-len-ge64-clause-fresh : goal.returns-then-len-ge64-clause-fresh
returns-then-len-ge64-clause-fresh c = λ y. subst (AreAges 255) (sym c.flush_one.ensures.rest) (ages_rest 255 c.args.ages.now y)
