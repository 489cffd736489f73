use Rattle.std.proofs.Common.{◌+◌, ◌<◌, ◌≤◌, length, arith}
use Rattle.machine_model.specs.Serial.{ungrown}
use Rattle.hall_core.specs.Hall.{grown}
use Rattle.guest_entries.specs.Growth.{GrewReach}
use Rattle.guest_entries.proofs.Growing.{each_reach, on_err, roomy, unfit_reach, wanting_reach}
use Rattle.guest_entries.proofs.growth.grow_reach.Goals as goal

pub returns-then-count-from : goal.returns-then-count-from
returns-then-count-from g c = λ a x d i reach.
    let past : 65536 < length (grown c.args.hall.now) + length (ungrown (grown c.args.hall.now) c.args.places.now) = omega (arith, c.if-count-from.true, c.from.ensures, c.count.ensures.count, c.count.ensures.limit, c.count_new-count.ensures) in
    unfit_reach c.args.hall.now c.args.t a c.args.places.now x d i reach past

pub returns-in_err-reserve : goal.returns-in_err-reserve
returns-in_err-reserve g c = λ a x d i reach. on_err (λ r. GrewReach r c.args.hall.now c.reserve.new.self c.args.t a x d) (λ e. wanting_reach c.args.hall.now c.reserve.new.self c.args.t a x d e c.in_err-reserve.ensures.err i.growth) c.from_residual.result c.from_residual.ensures.0

pub grow_each-requires-clause-onward : goal.grow_each-requires-clause-onward
grow_each-requires-clause-onward g c =
    let r = c.requires.onward in
    let fits : length (grown c.args.hall.now) + length (ungrown (grown c.args.hall.now) c.args.places.now) ≤ 65536 = omega (arith, c.if-count-from.false, c.from.ensures, c.count.ensures.count, c.count.ensures.limit, c.count_new-count.ensures) in
    (r.0, r.1, r.2, roomy c.args.hall.now c.reserve.new.self c.reserve.new.self.spare c.args.t r.0 c.args.places.now r.1 r.2 c.in_ok-reserve.ensures.same r.3 r.4 fits)

pub returns : goal.returns
returns g c = λ a x d i reach.
    let h = c.args.hall.now in
    let v = c.reserve.new.self in
    let fits : length (grown c.args.hall.now) + length (ungrown (grown c.args.hall.now) c.args.places.now) ≤ 65536 = omega (arith, c.if-count-from.false, c.from.ensures, c.count.ensures.count, c.count.ensures.limit, c.count_new-count.ensures) in
    let same = c.in_ok-reserve.ensures.same in
    each_reach c.grow_each.result h v c.grow_each.new.hall v.spare c.args.t a c.args.places.now x d same i reach fits (c.grow_each.ensures a x d (roomy h v v.spare c.args.t a c.args.places.now x d same i reach fits))
