use Rattle.std.proofs.Common.{◌≡◌, ◌+◌, Some, sym, ap, ◌∙◌, arith}
use Rattle.std.specs.Prelude.{option_map}
use Rattle.machine_model.specs.Serial.{next_point, point_of}
use Rattle.serial_plain.specs.PlainSerial.{point_as}
use Rattle.serial_plain.proofs.SerialPlain.{next_count, stop_goes_on}
use Rattle.serial_plain.proofs.turns.stop.Goals as goal

pub loop-preserved : goal.loop-preserved
loop-preserved c =
    let next : Some (point_as c.in-Some.next) ≡ next_point c.args.case.now c.args.walk.now (point_as c.loop.point) = sym (ap (option_map point_as) c.in-Some.is) ∙ c.in_ok-next.ensures in
    let more : c.in-Some.next.k ≡ c.loop.point.k + 1 = next_count c.args.case.now c.args.walk.now (point_as c.loop.point) (point_as c.in-Some.next) next in
    let few = c.loop.invariant.0 in
    (omega arith, stop_goes_on c.args.case.now c.args.walk.now 4096 c.loop.counter (point_as c.loop.point) (point_as c.in-Some.next) (point_of c.args.walk.now c.args.t) c.loop-test.true next c.loop.invariant.1)
