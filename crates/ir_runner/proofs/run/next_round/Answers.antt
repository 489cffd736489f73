use Rattle.std.proofs.Common.{◌<◌, length, ap, arith}
use Rattle.ir_runner.proofs.Running.{first_within, second_within}
use Rattle.ir_runner.proofs.Serials.{took_longer}
use Rattle.ir_runner.proofs.run.next_round.Goals as goal

pub write_rest-out_failed-requires : goal.write_rest-out_failed-requires
write_rest-out_failed-requires g c =
    let h = first_within c.args.hall.now c.round-made.new.hall c.args.guests.now.items c.round-made.new.guests.items c.args.rules c.facts.ensures.gated c.in_default.ensures.ok in
    let e = ap length c.out1-first.ensures in
    let f = ap length c.out1.ensures in
    omega (arith, h, e, f)

pub write_rest-err_failed-requires : goal.write_rest-err_failed-requires
write_rest-err_failed-requires g c =
    let h = second_within c.args.hall.now c.round-made.new.hall c.args.guests.now.items c.round-made.new.guests.items c.args.rules c.facts.ensures.gated c.in_default.ensures.ok in
    let e = ap length c.out2-second.ensures in
    let f = ap length c.out2.ensures in
    omega (arith, h, e, f)

pub returns-clause-longer : goal.returns-clause-longer
returns-clause-longer g c = λ _.
    let h = took_longer c.args.hall.now c.round-made.new.hall c.args.guests.now.items c.round-made.new.guests.items c.args.rules c.facts.ensures.gated c.in_default.ensures.ok in
    let l : length c.args.hall.now.journal < length c.round-made.new.hall.journal = omega (arith, h) in
    l
