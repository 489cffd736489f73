use Rattle.guest_entries.specs.Entered.{Entered}
use Rattle.thread_step.specs.Turned.{ActIs, StopsIn, rule_of}
use Rattle.std.proofs.Common.{sym, subst}
use Rattle.thread_step.proofs.Turning.{call_acts}
use Rattle.thread_step.proofs.entries.act.Goals as goal

pub returns-in-Limit : goal.returns-in-Limit
returns-in-Limit g c = λ d s.
    let w = subst (λ r. StopsIn r c.args.hall.now c.args.t c.args.own.now c.args.table.now.items d) c.in-Limit.is s in
    subst (λ r. Entered c.args.hall.now c.over.new.hall c.args.t c.args.own.now c.over.new.own c.args.table.now.items d (rule_of r)) (sym c.in-Limit.is) (c.over.ensures c.args.table.now.items d w.0 w.1)

pub returns-in-Most : goal.returns-in-Most
returns-in-Most g c = λ d s.
    let w = subst (λ r. StopsIn r c.args.hall.now c.args.t c.args.own.now c.args.table.now.items d) c.in-Most.is s in
    subst (λ r. Entered c.args.hall.now c.tick.new.hall c.args.t c.args.own.now c.tick.new.own c.args.table.now.items d (rule_of r)) (sym c.in-Most.is) (c.tick.ensures c.args.table.now.items d w.0 w.1)

pub returns-in_ok-miss-in-Missing : goal.returns-in_ok-miss-in-Missing
returns-in_ok-miss-in-Missing g c = λ d s.
    let w = subst (λ r. StopsIn r c.args.hall.now c.args.t c.args.own.now c.args.table.now.items d) c.in-Missing.is s in
    subst (λ r. Entered c.args.hall.now c.miss.new.hall c.args.t c.args.own.now c.miss.new.own c.args.table.now.items d (rule_of r)) (sym c.in-Missing.is) (c.in_ok-miss-in-Missing.ensures c.args.table.now.items d w.0 w.1)

pub returns-in-Library : goal.returns-in-Library
returns-in-Library g c = λ d s.
    let w = subst (λ r. StopsIn r c.args.hall.now c.args.t c.args.own.now c.args.table.now.items d) c.in-Library.is s in
    subst (λ r. ActIs c.call.result c.args.hall.now c.call.new.hall c.args.t c.args.own.now c.call.new.own c.args.table.now.items d (rule_of r)) (sym c.in-Library.is) (call_acts c.call.result c.args.hall.now c.call.new.hall c.args.t c.args.own.now c.call.new.own c.args.table.now.items d (c.call.ensures c.args.table.now.items d w.0 w.1))
