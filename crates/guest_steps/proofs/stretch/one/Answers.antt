use Rattle.std.proofs.Common.{Ok}
use Rattle.hall_core.specs.Hall.{both}
use Rattle.guest_steps.specs.Stretched.{OneIs}
use Rattle.std.proofs.Common.{refl, ap, subst, arith, ◌∙◌}
use Rattle.guest_steps.specs.Stretched.{BegunIs}
use Rattle.guest_steps.proofs.Moves.{stays}
use Rattle.guest_steps.proofs.Stops.{begun_moved, call_came, one_failed, one_from}
use Rattle.guest_steps.proofs.stretch.one.Goals as goal

pub returns-then-from-left-clause-one : goal.returns-then-from-left-clause-one
returns-then-from-left-clause-one g c = λ t d h. (d, stays c.args.hall.now.case (both c.args.hall.now) t c.args.own.now c.args.own.now c.args.table.now.items c.args.table.now.items d h refl refl refl, omega (arith, c.requires.left, c.if-from-left.true, c.from.ensures))

pub returns-in_err-begin-clause-one : goal.returns-in_err-begin-clause-one
returns-in_err-begin-clause-one g c = λ t d h. one_failed c.args.hall.now.case (both c.args.hall.now) t c.args.own.now c.begin.new.own c.begin.new.table.items d c.from_residual.result c.from_residual.ensures.0 (d, begun_moved c.args.hall.now.case (both c.args.hall.now) t c.args.own.now c.begin.new.own c.begin.new.table.items d c.begin.ensures.own (c.begin.ensures.along t d h))

pub run_block-requires-in-Inside-clause-along : goal.run_block-requires-in-Inside-clause-along
run_block-requires-in-Inside-clause-along g c = let r = c.requires.along in λ κs within. (c.args.hall.now.case, both c.args.hall.now, r.0, r.1, c.begin.ensures.along r.0 r.1 r.2)

pub returns-in-Inside-clause-one : goal.returns-in-Inside-clause-one
returns-in-Inside-clause-one g c = λ t d h.
    let one = c.run_block-in-Inside.ensures.one c.args.hall.now.case (both c.args.hall.now) t d (c.begin.ensures.along t d h) c.requires.left in
    one_from c.args.hall.now.case (both c.args.hall.now) t c.args.own.now c.begin.new.own.at c.run_block-in-Inside.new.own c.run_block-in-Inside.new.table.items d c.run_block-in-Inside.result (subst (λ z. OneIs (Ok c.run_block-in-Inside.result) c.args.hall.now.case (both c.args.hall.now) t z c.run_block-in-Inside.new.own c.run_block-in-Inside.new.table.items d) c.begin.ensures.own one)

pub returns-in-Missing-clause-one : goal.returns-in-Missing-clause-one
returns-in-Missing-clause-one g c = λ t d h.
    let m = begun_moved c.args.hall.now.case (both c.args.hall.now) t c.args.own.now c.begin.new.own c.begin.new.table.items d c.begin.ensures.own (c.begin.ensures.along t d h) in
    let b = subst (λ z. BegunIs (Ok z) c.args.hall.now.case (both c.args.hall.now) c.args.own.now c.begin.new.own c.in-Between.a) c.in-Missing.is c.in_ok-begin.ensures.begun in
    let k = ap (λ z. z.k) b.0 in
    (d, m, (omega (arith, c.requires.left, c.if-from-left.false, c.from.ensures, k), ap (λ z. z.at) b.0 ∙ c.in-Between.is, b.1))

pub returns-in-Library-clause-one : goal.returns-in-Library-clause-one
returns-in-Library-clause-one g c = λ t d h.
    let m = begun_moved c.args.hall.now.case (both c.args.hall.now) t c.args.own.now c.begin.new.own c.begin.new.table.items d c.begin.ensures.own (c.begin.ensures.along t d h) in
    let b = subst (λ z. BegunIs (Ok z) c.args.hall.now.case (both c.args.hall.now) c.args.own.now c.begin.new.own c.in-Between.a) c.in-Library.is c.in_ok-begin.ensures.begun in
    let k = ap (λ z. z.k) b.0 in
    call_came c.args.hall.now.case (both c.args.hall.now) t c.args.own.now c.begin.new.own c.begin.new.table.items d c.in-Between.a c.in-Library.what c.at_call.result m (omega (arith, c.requires.left, c.if-from-left.false, c.from.ensures, k)) (ap (λ z. z.at) b.0 ∙ c.in-Between.is) b.1 c.at_call.ensures
