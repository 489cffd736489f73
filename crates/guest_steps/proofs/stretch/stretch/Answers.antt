use Rattle.std.proofs.Common.{◌-◌}
use Rattle.hall_core.specs.Hall.{both}
use Rattle.guest_parts.specs.Running.{Rises}
use Rattle.guest_steps.specs.Stretched.{OneIs, parts_for, parts_of}
use Rattle.std.proofs.Common.{None, Ok, refl, subst, arith}
use Rattle.guest_parts.proofs.Runs.{rises_none, rises_on}
use Rattle.guest_steps.specs.Stretched.{OneIs, Progresses, parts_of}
use Rattle.guest_steps.proofs.Moves.{stays}
use Rattle.guest_steps.proofs.Stops.{came_more, failed_parts, more_parts, moved_more, stretch_failed}
use Rattle.guest_steps.proofs.stretch.stretch.Given as given
use Rattle.guest_steps.proofs.stretch.stretch.Goals as goal

pub loop-came-init : goal.loop-came-init
loop-came-init g c = record {
  moved = λ t d h. (d, stays c.args.hall.now.case (both c.args.hall.now) t c.args.own.now c.args.own.now c.args.table.now.items c.args.table.now.items d h refl refl refl);
  left = c.steps_left-left.ensures;
  later = omega arith;
  count = rises_none _ _ (omega arith);
}

pub one-requires-clause-along : goal.one-requires-clause-along
one-requires-clause-along g c = λ κs within. (let r = c.requires.along in let m = c.loop-came.invariant.moved r.0 r.1 r.2 in (r.0, m.0, m.1.along))

pub returns-in_err-came-clause-stretch : goal.returns-in_err-came-clause-stretch
returns-in_err-came-clause-stretch g c = λ t d h.
    let m = c.loop-came.invariant.moved t d h in
    stretch_failed c.args.hall.now.case (both c.args.hall.now) t c.args.own.now c.one.new.own c.one.new.table.items d c.from_residual.result c.from_residual.ensures.0 (moved_more c.args.hall.now.case (both c.args.hall.now) t c.args.own.now c.loop-came.own c.one.new.own c.loop-came.table.items c.one.new.table.items d m.0 m.1 (c.in_err-came.ensures.one t m.0 m.1.along))

pub returns-in_err-came-clause-later : goal.returns-in_err-came-clause-later
returns-in_err-came-clause-later g c = omega (arith, c.loop-came.invariant.later, c.one.ensures.later)

pub returns-in_err-came-clause-count : goal.returns-in_err-came-clause-count
returns-in_err-came-clause-count g c = subst (Rises (g.N.Engine.count c.args.engine.now) (g.N.Engine.count c.one.new.engine)) (failed_parts c.from_residual.result (c.one.new.own.k - c.args.own.now.k) c.from_residual.ensures.0) (rises_on _ _ _ (c.loop-came.own.k - c.args.own.now.k) (c.one.new.own.k - c.loop-came.own.k) _ (omega (arith, c.loop-came.invariant.later, c.one.ensures.later)) c.loop-came.invariant.count c.in_err-came.ensures.count)

pub returns-in-Some-clause-stretch : goal.returns-in-Some-clause-stretch
returns-in-Some-clause-stretch g c = λ t d h.
    let m = c.loop-came.invariant.moved t d h in
    let one = subst (λ z. OneIs (Ok z) c.args.hall.now.case (both c.args.hall.now) t c.loop-came.own c.one.new.own c.one.new.table.items m.0) c.in-Some.is (c.in_ok-came.ensures.one t m.0 m.1.along) in
    came_more c.args.hall.now.case (both c.args.hall.now) t c.args.own.now c.loop-came.own c.one.new.own c.loop-came.table.items c.one.new.table.items d m.0 m.1 c.in-Some.came one

pub returns-in-Some-clause-later : goal.returns-in-Some-clause-later
returns-in-Some-clause-later g c = omega (arith, c.loop-came.invariant.later, c.one.ensures.later)

pub returns-in-Some-clause-count : goal.returns-in-Some-clause-count
returns-in-Some-clause-count g c =
    let k = c.one.new.own.k - c.loop-came.own.k in
    let one = subst (λ z. Rises (g.N.Engine.count c.loop-came.engine) (g.N.Engine.count c.one.new.engine) (parts_of (Ok z) k)) c.in-Some.is c.in_ok-came.ensures.count in
    rises_on _ _ _ (c.loop-came.own.k - c.args.own.now.k) (parts_for (Ok c.in-Some.came) k) _ (more_parts c.in-Some.came (c.loop-came.own.k - c.args.own.now.k) k (c.one.new.own.k - c.args.own.now.k) (omega (arith, c.loop-came.invariant.later, c.one.ensures.later))) c.loop-came.invariant.count one

went_on : (g : given.Over) (c : goal.In_default g) → Progresses (Ok None) c.loop-came.own.k c.one.new.own.k
went_on g c = subst (λ z. Progresses (Ok z) c.loop-came.own.k c.one.new.own.k) c.in_default.is c.in_ok-came.ensures.progress

pub loop-came-smaller : goal.loop-came-smaller
loop-came-smaller g c = let p = went_on g c in omega (arith, p.0, p.1)

pub loop-came-preserved : goal.loop-came-preserved
loop-came-preserved g c = record {
  moved = λ t d h.
      let m = c.loop-came.invariant.moved t d h in
      moved_more c.args.hall.now.case (both c.args.hall.now) t c.args.own.now c.loop-came.own c.one.new.own c.loop-came.table.items c.one.new.table.items d m.0 m.1 (subst (λ z. OneIs (Ok z) c.args.hall.now.case (both c.args.hall.now) t c.loop-came.own c.one.new.own c.one.new.table.items m.0) c.in_default.is (c.in_ok-came.ensures.one t m.0 m.1.along));
  left = c.loop-came.invariant.left;
  later = omega (arith, c.loop-came.invariant.later, c.one.ensures.later);
  count = rises_on _ _ _ (c.loop-came.own.k - c.args.own.now.k) (c.one.new.own.k - c.loop-came.own.k) _ (omega (arith, c.loop-came.invariant.later, c.one.ensures.later)) c.loop-came.invariant.count (subst (λ z. Rises (g.N.Engine.count c.loop-came.engine) (g.N.Engine.count c.one.new.engine) (parts_of (Ok z) (c.one.new.own.k - c.loop-came.own.k))) c.in_default.is c.in_ok-came.ensures.count);
}
