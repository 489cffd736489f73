use Rattle.std.proofs.Common.{refl, arith}
use Rattle.guest_parts.proofs.Runs.{rises_none}
use Rattle.guest_steps.proofs.Striding.{rises_then, stands_still, strode_then}
use Rattle.guest_steps.proofs.ahead.ahead.Goals as goal

pub loop-init : goal.loop-init
loop-init g c = record {
  far = λ k b t d h. (d, stands_still k b t c.args.own.now c.args.own.now c.args.table.now.items d h refl refl);
  later = omega arith;
  count = rises_none _ _ (omega arith);
}

pub stride-requires-clause-along : goal.stride-requires-clause-along
stride-requires-clause-along g c κs within =
    let h = c.requires.along in
    let s = c.loop.invariant.far h.0 h.1 h.2 h.3 h.4 in
    (h.0, h.1, h.2, s.0, s.1.along)

pub loop-preserved : goal.loop-preserved
loop-preserved g c = record {
  far = λ k b t d h.
      let s = c.loop.invariant.far k b t d h in
      let n = c.stride.ensures.ahead k b t s.0 s.1.along in
      (n.0, strode_then k b t c.args.own.now c.loop.own c.stride.new.own c.loop.table.items c.stride.new.table.items d s.0 n.0 s.1 n.1);
  later = omega (arith, c.loop.invariant.later, c.stride.ensures.later);
  count = rises_then _ _ _ c.args.own.now.k c.loop.own.k c.stride.new.own.k c.loop.invariant.count c.stride.ensures.count;
}

pub returns-clause-ahead : goal.returns-clause-ahead
returns-clause-ahead g c = λ k b t d h.
    let s = c.loop.invariant.far k b t d h in
    let n = c.stride.ensures.ahead k b t s.0 s.1.along in
    (n.0, strode_then k b t c.args.own.now c.loop.own c.stride.new.own c.loop.table.items c.stride.new.table.items d s.0 n.0 s.1 n.1)
