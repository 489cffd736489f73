use Rattle.std.proofs.Common.{ap}
use Rattle.guest_steps.specs.declared.own.Own.{Own}
use Rattle.guest_steps.proofs.Striding.{stands_still, strode_then}
use Rattle.guest_steps.proofs.ahead.stride.Goals as goal

pub run_quiet-requires-clause-along : goal.run_quiet-requires-clause-along
run_quiet-requires-clause-along g c = let h = c.requires.along in λ κs within. (h.0, h.1, h.2, h.3, c.begin_kept.ensures.along h.0 h.1 h.2 h.3 h.4)

pub returns-clause-ahead : goal.returns-clause-ahead
returns-clause-ahead g c = λ k b t d h.
    let begun = c.begin_kept.ensures.along k b t d h in
    let k_is = ap (λ (o : Own). o.k) c.begin_kept.ensures.own in
    let ages_are = ap (λ (o : Own). o.ages) c.begin_kept.ensures.own in
    let first = stands_still k b t c.args.own.now c.begin_kept.new.own c.begin_kept.new.table.items d begun k_is ages_are in
    let then = c.run_quiet.ensures.ahead k b t d begun in
    (then.0, strode_then k b t c.args.own.now c.begin_kept.new.own c.run_quiet.new.own c.begin_kept.new.table.items c.run_quiet.new.table.items d d then.0 first then.1)
