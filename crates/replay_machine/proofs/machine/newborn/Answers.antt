use Rattle.std.proofs.Common.{arith, sym, ◌≡◌, true, false, not, ◌&&◌, get_or}
use Rattle.std.proofs.lemmas.Grind.{common_steps}
use Rattle.machine_model.specs.Step.{is_in_use}
use Rattle.replay_machine.proofs.Births.{is_newborn, no_newborn}
use Rattle.replay_machine.proofs.machine.newborn.Goals as goal

pub returns-then-not-before-t-clause-newborn : goal.returns-then-not-before-t-clause-newborn
returns-then-not-before-t-clause-newborn c =
    let h : (is_in_use c.args.library.now c.loop-t.t && not (get_or c.args.before.now c.loop-t.t false)) ≡ true = grind (arith, common_steps) in
    λ l e. sym (is_newborn c.args.before.now l c.args.library.now c.loop-t.t e c.loop-t-test.true h c.loop-t.invariant)

pub returns-clause-newborn : goal.returns-clause-newborn
returns-clause-newborn c = λ l e. sym (no_newborn c.args.before.now l c.args.library.now e (λ u lt. c.loop-t.invariant u (omega arith)))
