use Rattle.std.proofs.Common.{◌≡◌, Some, None, sym, ap, ◌∙◌}
use Rattle.machine_model.specs.Serial.{AreReaches, Reaches}
use Rattle.machine_plain.specs.PlainGates.{led_to}
use Rattle.serial_plain.specs.PlainSerial.{acts, turn_as}
use Rattle.serial_plain.proofs.SerialPlain.{budget_not, budget_on, budget_over}
use Rattle.serial_plain.proofs.turns.PlainTurn.turn_from.Goals as goal

pub returns-then-not-branch-clause-made : goal.returns-then-not-branch-clause-made
returns-then-not-branch-clause-made c =
    let none : (reach : Reaches) → AreReaches c.args.case.now.image reach → None ≡ acts c.args.case.now reach c.args.t (turn_as c.loop.self) = λ reach r. sym (ap (λ b. led_to b (turn_as c.go_on.new.self)) c.if-not-branch.true) ∙ c.in_ok-go_on.ensures.made reach r in
    budget_not c.args.case.now c.args.t c.args.n c.loop.counter (turn_as c.loop.self) (turn_as c.args.self.now) c.loop-test.true none c.loop.invariant.1

pub returns-then-is_over-clause-made : goal.returns-then-is_over-clause-made
returns-then-is_over-clause-made c =
    let some : (reach : Reaches) → AreReaches c.args.case.now.image reach → Some (turn_as c.go_on.new.self) ≡ acts c.args.case.now reach c.args.t (turn_as c.loop.self) = λ reach r. sym (ap (λ b. led_to b (turn_as c.go_on.new.self)) c.if-not-branch.false) ∙ c.in_ok-go_on.ensures.made reach r in
    budget_over c.args.case.now c.args.t c.args.n c.loop.counter (turn_as c.loop.self) (turn_as c.go_on.new.self) (turn_as c.args.self.now) c.loop-test.true some (sym c.is_over.ensures ∙ c.if-is_over.true) c.loop.invariant.1

pub loop-preserved : goal.loop-preserved
loop-preserved c =
    let some : (reach : Reaches) → AreReaches c.args.case.now.image reach → Some (turn_as c.go_on.new.self) ≡ acts c.args.case.now reach c.args.t (turn_as c.loop.self) = λ reach r. sym (ap (λ b. led_to b (turn_as c.go_on.new.self)) c.if-not-branch.false) ∙ c.in_ok-go_on.ensures.made reach r in
    (c.in_ok-go_on.ensures.played c.if-not-branch.false, budget_on c.args.case.now c.args.t c.args.n c.loop.counter (turn_as c.loop.self) (turn_as c.go_on.new.self) (turn_as c.args.self.now) c.loop-test.true some (sym c.is_over.ensures ∙ c.if-is_over.false) c.loop.invariant.1)
