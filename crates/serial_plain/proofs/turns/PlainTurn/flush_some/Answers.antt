use Rattle.std.proofs.Common.{◌≡◌, Some, None, sym, ap, ◌∙◌}
use Rattle.machine_model.specs.Serial.{flush}
use Rattle.machine_plain.specs.PlainGates.{led_to}
use Rattle.serial_plain.specs.PlainSerial.{turn_as}
use Rattle.serial_plain.proofs.SerialPlain.{flushed_not, flushed_on}
use Rattle.serial_plain.proofs.turns.PlainTurn.flush_some.Goals as goal

pub returns-then-not-branch-clause-made : goal.returns-then-not-branch-clause-made
returns-then-not-branch-clause-made c =
    let none : None ≡ flush c.args.case.now c.args.t (turn_as c.loop.self) = sym (ap (λ b. led_to b (turn_as c.flush.new.self)) c.if-not-branch.true) ∙ c.in_ok-flush.ensures.made in
    flushed_not c.args.case.now c.args.t c.args.n c.loop.counter (turn_as c.loop.self) (turn_as c.args.self.now) c.loop-test.true none c.loop.invariant.1

pub loop-preserved : goal.loop-preserved
loop-preserved c =
    let some : Some (turn_as c.flush.new.self) ≡ flush c.args.case.now c.args.t (turn_as c.loop.self) = sym (ap (λ b. led_to b (turn_as c.flush.new.self)) c.if-not-branch.false) ∙ c.in_ok-flush.ensures.made in
    (c.in_ok-flush.ensures.played c.if-not-branch.false, flushed_on c.args.case.now c.args.t c.args.n c.loop.counter (turn_as c.loop.self) (turn_as c.flush.new.self) (turn_as c.args.self.now) c.loop-test.true some c.loop.invariant.1)
