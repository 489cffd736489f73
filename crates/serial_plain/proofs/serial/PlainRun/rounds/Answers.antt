use Rattle.std.proofs.Common.{◌≡◌, Some, None, true, false, sym, ap, ◌∙◌, arith}
use Rattle.std.specs.Prelude.{is_some}
use Rattle.machine_model.specs.Serial.{AreReaches, Reaches, Rules, round}
use Rattle.machine_plain.specs.PlainGates.{led_to}
use Rattle.serial_plain.specs.PlainSerial.{run_as}
use Rattle.serial_plain.proofs.RoundsPlain.{rounds_more, rounds_not, rounds_over, rounds_spent, run_older}
use Rattle.serial_plain.proofs.serial.PlainRun.rounds.Goals as goal

pub returns-then-is_some-clause-made : goal.returns-then-is_some-clause-made
returns-then-is_some-clause-made c =
    let over : is_some c.loop-i.self.turn.walk.machine.ending ≡ true = ap is_some (sym c.ending.ensures) ∙ sym c.is_some.ensures ∙ c.if-is_some.true in
    rounds_over c.args.case.now (record { turn = c.args.budget; hold = c.args.hold }) c.args.n c.loop-i.i (run_as c.loop-i.self) (run_as c.args.self.now) c.loop-i-test.true over c.loop-i.invariant.1

pub returns-then-not-branch-clause-made : goal.returns-then-not-branch-clause-made
returns-then-not-branch-clause-made c =
    let rules : Rules = record { turn = c.args.budget; hold = c.args.hold } in
    let going : is_some c.loop-i.self.turn.walk.machine.ending ≡ false = ap is_some (sym c.ending.ensures) ∙ sym c.is_some.ensures ∙ c.if-is_some.false in
    let none : (reach : Reaches) → AreReaches c.args.case.now.image reach → None ≡ round c.args.case.now reach rules (run_as c.loop-i.self) = λ reach r. sym (ap (λ b. led_to b (run_as c.round.new.self)) c.if-not-branch.true) ∙ c.in_ok-round.ensures.made reach r in
    rounds_not c.args.case.now rules c.args.n c.loop-i.i (run_as c.loop-i.self) (run_as c.args.self.now) c.loop-i-test.true going none c.loop-i.invariant.1

pub loop-i-preserved : goal.loop-i-preserved
loop-i-preserved c =
    let rules : Rules = record { turn = c.args.budget; hold = c.args.hold } in
    let going : is_some c.loop-i.self.turn.walk.machine.ending ≡ false = ap is_some (sym c.ending.ensures) ∙ sym c.is_some.ensures ∙ c.if-is_some.false in
    let some : (reach : Reaches) → AreReaches c.args.case.now.image reach → Some (run_as c.round.new.self) ≡ round c.args.case.now reach rules (run_as c.loop-i.self) = λ reach r. sym (ap (λ b. led_to b (run_as c.round.new.self)) c.if-not-branch.false) ∙ c.in_ok-round.ensures.made reach r in
    (run_older c.args.case.now _ _ (run_as c.round.new.self) (omega arith) (c.in_ok-round.ensures.run c.if-not-branch.false), rounds_more c.args.case.now rules c.args.n c.loop-i.i (run_as c.loop-i.self) (run_as c.round.new.self) (run_as c.args.self.now) c.loop-i-test.true going some c.loop-i.invariant.1)

pub returns-clause-made : goal.returns-clause-made
returns-clause-made c = rounds_spent c.args.case.now (record { turn = c.args.budget; hold = c.args.hold }) c.args.n c.loop-i.i (run_as c.loop-i.self) (run_as c.args.self.now) c.loop-i-test.false c.loop-i.invariant.1
