use Rattle.std.proofs.Common.{◌≡◌, ◌+◌, Some, None, refl, sym, ap, ◌∙◌, arith}
use Rattle.machine_model.specs.Serial.{AreReaches, Reaches, Rules, one_turn}
use Rattle.machine_plain.specs.PlainGates.{led_to}
use Rattle.serial_plain.specs.PlainSerial.{run_as}
use Rattle.serial_plain.proofs.RoundsPlain.{none_walked, run_older, walked_all, walked_not, walked_on}
use Rattle.serial_plain.proofs.serial.PlainRun.turns.Goals as goal

pub loop-s-init : goal.loop-s-init
loop-s-init c = (run_older c.args.case.now c.args.count (c.args.count + 0) (run_as c.args.self.now) (omega arith) c.requires.run, none_walked c.args.case.now (record { turn = c.args.budget; hold = c.args.hold }) (run_as c.args.self.now) (run_as c.args.self.now) refl)

pub returns-then-not-branch-clause-made : goal.returns-then-not-branch-clause-made
returns-then-not-branch-clause-made c =
    let rules : Rules = record { turn = c.args.budget; hold = c.args.hold } in
    let none : (reach : Reaches) → AreReaches c.args.case.now.image reach → None ≡ one_turn c.args.case.now reach rules (run_as c.loop-s.self) c.loop-s.s = λ reach r. sym (ap (λ b. led_to b (run_as c.one_turn.new.self)) c.if-not-branch.true) ∙ c.in_ok-one_turn.ensures.made reach r in
    walked_not c.args.case.now rules (run_as c.args.self.now) (run_as c.loop-s.self) c.loop-s.s c.loop-s-test.true none c.loop-s.invariant.1

pub loop-s-preserved : goal.loop-s-preserved
loop-s-preserved c =
    let rules : Rules = record { turn = c.args.budget; hold = c.args.hold } in
    let some : (reach : Reaches) → AreReaches c.args.case.now.image reach → Some (run_as c.one_turn.new.self) ≡ one_turn c.args.case.now reach rules (run_as c.loop-s.self) c.loop-s.s = λ reach r. sym (ap (λ b. led_to b (run_as c.one_turn.new.self)) c.if-not-branch.false) ∙ c.in_ok-one_turn.ensures.made reach r in
    (run_older c.args.case.now _ _ (run_as c.one_turn.new.self) (omega arith) (c.in_ok-one_turn.ensures.run c.if-not-branch.false), walked_on c.args.case.now rules (run_as c.args.self.now) (run_as c.loop-s.self) (run_as c.one_turn.new.self) c.loop-s.s some c.loop-s.invariant.1)

pub returns-clause-made : goal.returns-clause-made
returns-clause-made c = walked_all c.args.case.now (record { turn = c.args.budget; hold = c.args.hold }) (run_as c.args.self.now) (run_as c.loop-s.self) c.loop-s.s (omega arith) c.loop-s.invariant.1
