use Rattle.std.proofs.Common.{◌≡◌, ◌≢◌, Some, true, false, length, refl, sym, ap, ◌∙◌, arith}
use Rattle.machine_model.specs.Play.{walk}
use Rattle.machine_model.specs.Serial.{AreReaches, Reaches, Rules, one_turn}
use Rattle.machine_model.specs.State.{slots}
use Rattle.machine_plain.specs.PlainGates.{led_to}
use Rattle.serial_plain.specs.PlainSerial.{run_as, turn_as}
use Rattle.serial_plain.proofs.RoundsPlain.{agree, dead_made, differ, no_round, round_of}
use Rattle.serial_plain.proofs.SerialPlain.{ok_then}
use Rattle.serial_plain.proofs.serial.PlainRun.round.Goals as goal

pub returns-then-not-branch-clause-made : goal.returns-then-not-branch-clause-made
returns-then-not-branch-clause-made c =
    no_round c.args.case.now (record { turn = c.args.budget; hold = c.args.hold }) (run_as c.args.self.now) (λ reach r. sym (ap (λ b. led_to b (run_as c.turns.new.self)) c.if-not-branch.true) ∙ c.in_ok-turns.ensures.made reach r)

pub returns-then-len-before-clause-made : goal.returns-then-len-before-clause-made
returns-then-len-before-clause-made c =
    let rules : Rules = record { turn = c.args.budget; hold = c.args.hold } in
    let some : (reach : Reaches) → AreReaches c.args.case.now.image reach → Some (run_as c.turns.new.self) ≡ walk (one_turn c.args.case.now reach rules) (run_as c.args.self.now) slots = λ reach r. sym (ap (λ b. led_to b (run_as c.turns.new.self)) c.if-not-branch.false) ∙ c.in_ok-turns.ensures.made reach r in
    let longer : length c.turns.new.self.turn.journal.items ≢ length c.args.self.now.turn.journal.items = omega arith in
    round_of c.args.case.now rules (run_as c.args.self.now) (run_as c.turns.new.self) false (Some (run_as c.turns.new.self)) some (differ _ _ longer) refl

pub returns-clause-made : goal.returns-clause-made
returns-clause-made c =
    let rules : Rules = record { turn = c.args.budget; hold = c.args.hold } in
    let some : (reach : Reaches) → AreReaches c.args.case.now.image reach → Some (run_as c.turns.new.self) ≡ walk (one_turn c.args.case.now reach rules) (run_as c.args.self.now) slots = λ reach r. sym (ap (λ b. led_to b (run_as c.turns.new.self)) c.if-not-branch.false) ∙ c.in_ok-turns.ensures.made reach r in
    let same : length c.turns.new.self.turn.journal.items ≡ length c.args.self.now.turn.journal.items = omega arith in
    ok_then c.make.result _ _ c.make.ensures.made (λ b h.
    round_of c.args.case.now rules (run_as c.args.self.now) (run_as c.turns.new.self) true _ some (agree _ _ same) (dead_made c.args.case.now (run_as c.turns.new.self) (turn_as c.turns.new.self.turn) (turn_as c.make.new.self) b refl refl h))
