use Rattle.std.proofs.Common.{◌≡◌, ◌^◌, Some, sym, ap, ◌∙◌}
use Rattle.machine_model.specs.Serial.{AreReaches, Reaches, point_of, turn_from}
use Rattle.machine_plain.specs.PlainGates.{led_to}
use Rattle.serial_plain.specs.PlainSerial.{turn_as}
use Rattle.serial_plain.proofs.RoundsPlain.{budget_young}
use Rattle.serial_plain.proofs.SerialPlain.{ok_then, turn_then}
use Rattle.serial_plain.proofs.turns.PlainTurn.turn.Goals as goal

pub settle-requires-clause-young : goal.settle-requires-clause-young
settle-requires-clause-young c =
    let some : (reach : Reaches) → AreReaches c.args.case.now.image reach → Some (turn_as c.turn_from.new.self) ≡ turn_from c.args.case.now reach c.args.t c.args.budget (point_of c.args.self.now.walk c.args.t) (turn_as c.args.self.now) = λ reach r. sym (ap (λ b. led_to b (turn_as c.turn_from.new.self)) c.if-not-branch.false) ∙ c.in_ok-turn_from.ensures.made reach r in
    budget_young c.args.case.now c.args.t c.args.budget (2 ^ 63) (turn_as c.args.self.now) (turn_as c.turn_from.new.self) c.requires.young some

pub returns-clause-made : goal.returns-clause-made
returns-clause-made c =
    let some : (reach : Reaches) → AreReaches c.args.case.now.image reach → Some (turn_as c.turn_from.new.self) ≡ turn_from c.args.case.now reach c.args.t c.args.budget (point_of c.args.self.now.walk c.args.t) (turn_as c.args.self.now) = λ reach r. sym (ap (λ b. led_to b (turn_as c.turn_from.new.self)) c.if-not-branch.false) ∙ c.in_ok-turn_from.ensures.made reach r in
    ok_then c.settle.result _ _ c.settle.ensures.made (λ b h reach r.
    turn_then c.args.case.now reach (record { turn = c.args.budget; hold = c.args.hold }) c.args.t (point_of c.args.self.now.walk c.args.t) (turn_as c.args.self.now) (turn_as c.turn_from.new.self) (led_to b (turn_as c.settle.new.self)) (some reach r) h)
