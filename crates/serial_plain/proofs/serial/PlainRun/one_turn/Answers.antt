use Rattle.std.proofs.Common.{◌≡◌, Some, None, true, false, sym, ap, ◌∙◌}
use Rattle.std.specs.Prelude.{is_some}
use Rattle.serial_plain.specs.PlainSerial.{run_as}
use Rattle.serial_plain.proofs.RoundsPlain.{ended_turn, turn_there}
use Rattle.serial_plain.proofs.SerialPlain.{ok_then}
use Rattle.serial_plain.proofs.serial.PlainRun.one_turn.Goals as goal

pub returns-then-is_some-clause-made : goal.returns-then-is_some-clause-made
returns-then-is_some-clause-made c =
    let over : is_some c.args.self.now.turn.walk.machine.ending ≡ true = ap is_some (sym c.ending.ensures) ∙ sym c.is_some.ensures ∙ c.if-is_some.true in
    λ reach r. ended_turn c.args.case.now (record { turn = c.args.budget; hold = c.args.hold }) (run_as c.args.self.now) c.args.s over reach

pub returns-in-Some-clause-made : goal.returns-in-Some-clause-made
returns-in-Some-clause-made c =
    let going : is_some c.args.self.now.turn.walk.machine.ending ≡ false = ap is_some (sym c.ending.ensures) ∙ sym c.is_some.ensures ∙ c.if-is_some.false in
    ok_then c.take_turn.result _ _ c.take_turn.ensures.made (λ b h reach r.
    h reach r ∙ turn_there c.args.case.now reach (record { turn = c.args.budget; hold = c.args.hold }) (run_as c.args.self.now) c.args.s (Some c.in-Some.t) going (sym c.in-Some.is ∙ c.thread_in.ensures))

pub returns-in-None-clause-made : goal.returns-in-None-clause-made
returns-in-None-clause-made c =
    let going : is_some c.args.self.now.turn.walk.machine.ending ≡ false = ap is_some (sym c.ending.ensures) ∙ sym c.is_some.ensures ∙ c.if-is_some.false in
    λ reach r. turn_there c.args.case.now reach (record { turn = c.args.budget; hold = c.args.hold }) (run_as c.args.self.now) c.args.s None going (sym c.in-None.is ∙ c.thread_in.ensures)
