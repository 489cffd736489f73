use Rattle.std.proofs.Common.{◌≡◌, Some, None, refl, sym, ap, ◌∙◌, subst, arith}
use Rattle.machine_model.specs.CaseData.{CaseData}
use Rattle.machine_model.specs.Serial.{Rules}
use Rattle.machine_plain.specs.PlainGates.{led_to}
use Rattle.serial_plain.specs.PlainSerial.{Tells, run_as}
use Rattle.serial_plain.specs.declared.serial.PlainSerial.{PlainSerial}
use Rattle.serial_plain.proofs.RoundsPlain.{is_serial, run_start, serial_made}
use Rattle.serial_plain.proofs.serial.serial_plain.Goals as goal

pub rounds-requires-clause-run : goal.rounds-requires-clause-run
rounds-requires-clause-run c = run_start c.args.case.now (run_as c.in_ok-state.state) c.in_ok-state.ensures.start

pub returns-then-not-branch-clause-run : goal.returns-then-not-branch-clause-run
returns-then-not-branch-clause-run c =
    let rules : Rules = record { turn = c.args.budget; hold = c.args.hold } in
    let limit : c.case.inside.limit ≡ c.args.case.now.limit = ap (λ (x : CaseData). x.limit) c.case.view_is in
    λ reach r. subst (Tells None) (serial_made c.args.case.now rules _ (run_as c.in_ok-state.state) None (omega (arith, limit)) c.in_ok-state.ensures.start (λ reach r. sym (ap (λ b. led_to b (run_as c.rounds.new.self)) c.if-not-branch.true) ∙ c.in_ok-rounds.ensures.made reach r) reach r) tt

pub returns-clause-run : goal.returns-clause-run
returns-clause-run c =
    let rules : Rules = record { turn = c.args.budget; hold = c.args.hold } in
    let limit : c.case.inside.limit ≡ c.args.case.now.limit = ap (λ (x : CaseData). x.limit) c.case.view_is in
    let told : PlainSerial = record { journal = c.rounds.new.self.turn.journal; machine = c.into_machine-machine.result } in
    let same : Tells (Some told) (Some (run_as c.rounds.new.self)) = (refl, c.into_machine-machine.ensures) in
    λ reach r. subst (Tells (Some told)) (serial_made c.args.case.now rules _ (run_as c.in_ok-state.state) (Some (run_as c.rounds.new.self)) (omega (arith, limit)) c.in_ok-state.ensures.start (λ reach r. sym (ap (λ b. led_to b (run_as c.rounds.new.self)) c.if-not-branch.false) ∙ c.in_ok-rounds.ensures.made reach r) reach r) same

pub returns-clause-serial : goal.returns-clause-serial
returns-clause-serial c =
    let rules : Rules = record { turn = c.args.budget; hold = c.args.hold } in
    let limit : c.case.inside.limit ≡ c.args.case.now.limit = ap (λ (x : CaseData). x.limit) c.case.view_is in
    is_serial c.args.case.now rules (run_as c.rounds.new.self) _ refl (serial_made c.args.case.now rules _ (run_as c.in_ok-state.state) (Some (run_as c.rounds.new.self)) (omega (arith, limit)) c.in_ok-state.ensures.start (λ reach r. sym (ap (λ b. led_to b (run_as c.rounds.new.self)) c.if-not-branch.false) ∙ c.in_ok-rounds.ensures.made reach r))
