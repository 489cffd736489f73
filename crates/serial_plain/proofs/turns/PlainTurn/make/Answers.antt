use Rattle.std.proofs.Common.{◌≡◌, Some, refl, sym, ap, ◌∙◌, subst}
use Rattle.machine_model.specs.Gated.{advance}
use Rattle.machine_model.specs.Step.{slot_in}
use Rattle.machine_plain.specs.PlainGates.{led_to}
use Rattle.serial_plain.specs.PlainSerial.{IsPlayed, turn_as}
use Rattle.serial_plain.proofs.SerialPlain.{err_kept, made, made_played, turn_fault, turn_serves}
use Rattle.serial_plain.proofs.turns.PlainTurn.make.Goals as goal

pub advance-requires-clause-serves : goal.advance-requires-clause-serves
advance-requires-clause-serves c = turn_serves c.args.case.now (turn_as c.args.self.now) c.requires.played c.requires.limit

pub returns-clause-made : goal.returns-clause-made
returns-clause-made c =
    let came : Some c.advance.new.self ≡ advance c.args.case.now c.args.self.now.walk c.args.e = sym (ap (λ b. led_to b c.advance.new.self) c.if-not-branch.false) ∙ c.in_ok-advance.ensures.advanced in
    ap (λ s. Some s) c.in_ok-add_entry.ensures ∙ made c.args.case.now c.args.e (turn_as c.args.self.now) c.advance.new.self _ came refl

pub returns-clause-played : goal.returns-clause-played
returns-clause-played c =
    let came : Some c.advance.new.self ≡ advance c.args.case.now c.args.self.now.walk c.args.e = sym (ap (λ b. led_to b c.advance.new.self) c.if-not-branch.false) ∙ c.in_ok-advance.ensures.advanced in
    λ _. subst (IsPlayed c.args.case.now) (sym c.in_ok-add_entry.ensures) (made_played c.args.case.now c.args.e (turn_as c.args.self.now) c.advance.new.self _ c.requires.played came refl)

pub returns-in_err-advance-clause-fault : goal.returns-in_err-advance-clause-fault
returns-in_err-advance-clause-fault c =
    err_kept c.from_residual.result c.in_err-advance.field-0.0 _ c.from_residual.ensures.1
    (turn_fault c.args.case.now (turn_as c.args.self.now) (slot_in c.args.e) c.in_err-advance.field-0.0 c.requires.played c.in_err-advance.ensures.fault)
