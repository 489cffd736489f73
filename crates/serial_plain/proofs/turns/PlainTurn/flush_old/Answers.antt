use Rattle.std.proofs.Common.{◌≡◌, Some, None, true, sym, ap, ◌∙◌}
use Rattle.machine_model.specs.Serial.{flush}
use Rattle.machine_plain.specs.PlainGates.{led_to}
use Rattle.serial_plain.specs.PlainSerial.{has_old, turn_as}
use Rattle.serial_plain.proofs.SerialPlain.{flush_shorter, old_ends, old_not, old_on}
use Rattle.serial_plain.proofs.turns.PlainTurn.flush_old.Goals as goal

pub returns-then-not-branch-clause-made : goal.returns-then-not-branch-clause-made
returns-then-not-branch-clause-made c =
    let old : has_old c.args.hold c.loop-alloc.self.ages.items ≡ true = sym c.has_old.ensures ∙ c.loop-alloc-test.true in
    let none : None ≡ flush c.args.case.now c.args.t (turn_as c.loop-alloc.self) = sym (ap (λ b. led_to b (turn_as c.flush.new.self)) c.if-not-branch.true) ∙ c.in_ok-flush.ensures.made in
    old_not c.args.case.now c.args.t c.args.hold (turn_as c.loop-alloc.self) (turn_as c.args.self.now) old none c.loop-alloc.invariant.1

pub loop-alloc-smaller : goal.loop-alloc-smaller
loop-alloc-smaller c =
    let old : has_old c.args.hold c.loop-alloc.self.ages.items ≡ true = sym c.has_old.ensures ∙ c.loop-alloc-test.true in
    let some : Some (turn_as c.flush.new.self) ≡ flush c.args.case.now c.args.t (turn_as c.loop-alloc.self) = sym (ap (λ b. led_to b (turn_as c.flush.new.self)) c.if-not-branch.false) ∙ c.in_ok-flush.ensures.made in
    flush_shorter c.args.case.now c.args.t c.args.hold (turn_as c.loop-alloc.self) (turn_as c.flush.new.self) old some

pub loop-alloc-preserved : goal.loop-alloc-preserved
loop-alloc-preserved c =
    let old : has_old c.args.hold c.loop-alloc.self.ages.items ≡ true = sym c.has_old.ensures ∙ c.loop-alloc-test.true in
    let some : Some (turn_as c.flush.new.self) ≡ flush c.args.case.now c.args.t (turn_as c.loop-alloc.self) = sym (ap (λ b. led_to b (turn_as c.flush.new.self)) c.if-not-branch.false) ∙ c.in_ok-flush.ensures.made in
    (c.in_ok-flush.ensures.played c.if-not-branch.false, old_on c.args.case.now c.args.t c.args.hold (turn_as c.loop-alloc.self) (turn_as c.flush.new.self) (turn_as c.args.self.now) old some c.loop-alloc.invariant.1)

pub returns-clause-made : goal.returns-clause-made
returns-clause-made c = old_ends c.args.case.now c.args.t c.args.hold (turn_as c.loop-alloc.self) (turn_as c.args.self.now) (sym c.has_old.ensures ∙ c.loop-alloc-test.false) c.loop-alloc.invariant.1
