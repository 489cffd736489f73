use Rattle.std.proofs.Common.{◌≡◌, ◌+◌, sym, ap, ◌∙◌, subst}
use Rattle.std.specs.Prelude.{IfOk, option_map}
use Rattle.machine_model.specs.Gated.{gated_step}
use Rattle.machine_model.specs.Serial.{AtEvent, AtLimit, AtMiss, AtMost, GoesOn, point_on}
use Rattle.serial_plain.specs.PlainSerial.{point_as, rule_as}
use Rattle.serial_plain.proofs.SerialPlain.{next_there}
use Rattle.serial_plain.proofs.turns.next_point.Goals as goal

pub returns-in-GoesOn : goal.returns-in-GoesOn
returns-in-GoesOn c =
    subst (λ x. IfOk c.point_on.result (λ next. option_map point_as next ≡ x))
    (ap (λ i. point_on (c.args.point.now.k + 1) (gated_step i c.grown.result.now c.args.point.now.stand)) c.image.ensures
    ∙ ap (λ g. point_on (c.args.point.now.k + 1) (gated_step c.args.case.now.image g c.args.point.now.stand)) c.grown.ensures
    ∙ next_there c.args.case.now c.args.walk.now (point_as c.args.point.now) GoesOn (sym (ap rule_as c.in-GoesOn.is) ∙ c.rule_at.ensures))
    c.point_on.ensures

pub returns-in-AtLimit : goal.returns-in-AtLimit
returns-in-AtLimit c = next_there c.args.case.now c.args.walk.now (point_as c.args.point.now) AtLimit (sym (ap rule_as c.in-AtLimit.is) ∙ c.rule_at.ensures)

pub returns-in-AtMiss : goal.returns-in-AtMiss
returns-in-AtMiss c = next_there c.args.case.now c.args.walk.now (point_as c.args.point.now) AtMiss (sym (ap rule_as c.in-AtMiss.is) ∙ c.rule_at.ensures)

pub returns-in-AtMost : goal.returns-in-AtMost
returns-in-AtMost c = next_there c.args.case.now c.args.walk.now (point_as c.args.point.now) AtMost (sym (ap rule_as c.in-AtMost.is) ∙ c.rule_at.ensures)

pub returns-in-AtEvent : goal.returns-in-AtEvent
returns-in-AtEvent c = next_there c.args.case.now c.args.walk.now (point_as c.args.point.now) AtEvent (sym (ap rule_as c.in-AtEvent.is) ∙ c.rule_at.ensures)
