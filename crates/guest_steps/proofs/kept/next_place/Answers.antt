use Rattle.std.proofs.Common.{◌≡◌, ◌∷◌, drop, ◌+◌, true, false}
use Rattle.lift_table.specs.Faithful.{takes_answer}
use Rattle.guest_parts.specs.Standing.{places_in}
use Rattle.std.proofs.Common.{sym, ap, subst, ◌∙◌}
use Rattle.guest_steps.proofs.Table.{left_by, place_none, place_some}
use Rattle.guest_steps.proofs.kept.next_place.Goals as goal

pub returns-then-i-instrs : goal.returns-then-i-instrs
returns-then-i-instrs c = λ ps. place_none c.args.at c.args.instrs.now c.args.i.now c.args.part.now ps c.if-i-instrs.true

pub returns-then-not-takes_answer : goal.returns-then-not-takes_answer
returns-then-not-takes_answer c = λ ps. subst (λ x. x ∷ places_in c.args.at (drop (c.args.i.now + 1) c.args.instrs.now) ps ≡ places_in c.args.at (drop c.args.i.now c.args.instrs.now) (c.args.part.now ∷ ps)) (sym (ap (λ x. x.at) c.placed.view_is)) (place_some c.args.at c.args.instrs.now c.args.i.now (c.args.i.now + 1) c.index-instrs-i.result c.args.part.now ps c.if-i-instrs.false c.index-instrs-i.is (left_by false c.args.i.now (takes_answer c.args.part.now.end) (sym c.if-not-takes_answer.true ∙ c.takes_answer.ensures)))

pub returns-else-not-takes_answer : goal.returns-else-not-takes_answer
returns-else-not-takes_answer c = λ ps. subst (λ x. x ∷ places_in c.args.at (drop c.args.i.now c.args.instrs.now) ps ≡ places_in c.args.at (drop c.args.i.now c.args.instrs.now) (c.args.part.now ∷ ps)) (sym (ap (λ x. x.at) c.placed.view_is)) (place_some c.args.at c.args.instrs.now c.args.i.now c.args.i.now c.index-instrs-i.result c.args.part.now ps c.if-i-instrs.false c.index-instrs-i.is (left_by true c.args.i.now (takes_answer c.args.part.now.end) (sym c.if-not-takes_answer.false ∙ c.takes_answer.ensures)))
