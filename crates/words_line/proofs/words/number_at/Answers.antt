use Rattle.std.proofs.Common.{ap, ◌∙◌}
use Rattle.words_line.specs.Plans.{number_in}
use Rattle.words_line.proofs.Numbers.{number_not_read, number_read}
use Rattle.words_line.proofs.words.number_at.Goals as goal

pub returns-in_default-parse-clause-value : goal.returns-in_default-parse-clause-value
returns-in_default-parse-clause-value c =
    number_not_read c.args.low c.args.high c.in-Some.text.now c.in_default-parse.field-0 c.in_default-parse.ensures.value.0 ∙ ap (number_in c.args.low c.args.high) c.in-Some.ensures

pub returns-then-number-high-clause-value : goal.returns-then-number-high-clause-value
returns-then-number-high-clause-value c =
    number_read c.args.low c.args.high c.in-Ok.number c.in-Some.text.now c.in-Ok.ensures.value.0 c.if-low-number.true c.if-number-high.true ∙ ap (number_in c.args.low c.args.high) c.in-Some.ensures
