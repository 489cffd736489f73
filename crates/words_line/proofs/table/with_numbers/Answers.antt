use Rattle.std.proofs.Common.{ap, ◌∙◌, codes}
use Rattle.std.proofs.lemmas.Result.{IfOk-weaker}
use Rattle.clap.specs.Words.{App, with_rule}
use Rattle.words_line.specs.Rules.{number}
use Rattle.words_line.proofs.table.with_numbers.Goals as goal

pub returns : goal.returns
returns c =
    IfOk-weaker c.with_number-3.result _ _ (λ x e. e ∙ ap (λ (a : App). with_rule a (number (codes "steps") 1 134217728 (codes "4194304")))
    (c.in_ok-command-2.ensures ∙ ap (λ (a : App). with_rule a (number (codes "hold") 0 255 (codes "2"))) c.in_ok-command.ensures)) c.with_number-3.ensures
