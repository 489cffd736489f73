use Rattle.std.proofs.Common.{◌∙◌}
use Rattle.endings.proofs.Telling.{told_by}
use Rattle.endings.proofs.line.tell.Goals as goal

pub returns-clause-line : goal.returns-clause-line
returns-clause-line g c =
    rw c.is_ok.ensures.value
    (told_by c.write_all-wrote.result _ _ _ _ c.as_bytes.result.now _ c.write_all-wrote.ensures.whole c.write_all-wrote.ensures.prefix c.write_all-wrote.ensures.cause (c.as_bytes.ensures ∙ c.line_or_no_memory-ending.ensures.line))
