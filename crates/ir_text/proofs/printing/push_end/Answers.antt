use Rattle.std.proofs.lemmas.Result.{IfOk-equal}
use Rattle.ir_text.proofs.PrintLemmas.{end_behind}
use Rattle.ir_text.proofs.printing.push_end.Goals as goal

pub returns : goal.returns
returns c = IfOk-equal c.put_end.result _ _ _ c.put_end.ensures (end_behind _ _)
