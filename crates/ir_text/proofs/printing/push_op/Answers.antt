use Rattle.std.proofs.lemmas.Result.{IfOk-equal}
use Rattle.ir_text.proofs.PrintLemmas.{op_behind}
use Rattle.ir_text.proofs.printing.push_op.Goals as goal

pub returns : goal.returns
returns c = IfOk-equal c.put_op.result _ _ _ c.put_op.ensures (op_behind _ _)
