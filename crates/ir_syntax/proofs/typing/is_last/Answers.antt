use Rattle.std.proofs.Common.{sym}
use Rattle.ir_syntax.proofs.PartLemmas.{is_empty-drop}
use Rattle.ir_syntax.proofs.typing.is_last.Goals as goal

pub returns : goal.returns
returns c = sym (is_empty-drop c.args.parts.now c.args.i c.requires)
