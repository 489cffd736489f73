use Rattle.ir_file.proofs.Only.{all_given}
use Rattle.ir_file.proofs.reading.read_blocks.Goals as goal

pub returns-clause-only : goal.returns-clause-only
returns-clause-only g c = all_given _ c.args.name.now _ _ c.read.result c.read.ensures.blocks c.read.ensures.refusal
