use Rattle.ir_syntax.proofs.Decided.{block_same}
use Rattle.ir_syntax.proofs.block.Block.is_same.Goals as goal

pub returns : goal.returns
returns c = rw (c.eq.ensures) (block_same c.args.self.now c.args.other.now)
