use Rattle.lift_table.specs.Block.{lifted_block}
use Rattle.lifted_text.proofs.lifted_blocks_have_text.Goals as goal

pub returns : goal.returns
returns c image a at typed known = c.blocks_of_bytes_have_text.ensures (lifted_block image a) at typed known
