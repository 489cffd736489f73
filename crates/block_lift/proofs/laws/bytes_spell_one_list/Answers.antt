use Rattle.block_lift.proofs.Known.{spell_one_list}
use Rattle.block_lift.proofs.laws.bytes_spell_one_list.Goals as goal

pub returns : goal.returns
returns c = spell_one_list
