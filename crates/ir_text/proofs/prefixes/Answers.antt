use Rattle.ir_text.proofs.PlaceLemmas.{prefix_place}
use Rattle.ir_text.proofs.prefixes.Goals as goal

pub returns : goal.returns
returns c = prefix_place
