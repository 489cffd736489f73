use Rattle.ir_text.proofs.PlaceLemmas.{one_text_of}
use Rattle.ir_text.proofs.one_text.Goals as goal

pub returns : goal.returns
returns c = one_text_of
