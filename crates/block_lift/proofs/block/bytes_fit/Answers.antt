use Rattle.x86_forms.proofs.LawLemmas.{bytes_are}
use Rattle.block_lift.proofs.block.bytes_fit.Goals as goal

pub returns : goal.returns
returns c = bytes_are c.args.code.now (λ k. (c.type_inv.code k).fits)
