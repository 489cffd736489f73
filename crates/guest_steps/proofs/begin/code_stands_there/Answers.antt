use Rattle.guest_steps.proofs.Asked.{code_there}
use Rattle.guest_steps.proofs.begin.code_stands_there.Goals as goal

pub returns : goal.returns
returns c = code_there c.args.image.now c.args.a c.requires
