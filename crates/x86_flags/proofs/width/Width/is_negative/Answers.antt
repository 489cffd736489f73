use Rattle.x86_flags.specs.Width.{bits}
use Rattle.x86_flags.proofs.NumberLemmas.{above_half, bits-pos}
use Rattle.x86_flags.proofs.width.Width.is_negative.Goals as goal

pub returns : goal.returns
returns c = above_half (bits c.args.self) c.args.number c.mask.result (bits-pos c.args.self) c.requires c.mask.ensures
