use Rattle.std.proofs.Common.{ap, ◌∙◌}
use Rattle.std.proofs.lemmas.Nat.{and_mask}
use Rattle.std.specs.Prelude.{bit_and}
use Rattle.x86_flags.specs.Width.{bits}
use Rattle.x86_flags.proofs.width.Width.low.Goals as goal

pub returns : goal.returns
returns c = ap (bit_and c.args.number) c.mask.ensures ∙ and_mask c.args.number (bits c.args.self)
