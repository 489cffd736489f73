use Rattle.std.proofs.Common.{ap, ◌∙◌}
use Rattle.std.proofs.lemmas.Nat.{and_mask}
use Rattle.std.specs.Prelude.{bit_and}
use Rattle.ir_syntax.specs.Width.{bits_of}
use Rattle.ir_meaning.proofs.line.cut.Goals as goal

pub returns : goal.returns
returns c = ap (bit_and c.args.number) c.greatest.ensures ∙ and_mask c.args.number (bits_of c.args.w)
