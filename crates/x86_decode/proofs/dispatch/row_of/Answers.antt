use Rattle.std.proofs.Common.{◌∙◌}
use Rattle.x86_decode.proofs.Agree.{chosen_is}
use Rattle.x86_decode.proofs.dispatch.row_of.Goals as goal

pub returns : goal.returns
returns c = c.choose.ensures ∙ chosen_is c.args.mark c.args.rex_b c.args.escape c.args.op c.args.reg c.requires.bit c.ranges.op.fits c.requires.field
