use Rattle.std.proofs.Common.{◌∙◌}
use Rattle.block_lift.proofs.Handed.{is_there}
use Rattle.block_lift.proofs.accepting.has.Goals as goal

pub returns : goal.returns
returns c = c.contains_key.ensures ∙ is_there c.args.kept.now.entries c.args.at
