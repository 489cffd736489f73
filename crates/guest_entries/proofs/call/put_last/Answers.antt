use Rattle.std.proofs.Common.{◌∙◌}
use Rattle.guest_entries.proofs.Calling.{set_last}
use Rattle.guest_entries.proofs.call.put_last.Goals as goal

pub returns-then-count-gt0 : goal.returns-then-count-gt0
returns-then-count-gt0 c = λ kept x e. set_last c.len-count.result c.args.frames.now.items kept x c.args.frame (c.len-count.ensures ∙ c.args.frames.now.ok.0) e
