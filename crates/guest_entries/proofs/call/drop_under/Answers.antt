use Rattle.std.proofs.Common.{◌-◌, arith, ap, sym, take, ◌∙◌}
use Rattle.guest_entries.proofs.Calling.{dropped, stayed}
use Rattle.guest_entries.proofs.call.drop_under.Goals as goal

pub returns-then-len-gt1 : goal.returns-then-len-gt1
returns-then-len-gt1 c = λ kept x e. dropped c.len.result c.args.frames.now.items c.pop-held.new.self.items kept x (c.len.ensures ∙ c.args.frames.now.ok.0) c.if-len-gt1.true e (c.pop-held.ensures.rest ∙ ap (λ n. take (n - 1) c.args.frames.now.items) (sym c.len.ensures))

pub returns-else-len-gt1 : goal.returns-else-len-gt1
returns-else-len-gt1 c = λ kept x e. stayed c.len.result c.args.frames.now.items kept x (c.len.ensures ∙ c.args.frames.now.ok.0) (omega (arith, c.if-len-gt1.false)) e
