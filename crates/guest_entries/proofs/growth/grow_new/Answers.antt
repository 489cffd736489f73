use Rattle.std.proofs.Common.{sym, ◌∙◌}
use Rattle.guest_entries.proofs.growth.grow_new.Goals as goal

pub grow-requires-clause-comes : goal.grow-requires-clause-comes
grow-requires-clause-comes g c = c.requires.comes (sym c.find.ensures.grown ∙ sym c.is_some.ensures ∙ c.if-is_some.false)
