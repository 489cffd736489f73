use Rattle.std.proofs.Common.{Err, ap, ◌∙◌}
use Rattle.guest_entries.proofs.Growing.{not_there}
use Rattle.guest_entries.proofs.growth.grow.Goals as goal

pub unreachable-requires : goal.unreachable-requires
unreachable-requires c = not_there c.args.hall.now c.args.t c.args.a c.args.block _ c.grow.result c.requires.comes c.facts.ensures.grown (c.in-Err-Grown.is ∙ ap (λ x. Err x) c.in-Err-Grown.field-0-is) c.grow.ensures.outcome
