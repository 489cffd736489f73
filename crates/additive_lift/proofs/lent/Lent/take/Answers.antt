use Rattle.std.proofs.Common.{rules, Some, ap, sym, ◌∙◌, ◌∷◌}
use Rattle.atomic_table.specs.Table.{rest}
use Rattle.additive_lift.specs.Kept.{AreKept}
use Rattle.additive_lift.proofs.Lending.{takes_once}
use Rattle.additive_lift.proofs.lent.Lent.take.Goals as goal

pub swap_new_seat-word-requires : goal.swap_new_seat-word-requires
swap_new_seat-word-requires c = (search rules, takes_once (AreKept c.args.self.now.table.shared.key.value) _ c.args.self.now.table.shared.key)

pub exchange-taken-requires : goal.exchange-taken-requires
exchange-taken-requires c =
    let t = c.swap_new_seat-word.ensures.1 c.if-word-ne0.false in
    (c.swap_new_seat-word.ensures.0, (Some t.0, t.1 ∙ ap (λ l. (0, Some t.0) ∷ rest l) (sym t.1)))
