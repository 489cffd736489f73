use Rattle.std.proofs.Common.{rules, subst, sym}
use Rattle.atomic_table.specs.Table.{Allows}
use Rattle.additive_lift.specs.Kept.{AreKept}
use Rattle.additive_lift.specs.Lent.{IsGuarded}
use Rattle.additive_lift.proofs.Lending.{gives_back}
use Rattle.additive_lift.proofs.lent.Lent.give.Goals as goal

pub store-requires : goal.store-requires
store-requires c =
    let right = AreKept c.args.self.now.table.shared.key.value in
    let seat = c.exchange.new.seat in (
      search rules,
      search rules,
      subst (λ n. Allows (IsGuarded right) n seat.id seat.me 0 (λ _. 0) (λ _ _. Unit {0})) (sym c.args.self.now.sized.1) (gives_back right _ _ _ _ _ c.exchange.ensures.3 c.requires.right),
    )
