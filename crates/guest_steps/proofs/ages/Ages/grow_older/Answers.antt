use Rattle.std.proofs.Common.{◌+◌, sym, subst, ap, ◌∙◌, arith, map}
use Rattle.guest_steps.specs.Ages.{AreAges}
use Rattle.guest_steps.proofs.Older.{all_older}
use Rattle.guest_steps.proofs.ages.Ages.grow_older.Goals as goal

pub returns : goal.returns
returns c = all_older c.self.inside.count 255 c.self.inside.turns.items (omega arith) (subst (AreAges 255) (sym c.self.view_is) c.requires) ∙ ap (map (λ a. a + 1)) c.self.view_is
