use Rattle.std.proofs.Common.{◌≡◌}
use Rattle.guest_steps.specs.declared.own.Position.TheVariants as at
use Rattle.guest_steps.specs.Kept.{IsKept}
use Rattle.std.proofs.Common.{sym, subst, ◌∙◌}
use Rattle.guest_steps.proofs.stretch.leave.Goals as goal

pub returns-in-Inside-clause-table : goal.returns-in-Inside-clause-table
returns-in-Inside-clause-table c = λ kept part image grown place h k i x e.
    let z : at.Inside c.in-Inside.kept c.in-Inside.part ≡ at.Inside kept part = c.in-Inside.ensures.value ∙ place in
    let q : c.in-Inside.kept ≡ kept = cc in
    c.put.ensures image grown h (subst (IsKept image grown) (sym q) k) i x e
