use Rattle.std.proofs.Common.{subst, [], ◌∷◌, IfOk, IfNone}
use Rattle.elf_image.specs.Layout.{ImageData}
use Rattle.basic_blocks.specs.Reach.{IsReachAbove}
use Rattle.additive_lift.proofs.shared.Reaches.onward.Goals as goal

pub returns-in_default-clause-too_many : goal.returns-in_default-clause-too_many
returns-in_default-clause-too_many c = subst (λ (i : ImageData). IfOk c.anew.result (λ r. IfNone r (IsReachAbove i (c.args.root ∷ []) 65536))) c.self.view_is c.anew.ensures.too_many

pub returns-clause-too_many : goal.returns-clause-too_many
returns-clause-too_many c = subst (λ (i : ImageData). IfOk c.by_found-places.result.0 (λ r. IfNone r (IsReachAbove i (c.args.root ∷ []) 65536))) c.self.view_is c.by_found-places.ensures.too_many
