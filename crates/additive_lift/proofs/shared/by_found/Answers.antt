use Rattle.std.proofs.Common.{subst, [], ◌∷◌, IfOk, IfNone}
use Rattle.elf_image.specs.Layout.{ImageData}
use Rattle.basic_blocks.specs.Reach.{IsReachAbove}
use Rattle.additive_lift.proofs.shared.by_found.Goals as goal

pub returns-clause-too_many : goal.returns-clause-too_many
returns-clause-too_many c = subst (λ (i : ImageData). IfOk c.onward-places.result (λ r. IfNone r (IsReachAbove i (c.args.root ∷ []) 65536))) c.of-found.ensures c.onward-places.ensures.too_many
