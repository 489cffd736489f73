use Rattle.std.proofs.Common.{[], ◌∷◌, Err, ap, subst, ◌∙◌}
use Rattle.elf_image.specs.Layout.{ImageData}
use Rattle.basic_blocks.specs.Reach.{IsReachAbove}
use Rattle.run_start.proofs.places.reached.Goals as goal

pub returns-in-Err-TooMany-clause-refusal : goal.returns-in-Err-TooMany-clause-refusal
returns-in-Err-TooMany-clause-refusal c = subst (λ a. IsReachAbove c.args.image.now (a ∷ []) 65536) (ap (λ (i : ImageData). i.entry) c.image.view_is) (c.reach.ensures.too_many (c.in-Err-TooMany.is ∙ ap Err c.in-Err-TooMany.field-0-is))
