use Rattle.std.proofs.Common.{◌≡◌, ap, drop, suc, ◌∷◌, ◌∙◌}
use Rattle.guest_parts.proofs.Runs.{next_parts}
use Rattle.guest_steps.proofs.Table.{part_of}
use Rattle.guest_steps.proofs.kept.Kept.answer.Goals as goal

there : (c : goal.After-answer-arg-1) → drop c.args.part c.args.self.now.block.parts ≡ c.index-as_slice-part.result ∷ drop (suc c.args.part) c.args.self.now.block.parts
there c = next_parts c.args.self.now.block.parts c.args.part c.index-as_slice-part.result c.requires.inside (part_of c.as_slice.result.now c.args.self.now.block.parts c.args.part c.index-as_slice-part.result (c.as_slice.ensures ∙ ap (λ b. b.parts) c.deref.ensures ∙ ap (λ x. x.block.parts) c.self.view_is) c.index-as_slice-part.is)

pub answer-requires : goal.answer-requires
answer-requires c = c.requires.takes c.index-as_slice-part.result (drop (suc c.args.part) c.args.self.now.block.parts) (there c)
