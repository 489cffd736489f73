use Rattle.std.proofs.Common.{sym, subst, ap, ◌∙◌}
use Rattle.ir_syntax.specs.declared.block.Block.{Block}
use Rattle.ir_syntax.specs.Typed.{IsWellTyped}
use Rattle.lift_table.specs.Block.{IsFaithful}
use Rattle.x86_forms.specs.Spelling.{are_bytes}
use Rattle.block_lift.proofs.Known.{lifted_known}
use Rattle.block_lift.proofs.Blocks.{lifted_faithful, stripped_is, unstripped_typed}
use Rattle.block_lift.proofs.block.lift_block.Goals as goal

pub returns-clause-typed : goal.returns-clause-typed
returns-clause-typed c =
    c.strip.ensures.typed (subst (λ (b : Block). IsWellTyped b) (sym c.in_ok-block.ensures.block) (unstripped_typed c.args.image.now c.args.a c.in_ok-block.ensures.placed))

pub returns-clause-faithful : goal.returns-clause-faithful
returns-clause-faithful c =
    subst (IsFaithful c.args.image.now) (sym (stripped_is c.args.image.now c.args.a c.in_ok-block.block c.strip.result c.in_ok-block.ensures.block c.strip.ensures.exact))
    (lifted_faithful c.every_instruction_lifts.ensures c.args.image.now c.args.a c.in_ok-block.ensures.placed)

pub returns-clause-of_bytes : goal.returns-clause-of_bytes
returns-clause-of_bytes c =
    lifted_known c.args.image.now c.args.a c.strip.result (stripped_is c.args.image.now c.args.a c.in_ok-block.block c.strip.result c.in_ok-block.ensures.block c.strip.ensures.exact)
    (ap (λ (b : Block). are_bytes b.code) c.strip.ensures.exact ∙ c.in_ok-block.ensures.bytes)
