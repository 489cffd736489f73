use Rattle.std.proofs.Common.{ℕ, ◌++◌, List, ap, sym, subst, ◌∙◌}
use Rattle.x86_forms.specs.declared.instructions.Instr.{Instr}
use Rattle.basic_blocks.specs.Placed.{Placed}
use Rattle.lift_table.specs.Faithful.{lifted_all}
use Rattle.basic_blocks.specs.Bytes.{bytes_of}
use Rattle.block_lift.specs.Liftable.{ArePlaced}
use Rattle.block_lift.specs.Steps.{going_on}
use Rattle.block_lift.proofs.Blocks.{none_begins, begins_with, pushed_code, pushed_parts, placed_one}
use Rattle.block_lift.proofs.span.push_instr.Goals as goal

pub returns-in_default-clause-code : goal.returns-in_default-clause-code
returns-in_default-clause-code c = λ n. ap (λ (l : List Placed). c.args.code.now.items ++ bytes_of c.args.image.now l) (sym (none_begins c.args.image.now n c.args.at (sym c.instr_at.ensures.value ∙ c.in_default.is)))

pub returns-in_default-clause-parts : goal.returns-in_default-clause-parts
returns-in_default-clause-parts c = λ n. ap (λ (l : List Placed). c.args.parts.now.items ++ lifted_all l) (sym (none_begins c.args.image.now n c.args.at (sym c.instr_at.ensures.value ∙ c.in_default.is)))

pub returns-in_default-clause-placed : goal.returns-in_default-clause-placed
returns-in_default-clause-placed c = λ n h. subst ArePlaced (sym (none_begins c.args.image.now n c.args.at (sym c.instr_at.ensures.value ∙ c.in_default.is))) tt

pub returns-clause-code : goal.returns-clause-code
returns-clause-code c =
    let x : Instr × ℕ = (c.in-Some.instr, c.in-Some.n) in
    let e = sym c.instr_at.ensures.value ∙ c.in-Some.is in
    λ n. pushed_code c.args.image.now c.args.at x _ _ (going_on c.args.image.now n c.onward.result) e c.in_ok-push_lifted.ensures.code ∙ ap (λ (l : List Placed). c.args.code.now.items ++ bytes_of c.args.image.now l) (sym (begins_with c.args.image.now n c.args.at x c.onward.result e c.onward.ensures))

pub returns-clause-parts : goal.returns-clause-parts
returns-clause-parts c =
    let x : Instr × ℕ = (c.in-Some.instr, c.in-Some.n) in
    let e = sym c.instr_at.ensures.value ∙ c.in-Some.is in
    λ n. pushed_parts c.args.at x _ _ (going_on c.args.image.now n c.onward.result) c.in_ok-push_lifted.ensures.parts ∙ ap (λ (l : List Placed). c.args.parts.now.items ++ lifted_all l) (sym (begins_with c.args.image.now n c.args.at x c.onward.result e c.onward.ensures))

pub returns-clause-placed : goal.returns-clause-placed
returns-clause-placed c =
    let x : Instr × ℕ = (c.in-Some.instr, c.in-Some.n) in
    let e = sym c.instr_at.ensures.value ∙ c.in-Some.is in
    λ n h. subst ArePlaced (sym (begins_with c.args.image.now n c.args.at x c.onward.result e c.onward.ensures)) (placed_one c.args.at x c.in-Some.ensures.fits, h)
