use Rattle.std.proofs.Common.{ap, ◌∙◌}
use Rattle.std.proofs.lemmas.Nat.{and_mask}
use Rattle.std.specs.Prelude.{bit_and, slice_index}
use Rattle.guest_state.specs.Register.{low_of}
use Rattle.guest_state.specs.Virtual.{get_of}
use Rattle.guest_state.specs.Width.{bits}
use Rattle.guest_state.proofs.virtual_state.Virtual.get.Goals as goal

pub returns-clause-value : goal.returns-clause-value
unfolding get_of low_of
returns-clause-value c =
    let register = slice_index c.args.self.now.regs c.args.r in
    ap (bit_and register) c.mask.ensures ∙ and_mask register (bits c.args.w)
