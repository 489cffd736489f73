use Rattle.std.proofs.Common.{refl, ap, ◌∙◌, ◌<◌, length, rules, get_or-set_same}
use Rattle.std.specs.Prelude.{slice_index}
use Rattle.guest_state.specs.Register.{low_of}
use Rattle.guest_state.specs.Virtual.{get_of, put_of}
use Rattle.guest_state.proofs.RegisterLemmas.{low-written}
use Rattle.guest_state.proofs.virtual_state.Virtual.put.Goals as goal

pub returns-clause-written : goal.returns-clause-written
unfolding put_of
returns-clause-written c = rw c.written.ensures refl

pub returns-clause-reads_back : goal.returns-clause-reads_back
unfolding get_of
returns-clause-reads_back c =
    let within : c.args.r < length c.args.self.now.regs = search rules in
    ap (λ n. low_of c.args.w n) (get_or-set_same c.args.self.now.regs c.args.r c.written.result 0 within) ∙ ap (λ n. low_of c.args.w n) c.written.ensures ∙ low-written c.args.w (slice_index c.args.self.now.regs c.args.r) c.args.v c.requires.fits
