use Rattle.std.proofs.Common.{refl, ap, ◌∙◌, ◌<◌, length, rules, get_or-set_same}
use Rattle.std.specs.Prelude.{slice_index}
use Rattle.guest_state.specs.Register.{high_of}
use Rattle.guest_state.specs.Virtual.{get_high_of, put_high_of}
use Rattle.guest_state.proofs.RegisterLemmas.{high-written_high}
use Rattle.guest_state.proofs.virtual_state.Virtual.put_high.Goals as goal

pub returns-clause-written : goal.returns-clause-written
unfolding put_high_of
returns-clause-written c = rw c.written_high.ensures refl

pub returns-clause-reads_back : goal.returns-clause-reads_back
unfolding get_high_of
returns-clause-reads_back c =
    let within : c.args.r < length c.args.self.now.regs = search rules in
    ap (λ n. high_of n) (get_or-set_same c.args.self.now.regs c.args.r c.written_high.result 0 within) ∙ ap (λ n. high_of n) c.written_high.ensures ∙ high-written_high (slice_index c.args.self.now.regs c.args.r) c.args.v c.requires.fits
