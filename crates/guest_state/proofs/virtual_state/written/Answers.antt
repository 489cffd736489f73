use Rattle.std.proofs.Common.{◌<◌, ◌^◌, subst, lit≤}
use Rattle.guest_state.specs.declared.width.Width.{Width}
use Rattle.guest_state.specs.Register.{written}
use Rattle.guest_state.specs.Width.{bits}
use Rattle.guest_state.proofs.RegisterLemmas.{kept_above}
use Rattle.guest_state.proofs.virtual_state.written.Goals as goal

pub returns-in-W8 : goal.returns-in-W8
unfolding bits written
returns-in-W8 c =
    let fits = subst (λ (w : Width). c.args.v < 2 ^ bits w) c.in-W8.is c.requires in
    rw c.in-W8.is (kept_above 8 c.args.before c.args.v (lit≤ tt) c.ranges.before.fits fits)

pub returns-in-W16 : goal.returns-in-W16
unfolding bits written
returns-in-W16 c =
    let fits = subst (λ (w : Width). c.args.v < 2 ^ bits w) c.in-W16.is c.requires in
    rw c.in-W16.is (kept_above 16 c.args.before c.args.v (lit≤ tt) c.ranges.before.fits fits)
