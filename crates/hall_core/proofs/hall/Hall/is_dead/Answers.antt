use Rattle.std.proofs.Common.{ap, ◌∙◌}
use Rattle.hall_core.specs.Hall.{HallData}
use Rattle.hall_core.specs.Shared.{are_stuck}
use Rattle.hall_core.proofs.Closing.{opened}
use Rattle.hall_core.proofs.Dead.{dead_here}
use Rattle.hall_core.proofs.hall.Hall.is_dead.Goals as goal

pub returns : goal.returns
returns g c =
    let is = opened g.B.Fits.fits _ c.args.self.now c.self.inside.shared c.self.view_is c.self.invariant.0 in
    c.are_stuck.ensures ∙ ap (are_stuck c.self.inside.shared) (c.deref.ensures.value ∙ ap (λ (x : HallData _). x.marks) c.self.view_is) ∙ dead_here g.B.Fits.fits c.args.self.now c.self.inside.shared is
