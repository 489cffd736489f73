use Rattle.std.proofs.Common.{sym, subst, ℕ}
use Rattle.std.proofs.Common.{Some}
use Rattle.hall_core.specs.Hall.{HallData, IsHall, with_mark}
use Rattle.hall_core.proofs.Asking.{marked}
use Rattle.hall_core.proofs.Closing.{opened}
use Rattle.hall_core.proofs.hall.Hall.mark.Goals as goal

pub invariant_of-self : goal.invariant_of-self
invariant_of-self g c =
    let is = opened g.B.Fits.fits _ c.args.self.now c.self.inside.shared c.self.view_is c.self.invariant.0 in
    let here = subst (λ (x : ℕ). IsHall g.B.Fits.fits (with_mark c.args.self.now x (Some c.args.ask.now)) c.self.inside.shared) (sym c.slot_of.ensures.slot) (marked g.B.Fits.fits c.args.self.now c.self.inside.shared _ c.args.ask.now is c.requires) in
    (subst (λ (x : HallData _). IsHall g.B.Fits.fits (with_mark x c.slot_of.result (Some c.args.ask.now)) c.self.inside.shared) (sym c.self.view_is) here, c.self.invariant.1)
