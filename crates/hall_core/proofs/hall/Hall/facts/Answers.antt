use Rattle.machine_model.proofs.Costs.{bounded}
use Rattle.machine_model.proofs.Gates.{leads_play}
use Rattle.machine_model.proofs.Own.{whole_from}
use Rattle.hall_core.specs.Hall.{both}
use Rattle.hall_core.proofs.Closing.{opened}
use Rattle.hall_core.proofs.hall.Hall.facts.Goals as goal

pub returns-clause-played : goal.returns-clause-played
returns-clause-played g c =
    let is = opened g.B.Fits.fits _ c.args.self.now c.self.inside.shared c.self.view_is c.self.invariant.0 in
    leads_play c.args.self.now.case (both c.args.self.now) c.args.self.now.journal is.leads

pub returns-clause-sized : goal.returns-clause-sized
returns-clause-sized g c =
    let is = opened g.B.Fits.fits _ c.args.self.now c.self.inside.shared c.self.view_is c.self.invariant.0 in
    (whole_from c.args.self.now.case (both c.args.self.now) c.args.self.now.journal is.leads).machine

pub returns-clause-short : goal.returns-clause-short
returns-clause-short g c =
    let is = opened g.B.Fits.fits _ c.args.self.now c.self.inside.shared c.self.view_is c.self.invariant.0 in
    bounded c.args.self.now.case c.args.self.now.journal (both c.args.self.now, is.leads)

pub returns-clause-marked : goal.returns-clause-marked
returns-clause-marked g c = (opened g.B.Fits.fits _ c.args.self.now c.self.inside.shared c.self.view_is c.self.invariant.0).marked
