use Rattle.journal_pack.specs.declared.entry.Entry.TheVariants.{Full}
use Rattle.hall_core.proofs.Closing.{closed, opened}
use Rattle.hall_core.proofs.EachKind.{full_moved}
use Rattle.hall_core.proofs.hall.Hall.full.Goals as goal

pub invariant_of-self : goal.invariant_of-self
invariant_of-self g c =
    let is = opened g.B.Fits.fits _ c.args.self.now c.self.inside.shared c.self.view_is c.self.invariant.0 in
    (closed g.B.Fits.fits c.self.inside.case c.self.inside.log c.note.new.log c.self.inside.book.blocks c.self.inside.marks.items c.note.new.marks.items c.args.self.now _ _ (Full c.args.t) c.self.view_is c.note.ensures.log c.note.ensures.marks (c.end.ensures) (full_moved g.B.Fits.fits c.args.self.now c.self.inside.shared c.args.t c.args.place is c.requires.comes c.requires.place), c.self.invariant.1)
