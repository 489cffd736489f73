use Rattle.std.proofs.Common.{arith, ap, ◌∙◌, ℕ, ◌≤◌, ◌^◌}
use Rattle.journal_pack.specs.declared.entry.Entry.TheVariants.{Over}
use Rattle.machine_model.specs.declared.ending.RunEnd.TheVariants as end
use Rattle.hall_core.specs.Shared.{SharedState, ended_by, passed}
use Rattle.hall_core.proofs.Closing.{closed, opened}
use Rattle.hall_core.proofs.EachKind.{few_steps, over_moved, steps_fit}
use Rattle.hall_core.proofs.Spellings.{steps_spelled}
use Rattle.hall_core.proofs.hall.Hall.over.Goals as goal

pub pass-requires : goal.pass-requires
pass-requires g c =
    let is = opened g.B.Fits.fits _ c.args.self.now c.self.inside.shared c.self.view_is c.self.invariant.0 in
    let n : c.self.inside.shared.steps ≤ 2 ^ 27 = steps_fit g.B.Fits.fits c.args.self.now c.self.inside.shared (Over c.args.t c.args.k) is c.requires.comes in
    let few : c.args.k ≤ 4096 = few_steps c.args.self.now (Over c.args.t c.args.k) c.requires.comes in
    omega (arith, n, few, c.from.ensures)

pub note-requires-clause-spelling : goal.note-requires-clause-spelling
note-requires-clause-spelling g c = steps_spelled c.args.t c.args.k c.ranges.t.fits (few_steps c.args.self.now (Over c.args.t c.args.k) c.requires.comes)

pub invariant_of-self : goal.invariant_of-self
invariant_of-self g c =
    let is = opened g.B.Fits.fits _ c.args.self.now c.self.inside.shared c.self.view_is c.self.invariant.0 in
    (closed g.B.Fits.fits c.self.inside.case c.self.inside.log c.note.new.log c.self.inside.book.blocks c.self.inside.marks.items c.note.new.marks.items c.args.self.now _ _ (Over c.args.t c.args.k) c.self.view_is c.note.ensures.log c.note.ensures.marks (c.end.ensures ∙ ap (λ (x : SharedState). ended_by x end.Steps) (c.pass.ensures ∙ ap (λ (n : ℕ). passed c.self.inside.shared n) c.from.ensures)) (over_moved g.B.Fits.fits c.args.self.now c.self.inside.shared c.args.t c.args.k is c.requires.comes), c.self.invariant.1)
