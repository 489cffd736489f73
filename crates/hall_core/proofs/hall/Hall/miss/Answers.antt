use Rattle.std.proofs.Common.{arith, ap, ◌∙◌, ◌+◌, ◌≤◌, ◌^◌}
use Rattle.journal_pack.specs.declared.entry.Entry.TheVariants.{Miss}
use Rattle.hall_core.specs.Shared.{missed_in, passed}
use Rattle.hall_core.proofs.Closing.{closed, opened}
use Rattle.hall_core.proofs.EachKind.{few_steps, miss_moved, steps_fit}
use Rattle.hall_core.proofs.Spellings.{steps_spelled}
use Rattle.hall_core.proofs.hall.Hall.miss.Goals as goal

pub miss-requires : goal.miss-requires
miss-requires g c =
    let is = opened g.B.Fits.fits _ c.args.self.now c.self.inside.shared c.self.view_is c.self.invariant.0 in
    let n : c.self.inside.shared.steps ≤ 2 ^ 27 = steps_fit g.B.Fits.fits c.args.self.now c.self.inside.shared (Miss c.args.t c.args.k c.args.source c.args.target) is c.requires.comes in
    let few : c.args.k ≤ 4096 = few_steps c.args.self.now (Miss c.args.t c.args.k c.args.source c.args.target) c.requires.comes in
    omega (arith, n, few)

pub note-requires-clause-spelling : goal.note-requires-clause-spelling
note-requires-clause-spelling g c =
    let s = steps_spelled c.args.t c.args.k c.ranges.t.fits (few_steps c.args.self.now (Miss c.args.t c.args.k c.args.source c.args.target) c.requires.comes) in
    (s.0, s.1, (omega arith, c.ranges.source.fits), (omega arith, c.ranges.target.fits))

pub invariant_of-self : goal.invariant_of-self
invariant_of-self g c =
    let is = opened g.B.Fits.fits _ c.args.self.now c.self.inside.shared c.self.view_is c.self.invariant.0 in
    (closed g.B.Fits.fits c.self.inside.case c.self.inside.log c.note.new.log c.self.inside.book.blocks c.self.inside.marks.items c.note.new.marks.items c.args.self.now _ _ (Miss c.args.t c.args.k c.args.source c.args.target) c.self.view_is c.note.ensures.log c.note.ensures.marks (c.miss.ensures ∙ ap (λ b. missed_in b (passed c.self.inside.shared (c.args.k + 1)) (record { thread = c.args.t; source = c.args.source; target = c.args.target })) (c.is_strict.ensures ∙ ap (λ x. x.case.strict) c.self.view_is)) (miss_moved g.B.Fits.fits c.args.self.now c.self.inside.shared c.args.t c.args.k c.args.source c.args.target is c.requires.comes), c.self.invariant.1)
