use Rattle.std.proofs.Common.{ap, sym, subst, ◌∙◌, ◌<◌, ◌≡◌, None}
use Rattle.std.specs.FinMap as map
use Rattle.journal_pack.specs.declared.entry.Entry.TheVariants.{Grow}
use Rattle.hall_core.specs.Hall.{HallData}
use Rattle.hall_core.proofs.Closing.{closed_grown, opened}
use Rattle.hall_core.proofs.EachKind.{grow_moved, none_found, room_for}
use Rattle.hall_core.proofs.hall.Hall.grow.Goals as goal

pub put-requires-clause-few : goal.put-requires-clause-few
put-requires-clause-few g c =
    let is = opened g.B.Fits.fits _ c.args.self.now c.self.inside.shared c.self.view_is c.self.invariant.0 in
    let new : map.get c.args.self.now.blocks c.args.a ≡ None = ap (λ (x : HallData _). map.get x.blocks c.args.a) (sym c.self.view_is) ∙ none_found _ c.find.result _ (sym c.is_some.ensures ∙ c.if-is_some.false) c.find.ensures in
    subst (λ (x : HallData _). map.len x.blocks < 65536) (sym c.self.view_is) (room_for g.B.Fits.fits c.args.self.now c.self.inside.shared c.args.t c.args.a is (c.requires.comes new))

pub invariant_of-self-2 : goal.invariant_of-self-2
invariant_of-self-2 g c =
    let is = opened g.B.Fits.fits _ c.args.self.now c.self.inside.shared c.self.view_is c.self.invariant.0 in
    let new : map.get c.args.self.now.blocks c.args.a ≡ None = ap (λ (x : HallData _). map.get x.blocks c.args.a) (sym c.self.view_is) ∙ none_found _ c.find.result _ (sym c.is_some.ensures ∙ c.if-is_some.false) c.find.ensures in
    (closed_grown g.B.Fits.fits c.self.inside.case c.self.inside.log c.note.new.log c.self.inside.book.blocks c.put.new.book.blocks c.self.inside.marks.items c.note.new.marks.items c.args.self.now c.self.inside.shared (Grow c.args.t c.args.a) c.args.a c.args.b.value c.self.view_is c.note.ensures.log c.note.ensures.marks c.in_default.ensures.ok (grow_moved g.B.Fits.fits c.args.self.now c.self.inside.shared c.args.t c.args.a c.args.b.value is (c.requires.comes new) new c.requires.fits), c.self.invariant.1)
