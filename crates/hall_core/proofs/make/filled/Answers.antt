use Rattle.std.proofs.Common.{sym, subst, [], ◌∷◌}
use Rattle.std.proofs.lemmas.List.{append-nil}
use Rattle.hall_core.specs.Hall.{AreFilled}
use Rattle.hall_core.proofs.Filled.{filled_more, filled_none, new_place, popped}
use Rattle.hall_core.proofs.make.filled.Goals as goal

pub loop-placed-init : goal.loop-placed-init
loop-placed-init g c = ([], append-nil c.args.blocks.items, subst (AreFilled []) (sym c.in_ok-book.ensures) filled_none)

pub put-requires-clause-new : goal.put-requires-clause-new
put-requires-clause-new g c =
    let inv = c.loop-placed.invariant in
    new_place c.args.blocks.items c.pop.new.self.items c.in-Some.placed inv.0 c.loop-placed.book.blocks c.requires.apart (popped c.pop.new.self.items c.loop-placed.blocks.items inv.0 c.args.blocks.items c.in-Some.placed c.in-Some.ensures.items inv.1) inv.2

pub loop-placed-preserved : goal.loop-placed-preserved
loop-placed-preserved g c =
    let inv = c.loop-placed.invariant in
    let whole = popped c.pop.new.self.items c.loop-placed.blocks.items inv.0 c.args.blocks.items c.in-Some.placed c.in-Some.ensures.items inv.1 in
    let new = new_place c.args.blocks.items c.pop.new.self.items c.in-Some.placed inv.0 c.loop-placed.book.blocks c.requires.apart whole inv.2 in
    (c.in-Some.placed ∷ inv.0, whole, subst (AreFilled (c.in-Some.placed ∷ inv.0)) (sym c.in_ok-put.ensures.ok) (filled_more c.in-Some.placed inv.0 c.loop-placed.book.blocks inv.2 new))
