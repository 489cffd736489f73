use Rattle.additive_lift.proofs.Searches.{roots_begin}
use Rattle.additive_lift.proofs.search.begin.Goals as goal

pub returns : goal.returns
returns c = roots_begin c.args.image.now c.args.roots.now c.args.known.now _ _ _ _ _ _ c.new.ensures.empty c.new-2.ensures.items c.in_ok-meet_roots.ensures c.in_ok-meet_roots-2.ensures
