use Rattle.std.proofs.Common.{◌∷◌, [], ◌++◌, ap, sym, ◌∙◌, get_or}
use Rattle.std.proofs.lemmas.List.{take_more}
use Rattle.turn_rows.proofs.tests.blocks.blocks_at.Goals as goal

pub loop-a-preserved : goal.loop-a-preserved
loop-a-preserved c = record {
  places = c.in_ok-put.ensures.places ∙ ap (λ xs. xs ++ get_or c.args.places.now c.loop-a.a-index 0 ∷ []) c.loop-a.invariant.places ∙ sym (take_more c.args.places.now c.loop-a.a-index 0 c.loop-a-test.true);
  fits = c.in_ok-put.ensures.fits c.loop-a.invariant.fits;
}
