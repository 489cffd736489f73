-- What this turn wrote follows what was written before.
use Rattle.std.proofs.Common.{arith, ℕ, ◌∙◌}
use Rattle.std.proofs.lemmas.List.{length-drop, take_rest}
use Rattle.mx_outside.proofs.ByteLemmas.{Appends-take}
use Rattle.mx_outside.proofs.sink.write_all.Goals as goal

pub loop-at-preserved : goal.loop-at-preserved
loop-at-preserved g c = record {
  within = omega (arith, length-drop {A = ℕ}, c.in_ok-at.ensures.bound);
  written = Appends-take _ _ _ _ _ _ c.loop-at.invariant.written (rw (take_rest c.args.bytes.now c.loop-at.at) at c.in_ok-at.ensures.bytes);
  unfailed = c.in_ok-at.ensures.cause.kept ∙ c.loop-at.invariant.unfailed;
}
