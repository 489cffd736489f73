use Rattle.std.proofs.Common.{◌-◌, ◌<◌, ◌≤◌, ℕ, List, drop, length}
use Rattle.elf_image.specs.Layout.{ImageData}
use Rattle.machine_model.specs.Gated.{Stand}
use Rattle.guest_parts.specs.Standing.{IsTyped, StandsInside}
use Rattle.guest_parts.specs.Running.{Rises, RunsIn}
use Rattle.guest_parts.proofs.block.run_parts.Given as goal

abbrev pub invariant-loop-k : goal.invariant-loop-k
invariant-loop-k g l = record {
  inside : l.part < length l.block.parts;
  typed : IsTyped (drop l.part l.block.parts) l.state;
  few : l.k ≤ l.most;
  later : l.fn.k ≤ l.k;
  count : Rises (g.N.Engine.count l.fn.engine) (g.N.Engine.count l.engine) (l.k - l.fn.k);
  runs : (image : ImageData) (grown : List ℕ) (last : ℕ) (d : Stand) → StandsInside image grown l.block l.fn.part last l.fn.state d → RunsIn image grown l.block l.part (l.k - l.fn.k) last l.state d;
}

abbrev pub decreases-loop-k : goal.decreases-loop-k
decreases-loop-k g l = l.most - l.k
