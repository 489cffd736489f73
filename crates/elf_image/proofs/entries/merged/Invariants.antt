use Rattle.std.proofs.Common.{◌≡◌, take, false}
use Rattle.std.specs.Prelude.{All}
use Rattle.elf_image.specs.Loading.{AreInOrder, is_kept}
use Rattle.elf_image.proofs.entries.merged.Given as goal

abbrev pub invariant-loop-p : goal.invariant-loop-p
invariant-loop-p l = record {
  order : AreInOrder (take l.p-index l.sorted) l.entries.items;
  free : All (λ p. is_kept l.linking p.at ≡ false) (take l.p-index l.sorted);
}
