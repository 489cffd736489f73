use Rattle.std.proofs.Common.{rules}
use Rattle.std.proofs.lemmas.List.Sorted.{IsNonDecreasingBy-from_sort_by_key}
use Rattle.elf_image.proofs.Indexing.{starts_permuted}
use Rattle.elf_image.proofs.index.starts_of.Goals as goal

pub returns : goal.returns
returns c = record {
  rising = IsNonDecreasingBy-from_sort_by_key (λ s. s.at) _ c.sort_unstable_by_key.ensures.sorted (λ a r q k. search rules);
  each = starts_permuted _ _ c.args.segments.now c.sort_unstable_by_key.ensures.permutation c.in_ok-starts.ensures;
}
