use Rattle.std.proofs.Common.{rules}
use Rattle.std.proofs.lemmas.List.Sorted.{IsNonDecreasingBy-from_sort_by_key}
use Rattle.elf_image.proofs.Merging.{permuted}
use Rattle.elf_image.proofs.entries.in_order.Goals as goal

pub merged-requires : goal.merged-requires
merged-requires c = rw c.deref.ensures.value (IsNonDecreasingBy-from_sort_by_key (λ p. p.at) _ c.sort_unstable_by_key.ensures.sorted (λ a r q k. search rules))

pub returns : goal.returns
returns c = permuted c.args.linking (λ v. v.items) c.args.places.items c.deref.result.now (rw c.deref.ensures.value c.sort_unstable_by_key.ensures.permutation) c.merged.result c.merged.ensures
