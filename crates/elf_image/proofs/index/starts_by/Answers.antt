use Rattle.std.proofs.Common.{◌≤◌, nat_le, true, false, length, arith, rules}
use Rattle.std.specs.Prelude.{slice_index_or}
use Rattle.std.proofs.lemmas.Bool.Decides.{nat_tests}
use Rattle.std.proofs.lemmas.List.Sorted.{IsPartitionedBy-leb, IsPartitionPoint-from_clause}
use Rattle.elf_image.proofs.index.starts_by.Goals as goal

pub returns : goal.returns
returns c =
    let starts = c.args.starts.now in
    let point = IsPartitionPoint-from_clause (λ s. nat_le s.at c.args.a) starts c.partition_point.result c.partition_point.ensures.partitioned (IsPartitionedBy-leb (λ s. s.at) starts c.args.a c.requires) (λ a r q k. search rules) in
    record {
      bound = c.partition_point.ensures.bound;
      before = λ k d lt. let is = point.0 k d (omega arith) lt in grind (arith, nat_tests, is);
      after = λ k d from lt. let is = point.1 k d from lt in grind (arith, nat_tests, is);
    }
