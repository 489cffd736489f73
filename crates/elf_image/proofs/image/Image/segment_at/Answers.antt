use Rattle.std.proofs.Common.{arith}
use Rattle.elf_image.proofs.Indexing.{few_segments}
use Rattle.elf_image.proofs.image.Image.segment_at.Goals as goal

pub segment_by-requires-clause-few : goal.segment_by-requires-clause-few
segment_by-requires-clause-few c =
    let image = c.self.invariant.image in
    let few = few_segments c.self.inside.segments.items image.segments in
    rw c.deref.ensures.value (omega (arith, few, image.size))

pub segment_by-requires-clause-apart : goal.segment_by-requires-clause-apart
segment_by-requires-clause-apart c = rw c.deref.ensures.value c.self.invariant.image.apart
