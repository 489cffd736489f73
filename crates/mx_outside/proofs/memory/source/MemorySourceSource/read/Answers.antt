-- The bytes that were copied are the first of those that are left, and none are copied into room only at the end.
use Rattle.std.proofs.Common.{arith, ap, ◌+◌, length, drop}
use Rattle.std.proofs.lemmas.List.{drop_all, length-drop, length-take, length-append, take_rest}
use Rattle.mx_outside.specs.Memory.{SourceData}
use Rattle.mx_outside.proofs.ByteLemmas.{piece-taken}
use Rattle.mx_outside.proofs.memory.source.MemorySourceSource.read.Goals as goal

pub returns-clause-bytes : goal.returns-clause-bytes
returns-clause-bytes c =
    let here = length-drop c.self.inside.at c.self.inside.bytes.items in
    let same = ap length (take_rest c.self.inside.bytes.items c.self.inside.at) in
    let copied = c.copy_from_slice.ensures in (
      piece-taken c.args.self.now.left c.self.inside.bytes.items c.copy_from_slice.new.self _ c.self.inside.at c.min-count.result
          (ap (λ (s : SourceData). s.left) c.self.view_is) (rw c.deref.ensures.value at copied.after) (omega (arith, here, same)),
      λ none room. drop_all (c.self.inside.at + c.min-count.result) c.self.inside.bytes.items
          (omega (arith, here, same, length-append c.copy_from_slice.new.self (drop c.min-count.result c.args.buf.now), length-drop c.min-count.result c.args.buf.now, copied.len, length-take c.min-count.result c.args.buf.now)),
    )
