use Rattle.std.proofs.Common.{◌≡◌, ◌-◌, ◌≤◌, true, arith, ◌∙◌, zero-add, slice_index_or, Some, ap}
use Rattle.std.proofs.lemmas.Bool.Decides.{nat_tests}
use Rattle.std.specs.Int.{byte_at, bytes_low_first}
use Rattle.tso_memory.specs.Buffer.{covers, size_of}
use Rattle.tso_memory.specs.declared.write.Width.{Width}
use Rattle.tso_memory.specs.declared.write.Width.TheVariants.{W8, W16, W32, W64}
use Rattle.tso_memory.proofs.BufferLemmas.{low_first_at}
use Rattle.tso_memory.proofs.write.PendingWrite.byte.Goals as goal

narrow : (w : Width) → size_of w ≤ 8
narrow W8 = omega arith
narrow W16 = omega arith
narrow W32 = omega arith
narrow W64 = omega arith

pub returns-then-x-self : goal.returns-then-x-self
returns-then-x-self c =
    let p = c.args.self.now in
    let x = c.args.x in
    let inside : covers p x ≡ true = grind (arith, nat_tests) in
    let byte : slice_index_or (bytes_low_first 0 8 p.value) (x - p.at) 0 ≡ byte_at (x - p.at) p.value = low_first_at 8 (x - p.at) 0 p.value (omega (arith, narrow p.width)) ∙ ap (λ j. byte_at j p.value) (zero-add (x - p.at)) in
    rw (inside, c.to_le_bytes.ensures) (ap Some byte)
