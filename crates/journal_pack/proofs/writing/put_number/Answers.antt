use Rattle.std.proofs.Common.{◌/◌, ◌+◌, ◌%◌, ◌∷◌, [], ◌++◌, sym, ap, ◌∙◌, List, ℕ, arith, length, length-append}
use Rattle.journal_pack.specs.Leb128.{leb128}
use Rattle.journal_pack.proofs.Numbers.{next_byte}
use Rattle.journal_pack.proofs.writing.put_number.Goals as goal

pub loop-left-preserved : goal.loop-left-preserved
loop-left-preserved c =
    let left = c.loop-left.left in
    let next = next_byte left c.loop-left.bytes.items c.loop-left-test.true (omega arith) in
    let byte = 128 + left % 128 in
    record {
      parts = ap (λ (t : List ℕ). t ++ leb128 (left / 128)) c.put_byte.ensures.items ∙ sym next.0 ∙ c.loop-left.invariant.parts;
      room = omega (arith, next.1, ap length c.put_byte.ensures.items, c.put_byte.new.bytes.ok.0, c.loop-left.bytes.ok.0, length-append c.loop-left.bytes.items (byte ∷ []));
      capacity = omega arith;
    }
