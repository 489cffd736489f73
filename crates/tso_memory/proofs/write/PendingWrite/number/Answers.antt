use Rattle.std.proofs.Common.{sym, ◌∙◌, arith}
use Rattle.tso_memory.specs.Buffer.{size_of}
use Rattle.tso_memory.proofs.NumberLemmas.{width_narrow, write_bytes}
use Rattle.tso_memory.proofs.write.PendingWrite.number.Goals as goal

pub returns-clause-number : goal.returns-clause-number
returns-clause-number c =
    let p = c.args.self.now in
    c.word_from.ensures.number ∙ sym (write_bytes c.to_le_bytes.result p.at c.args.a p.value (size_of c.args.width) c.to_le_bytes.ensures (omega arith) (omega (arith, width_narrow p.width)))
