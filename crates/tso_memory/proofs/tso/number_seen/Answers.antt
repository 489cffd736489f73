use Rattle.std.proofs.Common.{ℕ, ◌<◌, get_or, sym, ap, subst, ◌∙◌, arith, zero-add}
use Rattle.tso_memory.specs.Buffer.{seen, size_of}
use Rattle.tso_memory.specs.Memory.{byte_of}
use Rattle.tso_memory.proofs.MemoryLemmas.{number_from-little}
use Rattle.tso_memory.proofs.tso.number_seen.Goals as goal

pub returns-clause-number : goal.returns-clause-number
returns-clause-number c =
    let n = size_of c.args.width in
    let byte : ℕ → ℕ = λ x. seen c.args.buffer.now x (byte_of c.args.space.now x) in
    c.word.ensures.number
    ∙ sym (number_from-little n 0 byte c.args.a c.loop-k.bytes (λ j within. sym (c.loop-k.invariant.seen j (let lt : j < c.size-size.result = subst (λ (z : ℕ). j < z) (sym c.size-size.ensures) within in omega (arith, lt))) ∙ ap (λ z. get_or c.loop-k.bytes z 0) (sym (zero-add j))))
