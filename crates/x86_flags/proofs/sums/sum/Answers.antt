use Rattle.std.specs.Int.{from_bool}
use Rattle.x86_flags.specs.Width.{bits}
use Rattle.x86_flags.proofs.NumberLemmas.{bits-pos, from_bool_le}
use Rattle.x86_flags.proofs.SumLemmas.{sum_overflow}
use Rattle.x86_flags.proofs.sums.sum.Goals as goal

pub returns-clause-overflow : goal.returns-clause-overflow
returns-clause-overflow c =
    rw (c.is_negative.ensures, c.is_negative-2.ensures, c.is_negative-3.ensures, c.is_negative-4.ensures, c.low-value.ensures)
    (sum_overflow (bits c.args.w) c.args.a c.args.b (from_bool c.args.carry) (bits-pos c.args.w) c.requires.first c.requires.second (from_bool_le c.args.carry))
