use Rattle.x86_flags.specs.Width.{bits}
use Rattle.x86_flags.proofs.NumberLemmas.{bits_le}
use Rattle.x86_flags.proofs.QuotientLemmas.{joined_is}
use Rattle.x86_flags.proofs.quotients.joined.Goals as goal

pub returns : goal.returns
returns c = rw c.bits.ensures.value (joined_is (bits c.args.w) c.args.high c.args.low (bits_le c.args.w) c.ranges.high.fits c.requires)
