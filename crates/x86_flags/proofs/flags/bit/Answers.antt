use Rattle.std.proofs.Common.{ap, eqb}
use Rattle.std.proofs.lemmas.Nat.Bits.{shr_and_one}
use Rattle.x86_flags.specs.Numbers.{bit}
use Rattle.x86_flags.proofs.flags.bit.Goals as goal

pub returns : goal.returns
unfolding bit
returns c = ap (λ n. eqb n 1) (shr_and_one c.args.number c.args.place)
