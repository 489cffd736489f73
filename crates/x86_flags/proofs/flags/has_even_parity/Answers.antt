use Rattle.std.proofs.Common.{ap, eqb, ◌%◌}
use Rattle.std.proofs.lemmas.Nat.{and_mask}
use Rattle.std.specs.Prelude.{count_ones}
use Rattle.x86_flags.specs.Numbers.{even_parity}
use Rattle.x86_flags.proofs.flags.has_even_parity.Goals as goal

pub returns : goal.returns
unfolding even_parity
returns c = ap (λ n. eqb (count_ones n % 2) 0) (and_mask c.args.number 8)
