use Rattle.std.proofs.lemmas.Nat.{xor_lt}
use Rattle.x86_flags.specs.Width.{bits}
use Rattle.x86_flags.proofs.bitwise.xor.Goals as goal

pub status-requires : goal.status-requires
status-requires c = xor_lt (bits c.args.w) c.args.a c.args.b c.requires.first c.requires.second

pub returns-clause-bound : goal.returns-clause-bound
returns-clause-bound c = xor_lt (bits c.args.w) c.args.a c.args.b c.requires.first c.requires.second
