use Rattle.std.proofs.lemmas.Nat.{or_lt}
use Rattle.x86_flags.specs.Width.{bits}
use Rattle.x86_flags.proofs.bitwise.or.Goals as goal

pub status-requires : goal.status-requires
status-requires c = or_lt (bits c.args.w) c.args.a c.args.b c.requires.first c.requires.second

pub returns-clause-bound : goal.returns-clause-bound
returns-clause-bound c = or_lt (bits c.args.w) c.args.a c.args.b c.requires.first c.requires.second
