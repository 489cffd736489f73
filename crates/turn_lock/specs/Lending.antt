-- What the caller leaves behind the value of a lock.
use Rattle.std.specs.Borrow.{Lends, MutBor, Fml}
use denote.RattleType.{RattleType}
use Rattle.turn_lock.specs.declared.pass.Held.{Held}
use Rattle.turn_lock.specs.contracts.pass.Held.{the_row}

-- h ends with the last value behind r, and is otherwise as it was
abbrev pub LendsValue : (T : RattleType) → MutBor (Held T.Denot) → MutBor T.Denot → Fml
LendsValue T h r = Lends (the_row T) T h r (λ w. record h.now { value = w })
