-- What contracts see of a lock.
use Rattle.std.specs.Prelude.{ℕ}
use Rattle.atomic_table.specs.Seated.{TableId}
use Rattle.turn_lock.specs.declared.turn.Turn.{Turn}

module _ {T C E : Type 0} where
  -- which lock it is: no other has the same
  abbrev pub lock_id : Turn T C E → TableId
  lock_id turn = turn.table.shared.table_id

  -- how many passes it has
  abbrev pub pass_count : Turn T C E → ℕ
  pass_count turn = turn.count
