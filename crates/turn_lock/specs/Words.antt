-- What contracts see of a pass and of a held value.
use Rattle.std.specs.Prelude.{◌≡◌, ℕ, ◌<◌, List, length, slice_index_or, Option}
use Rattle.atomic_table.specs.Seated.{TableId}
use Rattle.turn_lock.specs.declared.pass.Pass.{Pass}
use Rattle.turn_lock.specs.declared.pass.Held.{Held}
use Rattle.turn_lock.specs.Rule.{number_of, seen_of, case_of}

module _ {T : Type 0} where
  -- the lock of a pass
  abbrev pub lock_of : Pass T → TableId
  lock_of pass = pass.seat.table_id

  -- the number of a pass
  abbrev pub pass_number : Pass T → ℕ
  pass_number pass = number_of pass.seat.me.0

  -- the journal as the pass saw it last
  abbrev pub pass_seen : {E : Type 0} → (T → List E) → Pass T → List E
  pass_seen entries pass = seen_of entries pass.seat.me.0

  -- the case of a pass, which each pass has
  abbrev pub pass_case : {C : Type 0} → (T → C) → Pass T → Option C
  pass_case case pass = case_of case pass.seat.me.0

  -- the pass at each place has that place as its number
  abbrev pub InOrder : List (Pass T) → Type 0
  InOrder passes = (k : ℕ) (d : Pass T) → k < length passes → pass_number (slice_index_or passes k d) ≡ k

  -- the lock that a held value is of
  abbrev pub held_lock : Held T → TableId
  held_lock held = held.seat.table_id

  -- the value, as it is now
  abbrev pub held_value : Held T → T
  held_value held = held.value

  -- the number of the pass that took the value
  abbrev pub held_number : Held T → ℕ
  held_number held = number_of held.seat.me.0

  -- the journal as it was taken
  abbrev pub taken : {E : Type 0} → (T → List E) → Held T → List E
  taken entries held = seen_of entries held.seat.me.0

  -- the case that the value had as it was taken
  abbrev pub held_case : {C : Type 0} → (T → C) → Held T → Option C
  held_case case held = case_of case held.seat.me.0
