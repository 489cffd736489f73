-- The rule of a table of one word and one slot that one thread at a time has.
use Rattle.std.specs.Prelude.{◌≡◌, ◌∷◌, [], Option, Some, slice_index, length}
use mathlib.Core.Option.{some}
use lib.ListN.{get_elem?}
use Rattle.atomic_table.specs.Table.{State, Me}

module _ {T V : Type 0} where
  -- where the word is 0, a value that is right lies in the slot
  abbrev pub IsGuarded : (T → Type 0) → State (Option T) V → Type 0
  IsGuarded right s = (length s.words ≡ 1) × (slice_index s.words 0 ≡ 0 → (value : T) × (get_elem? s.homes 0 ≡ some (some (Some value))) × right value)

  -- the seat has the slot, with a right value in it
  abbrev pub IsTaken : (T → Type 0) → Me (Option T) V → Type 0
  IsTaken right m = (value : T) × (m.1 ≡ (0, Some value) ∷ []) × right value

  -- the seat has the slot
  abbrev pub IsOut : Me (Option T) V → Type 0
  IsOut m = (held : Option T) × (m.1 ≡ (0, held) ∷ [])
