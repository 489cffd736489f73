-- A thread's number tells its slot, and how many threads of that slot came before it.
use Rattle.std.specs.Prelude.{ℕ, ◌+◌, ◌*◌, ◌/◌, ◌%◌}

unfoldable pub slot_of : ℕ → ℕ
slot_of thread = thread % 64

unfoldable pub generation_of : ℕ → ℕ
generation_of thread = thread / 64

unfoldable pub number_in : ℕ → ℕ → ℕ
number_in slot generation = generation * 64 + slot
