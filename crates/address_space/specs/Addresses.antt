-- Where a slot's stack is.
use Rattle.std.specs.Prelude.{ℕ, ◌+◌, ◌-◌, ◌*◌}
use Rattle.address_space.specs.declared.TheConstants.{FIRST_RESERVED, STACK_DISTANCE, STACK_SIZE}

-- the first address above the stack of a slot's threads
abbrev pub top : ℕ → ℕ
top slot = FIRST_RESERVED + (slot + 1) * STACK_DISTANCE

-- the lowest address of that stack
abbrev pub bottom : ℕ → ℕ
bottom slot = top slot - STACK_SIZE
