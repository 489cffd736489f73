-- What a locked exchange makes of the number that it finds.
use Rattle.std.specs.Prelude.{ℕ, ◌+◌, ◌-◌, ◌%◌, ◌^◌, ◌==◌, bit_and, bit_or, bit_xor, if◌then◌else◌}
use Rattle.tso_memory.specs.declared.change.Change.{Change}
use Rattle.tso_memory.specs.declared.change.Change.TheVariants.{Xchg, Add, Sub, And, Or, Xor, Cmpxchg}

-- the number after a change of n bytes; its lowest n bytes are written
abbrev pub changed : Change → ℕ → ℕ → ℕ
changed (Xchg v) n old = v
changed (Add v) n old = (old + v) % 2 ^ 64
changed (Sub v) n old = (old + (2 ^ 64 - v)) % 2 ^ 64
changed (And v) n old = bit_and old v
changed (Or v) n old = bit_or old v
changed (Xor v) n old = bit_xor old v
changed (Cmpxchg want new) n old = if old == want % 256 ^ n then new else old
