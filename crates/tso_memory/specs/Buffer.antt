-- A store buffer: the writes of one thread that aren't in memory yet, the oldest first.
use Rattle.std.specs.Prelude.{ℕ, ◌+◌, ◌-◌, Bool, ◌&&◌, nat_le, nat_lt, if◌then◌else◌, List, [], ◌∷◌}
use Rattle.std.specs.Int.{byte_at}
use Rattle.byteorder.specs.Endian.{little_bytes}
use Rattle.tso_memory.specs.declared.write.Width.{Width}
use Rattle.tso_memory.specs.declared.write.Width.TheVariants.{W8, W16, W32, W64}
use Rattle.tso_memory.specs.declared.write.PendingWrite.{PendingWrite}

-- a width in bytes
abbrev pub size_of : Width → ℕ
size_of W8 = 1
size_of W16 = 2
size_of W32 = 4
size_of W64 = 8

abbrev pub pending : ℕ → Width → ℕ → PendingWrite
pending at width value = record { at = at; width = width; value = value }

abbrev pub covers : PendingWrite → ℕ → Bool
covers p x = nat_le p.at x && nat_lt x (p.at + size_of p.width)

-- the bytes that a write brings, the lowest first
abbrev pub bytes_of_write : PendingWrite → List ℕ
bytes_of_write p = little_bytes (size_of p.width) p.value

-- the byte at an address by the last of the writes that covers it, and b where none does
unfoldable pub seen : List PendingWrite → ℕ → ℕ → ℕ
seen [] x b = b
seen (p ∷ ps) x b = seen ps x (if covers p x then byte_at (x - p.at) p.value else b)
