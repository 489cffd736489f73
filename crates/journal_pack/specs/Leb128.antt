-- Unsigned LEB128 (DWARF 5, section 7.6), in its shortest form.
use Rattle.std.specs.Prelude.{ℕ, zero, suc, ◌+◌, ◌/◌, ◌%◌, nat_lt, if◌then◌else◌, List, [], ◌∷◌}

-- seven bits a byte, the lowest first; each byte but the last has its top bit set, and at most `more` bytes follow the first
unfoldable pub leb_within : ℕ → ℕ → List ℕ
leb_within zero n = n ∷ []
leb_within (suc more) n = if nat_lt n 128 then n ∷ [] else (128 + n % 128) ∷ leb_within more (n / 128)

-- a number below 2 ^ 64, in at most ten bytes
unfoldable pub leb128 : ℕ → List ℕ
leb128 n = leb_within 9 n
