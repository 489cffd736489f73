-- One register of 64 bits (Intel SDM Volume 1, section 3.4.1.1).
use Rattle.std.specs.Prelude.{ℕ, ◌+◌, ◌*◌, ◌/◌, ◌%◌, ◌^◌}
use Rattle.guest_state.specs.declared.width.Width.{Width}
use Rattle.guest_state.specs.declared.width.Width.TheVariants.{W8, W16, W32, W64}
use Rattle.guest_state.specs.Width.{bits}

-- the lowest bits, as a read of this width gives them
unfoldable pub low_of : Width → ℕ → ℕ
low_of w n = n % 2 ^ bits w

-- bits 8 to 15
unfoldable pub high_of : ℕ → ℕ
high_of n = n / 2 ^ 8 % 2 ^ 8

-- n after a write of v: all of it at 64 bits, a zeroed upper half at 32, and the bits above kept at 16 and 8
unfoldable pub written : Width → ℕ → ℕ → ℕ
written W8 n v = n / 2 ^ 8 * 2 ^ 8 + v
written W16 n v = n / 2 ^ 16 * 2 ^ 16 + v
written W32 n v = v
written W64 n v = v

-- n after a write of v to bits 8 to 15
unfoldable pub written_high : ℕ → ℕ → ℕ
written_high n v = n / 2 ^ 16 * 2 ^ 16 + v * 2 ^ 8 + n % 2 ^ 8
