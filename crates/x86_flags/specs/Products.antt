-- MUL and IMUL (Intel SDM Volume 2) at w bits. The parity, zero and sign flags, which the manual leaves undefined, are 0.
use Rattle.std.specs.Prelude.{ℕ, Bool, false, not, ◌+◌, ◌*◌, ◌/◌, ◌%◌, ◌^◌, ◌==◌, ◌*ℤ◌}
use Rattle.std.specs.Ordering.{int_eq}
use Rattle.x86_flags.specs.declared.flags.Flags.{Flags}
use Rattle.x86_flags.specs.Numbers.{signed, low_bits}

-- the two halves of a product of 2 * w bits, and the flags after it
pub record Product : Type 0 where
  pub low : ℕ
  pub high : ℕ
  pub flags : Flags

-- carry and overflow both say whether the low half loses something
unfoldable pub product_flags : Bool → Flags
product_flags lost = record { cf = lost; pf = false; zf = false; sf = false; of = lost }

-- lost where the product isn't the zero extension of its low half
unfoldable pub umul_of : ℕ → ℕ → ℕ → Product
umul_of w a b =
    let low = a * b % 2 ^ w in
    record { low = low; high = a * b / 2 ^ w; flags = product_flags (not (a * b == low)) }

-- lost where the product isn't the sign extension of its low half
unfoldable pub smul_of : ℕ → ℕ → ℕ → Product
smul_of w a b =
    let product = signed w a *ℤ signed w b in
    let low = low_bits w product in
    record { low = low; high = low_bits (w + w) product / 2 ^ w; flags = product_flags (not (int_eq product (signed w low))) }
