-- How wide an operand is.
use Rattle.std.specs.Prelude.{ℕ, ◌*◌}
use Rattle.x86_forms.specs.declared.operands.Width.{Width}
use Rattle.x86_forms.specs.declared.operands.Width.TheVariants.{W8, W16, W32, W64}

abbrev pub bytes_in : Width → ℕ
bytes_in W8 = 1
bytes_in W16 = 2
bytes_in W32 = 4
bytes_in W64 = 8

abbrev pub bits_in : Width → ℕ
bits_in w = 8 * bytes_in w
