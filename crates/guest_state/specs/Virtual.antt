-- What the calls on a thread's virtual registers read and leave.
use Rattle.std.specs.Prelude.{ℕ, false, slice_index, slice_set, replicate}
use Rattle.guest_state.specs.declared.virtual_state.Virtual.{Virtual}
use Rattle.guest_state.specs.declared.width.Width.{Width}
use Rattle.guest_state.specs.Register.{low_of, high_of, written, written_high}

-- everything 0
unfoldable pub start : Virtual
start = record { regs = replicate 16 0; temps = replicate 8 0; cf = false; pf = false; zf = false; sf = false; of = false }

unfoldable pub get_of : Virtual → ℕ → Width → ℕ
get_of s r w = low_of w (slice_index s.regs r)

unfoldable pub get_high_of : Virtual → ℕ → ℕ
get_high_of s r = high_of (slice_index s.regs r)

-- one register changes, and nothing else
unfoldable pub put_of : Virtual → ℕ → Width → ℕ → Virtual
put_of s r w v = record s { regs = slice_set s.regs r (written w (slice_index s.regs r) v) }

unfoldable pub put_high_of : Virtual → ℕ → ℕ → Virtual
put_high_of s r v = record s { regs = slice_set s.regs r (written_high (slice_index s.regs r) v) }
