use Rattle.guest_state.specs.declared.width.Width.{Width as StateWidth}
use Rattle.guest_state.specs.declared.width.Width.TheVariants.{W8 as s_W8, W16 as s_W16, W32 as s_W32, W64 as s_W64}
use Rattle.ir_syntax.specs.declared.width.Width.{Width}
use Rattle.ir_syntax.specs.declared.width.Width.TheVariants.{W8, W16, W32, W64}

-- the width of a line, for a read or a write of a register
abbrev pub state_width : Width → StateWidth
state_width W8 = s_W8
state_width W16 = s_W16
state_width W32 = s_W32
state_width W64 = s_W64
