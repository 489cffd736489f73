-- What the instructions of a thread work on before its first step.
use Rattle.std.specs.Prelude.{ℕ, false, replicate, None}
use Rattle.x86_flags.specs.declared.flags.Flags.{Flags}
use Rattle.x86_model.specs.declared.cpu.Cpu.{Cpu}

abbrev pub no_flags : Flags
no_flags = record { cf = false; pf = false; zf = false; sf = false; of = false }

-- everything 0
unfoldable pub start : Cpu
start = record { regs = replicate 16 0; flags = no_flags; rip = 0; last = 0; mid = None }
