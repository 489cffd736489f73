-- Lines that read operands before a locked change.
use Rattle.std.proofs.Common.{◌≡◌, ℕ, refl, ap, ◌∙◌, false, List, ◌∷◌, ◌++◌}
use Rattle.std.specs.Prelude.{slice_set}
use Rattle.guest_state.specs.Virtual.{get_of}
use Rattle.ir_meaning.specs.Does.{did, did_all}
use Rattle.ir_syntax.specs.declared.line.Op.{Op}
use Rattle.ir_syntax.specs.declared.line.Op.TheVariants.{Get}
use Rattle.x86_flags.specs.declared.flags.Flags.{Flags}
use Rattle.x86_forms.specs.declared.operands.Width.{Width}
use Rattle.x86_forms.specs.declared.operands.Mem.{Mem}
use Rattle.x86_forms.specs.declared.operands.Operand.{Operand}
use Rattle.x86_forms.specs.Groups.{is_memory}
use Rattle.x86_forms.specs.Limits.{OperandFits}
use Rattle.x86_model.specs.declared.cpu.Cpu.{Cpu}
use Rattle.x86_model.specs.Operands.{address, value}
use Rattle.x86_model.specs.Registers.{reg, get}
use Rattle.lift_table.specs.LiftLines.{ir_width, reads, address_line}
use Rattle.lift_table.proofs.LiftWords.{virtual, after, reads_do, address_is, same_low}
use Rattle.lift_table.proofs.LiftFollow.{eight}
use Rattle.lift_table.proofs.LiftAlu.{WasLoaded, not_loaded}

-- a register is read
pub get_do : (w : Width) (t r : ℕ) (temps : List ℕ) (f : Flags) (s : Cpu) → did (Get (ir_width w) t r) (virtual s.regs temps f) ≡ virtual s.regs (slice_set temps t (get s w r)) f
unfolding get get_of
get_do w t r temps f s = ap (λ n. virtual s.regs (slice_set temps t n) f) (same_low w (reg s r))

-- the lines before a locked change: an address, and an operand that isn't in memory
pub operands_do : (next : ℕ) (w : Width) (m : Mem) (o : Operand) (rest : List Op) (a b c d e f g h : ℕ) (s : Cpu) → OperandFits w o → WasLoaded s w o c → did_all (address_line next m ∷ (reads w o 2 ++ rest)) (virtual s.regs (eight a b c d e f g h) s.flags) ≡ did_all rest (virtual s.regs (eight (address s next m) b (value s w o) d e f g h) s.flags)
operands_do next w m o rest a b c d e f g h s fit none =
    let at = address s next m in
    ap (did_all (reads w o 2 ++ rest)) (address_is next m s.regs (eight a b c d e f g h) s.flags s refl)
    ∙ after (reads w o 2) rest (virtual s.regs (eight at b c d e f g h) s.flags) (virtual s.regs (eight at b (value s w o) d e f g h) s.flags) (reads_do w o 2 (eight at b c d e f g h) s.flags s fit none)

-- the same two lines alone, with the operand in temporary k
pub operand_do : (next : ℕ) (w : Width) (m : Mem) (o : Operand) (k a b c d e f g h : ℕ) (s : Cpu) → OperandFits w o → is_memory o ≡ false → did_all (address_line next m ∷ reads w o k) (virtual s.regs (eight a b c d e f g h) s.flags) ≡ virtual s.regs (slice_set (eight (address s next m) b c d e f g h) k (value s w o)) s.flags
operand_do next w m o k a b c d e f g h s fit none =
    let at = address s next m in
    ap (did_all (reads w o k)) (address_is next m s.regs (eight a b c d e f g h) s.flags s refl)
    ∙ reads_do w o k (eight at b c d e f g h) s.flags s fit (λ t. let no : ⊥ = cc in absurd no)
