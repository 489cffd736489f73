-- Moves, extensions, choices and conditions with an operand in memory.
use Rattle.std.proofs.Common.{◌≡◌, ℕ, ◌<◌, refl, sym, false, ◌++◌}
use Rattle.x86_forms.specs.declared.conditions.Cond.{Cond}
use Rattle.x86_forms.specs.declared.operands.Width.{Width}
use Rattle.x86_forms.specs.declared.operands.Width.TheVariants.{W8}
use Rattle.x86_forms.specs.declared.operands.Mem.{Mem}
use Rattle.x86_forms.specs.declared.operands.Operand.{Operand}
use Rattle.x86_forms.specs.declared.operands.Operand.TheVariants as operand
use Rattle.x86_forms.specs.declared.instructions.Instr.TheVariants.{Mov, Zx, Sx, Set, Cmov}
use Rattle.x86_forms.specs.Groups.{is_memory}
use Rattle.x86_forms.specs.Limits.{OperandFits, PlaceFits, PairFits, Widens}
use Rattle.x86_model.specs.Accesses.{first_access}
use Rattle.x86_model.specs.Finishing.{finished}
use Rattle.x86_model.specs.Operands.{address}
use Rattle.lift_table.specs.Follow.{Lifts, having}
use Rattle.lift_table.specs.LiftLines.{reads, addressed, given_at}
use Rattle.lift_table.specs.LiftTable.{zero_extended_to, sign_extended_to, cmov_parts}
use Rattle.lift_table.proofs.LiftFollow.{eight, lifts, resumed, no_loads}
use Rattle.lift_table.proofs.LiftAlu.{not_loaded}
use Rattle.lift_table.proofs.LiftMoves.{mov_ends, zero_extended_ends, sign_extended_ends, widens_le, widens_lt, set_ends, cmov_ends}
use Rattle.lift_mem.proofs.Access.{loads_follows, wants_end, outside_memory, having_value}

-- ---- MOV

pub mov_to_memory : (w : Width) (m : Mem) (src : Operand) (next : ℕ) → PairFits w (operand.Mem m) src → is_memory src ≡ false → Lifts (Mov w (operand.Mem m) src) next
unfolding first_access
mov_to_memory w m src next fit none =
    let i = Mov w (operand.Mem m) src in
    lifts i next
    (λ a b c d e f g h s mid numbers.
    rw (no_loads next w src 1 none)
    (mov_ends w (operand.Mem m) src next a b c d e f g h s fit (not_loaded s w src b none) numbers (wants_end i next s mid (rw (outside_memory src none)))))

pub mov_from_memory : (w : Width) (dst : Operand) (m : Mem) (next : ℕ) → PairFits w dst (operand.Mem m) → Lifts (Mov w dst (operand.Mem m)) next
unfolding first_access
mov_from_memory w dst m next fit =
    let i = Mov w dst (operand.Mem m) in
    lifts i next
    (λ a b c d e f g h s mid numbers.
    loads_follows i next w m 1 (given_at (addressed next dst ++ reads w (operand.Mem m) 1) w dst 1) s (eight a b c d e f g h) mid numbers refl refl
    (λ x l. mov_ends w dst (operand.Mem m) next (address s next m) x c d e f g h (having s x) fit (λ t. sym (having_value w m s x l)) numbers (resumed i next (having s x) x refl)))

-- ---- extensions

pub zx_law : (from w : Width) (dst : ℕ) (m : Mem) (next : ℕ) → Widens from w → dst < 16 → PlaceFits from (operand.Mem m) → Lifts (Zx from w dst (operand.Mem m)) next
unfolding first_access finished
zx_law from w dst m next wider fit_dst fit =
    let i = Zx from w dst (operand.Mem m) in
    lifts i next
    (λ a b c d e f g h s mid numbers.
    loads_follows i next from m 1 (zero_extended_to from w (operand.Mem m) dst) s (eight a b c d e f g h) mid numbers refl refl
    (λ x l. zero_extended_ends from w (operand.Mem m) dst i next (address s next m) x c d e f g h (having s x) wider fit_dst fit.fits (λ t. sym (having_value from m s x l)) numbers (resumed i next (having s x) x refl)))

pub sx_law : (from w : Width) (dst : ℕ) (m : Mem) (next : ℕ) → Widens from w → dst < 16 → PlaceFits from (operand.Mem m) → Lifts (Sx from w dst (operand.Mem m)) next
unfolding first_access finished
sx_law from w dst m next wider fit_dst fit =
    let i = Sx from w dst (operand.Mem m) in
    lifts i next
    (λ a b c d e f g h s mid numbers.
    loads_follows i next from m 1 (sign_extended_to from w (operand.Mem m) dst) s (eight a b c d e f g h) mid numbers refl refl
    (λ x l. sign_extended_ends from w (operand.Mem m) dst i next (address s next m) x c d e f g h (having s x) (widens_lt from w wider) (widens_le from w wider) fit_dst fit.fits (λ t. sym (having_value from m s x l)) numbers (resumed i next (having s x) x refl)))

-- ---- SETcc and CMOVcc

pub set_law : (cc : Cond) (m : Mem) (next : ℕ) → PlaceFits W8 (operand.Mem m) → Lifts (Set cc (operand.Mem m)) next
unfolding first_access
set_law kind m next fit =
    let i = Set kind (operand.Mem m) in
    lifts i next
    (λ a b c d e f g h s mid numbers. set_ends kind (operand.Mem m) next a b c d e f g h s fit numbers (wants_end i next s mid refl))

pub cmov_law : (cc : Cond) (w : Width) (dst : ℕ) (m : Mem) (next : ℕ) → dst < 16 → PlaceFits w (operand.Mem m) → Lifts (Cmov cc w dst (operand.Mem m)) next
unfolding first_access
cmov_law kind w dst m next fit_dst fit =
    let i = Cmov kind w dst (operand.Mem m) in
    lifts i next
    (λ a b c d e f g h s mid numbers.
    loads_follows i next w m 1 (cmov_parts kind w dst (operand.Mem m)) s (eight a b c d e f g h) mid numbers refl refl
    (λ x l. cmov_ends kind w dst (operand.Mem m) next (address s next m) x c d e f g h (having s x) fit_dst fit.fits (λ t. sym (having_value w m s x l)) numbers (resumed i next (having s x) x refl)))
