-- Instructions that compute on an operand in memory.
use Rattle.std.proofs.Common.{◌≡◌, ℕ, ◌<◌, refl, sym, ap, ◌∙◌, Bool, true, false, List, ◌∷◌, ◌++◌, Option, Some, None}
use Rattle.std.specs.Prelude.{◌||◌}
use Rattle.ir_syntax.specs.declared.block.Part.{Part}
use Rattle.ir_syntax.specs.declared.line.Family.TheVariants as family
use Rattle.ir_syntax.specs.declared.line.Op.TheVariants.{Calc}
use Rattle.ir_syntax.specs.declared.line.PartEnd.TheVariants as ends
use Rattle.x86_flags.specs.Products.{smul_of}
use Rattle.x86_forms.specs.declared.operands.Width.{Width}
use Rattle.x86_forms.specs.declared.operands.Mem.{Mem}
use Rattle.x86_forms.specs.declared.operands.Operand.{Operand}
use Rattle.x86_forms.specs.declared.operands.Operand.TheVariants as operand
use Rattle.x86_forms.specs.declared.instructions.AluOp.{AluOp}
use Rattle.x86_forms.specs.declared.instructions.OneOp.{OneOp}
use Rattle.x86_forms.specs.declared.instructions.ShiftOp.{ShiftOp}
use Rattle.x86_forms.specs.declared.instructions.Instr.{Instr}
use Rattle.x86_forms.specs.declared.instructions.Instr.TheVariants.{Alu, One, Shift, Mul, Imul, Div}
use Rattle.x86_forms.specs.Groups.{is_memory}
use Rattle.x86_forms.specs.Limits.{OperandFits, PlaceFits, PairFits, ShiftFits, IsWide, is_immediate}
use Rattle.x86_forms.specs.Widths.{bits_in}
use Rattle.x86_model.specs.declared.cpu.Cpu.{Cpu}
use Rattle.x86_model.specs.declared.want.Want.TheVariants as want
use Rattle.x86_model.specs.Accesses.{first_access}
use Rattle.x86_model.specs.Finishing.{finished, low_multiplied}
use Rattle.x86_model.specs.Operands.{address, value}
use Rattle.lift_table.specs.Follow.{Follows, Onward, Lifts, having}
use Rattle.lift_table.specs.LiftLines.{ir_width, reads, loads, alone, given_at, zero_lines, all_five}
use Rattle.lift_table.specs.LiftTable.{both_read, alu_parts, one_parts, shift_parts, mul_ops, product_lines}
use Rattle.lift_table.proofs.LiftNumbers.{smul_comm}
use Rattle.lift_table.proofs.LiftWords.{virtual}
use Rattle.lift_table.proofs.LiftFollow.{Numbers, eight, lifts, resumed, no_loads, is_at_none}
use Rattle.lift_table.proofs.LiftAlu.{not_loaded, alu_ends, one_ends}
use Rattle.lift_table.proofs.LiftArith.{shift_ends, mul_ends, imul_ends, imul_wants, div_ends}
use Rattle.lift_mem.proofs.Access.{loads_follows, having_value, having_address, second_in_memory}

-- ---- two operands

alu_to_memory : (op : AluOp) (w : Width) (m : Mem) (src : Operand) (next : ℕ) → PairFits w (operand.Mem m) src → is_memory src ≡ false → Lifts (Alu op w (operand.Mem m) src) next
unfolding first_access
alu_to_memory op w m src next fit none =
    let i = Alu op w (operand.Mem m) src in
    lifts i next
    (λ a b c d e f g h s mid numbers.
    rw (no_loads next w src 2 none)
    (loads_follows i next w m 1 (alu_parts op w (operand.Mem m) src) s (eight a b c d e f g h) mid numbers refl refl
    (λ x l. alu_ends op w (operand.Mem m) src next (address s next m) x c d e f g h (having s x) fit (λ t. sym (having_value w m s x l)) (not_loaded (having s x) w src c none) (sym (having_address next m s x)) numbers (resumed i next (having s x) x refl))))

alu_from_memory : (op : AluOp) (w : Width) (dst : Operand) (m : Mem) (next : ℕ) → PairFits w dst (operand.Mem m) → is_memory dst ≡ false → Lifts (Alu op w dst (operand.Mem m)) next
unfolding first_access
alu_from_memory op w dst m next fit none =
    let i = Alu op w dst (operand.Mem m) in
    lifts i next
    (λ a b c d e f g h s mid numbers.
    rw (no_loads next w dst 1 none)
    (loads_follows i next w m 2 (alu_parts op w dst (operand.Mem m)) s (eight a b c d e f g h) mid numbers refl (rw (second_in_memory dst m none))
    (λ x l. alu_ends op w dst (operand.Mem m) next (address s next m) b x d e f g h (having s x) fit (not_loaded (having s x) w dst b none) (λ t. sym (having_value w m s x l)) (is_at_none next (having s x) (eight (address s next m) b x d e f g h) dst none) numbers (resumed i next (having s x) x refl))))

-- ---- one operand

pub one_in_memory : (op : OneOp) (w : Width) (m : Mem) (next : ℕ) → PlaceFits w (operand.Mem m) → Lifts (One op w (operand.Mem m)) next
unfolding first_access
one_in_memory op w m next fit =
    let i = One op w (operand.Mem m) in
    lifts i next
    (λ a b c d e f g h s mid numbers.
    loads_follows i next w m 1 (one_parts op w (operand.Mem m)) s (eight a b c d e f g h) mid numbers refl refl
    (λ x l. one_ends op w (operand.Mem m) next (address s next m) x c d e f g h (having s x) fit (λ t. sym (having_value w m s x l)) (sym (having_address next m s x)) numbers (resumed i next (having s x) x refl)))

-- ---- shifts

pub shift_in_memory : (op : ShiftOp) (w : Width) (m : Mem) (count : Option ℕ) (next : ℕ) → ShiftFits op w → PlaceFits w (operand.Mem m) → Lifts (Shift op w (operand.Mem m) count) next
unfolding first_access
shift_in_memory op w m count next fit_op fit =
    let i = Shift op w (operand.Mem m) count in
    lifts i next
    (λ a b c d e f g h s mid numbers.
    loads_follows i next w m 1 (shift_parts op w (operand.Mem m) count) s (eight a b c d e f g h) mid numbers refl refl
    (λ x l. shift_ends op w (operand.Mem m) count next (address s next m) x c d e f g h (having s x) fit_op fit (λ t. sym (having_value w m s x l)) (sym (having_address next m s x)) numbers (resumed i next (having s x) x refl)))

-- ---- products and quotients

pub mul_from_memory : (signed : Bool) (w : Width) (m : Mem) (next : ℕ) → IsWide w → PlaceFits w (operand.Mem m) → Lifts (Mul signed w (operand.Mem m)) next
unfolding first_access
mul_from_memory signed w m next wide fit =
    let i = Mul signed w (operand.Mem m) in
    lifts i next
    (λ a b c d e f g h s mid numbers.
    loads_follows i next w m 1 (alone (reads w (operand.Mem m) 1 ++ mul_ops signed w) ends.Tick) s (eight a b c d e f g h) mid numbers refl refl
    (λ x l. mul_ends signed w (operand.Mem m) next (address s next m) x c d e f g h (having s x) wide fit.fits (λ t. sym (having_value w m s x l)) numbers (resumed i next (having s x) x refl)))

pub div_by_memory : (signed : Bool) (w : Width) (m : Mem) (next : ℕ) → IsWide w → PlaceFits w (operand.Mem m) → Lifts (Div signed w (operand.Mem m)) next
unfolding first_access
div_by_memory signed w m next wide fit =
    let i = Div signed w (operand.Mem m) in
    lifts i next
    (λ a b c d e f g h s mid numbers.
    loads_follows i next w m 1 (alone (reads w (operand.Mem m) 1 ++ zero_lines all_five) (ends.Divide signed (ir_width w) 1)) s (eight a b c d e f g h) mid numbers refl refl
    (λ x l. div_ends signed w (operand.Mem m) next (address s next m) x c d e f g h (having s x) wide fit.fits (λ t. sym (having_value w m s x l)) numbers (resumed i next (having s x) x refl)))

-- the parts of IMUL after its loads, where x is in t1 and y in t2
abbrev imul_last : Width → ℕ → Operand → Operand → List Part
imul_last w dst x y = given_at (both_read w x y ++ (Calc family.Mul (ir_width w) 3 2 (Some 1) ∷ product_lines true w)) w (operand.Reg dst) 3

-- memory is in t1, and is multiplied by an operand outside it
imul_memory_first : (i : Instr) (w : Width) (dst : ℕ) (m : Mem) (y : Operand) (next a b c d e f g h : ℕ) (s : Cpu) → IsWide w → dst < 16 → OperandFits w (operand.Mem m) → OperandFits w y → is_memory y ≡ false → s.mid ≡ None → Numbers s.regs → first_access i next s ≡ Some (want.Load (address s next m) w) → ((t : Cpu) → finished i next t ≡ low_multiplied t next w dst (smul_of (bits_in w) (value t w y) (value t w (operand.Mem m)))) → Follows i next (loads next w (operand.Mem m) 1 ++ imul_last w dst (operand.Mem m) y) (virtual s.regs (eight a b c d e f g h) s.flags) s Onward
imul_memory_first i w dst m y next a b c d e f g h s wide fit_dst fit fit_y none mid numbers access end =
    loads_follows i next w m 1 (imul_last w dst (operand.Mem m) y) s (eight a b c d e f g h) mid numbers refl access
    (λ x l. imul_ends w dst (operand.Mem m) y i next (address s next m) x c d e f g h (having s x) wide fit_dst fit fit_y (λ t. sym (having_value w m s x l)) (not_loaded (having s x) w y c none) numbers (resumed i next (having s x) x refl ∙ end (having s x)))

-- memory is in t2
imul_memory_second : (i : Instr) (w : Width) (dst : ℕ) (y : Operand) (m : Mem) (next a b c d e f g h : ℕ) (s : Cpu) → IsWide w → dst < 16 → OperandFits w y → OperandFits w (operand.Mem m) → is_memory y ≡ false → s.mid ≡ None → Numbers s.regs → first_access i next s ≡ Some (want.Load (address s next m) w) → ((t : Cpu) → finished i next t ≡ low_multiplied t next w dst (smul_of (bits_in w) (value t w (operand.Mem m)) (value t w y))) → Follows i next (loads next w (operand.Mem m) 2 ++ imul_last w dst y (operand.Mem m)) (virtual s.regs (eight a b c d e f g h) s.flags) s Onward
imul_memory_second i w dst y m next a b c d e f g h s wide fit_dst fit_y fit none mid numbers access end =
    loads_follows i next w m 2 (imul_last w dst y (operand.Mem m)) s (eight a b c d e f g h) mid numbers refl access
    (λ x l. imul_ends w dst y (operand.Mem m) i next (address s next m) b x d e f g h (having s x) wide fit_dst fit_y fit (not_loaded (having s x) w y b none) (λ t. sym (having_value w m s x l)) numbers (resumed i next (having s x) x refl ∙ end (having s x)))

-- a number is multiplied
imul_number : (w : Width) (dst : ℕ) (m : Mem) (n next : ℕ) → IsWide w → dst < 16 → PairFits w (operand.Mem m) (operand.Imm n) → Lifts (Imul w dst (operand.Mem m) (operand.Imm n)) next
unfolding first_access
imul_number w dst m n next wide fit_dst fit =
    let i = Imul w dst (operand.Mem m) (operand.Imm n) in
    lifts i next
    (λ a b c d e f g h s mid numbers.
    imul_memory_first i w dst m (operand.Imm n) next a b c d e f g h s wide fit_dst fit.target.fits fit.source refl mid numbers refl
    (λ t. imul_wants w dst (operand.Mem m) (operand.Imm n) next t wide ∙ ap (low_multiplied t next w dst) (smul_comm (bits_in w) (value t w (operand.Mem m)) (value t w (operand.Imm n)))))

-- the second operand is in memory
imul_from_memory : (w : Width) (dst : ℕ) (y : Operand) (m : Mem) (next : ℕ) → IsWide w → dst < 16 → PairFits w y (operand.Mem m) → is_memory y ≡ false → Lifts (Imul w dst y (operand.Mem m)) next
unfolding first_access
imul_from_memory w dst y m next wide fit_dst fit none =
    let i = Imul w dst y (operand.Mem m) in
    lifts i next
    (λ a b c d e f g h s mid numbers.
    rw (no_loads next w y 2 none)
    (imul_memory_first i w dst m y next a b c d e f g h s wide fit_dst fit.source fit.target.fits none mid numbers (rw (second_in_memory y m none)) (λ t. imul_wants w dst y (operand.Mem m) next t wide)))

-- the first operand is in memory, and the second is a register
imul_of_memory : (w : Width) (dst : ℕ) (m : Mem) (y : Operand) (next : ℕ) → IsWide w → dst < 16 → PairFits w (operand.Mem m) y → is_memory y ≡ false → is_immediate y ≡ false → Lifts (Imul w dst (operand.Mem m) y) next
unfolding first_access
imul_of_memory w dst m y next wide fit_dst fit none place =
    let i = Imul w dst (operand.Mem m) y in
    lifts i next
    (λ a b c d e f g h s mid numbers.
    rw (place, no_loads next w y 1 none)
    (imul_memory_second i w dst y m next a b c d e f g h s wide fit_dst fit.source fit.target.fits none mid numbers refl (λ t. imul_wants w dst (operand.Mem m) y next t wide)))

-- ---- each group

pub alu_law : (op : AluOp) (w : Width) (dst src : Operand) (next : ℕ) → PairFits w dst src → (is_memory dst || is_memory src) ≡ true → Lifts (Alu op w dst src) next
alu_law op w (operand.Mem m) src next fit some = alu_to_memory op w m src next fit fit.one_memory
alu_law op w (operand.Reg r) (operand.Mem m) next fit some = alu_from_memory op w (operand.Reg r) m next fit refl
alu_law op w (operand.High r) (operand.Mem m) next fit some = alu_from_memory op w (operand.High r) m next fit refl
alu_law op w (operand.Imm n) (operand.Mem m) next fit some = alu_from_memory op w (operand.Imm n) m next fit refl
alu_law op w dst src next fit some = let no : ⊥ = cc in absurd no

pub imul_law : (w : Width) (dst : ℕ) (x y : Operand) (next : ℕ) → IsWide w → dst < 16 → PairFits w x y → (is_memory x || is_memory y) ≡ true → Lifts (Imul w dst x y) next
imul_law w dst (operand.Mem m) (operand.Imm n) next wide fit_dst fit some = imul_number w dst m n next wide fit_dst fit
imul_law w dst (operand.Mem m) (operand.Reg r) next wide fit_dst fit some = imul_of_memory w dst m (operand.Reg r) next wide fit_dst fit refl refl
imul_law w dst (operand.Mem m) (operand.High r) next wide fit_dst fit some = imul_of_memory w dst m (operand.High r) next wide fit_dst fit refl refl
imul_law w dst (operand.Reg r) (operand.Mem m) next wide fit_dst fit some = imul_from_memory w dst (operand.Reg r) m next wide fit_dst fit refl
imul_law w dst (operand.High r) (operand.Mem m) next wide fit_dst fit some = imul_from_memory w dst (operand.High r) m next wide fit_dst fit refl
imul_law w dst (operand.Imm n) (operand.Mem m) next wide fit_dst fit some = imul_from_memory w dst (operand.Imm n) m next wide fit_dst fit refl
imul_law w dst (operand.Mem m) (operand.Mem k) next wide fit_dst fit some = let no : ⊥ = cc fit.one_memory in absurd no
imul_law w dst x y next wide fit_dst fit some = let no : ⊥ = cc in absurd no
