-- An instruction that has a spelling is one that the assembler takes.
use Rattle.std.proofs.Common.{◌≡◌, ℕ, ◌+◌, ◌*◌, ◌%◌, ◌<◌, Bool, true, false, ◌&&◌, List, [], ◌∷◌, ◌++◌, inl, inr, length, take, Option, Some, None, refl, sym, ap, subst, arith, ◌∙◌}
use Rattle.std.specs.Prelude.{nat_eq, nat_lt, not}
use Rattle.std.specs.List.{list_all}
use Rattle.std.proofs.lemmas.Bool.{and_parts, and_from, both_ways, eq-eqb, lt-ltb, ltb-true, cases_Bool, not-true}
use Rattle.std.proofs.lemmas.List.Folds.{list_all-append}
use Rattle.std.proofs.lemmas.Option.{same_Some}
use Rattle.x86_forms.specs.declared.operands.Width.{Width}
use Rattle.x86_forms.specs.declared.operands.Width.TheVariants.{W8, W16, W32, W64}
use Rattle.x86_forms.specs.declared.operands.Mem.{Mem}
use Rattle.x86_forms.specs.declared.operands.Operand.{Operand}
use Rattle.x86_forms.specs.declared.operands.Operand.TheVariants as operand
use Rattle.x86_forms.specs.declared.conditions.Cond.{Cond}
use Rattle.x86_forms.specs.declared.instructions.AluOp.{AluOp}
use Rattle.x86_forms.specs.declared.instructions.AluOp.TheVariants as alu
use Rattle.x86_forms.specs.declared.instructions.OneOp.{OneOp}
use Rattle.x86_forms.specs.declared.instructions.OneOp.TheVariants as one
use Rattle.x86_forms.specs.declared.instructions.ShiftOp.{ShiftOp}
use Rattle.x86_forms.specs.declared.instructions.ShiftOp.TheVariants.{Shl, Shr, Sar, Rol, Ror}
use Rattle.x86_forms.specs.declared.instructions.Instr.{Instr}
use Rattle.x86_forms.specs.declared.instructions.Instr.TheVariants as instr
use Rattle.x86_forms.specs.declared.rows.Size.{Size}
use Rattle.x86_forms.specs.declared.rows.Tail.{Tail}
use Rattle.x86_forms.specs.declared.rows.Shape.{Shape}
use Rattle.x86_forms.specs.declared.rows.Shape.TheVariants as shape
use Rattle.x86_forms.specs.declared.rows.Kind.{Kind}
use Rattle.x86_forms.specs.declared.rows.Kind.TheVariants as kind
use Rattle.x86_forms.specs.declared.rows.Row.{Row}
use Rattle.x86_forms.specs.Operands.{byte, unsigned, signed, displacement, rex_w, rex_r, rex_b, middle_field, place_of, register, operand_of, at_width}
use Rattle.x86_forms.specs.Table.{Line, table}
use Rattle.x86_forms.specs.Spelling.{Parts, bytes_of, are_bytes, operands_of, with_reg, with_mem, with_cond, lea, condition, instr_of, rm_width, meaning, Spells, is_narrowed}
use Rattle.x86_forms.specs.Limits.{IsWide, IsOver8, Widens, ShiftFits, CanLock, CanLockOne, InstrFits}
use Rattle.x86_forms.proofs.Cuts.{pass_at}
use Rattle.x86_forms.proofs.LimitLemmas.{spelled_fits}
use Rattle.guest_asm.specs.Places.{below, mem_can}
use Rattle.guest_asm.specs.Pieces.{is_64, marks_can}
use Rattle.guest_asm.specs.Encodable.{reg_can, high_can, register_can, rm_can, imm_can, whole_imm_can, value_can, pair_can, mov_imm_can, mov_can, imul_can, push_can, is_test, is_wide, is_over8, zx_can, sx_can, shift_can, can_lock, can_lock_one, can}
use Rattle.guest_asm.specs.Assembling.{HasNoSpelling}
use Rattle.guest_asm.proofs.Read.{no_rex_is_0, number_below, read_register, as_rm, read_place, read_rm, is_imm, read_whole, read_imm, is_q, is_b, q_64, b_8, read_marks}

-- ---- the operands of a row

-- what is known of rm, reg, the register in the opcode and the immediate
record Given (no_rex : Bool) (w v : Width) (t : Tail) (rm reg code : Operand) (n : ℕ) : Type 0 where
  for_rm : rm_can no_rex v rm ≡ true
  for_reg : register_can no_rex w reg ≡ true
  for_code : register_can no_rex w code ≡ true
  for_imm : is_imm t ≡ true → imm_can w n ≡ true
  for_whole : whole_imm_can w n ≡ true

acc_can : (no_rex : Bool) (w : Width) → reg_can no_rex w 0 ≡ true
acc_can true W8 = refl
acc_can false W8 = refl
acc_can true W16 = refl
acc_can false W16 = refl
acc_can true W32 = refl
acc_can false W32 = refl
acc_can true W64 = refl
acc_can false W64 = refl

reg_below : (no_rex : Bool) (w : Width) (r : ℕ) → reg_can no_rex w r ≡ true → below no_rex r ≡ true
reg_below true W8 r h = let l : r < 4 = ltb-true r 4 h in lt-ltb r 8 (omega (arith, l))
reg_below false W8 r h = h
reg_below no_rex W16 r h = h
reg_below no_rex W32 r h = h
reg_below no_rex W64 r h = h

pair_store : (no_rex : Bool) (w : Width) (loads : Bool) (dst src : Operand) → rm_can no_rex w dst ≡ true → register_can no_rex w src ≡ true → pair_can no_rex w loads dst src ≡ true
pair_store no_rex w loads dst (operand.Reg r) d s = and_from (rm_can no_rex w dst) (reg_can no_rex w r) d s
pair_store no_rex w loads dst (operand.High r) d s = and_from (rm_can no_rex w dst) (high_can no_rex w r) d s
pair_store no_rex w loads dst (operand.Mem m) d s = absurd (both_ways false refl s)
pair_store no_rex w loads dst (operand.Imm n) d s = absurd (both_ways false refl s)

pair_load : (no_rex : Bool) (w : Width) (loads : Bool) (dst src : Operand) → loads ≡ true → register_can no_rex w dst ≡ true → rm_can no_rex w src ≡ true → pair_can no_rex w loads dst src ≡ true
pair_load no_rex w loads dst (operand.Reg r) l d s = and_from (rm_can no_rex w dst) (reg_can no_rex w r) (as_rm no_rex w dst d) s
pair_load no_rex w loads dst (operand.High r) l d s = and_from (rm_can no_rex w dst) (high_can no_rex w r) (as_rm no_rex w dst d) s
pair_load no_rex w loads dst (operand.Mem m) l d s = and_from loads _ l (and_from (register_can no_rex w dst) (mem_can no_rex m) d s)
pair_load no_rex w loads dst (operand.Imm n) l d s = absurd (both_ways false refl s)

-- MOV takes what a pair that loads takes, but for immediates
mov_pair : (no_rex : Bool) (w : Width) (dst src : Operand) → rm_can no_rex w src ≡ true → pair_can no_rex w true dst src ≡ true → mov_can no_rex w dst src ≡ true
mov_pair no_rex w dst (operand.Reg r) s h = h
mov_pair no_rex w dst (operand.High r) s h = h
mov_pair no_rex w dst (operand.Mem m) s h = h
mov_pair no_rex w dst (operand.Imm n) s h = absurd (both_ways false refl s)

imm_whole : (w : Width) (n : ℕ) → imm_can w n ≡ true → whole_imm_can w n ≡ true
imm_whole W8 n h = h
imm_whole W16 n h = h
imm_whole W32 n h = h
imm_whole W64 n h = refl

mov_rm_imm : (no_rex : Bool) (w : Width) (dst : Operand) (n : ℕ) → rm_can no_rex w dst ≡ true → imm_can w n ≡ true → mov_imm_can no_rex w dst n ≡ true
mov_rm_imm no_rex w (operand.Reg r) n d h = and_from (reg_can no_rex w r) (whole_imm_can w n) d (imm_whole w n h)
mov_rm_imm no_rex w (operand.High r) n d h = and_from (high_can no_rex w r) (imm_can w n) d h
mov_rm_imm no_rex w (operand.Mem m) n d h = and_from (mem_can no_rex m) (imm_can w n) d h
mov_rm_imm no_rex w (operand.Imm k) n d h = absurd (both_ways false refl d)

mov_high : (no_rex : Bool) (w : Width) (r n : ℕ) → high_can no_rex w r ≡ true → whole_imm_can w n ≡ true → (high_can no_rex w r && imm_can w n) ≡ true
mov_high no_rex W8 r n d h = and_from (high_can no_rex W8 r) (imm_can W8 n) d h
mov_high no_rex W16 r n d h = absurd (both_ways false refl d)
mov_high no_rex W32 r n d h = absurd (both_ways false refl d)
mov_high no_rex W64 r n d h = absurd (both_ways false refl d)

mov_code_imm : (no_rex : Bool) (w : Width) (dst : Operand) (n : ℕ) → register_can no_rex w dst ≡ true → whole_imm_can w n ≡ true → mov_imm_can no_rex w dst n ≡ true
mov_code_imm no_rex w (operand.Reg r) n d h = and_from (reg_can no_rex w r) (whole_imm_can w n) d h
mov_code_imm no_rex w (operand.High r) n d h = mov_high no_rex w r n d h
mov_code_imm no_rex w (operand.Mem m) n d h = absurd (both_ways false refl d)
mov_code_imm no_rex w (operand.Imm k) n d h = absurd (both_ways false refl d)

imul_two : (no_rex : Bool) (w : Width) (r : ℕ) (b : Operand) → rm_can no_rex w b ≡ true → imul_can no_rex w r (operand.Reg r) b ≡ true
imul_two no_rex w r (operand.Reg k) h = and_from (nat_eq r r) (reg_can no_rex w k) (eq-eqb r r refl) h
imul_two no_rex w r (operand.High k) h = and_from (nat_eq r r) (high_can no_rex w k) (eq-eqb r r refl) h
imul_two no_rex w r (operand.Mem m) h = and_from (nat_eq r r) (mem_can no_rex m) (eq-eqb r r refl) h
imul_two no_rex w r (operand.Imm n) h = absurd (both_ways false refl h)

value_register : (no_rex : Bool) (w : Width) (o : Operand) → register_can no_rex w o ≡ true → value_can no_rex w o ≡ true
value_register no_rex w (operand.Reg r) h = h
value_register no_rex w (operand.High r) h = h
value_register no_rex w (operand.Mem m) h = absurd (both_ways false refl h)
value_register no_rex w (operand.Imm n) h = absurd (both_ways false refl h)

push_rm : (no_rex : Bool) (o : Operand) → rm_can no_rex W64 o ≡ true → push_can no_rex o ≡ true
push_rm no_rex (operand.Reg r) h = h
push_rm no_rex (operand.High r) h = absurd (both_ways false refl h)
push_rm no_rex (operand.Mem m) h = h
push_rm no_rex (operand.Imm n) h = absurd (both_ways false refl h)

-- ---- what the table's rows have for each instruction

abbrev alu_shape : Bool → Shape → Tail → Bool
alu_shape loads shape.RmReg t = true
alu_shape loads shape.RegRm t = loads
alu_shape loads shape.RmImm t = is_imm t
alu_shape loads shape.AccImm t = is_imm t
alu_shape loads _ t = false

abbrev mov_shape : Shape → Tail → Bool
mov_shape shape.RmReg t = true
mov_shape shape.RegRm t = true
mov_shape shape.RmImm t = is_imm t
mov_shape shape.CodeImm t = true
mov_shape _ t = false

abbrev push_shape : Shape → Tail → Bool
push_shape shape.CodeAcc t = true
push_shape shape.Rm t = true
push_shape shape.Imm t = is_imm t
push_shape _ t = false

abbrev lock_shape : Shape → Tail → Bool
lock_shape shape.RmReg t = true
lock_shape shape.RmImm t = is_imm t
lock_shape _ t = false

abbrev is_reg_rm : Shape → Bool
is_reg_rm shape.RegRm = true
is_reg_rm _ = false

abbrev is_rm : Shape → Bool
is_rm shape.Rm = true
is_rm _ = false

abbrev is_store : Shape → Bool
is_store shape.RmReg = true
is_store _ = false

abbrev is_swap : Shape → Bool
is_swap shape.RmReg = true
is_swap shape.CodeAcc = true
is_swap _ = false

abbrev is_code : Shape → Bool
is_code shape.CodeAcc = true
is_code _ = false

abbrev is_32 : Width → Bool
is_32 W32 = true
is_32 _ = false

abbrev kind_ok : Kind → Shape → Size → Tail → Bool
kind_ok (kind.Alu op) s z t = not (is_q z) && alu_shape (not (is_test op)) s t
kind_ok kind.Mov s z t = not (is_q z) && mov_shape s t
kind_ok (kind.Zx from) s z t = not (is_q z) && (is_reg_rm s && not (is_32 from))
kind_ok (kind.Sx from) s z t = not (is_q z) && is_reg_rm s
kind_ok kind.Lea s z t = not (is_q z) && is_reg_rm s
kind_ok kind.Push s z t = is_q z && push_shape s t
kind_ok kind.Pop s z t = is_code s
kind_ok (kind.One op) s z t = not (is_q z) && is_rm s
kind_ok (kind.Mul signed_) s z t = not (is_q z) && is_rm s
kind_ok kind.ImulTwo s z t = not (is_q z) && is_reg_rm s
kind_ok kind.ImulThree s z t = not (is_q z) && (is_reg_rm s && is_imm t)
kind_ok (kind.Div signed_) s z t = not (is_q z) && is_rm s
kind_ok (kind.ShiftBy op) s z t = not (is_q z) && is_rm s
kind_ok (kind.ShiftOne op) s z t = not (is_q z) && is_rm s
kind_ok (kind.ShiftCl op) s z t = not (is_q z) && is_rm s
kind_ok kind.Widen s z t = not (is_q z)
kind_ok kind.Spread s z t = not (is_q z)
kind_ok kind.Xchg s z t = not (is_q z) && is_swap s
kind_ok kind.Set s z t = is_b z && is_rm s
kind_ok kind.Cmov s z t = not (is_q z) && is_reg_rm s
kind_ok kind.JmpTo s z t = is_q z && is_rm s
kind_ok kind.CallTo s z t = is_q z && is_rm s
kind_ok (kind.LockAlu op) s z t = not (is_q z) && lock_shape s t
kind_ok (kind.LockOne op) s z t = not (is_q z) && is_rm s
kind_ok kind.LockXchg s z t = not (is_q z) && is_store s
kind_ok kind.Xadd s z t = not (is_q z) && is_store s
kind_ok kind.Cmpxchg s z t = not (is_q z) && is_store s
kind_ok _ s z t = true

abbrev row_ok : Row → Bool
row_ok r = kind_ok r.kind r.shape r.size r.tail

table_ok : list_all (λ l. row_ok l.row) table ≡ true
unfolding table
table_ok = refl

-- ---- widths

wide_is : (w : Width) → IsWide w → is_wide w ≡ true
wide_is W8 h = absurd h
wide_is W16 h = absurd h
wide_is W32 h = refl
wide_is W64 h = refl

over8_is : (w : Width) → IsOver8 w → is_over8 w ≡ true
over8_is W8 h = absurd h
over8_is W16 h = refl
over8_is W32 h = refl
over8_is W64 h = refl

zx_is : (from w : Width) → Widens from w → is_32 from ≡ false → zx_can from w ≡ true
zx_is W8 w h n = over8_is w h
zx_is W16 w h n = wide_is w h
zx_is W32 w h n = absurd (both_ways true n refl)
zx_is W64 w h n = absurd h

sx_is : (from w : Width) → Widens from w → sx_can from w ≡ true
sx_is W8 w h = over8_is w h
sx_is W16 w h = wide_is w h
sx_is W32 w h = ap is_64 h
sx_is W64 w h = absurd h

shift_is : (op : ShiftOp) (w : Width) → ShiftFits op w → shift_can op w ≡ true
shift_is Shl w h = refl
shift_is Shr w h = refl
shift_is Sar w h = refl
shift_is Rol w h = wide_is w h
shift_is Ror w h = wide_is w h

lock_is : (op : AluOp) → CanLock op → can_lock op ≡ true
lock_is alu.Add h = refl
lock_is alu.Or h = refl
lock_is alu.And h = refl
lock_is alu.Sub h = refl
lock_is alu.Xor h = refl
lock_is alu.Adc h = absurd h
lock_is alu.Sbb h = absurd h
lock_is alu.Cmp h = absurd h
lock_is alu.Test h = absurd h

lock_one_is : (op : OneOp) → CanLockOne op → can_lock_one op ≡ true
lock_one_is one.Inc h = refl
lock_one_is one.Dec h = refl
lock_one_is one.Not h = absurd h
lock_one_is one.Neg h = absurd h

-- ---- operands by shape

module _ (no_rex : Bool) (w v : Width) (t : Tail) (rm reg code : Operand) (n : ℕ) where
  abbrev imm : Operand
  imm = operand.Imm n

  abbrev ds : Shape → Operand × Operand
  ds s = operands_of s rm reg code imm

  by_rm : (s : Shape) → Given no_rex w v t rm reg code n → is_rm s ≡ true → rm_can no_rex v (ds s).0 ≡ true
  unfolding operands_of
  by_rm shape.Rm g e = g.for_rm
  by_rm _ g e = absurd (both_ways false refl e)

  by_reg_rm : (s : Shape) → Given no_rex w v t rm reg code n → is_reg_rm s ≡ true → (register_can no_rex w (ds s).0 ≡ true) × (rm_can no_rex v (ds s).1 ≡ true)
  unfolding operands_of
  by_reg_rm shape.RegRm g e = (g.for_reg, g.for_rm)
  by_reg_rm _ g e = absurd (both_ways false refl e)

  by_code : (s : Shape) → Given no_rex w v t rm reg code n → is_code s ≡ true → register_can no_rex w (ds s).0 ≡ true
  unfolding operands_of
  by_code shape.CodeAcc g e = g.for_code
  by_code _ g e = absurd (both_ways false refl e)

module _ (no_rex : Bool) (w : Width) (t : Tail) (rm reg code : Operand) (n : ℕ) where
  abbrev both : Shape → Operand × Operand
  both s = operands_of s rm reg code (operand.Imm n)

  by_alu : (loads : Bool) (s : Shape) → Given no_rex w w t rm reg code n → alu_shape loads s t ≡ true → pair_can no_rex w loads (both s).0 (both s).1 ≡ true
  unfolding operands_of
  by_alu loads shape.RmReg g e = pair_store no_rex w loads rm reg g.for_rm g.for_reg
  by_alu loads shape.RegRm g e = pair_load no_rex w loads reg rm e g.for_reg g.for_rm
  by_alu loads shape.RmImm g e = and_from (rm_can no_rex w rm) (imm_can w n) g.for_rm (g.for_imm e)
  by_alu loads shape.AccImm g e = and_from (reg_can no_rex w 0) (imm_can w n) (acc_can no_rex w) (g.for_imm e)
  by_alu loads _ g e = absurd (both_ways false refl e)

  by_mov : (s : Shape) → Given no_rex w w t rm reg code n → mov_shape s t ≡ true → mov_can no_rex w (both s).0 (both s).1 ≡ true
  unfolding operands_of
  by_mov shape.RmReg g e = mov_pair no_rex w rm reg (as_rm no_rex w reg g.for_reg) (pair_store no_rex w true rm reg g.for_rm g.for_reg)
  by_mov shape.RegRm g e = mov_pair no_rex w reg rm g.for_rm (pair_load no_rex w true reg rm refl g.for_reg g.for_rm)
  by_mov shape.RmImm g e = mov_rm_imm no_rex w rm n g.for_rm (g.for_imm e)
  by_mov shape.CodeImm g e = mov_code_imm no_rex w code n g.for_code g.for_whole
  by_mov _ g e = absurd (both_ways false refl e)

  by_lock : (s : Shape) → Given no_rex w w t rm reg code n → lock_shape s t ≡ true → (rm_can no_rex w (both s).0 ≡ true) × (value_can no_rex w (both s).1 ≡ true)
  unfolding operands_of
  by_lock shape.RmReg g e = (g.for_rm, value_register no_rex w reg g.for_reg)
  by_lock shape.RmImm g e = (g.for_rm, g.for_imm e)
  by_lock _ g e = absurd (both_ways false refl e)

  by_store : (s : Shape) → Given no_rex w w t rm reg code n → is_store s ≡ true → (rm_can no_rex w (both s).0 ≡ true) × (register_can no_rex w (both s).1 ≡ true)
  unfolding operands_of
  by_store shape.RmReg g e = (g.for_rm, g.for_reg)
  by_store _ g e = absurd (both_ways false refl e)

  by_swap : (s : Shape) → Given no_rex w w t rm reg code n → is_swap s ≡ true → (rm_can no_rex w (both s).0 ≡ true) × (register_can no_rex w (both s).1 ≡ true)
  unfolding operands_of
  by_swap shape.RmReg g e = (g.for_rm, g.for_reg)
  by_swap shape.CodeAcc g e = (as_rm no_rex w code g.for_code, acc_can no_rex w)
  by_swap _ g e = absurd (both_ways false refl e)

by_push : (no_rex : Bool) (t : Tail) (rm reg code : Operand) (n : ℕ) (s : Shape) → Given no_rex W64 W64 t rm reg code n → push_shape s t ≡ true → push_can no_rex (operands_of s rm reg code (operand.Imm n)).0 ≡ true
unfolding operands_of
by_push no_rex t rm reg code n shape.CodeAcc g e = push_rm no_rex code (as_rm no_rex W64 code g.for_code)
by_push no_rex t rm reg code n shape.Rm g e = push_rm no_rex rm g.for_rm
by_push no_rex t rm reg code n shape.Imm g e = g.for_imm e
by_push no_rex t rm reg code n _ g e = absurd (both_ways false refl e)

-- ---- the instruction

reg_some : (o : Operand) (f : ℕ → Instr) (i : Instr) → with_reg o f ≡ Some i → (r : ℕ) × (o ≡ operand.Reg r) × (f r ≡ i)
reg_some (operand.Reg r) f i e = (r, refl, same_Some (f r) i e)
reg_some (operand.High r) f i e = absurd cc
reg_some (operand.Mem m) f i e = absurd cc
reg_some (operand.Imm n) f i e = absurd cc

mem_some : (o : Operand) (f : Mem → Instr) (i : Instr) → with_mem o f ≡ Some i → (m : Mem) × (o ≡ operand.Mem m) × (f m ≡ i)
mem_some (operand.Mem m) f i e = (m, refl, same_Some (f m) i e)
mem_some (operand.Reg r) f i e = absurd cc
mem_some (operand.High r) f i e = absurd cc
mem_some (operand.Imm n) f i e = absurd cc

lea_some : (w : Width) (o p : Operand) (i : Instr) → lea w o p ≡ Some i → (r : ℕ) × (m : Mem) × (o ≡ operand.Reg r) × (p ≡ operand.Mem m) × (instr.Lea w r m ≡ i)
lea_some w (operand.Reg r) p i e = let c = mem_some p (λ m. instr.Lea w r m) i e in (r, c.0, refl, c.1, c.2)
lea_some w (operand.High r) p i e = absurd cc
lea_some w (operand.Mem m) p i e = absurd cc
lea_some w (operand.Imm n) p i e = absurd cc

cond_some : (o : Option Cond) (f : Cond → Option Instr) (i : Instr) → with_cond o f ≡ Some i → (c : Cond) × (f c ≡ Some i)
cond_some (Some c) f i e = (c, e)
cond_some None f i e = absurd cc

-- what a row's width says of REX and of the operands
record Sizes (no_rex : Bool) (z : Size) (w : Width) : Type 0 where
  marks : is_q z ≡ false → marks_can no_rex w ≡ true
  at_64 : is_q z ≡ true → w ≡ W64
  at_8 : is_b z ≡ true → w ≡ W8

module _ (no_rex : Bool) (s : Shape) (z : Size) (t : Tail) (w : Width) (rm reg code : Operand) (n o : ℕ) (bs : List ℕ) (i : Instr) where
  abbrev pair : Operand × Operand
  pair = operands_of s rm reg code (operand.Imm n)

  at_once : (j : Instr) → (InstrFits j → can no_rex j ≡ true) → InstrFits i → Some j ≡ Some i → can no_rex i ≡ true
  at_once j h f e = let is = same_Some j i e in subst (λ k. can no_rex k ≡ true) is (h (subst InstrFits (sym is) f))

  with_number : (f : ℕ → Instr) → register_can no_rex w pair.0 ≡ true → ((r : ℕ) → pair.0 ≡ operand.Reg r → below no_rex r ≡ true → InstrFits (f r) → can no_rex (f r) ≡ true) → InstrFits i → with_reg pair.0 f ≡ Some i → can no_rex i ≡ true
  with_number f d h fi e =
      let c = reg_some pair.0 f i e in
      let r : reg_can no_rex w c.0 ≡ true = subst (λ x. register_can no_rex w x ≡ true) c.1 d in
      subst (λ k. can no_rex k ≡ true) c.2 (h c.0 c.1 (reg_below no_rex w c.0 r) (subst InstrFits (sym c.2) fi))

  with_memory : (f : Mem → Instr) → rm_can no_rex w pair.0 ≡ true → ((m : Mem) → mem_can no_rex m ≡ true → InstrFits (f m) → can no_rex (f m) ≡ true) → InstrFits i → with_mem pair.0 f ≡ Some i → can no_rex i ≡ true
  with_memory f d h fi e =
      let c = mem_some pair.0 f i e in
      subst (λ k. can no_rex k ≡ true) c.2 (h c.0 (subst (λ x. rm_can no_rex w x ≡ true) c.1 d) (subst InstrFits (sym c.2) fi))

  one_operand : (j : Instr) → Given no_rex w w t rm reg code n → Sizes no_rex z w → (not (is_q z) && is_rm s) ≡ true → (marks_can no_rex w ≡ true → rm_can no_rex w pair.0 ≡ true → InstrFits j → can no_rex j ≡ true) → InstrFits i → Some j ≡ Some i → can no_rex i ≡ true
  one_operand j g zs k h fi e = let p = and_parts (not (is_q z)) (is_rm s) k in at_once j (h (zs.marks (not-true _ p.0)) (by_rm no_rex w w t rm reg code n s g p.1)) fi e

  needed : (k : Kind) → Given no_rex w (rm_width k w) t rm reg code n → Sizes no_rex z w → kind_ok k s z t ≡ true → InstrFits i → instr_of k w pair (operand.Imm n) o bs ≡ Some i → can no_rex i ≡ true
  unfolding instr_of rm_width
  needed (kind.Alu op) g zs k fi e =
      let p = and_parts (not (is_q z)) _ k in
      at_once (instr.Alu op w pair.0 pair.1) (λ _. and_from _ _ (zs.marks (not-true _ p.0)) (by_alu no_rex w t rm reg code n (not (is_test op)) s g p.1)) fi e
  needed kind.Mov g zs k fi e =
      let p = and_parts (not (is_q z)) _ k in
      at_once (instr.Mov w pair.0 pair.1) (λ _. and_from _ _ (zs.marks (not-true _ p.0)) (by_mov no_rex w t rm reg code n s g p.1)) fi e
  needed (kind.Zx from) g zs k fi e =
      let p = and_parts (not (is_q z)) _ k in
      let q = and_parts (is_reg_rm s) (not (is_32 from)) p.1 in
      let d = by_reg_rm no_rex w from t rm reg code n s g q.0 in
      with_number (λ r. instr.Zx from w r pair.1) d.0 (λ r _ b f. and_from _ _ (zs.marks (not-true _ p.0)) (and_from _ _ (zx_is from w f.0 (not-true _ q.1)) (and_from _ _ b d.1))) fi e
  needed (kind.Sx from) g zs k fi e =
      let p = and_parts (not (is_q z)) _ k in
      let d = by_reg_rm no_rex w from t rm reg code n s g p.1 in
      with_number (λ r. instr.Sx from w r pair.1) d.0 (λ r _ b f. and_from _ _ (zs.marks (not-true _ p.0)) (and_from _ _ (sx_is from w f.0) (and_from _ _ b d.1))) fi e
  needed kind.Lea g zs k fi e =
      let p = and_parts (not (is_q z)) _ k in
      let d = by_reg_rm no_rex w w t rm reg code n s g p.1 in
      let c = lea_some w pair.0 pair.1 i e in
      let b : reg_can no_rex w c.0 ≡ true = subst (λ x. register_can no_rex w x ≡ true) c.2 d.0 in
      let m : mem_can no_rex c.1 ≡ true = subst (λ x. rm_can no_rex w x ≡ true) c.3 d.1 in
      let f : InstrFits (instr.Lea w c.0 c.1) = subst InstrFits (sym c.4) fi in
      subst (λ j. can no_rex j ≡ true) c.4 (and_from _ _ (zs.marks (not-true _ p.0)) (and_from _ _ (over8_is w f.0) (and_from _ _ (reg_below no_rex w c.0 b) m)))
  needed kind.Push g zs k fi e =
      let p = and_parts (is_q z) _ k in
      let g64 : Given no_rex W64 W64 t rm reg code n = subst (λ v. Given no_rex v v t rm reg code n) (zs.at_64 p.0) g in
      at_once (instr.Push pair.0) (λ _. by_push no_rex t rm reg code n s g64 p.1) fi e
  needed kind.Pop g zs k fi e = with_number (λ r. instr.Pop r) (by_code no_rex w w t rm reg code n s g k) (λ r _ b f. b) fi e
  needed (kind.One op) g zs k fi e = one_operand (instr.One op w pair.0) g zs k (λ m d _. and_from _ _ m d) fi e
  needed (kind.Mul signed_) g zs k fi e = one_operand (instr.Mul signed_ w pair.0) g zs k (λ m d f. and_from _ _ m (and_from _ _ (wide_is w f.0) d)) fi e
  needed kind.ImulTwo g zs k fi e =
      let p = and_parts (not (is_q z)) _ k in
      let d = by_reg_rm no_rex w w t rm reg code n s g p.1 in
      with_number (λ r. instr.Imul w r pair.0 pair.1) d.0 (λ r is b f. and_from _ _ (zs.marks (not-true _ p.0)) (and_from _ _ (wide_is w f.0) (and_from _ _ b (subst (λ x. imul_can no_rex w r x pair.1 ≡ true) (sym is) (imul_two no_rex w r pair.1 d.1))))) fi e
  needed kind.ImulThree g zs k fi e =
      let p = and_parts (not (is_q z)) _ k in
      let q = and_parts (is_reg_rm s) (is_imm t) p.1 in
      let d = by_reg_rm no_rex w w t rm reg code n s g q.0 in
      with_number (λ r. instr.Imul w r pair.1 (operand.Imm n)) d.0 (λ r _ b f. and_from _ _ (zs.marks (not-true _ p.0)) (and_from _ _ (wide_is w f.0) (and_from _ _ b (and_from _ _ d.1 (g.for_imm q.1))))) fi e
  needed (kind.Div signed_) g zs k fi e = one_operand (instr.Div signed_ w pair.0) g zs k (λ m d f. and_from _ _ m (and_from _ _ (wide_is w f.0) d)) fi e
  needed (kind.ShiftBy op) g zs k fi e = one_operand (instr.Shift op w pair.0 (Some (byte bs))) g zs k (λ m d f. and_from _ _ m (and_from _ _ (shift_is op w f.0) d)) fi e
  needed (kind.ShiftOne op) g zs k fi e = one_operand (instr.Shift op w pair.0 (Some 1)) g zs k (λ m d f. and_from _ _ m (and_from _ _ (shift_is op w f.0) d)) fi e
  needed (kind.ShiftCl op) g zs k fi e = one_operand (instr.Shift op w pair.0 None) g zs k (λ m d f. and_from _ _ m (and_from _ _ (shift_is op w f.0) d)) fi e
  needed kind.Widen g zs k fi e = at_once (instr.Widen w) (λ f. and_from _ _ (zs.marks (not-true _ k)) (wide_is w f)) fi e
  needed kind.Spread g zs k fi e = at_once (instr.Spread w) (λ f. and_from _ _ (zs.marks (not-true _ k)) (wide_is w f)) fi e
  needed kind.Xchg g zs k fi e =
      let p = and_parts (not (is_q z)) _ k in
      let d = by_swap no_rex w t rm reg code n s g p.1 in
      at_once (instr.Xchg w pair.0 pair.1) (λ _. and_from _ _ (zs.marks (not-true _ p.0)) (and_from _ _ d.0 d.1)) fi e
  needed kind.Set g zs k fi e =
      let p = and_parts (is_b z) _ k in
      let c = cond_some (condition o) (λ c. Some (instr.Set c pair.0)) i e in
      at_once (instr.Set c.0 pair.0) (λ _. subst (λ v. rm_can no_rex v pair.0 ≡ true) (zs.at_8 p.0) (by_rm no_rex w w t rm reg code n s g p.1)) fi c.1
  needed kind.Cmov g zs k fi e =
      let p = and_parts (not (is_q z)) _ k in
      let d = by_reg_rm no_rex w w t rm reg code n s g p.1 in
      let c = cond_some (condition o) (λ c. with_reg pair.0 (λ r. instr.Cmov c w r pair.1)) i e in
      with_number (λ r. instr.Cmov c.0 w r pair.1) d.0 (λ r _ b f. and_from _ _ (zs.marks (not-true _ p.0)) (and_from _ _ (wide_is w f.0) (and_from _ _ b d.1))) fi c.1
  needed kind.Jcc g zs k fi e = let c = cond_some (condition o) (λ c. Some (instr.Jcc c (displacement bs))) i e in at_once (instr.Jcc c.0 (displacement bs)) (λ _. refl) fi c.1
  needed kind.Jmp g zs k fi e = at_once (instr.Jmp (displacement bs)) (λ _. refl) fi e
  needed kind.JmpTo g zs k fi e =
      let p = and_parts (is_q z) _ k in
      at_once (instr.JmpTo pair.0) (λ _. subst (λ v. rm_can no_rex v pair.0 ≡ true) (zs.at_64 p.0) (by_rm no_rex w w t rm reg code n s g p.1)) fi e
  needed kind.Call g zs k fi e = at_once (instr.Call (displacement bs)) (λ _. refl) fi e
  needed kind.CallTo g zs k fi e =
      let p = and_parts (is_q z) _ k in
      at_once (instr.CallTo pair.0) (λ _. subst (λ v. rm_can no_rex v pair.0 ≡ true) (zs.at_64 p.0) (by_rm no_rex w w t rm reg code n s g p.1)) fi e
  needed kind.Ret g zs k fi e = at_once (instr.Ret (unsigned (take 2 bs))) (λ _. refl) fi e
  needed kind.Leave g zs k fi e = at_once instr.Leave (λ _. refl) fi e
  needed kind.Nop g zs k fi e = at_once instr.Nop (λ _. refl) fi e
  needed kind.Pause g zs k fi e = at_once instr.Pause (λ _. refl) fi e
  needed kind.Endbr g zs k fi e = at_once instr.Endbr (λ _. refl) fi e
  needed kind.Mfence g zs k fi e = at_once instr.Mfence (λ _. refl) fi e
  needed (kind.LockAlu op) g zs k fi e =
      let p = and_parts (not (is_q z)) _ k in
      let d = by_lock no_rex w t rm reg code n s g p.1 in
      with_memory (λ m. instr.LockAlu op w m pair.1) d.0 (λ m c f. and_from _ _ (zs.marks (not-true _ p.0)) (and_from _ _ (lock_is op f.0) (and_from _ _ c d.1))) fi e
  needed (kind.LockOne op) g zs k fi e =
      let p = and_parts (not (is_q z)) _ k in
      with_memory (λ m. instr.LockOne op w m) (by_rm no_rex w w t rm reg code n s g p.1) (λ m c f. and_from _ _ (zs.marks (not-true _ p.0)) (and_from _ _ (lock_one_is op f.0) c)) fi e
  needed kind.LockXchg g zs k fi e =
      let p = and_parts (not (is_q z)) _ k in
      let d = by_store no_rex w t rm reg code n s g p.1 in
      with_memory (λ m. instr.Xchg w (operand.Mem m) pair.1) d.0 (λ m c f. and_from _ _ (zs.marks (not-true _ p.0)) (and_from _ _ c d.1)) fi e
  needed kind.Xadd g zs k fi e =
      let p = and_parts (not (is_q z)) _ k in
      let d = by_store no_rex w t rm reg code n s g p.1 in
      with_memory (λ m. instr.Xadd w m pair.1) d.0 (λ m c f. and_from _ _ (zs.marks (not-true _ p.0)) (and_from _ _ c d.1)) fi e
  needed kind.Cmpxchg g zs k fi e =
      let p = and_parts (not (is_q z)) _ k in
      let d = by_store no_rex w t rm reg code n s g p.1 in
      with_memory (λ m. instr.Cmpxchg w m pair.1) d.0 (λ m c f. and_from _ _ (zs.marks (not-true _ p.0)) (and_from _ _ c d.1)) fi e

-- ---- the whole

both_bytes : (a b : List ℕ) → are_bytes (a ++ b) ≡ true → (are_bytes a ≡ true) × (are_bytes b ≡ true)
both_bytes a b h = and_parts (are_bytes a) (are_bytes b) (sym (list_all-append (λ v. nat_lt v 256) a b) ∙ h)

byte_below : (a : List ℕ) → are_bytes a ≡ true → byte a < 256
byte_below [] h = omega arith
byte_below (b ∷ bs) h = ltb-true b 256 (and_parts (nat_lt b 256) (are_bytes bs) h).0

sib_below : (p : Parts) → are_bytes (bytes_of p) ≡ true → byte p.sib < 256
sib_below p h =
    let a = both_bytes p.prefixes _ h in
    let b = both_bytes p.rex _ a.1 in
    let c = both_bytes p.escape _ b.1 in
    let d = both_bytes p.opcode _ c.1 in
    let e = both_bytes p.modrm _ d.1 in
    byte_below p.sib (both_bytes p.sib _ e.1).0

-- A spelled instruction is one that the assembler takes, without a REX byte where the spelling has none.
pub spelled_can : (i : Instr) (s : List ℕ) (h : Spells i s) → can (nat_eq (length h.parts.rex) 0) i ≡ true
unfolding meaning
spelled_can i s h =
    let p = h.parts in
    let l = h.line in
    let w = h.width in
    let f = h.form in
    let row = l.row in
    let v = rm_width row.kind w in
    let no_rex = nat_eq (length p.rex) 0 in
    let m = byte p.modrm in
    let x = byte p.rex in
    let none : no_rex ≡ true → x ≡ 0 = no_rex_is_0 p.rex in
    let ok : row_ok row ≡ true = pass_at (λ (k : Line). row_ok k.row) table h.number l table_ok h.listed in
    let bytes : are_bytes (bytes_of p) ≡ true = subst (λ t. are_bytes t ≡ true) h.string h.bytes in
    let place = read_place no_rex x m (byte p.sib) (displacement p.disp) (sib_below p bytes) (λ t. let e = none t in rw e refl) (λ t. let e = none t in rw e refl) in
    let given : Given no_rex w v row.tail (operand_of v no_rex (place_of x m (byte p.sib) (displacement p.disp))) (register w no_rex (middle_field m + 8 * rex_r x)) (register w no_rex (byte p.opcode % 8 + 8 * rex_b x)) (at_width w (signed p.imm)) = record {
      for_rm = read_rm no_rex v _ place;
      for_reg = read_register w no_rex _ (number_below no_rex (middle_field m) (rex_r x) (λ t. let e = none t in rw e refl) (omega arith) (omega arith));
      for_code = read_register w no_rex _ (number_below no_rex (byte p.opcode % 8) (rex_b x) (λ t. let e = none t in rw e refl) (omega arith) (omega arith));
      for_imm = λ t. read_imm w row.tail p.imm t f.imm;
      for_whole = read_whole w (signed p.imm);
    } in
    let sizes : Sizes no_rex row.size w = record {
      marks = λ q. read_marks row.size (is_narrowed p.prefixes) p.rex w q f.width;
      at_64 = λ q. q_64 row.size (is_narrowed p.prefixes) (rex_w x) w q f.width;
      at_8 = λ q. b_8 row.size (is_narrowed p.prefixes) (rex_w x) w q f.width;
    } in
    needed no_rex row.shape row.size row.tail w _ _ _ _ (byte p.opcode) p.imm i row.kind given sizes ok (spelled_fits i s h) h.means

-- What is taken neither without a REX byte nor with one has no spelling.
pub no_spelling : (i : Instr) → can true i ≡ false → can false i ≡ false → HasNoSpelling i
no_spelling i t f s h =
    let c = spelled_can i s h in
    elim (cases_Bool (nat_eq (length h.parts.rex) 0)) [
      | inl e ↦ both_ways (can true i) t (subst (λ b. can b i ≡ true) e c)
      | inr e ↦ both_ways (can false i) f (subst (λ b. can b i ≡ true) e c)
    ]
