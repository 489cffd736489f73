-- What spells an instruction gives it operands that fit.
use Rattle.std.proofs.Common.{◌≡◌, ◌≢◌, ℕ, zero, suc, ◌+◌, ◌-◌, ◌*◌, ◌%◌, ◌^◌, ◌<◌, ◌≤◌, ℤ, Bool, true, false, cond, ◌&&◌, ◌||◌, List, [], ◌∷◌, ◌++◌, inl, inr, length, take, Option, Some, None, refl, sym, subst, arith, ◌∙◌}
use Rattle.std.specs.Prelude.{nat_eq, nat_le, nat_lt, ⊤}
use Rattle.std.specs.List.{list_all}
use Rattle.std.proofs.lemmas.Bool.{and_parts, both_ways, eqb-true, eqb-false, leb-true, cases_Bool, cond_both}
use Rattle.std.proofs.lemmas.List.Folds.{list_all-append}
use Rattle.std.proofs.lemmas.Option.{same_Some}
use Rattle.x86_forms.specs.declared.operands.Width.{Width}
use Rattle.x86_forms.specs.declared.operands.Width.TheVariants.{W8, W16, W32, W64}
use Rattle.x86_forms.specs.declared.operands.Base.{Base}
use Rattle.x86_forms.specs.declared.operands.Base.TheVariants as base
use Rattle.x86_forms.specs.declared.operands.Mem.{Mem}
use Rattle.x86_forms.specs.declared.operands.Operand.{Operand}
use Rattle.x86_forms.specs.declared.operands.Operand.TheVariants as operand
use Rattle.x86_forms.specs.declared.operands.Place.{Place}
use Rattle.x86_forms.specs.declared.operands.Place.TheVariants as place
use Rattle.x86_forms.specs.declared.conditions.Cond.{Cond}
use Rattle.x86_forms.specs.declared.instructions.AluOp.{AluOp}
use Rattle.x86_forms.specs.declared.instructions.AluOp.TheVariants as alu
use Rattle.x86_forms.specs.declared.instructions.OneOp.{OneOp}
use Rattle.x86_forms.specs.declared.instructions.OneOp.TheVariants as one
use Rattle.x86_forms.specs.declared.instructions.ShiftOp.{ShiftOp}
use Rattle.x86_forms.specs.declared.instructions.ShiftOp.TheVariants.{Shl, Shr, Sar, Rol, Ror}
use Rattle.x86_forms.specs.declared.instructions.Instr.{Instr}
use Rattle.x86_forms.specs.declared.instructions.Instr.TheVariants as instr
use Rattle.x86_forms.specs.declared.rows.Rex.{Rex}
use Rattle.x86_forms.specs.declared.rows.Rex.TheVariants as rex
use Rattle.x86_forms.specs.declared.rows.Size.{Size}
use Rattle.x86_forms.specs.declared.rows.Size.TheVariants as size
use Rattle.x86_forms.specs.declared.rows.Shape.{Shape}
use Rattle.x86_forms.specs.declared.rows.Shape.TheVariants as shape
use Rattle.x86_forms.specs.declared.rows.Kind.{Kind}
use Rattle.x86_forms.specs.declared.rows.Kind.TheVariants as kind
use Rattle.x86_forms.specs.declared.rows.Row.{Row}
use Rattle.x86_forms.specs.Widths.{bits_in}
use Rattle.x86_forms.specs.Groups.{is_memory}
use Rattle.x86_forms.specs.Operands.{byte, unsigned, signed, displacement, rex_w, rex_r, rex_b, high_field, middle_field, low_field, is_baseless, index_of, sib_index, sib_scale, indexed, based, place_of, register, operand_of, sized, width_of, at_width}
use Rattle.x86_forms.specs.Table.{Line, table}
use Rattle.x86_forms.specs.Spelling.{Parts, bytes_of, are_bytes, allows_rex, operands_of, with_reg, with_mem, with_cond, lea, condition, instr_of, rm_width, meaning, Spells, is_narrowed}
use Rattle.x86_forms.specs.Limits.{IsDistance, BaseFits, IndexFits, MemFits, OperandFits, PlaceFits, RegisterFits, PairFits, IsWide, IsOver8, Widens, ShiftFits, CanLock, CanLockOne, InstrFits}
use Rattle.x86_forms.proofs.Cuts.{pass_at, guard_some}
use Rattle.x86_forms.proofs.Distances.{byte_below, two_bytes_below, is_distance}

-- ---- registers

-- a number of a register, of the first eight where no REX byte stands
abbrev IsNumber : Bool → ℕ → Type 0
IsNumber no_rex n = (n < 16) × (no_rex ≡ true → n < 8)

register_fits : (w : Width) (no_rex : Bool) (n : ℕ) → IsNumber no_rex n → RegisterFits w (register w no_rex n)
unfolding register
register_fits W8 true n h =
    let below : n < 8 = h.1 refl in
    cond_both (nat_le 4 n) (operand.High (n - 4)) (operand.Reg n) (λ o. RegisterFits W8 o) (λ t. let x : 4 ≤ n = leb-true 4 n t in record { fits = (refl, omega (arith, x, below)); place = refl; no_memory = refl }) (λ f. record { fits = h.0; place = refl; no_memory = refl })
register_fits W8 false n h = record { fits = h.0; place = refl; no_memory = refl }
register_fits W16 no_rex n h = record { fits = h.0; place = refl; no_memory = refl }
register_fits W32 no_rex n h = record { fits = h.0; place = refl; no_memory = refl }
register_fits W64 no_rex n h = record { fits = h.0; place = refl; no_memory = refl }

no_rex_is_0 : (x : List ℕ) → nat_eq (length x) 0 ≡ true → byte x ≡ 0
no_rex_is_0 [] e = refl
no_rex_is_0 (b ∷ bs) e = absurd (let z : length (b ∷ bs) ≡ 0 = eqb-true _ _ e in omega (arith, z))

-- three bits, and a bit of REX
is_number : (x : List ℕ) (n k : ℕ) → (byte x ≡ 0 → k ≡ 0) → n < 8 → k < 2 → IsNumber (nat_eq (length x) 0) (n + 8 * k)
is_number x n k z h l = (omega (arith, h, l), λ e. let y : k ≡ 0 = z (no_rex_is_0 x e) in omega (arith, y, h))

-- ---- memory

abbrev is_scale : ℕ → Bool
is_scale n = nat_eq n 1 || (nat_eq n 2 || (nat_eq n 4 || nat_eq n 8))

power_is_scale : (k : ℕ) → k < 4 → is_scale (2 ^ k) ≡ true
power_is_scale zero h = refl
power_is_scale (suc zero) h = refl
power_is_scale (suc (suc zero)) h = refl
power_is_scale (suc (suc (suc zero))) h = refl
power_is_scale (suc (suc (suc (suc k)))) h = absurd (omega (arith, h))

index_fits : (x sib : ℕ) → sib < 256 → IndexFits (sib_index x sib) (sib_scale x sib)
index_fits x sib b =
    elim (cases_Bool (nat_eq (index_of x sib) 4)) [
      | inl t ↦ rw t refl
      | inr f ↦ (let four : index_of x sib ≢ 4 = eqb-false _ _ f in rw f (omega arith, four, power_is_scale (high_field sib) (omega (arith, b))))
    ]

abbrev IsPlace : Bool → Place → Type 0
IsPlace no_rex (place.Reg n) = IsNumber no_rex n
IsPlace no_rex (place.Mem m) = MemFits m

place_fits : (x : List ℕ) (m sib : ℕ) (d : ℤ) → sib < 256 → IsDistance d → IsPlace (nat_eq (length x) 0) (place_of (byte x) m sib d)
unfolding place_of indexed based
place_fits x m sib d b far =
    let b_bit : (n : ℕ) → n < 8 → IsNumber (nat_eq (length x) 0) (n + 8 * rex_b (byte x)) = λ n h. is_number x n (rex_b (byte x)) (λ z. rw z refl) h (omega arith) in
    let P : Place → Type 0 = IsPlace (nat_eq (length x) 0) in
    let mem_base : (v : Bool) (c : Base) (n : ℕ) → BaseFits c → n < 8 → BaseFits (cond v c (base.Reg (n + 8 * rex_b (byte x)))) = λ v c n k h. cond_both v c (base.Reg (n + 8 * rex_b (byte x))) BaseFits (λ _. k) (λ _. (b_bit n h).0) in
    cond_both (nat_eq (high_field m) 3) _ _ P (λ _. b_bit (low_field m) (omega arith)) (λ _. cond_both (nat_eq (low_field m) 4) _ _ P (λ _. (mem_base (is_baseless m sib) base.None (low_field sib) tt (omega arith), index_fits (byte x) sib b, far)) (λ _. (mem_base (is_baseless m 0) base.Rip (low_field m) tt (omega arith), refl, far)))

operand_fits : (w : Width) (no_rex : Bool) (p : Place) → IsPlace no_rex p → PlaceFits w (operand_of w no_rex p)
unfolding operand_of
operand_fits w no_rex (place.Reg n) h = let r = register_fits w no_rex n h in record { fits = r.fits; place = r.place }
operand_fits w no_rex (place.Mem m) h = record { fits = h; place = refl }

-- ---- immediates

number_fits : (w : Width) (z : ℤ) → at_width w z < 2 ^ bits_in w
unfolding at_width
number_fits W8 z = omega arith
number_fits W16 z = omega arith
number_fits W32 z = omega arith
number_fits W64 z = omega arith

-- ---- the operands of a row

record Given (w v : Width) (rm reg code imm : Operand) : Type 0 where
  for_rm : PlaceFits v rm
  for_reg : RegisterFits w reg
  for_code : RegisterFits w code
  for_imm : OperandFits w imm
  number : is_memory imm ≡ false

abbrev is_pair : Shape → Bool
is_pair shape.Rm = false
is_pair shape.Imm = false
is_pair _ = true

abbrev is_reg_rm : Shape → Bool
is_reg_rm shape.RegRm = true
is_reg_rm _ = false

abbrev is_rm : Shape → Bool
is_rm shape.Rm = true
is_rm _ = false

abbrev is_swap : Shape → Bool
is_swap shape.RmReg = true
is_swap shape.CodeAcc = true
is_swap _ = false

abbrev is_lock_pair : Shape → Bool
is_lock_pair shape.RmReg = true
is_lock_pair shape.RmImm = true
is_lock_pair _ = false

reg_rm_is : (s : Shape) → is_reg_rm s ≡ true → s ≡ shape.RegRm
reg_rm_is shape.RegRm e = refl
reg_rm_is _ e = absurd (both_ways false refl e)

rm_is : (s : Shape) → is_rm s ≡ true → s ≡ shape.Rm
rm_is shape.Rm e = refl
rm_is _ e = absurd (both_ways false refl e)

as_place : (w : Width) (o : Operand) → RegisterFits w o → PlaceFits w o
as_place w o h = record { fits = h.fits; place = h.place }

acc_fits : (w : Width) → RegisterFits w (operand.Reg 0)
acc_fits w = record { fits = omega arith; place = refl; no_memory = refl }

left_no : (x y : Bool) → x ≡ false → (x && y) ≡ false
left_no true y e = absurd (both_ways true e refl)
left_no false y e = refl

right_no : (x y : Bool) → y ≡ false → (x && y) ≡ false
right_no true y e = e
right_no false y e = refl

pair_fits : (s : Shape) (w : Width) (rm reg code imm : Operand) → Given w w rm reg code imm → is_pair s ≡ true → let ds = operands_of s rm reg code imm in PairFits w ds.0 ds.1
unfolding operands_of
pair_fits shape.RmReg w rm reg code imm g e = record { target = g.for_rm; source = g.for_reg.fits; one_memory = right_no (is_memory rm) _ g.for_reg.no_memory }
pair_fits shape.RegRm w rm reg code imm g e = record { target = as_place w reg g.for_reg; source = g.for_rm.fits; one_memory = left_no _ _ g.for_reg.no_memory }
pair_fits shape.RmImm w rm reg code imm g e = record { target = g.for_rm; source = g.for_imm; one_memory = right_no (is_memory rm) _ g.number }
pair_fits shape.AccImm w rm reg code imm g e = record { target = as_place w (operand.Reg 0) (acc_fits w); source = g.for_imm; one_memory = refl }
pair_fits shape.CodeImm w rm reg code imm g e = record { target = as_place w code g.for_code; source = g.for_imm; one_memory = left_no _ _ g.for_code.no_memory }
pair_fits shape.CodeAcc w rm reg code imm g e = record { target = as_place w code g.for_code; source = omega arith; one_memory = left_no _ _ g.for_code.no_memory }
pair_fits shape.Rm w rm reg code imm g e = absurd (both_ways false refl e)
pair_fits shape.Imm w rm reg code imm g e = absurd (both_ways false refl e)

swap_fits : (s : Shape) (w : Width) (rm reg code imm : Operand) → Given w w rm reg code imm → is_swap s ≡ true → let ds = operands_of s rm reg code imm in PlaceFits w ds.0 × RegisterFits w ds.1
unfolding operands_of
swap_fits shape.RmReg w rm reg code imm g e = (g.for_rm, g.for_reg)
swap_fits shape.CodeAcc w rm reg code imm g e = (as_place w code g.for_code, acc_fits w)
swap_fits _ w rm reg code imm g e = absurd (both_ways false refl e)

lock_fits : (s : Shape) (w : Width) (rm reg code imm : Operand) → Given w w rm reg code imm → is_lock_pair s ≡ true → let ds = operands_of s rm reg code imm in PlaceFits w ds.0 × OperandFits w ds.1 × (is_memory ds.1 ≡ false)
unfolding operands_of
lock_fits shape.RmReg w rm reg code imm g e = (g.for_rm, g.for_reg.fits, g.for_reg.no_memory)
lock_fits shape.RmImm w rm reg code imm g e = (g.for_rm, g.for_imm, g.number)
lock_fits _ w rm reg code imm g e = absurd (both_ways false refl e)

any_fits : (s : Shape) (w : Width) (rm reg code imm : Operand) → Given w w rm reg code imm → OperandFits w (operands_of s rm reg code imm).0
unfolding operands_of
any_fits shape.RmReg w rm reg code imm g = g.for_rm.fits
any_fits shape.RegRm w rm reg code imm g = g.for_reg.fits
any_fits shape.RmImm w rm reg code imm g = g.for_rm.fits
any_fits shape.AccImm w rm reg code imm g = omega arith
any_fits shape.CodeImm w rm reg code imm g = g.for_code.fits
any_fits shape.CodeAcc w rm reg code imm g = g.for_code.fits
any_fits shape.Rm w rm reg code imm g = g.for_rm.fits
any_fits shape.Imm w rm reg code imm g = g.for_imm

-- ---- what a row asks of its shape and width, by its instruction

abbrev shape_ok : Kind → Shape → Bool
shape_ok (kind.Alu op) s = is_pair s
shape_ok kind.Mov s = is_pair s
shape_ok (kind.Zx from) s = is_reg_rm s
shape_ok (kind.Sx from) s = is_reg_rm s
shape_ok kind.Lea s = is_reg_rm s
shape_ok (kind.One op) s = is_rm s
shape_ok (kind.Mul signed) s = is_rm s
shape_ok kind.ImulTwo s = is_reg_rm s
shape_ok kind.ImulThree s = is_reg_rm s
shape_ok (kind.Div signed) s = is_rm s
shape_ok (kind.ShiftBy op) s = is_rm s
shape_ok (kind.ShiftOne op) s = is_rm s
shape_ok (kind.ShiftCl op) s = is_rm s
shape_ok kind.Xchg s = is_swap s
shape_ok kind.Set s = is_rm s
shape_ok kind.Cmov s = is_reg_rm s
shape_ok kind.JmpTo s = is_rm s
shape_ok kind.CallTo s = is_rm s
shape_ok (kind.LockAlu op) s = is_lock_pair s
shape_ok (kind.LockOne op) s = is_rm s
shape_ok kind.LockXchg s = is_swap s
shape_ok kind.Xadd s = is_swap s
shape_ok kind.Cmpxchg s = is_swap s
shape_ok _ s = true

abbrev is_v : Size → Bool
is_v size.V = true
is_v _ = false

abbrev is_d : Size → Bool
is_d size.D = true
is_d _ = false

abbrev is_b : Size → Bool
is_b size.B = true
is_b _ = false

abbrev is_q : Size → Bool
is_q size.Q = true
is_q _ = false

abbrev is_wide : Rex → Bool
is_wide rex.Wide = true
is_wide _ = false

abbrev shift_size : ShiftOp → Size → Bool
shift_size Rol z = is_d z
shift_size Ror z = is_d z
shift_size _ z = true

abbrev can_lock : AluOp → Bool
can_lock alu.Adc = false
can_lock alu.Sbb = false
can_lock alu.Cmp = false
can_lock alu.Test = false
can_lock _ = true

abbrev can_lock_one : OneOp → Bool
can_lock_one one.Inc = true
can_lock_one one.Dec = true
can_lock_one _ = false

abbrev size_ok : Kind → Size → Rex → Bool
size_ok (kind.Zx W8) z x = is_v z
size_ok (kind.Zx W16) z x = is_d z
size_ok (kind.Zx W32) z x = false
size_ok (kind.Zx W64) z x = false
size_ok (kind.Sx W8) z x = is_v z
size_ok (kind.Sx W16) z x = is_d z
size_ok (kind.Sx W32) z x = is_v z && is_wide x
size_ok (kind.Sx W64) z x = false
size_ok kind.Lea z x = is_v z
size_ok kind.Push z x = is_q z
size_ok kind.Pop z x = is_q z
size_ok (kind.Mul signed) z x = is_d z
size_ok kind.ImulTwo z x = is_d z
size_ok kind.ImulThree z x = is_d z
size_ok (kind.Div signed) z x = is_d z
size_ok (kind.ShiftBy op) z x = shift_size op z
size_ok (kind.ShiftOne op) z x = shift_size op z
size_ok (kind.ShiftCl op) z x = shift_size op z
size_ok kind.Widen z x = is_d z
size_ok kind.Spread z x = is_d z
size_ok kind.Set z x = is_b z
size_ok kind.Cmov z x = is_d z
size_ok kind.JmpTo z x = is_q z
size_ok kind.CallTo z x = is_q z
size_ok (kind.LockAlu op) z x = can_lock op
size_ok (kind.LockOne op) z x = can_lock_one op
size_ok _ z x = true

abbrev row_ok : Row → Bool
row_ok r = shape_ok r.kind r.shape && size_ok r.kind r.size r.rex

table_ok : list_all (λ l. row_ok l.row) table ≡ true
unfolding table
table_ok = refl

-- ---- the widths

abbrev WidthOk : Kind → Width → Type 0
WidthOk (kind.Zx from) w = Widens from w
WidthOk (kind.Sx from) w = Widens from w
WidthOk kind.Lea w = IsOver8 w
WidthOk kind.Push w = w ≡ W64
WidthOk (kind.Mul signed) w = IsWide w
WidthOk kind.ImulTwo w = IsWide w
WidthOk kind.ImulThree w = IsWide w
WidthOk (kind.Div signed) w = IsWide w
WidthOk (kind.ShiftBy op) w = ShiftFits op w
WidthOk (kind.ShiftOne op) w = ShiftFits op w
WidthOk (kind.ShiftCl op) w = ShiftFits op w
WidthOk kind.Widen w = IsWide w
WidthOk kind.Spread w = IsWide w
WidthOk kind.Set w = w ≡ W8
WidthOk kind.Cmov w = IsWide w
WidthOk kind.JmpTo w = w ≡ W64
WidthOk kind.CallTo w = w ≡ W64
WidthOk (kind.LockAlu op) w = CanLock op
WidthOk (kind.LockOne op) w = CanLockOne op
WidthOk _ w = ⊤

v_over8 : (z : Size) (n : Bool) (b : ℕ) (w : Width) → is_v z ≡ true → width_of z n b ≡ Some w → IsOver8 w
unfolding width_of
v_over8 size.V n b w e h = subst IsOver8 (same_Some (sized n b) w h) (cond_both (nat_eq b 1) W64 (cond n W16 W32) IsOver8 (λ _. tt) (λ _. cond_both n W16 W32 IsOver8 (λ _. tt) (λ _. tt)))
v_over8 _ n b w e h = absurd (both_ways false refl e)

v_64 : (z : Size) (n : Bool) (b : ℕ) (w : Width) → is_v z ≡ true → nat_eq b 1 ≡ true → width_of z n b ≡ Some w → w ≡ W64
unfolding width_of
v_64 size.V n b w e t h = sym (same_Some W64 w (rw t at h))
v_64 _ n b w e t h = absurd (both_ways false refl e)

d_wide : (z : Size) (n : Bool) (b : ℕ) (w : Width) → is_d z ≡ true → width_of z n b ≡ Some w → IsWide w
unfolding width_of
d_wide size.D n b w e h =
    elim (cases_Bool (nat_eq b 1)) [
      | inl t ↦ subst IsWide (same_Some W64 w (rw t at h)) tt
      | inr f ↦ (let k : cond n None (Some W32) ≡ Some w = rw f at h in subst IsWide (guard_some n W32 w k).1 tt)
    ]
d_wide _ n b w e h = absurd (both_ways false refl e)

q_64 : (z : Size) (n : Bool) (b : ℕ) (w : Width) → is_q z ≡ true → width_of z n b ≡ Some w → w ≡ W64
unfolding width_of
q_64 size.Q n b w e h = sym (same_Some W64 w h)
q_64 _ n b w e h = absurd (both_ways false refl e)

b_8 : (z : Size) (n : Bool) (b : ℕ) (w : Width) → is_b z ≡ true → width_of z n b ≡ Some w → w ≡ W8
unfolding width_of
b_8 size.B n b w e h = sym (same_Some W8 w h)
b_8 _ n b w e h = absurd (both_ways false refl e)

wide_is : (x : Rex) (r : List ℕ) → is_wide x ≡ true → allows_rex x r ≡ true → nat_eq (rex_w (byte r)) 1 ≡ true
unfolding allows_rex
wide_is rex.Wide r e h = h
wide_is _ r e h = absurd (both_ways false refl e)

shift_ok : (op : ShiftOp) (z : Size) (n : Bool) (b : ℕ) (w : Width) → shift_size op z ≡ true → width_of z n b ≡ Some w → ShiftFits op w
shift_ok Shl z n b w e h = tt
shift_ok Shr z n b w e h = tt
shift_ok Sar z n b w e h = tt
shift_ok Rol z n b w e h = d_wide z n b w e h
shift_ok Ror z n b w e h = d_wide z n b w e h

lock_ok : (op : AluOp) → can_lock op ≡ true → CanLock op
lock_ok alu.Adc e = absurd (both_ways false refl e)
lock_ok alu.Sbb e = absurd (both_ways false refl e)
lock_ok alu.Cmp e = absurd (both_ways false refl e)
lock_ok alu.Test e = absurd (both_ways false refl e)
lock_ok alu.Add e = tt
lock_ok alu.Or e = tt
lock_ok alu.And e = tt
lock_ok alu.Sub e = tt
lock_ok alu.Xor e = tt

lock_one_ok : (op : OneOp) → can_lock_one op ≡ true → CanLockOne op
lock_one_ok one.Inc e = tt
lock_one_ok one.Dec e = tt
lock_one_ok one.Not e = absurd (both_ways false refl e)
lock_one_ok one.Neg e = absurd (both_ways false refl e)

width_ok : (k : Kind) (z : Size) (x : Rex) (n : Bool) (r : List ℕ) (w : Width) → size_ok k z x ≡ true → allows_rex x r ≡ true → width_of z n (rex_w (byte r)) ≡ Some w → WidthOk k w
width_ok (kind.Zx W8) z x n r w e a h = v_over8 z n _ w e h
width_ok (kind.Zx W16) z x n r w e a h = d_wide z n _ w e h
width_ok (kind.Zx W32) z x n r w e a h = absurd (both_ways false refl e)
width_ok (kind.Zx W64) z x n r w e a h = absurd (both_ways false refl e)
width_ok (kind.Sx W8) z x n r w e a h = v_over8 z n _ w e h
width_ok (kind.Sx W16) z x n r w e a h = d_wide z n _ w e h
width_ok (kind.Sx W32) z x n r w e a h = let p = and_parts (is_v z) (is_wide x) e in v_64 z n _ w p.0 (wide_is x r p.1 a) h
width_ok (kind.Sx W64) z x n r w e a h = absurd (both_ways false refl e)
width_ok kind.Lea z x n r w e a h = v_over8 z n _ w e h
width_ok kind.Push z x n r w e a h = q_64 z n _ w e h
width_ok (kind.Mul signed) z x n r w e a h = d_wide z n _ w e h
width_ok kind.ImulTwo z x n r w e a h = d_wide z n _ w e h
width_ok kind.ImulThree z x n r w e a h = d_wide z n _ w e h
width_ok (kind.Div signed) z x n r w e a h = d_wide z n _ w e h
width_ok (kind.ShiftBy op) z x n r w e a h = shift_ok op z n _ w e h
width_ok (kind.ShiftOne op) z x n r w e a h = shift_ok op z n _ w e h
width_ok (kind.ShiftCl op) z x n r w e a h = shift_ok op z n _ w e h
width_ok kind.Widen z x n r w e a h = d_wide z n _ w e h
width_ok kind.Spread z x n r w e a h = d_wide z n _ w e h
width_ok kind.Set z x n r w e a h = b_8 z n _ w e h
width_ok kind.Cmov z x n r w e a h = d_wide z n _ w e h
width_ok kind.JmpTo z x n r w e a h = q_64 z n _ w e h
width_ok kind.CallTo z x n r w e a h = q_64 z n _ w e h
width_ok (kind.LockAlu op) z x n r w e a h = lock_ok op e
width_ok (kind.LockOne op) z x n r w e a h = lock_one_ok op e
width_ok _ z x n r w e a h = tt

-- ---- the instruction

reg_some : (o : Operand) (f : ℕ → Instr) (i : Instr) → with_reg o f ≡ Some i → (r : ℕ) × (o ≡ operand.Reg r) × (f r ≡ i)
reg_some (operand.Reg r) f i e = (r, refl, same_Some (f r) i e)
reg_some (operand.High r) f i e = absurd cc
reg_some (operand.Mem m) f i e = absurd cc
reg_some (operand.Imm n) f i e = absurd cc

mem_some : (o : Operand) (f : Mem → Instr) (i : Instr) → with_mem o f ≡ Some i → (m : Mem) × (o ≡ operand.Mem m) × (f m ≡ i)
mem_some (operand.Mem m) f i e = (m, refl, same_Some (f m) i e)
mem_some (operand.Reg r) f i e = absurd cc
mem_some (operand.High r) f i e = absurd cc
mem_some (operand.Imm n) f i e = absurd cc

lea_some : (w : Width) (o p : Operand) (i : Instr) → lea w o p ≡ Some i → (r : ℕ) × (m : Mem) × (o ≡ operand.Reg r) × (p ≡ operand.Mem m) × (instr.Lea w r m ≡ i)
lea_some w (operand.Reg r) p i e = let c = mem_some p (λ m. instr.Lea w r m) i e in (r, c.0, refl, c.1, c.2)
lea_some w (operand.High r) p i e = absurd cc
lea_some w (operand.Mem m) p i e = absurd cc
lea_some w (operand.Imm n) p i e = absurd cc

cond_some : (o : Option Cond) (f : Cond → Option Instr) (i : Instr) → with_cond o f ≡ Some i → (c : Cond) × (f c ≡ Some i)
cond_some (Some c) f i e = (c, e)
cond_some None f i e = absurd cc

reg_rm_fits : (s : Shape) (w v : Width) (rm reg code imm : Operand) → Given w v rm reg code imm → is_reg_rm s ≡ true → let ds = operands_of s rm reg code imm in RegisterFits w ds.0 × PlaceFits v ds.1
unfolding operands_of
reg_rm_fits shape.RegRm w v rm reg code imm g e = (g.for_reg, g.for_rm)
reg_rm_fits _ w v rm reg code imm g e = absurd (both_ways false refl e)

rm_fits : (s : Shape) (w v : Width) (rm reg code imm : Operand) → Given w v rm reg code imm → is_rm s ≡ true → PlaceFits v (operands_of s rm reg code imm).0
unfolding operands_of
rm_fits shape.Rm w v rm reg code imm g e = g.for_rm
rm_fits _ w v rm reg code imm g e = absurd (both_ways false refl e)

module _ (s : Shape) (w : Width) (rm reg code imm : Operand) (o : ℕ) (t : List ℕ) (i : Instr) where
  abbrev ds : Operand × Operand
  ds = operands_of s rm reg code imm

  -- a register that an operand is
  number_of : (r : ℕ) → RegisterFits w ds.0 → ds.0 ≡ operand.Reg r → r < 16
  number_of r h e = subst (OperandFits w) e h.fits

  memory_of : (v : Width) (x : Operand) (m : Mem) → PlaceFits v x → x ≡ operand.Mem m → MemFits m
  memory_of v x m h e = subst (OperandFits v) e h.fits

  extends : (from : Width) (f : ℕ → Instr) → Given w from rm reg code imm → is_reg_rm s ≡ true → ((r : ℕ) → r < 16 → PlaceFits from ds.1 → InstrFits (f r)) → with_reg ds.0 f ≡ Some i → InstrFits i
  extends from f g sh k e =
      let p = reg_rm_fits s w from rm reg code imm g sh in
      let c = reg_some ds.0 f i e in
      subst InstrFits c.2 (k c.0 (number_of c.0 p.0 c.1) p.1)

  locked : (f : Mem → Instr) → PlaceFits w ds.0 → ((m : Mem) → MemFits m → InstrFits (f m)) → with_mem ds.0 f ≡ Some i → InstrFits i
  locked f p k e = let c = mem_some ds.0 f i e in subst InstrFits c.2 (k c.0 (memory_of w ds.0 c.0 p c.1))

  at_once : (j : Instr) → InstrFits j → Some j ≡ Some i → InstrFits i
  at_once j h e = subst InstrFits (same_Some j i e) h

  fits : are_bytes t ≡ true → (k : Kind) → Given w (rm_width k w) rm reg code imm → shape_ok k s ≡ true → WidthOk k w → instr_of k w ds imm o t ≡ Some i → InstrFits i
  unfolding instr_of rm_width
  fits b (kind.Alu op) g sh wd e = at_once (instr.Alu op w ds.0 ds.1) (pair_fits s w rm reg code imm g sh) e
  fits b kind.Mov g sh wd e = at_once (instr.Mov w ds.0 ds.1) (pair_fits s w rm reg code imm g sh) e
  fits b (kind.Zx from) g sh wd e = extends from (λ r. instr.Zx from w r ds.1) g sh (λ r h p. (wd, h, p)) e
  fits b (kind.Sx from) g sh wd e = extends from (λ r. instr.Sx from w r ds.1) g sh (λ r h p. (wd, h, p)) e
  fits b kind.Lea g sh wd e =
      let p = reg_rm_fits s w w rm reg code imm g sh in
      let c = lea_some w ds.0 ds.1 i e in
      subst InstrFits c.4 (wd, number_of c.0 p.0 c.2, memory_of w ds.1 c.1 p.1 c.3)
  fits b kind.Push g sh wd e = at_once (instr.Push ds.0) (subst (λ v. OperandFits v ds.0) wd (any_fits s w rm reg code imm g)) e
  fits b kind.Pop g sh wd e =
      let c = reg_some ds.0 (λ r. instr.Pop r) i e in
      let h : OperandFits w (operand.Reg c.0) = subst (OperandFits w) c.1 (any_fits s w rm reg code imm g) in
      subst InstrFits c.2 h
  fits b (kind.One op) g sh wd e = at_once (instr.One op w ds.0) (rm_fits s w w rm reg code imm g sh) e
  fits b (kind.Mul signed) g sh wd e = at_once (instr.Mul signed w ds.0) (wd, rm_fits s w w rm reg code imm g sh) e
  fits b kind.ImulTwo g sh wd e =
      let p = reg_rm_fits s w w rm reg code imm g sh in
      extends w (λ r. instr.Imul w r ds.0 ds.1) g sh (λ r h q. (wd, h, record { target = as_place w ds.0 p.0; source = q.fits; one_memory = left_no _ _ p.0.no_memory })) e
  fits b kind.ImulThree g sh wd e = extends w (λ r. instr.Imul w r ds.1 imm) g sh (λ r h q. (wd, h, record { target = q; source = g.for_imm; one_memory = right_no (is_memory ds.1) _ g.number })) e
  fits b (kind.Div signed) g sh wd e = at_once (instr.Div signed w ds.0) (wd, rm_fits s w w rm reg code imm g sh) e
  fits b (kind.ShiftBy op) g sh wd e = at_once (instr.Shift op w ds.0 (Some (byte t))) (wd, rm_fits s w w rm reg code imm g sh, byte_below t b) e
  fits b (kind.ShiftOne op) g sh wd e = at_once (instr.Shift op w ds.0 (Some 1)) (wd, rm_fits s w w rm reg code imm g sh, omega arith) e
  fits b (kind.ShiftCl op) g sh wd e = at_once (instr.Shift op w ds.0 None) (wd, rm_fits s w w rm reg code imm g sh, tt) e
  fits b kind.Widen g sh wd e = at_once (instr.Widen w) wd e
  fits b kind.Spread g sh wd e = at_once (instr.Spread w) wd e
  fits b kind.Xchg g sh wd e = at_once (instr.Xchg w ds.0 ds.1) (swap_fits s w rm reg code imm g sh) e
  fits b kind.Set g sh wd e =
      let c = cond_some (condition o) (λ c. Some (instr.Set c ds.0)) i e in
      at_once (instr.Set c.0 ds.0) (subst (λ v. PlaceFits v ds.0) wd (rm_fits s w w rm reg code imm g sh)) c.1
  fits b kind.Cmov g sh wd e =
      let c = cond_some (condition o) (λ c. with_reg ds.0 (λ r. instr.Cmov c w r ds.1)) i e in
      extends w (λ r. instr.Cmov c.0 w r ds.1) g sh (λ r h p. (wd, h, p)) c.1
  fits b kind.Jcc g sh wd e = let c = cond_some (condition o) (λ c. Some (instr.Jcc c (displacement t))) i e in at_once (instr.Jcc c.0 (displacement t)) (is_distance t b) c.1
  fits b kind.Jmp g sh wd e = at_once (instr.Jmp (displacement t)) (is_distance t b) e
  fits b kind.JmpTo g sh wd e = at_once (instr.JmpTo ds.0) (subst (λ v. PlaceFits v ds.0) wd (rm_fits s w w rm reg code imm g sh)) e
  fits b kind.Call g sh wd e = at_once (instr.Call (displacement t)) (is_distance t b) e
  fits b kind.CallTo g sh wd e = at_once (instr.CallTo ds.0) (subst (λ v. PlaceFits v ds.0) wd (rm_fits s w w rm reg code imm g sh)) e
  fits b kind.Ret g sh wd e = at_once (instr.Ret (unsigned (take 2 t))) (two_bytes_below t b) e
  fits b kind.Leave g sh wd e = at_once instr.Leave tt e
  fits b kind.Nop g sh wd e = at_once instr.Nop tt e
  fits b kind.Pause g sh wd e = at_once instr.Pause tt e
  fits b kind.Endbr g sh wd e = at_once instr.Endbr tt e
  fits b kind.Mfence g sh wd e = at_once instr.Mfence tt e
  fits b (kind.LockAlu op) g sh wd e = let p = lock_fits s w rm reg code imm g sh in locked (λ m. instr.LockAlu op w m ds.1) p.0 (λ m h. (wd, h, p.1, p.2)) e
  fits b (kind.LockOne op) g sh wd e = locked (λ m. instr.LockOne op w m) (rm_fits s w w rm reg code imm g sh) (λ m h. (wd, h)) e
  fits b kind.LockXchg g sh wd e = let p = swap_fits s w rm reg code imm g sh in locked (λ m. instr.Xchg w (operand.Mem m) ds.1) p.0 (λ m h. (record { fits = h; place = refl }, p.1)) e
  fits b kind.Xadd g sh wd e = let p = swap_fits s w rm reg code imm g sh in locked (λ m. instr.Xadd w m ds.1) p.0 (λ m h. (h, p.1)) e
  fits b kind.Cmpxchg g sh wd e = let p = swap_fits s w rm reg code imm g sh in locked (λ m. instr.Cmpxchg w m ds.1) p.0 (λ m h. (h, p.1)) e

-- ---- the whole

both_bytes : (a b : List ℕ) → are_bytes (a ++ b) ≡ true → (are_bytes a ≡ true) × (are_bytes b ≡ true)
both_bytes a b h = and_parts (are_bytes a) (are_bytes b) (sym (list_all-append (λ v. nat_lt v 256) a b) ∙ h)

-- the bytes that follow ModRM
record AreTails (p : Parts) : Type 0 where
  sib : byte p.sib < 256
  disp : are_bytes p.disp ≡ true
  imm : are_bytes p.imm ≡ true

are_tails : (p : Parts) → are_bytes (bytes_of p) ≡ true → AreTails p
are_tails p h =
    let a = both_bytes p.prefixes _ h in
    let b = both_bytes p.rex _ a.1 in
    let c = both_bytes p.escape _ b.1 in
    let d = both_bytes p.opcode _ c.1 in
    let e = both_bytes p.modrm _ d.1 in
    let f = both_bytes p.sib _ e.1 in
    let g = both_bytes p.disp p.imm f.1 in
    record { sib = byte_below p.sib f.0; disp = g.0; imm = g.1 }

pub spelled_fits : (i : Instr) (s : List ℕ) → Spells i s → InstrFits i
unfolding meaning
spelled_fits i s h =
    let p = h.parts in
    let l = h.line in
    let w = h.width in
    let f = h.form in
    let row = l.row in
    let v = rm_width row.kind w in
    let no_rex = nat_eq (length p.rex) 0 in
    let m = byte p.modrm in
    let x = byte p.rex in
    let ok = and_parts (shape_ok row.kind row.shape) (size_ok row.kind row.size row.rex) (pass_at (λ (k : Line). row_ok k.row) table h.number l table_ok h.listed) in
    let bytes : are_bytes (bytes_of p) ≡ true = subst (λ t. are_bytes t ≡ true) h.string h.bytes in
    let tails = are_tails p bytes in
    let place = place_fits p.rex m (byte p.sib) (displacement p.disp) tails.sib (is_distance p.disp tails.disp) in
    let given : Given w v (operand_of v no_rex (place_of x m (byte p.sib) (displacement p.disp))) (register w no_rex (middle_field m + 8 * rex_r x)) (register w no_rex (byte p.opcode % 8 + 8 * rex_b x)) (operand.Imm (at_width w (signed p.imm))) = record {
      for_rm = operand_fits v no_rex _ place;
      for_reg = register_fits w no_rex _ (is_number p.rex (middle_field m) (rex_r x) (λ z. rw z refl) (omega arith) (omega arith));
      for_code = register_fits w no_rex _ (is_number p.rex (byte p.opcode % 8) (rex_b x) (λ z. rw z refl) (omega arith) (omega arith));
      for_imm = number_fits w (signed p.imm);
      number = refl;
    } in
    fits row.shape w _ _ _ _ (byte p.opcode) p.imm i tails.imm row.kind given ok.0 (width_ok row.kind row.size row.rex (is_narrowed p.prefixes) p.rex w ok.1 f.asked f.width) h.means
