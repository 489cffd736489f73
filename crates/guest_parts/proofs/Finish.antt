-- A step that finishes an instruction leaves its address as that of the instruction finished last.
use Rattle.std.proofs.Common.{◌≡◌, ℕ, ◌+◌, ◌%◌, ◌^◌, Bool, true, false, cond, Option, Some, None, refl, sym, ◌∙◌, subst}
use Rattle.elf_image.specs.Layout.{ImageData}
use Rattle.x86_forms.specs.declared.operands.Mem.{Mem}
use Rattle.x86_forms.specs.declared.operands.Width.{Width}
use Rattle.x86_forms.specs.declared.operands.Operand.{Operand}
use Rattle.x86_forms.specs.declared.operands.Operand.TheVariants.{Reg, High, Mem as InMem, Imm}
use Rattle.x86_forms.specs.declared.instructions.ShiftOp.{ShiftOp}
use Rattle.x86_forms.specs.declared.instructions.ShiftOp.TheVariants.{Shl, Shr, Sar, Rol, Ror}
use Rattle.x86_forms.specs.declared.instructions.Instr.{Instr}
use Rattle.x86_forms.specs.declared.instructions.Instr.TheVariants.{Alu, Mov, Zx, Sx, Lea, Push, Pop, One, Mul, Imul, Div, Shift, Widen, Spread, Xchg, Set, Cmov, Jcc, Jmp, JmpTo, Call, CallTo, Ret, Leave, Nop, Pause, Endbr, Mfence, LockAlu, LockOne, Xadd, Cmpxchg}
use Rattle.x86_model.specs.declared.cpu.Cpu.{Cpu}
use Rattle.x86_model.specs.declared.want.Change.{Change}
use Rattle.x86_model.specs.declared.want.Want.{Want}
use Rattle.x86_model.specs.declared.want.Want.TheVariants as wants
use Rattle.x86_model.specs.Registers.{going_to, is_wide, put, put_high}
use Rattle.x86_model.specs.Operands.{assigned, given}
use Rattle.x86_model.specs.Results.{keeps_result}
use Rattle.x86_model.specs.Accesses.{first_access, loading, locking, exchanging}
use Rattle.x86_model.specs.Finishing.{finished, resulting, comparing, alu_want, one_want, multiplied, mul_want, low_multiplied, imul_want, divided, div_want, shift_want, exchanged, cmov_want, pushing, released, lock_alu_end, lock_one_end, xadd_end, compared, cmpxchg_end}
use Rattle.x86_model.specs.Want.{begun, running, want_of, want}
use Rattle.basic_blocks.specs.Places.{is_code_place, instr_at}
use Rattle.machine_model.proofs.Finishing.{want_code}
use Rattle.guest_parts.specs.Requests.{Finishes}

going : (a to : ℕ) (s : Cpu) → s.rip ≡ a → Finishes a (wants.Private (going_to s to))
unfolding going_to
going a to s e = e

pushed : (a to : ℕ) (s : Cpu) (v : ℕ) → s.rip ≡ a → Finishes a (pushing s v to)
unfolding pushing going_to put
pushed a to s v e = e

at_released : (s : Cpu) (a n : ℕ) → (released s a n).rip ≡ s.rip
unfolding released put
at_released s a n = refl

at_put : (s : Cpu) (w : Width) (r v : ℕ) → (put s w r v).rip ≡ s.rip
unfolding put
at_put s w r v = refl

at_assigned : (s : Cpu) (w : Width) (dst : Operand) (v : ℕ) → (assigned s w dst v).rip ≡ s.rip
unfolding assigned put put_high
at_assigned s w (Reg r) v = refl
at_assigned s w (High r) v = refl
at_assigned s w (InMem m) v = refl
at_assigned s w (Imm n) v = refl

on_given : (a next : ℕ) (s : Cpu) (w : Width) (dst : Operand) (v : ℕ) → s.rip ≡ a → Finishes a (given s next w dst v)
unfolding given
on_given a next s w (Reg r) v e = going a next _ (at_assigned s w (Reg r) v ∙ e)
on_given a next s w (High r) v e = going a next _ (at_assigned s w (High r) v ∙ e)
on_given a next s w (InMem m) v e = going a next s e
on_given a next s w (Imm n) v e = going a next s e

on_resulting : (a next : ℕ) (s : Cpu) (w : Width) (dst : Operand) (o : _) → s.rip ≡ a → Finishes a (resulting s next w dst o)
unfolding resulting
on_resulting a next s w dst o e = on_given a next _ w dst o.value e

on_comparing : (a next : ℕ) (s : Cpu) (o : _) → s.rip ≡ a → Finishes a (comparing s next o)
unfolding comparing
on_comparing a next s o e = going a next _ e

on_if : (a : ℕ) (b : Bool) (x y : Want) → Finishes a x → Finishes a y → Finishes a (cond b x y)
on_if a true x y p q = p
on_if a false x y p q = q

at_if : (a : ℕ) (b : Bool) (x y : Cpu) → x.rip ≡ a → y.rip ≡ a → (cond b x y).rip ≡ a
at_if a true x y p q = p
at_if a false x y p q = q

on_divided : (a next : ℕ) (s : Cpu) (w : Width) (q : Option (ℕ × ℕ)) → s.rip ≡ a → Finishes a (divided s next w q)
unfolding divided put
on_divided a next s w None e = tt
on_divided a next s w (Some q) e = going a next _ e

on_shift : (op : ShiftOp) (w : Width) (dst : Operand) (count : Option ℕ) (next : ℕ) (s : Cpu) → Finishes s.rip (shift_want op w dst count next s)
unfolding shift_want
on_shift Shl w dst count next s = on_resulting s.rip next s w dst _ refl
on_shift Shr w dst count next s = on_resulting s.rip next s w dst _ refl
on_shift Sar w dst count next s = on_resulting s.rip next s w dst _ refl
on_shift Rol w dst count next s = on_if s.rip (is_wide w) _ _ (on_resulting s.rip next s w dst _ refl) tt
on_shift Ror w dst count next s = on_if s.rip (is_wide w) _ _ (on_resulting s.rip next s w dst _ refl) tt

on_compared : (next : ℕ) (s : Cpu) (w : Width) (o : _) → Finishes s.rip (compared s next w o)
unfolding compared
on_compared next s w o = on_comparing s.rip next _ o (at_if s.rip o.flags.zf s _ refl (at_put s w 0 _))

on_multiplied : (next : ℕ) (s : Cpu) (w : Width) (p : _) → Finishes s.rip (multiplied s next w p)
unfolding multiplied put
on_multiplied next s w p = going s.rip next _ refl

on_low : (next : ℕ) (s : Cpu) (w : Width) (dst : ℕ) (p : _) → Finishes s.rip (low_multiplied s next w dst p)
unfolding low_multiplied put
on_low next s w dst p = going s.rip next _ refl

-- what finishes an instruction
finished_last : (i : Instr) (next : ℕ) (s : Cpu) → Finishes s.rip (finished i next s)
unfolding finished alu_want one_want mul_want imul_want div_want exchanged cmov_want lock_alu_end lock_one_end xadd_end cmpxchg_end
finished_last (Alu op w dst src) next s = on_if s.rip (keeps_result op) _ _ (on_resulting s.rip next s w dst _ refl) (on_comparing s.rip next s _ refl)
finished_last (Mov w dst src) next s = on_given s.rip next s w dst _ refl
finished_last (Zx from w dst src) next s = on_given s.rip next s w (Reg dst) _ refl
finished_last (Sx from w dst src) next s = on_given s.rip next s w (Reg dst) _ refl
finished_last (Lea w dst mem) next s = on_given s.rip next s w (Reg dst) _ refl
finished_last (Push src) next s = pushed s.rip next s _ refl
finished_last (Pop dst) next s = on_given s.rip next _ _ (Reg dst) _ (at_released s _ _)
finished_last (One op w dst) next s = on_resulting s.rip next s w dst _ refl
finished_last (Mul signed w src) next s = on_if s.rip (is_wide w) _ _ (on_multiplied next s w _) tt
finished_last (Imul w dst a b) next s = on_if s.rip (is_wide w) _ _ (on_low next s w dst _) tt
finished_last (Div signed w src) next s = on_if s.rip (is_wide w) _ _ (on_divided s.rip next s w _ refl) tt
finished_last (Shift op w dst count) next s = on_shift op w dst count next s
finished_last (Widen w) next s = on_given s.rip next s w (Reg 0) _ refl
finished_last (Spread w) next s = on_given s.rip next s w (Reg 2) _ refl
finished_last (Xchg w a b) next s = going s.rip next _ (at_assigned _ w b _ ∙ at_assigned s w a _)
finished_last (Set cc dst) next s = on_given s.rip next s _ dst _ refl
finished_last (Cmov cc w dst src) next s = on_given s.rip next s w (Reg dst) _ refl
finished_last (Jcc cc rel) next s = going s.rip _ s refl
finished_last (Jmp rel) next s = going s.rip _ s refl
finished_last (JmpTo src) next s = going s.rip _ s refl
finished_last (Call rel) next s = pushed s.rip _ s _ refl
finished_last (CallTo src) next s = pushed s.rip _ s _ refl
finished_last (Ret extra) next s = going s.rip _ _ (at_released s _ _)
finished_last Leave next s = on_given s.rip next _ _ (Reg 5) _ (at_released s _ _)
finished_last Nop next s = going s.rip next s refl
finished_last Pause next s = going s.rip next s refl
finished_last Endbr next s = going s.rip next s refl
finished_last Mfence next s = going s.rip next s refl
finished_last (LockAlu op w mem src) next s = on_comparing s.rip next s _ refl
finished_last (LockOne op w mem) next s = on_comparing s.rip next s _ refl
finished_last (Xadd w mem r) next s = on_comparing s.rip next _ _ (at_assigned s w r _)
finished_last (Cmpxchg w mem r) next s = on_compared next s w _

-- what reads memory first finishes nothing
abbrev FinishesFirst : ℕ → Option Want → Type 0
FinishesFirst a None = Unit {0}
FinishesFirst a (Some w) = Finishes a w

first_loading : (a : ℕ) (s : Cpu) (next : ℕ) (w : Width) (m : Option Mem) → FinishesFirst a (loading s next w m)
first_loading a s next w None = tt
first_loading a s next w (Some m) = tt

first_locking : (a : ℕ) (s : Cpu) (next : ℕ) (w : Width) (m : Mem) (c : Option Change) → FinishesFirst a (locking s next w m c)
first_locking a s next w m None = tt
first_locking a s next w m (Some c) = tt

first_exchanging : (a : ℕ) (s : Cpu) (next : ℕ) (w : Width) (m : Option Mem) (v : ℕ) → FinishesFirst a (exchanging s next w m v)
first_exchanging a s next w None v = tt
first_exchanging a s next w (Some m) v = tt

first_last : (i : Instr) (next : ℕ) (s : Cpu) → FinishesFirst s.rip (first_access i next s)
unfolding first_access
first_last (Alu op w dst src) next s = first_loading _ s next w _
first_last (Mov w dst src) next s = first_loading _ s next w _
first_last (Zx from w dst src) next s = first_loading _ s next from _
first_last (Sx from w dst src) next s = first_loading _ s next from _
first_last (Push src) next s = first_loading _ s next _ _
first_last (Pop dst) next s = tt
first_last (One op w dst) next s = first_loading _ s next w _
first_last (Mul signed w src) next s = first_loading _ s next w _
first_last (Imul w dst a b) next s = first_loading _ s next w _
first_last (Div signed w src) next s = first_loading _ s next w _
first_last (Shift op w dst count) next s = first_loading _ s next w _
first_last (Xchg w a b) next s = first_exchanging _ s next w _ _
first_last (Cmov cc w dst src) next s = first_loading _ s next w _
first_last (JmpTo src) next s = first_loading _ s next _ _
first_last (CallTo src) next s = first_loading _ s next _ _
first_last (Ret extra) next s = tt
first_last Leave next s = tt
first_last (LockAlu op w mem src) next s = first_locking _ s next w mem _
first_last (LockOne op w mem) next s = first_locking _ s next w mem _
first_last (Xadd w mem r) next s = tt
first_last (Cmpxchg w mem r) next s = tt
first_last (Lea w dst mem) next s = tt
first_last (Widen w) next s = tt
first_last (Spread w) next s = tt
first_last (Set cc dst) next s = tt
first_last (Jcc cc rel) next s = tt
first_last (Jmp rel) next s = tt
first_last (Call rel) next s = tt
first_last Nop next s = tt
first_last Pause next s = tt
first_last Endbr next s = tt
first_last Mfence next s = tt

begun_last : (a : ℕ) (mid : Option ℕ) (access : Option Want) (end : Want) → FinishesFirst a access → Finishes a end → Finishes a (begun mid access end)
begun_last a None (Some access) end p q = p
begun_last a None None end p q = q
begun_last a (Some v) access end p q = q

want_of_last : (i : Instr) (next : ℕ) (s : Cpu) → Finishes s.rip (want_of i next s)
unfolding want_of
want_of_last i next s = begun_last s.rip s.mid (first_access i next s) (finished i next s) (first_last i next s) (finished_last i next s)

running_last : (i : Option (Instr × ℕ)) (s : Cpu) → Finishes s.rip (running i s)
running_last None s = tt
running_last (Some i) s = want_of_last i.0 ((s.rip + i.1) % 2 ^ 64) s

-- at a code place
pub want_last : (image : ImageData) (s : Cpu) → is_code_place image s.rip ≡ true → Finishes s.rip (want image s)
want_last image s code = subst (Finishes s.rip) (sym (want_code image s code)) (running_last (instr_at image s.rip) s)
