-- An instruction that is no transfer leads to the next address, and each leaves no loaded value behind.
use Rattle.std.proofs.Common.{◌≡◌, ℕ, ◌+◌, ◌%◌, ◌^◌, Bool, true, false, cond, Option, Some, None, refl, sym, ap, ◌∙◌, subst}
use Rattle.std.specs.Prelude.{◌&&◌, is_none}
use Rattle.elf_image.specs.Layout.{ImageData, function_at}
use Rattle.elf_image.specs.declared.place.Function.{Function}
use Rattle.x86_forms.specs.declared.operands.Mem.{Mem}
use Rattle.x86_forms.specs.declared.operands.Width.{Width}
use Rattle.x86_forms.specs.declared.operands.Operand.{Operand}
use Rattle.x86_forms.specs.declared.operands.Operand.TheVariants.{Reg, High, Mem as InMem, Imm}
use Rattle.x86_forms.specs.declared.instructions.ShiftOp.{ShiftOp}
use Rattle.x86_forms.specs.declared.instructions.ShiftOp.TheVariants.{Shl, Shr, Sar, Rol, Ror}
use Rattle.x86_forms.specs.declared.instructions.Instr.{Instr}
use Rattle.x86_forms.specs.declared.instructions.Instr.TheVariants.{Alu, Mov, Zx, Sx, Lea, Push, Pop, One, Mul, Imul, Div, Shift, Widen, Spread, Xchg, Set, Cmov, Jcc, Jmp, JmpTo, Call, CallTo, Ret, Leave, Nop, Pause, Endbr, Mfence, LockAlu, LockOne, Xadd, Cmpxchg}
use Rattle.x86_forms.specs.Groups.{is_transfer}
use Rattle.x86_forms.specs.Reading.{read}
use Rattle.x86_model.specs.declared.cpu.Cpu.{Cpu}
use Rattle.x86_model.specs.declared.want.Change.{Change}
use Rattle.x86_model.specs.declared.want.Door.{Door}
use Rattle.x86_model.specs.declared.want.Want.{Want}
use Rattle.x86_model.specs.declared.want.Want.TheVariants as wants
use Rattle.x86_model.specs.Registers.{going_to, is_wide}
use Rattle.x86_model.specs.Operands.{given}
use Rattle.x86_model.specs.Results.{keeps_result}
use Rattle.x86_model.specs.Accesses.{first_access, loading, locking, exchanging}
use Rattle.x86_model.specs.Finishing.{finished, resulting, comparing, alu_want, one_want, multiplied, mul_want, low_multiplied, imul_want, divided, div_want, shift_want, exchanged, cmov_want, pushing, lock_alu_end, lock_one_end, xadd_end, compared, cmpxchg_end}
use Rattle.x86_model.specs.Want.{begun, want_of, door_at, code_from, running, standing, want}
use Rattle.basic_blocks.specs.Places.{is_code_place, instr_at}

-- the registers after an instruction
abbrev pub IsFinished : Bool → ℕ → Cpu → Type 0
IsFinished transfer next x = (x.mid ≡ None) × (transfer ≡ false → x.rip ≡ next)

-- a step that finishes an instruction leads on so
abbrev pub LeadsOn : Bool → ℕ → Want → Type 0
LeadsOn transfer next (wants.Private x) = IsFinished transfer next x
LeadsOn transfer next (wants.Load a w) = Unit {0}
LeadsOn transfer next (wants.Store a w value x) = IsFinished transfer next x
LeadsOn transfer next (wants.Fence x) = IsFinished transfer next x
LeadsOn transfer next (wants.Locked a w change) = Unit {0}
LeadsOn transfer next (wants.Call f) = ⊥
LeadsOn transfer next (wants.Door d) = ⊥
LeadsOn transfer next (wants.Bad kind) = Unit {0}

going : (transfer : Bool) (next : ℕ) (s : Cpu) → IsFinished transfer next (going_to s next)
unfolding going_to
going transfer next s = (refl, λ _. refl)

leaving : (next a : ℕ) (s : Cpu) → IsFinished true next (going_to s a)
unfolding going_to
leaving next a s = (refl, λ e. absurd (let q : true ≡ false = e in cc))

on_given : (t : Bool) (next : ℕ) (s : Cpu) (w : Width) (dst : Operand) (v : ℕ) → LeadsOn t next (given s next w dst v)
unfolding given
on_given t next s w (Reg r) v = going t next _
on_given t next s w (High r) v = going t next _
on_given t next s w (InMem m) v = going t next _
on_given t next s w (Imm n) v = going t next _

on_resulting : (t : Bool) (next : ℕ) (s : Cpu) (w : Width) (dst : Operand) (o : _) → LeadsOn t next (resulting s next w dst o)
unfolding resulting
on_resulting t next s w dst o = on_given t next _ w dst o.value

on_comparing : (t : Bool) (next : ℕ) (s : Cpu) (o : _) → LeadsOn t next (comparing s next o)
unfolding comparing
on_comparing t next s o = going t next _

on_if : (t : Bool) (next : ℕ) (b : Bool) (x y : Want) → LeadsOn t next x → LeadsOn t next y → LeadsOn t next (cond b x y)
on_if t next true x y p q = p
on_if t next false x y p q = q

on_divided : (t : Bool) (next : ℕ) (s : Cpu) (w : Width) (q : Option (ℕ × ℕ)) → LeadsOn t next (divided s next w q)
unfolding divided
on_divided t next s w None = tt
on_divided t next s w (Some q) = going t next _

on_shift : (t : Bool) (op : ShiftOp) (w : Width) (dst : Operand) (count : Option ℕ) (next : ℕ) (s : Cpu) → LeadsOn t next (shift_want op w dst count next s)
unfolding shift_want
on_shift t Shl w dst count next s = on_resulting t next s w dst _
on_shift t Shr w dst count next s = on_resulting t next s w dst _
on_shift t Sar w dst count next s = on_resulting t next s w dst _
on_shift t Rol w dst count next s = on_if t next (is_wide w) _ _ (on_resulting t next s w dst _) tt
on_shift t Ror w dst count next s = on_if t next (is_wide w) _ _ (on_resulting t next s w dst _) tt

-- what finishes an instruction leads on
finished_leads : (i : Instr) (next : ℕ) (s : Cpu) → LeadsOn (is_transfer i) next (finished i next s)
unfolding finished alu_want one_want multiplied mul_want low_multiplied imul_want div_want exchanged cmov_want pushing lock_alu_end lock_one_end xadd_end compared cmpxchg_end
finished_leads (Alu op w dst src) next s = on_if false next (keeps_result op) _ _ (on_resulting false next s w dst _) (on_comparing false next s _)
finished_leads (Mov w dst src) next s = on_given false next s w dst _
finished_leads (Zx from w dst src) next s = on_given false next s w (Reg dst) _
finished_leads (Sx from w dst src) next s = on_given false next s w (Reg dst) _
finished_leads (Lea w dst mem) next s = on_given false next s w (Reg dst) _
finished_leads (Push src) next s = going false next _
finished_leads (Pop dst) next s = on_given false next _ _ (Reg dst) _
finished_leads (One op w dst) next s = on_resulting false next s w dst _
finished_leads (Mul signed w src) next s = on_if false next (is_wide w) _ _ (going false next _) tt
finished_leads (Imul w dst a b) next s = on_if false next (is_wide w) _ _ (going false next _) tt
finished_leads (Div signed w src) next s = on_if false next (is_wide w) _ _ (on_divided false next s w _) tt
finished_leads (Shift op w dst count) next s = on_shift false op w dst count next s
finished_leads (Widen w) next s = on_given false next s w (Reg 0) _
finished_leads (Spread w) next s = on_given false next s w (Reg 2) _
finished_leads (Xchg w a b) next s = going false next _
finished_leads (Set cc dst) next s = on_given false next s _ dst _
finished_leads (Cmov cc w dst src) next s = on_given false next s w (Reg dst) _
finished_leads (Jcc cc rel) next s = leaving next _ s
finished_leads (Jmp rel) next s = leaving next _ s
finished_leads (JmpTo src) next s = leaving next _ s
finished_leads (Call rel) next s = leaving next _ _
finished_leads (CallTo src) next s = leaving next _ _
finished_leads (Ret extra) next s = leaving next _ _
finished_leads Leave next s = on_given false next _ _ (Reg 5) _
finished_leads Nop next s = going false next s
finished_leads Pause next s = going false next s
finished_leads Endbr next s = going false next s
finished_leads Mfence next s = going false next s
finished_leads (LockAlu op w mem src) next s = on_comparing false next s _
finished_leads (LockOne op w mem) next s = on_comparing false next s _
finished_leads (Xadd w mem r) next s = on_comparing false next _ _
finished_leads (Cmpxchg w mem r) next s = on_comparing false next _ _

-- what reads memory first finishes nothing
abbrev LeadsFirst : Bool → ℕ → Option Want → Type 0
LeadsFirst t next None = Unit {0}
LeadsFirst t next (Some w) = LeadsOn t next w

first_loading : (t : Bool) (s : Cpu) (next : ℕ) (w : Width) (m : Option Mem) → LeadsFirst t next (loading s next w m)
first_loading t s next w None = tt
first_loading t s next w (Some m) = tt

first_locking : (t : Bool) (s : Cpu) (next : ℕ) (w : Width) (m : Mem) (c : Option Change) → LeadsFirst t next (locking s next w m c)
first_locking t s next w m None = tt
first_locking t s next w m (Some c) = tt

first_exchanging : (t : Bool) (s : Cpu) (next : ℕ) (w : Width) (m : Option Mem) (v : ℕ) → LeadsFirst t next (exchanging s next w m v)
first_exchanging t s next w None v = tt
first_exchanging t s next w (Some m) v = tt

first_leads : (i : Instr) (next : ℕ) (s : Cpu) → LeadsFirst (is_transfer i) next (first_access i next s)
unfolding first_access
first_leads (Alu op w dst src) next s = first_loading _ s next w _
first_leads (Mov w dst src) next s = first_loading _ s next w _
first_leads (Zx from w dst src) next s = first_loading _ s next from _
first_leads (Sx from w dst src) next s = first_loading _ s next from _
first_leads (Push src) next s = first_loading _ s next _ _
first_leads (Pop dst) next s = tt
first_leads (One op w dst) next s = first_loading _ s next w _
first_leads (Mul signed w src) next s = first_loading _ s next w _
first_leads (Imul w dst a b) next s = first_loading _ s next w _
first_leads (Div signed w src) next s = first_loading _ s next w _
first_leads (Shift op w dst count) next s = first_loading _ s next w _
first_leads (Xchg w a b) next s = first_exchanging _ s next w _ _
first_leads (Cmov cc w dst src) next s = first_loading _ s next w _
first_leads (JmpTo src) next s = first_loading _ s next _ _
first_leads (CallTo src) next s = first_loading _ s next _ _
first_leads (Ret extra) next s = tt
first_leads Leave next s = tt
first_leads (LockAlu op w mem src) next s = first_locking _ s next w mem _
first_leads (LockOne op w mem) next s = first_locking _ s next w mem _
first_leads (Xadd w mem r) next s = tt
first_leads (Cmpxchg w mem r) next s = tt
first_leads (Lea w dst mem) next s = tt
first_leads (Widen w) next s = tt
first_leads (Spread w) next s = tt
first_leads (Set cc dst) next s = tt
first_leads (Jcc cc rel) next s = tt
first_leads (Jmp rel) next s = tt
first_leads (Call rel) next s = tt
first_leads Nop next s = tt
first_leads Pause next s = tt
first_leads Endbr next s = tt
first_leads Mfence next s = tt

begun_leads : (t : Bool) (next : ℕ) (mid : Option ℕ) (access : Option Want) (end : Want) → LeadsFirst t next access → LeadsOn t next end → LeadsOn t next (begun mid access end)
begun_leads t next None (Some access) end p q = p
begun_leads t next None None end p q = q
begun_leads t next (Some v) access end p q = q

-- a step of an instruction leads on
pub want_of_leads : (i : Instr) (next : ℕ) (s : Cpu) → LeadsOn (is_transfer i) next (want_of i next s)
unfolding want_of
want_of_leads i next s = begun_leads (is_transfer i) next s.mid (first_access i next s) (finished i next s) (first_leads i next s) (finished_leads i next s)

-- ---- at a code place

code_by : (d : Option Door) (f : Option Function) (i : Option (Instr × ℕ)) (s : Cpu) → (is_none d && is_none f) ≡ true → standing d f i s ≡ running i s
code_by None None i s e = refl
code_by None (Some f) i s e = absurd (let q : false ≡ true = e in cc)
code_by (Some d) f i s e = absurd (let q : false ≡ true = e in cc)

-- at a code place a thread does what its instruction says
pub want_code : (image : ImageData) (s : Cpu) → is_code_place image s.rip ≡ true → want image s ≡ running (instr_at image s.rip) s
unfolding want instr_at
want_code image s e =
    code_by (door_at s.rip) (function_at s.rip image.entries) (read (code_from image.segments s.rip)) s e
    ∙ ap (λ b. running (cond b (read (code_from image.segments s.rip)) None) s) (sym e)

-- elsewhere it asks the library
abbrev pub IsRequest : Want → Type 0
IsRequest (wants.Private x) = ⊥
IsRequest (wants.Load a w) = ⊥
IsRequest (wants.Store a w value x) = ⊥
IsRequest (wants.Fence x) = ⊥
IsRequest (wants.Locked a w change) = ⊥
IsRequest (wants.Call f) = Unit {0}
IsRequest (wants.Door d) = Unit {0}
IsRequest (wants.Bad kind) = ⊥

request_by : (d : Option Door) (f : Option Function) (i : Option (Instr × ℕ)) (s : Cpu) → (is_none d && is_none f) ≡ false → IsRequest (standing d f i s)
request_by None None i s e = absurd (let q : true ≡ false = e in cc)
request_by None (Some f) i s e = tt
request_by (Some d) f i s e = tt

pub want_request : (image : ImageData) (s : Cpu) → is_code_place image s.rip ≡ false → IsRequest (want image s)
unfolding want
want_request image s e = request_by (door_at s.rip) (function_at s.rip image.entries) (read (code_from image.segments s.rip)) s e

request_leads : (t : Bool) (next : ℕ) (w : Want) → LeadsOn t next w → IsRequest w → ⊥
request_leads t next (wants.Private x) h r = r
request_leads t next (wants.Load a w) h r = r
request_leads t next (wants.Store a w value x) h r = r
request_leads t next (wants.Fence x) h r = r
request_leads t next (wants.Locked a w change) h r = r
request_leads t next (wants.Call f) h r = h
request_leads t next (wants.Door d) h r = h
request_leads t next (wants.Bad kind) h r = r

no_request_by : (i : Option (Instr × ℕ)) (s : Cpu) → IsRequest (running i s) → ⊥
no_request_by None s r = r
no_request_by (Some i) s r = request_leads (is_transfer i.0) ((s.rip + i.1) % 2 ^ 64) (want_of i.0 ((s.rip + i.1) % 2 ^ 64) s) (want_of_leads i.0 ((s.rip + i.1) % 2 ^ 64) s) r

-- no instruction asks the library
pub no_request_at : (image : ImageData) (s : Cpu) → is_code_place image s.rip ≡ true → IsRequest (want image s) → ⊥
no_request_at image s code r = no_request_by (instr_at image s.rip) s (subst IsRequest (want_code image s code) r)
