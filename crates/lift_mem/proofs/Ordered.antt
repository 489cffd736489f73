-- Instructions that change memory in one locked step, but for CMPXCHG.
use Rattle.std.proofs.Common.{◌≡◌, ℕ, ◌<◌, ◌^◌, refl, ap, sym, ◌∙◌, false, List, [], ◌∷◌, ◌++◌, Some, None}
use Rattle.ir_meaning.specs.Does.{did_all, change_of}
use Rattle.ir_syntax.specs.declared.line.Family.TheVariants as family
use Rattle.ir_syntax.specs.declared.line.LockOp.{LockOp}
use Rattle.ir_syntax.specs.declared.line.LockOp.TheVariants as lock
use Rattle.ir_syntax.specs.declared.line.Op.TheVariants.{Const}
use Rattle.ir_syntax.specs.declared.line.PartEnd.TheVariants as ends
use Rattle.x86_flags.specs.Sums.{add_of}
use Rattle.x86_forms.specs.declared.operands.Width.{Width}
use Rattle.x86_forms.specs.declared.operands.Mem.{Mem}
use Rattle.x86_forms.specs.declared.operands.Operand.{Operand}
use Rattle.x86_forms.specs.declared.operands.Operand.TheVariants as operand
use Rattle.x86_forms.specs.declared.instructions.AluOp.{AluOp}
use Rattle.x86_forms.specs.declared.instructions.AluOp.TheVariants as alu_op
use Rattle.x86_forms.specs.declared.instructions.OneOp.{OneOp}
use Rattle.x86_forms.specs.declared.instructions.OneOp.TheVariants as one_op
use Rattle.x86_forms.specs.declared.instructions.Instr.TheVariants.{LockAlu, LockOne, Xadd, Xchg}
use Rattle.x86_forms.specs.Groups.{is_memory}
use Rattle.x86_forms.specs.Limits.{OperandFits, PlaceFits, RegisterFits, CanLock, CanLockOne, is_immediate}
use Rattle.x86_forms.specs.Widths.{bits_in}
use Rattle.x86_model.specs.declared.cpu.Cpu.{Cpu}
use Rattle.x86_model.specs.declared.want.Change.{Change}
use Rattle.x86_model.specs.declared.want.Change.TheVariants as change
use Rattle.x86_model.specs.declared.want.Want.TheVariants as want
use Rattle.x86_model.specs.Accesses.{first_access, locking}
use Rattle.x86_model.specs.Finishing.{finished, comparing, lock_alu_end, lock_one_end, xadd_end, exchanged}
use Rattle.x86_model.specs.Operands.{address, value, assigned, given}
use Rattle.x86_model.specs.Registers.{get, going_to, with_flags, loaded}
use Rattle.x86_model.specs.Results.{alu, one, change_by, change_one}
use Rattle.lift_table.specs.Follow.{Follows, Onward, Lifts, having, ir_change}
use Rattle.lift_table.specs.LiftLines.{ir_width, reads, puts, alone, given_at, address_line, flag_lines, all_five, all_but_carry, alu_family, one_family, one_flags, lock_op, lock_one_op}
use Rattle.lift_table.proofs.LiftWords.{virtual, after, address_is, puts_do, flags_do, alu_flags, one_flags_are}
use Rattle.lift_table.proofs.LiftFollow.{Numbers, eight, lifts, private_follows, given_follows, resumed, is_at_none, assigned_numbers, assigned_flags}
use Rattle.lift_mem.proofs.Access.{locked_follows, having_loaded, having_value}
use Rattle.lift_mem.proofs.Operands.{operand_do}

-- an operand outside memory is worth what it was before
value_after : (w : Width) (o : Operand) (s : Cpu) (x : ℕ) → is_memory o ≡ false → value (having s x) w o ≡ value s w o
unfolding value get
value_after w (operand.Reg r) s x e = refl
value_after w (operand.High r) s x e = refl
value_after w (operand.Imm n) s x e = refl
value_after w (operand.Mem m) s x e = let no : ⊥ = cc in absurd no

-- ---- LOCK with two operands

lock_alu_wants : (op : AluOp) (w : Width) (m : Mem) (src : Operand) (next x : ℕ) (s : Cpu) → x < 2 ^ bits_in w → is_memory src ≡ false → finished (LockAlu op w m src) next (having s x) ≡ want.Private (going_to (with_flags (having s x) (alu op (bits_in w) x (value s w src) s.flags).flags) next)
unfolding finished lock_alu_end comparing
lock_alu_wants op w m src next x s l none = rw (having_loaded w s x l, value_after w src s x none)

lock_alu : (op : AluOp) (kind : LockOp) (changed : ℕ → Change) (w : Width) (m : Mem) (src : Operand) (next : ℕ) → lock_op op ≡ Some kind → ((v : ℕ) → change_by op v ≡ Some (changed v)) → ((v : ℕ) → change_of kind v ≡ ir_change (changed v)) → OperandFits w src → is_memory src ≡ false → Lifts (LockAlu op w m src) next
unfolding first_access
lock_alu op kind changed w m src next is by same fit none =
    let i = LockAlu op w m src in
    lifts i next
    (λ a b c d e f g h s mid numbers.
    let at = address s next m in
    let v = value s w src in
    let lines = flag_lines all_five (alu_family op) w 1 (Some 2) in
    rw is
    (locked_follows i next w 1 at 2 kind (changed v) (address_line next m ∷ reads w src 2) (alone lines ends.Tick) s (eight a b c d e f g h) (eight at b v d e f g h) mid numbers refl
    (operand_do next w m src 2 a b c d e f g h s fit none) refl (same v) (ap (locking s next w m) (by v))
    (λ x l.
    let t = having s x in
    let flags = (alu op (bits_in w) x v s.flags).flags in
    private_follows i next lines (virtual s.regs (eight at x v d e f g h) s.flags) t (with_flags t flags) (eight at x v d e f g h)
    (flags_do all_five (alu_family op) w 1 (Some 2) s.regs (eight at x v d e f g h) s.flags ∙ ap (virtual s.regs (eight at x v d e f g h)) (alu_flags op (bits_in w) x v s.flags))
    (resumed i next t x refl ∙ lock_alu_wants op w m src next x s l none) numbers refl)))

pub lock_alu_law : (op : AluOp) (w : Width) (m : Mem) (src : Operand) (next : ℕ) → CanLock op → OperandFits w src → is_memory src ≡ false → Lifts (LockAlu op w m src) next
lock_alu_law alu_op.Add w m src next can fit none = lock_alu alu_op.Add lock.Add (λ v. change.Add v) w m src next refl (λ v. refl) (λ v. refl) fit none
lock_alu_law alu_op.Or w m src next can fit none = lock_alu alu_op.Or lock.Or (λ v. change.Or v) w m src next refl (λ v. refl) (λ v. refl) fit none
lock_alu_law alu_op.And w m src next can fit none = lock_alu alu_op.And lock.And (λ v. change.And v) w m src next refl (λ v. refl) (λ v. refl) fit none
lock_alu_law alu_op.Sub w m src next can fit none = lock_alu alu_op.Sub lock.Sub (λ v. change.Sub v) w m src next refl (λ v. refl) (λ v. refl) fit none
lock_alu_law alu_op.Xor w m src next can fit none = lock_alu alu_op.Xor lock.Xor (λ v. change.Xor v) w m src next refl (λ v. refl) (λ v. refl) fit none
lock_alu_law alu_op.Adc w m src next can fit none = absurd can
lock_alu_law alu_op.Sbb w m src next can fit none = absurd can
lock_alu_law alu_op.Cmp w m src next can fit none = absurd can
lock_alu_law alu_op.Test w m src next can fit none = absurd can

-- ---- LOCK with one operand

lock_one_wants : (op : OneOp) (w : Width) (m : Mem) (next x : ℕ) (s : Cpu) → x < 2 ^ bits_in w → finished (LockOne op w m) next (having s x) ≡ want.Private (going_to (with_flags (having s x) (one op (bits_in w) x s.flags).flags) next)
unfolding finished lock_one_end comparing
lock_one_wants op w m next x s l = rw (having_loaded w s x l)

lock_one : (op : OneOp) (kind : LockOp) (changed : Change) (w : Width) (m : Mem) (next : ℕ) → lock_one_op op ≡ Some kind → one_flags op ≡ all_but_carry → change_one op ≡ Some changed → change_of kind 1 ≡ ir_change changed → Lifts (LockOne op w m) next
unfolding first_access
lock_one op kind changed w m next is some by same =
    let i = LockOne op w m in
    lifts i next
    (λ a b c d e f g h s mid numbers.
    let at = address s next m in
    let lines = flag_lines all_but_carry (one_family op) w 1 None in
    rw is
    (locked_follows i next w 1 at 2 kind changed (address_line next m ∷ Const (ir_width w) 2 1 ∷ []) (alone lines ends.Tick) s (eight a b c d e f g h) (eight at b 1 d e f g h) mid numbers refl
    (ap (did_all (Const (ir_width w) 2 1 ∷ [])) (address_is next m s.regs (eight a b c d e f g h) s.flags s refl)) refl same (ap (locking s next w m) by)
    (λ x l.
    let t = having s x in
    let flags = (one op (bits_in w) x s.flags).flags in
    let temps = eight at x 1 d e f g h in
    private_follows i next lines (virtual s.regs temps s.flags) t (with_flags t flags) temps
    (ap (λ fs. did_all (flag_lines fs (one_family op) w 1 None) (virtual s.regs temps s.flags)) (sym some) ∙ flags_do (one_flags op) (one_family op) w 1 None s.regs temps s.flags ∙ ap (virtual s.regs temps) (one_flags_are op (bits_in w) x s.flags))
    (resumed i next t x refl ∙ lock_one_wants op w m next x s l) numbers refl)))

pub lock_one_law : (op : OneOp) (w : Width) (m : Mem) (next : ℕ) → CanLockOne op → Lifts (LockOne op w m) next
lock_one_law one_op.Inc w m next can = lock_one one_op.Inc lock.Add (change.Add 1) w m next refl refl refl refl
lock_one_law one_op.Dec w m next can = lock_one one_op.Dec lock.Sub (change.Sub 1) w m next refl refl refl refl
lock_one_law one_op.Not w m next can = absurd can
lock_one_law one_op.Neg w m next can = absurd can

-- ---- XADD

xadd_wants : (w : Width) (m : Mem) (r : Operand) (next x : ℕ) (s : Cpu) → x < 2 ^ bits_in w → finished (Xadd w m r) next (having s x) ≡ want.Private (going_to (with_flags (assigned (having s x) w r x) (add_of (bits_in w) x (value (having s x) w r) s.flags).flags) next)
unfolding finished xadd_end comparing
xadd_wants w m r next x s l = rw (having_loaded w s x l)

pub xadd_law : (w : Width) (m : Mem) (r : Operand) (next : ℕ) → RegisterFits w r → Lifts (Xadd w m r) next
unfolding first_access alu
xadd_law w m r next fit =
    let i = Xadd w m r in
    lifts i next
    (λ a b c d e f g h s mid numbers.
    let at = address s next m in
    let v = value s w r in
    let lines = flag_lines all_five family.Add w 1 (Some 2) in
    locked_follows i next w 1 at 2 lock.Add (change.Add v) (address_line next m ∷ reads w r 2) (alone (lines ++ puts w r 1) ends.Tick) s (eight a b c d e f g h) (eight at b v d e f g h) mid numbers refl
    (operand_do next w m r 2 a b c d e f g h s fit.fits fit.no_memory) refl refl refl
    (λ x l.
    let t = having s x in
    let flags = (add_of (bits_in w) x v s.flags).flags in
    let temps = eight at x v d e f g h in
    let sum = ap (λ y. want.Private (going_to (with_flags (assigned t w r x) (add_of (bits_in w) x y s.flags).flags) next)) (value_after w r s x fit.no_memory) in
    private_follows i next (lines ++ puts w r 1) (virtual s.regs temps s.flags) t (with_flags (assigned t w r x) flags) temps
    (after lines (puts w r 1) (virtual s.regs temps s.flags) (virtual s.regs temps flags)
    (flags_do all_five family.Add w 1 (Some 2) s.regs temps s.flags ∙ ap (virtual s.regs temps) (alu_flags alu_op.Add (bits_in w) x v s.flags))
    ∙ puts_do w r 1 temps flags t fit.fits l)
    (resumed i next t x refl ∙ xadd_wants w m r next x s l ∙ sum) (assigned_numbers w r x t l numbers) refl))

-- ---- XCHG with memory

given_register : (w : Width) (o : Operand) (next x : ℕ) (s : Cpu) → is_memory o ≡ false → is_immediate o ≡ false → want.Private (going_to (assigned s w o x) next) ≡ given s next w o x
unfolding given
given_register w (operand.Reg r) next x s e f = refl
given_register w (operand.High r) next x s e f = refl
given_register w (operand.Imm n) next x s e f = let no : ⊥ = cc in absurd no
given_register w (operand.Mem m) next x s e f = let no : ⊥ = cc in absurd no

exchanged_wants : (w : Width) (m : Mem) (r : Operand) (next x : ℕ) (s : Cpu) → x < 2 ^ bits_in w → finished (Xchg w (operand.Mem m) r) next (having s x) ≡ want.Private (going_to (assigned (having s x) w r x) next)
unfolding finished exchanged assigned
exchanged_wants w m r next x s l = rw (having_value w m s x l)

pub exchange_law : (w : Width) (m : Mem) (r : Operand) (next : ℕ) → RegisterFits w r → Lifts (Xchg w (operand.Mem m) r) next
unfolding first_access
exchange_law w m r next fit =
    let i = Xchg w (operand.Mem m) r in
    lifts i next
    (λ a b c d e f g h s mid numbers.
    let at = address s next m in
    let v = value s w r in
    locked_follows i next w 2 at 1 lock.Xchg (change.Xchg v) (address_line next m ∷ reads w r 1) (given_at [] w r 2) s (eight a b c d e f g h) (eight at v c d e f g h) mid numbers refl
    (operand_do next w m r 1 a b c d e f g h s fit.fits fit.no_memory) refl refl refl
    (λ x l.
    let t = having s x in
    given_follows i next w r 2 [] (virtual s.regs (eight at v x d e f g h) s.flags) t t (eight at v x d e f g h) refl l (record { fits = fit.fits; place = fit.place }) (is_at_none next t (eight at v x d e f g h) r fit.no_memory)
    (resumed i next t x refl ∙ exchanged_wants w m r next x s l ∙ given_register w r next x t fit.no_memory fit.place) numbers refl))
