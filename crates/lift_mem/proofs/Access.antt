-- The first access of an instruction to memory, and what it asks for once the answer is there.
use Rattle.std.proofs.Common.{◌≡◌, ℕ, ◌<◌, ◌^◌, refl, ap, sym, ◌∙◌, subst, Bool, true, false, List, [], ◌∷◌, ◌++◌, length, length-set, get_or-set_same, arith, Option, Some, None}
use Rattle.std.specs.Prelude.{slice_index, slice_set}
use Rattle.ir_meaning.specs.Does.{did, did_all, answered}
use Rattle.ir_syntax.specs.declared.block.Part.{Part}
use Rattle.ir_syntax.specs.declared.line.Op.{Op}
use Rattle.ir_syntax.specs.declared.line.Op.TheVariants.{Get}
use Rattle.ir_syntax.specs.declared.line.LockOp.{LockOp}
use Rattle.ir_syntax.specs.declared.line.PartEnd.TheVariants as ends
use Rattle.ir_syntax.specs.declared.width.Width.TheVariants as ir
use Rattle.ir_meaning.specs.Does.{change_of}
use Rattle.x86_forms.specs.declared.operands.Width.{Width}
use Rattle.x86_forms.specs.declared.operands.Width.TheVariants.{W64}
use Rattle.x86_forms.specs.declared.operands.Mem.{Mem}
use Rattle.x86_forms.specs.declared.operands.Operand.{Operand}
use Rattle.x86_forms.specs.declared.operands.Operand.TheVariants as operand
use Rattle.x86_forms.specs.declared.instructions.Instr.{Instr}
use Rattle.x86_forms.specs.Groups.{is_memory}
use Rattle.x86_forms.specs.Widths.{bits_in}
use Rattle.x86_model.specs.declared.cpu.Cpu.{Cpu}
use Rattle.x86_model.specs.declared.want.Change.{Change}
use Rattle.x86_model.specs.declared.want.Change.TheVariants as change
use Rattle.x86_model.specs.declared.want.Want.{Want}
use Rattle.x86_model.specs.declared.want.Want.TheVariants as want
use Rattle.x86_model.specs.Accesses.{first_access, memory_in, memory_of}
use Rattle.x86_model.specs.Finishing.{finished}
use Rattle.x86_model.specs.Operands.{address, value}
use Rattle.x86_model.specs.Registers.{reg, low, get, loaded}
use Rattle.x86_model.specs.Want.{want_of}
use Rattle.lift_table.specs.Follow.{Agrees, Follows, Onward, having, ir_change}
use Rattle.lift_table.specs.LiftLines.{ir_width, loads, address_line}
use Rattle.lift_table.proofs.LiftNumbers.{low_same}
use Rattle.lift_table.proofs.LiftWords.{virtual, address_is}
use Rattle.lift_table.proofs.LiftFollow.{Numbers}

-- ---- what a thread wants before and after its first access

pub wants_access : (i : Instr) (next : ℕ) (s : Cpu) (access : Want) → s.mid ≡ None → first_access i next s ≡ Some access → want_of i next s ≡ access
unfolding want_of
wants_access i next s access m e = rw (e, m)

pub wants_end : (i : Instr) (next : ℕ) (s : Cpu) → s.mid ≡ None → first_access i next s ≡ None → want_of i next s ≡ finished i next s
unfolding want_of
wants_end i next s m e = rw (e, m)

-- an operand that isn't in memory is nowhere
pub outside_memory : (o : Operand) → is_memory o ≡ false → memory_of o ≡ None
outside_memory (operand.Reg r) e = refl
outside_memory (operand.High r) e = refl
outside_memory (operand.Imm n) e = refl
outside_memory (operand.Mem m) e = let no : ⊥ = cc in absurd no

-- the loaded value is what was answered
pub having_loaded : (w : Width) (s : Cpu) (x : ℕ) → x < 2 ^ bits_in w → loaded (having s x) w ≡ x
unfolding loaded
having_loaded w s x h = low_same w x h

pub having_value : (w : Width) (m : Mem) (s : Cpu) (x : ℕ) → x < 2 ^ bits_in w → value (having s x) w (operand.Mem m) ≡ x
unfolding value
having_value w m s x h = having_loaded w s x h

-- addresses don't depend on what was loaded
pub having_address : (next : ℕ) (m : Mem) (s : Cpu) (x : ℕ) → address (having s x) next m ≡ address s next m
unfolding address
having_address next m s x = refl

-- ---- the part that reads memory first

answer_agrees : (s : Cpu) (temps : List ℕ) (t x : ℕ) → Numbers s.regs → length temps ≡ 8 → Agrees (Some x) (virtual s.regs (slice_set temps t x) s.flags) (having s x)
answer_agrees s temps t x h room = record { regs = refl; flags = refl; mid = refl; count = h.count; each = h.each; temps = length-set temps t x ∙ room }

-- lines put an address into t0, from where the part loads to temporary t
pub load_follows : (i : Instr) (next : ℕ) (w : Width) (t a : ℕ) (ops : List Op) (rest : List Part) (s : Cpu) (before temps : List ℕ) → s.mid ≡ None → Numbers s.regs → length temps ≡ 8 → did_all ops (virtual s.regs before s.flags) ≡ virtual s.regs temps s.flags → slice_index temps 0 ≡ a → first_access i next s ≡ Some (want.Load a w) → ((x : ℕ) → x < 2 ^ bits_in w → Follows i next rest (virtual s.regs (slice_set temps t x) s.flags) (having s x) Onward) → Follows i next (record { ops = ops; end = ends.Load (ir_width w) t 0 } ∷ rest) (virtual s.regs before s.flags) s Onward
load_follows i next w t a ops rest s before temps m numbers room lines at access after =
    rw (lines, wants_access i next s (want.Load a w) m access) (at, refl, λ x h. (answer_agrees s temps t x numbers room, after x h))

-- the same for a locked change of memory by temporary k
pub locked_follows : (i : Instr) (next : ℕ) (w : Width) (t a k : ℕ) (kind : LockOp) (change : Change) (ops : List Op) (rest : List Part) (s : Cpu) (before temps : List ℕ) → s.mid ≡ None → Numbers s.regs → length temps ≡ 8 → did_all ops (virtual s.regs before s.flags) ≡ virtual s.regs temps s.flags → slice_index temps 0 ≡ a → change_of kind (slice_index temps k) ≡ ir_change change → first_access i next s ≡ Some (want.Locked a w change) → ((x : ℕ) → x < 2 ^ bits_in w → Follows i next rest (virtual s.regs (slice_set temps t x) s.flags) (having s x) Onward) → Follows i next (record { ops = ops; end = ends.Locked kind (ir_width w) t 0 k } ∷ rest) (virtual s.regs before s.flags) s Onward
locked_follows i next w t a k kind change ops rest s before temps m numbers room lines at same access after =
    rw (lines, wants_access i next s (want.Locked a w change) m access) (at, refl, same, λ x h. (answer_agrees s temps t x numbers room, after x h))

-- memory is compared with temporary c, and becomes temporary k where it is equal
pub cmpxchg_follows : (i : Instr) (next : ℕ) (w : Width) (t a c k expected new : ℕ) (ops : List Op) (rest : List Part) (s : Cpu) (before temps : List ℕ) → s.mid ≡ None → Numbers s.regs → length temps ≡ 8 → did_all ops (virtual s.regs before s.flags) ≡ virtual s.regs temps s.flags → slice_index temps 0 ≡ a → slice_index temps c ≡ expected → slice_index temps k ≡ new → first_access i next s ≡ Some (want.Locked a w (change.Cmpxchg expected new)) → ((x : ℕ) → x < 2 ^ bits_in w → Follows i next rest (virtual s.regs (slice_set temps t x) s.flags) (having s x) Onward) → Follows i next (record { ops = ops; end = ends.LockedCmpxchg (ir_width w) t 0 c k } ∷ rest) (virtual s.regs before s.flags) s Onward
cmpxchg_follows i next w t a c k expected new ops rest s before temps m numbers room lines at left right access after =
    rw (lines, wants_access i next s (want.Locked a w (change.Cmpxchg expected new)) m access) (at, refl, rw (left, right), λ x h. (answer_agrees s temps t x numbers room, after x h))

-- the same part for an operand in memory, from any temporaries
pub loads_follows : (i : Instr) (next : ℕ) (w : Width) (m : Mem) (t : ℕ) (rest : List Part) (s : Cpu) (temps : List ℕ) → s.mid ≡ None → Numbers s.regs → length temps ≡ 8 → first_access i next s ≡ Some (want.Load (address s next m) w) → ((x : ℕ) → x < 2 ^ bits_in w → Follows i next rest (virtual s.regs (slice_set (slice_set temps 0 (address s next m)) t x) s.flags) (having s x) Onward) → Follows i next (loads next w (operand.Mem m) t ++ rest) (virtual s.regs temps s.flags) s Onward
loads_follows i next w m t rest s temps none numbers room access after =
    let inside : 0 < length temps = omega arith in
    load_follows i next w t (address s next m) (address_line next m ∷ []) rest s temps (slice_set temps 0 (address s next m)) none numbers (length-set temps 0 (address s next m) ∙ room) (address_is next m s.regs temps s.flags s refl) (get_or-set_same temps 0 (address s next m) 0 inside) access after

-- the second of two operands is in memory
pub second_in_memory : (o : Operand) (m : Mem) → is_memory o ≡ false → memory_in o (operand.Mem m) ≡ Some m
second_in_memory (operand.Reg r) m e = refl
second_in_memory (operand.High r) m e = refl
second_in_memory (operand.Imm n) m e = refl
second_in_memory (operand.Mem k) m e = let no : ⊥ = cc in absurd no
