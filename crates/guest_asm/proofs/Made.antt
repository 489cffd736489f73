-- What is put together for an instruction that the assembler takes spells it.
use Rattle.std.proofs.Common.{◌≡◌, Bool, true}
use Rattle.std.proofs.lemmas.Bool.{and_parts}
use Rattle.x86_forms.specs.declared.instructions.Instr.{Instr}
use Rattle.x86_forms.specs.declared.instructions.Instr.TheVariants as instr
use Rattle.guest_asm.specs.Places.{below, mem_can}
use Rattle.guest_asm.specs.Pieces.{marks_can}
use Rattle.guest_asm.specs.Encodable.{register_can, rm_can, value_can, imul_can, is_wide, is_over8, zx_can, sx_can, shift_can, can_lock, can_lock_one, can, Typed}
use Rattle.guest_asm.specs.Choices.{pieces}
use Rattle.guest_asm.proofs.Written.{Written, alu_written, lock_written}
use Rattle.guest_asm.proofs.WrittenMov.{mov_written, zx_written, sx_written, lea_written, push_written, pop_written, xchg_written}
use Rattle.guest_asm.proofs.WrittenRest.{one_written, lock_one_written, mul_written, div_written, imul_written, shift_written, widen_written, spread_written, set_written, cmov_written, jcc_written, jmp_written, call_written, jmp_to_written, call_to_written, ret_written, leave_written, nop_written, pause_written, endbr_written, mfence_written, xadd_written, cmpxchg_written}

pub made : (no_rex : Bool) (i : Instr) → Typed i → can no_rex i ≡ true → Written i (pieces no_rex i)
made no_rex (instr.Alu op w dst src) t h = let p = and_parts (marks_can no_rex w) _ h in alu_written no_rex op w dst src t.0 t.1 p.0 p.1
made no_rex (instr.Mov w dst src) t h = let p = and_parts (marks_can no_rex w) _ h in mov_written no_rex w dst src t.0 t.1 p.0 p.1
made no_rex (instr.Zx from w dst src) t h = let p = and_parts (marks_can no_rex w) _ h in let q = and_parts (zx_can from w) _ p.1 in let r = and_parts (below no_rex dst) (rm_can no_rex from src) q.1 in zx_written no_rex from w dst src t p.0 q.0 r.0 r.1
made no_rex (instr.Sx from w dst src) t h = let p = and_parts (marks_can no_rex w) _ h in let q = and_parts (sx_can from w) _ p.1 in let r = and_parts (below no_rex dst) (rm_can no_rex from src) q.1 in sx_written no_rex from w dst src t p.0 q.0 r.0 r.1
made no_rex (instr.Lea w dst m) t h = let p = and_parts (marks_can no_rex w) _ h in let q = and_parts (is_over8 w) _ p.1 in let r = and_parts (below no_rex dst) (mem_can no_rex m) q.1 in lea_written no_rex w dst m t p.0 q.0 r.0 r.1
made no_rex (instr.Push src) t h = push_written no_rex src t h
made no_rex (instr.Pop dst) t h = pop_written no_rex dst h
made no_rex (instr.One op w dst) t h = let p = and_parts (marks_can no_rex w) (rm_can no_rex w dst) h in one_written no_rex op w dst t p.0 p.1
made no_rex (instr.Mul s w src) t h = let p = and_parts (marks_can no_rex w) _ h in let q = and_parts (is_wide w) (rm_can no_rex w src) p.1 in mul_written no_rex s w src t p.0 q.0 q.1
made no_rex (instr.Imul w dst a b) t h = let p = and_parts (marks_can no_rex w) _ h in let q = and_parts (is_wide w) _ p.1 in let r = and_parts (below no_rex dst) (imul_can no_rex w dst a b) q.1 in imul_written no_rex w dst a b t.0 t.1 p.0 q.0 r.0 r.1
made no_rex (instr.Div s w src) t h = let p = and_parts (marks_can no_rex w) _ h in let q = and_parts (is_wide w) (rm_can no_rex w src) p.1 in div_written no_rex s w src t p.0 q.0 q.1
made no_rex (instr.Shift op w dst count) t h = let p = and_parts (marks_can no_rex w) _ h in let q = and_parts (shift_can op w) (rm_can no_rex w dst) p.1 in shift_written no_rex op w dst count t.0 t.1 p.0 q.0 q.1
made no_rex (instr.Widen w) t h = let p = and_parts (marks_can no_rex w) (is_wide w) h in widen_written no_rex w p.0 p.1
made no_rex (instr.Spread w) t h = let p = and_parts (marks_can no_rex w) (is_wide w) h in spread_written no_rex w p.0 p.1
made no_rex (instr.Xchg w a b) t h = let p = and_parts (marks_can no_rex w) _ h in let q = and_parts (rm_can no_rex w a) (register_can no_rex w b) p.1 in xchg_written no_rex w a b t p.0 q.0 q.1
made no_rex (instr.Set c dst) t h = set_written no_rex c dst t h
made no_rex (instr.Cmov c w dst src) t h = let p = and_parts (marks_can no_rex w) _ h in let q = and_parts (is_wide w) _ p.1 in let r = and_parts (below no_rex dst) (rm_can no_rex w src) q.1 in cmov_written no_rex c w dst src t p.0 q.0 r.0 r.1
made no_rex (instr.Jcc c rel) t h = jcc_written c rel t
made no_rex (instr.Jmp rel) t h = jmp_written rel t
made no_rex (instr.JmpTo src) t h = jmp_to_written no_rex src t h
made no_rex (instr.Call rel) t h = call_written rel t
made no_rex (instr.CallTo src) t h = call_to_written no_rex src t h
made no_rex (instr.Ret n) t h = ret_written n t
made no_rex instr.Leave t h = leave_written
made no_rex instr.Nop t h = nop_written
made no_rex instr.Pause t h = pause_written
made no_rex instr.Endbr t h = endbr_written
made no_rex instr.Mfence t h = mfence_written
made no_rex (instr.LockAlu op w m src) t h = let p = and_parts (marks_can no_rex w) _ h in let q = and_parts (can_lock op) _ p.1 in let r = and_parts (mem_can no_rex m) (value_can no_rex w src) q.1 in lock_written no_rex op w m src t.0 t.1 p.0 q.0 r.0 r.1
made no_rex (instr.LockOne op w m) t h = let p = and_parts (marks_can no_rex w) _ h in let q = and_parts (can_lock_one op) (mem_can no_rex m) p.1 in lock_one_written no_rex op w m t p.0 q.0 q.1
made no_rex (instr.Xadd w m reg) t h = let p = and_parts (marks_can no_rex w) _ h in let q = and_parts (mem_can no_rex m) (register_can no_rex w reg) p.1 in xadd_written no_rex w m reg t p.0 q.0 q.1
made no_rex (instr.Cmpxchg w m reg) t h = let p = and_parts (marks_can no_rex w) _ h in let q = and_parts (mem_can no_rex m) (register_can no_rex w reg) p.1 in cmpxchg_written no_rex w m reg t p.0 q.0 q.1
