-- How the parts of an instruction follow a thread: each asks for what the thread wants, and where the instruction
-- ends the virtual registers agree with the thread again.
use Rattle.std.specs.Prelude.{◌≡◌, ℕ, ◌<◌, ◌^◌, List, [], ◌∷◌, length, slice_index, Option, Some, None, ⊤}
use Rattle.guest_state.specs.declared.virtual_state.Virtual.{Virtual}
use Rattle.ir_meaning.specs.Does.{does, answered, flags_of}
use Rattle.ir_syntax.specs.declared.block.Part.{Part}
use Rattle.ir_syntax.specs.declared.request.BadKind.TheVariants as bad_kind
use Rattle.ir_syntax.specs.declared.request.Change.{Change as IrChange}
use Rattle.ir_syntax.specs.declared.request.Change.TheVariants as ir
use Rattle.ir_syntax.specs.declared.request.Request.{Request}
use Rattle.ir_syntax.specs.declared.request.Request.TheVariants as ask
use Rattle.x86_forms.specs.declared.operands.Width.TheVariants.{W64}
use Rattle.x86_forms.specs.declared.instructions.Instr.{Instr}
use Rattle.x86_forms.specs.Widths.{bits_in}
use Rattle.x86_model.specs.declared.cpu.Cpu.{Cpu}
use Rattle.x86_model.specs.declared.want.BadStep.TheVariants as bad_step
use Rattle.x86_model.specs.declared.want.Change.{Change}
use Rattle.x86_model.specs.declared.want.Change.TheVariants as change
use Rattle.x86_model.specs.declared.want.Want.{Want}
use Rattle.x86_model.specs.declared.want.Want.TheVariants as want
use Rattle.x86_model.specs.Want.{want_of}
use Rattle.lift_table.specs.LiftLines.{ir_width}
use Rattle.lift_table.specs.LiftTable.{lifted}

-- ---- requests

abbrev pub ir_change : Change → IrChange
ir_change (change.Xchg v) = ir.Xchg v
ir_change (change.Add v) = ir.Add v
ir_change (change.Sub v) = ir.Sub v
ir_change (change.And v) = ir.And v
ir_change (change.Or v) = ir.Or v
ir_change (change.Xor v) = ir.Xor v
ir_change (change.Cmpxchg expected new) = ir.Cmpxchg expected new

-- The request is what the thread wants. `Tick` and `Go` stand for a private step, and `StoreGo` for a store of 64 bits.
-- Where the instruction ends, `done` holds of the place at which the block goes on and of the thread then; where an
-- answer of n bits comes, `more n` holds.
abbrev pub Meets : Request → Want → ℕ → (ℕ → Cpu → Type 0) → (ℕ → Type 0) → Type 0
Meets ask.Tick (want.Private s) next done more = done next s
Meets (ask.Go a) (want.Private s) next done more = done a s
Meets (ask.Store a w v) (want.Store at u x s) next done more = (a ≡ at) × (w ≡ ir_width u) × (v ≡ x) × done next s
Meets (ask.StoreGo a v to) (want.Store at u x s) next done more = (a ≡ at) × (W64 ≡ u) × (v ≡ x) × done to s
Meets ask.Fence (want.Fence s) next done more = done next s
Meets (ask.Load a w) (want.Load at u) next done more = (a ≡ at) × (w ≡ ir_width u) × more (bits_in u)
Meets (ask.Locked a w c) (want.Locked at u d) next done more = (a ≡ at) × (w ≡ ir_width u) × (c ≡ ir_change d) × more (bits_in u)
Meets (ask.Bad bad_kind.Code) (want.Bad bad_step.Code) next done more = ⊤
Meets (ask.Bad bad_kind.Divide) (want.Bad bad_step.Divide) next done more = ⊤
Meets _ _ next done more = ⊥

-- ---- states

-- The virtual registers agree with a thread that has loaded this, or nothing, in all registers and flags. The numbers
-- are those that the types hold.
pub record Agrees (loaded : Option ℕ) (v : Virtual) (s : Cpu) : Type 0 where
  pub regs : v.regs ≡ s.regs
  pub flags : flags_of v ≡ s.flags
  pub mid : s.mid ≡ loaded
  pub count : length s.regs ≡ 16
  pub each : (r : ℕ) → slice_index s.regs r < 2 ^ 64
  pub temps : length v.temps ≡ 8

-- a thread that has loaded a value
abbrev pub having : Cpu → ℕ → Cpu
having s x = record s { mid = Some x }

-- ---- one instruction

-- These parts of an instruction follow a thread, and `then` holds where the instruction ends: of the place at which the
-- block goes on, the virtual registers and the thread. Nothing in registers or flags changes before.
abbrev pub Follows : Instr → ℕ → List Part → Virtual → Cpu → (ℕ → Virtual → Cpu → Type 0) → Type 0
Follows i next [] v s then = ⊥
Follows i next (p ∷ ps) v s then =
    Meets (does p v).request (want_of i next s) next
    (λ a t. (ps ≡ []) × then a (does p v).state t)
    (λ n. (x : ℕ) → x < 2 ^ n → Agrees (Some x) (answered p.end x (does p v).state) (having s x) × Follows i next ps (answered p.end x (does p v).state) (having s x) then)

-- the block goes on where the thread does, and they agree
abbrev pub Onward : ℕ → Virtual → Cpu → Type 0
Onward a v s = (a ≡ s.rip) × Agrees None v s

-- from every state that agrees, the parts of the table follow the thread and agree again
abbrev pub Lifts : Instr → ℕ → Type 0
Lifts i next = (v : Virtual) (s : Cpu) → Agrees None v s → Follows i next (lifted i next) v s Onward
