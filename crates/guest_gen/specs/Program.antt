-- The lines of the generated program. Registers are 0 rax, 1 rcx, 2 rdx, 3 rbx, 6 rsi, 7 rdi, 12 r12 and 13 r13.
use Rattle.std.specs.Prelude.{ℕ, pos, List, [], ◌∷◌, Some, None}
use Rattle.x86_forms.specs.declared.operands.Width.TheVariants.{W32, W64}
use Rattle.x86_forms.specs.declared.operands.Base.TheVariants as base
use Rattle.x86_forms.specs.declared.operands.Mem.{Mem}
use Rattle.x86_forms.specs.declared.operands.Operand.TheVariants.{Reg, Imm}
use Rattle.x86_forms.specs.declared.operands.Operand.TheVariants as operand
use Rattle.x86_forms.specs.declared.conditions.Cond.TheVariants.{Ne}
use Rattle.x86_forms.specs.declared.instructions.AluOp.TheVariants.{Add, Cmp, Xor}
use Rattle.x86_forms.specs.declared.instructions.OneOp.TheVariants.{Inc, Dec}
use Rattle.x86_forms.specs.declared.instructions.Instr.TheVariants.{Alu, Mov, Lea, One, Set, Ret, Xadd}
use Rattle.guest_gen.specs.declared.line.Line.{Line}
use Rattle.guest_gen.specs.declared.line.Line.TheVariants.{Label, Plain, Call, Jne}

-- ---- operands

-- [address]
abbrev pub at : ℕ → Mem
at address = record { base = base.None; index = None; scale = 1; disp = pos address }

-- [rbx * 8 + address]
abbrev pub item : ℕ → Mem
item address = record { base = base.None; index = Some 3; scale = 8; disp = pos address }

-- ---- the functions of the library

abbrev pub exit : ℕ
exit = 0x401f00

abbrev pub write : ℕ
write = 0x401f10

abbrev pub pthread_create : ℕ
pthread_create = 0x401f30

abbrev pub pthread_join : ℕ
pthread_join = 0x401f40

abbrev pub pthread_mutex_lock : ℕ
pthread_mutex_lock = 0x401f70

abbrev pub pthread_mutex_unlock : ℕ
pthread_mutex_unlock = 0x401f90

-- ---- the program

-- from 0x401000: so many threads are created and joined, both counters are written, and the status says whether they differ
abbrev pub main_lines : ℕ → List Line
main_lines threads =
    Plain (Alu Xor W32 (Reg 3) (Reg 3))  -- xor ebx, ebx
    ∷ Label
    ∷ Plain (Lea W64 7 (item 0x402400))  -- lea rdi, [rbx * 8 + 0x402400]
    ∷ Plain (Alu Xor W32 (Reg 6) (Reg 6))  -- xor esi, esi
    ∷ Plain (Mov W32 (Reg 2) (Imm 0x401100))  -- mov edx, 0x401100
    ∷ Plain (Mov W64 (Reg 1) (operand.Mem (item 0x402100)))  -- mov rcx, [rbx * 8 + 0x402100]
    ∷ Call pthread_create
    ∷ Plain (One Inc W32 (Reg 3))  -- inc ebx
    ∷ Plain (Alu Cmp W32 (Reg 3) (Imm threads))  -- cmp ebx, THREADS
    ∷ Jne
    ∷ Plain (Alu Xor W32 (Reg 3) (Reg 3))  -- xor ebx, ebx
    ∷ Label
    ∷ Plain (Mov W64 (Reg 7) (operand.Mem (item 0x402400)))  -- mov rdi, [rbx * 8 + 0x402400]
    ∷ Plain (Alu Xor W32 (Reg 6) (Reg 6))  -- xor esi, esi
    ∷ Call pthread_join
    ∷ Plain (One Inc W32 (Reg 3))  -- inc ebx
    ∷ Plain (Alu Cmp W32 (Reg 3) (Imm threads))  -- cmp ebx, THREADS
    ∷ Jne
    ∷ Plain (Mov W32 (Reg 7) (Imm 1))  -- mov edi, 1
    ∷ Plain (Mov W32 (Reg 6) (Imm 0x402000))  -- mov esi, 0x402000
    ∷ Plain (Mov W32 (Reg 2) (Imm 16))  -- mov edx, 16
    ∷ Call write
    ∷ Plain (Mov W64 (Reg 0) (operand.Mem (at 0x402000)))  -- mov rax, [0x402000]
    ∷ Plain (Alu Xor W32 (Reg 7) (Reg 7))  -- xor edi, edi
    ∷ Plain (Alu Cmp W64 (Reg 0) (operand.Mem (at 0x402008)))  -- cmp rax, [0x402008]
    ∷ Plain (Set Ne (Reg 7))  -- setne dil
    ∷ Call exit
    ∷ []

-- from 0x401100: in each of so many rounds the thread's number is added to the first counter in one locked step, and to the second under the mutex at 0x402010
abbrev pub worker_lines : ℕ → List Line
worker_lines rounds =
    Plain (Mov W64 (Reg 12) (Reg 7))  -- mov r12, rdi
    ∷ Plain (Mov W32 (Reg 13) (Imm rounds))  -- mov r13d, ROUNDS
    ∷ Label
    ∷ Plain (Mov W64 (Reg 0) (Reg 12))  -- mov rax, r12
    ∷ Plain (Xadd W64 (at 0x402000) (Reg 0))  -- lock xadd [0x402000], rax
    ∷ Plain (Mov W32 (Reg 7) (Imm 0x402010))  -- mov edi, 0x402010
    ∷ Call pthread_mutex_lock
    ∷ Plain (Mov W64 (Reg 0) (operand.Mem (at 0x402008)))  -- mov rax, [0x402008]
    ∷ Plain (Alu Add W64 (Reg 0) (Reg 12))  -- add rax, r12
    ∷ Plain (Mov W64 (operand.Mem (at 0x402008)) (Reg 0))  -- mov [0x402008], rax
    ∷ Plain (Mov W32 (Reg 7) (Imm 0x402010))  -- mov edi, 0x402010
    ∷ Call pthread_mutex_unlock
    ∷ Plain (One Dec W32 (Reg 13))  -- dec r13d
    ∷ Jne
    ∷ Plain (Alu Xor W32 (Reg 0) (Reg 0))  -- xor eax, eax
    ∷ Plain (Ret 0)  -- ret
    ∷ []
