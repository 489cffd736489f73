-- What the assembler makes of the two functions has room.
use Rattle.std.proofs.Common.{◌≡◌, ℕ, ◌≤◌, true, length, refl, arith}
use Rattle.std.specs.Prelude.{nat_lt}
use Rattle.std.specs.List.{AllByRecursion}
use Rattle.std.proofs.lemmas.Bool.{lt-ltb}
use Rattle.x86_forms.specs.declared.operands.Width.TheVariants.{W32}
use Rattle.x86_forms.specs.declared.operands.Operand.TheVariants.{Reg, Imm}
use Rattle.x86_forms.specs.declared.instructions.AluOp.TheVariants.{Cmp}
use Rattle.x86_forms.specs.declared.instructions.Instr.TheVariants.{Alu, Mov}
use Rattle.guest_asm.specs.Assembling.{CanBeWritten, usual}
use Rattle.guest_gen.specs.Program.{main_lines, worker_lines}
use Rattle.guest_gen.specs.Spelling.{CanStand, most_of}

cmp_can : (n : ℕ) → n ≤ 63 → CanBeWritten (Alu Cmp W32 (Reg 3) (Imm n))
cmp_can n h = let small : nat_lt n 4294967296 ≡ true = lt-ltb n 4294967296 (omega (arith, h)) in rw small refl

cmp_size : (n : ℕ) → n ≤ 63 → length (usual (Alu Cmp W32 (Reg 3) (Imm n))) ≡ 3
cmp_size n h =
    let short : nat_lt n 128 ≡ true = lt-ltb n 128 (omega (arith, h)) in
    let small : nat_lt n 4294967296 ≡ true = lt-ltb n 4294967296 (omega (arith, h)) in
    rw (small, short) refl

rounds_can : (n : ℕ) → n ≤ 1000000 → CanBeWritten (Mov W32 (Reg 13) (Imm n))
rounds_can n h = let small : nat_lt n 4294967296 ≡ true = lt-ltb n 4294967296 (omega (arith, h)) in rw small refl

pub main_can : (threads : ℕ) → threads ≤ 63 → AllByRecursion CanStand (main_lines threads)
main_can threads h = let cmp = cmp_can threads h in (refl, (tt, (refl, (refl, (refl, (refl, (omega arith, (refl, (cmp, (tt, (refl, (tt, (refl, (refl, (omega arith, (refl, (cmp, (tt, (refl, (refl, (refl, (omega arith, (refl, (refl, (refl, (refl, (omega arith, tt)))))))))))))))))))))))))))

pub main_size : (threads : ℕ) → threads ≤ 63 → most_of (main_lines threads) ≤ 0x100
main_size threads h = rw (cmp_size threads h) (omega arith)

pub worker_can : (rounds : ℕ) → rounds ≤ 1000000 → AllByRecursion CanStand (worker_lines rounds)
worker_can rounds h = (refl, (rounds_can rounds h, (tt, (refl, (refl, (refl, (omega arith, (refl, (refl, (refl, (refl, (omega arith, (refl, (tt, (refl, (refl, tt))))))))))))))))

pub worker_size : (rounds : ℕ) → rounds ≤ 1000000 → most_of (worker_lines rounds) ≤ 0xf00
worker_size rounds h = omega arith
