-- The last part of each instruction that moves, widens or chooses.
use Rattle.std.proofs.Common.{◌≡◌, ℕ, ◌%◌, ◌<◌, ◌≤◌, ◌^◌, arith, ap, sym, ◌∙◌, refl, subst, Bool, true, false, List, [], ◌∷◌, ◌++◌, lit<, lit≤}
use Rattle.std.proofs.Math.Nat.{mod-mod}
use Rattle.std.proofs.lemmas.Nat.{mod_below, pow_pos}
use Rattle.std.specs.Prelude.{◌==◌, if◌then◌else◌}
use Rattle.std.specs.Int.{from_bool}
use native.Mathlib.Nat.{mod-eq_of_lt}
use Rattle.ir_meaning.specs.Does.{did_all}
use Rattle.ir_meaning.proofs.ResultLemmas.{low_bits_lt}
use Rattle.ir_syntax.specs.declared.line.Op.{Op}
use Rattle.ir_syntax.specs.declared.line.Op.TheVariants.{Get, Cond, Pick, Zext, Sext, Cut}
use Rattle.ir_syntax.specs.declared.line.PartEnd.TheVariants as ends
use Rattle.ir_syntax.specs.declared.width.Width.TheVariants as ir
use Rattle.x86_flags.specs.Numbers.{signed, low_bits}
use Rattle.x86_forms.specs.declared.conditions.Cond.{Cond as Condition}
use Rattle.x86_forms.specs.declared.operands.Width.{Width}
use Rattle.x86_forms.specs.declared.operands.Width.TheVariants.{W8, W16, W32, W64}
use Rattle.x86_forms.specs.declared.operands.Mem.{Mem}
use Rattle.x86_forms.specs.declared.operands.Operand.{Operand}
use Rattle.x86_forms.specs.declared.operands.Operand.TheVariants as operand
use Rattle.x86_forms.specs.declared.instructions.Instr.{Instr}
use Rattle.x86_forms.specs.declared.instructions.Instr.TheVariants.{Mov, Zx, Sx, Lea, Widen, Xchg, Set, Cmov, Nop, Pause, Endbr}
use Rattle.x86_forms.specs.Groups.{is_memory, touches_memory}
use Rattle.x86_forms.specs.Limits.{OperandFits, PlaceFits, PairFits, RegisterFits, Widens, IsWide}
use Rattle.x86_forms.specs.Widths.{bits_in}
use Rattle.x86_model.specs.declared.cpu.Cpu.{Cpu}
use Rattle.x86_model.specs.Finishing.{finished, cmov_want, exchanged}
use Rattle.x86_model.specs.Operands.{address, value, assigned, given}
use Rattle.x86_model.specs.Registers.{put, written, sign_extended, half}
use Rattle.x86_model.specs.Results.{holds}
use Rattle.x86_model.specs.Want.{want_of}
use Rattle.lift_table.specs.Follow.{Follows, Onward, Lifts}
use Rattle.lift_table.specs.LiftLines.{ir_width, ir_cond, address_line, addressed, reads, puts, alone, given_at}
use Rattle.lift_table.specs.LiftTable.{lifted, both_read, lea_parts, zero_extended_to, sign_extended_to, cmov_parts, xchg_parts}
use Rattle.lift_table.proofs.LiftNumbers.{extended, bits_pos}
use Rattle.lift_table.proofs.LiftWords.{virtual, after, same_bits, same_test, value_lt, reads_do, puts_do, address_is}
use Rattle.lift_table.proofs.LiftFollow.{Numbers, IsAt, private_follows, given_follows, assigned_numbers, assigned_flags, eight, lifts, quiet, no_loads, left_false, right_false}
use Rattle.lift_table.proofs.LiftAlu.{WasLoaded, not_loaded, both_do}

-- a register is written
pub register_fits : (w : Width) (r : ℕ) → r < 16 → PlaceFits w (operand.Reg r)
register_fits w r h = record { fits = h; place = refl }

-- ---- addresses

-- t0, once the address of an operand in memory is there
abbrev pub with_address : ℕ → Cpu → Operand → ℕ → ℕ
with_address next s (operand.Mem m) a = address s next m
with_address next s (operand.Reg r) a = a
with_address next s (operand.High r) a = a
with_address next s (operand.Imm n) a = a

pub addressed_do : (next : ℕ) (o : Operand) (a b c d e f g h : ℕ) (s : Cpu) → did_all (addressed next o) (virtual s.regs (eight a b c d e f g h) s.flags) ≡ virtual s.regs (eight (with_address next s o a) b c d e f g h) s.flags
addressed_do next (operand.Mem m) a b c d e f g h s = address_is next m s.regs (eight a b c d e f g h) s.flags s refl
addressed_do next (operand.Reg r) a b c d e f g h s = refl
addressed_do next (operand.High r) a b c d e f g h s = refl
addressed_do next (operand.Imm n) a b c d e f g h s = refl

pub addressed_at : (next : ℕ) (o : Operand) (a b c d e f g h : ℕ) (s : Cpu) → IsAt next s (eight (with_address next s o a) b c d e f g h) o
addressed_at next (operand.Mem m) a b c d e f g h s = refl
addressed_at next (operand.Reg r) a b c d e f g h s = tt
addressed_at next (operand.High r) a b c d e f g h s = tt
addressed_at next (operand.Imm n) a b c d e f g h s = tt

-- ---- MOV

pub mov_ends : (w : Width) (dst src : Operand) (next a b c d e f g h : ℕ) (s : Cpu) → PairFits w dst src → WasLoaded s w src b → Numbers s.regs → want_of (Mov w dst src) next s ≡ finished (Mov w dst src) next s → Follows (Mov w dst src) next (given_at (addressed next dst ++ reads w src 1) w dst 1) (virtual s.regs (eight a b c d e f g h) s.flags) s Onward
unfolding finished
mov_ends w dst src next a b c d e f g h s fit r numbers wants =
    let first = virtual s.regs (eight a b c d e f g h) s.flags in
    let x = with_address next s dst a in
    given_follows (Mov w dst src) next w dst 1 (addressed next dst ++ reads w src 1) first s s (eight x (value s w src) c d e f g h)
    (after (addressed next dst) (reads w src 1) first (virtual s.regs (eight x b c d e f g h) s.flags) (addressed_do next dst a b c d e f g h s) ∙ reads_do w src 1 (eight x b c d e f g h) s.flags s fit.source r)
    (value_lt w src s fit.source) fit.target (addressed_at next dst a (value s w src) c d e f g h s) wants numbers refl

pub mov_law : (w : Width) (dst src : Operand) (next : ℕ) → PairFits w dst src → touches_memory (Mov w dst src) ≡ false → Lifts (Mov w dst src) next
mov_law w dst src next fit none =
    let no_src = right_false (is_memory dst) (is_memory src) none in
    lifts (Mov w dst src) next
    (λ a b c d e f g h s mid numbers.
    rw (no_loads next w src 1 no_src) (mov_ends w dst src next a b c d e f g h s fit (not_loaded s w src b no_src) numbers (quiet (Mov w dst src) next s none mid)))

-- ---- MOVZX, MOVSX and MOVSXD, CWDE and CDQE

pub widens_le : (from w : Width) → Widens from w → 2 ^ bits_in from ≤ 2 ^ bits_in w
widens_le W8 W16 h = lit≤ tt
widens_le W8 W32 h = lit≤ tt
widens_le W8 W64 h = lit≤ tt
widens_le W16 W32 h = lit≤ tt
widens_le W16 W64 h = lit≤ tt
widens_le W32 w h = rw h (lit≤ tt)
widens_le W64 w h = absurd h
widens_le W8 W8 h = absurd h
widens_le W16 W8 h = absurd h
widens_le W16 W16 h = absurd h

pub widens_lt : (from w : Width) → Widens from w → bits_in from < bits_in w
widens_lt W8 W16 h = lit< tt
widens_lt W8 W32 h = lit< tt
widens_lt W8 W64 h = lit< tt
widens_lt W16 W32 h = lit< tt
widens_lt W16 W64 h = lit< tt
widens_lt W32 w h = rw h (lit< tt)
widens_lt W64 w h = absurd h
widens_lt W8 W8 h = absurd h
widens_lt W16 W8 h = absurd h
widens_lt W16 W16 h = absurd h

pub zero_extended_ends : (from w : Width) (src : Operand) (dst : ℕ) (i : Instr) (next a b c d e f g h : ℕ) (s : Cpu) → Widens from w → dst < 16 → OperandFits from src → WasLoaded s from src b → Numbers s.regs → want_of i next s ≡ given s next w (operand.Reg dst) (value s from src) → Follows i next (zero_extended_to from w src dst) (virtual s.regs (eight a b c d e f g h) s.flags) s Onward
zero_extended_ends from w src dst i next a b c d e f g h s wider fit_dst fit r numbers wants =
    let first = virtual s.regs (eight a b c d e f g h) s.flags in
    let x = value s from src in
    let less : x < 2 ^ bits_in w = omega (arith, value_lt from src s fit, widens_le from w wider) in
    given_follows i next w (operand.Reg dst) 2 (reads from src 1 ++ (Zext (bits_in from) (ir_width w) 2 1 ∷ [])) first s s (eight a x x d e f g h)
    (after (reads from src 1) (Zext (bits_in from) (ir_width w) 2 1 ∷ []) first (virtual s.regs (eight a x c d e f g h) s.flags) (reads_do from src 1 (eight a b c d e f g h) s.flags s fit r))
    less (register_fits w dst fit_dst) tt wants numbers refl

pub sign_extended_ends : (from w : Width) (src : Operand) (dst : ℕ) (i : Instr) (next a b c d e f g h : ℕ) (s : Cpu) → bits_in from < bits_in w → 2 ^ bits_in from ≤ 2 ^ bits_in w → dst < 16 → OperandFits from src → WasLoaded s from src b → Numbers s.regs → want_of i next s ≡ given s next w (operand.Reg dst) (sign_extended from w (value s from src)) → Follows i next (sign_extended_to from w src dst) (virtual s.regs (eight a b c d e f g h) s.flags) s Onward
sign_extended_ends from w src dst i next a b c d e f g h s wider range fit_dst fit r numbers wants =
    let first = virtual s.regs (eight a b c d e f g h) s.flags in
    let x = value s from src in
    let y = sign_extended from w x in
    let same : low_bits (bits_in w) (signed (bits_in from) x) ≡ y = extended from w x wider (value_lt from src s fit) range (bits_pos from) in
    let less : y < 2 ^ bits_in w = subst (λ (n : ℕ). n < 2 ^ bits_in w) same (low_bits_lt (bits_in w) (signed (bits_in from) x)) in
    given_follows i next w (operand.Reg dst) 2 (reads from src 1 ++ (Sext (bits_in from) (ir_width w) 2 1 ∷ [])) first s s (eight a x y d e f g h)
    (after (reads from src 1) (Sext (bits_in from) (ir_width w) 2 1 ∷ []) first (virtual s.regs (eight a x c d e f g h) s.flags) (reads_do from src 1 (eight a b c d e f g h) s.flags s fit r)
    ∙ ap (λ n. virtual s.regs (eight a x (low_bits n (signed (bits_in from) x)) d e f g h) s.flags) (same_bits w)
    ∙ ap (λ n. virtual s.regs (eight a x n d e f g h) s.flags) same)
    less (register_fits w dst fit_dst) tt wants numbers refl

pub zx_law : (from w : Width) (dst : ℕ) (src : Operand) (next : ℕ) → Widens from w → dst < 16 → PlaceFits from src → touches_memory (Zx from w dst src) ≡ false → Lifts (Zx from w dst src) next
unfolding finished
zx_law from w dst src next wider fit_dst fit none =
    lifts (Zx from w dst src) next
    (λ a b c d e f g h s mid numbers.
    rw (no_loads next from src 1 none) (zero_extended_ends from w src dst (Zx from w dst src) next a b c d e f g h s wider fit_dst fit.fits (not_loaded s from src b none) numbers (quiet (Zx from w dst src) next s none mid)))

pub sx_law : (from w : Width) (dst : ℕ) (src : Operand) (next : ℕ) → Widens from w → dst < 16 → PlaceFits from src → touches_memory (Sx from w dst src) ≡ false → Lifts (Sx from w dst src) next
unfolding finished
sx_law from w dst src next wider fit_dst fit none =
    lifts (Sx from w dst src) next
    (λ a b c d e f g h s mid numbers.
    rw (no_loads next from src 1 none) (sign_extended_ends from w src dst (Sx from w dst src) next a b c d e f g h s (widens_lt from w wider) (widens_le from w wider) fit_dst fit.fits (not_loaded s from src b none) numbers (quiet (Sx from w dst src) next s none mid)))

half_lt : (w : Width) → IsWide w → bits_in (half w) < bits_in w
half_lt W32 h = lit< tt
half_lt W64 h = lit< tt
half_lt W8 h = absurd h
half_lt W16 h = absurd h

half_le : (w : Width) → IsWide w → 2 ^ bits_in (half w) ≤ 2 ^ bits_in w
half_le W32 h = lit≤ tt
half_le W64 h = lit≤ tt
half_le W8 h = absurd h
half_le W16 h = absurd h

pub widen_law : (w : Width) (next : ℕ) → IsWide w → Lifts (Widen w) next
unfolding finished value
widen_law w next wide =
    lifts (Widen w) next
    (λ a b c d e f g h s mid numbers.
    sign_extended_ends (half w) w (operand.Reg 0) 0 (Widen w) next a b c d e f g h s (half_lt w wide) (half_le w wide) (lit< tt) (lit< tt) (not_loaded s (half w) (operand.Reg 0) b refl) numbers (quiet (Widen w) next s refl mid))

-- ---- LEA

-- a write keeps low bits alone
low_given : (w : Width) (dst x : ℕ) (next : ℕ) (s : Cpu) → x < 2 ^ 64 → given s next w (operand.Reg dst) (x % 2 ^ bits_in w) ≡ given s next w (operand.Reg dst) x
unfolding given assigned put written
low_given W8 dst x next s h = rw (mod-mod x (2 ^ 8))
low_given W16 dst x next s h = rw (mod-mod x (2 ^ 16))
low_given W32 dst x next s h = rw (mod-mod x (2 ^ 32))
low_given W64 dst x next s h = rw (mod-eq_of_lt h)

address_lt : (next : ℕ) (m : Mem) (s : Cpu) → address s next m < 2 ^ 64
unfolding address
address_lt next m s = mod_below _ (2 ^ 64) (pow_pos 64)

lea_ends : (w : Width) (dst : ℕ) (mem : Mem) (next a b c d e f g h : ℕ) (s : Cpu) → dst < 16 → Numbers s.regs → want_of (Lea w dst mem) next s ≡ given s next w (operand.Reg dst) (address s next mem) → Follows (Lea w dst mem) next (lea_parts next w dst mem) (virtual s.regs (eight a b c d e f g h) s.flags) s Onward
lea_ends W64 dst mem next a b c d e f g h s fit numbers wants =
    given_follows (Lea W64 dst mem) next W64 (operand.Reg dst) 0 (address_line next mem ∷ []) (virtual s.regs (eight a b c d e f g h) s.flags) s s (eight (address s next mem) b c d e f g h)
    (address_is next mem s.regs (eight a b c d e f g h) s.flags s refl) (address_lt next mem s) (register_fits W64 dst fit) tt wants numbers refl
lea_ends W32 dst mem next a b c d e f g h s fit numbers wants =
    given_follows (Lea W32 dst mem) next W32 (operand.Reg dst) 1 (address_line next mem ∷ Cut 64 ir.W32 1 0 ∷ []) (virtual s.regs (eight a b c d e f g h) s.flags) s s (eight (address s next mem) (address s next mem % 2 ^ 32) c d e f g h)
    (ap (did_all (Cut 64 ir.W32 1 0 ∷ [])) (address_is next mem s.regs (eight a b c d e f g h) s.flags s refl)) (mod_below (address s next mem) (2 ^ 32) (pow_pos 32)) (register_fits W32 dst fit) tt (wants ∙ sym (low_given W32 dst (address s next mem) next s (address_lt next mem s))) numbers refl
lea_ends W16 dst mem next a b c d e f g h s fit numbers wants =
    given_follows (Lea W16 dst mem) next W16 (operand.Reg dst) 1 (address_line next mem ∷ Cut 64 ir.W16 1 0 ∷ []) (virtual s.regs (eight a b c d e f g h) s.flags) s s (eight (address s next mem) (address s next mem % 2 ^ 16) c d e f g h)
    (ap (did_all (Cut 64 ir.W16 1 0 ∷ [])) (address_is next mem s.regs (eight a b c d e f g h) s.flags s refl)) (mod_below (address s next mem) (2 ^ 16) (pow_pos 16)) (register_fits W16 dst fit) tt (wants ∙ sym (low_given W16 dst (address s next mem) next s (address_lt next mem s))) numbers refl
lea_ends W8 dst mem next a b c d e f g h s fit numbers wants =
    given_follows (Lea W8 dst mem) next W8 (operand.Reg dst) 1 (address_line next mem ∷ Cut 64 ir.W8 1 0 ∷ []) (virtual s.regs (eight a b c d e f g h) s.flags) s s (eight (address s next mem) (address s next mem % 2 ^ 8) c d e f g h)
    (ap (did_all (Cut 64 ir.W8 1 0 ∷ [])) (address_is next mem s.regs (eight a b c d e f g h) s.flags s refl)) (mod_below (address s next mem) (2 ^ 8) (pow_pos 8)) (register_fits W8 dst fit) tt (wants ∙ sym (low_given W8 dst (address s next mem) next s (address_lt next mem s))) numbers refl

pub lea_law : (w : Width) (dst : ℕ) (mem : Mem) (next : ℕ) → dst < 16 → Lifts (Lea w dst mem) next
unfolding finished
lea_law w dst mem next fit =
    lifts (Lea w dst mem) next
    (λ a b c d e f g h s mid numbers. lea_ends w dst mem next a b c d e f g h s fit numbers (quiet (Lea w dst mem) next s refl mid))

-- ---- SETcc and CMOVcc

bit_lt : (t : Bool) → from_bool t < 2 ^ 8
bit_lt true = lit< tt
bit_lt false = lit< tt

pub set_ends : (cc : Condition) (dst : Operand) (next a b c d e f g h : ℕ) (s : Cpu) → PlaceFits W8 dst → Numbers s.regs → want_of (Set cc dst) next s ≡ finished (Set cc dst) next s → Follows (Set cc dst) next (lifted (Set cc dst) next) (virtual s.regs (eight a b c d e f g h) s.flags) s Onward
unfolding finished
set_ends cc dst next a b c d e f g h s fit numbers wants =
    let first = virtual s.regs (eight a b c d e f g h) s.flags in
    let x = with_address next s dst a in
    let lines : List Op = Cond 1 (ir_cond cc) ∷ Zext 1 ir.W8 2 1 ∷ [] in
    let y = from_bool (holds cc s.flags) in
    given_follows (Set cc dst) next W8 dst 2 (addressed next dst ++ lines) first s s (eight x y y d e f g h)
    (after (addressed next dst) lines first (virtual s.regs (eight x b c d e f g h) s.flags) (addressed_do next dst a b c d e f g h s)
    ∙ ap (λ t. virtual s.regs (eight x (from_bool t) (from_bool t) d e f g h) s.flags) (same_test cc s.regs (eight x b c d e f g h) s.flags))
    (bit_lt (holds cc s.flags)) fit (addressed_at next dst a y y d e f g h s) wants numbers refl

pub set_law : (cc : Condition) (dst : Operand) (next : ℕ) → PlaceFits W8 dst → touches_memory (Set cc dst) ≡ false → Lifts (Set cc dst) next
set_law cc dst next fit none =
    lifts (Set cc dst) next
    (λ a b c d e f g h s mid numbers. set_ends cc dst next a b c d e f g h s fit numbers (quiet (Set cc dst) next s none mid))

picked : (t : Bool) (x y : ℕ) → (if from_bool t == 1 then x else y) ≡ (if t then x else y)
picked true x y = refl
picked false x y = refl

chosen_lt : (t : Bool) (x y m : ℕ) → x < m → y < m → (if t then x else y) < m
chosen_lt true x y m h k = h
chosen_lt false x y m h k = k

pub cmov_ends : (cc : Condition) (w : Width) (dst : ℕ) (src : Operand) (next a b c d e f g h : ℕ) (s : Cpu) → dst < 16 → OperandFits w src → WasLoaded s w src b → Numbers s.regs → want_of (Cmov cc w dst src) next s ≡ finished (Cmov cc w dst src) next s → Follows (Cmov cc w dst src) next (cmov_parts cc w dst src) (virtual s.regs (eight a b c d e f g h) s.flags) s Onward
unfolding finished cmov_want value
cmov_ends cc w dst src next a b c d e f g h s fit_dst fit r numbers wants =
    let first = virtual s.regs (eight a b c d e f g h) s.flags in
    let lines : List Op = Get (ir_width w) 2 dst ∷ Cond 3 (ir_cond cc) ∷ Pick (ir_width w) 4 3 1 2 ∷ [] in
    let x = value s w src in
    let y = value s w (operand.Reg dst) in
    let t = holds cc s.flags in
    let rest : List Op = Cond 3 (ir_cond cc) ∷ Pick (ir_width w) 4 3 1 2 ∷ [] in
    given_follows (Cmov cc w dst src) next w (operand.Reg dst) 4 (reads w src 1 ++ lines) first s s (eight a x y (from_bool t) (if t then x else y) f g h)
    (after (reads w src 1) lines first (virtual s.regs (eight a x c d e f g h) s.flags) (reads_do w src 1 (eight a b c d e f g h) s.flags s fit r)
    ∙ ap (did_all rest) (reads_do w (operand.Reg dst) 2 (eight a x c d e f g h) s.flags s fit_dst (not_loaded s w (operand.Reg dst) c refl))
    ∙ ap (λ z. virtual s.regs (eight a x y (from_bool z) (if from_bool z == 1 then x else y) f g h) s.flags) (same_test cc s.regs (eight a x y d e f g h) s.flags)
    ∙ ap (λ z. virtual s.regs (eight a x y (from_bool t) z f g h) s.flags) (picked t x y))
    (chosen_lt t x y (2 ^ bits_in w) (value_lt w src s fit) (value_lt w (operand.Reg dst) s fit_dst)) (register_fits w dst fit_dst) tt wants numbers refl

pub cmov_law : (cc : Condition) (w : Width) (dst : ℕ) (src : Operand) (next : ℕ) → dst < 16 → PlaceFits w src → touches_memory (Cmov cc w dst src) ≡ false → Lifts (Cmov cc w dst src) next
cmov_law cc w dst src next fit_dst fit none =
    lifts (Cmov cc w dst src) next
    (λ a b c d e f g h s mid numbers.
    rw (no_loads next w src 1 none) (cmov_ends cc w dst src next a b c d e f g h s fit_dst fit.fits (not_loaded s w src b none) numbers (quiet (Cmov cc w dst src) next s none mid)))

-- ---- XCHG of registers

swapped : (w : Width) (x y : Operand) (next a b c d e f g h : ℕ) (s : Cpu) → OperandFits w x → OperandFits w y → is_memory x ≡ false → is_memory y ≡ false → Numbers s.regs → want_of (Xchg w x y) next s ≡ finished (Xchg w x y) next s → Follows (Xchg w x y) next (alone (both_read w x y ++ (puts w x 2 ++ puts w y 1)) ends.Tick) (virtual s.regs (eight a b c d e f g h) s.flags) s Onward
unfolding finished exchanged
swapped w x y next a b c d e f g h s p q no_x no_y numbers wants =
    let first = virtual s.regs (eight a b c d e f g h) s.flags in
    let u = value s w x in
    let v = value s w y in
    let temps = eight a u v d e f g h in
    let one = assigned s w x v in
    let two = assigned one w y u in
    private_follows (Xchg w x y) next (both_read w x y ++ (puts w x 2 ++ puts w y 1)) first s two temps
    (after (both_read w x y) (puts w x 2 ++ puts w y 1) first (virtual s.regs temps s.flags) (both_do w x y a b c d e f g h s p q (not_loaded s w x b no_x) (not_loaded s w y c no_y))
    ∙ after (puts w x 2) (puts w y 1) (virtual s.regs temps s.flags) (virtual one.regs temps s.flags) (puts_do w x 2 temps s.flags s p (value_lt w y s q))
    ∙ puts_do w y 1 temps s.flags one q (value_lt w x s p)
    ∙ ap (virtual two.regs temps) (sym (assigned_flags w y u one ∙ assigned_flags w x v s)))
    wants (assigned_numbers w y u one (value_lt w x s p) (assigned_numbers w x v s (value_lt w y s q) numbers)) refl

exchange_core : (w : Width) (x y : Operand) (next a b c d e f g h : ℕ) (s : Cpu) → OperandFits w x → OperandFits w y → is_memory x ≡ false → is_memory y ≡ false → Numbers s.regs → want_of (Xchg w x y) next s ≡ finished (Xchg w x y) next s → Follows (Xchg w x y) next (xchg_parts next w x y) (virtual s.regs (eight a b c d e f g h) s.flags) s Onward
exchange_core w (operand.Reg r) y next a b c d e f g h s p q no_x no_y numbers wants = swapped w (operand.Reg r) y next a b c d e f g h s p q no_x no_y numbers wants
exchange_core w (operand.High r) y next a b c d e f g h s p q no_x no_y numbers wants = swapped w (operand.High r) y next a b c d e f g h s p q no_x no_y numbers wants
exchange_core w (operand.Imm n) y next a b c d e f g h s p q no_x no_y numbers wants = swapped w (operand.Imm n) y next a b c d e f g h s p q no_x no_y numbers wants
exchange_core w (operand.Mem m) y next a b c d e f g h s p q no_x no_y numbers wants = let no : ⊥ = cc in absurd no

pub xchg_law : (w : Width) (x y : Operand) (next : ℕ) → PlaceFits w x → RegisterFits w y → touches_memory (Xchg w x y) ≡ false → Lifts (Xchg w x y) next
xchg_law w x y next p q none =
    lifts (Xchg w x y) next
    (λ a b c d e f g h s mid numbers. exchange_core w x y next a b c d e f g h s p.fits q.fits (left_false (is_memory x) (is_memory y) none) q.no_memory numbers (quiet (Xchg w x y) next s none mid))

-- ---- instructions that do nothing

pub nop_law : (next : ℕ) → Lifts Nop next
unfolding finished
nop_law next = lifts Nop next (λ a b c d e f g h s mid numbers. private_follows Nop next [] (virtual s.regs (eight a b c d e f g h) s.flags) s s (eight a b c d e f g h) refl (quiet Nop next s refl mid) numbers refl)

pub pause_law : (next : ℕ) → Lifts Pause next
unfolding finished
pause_law next = lifts Pause next (λ a b c d e f g h s mid numbers. private_follows Pause next [] (virtual s.regs (eight a b c d e f g h) s.flags) s s (eight a b c d e f g h) refl (quiet Pause next s refl mid) numbers refl)

pub endbr_law : (next : ℕ) → Lifts Endbr next
unfolding finished
endbr_law next = lifts Endbr next (λ a b c d e f g h s mid numbers. private_follows Endbr next [] (virtual s.regs (eight a b c d e f g h) s.flags) s s (eight a b c d e f g h) refl (quiet Endbr next s refl mid) numbers refl)
