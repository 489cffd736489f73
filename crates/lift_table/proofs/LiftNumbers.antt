-- Numbers of w bits as instructions and lines compute them.
use Rattle.std.proofs.Common.{◌≡◌, ℕ, zero, suc, ◌+◌, ◌-◌, ◌*◌, ◌/◌, ◌%◌, ◌^◌, ◌<◌, ◌≤◌, arith, ap, sym, ◌∙◌, ℤ, pos, negsuc, ⊎_elim, lit<, lit≤, List, set, get_or, length}
use Rattle.std.proofs.Math.IntN.{*ℤ_comm, neg_ℤ}
use Rattle.std.proofs.Math.Nat.{add-mul-mod_self_right, add-mod-mod}
use Rattle.std.proofs.lemmas.Bool.{cases_lt, lt-ltb, le-ltb, cases_eq}
use Rattle.std.proofs.lemmas.Int.{ints}
use Rattle.std.proofs.lemmas.Grind.{get_or-set_at}
use Rattle.std.proofs.lemmas.List.{get_or-set_other, set_past}
use Rattle.std.proofs.lemmas.Nat.{pow_pos, mod_below}
use Rattle.std.specs.Prelude.{nat_lt, if◌then◌else◌, ◌*ℤ◌, ◌+ℤ◌, not}
use Rattle.std.specs.Ordering.{int_eq}
use Rattle.std.specs.Int.{int_div_euclid}
use native.Mathlib.Nat.{mod-eq_of_lt, div-eq_of_lt}
use Rattle.x86_flags.specs.declared.flags.Flags.{Flags}
use Rattle.x86_flags.specs.Numbers.{signed, low_bits}
use Rattle.x86_flags.specs.Outcome.{outcome, unless_zero}
use Rattle.x86_flags.specs.Products.{umul_of, smul_of, product_flags, Product}
use Rattle.x86_flags.specs.Shifts.{sar_of, sar_by, count_of}
use Rattle.x86_flags.proofs.NumberLemmas.{pow_twice, signed_low, signed_high, low_bits_is}
use Rattle.x86_flags.proofs.ShiftLemmas.{floor_low, floor_high}
use Rattle.x86_forms.specs.declared.operands.Width.{Width}
use Rattle.x86_forms.specs.declared.operands.Width.TheVariants.{W8, W16, W32, W64}
use Rattle.x86_forms.specs.Widths.{bits_in}
use Rattle.x86_forms.specs.Limits.{IsWide}
use Rattle.x86_model.specs.Registers.{sign_extended, spread, low, high_byte, written, written_high}

-- ---- products: signed and unsigned ones have the same low half

raised : (x y z : ℕ) → x + z ≡ y → neg_ℤ (pos x) +ℤ pos y ≡ pos z
raised zero y z e = omega (arith, ints)
raised (suc x) y z e = omega (arith, ints)

crossed : (p q a b : ℕ) → p * q + (a * (q + b) + b * (p + a)) ≡ a * b + (p + a) * (q + b)
crossed p q a b = omega arith

low_product_00 : (n a b : ℕ) → low_bits n (pos a *ℤ pos b) ≡ a * b % 2 ^ n
low_product_00 n a b = low_bits_is n (pos a *ℤ pos b) 0 (a * b) (omega (arith, ints))

low_product_01 : (n a b q : ℕ) → suc q + b ≡ 2 ^ n → low_bits n (pos a *ℤ negsuc q) ≡ a * b % 2 ^ n
low_product_01 n a b q e =
    low_bits_is n (pos a *ℤ negsuc q) a (a * b) (rw (← e) (raised (a * suc q) (a * (suc q + b)) (a * b) (omega arith)))

low_product_11 : (n a b p q : ℕ) → suc p + a ≡ 2 ^ n → suc q + b ≡ 2 ^ n → low_bits n (negsuc p *ℤ negsuc q) ≡ a * b % 2 ^ n
low_product_11 n a b p q e f =
    let first : a * 2 ^ n ≡ a * (suc q + b) = ap (λ k. a * k) (sym f) in
    let second : b * 2 ^ n ≡ b * (suc p + a) = ap (λ k. b * k) (sym e) in
    let square : 2 ^ n * 2 ^ n ≡ (suc p + a) * (suc q + b) = ap (λ k. k * 2 ^ n) (sym e) ∙ ap (λ k. (suc p + a) * k) (sym f) in
    let whole : suc p * suc q + (a + b) * 2 ^ n ≡ a * b + 2 ^ n * 2 ^ n = omega (arith, crossed (suc p) (suc q) a b) in
    low_bits_is n (negsuc p *ℤ negsuc q) (a + b) (a * b + 2 ^ n * 2 ^ n) (ap pos whole) ∙ add-mul-mod_self_right (a * b) (2 ^ n) (2 ^ n)

pub low_product : (n a b : ℕ) → a < 2 ^ n → b < 2 ^ n → low_bits n (signed n a *ℤ signed n b) ≡ a * b % 2 ^ n
low_product n a b h k =
    let first : suc (2 ^ n - 1 - a) + a ≡ 2 ^ n = omega arith in
    let second : suc (2 ^ n - 1 - b) + b ≡ 2 ^ n = omega arith in
    let other : b * a ≡ a * b = omega arith in
    ⊎_elim
    (λ p. ⊎_elim (λ q. rw (signed_low n a p, signed_low n b q) (low_product_00 n a b)) (λ q. rw (signed_low n a p, signed_high n b q) (low_product_01 n a b (2 ^ n - 1 - b) second)) (cases_lt b (2 ^ (n - 1))))
    (λ p. ⊎_elim (λ q. rw (signed_high n a p, signed_low n b q, *ℤ_comm) (low_product_01 n b a (2 ^ n - 1 - a) first ∙ ap (λ m. m % 2 ^ n) other)) (λ q. rw (signed_high n a p, signed_high n b q) (low_product_11 n a b (2 ^ n - 1 - a) (2 ^ n - 1 - b) first second)) (cases_lt b (2 ^ (n - 1))))
    (cases_lt a (2 ^ (n - 1)))

pub low_halves : (n a b : ℕ) → a < 2 ^ n → b < 2 ^ n → (umul_of n a b).low ≡ (smul_of n a b).low
unfolding umul_of smul_of
low_halves n a b h k = sym (low_product n a b h k)

pub smul_comm : (n a b : ℕ) → smul_of n a b ≡ smul_of n b a
unfolding smul_of
smul_comm n a b =
    let made : ℤ → Product = λ z. record { low = low_bits n z; high = low_bits (n + n) z / 2 ^ n; flags = product_flags (not (int_eq z (signed n (low_bits n z)))) } in
    ap made (*ℤ_comm (signed n a) (signed n b))

-- ---- copies of the top bit

-- a number of fewer bits at w bits
pub extended : (k w : Width) (v : ℕ) → bits_in k < bits_in w → v < 2 ^ bits_in k → 2 ^ bits_in k ≤ 2 ^ bits_in w → 0 < bits_in k → low_bits (bits_in w) (signed (bits_in k) v) ≡ sign_extended k w v
unfolding sign_extended
extended k w v l h range p =
    ⊎_elim
    (λ q. rw (lt-ltb v (2 ^ (bits_in k - 1)) q, signed_low (bits_in k) v q) (low_bits_is (bits_in w) (pos v) 0 v (omega (arith, ints)) ∙ mod-eq_of_lt (omega arith)))
    (λ q.
    let m = v + (2 ^ bits_in w - 2 ^ bits_in k) in
    let small : m < 2 ^ bits_in w = omega arith in
    let moved : negsuc (2 ^ bits_in k - 1 - v) +ℤ pos (1 * 2 ^ bits_in w) ≡ pos m = omega (arith, ints) in
    let same : low_bits (bits_in w) (negsuc (2 ^ bits_in k - 1 - v)) ≡ m = low_bits_is (bits_in w) (negsuc (2 ^ bits_in k - 1 - v)) 1 m moved ∙ mod-eq_of_lt small in
    rw (le-ltb v (2 ^ (bits_in k - 1)) q, signed_high (bits_in k) v q) same)
    (cases_lt v (2 ^ (bits_in k - 1)))

-- a shift by one bit less than the width leaves copies of the sign
filled : (n a : ℕ) → 0 < n → a < 2 ^ n → low_bits n (int_div_euclid (signed n a) (pos (2 ^ (n - 1)))) ≡ (if nat_lt a (2 ^ (n - 1)) then 0 else 2 ^ n - 1)
filled n a p h =
    let twice = pow_twice n p in
    ⊎_elim
    (λ q. rw (lt-ltb a (2 ^ (n - 1)) q) (sym (floor_low n a (n - 1) p q) ∙ div-eq_of_lt q))
    (λ (q : 2 ^ (n - 1) ≤ a).
    let rest : 2 ^ n - 1 - a < 2 ^ (n - 1) = omega arith in
    let none : (2 ^ n - 1) - (2 ^ n - 1 - a) / 2 ^ (n - 1) ≡ 2 ^ n - 1 = rw (div-eq_of_lt rest) (omega arith) in
    rw (le-ltb a (2 ^ (n - 1)) q) (sym (floor_high n a (n - 1) p q h) ∙ none))
    (cases_lt a (2 ^ (n - 1)))

pub sar_spread : (w : Width) (a : ℕ) (f : Flags) → IsWide w → a < 2 ^ bits_in w → (sar_of (bits_in w) a (bits_in w - 1) f).value ≡ spread w a
unfolding sar_of unless_zero sar_by outcome spread count_of low_bits
sar_spread W32 a f h l = filled 32 a (lit< tt) l
sar_spread W64 a f h l = filled 64 a (lit< tt) l
sar_spread W8 a f h l = absurd h
sar_spread W16 a f h l = absurd h

-- ---- widths

pub bits_pos : (w : Width) → 0 < bits_in w
bits_pos W8 = lit< tt
bits_pos W16 = lit< tt
bits_pos W32 = lit< tt
bits_pos W64 = lit< tt

pub range_le : (w : Width) → 2 ^ bits_in w ≤ 2 ^ 64
range_le W8 = lit≤ tt
range_le W16 = lit≤ tt
range_le W32 = lit≤ tt
range_le W64 = lit≤ tt

-- ---- parts of registers

pub low_lt : (w : Width) (n : ℕ) → low w n < 2 ^ bits_in w
unfolding low
low_lt w n = mod_below n (2 ^ bits_in w) (pow_pos (bits_in w))

pub low_same : (w : Width) (n : ℕ) → n < 2 ^ bits_in w → low w n ≡ n
unfolding low
low_same w n h = mod-eq_of_lt h

pub high_byte_lt : (n : ℕ) → high_byte n < 2 ^ 8
unfolding high_byte
high_byte_lt n = mod_below (n / 2 ^ 8) (2 ^ 8) (pow_pos 8)

pub written_lt : (w : Width) (n v : ℕ) → n < 2 ^ 64 → v < 2 ^ bits_in w → written w n v < 2 ^ 64
unfolding written
written_lt W8 n v h k = omega (arith, mod_below v (2 ^ 8) (pow_pos 8))
written_lt W16 n v h k = omega (arith, mod_below v (2 ^ 16) (pow_pos 16))
written_lt W32 n v h k = omega (arith, mod_below v (2 ^ 32) (pow_pos 32))
written_lt W64 n v h k = k

pub written_high_lt : (n v : ℕ) → n < 2 ^ 64 → written_high n v < 2 ^ 64
unfolding written_high
written_high_lt n v h = omega (arith, mod_below v (2 ^ 8) (pow_pos 8), mod_below n (2 ^ 8) (pow_pos 8))

-- each number of a list stays below a limit where one is written that is
pub set_below : (xs : List ℕ) (i y m : ℕ) → y < m → ((k : ℕ) → get_or xs k 0 < m) → (k : ℕ) → get_or (set xs i y) k 0 < m
set_below xs i y m h each k =
    ⊎_elim
    (λ e. ⊎_elim (λ l. rw (get_or-set_at xs i k y 0 e l) h) (λ l. rw (set_past xs i y l) (each k)) (cases_lt i (length xs)))
    (λ n. rw (get_or-set_other xs i k y 0 n) (each k))
    (cases_eq k i)

-- an address that counts from the next instruction
pub rebased : (n d x : ℕ) → (0 + x + (n + d) % 2 ^ 64) % 2 ^ 64 ≡ (n + x + d) % 2 ^ 64
rebased n d x =
    let same : 0 + x + (n + d) ≡ n + x + d = omega arith in
    add-mod-mod (0 + x) (n + d) (2 ^ 64) ∙ ap (λ k. k % 2 ^ 64) same
