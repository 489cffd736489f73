use Rattle.std.proofs.Common.{◌≡◌, ℕ, suc, ◌+◌, ◌-◌, ◌*◌, ◌/◌, ◌%◌, ◌^◌, ◌<◌, ◌≤◌, Bool, true, false, refl, arith, ℤ, pos, negsuc, ltb, leb, ◌+ℤ◌, ap, ◌∙◌, sym, eqb}
use Rattle.std.proofs.lemmas.Int.{int_rem_euclid_is}
use Rattle.std.proofs.lemmas.Bool.{cases_lt, lt-ltb, le-ltb, ltb-true, leb-true, leb-false, le-leb, lt-leb, and_parts, and_from}
use Rattle.std.proofs.lemmas.Nat.{pow_pos, pow-add, le-div, div_below}
use native.Mathlib.Nat.{div-eq_of_lt}
use Rattle.std.proofs.Common.{⊎_elim, lit<, lit≤}
use Rattle.x86_flags.specs.Width.{bits}
use Rattle.x86_flags.specs.declared.width.Width.{Width}
use Rattle.x86_flags.specs.declared.width.Width.TheVariants.{W8, W16, W32, W64}
use Rattle.std.specs.Prelude.{unsigned_abs, int_le, ◌&&◌}
use Rattle.std.specs.Int.{from_bool}
use borrow.Author.Differences.{up, down}
use Rattle.x86_flags.specs.Numbers.{bit, top_bit, signed, fits_signed, low_bits}

-- two tests with the same cases give one answer
pub same_test : (s t : Bool) → (s ≡ true → t ≡ true) → (t ≡ true → s ≡ true) → s ≡ t
same_test true t f g = sym (f refl)
same_test false true f g = g refl
same_test false false f g = refl

pub pow_twice : (w : ℕ) → 0 < w → 2 ^ w ≡ 2 ^ (w - 1) + 2 ^ (w - 1)
pow_twice w p =
    let e : w ≡ (w - 1) + 1 = omega arith in
    let f = ap (λ n. 2 ^ n) e ∙ pow-add 2 (w - 1) 1 in
    omega (arith, f)

pub fits-true : (w : ℕ) (z : ℤ) → fits_signed w z ≡ true → (up z < down z + 2 ^ (w - 1)) × (down z ≤ up z + 2 ^ (w - 1))
unfolding fits_signed
fits-true w (pos n) h = omega (arith, ltb-true)
fits-true w (negsuc n) h = omega (arith, ltb-true)

pub true-fits : (w : ℕ) (z : ℤ) → up z < down z + 2 ^ (w - 1) → down z ≤ up z + 2 ^ (w - 1) → fits_signed w z ≡ true
unfolding fits_signed
true-fits w (pos n) h k = lt-ltb n (2 ^ (w - 1)) (omega arith)
true-fits w (negsuc n) h k = lt-ltb n (2 ^ (w - 1)) (omega arith)

-- what w bits mean, by the top bit
pub signed_low : (w a : ℕ) → a < 2 ^ (w - 1) → signed w a ≡ pos a
unfolding signed
signed_low w a h = rw (lt-ltb a (2 ^ (w - 1)) h)

pub signed_high : (w a : ℕ) → 2 ^ (w - 1) ≤ a → signed w a ≡ negsuc (2 ^ w - 1 - a)
unfolding signed
signed_high w a h = rw (le-ltb a (2 ^ (w - 1)) h)

pub low_bits_is : (w : ℕ) (z : ℤ) (k m : ℕ) → z +ℤ pos (k * 2 ^ w) ≡ pos m → low_bits w z ≡ m % 2 ^ w
unfolding low_bits
low_bits_is w z k m e = ap unsigned_abs (int_rem_euclid_is z (pos (2 ^ w)) (2 ^ w) k m (pow_pos w) refl e)

pub bits-pos : (w : Width) → 0 < bits w
unfolding bits
bits-pos W8 = lit< tt
bits-pos W16 = lit< tt
bits-pos W32 = lit< tt
bits-pos W64 = lit< tt

pub bits_le : (w : Width) → bits w ≤ 64
unfolding bits
bits_le W8 = lit≤ tt
bits_le W16 = lit≤ tt
bits_le W32 = lit≤ tt
bits_le W64 = lit≤ tt

-- the top bit is set from half of the range on
one_bit_below : (h a : ℕ) → a < h → eqb (a / h % 2) 1 ≡ leb h a
one_bit_below h a l = rw (div-eq_of_lt l, lt-leb h a l) refl

one_bit_above : (h a : ℕ) → h ≤ a → a < h + h → 0 < h → eqb (a / h % 2) 1 ≡ leb h a
one_bit_above h a l m p =
    let one : a / h ≡ 1 = omega (arith, le-div 1 a h p (omega arith), div_below a h 2 p (omega arith)) in
    rw (one, le-leb h a l) refl

pub top_bit_is : (w a : ℕ) → 0 < w → a < 2 ^ w → top_bit w a ≡ leb (2 ^ (w - 1)) a
unfolding top_bit bit
top_bit_is w a p h =
    let twice = pow_twice w p in
    ⊎_elim (λ l. one_bit_below (2 ^ (w - 1)) a l) (λ l. one_bit_above (2 ^ (w - 1)) a l (omega arith) (pow_pos (w - 1))) (cases_lt a (2 ^ (w - 1)))

pub top_true : (w a : ℕ) → 0 < w → a < 2 ^ w → top_bit w a ≡ true → 2 ^ (w - 1) ≤ a
top_true w a p h t = leb-true (2 ^ (w - 1)) a (sym (top_bit_is w a p h) ∙ t)

pub top_false : (w a : ℕ) → 0 < w → a < 2 ^ w → top_bit w a ≡ false → a < 2 ^ (w - 1)
top_false w a p h t = leb-false (2 ^ (w - 1)) a (sym (top_bit_is w a p h) ∙ t)

pub above_half : (w a m : ℕ) → 0 < w → a < 2 ^ w → m ≡ 2 ^ w - 1 → ltb (m / 2) a ≡ top_bit w a
above_half w a m p h e =
    let twice = pow_twice w p in
    let some = pow_pos (w - 1) in
    let half : suc (m / 2) ≡ 2 ^ (w - 1) = omega arith in
    ap (λ n. leb n a) half ∙ sym (top_bit_is w a p h)

pub range_le : (w : Width) → 2 ^ bits w ≤ 2 ^ 64
unfolding bits
range_le W8 = lit≤ tt
range_le W16 = lit≤ tt
range_le W32 = lit≤ tt
range_le W64 = lit≤ tt

pub half_le : (w : Width) → 2 ^ (bits w - 1) ≤ 2 ^ 63
half_le w = omega (arith, range_le w, pow_twice (bits w) (bits-pos w))

pub signed_abs : (w a : ℕ) → 0 < w → a < 2 ^ w → unsigned_abs (signed w a) ≤ 2 ^ (w - 1)
signed_abs w a p h =
    let twice = pow_twice w p in
    ⊎_elim (λ l. rw (signed_low w a l) (omega arith)) (λ l. rw (signed_high w a l) (omega arith)) (cases_lt a (2 ^ (w - 1)))

pub one_lt : (w : Width) → 1 < 2 ^ bits w
unfolding bits
one_lt W8 = lit< tt
one_lt W16 = lit< tt
one_lt W32 = lit< tt
one_lt W64 = lit< tt

pub range_pos : (w : Width) → 0 < 2 ^ bits w
range_pos w = pow_pos (bits w)

pub from_bool_le : (b : Bool) → from_bool b ≤ 1
from_bool_le true = lit≤ tt
from_bool_le false = lit≤ tt

-- a number between the ends of the signed range
pub fits_test : (w k : ℕ) (z : ℤ) → suc k ≡ 2 ^ (w - 1) → (int_le (negsuc k) z && int_le z (pos k)) ≡ fits_signed w z
unfolding fits_signed
fits_test w k (pos n) e =
    same_test (leb n k) (ltb n (2 ^ (w - 1))) (λ t. lt-ltb n (2 ^ (w - 1)) (omega (arith, leb-true n k t))) (λ t. le-leb n k (omega (arith, ltb-true n (2 ^ (w - 1)) t)))
fits_test w k (negsuc n) e =
    same_test (leb n k && true) (ltb n (2 ^ (w - 1)))
    (λ t. lt-ltb n (2 ^ (w - 1)) (omega (arith, leb-true n k (and_parts (leb n k) true t).0)))
    (λ t. and_from (leb n k) true (le-leb n k (omega (arith, ltb-true n (2 ^ (w - 1)) t))) refl)

pub fits_code : (w k : ℕ) (z x y v : ℤ) → suc k ≡ 2 ^ (w - 1) → x ≡ negsuc k → v ≡ z → y ≡ pos k → (int_le x v && int_le v y) ≡ fits_signed w z
fits_code w k z x y v e f g h = rw (f, g, h) (fits_test w k z e)
