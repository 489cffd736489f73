-- Quotients of w bits.
use Rattle.std.proofs.Common.{◌≡◌, ℕ, suc, ◌+◌, ◌-◌, ◌*◌, ◌/◌, ◌%◌, ◌^◌, ◌<◌, ◌≤◌, true, false, arith, ap, ◌∙◌, ℤ, pos, negsuc, eqb, leb, ⊎_elim, lit≤}
use Rattle.std.proofs.lemmas.Bool.{cases_lt, cases_eq, eq-eqb, ne_eqb, le-leb, lt-leb, or_left, or_right, or_from, not_from_false, false_from_ne_true, ltb-true}
use Rattle.std.proofs.lemmas.Nat.{pow_pos, pow-add, le-div, div_below, mul-add-lt, or_shifted, shl_whole}
use Rattle.std.specs.Prelude.{not, ◌||◌, FitsSigned, int_div, bit_or}
use Rattle.std.specs.Int.{w128, cast_unsigned, CanDivide}
use native.Mathlib.Nat.{mul-le-mul_left, mul-le-mul_right, pow-le-pow_right}
use Rattle.x86_flags.specs.Numbers.{signed, fits_signed}
use Rattle.x86_flags.specs.Quotients.{joined}
use Rattle.x86_flags.proofs.NumberLemmas.{signed_low, signed_high}

pub joined_is : (w high low : ℕ) → w ≤ 64 → high < 2 ^ 64 → low < 2 ^ w → bit_or (high * 2 ^ w % 2 ^ 128) low ≡ joined w high low
unfolding joined
joined_is w high low h k l = ap (λ n. bit_or n low) (shl_whole high 64 w 128 k (omega arith)) ∙ or_shifted high w low l

pub joined_lt : (w high low top : ℕ) → high < top → low < 2 ^ w → joined w high low < 2 ^ w * top
unfolding joined
joined_lt w high low top h l = mul-add-lt high (2 ^ w) low top h l

pub udiv_refused : (w high low by : ℕ) → by ≤ high → (eqb by 0 || leb (2 ^ w) (joined w high low / by)) ≡ true
unfolding joined
udiv_refused w high low by h =
    let m = 2 ^ w in
    ⊎_elim (λ e. or_left _ _ (eq-eqb by 0 e))
    (λ n. or_right _ _ (le-leb m ((high * m + low) / by) (le-div m (high * m + low) by (omega arith) (omega (arith, mul-le-mul_left m h)))))
    (cases_eq by 0)

pub udiv_small : (w high low by : ℕ) → high < by → low < 2 ^ w → joined w high low / by < 2 ^ w
unfolding joined
udiv_small w high low by h l =
    let m = 2 ^ w in
    let whole : suc high ≤ by = omega arith in
    div_below (high * m + low) by m (omega arith) (omega (arith, mul-le-mul_right m whole))

pub udiv_done : (w high low by : ℕ) → high < by → low < 2 ^ w → (eqb by 0 || leb (2 ^ w) (joined w high low / by)) ≡ false
udiv_done w high low by h l =
    or_from _ _ (ne_eqb by 0 (λ e. omega arith)) (lt-leb (2 ^ w) (joined w high low / by) (udiv_small w high low by h l))

-- the number with two halves is signed as its upper half is
top_of : (w : ℕ) → 0 < w → 2 ^ (w + w - 1) ≡ 2 ^ w * 2 ^ (w - 1)
top_of w p =
    let sum : w + w - 1 ≡ w + (w - 1) = omega arith in
    ap (λ n. 2 ^ n) sum ∙ pow-add 2 w (w - 1)

pub signed_joined_low : (w high low : ℕ) → 0 < w → high < 2 ^ (w - 1) → low < 2 ^ w → signed (w + w) (joined w high low) ≡ pos (joined w high low)
signed_joined_low w high low p h l = signed_low (w + w) (joined w high low) (rw (top_of w p) (joined_lt w high low (2 ^ (w - 1)) h l))

-- both halves turned
pub joined_turned : (w high low : ℕ) → high < 2 ^ w → low < 2 ^ w → joined w (2 ^ w - 1 - high) (2 ^ w - 1 - low) ≡ 2 ^ (w + w) - 1 - joined w high low
unfolding joined
joined_turned w high low h l =
    let m = 2 ^ w in
    let k = m - 1 - high in
    let sum : k + high + 1 ≡ m = omega arith in
    let product = ap (λ n. n * m) sum in
    rw (pow-add 2 w w) (omega arith)

pub signed_joined_high : (w high low : ℕ) → 0 < w → 2 ^ (w - 1) ≤ high → signed (w + w) (joined w high low) ≡ negsuc (2 ^ (w + w) - 1 - joined w high low)
unfolding joined
signed_joined_high w high low p h = signed_high (w + w) (high * 2 ^ w + low) (rw (top_of w p) (omega (arith, mul-le-mul_left (2 ^ w) h)))

-- a divisor that isn't 0
pub divisor_counts : (w by : ℕ) → 0 < w → w ≤ 64 → by < 2 ^ w → (by ≡ 0 → ⊥) → 0 < cast_unsigned w128 (signed w by)
divisor_counts w by p s h n =
    let range : 2 ^ w ≤ 2 ^ 64 = pow-le-pow_right (lit≤ tt) s in
    ⊎_elim (λ l. rw (signed_low w by l) (omega arith)) (λ l. rw (signed_high w by l) (omega arith)) (cases_lt by (2 ^ (w - 1)))

-- what w bits can mean, 128 can
pub fits_wide : (w : ℕ) (z : ℤ) → w ≤ 64 → fits_signed w z ≡ true → FitsSigned w128 z
unfolding fits_signed
fits_wide w (pos n) s e =
    let less : w - 1 ≤ 64 = omega arith in
    let range : 2 ^ (w - 1) ≤ 2 ^ 64 = pow-le-pow_right (lit≤ tt) less in
    let small = ltb-true n (2 ^ (w - 1)) e in
    record { sfits = omega arith }
fits_wide w (negsuc n) s e =
    let less : w - 1 ≤ 64 = omega arith in
    let range : 2 ^ (w - 1) ≤ 2 ^ 64 = pow-le-pow_right (lit≤ tt) less in
    let small = ltb-true n (2 ^ (w - 1)) e in
    record { sfits = omega arith }

-- where the division in 128 bits can't be made
pub sdiv_refused : (w by : ℕ) (x v : ℤ) → v ≡ signed w by → 0 < w → w ≤ 64 → by < 2 ^ w → (CanDivide w128 x v → ⊥) → (eqb by 0 || not (fits_signed w (int_div x v))) ≡ true
sdiv_refused w by x v e p s h never =
    ⊎_elim (λ z. or_left _ _ (eq-eqb by 0 z))
    (λ n.
    let counts : 0 < cast_unsigned w128 v = rw e (divisor_counts w by p s h n) in
    or_right _ _ (not_from_false _ (false_from_ne_true (fits_signed w (int_div x v)) (λ f. never (counts, fits_wide w (int_div x v) s f)))))
    (cases_eq by 0)

pub divisor_is_some : (w by : ℕ) → 0 < cast_unsigned w128 (signed w by) → eqb by 0 ≡ false
divisor_is_some w by h = ne_eqb by 0 (λ e. let zero = ap (λ n. cast_unsigned w128 (signed w n)) e ∙ ap (cast_unsigned w128) (signed_low w 0 (pow_pos (w - 1))) in omega arith)

-- the number with two halves has 127 bits beside its sign
pub joined_half : (w high low : ℕ) → 0 < w → w ≤ 64 → high < 2 ^ (w - 1) → low < 2 ^ w → joined w high low < 2 ^ 127
joined_half w high low p s h l =
    let few : w + w - 1 ≤ 127 = omega arith in
    let range : 2 ^ (w + w - 1) ≤ 2 ^ 127 = pow-le-pow_right (lit≤ tt) few in
    omega (arith, joined_lt w high low (2 ^ (w - 1)) h l, top_of w p)
