-- Numbers: what is read is the spelling of the number, and the spelling of a number is read.
use Rattle.std.proofs.Common.{◌≡◌, ◌≢◌, ℕ, zero, suc, ◌+◌, ◌-◌, ◌*◌, ◌/◌, ◌%◌, ◌^◌, ◌<◌, ◌≤◌, ◌&&◌, Bool, true, false, cond, eqb, ltb, leb, List, [], ◌∷◌, ◌++◌, length, Option, Some, None, refl, sym, ap, subst, ◌∙◌, append_assoc, arith}
use Rattle.std.proofs.Math.Nat.{pow-suc, pow-zero}
use Rattle.std.proofs.lemmas.Nat.{div-add-mod'}
use Rattle.std.proofs.lemmas.Bool.{ltb-true, ltb-false, lt-ltb, le-ltb, leb-true, le-leb, eqb-false, ne_eqb}
use Rattle.std.proofs.lemmas.Option.{none-some, some_pair_parts, cond_some}
use Rattle.journal_pack.specs.Entry.{IsWithin}
use Rattle.journal_pack.specs.Leb128.{leb_within, leb128}
use Rattle.journal_pack.specs.Reading.{◌>>=◌, with_low, number_within, number_at}

-- which of two values it was
pub either : {A G : Type 0} → (t : Bool) (x y : Option A) (v : A) → cond t x y ≡ Some v → (t ≡ true → x ≡ Some v → G) → (t ≡ false → y ≡ Some v → G) → G
either true x y v e left right = left refl e
either false x y v e left right = right refl e

-- the value of a step that gave one
pub bind_some : {A B : Type 0} (o : Option A) (f : A → Option B) (y : B) → (o >>= f) ≡ Some y → (x : A) × (o ≡ Some x) × (f x ≡ Some y)
bind_some (Some x) f y e = (x, refl, e)
bind_some None f y e = absurd (none-some y e)

-- two tests that pass together
both_true : (a b : Bool) → (a && b) ≡ true → (a ≡ true) × (b ≡ true)
both_true true b e = (refl, e)
both_true false b e = absurd (cc)

-- ---- a number is read

-- seven bits and the rest are the number
parts_of : (n : ℕ) → 128 * (n / 128) + n % 128 ≡ n
parts_of n = omega (arith, div-add-mod' n 128)

some_above : (n : ℕ) → 128 ≤ n → n / 128 ≢ 0
some_above n big z = omega (arith, z, div-add-mod' n 128)

with_low_again : (n : ℕ) → 128 ≤ n → n < 2 ^ 64 → with_low (n % 128) (n / 128) ≡ Some n
unfolding with_low
with_low_again n big fits =
    let fits' : 128 * (n / 128) + n % 128 < 2 ^ 64 = omega (arith, parts_of n) in
    rw (ne_eqb (n / 128) 0 (some_above n big), lt-ltb (128 * (n / 128) + n % 128) (2 ^ 64) fits') (ap (λ (m : ℕ). Some m) (parts_of n))

leb_one : (k n : ℕ) → n < 128 → leb_within k n ≡ n ∷ []
unfolding leb_within
leb_one zero n small = refl
leb_one (suc k) n small = rw (lt-ltb n 128 small) refl

leb_more : (k n : ℕ) → 128 ≤ n → leb_within (suc k) n ≡ (128 + n % 128) ∷ leb_within k (n / 128)
unfolding leb_within
leb_more k n big = rw (le-ltb n 128 big) refl

read_one : (k n : ℕ) (rest : List ℕ) → n < 128 → number_within (suc k) (n ∷ rest) ≡ Some (n, rest)
unfolding number_within
read_one k n rest small = rw (lt-ltb n 128 small) refl

read_more : (k b n m : ℕ) (bytes rest : List ℕ) → 128 ≤ b → b < 256 → number_within k bytes ≡ Some (m, rest) → with_low (b - 128) m ≡ Some n → number_within (suc k) (b ∷ bytes) ≡ Some (n, rest)
unfolding number_within
read_more k b n m bytes rest big byte r w = rw (le-ltb b 128 big, lt-ltb b 256 byte, r, w) refl

-- the spelling of a number is read, whatever follows it
within_again : (k n : ℕ) (rest : List ℕ) → n < 128 ^ suc k → n < 2 ^ 64 → number_within (suc k) (leb_within k n ++ rest) ≡ Some (n, rest)
within_again zero n rest small fits = rw (leb_one zero n (omega (arith, pow-suc 128 0, pow-zero 128))) (read_one zero n rest (omega (arith, pow-suc 128 0, pow-zero 128)))
within_again (suc k) n rest small fits = by (ltb n 128) refl (within_again k (n / 128) rest)
  where
    by : (t : Bool) → ltb n 128 ≡ t → (n / 128 < 128 ^ suc k → n / 128 < 2 ^ 64 → number_within (suc k) (leb_within k (n / 128) ++ rest) ≡ Some (n / 128, rest))
        → number_within (suc (suc k)) (leb_within (suc k) n ++ rest) ≡ Some (n, rest)
    by true e go = rw (leb_one (suc k) n (ltb-true n 128 e)) (read_one (suc k) n rest (ltb-true n 128 e))
    by false e go =
        let big : 128 ≤ n = ltb-false n 128 e in
        let higher = go (omega (arith, pow-suc 128 (suc k), parts_of n)) (omega (arith, parts_of n)) in
        let low : 128 + n % 128 - 128 ≡ n % 128 = omega arith in
        let last : with_low (128 + n % 128 - 128) (n / 128) ≡ Some n = ap (λ (l : ℕ). with_low l (n / 128)) low ∙ with_low_again n big fits in
        rw (leb_more k n big) (read_more (suc k) (128 + n % 128) n (n / 128) (leb_within k (n / 128) ++ rest) rest (omega arith) (omega arith) higher last)

-- what is read is the spelling of the number
record Reads (k : ℕ) (bytes : List ℕ) (n : ℕ) (rest : List ℕ) : Type 0 where
  pub parts : bytes ≡ leb_within k n ++ rest
  pub small : n < 128 ^ suc k
  pub fits : n < 2 ^ 64

with_low_takes : (low m n : ℕ) → with_low low m ≡ Some n → (m ≢ 0) × (n ≡ 128 * m + low) × (n < 2 ^ 64)
unfolding with_low
with_low_takes low m n e =
    either (eqb m 0) None (cond (ltb (128 * m + low) (2 ^ 64)) (Some (128 * m + low)) None) n e (λ z f. absurd (none-some n f)) (λ z f.
    let got = cond_some (ltb (128 * m + low) (2 ^ 64)) (128 * m + low) n f in
    (eqb-false m 0 z, sym got.1, omega (arith, ltb-true _ _ got.0, got.1)))

one_power : (k : ℕ) → 1 ≤ 128 ^ k
one_power zero = omega (arith, pow-zero 128)
one_power (suc k) = omega (arith, one_power k, pow-suc 128 k)

reads_one : (k b n : ℕ) (bs rest : List ℕ) → b < 128 → ◌≡◌ {A = Option (ℕ × List ℕ)} (Some (b, bs)) (Some (n, rest)) → Reads k (b ∷ bs) n rest
reads_one k b n bs rest small e =
    let same = some_pair_parts b n bs rest e in
    record {
      parts = ap (λ (t : List ℕ). b ∷ t) same.1 ∙ ap (λ (x : ℕ). x ∷ rest) same.0 ∙ ap (λ (t : List ℕ). t ++ rest) (sym (leb_one k n (omega (arith, same.0))));
      small = omega (arith, same.0, pow-suc 128 k, one_power k);
      fits = omega (arith, same.0);
    }

reads_more : (k b m n : ℕ) (bs rest : List ℕ) → 128 ≤ b → b < 256 → Reads k bs m rest → with_low (b - 128) m ≡ Some n → Reads (suc k) (b ∷ bs) n rest
reads_more k b m n bs rest big byte r e =
    let got = with_low_takes (b - 128) m n e in
    let front : n / 128 ≡ m = omega (arith, got.1, parts_of n) in
    let low : 128 + n % 128 ≡ b = omega (arith, got.1, parts_of n) in
    let above : 128 ≤ n = omega (arith, got.0, got.1) in
    let whole : leb_within (suc k) n ≡ b ∷ leb_within k m = leb_more k n above ∙ (λ i. low i ∷ leb_within k (front i)) in
    record {
      parts = ap (λ (t : List ℕ). b ∷ t) r.parts ∙ ap (λ (t : List ℕ). t ++ rest) (sym whole);
      small = omega (arith, got.1, r.small, pow-suc 128 (suc k));
      fits = got.2;
    }

within_takes : (k : ℕ) (bytes : List ℕ) (n : ℕ) (rest : List ℕ) → number_within (suc k) bytes ≡ Some (n, rest) → Reads k bytes n rest
unfolding number_within
within_takes k [] n rest e = absurd (none-some _ e)
within_takes zero (b ∷ bs) n rest e =
    either (ltb b 128) (Some (b, bs)) (cond (ltb b 256) None None) (n, rest) e (λ small f. reads_one zero b n bs rest (ltb-true b 128 small) f) (λ big f.
    either (ltb b 256) None None (n, rest) f (λ _ g. absurd (none-some _ g)) (λ _ g. absurd (none-some _ g)))
within_takes (suc k) (b ∷ bs) n rest e =
    either (ltb b 128) (Some (b, bs)) _ (n, rest) e (λ small f. reads_one (suc k) b n bs rest (ltb-true b 128 small) f) (λ big f.
    either (ltb b 256) (number_within (suc k) bs >>= (λ x. with_low (b - 128) x.0 >>= (λ n. Some (n, x.1)))) None (n, rest) f (λ byte g.
    let m = bind_some (number_within (suc k) bs) _ (n, rest) g in
    let x = bind_some (with_low (b - 128) m.0.0) _ (n, rest) m.2 in
    let same = some_pair_parts x.0 n m.0.1 rest x.2 in
    let r = within_takes k bs m.0.0 m.0.1 m.1 in
    let r' = subst (λ (t : List ℕ). Reads k bs m.0.0 t) same.1 r in
    reads_more k b m.0.0 n bs rest (ltb-false b 128 big) (ltb-true b 256 byte) r' (x.1 ∙ ap (λ (y : ℕ). Some y) same.0)) (λ _ g. absurd (none-some _ g)))

-- ---- numbers in a range

pub at_again : (least limit n : ℕ) (rest : List ℕ) → IsWithin least limit n → n < 2 ^ 64 → number_at least limit (leb128 n ++ rest) ≡ Some (n, rest)
unfolding number_at leb128
at_again least limit n rest within fits = rw (within_again 9 n rest (omega arith) fits, le-leb least n within.0, lt-ltb n limit within.1) refl

pub whole_again : (n : ℕ) (rest : List ℕ) → n < 2 ^ 64 → number_within 10 (leb128 n ++ rest) ≡ Some (n, rest)
unfolding leb128
whole_again n rest fits = within_again 9 n rest (omega arith) fits

pub at_takes : (least limit : ℕ) (bytes : List ℕ) (x : ℕ × List ℕ) → number_at least limit bytes ≡ Some x → (bytes ≡ leb128 x.0 ++ x.1) × IsWithin least limit x.0
unfolding number_at leb128
at_takes least limit bytes x e =
    let n = bind_some (number_within 10 bytes) _ x e in
    let got = cond_some (leb least n.0.0 && ltb n.0.0 limit) n.0 x n.2 in
    let both = both_true _ _ got.0 in
    let r = within_takes 9 bytes n.0.0 n.0.1 n.1 in
    subst (λ (y : ℕ × List ℕ). (bytes ≡ leb_within 9 y.0 ++ y.1) × IsWithin least limit y.0) got.1 (r.parts, (leb-true least n.0.0 both.0, ltb-true n.0.0 limit both.1))

pub whole_takes : (bytes : List ℕ) (x : ℕ × List ℕ) → number_within 10 bytes ≡ Some x → (bytes ≡ leb128 x.0 ++ x.1) × (x.0 < 2 ^ 64)
unfolding leb128
whole_takes bytes x e =
    let r = within_takes 9 bytes x.0 x.1 e in
    (r.parts, r.fits)

-- ---- writing

-- more bytes than needed aren't used
same_within : (k n : ℕ) → n < 128 ^ suc k → leb_within (suc k) n ≡ leb_within k n
same_within zero n small = leb_one 1 n (omega (arith, pow-suc 128 0, pow-zero 128)) ∙ sym (leb_one 0 n (omega (arith, pow-suc 128 0, pow-zero 128)))
same_within (suc k) n small = by (ltb n 128) refl (same_within k (n / 128))
  where
    by : (t : Bool) → ltb n 128 ≡ t → (n / 128 < 128 ^ suc k → leb_within (suc k) (n / 128) ≡ leb_within k (n / 128)) → leb_within (suc (suc k)) n ≡ leb_within (suc k) n
    by true e go = leb_one (suc (suc k)) n (ltb-true n 128 e) ∙ sym (leb_one (suc k) n (ltb-true n 128 e))
    by false e go =
        let big : 128 ≤ n = ltb-false n 128 e in
        let higher = go (omega (arith, pow-suc 128 (suc k), parts_of n)) in
        leb_more (suc k) n big ∙ ap (λ (t : List ℕ). (128 + n % 128) ∷ t) higher ∙ sym (leb_more k n big)

leb128-one : (n : ℕ) → n < 128 → leb128 n ≡ n ∷ []
unfolding leb128
leb128-one n small = leb_one 9 n small

leb128-more : (n : ℕ) → 128 ≤ n → n < 2 ^ 64 → leb128 n ≡ (128 + n % 128) ∷ leb128 (n / 128)
unfolding leb128
leb128-more n big fits = leb_more 8 n big ∙ ap (λ (t : List ℕ). (128 + n % 128) ∷ t) (sym (same_within 8 (n / 128) (omega (arith, parts_of n))))

-- the last byte of a number, behind what stands there
pub last_byte : (n : ℕ) (bytes : List ℕ) → n < 128 → (bytes ++ leb128 n ≡ bytes ++ n ∷ []) × (length (leb128 n) ≡ 1)
last_byte n bytes small = (ap (λ (t : List ℕ). bytes ++ t) (leb128-one n small), ap length (leb128-one n small))

-- one byte of a number, behind what stands there
pub next_byte : (n : ℕ) (bytes : List ℕ) → 128 ≤ n → n < 2 ^ 64 → (bytes ++ leb128 n ≡ (bytes ++ (128 + n % 128) ∷ []) ++ leb128 (n / 128)) × (length (leb128 n) ≡ 1 + length (leb128 (n / 128)))
next_byte n bytes big fits =
    let e = leb128-more n big fits in
    (ap (λ (t : List ℕ). bytes ++ t) e ∙ sym (append_assoc bytes ((128 + n % 128) ∷ []) (leb128 (n / 128))), omega (arith, ap length e))

length-leb_within : (j k n : ℕ) → n < 128 ^ suc k → length (leb_within j n) ≤ suc k
unfolding leb_within
length-leb_within zero k n small = omega arith
length-leb_within (suc j) k n small = by k (ltb n 128) refl small (λ l. length-leb_within j l (n / 128))
  where
    by : (k : ℕ) (t : Bool) → ltb n 128 ≡ t → n < 128 ^ suc k → ((l : ℕ) → n / 128 < 128 ^ suc l → length (leb_within j (n / 128)) ≤ suc l) → length (leb_within (suc j) n) ≤ suc k
    by k true e h go = rw (leb_one (suc j) n (ltb-true n 128 e)) (omega arith)
    by zero false e h go =
        let big : 128 ≤ n = ltb-false n 128 e in
        absurd (omega (arith, pow-suc 128 0, pow-zero 128))
    by (suc l) false e h go =
        let big : 128 ≤ n = ltb-false n 128 e in
        let higher = go l (omega (arith, pow-suc 128 (suc l), parts_of n)) in
        rw (leb_more j n big) (omega (arith, higher))

-- a thread's number has at most five bytes, private steps two, and an address ten
pub length-leb128 : (k n : ℕ) → n < 128 ^ suc k → length (leb128 n) ≤ suc k
unfolding leb128
length-leb128 k n small = length-leb_within 9 k n small
