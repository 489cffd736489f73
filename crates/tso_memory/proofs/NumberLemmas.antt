-- What a buffer shows by the writes that its numbers name.
use Rattle.std.proofs.Common.{◌≡◌, ℕ, zero, suc, ◌+◌, ◌-◌, ◌/◌, ◌^◌, ◌<◌, ◌≤◌, Bool, true, false, cond, List, [], ◌∷◌, ◌++◌, length, get_or, set, take, drop, max, replicate, slice_get, Option, Some, None, refl, sym, ap, subst, ◌∙◌, ◌⊎◌, inl, inr, arith}
use Rattle.std.specs.Int.{byte_at, bytes_low_first}
use Rattle.byteorder.specs.Endian.{little_number}
use Rattle.std.proofs.lemmas.Bool.{cases_eq}
use Rattle.std.proofs.lemmas.Bool.Decides.{nat_tests}
use Rattle.std.proofs.lemmas.List.{get_or-set_same, get_or-set_other, get_or_default, get_or-drop, length_push, length-set, length-replicate, get_or-replicate}
use Rattle.std.proofs.lemmas.Option.{slice_get_within}
use Rattle.tso_memory.specs.declared.write.PendingWrite.{PendingWrite}
use Rattle.tso_memory.specs.declared.write.Width.{Width}
use Rattle.tso_memory.specs.declared.write.Width.TheVariants.{W8, W16, W32, W64}
use Rattle.tso_memory.specs.Buffer.{covers, seen, size_of}
use Rattle.tso_memory.specs.Memory.{number_from}
use Rattle.tso_memory.proofs.BufferLemmas.{low_first_at}
use Rattle.tso_memory.proofs.MemoryLemmas.{number_from-little}
use Rattle.tso_memory.specs.Numbers.{class_of, class_of_eight, IsNumbered}

-- an access of up to 8 bytes lies in the classes of its first and of its last byte
pub class_span : (a n x : ℕ) → 0 < n → n ≤ 8 → a ≤ x → x < a + n → (class_of x ≡ class_of a) ⊎ (class_of x ≡ class_of (a + (n - 1)))
class_span a n x some narrow from to = elim (cases_eq (x / 8) (a / 8)) [
  | inl same ↦ inl (ap class_of_eight same)
  | inr ne ↦ let last : x / 8 ≡ (a + (n - 1)) / 8 = omega arith in inr (ap class_of_eight last)
]

pub class_below : (x : ℕ) → class_of x < 1024
unfolding class_of_eight
class_below x = omega arith

-- writes none of which covers the address show nothing
pub seen_none : (ps : List PendingWrite) (x b : ℕ) → ((j : ℕ) (q : PendingWrite) → slice_get ps j ≡ Some q → covers q x ≡ false) → seen ps x b ≡ b
unfolding seen
seen_none [] x b none = refl
seen_none (q ∷ ps) x b none = rw (none 0 q refl) (seen_none ps x b (λ j r e. none (suc j) r e))

-- the first n writes show what all do, where no later one covers the address
pub seen_prefix : (n : ℕ) (ps : List PendingWrite) (x b : ℕ) → ((j : ℕ) (q : PendingWrite) → n ≤ j → slice_get ps j ≡ Some q → covers q x ≡ false) → seen (take n ps) x b ≡ seen ps x b
unfolding seen
seen_prefix zero ps x b none = sym (seen_none ps x b (λ j q e. none j q (omega arith) e))
seen_prefix (suc n) [] x b none = refl
seen_prefix (suc n) (p ∷ ps) x b none = seen_prefix n ps x (cond (covers p x) (byte_at (x - p.at) p.value) b) (λ j q h e. none (suc j) q (omega arith) e)

-- one write more
pub seen_take : (ps : List PendingWrite) (i : ℕ) (p : PendingWrite) (x b : ℕ) → slice_get ps i ≡ Some p → seen (take (suc i) ps) x b ≡ cond (covers p x) (byte_at (x - p.at) p.value) (seen (take i ps) x b)
unfolding seen
seen_take [] i p x b e = cc
seen_take (q ∷ ps) zero p x b e = let same : q ≡ p = cc in rw same refl
seen_take (q ∷ ps) (suc i) p x b e = seen_take ps i p x (cond (covers q x) (byte_at (x - q.at) q.value) b) e

pub seen_take_own : (ps : List PendingWrite) (i : ℕ) (p : PendingWrite) (x b : ℕ) → slice_get ps i ≡ Some p → covers p x ≡ true → seen (take (suc i) ps) x b ≡ byte_at (x - p.at) p.value
seen_take_own ps i p x b e t = seen_take ps i p x b e ∙ (rw t refl)

pub seen_take_past : (ps : List PendingWrite) (i : ℕ) (p : PendingWrite) (x b : ℕ) → slice_get ps i ≡ Some p → covers p x ≡ false → seen (take (suc i) ps) x b ≡ seen (take i ps) x b
seen_take_past ps i p x b e t = seen_take ps i p x b e ∙ (rw t refl)

-- no write from n on covers an address whose class has a number of at most first + n
not_named : (ps : List PendingWrite) (first n x : ℕ) (newest : List ℕ) → IsNumbered ps first newest → get_or newest (class_of x) 0 ≤ first + n → (j : ℕ) (q : PendingWrite) → n ≤ j → slice_get ps j ≡ Some q → (b : Bool) → covers q x ≡ b → covers q x ≡ false
not_named ps first n x newest h low j q from e false out = out
not_named ps first n x newest h low j q from e true inside = absurd (omega (arith, h.named j x q e inside))

pub seen_named : (ps : List PendingWrite) (first n x b : ℕ) (newest : List ℕ) → IsNumbered ps first newest → get_or newest (class_of x) 0 ≤ first + n → seen (take n ps) x b ≡ seen ps x b
seen_named ps first n x b newest h low = seen_prefix n ps x b (λ j q from e. not_named ps first n x newest h low j q from e (covers q x) refl)

pub seen_reach : (ps : List PendingWrite) (first n a size x b : ℕ) (newest : List ℕ) → 0 < size → size ≤ 8 → IsNumbered ps first newest → get_or newest (class_of a) 0 ≤ first + n → get_or newest (class_of (a + (size - 1))) 0 ≤ first + n → a ≤ x → x < a + size → seen (take n ps) x b ≡ seen ps x b
seen_reach ps first n a size x b newest some narrow h low high from to = elim (class_span a size x some narrow from to) [
  | inl same ↦ seen_named ps first n x b newest h (subst (λ (c : ℕ). get_or newest c 0 ≤ first + n) (sym same) low)
  | inr same ↦ seen_named ps first n x b newest h (subst (λ (c : ℕ). get_or newest c 0 ≤ first + n) (sym same) high)
]

pub numbered_none : (xs : List ℕ) (n : ℕ) → xs ≡ replicate n 0 → n ≡ 1024 → IsNumbered [] 0 xs
numbered_none xs n e size = record {
  classes = ap length e ∙ (length-replicate n 0 ∙ size);
  named = λ i x p f t. cc;
  bound = λ c h. (let zero_there : get_or xs c 0 ≡ 0 = ap (λ (ys : List ℕ). get_or ys c 0) e ∙ get_or-replicate n c 0 0 (omega (arith, size)) in omega (arith, zero_there));
  small = omega arith;
}

-- each class may have a number past all that wait
pub numbered_again : (ps : List PendingWrite) (n : ℕ) (newest : List ℕ) → length ps ≡ n → n < 64 → length newest ≡ 1024 → ((c : ℕ) → c < 1024 → get_or newest c 0 ≡ n) → IsNumbered ps 0 newest
numbered_again ps n newest size few classes each = record {
  classes = classes;
  named = λ i x p e t. (let within : i < length ps = slice_get_within ps i p e in omega (arith, within, each (class_of x) (class_below x)));
  bound = λ c h. omega (arith, each c h);
  small = omega arith;
}

pub numbered_pop : (p : PendingWrite) (ps : List PendingWrite) (first : ℕ) (newest : List ℕ) → IsNumbered (p ∷ ps) first newest → IsNumbered ps (first + 1) newest
numbered_pop p ps first newest h = record {
  classes = h.classes;
  named = λ i x q e t. omega (arith, h.named (suc i) x q e t);
  bound = λ c below. omega (arith, h.bound c below);
  small = omega (arith, h.small);
}

-- a number set at two classes
two_set : (xs : List ℕ) (i j v c : ℕ) → length xs ≡ 1024 → i < 1024 → j < 1024 → c < 1024 → ((c ≡ i) ⊎ (c ≡ j)) → get_or (set (set xs i v) j v) c 0 ≡ v
two_set xs i j v c size hi hj hc at = elim (cases_eq c j) [
  | inl same ↦ rw same (get_or-set_same (set xs i v) j v 0 (omega (arith, length-set xs i v)))
  | inr ne ↦ get_or-set_other (set xs i v) j c v 0 ne ∙ elim at [
    | inl same ↦ rw same (get_or-set_same xs i v 0 (omega arith))
    | inr same ↦ absurd (ne same)
  ]
]

-- at any class the number is the new one or that of before
two_cases : (xs : List ℕ) (i j v c : ℕ) → length xs ≡ 1024 → i < 1024 → j < 1024 → c < 1024 → (get_or (set (set xs i v) j v) c 0 ≡ v) ⊎ (get_or (set (set xs i v) j v) c 0 ≡ get_or xs c 0)
two_cases xs i j v c size hi hj hc = elim (cases_eq c j) [
  | inl same ↦ inl (two_set xs i j v c size hi hj hc (inr same))
  | inr ne ↦ elim (cases_eq c i) [
    | inl same ↦ inl (two_set xs i j v c size hi hj hc (inl same))
    | inr other ↦ inr (get_or-set_other (set xs i v) j c v 0 ne ∙ get_or-set_other xs i c v 0 other)
  ]
]

-- the place of a write in a buffer with one more
pushed_get : (ps : List PendingWrite) (p q : PendingWrite) (i : ℕ) → slice_get (ps ++ p ∷ []) i ≡ Some q → ((i ≡ length ps) × (q ≡ p)) ⊎ (slice_get ps i ≡ Some q)
pushed_get [] p q zero e = inl (refl, cc)
pushed_get [] p q (suc i) e = cc
pushed_get (r ∷ ps) p q zero e = inr e
pushed_get (r ∷ ps) p q (suc i) e = elim (pushed_get ps p q i e) [ inl here ↦ inl (ap suc here.0, here.1) | inr before ↦ inr before ]

pub width_some : (w : Width) → 0 < size_of w
width_some W8 = omega arith
width_some W16 = omega arith
width_some W32 = omega arith
width_some W64 = omega arith

pub width_narrow : (w : Width) → size_of w ≤ 8
width_narrow W8 = omega arith
width_narrow W16 = omega arith
width_narrow W32 = omega arith
width_narrow W64 = omega arith

covers_from : (p : PendingWrite) (x : ℕ) → covers p x ≡ true → p.at ≤ x
covers_from p x t = grind (arith, nat_tests)

covers_to : (p : PendingWrite) (x : ℕ) → covers p x ≡ true → x < p.at + size_of p.width
covers_to p x t = grind (arith, nat_tests)

pub numbered_push : (ps : List PendingWrite) (p : PendingWrite) (first : ℕ) (newest : List ℕ) → first + length ps < 2 ^ 63 → IsNumbered ps first newest → IsNumbered (ps ++ p ∷ []) first (set (set newest (class_of p.at) (first + length ps + 1)) (class_of (p.at + (size_of p.width - 1))) (first + length ps + 1))
numbered_push ps p first newest room h = record { classes = size; named = name; bound = below; small = few }
  where
    low : ℕ
    low = class_of p.at

    high : ℕ
    high = class_of (p.at + (size_of p.width - 1))

    v : ℕ
    v = first + length ps + 1

    new : List ℕ
    new = set (set newest low v) high v

    more : length (ps ++ p ∷ []) ≡ length ps + 1
    more = length_push ps p

    size : length new ≡ 1024
    size = length-set (set newest low v) high v ∙ (length-set newest low v ∙ h.classes)

    few : first + length (ps ++ p ∷ []) ≤ 2 ^ 63
    few = omega (arith, more)

    below : (c : ℕ) → c < 1024 → get_or new c 0 ≤ first + length (ps ++ p ∷ [])
    below c hc = elim (two_cases newest low high v c h.classes (class_below p.at) (class_below (p.at + (size_of p.width - 1))) hc) [
      | inl set_there ↦ omega (arith, more, set_there)
      | inr before ↦ omega (arith, more, before, h.bound c hc)
    ]

    name : (i x : ℕ) (q : PendingWrite) → slice_get (ps ++ p ∷ []) i ≡ Some q → covers q x ≡ true → first + i < get_or new (class_of x) 0
    name i x q e t = elim (pushed_get ps p q i e) [
      | inl here ↦
          let own : covers p x ≡ true = ap (λ (r : PendingWrite). covers r x) (sym here.1) ∙ t in
          let there : get_or new (class_of x) 0 ≡ v = two_set newest low high v (class_of x) h.classes (class_below p.at) (class_below (p.at + (size_of p.width - 1))) (class_below x) (class_span p.at (size_of p.width) x (width_some p.width) (width_narrow p.width) (covers_from p x own) (covers_to p x own)) in
          omega (arith, there, here.0)
      | inr before ↦
          let within : i < length ps = slice_get_within ps i q before in
          let old : first + i < get_or newest (class_of x) 0 = h.named i x q before t in
          elim (two_cases newest low high v (class_of x) h.classes (class_below p.at) (class_below (p.at + (size_of p.width - 1))) (class_below x)) [
            | inl set_there ↦ omega (arith, set_there, within)
            | inr same ↦ omega (arith, same, old)
          ]
    ]

pub numbered_drop : (ps : List PendingWrite) (first : ℕ) (newest : List ℕ) → 0 < length ps → IsNumbered ps first newest → IsNumbered (drop 1 ps) (first + 1) newest
numbered_drop [] first newest some h = absurd (omega arith)
numbered_drop (p ∷ ps) first newest some h = numbered_pop p ps first newest h

-- a number that is read at the place of a class
pub class_read : (xs : List ℕ) (i k r : ℕ) → length xs ≡ 1024 → i < 1024 → i ≡ k → r ≡ get_or xs i r → r ≡ get_or xs k 0
class_read xs i k r size within same e = e ∙ (get_or_default xs i r 0 (omega (arith, size)) ∙ ap (λ (j : ℕ). get_or xs j 0) same)

pub reach_within : (ps : List PendingWrite) (first a b low high n : ℕ) (newest : List ℕ) → IsNumbered ps first newest → low ≡ get_or newest (class_of a) 0 → high ≡ get_or newest (class_of b) 0 → n ≡ max low high - first → n ≤ length ps
reach_within ps first a b low high n newest h l r e = omega (arith, e, l, r, h.bound (class_of a) (class_below a), h.bound (class_of b) (class_below b))

-- the last write that covers an address decides, also where it is the last of the first so many alone
pub seen_before : (ps : List PendingWrite) (n k : ℕ) (p : PendingWrite) (x b : ℕ) → k < n → slice_get ps (n - 1 - k) ≡ Some p → covers p x ≡ false → seen (take (n - k) ps) x b ≡ seen (take n ps) x b → seen (take (n - (k + 1)) ps) x b ≡ seen (take n ps) x b
seen_before ps n k p x b less e out so_far =
    let one : n - k ≡ suc (n - 1 - k) = omega arith in
    let two : n - (k + 1) ≡ n - 1 - k = omega arith in
    ap (λ (m : ℕ). seen (take m ps) x b) two ∙ (sym (seen_take_past ps (n - 1 - k) p x b e out) ∙ (ap (λ (m : ℕ). seen (take m ps) x b) (sym one) ∙ so_far))

pub seen_here : (ps : List PendingWrite) (n k : ℕ) (p : PendingWrite) (x b : ℕ) → k < n → slice_get ps (n - 1 - k) ≡ Some p → covers p x ≡ true → seen (take (n - k) ps) x b ≡ seen (take n ps) x b → seen (take n ps) x b ≡ byte_at (x - p.at) p.value
seen_here ps n k p x b less e inside so_far =
    let one : n - k ≡ suc (n - 1 - k) = omega arith in
    sym so_far ∙ (ap (λ (m : ℕ). seen (take m ps) x b) one ∙ seen_take_own ps (n - 1 - k) p x b e inside)

pub seen_zero : (ps : List PendingWrite) (n k x b : ℕ) → n ≤ k → seen (take (n - k) ps) x b ≡ seen (take n ps) x b → seen (take n ps) x b ≡ b
unfolding seen
seen_zero ps n k x b past so_far = let none : n - k ≡ 0 = omega arith in sym so_far ∙ (ap (λ (m : ℕ). seen (take m ps) x b) none)

-- a byte that is there where a test holds
pub byte_there : (b : Bool) (v w : ℕ) (r : Option ℕ) → r ≡ cond b (Some v) None → r ≡ Some w → (b ≡ true) × (w ≡ v)
byte_there true v w r is e = (refl, cc)
byte_there false v w r is e = cc

pub byte_missing : (b : Bool) (v : ℕ) (r : Option ℕ) → r ≡ cond b (Some v) None → r ≡ None → b ≡ false
byte_missing true v r is e = cc
byte_missing false v r is e = refl

-- the number from an address on by the bytes of a write's value
pub write_bytes : (bytes : List ℕ) (at a value n : ℕ) → bytes ≡ bytes_low_first 0 8 value → at ≤ a → a - at + n ≤ 8 → number_from (λ x. byte_at (x - at) value) n a ≡ little_number n (drop (a - at) bytes)
write_bytes bytes at a value n is from fits = number_from-little n 0 (λ x. byte_at (x - at) value) a (drop (a - at) bytes) (λ j within.
    let place : a + j - at ≡ 0 + (a - at + j) = omega arith in
    let same : j ≡ 0 + j = omega arith in
    ap (λ (k : ℕ). byte_at k value) place
    ∙ (sym (low_first_at 8 (a - at + j) 0 value (omega arith))
    ∙ (ap (λ (xs : List ℕ). get_or xs (a - at + j) 0) (sym is) ∙ (sym (get_or-drop (a - at) bytes j 0) ∙ ap (λ (k : ℕ). get_or (drop (a - at) bytes) k 0) same))))
