-- What a spelling's bytes name is what the assembler takes.
use Rattle.std.proofs.Common.{◌≡◌, ℕ, zero, suc, ◌+◌, ◌-◌, ◌*◌, ◌%◌, ◌^◌, ◌<◌, ◌≤◌, ℤ, Bool, true, false, cond, ◌||◌, List, [], ◌∷◌, inl, inr, length, Some, refl, sym, ap, arith}
use Rattle.std.specs.Prelude.{nat_eq, nat_le, nat_lt, is_some}
use Rattle.std.specs.Int.{w8, w32, w64, cast_signed, cast_unsigned}
use Rattle.std.proofs.lemmas.Bool.{and_from, both_ways, eqb-true, ltb-true, lt-ltb, le-leb, leb-true, cases_Bool, cond_both}
use Rattle.std.proofs.lemmas.Option.{same_Some}
use Rattle.x86_forms.specs.declared.operands.Width.{Width}
use Rattle.x86_forms.specs.declared.operands.Width.TheVariants.{W8, W16, W32, W64}
use Rattle.x86_forms.specs.declared.operands.Base.{Base}
use Rattle.x86_forms.specs.declared.operands.Base.TheVariants as base
use Rattle.x86_forms.specs.declared.operands.Operand.{Operand}
use Rattle.x86_forms.specs.declared.operands.Operand.TheVariants as operand
use Rattle.x86_forms.specs.declared.operands.Place.{Place}
use Rattle.x86_forms.specs.declared.operands.Place.TheVariants as place
use Rattle.x86_forms.specs.declared.rows.Size.{Size}
use Rattle.x86_forms.specs.declared.rows.Size.TheVariants as size
use Rattle.x86_forms.specs.declared.rows.Tail.{Tail}
use Rattle.x86_forms.specs.declared.rows.Tail.TheVariants as tail
use Rattle.x86_forms.specs.Operands.{byte, unsigned, signed, rex_w, rex_x, rex_b, high_field, middle_field, low_field, is_baseless, index_of, sib_index, sib_scale, indexed, based, place_of, register, operand_of, width_of, tail_len, at_width}
use Rattle.guest_asm.specs.Places.{below, is_scale, index_can, base_can, place_can}
use Rattle.guest_asm.specs.Pieces.{is_64, marks_can}
use Rattle.guest_asm.specs.Encodable.{register_can, rm_can, imm_can, whole_imm_can}
use Rattle.guest_asm.proofs.PlaceLemmas.{signed_low, signed_high}

-- ---- registers

pub no_rex_is_0 : (x : List ℕ) → nat_eq (length x) 0 ≡ true → byte x ≡ 0
no_rex_is_0 [] e = refl
no_rex_is_0 (b ∷ bs) e = absurd (let z : length (b ∷ bs) ≡ 0 = eqb-true _ _ e in omega (arith, z))

-- three bits, and a bit of REX
pub number_below : (no_rex : Bool) (n k : ℕ) → (no_rex ≡ true → k ≡ 0) → n < 8 → k < 2 → below no_rex (n + 8 * k) ≡ true
number_below true n k z h l = let none : k ≡ 0 = z refl in lt-ltb (n + 8 * k) 8 (omega (arith, none, h))
number_below false n k z h l = lt-ltb (n + 8 * k) 16 (omega (arith, h, l))

pub read_register : (w : Width) (no_rex : Bool) (n : ℕ) → below no_rex n ≡ true → register_can no_rex w (register w no_rex n) ≡ true
unfolding register
read_register W8 true n h =
    let l : n < 8 = ltb-true n 8 h in
    cond_both (nat_le 4 n) (operand.High (n - 4)) (operand.Reg n) (λ o. register_can true W8 o ≡ true) (λ t. let x : 4 ≤ n = leb-true 4 n t in lt-ltb (n - 4) 4 (omega (arith, x, l))) (λ f. let x : n < 4 = grind (arith, f) in lt-ltb n 4 x)
read_register W8 false n h = h
read_register W16 no_rex n h = h
read_register W32 no_rex n h = h
read_register W64 no_rex n h = h

pub as_rm : (no_rex : Bool) (w : Width) (o : Operand) → register_can no_rex w o ≡ true → rm_can no_rex w o ≡ true
as_rm no_rex w (operand.Reg r) h = h
as_rm no_rex w (operand.High r) h = h
as_rm no_rex w (operand.Mem m) h = absurd (both_ways false refl h)
as_rm no_rex w (operand.Imm n) h = absurd (both_ways false refl h)

-- ---- memory

power_is_scale : (k : ℕ) → k < 4 → is_scale (2 ^ k) ≡ true
power_is_scale zero h = refl
power_is_scale (suc zero) h = refl
power_is_scale (suc (suc zero)) h = refl
power_is_scale (suc (suc (suc zero))) h = refl
power_is_scale (suc (suc (suc (suc k)))) h = absurd (omega (arith, h))

read_index : (no_rex : Bool) (x sib : ℕ) → sib < 256 → (no_rex ≡ true → rex_x x ≡ 0) → index_can no_rex (sib_index x sib) (sib_scale x sib) ≡ true
read_index no_rex x sib b z =
    elim (cases_Bool (nat_eq (index_of x sib) 4)) [
      | inl t ↦ rw t refl
      | inr f ↦ (let n : below no_rex (index_of x sib) ≡ true = number_below no_rex (middle_field sib) (rex_x x) z (omega arith) (omega arith) in
          let s : is_scale (2 ^ high_field sib) ≡ true = power_is_scale (high_field sib) (omega (arith, b)) in
          rw (f, n) (rw (f, s) refl))
    ]

pub read_place : (no_rex : Bool) (x m sib : ℕ) (d : ℤ) → sib < 256 → (no_rex ≡ true → rex_x x ≡ 0) → (no_rex ≡ true → rex_b x ≡ 0) → place_can no_rex (place_of x m sib d) ≡ true
unfolding place_of indexed based
read_place no_rex x m sib d b zx zb =
    let number : (n : ℕ) → n < 8 → below no_rex (n + 8 * rex_b x) ≡ true = λ n h. number_below no_rex n (rex_b x) zb h (omega arith) in
    let P : Place → Type 0 = λ p. place_can no_rex p ≡ true in
    let based_on : (v : Bool) (c : Base) (n : ℕ) (i : Bool) → base_can no_rex c i ≡ true → n < 8 → base_can no_rex (cond v c (base.Reg (n + 8 * rex_b x))) i ≡ true = λ v c n i k h. cond_both v c (base.Reg (n + 8 * rex_b x)) (λ o. base_can no_rex o i ≡ true) (λ _. k) (λ _. number n h) in
    cond_both (nat_eq (high_field m) 3) _ _ P (λ _. number (low_field m) (omega arith)) (λ _. cond_both (nat_eq (low_field m) 4) _ _ P (λ _. and_from _ _ (based_on (is_baseless m sib) base.None (low_field sib) (is_some (sib_index x sib)) refl (omega arith)) (read_index no_rex x sib b zx)) (λ _. and_from _ _ (based_on (is_baseless m 0) base.Rip (low_field m) false refl (omega arith)) refl))

pub read_rm : (no_rex : Bool) (w : Width) (p : Place) → place_can no_rex p ≡ true → rm_can no_rex w (operand_of w no_rex p) ≡ true
unfolding operand_of
read_rm no_rex w (place.Reg n) h = as_rm no_rex w (register w no_rex n) (read_register w no_rex n h)
read_rm no_rex w (place.Mem m) h = h

-- ---- immediates

abbrev pub is_imm : Tail → Bool
is_imm tail.Ib = true
is_imm tail.Iz = true
is_imm tail.Nothing = false
is_imm tail.Iv = false
is_imm tail.Iw = false
is_imm tail.Rel8 = false
is_imm tail.Rel32 = false

pub read_whole : (w : Width) (z : ℤ) → whole_imm_can w (at_width w z) ≡ true
unfolding at_width
read_whole W8 z = lt-ltb _ 256 (omega arith)
read_whole W16 z = lt-ltb _ 65536 (omega arith)
read_whole W32 z = lt-ltb _ 4294967296 (omega arith)
read_whole W64 z = refl

extended_8 : (u : ℕ) → imm_can W64 (cast_unsigned w64 (cast_signed w8 u) % 18446744073709551616) ≡ true
extended_8 u =
    elim (cases_Bool (nat_lt u 128)) [
      | inl t ↦ (let l : u < 128 = ltb-true u 128 t in
          let is : u % 18446744073709551616 ≡ u = omega (arith, l) in
          let small : nat_lt u 2147483648 ≡ true = lt-ltb u 2147483648 (omega (arith, l)) in
          rw (signed_low w8 u l) (rw (is, small) refl))
      | inr f ↦ (let l : 128 ≤ u = grind (arith, f) in
          let v = 18446744073709551616 - suc (256 - suc u) in
          let is : v % 18446744073709551616 ≡ v = omega (arith, l) in
          let big : nat_le 18446744071562067968 v ≡ true = le-leb _ _ (omega (arith, l)) in
          rw (signed_high w8 u l) (rw is (or_right (nat_lt v 2147483648) (nat_le 18446744071562067968 v) big)))
    ]
  where
    or_right : (a b : Bool) → b ≡ true → (a || b) ≡ true
    or_right true b h = refl
    or_right false b h = h

extended_32 : (u : ℕ) → imm_can W64 (cast_unsigned w64 (cast_signed w32 u) % 18446744073709551616) ≡ true
extended_32 u =
    elim (cases_Bool (nat_lt u 2147483648)) [
      | inl t ↦ (let l : u < 2147483648 = ltb-true u 2147483648 t in
          let is : u % 18446744073709551616 ≡ u = omega (arith, l) in
          rw (signed_low w32 u l) (rw (is, t) refl))
      | inr f ↦ (let l : 2147483648 ≤ u = grind (arith, f) in
          let v = 18446744073709551616 - suc (4294967296 - suc u) in
          let is : v % 18446744073709551616 ≡ v = omega (arith, l) in
          let big : nat_le 18446744071562067968 v ≡ true = le-leb _ _ (omega (arith, l)) in
          rw (signed_high w32 u l) (rw is (or_right (nat_lt v 2147483648) (nat_le 18446744071562067968 v) big)))
    ]
  where
    or_right : (a b : Bool) → b ≡ true → (a || b) ≡ true
    or_right true b h = refl
    or_right false b h = h

signed_one : (l : List ℕ) → length l ≡ 1 → at_width W64 (signed l) ≡ cast_unsigned w64 (cast_signed w8 (unsigned l)) % 18446744073709551616
unfolding at_width signed
signed_one l e = rw e refl

signed_four : (l : List ℕ) → length l ≡ 4 → at_width W64 (signed l) ≡ cast_unsigned w64 (cast_signed w32 (unsigned l)) % 18446744073709551616
unfolding at_width signed
signed_four l e = rw e refl

pub read_imm : (w : Width) (t : Tail) (bs : List ℕ) → is_imm t ≡ true → length bs ≡ tail_len t w → imm_can w (at_width w (signed bs)) ≡ true
unfolding tail_len
read_imm W8 t bs i len = read_whole W8 (signed bs)
read_imm W16 t bs i len = read_whole W16 (signed bs)
read_imm W32 t bs i len = read_whole W32 (signed bs)
read_imm W64 tail.Ib bs i len = rw (signed_one bs len) (extended_8 (unsigned bs))
read_imm W64 tail.Iz bs i len = rw (signed_four bs len) (extended_32 (unsigned bs))
read_imm W64 tail.Nothing bs i len = absurd (both_ways false refl i)
read_imm W64 tail.Iv bs i len = absurd (both_ways false refl i)
read_imm W64 tail.Iw bs i len = absurd (both_ways false refl i)
read_imm W64 tail.Rel8 bs i len = absurd (both_ways false refl i)
read_imm W64 tail.Rel32 bs i len = absurd (both_ways false refl i)

-- ---- widths

abbrev pub is_q : Size → Bool
is_q size.Q = true
is_q size.B = false
is_q size.V = false
is_q size.D = false

abbrev pub is_b : Size → Bool
is_b size.B = true
is_b size.Q = false
is_b size.V = false
is_b size.D = false

pub q_64 : (z : Size) (n : Bool) (b : ℕ) (w : Width) → is_q z ≡ true → width_of z n b ≡ Some w → w ≡ W64
unfolding width_of
q_64 size.Q n b w e h = sym (same_Some W64 w h)
q_64 _ n b w e h = absurd (both_ways false refl e)

pub b_8 : (z : Size) (n : Bool) (b : ℕ) (w : Width) → is_b z ≡ true → width_of z n b ≡ Some w → w ≡ W8
unfolding width_of
b_8 size.B n b w e h = sym (same_Some W8 w h)
b_8 _ n b w e h = absurd (both_ways false refl e)

-- without REX.W no row but those of 64 bits has that width
not_64 : (z : Size) (n : Bool) (w : Width) → is_q z ≡ false → width_of z n 0 ≡ Some w → is_64 w ≡ false
unfolding width_of
not_64 size.B n w e h = ap is_64 (sym (same_Some W8 w h))
not_64 size.V true w e h = ap is_64 (sym (same_Some W16 w h))
not_64 size.V false w e h = ap is_64 (sym (same_Some W32 w h))
not_64 size.D true w e h = absurd cc
not_64 size.D false w e h = ap is_64 (sym (same_Some W32 w h))
not_64 size.Q n w e h = absurd (both_ways true e refl)

pub read_marks : (z : Size) (n : Bool) (x : List ℕ) (w : Width) → is_q z ≡ false → width_of z n (rex_w (byte x)) ≡ Some w → marks_can (nat_eq (length x) 0) w ≡ true
read_marks z n x w e h =
    elim (cases_Bool (nat_eq (length x) 0)) [
      | inl t ↦ (let none : byte x ≡ 0 = no_rex_is_0 x t in
          let k : width_of z n 0 ≡ Some w = rw none at h in
          rw (t, not_64 z n w e k) refl)
      | inr f ↦ rw f refl
    ]
