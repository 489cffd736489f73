-- Operands and immediates that the assembler takes are read as they were.
use Rattle.std.proofs.Common.{◌≡◌, ℕ, ◌+◌, ◌-◌, ◌%◌, ◌^◌, ◌<◌, ◌≤◌, Bool, true, false, inl, inr, refl, arith}
use Rattle.std.specs.Prelude.{nat_le, nat_lt}
use Rattle.std.specs.Int.{w8, w16, w32, w64, cast_signed, cast_unsigned}
use Rattle.std.proofs.lemmas.Bool.{or_cases, both_ways, ltb-true, lt-ltb, le-leb, leb-true, cases_Bool, false_from_ne_true}
use Rattle.x86_forms.specs.declared.operands.Width.{Width}
use Rattle.x86_forms.specs.declared.operands.Width.TheVariants.{W8, W16, W32, W64}
use Rattle.x86_forms.specs.declared.operands.Operand.{Operand}
use Rattle.x86_forms.specs.declared.operands.Operand.TheVariants as operand
use Rattle.x86_forms.specs.Operands.{unsigned, signed, register, operand_of, at_width}
use Rattle.x86_forms.specs.Widths.{bytes_in}
use Rattle.guest_asm.specs.Places.{low_bytes, below, place_can}
use Rattle.guest_asm.specs.Encodable.{reg_can, high_can, register_can, rm_can, imm_can, whole_imm_can, is_over8, OperandTyped}
use Rattle.guest_asm.specs.Choices.{number_of, to_place, is_short_imm, imm_bytes}
use Rattle.guest_asm.proofs.PlaceLemmas.{signed_low, signed_high}
use Rattle.guest_asm.proofs.PlacesMade.{DispFits}

-- ---- registers

not_le : (a b : ℕ) → b < a → nat_le a b ≡ false
not_le a b h = false_from_ne_true (nat_le a b) (λ t. let l : a ≤ b = leb-true a b t in absurd (omega (arith, l, h)))

pub reg_is : (no_rex : Bool) (w : Width) (r : ℕ) → reg_can no_rex w r ≡ true → (register w no_rex r ≡ operand.Reg r) × (below no_rex r ≡ true)
unfolding register
reg_is true W8 r h = let l : r < 4 = ltb-true r 4 h in (rw (not_le 4 r l) refl, lt-ltb r 8 (omega (arith, l)))
reg_is false W8 r h = (refl, h)
reg_is no_rex W16 r h = (refl, h)
reg_is no_rex W32 r h = (refl, h)
reg_is no_rex W64 r h = (refl, h)

pub high_is : (no_rex : Bool) (w : Width) (r : ℕ) → high_can no_rex w r ≡ true → (register w no_rex (r % 4 + 4) ≡ operand.High r) × (below no_rex (r % 4 + 4) ≡ true)
unfolding register
high_is true W8 r h =
    let l : r < 4 = ltb-true r 4 h in
    let from : nat_le 4 (r % 4 + 4) ≡ true = le-leb 4 (r % 4 + 4) (omega arith) in
    let back : r % 4 + 4 - 4 ≡ r = omega (arith, l) in
    (rw (from, back) refl, lt-ltb (r % 4 + 4) 8 (omega arith))
high_is false W8 r h = absurd (both_ways false refl h)
high_is no_rex W16 r h = absurd (both_ways false refl h)
high_is no_rex W32 r h = absurd (both_ways false refl h)
high_is no_rex W64 r h = absurd (both_ways false refl h)

pub register_is : (no_rex : Bool) (w : Width) (o : Operand) → register_can no_rex w o ≡ true → (register w no_rex (number_of o) ≡ o) × (below no_rex (number_of o) ≡ true)
register_is no_rex w (operand.Reg r) h = reg_is no_rex w r h
register_is no_rex w (operand.High r) h = high_is no_rex w r h
register_is no_rex w (operand.Mem m) h = absurd (both_ways false refl h)
register_is no_rex w (operand.Imm n) h = absurd (both_ways false refl h)

pub rm_is : (no_rex : Bool) (w : Width) (o : Operand) → rm_can no_rex w o ≡ true → (operand_of w no_rex (to_place o) ≡ o) × (place_can no_rex (to_place o) ≡ true)
unfolding operand_of
rm_is no_rex w (operand.Reg r) h = reg_is no_rex w r h
rm_is no_rex w (operand.High r) h = high_is no_rex w r h
rm_is no_rex w (operand.Mem m) h = (refl, h)
rm_is no_rex w (operand.Imm n) h = absurd (both_ways false refl h)

pub disp_fits : (o : Operand) → OperandTyped o → DispFits (to_place o)
disp_fits (operand.Reg r) h = tt
disp_fits (operand.High r) h = tt
disp_fits (operand.Mem m) h = h
disp_fits (operand.Imm n) h = tt

pub digit_below : (no_rex : Bool) (g : ℕ) → g < 8 → below no_rex g ≡ true
digit_below true g h = lt-ltb g 8 h
digit_below false g h = lt-ltb g 16 (omega (arith, h))

-- ---- immediates

cut_8 : (u : ℕ) → u < 256 → cast_unsigned w64 (cast_signed w8 u) % 256 ≡ u
cut_8 u h =
    elim (cases_Bool (nat_lt u 128)) [
      | inl t ↦ (let l : u < 128 = ltb-true u 128 t in rw (signed_low w8 u l) (omega (arith, l)))
      | inr f ↦ (let l : 128 ≤ u = grind (arith, f) in rw (signed_high w8 u l) (omega (arith, l, h)))
    ]

cut_16 : (u : ℕ) → u < 65536 → cast_unsigned w64 (cast_signed w16 u) % 65536 ≡ u
cut_16 u h =
    elim (cases_Bool (nat_lt u 32768)) [
      | inl t ↦ (let l : u < 32768 = ltb-true u 32768 t in rw (signed_low w16 u l) (omega (arith, l)))
      | inr f ↦ (let l : 32768 ≤ u = grind (arith, f) in rw (signed_high w16 u l) (omega (arith, l, h)))
    ]

cut_32 : (u : ℕ) → u < 4294967296 → cast_unsigned w64 (cast_signed w32 u) % 4294967296 ≡ u
cut_32 u h =
    elim (cases_Bool (nat_lt u 2147483648)) [
      | inl t ↦ (let l : u < 2147483648 = ltb-true u 2147483648 t in rw (signed_low w32 u l) (omega (arith, l)))
      | inr f ↦ (let l : 2147483648 ≤ u = grind (arith, f) in rw (signed_high w32 u l) (omega (arith, l, h)))
    ]

cut_64 : (u : ℕ) → u < 18446744073709551616 → cast_unsigned w64 (cast_signed w64 u) % 18446744073709551616 ≡ u
cut_64 u h =
    elim (cases_Bool (nat_lt u 9223372036854775808)) [
      | inl t ↦ (let l : u < 9223372036854775808 = ltb-true u 9223372036854775808 t in rw (signed_low w64 u l) (omega (arith, l)))
      | inr f ↦ (let l : 9223372036854775808 ≤ u = grind (arith, f) in rw (signed_high w64 u l) (omega (arith, l, h)))
    ]

one_byte : (n : ℕ) → n < 256 → unsigned (low_bytes 1 n) ≡ n
one_byte n h = omega (arith, h)

two_bytes : (n : ℕ) → n < 65536 → unsigned (low_bytes 2 n) ≡ n
two_bytes n h = omega (arith, h)

four_bytes : (n : ℕ) → unsigned (low_bytes 4 n) ≡ n % 4294967296
four_bytes n = omega arith

eight_bytes : (n : ℕ) → n < 18446744073709551616 → unsigned (low_bytes 8 n) ≡ n
eight_bytes n h = omega (arith, h)

pub whole_imm : (w : Width) (n : ℕ) → whole_imm_can w n ≡ true → n < 2 ^ 64 → at_width w (signed (low_bytes (bytes_in w) n)) ≡ n
unfolding at_width signed
whole_imm W8 n c t = let h : n < 256 = ltb-true n 256 c in rw (one_byte n h) (cut_8 n h)
whole_imm W16 n c t = let h : n < 65536 = ltb-true n 65536 c in rw (two_bytes n h) (cut_16 n h)
whole_imm W32 n c t =
    let h : n < 4294967296 = ltb-true n 4294967296 c in
    let is : unsigned (low_bytes 4 n) ≡ n = omega (arith, four_bytes n, h) in
    rw is (cut_32 n h)
whole_imm W64 n c t = let h : n < 18446744073709551616 = t in rw (eight_bytes n h) (cut_64 n h)

pub imm_is : (w : Width) (n : ℕ) → imm_can w n ≡ true → n < 2 ^ 64 → at_width w (signed (low_bytes (imm_bytes w) n)) ≡ n
unfolding at_width signed
imm_is W8 n c t = whole_imm W8 n c t
imm_is W16 n c t = whole_imm W16 n c t
imm_is W32 n c t = whole_imm W32 n c t
imm_is W64 n c t =
    let u = n % 4294967296 in
    let top : n < 18446744073709551616 = t in
    elim (or_cases (nat_lt n 2147483648) (nat_le 18446744071562067968 n) c) [
      | inl b ↦ (let l : n < 2147483648 = ltb-true _ _ b in
          let is : unsigned (low_bytes 4 n) ≡ n = omega (arith, four_bytes n, l) in
          rw (is, signed_low w32 n l) (omega (arith, l)))
      | inr b ↦ (let l : 18446744071562067968 ≤ n = leb-true _ _ b in
          let up : 2147483648 ≤ u = omega (arith, l, top) in
          rw (four_bytes n, signed_high w32 u up) (omega (arith, l, top)))
    ]

-- one byte with its sign, at a width over 8 bits
low_byte : (n : ℕ) → unsigned (low_bytes 1 n) ≡ n % 256
low_byte n = omega arith

pub short_imm : (w : Width) (n : ℕ) → is_over8 w ≡ true → imm_can w n ≡ true → is_short_imm w n ≡ true → n < 2 ^ 64 → at_width w (signed (low_bytes 1 n)) ≡ n
unfolding at_width signed
short_imm W8 n o c s t = absurd (both_ways false refl o)
short_imm W16 n o c s t =
    let top : n < 65536 = ltb-true n 65536 c in
    elim (or_cases (nat_lt n 128) (nat_le 65408 n) s) [
      | inl b ↦ (let l : n < 128 = ltb-true _ _ b in
          let is : unsigned (low_bytes 1 n) ≡ n = omega (arith, low_byte n, l) in
          rw (is, signed_low w8 n l) (omega (arith, l)))
      | inr b ↦ (let l : 65408 ≤ n = leb-true _ _ b in
          let up : 128 ≤ n % 256 = omega (arith, l, top) in
          rw (low_byte n, signed_high w8 (n % 256) up) (omega (arith, l, top)))
    ]
short_imm W32 n o c s t =
    let top : n < 4294967296 = ltb-true n 4294967296 c in
    elim (or_cases (nat_lt n 128) (nat_le 4294967168 n) s) [
      | inl b ↦ (let l : n < 128 = ltb-true _ _ b in
          let is : unsigned (low_bytes 1 n) ≡ n = omega (arith, low_byte n, l) in
          rw (is, signed_low w8 n l) (omega (arith, l)))
      | inr b ↦ (let l : 4294967168 ≤ n = leb-true _ _ b in
          let up : 128 ≤ n % 256 = omega (arith, l, top) in
          rw (low_byte n, signed_high w8 (n % 256) up) (omega (arith, l, top)))
    ]
short_imm W64 n o c s t =
    let top : n < 18446744073709551616 = t in
    elim (or_cases (nat_lt n 128) (nat_le 18446744073709551488 n) s) [
      | inl b ↦ (let l : n < 128 = ltb-true _ _ b in
          let is : unsigned (low_bytes 1 n) ≡ n = omega (arith, low_byte n, l) in
          rw (is, signed_low w8 n l) (omega (arith, l)))
      | inr b ↦ (let l : 18446744073709551488 ≤ n = leb-true _ _ b in
          let up : 128 ≤ n % 256 = omega (arith, l, top) in
          rw (low_byte n, signed_high w8 (n % 256) up) (omega (arith, l, top)))
    ]
