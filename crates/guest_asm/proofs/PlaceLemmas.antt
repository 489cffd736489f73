-- The bytes that are made for a register or for memory name it.
use Rattle.std.proofs.Common.{◌≡◌, ℕ, suc, ◌+◌, ◌-◌, ◌*◌, ◌/◌, ◌%◌, ◌^◌, ◌<◌, ◌≤◌, ℤ, pos, negsuc, Bool, true, false, cond, ◌&&◌, [], inl, inr, Option, Some, None, refl, sym, ap, arith, ◌∙◌, ◌⊎◌}
use Rattle.std.specs.Prelude.{nat_eq, nat_le, nat_lt, not}
use Rattle.std.specs.Int.{w8, w32, cast_signed, cast_unsigned}
use mir.Syntax.{Width}
use mir.Val.{bits, hbits}
use Rattle.std.specs.Int.RustNames.{FitsSigned}
use Rattle.std.proofs.lemmas.Int.{ints, to_z-of_z}
use Rattle.std.proofs.lemmas.Bool.{and_parts, or_cases, eqb-true, ltb-true, lt-ltb, le-ltb, leb-true, ne_eqb, not-true, cases_Bool}
use Rattle.x86_forms.specs.declared.operands.Base.{Base}
use Rattle.x86_forms.specs.declared.operands.Base.TheVariants as base
use Rattle.x86_forms.specs.declared.operands.Mem.{Mem}
use Rattle.x86_forms.specs.declared.operands.Place.TheVariants as place
use Rattle.x86_forms.specs.Operands.{unsigned, signed, displacement, rex_x, rex_b, high_field, middle_field, low_field, has_sib, is_baseless, disp_len, index_of, sib_base, sib_index, sib_scale, indexed, based, place_of}
use Rattle.x86_forms.specs.Spelling.{sib_len}
use Rattle.guest_asm.specs.Places.{low_bytes, is_short, reg_disp_mode, scale_bits, index_low, index_high, mode_len, below, is_scale, index_can}

-- ---- displacements

pub signed_low : (w : Width) (n : ℕ) → n < 2 ^ hbits w → cast_signed w n ≡ pos n
signed_low w n h = rw (lt-ltb n (2 ^ hbits w) h) refl

pub signed_high : (w : Width) (n : ℕ) → 2 ^ hbits w ≤ n → cast_signed w n ≡ negsuc (2 ^ bits w - suc n)
signed_high w n h = rw (le-ltb n (2 ^ hbits w) h) refl

pub short_disp : (d : ℤ) → FitsSigned w32 d → is_short (cast_unsigned w32 d) ≡ true → displacement (low_bytes 1 (cast_unsigned w32 d)) ≡ d
unfolding displacement signed
short_disp (pos n) f e =
    elim (or_cases (nat_lt n 128) (nat_le 4294967168 n) e) [
      | inl t ↦ (let h : n < 128 = ltb-true _ _ t in
          let same : n % 256 + 256 * 0 ≡ n = omega (arith, h) in
          ap (cast_signed w8) same ∙ signed_low w8 n h)
      | inr t ↦ (let h : 4294967168 ≤ n = leb-true _ _ t in
          let small : n < 2147483648 = f.sfits in
          absurd (omega (arith, small, h)))
    ]
short_disp (negsuc n) f e =
    elim (or_cases (nat_lt (4294967296 - suc n) 128) (nat_le 4294967168 (4294967296 - suc n)) e) [
      | inl t ↦ (let h : 4294967296 - suc n < 128 = ltb-true _ _ t in
          let small : n < 2147483648 = f.sfits in
          absurd (omega (arith, small, h)))
      | inr t ↦ (let h : 4294967168 ≤ 4294967296 - suc n = leb-true _ _ t in
          let up : 128 ≤ (4294967296 - suc n) % 256 + 256 * 0 = omega (arith, h) in
          let back : 256 - suc ((4294967296 - suc n) % 256 + 256 * 0) ≡ n = omega (arith, h) in
          signed_high w8 ((4294967296 - suc n) % 256 + 256 * 0) up ∙ ap negsuc back)
    ]

pub four_bytes : (n : ℕ) → n < 2 ^ 32 → unsigned (low_bytes 4 n) ≡ n
four_bytes n h = omega (arith, h)

pub long_disp : (d : ℤ) → FitsSigned w32 d → displacement (low_bytes 4 (cast_unsigned w32 d)) ≡ d
unfolding displacement signed
long_disp d f =
    let small : cast_unsigned w32 d < 2 ^ 32 = omega (arith, ints, f) in
    ap (cast_signed w32) (four_bytes (cast_unsigned w32 d) small) ∙ to_z-of_z w32 d f

pub no_disp : (d : ℤ) → FitsSigned w32 d → cast_unsigned w32 d ≡ 0 → displacement [] ≡ d
unfolding displacement signed
no_disp d f h = omega (arith, ints, f, h)

-- ---- fields

pub record Fields (m high middle low : ℕ) : Type 0 where
  pub top : high_field m ≡ high
  pub mid : middle_field m ≡ middle
  pub bottom : low_field m ≡ low
  pub small : m < 256

pub fields : (h r l : ℕ) → h < 4 → r < 8 → l < 8 → Fields (64 * h + 8 * r + l) h r l
fields h r l a b c = record { top = omega (arith, a, b, c); mid = omega (arith, a, b, c); bottom = omega (arith, a, b, c); small = omega (arith, a, b, c) }

-- ---- registers

pub below_16 : (no_rex : Bool) (r : ℕ) → below no_rex r ≡ true → r < 16
below_16 true r e = let h : r < 8 = ltb-true r 8 e in omega (arith, h)
below_16 false r e = ltb-true r 16 e

pub whole : (r : ℕ) → r % 8 + 8 * (r / 8) ≡ r
whole r = omega arith

-- ---- the index

pub power : (s : ℕ) → is_scale s ≡ true → 2 ^ scale_bits s ≡ s
power s e =
    elim (or_cases (nat_eq s 1) _ e) [
      | inl a ↦ (let h : s ≡ 1 = eqb-true _ _ a in rw h refl)
      | inr e ↦ elim (or_cases (nat_eq s 2) _ e) [
        | inl a ↦ (let h : s ≡ 2 = eqb-true _ _ a in rw h refl)
        | inr e ↦ elim (or_cases (nat_eq s 4) _ e) [
          | inl a ↦ (let h : s ≡ 4 = eqb-true _ _ a in rw h refl)
          | inr a ↦ (let h : s ≡ 8 = eqb-true _ _ a in rw h refl)
        ]
      ]
    ]

pub index_made : (no_rex : Bool) (x sib : ℕ) (i : Option ℕ) (s : ℕ) → middle_field sib ≡ index_low i → high_field sib ≡ scale_bits s → rex_x x ≡ index_high i → index_can no_rex i s ≡ true → (sib_index x sib ≡ i) × (sib_scale x sib ≡ s)
index_made no_rex x sib None s m h r c =
    let one : s ≡ 1 = eqb-true s 1 c in
    let four : index_of x sib ≡ 4 = omega (arith, m, r) in
    (rw four refl, rw four (sym one))
index_made no_rex x sib (Some n) s m h r c =
    let p = and_parts (below no_rex n) _ c in
    let q = and_parts (not (nat_eq n 4)) (is_scale s) p.1 in
    let is : index_of x sib ≡ n = omega (arith, m, r) in
    let other : nat_eq n 4 ≡ false = not-true _ q.0 in
    (rw (is, other) refl, rw (is, other, h) (power s q.1))

-- ---- how a displacement is written

abbrev pub NoBytes : ℕ → ℕ → Type 0
NoBytes low bits = (reg_disp_mode low bits ≡ 0) × (bits ≡ 0) × (nat_eq low 5 ≡ false)

abbrev pub OneByte : ℕ → ℕ → Type 0
OneByte low bits = (reg_disp_mode low bits ≡ 1) × (is_short bits ≡ true)

abbrev pub Modes : ℕ → ℕ → Type 0
Modes low bits = NoBytes low bits ⊎ (OneByte low bits ⊎ (reg_disp_mode low bits ≡ 2))

pub modes : (low bits : ℕ) → Modes low bits
modes low bits =
    elim (cases_Bool (nat_eq bits 0 && not (nat_eq low 5))) [
      | inl t ↦ (let p = and_parts (nat_eq bits 0) (not (nat_eq low 5)) t in inl (rw t refl, eqb-true bits 0 p.0, not-true _ p.1))
      | inr f ↦ elim (cases_Bool (is_short bits)) [
        | inl t ↦ inr (inl (rw (f, t) refl, t))
        | inr g ↦ inr (inr (rw (f, g) refl))
      ]
    ]

pub mode_small : (low bits : ℕ) → reg_disp_mode low bits < 3
mode_small low bits =
    elim (modes low bits) [
      | inl a ↦ (let h : reg_disp_mode low bits ≡ 0 = a.0 in rw h (omega arith))
      | inr b ↦ elim b [
        | inl a ↦ (let h : reg_disp_mode low bits ≡ 1 = a.0 in rw h (omega arith))
        | inr h ↦ rw h (omega arith)
      ]
    ]

pub reg_disp_made : (low : ℕ) (d : ℤ) → FitsSigned w32 d → displacement (low_bytes (mode_len (reg_disp_mode low (cast_unsigned w32 d))) (cast_unsigned w32 d)) ≡ d
reg_disp_made low d f =
    let bits = cast_unsigned w32 d in
    elim (modes low bits) [
      | inl a ↦ (let h : reg_disp_mode low bits ≡ 0 = a.0 in rw h (no_disp d f a.1))
      | inr b ↦ elim b [
        | inl a ↦ (let h : reg_disp_mode low bits ≡ 1 = a.0 in rw h (short_disp d f a.1))
        | inr h ↦ rw h (long_disp d f)
      ]
    ]

-- A base register is one: mod is not 00, or its low bits are not 101.
pub not_baseless_sib : (m sib low bits : ℕ) → high_field m ≡ reg_disp_mode low bits → low_field m ≡ 4 → low_field sib ≡ low → is_baseless m sib ≡ false
unfolding is_baseless
not_baseless_sib m sib low bits h l k =
    elim (modes low bits) [
      | inl a ↦ rw (h, a.0, l, k, a.2) refl
      | inr b ↦ elim b [
        | inl a ↦ rw (h, a.0) refl
        | inr e ↦ rw (h, e) refl
      ]
    ]

pub not_baseless : (m low bits : ℕ) → high_field m ≡ reg_disp_mode low bits → low_field m ≡ low → nat_eq low 4 ≡ false → is_baseless m 0 ≡ false
unfolding is_baseless
not_baseless m low bits h l k =
    elim (modes low bits) [
      | inl a ↦ rw (h, a.0, l, k, a.2) refl
      | inr b ↦ elim b [
        | inl a ↦ rw (h, a.0) refl
        | inr e ↦ rw (h, e) refl
      ]
    ]

pub reg_disp_len : (m sib low bits : ℕ) → high_field m ≡ reg_disp_mode low bits → is_baseless m sib ≡ false → mode_len (reg_disp_mode low bits) ≡ disp_len m sib
unfolding disp_len
reg_disp_len m sib low bits h n =
    elim (modes low bits) [
      | inl a ↦ rw (h, a.0, n) refl
      | inr b ↦ elim b [
        | inl a ↦ rw (h, a.0) refl
        | inr e ↦ rw (h, e) refl
      ]
    ]

-- ---- memory

abbrev pub memory : Base → Option ℕ → ℕ → ℤ → Mem
memory b i s d = record { base = b; index = i; scale = s; disp = d }

pub by_sib : (x m sib : ℕ) (b : Base) (i : Option ℕ) (s : ℕ) (d : ℤ) → high_field m < 3 → low_field m ≡ 4 → sib_base x m sib ≡ b → sib_index x sib ≡ i → sib_scale x sib ≡ s → place_of x m sib d ≡ place.Mem (memory b i s d)
unfolding place_of indexed
by_sib x m sib b i s d h l eb ei es =
    let three : nat_eq (high_field m) 3 ≡ false = ne_eqb _ _ (omega (arith, h)) in
    rw (three, l, eb, ei, es) refl

pub by_modrm : (x m sib : ℕ) (b : Base) (d : ℤ) → high_field m < 3 → nat_eq (low_field m) 4 ≡ false → cond (is_baseless m 0) base.Rip (base.Reg (low_field m + 8 * rex_b x)) ≡ b → place_of x m sib d ≡ place.Mem (memory b None 1 d)
unfolding place_of based
by_modrm x m sib b d h l eb =
    let three : nat_eq (high_field m) 3 ≡ false = ne_eqb _ _ (omega (arith, h)) in
    rw (three, l, eb) refl

pub sib_yes : (m : ℕ) → high_field m < 3 → low_field m ≡ 4 → 1 ≡ sib_len true m
unfolding has_sib
sib_yes m h l = let three : nat_eq (high_field m) 3 ≡ false = ne_eqb _ _ (omega (arith, h)) in rw (three, l) refl

pub sib_no : (m : ℕ) → nat_eq (low_field m) 4 ≡ false → 0 ≡ sib_len true m
unfolding has_sib
sib_no m l = elim (cases_Bool (nat_eq (high_field m) 3)) [ inl t ↦ rw t refl | inr f ↦ rw (f, l) refl ]
