-- What is made for a place is read as that place.
use Rattle.std.proofs.Common.{◌≡◌, ℕ, ◌+◌, ◌*◌, ◌/◌, ◌%◌, ◌<◌, ℤ, Bool, true, false, cond, List, inl, inr, length, Option, Some, None, refl, sym, subst, arith}
use Rattle.std.specs.Prelude.{nat_eq, is_some}
use Rattle.std.specs.Int.{w32, cast_unsigned}
use Rattle.std.specs.Int.RustNames.{FitsSigned}
use Rattle.std.proofs.lemmas.Bool.{and_parts, both_ways, eqb-true, cases_Bool}
use Rattle.x86_forms.specs.declared.operands.Base.{Base}
use Rattle.x86_forms.specs.declared.operands.Base.TheVariants as base
use Rattle.x86_forms.specs.declared.operands.Place.{Place}
use Rattle.x86_forms.specs.declared.operands.Place.TheVariants as place
use Rattle.x86_forms.specs.Operands.{byte, displacement, rex_x, rex_b, high_field, middle_field, low_field, has_sib, is_baseless, disp_len, sib_base, place_of}
use Rattle.x86_forms.specs.Spelling.{sib_len}
use Rattle.guest_asm.specs.Places.{optional, low_bytes, reg_disp_mode, base_high, base_needs_sib, scale_bits, index_low, index_high, sib_of, modrm_of, b_of, x_of, sib_part, mode_len, disp_len_of, bits_of, index_can, base_can, place_can}
use Rattle.guest_asm.proofs.PlaceLemmas.{fields, index_made, long_disp, mode_small, reg_disp_made, not_baseless_sib, not_baseless, reg_disp_len, memory, by_sib, by_modrm, sib_yes, sib_no}

-- the bytes made for a place and for a reg field
abbrev pub sib_byte : Place → ℕ
sib_byte p = byte (optional (sib_part p))

abbrev pub disp_bytes : Place → List ℕ
disp_bytes p = low_bytes (disp_len_of p) (bits_of p)

abbrev pub DispFits : Place → Type 0
DispFits (place.Reg n) = Unit {0}
DispFits (place.Mem m) = FitsSigned w32 m.disp

-- A ModRM byte m, perhaps a SIB byte, and the low bytes of a number, which name p and have the low bits of reg between.
pub record Made (x reg : ℕ) (p : Place) (m : ℕ) (sib_of_p : Option ℕ) (len bits : ℕ) : Type 0 where
  pub is : place_of x m (byte (optional sib_of_p)) (displacement (low_bytes len bits)) ≡ p
  pub sib : length (optional sib_of_p) ≡ sib_len true m
  pub disp : len ≡ disp_len m (byte (optional sib_of_p))
  pub middle : middle_field m ≡ reg % 8
  pub small : m < 256
  pub sib_small : byte (optional sib_of_p) < 256

abbrev pub PlaceMade : ℕ → ℕ → Place → Type 0
PlaceMade x reg p = Made x reg p (modrm_of reg p) (sib_part p) (disp_len_of p) (bits_of p)

four_disp : (m sib : ℕ) → high_field m ≡ 0 → is_baseless m sib ≡ true → 4 ≡ disp_len m sib
unfolding disp_len
four_disp m sib h n = rw (h, n) refl

scale_small : (s : ℕ) → scale_bits s < 4
scale_small s =
    elim (cases_Bool (nat_eq s 1)) [
      | inl a ↦ rw a (omega arith)
      | inr f ↦ elim (cases_Bool (nat_eq s 2)) [
        | inl a ↦ rw (f, a) (omega arith)
        | inr g ↦ elim (cases_Bool (nat_eq s 4)) [
          | inl a ↦ rw (f, g, a) (omega arith)
          | inr h ↦ rw (f, g, h) (omega arith)
        ]
      ]
    ]

index_small : (i : Option ℕ) → index_low i < 8
index_small None = omega arith
index_small (Some r) = omega arith

none_made : (no_rex : Bool) (x reg : ℕ) (i : Option ℕ) (s : ℕ) (d : ℤ) → FitsSigned w32 d → index_can no_rex i s ≡ true → rex_b x ≡ 0 → rex_x x ≡ index_high i → PlaceMade x reg (place.Mem (memory base.None i s d))
unfolding is_baseless
none_made no_rex x reg i s d f c b h =
    let m = 64 * 0 + 8 * (reg % 8) + 4 in
    let v = 64 * scale_bits s + 8 * index_low i + 5 in
    let fm = fields 0 (reg % 8) 4 (omega arith) (omega arith) (omega arith) in
    let fv = fields (scale_bits s) (index_low i) 5 (scale_small s) (index_small i) (omega arith) in
    let high : high_field m < 3 = omega (arith, fm.top) in
    let none : is_baseless m v ≡ true = rw (fm.top, fm.bottom, fv.bottom) refl in
    let e : sib_base x m v ≡ base.None = rw none refl in
    let im = index_made no_rex x v i s fv.mid fv.top h c in
    let dd = long_disp d f in
    record {
      is = rw dd (by_sib x m v base.None i s d high fm.bottom e im.0 im.1);
      sib = sib_yes m high fm.bottom;
      disp = four_disp m v fm.top none;
      middle = fm.mid;
      small = fm.small;
      sib_small = fv.small;
    }

rip_made : (x reg : ℕ) (d : ℤ) → FitsSigned w32 d → PlaceMade x reg (place.Mem (memory base.Rip None 1 d))
unfolding is_baseless
rip_made x reg d f =
    let m = 64 * 0 + 8 * (reg % 8) + 5 in
    let fm = fields 0 (reg % 8) 5 (omega arith) (omega arith) (omega arith) in
    let high : high_field m < 3 = omega (arith, fm.top) in
    let none : is_baseless m 0 ≡ true = rw (fm.top, fm.bottom) refl in
    let four : nat_eq (low_field m) 4 ≡ false = rw fm.bottom refl in
    let dd = long_disp d f in
    record {
      is = rw dd (by_modrm x m 0 base.Rip d high four (rw none refl));
      sib = sib_no m four;
      disp = four_disp m 0 fm.top none;
      middle = fm.mid;
      small = fm.small;
      sib_small = omega arith;
    }

-- a base register with a SIB byte
based_made : (no_rex : Bool) (x reg r : ℕ) (i : Option ℕ) (s : ℕ) (d : ℤ) → FitsSigned w32 d → index_can no_rex i s ≡ true → rex_b x ≡ r / 8 → rex_x x ≡ index_high i → base_needs_sib (base.Reg r) (is_some i) ≡ true → PlaceMade x reg (place.Mem (memory (base.Reg r) i s d))
unfolding is_baseless
based_made no_rex x reg r i s d f c b h n =
    let bits = cast_unsigned w32 d in
    let k = reg_disp_mode (r % 8) bits in
    let m = 64 * k + 8 * (reg % 8) + 4 in
    let v = 64 * scale_bits s + 8 * index_low i + r % 8 in
    let low3 : k < 3 = mode_small (r % 8) bits in
    let fm = fields k (reg % 8) 4 (omega (arith, low3)) (omega arith) (omega arith) in
    let fv = fields (scale_bits s) (index_low i) (r % 8) (scale_small s) (index_small i) (omega arith) in
    let high : high_field m < 3 = omega (arith, fm.top, low3) in
    let some : is_baseless m v ≡ false = not_baseless_sib m v (r % 8) bits fm.top fm.bottom fv.bottom in
    let number : low_field v + 8 * rex_b x ≡ r = omega (arith, fv.bottom, b) in
    let e : sib_base x m v ≡ base.Reg r = rw (some, number) refl in
    let im = index_made no_rex x v i s fv.mid fv.top h c in
    let dd = reg_disp_made (r % 8) d f in
    let P : Bool → Type 0 = λ t. Made x reg (place.Mem (memory (base.Reg r) i s d)) (64 * k + 8 * (reg % 8) + cond t 4 (r % 8)) (cond t (Some v) None) (mode_len k) bits in
    subst P (sym n) (record {
      is = rw dd (by_sib x m v (base.Reg r) i s d high fm.bottom e im.0 im.1);
      sib = sib_yes m high fm.bottom;
      disp = reg_disp_len m v (r % 8) bits fm.top some;
      middle = fm.mid;
      small = fm.small;
      sib_small = fv.small;
    })

-- a base register without one
bare_made : (x reg r : ℕ) (d : ℤ) → FitsSigned w32 d → rex_b x ≡ r / 8 → nat_eq (r % 8) 4 ≡ false → PlaceMade x reg (place.Mem (memory (base.Reg r) None 1 d))
bare_made x reg r d f b n =
    let bits = cast_unsigned w32 d in
    let k = reg_disp_mode (r % 8) bits in
    let m = 64 * k + 8 * (reg % 8) + r % 8 in
    let low3 : k < 3 = mode_small (r % 8) bits in
    let fm = fields k (reg % 8) (r % 8) (omega (arith, low3)) (omega arith) (omega arith) in
    let high : high_field m < 3 = omega (arith, fm.top, low3) in
    let four : nat_eq (low_field m) 4 ≡ false = rw fm.bottom n in
    let some : is_baseless m 0 ≡ false = not_baseless m (r % 8) bits fm.top fm.bottom n in
    let number : low_field m + 8 * rex_b x ≡ r = omega (arith, fm.bottom, b) in
    let dd = reg_disp_made (r % 8) d f in
    let P : Bool → Type 0 = λ t. Made x reg (place.Mem (memory (base.Reg r) None 1 d)) (64 * k + 8 * (reg % 8) + cond t 4 (r % 8)) (cond t (Some (sib_of (memory (base.Reg r) None 1 d))) None) (mode_len k) bits in
    subst P (sym n) (record {
      is = rw dd (by_modrm x m 0 (base.Reg r) d high four (rw (some, number) refl));
      sib = sib_no m four;
      disp = reg_disp_len m 0 (r % 8) bits fm.top some;
      middle = fm.mid;
      small = fm.small;
      sib_small = omega arith;
    })

reg_made : (x reg n : ℕ) → rex_b x ≡ n / 8 → PlaceMade x reg (place.Reg n)
unfolding place_of has_sib disp_len
reg_made x reg n b =
    let m = 64 * 3 + 8 * (reg % 8) + n % 8 in
    let fm = fields 3 (reg % 8) (n % 8) (omega arith) (omega arith) (omega arith) in
    let number : low_field m + 8 * rex_b x ≡ n = omega (arith, fm.bottom, b) in
    record {
      is = rw (fm.top, number) refl;
      sib = rw fm.top refl;
      disp = rw fm.top refl;
      middle = fm.mid;
      small = fm.small;
      sib_small = omega arith;
    }

mem_made : (no_rex : Bool) (x reg : ℕ) (b : Base) (i : Option ℕ) (s : ℕ) (d : ℤ) → FitsSigned w32 d → base_can no_rex b (is_some i) ≡ true → index_can no_rex i s ≡ true → rex_b x ≡ base_high b → rex_x x ≡ index_high i → PlaceMade x reg (place.Mem (memory b i s d))
mem_made no_rex x reg base.None i s d f bc ic b h = none_made no_rex x reg i s d f ic b h
mem_made no_rex x reg base.Rip None s d f bc ic b h =
    let one : s ≡ 1 = eqb-true s 1 ic in
    subst (λ t. PlaceMade x reg (place.Mem (memory base.Rip None t d))) (sym one) (rip_made x reg d f)
mem_made no_rex x reg base.Rip (Some n) s d f bc ic b h = absurd (both_ways false refl bc)
mem_made no_rex x reg (base.Reg r) (Some n) s d f bc ic b h = based_made no_rex x reg r (Some n) s d f ic b h refl
mem_made no_rex x reg (base.Reg r) None s d f bc ic b h =
    elim (cases_Bool (nat_eq (r % 8) 4)) [
      | inl t ↦ based_made no_rex x reg r None s d f ic b h t
      | inr n ↦ (let one : s ≡ 1 = eqb-true s 1 ic in
          subst (λ t. PlaceMade x reg (place.Mem (memory (base.Reg r) None t d))) (sym one) (bare_made x reg r d f b n))
    ]

-- The bytes made for a place name it, and the reg field is the number's low bits.
pub place_made : (no_rex : Bool) (x reg : ℕ) (p : Place) → DispFits p → place_can no_rex p ≡ true → rex_b x ≡ b_of p → rex_x x ≡ x_of p → PlaceMade x reg p
place_made no_rex x reg (place.Reg n) f c b h = reg_made x reg n b
place_made no_rex x reg (place.Mem m) f c b h =
    let p = and_parts (base_can no_rex m.base (is_some m.index)) _ c in
    mem_made no_rex x reg m.base m.index m.scale m.disp f p.0 p.1 b h
