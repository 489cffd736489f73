-- How long a jump back is.
use Rattle.std.proofs.Common.{◌≡◌, ℕ, ◌+◌, ◌-◌, ◌≤◌, ◌<◌, Bool, true, false, ◌||◌, pos, ◌-ℤ◌, ℤ, List, nat_lt, nat_le, length, refl, sym, ap, subst, ◌∙◌, arith, inl, inr}
use Rattle.std.proofs.lemmas.Int.{ints}
use Rattle.std.specs.Int.{w32, cast_unsigned}
use Rattle.std.proofs.lemmas.Bool.{le-leb, cases_Bool, ltb-true, leb-true}
use Rattle.x86_forms.specs.declared.conditions.Cond.TheVariants.{Ne}
use Rattle.x86_forms.specs.declared.instructions.Instr.TheVariants as instr
use Rattle.x86_forms.specs.Spelling.{Spells}
use Rattle.guest_gen.specs.declared.line.Line.TheVariants.{Jne}
use Rattle.guest_gen.specs.Spelling.{SpellsLine}
use Rattle.guest_asm.specs.Places.{is_short}
use Rattle.guest_asm.specs.Assembling.{usual}

or_right : (a b : Bool) → b ≡ true → (a || b) ≡ true
or_right true b h = refl
or_right false b h = h

near_short : (label at : ℕ) → label ≤ at → at - label ≤ 126 → is_short (cast_unsigned w32 (pos label -ℤ pos (at + 2))) ≡ true
near_short label at h near = or_right _ _ (le-leb 4294967168 (cast_unsigned w32 (pos label -ℤ pos (at + 2))) (omega (arith, ints, h, near)))

-- two bytes where it reaches
pub near_size : (label at : ℕ) → label ≤ at → at - label ≤ 126 → length (usual (instr.Jcc Ne (pos label -ℤ pos (at + 2)))) ≡ 2
near_size label at h near = rw (near_short label at h near) refl

far_long : (label at : ℕ) → label ≤ at → 126 < at - label → at + 6 ≤ 0x7fffffff → is_short (cast_unsigned w32 (pos label -ℤ pos (at + 6))) ≡ false
far_long label at h far low =
    let bits = cast_unsigned w32 (pos label -ℤ pos (at + 6)) in
    elim (cases_Bool (nat_lt bits 128)) [
      | inl t ↦ absurd (omega (arith, ints, h, far, low, ltb-true bits 128 t))
      | inr f ↦ elim (cases_Bool (nat_le 4294967168 bits)) [
        | inl u ↦ absurd (omega (arith, ints, h, far, low, leb-true 4294967168 bits u))
        | inr g ↦ rw (f, g) refl
      ]
    ]

-- else six
pub far_size : (label at : ℕ) → label ≤ at → 126 < at - label → at + 6 ≤ 0x7fffffff → length (usual (instr.Jcc Ne (pos label -ℤ pos (at + 6)))) ≡ 6
far_size label at h far low = rw (far_long label at h far low) refl

-- a jump whose distance counts from so many bytes behind it, where it has as many
sized : (label at size : ℕ) (rel : ℤ) (s : List ℕ) → rel ≡ pos label -ℤ pos (at + size) → Spells (instr.Jcc Ne rel) s → length s ≡ size → SpellsLine label (at + length s) Jne s
sized label at size rel s e h n = subst (λ (k : ℕ). Spells (instr.Jcc Ne (pos label -ℤ pos (at + k))) s) (sym n) (subst (λ (r : ℤ). Spells (instr.Jcc Ne r) s) e h)

pub near_spelled : (label at : ℕ) (rel : ℤ) (s : List ℕ) → label ≤ at → at - label ≤ 126 → rel ≡ pos label -ℤ pos (at + 2) → Spells (instr.Jcc Ne rel) s → s ≡ usual (instr.Jcc Ne rel) → SpellsLine label (at + length s) Jne s
near_spelled label at rel s b near e h u = sized label at 2 rel s e h (ap length u ∙ ap (λ (r : ℤ). length (usual (instr.Jcc Ne r))) e ∙ near_size label at b near)

pub far_spelled : (label at : ℕ) (rel : ℤ) (s : List ℕ) → label ≤ at → 126 < at - label → at + 6 ≤ 0x7fffffff → rel ≡ pos label -ℤ pos (at + 6) → Spells (instr.Jcc Ne rel) s → s ≡ usual (instr.Jcc Ne rel) → SpellsLine label (at + length s) Jne s
far_spelled label at rel s b far low e h u = sized label at 6 rel s e h (ap length u ∙ ap (λ (r : ℤ). length (usual (instr.Jcc Ne r))) e ∙ far_size label at b far low)

-- a jump has at most six bytes
pub jump_short : (rel : ℤ) → length (usual (instr.Jcc Ne rel)) ≤ 6
jump_short rel = elim (cases_Bool (is_short (cast_unsigned w32 rel))) [
  | inl t ↦ rw t (omega arith)
  | inr f ↦ rw f (omega arith)
]
