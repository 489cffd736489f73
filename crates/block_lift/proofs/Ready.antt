-- Lines that are typed one after another, and the types that they leave.
use Rattle.std.proofs.Common.{◌≡◌, ℕ, ◌<◌, ◌^◌, Bool, true, false, sym, subst, refl, List, [], ◌∷◌, ◌++◌, Option, Some, None}
use Rattle.std.proofs.lemmas.Bool.{and_parts, and_from, lt-ltb, eq-eqb}
use Rattle.std.specs.Prelude.{if◌then◌else◌, nat_eq, ◌||◌, ◌==◌}
use Rattle.ir_syntax.specs.declared.block.Part.{Part}
use Rattle.ir_syntax.specs.declared.cond.Flag.{Flag}
use Rattle.ir_syntax.specs.declared.line.Family.{Family}
use Rattle.ir_syntax.specs.declared.line.Op.{Op}
use Rattle.ir_syntax.specs.declared.line.Op.TheVariants.{GetHigh}
use Rattle.ir_syntax.specs.declared.line.PartEnd.{PartEnd}
use Rattle.ir_syntax.specs.Typed.{Types, are_operands, are_typed, holds, is_base, is_end_typed, is_index, is_temp, is_typed, goes_on, puts as family_puts, types_after, types_after_all, wrote}
use Rattle.ir_syntax.specs.Width.{bits_of}
use Rattle.x86_forms.specs.declared.operands.Base.{Base}
use Rattle.x86_forms.specs.declared.operands.Base.TheVariants as base
use Rattle.x86_forms.specs.declared.operands.Mem.{Mem}
use Rattle.x86_forms.specs.declared.operands.Operand.{Operand}
use Rattle.x86_forms.specs.declared.operands.Operand.TheVariants as operand
use Rattle.x86_forms.specs.declared.operands.Width.{Width}
use Rattle.x86_forms.specs.Groups.{is_memory}
use Rattle.x86_forms.specs.Limits.{BaseFits, IndexFits, MemFits, OperandFits, PlaceFits}
use Rattle.lift_table.specs.Faithful.{takes_answer}
use Rattle.lift_table.specs.LiftLines.{address_line, base_register, end_at, flag_lines, ir_width, part, puts, reads, zero_lines}
use Rattle.lift_table.proofs.LiftWords.{same_bits}

-- the bits of a width
abbrev pub num : Width → ℕ
num w = bits_of (ir_width w)

-- the types of the eight temporaries
abbrev pub kinds : Option ℕ → Option ℕ → Option ℕ → Option ℕ → Option ℕ → Option ℕ → Option ℕ → Option ℕ → Types
kinds a b c d e f g h = a ∷ b ∷ c ∷ d ∷ e ∷ f ∷ g ∷ h ∷ []

pub same_num : (w : Width) → (num w == num w) ≡ true
same_num w = eq-eqb (num w) (num w) refl

-- lines that are typed, and leave these types
pub record Ready (types : Types) (ops : List Op) (left : Types) : Type 0 where
  pub typed : are_typed types ops ≡ true
  pub leaves : types_after_all types ops ≡ left

pub nil_ready : (T : Types) → Ready T [] T
nil_ready T = record { typed = refl; leaves = refl }

pub line_ready : (T : Types) (o : Op) (os : List Op) (U : Types) → is_typed T o ≡ true → Ready (types_after T o) os U → Ready T (o ∷ os) U
line_ready T o os U e r = record { typed = and_from _ _ e r.typed; leaves = r.leaves }

pub one_ready : (T : Types) (o : Op) → is_typed T o ≡ true → Ready T (o ∷ []) (types_after T o)
one_ready T o e = line_ready T o [] (types_after T o) e (nil_ready (types_after T o))

pub both_ready : (T : Types) (xs ys : List Op) (U V : Types) → Ready T xs U → Ready U ys V → Ready T (xs ++ ys) V
both_ready T [] ys U V a b = subst (λ (t : Types). Ready t ys V) (sym a.leaves) b
both_ready T (x ∷ xs) ys U V a b =
    let p = and_parts (is_typed T x) _ a.typed in
    line_ready T x (xs ++ ys) V p.0 (both_ready (types_after T x) xs ys U V (record { typed = p.1; leaves = a.leaves }) b)

pub maybe_ready : (none : Bool) (T : Types) (ops : List Op) → Ready T ops T → Ready T (if none then [] else ops) T
maybe_ready true T ops r = nil_ready T
maybe_ready false T ops r = r

-- ---- addresses

base_typed : (b : Base) → BaseFits b → is_base (base_register b) ≡ true
base_typed base.None fits = refl
base_typed (base.Reg r) fits = lt-ltb r 16 fits
base_typed base.Rip fits = refl

any_of_four : (a b c d : Bool) → (a || (b || (c || d))) ≡ true → (a || b || c || d) ≡ true
any_of_four true b c d e = refl
any_of_four false true c d e = refl
any_of_four false false true d e = refl
any_of_four false false false d e = e

index_typed : (index : Option ℕ) (scale : ℕ) → IndexFits index scale → is_index index scale ≡ true
index_typed None scale fits = eq-eqb scale 1 fits
index_typed (Some r) scale fits = and_from _ _ (lt-ltb r 16 fits.0) (any_of_four (nat_eq scale 1) (nat_eq scale 2) (nat_eq scale 4) (nat_eq scale 8) fits.2)

pub address_typed : (T : Types) (next : ℕ) (m : Mem) → MemFits m → is_typed T (address_line next m) ≡ true
address_typed T next m fits = and_from (is_base (base_register m.base)) (is_index m.index m.scale) (base_typed m.base fits.0) (index_typed m.index m.scale fits.1)

-- ---- operands

-- an operand that is read to a temporary gives it the width's type; one in memory was loaded there
pub reads_ready : (w : Width) (o : Operand) (t : ℕ) (T : Types) → OperandFits w o → is_temp t ≡ true → (is_memory o ≡ true → wrote T t (num w) ≡ T) → Ready T (reads w o t) (wrote T t (num w))
reads_ready w (operand.Reg r) t T fits temp loaded = one_ready T _ (and_from _ _ temp (lt-ltb r 16 fits))
reads_ready w (operand.High r) t T fits temp loaded =
    subst (λ (v : Width). Ready T (GetHigh t r ∷ []) (wrote T t (num v))) (sym fits.0) (one_ready T (GetHigh t r) (and_from _ _ temp (lt-ltb r 4 fits.1)))
reads_ready w (operand.Imm n) t T fits temp loaded =
    one_ready T _ (and_from _ _ temp (lt-ltb n (2 ^ num w) (subst (λ (b : ℕ). n < 2 ^ b) (sym (same_bits w)) fits)))
reads_ready w (operand.Mem m) t T fits temp loaded = record { typed = refl; leaves = sym (loaded refl) }

pub puts_ready : (T : Types) (w : Width) (o : Operand) (t : ℕ) → PlaceFits w o → holds T t (num w) ≡ true → Ready T (puts w o t) T
puts_ready T w (operand.Reg r) t fits e = one_ready T _ (and_from _ _ (lt-ltb r 16 fits.fits) e)
puts_ready T w (operand.High r) t fits e = one_ready T _ (and_from _ _ (lt-ltb r 4 fits.fits.1) (subst (λ (v : Width). holds T t (num v) ≡ true) fits.fits.0 e))
puts_ready T w (operand.Mem m) t fits e = nil_ready T
puts_ready T w (operand.Imm n) t fits e = let no : ⊥ = cc fits.place in absurd no

-- ---- flags

-- the family puts each of these flags
abbrev pub PutsAll : List Flag → Family → Type 0
PutsAll [] family = Unit {0}
PutsAll (f ∷ fs) family = (family_puts family f ≡ true) × PutsAll fs family

pub flags_ready : (fs : List Flag) (family : Family) (w : Width) (a : ℕ) (b : Option ℕ) (T : Types) → PutsAll fs family → are_operands T family (num w) a b ≡ true → Ready T (flag_lines fs family w a b) T
flags_ready [] family w a b T all e = nil_ready T
flags_ready (f ∷ fs) family w a b T all e = line_ready T _ (flag_lines fs family w a b) T (and_from _ _ all.0 e) (flags_ready fs family w a b T all.1 e)

pub zeros_ready : (fs : List Flag) (T : Types) → Ready T (zero_lines fs) T
zeros_ready [] T = nil_ready T
zeros_ready (f ∷ fs) T = line_ready T _ (zero_lines fs) T refl (zeros_ready fs T)

-- ---- parts

-- the lines and the end of a part are typed
pub record Typed (types : Types) (p : Part) : Type 0 where
  pub ops : are_typed types p.ops ≡ true
  pub ends : is_end_typed (types_after_all types p.ops) p.end ≡ true

pub part_typed : (T : Types) (ops : List Op) (end : PartEnd) (U : Types) → Ready T ops U → is_end_typed U end ≡ true → Typed T (part ops end)
part_typed T ops end U r e = record { ops = r.typed; ends = subst (λ (t : Types). is_end_typed t end ≡ true) (sym r.leaves) e }

end_at_typed : (U : Types) (w : Width) (dst : Operand) (t : ℕ) → holds U t (num w) ≡ true → (is_memory dst ≡ true → holds U 0 64 ≡ true) → is_end_typed U (end_at w dst t) ≡ true
end_at_typed U w (operand.Reg r) t e at = refl
end_at_typed U w (operand.High r) t e at = refl
end_at_typed U w (operand.Imm n) t e at = refl
end_at_typed U w (operand.Mem m) t e at = and_from _ _ (at refl) e

-- lines, and then a temporary goes to an operand
pub given_typed : (T : Types) (ops : List Op) (U : Types) (w : Width) (dst : Operand) (t : ℕ) → PlaceFits w dst → Ready T ops U → holds U t (num w) ≡ true → (is_memory dst ≡ true → holds U 0 64 ≡ true) → Typed T (part (ops ++ puts w dst t) (end_at w dst t))
given_typed T ops U w dst t fits r e at = part_typed T _ _ U (both_ready T ops (puts w dst t) U U r (puts_ready U w dst t fits e)) (end_at_typed U w dst t e at)

pub end_at_alone : (w : Width) (dst : Operand) (t : ℕ) → takes_answer (end_at w dst t) ≡ false
end_at_alone w (operand.Reg r) t = refl
end_at_alone w (operand.High r) t = refl
end_at_alone w (operand.Imm n) t = refl
end_at_alone w (operand.Mem m) t = refl

pub end_at_goes_on : (w : Width) (dst : Operand) (t : ℕ) → goes_on (end_at w dst t) ≡ true
end_at_goes_on w (operand.Reg r) t = refl
end_at_goes_on w (operand.High r) t = refl
end_at_goes_on w (operand.Imm n) t = refl
end_at_goes_on w (operand.Mem m) t = refl
