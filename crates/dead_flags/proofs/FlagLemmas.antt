-- What lines read decides what they leave: results, flags and conditions at two states of the flags.
use Rattle.std.proofs.Common.{◌≡◌, ℕ, Bool, true, false, not, ◌||◌, ap, refl, ◌∙◌, eqb}
use Rattle.std.specs.Int.{from_bool}
use Rattle.std.specs.Prelude.{if◌then◌else◌}
use Rattle.ir_syntax.specs.declared.cond.Cond.{Cond}
use Rattle.ir_syntax.specs.declared.cond.Cond.TheVariants.{O, No, B, Ae, E, Ne, Be, A, S, Ns, P, Np, L, Ge, Le, G}
use Rattle.ir_syntax.specs.declared.cond.Flag.{Flag}
use Rattle.ir_syntax.specs.declared.cond.Flag.TheVariants.{Cf, Pf, Zf, Sf, Of}
use Rattle.ir_syntax.specs.declared.line.Family.{Family}
use Rattle.ir_syntax.specs.declared.line.Family.TheVariants.{Add, Adc, Sub, Sbb, And, Or, Xor, Shl, Shr, Sar, Rol, Ror, Mul, Umulh, Smulh, Umul, Smul, Inc, Dec, Neg, Not}
use Rattle.ir_syntax.specs.Cond.{reads, test, differ, is_cf}
use Rattle.ir_meaning.specs.Does.{flag_in}
use Rattle.ir_meaning.specs.Family.{result_of, flags_after}
use Rattle.ir_meaning.specs.Live.{uses_carry, can_keep}
use Rattle.x86_flags.specs.declared.flags.Flags.{Flags}
use Rattle.x86_flags.specs.Outcome.{Outcome, with_carry_of, unless_zero}
use Rattle.x86_flags.specs.Bitwise.{and_of, or_of, xor_of, not_of}
use Rattle.x86_flags.specs.Rotations.{rol_of, ror_of, rol_by, ror_by, turned}
use Rattle.x86_flags.specs.Shifts.{shl_of, shr_of, sar_of, count_of}
use Rattle.x86_flags.specs.Sums.{add_of, adc_of, inc_of, sub_of, sbb_of, dec_of, neg_of, sum_of, difference_of}

-- a shift's result doesn't depend on the flags
still_value : (still : Bool) (a : ℕ) (f g : Flags) (o p : Outcome) → o.value ≡ p.value → (if still then record { value = a; flags = f } else o).value ≡ (if still then record { value = a; flags = g } else p).value
still_value true a f g o p e = refl
still_value false a f g o p e = e

still_flag : (still : Bool) (a : ℕ) (f g : Flags) (o p : Outcome) (flag : Flag) → flag_in f flag ≡ flag_in g flag → flag_in o.flags flag ≡ flag_in p.flags flag → flag_in (if still then record { value = a; flags = f } else o).flags flag ≡ flag_in (if still then record { value = a; flags = g } else p).flags flag
still_flag true a f g o p flag kept e = kept
still_flag false a f g o p flag kept e = e

pub result_same : (family : Family) (n a b : ℕ) (f g : Flags) → (uses_carry family ≡ true → f.cf ≡ g.cf) → result_of family n a b f ≡ result_of family n a b g
unfolding add_of adc_of inc_of sub_of sbb_of dec_of neg_of with_carry_of and_of or_of xor_of not_of shl_of shr_of sar_of rol_of ror_of unless_zero rol_by ror_by turned
result_same Add n a b f g carry = refl
result_same Adc n a b f g carry = ap (λ (c : Bool). (sum_of n a b (from_bool c)).value) (carry refl)
result_same Sub n a b f g carry = refl
result_same Sbb n a b f g carry = ap (λ (c : Bool). (difference_of n a b (from_bool c)).value) (carry refl)
result_same And n a b f g carry = refl
result_same Or n a b f g carry = refl
result_same Xor n a b f g carry = refl
result_same Shl n a b f g carry = still_value (eqb (count_of n b) 0) a f g _ _ refl
result_same Shr n a b f g carry = still_value (eqb (count_of n b) 0) a f g _ _ refl
result_same Sar n a b f g carry = still_value (eqb (count_of n b) 0) a f g _ _ refl
result_same Rol n a b f g carry = still_value (eqb (count_of n b) 0) a f g _ _ refl
result_same Ror n a b f g carry = still_value (eqb (count_of n b) 0) a f g _ _ refl
result_same Mul n a b f g carry = refl
result_same Umulh n a b f g carry = refl
result_same Smulh n a b f g carry = refl
result_same Umul n a b f g carry = refl
result_same Smul n a b f g carry = refl
result_same Inc n a b f g carry = refl
result_same Dec n a b f g carry = refl
result_same Neg n a b f g carry = refl
result_same Not n a b f g carry = refl

-- the flags of a rotation, where the flag is the same before it
rol_flag : (flag : Flag) (n a k : ℕ) (f g : Flags) → flag_in f flag ≡ flag_in g flag → flag_in (rol_by n a k f).flags flag ≡ flag_in (rol_by n a k g).flags flag
unfolding rol_by turned
rol_flag Cf n a k f g e = refl
rol_flag Pf n a k f g e = e
rol_flag Zf n a k f g e = e
rol_flag Sf n a k f g e = e
rol_flag Of n a k f g e = refl

ror_flag : (flag : Flag) (n a k : ℕ) (f g : Flags) → flag_in f flag ≡ flag_in g flag → flag_in (ror_by n a k f).flags flag ≡ flag_in (ror_by n a k g).flags flag
unfolding ror_by turned
ror_flag Cf n a k f g e = refl
ror_flag Pf n a k f g e = e
ror_flag Zf n a k f g e = e
ror_flag Sf n a k f g e = e
ror_flag Of n a k f g e = refl

-- INC and DEC keep the carry
carry_kept : (flag : Flag) (f g : Flags) (o : Outcome) → (is_cf flag ≡ true → flag_in f flag ≡ flag_in g flag) → flag_in (with_carry_of f o).flags flag ≡ flag_in (with_carry_of g o).flags flag
unfolding with_carry_of
carry_kept Cf f g o e = e refl
carry_kept Pf f g o e = refl
carry_kept Zf f g o e = refl
carry_kept Sf f g o e = refl
carry_kept Of f g o e = refl

pub flag_after_same : (family : Family) (flag : Flag) (n a b : ℕ) (f g : Flags) → (uses_carry family ≡ true → f.cf ≡ g.cf) → (can_keep family flag ≡ true → flag_in f flag ≡ flag_in g flag) → flag_in (flags_after family n a b f) flag ≡ flag_in (flags_after family n a b g) flag
unfolding add_of adc_of inc_of sub_of sbb_of dec_of neg_of and_of or_of xor_of not_of shl_of shr_of sar_of rol_of ror_of unless_zero
flag_after_same Add flag n a b f g carry kept = refl
flag_after_same Adc flag n a b f g carry kept = ap (λ (c : Bool). flag_in (sum_of n a b (from_bool c)).flags flag) (carry refl)
flag_after_same Sub flag n a b f g carry kept = refl
flag_after_same Sbb flag n a b f g carry kept = ap (λ (c : Bool). flag_in (difference_of n a b (from_bool c)).flags flag) (carry refl)
flag_after_same And flag n a b f g carry kept = refl
flag_after_same Or flag n a b f g carry kept = refl
flag_after_same Xor flag n a b f g carry kept = refl
flag_after_same Shl flag n a b f g carry kept = still_flag (eqb (count_of n b) 0) a f g _ _ flag (kept refl) refl
flag_after_same Shr flag n a b f g carry kept = still_flag (eqb (count_of n b) 0) a f g _ _ flag (kept refl) refl
flag_after_same Sar flag n a b f g carry kept = still_flag (eqb (count_of n b) 0) a f g _ _ flag (kept refl) refl
flag_after_same Rol flag n a b f g carry kept = still_flag (eqb (count_of n b) 0) a f g _ _ flag (kept refl) (rol_flag flag n a (count_of n b) f g (kept refl))
flag_after_same Ror flag n a b f g carry kept = still_flag (eqb (count_of n b) 0) a f g _ _ flag (kept refl) (ror_flag flag n a (count_of n b) f g (kept refl))
flag_after_same Mul flag n a b f g carry kept = kept refl
flag_after_same Umulh flag n a b f g carry kept = kept refl
flag_after_same Smulh flag n a b f g carry kept = kept refl
flag_after_same Umul flag n a b f g carry kept = refl
flag_after_same Smul flag n a b f g carry kept = refl
flag_after_same Inc flag n a b f g carry kept = carry_kept flag f g _ kept
flag_after_same Dec flag n a b f g carry kept = carry_kept flag f g _ kept
flag_after_same Neg flag n a b f g carry kept = refl
flag_after_same Not flag n a b f g carry kept = kept refl

pub both : {X Y Z : Type 0} (h : X → Y → Z) {x y : X} {z w : Y} → x ≡ y → z ≡ w → h x z ≡ h y w
both {X = X} h {y = y} {z = z} d e = ap (λ (v : X). h v z) d ∙ ap (h y) e

pub test_same : (c : Cond) (f g : Flag → Bool) → ((flag : Flag) → reads c flag ≡ true → f flag ≡ g flag) → test c f ≡ test c g
test_same O f g e = e Of refl
test_same No f g e = ap not (e Of refl)
test_same B f g e = e Cf refl
test_same Ae f g e = ap not (e Cf refl)
test_same E f g e = e Zf refl
test_same Ne f g e = ap not (e Zf refl)
test_same Be f g e = both (λ (x y : Bool). x || y) (e Cf refl) (e Zf refl)
test_same A f g e = both (λ (x y : Bool). not (x || y)) (e Cf refl) (e Zf refl)
test_same S f g e = e Sf refl
test_same Ns f g e = ap not (e Sf refl)
test_same P f g e = e Pf refl
test_same Np f g e = ap not (e Pf refl)
test_same L f g e = both differ (e Sf refl) (e Of refl)
test_same Ge f g e = both (λ (x y : Bool). not (differ x y)) (e Sf refl) (e Of refl)
test_same Le f g e = both (λ (x y : Bool). x || y) (e Zf refl) (both differ (e Sf refl) (e Of refl))
test_same G f g e = both (λ (x y : Bool). not (x || y)) (e Zf refl) (both differ (e Sf refl) (e Of refl))
