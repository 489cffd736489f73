-- The tables of the grammar: each gives every value by its name, and no word begins another.
use Rattle.std.proofs.Common.{◌≡◌, ℕ, zero, suc, ◌<◌, inl, inr, Bool, true, false, [], ◌∷◌, Option, Some, None, refl, sym, subst, arith}
use Rattle.std.specs.List.{slice_get}
use Rattle.std.specs.Fmt.{decimal, digits}
use Rattle.ir_syntax.specs.declared.cond.Cond.{Cond}
use Rattle.ir_syntax.specs.declared.cond.Cond.TheVariants.{O, No, B, Ae, E, Ne, Be, A, S, Ns, P, Np, L, Ge, Le, G}
use Rattle.ir_syntax.specs.declared.cond.Flag.{Flag}
use Rattle.ir_syntax.specs.declared.cond.Flag.TheVariants.{Cf, Pf, Zf, Sf, Of}
use Rattle.ir_syntax.specs.declared.line.Family.{Family}
use Rattle.ir_syntax.specs.declared.line.Family.TheVariants.{Add, Adc, Sub, Sbb, And, Or, Xor, Shl, Shr, Sar, Rol, Ror, Mul, Umulh, Smulh, Umul, Smul, Inc, Dec, Neg, Not}
use Rattle.ir_syntax.specs.declared.line.LockOp.{LockOp}
use Rattle.ir_syntax.specs.declared.line.LockOp.TheVariants as lock
use Rattle.ir_syntax.specs.declared.width.Width.{Width}
use Rattle.ir_syntax.specs.declared.width.Width.TheVariants.{W8, W16, W32, W64}
use Rattle.ir_syntax.specs.Width.{bits_of}
use Rattle.ir_text.specs.declared.pieces.Head.{Head}
use Rattle.ir_text.specs.declared.pieces.Head.TheVariants as head
use Rattle.ir_text.specs.Text.{width_name, temp_name, register_name, base_name, flag_name, cond_name, family_name, sign_name, cast_name, IsOneOf, IsTemp, IsRegister, IsBase, IsScale}
use Rattle.ir_text.specs.Reading.{literal}
use Rattle.ir_text.specs.Row.{worded, token}
use Rattle.ir_text.specs.Tables.{widths, temps, registers, bases, scales, one_scale, flags, conds, result_families, flag_families, lock_ops, signs, parts_of_register, zexts, sexts, cuts, targets, heads, heads_or_end}
use Rattle.ir_text.specs.Grammar.{sp, dot, nl, Any, HasResult, HasFlags, flag_family_name, lock_op_name, register_part_name, IsZext, IsSext, IsCut, name_of_cast, IsMaybeTemp, target_front_name, head_name, IsLineOfPart}
use Rattle.ir_text.proofs.Exact.{IsExact}
use Rattle.ir_text.proofs.WordLemmas.{Words, AreNamed, word_exact, token_exact, all_apart, is_apart, are_apart}

false_true : false ≡ true → ⊥
false_true e = cc

each_widths : (a : Width) → Any a → (k : ℕ) × (slice_get widths k ≡ Some (width_name a, a))
each_widths W8 h = (0, refl)
each_widths W16 h = (1, refl)
each_widths W32 h = (2, refl)
each_widths W64 h = (3, refl)

named_widths : AreNamed Any width_name widths
named_widths = ((tt, refl), ((tt, refl), ((tt, refl), ((tt, refl), tt))))

widths_words : Words widths Any width_name
widths_words = record { named = named_widths; each = each_widths; first = W8; has_first = tt }

pub widths_exact_sp : IsExact (worded widths Any width_name sp)
unfolding all_apart is_apart are_apart literal
widths_exact_sp = word_exact widths Any width_name widths_words sp refl

each_temps : (a : ℕ) → IsTemp a → (k : ℕ) × (slice_get temps k ≡ Some (temp_name a, a))
each_temps zero h = (0, refl)
each_temps (suc zero) h = (1, refl)
each_temps (suc (suc zero)) h = (2, refl)
each_temps (suc (suc (suc zero))) h = (3, refl)
each_temps (suc (suc (suc (suc zero)))) h = (4, refl)
each_temps (suc (suc (suc (suc (suc zero))))) h = (5, refl)
each_temps (suc (suc (suc (suc (suc (suc zero)))))) h = (6, refl)
each_temps (suc (suc (suc (suc (suc (suc (suc zero))))))) h = (7, refl)
each_temps (suc (suc (suc (suc (suc (suc (suc (suc n)))))))) h = absurd (omega arith)

named_temps : AreNamed IsTemp temp_name temps
named_temps = ((omega arith, refl), ((omega arith, refl), ((omega arith, refl), ((omega arith, refl), ((omega arith, refl), ((omega arith, refl), ((omega arith, refl), ((omega arith, refl), tt))))))))

temps_words : Words temps IsTemp temp_name
temps_words = record { named = named_temps; each = each_temps; first = 0; has_first = omega arith }

pub temps_exact_sp : IsExact (worded temps IsTemp temp_name sp)
unfolding all_apart is_apart are_apart literal
temps_exact_sp = word_exact temps IsTemp temp_name temps_words sp refl

pub temps_exact_nl : IsExact (worded temps IsTemp temp_name nl)
unfolding all_apart is_apart are_apart literal
temps_exact_nl = word_exact temps IsTemp temp_name temps_words nl refl

each_registers : (a : ℕ) → IsRegister a → (k : ℕ) × (slice_get registers k ≡ Some (register_name a, a))
unfolding register_name
each_registers zero h = (0, refl)
each_registers (suc zero) h = (1, refl)
each_registers (suc (suc zero)) h = (2, refl)
each_registers (suc (suc (suc zero))) h = (3, refl)
each_registers (suc (suc (suc (suc zero)))) h = (4, refl)
each_registers (suc (suc (suc (suc (suc zero))))) h = (5, refl)
each_registers (suc (suc (suc (suc (suc (suc zero)))))) h = (6, refl)
each_registers (suc (suc (suc (suc (suc (suc (suc zero))))))) h = (7, refl)
each_registers (suc (suc (suc (suc (suc (suc (suc (suc zero)))))))) h = (8, refl)
each_registers (suc (suc (suc (suc (suc (suc (suc (suc (suc zero))))))))) h = (9, refl)
each_registers (suc (suc (suc (suc (suc (suc (suc (suc (suc (suc zero)))))))))) h = (10, refl)
each_registers (suc (suc (suc (suc (suc (suc (suc (suc (suc (suc (suc zero))))))))))) h = (11, refl)
each_registers (suc (suc (suc (suc (suc (suc (suc (suc (suc (suc (suc (suc zero)))))))))))) h = (12, refl)
each_registers (suc (suc (suc (suc (suc (suc (suc (suc (suc (suc (suc (suc (suc zero))))))))))))) h = (13, refl)
each_registers (suc (suc (suc (suc (suc (suc (suc (suc (suc (suc (suc (suc (suc (suc zero)))))))))))))) h = (14, refl)
each_registers (suc (suc (suc (suc (suc (suc (suc (suc (suc (suc (suc (suc (suc (suc (suc zero))))))))))))))) h = (15, refl)
each_registers (suc (suc (suc (suc (suc (suc (suc (suc (suc (suc (suc (suc (suc (suc (suc (suc n)))))))))))))))) h = absurd (omega arith)

named_registers : AreNamed IsRegister register_name registers
unfolding register_name
named_registers = ((omega arith, refl), ((omega arith, refl), ((omega arith, refl), ((omega arith, refl), ((omega arith, refl), ((omega arith, refl), ((omega arith, refl), ((omega arith, refl), ((omega arith, refl), ((omega arith, refl), ((omega arith, refl), ((omega arith, refl), ((omega arith, refl), ((omega arith, refl), ((omega arith, refl), ((omega arith, refl), tt))))))))))))))))

registers_words : Words registers IsRegister register_name
registers_words = record { named = named_registers; each = each_registers; first = 0; has_first = omega arith }

pub registers_exact_sp : IsExact (worded registers IsRegister register_name sp)
unfolding all_apart is_apart are_apart literal register_name
registers_exact_sp = word_exact registers IsRegister register_name registers_words sp refl

pub registers_exact_nl : IsExact (worded registers IsRegister register_name nl)
unfolding all_apart is_apart are_apart literal register_name
registers_exact_nl = word_exact registers IsRegister register_name registers_words nl refl

each_bases : (a : Option ℕ) → IsBase a → (k : ℕ) × (slice_get bases k ≡ Some (base_name a, a))
unfolding register_name
each_bases None h = (0, refl)
each_bases (Some zero) h = (1, refl)
each_bases (Some (suc zero)) h = (2, refl)
each_bases (Some (suc (suc zero))) h = (3, refl)
each_bases (Some (suc (suc (suc zero)))) h = (4, refl)
each_bases (Some (suc (suc (suc (suc zero))))) h = (5, refl)
each_bases (Some (suc (suc (suc (suc (suc zero)))))) h = (6, refl)
each_bases (Some (suc (suc (suc (suc (suc (suc zero))))))) h = (7, refl)
each_bases (Some (suc (suc (suc (suc (suc (suc (suc zero)))))))) h = (8, refl)
each_bases (Some (suc (suc (suc (suc (suc (suc (suc (suc zero))))))))) h = (9, refl)
each_bases (Some (suc (suc (suc (suc (suc (suc (suc (suc (suc zero)))))))))) h = (10, refl)
each_bases (Some (suc (suc (suc (suc (suc (suc (suc (suc (suc (suc zero))))))))))) h = (11, refl)
each_bases (Some (suc (suc (suc (suc (suc (suc (suc (suc (suc (suc (suc zero)))))))))))) h = (12, refl)
each_bases (Some (suc (suc (suc (suc (suc (suc (suc (suc (suc (suc (suc (suc zero))))))))))))) h = (13, refl)
each_bases (Some (suc (suc (suc (suc (suc (suc (suc (suc (suc (suc (suc (suc (suc zero)))))))))))))) h = (14, refl)
each_bases (Some (suc (suc (suc (suc (suc (suc (suc (suc (suc (suc (suc (suc (suc (suc zero))))))))))))))) h = (15, refl)
each_bases (Some (suc (suc (suc (suc (suc (suc (suc (suc (suc (suc (suc (suc (suc (suc (suc zero)))))))))))))))) h = (16, refl)
each_bases (Some (suc (suc (suc (suc (suc (suc (suc (suc (suc (suc (suc (suc (suc (suc (suc (suc n))))))))))))))))) h = absurd (omega arith)

named_bases : AreNamed IsBase base_name bases
unfolding register_name
named_bases = ((tt, refl), ((omega arith, refl), ((omega arith, refl), ((omega arith, refl), ((omega arith, refl), ((omega arith, refl), ((omega arith, refl), ((omega arith, refl), ((omega arith, refl), ((omega arith, refl), ((omega arith, refl), ((omega arith, refl), ((omega arith, refl), ((omega arith, refl), ((omega arith, refl), ((omega arith, refl), ((omega arith, refl), tt)))))))))))))))))

bases_words : Words bases IsBase base_name
bases_words = record { named = named_bases; each = each_bases; first = None; has_first = tt }

pub bases_exact_sp : IsExact (worded bases IsBase base_name sp)
unfolding all_apart is_apart are_apart literal register_name
bases_exact_sp = word_exact bases IsBase base_name bases_words sp refl

each_flags : (a : Flag) → Any a → (k : ℕ) × (slice_get flags k ≡ Some (flag_name a, a))
each_flags Cf h = (0, refl)
each_flags Pf h = (1, refl)
each_flags Zf h = (2, refl)
each_flags Sf h = (3, refl)
each_flags Of h = (4, refl)

named_flags : AreNamed Any flag_name flags
named_flags = ((tt, refl), ((tt, refl), ((tt, refl), ((tt, refl), ((tt, refl), tt)))))

flags_words : Words flags Any flag_name
flags_words = record { named = named_flags; each = each_flags; first = Cf; has_first = tt }

pub flags_exact_sp : IsExact (worded flags Any flag_name sp)
unfolding all_apart is_apart are_apart literal
flags_exact_sp = word_exact flags Any flag_name flags_words sp refl

each_conds : (a : Cond) → Any a → (k : ℕ) × (slice_get conds k ≡ Some (cond_name a, a))
each_conds O h = (0, refl)
each_conds No h = (1, refl)
each_conds B h = (2, refl)
each_conds Ae h = (3, refl)
each_conds E h = (4, refl)
each_conds Ne h = (5, refl)
each_conds Be h = (6, refl)
each_conds A h = (7, refl)
each_conds S h = (8, refl)
each_conds Ns h = (9, refl)
each_conds P h = (10, refl)
each_conds Np h = (11, refl)
each_conds L h = (12, refl)
each_conds Ge h = (13, refl)
each_conds Le h = (14, refl)
each_conds G h = (15, refl)

named_conds : AreNamed Any cond_name conds
named_conds = ((tt, refl), ((tt, refl), ((tt, refl), ((tt, refl), ((tt, refl), ((tt, refl), ((tt, refl), ((tt, refl), ((tt, refl), ((tt, refl), ((tt, refl), ((tt, refl), ((tt, refl), ((tt, refl), ((tt, refl), ((tt, refl), tt))))))))))))))))

conds_words : Words conds Any cond_name
conds_words = record { named = named_conds; each = each_conds; first = O; has_first = tt }

pub conds_exact_sp : IsExact (worded conds Any cond_name sp)
unfolding all_apart is_apart are_apart literal
conds_exact_sp = word_exact conds Any cond_name conds_words sp refl

pub conds_exact_nl : IsExact (worded conds Any cond_name nl)
unfolding all_apart is_apart are_apart literal
conds_exact_nl = word_exact conds Any cond_name conds_words nl refl

each_result_families : (a : Family) → HasResult a → (k : ℕ) × (slice_get result_families k ≡ Some (family_name a, a))
each_result_families Add h = (0, refl)
each_result_families Adc h = (11, refl)
each_result_families Sub h = (1, refl)
each_result_families Sbb h = (12, refl)
each_result_families And h = (2, refl)
each_result_families Or h = (4, refl)
each_result_families Xor h = (3, refl)
each_result_families Shl h = (7, refl)
each_result_families Shr h = (8, refl)
each_result_families Sar h = (9, refl)
each_result_families Rol h = (13, refl)
each_result_families Ror h = (14, refl)
each_result_families Mul h = (10, refl)
each_result_families Umulh h = (15, refl)
each_result_families Smulh h = (16, refl)
each_result_families Umul h = absurd (false_true h)
each_result_families Smul h = absurd (false_true h)
each_result_families Inc h = (5, refl)
each_result_families Dec h = (6, refl)
each_result_families Neg h = (17, refl)
each_result_families Not h = (18, refl)

named_result_families : AreNamed HasResult family_name result_families
named_result_families = ((refl, refl), ((refl, refl), ((refl, refl), ((refl, refl), ((refl, refl), ((refl, refl), ((refl, refl), ((refl, refl), ((refl, refl), ((refl, refl), ((refl, refl), ((refl, refl), ((refl, refl), ((refl, refl), ((refl, refl), ((refl, refl), ((refl, refl), ((refl, refl), ((refl, refl), tt)))))))))))))))))))

result_families_words : Words result_families HasResult family_name
result_families_words = record { named = named_result_families; each = each_result_families; first = Add; has_first = refl }

pub result_families_exact_dot : IsExact (worded result_families HasResult family_name dot)
unfolding all_apart is_apart are_apart literal
result_families_exact_dot = word_exact result_families HasResult family_name result_families_words dot refl

each_flag_families : (a : Option Family) → HasFlags a → (k : ℕ) × (slice_get flag_families k ≡ Some (flag_family_name a, a))
each_flag_families None h = (5, refl)
each_flag_families (Some Add) h = (0, refl)
each_flag_families (Some Adc) h = (13, refl)
each_flag_families (Some Sub) h = (1, refl)
each_flag_families (Some Sbb) h = (14, refl)
each_flag_families (Some And) h = (2, refl)
each_flag_families (Some Or) h = (4, refl)
each_flag_families (Some Xor) h = (3, refl)
each_flag_families (Some Shl) h = (8, refl)
each_flag_families (Some Shr) h = (9, refl)
each_flag_families (Some Sar) h = (10, refl)
each_flag_families (Some Rol) h = (15, refl)
each_flag_families (Some Ror) h = (16, refl)
each_flag_families (Some Mul) h = absurd (false_true h)
each_flag_families (Some Umulh) h = absurd (false_true h)
each_flag_families (Some Smulh) h = absurd (false_true h)
each_flag_families (Some Umul) h = (11, refl)
each_flag_families (Some Smul) h = (12, refl)
each_flag_families (Some Inc) h = (6, refl)
each_flag_families (Some Dec) h = (7, refl)
each_flag_families (Some Neg) h = (17, refl)
each_flag_families (Some Not) h = absurd (false_true h)

named_flag_families : AreNamed HasFlags flag_family_name flag_families
named_flag_families = ((refl, refl), ((refl, refl), ((refl, refl), ((refl, refl), ((refl, refl), ((tt, refl), ((refl, refl), ((refl, refl), ((refl, refl), ((refl, refl), ((refl, refl), ((refl, refl), ((refl, refl), ((refl, refl), ((refl, refl), ((refl, refl), ((refl, refl), ((refl, refl), tt))))))))))))))))))

flag_families_words : Words flag_families HasFlags flag_family_name
flag_families_words = record { named = named_flag_families; each = each_flag_families; first = None; has_first = tt }

pub flag_families_exact : IsExact (token flag_families HasFlags flag_family_name)
unfolding all_apart is_apart are_apart literal
flag_families_exact = token_exact flag_families HasFlags flag_family_name flag_families_words refl

each_lock_ops : (a : Option LockOp) → Any a → (k : ℕ) × (slice_get lock_ops k ≡ Some (lock_op_name a, a))
each_lock_ops (Some lock.Xchg) h = (0, refl)
each_lock_ops (Some lock.Add) h = (1, refl)
each_lock_ops (Some lock.Sub) h = (2, refl)
each_lock_ops (Some lock.And) h = (3, refl)
each_lock_ops (Some lock.Or) h = (4, refl)
each_lock_ops (Some lock.Xor) h = (5, refl)
each_lock_ops None h = (6, refl)

named_lock_ops : AreNamed Any lock_op_name lock_ops
named_lock_ops = ((tt, refl), ((tt, refl), ((tt, refl), ((tt, refl), ((tt, refl), ((tt, refl), ((tt, refl), tt)))))))

lock_ops_words : Words lock_ops Any lock_op_name
lock_ops_words = record { named = named_lock_ops; each = each_lock_ops; first = None; has_first = tt }

pub lock_ops_exact : IsExact (token lock_ops Any lock_op_name)
unfolding all_apart is_apart are_apart literal
lock_ops_exact = token_exact lock_ops Any lock_op_name lock_ops_words refl

each_signs : (a : Bool) → Any a → (k : ℕ) × (slice_get signs k ≡ Some (sign_name a, a))
each_signs false h = (0, refl)
each_signs true h = (1, refl)

named_signs : AreNamed Any sign_name signs
named_signs = ((tt, refl), ((tt, refl), tt))

signs_words : Words signs Any sign_name
signs_words = record { named = named_signs; each = each_signs; first = true; has_first = tt }

pub signs_exact_dot : IsExact (worded signs Any sign_name dot)
unfolding all_apart is_apart are_apart literal
signs_exact_dot = word_exact signs Any sign_name signs_words dot refl

each_parts_of_register : (a : Option Width) → Any a → (k : ℕ) × (slice_get parts_of_register k ≡ Some (register_part_name a, a))
each_parts_of_register (Some W8) h = (0, refl)
each_parts_of_register (Some W16) h = (1, refl)
each_parts_of_register (Some W32) h = (2, refl)
each_parts_of_register (Some W64) h = (3, refl)
each_parts_of_register None h = (4, refl)

named_parts_of_register : AreNamed Any register_part_name parts_of_register
named_parts_of_register = ((tt, refl), ((tt, refl), ((tt, refl), ((tt, refl), ((tt, refl), tt)))))

parts_of_register_words : Words parts_of_register Any register_part_name
parts_of_register_words = record { named = named_parts_of_register; each = each_parts_of_register; first = None; has_first = tt }

pub parts_of_register_exact : IsExact (token parts_of_register Any register_part_name)
unfolding all_apart is_apart are_apart literal
parts_of_register_exact = token_exact parts_of_register Any register_part_name parts_of_register_words refl

each_targets : (a : Option ℕ) → IsMaybeTemp a → (k : ℕ) × (slice_get targets k ≡ Some (target_front_name a, a))
each_targets None h = (0, refl)
each_targets (Some zero) h = (1, refl)
each_targets (Some (suc zero)) h = (2, refl)
each_targets (Some (suc (suc zero))) h = (3, refl)
each_targets (Some (suc (suc (suc zero)))) h = (4, refl)
each_targets (Some (suc (suc (suc (suc zero))))) h = (5, refl)
each_targets (Some (suc (suc (suc (suc (suc zero)))))) h = (6, refl)
each_targets (Some (suc (suc (suc (suc (suc (suc zero))))))) h = (7, refl)
each_targets (Some (suc (suc (suc (suc (suc (suc (suc zero)))))))) h = (8, refl)
each_targets (Some (suc (suc (suc (suc (suc (suc (suc (suc n))))))))) h = absurd (omega arith)

named_targets : AreNamed IsMaybeTemp target_front_name targets
named_targets = ((tt, refl), ((omega arith, refl), ((omega arith, refl), ((omega arith, refl), ((omega arith, refl), ((omega arith, refl), ((omega arith, refl), ((omega arith, refl), ((omega arith, refl), tt)))))))))

targets_words : Words targets IsMaybeTemp target_front_name
targets_words = record { named = named_targets; each = each_targets; first = None; has_first = tt }

pub targets_exact : IsExact (token targets IsMaybeTemp target_front_name)
unfolding all_apart is_apart are_apart literal
targets_exact = token_exact targets IsMaybeTemp target_front_name targets_words refl

each_heads : (a : Head) → IsLineOfPart a → (k : ℕ) × (slice_get heads k ≡ Some (head_name a, a))
each_heads head.Get h = (0, refl)
each_heads head.Put h = (1, refl)
each_heads head.Const h = (8, refl)
each_heads head.Ea h = (5, refl)
each_heads head.Calc h = (3, refl)
each_heads head.Flag h = (2, refl)
each_heads head.Cond h = (15, refl)
each_heads head.Pick h = (16, refl)
each_heads head.Zext h = (11, refl)
each_heads head.Sext h = (12, refl)
each_heads head.Cut h = (13, refl)
each_heads head.Tick h = (4, refl)
each_heads head.Load h = (6, refl)
each_heads head.Store h = (7, refl)
each_heads head.StoreGo h = (14, refl)
each_heads head.Fence h = (19, refl)
each_heads head.Locked h = (17, refl)
each_heads head.Divide h = (18, refl)
each_heads head.Go h = (10, refl)
each_heads head.Branch h = (9, refl)
each_heads head.BadCode h = (20, refl)
each_heads head.End h = absurd h

named_heads : AreNamed IsLineOfPart head_name heads
named_heads = ((tt, refl), ((tt, refl), ((tt, refl), ((tt, refl), ((tt, refl), ((tt, refl), ((tt, refl), ((tt, refl), ((tt, refl), ((tt, refl), ((tt, refl), ((tt, refl), ((tt, refl), ((tt, refl), ((tt, refl), ((tt, refl), ((tt, refl), ((tt, refl), ((tt, refl), ((tt, refl), ((tt, refl), tt)))))))))))))))))))))

heads_words : Words heads IsLineOfPart head_name
heads_words = record { named = named_heads; each = each_heads; first = head.Tick; has_first = tt }

pub heads_exact : IsExact (token heads IsLineOfPart head_name)
unfolding all_apart is_apart are_apart literal
heads_exact = token_exact heads IsLineOfPart head_name heads_words refl

each_heads_or_end : (a : Head) → Any a → (k : ℕ) × (slice_get heads_or_end k ≡ Some (head_name a, a))
each_heads_or_end head.Get h = (1, refl)
each_heads_or_end head.Put h = (2, refl)
each_heads_or_end head.Const h = (9, refl)
each_heads_or_end head.Ea h = (6, refl)
each_heads_or_end head.Calc h = (4, refl)
each_heads_or_end head.Flag h = (3, refl)
each_heads_or_end head.Cond h = (16, refl)
each_heads_or_end head.Pick h = (17, refl)
each_heads_or_end head.Zext h = (12, refl)
each_heads_or_end head.Sext h = (13, refl)
each_heads_or_end head.Cut h = (14, refl)
each_heads_or_end head.Tick h = (5, refl)
each_heads_or_end head.Load h = (7, refl)
each_heads_or_end head.Store h = (8, refl)
each_heads_or_end head.StoreGo h = (15, refl)
each_heads_or_end head.Fence h = (20, refl)
each_heads_or_end head.Locked h = (18, refl)
each_heads_or_end head.Divide h = (19, refl)
each_heads_or_end head.Go h = (11, refl)
each_heads_or_end head.Branch h = (10, refl)
each_heads_or_end head.BadCode h = (21, refl)
each_heads_or_end head.End h = (0, refl)

named_heads_or_end : AreNamed Any head_name heads_or_end
named_heads_or_end = ((tt, refl), ((tt, refl), ((tt, refl), ((tt, refl), ((tt, refl), ((tt, refl), ((tt, refl), ((tt, refl), ((tt, refl), ((tt, refl), ((tt, refl), ((tt, refl), ((tt, refl), ((tt, refl), ((tt, refl), ((tt, refl), ((tt, refl), ((tt, refl), ((tt, refl), ((tt, refl), ((tt, refl), ((tt, refl), tt))))))))))))))))))))))

heads_or_end_words : Words heads_or_end Any head_name
heads_or_end_words = record { named = named_heads_or_end; each = each_heads_or_end; first = head.Tick; has_first = tt }

pub heads_or_end_exact : IsExact (token heads_or_end Any head_name)
unfolding all_apart is_apart are_apart literal
heads_or_end_exact = token_exact heads_or_end Any head_name heads_or_end_words refl

abbrev IsScaleOf : ℕ → Type 0
IsScaleOf = IsScale (Some 0)

each_scales : (a : ℕ) → IsScaleOf a → (k : ℕ) × (slice_get scales k ≡ Some (decimal a, a))
unfolding digits
each_scales a (inl e) = subst (λ (z : ℕ). (k : ℕ) × (slice_get scales k ≡ Some (decimal z, z))) (sym e) (0, refl)
each_scales a (inr (inl e)) = subst (λ (z : ℕ). (k : ℕ) × (slice_get scales k ≡ Some (decimal z, z))) (sym e) (1, refl)
each_scales a (inr (inr (inl e))) = subst (λ (z : ℕ). (k : ℕ) × (slice_get scales k ≡ Some (decimal z, z))) (sym e) (2, refl)
each_scales a (inr (inr (inr (inl e)))) = subst (λ (z : ℕ). (k : ℕ) × (slice_get scales k ≡ Some (decimal z, z))) (sym e) (3, refl)
each_scales a (inr (inr (inr (inr e)))) = absurd e

named_scales : AreNamed IsScaleOf decimal scales
unfolding digits
named_scales = ((inl refl, refl), ((inr (inl refl), refl), ((inr (inr (inl refl)), refl), ((inr (inr (inr (inl refl))), refl), tt))))

scales_words : Words scales IsScaleOf decimal
scales_words = record { named = named_scales; each = each_scales; first = 1; has_first = inl refl }

pub scales_exact_sp : IsExact (worded scales IsScaleOf decimal sp)
unfolding all_apart is_apart are_apart literal
scales_exact_sp = word_exact scales IsScaleOf decimal scales_words sp refl

each_one_scale : (a : ℕ) → (IsScale None) a → (k : ℕ) × (slice_get one_scale k ≡ Some (decimal a, a))
unfolding digits
each_one_scale a e = subst (λ (z : ℕ). (k : ℕ) × (slice_get one_scale k ≡ Some (decimal z, z))) (sym e) (0, refl)

named_one_scale : AreNamed (IsScale None) decimal one_scale
unfolding digits
named_one_scale = ((refl, refl), tt)

one_scale_words : Words one_scale (IsScale None) decimal
one_scale_words = record { named = named_one_scale; each = each_one_scale; first = 1; has_first = refl }

pub one_scale_exact_sp : IsExact (worded one_scale (IsScale None) decimal sp)
unfolding all_apart is_apart are_apart literal
one_scale_exact_sp = word_exact one_scale (IsScale None) decimal one_scale_words sp refl

by_zexts : (n : ℕ) (w : Width) → IsOneOf (1 ∷ 8 ∷ 16 ∷ 32 ∷ []) n → n < bits_of w → (k : ℕ) × (slice_get zexts k ≡ Some (cast_name n w, (n, w)))
unfolding digits
by_zexts n W8 (inl e) h = subst (λ (z : ℕ). (k : ℕ) × (slice_get zexts k ≡ Some (cast_name z W8, (z, W8)))) (sym e) (2, refl)
by_zexts n W8 (inr (inl e)) h = absurd (omega (arith, e, h))
by_zexts n W8 (inr (inr (inl e))) h = absurd (omega (arith, e, h))
by_zexts n W8 (inr (inr (inr (inl e)))) h = absurd (omega (arith, e, h))
by_zexts n W8 (inr (inr (inr (inr e)))) h = absurd e
by_zexts n W16 (inl e) h = subst (λ (z : ℕ). (k : ℕ) × (slice_get zexts k ≡ Some (cast_name z W16, (z, W16)))) (sym e) (7, refl)
by_zexts n W16 (inr (inl e)) h = subst (λ (z : ℕ). (k : ℕ) × (slice_get zexts k ≡ Some (cast_name z W16, (z, W16)))) (sym e) (6, refl)
by_zexts n W16 (inr (inr (inl e))) h = absurd (omega (arith, e, h))
by_zexts n W16 (inr (inr (inr (inl e)))) h = absurd (omega (arith, e, h))
by_zexts n W16 (inr (inr (inr (inr e)))) h = absurd e
by_zexts n W32 (inl e) h = subst (λ (z : ℕ). (k : ℕ) × (slice_get zexts k ≡ Some (cast_name z W32, (z, W32)))) (sym e) (8, refl)
by_zexts n W32 (inr (inl e)) h = subst (λ (z : ℕ). (k : ℕ) × (slice_get zexts k ≡ Some (cast_name z W32, (z, W32)))) (sym e) (1, refl)
by_zexts n W32 (inr (inr (inl e))) h = subst (λ (z : ℕ). (k : ℕ) × (slice_get zexts k ≡ Some (cast_name z W32, (z, W32)))) (sym e) (3, refl)
by_zexts n W32 (inr (inr (inr (inl e)))) h = absurd (omega (arith, e, h))
by_zexts n W32 (inr (inr (inr (inr e)))) h = absurd e
by_zexts n W64 (inl e) h = subst (λ (z : ℕ). (k : ℕ) × (slice_get zexts k ≡ Some (cast_name z W64, (z, W64)))) (sym e) (9, refl)
by_zexts n W64 (inr (inl e)) h = subst (λ (z : ℕ). (k : ℕ) × (slice_get zexts k ≡ Some (cast_name z W64, (z, W64)))) (sym e) (4, refl)
by_zexts n W64 (inr (inr (inl e))) h = subst (λ (z : ℕ). (k : ℕ) × (slice_get zexts k ≡ Some (cast_name z W64, (z, W64)))) (sym e) (5, refl)
by_zexts n W64 (inr (inr (inr (inl e)))) h = subst (λ (z : ℕ). (k : ℕ) × (slice_get zexts k ≡ Some (cast_name z W64, (z, W64)))) (sym e) (0, refl)
by_zexts n W64 (inr (inr (inr (inr e)))) h = absurd e

each_zexts : (a : ℕ × Width) → IsZext a → (k : ℕ) × (slice_get zexts k ≡ Some (name_of_cast a, a))
unfolding digits
each_zexts a h = by_zexts a.0 a.1 h.0 h.1

named_zexts : AreNamed IsZext name_of_cast zexts
unfolding digits
named_zexts = (((inr (inr (inr (inl refl))), omega arith), refl), (((inr (inl refl), omega arith), refl), (((inl refl, omega arith), refl), (((inr (inr (inl refl)), omega arith), refl), (((inr (inl refl), omega arith), refl), (((inr (inr (inl refl)), omega arith), refl), (((inr (inl refl), omega arith), refl), (((inl refl, omega arith), refl), (((inl refl, omega arith), refl), (((inl refl, omega arith), refl), tt))))))))))

zexts_words : Words zexts IsZext name_of_cast
zexts_words = record { named = named_zexts; each = each_zexts; first = (32, W64); has_first = (inr (inr (inr (inl refl))), omega arith) }

pub zexts_exact_sp : IsExact (worded zexts IsZext name_of_cast sp)
unfolding all_apart is_apart are_apart literal
zexts_exact_sp = word_exact zexts IsZext name_of_cast zexts_words sp refl

by_sexts : (n : ℕ) (w : Width) → IsOneOf (8 ∷ 16 ∷ 32 ∷ []) n → n < bits_of w → (k : ℕ) × (slice_get sexts k ≡ Some (cast_name n w, (n, w)))
unfolding digits
by_sexts n W8 (inl e) h = absurd (omega (arith, e, h))
by_sexts n W8 (inr (inl e)) h = absurd (omega (arith, e, h))
by_sexts n W8 (inr (inr (inl e))) h = absurd (omega (arith, e, h))
by_sexts n W8 (inr (inr (inr e))) h = absurd e
by_sexts n W16 (inl e) h = subst (λ (z : ℕ). (k : ℕ) × (slice_get sexts k ≡ Some (cast_name z W16, (z, W16)))) (sym e) (5, refl)
by_sexts n W16 (inr (inl e)) h = absurd (omega (arith, e, h))
by_sexts n W16 (inr (inr (inl e))) h = absurd (omega (arith, e, h))
by_sexts n W16 (inr (inr (inr e))) h = absurd e
by_sexts n W32 (inl e) h = subst (λ (z : ℕ). (k : ℕ) × (slice_get sexts k ≡ Some (cast_name z W32, (z, W32)))) (sym e) (1, refl)
by_sexts n W32 (inr (inl e)) h = subst (λ (z : ℕ). (k : ℕ) × (slice_get sexts k ≡ Some (cast_name z W32, (z, W32)))) (sym e) (2, refl)
by_sexts n W32 (inr (inr (inl e))) h = absurd (omega (arith, e, h))
by_sexts n W32 (inr (inr (inr e))) h = absurd e
by_sexts n W64 (inl e) h = subst (λ (z : ℕ). (k : ℕ) × (slice_get sexts k ≡ Some (cast_name z W64, (z, W64)))) (sym e) (3, refl)
by_sexts n W64 (inr (inl e)) h = subst (λ (z : ℕ). (k : ℕ) × (slice_get sexts k ≡ Some (cast_name z W64, (z, W64)))) (sym e) (4, refl)
by_sexts n W64 (inr (inr (inl e))) h = subst (λ (z : ℕ). (k : ℕ) × (slice_get sexts k ≡ Some (cast_name z W64, (z, W64)))) (sym e) (0, refl)
by_sexts n W64 (inr (inr (inr e))) h = absurd e

each_sexts : (a : ℕ × Width) → IsSext a → (k : ℕ) × (slice_get sexts k ≡ Some (name_of_cast a, a))
unfolding digits
each_sexts a h = by_sexts a.0 a.1 h.0 h.1

named_sexts : AreNamed IsSext name_of_cast sexts
unfolding digits
named_sexts = (((inr (inr (inl refl)), omega arith), refl), (((inl refl, omega arith), refl), (((inr (inl refl), omega arith), refl), (((inl refl, omega arith), refl), (((inr (inl refl), omega arith), refl), (((inl refl, omega arith), refl), tt))))))

sexts_words : Words sexts IsSext name_of_cast
sexts_words = record { named = named_sexts; each = each_sexts; first = (32, W64); has_first = (inr (inr (inl refl)), omega arith) }

pub sexts_exact_sp : IsExact (worded sexts IsSext name_of_cast sp)
unfolding all_apart is_apart are_apart literal
sexts_exact_sp = word_exact sexts IsSext name_of_cast sexts_words sp refl

by_cuts : (n : ℕ) (w : Width) → IsOneOf (16 ∷ 32 ∷ 64 ∷ []) n → bits_of w < n → (k : ℕ) × (slice_get cuts k ≡ Some (cast_name n w, (n, w)))
unfolding digits
by_cuts n W8 (inl e) h = subst (λ (z : ℕ). (k : ℕ) × (slice_get cuts k ≡ Some (cast_name z W8, (z, W8)))) (sym e) (5, refl)
by_cuts n W8 (inr (inl e)) h = subst (λ (z : ℕ). (k : ℕ) × (slice_get cuts k ≡ Some (cast_name z W8, (z, W8)))) (sym e) (4, refl)
by_cuts n W8 (inr (inr (inl e))) h = subst (λ (z : ℕ). (k : ℕ) × (slice_get cuts k ≡ Some (cast_name z W8, (z, W8)))) (sym e) (2, refl)
by_cuts n W8 (inr (inr (inr e))) h = absurd e
by_cuts n W16 (inl e) h = absurd (omega (arith, e, h))
by_cuts n W16 (inr (inl e)) h = subst (λ (z : ℕ). (k : ℕ) × (slice_get cuts k ≡ Some (cast_name z W16, (z, W16)))) (sym e) (3, refl)
by_cuts n W16 (inr (inr (inl e))) h = subst (λ (z : ℕ). (k : ℕ) × (slice_get cuts k ≡ Some (cast_name z W16, (z, W16)))) (sym e) (1, refl)
by_cuts n W16 (inr (inr (inr e))) h = absurd e
by_cuts n W32 (inl e) h = absurd (omega (arith, e, h))
by_cuts n W32 (inr (inl e)) h = absurd (omega (arith, e, h))
by_cuts n W32 (inr (inr (inl e))) h = subst (λ (z : ℕ). (k : ℕ) × (slice_get cuts k ≡ Some (cast_name z W32, (z, W32)))) (sym e) (0, refl)
by_cuts n W32 (inr (inr (inr e))) h = absurd e
by_cuts n W64 (inl e) h = absurd (omega (arith, e, h))
by_cuts n W64 (inr (inl e)) h = absurd (omega (arith, e, h))
by_cuts n W64 (inr (inr (inl e))) h = absurd (omega (arith, e, h))
by_cuts n W64 (inr (inr (inr e))) h = absurd e

each_cuts : (a : ℕ × Width) → IsCut a → (k : ℕ) × (slice_get cuts k ≡ Some (name_of_cast a, a))
unfolding digits
each_cuts a h = by_cuts a.0 a.1 h.0 h.1

named_cuts : AreNamed IsCut name_of_cast cuts
unfolding digits
named_cuts = (((inr (inr (inl refl)), omega arith), refl), (((inr (inr (inl refl)), omega arith), refl), (((inr (inr (inl refl)), omega arith), refl), (((inr (inl refl), omega arith), refl), (((inr (inl refl), omega arith), refl), (((inl refl, omega arith), refl), tt))))))

cuts_words : Words cuts IsCut name_of_cast
cuts_words = record { named = named_cuts; each = each_cuts; first = (64, W32); has_first = (inr (inr (inl refl)), omega arith) }

pub cuts_exact_sp : IsExact (worded cuts IsCut name_of_cast sp)
unfolding all_apart is_apart are_apart literal
cuts_exact_sp = word_exact cuts IsCut name_of_cast cuts_words sp refl
