-- Which results and flags an operation has.
use Rattle.std.specs.Prelude.{ℕ, Bool, true, false, Option, Some, None}
use Rattle.x86_flags.specs.declared.flags.Flags.{Flags}
use Rattle.x86_flags.specs.Outcome.{Outcome}
use Rattle.x86_flags.specs.Sums.{add_of, adc_of, sub_of, sbb_of, inc_of, dec_of, neg_of}
use Rattle.x86_flags.specs.Bitwise.{and_of, or_of, xor_of, not_of}
use Rattle.x86_flags.specs.Products.{Product, umul_of, smul_of}
use Rattle.x86_flags.specs.Quotients.{udiv_of, sdiv_of}
use Rattle.x86_forms.specs.declared.conditions.Cond.{Cond}
use Rattle.x86_forms.specs.Conditions.{truth}
use Rattle.x86_forms.specs.declared.instructions.AluOp.{AluOp}
use Rattle.x86_forms.specs.declared.instructions.AluOp.TheVariants.{Add, Or, Adc, Sbb, And, Sub, Xor, Cmp, Test}
use Rattle.x86_forms.specs.declared.instructions.OneOp.{OneOp}
use Rattle.x86_forms.specs.declared.instructions.OneOp.TheVariants.{Inc, Dec, Not, Neg}
use Rattle.x86_model.specs.declared.want.Change.{Change}
use Rattle.x86_model.specs.declared.want.Change.TheVariants as change

-- at w bits
unfoldable pub alu : AluOp → ℕ → ℕ → ℕ → Flags → Outcome
alu Add w a b f = add_of w a b f
alu Or w a b f = or_of w a b f
alu Adc w a b f = adc_of w a b f
alu Sbb w a b f = sbb_of w a b f
alu And w a b f = and_of w a b f
alu Sub w a b f = sub_of w a b f
alu Xor w a b f = xor_of w a b f
alu Cmp w a b f = sub_of w a b f
alu Test w a b f = and_of w a b f

-- CMP and TEST set flags alone
abbrev pub keeps_result : AluOp → Bool
keeps_result Cmp = false
keeps_result Test = false
keeps_result _ = true

unfoldable pub one : OneOp → ℕ → ℕ → Flags → Outcome
one Inc w a f = inc_of w a f
one Dec w a f = dec_of w a f
one Not w a f = not_of w a f
one Neg w a f = neg_of w a f

-- MUL and IMUL, DIV and IDIV
unfoldable pub product : Bool → ℕ → ℕ → ℕ → Product
product false w a b = umul_of w a b
product true w a b = smul_of w a b

unfoldable pub quotient : Bool → ℕ → ℕ → ℕ → ℕ → Option (ℕ × ℕ)
quotient false w high lower by = udiv_of w high lower by
quotient true w high lower by = sdiv_of w high lower by

abbrev pub holds : Cond → Flags → Bool
holds cc f = truth cc f.cf f.pf f.zf f.sf f.of

-- what ADD, OR, AND, SUB and XOR do to memory under LOCK; no other operation takes LOCK
abbrev pub change_by : AluOp → ℕ → Option Change
change_by Add v = Some (change.Add v)
change_by Or v = Some (change.Or v)
change_by And v = Some (change.And v)
change_by Sub v = Some (change.Sub v)
change_by Xor v = Some (change.Xor v)
change_by Adc v = None
change_by Sbb v = None
change_by Cmp v = None
change_by Test v = None

-- INC and DEC under LOCK
abbrev pub change_one : OneOp → Option Change
change_one Inc = Some (change.Add 1)
change_one Dec = Some (change.Sub 1)
change_one Not = None
change_one Neg = None
