-- Words have no newline, and each line ends with its only one.
use Rattle.std.proofs.Common.{◌≡◌, ℕ, zero, suc, ◌+◌, ◌/◌, ◌%◌, ◌==◌, Bool, true, false, List, [], ◌∷◌, ◌++◌, Option, Some, None, codes, refl, ap, ◌∙◌, append_assoc, arith, if◌then◌else◌}
use Rattle.std.specs.List.{flat_map}
use Rattle.std.specs.Fmt.{decimal, digits, digits_onto, digit_glyph}
use Rattle.std.proofs.lemmas.Bool.Decides.{nat_tests}
use Rattle.ir_syntax.specs.declared.block.Block.{Block}
use Rattle.ir_syntax.specs.declared.cond.Cond.{Cond}
use Rattle.ir_syntax.specs.declared.cond.Cond.TheVariants.{O, No, B, Ae, E, Ne, Be, A, S, Ns, P, Np, L, Ge, Le, G}
use Rattle.ir_syntax.specs.declared.cond.Flag.{Flag}
use Rattle.ir_syntax.specs.declared.cond.Flag.TheVariants.{Cf, Pf, Zf, Sf, Of}
use Rattle.ir_syntax.specs.declared.line.Family.{Family}
use Rattle.ir_syntax.specs.declared.line.Family.TheVariants.{Add, Adc, Sub, Sbb, And, Or, Xor, Shl, Shr, Sar, Rol, Ror, Mul, Umulh, Smulh, Umul, Smul, Inc, Dec, Neg, Not}
use Rattle.ir_syntax.specs.declared.line.LockOp.{LockOp}
use Rattle.ir_syntax.specs.declared.line.LockOp.TheVariants as lock
use Rattle.ir_syntax.specs.declared.line.Op.{Op}
use Rattle.ir_syntax.specs.declared.line.Op.TheVariants.{Get, GetHigh, Put, PutHigh, Const, Ea, Calc, FlagOf, FlagZero, Cond as CondOp, Pick, Zext, Sext, Cut}
use Rattle.ir_syntax.specs.declared.line.PartEnd.{PartEnd}
use Rattle.ir_syntax.specs.declared.line.PartEnd.TheVariants.{Tick, Load, Store, StoreGo, Fence, Locked, LockedCmpxchg, Divide, Go, Branch, BadCode}
use Rattle.ir_syntax.specs.declared.line.Target.{Target}
use Rattle.ir_syntax.specs.declared.line.Target.TheVariants.{Place, Temp}
use Rattle.ir_syntax.specs.declared.width.Width.{Width}
use Rattle.ir_syntax.specs.declared.width.Width.TheVariants.{W8, W16, W32, W64}
use Rattle.ir_text.specs.Faults.{line_from}
use Rattle.ir_text.specs.Text.{width_name, temp_name, register_name, base_name, flag_name, cond_name, family_name, lock_name, sign_name, cast_name, hex, target_name, spaced, dotted, lined, op_text, end_text, byte_text, code_text}
use Rattle.ir_file.specs.Lines.{block_line}

-- these bytes have no newline
abbrev pub IsPlain : List ℕ → Type 0
IsPlain s = (n : ℕ) (rest : List ℕ) → line_from n (s ++ rest) ≡ line_from n rest

-- these bytes have one newline
abbrev pub IsLine : List ℕ → Type 0
IsLine s = (n : ℕ) (rest : List ℕ) → line_from n (s ++ rest) ≡ line_from (n + 1) rest

plain : (s t : List ℕ) → IsPlain s → IsPlain t → IsPlain (s ++ t)
plain s t hs ht n rest = ap (line_from n) (append_assoc s t rest) ∙ hs n (t ++ rest) ∙ ht n rest

line : (s t : List ℕ) → IsPlain s → IsLine t → IsLine (s ++ t)
line s t hs ht n rest = ap (line_from n) (append_assoc s t rest) ∙ hs n (t ++ rest) ∙ ht n rest

cons : (c : ℕ) (s : List ℕ) → (c == 10) ≡ false → IsPlain s → IsPlain (c ∷ s)
cons c s e h n rest = ap (λ (b : Bool). if b then line_from (n + 1) (s ++ rest) else line_from n (s ++ rest)) e ∙ h n rest

spaced_plain : (s : List ℕ) → IsPlain s → IsPlain (spaced s)
spaced_plain s h = plain s (32 ∷ []) h (λ n rest. refl)

dotted_plain : (s : List ℕ) → IsPlain s → IsPlain (dotted s)
dotted_plain s h = plain s (46 ∷ []) h (λ n rest. refl)

lined_line : (s : List ℕ) → IsPlain s → IsLine (lined s)
lined_line s h = line s (10 ∷ []) h (λ n rest. refl)

-- ---- words

nil : IsPlain []
nil n rest = refl

glyph_plain : (d : ℕ) → (digit_glyph false d == 10) ≡ false
glyph_plain d = grind (arith, nat_tests)

onto_plain : (k base n : ℕ) (acc : List ℕ) → IsPlain acc → IsPlain (digits_onto k base false n acc)
onto_plain zero base n acc h = h
onto_plain (suc k) base n acc h =
    let g = digit_glyph false (n % base) in
    let more = cons g acc (glyph_plain (n % base)) h in
    by (n / base == 0) (g ∷ acc) (digits_onto k base false (n / base) (g ∷ acc)) more (onto_plain k base (n / base) (g ∷ acc) more)
  where
    by : (b : Bool) (s t : List ℕ) → IsPlain s → IsPlain t → IsPlain (if b then s else t)
    by true s t hs ht = hs
    by false s t hs ht = ht

digits_plain : (base n : ℕ) → IsPlain (digits base false n)
unfolding digits
digits_plain base n = onto_plain 64 base n [] nil

hex_plain : (n : ℕ) → IsPlain (hex n)
hex_plain n = plain (codes "0x") (digits 16 false n) (λ m rest. refl) (digits_plain 16 n)

width_plain : (w : Width) → IsPlain (width_name w)
width_plain W8 = λ n rest. refl
width_plain W16 = λ n rest. refl
width_plain W32 = λ n rest. refl
width_plain W64 = λ n rest. refl

temp_byte : (t : ℕ) → (48 + t == 10) ≡ false
temp_byte t = grind (arith, nat_tests)

temp_plain : (t : ℕ) → IsPlain (temp_name t)
temp_plain t = cons 116 ((48 + t) ∷ []) refl (cons (48 + t) [] (temp_byte t) nil)

register_plain : (r : ℕ) → IsPlain (register_name r)
unfolding register_name
register_plain zero = λ n rest. refl
register_plain (suc zero) = λ n rest. refl
register_plain (suc (suc zero)) = λ n rest. refl
register_plain (suc (suc (suc zero))) = λ n rest. refl
register_plain (suc (suc (suc (suc zero)))) = λ n rest. refl
register_plain (suc (suc (suc (suc (suc zero))))) = λ n rest. refl
register_plain (suc (suc (suc (suc (suc (suc zero)))))) = λ n rest. refl
register_plain (suc (suc (suc (suc (suc (suc (suc zero))))))) = λ n rest. refl
register_plain (suc (suc (suc (suc (suc (suc (suc (suc zero)))))))) = λ n rest. refl
register_plain (suc (suc (suc (suc (suc (suc (suc (suc (suc zero))))))))) = λ n rest. refl
register_plain (suc (suc (suc (suc (suc (suc (suc (suc (suc (suc zero)))))))))) = λ n rest. refl
register_plain (suc (suc (suc (suc (suc (suc (suc (suc (suc (suc (suc zero))))))))))) = λ n rest. refl
register_plain (suc (suc (suc (suc (suc (suc (suc (suc (suc (suc (suc (suc zero)))))))))))) = λ n rest. refl
register_plain (suc (suc (suc (suc (suc (suc (suc (suc (suc (suc (suc (suc (suc zero))))))))))))) = λ n rest. refl
register_plain (suc (suc (suc (suc (suc (suc (suc (suc (suc (suc (suc (suc (suc (suc zero)))))))))))))) = λ n rest. refl
register_plain (suc (suc (suc (suc (suc (suc (suc (suc (suc (suc (suc (suc (suc (suc (suc zero))))))))))))))) = λ n rest. refl
register_plain (suc (suc (suc (suc (suc (suc (suc (suc (suc (suc (suc (suc (suc (suc (suc (suc r)))))))))))))))) = λ n rest. refl

base_plain : (o : Option ℕ) → IsPlain (base_name o)
base_plain None = λ n rest. refl
base_plain (Some r) = register_plain r

flag_plain : (f : Flag) → IsPlain (flag_name f)
flag_plain Cf = λ n rest. refl
flag_plain Pf = λ n rest. refl
flag_plain Zf = λ n rest. refl
flag_plain Sf = λ n rest. refl
flag_plain Of = λ n rest. refl

cond_plain : (c : Cond) → IsPlain (cond_name c)
cond_plain O = λ n rest. refl
cond_plain No = λ n rest. refl
cond_plain B = λ n rest. refl
cond_plain Ae = λ n rest. refl
cond_plain E = λ n rest. refl
cond_plain Ne = λ n rest. refl
cond_plain Be = λ n rest. refl
cond_plain A = λ n rest. refl
cond_plain S = λ n rest. refl
cond_plain Ns = λ n rest. refl
cond_plain P = λ n rest. refl
cond_plain Np = λ n rest. refl
cond_plain L = λ n rest. refl
cond_plain Ge = λ n rest. refl
cond_plain Le = λ n rest. refl
cond_plain G = λ n rest. refl

family_plain : (f : Family) → IsPlain (family_name f)
family_plain Add = λ n rest. refl
family_plain Adc = λ n rest. refl
family_plain Sub = λ n rest. refl
family_plain Sbb = λ n rest. refl
family_plain And = λ n rest. refl
family_plain Or = λ n rest. refl
family_plain Xor = λ n rest. refl
family_plain Shl = λ n rest. refl
family_plain Shr = λ n rest. refl
family_plain Sar = λ n rest. refl
family_plain Rol = λ n rest. refl
family_plain Ror = λ n rest. refl
family_plain Mul = λ n rest. refl
family_plain Umulh = λ n rest. refl
family_plain Smulh = λ n rest. refl
family_plain Umul = λ n rest. refl
family_plain Smul = λ n rest. refl
family_plain Inc = λ n rest. refl
family_plain Dec = λ n rest. refl
family_plain Neg = λ n rest. refl
family_plain Not = λ n rest. refl

lock_plain : (k : LockOp) → IsPlain (lock_name k)
lock_plain lock.Xchg = λ n rest. refl
lock_plain lock.Add = λ n rest. refl
lock_plain lock.Sub = λ n rest. refl
lock_plain lock.And = λ n rest. refl
lock_plain lock.Or = λ n rest. refl
lock_plain lock.Xor = λ n rest. refl

sign_plain : (b : Bool) → IsPlain (sign_name b)
sign_plain true = λ n rest. refl
sign_plain false = λ n rest. refl

cast_plain : (from : ℕ) (w : Width) → IsPlain (cast_name from w)
cast_plain from w = plain (decimal from ++ 46 ∷ []) (width_name w) (plain (decimal from) (46 ∷ []) (digits_plain 10 from) (λ n rest. refl)) (width_plain w)

target_plain : (t : Target) → IsPlain (target_name t)
target_plain (Place n) = hex_plain n
target_plain (Temp t) = temp_plain t

bytes_plain : (cs : List ℕ) → IsPlain (flat_map byte_text cs)
bytes_plain [] = nil
bytes_plain (c ∷ cs) =
    cons (digit_glyph false (c / 16)) (digit_glyph false (c % 16) ∷ flat_map byte_text cs) (glyph_plain (c / 16))
    (cons (digit_glyph false (c % 16)) (flat_map byte_text cs) (glyph_plain (c % 16)) (bytes_plain cs))

code_plain : (cs : List ℕ) → IsPlain (code_text cs)
code_plain [] = λ n rest. refl
code_plain (c ∷ cs) = bytes_plain (c ∷ cs)

-- ---- words with what stands behind them

sw : (w : Width) → IsPlain (spaced (width_name w))
sw w = spaced_plain (width_name w) (width_plain w)

st : (t : ℕ) → IsPlain (spaced (temp_name t))
st t = spaced_plain (temp_name t) (temp_plain t)

sr : (r : ℕ) → IsPlain (spaced (register_name r))
sr r = spaced_plain (register_name r) (register_plain r)

sb : (o : Option ℕ) → IsPlain (spaced (base_name o))
sb o = spaced_plain (base_name o) (base_plain o)

df : (f : Family) → IsPlain (dotted (family_name f))
df f = dotted_plain (family_name f) (family_plain f)

lt : (t : ℕ) → IsLine (lined (temp_name t))
lt t = lined_line (temp_name t) (temp_plain t)

lh : (n : ℕ) → IsLine (lined (hex n))
lh n = lined_line (hex n) (hex_plain n)

-- ---- lines of words

line_3 : (a b c : List ℕ) → IsPlain a → IsPlain b → IsLine c → IsLine (a ++ b ++ c)
line_3 a b c ha hb = line (a ++ b) c (plain a b ha hb)

line_4 : (a b c d : List ℕ) → IsPlain a → IsPlain b → IsPlain c → IsLine d → IsLine (a ++ b ++ c ++ d)
line_4 a b c d ha hb hc = line (a ++ b ++ c) d (plain (a ++ b) c (plain a b ha hb) hc)

line_5 : (a b c d e : List ℕ) → IsPlain a → IsPlain b → IsPlain c → IsPlain d → IsLine e → IsLine (a ++ b ++ c ++ d ++ e)
line_5 a b c d e ha hb hc hd = line (a ++ b ++ c ++ d) e (plain (a ++ b ++ c) d (plain (a ++ b) c (plain a b ha hb) hc) hd)

line_6 : (a b c d e f : List ℕ) → IsPlain a → IsPlain b → IsPlain c → IsPlain d → IsPlain e → IsLine f → IsLine (a ++ b ++ c ++ d ++ e ++ f)
line_6 a b c d e f ha hb hc hd he = line (a ++ b ++ c ++ d ++ e) f (plain (a ++ b ++ c ++ d) e (plain (a ++ b ++ c) d (plain (a ++ b) c (plain a b ha hb) hc) hd) he)

line_7 : (a b c d e f g : List ℕ) → IsPlain a → IsPlain b → IsPlain c → IsPlain d → IsPlain e → IsPlain f → IsLine g → IsLine (a ++ b ++ c ++ d ++ e ++ f ++ g)
line_7 a b c d e f g ha hb hc hd he hf = line (a ++ b ++ c ++ d ++ e ++ f) g (plain (a ++ b ++ c ++ d ++ e) f (plain (a ++ b ++ c ++ d) e (plain (a ++ b ++ c) d (plain (a ++ b) c (plain a b ha hb) hc) hd) he) hf)

pub op_line : (o : Op) → IsLine (op_text o)
unfolding op_text
op_line (Get w t r) = line_4 (codes "get.") (spaced (width_name w)) (spaced (temp_name t)) (lined (register_name r)) (λ n rest. refl) (sw w) (st t) (lined_line (register_name r) (register_plain r))
op_line (GetHigh t r) = line_3 (codes "get.h ") (spaced (temp_name t)) (lined (register_name r)) (λ n rest. refl) (st t) (lined_line (register_name r) (register_plain r))
op_line (Put w r t) = line_4 (codes "put.") (spaced (width_name w)) (spaced (register_name r)) (lined (temp_name t)) (λ n rest. refl) (sw w) (sr r) (lt t)
op_line (PutHigh r t) = line_3 (codes "put.h ") (spaced (register_name r)) (lined (temp_name t)) (λ n rest. refl) (sr r) (lt t)
op_line (Const w t n) = line_4 (codes "const.") (spaced (width_name w)) (spaced (temp_name t)) (lined (hex n)) (λ n rest. refl) (sw w) (st t) (lh n)
op_line (Ea t base index scale n) = line_6 (codes "ea ") (spaced (temp_name t)) (spaced (base_name base)) (spaced (base_name index)) (spaced (decimal scale)) (lined (hex n)) (λ n rest. refl) (st t) (sb base) (sb index) (spaced_plain (decimal scale) (digits_plain 10 scale)) (lh n)
op_line (Calc family w t a (Some b)) = line_6 (codes "calc.") (dotted (family_name family)) (spaced (width_name w)) (spaced (temp_name t)) (spaced (temp_name a)) (lined (temp_name b)) (λ n rest. refl) (df family) (sw w) (st t) (st a) (lt b)
op_line (Calc family w t a None) = line_5 (codes "calc.") (dotted (family_name family)) (spaced (width_name w)) (spaced (temp_name t)) (lined (temp_name a)) (λ n rest. refl) (df family) (sw w) (st t) (lt a)
op_line (FlagOf flag family w a (Some b)) = line_6 (codes "flag ") (spaced (flag_name flag)) (dotted (family_name family)) (spaced (width_name w)) (spaced (temp_name a)) (lined (temp_name b)) (λ n rest. refl) (spaced_plain (flag_name flag) (flag_plain flag)) (df family) (sw w) (st a) (lt b)
op_line (FlagOf flag family w a None) = line_5 (codes "flag ") (spaced (flag_name flag)) (dotted (family_name family)) (spaced (width_name w)) (lined (temp_name a)) (λ n rest. refl) (spaced_plain (flag_name flag) (flag_plain flag)) (df family) (sw w) (lt a)
op_line (FlagZero flag) = line_3 (codes "flag ") (spaced (flag_name flag)) (codes "zero\n") (λ n rest. refl) (spaced_plain (flag_name flag) (flag_plain flag)) (λ n rest. refl)
op_line (CondOp t c) = line_3 (codes "cond ") (spaced (temp_name t)) (lined (cond_name c)) (λ n rest. refl) (st t) (lined_line (cond_name c) (cond_plain c))
op_line (Pick w t c a b) = line_6 (codes "pick.") (spaced (width_name w)) (spaced (temp_name t)) (spaced (temp_name c)) (spaced (temp_name a)) (lined (temp_name b)) (λ n rest. refl) (sw w) (st t) (st c) (st a) (lt b)
op_line (Zext from w t a) = line_4 (codes "zext.") (spaced (cast_name from w)) (spaced (temp_name t)) (lined (temp_name a)) (λ n rest. refl) (spaced_plain (cast_name from w) (cast_plain from w)) (st t) (lt a)
op_line (Sext from w t a) = line_4 (codes "sext.") (spaced (cast_name from w)) (spaced (temp_name t)) (lined (temp_name a)) (λ n rest. refl) (spaced_plain (cast_name from w) (cast_plain from w)) (st t) (lt a)
op_line (Cut from w t a) = line_4 (codes "cut.") (spaced (cast_name from w)) (spaced (temp_name t)) (lined (temp_name a)) (λ n rest. refl) (spaced_plain (cast_name from w) (cast_plain from w)) (st t) (lt a)

pub end_line : (e : PartEnd) → IsLine (end_text e)
unfolding end_text
end_line Tick = λ n rest. refl
end_line (Load w t a) = line_4 (codes "load.") (spaced (width_name w)) (spaced (temp_name t)) (lined (temp_name a)) (λ n rest. refl) (sw w) (st t) (lt a)
end_line (Store w a t) = line_4 (codes "store.") (spaced (width_name w)) (spaced (temp_name a)) (lined (temp_name t)) (λ n rest. refl) (sw w) (st a) (lt t)
end_line (StoreGo a t to) = line_4 (codes "storego.64 ") (spaced (temp_name a)) (spaced (temp_name t)) (lined (target_name to)) (λ n rest. refl) (st a) (st t) (lined_line (target_name to) (target_plain to))
end_line Fence = λ n rest. refl
end_line (Locked kind w t a s) = line_6 (codes "locked.") (dotted (lock_name kind)) (spaced (width_name w)) (spaced (temp_name t)) (spaced (temp_name a)) (lined (temp_name s)) (λ n rest. refl) (dotted_plain (lock_name kind) (lock_plain kind)) (sw w) (st t) (st a) (lt s)
end_line (LockedCmpxchg w t a c s) = line_7 (codes "locked.") (codes "cmpxchg.") (spaced (width_name w)) (spaced (temp_name t)) (spaced (temp_name a)) (spaced (temp_name c)) (lined (temp_name s)) (λ n rest. refl) (λ n rest. refl) (sw w) (st t) (st a) (st c) (lt s)
end_line (Divide signed w t) = line_4 (codes "divide.") (dotted (sign_name signed)) (spaced (width_name w)) (lined (temp_name t)) (λ n rest. refl) (dotted_plain (sign_name signed) (sign_plain signed)) (sw w) (lt t)
end_line (Go to) = line (codes "go ") (lined (target_name to)) (λ n rest. refl) (lined_line (target_name to) (target_plain to))
end_line (Branch c taken other) = line_4 (codes "branch ") (spaced (cond_name c)) (spaced (hex taken)) (lined (hex other)) (λ n rest. refl) (spaced_plain (cond_name c) (cond_plain c)) (spaced_plain (hex taken) (hex_plain taken)) (lh other)
end_line BadCode = λ n rest. refl

pub block_line_line : (b : Block) → IsLine (block_line b)
block_line_line b =
    line (codes "block ") (spaced (hex b.at) ++ lined (code_text b.code)) (λ n rest. refl)
    (line (spaced (hex b.at)) (lined (code_text b.code)) (spaced_plain (hex b.at) (hex_plain b.at)) (lined_line (code_text b.code) (code_plain b.code)))
