-- A line that is well typed, over temporaries that fit their types, has what it needs, and leaves temporaries that fit.
use Rattle.std.proofs.Common.{◌≡◌, ℕ, zero, suc, ◌^◌, ◌<◌, ◌≤◌, Bool, true, false, ◌&&◌, ◌||◌, arith, ap, sym, subst, refl, ◌∙◌, eqb, ltb, leb, lit<, lit≤, ⊎_elim, List, [], ◌∷◌, length, get_or, get_or-set_same, Option, Some, None}
use Rattle.std.proofs.lemmas.Bool.{and_parts, eqb-true, ltb-true, leb-true, cases_eq, cases_lt}
use Rattle.std.proofs.lemmas.List.{get_or-set_other, get_or_past, length-set}
use Rattle.std.proofs.lemmas.Nat.{pow_pos, mod_below}
use Rattle.std.specs.Int.{from_bool}
use Rattle.std.specs.Prelude.{if◌then◌else◌, IfSome, IsTrue, slice_index, slice_set}
use native.Mathlib.Nat.{pow-le-pow_right}
use Rattle.guest_state.specs.declared.virtual_state.Virtual.{Virtual}
use Rattle.guest_state.specs.Register.{low_of, high_of}
use Rattle.guest_state.specs.Virtual.{get_of, get_high_of, put_of, put_high_of}
use Rattle.guest_state.specs.Width.{bits as state_bits}
use Rattle.ir_syntax.specs.declared.block.Part.{Part}
use Rattle.ir_syntax.specs.declared.cond.Flag.{Flag}
use Rattle.ir_syntax.specs.declared.cond.Flag.TheVariants.{Cf, Pf, Zf, Sf, Of}
use Rattle.ir_syntax.specs.declared.line.Family.{Family}
use Rattle.ir_syntax.specs.declared.line.Family.TheVariants.{Add, Adc, Sub, Sbb, And, Or, Xor, Shl, Shr, Sar, Rol, Ror, Mul, Umulh, Smulh, Umul, Smul, Inc, Dec, Neg, Not}
use Rattle.ir_syntax.specs.declared.line.Op.{Op}
use Rattle.ir_syntax.specs.declared.line.Op.TheVariants.{Get, GetHigh, Put, PutHigh, Const, Ea, Calc, FlagOf, FlagZero, Cond, Pick, Zext, Sext, Cut}
use Rattle.ir_syntax.specs.declared.line.PartEnd.{PartEnd}
use Rattle.ir_syntax.specs.declared.line.PartEnd.TheVariants.{Tick, Load, Store, StoreGo, Fence, Locked, LockedCmpxchg, Divide, Go, Branch, BadCode}
use Rattle.ir_syntax.specs.declared.line.Target.{Target}
use Rattle.ir_syntax.specs.declared.line.Target.TheVariants.{Place, Temp}
use Rattle.ir_syntax.specs.declared.width.Width.{Width}
use Rattle.ir_syntax.specs.declared.width.Width.TheVariants.{W8, W16, W32, W64}
use Rattle.ir_syntax.specs.Typed.{Types, is_of_bits, holds, wrote, is_base, is_index, is_width, is_second, are_operands, is_target, is_typed, types_after, are_typed, types_after_all, is_end_typed, types_after_end, unwritten, is_part_typed, are_parts_typed, is_empty}
use Rattle.ir_syntax.specs.Width.{bits_of}
use Rattle.ir_meaning.specs.Does.{did, did_all, does, second, with_flag, ended, divided, answered}
use Rattle.ir_meaning.specs.Family.{AreOperands}
use Rattle.ir_meaning.specs.Ready.{Fits, OpReady, LinesReady, EndReady, IsPlaced, IsReady, IsReadyUnder, Answers}
use Rattle.ir_meaning.specs.Width.{state_width}
use Rattle.ir_meaning.proofs.ResultLemmas.{low_bits_lt, result_fits}

past_types : (types : Types) (t n : ℕ) → length types ≤ t → holds types t n ≡ true → ⊥
past_types types t n h e =
    let none = sym (ap (is_of_bits n) (get_or_past types t None h)) ∙ e in cc

-- a temporary with a type
typed_temp : (types : Types) (temps : List ℕ) (t n : ℕ) → Fits types temps → holds types t n ≡ true → t < 8
typed_temp types temps t n f e =
    ⊎_elim (λ (l : t < 8). l) (λ g. absurd (past_types types t n (omega (arith, f.room, g)) e)) (cases_lt t 8)

value_lt : (temps : List ℕ) (t n x : ℕ) → x < 2 ^ n → get_or (slice_set temps t x) t 0 < 2 ^ n
value_lt temps t n x l =
    ⊎_elim (λ within. subst (λ (k : ℕ). k < 2 ^ n) (sym (get_or-set_same temps t x 0 within)) l)
    (λ past. subst (λ (k : ℕ). k < 2 ^ n) (sym (get_or_past (slice_set temps t x) t 0 (rw (length-set temps t x) past))) (pow_pos n))
    (cases_lt t (length temps))

fits_set : (types : Types) (temps : List ℕ) (t n x : ℕ) → Fits types temps → t < 8 → x < 2 ^ n → Fits (wrote types t n) (slice_set temps t x)
fits_set types temps t n x f h l = record {
  room = length-set types t (Some n) ∙ f.room;
  each = λ s m e. ⊎_elim
      (λ (same : s ≡ t).
      let within : t < length types = omega (arith, f.room) in
      let wide = sym (ap (is_of_bits m) (ap (λ k. get_or (slice_set types t (Some n)) k None) same ∙ get_or-set_same types t (Some n) None within)) ∙ e in
      subst (λ (k : ℕ). get_or (slice_set temps t x) s 0 < 2 ^ k) (eqb-true n m wide) (subst (λ (k : ℕ). get_or (slice_set temps t x) k 0 < 2 ^ n) (sym same) (value_lt temps t n x l)))
      (λ (other : s ≡ t → ⊥).
      let before = sym (ap (is_of_bits m) (get_or-set_other types t s (Some n) None other)) ∙ e in
      subst (λ (k : ℕ). k < 2 ^ m) (sym (get_or-set_other temps t s x 0 other)) (f.each s m before))
      (cases_eq s t);
}

second_fits : (types : Types) (temps : List ℕ) (m : ℕ) (b : Option ℕ) → Fits types temps → is_second types (Some m) b ≡ true → IfSome b (λ s. s < 8) × (second temps b < 2 ^ m)
second_fits types temps m None f e = absurd (cc)
second_fits types temps m (Some b) f e = (typed_temp types temps b m f e, f.each b m e)

no_second : (types : Types) (b : Option ℕ) → is_second types None b ≡ true → IfSome b (λ s. s < 8)
no_second types None e = tt
no_second types (Some b) e = absurd (cc)

operands_two : (types : Types) (temps : List ℕ) (wide : Bool) (n m a : ℕ) (b : Option ℕ) → Fits types temps → (wide && holds types a n && is_second types (Some m) b) ≡ true → (a < 8) × IfSome b (λ s. s < 8) × (slice_index temps a < 2 ^ n) × (second temps b < 2 ^ m) × (wide ≡ true)
operands_two types temps wide n m a b f e =
    let p = and_parts (wide && holds types a n) (is_second types (Some m) b) e in
    let q = and_parts wide (holds types a n) p.0 in
    let s = second_fits types temps m b f p.1 in
    (typed_temp types temps a n f q.1, s.0, f.each a n q.1, s.1, q.0)

operands_one : (types : Types) (temps : List ℕ) (n a : ℕ) (b : Option ℕ) → Fits types temps → (true && holds types a n && is_second types None b) ≡ true → (a < 8) × IfSome b (λ s. s < 8) × (slice_index temps a < 2 ^ n)
operands_one types temps n a b f e =
    let p = and_parts (true && holds types a n) (is_second types None b) e in
    let q = and_parts true (holds types a n) p.0 in
    (typed_temp types temps a n f q.1, no_second types b p.1, f.each a n q.1)

family_ready : (family : Family) (types : Types) (temps : List ℕ) (n a : ℕ) (b : Option ℕ) → Fits types temps → are_operands types family n a b ≡ true → (a < 8) × IfSome b (λ s. s < 8) × AreOperands family n (slice_index temps a) (second temps b)
family_ready Add types temps n a b f e = let q = operands_two types temps true n n a b f e in (q.0, q.1, (q.2, q.3))
family_ready Adc types temps n a b f e = let q = operands_two types temps true n n a b f e in (q.0, q.1, (q.2, q.3))
family_ready Sub types temps n a b f e = let q = operands_two types temps true n n a b f e in (q.0, q.1, (q.2, q.3))
family_ready Sbb types temps n a b f e = let q = operands_two types temps true n n a b f e in (q.0, q.1, (q.2, q.3))
family_ready And types temps n a b f e = let q = operands_two types temps true n n a b f e in (q.0, q.1, (q.2, q.3))
family_ready Or types temps n a b f e = let q = operands_two types temps true n n a b f e in (q.0, q.1, (q.2, q.3))
family_ready Xor types temps n a b f e = let q = operands_two types temps true n n a b f e in (q.0, q.1, (q.2, q.3))
family_ready Shl types temps n a b f e = let q = operands_two types temps true n 8 a b f e in (q.0, q.1, (q.2, q.3))
family_ready Shr types temps n a b f e = let q = operands_two types temps true n 8 a b f e in (q.0, q.1, (q.2, q.3))
family_ready Sar types temps n a b f e = let q = operands_two types temps true n 8 a b f e in (q.0, q.1, (q.2, q.3))
family_ready Rol types temps n a b f e = let q = operands_two types temps (leb 32 n) n 8 a b f e in (q.0, q.1, (q.2, q.3, leb-true 32 n q.4))
family_ready Ror types temps n a b f e = let q = operands_two types temps (leb 32 n) n 8 a b f e in (q.0, q.1, (q.2, q.3, leb-true 32 n q.4))
family_ready Mul types temps n a b f e = let q = operands_two types temps (leb 32 n) n n a b f e in (q.0, q.1, (q.2, q.3, leb-true 32 n q.4))
family_ready Umulh types temps n a b f e = let q = operands_two types temps (leb 32 n) n n a b f e in (q.0, q.1, (q.2, q.3, leb-true 32 n q.4))
family_ready Smulh types temps n a b f e = let q = operands_two types temps (leb 32 n) n n a b f e in (q.0, q.1, (q.2, q.3, leb-true 32 n q.4))
family_ready Umul types temps n a b f e = let q = operands_two types temps (leb 32 n) n n a b f e in (q.0, q.1, (q.2, q.3, leb-true 32 n q.4))
family_ready Smul types temps n a b f e = let q = operands_two types temps (leb 32 n) n n a b f e in (q.0, q.1, (q.2, q.3, leb-true 32 n q.4))
family_ready Inc types temps n a b f e = operands_one types temps n a b f e
family_ready Dec types temps n a b f e = operands_one types temps n a b f e
family_ready Neg types temps n a b f e = operands_one types temps n a b f e
family_ready Not types temps n a b f e = operands_one types temps n a b f e

base_ready : (base : Option ℕ) → is_base base ≡ true → IfSome base (λ r. r < 16)
base_ready None e = tt
base_ready (Some r) e = ltb-true r 16 e

index_ready : (index : Option ℕ) (scale : ℕ) → is_index index scale ≡ true → IfSome index (λ r. r < 16)
index_ready None scale e = tt
index_ready (Some r) scale e = ltb-true r 16 (and_parts (ltb r 16) _ e).0

width_pos : (n : ℕ) → is_width n ≡ true → 0 < n
width_pos zero e = absurd (cc)
width_pos (suc n) e = omega arith

get_lt : (w : Width) (v : Virtual) (r : ℕ) → get_of v r (state_width w) < 2 ^ bits_of w
unfolding get_of low_of state_bits
get_lt W8 v r = mod_below _ (2 ^ 8) (pow_pos 8)
get_lt W16 v r = mod_below _ (2 ^ 16) (pow_pos 16)
get_lt W32 v r = mod_below _ (2 ^ 32) (pow_pos 32)
get_lt W64 v r = mod_below _ (2 ^ 64) (pow_pos 64)

get_high_lt : (v : Virtual) (r : ℕ) → get_high_of v r < 2 ^ 8
unfolding get_high_of high_of
get_high_lt v r = mod_below _ (2 ^ 8) (pow_pos 8)

put_temps : (v : Virtual) (r : ℕ) (w : Width) (x : ℕ) → v.temps ≡ (put_of v r (state_width w) x).temps
unfolding put_of
put_temps v r w x = refl

put_high_temps : (v : Virtual) (r x : ℕ) → v.temps ≡ (put_high_of v r x).temps
unfolding put_high_of
put_high_temps v r x = refl

flag_temps : (v : Virtual) (flag : Flag) (x : Bool) → v.temps ≡ (with_flag v flag x).temps
flag_temps v Cf x = refl
flag_temps v Pf x = refl
flag_temps v Zf x = refl
flag_temps v Sf x = refl
flag_temps v Of x = refl

truth_lt : (b : Bool) → from_bool b < 2 ^ 1
truth_lt true = lit< tt
truth_lt false = lit< tt

chosen_lt : (t : Bool) (a b m : ℕ) → a < m → b < m → (if t then a else b) < m
chosen_lt true a b m h k = h
chosen_lt false a b m h k = k

wider_lt : (x n m : ℕ) → x < 2 ^ n → n < m → x < 2 ^ m
wider_lt x n m h l =
    let less : n ≤ m = omega arith in
    let range : 2 ^ n ≤ 2 ^ m = pow-le-pow_right (lit≤ tt) less in
    omega arith

typed_ready : (o : Op) (types : Types) (v : Virtual) → is_typed types o ≡ true → Fits types v.temps → OpReady o v
typed_ready (Get w t r) types v e f = let p = and_parts (ltb t 8) (ltb r 16) e in (ltb-true t 8 p.0, ltb-true r 16 p.1)
typed_ready (GetHigh t r) types v e f = let p = and_parts (ltb t 8) (ltb r 4) e in (ltb-true t 8 p.0, ltb-true r 4 p.1)
typed_ready (Put w r t) types v e f =
    let p = and_parts (ltb r 16) (holds types t (bits_of w)) e in
    (typed_temp types v.temps t (bits_of w) f p.1, ltb-true r 16 p.0, f.each t (bits_of w) p.1)
typed_ready (PutHigh r t) types v e f =
    let p = and_parts (ltb r 4) (holds types t 8) e in
    (typed_temp types v.temps t 8 f p.1, ltb-true r 4 p.0, f.each t 8 p.1)
typed_ready (Const w t n) types v e f = ltb-true t 8 (and_parts (ltb t 8) _ e).0
typed_ready (Ea t base index scale n) types v e f =
    let p = and_parts (ltb t 8 && is_base base) (is_index index scale) e in
    let q = and_parts (ltb t 8) (is_base base) p.0 in
    (ltb-true t 8 q.0, base_ready base q.1, index_ready index scale p.1)
typed_ready (Calc family w t a b) types v e f =
    let p = and_parts _ (are_operands types family (bits_of w) a b) e in
    let q = and_parts (ltb t 8) _ p.0 in
    let r = family_ready family types v.temps (bits_of w) a b f p.1 in
    (ltb-true t 8 q.0, r.0, r.1, r.2)
typed_ready (FlagOf flag family w a b) types v e f =
    let p = and_parts _ (are_operands types family (bits_of w) a b) e in
    family_ready family types v.temps (bits_of w) a b f p.1
typed_ready (FlagZero flag) types v e f = tt
typed_ready (Cond t c) types v e f = ltb-true t 8 e
typed_ready (Pick w t c a b) types v e f =
    let p = and_parts (ltb t 8 && holds types c 1 && holds types a (bits_of w)) (holds types b (bits_of w)) e in
    let q = and_parts (ltb t 8 && holds types c 1) (holds types a (bits_of w)) p.0 in
    let r = and_parts (ltb t 8) (holds types c 1) q.0 in
    (ltb-true t 8 r.0, typed_temp types v.temps c 1 f r.1, typed_temp types v.temps a (bits_of w) f q.1, typed_temp types v.temps b (bits_of w) f p.1)
typed_ready (Zext from w t a) types v e f =
    let p = and_parts (ltb t 8 && (eqb from 1 || is_width from) && ltb from (bits_of w)) (holds types a from) e in
    let q = and_parts (ltb t 8 && (eqb from 1 || is_width from)) (ltb from (bits_of w)) p.0 in
    let r = and_parts (ltb t 8) (eqb from 1 || is_width from) q.0 in
    (ltb-true t 8 r.0, typed_temp types v.temps a from f p.1)
typed_ready (Sext from w t a) types v e f =
    let p = and_parts (ltb t 8 && is_width from && ltb from (bits_of w)) (holds types a from) e in
    let q = and_parts (ltb t 8 && is_width from) (ltb from (bits_of w)) p.0 in
    let r = and_parts (ltb t 8) (is_width from) q.0 in
    (ltb-true t 8 r.0, typed_temp types v.temps a from f p.1, width_pos from r.1, ltb-true from (bits_of w) q.1, f.each a from p.1)
typed_ready (Cut from w t a) types v e f =
    let p = and_parts (ltb t 8 && is_width from && ltb (bits_of w) from) (holds types a from) e in
    let q = and_parts (ltb t 8 && is_width from) (ltb (bits_of w) from) p.0 in
    let r = and_parts (ltb t 8) (is_width from) q.0 in
    (ltb-true t 8 r.0, typed_temp types v.temps a from f p.1)

typed_after : (o : Op) (types : Types) (v : Virtual) → is_typed types o ≡ true → Fits types v.temps → OpReady o v → Fits (types_after types o) (did o v).temps
typed_after (Get w t r) types v e f h = fits_set types v.temps t (bits_of w) _ f h.0 (get_lt w v r)
typed_after (GetHigh t r) types v e f h = fits_set types v.temps t 8 _ f h.0 (get_high_lt v r)
typed_after (Put w r t) types v e f h = subst (Fits types) (put_temps v r w (slice_index v.temps t)) f
typed_after (PutHigh r t) types v e f h = subst (Fits types) (put_high_temps v r (slice_index v.temps t)) f
typed_after (Const w t n) types v e f h = fits_set types v.temps t (bits_of w) n f h (ltb-true n (2 ^ bits_of w) (and_parts (ltb t 8) (ltb n (2 ^ bits_of w)) e).1)
typed_after (Ea t base index scale n) types v e f h = fits_set types v.temps t 64 _ f h.0 (mod_below _ (2 ^ 64) (pow_pos 64))
typed_after (Calc family w t a b) types v e f h = fits_set types v.temps t (bits_of w) _ f h.0 (result_fits family (bits_of w) _ _ _ h.3)
typed_after (FlagOf flag family w a b) types v e f h = subst (Fits types) (flag_temps v flag _) f
typed_after (FlagZero flag) types v e f h = subst (Fits types) (flag_temps v flag false) f
typed_after (Cond t c) types v e f h = fits_set types v.temps t 1 _ f h (truth_lt _)
typed_after (Pick w t c a b) types v e f h =
    let p = and_parts (ltb t 8 && holds types c 1 && holds types a (bits_of w)) (holds types b (bits_of w)) e in
    let q = and_parts (ltb t 8 && holds types c 1) (holds types a (bits_of w)) p.0 in
    fits_set types v.temps t (bits_of w) _ f h.0 (chosen_lt (eqb (slice_index v.temps c) 1) _ _ _ (f.each a (bits_of w) q.1) (f.each b (bits_of w) p.1))
typed_after (Zext from w t a) types v e f h =
    let p = and_parts (ltb t 8 && (eqb from 1 || is_width from) && ltb from (bits_of w)) (holds types a from) e in
    let q = and_parts (ltb t 8 && (eqb from 1 || is_width from)) (ltb from (bits_of w)) p.0 in
    fits_set types v.temps t (bits_of w) _ f h.0 (wider_lt _ from (bits_of w) (f.each a from p.1) (ltb-true from (bits_of w) q.1))
typed_after (Sext from w t a) types v e f h = fits_set types v.temps t (bits_of w) _ f h.0 (low_bits_lt (bits_of w) _)
typed_after (Cut from w t a) types v e f h = fits_set types v.temps t (bits_of w) _ f h.0 (mod_below _ (2 ^ bits_of w) (pow_pos (bits_of w)))

pub lines_ready : (ops : List Op) (types : Types) (v : Virtual) → are_typed types ops ≡ true → Fits types v.temps → LinesReady ops v × Fits (types_after_all types ops) (did_all ops v).temps
lines_ready [] types v e f = (tt, f)
lines_ready (o ∷ os) types v e f =
    let p = and_parts (is_typed types o) (are_typed (types_after types o) os) e in
    let ready = typed_ready o types v p.0 f in
    let rest = lines_ready os (types_after types o) (did o v) p.1 (typed_after o types v p.0 f ready) in
    ((ready, rest.0), rest.1)

placed : (types : Types) (temps : List ℕ) (to : Target) → Fits types temps → is_target types to ≡ true → IsPlaced to
placed types temps (Place to) f e = tt
placed types temps (Temp t) f e = typed_temp types temps t 64 f e

pub end_ready : (end : PartEnd) (types : Types) (v : Virtual) → is_end_typed types end ≡ true → Fits types v.temps → EndReady end v
end_ready Tick types v e f = tt
end_ready (Load w t a) types v e f = typed_temp types v.temps a 64 f (and_parts (ltb t 8) (holds types a 64) e).1
end_ready (Store w a t) types v e f =
    let p = and_parts (holds types a 64) (holds types t (bits_of w)) e in
    (typed_temp types v.temps a 64 f p.0, typed_temp types v.temps t (bits_of w) f p.1)
end_ready (StoreGo a t to) types v e f =
    let p = and_parts (holds types a 64 && holds types t 64) (is_target types to) e in
    let q = and_parts (holds types a 64) (holds types t 64) p.0 in
    (typed_temp types v.temps a 64 f q.0, typed_temp types v.temps t 64 f q.1, placed types v.temps to f p.1)
end_ready Fence types v e f = tt
end_ready (Locked kind w t a s) types v e f =
    let p = and_parts (ltb t 8 && holds types a 64) (holds types s (bits_of w)) e in
    let q = and_parts (ltb t 8) (holds types a 64) p.0 in
    (typed_temp types v.temps a 64 f q.1, typed_temp types v.temps s (bits_of w) f p.1)
end_ready (LockedCmpxchg w t a c s) types v e f =
    let p = and_parts (ltb t 8 && holds types a 64 && holds types c (bits_of w)) (holds types s (bits_of w)) e in
    let q = and_parts (ltb t 8 && holds types a 64) (holds types c (bits_of w)) p.0 in
    let r = and_parts (ltb t 8) (holds types a 64) q.0 in
    (typed_temp types v.temps a 64 f r.1, typed_temp types v.temps c (bits_of w) f q.1, typed_temp types v.temps s (bits_of w) f p.1)
end_ready (Divide signed w t) types v e f =
    let p = and_parts (leb 32 (bits_of w)) (holds types t (bits_of w)) e in
    (typed_temp types v.temps t (bits_of w) f p.1, leb-true 32 (bits_of w) p.0, f.each t (bits_of w) p.1)
end_ready (Go to) types v e f = placed types v.temps to f e
end_ready (Branch c taken other) types v e f = tt
end_ready BadCode types v e f = tt

divided_fits : (w : Width) (q : Option (ℕ × ℕ)) (types : Types) (v : Virtual) → Fits types v.temps → Fits types (divided w v q).state.temps
divided_fits w None types v f = f
divided_fits w (Some q) types v f =
    subst (Fits types) (put_temps v 0 w q.0 ∙ put_temps (put_of v 0 (state_width w) q.0) 2 w q.1) f

pub ended_fits : (end : PartEnd) (types : Types) (v : Virtual) → Fits types v.temps → Fits types (ended end v).state.temps
ended_fits Tick types v f = f
ended_fits (Load w t a) types v f = f
ended_fits (Store w a t) types v f = f
ended_fits (StoreGo a t to) types v f = f
ended_fits Fence types v f = f
ended_fits (Locked kind w t a s) types v f = f
ended_fits (LockedCmpxchg w t a c s) types v f = f
ended_fits (Divide signed w t) types v f = divided_fits w _ types v f
ended_fits (Go to) types v f = f
ended_fits (Branch c taken other) types v f = f
ended_fits BadCode types v f = f

pub answered_fits : (end : PartEnd) (types : Types) (v : Virtual) (x : ℕ) → Answers end x → Fits types v.temps → Fits (types_after_end types end) (answered end x v).temps
answered_fits Tick types v x h f = f
answered_fits (Load w t a) types v x h f = fits_set types v.temps t (bits_of w) x f h.0 h.1
answered_fits (Store w a t) types v x h f = f
answered_fits (StoreGo a t to) types v x h f = f
answered_fits Fence types v x h f = f
answered_fits (Locked kind w t a s) types v x h f = fits_set types v.temps t (bits_of w) x f h.0 h.1
answered_fits (LockedCmpxchg w t a c s) types v x h f = fits_set types v.temps t (bits_of w) x f h.0 h.1
answered_fits (Divide signed w t) types v x h f = f
answered_fits (Go to) types v x h f = f
answered_fits (Branch c taken other) types v x h f = f
answered_fits BadCode types v x h f = f

pub part_lines : (p : Part) (v : Virtual) → IsReady p v → LinesReady p.ops v
part_lines p v r = (lines_ready p.ops r.0 v r.1.lines r.1.fits).0

pub part_end : (p : Part) (v : Virtual) → IsReady p v → EndReady p.end (did_all p.ops v)
part_end p v r = end_ready p.end (types_after_all r.0 p.ops) (did_all p.ops v) r.1.end (lines_ready p.ops r.0 v r.1.lines r.1.fits).1

pub part_fits : (types : Types) (p : Part) (v : Virtual) → IsReadyUnder types p v → Fits (types_after_all types p.ops) (does p v).state.temps
part_fits types p v r = ended_fits p.end (types_after_all types p.ops) (did_all p.ops v) (lines_ready p.ops types v r.lines r.fits).1

none_typed : (t n : ℕ) → holds unwritten t n ≡ true → ⊥
none_typed zero n e = cc
none_typed (suc zero) n e = cc
none_typed (suc (suc zero)) n e = cc
none_typed (suc (suc (suc zero))) n e = cc
none_typed (suc (suc (suc (suc zero)))) n e = cc
none_typed (suc (suc (suc (suc (suc zero))))) n e = cc
none_typed (suc (suc (suc (suc (suc (suc zero)))))) n e = cc
none_typed (suc (suc (suc (suc (suc (suc (suc zero))))))) n e = cc
none_typed (suc (suc (suc (suc (suc (suc (suc (suc t)))))))) n e = cc

-- before a block no temporary has a type
pub unwritten_fits : (temps : List ℕ) → Fits unwritten temps
unwritten_fits temps = record { room = refl; each = λ t n e. absurd (none_typed t n e) }

-- the first part of a well typed block is ready, whatever the temporaries hold
pub first_ready : (parts : List Part) (p : Part) (v : Virtual) → (0 < length parts) × IsTrue (are_parts_typed unwritten parts) → p ≡ get_or parts 0 p → IsReady p v
first_ready [] p v h at = absurd (omega (arith, h.0))
first_ready (q ∷ qs) p v h at =
    let both = and_parts (is_part_typed (is_empty qs) unwritten q) _ h.1 in
    let lines = and_parts (are_typed unwritten q.ops) _ both.0 in
    let ends = and_parts (is_end_typed (types_after_all unwritten q.ops) q.end) _ lines.1 in
    subst (λ (x : Part). IsReady x v) (sym at) (unwritten, record { lines = lines.0; end = ends.0; fits = unwritten_fits v.temps })
