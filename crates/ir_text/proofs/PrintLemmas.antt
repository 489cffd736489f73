-- What is written is the text of the lines.
use Rattle.std.proofs.Common.{◌≡◌, ℕ, zero, suc, ◌+◌, ◌<◌, List, [], ◌∷◌, ◌++◌, length, take, get_or, All, Some, None, codes, refl, sym, ap, subst, ◌∙◌, append_assoc, add-one, arith}
use Rattle.std.specs.Fmt.{decimal}
use Rattle.ir_syntax.specs.declared.line.Op.{Op}
use Rattle.ir_syntax.specs.declared.line.Op.TheVariants.{Get, GetHigh, Put, PutHigh, Const, Ea, Calc, FlagOf, FlagZero, Cond as CondOp, Pick, Zext, Sext, Cut}
use Rattle.ir_syntax.specs.declared.line.PartEnd.{PartEnd}
use Rattle.ir_syntax.specs.declared.line.PartEnd.TheVariants.{Tick, Load, Store, StoreGo, Fence, Locked, LockedCmpxchg, Divide, Go, Branch, BadCode}
use Rattle.ir_text.specs.Text.{width_name, temp_name, register_name, base_name, flag_name, cond_name, family_name, lock_name, sign_name, cast_name, target_name, hex, spaced, dotted, lined, op_text, end_text}
use Rattle.std.specs.List.{flat_map}
use Rattle.std.proofs.lemmas.List.{append-nil}
use Rattle.ir_text.specs.Printing.{op_onto, end_onto}

behind_2 : (s a b : List ℕ) → ((s ++ a) ++ b) ≡ s ++ (a ++ b)
behind_2 s a b = simp append_assoc

behind_3 : (s a b c : List ℕ) → (((s ++ a) ++ b) ++ c) ≡ s ++ ((a ++ b) ++ c)
behind_3 s a b c = simp append_assoc

behind_4 : (s a b c d : List ℕ) → ((((s ++ a) ++ b) ++ c) ++ d) ≡ s ++ (((a ++ b) ++ c) ++ d)
behind_4 s a b c d = simp append_assoc

behind_5 : (s a b c d e : List ℕ) → (((((s ++ a) ++ b) ++ c) ++ d) ++ e) ≡ s ++ ((((a ++ b) ++ c) ++ d) ++ e)
behind_5 s a b c d e = simp append_assoc

behind_6 : (s a b c d e f : List ℕ) → ((((((s ++ a) ++ b) ++ c) ++ d) ++ e) ++ f) ≡ s ++ (((((a ++ b) ++ c) ++ d) ++ e) ++ f)
behind_6 s a b c d e f = simp append_assoc

behind_7 : (s a b c d e f g : List ℕ) → (((((((s ++ a) ++ b) ++ c) ++ d) ++ e) ++ f) ++ g) ≡ s ++ ((((((a ++ b) ++ c) ++ d) ++ e) ++ f) ++ g)
behind_7 s a b c d e f g = simp append_assoc

pub op_behind : (s : List ℕ) (o : Op) → op_onto s o ≡ s ++ op_text o
unfolding op_text
op_behind s (Get w t r) = behind_4 s (codes "get.") (spaced (width_name w)) (spaced (temp_name t)) (lined (register_name r))
op_behind s (GetHigh t r) = behind_3 s (codes "get.h ") (spaced (temp_name t)) (lined (register_name r))
op_behind s (Put w r t) = behind_4 s (codes "put.") (spaced (width_name w)) (spaced (register_name r)) (lined (temp_name t))
op_behind s (PutHigh r t) = behind_3 s (codes "put.h ") (spaced (register_name r)) (lined (temp_name t))
op_behind s (Const w t n) = behind_4 s (codes "const.") (spaced (width_name w)) (spaced (temp_name t)) (lined (hex n))
op_behind s (Ea t base index scale n) = behind_6 s (codes "ea ") (spaced (temp_name t)) (spaced (base_name base)) (spaced (base_name index)) (spaced (decimal scale)) (lined (hex n))
op_behind s (Calc family w t a (Some b)) = behind_6 s (codes "calc.") (dotted (family_name family)) (spaced (width_name w)) (spaced (temp_name t)) (spaced (temp_name a)) (lined (temp_name b))
op_behind s (Calc family w t a None) = behind_5 s (codes "calc.") (dotted (family_name family)) (spaced (width_name w)) (spaced (temp_name t)) (lined (temp_name a))
op_behind s (FlagOf flag family w a (Some b)) = behind_6 s (codes "flag ") (spaced (flag_name flag)) (dotted (family_name family)) (spaced (width_name w)) (spaced (temp_name a)) (lined (temp_name b))
op_behind s (FlagOf flag family w a None) = behind_5 s (codes "flag ") (spaced (flag_name flag)) (dotted (family_name family)) (spaced (width_name w)) (lined (temp_name a))
op_behind s (FlagZero flag) = behind_3 s (codes "flag ") (spaced (flag_name flag)) (codes "zero\n")
op_behind s (CondOp t c) = behind_3 s (codes "cond ") (spaced (temp_name t)) (lined (cond_name c))
op_behind s (Pick w t c a b) = behind_6 s (codes "pick.") (spaced (width_name w)) (spaced (temp_name t)) (spaced (temp_name c)) (spaced (temp_name a)) (lined (temp_name b))
op_behind s (Zext from w t a) = behind_4 s (codes "zext.") (spaced (cast_name from w)) (spaced (temp_name t)) (lined (temp_name a))
op_behind s (Sext from w t a) = behind_4 s (codes "sext.") (spaced (cast_name from w)) (spaced (temp_name t)) (lined (temp_name a))
op_behind s (Cut from w t a) = behind_4 s (codes "cut.") (spaced (cast_name from w)) (spaced (temp_name t)) (lined (temp_name a))

pub end_behind : (s : List ℕ) (e : PartEnd) → end_onto s e ≡ s ++ end_text e
unfolding end_text
end_behind s Tick = refl
end_behind s (Load w t a) = behind_4 s (codes "load.") (spaced (width_name w)) (spaced (temp_name t)) (lined (temp_name a))
end_behind s (Store w a t) = behind_4 s (codes "store.") (spaced (width_name w)) (spaced (temp_name a)) (lined (temp_name t))
end_behind s (StoreGo a t to) = behind_4 s (codes "storego.64 ") (spaced (temp_name a)) (spaced (temp_name t)) (lined (target_name to))
end_behind s Fence = refl
end_behind s (Locked kind w t a v) = behind_6 s (codes "locked.") (dotted (lock_name kind)) (spaced (width_name w)) (spaced (temp_name t)) (spaced (temp_name a)) (lined (temp_name v))
end_behind s (LockedCmpxchg w t a c v) = behind_7 s (codes "locked.") (codes "cmpxchg.") (spaced (width_name w)) (spaced (temp_name t)) (spaced (temp_name a)) (spaced (temp_name c)) (lined (temp_name v))
end_behind s (Divide signed w t) = behind_4 s (codes "divide.") (dotted (sign_name signed)) (spaced (width_name w)) (lined (temp_name t))
end_behind s (Go to) = behind_2 s (codes "go ") (lined (target_name to))
end_behind s (Branch c taken other) = behind_4 s (codes "branch ") (spaced (cond_name c)) (spaced (hex taken)) (lined (hex other))
end_behind s BadCode = refl

-- one more item's text
take_text : {A : Type 0} (f : A → List ℕ) (xs : List A) (i : ℕ) (x : A) → i < length xs → x ≡ get_or xs i x → flat_map f (take (suc i) xs) ≡ flat_map f (take i xs) ++ f x
take_text f [] i x h e = absurd (omega arith)
take_text f (y ∷ ys) zero x h e = append-nil (f y) ∙ ap f (sym e)
take_text f (y ∷ ys) (suc i) x h e = ap (λ (z : List ℕ). f y ++ z) (take_text f ys i x (omega arith) e) ∙ sym (append_assoc (f y) (flat_map f (take i ys)) (f x))

pub more_text : {A : Type 0} (f : A → List ℕ) (xs : List A) (i : ℕ) (x : A) (base now new : List ℕ) → i < length xs → x ≡ get_or xs i x → now ≡ base ++ flat_map f (take i xs) → new ≡ now ++ f x
    → new ≡ base ++ flat_map f (take (i + 1) xs)
more_text f xs i x base now new h e en em =
    em ∙ ap (λ (z : List ℕ). z ++ f x) en ∙ append_assoc base (flat_map f (take i xs)) (f x)
    ∙ ap (λ (z : List ℕ). base ++ z) (sym (take_text f xs i x h e) ∙ ap (λ (k : ℕ). flat_map f (take k xs)) (sym (add-one i)))

pub item_has : {A : Type 0} (P : A → Type 0) (xs : List A) (i : ℕ) (x : A) → All P xs → i < length xs → x ≡ get_or xs i x → P x
item_has P xs i x all h e = subst P (sym e) (all i x h)
