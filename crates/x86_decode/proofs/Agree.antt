-- The code's choice of a row is the table's, computed at every key.
use Rattle.std.proofs.Common.{◌≡◌, ℕ, zero, suc, ◌+◌, ◌≤◌, ◌<◌, Bool, true, false, ◌&&◌, List, [], ◌∷◌, drop, inl, inr, Option, refl, ap, arith, ◌∙◌}
use Rattle.std.specs.Prelude.{nat_lt, nat_le, slice_get, if◌then◌else◌}
use Rattle.std.proofs.lemmas.Bool.{cases_Bool, false_from_ne_true, ltb-true}
use Rattle.std.proofs.lemmas.Option.{same_Some}
use Rattle.x86_forms.specs.declared.rows.Mark.{Mark}
use Rattle.x86_forms.specs.declared.rows.Mark.TheVariants.{Plain, Lock, Rep}
use Rattle.x86_forms.specs.declared.rows.Row.{Row}
use Rattle.x86_forms.specs.Table.{Line, table}
use Rattle.x86_forms.specs.Spelling.{covers}
use Rattle.x86_forms.specs.Reading.{find_line, find_row, row_of}
use Rattle.x86_forms.proofs.TableLemmas.{covers_parts}
use Rattle.x86_decode.specs.Dispatch.{chosen, alu_op, alu_row, narrow_shift, wide_shift, any_shift, shift, from_40, from_80, from_90, from_c0, group_f6, group_f7, group_fe, group_ff, from_e0, plain, escaped, can_lock, lock_row, lock_alu, lock_one, locked, locked_escaped, repeated, repeated_escaped}

-- ---- values of a function below a number

abbrev pub values : {A : Type 0} → (ℕ → A) → ℕ → List A
values f zero = []
values f (suc n) = f n ∷ values f n

head_is : {A : Type 0} (x y : A) (xs ys : List A) → (x ∷ xs) ≡ (y ∷ ys) → x ≡ y
head_is x y xs ys e = same_Some x y (ap (λ l. slice_get l 0) e)

pub values_at : {A : Type 0} (f g : ℕ → A) (n k : ℕ) → values f n ≡ values g n → k < n → f k ≡ g k
values_at f g zero k e lt = absurd (omega (arith, lt))
values_at f g (suc n) k e lt =
    elim (cases_Bool (nat_lt k n)) [
      | inl t ↦ values_at f g n k (ap (λ l. drop 1 l) e) (ltb-true k n t)
      | inr o ↦ (let same : k ≡ n = grind (arith, lt, o) in rw same (head_is (f n) (g n) (values f n) (values g n) e))
    ]

-- ---- the lines of one opcode

abbrev pub holds : ℕ → Line → Bool
holds op l = nat_le l.first op && nat_lt op (l.first + l.count)

abbrev pub near : ℕ → List Line → List Line
near op [] = []
near op (l ∷ ls) = if holds op l then l ∷ near op ls else near op ls

find_near : (mark : Mark) (b : ℕ) (escape : Bool) (op reg : ℕ) (ls : List Line) → find_line (near op ls) mark b escape op reg ≡ find_line ls mark b escape op reg
unfolding find_line
find_near mark b escape op reg [] = refl
find_near mark b escape op reg (l ∷ ls) =
    elim (cases_Bool (holds op l)) [
      | inl t ↦ rw (t, find_near mark b escape op reg ls) refl
      | inr f ↦ (let no : covers mark b escape op reg l ≡ false = false_from_ne_true _ (λ c. outside (covers_parts mark b escape op reg l c).from (covers_parts mark b escape op reg l c).below f) in
          rw (f, no) (find_near mark b escape op reg ls))
    ]
  where
    outside : l.first ≤ op → op < l.first + l.count → holds op l ≡ false → ⊥
    outside x y f = grind (arith, x, y, f)

-- ---- all keys

abbrev pub keys : {A : Type 0} → (Mark → ℕ → Bool → A) → List A
keys f = f Plain 0 false ∷ f Plain 0 true ∷ f Plain 1 false ∷ f Plain 1 true ∷ f Lock 0 false ∷ f Lock 0 true ∷ f Lock 1 false ∷ f Lock 1 true ∷ f Rep 0 false ∷ f Rep 0 true ∷ f Rep 1 false ∷ f Rep 1 true ∷ []

abbrev pub by_lines : ℕ → List Line → ℕ → List (Option Row)
by_lines op ls reg = keys (λ m b e. row_of (find_line ls m b e op reg))

abbrev pub by_table : ℕ → List (List (Option Row))
by_table op = values (by_lines op (near op table)) 8

abbrev pub by_code : ℕ → List (List (Option Row))
by_code op = values (λ reg. keys (λ m b e. chosen m b e op reg)) 8

agree : values by_code 256 ≡ values by_table 256
unfolding table covers find_line chosen alu_op alu_row narrow_shift wide_shift any_shift shift from_40 from_80 from_90 from_c0 group_f6 group_f7 group_fe group_ff from_e0 plain escaped can_lock lock_row lock_alu lock_one locked locked_escaped repeated repeated_escaped
agree = refl

at_key : (op reg : ℕ) → op < 256 → reg < 8 → keys (λ m b e. chosen m b e op reg) ≡ by_lines op (near op table) reg
at_key op reg o r = values_at (λ reg. keys (λ m b e. chosen m b e op reg)) (by_lines op (near op table)) 8 reg (values_at by_code by_table 256 op agree o) r

nth : (f g : Mark → ℕ → Bool → Option Row) (mark : Mark) (b : ℕ) (escape : Bool) → b < 2 → keys f ≡ keys g → f mark b escape ≡ g mark b escape
nth f g mark zero escape lt e = zeros mark escape
  where
    at : (k : ℕ) → slice_get (keys f) k ≡ slice_get (keys g) k
    at k = ap (λ l. slice_get l k) e

    zeros : (mark : Mark) (escape : Bool) → f mark 0 escape ≡ g mark 0 escape
    zeros Plain false = same_Some _ _ (at 0)
    zeros Plain true = same_Some _ _ (at 1)
    zeros Lock false = same_Some _ _ (at 4)
    zeros Lock true = same_Some _ _ (at 5)
    zeros Rep false = same_Some _ _ (at 8)
    zeros Rep true = same_Some _ _ (at 9)
nth f g mark (suc zero) escape lt e = ones mark escape
  where
    at : (k : ℕ) → slice_get (keys f) k ≡ slice_get (keys g) k
    at k = ap (λ l. slice_get l k) e

    ones : (mark : Mark) (escape : Bool) → f mark 1 escape ≡ g mark 1 escape
    ones Plain false = same_Some _ _ (at 2)
    ones Plain true = same_Some _ _ (at 3)
    ones Lock false = same_Some _ _ (at 6)
    ones Lock true = same_Some _ _ (at 7)
    ones Rep false = same_Some _ _ (at 10)
    ones Rep true = same_Some _ _ (at 11)
nth f g mark (suc (suc n)) escape lt e = absurd (omega (arith, lt))

-- What the code chooses is what a search through the table finds.
pub chosen_is : (mark : Mark) (b : ℕ) (escape : Bool) (op reg : ℕ) → b < 2 → op < 256 → reg < 8 → chosen mark b escape op reg ≡ find_row mark b escape op reg
unfolding find_row
chosen_is mark b escape op reg lb lo lr =
    nth (λ m b e. chosen m b e op reg) (λ m b e. row_of (find_line (near op table) m b e op reg)) mark b escape lb (at_key op reg lo lr) ∙ ap row_of (find_near mark b escape op reg table)
