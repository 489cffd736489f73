-- Reports: a text is the report of one list at most, and has one first bad line at most.
use Rattle.std.proofs.Common.{◌≡◌, ◌≢◌, ℕ, suc, ◌+◌, ◌<◌, List, [], ◌∷◌, ◌++◌, length, All, refl, sym, ap, ◌∙◌, append_assoc, arith, length-append}
use Rattle.std.specs.List.{AllByRecursion}
use Rattle.std.proofs.lemmas.List.{append-nil}
use Rattle.std.proofs.lemmas.List.Elements.{recursion_from_All}
use Rattle.std.proofs.lemmas.List.Concat.{flat_map-append}
use Rattle.miss_report.specs.declared.miss.Miss.{Miss}
use Rattle.miss_report.specs.Miss.{HasLine, line}
use Rattle.miss_report.specs.Report.{IsFirstBadLine, report}
use Rattle.miss_report.proofs.Line.{same_line}

-- no line of a miss stands in front
abbrev pub BeginsNone : List ℕ → Type 0
BeginsNone rest = (m : Miss) (tail : List ℕ) → HasLine m → rest ≢ line m ++ tail

-- one more line
pub more_lines : (misses : List Miss) (m : Miss) (rest tail : List ℕ) → rest ≡ line m ++ tail → report misses ++ rest ≡ report (misses ++ m ∷ []) ++ tail
more_lines misses m rest tail e =
    ap (λ (t : List ℕ). report misses ++ t) e ∙ sym (append_assoc (report misses) (line m) tail)
    ∙ ap (λ (t : List ℕ). t ++ tail) (ap (λ (t : List ℕ). report misses ++ t) (sym (append-nil (line m))) ∙ sym (flat_map-append line misses (m ∷ [])))

-- a line isn't empty
pub length-line : (m : Miss) (rest tail : List ℕ) → rest ≡ line m ++ tail → length tail < length rest
length-line m rest tail e = omega (arith, ap length e, length-append (line m) tail)

-- what follows the first lines of a report is the report of the other misses
rest_of : (before misses : List Miss) (rest : List ℕ) → AllByRecursion HasLine before → AllByRecursion HasLine misses → report before ++ rest ≡ report misses
    → (more : List Miss) × AllByRecursion HasLine more × (misses ≡ before ++ more) × (rest ≡ report more)
rest_of [] misses rest hb hm e = (misses, hm, refl, e)
rest_of (b ∷ bs) [] rest hb hm e = absurd cc
rest_of (b ∷ bs) (m ∷ ms) rest hb hm e =
    let same = same_line b m (report bs ++ rest) (report ms) hb.0 hm.0 (sym (append_assoc (line b) (report bs) rest) ∙ e) in
    let r = rest_of bs ms rest hb.1 hm.1 same.1 in
    (r.0, r.1, (λ i. sym same.0 i ∷ r.2 i), r.3)

none_more : (more : List Miss) (rest : List ℕ) → AllByRecursion HasLine more → rest ≡ report more → rest ≢ [] → BeginsNone rest → ⊥
none_more [] rest h e some none = some e
none_more (m ∷ ms) rest h e some none = none m (report ms) h.0 e

-- a text with a bad line is no report
pub never_report : (before misses : List Miss) (rest : List ℕ) → All HasLine before → All HasLine misses → report before ++ rest ≡ report misses → rest ≢ [] → BeginsNone rest → ⊥
never_report before misses rest hb hm e some none =
    let r = rest_of before misses rest (recursion_from_All HasLine before hb) (recursion_from_All HasLine misses hm) e in
    none_more r.0 rest r.1 r.3 some none

same_by_recursion : (a b : List Miss) → AllByRecursion HasLine a → AllByRecursion HasLine b → report a ≡ report b → a ≡ b
same_by_recursion [] [] ha hb e = refl
same_by_recursion [] (m ∷ ms) ha hb e = absurd cc
same_by_recursion (m ∷ ms) [] ha hb e = absurd cc
same_by_recursion (m ∷ ms) (n ∷ ns) ha hb e =
    let same = same_line m n (report ms) (report ns) ha.0 hb.0 e in
    λ i. same.0 i ∷ same_by_recursion ms ns ha.1 hb.1 same.1 i

-- two lists with one report are equal
pub same_report : (a b : List Miss) → All HasLine a → All HasLine b → report a ≡ report b → a ≡ b
same_report a b ha hb e = same_by_recursion a b (recursion_from_All HasLine a ha) (recursion_from_All HasLine b hb) e

same_place : (a b : List Miss) (x y : List ℕ) → AllByRecursion HasLine a → AllByRecursion HasLine b → BeginsNone x → BeginsNone y → report a ++ x ≡ report b ++ y → length a ≡ length b
same_place [] [] x y ha hb nx ny e = refl
same_place [] (m ∷ ms) x y ha hb nx ny e = absurd (nx m (report ms ++ y) hb.0 (e ∙ append_assoc (line m) (report ms) y))
same_place (m ∷ ms) [] x y ha hb nx ny e = absurd (ny m (report ms ++ x) ha.0 (sym e ∙ append_assoc (line m) (report ms) x))
same_place (m ∷ ms) (n ∷ ns) x y ha hb nx ny e =
    let same = same_line m n (report ms ++ x) (report ns ++ y) ha.0 hb.0 (sym (append_assoc (line m) (report ms) x) ∙ e ∙ append_assoc (line n) (report ns) y) in
    ap suc (same_place ms ns x y ha.1 hb.1 nx ny same.1)

-- a text has one first bad line
pub one_bad_line : (before : List Miss) (rest : List ℕ) (number : ℕ) → All HasLine before → BeginsNone rest → IsFirstBadLine (report before ++ rest) number → length before + 1 ≡ number
one_bad_line before rest number hb none bad =
    let same = same_place before bad.before rest bad.rest (recursion_from_All HasLine before hb) (recursion_from_All HasLine bad.before bad.lines) none bad.bad bad.parts in
    omega (arith, same, bad.place)
