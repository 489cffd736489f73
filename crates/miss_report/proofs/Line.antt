-- Lines: what is read is the line of the miss, and the line of a miss is read.
use Rattle.std.proofs.Common.{◌≡◌, ℕ, ◌<◌, ◌≤◌, ◌^◌, Bool, false, cond, ltb, List, [], ◌∷◌, ◌++◌, length, drop, codes, Option, Some, None, refl, sym, ap, subst, ◌∙◌, append_assoc, arith}
use Rattle.std.specs.Prelude.{nat_eq}
use Rattle.std.specs.Fmt.{decimal, digits}
use Rattle.std.specs.List.{starts_with}
use Rattle.std.proofs.lemmas.Bool.{ltb-true, lt-ltb}
use Rattle.std.proofs.lemmas.Bool.Decides.{Decides-eqb}
use Rattle.std.proofs.lemmas.List.{drop_at}
use Rattle.std.proofs.lemmas.Option.{none-some, some_pair_parts, cond_some}
use Rattle.std.proofs.lemmas.Slice.Eq.{starts_is}
use Rattle.miss_report.specs.declared.miss.Miss.{Miss}
use Rattle.miss_report.specs.declared.miss.TheConstants.{THREADS}
use Rattle.miss_report.specs.Miss.{HasLine, line}
use Rattle.miss_report.specs.Reading.{◌>>=◌, after, digit_of, number_at, miss_at}
use Rattle.miss_report.proofs.Numeral.{number_again, number_takes, more_digits_end}

-- the value of a step that gave one
bind_some : {A B : Type 0} (o : Option A) (f : A → Option B) (y : B) → (o >>= f) ≡ Some y → (x : A) × (o ≡ Some x) × (f x ≡ Some y)
bind_some (Some x) f y e = (x, refl, e)
bind_some None f y e = absurd (none-some y e)

after_takes : (literal bytes rest : List ℕ) → after literal bytes ≡ Some rest → bytes ≡ literal ++ rest
unfolding after
after_takes literal bytes rest e =
    let found = cond_some (starts_with nat_eq bytes literal) (drop (length literal) bytes) rest e in
    let front = (starts_is Decides-eqb bytes literal (starts_with nat_eq bytes literal) refl).0 found.0 in
    front ∙ ap (λ (t : List ℕ). literal ++ t) found.1

after_again : (literal rest : List ℕ) → after literal (literal ++ rest) ≡ Some rest
unfolding after
after_again literal rest =
    let test = (starts_is Decides-eqb (literal ++ rest) literal (starts_with nat_eq (literal ++ rest) literal) refl).1 rest refl in
    ap (λ (b : Bool). cond b (Some (drop (length literal) (literal ++ rest))) None) test ∙ ap (λ (t : List ℕ). Some t) (drop_at literal rest (length literal) refl)

-- a line and what follows it, in the order in which they are read
spelled : ℕ → ℕ → ℕ → List ℕ → List ℕ
spelled thread source target tail =
    codes "miss thread " ++ (decimal thread ++ (codes " from 0x" ++ (digits 16 false source ++ (codes " to 0x" ++ (digits 16 false target ++ (codes "\n" ++ tail))))))

line-append : (m : Miss) (tail : List ℕ) → line m ++ tail ≡ spelled m.thread m.source m.target tail
unfolding spelled
line-append m tail = simp append_assoc

-- a number, and behind it a byte that is no digit of the base
number_before : (base n c : ℕ) (cs : List ℕ) → 2 ≤ base → base ≤ 16 → n < 2 ^ 64 → digit_of base c ≡ None → number_at base (digits base false n ++ (c ∷ cs)) ≡ Some (n, c ∷ cs)
number_before base n c cs low high fits e = number_again base n (c ∷ cs) low high fits ∙ more_digits_end base n c cs e

spelled_again : (thread source target : ℕ) (tail : List ℕ) → thread < THREADS → source < 2 ^ 64 → target < 2 ^ 64 → miss_at (spelled thread source target tail) ≡ Some (record { thread = thread; source = source; target = target }, tail)
unfolding miss_at spelled digit_of
spelled_again thread source target tail small fits fits' =
    let e = codes "\n" ++ tail in
    let d = digits 16 false target ++ e in
    let c = codes " to 0x" ++ d in
    let b = digits 16 false source ++ c in
    let a = codes " from 0x" ++ b in
    let first = number_before 10 thread 32 (drop 1 a) (omega arith) (omega arith) (omega arith) refl in
    let second = number_before 16 source 32 (drop 1 c) (omega arith) (omega arith) fits refl in
    let third = number_before 16 target 10 tail (omega arith) (omega arith) fits' refl in
    ap (λ o. o >>= λ a. number_at 10 a >>= λ thread. after (codes " from 0x") thread.1 >>= λ b. number_at 16 b >>= λ source. after (codes " to 0x") source.1 >>= λ c. number_at 16 c >>= λ target. after (10 ∷ []) target.1 >>= λ rest.
    cond (ltb thread.0 THREADS) (Some (record { thread = thread.0; source = source.0; target = target.0 }, rest)) None) (after_again (codes "miss thread ") (decimal thread ++ a))
    ∙ rw (first, after_again (codes " from 0x") b, second, after_again (codes " to 0x") d, third, after_again (codes "\n") tail, lt-ltb thread THREADS small) refl

-- the line of a miss is read, whatever follows it
pub miss_again : (m : Miss) (tail : List ℕ) → HasLine m → miss_at (line m ++ tail) ≡ Some (m, tail)
miss_again m tail h = ap miss_at (line-append m tail) ∙ spelled_again m.thread m.source m.target tail h.thread h.source h.target

-- what the steps took, together
together : (bytes a b c rest : List ℕ) (x y z : ℕ × List ℕ) → bytes ≡ codes "miss thread " ++ a → a ≡ decimal x.0 ++ x.1 → x.1 ≡ codes " from 0x" ++ b → b ≡ digits 16 false y.0 ++ y.1
    → y.1 ≡ codes " to 0x" ++ c → c ≡ digits 16 false z.0 ++ z.1 → z.1 ≡ codes "\n" ++ rest → bytes ≡ spelled x.0 y.0 z.0 rest
unfolding spelled
together bytes a b c rest x y z ea ex eb ey ec ez er =
    ea ∙ ap (λ (t : List ℕ). codes "miss thread " ++ t) (ex ∙ ap (λ (t : List ℕ). decimal x.0 ++ t) (eb ∙ ap (λ (t : List ℕ). codes " from 0x" ++ t)
    (ey ∙ ap (λ (t : List ℕ). digits 16 false y.0 ++ t) (ec ∙ ap (λ (t : List ℕ). codes " to 0x" ++ t) (ez ∙ ap (λ (t : List ℕ). digits 16 false z.0 ++ t) er)))))

ten : (2 ≤ 10) × (10 ≤ 16)
ten = (omega arith, omega arith)

sixteen : (2 ≤ 16) × (16 ≤ 16)
sixteen = (omega arith, omega arith)

-- what is read is the line of the miss
pub miss_takes : (bytes : List ℕ) (m : Miss) (rest : List ℕ) → miss_at bytes ≡ Some (m, rest) → HasLine m × (bytes ≡ line m ++ rest)
unfolding miss_at
miss_takes bytes m rest e =
    let a = bind_some _ _ _ e in
    let x = bind_some _ _ _ a.2 in
    let b = bind_some _ _ _ x.2 in
    let y = bind_some _ _ _ b.2 in
    let c = bind_some _ _ _ y.2 in
    let z = bind_some _ _ _ c.2 in
    let r = bind_some _ _ _ z.2 in
    let made : Miss = record { thread = x.0.0; source = y.0.0; target = z.0.0 } in
    let last = cond_some (ltb x.0.0 THREADS) (made, r.0) (m, rest) r.2 in
    let first = number_takes 10 a.0 x.0.0 x.0.1 ten.0 ten.1 x.1 in
    let second = number_takes 16 b.0 y.0.0 y.0.1 sixteen.0 sixteen.1 y.1 in
    let third = number_takes 16 c.0 z.0.0 z.0.1 sixteen.0 sixteen.1 z.1 in
    let small : x.0.0 < THREADS = ltb-true _ _ last.0 in
    let whole : bytes ≡ line made ++ r.0 =
    together bytes a.0 b.0 c.0 r.0 x.0 y.0 z.0 (after_takes _ bytes a.0 a.1) first.0 (after_takes _ _ _ b.1) second.0 (after_takes _ _ _ c.1) third.0 (after_takes _ _ _ r.1)
    ∙ sym (line-append made r.0) in
    subst (λ (p : Miss × List ℕ). HasLine p.0 × (bytes ≡ line p.0 ++ p.1)) last.1 (record { thread = small; source = second.1; target = third.1 }, whole)

-- no line begins another, and no two misses have one line
pub same_line : (m n : Miss) (x y : List ℕ) → HasLine m → HasLine n → line m ++ x ≡ line n ++ y → (m ≡ n) × (x ≡ y)
same_line m n x y hm hn e = some_pair_parts m n x y (sym (miss_again m x hm) ∙ ap miss_at e ∙ miss_again n y hn)
