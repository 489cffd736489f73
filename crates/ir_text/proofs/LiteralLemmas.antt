-- A literal in front: it is read, and where it isn't there, the first byte that differs is found.
use Rattle.std.proofs.Common.{◌≡◌, ◌≢◌, ℕ, zero, suc, ◌+◌, ◌<◌, ◌≤◌, Bool, true, false, cond, eqb, List, [], ◌∷◌, ◌++◌, length, drop, get_or, add-one, Result, Ok, Err, refl, sym, ap, ◌∙◌, arith, length-append}
use Rattle.std.proofs.lemmas.Bool.{eqb-true, eq-eqb, ne_eqb}
use Rattle.ir_text.specs.Reading.{◌>>=◌, literal}
use Rattle.ir_text.proofs.Exact.{same_ok, same_err, ok_err, err_ok}

pub literal_again : (word rest : List ℕ) → literal word (word ++ rest) ≡ Ok rest
unfolding literal
literal_again [] rest = refl
literal_again (c ∷ cs) rest = ap (λ (b : Bool). cond b (literal cs (cs ++ rest)) (Err (length (c ∷ cs ++ rest)))) (eq-eqb c c refl) ∙ literal_again cs rest

takes_by : (c d : ℕ) (cs ds rest : List ℕ) (b : Bool) → eqb d c ≡ b → cond b (literal cs ds) (Err (length (d ∷ ds))) ≡ Ok rest → (literal cs ds ≡ Ok rest → cs ++ rest ≡ ds) → c ∷ cs ++ rest ≡ d ∷ ds
takes_by c d cs ds rest true s e r = let first : c ≡ d = sym (eqb-true d c s) in let others = r e in λ i. first i ∷ others i
takes_by c d cs ds rest false s e r = err_ok rest (length (d ∷ ds)) e

pub literal_takes : (word s rest : List ℕ) → literal word s ≡ Ok rest → word ++ rest ≡ s
unfolding literal
literal_takes [] s rest e = sym (same_ok s rest e)
literal_takes (c ∷ cs) [] rest e = err_ok rest 0 e
literal_takes (c ∷ cs) (d ∷ ds) rest e = takes_by c d cs ds rest (eqb d c) refl e (literal_takes cs ds rest)

-- where a literal isn't there
pub record Stopped (word s : List ℕ) (left : ℕ) : Type 0 where
  pub good : List ℕ
  pub rest : List ℕ
  pub parts : good ++ rest ≡ s
  pub count : left ≡ length rest
  pub tail : List ℕ
  pub whole : good ++ tail ≡ word

begins_by : (c d : ℕ) (cs ds : List ℕ) (left : ℕ) (b : Bool) → eqb d c ≡ b → cond b (literal cs ds) (Err (length (d ∷ ds))) ≡ Err left → (literal cs ds ≡ Err left → Stopped cs ds left) → Stopped (c ∷ cs) (d ∷ ds) left
begins_by c d cs ds left true s e r =
    let x = r e in
    let same : c ≡ d = sym (eqb-true d c s) in
    record { good = c ∷ x.good; rest = x.rest; parts = λ i. same i ∷ x.parts i; count = x.count; tail = x.tail; whole = ap (λ (t : List ℕ). c ∷ t) x.whole }
begins_by c d cs ds left false s e r = record { good = []; rest = d ∷ ds; parts = refl; count = sym (same_err (length (d ∷ ds)) left e); tail = c ∷ cs; whole = refl }

pub literal_begins : (word s : List ℕ) (left : ℕ) → literal word s ≡ Err left → Stopped word s left
unfolding literal
literal_begins [] s left e = ok_err s left e
literal_begins (c ∷ cs) [] left e = record { good = []; rest = []; parts = refl; count = sym (same_err 0 left e); tail = c ∷ cs; whole = refl }
literal_begins (c ∷ cs) (d ∷ ds) left e = begins_by c d cs ds left (eqb d c) refl e (literal_begins cs ds left)

pub literal_within : (word s : List ℕ) (left : ℕ) → literal word s ≡ Err left → left ≤ length s
literal_within word s left e = let x = literal_begins word s left e in omega (arith, x.count, ap length x.parts, length-append x.good x.rest)

-- the place of a stop, when something else follows
abbrev pub Stops : List ℕ → List ℕ → List ℕ → List ℕ → ℕ → Type 0
Stops word s cs ds left = (m : ℕ) × (literal word s ≡ Err m) × (m + length cs ≡ left + length ds)

local_by : (c f : ℕ) (word front cs ds : List ℕ) (left : ℕ) (b : Bool) → eqb f c ≡ b → cond b (literal word (front ++ cs)) (Err (length (f ∷ front ++ cs))) ≡ Err left
    → (literal word (front ++ cs) ≡ Err left → Stops word (front ++ ds) cs ds left)
    → (m : ℕ) × (cond b (literal word (front ++ ds)) (Err (length (f ∷ front ++ ds))) ≡ Err m) × (m + length cs ≡ left + length ds)
local_by c f word front cs ds left true s e r = r e
local_by c f word front cs ds left false s e r =
    let same = same_err (length (f ∷ front ++ cs)) left e in
    (length (f ∷ front ++ ds), refl, omega (arith, same, length-append front cs, length-append front ds))

pub literal_local : (word front cs ds : List ℕ) (left : ℕ) → literal word (front ++ cs) ≡ Err left → length cs < left → Stops word (front ++ ds) cs ds left
unfolding literal
literal_local [] front cs ds left e h = ok_err (front ++ cs) left e
literal_local (c ∷ word) [] cs ds left e h = absurd (omega (arith, literal_within (c ∷ word) cs left e))
literal_local (c ∷ word) (f ∷ front) cs ds left e h = local_by c f word front cs ds left (eqb f c) refl e (λ e. literal_local word front cs ds left e h)

-- ---- a literal in two parts, and one that is looked for byte by byte

append_by : (d c : ℕ) (cs v ds : List ℕ) (b : Bool) → literal (cs ++ v) ds ≡ (literal cs ds >>= λ t. literal v t)
    → cond b (literal (cs ++ v) ds) (Err (length (d ∷ ds))) ≡ (cond b (literal cs ds) (Err (length (d ∷ ds))) >>= λ t. literal v t)
append_by d c cs v ds true r = r
append_by d c cs v ds false r = refl

pub literal-append : (u v s : List ℕ) → literal (u ++ v) s ≡ (literal u s >>= λ t. literal v t)
unfolding literal
literal-append [] v s = refl
literal-append (c ∷ cs) v [] = refl
literal-append (c ∷ cs) v (d ∷ ds) = append_by d c cs v ds (eqb d c) (literal-append cs v ds)

-- an error of a part, and what follows a part
pub literal_then : (u v s : List ℕ) (r : Result (List ℕ) ℕ) → literal u s ≡ r → literal (u ++ v) s ≡ (r >>= λ t. literal v t)
literal_then u v s r e = literal-append u v s ∙ ap (λ r. r >>= λ t. literal v t) e

pub literal_none : (word : List ℕ) (i : ℕ) → i < length word → literal (drop i word) [] ≡ Err 0
unfolding literal
literal_none [] i h = absurd (omega arith)
literal_none (c ∷ cs) zero h = refl
literal_none (c ∷ cs) (suc i) h = literal_none cs i (omega arith)

pub literal_at : (word : List ℕ) (i d : ℕ) (ds : List ℕ) → i < length word → literal (drop i word) (d ∷ ds) ≡ cond (eqb d (get_or word i 0)) (literal (drop (suc i) word) ds) (Err (length (d ∷ ds)))
unfolding literal
literal_at [] i d ds h = absurd (omega arith)
literal_at (c ∷ cs) zero d ds h = refl
literal_at (c ∷ cs) (suc i) d ds h = literal_at cs i d ds (omega arith)

pub literal_all : (word s : List ℕ) (i : ℕ) → length word ≤ i → literal (drop i word) s ≡ Ok s
unfolding literal
literal_all [] s zero h = refl
literal_all [] s (suc i) h = refl
literal_all (c ∷ cs) s zero h = absurd (omega arith)
literal_all (c ∷ cs) s (suc i) h = literal_all cs s i (omega arith)

pub literal_same : (word : List ℕ) (i d e : ℕ) (ds : List ℕ) → i < length word → e ≡ get_or word i 0 → d ≡ e → literal (drop (i + 1) word) ds ≡ literal (drop i word) (d ∷ ds)
literal_same word i d e ds h known same =
    ap (λ (k : ℕ). literal (drop k word) ds) (add-one i)
    ∙ sym (literal_at word i d ds h ∙ ap (λ (b : Bool). cond b (literal (drop (suc i) word) ds) (Err (length (d ∷ ds)))) (eq-eqb d (get_or word i 0) (same ∙ known)))

pub literal_other : (word : List ℕ) (i d e : ℕ) (ds : List ℕ) → i < length word → e ≡ get_or word i 0 → d ≢ e → literal (drop i word) (d ∷ ds) ≡ Err (length (d ∷ ds))
literal_other word i d e ds h known differ =
    literal_at word i d ds h ∙ ap (λ (b : Bool). cond b (literal (drop (suc i) word) ds) (Err (length (d ∷ ds)))) (ne_eqb d (get_or word i 0) (λ s. differ (s ∙ sym known)))
