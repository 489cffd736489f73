-- Two orders of the same uses make one plan.
use Rattle.std.proofs.Common.{◌≡◌, ℕ, ◌+◌, ◌≤◌, Bool, true, false, not, cond, ◌&&◌, ◌||◌, List, [], ◌∷◌, ◌++◌, Option, Some, None, option_map, Ok, Err, refl, sym, ap, subst, ◌∙◌, arith}
use Rattle.std.specs.Prelude.{find, if◌then◌else◌, sum_by, IsPermutation}
use Rattle.std.specs.List.{list_all, list_any}
use Rattle.std.specs.Option.{option_or}
use Rattle.std.specs.Str.{bytes_eq}
use Rattle.std.proofs.lemmas.List.Sorted.{IsPermutation-sym, list_any-IsPermutation, sum_by-IsPermutation}
use Rattle.std.proofs.lemmas.List.Sums.{sum_by-cons}
use Rattle.std.proofs.lemmas.Slice.Eq.{bytes_eq-Decides}
use Rattle.clap.specs.Words.{Text}
use Rattle.words_line.specs.declared.plan.Plan.{Plan}
use Rattle.words_line.specs.declared.plan.WordsFault.TheVariants.{Line}
use Rattle.words_line.specs.declared.table.Kind.{Kind}
use Rattle.words_line.specs.Commands.{AreReordered, CommandRow, args_of, command_of, is_refused, plan_of, plan_read, plan_read_by, read_or_unknown, row_of, uses_of}
use Rattle.words_line.specs.Lines.{Parameter, Use, defaults, is_complete, is_given, is_once, is_required, name_of, plan_of_uses, value_of}
use Rattle.words_line.proofs.Found.{value_of-append}
use Rattle.words_line.proofs.Reading.{words_are_read}

same_text : (a b : Text) → bytes_eq a b ≡ true → a ≡ b
same_text a b e = (bytes_eq-Decides a b).0 e

both : (a b : Bool) → (a && b) ≡ true → (a ≡ true) × (b ≡ true)
both true b e = (refl, e)
both false b e = absurd cc

no_true : (b : Bool) → not b ≡ true → b ≡ false
no_true true e = absurd cc
no_true false e = refl

-- ---- how often a name is given

abbrev times : Text → List Use → ℕ
times name uses = sum_by (λ u. cond (bytes_eq u.0 name) 1 0) uses

times-more : (name : Text) (u : Use) (uses : List Use) → times name (u ∷ uses) ≡ cond (bytes_eq u.0 name) 1 0 + times name uses
times-more name u uses = sum_by-cons (λ (w : Use). cond (bytes_eq w.0 name) 1 0) u uses

times-none : (name : Text) (uses : List Use) → is_given uses name ≡ false → times name uses ≡ 0
times-none name [] e = refl
times-none name (u ∷ uses) e = times-more name u uses ∙ by (bytes_eq u.0 name) e (times-none name uses)
  where
    by : (b : Bool) → (b || is_given uses name) ≡ false → (is_given uses name ≡ false → times name uses ≡ 0) → cond b 1 0 + times name uses ≡ 0
    by true e next = absurd cc
    by false e next = let rest = next e in omega (arith, rest)

times-some : (name : Text) (uses : List Use) → is_given uses name ≡ true → 1 ≤ times name uses
times-some name [] e = absurd cc
times-some name (u ∷ uses) e = subst (λ (n : ℕ). 1 ≤ n) (sym (times-more name u uses)) (by (bytes_eq u.0 name) e (times-some name uses))
  where
    by : (b : Bool) → (b || is_given uses name) ≡ true → (is_given uses name ≡ true → 1 ≤ times name uses) → 1 ≤ cond b 1 0 + times name uses
    by true e next = omega arith
    by false e next = let rest = next e in omega (arith, rest)

once-times : (uses : List Use) → is_once uses ≡ true → (name : Text) → times name uses ≤ 1
once-times [] e name = omega arith
once-times (u ∷ uses) e name =
    let each = both (not (is_given uses u.0)) (is_once uses) e in
    subst (λ (n : ℕ). n ≤ 1) (sym (times-more name u uses)) (by (bytes_eq u.0 name) refl (once-times uses each.1 name) (no_true (is_given uses u.0) each.0))
  where
    by : (b : Bool) → bytes_eq u.0 name ≡ b → times name uses ≤ 1 → is_given uses u.0 ≡ false → cond b 1 0 + times name uses ≤ 1
    by true f next none = let zero_times = times-none name uses (ap (is_given uses) (sym (same_text u.0 name f)) ∙ none) in omega (arith, zero_times)
    by false f next none = omega (arith, next)

times-once : (uses : List Use) → ((name : Text) → times name uses ≤ 1) → is_once uses ≡ true
times-once [] most = refl
times-once (u ∷ uses) most = by (is_given uses u.0) refl (subst (λ (n : ℕ). n ≤ 1) (times-more u.0 u uses) (most u.0)) (times-once uses (λ name. let here = most name in let more = times-more name u uses in omega (arith, here, more)))
  where
    by : (b : Bool) → is_given uses u.0 ≡ b → cond (bytes_eq u.0 u.0) 1 0 + times u.0 uses ≤ 1 → is_once uses ≡ true → (not b && is_once uses) ≡ true
    by true e here next =
        let again = times-some u.0 uses e in
        let same : bytes_eq u.0 u.0 ≡ true = (bytes_eq-Decides u.0 u.0).1 refl in
        let twice : 1 + times u.0 uses ≤ 1 = rw same at here in
        absurd (omega (arith, again, twice))
    by false e here next = next

once-moves : (us vs : List Use) → IsPermutation us vs → is_once us ≡ true → is_once vs ≡ true
once-moves us vs moves e =
    times-once vs (λ name. let same = sum_by-IsPermutation (λ (u : Use). cond (bytes_eq u.0 name) 1 0) us vs moves in let most = once-times us e name in omega (arith, same, most))

once-same : (us vs : List Use) → IsPermutation us vs → is_once us ≡ is_once vs
once-same us vs moves = by (is_once us) (is_once vs) refl refl
  where
    by : (a b : Bool) → is_once us ≡ a → is_once vs ≡ b → a ≡ b
    by true b e f = sym (once-moves us vs moves e) ∙ f
    by false true e f = sym e ∙ once-moves vs us (IsPermutation-sym us vs moves) f
    by false false e f = refl

-- ---- the value of a name

abbrev gives : Text → Text → Use → Bool
gives name v u = bytes_eq u.0 name && bytes_eq u.1 v

value-any : (uses : List Use) (name v : Text) → value_of uses name ≡ Some v → list_any (gives name v) uses ≡ true
value-any [] name v e = absurd cc
value-any (u ∷ uses) name v e = by (bytes_eq u.0 name) e (value-any uses name v)
  where
    by : (b : Bool) → option_map (λ (w : Use). w.1) (cond b (Some u) (find (λ w. bytes_eq w.0 name) uses)) ≡ Some v → (value_of uses name ≡ Some v → list_any (gives name v) uses ≡ true)
        → ((b && bytes_eq u.1 v) || list_any (gives name v) uses) ≡ true
    by true e next = let same : u.1 ≡ v = cc in ap (λ (b : Bool). b || list_any (gives name v) uses) ((bytes_eq-Decides u.1 v).1 same)
    by false e next = next e

any-given : (uses : List Use) (name v : Text) → list_any (gives name v) uses ≡ true → is_given uses name ≡ true
any-given [] name v e = absurd cc
any-given (u ∷ uses) name v e = by (bytes_eq u.0 name) e (any-given uses name v)
  where
    by : (b : Bool) → ((b && bytes_eq u.1 v) || list_any (gives name v) uses) ≡ true → (list_any (gives name v) uses ≡ true → is_given uses name ≡ true) → (b || is_given uses name) ≡ true
    by true e next = refl
    by false e next = next e

any-value : (uses : List Use) (name v : Text) → is_once uses ≡ true → list_any (gives name v) uses ≡ true → value_of uses name ≡ Some v
any-value [] name v once e = absurd cc
any-value (u ∷ uses) name v once e =
    let each = both (not (is_given uses u.0)) (is_once uses) once in
    by (bytes_eq u.0 name) (bytes_eq u.1 v) refl refl e (no_true (is_given uses u.0) each.0) (any-value uses name v each.1)
  where
    by : (b c : Bool) → bytes_eq u.0 name ≡ b → bytes_eq u.1 v ≡ c → ((b && c) || list_any (gives name v) uses) ≡ true → is_given uses u.0 ≡ false
        → (list_any (gives name v) uses ≡ true → value_of uses name ≡ Some v)
        → option_map (λ (w : Use). w.1) (cond b (Some u) (find (λ w. bytes_eq w.0 name) uses)) ≡ Some v
    by true true f g e none next = ap (λ (t : Text). Some t) (same_text u.1 v g)
    by true false f g e none next =
        let given : is_given uses u.0 ≡ true = ap (is_given uses) (same_text u.0 name f) ∙ any-given uses name v e in
        let no : false ≡ true = sym none ∙ given in absurd cc
    by false c f g e none next = next e

none-given : (uses : List Use) (name : Text) → value_of uses name ≡ None → is_given uses name ≡ false
none-given [] name e = refl
none-given (u ∷ uses) name e = by (bytes_eq u.0 name) e (none-given uses name)
  where
    by : (b : Bool) → option_map (λ (w : Use). w.1) (cond b (Some u) (find (λ w. bytes_eq w.0 name) uses)) ≡ None → (value_of uses name ≡ None → is_given uses name ≡ false) → (b || is_given uses name) ≡ false
    by true e next = absurd cc
    by false e next = next e

given-none : (uses : List Use) (name : Text) → is_given uses name ≡ false → value_of uses name ≡ None
given-none [] name e = refl
given-none (u ∷ uses) name e = by (bytes_eq u.0 name) e (given-none uses name)
  where
    by : (b : Bool) → (b || is_given uses name) ≡ false → (is_given uses name ≡ false → value_of uses name ≡ None) → option_map (λ (w : Use). w.1) (cond b (Some u) (find (λ w. bytes_eq w.0 name) uses)) ≡ None
    by true e next = absurd cc
    by false e next = next e

value-same : (us vs : List Use) → IsPermutation us vs → is_once us ≡ true → (name : Text) → value_of us name ≡ value_of vs name
value-same us vs moves once name = by (value_of us name) refl
  where
    by : (o : Option Text) → value_of us name ≡ o → o ≡ value_of vs name
    by None e = sym (given-none vs name (sym (list_any-IsPermutation (λ (u : Use). bytes_eq u.0 name) us vs moves) ∙ none-given us name e))
    by (Some v) e =
        sym (any-value vs name v (once-moves us vs moves once) (sym (list_any-IsPermutation (gives name v) us vs moves) ∙ value-any us name v e))

-- ---- the plan

plan-same : (parameters : List Parameter) (us vs : List Use) (plan : (Text → Option Text) → Plan) → IsPermutation us vs → plan_of_uses parameters (Some us) plan ≡ plan_of_uses parameters (Some vs) plan
plan-same parameters us vs plan moves = by (is_once us) refl
  where
    complete : is_complete parameters us ≡ is_complete parameters vs
    complete = λ i. list_all (λ a. not (is_required a) || list_any-IsPermutation (λ (u : Use). bytes_eq u.0 (name_of a)) us vs moves i) parameters

    with_defaults : is_once us ≡ true → (name : Text) → value_of (us ++ defaults parameters) name ≡ value_of (vs ++ defaults parameters) name
    with_defaults once name =
        value_of-append us (defaults parameters) name ∙ ap (λ (o : Option Text). option_or o (value_of (defaults parameters) name)) (value-same us vs moves once name) ∙ sym (value_of-append vs (defaults parameters) name)

    by : (b : Bool) → is_once us ≡ b → plan_of_uses parameters (Some us) plan ≡ plan_of_uses parameters (Some vs) plan
    by true e =
        (λ i. if is_once us && complete i then Ok (plan (λ name. with_defaults e name i)) else Err Line)
        ∙ (λ i. if once-same us vs moves i && is_complete parameters vs then Ok (plan (value_of (vs ++ defaults parameters))) else Err Line)
    by false e =
        ap (λ (b : Bool). if b && is_complete parameters us then Ok (plan (value_of (us ++ defaults parameters))) else Err Line) e
        ∙ ap (λ (b : Bool). if b && is_complete parameters vs then Ok (plan (value_of (vs ++ defaults parameters))) else Err Line) (sym e ∙ once-same us vs moves)

line-same : (row : CommandRow) (words others : List Text) → AreReordered row words others → plan_read_by row words ≡ plan_read_by row others
line-same row words others r =
    let uses : plan_of_uses row.parameters (uses_of row words) (row.plan (args_of words)) ≡ plan_of_uses row.parameters (uses_of row others) (row.plan (args_of words)) =
    ap (λ (o : Option (List Use)). plan_of_uses row.parameters o (row.plan (args_of words))) r.of_words ∙ plan-same row.parameters r.uses r.reordered (row.plan (args_of words)) r.order
    ∙ ap (λ (o : Option (List Use)). plan_of_uses row.parameters o (row.plan (args_of words))) (sym r.of_others) in
    (λ i. if r.refused i then Err Line else uses i) ∙ ap (λ (args : List Text). if is_refused row others then Err Line else plan_of_uses row.parameters (uses_of row others) (row.plan args)) r.behind

known : (word : Text) (kind : Kind) (rest : List Text) → command_of word ≡ Some kind → plan_of (word ∷ rest) ≡ plan_read_by (row_of kind) (word ∷ rest)
unfolding plan_read
known word kind rest e = words_are_read (word ∷ rest) ∙ ap (λ (k : Option Kind). read_or_unknown k (word ∷ rest)) e

pub in_any_order : (word : Text) (kind : Kind) (words others : List Text) → command_of word ≡ Some kind → AreReordered (row_of kind) (word ∷ words) (word ∷ others)
    → plan_of (word ∷ words) ≡ plan_of (word ∷ others)
in_any_order word kind words others e r = known word kind words e ∙ line-same (row_of kind) (word ∷ words) (word ∷ others) r ∙ sym (known word kind others e)
