-- What clap finds on a line without a fault, by its uses.
use Rattle.std.proofs.Common.{◌≡◌, Bool, true, false, not, cond, ◌&&◌, ◌||◌, List, [], ◌∷◌, ◌++◌, map, fold, Option, Some, None, option_map, codes, is_some, refl, sym, ap, subst, ◌∙◌, append_assoc}
use Rattle.std.specs.Prelude.{find, option_and_then, option_to_list, if◌then◌else◌, slice_get}
use Rattle.std.specs.List.{list_all, list_any}
use Rattle.std.specs.Option.{option_map_or, option_or}
use Rattle.std.specs.Str.{bytes_eq}
use Rattle.std.proofs.lemmas.List.Folds.{find-append}
use Rattle.std.proofs.lemmas.Slice.Eq.{bytes_eq-Decides}
use Rattle.clap.specs.Facts.{explicit_source}
use Rattle.clap.specs.Words.{Row, Rule, Text, first_of}
use Rattle.clap.specs.Walk.{default_rows, has_row, more_values, reading_by, with_default}
use Rattle.clap.specs.Takes.{is_given as is_given_row}
use Rattle.clap.specs.Faults.{default_fault, defaults_fault, given_default_fault}
use Rattle.clap.specs.Kinds.{Kinds}
use Rattle.clap.specs.ValueTests.{is_unsigned_in}
use Rattle.clap.specs.declared.builder.value_parser.Reading.{Reading}
use Rattle.clap.specs.declared.parser.matches.ValueSource.TheVariants.{DefaultValue}
use Rattle.words_line.specs.Lines.{Parameter, Use, any, default_of, defaults, flag, is_complete, is_given, is_once, is_required, name_of, numbers, option, place, use_if, value_of}
use Rattle.words_line.proofs.Tables.{Each, IsIn, rule_of}
use Rattle.words_line.proofs.Rows.{append-none, applied, at_row-new, row_of}

-- ---- texts

same_from : (a b : Text) (r : Bool) → bytes_eq a b ≡ true → bytes_eq b a ≡ r → r ≡ true
same_from a b r e f = sym f ∙ (bytes_eq-Decides b a).1 (sym ((bytes_eq-Decides a b).0 e))

pub bytes_eq-sym : (a b : Text) → bytes_eq a b ≡ bytes_eq b a
bytes_eq-sym a b = by (bytes_eq a b) (bytes_eq b a) refl refl
  where
    by : (q r : Bool) → bytes_eq a b ≡ q → bytes_eq b a ≡ r → q ≡ r
    by true r e f = sym (same_from a b r e f)
    by false true e f = same_from b a false f e
    by false false e f = refl

-- ---- each once

abbrev all_fresh : List Row → List Use → Bool
all_fresh rows uses = list_all (λ u. not (has_row u.0 rows)) uses

has-more : (id : Text) (rows : List Row) (r : Row) → has_row id (rows ++ r ∷ []) ≡ (has_row id rows || bytes_eq r.id id)
has-more id [] r = by (bytes_eq r.id id)
  where
    by : (b : Bool) → (b || false) ≡ b
    by true = refl
    by false = refl
has-more id (q ∷ qs) r = by (bytes_eq q.id id) (has-more id qs r)
  where
    by : (b : Bool) → has_row id (qs ++ r ∷ []) ≡ (has_row id qs || bytes_eq r.id id) → (b || has_row id (qs ++ r ∷ [])) ≡ ((b || has_row id qs) || bytes_eq r.id id)
    by true e = refl
    by false e = e

fresh-more : (rows : List Row) (u : Use) (uses : List Use) → all_fresh (rows ++ row_of u ∷ []) uses ≡ (all_fresh rows uses && not (is_given uses u.0))
fresh-more rows u [] = refl
fresh-more rows u (w ∷ uses) =
    ap (λ (b : Bool). not b && all_fresh (rows ++ row_of u ∷ []) uses) (has-more w.0 rows (row_of u) ∙ ap (λ (b : Bool). has_row w.0 rows || b) (bytes_eq-sym u.0 w.0))
    ∙ by (has_row w.0 rows) (bytes_eq w.0 u.0) (all_fresh rows uses) (is_given uses u.0) (all_fresh (rows ++ row_of u ∷ []) uses) (fresh-more rows u uses)
  where
    by : (p q f g more : Bool) → more ≡ (f && not g) → (not (p || q) && more) ≡ ((not p && f) && not (q || g))
    by true q f g more e = refl
    by false true true g more e = refl
    by false true false g more e = refl
    by false false f g more e = e

pub applied_is : (rows : List Row) (uses : List Use) → applied rows uses ≡ (if all_fresh rows uses && is_once uses then Some (rows ++ map row_of uses) else None)
applied_is rows [] = ap (λ (rs : List Row). Some rs) (sym (append-none rows))
applied_is rows (u ∷ uses) =
    ap (λ (o : Option (List Row)). if has_row u.0 rows then None else o) (applied_is (rows ++ row_of u ∷ []) uses
    ∙ ap (λ (rs : List Row). if all_fresh (rows ++ row_of u ∷ []) uses && is_once uses then Some rs else None) (append_assoc rows (row_of u ∷ []) (map row_of uses)))
    ∙ by (has_row u.0 rows) (all_fresh rows uses) (is_given uses u.0) (is_once uses) (all_fresh (rows ++ row_of u ∷ []) uses) (Some (rows ++ row_of u ∷ map row_of uses)) (fresh-more rows u uses)
  where
    by : (p f g o more : Bool) (x : Option (List Row)) → more ≡ (f && not g) → (if p then None else (if more && o then x else None)) ≡ (if (not p && f) && (not g && o) then x else None)
    by true f g o more x e = refl
    by false true true o more x e = ap (λ (m : Bool). if m && o then x else None) e
    by false true false o more x e = ap (λ (m : Bool). if m && o then x else None) e
    by false false g o more x e = ap (λ (m : Bool). if m && o then x else None) e

all_new : (uses : List Use) → all_fresh [] uses ≡ true
all_new [] = refl
all_new (u ∷ uses) = all_new uses

pub applied_from_none : (uses : List Use) → applied [] uses ≡ (if is_once uses then Some (map row_of uses) else None)
applied_from_none uses = applied_is [] uses ∙ ap (λ (b : Bool). if b && is_once uses then Some (map row_of uses) else None) (all_new uses)

-- ---- what is given

given-default : (id : Text) (rows : List Row) (r : Row) → r.source ≡ Some DefaultValue → is_given_row id (rows ++ r ∷ []) ≡ is_given_row id rows
given-default id [] r e = by (bytes_eq r.id id)
  where
    by : (b : Bool) → option_map_or (λ (x : Row). explicit_source x.source) (cond b (Some r) None) false ≡ false
    by true = ap explicit_source e
    by false = refl
given-default id (q ∷ qs) r e = by (bytes_eq q.id id) (given-default id qs r e)
  where
    by : (b : Bool) → is_given_row id (qs ++ r ∷ []) ≡ is_given_row id qs
        → option_map_or (λ (x : Row). explicit_source x.source) (cond b (Some q) (find (λ x. bytes_eq x.id id) (qs ++ r ∷ []))) false
        ≡ option_map_or (λ (x : Row). explicit_source x.source) (cond b (Some q) (find (λ x. bytes_eq x.id id) qs)) false
    by true e = refl
    by false e = e

-- the row of a default
abbrev default_row : Text → Reading → List Text → Row
default_row id how values = record { id = id; values = values; count = None; source = Some DefaultValue; reading = how }

abbrev with_row : Text → Reading → Option Text → List Row → List Row
with_row id how None rows = rows
with_row id how (Some v) rows = rows ++ default_row id how (v ∷ []) ∷ []

-- a parameter that isn't given has its default
default-new : (r : Rule) (d : Option Text) (rows : List Row) → r.defaults ≡ option_to_list d → has_row r.id rows ≡ false → default_rows r.id (reading_by r) r.defaults rows ≡ with_row r.id (reading_by r) d rows
default-new r None rows e new = ap (λ (ds : List Text). default_rows r.id (reading_by r) ds rows) e
default-new r (Some v) rows e new =
    ap (λ (ds : List Text). default_rows r.id (reading_by r) ds rows) e ∙ at_row-new r.id (more_values DefaultValue (v ∷ [])) (default_row r.id (reading_by r) (v ∷ []) ∷ []) rows new

given-with : (id n : Text) (how : Reading) (d : Option Text) (rows : List Row) → is_given_row id (with_row n how d rows) ≡ is_given_row id rows
given-with id n how None rows = refl
given-with id n how (Some v) rows = given-default id rows (default_row n how (v ∷ [])) refl

given-step : (id : Text) (r : Rule) (d : Option Text) (rows : List Row) → r.defaults ≡ option_to_list d → is_given_row id (with_default rows r) ≡ is_given_row id rows
given-step id r d rows e = by (has_row r.id rows) refl
  where
    by : (b : Bool) → has_row r.id rows ≡ b → is_given_row id (if b then rows else default_rows r.id (reading_by r) r.defaults rows) ≡ is_given_row id rows
    by true f = refl
    by false f = ap (is_given_row id) (default-new r d rows e f) ∙ given-with id r.id (reading_by r) d rows

its_default : (a : Parameter) → (rule_of a).defaults ≡ option_to_list (default_of a)
its_default (flag n) = refl
its_default (option n values default) = refl
its_default (place at n values required) = refl

its_name : (a : Parameter) → (rule_of a).id ≡ name_of a
its_name (flag n) = refl
its_name (option n values default) = refl
its_name (place at n values required) = refl

its_need : (a : Parameter) → (rule_of a).required ≡ is_required a
its_need (flag n) = refl
its_need (option n values default) = refl
its_need (place at n values required) = refl

given-fold : (id : Text) (rows : List Row) (xs : List Parameter) → is_given_row id (fold with_default rows (map rule_of xs)) ≡ is_given_row id rows
given-fold id rows [] = refl
given-fold id rows (x ∷ xs) = given-fold id (with_default rows (rule_of x)) xs ∙ given-step id (rule_of x) (default_of x) rows (its_default x)

given-uses : (id : Text) (uses : List Use) → is_given_row id (map row_of uses) ≡ is_given uses id
given-uses id [] = refl
given-uses id (u ∷ uses) = by (bytes_eq u.0 id) (given-uses id uses)
  where
    by : (b : Bool) → is_given_row id (map row_of uses) ≡ is_given uses id
        → option_map_or (λ (x : Row). explicit_source x.source) (cond b (Some (row_of u)) (find (λ x. bytes_eq x.id id) (map row_of uses))) false ≡ (b || is_given uses id)
    by true e = refl
    by false e = e

pub complete_is : (uses : List Use) (rows : List Row) → ((id : Text) → is_given_row id rows ≡ is_given uses id) → (xs : List Parameter)
    → not (list_any (λ a. a.required && not (is_given_row a.id rows)) (map rule_of xs)) ≡ is_complete xs uses
complete_is uses rows given [] = refl
complete_is uses rows given (x ∷ xs) =
    (λ i. not ((its_need x i && not (((λ j. is_given_row (its_name x j) rows) ∙ given (name_of x)) i)) || list_any (λ a. a.required && not (is_given_row a.id rows)) (map rule_of xs)))
    ∙ by (is_required x) (is_given uses (name_of x)) (list_any (λ a. a.required && not (is_given_row a.id rows)) (map rule_of xs)) (is_complete xs uses) (complete_is uses rows given xs)
  where
    by : (r g a c : Bool) → not a ≡ c → not ((r && not g) || a) ≡ ((not r || g) && c)
    by true true a c e = e
    by true false a c e = refl
    by false g a c e = e

-- ---- the value of a name

abbrev HasValue : Row → Type 0
HasValue r = is_some (slice_get r.values 0) ≡ true

or_assoc : (a b c : Option Text) → option_or (option_or a b) c ≡ option_or a (option_or b c)
or_assoc None b c = refl
or_assoc (Some x) b c = refl

pub value_of-append : (us vs : List Use) (id : Text) → value_of (us ++ vs) id ≡ option_or (value_of us id) (value_of vs id)
value_of-append us vs id = ap (option_map (λ (u : Use). u.1)) (find-append (λ u. bytes_eq u.0 id) us vs) ∙ by (find (λ u. bytes_eq u.0 id) us) (find (λ u. bytes_eq u.0 id) vs)
  where
    by : (a b : Option Use) → option_map (λ (u : Use). u.1) (option_or a b) ≡ option_or (option_map (λ (u : Use). u.1) a) (option_map (λ (u : Use). u.1) b)
    by None b = refl
    by (Some x) b = refl

first-more : (id : Text) (rows more : List Row) → Each HasValue rows → first_of id (rows ++ more) ≡ option_or (first_of id rows) (first_of id more)
first-more id [] more have = refl
first-more id (q ∷ qs) more have = by (bytes_eq q.id id) (slice_get q.values 0) refl have.0 (first-more id qs more have.1)
  where
    by : (b : Bool) (v : Option Text) → slice_get q.values 0 ≡ v → is_some (slice_get q.values 0) ≡ true → first_of id (qs ++ more) ≡ option_or (first_of id qs) (first_of id more)
        → option_and_then (λ (r : Row). slice_get r.values 0) (cond b (Some q) (find (λ r. bytes_eq r.id id) (qs ++ more)))
        ≡ option_or (option_and_then (λ (r : Row). slice_get r.values 0) (cond b (Some q) (find (λ r. bytes_eq r.id id) qs))) (first_of id more)
    by true (Some v) is have e = is ∙ ap (λ (o : Option Text). option_or o (first_of id more)) (sym is)
    by true None is have e = let no : false ≡ true = ap is_some (sym is) ∙ have in absurd cc
    by false v is have e = e

has-value : (id : Text) (rows : List Row) (o : Option Text) → Each HasValue rows → has_row id rows ≡ true → first_of id rows ≡ option_or (first_of id rows) o
has-value id [] o have e = absurd cc
has-value id (q ∷ qs) o have e = by (bytes_eq q.id id) (slice_get q.values 0) refl have.0 e (has-value id qs o have.1)
  where
    by : (b : Bool) (v : Option Text) → slice_get q.values 0 ≡ v → is_some (slice_get q.values 0) ≡ true → (b || has_row id qs) ≡ true → (has_row id qs ≡ true → first_of id qs ≡ option_or (first_of id qs) o)
        → option_and_then (λ (r : Row). slice_get r.values 0) (cond b (Some q) (find (λ r. bytes_eq r.id id) qs))
        ≡ option_or (option_and_then (λ (r : Row). slice_get r.values 0) (cond b (Some q) (find (λ r. bytes_eq r.id id) qs))) o
    by true (Some v) is have e next = is ∙ ap (λ (p : Option Text). option_or p o) (sym is)
    by true None is have e next = let no : false ≡ true = ap is_some (sym is) ∙ have in absurd cc
    by false v is have e next = next e

abbrev FirstStep : Text → Text → Option Text → List Row → List Row → Type 0
FirstStep id n d rows out = (first_of id out ≡ option_or (first_of id rows) (value_of (use_if n d) id)) × Each HasValue out

or_none : (o : Option Text) → o ≡ option_or o None
or_none None = refl
or_none (Some x) = refl

have-more : (rows : List Row) (r : Row) → Each HasValue rows → HasValue r → Each HasValue (rows ++ r ∷ [])
have-more [] r have h = (h, tt)
have-more (q ∷ qs) r have h = (have.0, have-more qs r have.1 h)

first-with : (id n : Text) (how : Reading) (d : Option Text) (rows : List Row) → Each HasValue rows → FirstStep id n d rows (with_row n how d rows)
first-with id n how None rows have = (or_none (first_of id rows), have)
first-with id n how (Some v) rows have =
    (first-more id rows (default_row n how (v ∷ []) ∷ []) have ∙ ap (option_or (first_of id rows)) (by (bytes_eq n id)), have-more rows (default_row n how (v ∷ [])) have refl)
  where
    by : (b : Bool) → option_and_then (λ (r : Row). slice_get r.values 0) (cond b (Some (default_row n how (v ∷ []))) None) ≡ option_map (λ (u : Use). u.1) (cond b (Some (n, v)) None)
    by true = refl
    by false = refl

first-has : (id n : Text) (d : Option Text) (rows : List Row) → Each HasValue rows → has_row n rows ≡ true → first_of id rows ≡ option_or (first_of id rows) (value_of (use_if n d) id)
first-has id n None rows have e = or_none (first_of id rows)
first-has id n (Some v) rows have e = by (bytes_eq n id) refl
  where
    by : (b : Bool) → bytes_eq n id ≡ b → first_of id rows ≡ option_or (first_of id rows) (option_map (λ (u : Use). u.1) (cond b (Some (n, v)) None))
    by true f = has-value id rows (Some v) have (subst (λ (t : Text). has_row t rows ≡ true) ((bytes_eq-Decides n id).0 f) e)
    by false f = or_none (first_of id rows)

first-step : (id : Text) (r : Rule) (d : Option Text) (rows : List Row) → r.defaults ≡ option_to_list d → Each HasValue rows → FirstStep id r.id d rows (with_default rows r)
first-step id r d rows e have = by (has_row r.id rows) refl
  where
    by : (b : Bool) → has_row r.id rows ≡ b → FirstStep id r.id d rows (if b then rows else default_rows r.id (reading_by r) r.defaults rows)
    by true f = (first-has id r.id d rows have f, have)
    by false f = subst (FirstStep id r.id d rows) (sym (default-new r d rows e f)) (first-with id r.id (reading_by r) d rows have)

first-fold : (id : Text) (rows : List Row) (xs : List Parameter) → Each HasValue rows → first_of id (fold with_default rows (map rule_of xs)) ≡ option_or (first_of id rows) (value_of (defaults xs) id)
first-fold id rows [] have = or_none (first_of id rows)
first-fold id rows (x ∷ xs) have =
    let step = first-step id (rule_of x) (default_of x) rows (its_default x) have in
    first-fold id (with_default rows (rule_of x)) xs step.1 ∙ ap (λ (o : Option Text). option_or o (value_of (defaults xs) id)) step.0
    ∙ or_assoc (first_of id rows) (value_of (use_if (rule_of x).id (default_of x)) id) (value_of (defaults xs) id)
    ∙ ap (option_or (first_of id rows)) (sym (value_of-append (use_if (rule_of x).id (default_of x)) (defaults xs) id) ∙ ap (λ (n : Text). value_of (use_if n (default_of x) ++ defaults xs) id) (its_name x))

have_values : (uses : List Use) → Each HasValue (map row_of uses)
have_values [] = tt
have_values (u ∷ uses) = (refl, have_values uses)

first-uses : (id : Text) (uses : List Use) → first_of id (map row_of uses) ≡ value_of uses id
first-uses id [] = refl
first-uses id (u ∷ uses) = by (bytes_eq u.0 id) (first-uses id uses)
  where
    by : (b : Bool) → first_of id (map row_of uses) ≡ value_of uses id
        → option_and_then (λ (r : Row). slice_get r.values 0) (cond b (Some (row_of u)) (find (λ r. bytes_eq r.id id) (map row_of uses))) ≡ option_map (λ (w : Use). w.1) (cond b (Some u) (find (λ w. bytes_eq w.0 id) uses))
    by true e = refl
    by false e = e

-- ---- the uses' rows, with the defaults

abbrev pub all_rows : List Use → List Parameter → List Row
all_rows uses xs = fold with_default (map row_of uses) (map rule_of xs)

pub given_is : (uses : List Use) (xs : List Parameter) (id : Text) → is_given_row id (all_rows uses xs) ≡ is_given uses id
given_is uses xs id = given-fold id (map row_of uses) xs ∙ given-uses id uses

pub value_is : (uses : List Use) (xs : List Parameter) (id : Text) → first_of id (all_rows uses xs) ≡ value_of (uses ++ defaults xs) id
value_is uses xs id =
    first-fold id (map row_of uses) xs (have_values uses) ∙ ap (λ (o : Option Text). option_or o (value_of (defaults xs) id)) (first-uses id uses) ∙ sym (value_of-append uses (defaults xs) id)

-- ---- no default is a fault

no_if : (b c : Bool) (ks : Kinds) → ks ≡ [] → (if b || c then [] else ks) ≡ []
no_if true c ks e = refl
no_if false true ks e = refl
no_if false false ks e = e

no_fault : (parameters : List Parameter) (rows : List Row) (a : Parameter) → IsIn parameters a → default_fault rows (rule_of a) ≡ []
no_fault parameters rows (flag n) fit = no_if (has_row n rows) false (given_default_fault (rule_of (flag n)) (codes "false" ∷ [])) refl
no_fault parameters rows (option n values None) fit = no_if (has_row n rows) true (given_default_fault (rule_of (option n values None)) []) refl
no_fault parameters rows (option n any (Some d)) fit = no_if (has_row n rows) false (given_default_fault (rule_of (option n any (Some d))) (d ∷ [])) refl
no_fault parameters rows (option n (numbers low high) (Some d)) fit =
    let passes : is_unsigned_in low high d ≡ true = fit.default in
    no_if (has_row n rows) false (given_default_fault (rule_of (option n (numbers low high) (Some d))) (d ∷ [])) (rw passes refl)
no_fault parameters rows (place at n values required) fit = no_if (has_row n rows) true (given_default_fault (rule_of (place at n values required)) []) refl

pub no_default_fault : (parameters : List Parameter) (rows : List Row) (xs : List Parameter) → Each (IsIn parameters) xs → defaults_fault rows (map rule_of xs) ≡ []
unfolding defaults_fault
no_default_fault parameters rows [] each = refl
no_default_fault parameters rows (x ∷ xs) each = rw (no_fault parameters rows x each.0) (no_default_fault parameters (with_default rows (rule_of x)) xs each.1)
