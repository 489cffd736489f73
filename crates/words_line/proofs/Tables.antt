-- Parameters as the rules that clap makes of them.
use Rattle.std.proofs.Common.{◌≡◌, ℕ, ◌<◌, Bool, true, false, not, cond, ◌&&◌, ◌||◌, List, [], ◌∷◌, map, Option, Some, None, option_map, codes, refl, sym, ap, subst, ◌∙◌, eqb-true, arith}
use Rattle.std.specs.Prelude.{◌==◌, find, is_some, option_to_list}
use Rattle.std.specs.Option.{option_map_or}
use Rattle.std.specs.Str.{bytes_eq}
use Rattle.clap.specs.Words.{Rule, Shape, Text, built, new_rule}
use Rattle.clap.specs.Simple.{new_shape}
use Rattle.clap.specs.Walk.{arg_by_id, arg_by_index, arg_by_long, arg_by_short, has_long}
use Rattle.clap.specs.declared.builder.action.ArgAction.TheVariants.{Set, SetTrue}
use Rattle.clap.specs.declared.builder.value_parser.ValueParser.{ValueParser}
use Rattle.clap.specs.declared.builder.value_parser.ValueParser.TheVariants as vp
use Rattle.words_line.specs.Lines.{Parameter, Values, any, default_of, flag, gen_parameters, is_at, is_named, lift_parameters, name_of, numbers, option, place, run_parameters, takes, values_of}
use Rattle.words_line.specs.Rules.{gen_app, lift_app, run_app}

-- ---- rules

abbrev pub parser_of : Values → ValueParser
parser_of any = vp.String
parser_of (numbers low high) = vp.Unsigned low high

-- a rule that takes one value
abbrev pub valued : Text → Option Text → Option ℕ → List Text → Values → Bool → Rule
valued name long index defaults values required = record (new_rule name) {
  long = long;
  index = index;
  action = Some Set;
  defaults = defaults;
  parser = Some (parser_of values);
  range = Some (record { start_inclusive = 1; end_inclusive = 1 });
  required = required;
}

abbrev pub rule_of : Parameter → Rule
rule_of (flag name) = record (new_rule name) {
  long = Some name;
  action = Some SetTrue;
  defaults = codes "false" ∷ [];
  missing = codes "true" ∷ [];
  parser = Some vp.Bool;
  range = Some (record { start_inclusive = 0; end_inclusive = 0 });
}
rule_of (option name values default) = valued name (Some name) None (option_to_list default) values false
rule_of (place at name values required) = valued name None (Some at) [] values required

abbrev pub shape : Text → List Parameter → Shape
shape name parameters = record (new_shape name) {
  rules = map rule_of parameters;
  disable_help_flag = true;
  disable_help_subcommand = true;
  is_built = true;
}

pub lift_shape : (built lift_app).top ≡ shape (codes "lift") lift_parameters
lift_shape = refl

pub run_shape : (built run_app).top ≡ shape (codes "run") run_parameters
run_shape = refl

pub gen_shape : (built gen_app).top ≡ shape (codes "gen") gen_parameters
gen_shape = refl

-- ---- finding

find-map : {A B : Type 0} (f : A → B) (p : B → Bool) (q : A → Bool) → ((x : A) → p (f x) ≡ q x) → (xs : List A) → find p (map f xs) ≡ option_map f (find q xs)
find-map f p q same [] = refl
find-map {A} {B} f p q same (x ∷ xs) = (λ i. cond (same x i) (Some (f x)) (find-map f p q same xs i)) ∙ go (q x)
  where
    go : (b : Bool) → cond b (Some (f x)) (option_map f (find q xs)) ≡ option_map f (cond b (Some x) (find q xs))
    go true = refl
    go false = refl

or-false : (b : Bool) → (b || false) ≡ b
or-false true = refl
or-false false = refl

pub by_long : (parameters : List Parameter) (name : Text) → arg_by_long (map rule_of parameters) name ≡ option_map rule_of (find (is_named name) parameters)
by_long parameters name = find-map rule_of (λ a. not (is_some a.index) && has_long a name) (is_named name) same parameters
  where
    same : (x : Parameter) → (not (is_some (rule_of x).index) && has_long (rule_of x) name) ≡ is_named name x
    same (flag n) = or-false (bytes_eq n name)
    same (option n values default) = or-false (bytes_eq n name)
    same (place at n values required) = refl

pub by_index : (parameters : List Parameter) (i : ℕ) → arg_by_index (map rule_of parameters) i ≡ option_map rule_of (find (is_at i) parameters)
by_index parameters i = find-map rule_of (λ a. option_map_or (λ k. k == i) a.index false) (is_at i) same parameters
  where
    same : (x : Parameter) → option_map_or (λ k. k == i) (rule_of x).index false ≡ is_at i x
    same (flag n) = refl
    same (option n values default) = refl
    same (place at n values required) = refl

pub by_short : (parameters : List Parameter) (x : ℕ) → arg_by_short (map rule_of parameters) x ≡ None
by_short [] x = refl
by_short (flag n ∷ rest) x = by_short rest x
by_short (option n values default ∷ rest) x = by_short rest x
by_short (place at n values required ∷ rest) x = by_short rest x

abbrev pub Each : {A : Type 0} → (A → Type 0) → List A → Type 0
Each P [] = Unit {0}
Each P (x ∷ xs) = P x × Each P xs

pub find_in : {A : Type 0} (P : A → Type 0) (q : A → Bool) (xs : List A) (x : A) → Each P xs → find q xs ≡ Some x → P x × (q x ≡ true)
find_in P q [] x each e = absurd cc
find_in {A} P q (y ∷ ys) x each e = go (q y) refl (find_in P q ys x each.1) e
  where
    go : (b : Bool) → q y ≡ b → (find q ys ≡ Some x → P x × (q x ≡ true)) → cond b (Some y) (find q ys) ≡ Some x → P x × (q x ≡ true)
    go true is next found = let same : y ≡ x = cc in (subst P same each.0, ap q (sym same) ∙ is)
    go false is next found = next found

-- ---- tables

-- clap finds the parameter by its name, its place is no large number, and it takes its default
pub record IsIn (parameters : List Parameter) (a : Parameter) : Type 0 where
  pub found : arg_by_id (map rule_of parameters) (name_of a) ≡ Some (rule_of a)
  pub low : (i : ℕ) → is_at i a ≡ true → i < 100
  pub default : option_map_or (takes (values_of a)) (default_of a) true ≡ true

abbrev pub IsTable : List Parameter → Type 0
IsTable parameters = Each (IsIn parameters) parameters

low_at : (i at : ℕ) → at < 100 → (at == i) ≡ true → i < 100
low_at i at h e = let same = eqb-true at i e in omega (arith, h, same)

none_at : (i : ℕ) → false ≡ true → i < 100
none_at i e = absurd cc

pub lift_table : IsTable lift_parameters
lift_table = (
  record { found = refl; low = λ i e. low_at i 1 (omega arith) e; default = refl },
  (
    record { found = refl; low = none_at; default = refl },
    (record { found = refl; low = none_at; default = refl }, tt),
  ),
)

pub run_table : IsTable run_parameters
run_table = (
  record { found = refl; low = none_at; default = refl },
  (
    record { found = refl; low = none_at; default = refl },
    (
      record { found = refl; low = λ i e. low_at i 1 (omega arith) e; default = refl },
      (
        record { found = refl; low = λ i e. low_at i 2 (omega arith) e; default = refl },
        (
          record { found = refl; low = none_at; default = refl },
          (
            record { found = refl; low = none_at; default = refl },
            (
              record { found = refl; low = none_at; default = refl },
              (
                record { found = refl; low = none_at; default = refl },
                (record { found = refl; low = none_at; default = refl }, tt),
              ),
            ),
          ),
        ),
      ),
    ),
  ),
)

pub gen_table : IsTable gen_parameters
gen_table = (
  record { found = refl; low = λ i e. low_at i 1 (omega arith) e; default = refl },
  (
    record { found = refl; low = λ i e. low_at i 2 (omega arith) e; default = refl },
    (
      record { found = refl; low = λ i e. low_at i 3 (omega arith) e; default = refl },
      (record { found = refl; low = λ i e. low_at i 4 (omega arith) e; default = refl }, tt),
    ),
  ),
)
