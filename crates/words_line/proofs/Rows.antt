-- Clap's rows, by the uses of a line.
use Rattle.std.proofs.Common.{◌≡◌, ℕ, Bool, true, false, cond, ◌||◌, List, [], ◌∷◌, ◌++◌, Option, Some, None, option_map, codes, refl, ap, ◌∙◌}
use Rattle.std.specs.Prelude.{option_and_then, option_to_list, if◌then◌else◌}
use Rattle.std.specs.Str.{bytes_eq}
use Rattle.clap.specs.Words.{Row, Rule, Text}
use Rattle.clap.specs.Walk.{at_row, has_row, used, without}
use Rattle.clap.specs.Faults.{use_fault}
use Rattle.clap.specs.Kinds.{Kinds, or_else}
use Rattle.clap.specs.declared.builder.value_parser.Reading.TheVariants.{AsWritten}
use Rattle.clap.specs.declared.parser.matches.ValueSource.TheVariants.{CommandLine}
use Rattle.words_line.specs.Lines.{Parameter, Use, Values, any, flag, name_of, numbers, option, place, put, takes}
use Rattle.words_line.proofs.Tables.{rule_of, valued}

-- ---- what a fault leaves

abbrev pub unless : {X : Type 0} → Kinds → Option X → Option X
unless [] o = o
unless (k ∷ ks) o = None

pub unless-or : {X : Type 0} (a b : Kinds) (o : Option X) → unless (or_else a b) o ≡ unless a (unless b o)
unless-or [] b o = refl
unless-or (k ∷ ks) b o = refl

abbrev pub bind : {X Y : Type 0} → Option X → (X → Option Y) → Option Y
bind o f = option_and_then f o

pub bind-none : {X Y : Type 0} (o : Option X) (y : Option Y) → y ≡ None → bind o (λ x. y) ≡ None
bind-none None y e = refl
bind-none (Some x) y e = e

pub bind-unless : {X Y : Type 0} (ks : Kinds) (x : X) (f : X → Option Y) → bind (unless ks (Some x)) f ≡ unless ks (f x)
bind-unless [] x f = refl
bind-unless (k ∷ ks) x f = refl

-- ---- rows

-- the row of a use
abbrev pub row_of : Use → Row
row_of u = record {
  id = u.0;
  values = u.1 ∷ [];
  count = None;
  source = Some CommandLine;
  reading = AsWritten;
}

-- the rows after the uses, where none has a row yet
abbrev pub applied : List Row → List Use → Option (List Row)
applied rows [] = Some rows
applied rows (u ∷ us) = if has_row u.0 rows then None else applied (rows ++ row_of u ∷ []) us

abbrev pub after : Option (List Use) → List Row → Option (List Row)
after None rows = None
after (Some us) rows = applied rows us

pub at_row-new : (id : Text) (change : Row → List Row) (new rows : List Row) → has_row id rows ≡ false → at_row id change new rows ≡ rows ++ new
at_row-new id change new [] e = refl
at_row-new id change new (r ∷ rs) e = go (bytes_eq r.id id) (at_row-new id change new rs) e
  where
    go : (b : Bool) → (has_row id rs ≡ false → at_row id change new rs ≡ rs ++ new) → (b || has_row id rs) ≡ false → (if b then change r ++ rs else r ∷ at_row id change new rs) ≡ r ∷ (rs ++ new)
    go true next e = absurd cc
    go false next e = ap (λ (xs : List Row). r ∷ xs) (next e)

pub append-none : {A : Type 0} (xs : List A) → xs ++ [] ≡ xs
append-none [] = refl
append-none {A} (x ∷ xs) = ap (λ (ys : List A). x ∷ ys) (append-none xs)

without-none : (id : Text) (rows : List Row) → has_row id rows ≡ false → without id rows ≡ rows
without-none id rows e = at_row-new id (λ _. []) [] rows e ∙ append-none rows

-- ---- a use, as clap takes it

abbrev pub used_by : Rule → List Text → List Row → Option (List Row)
used_by a values rows = unless (use_fault false a values rows) (Some (used a values rows))

abbrev fresh : Text → List Row → Row → Option (List Row)
fresh id rows row = if has_row id rows then None else Some (rows ++ row ∷ [])

pub flag_used : (name : Text) (rows : List Row) → used_by (rule_of (flag name)) [] rows ≡ fresh name rows (row_of (name, codes "true"))
flag_used name rows = go (has_row name rows) refl
  where
    go : (b : Bool) → has_row name rows ≡ b → used_by (rule_of (flag name)) [] rows ≡ cond b None (Some (rows ++ row_of (name, codes "true") ∷ []))
    go true e = rw e refl
    go false e = rw (e, without-none name rows e, at_row-new name _ (row_of (name, codes "true") ∷ []) rows e) refl

module _ (name : Text) (long : Option Text) (index : Option ℕ) (defaults : List Text) (required : Bool) (v : Text) (rows : List Row) where
  one_used : (values : Values) (b t : Bool) → has_row name rows ≡ b → takes values v ≡ t
      → used_by (valued name long index defaults values required) (v ∷ []) rows ≡ cond t (cond b None (Some (rows ++ row_of (name, v) ∷ []))) None
  one_used any b false e f = absurd cc
  one_used any true true e f = rw e refl
  one_used any false true e f = rw (e, without-none name rows e, at_row-new name _ (row_of (name, v) ∷ []) rows e) refl
  one_used (numbers low high) true false e f = rw e refl
  one_used (numbers low high) false false e f = rw (e, f) refl
  one_used (numbers low high) true true e f = rw e refl
  one_used (numbers low high) false true e f = rw (e, f, without-none name rows e, at_row-new name _ (row_of (name, v) ∷ []) rows e) refl

  pub value_used : (values : Values)
      → used_by (valued name long index defaults values required) (v ∷ []) rows ≡ (if takes values v then fresh name rows (row_of (name, v)) else None)
  value_used values = one_used values (has_row name rows) (takes values v) refl refl

  -- an option that waits has no value
  pub none_used : (values : Values) → used_by (valued name long index defaults values required) [] rows ≡ None
  none_used values = refl

-- ---- a use, as it is read

pub put_fresh : (u : Use) (rows : List Row) (next : Option (List Use)) → bind (fresh u.0 rows (row_of u)) (after next) ≡ after (option_map (λ us. u ∷ us) next) rows
put_fresh u rows None = bind-none (fresh u.0 rows (row_of u)) None refl
put_fresh u rows (Some us) = go (has_row u.0 rows)
  where
    go : (b : Bool) → bind (cond b None (Some (rows ++ row_of u ∷ []))) (λ r. applied r us) ≡ cond b None (applied (rows ++ row_of u ∷ []) us)
    go true = refl
    go false = refl

put_if : (a : Parameter) (v : Text) (rows : List Row) (next : Option (List Use)) (t : Bool)
    → bind (cond t (fresh (name_of a) rows (row_of (name_of a, v))) None) (after next) ≡ after (cond t (option_map (λ us. (name_of a, v) ∷ us) next) None) rows
put_if a v rows next true = put_fresh (name_of a, v) rows next
put_if a v rows next false = refl

pub put_flag : (name : Text) (rows : List Row) (next : Option (List Use)) → bind (used_by (rule_of (flag name)) [] rows) (after next) ≡ after (put (flag name) (codes "true") next) rows
put_flag name rows next = ap (λ (o : Option (List Row)). bind o (after next)) (flag_used name rows) ∙ put_fresh (name, codes "true") rows next

pub put_option : (name : Text) (values : Values) (default : Option Text) (v : Text) (rows : List Row) (next : Option (List Use))
    → bind (used_by (rule_of (option name values default)) (v ∷ []) rows) (after next) ≡ after (put (option name values default) v next) rows
put_option name values default v rows next =
    ap (λ (o : Option (List Row)). bind o (after next)) (value_used name (Some name) None (option_to_list default) false v rows values) ∙ put_if (option name values default) v rows next (takes values v)

pub put_place : (at : ℕ) (name : Text) (values : Values) (required : Bool) (v : Text) (rows : List Row) (next : Option (List Use))
    → bind (used_by (rule_of (place at name values required)) (v ∷ []) rows) (after next) ≡ after (put (place at name values required) v next) rows
put_place at name values required v rows next =
    ap (λ (o : Option (List Row)). bind o (after next)) (value_used name None (Some at) [] required v rows values) ∙ put_if (place at name values required) v rows next (takes values v)
