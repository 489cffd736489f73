-- A line as clap takes it is the line as it is read apart from clap.
use Rattle.std.proofs.Common.{◌≡◌, ℕ, ◌+◌, Bool, true, false, not, cond, ◌&&◌, ◌||◌, List, [], ◌∷◌, ◌++◌, map, fold, length, take, drop, Option, Some, None, Result, Ok, Err, codes, refl, sym, ap, ◌∙◌, arith, ne_eqb}
use Rattle.std.specs.Prelude.{if◌then◌else◌, suc}
use Rattle.std.specs.List.{list_any}
use Rattle.clap.specs.Words.{App, Row, Rule, Text}
use Rattle.clap.specs.Walk.{finished, idle, is_empty, nothing_held, rows_after, settled, walk, with_default}
use Rattle.clap.specs.Takes.{is_given as is_given_row}
use Rattle.clap.specs.Faults.{built_fault, check_fault, defaults_fault, settle_fault, walk_fault}
use Rattle.clap.specs.Kinds.{Kinds, check_kinds, or_else}
use Rattle.clap.proofs.FaultLemmas.{leaf_fault}
use Rattle.words_line.specs.declared.plan.Plan.{Plan}
use Rattle.words_line.specs.declared.plan.WordsFault.{WordsFault}
use Rattle.words_line.specs.declared.plan.WordsFault.TheVariants.{Line}
use Rattle.words_line.specs.declared.table.Kind.{Kind}
use Rattle.words_line.specs.declared.table.Kind.TheVariants as kinds
use Rattle.words_line.specs.Commands.{args_of, command_of, dashes_at, is_dashes, is_refused, line_of, plan_by, plan_of, plan_or_unknown, plan_read, plan_read_by, read_or_unknown, row_of}
use Rattle.words_line.specs.Lines.{Parameter, Use, defaults, gen_parameters, is_complete, is_once, lift_parameters, plan_of_uses, reads, run_parameters, value_of}
use Rattle.words_line.specs.Plans.{given}
use Rattle.words_line.proofs.Tables.{IsTable, gen_table, lift_table, rule_of, run_table, shape}
use Rattle.words_line.proofs.Rows.{after, unless}
use Rattle.words_line.proofs.Rows.{row_of as use_row}
use Rattle.words_line.proofs.Found.{all_rows, applied_from_none, complete_is, given_is, no_default_fault, value_is}
use Rattle.words_line.proofs.Walking.{held, line_walked, out, standing}

not_empty : {X : Type 0} (x : X) (xs : List X) → is_empty (x ∷ xs) ≡ false
not_empty x xs = ne_eqb (length (x ∷ xs)) 0 (omega arith)

-- no fault before the walk's end, and then none behind it
faults_in_turn : {X : Type 0} (walking settling behind : Kinds) (rows : List Row) (ok bad : X) (final : Option (List Row) → X)
    → final (Some rows) ≡ (if is_empty behind then ok else bad) → final None ≡ bad
    → (if is_empty (or_else walking (or_else [] (or_else settling behind))) then ok else bad) ≡ final (unless walking (unless settling (Some rows)))
faults_in_turn [] [] behind rows ok bad final some none = sym some
faults_in_turn [] (k ∷ ks) behind rows ok bad final some none = ap (λ (b : Bool). cond b ok bad) (not_empty k ks) ∙ sym none
faults_in_turn (k ∷ ks) settling behind rows ok bad final some none = ap (λ (b : Bool). cond b ok bad) (not_empty k ks) ∙ sym none

module _ (name : Text) (parameters : List Parameter) (table : IsTable parameters) (plan : (Text → Option Text) → Plan) where
  abbrev app : App
  app = record { top = shape name parameters; subs = [] }

  abbrev all_rules : List Rule
  all_rules = map rule_of parameters

  -- the plan of the rows at the walk's end
  abbrev final : Option (List Row) → Result Plan WordsFault
  final None = Err Line
  final (Some rows) =
      if is_empty (or_else (defaults_fault rows all_rules) (check_fault (shape name parameters) (fold with_default rows all_rules) false)) then Ok (plan (given (fold with_default rows all_rules))) else Err Line

  abbrev line_built : List Text → Result Plan WordsFault
  line_built line = if is_empty (built_fault app nothing_held line) then Ok (plan (given (rows_after all_rules [] line))) else Err Line

  walked_to : (line : List Text) → line_built line ≡ final (out name parameters table (standing (held [] None) idle 1) line)
  walked_to line =
      let end = (walk all_rules [] nothing_held line).held in
      ap (λ (ks : Kinds). if is_empty ks then Ok (plan (given (rows_after all_rules [] line))) else Err Line) (leaf_fault app nothing_held line refl)
      ∙ faults_in_turn (walk_fault (shape name parameters) [] (standing (held [] None) idle 1) line) (settle_fault all_rules false end)
      (or_else (defaults_fault (settled all_rules end).rows all_rules) (check_fault (shape name parameters) (finished all_rules end) false)) (settled all_rules end).rows
      (Ok (plan (given (finished all_rules end)))) (Err Line) final refl refl

  complete : (uses : List Use) → is_empty (check_fault (shape name parameters) (all_rows uses parameters) false) ≡ is_complete parameters uses
  complete uses = by (list_any (λ a. a.required && not (is_given_row a.id (all_rows uses parameters))) all_rules) ∙ complete_is uses (all_rows uses parameters) (given_is uses parameters) parameters
    where
      by : (b : Bool) → is_empty (check_kinds false false b) ≡ not b
      by true = refl
      by false = refl

  read_to : (uses : Option (List Use)) → final (after uses []) ≡ plan_of_uses parameters uses plan
  read_to None = refl
  read_to (Some uses) = ap final (applied_from_none uses) ∙ by (is_once uses)
    where
      by : (b : Bool) → final (if b then Some (map use_row uses) else None) ≡ (if b && is_complete parameters uses then Ok (plan (value_of (uses ++ defaults parameters))) else Err Line)
      by false = refl
      by true =
          ap (λ (ks : Kinds). if is_empty (or_else ks (check_fault (shape name parameters) (all_rows uses parameters) false)) then Ok (plan (given (all_rows uses parameters))) else Err Line)
          (no_default_fault parameters (map use_row uses) parameters table)
          ∙ ap (λ (b : Bool). if b then Ok (plan (given (all_rows uses parameters))) else Err Line) (complete uses)
          ∙ (λ i. if is_complete parameters uses then Ok (plan (λ id. value_is uses parameters id i)) else Err Line)

  line_is : (line : List Text) → list_any is_dashes line ≡ false → line_built line ≡ plan_of_uses parameters (reads parameters line None 1) plan
  line_is line e = walked_to line ∙ ap final (line_walked name parameters table line e) ∙ read_to (reads parameters line None 1)

-- ---- the words before the first `--`

one_more : (n : ℕ) (w : Text) (ws : List Text) → take (1 + n) (w ∷ ws) ≡ w ∷ take n ws
one_more n w ws = let e : 1 + n ≡ suc n = omega arith in ap (λ (k : ℕ). take k (w ∷ ws)) e

no_dashes : (words : List Text) → list_any is_dashes (take (dashes_at words) words) ≡ false
no_dashes [] = refl
no_dashes (w ∷ ws) = by (is_dashes w) refl (no_dashes ws)
  where
    by : (b : Bool) → is_dashes w ≡ b → list_any is_dashes (take (dashes_at ws) ws) ≡ false → list_any is_dashes (take (cond (not b) (1 + dashes_at ws) 0) (w ∷ ws)) ≡ false
    by true e f = refl
    by false e f = ap (list_any is_dashes) (one_more (dashes_at ws) w ws) ∙ ap (λ (b : Bool). b || list_any is_dashes (take (dashes_at ws) ws)) e ∙ f

none_behind : (words : List Text) → list_any is_dashes words ≡ false → list_any is_dashes (drop 1 words) ≡ false
none_behind [] e = refl
none_behind (w ∷ ws) e = by (is_dashes w) e
  where
    by : (b : Bool) → (b || list_any is_dashes ws) ≡ false → list_any is_dashes ws ≡ false
    by true e = absurd cc
    by false e = e

pub line_read : (kind : Kind) (words : List Text) → plan_by (row_of kind) words ≡ plan_read_by (row_of kind) words
line_read kind words = ap (λ (r : Result Plan WordsFault). if is_refused (row_of kind) words then Err Line else r) (by kind)
  where
    line : List Text
    line = take (dashes_at words) words

    by : (k : Kind) → line_of (row_of k).app line ((row_of k).plan (args_of words)) ≡ plan_of_uses (row_of k).parameters (reads (row_of k).parameters (drop 1 line) None 1) ((row_of k).plan (args_of words))
    by kinds.Lift = line_is (codes "lift") lift_parameters lift_table ((row_of kinds.Lift).plan (args_of words)) (drop 1 line) (none_behind line (no_dashes words))
    by kinds.Run = line_is (codes "run") run_parameters run_table ((row_of kinds.Run).plan (args_of words)) (drop 1 line) (none_behind line (no_dashes words))
    by kinds.Gen = line_is (codes "gen") gen_parameters gen_table ((row_of kinds.Gen).plan (args_of words)) (drop 1 line) (none_behind line (no_dashes words))

pub words_are_read : (words : List Text) → plan_of words ≡ plan_read words
unfolding plan_of plan_read
words_are_read [] = refl
words_are_read (word ∷ rest) = by (command_of word)
  where
    by : (k : Option Kind) → plan_or_unknown k (word ∷ rest) ≡ read_or_unknown k (word ∷ rest)
    by None = refl
    by (Some kind) = line_read kind (word ∷ rest)
