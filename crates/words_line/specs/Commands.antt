-- The commands, and the plan that the words make.
use Rattle.std.specs.Prelude.{◌≡◌, ℕ, ◌+◌, ◌&&◌, Bool, true, false, not, List, [], ◌∷◌, map, take, drop, find, Option, Some, None, Result, Ok, Err, if◌then◌else◌, codes, string_bytes, String, IsPermutation, ⊤}
use Rattle.std.specs.List.{list_any, position_or_len}
use Rattle.std.specs.Str.{bytes_eq}
use Rattle.clap.specs.Words.{App, Text, fault_of, matches_of}
use Rattle.clap.specs.Walk.{is_empty}
use Rattle.words_line.specs.declared.plan.Plan.{Plan}
use Rattle.words_line.specs.declared.plan.WordsFault.{WordsFault}
use Rattle.words_line.specs.declared.plan.WordsFault.TheVariants.{NoCommand, UnknownCommand, Line}
use Rattle.words_line.specs.declared.plan.WordsError.{WordsError}
use Rattle.words_line.specs.declared.plan.WordsError.TheVariants.{Fault, Memory}
use Rattle.words_line.specs.declared.table.Kind.{Kind}
use Rattle.words_line.specs.declared.table.Kind.TheVariants as kinds
use Rattle.words_line.specs.Lines.{Parameter, Use, gen_parameters, lift_parameters, plan_of_uses, reads, run_parameters}
use Rattle.words_line.specs.Plans.{gen_plan, given, lift_plan, run_plan}
use Rattle.words_line.specs.Rules.{gen_app, lift_app, run_app}

-- the bytes of the words
abbrev pub texts : {Y : Type 0} → List (String Y) → List Text
texts words = map (λ word. string_bytes word) words

-- a command: its word; what it takes before the first `--`, as clap's rules and as parameters; whether arguments may
-- stand behind that; and the plan by those and by the value of each name
pub record CommandRow : Type 0 where
  pub word : Text
  pub app : App
  pub parameters : List Parameter
  pub has_arguments : Bool
  pub plan : List Text → (Text → Option Text) → Plan

abbrev pub row_of : Kind → CommandRow
row_of kinds.Lift = record { word = codes "lift"; app = lift_app; parameters = lift_parameters; has_arguments = false; plan = λ _. lift_plan }
row_of kinds.Run = record { word = codes "run"; app = run_app; parameters = run_parameters; has_arguments = true; plan = run_plan }
row_of kinds.Gen = record { word = codes "gen"; app = gen_app; parameters = gen_parameters; has_arguments = false; plan = λ _. gen_plan }

abbrev pub commands : List Kind
commands = kinds.Lift ∷ kinds.Run ∷ kinds.Gen ∷ []

-- the command of a word
abbrev pub command_of : Text → Option Kind
command_of word = find (λ kind. bytes_eq (row_of kind).word word) commands

-- the word is `--`
abbrev pub is_dashes : Text → Bool
is_dashes word = bytes_eq word (codes "--")

-- the place of the first `--`, or the number of the words
abbrev pub dashes_at : List Text → ℕ
dashes_at words = position_or_len is_dashes words

-- the plan of a line that clap reads by this command, or a bad line
abbrev pub line_of : App → List Text → ((Text → Option Text) → Plan) → Result Plan WordsFault
line_of app words plan = if is_empty (fault_of app words) then Ok (plan (given (matches_of app words))) else Err Line

-- a `--` stands in the line of a command that has no arguments
abbrev pub is_refused : CommandRow → List Text → Bool
is_refused row words = not row.has_arguments && list_any is_dashes words

-- the plan of a line: clap reads the words before the first `--`, and those behind it are the arguments, where the
-- command has any
abbrev pub plan_by : CommandRow → List Text → Result Plan WordsFault
plan_by row words =
    if is_refused row words then Err Line else line_of row.app (take (dashes_at words) words) (row.plan (drop (dashes_at words + 1) words))

abbrev pub plan_or_unknown : Option Kind → List Text → Result Plan WordsFault
plan_or_unknown None words = Err UnknownCommand
plan_or_unknown (Some kind) words = plan_by (row_of kind) words

-- the plan of the words, or what is wrong with them
unfoldable pub plan_of : List Text → Result Plan WordsFault
plan_of [] = Err NoCommand
plan_of (word ∷ rest) = plan_or_unknown (command_of word) (word ∷ rest)

-- the uses that the words before the first `--` make, after the command's own
abbrev pub uses_of : CommandRow → List Text → Option (List Use)
uses_of row words = reads row.parameters (drop 1 (take (dashes_at words) words)) None 1

-- the words behind the first `--`
abbrev pub args_of : List Text → List Text
args_of words = drop (dashes_at words + 1) words

-- the plan of a line, read apart from clap
abbrev pub plan_read_by : CommandRow → List Text → Result Plan WordsFault
plan_read_by row words = if is_refused row words then Err Line else plan_of_uses row.parameters (uses_of row words) (row.plan (args_of words))

abbrev pub read_or_unknown : Option Kind → List Text → Result Plan WordsFault
read_or_unknown None words = Err UnknownCommand
read_or_unknown (Some kind) words = plan_read_by (row_of kind) words

-- the plan of the words, read apart from clap, or what is wrong with them
unfoldable pub plan_read : List Text → Result Plan WordsFault
plan_read [] = Err NoCommand
plan_read (word ∷ rest) = read_or_unknown (command_of word) (word ∷ rest)

-- two lines of the command that make the same uses in another order, with the same words behind the first `--`
pub record AreReordered (row : CommandRow) (words others : List Text) : Type 0 where
  pub uses : List Use
  pub reordered : List Use
  pub of_words : uses_of row words ≡ Some uses
  pub of_others : uses_of row others ≡ Some reordered
  pub order : IsPermutation uses reordered
  pub behind : args_of words ≡ args_of others
  pub refused : is_refused row words ≡ is_refused row others

-- the answer is that of the words, but for want of memory
abbrev pub AnswersBy : Result Plan WordsFault → Result Plan WordsError → Type 0
AnswersBy words (Ok plan) = words ≡ Ok plan
AnswersBy words (Err (Fault fault)) = words ≡ Err fault
AnswersBy words (Err (Memory e)) = ⊤

-- the error is a bad line, where clap gives no matches, or want of memory
abbrev pub IsBadLine : Bool → WordsError → Type 0
IsBadLine no_fault (Fault fault) = (fault ≡ Line) × (no_fault ≡ false)
IsBadLine no_fault (Memory e) = ⊤
