-- A line read word by word, apart from clap: which parameter each word or pair of words names, and with which value.
use Rattle.std.specs.Prelude.{ℕ, ◌+◌, ◌==◌, ◌&&◌, ◌||◌, Bool, true, false, not, List, [], ◌∷◌, ◌++◌, Option, Some, None, Result, Ok, Err, if◌then◌else◌, codes, find, is_some, option_map, slice_get}
use Rattle.std.specs.List.{list_all, list_any}
use Rattle.std.specs.Option.{option_map_or}
use Rattle.std.specs.Str.{bytes_eq, chars}
use Rattle.clap.specs.Words.{Text}
use Rattle.clap.specs.Lexer.{long_of, short_of}
use Rattle.clap.specs.ValueTests.{is_unsigned_in}
use Rattle.words_line.specs.declared.plan.Plan.{Plan}
use Rattle.words_line.specs.declared.plan.WordsFault.{WordsFault}
use Rattle.words_line.specs.declared.plan.WordsFault.TheVariants.{Line}

-- which values a parameter takes: any text, or the numbers from low to high, as decimal digits behind a `+` or alone
pub data Values : Type 0 where
  any : Values
  numbers : ℕ → ℕ → Values

abbrev pub takes : Values → Text → Bool
takes any v = true
takes (numbers low high) v = is_unsigned_in low high v

pub data Parameter : Type 0 where
  -- `--name`
  flag : Text → Parameter
  -- `--name VALUE` or `--name=VALUE`, and what stands for VALUE where the line doesn't name it
  option : Text → Values → Option Text → Parameter
  -- the word at this place, from 1, and whether it has to be there
  place : ℕ → Text → Values → Bool → Parameter

abbrev pub name_of : Parameter → Text
name_of (flag name) = name
name_of (option name values default) = name
name_of (place at name values required) = name

abbrev pub values_of : Parameter → Values
values_of (flag name) = any
values_of (option name values default) = values
values_of (place at name values required) = values

-- a flag is `true` where it stands and else `false`
abbrev pub default_of : Parameter → Option Text
default_of (flag name) = Some (codes "false")
default_of (option name values default) = default
default_of (place at name values required) = None

abbrev pub is_required : Parameter → Bool
is_required (flag name) = false
is_required (option name values default) = false
is_required (place at name values required) = required

-- the flag or option `--name`
abbrev pub is_named : Text → Parameter → Bool
is_named text (flag name) = bytes_eq name text
is_named text (option name values default) = bytes_eq name text
is_named text (place at name values required) = false

abbrev pub is_at : ℕ → Parameter → Bool
is_at i (flag name) = false
is_at i (option name values default) = false
is_at i (place at name values required) = at == i

-- the name of a parameter, and the value that the line gives it
abbrev pub Use : Type 0
Use = Text × Text

-- the uses that the words behind make, where an option may wait for its value, and the next word by its place goes to this
-- place
abbrev pub Rest : Type 0
Rest = Option Parameter → ℕ → Option (List Use)

-- the parameter is given a value that it takes
abbrev pub put : Parameter → Text → Option (List Use) → Option (List Use)
put a v us = if takes (values_of a) v then option_map (λ us. (name_of a, v) ∷ us) us else None

-- `--name` or `--name=value`
abbrev pub read_named : Option Parameter → Option Text → Rest → ℕ → Option (List Use)
read_named None v next i = None
read_named (Some (flag name)) (Some v) next i = None
read_named (Some (flag name)) None next i = put (flag name) (codes "true") (next None i)
read_named (Some (option name values default)) (Some v) next i = put (option name values default) v (next None i)
read_named (Some (option name values default)) None next i = next (Some (option name values default)) i
read_named (Some (place at name values required)) v next i = None

-- a word by its place
abbrev pub read_placed : Option Parameter → Text → Rest → ℕ → Option (List Use)
read_placed None word next i = None
read_placed (Some a) word next i = put a word (next None (i + 1))

-- a word that is no `--name`, behind an option that waits or as the next by its place
abbrev pub read_plain : List Parameter → Option Parameter → Text → Rest → ℕ → Option (List Use)
read_plain parameters None word next i = read_placed (find (is_at i) parameters) word next i
read_plain parameters (Some a) word next i = put a word (next None i)

-- no option takes a `--name` for its value
abbrev pub read_long : List Parameter → Option Parameter → Text × Option Text → Rest → ℕ → Option (List Use)
read_long parameters None p next i = read_named (find (is_named p.0) parameters) p.1 next i
read_long parameters (Some a) p next i = None

-- a word by its looks: `--name` or `--name=value`, as the name and the value (`long_of`); `-` and a character behind it,
-- which nothing takes; any other
abbrev pub read_word : List Parameter → Option (Text × Option Text) → Bool → Option Parameter → Text → Rest → ℕ → Option (List Use)
read_word parameters (Some p) short waiting word next i = read_long parameters waiting p next i
read_word parameters None true waiting word next i = None
read_word parameters None false waiting word next i = read_plain parameters waiting word next i

-- `-` and a character behind it, but for `--`
abbrev pub is_short : Text → Bool
is_short word = option_map_or (λ flags. is_some (slice_get (chars flags) 0)) (short_of word) false

-- the uses of the words, in order, none of which is `--`
unfoldable pub reads : List Parameter → List Text → Rest
reads parameters [] None i = Some []
reads parameters [] (Some a) i = None
reads parameters (word ∷ rest) waiting i = read_word parameters (long_of word) (is_short word) waiting word (reads parameters rest) i

abbrev pub is_given : List Use → Text → Bool
is_given uses name = list_any (λ u. bytes_eq u.0 name) uses

-- no parameter is given twice
abbrev pub is_once : List Use → Bool
is_once [] = true
is_once (u ∷ uses) = not (is_given uses u.0) && is_once uses

-- each parameter that has to be there is
abbrev pub is_complete : List Parameter → List Use → Bool
is_complete parameters uses = list_all (λ a. not (is_required a) || is_given uses (name_of a)) parameters

abbrev pub use_if : Text → Option Text → List Use
use_if name None = []
use_if name (Some v) = (name, v) ∷ []

-- what stands for what a line doesn't name
abbrev pub defaults : List Parameter → List Use
defaults [] = []
defaults (a ∷ parameters) = use_if (name_of a) (default_of a) ++ defaults parameters

-- the first value that the uses give the name
abbrev pub value_of : List Use → Text → Option Text
value_of uses name = option_map (λ u. u.1) (find (λ u. bytes_eq u.0 name) uses)

-- the plan of the uses, and of what stands for the rest
abbrev pub plan_of_uses : List Parameter → Option (List Use) → ((Text → Option Text) → Plan) → Result Plan WordsFault
plan_of_uses parameters None plan = Err Line
plan_of_uses parameters (Some uses) plan = if is_once uses && is_complete parameters uses then Ok (plan (value_of (uses ++ defaults parameters))) else Err Line

-- `lift PROG [--base IR] [--misses REPORT]`
abbrev pub lift_parameters : List Parameter
lift_parameters = place 1 (codes "prog") any true ∷ option (codes "base") any None ∷ option (codes "misses") any None ∷ []

-- `run PROG [IR] [--strict] [--serial] [--turn N] [--hold N] [--steps N] [--report NAME] [--journal NAME]`
abbrev pub run_parameters : List Parameter
run_parameters =
    flag (codes "strict") ∷ flag (codes "serial") ∷ place 1 (codes "prog") any true ∷ place 2 (codes "ir") any false ∷ option (codes "report") any None ∷ option (codes "journal") any None
    ∷ option (codes "turn") (numbers 1 65536) (Some (codes "1024")) ∷ option (codes "hold") (numbers 0 255) (Some (codes "2")) ∷ option (codes "steps") (numbers 1 134217728) (Some (codes "4194304")) ∷ []

-- `gen NUMBER THREADS ROUNDS NAME`
abbrev pub gen_parameters : List Parameter
gen_parameters =
    place 1 (codes "number") (numbers 0 4294967295) true ∷ place 2 (codes "threads") (numbers 1 63) true ∷ place 3 (codes "rounds") (numbers 1 1000000) true ∷ place 4 (codes "name") any true ∷ []
