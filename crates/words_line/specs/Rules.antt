-- What a command takes, as clap's rules.
use Rattle.std.specs.Prelude.{ℕ, Bool, true, false, [], ◌∷◌, Some, codes}
use Rattle.clap.specs.Words.{App, Rule, Text, new_app, new_rule, with_rule}
use Rattle.clap.specs.Simple.{on_top}
use Rattle.clap.specs.declared.builder.action.ArgAction.TheVariants.{Set, SetTrue}
use Rattle.clap.specs.declared.builder.value_parser.ValueParser.TheVariants as vp

-- `--name`
abbrev pub flag : Text → Rule
flag name = record (new_rule name) { long = Some name; action = Some SetTrue }

-- `--name VALUE`
abbrev pub named : Text → Rule
named name = record (new_rule name) { long = Some name; action = Some Set }

-- `--name N`, from low to high, with what stands for it where it isn't named
abbrev pub number : Text → ℕ → ℕ → Text → Rule
number name low high default = record (new_rule name) { long = Some name; action = Some Set; parser = Some (vp.Unsigned low high); defaults = default ∷ [] }

-- a word by its place
abbrev pub placed : Text → Bool → Rule
placed name required = record (new_rule name) { action = Some Set; required = required }

-- a number by its place, from low to high
abbrev pub placed_number : Text → ℕ → ℕ → Rule
placed_number name low high = record (new_rule name) { action = Some Set; parser = Some (vp.Unsigned low high); required = true }

-- a command that knows no word for help
abbrev pub helpless : Text → App
helpless name = on_top (λ s. record s { disable_help_flag = true }) (new_app name)

-- `lift PROG [--base IR] [--misses REPORT]`
abbrev pub lift_app : App
lift_app = with_rule (with_rule (with_rule (helpless (codes "lift")) (placed (codes "prog") true)) (named (codes "base"))) (named (codes "misses"))

-- the numbers of a run: `[--turn N] [--hold N] [--steps N]`
abbrev pub with_numbers : App → App
with_numbers a = with_rule (with_rule (with_rule a (number (codes "turn") 1 65536 (codes "1024"))) (number (codes "hold") 0 255 (codes "2"))) (number (codes "steps") 1 134217728 (codes "4194304"))

-- the files of a run: `PROG [IR] [--report NAME] [--journal NAME]`
abbrev pub with_files : App → App
with_files a = with_rule (with_rule (with_rule (with_rule a (placed (codes "prog") true)) (placed (codes "ir") false)) (named (codes "report"))) (named (codes "journal"))

-- `run PROG [IR] [--strict] [--serial] [--turn N] [--hold N] [--steps N] [--report NAME] [--journal NAME]`
abbrev pub run_app : App
run_app = with_numbers (with_files (with_rule (with_rule (helpless (codes "run")) (flag (codes "strict"))) (flag (codes "serial"))))

-- `gen NUMBER THREADS ROUNDS NAME`
abbrev pub gen_app : App
gen_app =
    with_rule (with_rule (with_rule (with_rule (helpless (codes "gen")) (placed_number (codes "number") 0 4294967295)) (placed_number (codes "threads") 1 63)) (placed_number (codes "rounds") 1 1000000))
    (placed (codes "name") true)
