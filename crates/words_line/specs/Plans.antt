-- The plan of a line by the value of each name, as clap's matches have it.
use Rattle.std.specs.Prelude.{ℕ, ◌≤◌, Bool, false, List, [], Option, Some, None, unwrap_or, if◌then◌else◌, codes, ⊤}
use Rattle.std.specs.Option.{option_map_or}
use Rattle.std.specs.Str.{bytes_eq}
use Rattle.std.specs.Str.Parse.{digits_value, without_leading_plus}
use Rattle.clap.specs.Words.{Row, Text, first_of}
use Rattle.clap.specs.ValueTests.{is_unsigned_in}
use Rattle.words_line.specs.declared.plan.Plan.{Plan}
use Rattle.words_line.specs.declared.plan.Plan.TheVariants.{Lift, Run, Gen}

-- the first value of each name
abbrev pub given : List Row → Text → Option Text
given rows id = first_of id rows

-- the text that is given
abbrev pub text_of : Option Text → Text
text_of t = unwrap_or t []

abbrev pub text_at : Text → List Row → Text
text_at id rows = text_of (first_of id rows)

-- the flag stands
abbrev pub is_set : Option Text → Bool
is_set t = option_map_or (λ t. bytes_eq t (codes "true")) t false

abbrev pub flag_at : Text → List Row → Bool
flag_at id rows = is_set (first_of id rows)

-- the number that the text spells, where it is one from low to high: clap lets no other pass
abbrev pub number_in : ℕ → ℕ → Option Text → ℕ
number_in low high None = low
number_in low high (Some t) = if is_unsigned_in low high t then digits_value 10 (without_leading_plus t) else low

abbrev pub number_at : ℕ → ℕ → Text → List Row → ℕ
number_at low high id rows = number_in low high (first_of id rows)

-- the plans, by the value of each name

abbrev pub lift_plan : (Text → Option Text) → Plan
lift_plan value = Lift (text_of (value (codes "prog"))) (value (codes "base")) (value (codes "misses"))

abbrev pub run_plan : List Text → (Text → Option Text) → Plan
run_plan args value =
    Run (text_of (value (codes "prog"))) (value (codes "ir")) (is_set (value (codes "strict"))) (is_set (value (codes "serial"))) (number_in 1 65536 (value (codes "turn"))) (number_in 0 255 (value (codes "hold")))
    (number_in 1 134217728 (value (codes "steps"))) (value (codes "report")) (value (codes "journal")) args

abbrev pub gen_plan : (Text → Option Text) → Plan
gen_plan value =
    Gen (number_in 0 4294967295 (value (codes "number"))) (number_in 1 63 (value (codes "threads"))) (number_in 1 1000000 (value (codes "rounds"))) (text_of (value (codes "name")))

-- the plan's numbers are in their ranges
abbrev pub IsInRange : Plan → Type 0
IsInRange (Lift prog base misses) = ⊤
IsInRange (Run prog ir strict serial turn hold steps report journal args) = (1 ≤ turn) × (turn ≤ 65536) × (hold ≤ 255) × (1 ≤ steps) × (steps ≤ 134217728)
IsInRange (Gen number threads rounds name) = (number ≤ 4294967295) × (1 ≤ threads) × (threads ≤ 63) × (1 ≤ rounds) × (rounds ≤ 1000000)
