-- The plans that are carried out.
use Rattle.std.specs.Prelude.{◌≡◌, ◌<◌, ◌≤◌, if◌then◌else◌, true, ◌∷◌, Option, Some, None, Result, Ok, Err}
use Rattle.words_line.specs.declared.plan.Plan.{Plan}
use Rattle.words_line.specs.declared.plan.Plan.TheVariants.{Gen, Lift, Run}
use Rattle.words_line.specs.declared.plan.WordsFault.{WordsFault}
use Rattle.words_line.specs.declared.plan.WordsFault.TheVariants.{UnknownCommand}
use Rattle.machine_model.specs.Serial as serial
use Rattle.recompile_core.specs.declared.plan.RunPlan.{RunPlan}

-- The run that a plan asks for; the program's arguments begin with its file's name. Until they are built, `lift` and `gen`
-- are no commands.
abbrev pub run_of : Plan → Result RunPlan WordsFault
run_of (Lift prog base misses) = Err UnknownCommand
run_of (Gen number threads rounds name) = Err UnknownCommand
run_of (Run prog ir strict serial turn hold steps report journal args) =
    Ok (record { task = record { prog = prog; args = prog ∷ args; ir = ir; steps = steps; strict = strict }; serial = serial; turn = turn; hold = hold; journal = journal; report = report })

-- the run that the words ask for, or what is wrong with them
abbrev pub plan_of_run : Result Plan WordsFault → Result RunPlan WordsFault
plan_of_run (Ok plan) = run_of plan
plan_of_run (Err fault) = Err fault

abbrev pub rules_of : RunPlan → serial.Rules
rules_of p = record { turn = p.turn; hold = p.hold }

-- the serial order that a run keeps; a run by workers keeps none
abbrev pub order_of : RunPlan → Option serial.Rules
order_of p = if p.serial then Some (rules_of p) else None

-- the numbers of a run are in their ranges
pub record HasRanges (p : RunPlan) : Type 0 where
  pub turn : 0 < p.turn
  pub most : p.turn ≤ 65536
  pub hold : p.hold ≤ 255
  pub steps : p.task.steps ≤ 134217728

-- it keeps the serial order, too
abbrev pub IsPlain : RunPlan → Type 0
IsPlain p = HasRanges p × (p.serial ≡ true)
