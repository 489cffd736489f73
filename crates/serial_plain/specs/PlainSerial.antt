-- What the plain, slow program keeps of the serial order.
use Rattle.std.specs.Prelude.{◌≡◌, ◌≤◌, ℕ, All, Bool, false, nat_lt, List, [], ◌∷◌, length, map, Option, None, Some, option_and_then, ⊤}
use Rattle.journal_pack.specs.declared.entry.Entry.{Entry}
use Rattle.machine_model.specs.CaseData.{CaseData}
use Rattle.machine_model.specs.Play.{play}
use Rattle.machine_model.specs.Serial.{Point, Reaches, Rule, Run, Turn, AtEvent, AtLimit, AtMiss, AtMost, GoesOn, act, event, flush_some, flushed_before, point_of, rule_at, stop_from}
use Rattle.machine_model.specs.State.{list_at}
use Rattle.x86_model.specs.Want.{want}
use Rattle.address_space.specs.Slots.{slot_of}
use Rattle.machine_plain.specs.declared.machine.PlainFault.{PlainFault}
use Rattle.serial_plain.specs.declared.turns.PlainPoint.{PlainPoint}
use Rattle.serial_plain.specs.declared.turns.PlainRule.{PlainRule}
use Rattle.serial_plain.specs.declared.turns.PlainRule.TheVariants as kept
use Rattle.serial_plain.specs.declared.turns.PlainTurn.{PlainTurn}
use Rattle.serial_plain.specs.declared.serial.PlainRun.{PlainRun}
use Rattle.serial_plain.specs.declared.serial.PlainSerial.{PlainSerial}
use Rattle.machine_plain.specs.Plain.{FaultsIn}

-- a turn under way, a point and a rule, as the program keeps them
abbrev pub turn_as : PlainTurn → Turn
turn_as t = record { both = t.walk; journal = t.journal.items; ages = t.ages.items; waiting = t.waiting }

abbrev pub point_as : PlainPoint → Point
point_as p = record { k = p.k; stand = p.stand }

abbrev pub rule_as : PlainRule → Rule
rule_as kept.AtLimit = AtLimit
rule_as kept.AtMiss = AtMiss
rule_as kept.AtMost = AtMost
rule_as kept.AtEvent = AtEvent
rule_as kept.GoesOn = GoesOn

-- the machine of a turn is that of its journal
abbrev pub IsPlayed : CaseData → Turn → Type 0
IsPlayed c s = play c s.journal ≡ Some s.both.machine

-- why a journal isn't played to its end, whichever it is
pub record FaultsOnTheWay (c : CaseData) (fault : PlainFault) : Type 0 where
  pub journal : List Entry
  pub faults : FaultsIn c journal fault

-- no write waits for more turns
abbrev pub AreYoung : ℕ → List ℕ → Type 0
AreYoung n ages = All (λ a. a ≤ n) ages

-- what a thread does from its last entry on, where a rule first holds
abbrev pub acts : CaseData → Reaches → ℕ → Turn → Option Turn
acts c reach t s = let q = stop_from c s.both 4096 (point_of s.both t) in act c reach t q s (rule_at c s.both q)

-- a step that isn't private, with the flushes before it
abbrev pub evented : CaseData → ℕ → Point → Turn → Option Turn
evented c t p s = option_and_then (event c t p) (flush_some c t (flushed_before (want c.image p.stand.cpu) (length (list_at s.both.machine (slot_of t)))) s)

-- a run under way, as the program keeps it
abbrev pub run_as : PlainRun → Run
run_as r = record { both = r.turn.walk; journal = r.turn.journal.items; ages = map (λ v. v.items) r.ages.items }

-- The machine of a run is that of its journal, each slot has ages, and no write waits for more turns.
pub record IsRun (c : CaseData) (n : ℕ) (run : Run) : Type 0 where
  pub played : play c run.journal ≡ Some run.both.machine
  pub slots : length run.ages ≡ 64
  pub young : All (AreYoung n) run.ages

-- a serial run that was told, or that there is none
abbrev pub Tells : Option PlainSerial → Option Run → Type 0
Tells None None = ⊤
Tells (Some told) (Some run) = (told.journal.items ≡ run.journal) × (told.machine ≡ run.both.machine)
Tells None (Some run) = ⊥
Tells (Some told) None = ⊥

-- the oldest write waits for too long
abbrev pub has_old : ℕ → List ℕ → Bool
has_old hold [] = false
has_old hold (a ∷ ages) = nat_lt hold a
