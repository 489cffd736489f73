-- A thread's turn.
use Rattle.std.specs.Prelude.{◌≡◌, ◌<◌, ◌≤◌, ℕ, Bool, true, false, List, [], ◌++◌, Some, None, IsSome, Result, Ok, Err, suc}
use Rattle.std.specs.declared.alloc.AllocError.{AllocError}
use Rattle.address_space.specs.Slots.{slot_of}
use Rattle.guest_state.specs.declared.virtual_state.Virtual.{Virtual}
use Rattle.ir_syntax.specs.declared.block.Block.{Block}
use Rattle.journal_pack.specs.declared.entry.Entry.{Entry}
use Rattle.machine_model.specs.CaseData.{CaseData}
use Rattle.machine_model.specs.Gated.{Stand, stand_at}
use Rattle.machine_model.specs.Ready.{HasGrown}
use Rattle.machine_model.specs.Serial as serial
use Rattle.machine_model.specs.Serial.{AreReaches, AtEvent, AtLimit, AtMiss, AtMost, Reaches, Rule, Turn, turn, turn_from}
use Rattle.machine_model.specs.State.{is_live}
use Rattle.machine_model.specs.Step.{cpu_at, waits_at}
use Rattle.hall_core.specs.Hall.{HallData, both, mark_at}
use Rattle.guest_parts.specs.Points.{Acts, ComesTo, point_at, waiting_of}
use Rattle.guest_steps.specs.declared.own.Own.{Own}
use Rattle.thread_step.specs.declared.rules.Rules.{Rules}
use Rattle.thread_step.specs.declared.rules.Turned.{Turned}
use Rattle.thread_step.specs.declared.rules.Turned.TheVariants.{Ran, Waiting, Ended, Idle, Memory}
use Rattle.guest_steps.specs.declared.stretch.Came.{Came}
use Rattle.guest_steps.specs.declared.stretch.Came.TheVariants as came
use Rattle.guest_steps.specs.Ages.{AreAges}
use Rattle.guest_steps.specs.Kept.{Table}
use Rattle.guest_entries.specs.Entered.{AlongIn, Asking, Entered, OthersKeepMarks, Partly, Waited, turn_in}
use Rattle.guest_entries.specs.Steps.{Adds}
use Rattle.thread_step.specs.Costs.{Spends}
use Rattle.guest_steps.specs.Stretched.{StopsAt}

-- ---- one entry

-- the rule of a turn by which a guest stops
abbrev pub rule_of : Came → Rule
rule_of came.Limit = AtLimit
rule_of came.Most = AtMost
rule_of (came.Missing a) = AtMiss
rule_of (came.Library a what) = AtEvent
rule_of (came.Asks r) = AtEvent

-- the guest stands with its thread where it stops
abbrev pub StopsIn : Came → HallData Block → ℕ → Own → Table → Stand → Type 0
StopsIn came.Limit h t own table d = AlongIn h t own table d × StopsAt came.Limit h.case (both h) own d
StopsIn came.Most h t own table d = AlongIn h t own table d × StopsAt came.Most h.case (both h) own d
StopsIn (came.Missing a) h t own table d = AlongIn h t own table d × StopsAt (came.Missing a) h.case (both h) own d
StopsIn (came.Library a what) h t own table d = AlongIn h t own table d × StopsAt (came.Library a what) h.case (both h) own d
StopsIn (came.Asks r) h t own table d = (v : Virtual) × Asking h t own table v d r

-- what is done there: true where the thread has to wait
abbrev pub ActIs : Result Bool AllocError → HallData Block → HallData Block → ℕ → Own → Own → Table → Stand → Rule → Type 0
ActIs (Ok false) old new t before after table d r = Entered old new t before after table d r
ActIs (Ok true) old new t before after table d r = Waited old new t before after table d × (r ≡ AtEvent)
ActIs (Err e) old new t before after table d r = Partly old new t before after table d r

-- thread t stands at a call that waits for another thread
abbrev pub StandsAtWait : HallData Block → ℕ → Type 0
StandsAtWait h t = waits_at h.case.image (both h).machine t (cpu_at (both h).machine (slot_of t)) ≡ true

-- a guest that may begin a turn, at this stand of its thread
pub record Ready (h : HallData Block) (t : ℕ) (own : Own) (table : Table) (d : Stand) : Type 0 where
  pub along : AlongIn h t own table d
  pub grown : HasGrown h.case.image (both h) (slot_of t)
  pub fresh : AreAges 255 own.ages

-- One entry of the budget: the private steps before it, and what the turn does after them. The guest goes on where the run
-- does and the thread lives.
pub record OneEntry (old new : HallData Block) (t : ℕ) (before after : Own) (table : Table) (d : Stand) (x : Turn) : Type 0 where
  pub case : new.case ≡ old.case
  pub stop : Stand
  pub k : ℕ
  pub rule : Rule
  pub comes : ComesTo old.case (both old) (point_at before.k d) (point_at k stop) rule
  pub acts : Acts old.case t (point_at k stop) (turn_in old before.ages) rule x
  pub told : after.k ≡ 0
  pub marks : OthersKeepMarks old new t

pub record Went (old new : HallData Block) (t : ℕ) (before after : Own) (table : Table) (d : Stand) : Type 0 where
  pub one : OneEntry old new t before after table d (turn_in new after.ages)
  pub on : (both new).machine.ending ≡ None → is_live (both new).machine t ≡ true → Ready new t after table (stand_at (both new) (slot_of t))
  pub gone : (both new).machine.ending ≡ None → is_live (both new).machine t ≡ false → after.ages ≡ []

pub record Stayed (old new : HallData Block) (t : ℕ) (before after : Own) (table : Table) (d : Stand) : Type 0 where
  pub one : OneEntry old new t before after table d (waiting_of (both new) new.journal after.ages)
  pub ready : Ready new t after table (stand_at (both new) (slot_of t))
  pub none : after.ages ≡ []
  pub stuck : StandsAtWait new t
  pub marked : IsSome (mark_at new (slot_of t))

-- memory was wanting; what was done so far is how the turn goes on, with any budget
pub record Broke (old new : HallData Block) (t : ℕ) (before after : Own) (table : Table) (d : Stand) : Type 0 where
  pub case : new.case ≡ old.case
  pub stand : Stand
  pub along : AlongIn new t after table stand
  pub fresh : AreAges 255 after.ages
  pub begins : (reach : Reaches) → AreReaches old.case.image reach → (left : ℕ) (x : Turn) → turn_from old.case reach t (suc left) (point_at before.k d) (turn_in old before.ages) ≡ Some x → (rest : List Entry) × (x.journal ≡ new.journal ++ rest)
  pub adds : Adds t old.journal new.journal
  pub spent : Spends t 1 0 old.journal new.journal
  pub marks : OthersKeepMarks old new t

abbrev pub EntryIs : Result Bool AllocError → HallData Block → HallData Block → ℕ → Own → Own → Table → Stand → Type 0
EntryIs (Ok false) old new t before after table d = Went old new t before after table d
EntryIs (Ok true) old new t before after table d = Stayed old new t before after table d
EntryIs (Err e) old new t before after table d = Broke old new t before after table d

-- ---- a turn

abbrev pub serial_rules : Rules → serial.Rules
serial_rules r = record { turn = r.turn; hold = r.hold }

-- a budget of 1 to 65,536, writes that wait for 255 turns at most, and strict as the case is
pub record AreRules (c : CaseData) (r : Rules) : Type 0 where
  pub turn : 0 < r.turn
  pub most : r.turn ≤ 65536
  pub hold : r.hold ≤ 255
  pub strict : r.strict ≡ c.strict

-- for every right reach the serial turn of the thread, from where its guest stood, comes to x
abbrev pub IsTurn : HallData Block → ℕ → Rules → Own → Stand → Turn → Type 0
IsTurn old t r before d x = (reach : Reaches) → AreReaches old.case.image reach → turn old.case reach (serial_rules r) t (point_at before.k d) (turn_in old before.ages) ≡ Some x

-- a turn to its end
pub record RanTurn (old new : HallData Block) (t : ℕ) (r : Rules) (before after : Own) (table : Table) (d : Stand) : Type 0 where
  pub case : new.case ≡ old.case
  pub turn : IsTurn old t r before d (turn_in new after.ages)
  pub going : (both new).machine.ending ≡ None
  pub told : after.k ≡ 0
  pub ready : is_live (both new).machine t ≡ true → Ready new t after table (stand_at (both new) (slot_of t))
  pub gone : is_live (both new).machine t ≡ false → after.ages ≡ []
  pub marks : OthersKeepMarks old new t

-- a turn to a call that waits
pub record WaitedTurn (old new : HallData Block) (t : ℕ) (r : Rules) (before after : Own) (table : Table) (d : Stand) : Type 0 where
  pub case : new.case ≡ old.case
  pub turn : IsTurn old t r before d (waiting_of (both new) new.journal after.ages)
  pub going : (both new).machine.ending ≡ None
  pub told : after.k ≡ 0
  pub ready : Ready new t after table (stand_at (both new) (slot_of t))
  pub none : after.ages ≡ []
  pub stuck : StandsAtWait new t
  pub marked : IsSome (mark_at new (slot_of t))
  pub marks : OthersKeepMarks old new t

-- a turn to the run's end
pub record EndedTurn (old new : HallData Block) (t : ℕ) (r : Rules) (before after : Own) (d : Stand) : Type 0 where
  pub case : new.case ≡ old.case
  pub turn : IsTurn old t r before d (turn_in new after.ages)
  pub ended : IsSome (both new).machine.ending
  pub marks : OthersKeepMarks old new t

-- a turn as far as memory went: its entries so far are how the turn's begin
pub record BrokenTurn (old new : HallData Block) (t : ℕ) (r : Rules) (before after : Own) (table : Table) (d : Stand) : Type 0 where
  pub case : new.case ≡ old.case
  pub stand : Stand
  pub along : AlongIn new t after table stand
  pub fresh : AreAges 255 after.ages
  pub begins : (x : Turn) → IsTurn old t r before d x → (reach : Reaches) → AreReaches old.case.image reach → (rest : List Entry) × (x.journal ≡ new.journal ++ rest)
  pub adds : Adds t old.journal new.journal
  pub marks : OthersKeepMarks old new t

abbrev pub TurnIs : Turned → HallData Block → HallData Block → ℕ → Rules → Own → Own → Table → Stand → Type 0
TurnIs Ran old new t r before after table d = RanTurn old new t r before after table d
TurnIs Waiting old new t r before after table d = WaitedTurn old new t r before after table d
TurnIs Ended old new t r before after table d = EndedTurn old new t r before after d
TurnIs Idle old new t r before after table d = ⊥
TurnIs (Memory e) old new t r before after table d = BrokenTurn old new t r before after table d
