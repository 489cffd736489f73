-- Rounds of workers up to the end of a run.
use Rattle.std.specs.Prelude.{◌≡◌, ℕ, ◌<◌, true, ◌||◌, List, [], length, slice_index_or, Some, IsSome}
use Rattle.atomic_table.specs.Seated.{TableId}
use Rattle.turn_lock.specs.declared.pass.Pass.{Pass}
use Rattle.turn_lock.specs.Words.{lock_of, pass_number}
use Rattle.machine_model.specs.CaseData.{CaseData}
use Rattle.hall_core.specs.Hall.{machine}
use Rattle.ir_runner.specs.Outputs.{Gains, GainsBy, HoldsPart, Written}
use Rattle.thread_step.specs.declared.context.Context.{Context}
use Rattle.thread_step.specs.declared.rules.Rules.{Rules}
use Rattle.thread_step.specs.declared.rules.Turned.{Turned}
use Rattle.thread_step.specs.declared.rules.Turned.TheVariants.{Ran, Waiting, Ended, Idle, Memory}
use Rattle.thread_step.specs.Context.{HallOf, IsContext, Saw, context_pass, context_slot}
use Rattle.thread_step.specs.Turned.{AreRules}
use Rattle.worker_runner.specs.declared.round.Worker.{Worker}
use Rattle.worker_runner.specs.declared.watch.Over.{Over}
use Rattle.worker_runner.specs.declared.watch.Over.TheVariants as over
use Rattle.worker_runner.specs.declared.watch.Place.{Place}
use Rattle.worker_runner.specs.Watched.{IsPlace, library_of}

-- the context of a slot may take a turn in a run of this case
pub record IsReadyAt (key : TableId) (c : CaseData) (slot : ℕ) (ctx : Context) : Type 0 where
  pub hall : HallOf
  pub context : IsContext key ctx hall
  pub case : hall.case ≡ c
  pub its : context_slot ctx ≡ slot

-- the context of a slot has its pass, which saw a state of this case
pub record IsHeldAt (key : TableId) (c : CaseData) (slot : ℕ) (ctx : Context) : Type 0 where
  pub pass : Pass HallOf
  pub there : context_pass ctx ≡ Some pass
  pub lock : lock_of pass ≡ key
  pub number : pass_number pass ≡ slot
  pub hall : HallOf
  pub saw : Saw pass hall
  pub case : hall.case ≡ c

-- memory wasn't wanting in a turn
abbrev pub HadMemory : Turned → Type 0
HadMemory Ran = Unit {0}
HadMemory Waiting = Unit {0}
HadMemory Ended = Unit {0}
HadMemory Idle = Unit {0}
HadMemory (Memory e) = ⊥

module _ {N : Type 0} where
  abbrev pub AreReady : TableId → CaseData → List (Worker N) → Type 0
  AreReady key c workers = (length workers ≡ 64) × ((k : ℕ) (d : Worker N) → k < length workers → IsReadyAt key c k (slice_index_or workers k d).ctx)

  abbrev pub AreHeld : TableId → CaseData → List (Worker N) → Type 0
  AreHeld key c workers = (length workers ≡ 64) × ((k : ℕ) (d : Worker N) → k < length workers → IsHeldAt key c k (slice_index_or workers k d).ctx)

  -- nothing was written, the driver's pass saw a state of this case without outputs, and all workers are ready
  pub record Starts (key : TableId) (c : CaseData) (r : Rules) (p : Pass HallOf) (at : Place) (workers : List (Worker N)) : Type 0 where
    pub hall : HallOf
    pub saw : Saw p hall
    pub case : hall.case ≡ c
    pub place : IsPlace at hall
    pub first : (library_of hall).out1 ≡ []
    pub second : (library_of hall).out2 ≡ []
    pub ready : AreReady key c workers
    pub rules : AreRules c r

-- what a run comes to, with all that it wrote
abbrev pub EndIs : Over → HallOf → Written → Written → Type 0
EndIs over.On h out err = Gains out (library_of h).out1 × Gains err (library_of h).out2
EndIs over.Ended h out err = Gains out (library_of h).out1 × Gains err (library_of h).out2 × IsSome (machine h).ending
EndIs (over.Stopped first second) h out err = ((first || second) ≡ true) × GainsBy first out (library_of h).out1 × GainsBy second err (library_of h).out2
EndIs (over.Memory e) h out err = HoldsPart out (library_of h).out1 × HoldsPart err (library_of h).out2

-- the state that the driver's pass saw last, when the run came to this
pub record CameTo (a : Over) (p : Pass HallOf) (c : CaseData) (at : Place) (out err : Written) : Type 0 where
  pub hall : HallOf
  pub saw : Saw p hall
  pub case : hall.case ≡ c
  pub place : IsPlace at hall
  pub end : EndIs a hall out err
