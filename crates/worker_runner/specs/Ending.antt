-- How a run by workers ends.
use Rattle.std.specs.Prelude.{◌≡◌, ℕ, ◌<◌, true, ◌||◌, List, ◌++◌, length, slice_index_or, IsSome}
use Rattle.atomic_table.specs.Seated.{TableId}
use Rattle.journal_pack.specs.declared.entry.Entry.{Entry}
use Rattle.turn_lock.specs.declared.pass.Pass.{Pass}
use Rattle.turn_lock.specs.Words.{lock_of, pass_number}
use Rattle.machine_model.specs.CaseData.{CaseData}
use Rattle.machine_model.specs.Gated.{Leads, begin}
use Rattle.hall_core.specs.Hall.{both, machine}
use Rattle.ir_runner.specs.declared.run.Ran.{Ran}
use Rattle.ir_runner.specs.declared.run.Ran.TheVariants.{Ended, Stopped, Memory}
use Rattle.ir_runner.specs.Outputs.{Gains, GainsBy, HoldsPart, Written}
use Rattle.thread_step.specs.Context.{HallOf, Saw}
use Rattle.worker_runner.specs.Watched.{library_of}

-- a pass of this lock and number, which saw a state of this case
pub record IsBack (key : TableId) (c : CaseData) (n : ℕ) (p : Pass HallOf) : Type 0 where
  pub lock : lock_of p ≡ key
  pub number : pass_number p ≡ n
  pub hall : HallOf
  pub saw : Saw p hall
  pub case : hall.case ≡ c

-- all passes are back, each in its place
abbrev pub AreBack : TableId → CaseData → List (Pass HallOf) → Type 0
AreBack key c passes = (length passes ≡ 65) × ((k : ℕ) (d : Pass HallOf) → k < length passes → IsBack key c k (slice_index_or passes k d))

-- the run went on from one state to another
pub record Goes (old new : HallOf) : Type 0 where
  pub case : new.case ≡ old.case
  pub entries : List Entry
  pub journal : new.journal ≡ old.journal ++ entries
  pub before : Leads old.case (begin old.case) old.journal (both old)
  pub after : Leads new.case (begin new.case) new.journal (both new)

-- What a run comes to, with all that it wrote. `Ended`: the machine has an ending, and each sink grew by its output. `Stopped`:
-- a sink that failed counted a fault more and grew by a first part, the other one by all. `Memory`: each grew by a first part.
abbrev pub WroteAll : Ran → HallOf → Written → Written → Type 0
WroteAll Ended h out err = IsSome (machine h).ending × Gains out (library_of h).out1 × Gains err (library_of h).out2
WroteAll (Stopped first second) h out err = ((first || second) ≡ true) × GainsBy first out (library_of h).out1 × GainsBy second err (library_of h).out2
WroteAll (Memory e) h out err = HoldsPart out (library_of h).out1 × HoldsPart err (library_of h).out2
