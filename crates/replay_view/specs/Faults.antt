-- Which faults a walker answers.
use Rattle.std.specs.Prelude.{◌≡◌, ℕ, ◌<◌, ◌≤◌, List, length, ⊤}
use Rattle.journal_pack.specs.declared.entry.Entry.{Entry}
use Rattle.machine_model.specs.CaseData.{CaseData}
use Rattle.replay_view.specs.declared.fault.EntryFault.{EntryFault}
use Rattle.replay_view.specs.declared.fault.StepFault.{StepFault}
use Rattle.replay_view.specs.declared.fault.StepFault.TheVariants as step_fault
use Rattle.replay_view.specs.declared.fault.FollowFault.{FollowFault}
use Rattle.replay_view.specs.declared.fault.FollowFault.TheVariants as follow_fault
use Rattle.replay_view.specs.Follow.{Fits, FitsIn, WalkData}

-- the fault fits the entry, at the place after those that were taken
abbrev pub FitsStep : WalkData → Entry → StepFault → Type 0
FitsStep w e (step_fault.Entry fault) = Fits w.case w.both e w.taken fault
FitsStep w e (step_fault.Memory x) = ⊤

-- the place that a fault names is below n, and there it fits, after the entries before it, which are taken
abbrev pub FaultsBelow : CaseData → List Entry → ℕ → EntryFault → Type 0
FaultsBelow c journal n fault = (p : ℕ) × (p < n) × FitsIn c journal fault p

-- the fault fits a journal that is followed for n entries
abbrev pub FollowFaults : CaseData → List Entry → ℕ → FollowFault → Type 0
FollowFaults c journal n (follow_fault.PastEnd len) = (len ≡ length journal) × (len < n)
FollowFaults c journal n (follow_fault.Entry fault) = (n ≤ length journal) × FaultsBelow c journal n fault
FollowFaults c journal n (follow_fault.Memory x) = n ≤ length journal

-- the fault of a step, as that of a journal
abbrev pub following : StepFault → FollowFault
following (step_fault.Entry fault) = follow_fault.Entry fault
following (step_fault.Memory x) = follow_fault.Memory x
