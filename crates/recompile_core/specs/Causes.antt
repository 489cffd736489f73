-- When each ending comes.
use Rattle.std.specs.Prelude.{◌≡◌, ◌⊎◌, ⊤}
use Rattle.endings.specs.declared.ending.Ending.{Ending}
use Rattle.endings.specs.declared.ending.Ending.TheVariants.{Absent, Done, Image, IrText, Memory, ReadFault, Report, Run, Stale, TooLong, TooMany, Twice, Usage, WriteFault}
use Rattle.mx_outside.specs.Causes.{Rose}
use Rattle.run_start.specs.declared.fault.StartFault.{StartFault}
use Rattle.run_start.specs.declared.fault.StartFault.TheVariants as start
use Rattle.run_start.specs.Refusal.{Counts, Refuses}
use Rattle.recompile_core.specs.declared.plan.Task.{Task}
use Rattle.recompile_core.specs.World.{FilesNow, InputNow, World}

abbrev pub counts_of : FilesNow → FilesNow → InputNow → InputNow → Counts
counts_of f g i j = record { files_before = f.reads; files_now = g.reads; input_before = i.faults; input_now = j.faults }

-- the task can't be begun
abbrev pub RefusesTask : World → Task → StartFault → Type 0
RefusesTask w task fault = Refuses w.files.names task.prog task.args task.ir w.input.left (counts_of w.files w.files_after w.input w.input_after) fault

-- no count of faults rose
pub record NoneRose (w : World) : Type 0 where
  pub reads : w.files_after.reads ≡ w.files.reads
  pub writes : w.files_after.writes ≡ w.files.writes
  pub input : w.input_after.faults ≡ w.input.faults
  pub out : w.out.now ≡ w.out.before
  pub err : w.err.now ≡ w.err.before

-- the cause of an ending of the run of a task
abbrev pub CauseOf : World → Task → Ending → Type 0
CauseOf w task (Run e) = NoneRose w
CauseOf w task Done = ⊥
CauseOf w task (Usage fault) = ⊥
CauseOf w task (Image number) = RefusesTask w task (start.Image number)
CauseOf w task ReadFault = RefusesTask w task start.ReadFault
CauseOf w task Absent = RefusesTask w task start.Absent
CauseOf w task (IrText fault) = RefusesTask w task (start.IrText fault)
CauseOf w task (Stale address file lifted) = RefusesTask w task (start.Stale address file lifted)
CauseOf w task (Report fault) = ⊥
CauseOf w task TooLong = RefusesTask w task start.TooLong
CauseOf w task Memory = ⊤
CauseOf w task (Twice address) = RefusesTask w task (start.Twice address)
CauseOf w task TooMany = RefusesTask w task start.TooMany
CauseOf w task WriteFault = Rose w.out.before w.out.now ⊎ (Rose w.err.before w.err.now ⊎ Rose w.files.writes w.files_after.writes)
