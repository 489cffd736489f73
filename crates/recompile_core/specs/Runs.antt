-- What the parts of a call answer each other.
use Rattle.std.specs.Prelude.{◌≡◌, ◌⊎◌, ℕ, Bool, true, false, ◌||◌, List, [], Option, Some, None, IfSome, IfNone, Result, Ok, Err, ⊤}
use Rattle.endings.specs.declared.ending.Ending.{Ending}
use Rattle.endings.specs.declared.ending.Ending.TheVariants.{Absent, Done, Image, IrText, Memory, ReadFault, Report, Run, Stale, TooLong, TooMany, Twice, Usage, WriteFault}
use Rattle.endings.specs.Ending.{line_of}
use Rattle.endings.specs.Line.{LastLine}
use Rattle.journal_pack.specs.declared.entry.Entry.{Entry}
use Rattle.machine_model.specs.CaseData.{CaseData}
use Rattle.machine_model.specs.Gated.{IsGated}
use Rattle.machine_model.specs.Play.{play}
use Rattle.machine_model.specs.Serial as serial
use Rattle.machine_model.specs.State.{Machine}
use Rattle.mx_outside.specs.Causes.{Rose}
use Rattle.machine_model.specs.declared.ending.RunEnd.{RunEnd}
use Rattle.ir_runner.specs.declared.run.Ran.{Ran}
use Rattle.ir_runner.specs.declared.run.Ran.TheVariants as ran
use Rattle.ir_runner.specs.Outputs.{Gains, GainsBy, HoldsPart, Written}
use Rattle.run_start.specs.declared.fault.StartFault.{StartFault}
use Rattle.run_start.specs.declared.fault.StartFault.TheVariants as start
use Rattle.words_line.specs.declared.plan.Plan.{Plan}
use Rattle.words_line.specs.declared.plan.WordsFault.{WordsFault}
use Rattle.recompile_core.specs.declared.answer.Answer.{Answer}
use Rattle.recompile_core.specs.declared.files.Unwritten.{Unwritten}
use Rattle.recompile_core.specs.declared.files.Unwritten.TheVariants as unwritten
use Rattle.recompile_core.specs.declared.run.Came.{Came}
use Rattle.recompile_core.specs.declared.run.Came.TheVariants as came
use Rattle.recompile_core.specs.Answer.{BeginsOrder, Ends, HasCase, IfRun, InOrder, IsCaseOfTask, JournalOf}
use Rattle.recompile_core.specs.Causes.{CauseOf}
use Rattle.machine_laws.specs.Cases.{reads_input}
use Rattle.recompile_core.specs.declared.plan.RunPlan.{RunPlan}
use Rattle.recompile_core.specs.After.{IfFailure, FilesAfter, InputRead, IsRefused, Leaves, Wrote, unchanged, with_files}
use Rattle.recompile_core.specs.Plans.{order_of, run_of}
use Rattle.recompile_core.specs.World.{FilesNow, World}

-- the plan is none to run a program, or memory was wanting
abbrev pub RefusesPlan : Plan → Ending → Type 0
RefusesPlan plan e = (e ≡ Memory) ⊎ ((fault : WordsFault) × (run_of plan ≡ Err fault) × (e ≡ Usage fault))

-- why a run can't begin, as an ending
abbrev pub ending_of : StartFault → Ending
ending_of (start.Image number) = Image number
ending_of start.ReadFault = ReadFault
ending_of start.Absent = Absent
ending_of (start.IrText fault) = IrText fault
ending_of (start.Stale address file lifted) = Stale address file lifted
ending_of (start.Twice address) = Twice address
ending_of start.TooLong = TooLong
ending_of start.TooMany = TooMany
ending_of (start.Memory e) = Memory

-- ---- a run

-- how the run came to its end, where this is the machine's ending
abbrev pub CameBy : Ran → Option RunEnd → Came → Type 0
CameBy ran.Ended end how = IfSome end (λ e. how ≡ came.Ended e)
CameBy (ran.Stopped out err) end how = how ≡ came.Stopped out err
CameBy (ran.Memory e) end how = how ≡ came.Memory

-- How the run came to its end: its journal, by the order that the run keeps, the machine's ending, and what the sinks have.
abbrev pub CameTo : Came → CaseData → Option serial.Rules → List Entry → Machine → Written → Written → Type 0
CameTo (came.Ended e) c o journal m out err = InOrder o c journal × (m.ending ≡ Some e) × Gains out m.library.out1 × Gains err m.library.out2
CameTo (came.Stopped first second) c o journal m out err = BeginsOrder o c journal × ((first || second) ≡ true) × GainsBy first out m.library.out1 × GainsBy second err m.library.out2
CameTo came.Memory c o journal m out err = BeginsOrder o c journal × HoldsPart out m.library.out1 × HoldsPart err m.library.out2

-- a journal that was made: it is played to a machine, and gated
pub record IsMade (c : CaseData) (o : Option serial.Rules) (journal : List Entry) (how : Came) (out err : Written) : Type 0 where
  pub machine : Machine
  pub played : play c journal ≡ Some machine
  pub gated : IsGated c journal
  pub came : CameTo how c o journal machine out err

-- ---- the files of a run

-- a fault of writing counted, or memory was wanting for the report and no file changed
abbrev pub ReportUnwritten : Unwritten → FilesNow → FilesNow → Type 0
ReportUnwritten unwritten.Failed f g = Rose f.writes g.writes
ReportUnwritten unwritten.Memory f g = Wrote f g unchanged

-- a fault of writing counted, or memory was wanting
abbrev pub UnwrittenBy : Unwritten → FilesNow → FilesNow → Type 0
UnwrittenBy unwritten.Failed f g = Rose f.writes g.writes
UnwrittenBy unwritten.Memory f g = ⊤

-- what is told after a run, before its last line is written
abbrev pub ending_by : Came → Result (Unit {0}) Unwritten → Ending
ending_by (came.Ended e) (Ok u) = Run e
ending_by (came.Ended e) (Err unwritten.Failed) = WriteFault
ending_by (came.Ended e) (Err unwritten.Memory) = Memory
ending_by (came.Stopped first second) files = WriteFault
ending_by came.Memory files = Memory

-- ---- the last line

-- the ending of a call whose last line was written or not: where a run's wasn't, that is a failure of writing
abbrev pub settled : Ending → Bool → Ending
settled (Run e) true = Run e
settled (Run e) false = WriteFault
settled Done written = Done
settled (Usage fault) written = Usage fault
settled (Image number) written = Image number
settled ReadFault written = ReadFault
settled Absent written = Absent
settled (IrText fault) written = IrText fault
settled (Stale address file lifted) written = Stale address file lifted
settled (Report fault) written = Report fault
settled TooLong written = TooLong
settled Memory written = Memory
settled (Twice address) written = Twice address
settled TooMany written = TooMany
settled WriteFault written = WriteFault

-- how the ending was told: shown, unless memory was wanting for it, and its line was written or not
pub record Told (ending final : Ending) (err : Written) : Type 0 where
  pub shown : Ending
  pub whole : Bool
  pub which : (shown ≡ ending) ⊎ (shown ≡ Memory)
  pub final_is : final ≡ settled shown whole
  pub line : LastLine whole err.before err.now err.old err.new (line_of shown)

-- an ending is told, unless the sink failed before; then nothing is written
abbrev pub Closes : Bool → Ending → Ending → Written → Type 0
Closes true ending final err = (final ≡ ending) × (err.now ≡ err.before) × (err.new ≡ err.old)
Closes false ending final err = Told ending final err

-- the second sink failed in the run
abbrev pub has_failed : Came → Bool
has_failed (came.Ended e) = false
has_failed (came.Stopped out err) = err
has_failed came.Memory = false

-- the files of a run that came to an ending are written, or not all of them; no other run changes a file
abbrev pub AskedFiles : Came → Result (Unit {0}) Unwritten → FilesNow → FilesNow → (journal_name report_name : Option (List ℕ)) → List Entry → Type 0
AskedFiles (came.Ended e) (Ok u) f g journal_name report_name journal = Wrote f g (with_files journal_name report_name journal) × FilesAfter f g journal_name report_name journal
AskedFiles (came.Ended e) (Err why) f g journal_name report_name journal = UnwrittenBy why f g × FilesAfter f g journal_name report_name journal
AskedFiles (came.Stopped out err) r f g journal_name report_name journal = g ≡ f
AskedFiles came.Memory r f g journal_name report_name journal = g ≡ f

-- the files were written or not, and then the ending was told
pub record Finished (how : Came) (ending : Ending) (f g : FilesNow) (err : Written) (journal_name report_name : Option (List ℕ)) (journal : List Entry) : Type 0 where
  pub left : Result (Unit {0}) Unwritten
  pub asked : AskedFiles how left f g journal_name report_name journal
  pub closes : Closes (has_failed how) (ending_by how left) ending err

-- ---- a run and its end

-- the ending is the machine's: the whole serial journal, its outputs and the line, and both files
pub record RunsTo (c : CaseData) (o : Option serial.Rules) (journal : List Entry) (e : RunEnd) (f g : FilesNow) (out err : Written) (journal_name report_name : Option (List ℕ)) : Type 0 where
  pub ends : Ends out err c journal e
  pub whole : InOrder o c journal
  pub files : Wrote f g (with_files journal_name report_name journal)

-- memory was wanting, or writing failed
pub record Breaks (c : CaseData) (o : Option serial.Rules) (journal : List Entry) (ending : Ending) (f g : FilesNow) (out err : Written) (journal_name report_name : Option (List ℕ)) : Type 0 where
  pub leaves : Leaves out err c journal ending
  pub begins : BeginsOrder o c journal
  pub files : FilesAfter f g journal_name report_name journal

-- a sink failed, or a file
abbrev pub WriteFailed : FilesNow → FilesNow → Written → Written → Type 0
WriteFailed f g out err = Rose out.before out.now ⊎ (Rose err.before err.now ⊎ Rose f.writes g.writes)

-- what a run came to, by its ending
pub record Played (c : CaseData) (o : Option serial.Rules) (journal : List Entry) (ending : Ending) (f g : FilesNow) (out err : Written) (journal_name report_name : Option (List ℕ)) : Type 0 where
  pub gated : IsGated c journal
  pub by_ending :
      ((e : RunEnd) × (ending ≡ Run e) × RunsTo c o journal e f g out err journal_name report_name)
      ⊎ (((ending ≡ WriteFault) × WriteFailed f g out err × Breaks c o journal WriteFault f g out err journal_name report_name)
      ⊎ ((ending ≡ Memory) × Breaks c o journal Memory f g out err journal_name report_name))

-- ---- a whole call

-- what an answer says of the run that was asked for
pub record IsAnswer (w : World) (p : RunPlan) (a : Answer) : Type 0 where
  pub case : IfSome a.case (IsCaseOfTask w.files.names w.input.left p.task)
  pub there : HasCase a.ending a.case
  pub journal : IfNone a.case (a.journal ≡ [])
  pub machine : IfRun a.ending (λ e. IfSome a.case (λ c. Ends w.out w.err c a.journal e))
  pub gated : IfSome a.case (λ c. IsGated c a.journal)
  pub serial : IfSome a.case (λ c. JournalOf a.ending c (order_of p) a.journal)
  pub after_failure : IfFailure a.ending (IfSome a.case (λ c. Leaves w.out w.err c a.journal a.ending × FilesAfter w.files w.files_after p.journal p.report a.journal))
  pub files : IfRun a.ending (λ e. Wrote w.files w.files_after (with_files p.journal p.report a.journal))
  pub input : IfRun a.ending (λ e. IfSome a.case (λ c. InputRead (reads_input c.image) w.input w.input_after))
  pub refused : IfNone a.case (IsRefused w.files w.files_after w.out w.err a.ending)
  pub cause : CauseOf w p.task a.ending

-- what an answer says where no run was asked for: what is wrong with the words, unless memory was wanting; nothing was read
pub record IsUsage (w : World) (a : Answer) (fault : WordsFault) : Type 0 where
  pub ending : (a.ending ≡ Usage fault) ⊎ (a.ending ≡ Memory)
  pub case : a.case ≡ None
  pub journal : a.journal ≡ []
  pub refused : IsRefused w.files w.files_after w.out w.err a.ending
  pub files : w.files_after ≡ w.files
  pub input : w.input_after ≡ w.input
