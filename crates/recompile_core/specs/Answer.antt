-- What is answered: the case, the journal, and the ending of the machine.
use Rattle.std.specs.Prelude.{◌≡◌, ℕ, List, ◌++◌, Option, Some, IfSome, IsSome, IsNone, ⊤}
use Rattle.endings.specs.declared.ending.Ending.{Ending}
use Rattle.endings.specs.declared.ending.Ending.TheVariants.{Absent, Done, Image, IrText, Memory, ReadFault, Report, Run, Stale, TooLong, TooMany, Twice, Usage, WriteFault}
use Rattle.endings.specs.Ending.{line_of}
use Rattle.journal_pack.specs.declared.entry.Entry.{Entry}
use Rattle.machine_model.specs.CaseData.{CaseData}
use Rattle.machine_model.specs.Play.{play}
use Rattle.machine_model.specs.Serial as serial
use Rattle.machine_model.specs.Serial.{IsSerial}
use Rattle.machine_model.specs.State.{Machine}
use Rattle.machine_model.specs.declared.ending.RunEnd.{RunEnd}
use Rattle.mx_outside.specs.Names.{NameMap}
use Rattle.ir_runner.specs.Outputs.{Gains, Written}
use Rattle.ir_runner.specs.Runs.{BeginsSerial}
use Rattle.run_start.specs.Case.{IsCaseOf}
use Rattle.run_start.specs.Refusal.{HasFile}
use Rattle.recompile_core.specs.declared.plan.Task.{Task}

-- ---- the case

-- a case is there after a run or a failure of writing, may be there where memory was wanting, and is never there after a refusal
abbrev pub HasCase : Ending → Option CaseData → Type 0
HasCase (Run e) case = IsSome case
HasCase Done case = IsNone case
HasCase (Usage fault) case = IsNone case
HasCase (Image number) case = IsNone case
HasCase ReadFault case = IsNone case
HasCase Absent case = IsNone case
HasCase (IrText fault) case = IsNone case
HasCase (Stale address file lifted) case = IsNone case
HasCase (Report fault) case = IsNone case
HasCase TooLong case = IsNone case
HasCase Memory case = ⊤
HasCase (Twice address) case = IsNone case
HasCase TooMany case = IsNone case
HasCase WriteFault case = IsSome case

-- The case of the run of a task, where these are the files' names and this is left of the input: that of the bytes that the
-- program's file has, and of the text of blocks, where one is named.
pub record IsCaseOfTask (names : Option NameMap) (left : Option (List ℕ)) (task : Task) (c : CaseData) : Type 0 where
  pub bytes : List ℕ
  pub file : HasFile names task.prog bytes
  pub case : IsCaseOf names task.ir bytes task.args left task.steps task.strict c

-- ---- the headline

-- After a run: the machine to which the journal is played has its ending, `out` grew by its first output, and `err` by its
-- second and then the line of the ending.
pub record Ends (out err : Written) (c : CaseData) (journal : List Entry) (e : RunEnd) : Type 0 where
  pub machine : Machine
  pub played : play c journal ≡ Some machine
  pub ending : machine.ending ≡ Some e
  pub gained_out : Gains out machine.library.out1
  pub gained_err : Gains err (machine.library.out2 ++ line_of (Run e))

abbrev pub IfRun : Ending → (RunEnd → Type 0) → Type 0
IfRun (Run e) P = P e
IfRun Done P = ⊤
IfRun (Usage fault) P = ⊤
IfRun (Image number) P = ⊤
IfRun ReadFault P = ⊤
IfRun Absent P = ⊤
IfRun (IrText fault) P = ⊤
IfRun (Stale address file lifted) P = ⊤
IfRun (Report fault) P = ⊤
IfRun TooLong P = ⊤
IfRun Memory P = ⊤
IfRun (Twice address) P = ⊤
IfRun TooMany P = ⊤
IfRun WriteFault P = ⊤

-- the whole journal of the serial run, where the run keeps its order
abbrev pub InOrder : Option serial.Rules → CaseData → List Entry → Type 0
InOrder o c journal = IfSome o (λ r. IsSerial c r journal)

-- what it begins with
abbrev pub BeginsOrder : Option serial.Rules → CaseData → List Entry → Type 0
BeginsOrder o c journal = IfSome o (λ r. BeginsSerial c r journal)

-- the whole one after a run to its ending, else what it begins with
abbrev pub JournalOf : Ending → CaseData → Option serial.Rules → List Entry → Type 0
JournalOf (Run e) c o journal = InOrder o c journal
JournalOf Done c o journal = BeginsOrder o c journal
JournalOf (Usage fault) c o journal = BeginsOrder o c journal
JournalOf (Image number) c o journal = BeginsOrder o c journal
JournalOf ReadFault c o journal = BeginsOrder o c journal
JournalOf Absent c o journal = BeginsOrder o c journal
JournalOf (IrText fault) c o journal = BeginsOrder o c journal
JournalOf (Stale address file lifted) c o journal = BeginsOrder o c journal
JournalOf (Report fault) c o journal = BeginsOrder o c journal
JournalOf TooLong c o journal = BeginsOrder o c journal
JournalOf Memory c o journal = BeginsOrder o c journal
JournalOf (Twice address) c o journal = BeginsOrder o c journal
JournalOf TooMany c o journal = BeginsOrder o c journal
JournalOf WriteFault c o journal = BeginsOrder o c journal
