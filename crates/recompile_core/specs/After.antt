-- What is left of files, input and sinks.
use Rattle.std.specs.Prelude.{◌≡◌, ◌⊎◌, ℕ, Bool, true, false, List, [], ◌++◌, take, Option, Some, None, IfSome, IsSome, ⊤}
use Rattle.std.specs.FinMap.{get, insert}
use Rattle.std.specs.List.{filter_map}
use Rattle.std.specs.Io.KnownBytes.{IsAtEnd}
use Rattle.endings.specs.declared.ending.Ending.{Ending}
use Rattle.endings.specs.declared.ending.Ending.TheVariants.{Absent, Done, Image, IrText, Memory, ReadFault, Report, Run, Stale, TooLong, TooMany, Twice, Usage, WriteFault}
use Rattle.endings.specs.Ending.{line_of}
use Rattle.journal_pack.specs.declared.entry.Entry.{Entry}
use Rattle.journal_pack.specs.declared.entry.Entry.TheVariants.{Ev, Tick, Flush, Wait, Miss, Grow, Over, Full, Dead}
use Rattle.journal_pack.specs.Packed.{packed}
use Rattle.machine_model.specs.CaseData.{CaseData}
use Rattle.machine_model.specs.State.{Machine}
use Rattle.machine_model.specs.Play.{play}
use Rattle.machine_model.specs.declared.ending.RunEnd.{RunEnd}
use Rattle.miss_report.specs.declared.miss.Miss.{Miss as MissData}
use Rattle.miss_report.specs.Report.{report}
use Rattle.mx_outside.specs.Bytes.{AppendsPrefix}
use Rattle.mx_outside.specs.Causes.{Rose}
use Rattle.mx_outside.specs.Names.{NameMap}
use Rattle.ir_runner.specs.Outputs.{Gains, GainsPart, Written}
use Rattle.recompile_core.specs.World.{FilesNow, InputNow}

-- ---- files

-- the miss of an entry
abbrev pub miss_of : Entry → Option MissData
miss_of (Ev t k) = None
miss_of (Tick t k) = None
miss_of (Flush t) = None
miss_of (Wait t k) = None
miss_of (Miss t k source target) = Some (record { thread = t; source = source; target = target })
miss_of (Grow t a) = None
miss_of (Over t k) = None
miss_of (Full t) = None
miss_of Dead = None

-- the misses of a journal, in order
abbrev pub misses : List Entry → List MissData
misses journal = filter_map miss_of journal

-- a file is written, if a name is given
abbrev pub with_file : Option (List ℕ) → List ℕ → NameMap → NameMap
with_file None bytes m = m
with_file (Some name) bytes m = insert m name bytes

-- the journal's file first, then the report's
abbrev pub with_files : (journal_name report_name : Option (List ℕ)) → List Entry → NameMap → NameMap
with_files journal_name report_name journal m = with_file report_name (report (misses journal)) (with_file journal_name (packed journal) m)

-- the files changed so, and no fault of writing counted
abbrev pub Wrote : FilesNow → FilesNow → (NameMap → NameMap) → Type 0
Wrote f g change = (g.writes ≡ f.writes) × IfSome f.names (λ m. g.names ≡ Some (change m))

abbrev pub unchanged : NameMap → NameMap
unchanged m = m

-- the file of this name isn't one that a run writes
abbrev pub IsOther : Option (List ℕ) → List ℕ → Type 0
IsOther None name = ⊤
IsOther (Some given) name = name ≡ given → ⊥

-- each other file has what it had
pub record KeepsOther (journal_name report_name : Option (List ℕ)) (m n : NameMap) : Type 0 where
  pub each : (name : List ℕ) → IsOther journal_name name → IsOther report_name name → get n name ≡ get m name

abbrev pub OthersKept : FilesNow → FilesNow → (journal_name report_name : Option (List ℕ)) → Type 0
OthersKept f g journal_name report_name = IfSome f.names (λ m. (n : NameMap) × (g.names ≡ Some n) × KeepsOther journal_name report_name m n)

-- What the files hold after a failure: no file changed but the two, and these hold what they did, the journal, or the report,
-- unless a fault of writing counted.
pub record FilesAfter (f g : FilesNow) (journal_name report_name : Option (List ℕ)) (journal : List Entry) : Type 0 where
  pub others : OthersKept f g journal_name report_name
  pub stages : Rose f.writes g.writes ⊎ (Wrote f g unchanged ⊎ (Wrote f g (with_file journal_name (packed journal)) ⊎ Wrote f g (with_files journal_name report_name journal)))

-- ---- the input

-- read to its end where the image has a place of `read`, else not at all
abbrev pub InputRead : Bool → InputNow → InputNow → Type 0
InputRead true i j = IsAtEnd j.left
InputRead false i j = j ≡ i

-- ---- sinks after want of memory or a failure of writing

-- the bytes were appended, all of them unless the count rose
abbrev pub GainsOrFails : Written → List ℕ → Type 0
GainsOrFails sink bytes = Gains sink bytes ⊎ GainsPart sink bytes

-- a part of an output, and then a line
abbrev pub part_and_line : List ℕ → ℕ → Ending → List ℕ
part_and_line out n ending = take n out ++ line_of ending

-- what `out` has: a first part of the machine's output, and after a failure of writing the whole of it unless `out` failed
abbrev pub OutAfter : Ending → Machine → Written → Type 0
OutAfter Memory m out = AppendsPrefix out.old out.new m.library.out1
OutAfter WriteFault m out = GainsOrFails out m.library.out1
OutAfter (Run e) m out = ⊤
OutAfter Done m out = ⊤
OutAfter (Usage fault) m out = ⊤
OutAfter (Image number) m out = ⊤
OutAfter ReadFault m out = ⊤
OutAfter Absent m out = ⊤
OutAfter (IrText fault) m out = ⊤
OutAfter (Stale address file lifted) m out = ⊤
OutAfter (Report fault) m out = ⊤
OutAfter TooLong m out = ⊤
OutAfter (Twice address) m out = ⊤
OutAfter TooMany m out = ⊤

-- `err` failed in the line of the machine's own ending
abbrev pub FailsInRunLine : Machine → Written → Type 0
FailsInRunLine m err = (n : ℕ) × (e : RunEnd) × (m.ending ≡ Some e) × GainsPart err (part_and_line m.library.out2 n (Run e))

-- What `err` has: a first part of the machine's output and then the line, or, where `err` failed, a first part of these. After a
-- failure of writing it has the whole of the output, unless it failed.
abbrev pub ErrAfter : Ending → Machine → Written → Type 0
ErrAfter Memory m err = (n : ℕ) × GainsOrFails err (part_and_line m.library.out2 n Memory)
ErrAfter WriteFault m err = Gains err (m.library.out2 ++ line_of WriteFault) ⊎ (((n : ℕ) × GainsPart err (part_and_line m.library.out2 n WriteFault)) ⊎ FailsInRunLine m err)
ErrAfter (Run e) m err = ⊤
ErrAfter Done m err = ⊤
ErrAfter (Usage fault) m err = ⊤
ErrAfter (Image number) m err = ⊤
ErrAfter ReadFault m err = ⊤
ErrAfter Absent m err = ⊤
ErrAfter (IrText fault) m err = ⊤
ErrAfter (Stale address file lifted) m err = ⊤
ErrAfter (Report fault) m err = ⊤
ErrAfter TooLong m err = ⊤
ErrAfter (Twice address) m err = ⊤
ErrAfter TooMany m err = ⊤

-- after a failure of writing in which no sink failed the machine has an ending
abbrev pub EndedUnlessFailed : Ending → Machine → Written → Written → Type 0
EndedUnlessFailed WriteFault m out err = Rose out.before out.now ⊎ (Rose err.before err.now ⊎ IsSome m.ending)
EndedUnlessFailed Memory m out err = ⊤
EndedUnlessFailed (Run e) m out err = ⊤
EndedUnlessFailed Done m out err = ⊤
EndedUnlessFailed (Usage fault) m out err = ⊤
EndedUnlessFailed (Image number) m out err = ⊤
EndedUnlessFailed ReadFault m out err = ⊤
EndedUnlessFailed Absent m out err = ⊤
EndedUnlessFailed (IrText fault) m out err = ⊤
EndedUnlessFailed (Stale address file lifted) m out err = ⊤
EndedUnlessFailed (Report fault) m out err = ⊤
EndedUnlessFailed TooLong m out err = ⊤
EndedUnlessFailed (Twice address) m out err = ⊤
EndedUnlessFailed TooMany m out err = ⊤

-- the journal is played to a machine, and these parts of its outputs stand in the sinks
pub record Leaves (out err : Written) (c : CaseData) (journal : List Entry) (ending : Ending) : Type 0 where
  pub machine : Machine
  pub played : play c journal ≡ Some machine
  pub left_out : OutAfter ending machine out
  pub left_err : ErrAfter ending machine err
  pub ended : EndedUnlessFailed ending machine out err

-- an ending for want of memory or by a failure of writing
abbrev pub IfFailure : Ending → Type 0 → Type 0
IfFailure Memory P = P
IfFailure WriteFault P = P
IfFailure (Run e) P = ⊤
IfFailure Done P = ⊤
IfFailure (Usage fault) P = ⊤
IfFailure (Image number) P = ⊤
IfFailure ReadFault P = ⊤
IfFailure Absent P = ⊤
IfFailure (IrText fault) P = ⊤
IfFailure (Stale address file lifted) P = ⊤
IfFailure (Report fault) P = ⊤
IfFailure TooLong P = ⊤
IfFailure (Twice address) P = ⊤
IfFailure TooMany P = ⊤

-- without a case nothing stands in `out`, the last line in `err`, or a part of it where `err` failed, and no file changed
pub record IsRefused (f g : FilesNow) (out err : Written) (ending : Ending) : Type 0 where
  pub left_out : Gains out []
  pub left_err : GainsOrFails err (line_of ending)
  pub names : g.names ≡ f.names
  pub writes : g.writes ≡ f.writes
