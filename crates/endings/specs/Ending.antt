-- What each ending answers and writes last.
use Rattle.std.specs.Prelude.{ℕ, ◌%◌, false, List, [], ◌++◌, codes}
use Rattle.std.specs.Fmt.{decimal, digits}
use Rattle.lib_table.specs.declared.answer.BadKind.{BadKind}
use Rattle.lib_table.specs.declared.answer.BadKind.TheVariants.{Access, Code, Depth, Divide, Door}
use Rattle.machine_model.specs.declared.ending.RunEnd.{RunEnd}
use Rattle.machine_model.specs.declared.ending.RunEnd.TheVariants as end
use Rattle.miss_report.specs.Miss as miss
use Rattle.words_line.specs.declared.plan.WordsFault.{WordsFault}
use Rattle.words_line.specs.declared.plan.WordsFault.TheVariants.{Line, NoCommand, UnknownCommand}
use Rattle.endings.specs.declared.ending.Ending.{Ending}
use Rattle.endings.specs.declared.ending.Ending.TheVariants.{Absent, Done, Image, IrText, Memory, ReadFault, Report, Run, Stale, TooLong, TooMany, Twice, Usage, WriteFault}

-- ---- statuses

abbrev pub status_of_run : RunEnd → ℕ
status_of_run (end.Exit number) = number % 256
status_of_run (end.Miss m) = 81
status_of_run (end.Fault thread rip kind) = 82
status_of_run end.Deadlock = 83
status_of_run end.Steps = 84
status_of_run (end.Full thread place) = 85

abbrev pub status_of : Ending → ℕ
status_of (Run e) = status_of_run e
status_of Done = 0
status_of (Usage fault) = 64
status_of (Image number) = 65
status_of ReadFault = 66
status_of Absent = 79
status_of (IrText fault) = 67
status_of (Stale address file lifted) = 68
status_of (Report fault) = 69
status_of TooLong = 70
status_of Memory = 71
status_of (Twice address) = 72
status_of TooMany = 73
status_of WriteFault = 74

-- ---- lines

abbrev pub hexadecimal : ℕ → List ℕ
hexadecimal n = codes "0x" ++ digits 16 false n

-- why a step can't be made, at the end of a line
abbrev pub kind_text : BadKind → List ℕ
kind_text Code = codes "code\n"
kind_text (Access a) = codes "access " ++ (hexadecimal a ++ codes "\n")
kind_text Divide = codes "divide\n"
kind_text Depth = codes "depth\n"
kind_text Door = codes "door\n"

abbrev pub exit_line : ℕ → List ℕ
exit_line number = codes "exit " ++ (decimal (number % 256) ++ codes "\n")

abbrev pub fault_line : ℕ → ℕ → BadKind → List ℕ
fault_line thread rip kind = codes "fault thread " ++ (decimal thread ++ (codes " at " ++ (hexadecimal rip ++ (codes ": " ++ kind_text kind))))

abbrev pub full_line : ℕ → ℕ → List ℕ
full_line thread place = codes "full thread " ++ (decimal thread ++ (codes " at " ++ (hexadecimal place ++ codes "\n")))

abbrev pub line_of_run : RunEnd → List ℕ
line_of_run (end.Exit number) = exit_line number
line_of_run (end.Miss m) = miss.line m
line_of_run (end.Fault thread rip kind) = fault_line thread rip kind
line_of_run end.Deadlock = codes "deadlock\n"
line_of_run end.Steps = codes "steps\n"
line_of_run (end.Full thread place) = full_line thread place

abbrev pub usage_line : WordsFault → List ℕ
usage_line NoCommand = codes "usage: no command\n"
usage_line UnknownCommand = codes "usage: unknown command\n"
usage_line Line = codes "usage: bad line\n"

abbrev pub image_line : ℕ → List ℕ
image_line number = codes "image: fault " ++ (decimal number ++ codes "\n")

abbrev pub text_line : (line column : ℕ) → List ℕ
text_line line column = codes "ir text: line " ++ (decimal line ++ (codes " column " ++ (decimal column ++ codes "\n")))

abbrev pub report_line : ℕ → List ℕ
report_line line = codes "report: line " ++ (decimal line ++ codes "\n")

-- a block's address, after these words
abbrev pub block_line : List ℕ → ℕ → List ℕ
block_line words address = words ++ (hexadecimal address ++ codes "\n")

-- the last line, with its newline; none where the work was done
abbrev pub line_of : Ending → List ℕ
line_of (Run e) = line_of_run e
line_of Done = []
line_of (Usage fault) = usage_line fault
line_of (Image number) = image_line number
line_of ReadFault = codes "read fault\n"
line_of Absent = codes "no file\n"
line_of (IrText fault) = text_line fault.line fault.column
line_of (Stale address file lifted) = block_line (codes "stale block ") address
line_of (Report fault) = report_line fault.line
line_of TooLong = codes "too long\n"
line_of Memory = codes "no memory\n"
line_of (Twice address) = block_line (codes "block twice ") address
line_of TooMany = codes "too many blocks\n"
line_of WriteFault = codes "write fault\n"
