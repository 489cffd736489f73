use Rattle.x86_forms.proofs.WorkedRows.{prefixes_worked, widths_worked, registers_worked, memory_worked, immediates_worked, fields_worked, jumps_worked, locks_worked, left_out_worked}
use Rattle.x86_forms.proofs.laws.worked_rows.Goals as goal

pub returns-clause-prefixes : goal.returns-clause-prefixes
returns-clause-prefixes c = prefixes_worked

pub returns-clause-widths : goal.returns-clause-widths
returns-clause-widths c = widths_worked

pub returns-clause-registers : goal.returns-clause-registers
returns-clause-registers c = registers_worked

pub returns-clause-memory : goal.returns-clause-memory
returns-clause-memory c = memory_worked

pub returns-clause-immediates : goal.returns-clause-immediates
returns-clause-immediates c = immediates_worked

pub returns-clause-fields : goal.returns-clause-fields
returns-clause-fields c = fields_worked

pub returns-clause-jumps : goal.returns-clause-jumps
returns-clause-jumps c = jumps_worked

pub returns-clause-locks : goal.returns-clause-locks
returns-clause-locks c = locks_worked

pub returns-clause-left_out : goal.returns-clause-left_out
returns-clause-left_out c = left_out_worked
