use Rattle.std.proofs.Common.{refl}
use Rattle.x86_forms.specs.Table.{table, is_opcode, opcode_count}
use Rattle.x86_forms.proofs.laws.table_size.Goals as goal

pub returns-clause-lines : goal.returns-clause-lines
unfolding table
returns-clause-lines c = refl

pub returns-clause-opcodes : goal.returns-clause-opcodes
unfolding table is_opcode opcode_count
returns-clause-opcodes c = refl

pub returns-clause-escaped_opcodes : goal.returns-clause-escaped_opcodes
unfolding table is_opcode opcode_count
returns-clause-escaped_opcodes c = refl
