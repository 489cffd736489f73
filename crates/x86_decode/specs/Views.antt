-- The code's structs of slices as the definitions' records of lists.
use Rattle.x86_forms.specs.Spelling.{Parts}
use Rattle.x86_forms.specs.Reading.{Head}
use Rattle.x86_decode.specs.declared.cursor.Front.{Front}
use Rattle.x86_decode.specs.declared.cursor.Pieces.{Pieces}

-- what stands before the operands
abbrev pub head_of : Front → Head
head_of f = record { prefixes = f.prefixes.now; rex = f.rex.now; escape = f.escape.now; opcode = f.opcode.now }

-- all bytes of an instruction
abbrev pub parts_of : Pieces → Parts
parts_of p = record { prefixes = p.front.prefixes.now; rex = p.front.rex.now; escape = p.front.escape.now; opcode = p.front.opcode.now; modrm = p.modrm.now; sib = p.sib.now; disp = p.disp.now; imm = p.imm.now }
