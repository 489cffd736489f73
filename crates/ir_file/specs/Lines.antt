-- On which lines of a text the lines of its blocks stand.
use Rattle.std.specs.Prelude.{ℕ, ◌+◌, zero, suc, List, [], ◌∷◌, ◌++◌, length, take, codes}
use Rattle.std.specs.List.{flat_map, sum_by}
use Rattle.ir_syntax.specs.declared.block.Block.{Block}
use Rattle.ir_syntax.specs.declared.block.Part.{Part}
use Rattle.ir_text.specs.Text.{code_text, hex, lined, op_text, part_text, spaced, text}

-- ---- in bytes

-- a block's own line, with its address and its code
abbrev pub block_line : Block → List ℕ
block_line b = codes "block " ++ (spaced (hex b.at) ++ lined (code_text b.code))

-- what stands in these parts before line k of part i; the end of a part is the line behind its ops
abbrev pub before_in : List Part → ℕ → ℕ → List ℕ
before_in [] i k = []
before_in (p ∷ ps) zero k = flat_map op_text (take k p.ops)
before_in (p ∷ ps) (suc i) k = part_text p ++ before_in ps i k

-- what stands in a text before line k of part i of the block that follows these
abbrev pub before_line : List Block → Block → ℕ → ℕ → List ℕ
before_line before block i k = text before ++ (block_line block ++ before_in block.parts i k)

-- ---- in lines

-- an op and the end of a part have a line each
abbrev pub lines_of_part : Part → ℕ
lines_of_part p = length p.ops + 1

abbrev pub lines_of_parts : List Part → ℕ
lines_of_parts = sum_by lines_of_part

-- a block has its own line, those of its parts, and `end`
abbrev pub lines_of_block : Block → ℕ
lines_of_block b = lines_of_parts b.parts + 2

abbrev pub lines_of_blocks : List Block → ℕ
lines_of_blocks = sum_by lines_of_block
