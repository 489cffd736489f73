-- The bytes of the instructions of a block.
use Rattle.std.specs.Prelude.{ℕ, List, [], ◌∷◌, ◌++◌, take, Option, Some, None}
use Rattle.elf_image.specs.Layout.{ImageData}
use Rattle.x86_forms.specs.declared.instructions.Instr.{Instr}
use Rattle.x86_model.specs.Want.{code_from}
use Rattle.basic_blocks.specs.Placed.{Placed}
use Rattle.basic_blocks.specs.Places.{instr_at}

-- as many bytes as the instruction at their front is long
abbrev pub front : List ℕ → Option (Instr × ℕ) → List ℕ
front code None = []
front code (Some x) = take x.1 code

-- the bytes that spell the instruction at an address
abbrev pub spelling_at : ImageData → ℕ → List ℕ
spelling_at image a = front (code_from image.segments a) (instr_at image a)

-- the bytes of instructions, one after another
abbrev pub bytes_of : ImageData → List Placed → List ℕ
bytes_of image [] = []
bytes_of image (p ∷ ps) = spelling_at image p.at ++ bytes_of image ps
