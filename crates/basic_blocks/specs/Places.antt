-- Where instructions may stand.
use Rattle.std.specs.Prelude.{ℕ, Bool, ◌&&◌, is_none, if◌then◌else◌, Option, None}
use Rattle.elf_image.specs.Layout.{ImageData, function_at}
use Rattle.x86_forms.specs.declared.instructions.Instr.{Instr}
use Rattle.x86_forms.specs.Reading.{read}
use Rattle.x86_model.specs.Want.{code_from, door_at}

-- an address that is no door and no place of a library function
abbrev pub is_code_place : ImageData → ℕ → Bool
is_code_place image a = is_none (door_at a) && is_none (function_at a image.entries)

-- the instruction that is spelled at a code place, in the bytes of one segment that can be run, and its length
unfoldable pub instr_at : ImageData → ℕ → Option (Instr × ℕ)
instr_at image a = if is_code_place image a then read (code_from image.segments a) else None
