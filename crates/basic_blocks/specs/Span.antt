-- Basic blocks: the instructions from a code place on.
use Rattle.std.specs.Prelude.{ℕ, zero, suc, ◌+◌, ◌%◌, ◌^◌, if◌then◌else◌, List, [], ◌∷◌, map, filter, Option, Some, None}
use Rattle.std.specs.List.{last_or}
use Rattle.elf_image.specs.Layout.{ImageData}
use Rattle.x86_forms.specs.declared.instructions.Instr.{Instr}
use Rattle.x86_forms.specs.declared.instructions.Instr.TheVariants.{Jcc, Jmp, JmpTo, Call, CallTo, Ret}
use Rattle.x86_forms.specs.Groups.{is_transfer}
use Rattle.x86_model.specs.Operands.{target}
use Rattle.basic_blocks.specs.Places.{is_code_place, instr_at}
use Rattle.basic_blocks.specs.Placed.{Placed}

abbrev pub placed : ℕ → Instr × ℕ → Placed
placed a x = record { at = a; instr = x.0; next = (a + x.1) % 2 ^ 64 }

-- a block goes on after an instruction that is no jump, call or return
abbrev pub block_with : (ℕ → List Placed) → Placed → List Placed
block_with rest p = p ∷ (if is_transfer p.instr then [] else rest p.next)

abbrev pub block_from : (ℕ → List Placed) → ℕ → Option (Instr × ℕ) → List Placed
block_from rest a None = []
block_from rest a (Some x) = block_with rest (placed a x)

-- at most so many instructions from an address on, up to where none stands
unfoldable pub block_up_to : ImageData → ℕ → ℕ → List Placed
block_up_to image zero a = []
block_up_to image (suc n) a = block_from (block_up_to image n) a (instr_at image a)

-- the instructions of the block at a code place: one after another, up to and with the first jump, call or return, at most 64
abbrev pub block_at : ImageData → ℕ → List Placed
block_at image a = block_up_to image 64 a

-- their addresses
abbrev pub span : ImageData → ℕ → List ℕ
span image a = map (λ p. p.at) (block_at image a)

-- where an instruction may go on without a look at registers: to its target, to the next address, or to both
abbrev pub targets : Instr → ℕ → List ℕ
targets (Jmp rel) next = target next rel ∷ []
targets (Jcc cc rel) next = target next rel ∷ next ∷ []
targets (Call rel) next = target next rel ∷ next ∷ []
targets (CallTo src) next = next ∷ []
targets (JmpTo src) next = []
targets (Ret extra) next = []
targets _ next = next ∷ []

abbrev pub targets_after : Option Placed → List ℕ
targets_after None = []
targets_after (Some p) = targets p.instr p.next

-- the direct successors of the block at a code place: those code places at which its last instruction may go on
abbrev pub successors : ImageData → ℕ → List ℕ
successors image a = filter (is_code_place image) (targets_after (last_or None (block_at image a)))
