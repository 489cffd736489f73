-- What a thread does next.
use Rattle.std.specs.Prelude.{ℕ, ◌+◌, ◌-◌, ◌%◌, ◌^◌, ◌==◌, if◌then◌else◌, List, [], drop, Option, Some, None}
use Rattle.address_space.specs.declared.TheConstants.{END_DOOR, CALL_DOOR}
use Rattle.elf_image.specs.declared.place.Function.{Function}
use Rattle.elf_image.specs.Layout.{ImageData, SegmentData, segment_at, function_at}
use Rattle.x86_forms.specs.declared.instructions.Instr.{Instr}
use Rattle.x86_forms.specs.Reading.{read}
use Rattle.x86_model.specs.declared.cpu.Cpu.{Cpu}
use Rattle.x86_model.specs.declared.want.BadStep.TheVariants.{Code}
use Rattle.x86_model.specs.declared.want.Door.{Door}
use Rattle.x86_model.specs.declared.want.Door.TheVariants as door
use Rattle.x86_model.specs.declared.want.Want.{Want}
use Rattle.x86_model.specs.declared.want.Want.TheVariants as step
use Rattle.x86_model.specs.Accesses.{first_access}
use Rattle.x86_model.specs.Finishing.{finished}

-- An instruction that reads memory asks for that first, and ends in a second step.
abbrev pub begun : Option ℕ → Option Want → Want → Want
begun None (Some access) end = access
begun None None end = end
begun (Some v) access end = end

-- what an instruction wants, where next is the address of the next one
unfoldable pub want_of : Instr → ℕ → Cpu → Want
want_of i next s = begun s.mid (first_access i next s) (finished i next s)

-- where a thread's start function and a comparator return to
unfoldable pub door_at : ℕ → Option Door
door_at a = if a == END_DOOR then Some door.End else if a == CALL_DOOR then Some door.Call else None

-- the bytes that can be run from an address on, in the segment that has it
abbrev pub code_in : ℕ → Option SegmentData → List ℕ
code_in a None = []
code_in a (Some s) = if s.x then drop (a - s.at) s.bytes else []

unfoldable pub code_from : List SegmentData → ℕ → List ℕ
code_from segments a = code_in a (segment_at a segments)

-- by the instruction that is spelled at rip, if one is, and its length
abbrev pub running : Option (Instr × ℕ) → Cpu → Want
running None s = step.Bad Code
running (Some x) s = want_of x.0 ((s.rip + x.1) % 2 ^ 64) s

abbrev pub calling : Option Function → Option (Instr × ℕ) → Cpu → Want
calling (Some f) spelled s = step.Call f
calling None spelled s = running spelled s

abbrev pub standing : Option Door → Option Function → Option (Instr × ℕ) → Cpu → Want
standing (Some d) f spelled s = step.Door d
standing None f spelled s = calling f spelled s

-- doors come first, then places of library functions, then the bytes of one executable segment
unfoldable pub want : ImageData → Cpu → Want
want image s = standing (door_at s.rip) (function_at s.rip image.entries) (read (code_from image.segments s.rip)) s
