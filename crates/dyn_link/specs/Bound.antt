-- The image in which each slot holds the address of its function, and why a file has none.
use Rattle.std.specs.Prelude.{◌≡◌, ℕ, ◌+◌, ◌-◌, ◌*◌, nat_lt, nat_le, Bool, false, ◌&&◌, if◌then◌else◌, List, ◌++◌, map, take, drop, fold, Option, Some, None, ⊤}
use Rattle.std.specs.List.{filter_map, list_any, position}
use Rattle.std.specs.Option.{option_map}
use Rattle.byteorder.specs.Endian.{little_bytes}
use Rattle.elf_image.specs.declared.place.Function.{Function}
use Rattle.elf_image.specs.declared.place.Function.TheVariants.{PthreadCreate, PthreadJoin, PthreadSelf, MutexInit, MutexLock, MutexTrylock, MutexUnlock, MutexDestroy, Bsearch, Read, Write, Exit, CondInit, CondDestroy, CondWait, CondSignal, CondBroadcast, BarrierInit, BarrierWait, BarrierDestroy, Once}
use Rattle.elf_image.specs.declared.place.LibPlace.{LibPlace}
use Rattle.elf_image.specs.declared.range.Range.{Range}
use Rattle.elf_image.specs.Layout.{SegmentData, ImageData}
use Rattle.elf_image.specs.Loading.{AreInOrder}
use Rattle.dyn_link.specs.declared.binding.Binding.{Binding}
use Rattle.dyn_link.specs.declared.dynamic.Dynamic.{Dynamic}
use Rattle.dyn_link.specs.declared.fault.LinkFault.{LinkFault}
use Rattle.dyn_link.specs.declared.fault.LinkFault.TheVariants.{Table, Reloc, Unknown, Memory}
use Rattle.dyn_link.specs.declared.relocation.Relocation.{Relocation}
use Rattle.dyn_link.specs.Dynamic.{HasBadTable, tables}
use Rattle.dyn_link.specs.Relocations.{relocations, strings, symbols_of, is_bad_relocation, function_of, is_unknown}

-- a function's place in the list of functions, from 0
abbrev pub place_of : Function → ℕ
place_of PthreadCreate = 0
place_of PthreadJoin = 1
place_of PthreadSelf = 2
place_of MutexInit = 3
place_of MutexLock = 4
place_of MutexTrylock = 5
place_of MutexUnlock = 6
place_of MutexDestroy = 7
place_of Bsearch = 8
place_of Read = 9
place_of Write = 10
place_of Exit = 11
place_of CondInit = 12
place_of CondDestroy = 13
place_of CondWait = 14
place_of CondSignal = 15
place_of CondBroadcast = 16
place_of BarrierInit = 17
place_of BarrierWait = 18
place_of BarrierDestroy = 19
place_of Once = 20

-- the address at which a bound function is called
unfoldable pub address_of : Function → ℕ
address_of f = 0x700000fe0000 + 16 * place_of f

-- what a slot holds: 0 for a weak name that no function has
abbrev pub held : Option Function → ℕ
held None = 0
held (Some f) = address_of f

-- the slot of a relocation, and the function that it names
abbrev pub binding : List SegmentData → List ℕ → ℕ → Relocation → Binding
binding segments text symbols r = record { slot = r.slot; function = function_of segments text symbols r }

-- the slots of the file in the order of its relocations, each with its function
abbrev pub bindings : List SegmentData → Dynamic → List Binding
bindings segments d = map (binding segments (strings segments d) (symbols_of d)) (relocations segments d)

-- the segment with the eight bytes of the number from its byte k on
abbrev pub with_number : ℕ → ℕ → SegmentData → SegmentData
with_number k n s = record s { bytes = take k s.bytes ++ (little_bytes 8 n ++ drop (k + 8) s.bytes) }

-- the segment after a slot is written, if that is in it
unfoldable pub written : Binding → SegmentData → SegmentData
written b s = if nat_le s.at b.slot && nat_lt b.slot (s.at + s.size) then with_number (b.slot - s.at) (held b.function) s else s

-- the segments after the slots are written in order
unfoldable pub bound_segments : List SegmentData → List Binding → List SegmentData
bound_segments segments bs = fold (λ ss b. map (written b) ss) segments bs

-- where a bound function is called
abbrev pub place_for : Function → LibPlace
place_for f = record { at = address_of f; function = f }

abbrev pub bound_places : List Binding → List LibPlace
bound_places bs = filter_map (λ b. option_map place_for b.function) bs

-- the segments with their slots, and the functions that are bound beside those of the symbols, each once
pub record IsBoundTo (m n : ImageData) (bs : List Binding) : Type 0 where
  pub entry : n.entry ≡ m.entry
  pub segments : n.segments ≡ bound_segments m.segments bs
  pub entries : AreInOrder (m.entries ++ bound_places bs) n.entries

-- some relocation can't be carried out; some needs a name that isn't known
abbrev pub has_bad_relocation : List SegmentData → Dynamic → Bool
has_bad_relocation segments d = list_any (is_bad_relocation segments (strings segments d) (symbols_of d)) (relocations segments d)

abbrev pub has_unknown : List SegmentData → Dynamic → Bool
has_unknown segments d = list_any (is_unknown segments (strings segments d) (symbols_of d)) (relocations segments d)

-- the first of them
abbrev pub first_bad_relocation : List SegmentData → Dynamic → Option ℕ
first_bad_relocation segments d = position (is_bad_relocation segments (strings segments d) (symbols_of d)) (relocations segments d)

abbrev pub first_unknown : List SegmentData → Dynamic → Option ℕ
first_unknown segments d = position (is_unknown segments (strings segments d) (symbols_of d)) (relocations segments d)

-- no fault fits
pub record IsLinkable (bytes : List ℕ) (range : Range) (segments : List SegmentData) : Type 0 where
  pub readable : ¬ HasBadTable bytes range segments
  pub relocations : has_bad_relocation segments (tables bytes range) ≡ false
  pub known : has_unknown segments (tables bytes range) ≡ false

-- no fault fits, and the image has its bindings
pub record IsLinked (bytes : List ℕ) (range : Range) (m n : ImageData) : Type 0 where
  pub linkable : IsLinkable bytes range m.segments
  pub bound : IsBoundTo m n (bindings m.segments (tables bytes range))

-- a file without a dynamic segment is the image as it is
abbrev pub IsBound : List ℕ → Option Range → ImageData → ImageData → Type 0
IsBound bytes None m n = n ≡ m
IsBound bytes (Some range) m n = IsLinked bytes range m n

-- the first fault: the tables before the first bad relocation, and that before the first unknown name; memory may run out
abbrev pub FaultsIn : List ℕ → Range → List SegmentData → LinkFault → Type 0
FaultsIn bytes range segments Table = HasBadTable bytes range segments
FaultsIn bytes range segments (Reloc n) =
    (¬ HasBadTable bytes range segments) × (first_bad_relocation segments (tables bytes range) ≡ Some n)
FaultsIn bytes range segments (Unknown n) =
    (¬ HasBadTable bytes range segments) × (has_bad_relocation segments (tables bytes range) ≡ false)
    × (first_unknown segments (tables bytes range) ≡ Some n)
FaultsIn bytes range segments (Memory e) = ⊤

abbrev pub IsMemory : LinkFault → Type 0
IsMemory Table = ⊥
IsMemory (Reloc n) = ⊥
IsMemory (Unknown n) = ⊥
IsMemory (Memory e) = ⊤

abbrev pub FaultsAt : List ℕ → Option Range → ImageData → LinkFault → Type 0
FaultsAt bytes None m fault = IsMemory fault
FaultsAt bytes (Some range) m fault = FaultsIn bytes range m.segments fault
