-- What holds of bytes once some faults are ruled out.
use Rattle.std.specs.Prelude.{◌≡◌, ℕ, ◌+◌, ◌^◌, ◌<◌, ◌≤◌, ◌==◌, false, not, ◌&&◌, ◌||◌, count_by, List, [], ◌∷◌, length, take}
use Rattle.std.specs.List.{list_any}
use Rattle.elf_image.specs.declared.fault.ElfFault.{ElfFault}
use Rattle.elf_image.specs.declared.header.ProgramHeader.{ProgramHeader}
use Rattle.elf_image.specs.declared.linking.Linking.{Linking}
use Rattle.elf_image.specs.declared.place.LibPlace.{LibPlace}
use Rattle.elf_image.specs.Elf.{passes_end, file_header, program_headers, segment_headers, is_dynamic, is_writable, is_executable, holds}
use Rattle.elf_image.specs.Loading.{is_bad_table, is_bad_load, is_unlinkable, Fits, IsTooLarge, IsClash}
use Rattle.elf_image.specs.First.{number_of}

-- the file header is read, and both tables of headers are whole
pub record HasHeaders (bytes : List ℕ) : Type 0 where
  pub long : 64 ≤ length bytes
  pub elf64 : take 7 bytes ≡ 0x7f ∷ 69 ∷ 76 ∷ 70 ∷ 2 ∷ 1 ∷ 1 ∷ []
  pub kind : (not ((file_header bytes).kind == 2) || not ((file_header bytes).machine == 62)) ≡ false
  pub programs : is_bad_table (file_header bytes).phnum (file_header bytes).phentsize 56 (file_header bytes).phoff bytes ≡ false
  pub sections : is_bad_table (file_header bytes).shnum (file_header bytes).shentsize 64 (file_header bytes).shoff bytes ≡ false

-- what the header loads makes a segment
pub record IsLoadable (bytes : List ℕ) (h : ProgramHeader) : Type 0 where
  pub in_file : passes_end h.offset h.filesz bytes ≡ false
  pub filled : h.filesz ≤ h.memsz
  pub occupied : 0 < h.memsz
  pub canonical : h.vaddr + h.memsz ≤ 2 ^ 47
  pub protected : (is_writable h && is_executable h) ≡ false

-- an address is in more than one segment
abbrev pub SharesAddress : List ℕ → Type 0
SharesAddress bytes = (a : ℕ) × (1 < count_by (holds a) (segment_headers bytes))

-- the program headers can be loaded
pub record HasLoads (linking : Linking) (bytes : List ℕ) : Type 0 where
  pub linked : is_unlinkable linking (program_headers bytes) ≡ false
  pub loads : list_any (is_bad_load bytes) (program_headers bytes) ≡ false
  pub protected : list_any (λ h. is_writable h && is_executable h) (segment_headers bytes) ≡ false
  pub small : ¬ IsTooLarge bytes
  pub apart : ¬ SharesAddress bytes

-- the faults that fit have numbers above this one
abbrev pub NoneUpTo : Linking → List ℕ → ℕ → Type 0
NoneUpTo linking bytes k = (f : ElfFault) → Fits linking bytes f → k < number_of f

-- the program headers of a static program can be loaded
pub record HasSegments (bytes : List ℕ) : Type 0 where
  pub static : list_any is_dynamic (program_headers bytes) ≡ false
  pub loads : list_any (is_bad_load bytes) (program_headers bytes) ≡ false
  pub protected : list_any (λ h. is_writable h && is_executable h) (segment_headers bytes) ≡ false
  pub small : ¬ IsTooLarge bytes
  pub apart : ¬ SharesAddress bytes

-- the least address at fault
abbrev pub IsFirstClash : Linking → List LibPlace → ℕ → Type 0
IsFirstClash linking places a = IsClash linking places a × ((b : ℕ) → IsClash linking places b → a ≤ b)
