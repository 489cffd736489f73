-- The faults in their order, and the first of those that fit.
use Rattle.std.specs.Prelude.{◌≡◌, ℕ, ◌≤◌, List, ⊤}
use Rattle.elf_image.specs.declared.fault.ElfFault.{ElfFault}
use Rattle.elf_image.specs.declared.fault.ElfFault.TheVariants.{Short, NotElf64, Kind, Headers, Dynamic, Segment, WriteExec, Overlap, Size, Symbols, LibClash, Entry}
use Rattle.elf_image.specs.declared.fault.LoadFault.{LoadFault}
use Rattle.elf_image.specs.declared.fault.LoadFault.TheVariants.{Fault, Memory}
use Rattle.elf_image.specs.declared.linking.Linking.{Linking}
use Rattle.elf_image.specs.Loading.{Fits}

-- the number by which a fault is reported
abbrev pub number_of : ElfFault → ℕ
number_of Short = 1
number_of NotElf64 = 2
number_of Kind = 3
number_of (Headers n) = 4
number_of Dynamic = 5
number_of (Segment n) = 6
number_of (WriteExec n) = 7
number_of (Overlap n m) = 8
number_of Size = 9
number_of (Symbols n) = 10
number_of (LibClash a) = 11
number_of Entry = 12

-- the number of the header, table or section that is meant, or the address; 0 where the fault names none
abbrev pub first_of : ElfFault → ℕ
first_of Short = 0
first_of NotElf64 = 0
first_of Kind = 0
first_of (Headers n) = n
first_of Dynamic = 0
first_of (Segment n) = n
first_of (WriteExec n) = n
first_of (Overlap n m) = n
first_of Size = 0
first_of (Symbols n) = n
first_of (LibClash a) = a
first_of Entry = 0

-- the number of the other header, where two are meant
abbrev pub second_of : ElfFault → ℕ
second_of Short = 0
second_of NotElf64 = 0
second_of Kind = 0
second_of (Headers n) = 0
second_of Dynamic = 0
second_of (Segment n) = 0
second_of (WriteExec n) = 0
second_of (Overlap n m) = m
second_of Size = 0
second_of (Symbols n) = 0
second_of (LibClash a) = 0
second_of Entry = 0

-- the lower number comes first, then what is named first, then what is named second
pub record IsNoLater (f g : ElfFault) : Type 0 where
  pub number : number_of f ≤ number_of g
  pub first : number_of f ≡ number_of g → first_of f ≤ first_of g
  pub second : number_of f ≡ number_of g → first_of f ≡ first_of g → second_of f ≤ second_of g

-- the fault fits the bytes, and no other that fits comes before it
pub record IsFirstFault (linking : Linking) (bytes : List ℕ) (f : ElfFault) : Type 0 where
  pub fits : Fits linking bytes f
  pub first : (g : ElfFault) → Fits linking bytes g → IsNoLater f g

-- the fault is the first that fits; memory may run out anywhere
abbrev pub FaultsAt : Linking → List ℕ → LoadFault → Type 0
FaultsAt linking bytes (Fault f) = IsFirstFault linking bytes f
FaultsAt linking bytes (Memory e) = ⊤
