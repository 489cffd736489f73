-- The image of a program file's bytes, and why there is none.
use Rattle.std.specs.Prelude.{◌≡◌, ◌⊎◌, ℕ, List, Option, Some, None}
use Rattle.elf_image.specs.Elf.{dynamic_range}
use Rattle.elf_image.specs.First.{IsFirstFault, number_of}
use Rattle.elf_image.specs.Layout.{ImageData}
use Rattle.elf_image.specs.Loading.{IsFaultyAs, IsImageOf}
use Rattle.elf_image.specs.declared.fault.ElfFault.{ElfFault}
use Rattle.elf_image.specs.declared.linking.Linking.TheVariants.{Dynamic}
use Rattle.dyn_link.specs.Bound as link
use Rattle.dyn_link.specs.declared.fault.LinkFault.{LinkFault}
use Rattle.dyn_link.specs.declared.fault.LinkFault.TheVariants as unlinked
use Rattle.guest_map.specs.Layout as lay
use Rattle.guest_map.specs.declared.fault.LayFault.{LayFault}
use Rattle.guest_map.specs.declared.fault.LayFault.TheVariants as unlaid

-- The bytes are loaded as those of a program that may be linked dynamically, and no fault fits them; then the names that
-- they need are bound.
pub record IsProgram (bytes : List ℕ) (image : ImageData) : Type 0 where
  pub loaded : ImageData
  pub of_bytes : IsImageOf bytes loaded
  pub sound : ¬ IsFaultyAs Dynamic bytes
  pub bound : link.IsBound bytes (dynamic_range bytes) loaded image

-- ---- numbers of faults

-- those of loading have 1 to 12
abbrev pub link_number : LinkFault → Option ℕ
link_number unlinked.Table = Some 15
link_number (unlinked.Reloc n) = Some 16
link_number (unlinked.Unknown n) = Some 17
link_number (unlinked.Memory e) = None

abbrev pub lay_number : LayFault → Option ℕ
lay_number (unlaid.Clash i) = Some 13
lay_number unlaid.ArgsTooLong = Some 14
lay_number (unlaid.Memory e) = None

-- ---- why there is no image that can be run

-- the first fault of loading has this number
pub record LoadFails (bytes : List ℕ) (n : ℕ) : Type 0 where
  pub fault : ElfFault
  pub first : IsFirstFault Dynamic bytes fault
  pub number : n ≡ number_of fault

-- the bytes are loaded, and the first fault of linking has this number
pub record LinkFails (bytes : List ℕ) (n : ℕ) : Type 0 where
  pub loaded : ImageData
  pub of_bytes : IsImageOf bytes loaded
  pub sound : ¬ IsFaultyAs Dynamic bytes
  pub fault : LinkFault
  pub first : link.FaultsAt bytes (dynamic_range bytes) loaded fault
  pub number : link_number fault ≡ Some n

-- the program is read, and the first fault of putting it into memory with these arguments has this number
pub record LayFails (bytes : List ℕ) (args : List (List ℕ)) (n : ℕ) : Type 0 where
  pub image : ImageData
  pub program : IsProgram bytes image
  pub fault : LayFault
  pub first : lay.FaultsAt image args fault
  pub number : lay_number fault ≡ Some n

abbrev pub IsUnbound : List ℕ → ℕ → Type 0
IsUnbound bytes n = LoadFails bytes n ⊎ LinkFails bytes n

abbrev pub IsNoImage : List ℕ → List (List ℕ) → ℕ → Type 0
IsNoImage bytes args n = IsUnbound bytes n ⊎ LayFails bytes args n

-- the program is read, and can be put into memory with these arguments
pub record IsRead (bytes : List ℕ) (args : List (List ℕ)) (image : ImageData) : Type 0 where
  pub program : IsProgram bytes image
  pub accepted : lay.IsAccepted image args
