-- Why there is no case of a run: of each stage, and of all of them in their order.
use Rattle.std.specs.Prelude.{◌≡◌, ◌⊎◌, ℕ, ◌<◌, ◌≤◌, true, List, [], ◌∷◌, length, Option, Some, None, IfSome, ⊤}
use Rattle.std.specs.FinMap.{get}
use Rattle.elf_image.specs.Layout.{ImageData}
use Rattle.ir_syntax.specs.declared.block.Block.{Block}
use Rattle.basic_blocks.specs.Reach.{IsReachAbove}
use Rattle.block_lift.specs.Accepted.{IsFaultOf}
use Rattle.block_lift.specs.declared.accepting.AcceptFault.TheVariants as accept
use Rattle.ir_file.specs.Blocks as text
use Rattle.ir_file.specs.declared.fault.IrFault.TheVariants as ir
use Rattle.machine_laws.specs.Cases.{reads_input}
use Rattle.mx_outside.specs.Causes.{Rose}
use Rattle.mx_outside.specs.Names.{NameMap}
use Rattle.run_start.specs.declared.fault.StartFault.{StartFault}
use Rattle.run_start.specs.declared.fault.StartFault.TheVariants.{Image, ReadFault, Absent, IrText, Stale, Twice, TooLong, TooMany, Memory}
use Rattle.run_start.specs.Case.{IsFirstOf, block_limit}
use Rattle.run_start.specs.Program.{IsNoImage, IsRead, IsUnbound}

-- a program file has at most 64 MiB, and an input 16 MiB
abbrev pub file_limit : ℕ
file_limit = 67108864

abbrev pub input_limit : ℕ
input_limit = 16777216

-- ---- the program's file

-- these are the bytes of the file, where names are told
abbrev pub IsFile : Option NameMap → List ℕ → List ℕ → Type 0
IsFile names prog bytes = IfSome names (λ m. get m prog ≡ Some bytes)

abbrev pub IsAbsent : Option NameMap → List ℕ → Type 0
IsAbsent names prog = IfSome names (λ m. get m prog ≡ None)

abbrev pub IsTooLong : Option NameMap → List ℕ → Type 0
IsTooLong names prog = IfSome names (λ m. (bytes : List ℕ) × (get m prog ≡ Some bytes) × (file_limit < length bytes))

-- the file can't be read, by the count of faults before and after
abbrev pub RefusesFile : Option NameMap → List ℕ → (before now : ℕ) → StartFault → Type 0
RefusesFile names prog before now (Image n) = ⊥
RefusesFile names prog before now ReadFault = Rose before now
RefusesFile names prog before now Absent = (now ≡ before) × IsAbsent names prog
RefusesFile names prog before now (IrText f) = ⊥
RefusesFile names prog before now (Stale address file lifted) = ⊥
RefusesFile names prog before now (Twice a) = ⊥
RefusesFile names prog before now TooLong = (now ≡ before) × IsTooLong names prog
RefusesFile names prog before now TooMany = ⊥
RefusesFile names prog before now (Memory e) = now ≡ before

-- ---- the image

-- the bytes are no image
abbrev pub RefusesImage : List ℕ → StartFault → Type 0
RefusesImage bytes (Image n) = IsUnbound bytes n
RefusesImage bytes ReadFault = ⊥
RefusesImage bytes Absent = ⊥
RefusesImage bytes (IrText f) = ⊥
RefusesImage bytes (Stale address file lifted) = ⊥
RefusesImage bytes (Twice a) = ⊥
RefusesImage bytes TooLong = ⊥
RefusesImage bytes TooMany = ⊥
RefusesImage bytes (Memory e) = ⊤

-- the bytes are no image, or none that can be put into memory with these arguments
abbrev pub RefusesProgram : List ℕ → List (List ℕ) → StartFault → Type 0
RefusesProgram bytes args (Image n) = IsNoImage bytes args n
RefusesProgram bytes args ReadFault = ⊥
RefusesProgram bytes args Absent = ⊥
RefusesProgram bytes args (IrText f) = ⊥
RefusesProgram bytes args (Stale address file lifted) = ⊥
RefusesProgram bytes args (Twice a) = ⊥
RefusesProgram bytes args TooLong = ⊥
RefusesProgram bytes args TooMany = ⊥
RefusesProgram bytes args (Memory e) = ⊤

-- ---- the first places

-- too many places are reached from the entry
abbrev pub RefusesReach : ImageData → StartFault → Type 0
RefusesReach image (Image n) = ⊥
RefusesReach image ReadFault = ⊥
RefusesReach image Absent = ⊥
RefusesReach image (IrText f) = ⊥
RefusesReach image (Stale address file lifted) = ⊥
RefusesReach image (Twice a) = ⊥
RefusesReach image TooLong = ⊥
RefusesReach image TooMany = IsReachAbove image (image.entry ∷ []) block_limit
RefusesReach image (Memory e) = ⊤

-- there is no text of blocks of this name, or it has too many blocks
abbrev pub RefusesText : Option NameMap → List ℕ → (before now : ℕ) → StartFault → Type 0
RefusesText names name before now (Image n) = ⊥
RefusesText names name before now ReadFault = text.RefusesBlocks names name before now ir.ReadFault
RefusesText names name before now Absent = text.RefusesBlocks names name before now ir.Absent
RefusesText names name before now (IrText f) = text.RefusesBlocks names name before now (ir.Text f)
RefusesText names name before now (Stale address file lifted) = ⊥
RefusesText names name before now (Twice a) = ⊥
RefusesText names name before now TooLong = text.RefusesBlocks names name before now ir.TooLong
RefusesText names name before now TooMany = (now ≡ before) × ((blocks : List Block) × text.AreBlocksIn names name blocks × (block_limit < length blocks))
RefusesText names name before now (Memory e) = now ≡ before

-- a block isn't the image's own
abbrev pub RefusesAccept : ImageData → List Block → StartFault → Type 0
RefusesAccept image blocks (Image n) = ⊥
RefusesAccept image blocks ReadFault = ⊥
RefusesAccept image blocks Absent = ⊥
RefusesAccept image blocks (IrText f) = ⊥
RefusesAccept image blocks (Stale address file lifted) = IsFaultOf image blocks (accept.Stale address file lifted)
RefusesAccept image blocks (Twice a) = IsFaultOf image blocks (accept.Twice a)
RefusesAccept image blocks TooLong = ⊥
RefusesAccept image blocks TooMany = ⊥
RefusesAccept image blocks (Memory e) = ⊤

-- the blocks of the text are not too many, and one isn't the image's own
pub record RefusesRead (names : Option NameMap) (name : List ℕ) (image : ImageData) (before now : ℕ) (fault : StartFault) : Type 0 where
  pub same : now ≡ before
  pub blocks : List Block
  pub text : text.AreBlocksIn names name blocks
  pub few : length blocks ≤ block_limit
  pub refused : RefusesAccept image blocks fault

-- the text gives no places
abbrev pub RefusesGiven : Option NameMap → List ℕ → ImageData → (before now : ℕ) → StartFault → Type 0
RefusesGiven names name image before now fault = RefusesText names name before now fault ⊎ RefusesRead names name image before now fault

-- there are no first places
abbrev pub RefusesFirst : Option NameMap → Option (List ℕ) → ImageData → (before now : ℕ) → StartFault → Type 0
RefusesFirst names None image before now fault = (now ≡ before) × RefusesReach image fault
RefusesFirst names (Some ir) image before now fault = RefusesGiven names ir image before now fault

-- ---- the input

-- it can't be read to its end, or is too long, by the count of its faults before and after
abbrev pub RefusesInput : Option (List ℕ) → (before now : ℕ) → StartFault → Type 0
RefusesInput left before now (Image n) = ⊥
RefusesInput left before now ReadFault = Rose before now
RefusesInput left before now Absent = ⊥
RefusesInput left before now (IrText f) = ⊥
RefusesInput left before now (Stale address file lifted) = ⊥
RefusesInput left before now (Twice a) = ⊥
RefusesInput left before now TooLong = (now ≡ before) × IfSome left (λ xs. input_limit < length xs)
RefusesInput left before now TooMany = ⊥
RefusesInput left before now (Memory e) = now ≡ before

-- ---- all of them in their order

-- counts of faults of files and of the input, before and after
pub record Counts : Type 0 where
  pub files_before : ℕ
  pub files_now : ℕ
  pub input_before : ℕ
  pub input_now : ℕ

-- the program's file has these bytes, and these are not too many
pub record HasFile (names : Option NameMap) (prog bytes : List ℕ) : Type 0 where
  pub file : IsFile names prog bytes
  pub within : length bytes ≤ file_limit

-- the program's file is read, and its image can be put into memory with these arguments
pub record HasProgram (names : Option NameMap) (prog : List ℕ) (args : List (List ℕ)) (image : ImageData) : Type 0 where
  pub bytes : List ℕ
  pub file : HasFile names prog bytes
  pub read : IsRead bytes args image

-- the program's file can't be read
pub record FailsAtFile (names : Option NameMap) (prog : List ℕ) (n : Counts) (fault : StartFault) : Type 0 where
  pub input : n.input_now ≡ n.input_before
  pub refused : RefusesFile names prog n.files_before n.files_now fault

-- it is read, and is no program
pub record FailsAtImage (names : Option NameMap) (prog : List ℕ) (args : List (List ℕ)) (n : Counts) (fault : StartFault) : Type 0 where
  pub input : n.input_now ≡ n.input_before
  pub files : n.files_now ≡ n.files_before
  pub bytes : List ℕ
  pub file : HasFile names prog bytes
  pub refused : RefusesProgram bytes args fault

-- it is a program, and there are no first places
pub record FailsAtPlaces (names : Option NameMap) (prog : List ℕ) (args : List (List ℕ)) (ir : Option (List ℕ)) (n : Counts) (fault : StartFault) : Type 0 where
  pub input : n.input_now ≡ n.input_before
  pub image : ImageData
  pub program : HasProgram names prog args image
  pub refused : RefusesFirst names ir image n.files_before n.files_now fault

-- there are first places, and the input that the program reads can't be read
pub record FailsAtInput (names : Option NameMap) (prog : List ℕ) (args : List (List ℕ)) (ir : Option (List ℕ)) (left : Option (List ℕ)) (n : Counts) (fault : StartFault) : Type 0 where
  pub files : n.files_now ≡ n.files_before
  pub image : ImageData
  pub program : HasProgram names prog args image
  pub places : List ℕ
  pub first : IsFirstOf names ir image places
  pub reads : reads_input image ≡ true
  pub refused : RefusesInput left n.input_before n.input_now fault

-- a stage refuses, and those before it don't
abbrev pub Refuses : Option NameMap → List ℕ → List (List ℕ) → Option (List ℕ) → Option (List ℕ) → Counts → StartFault → Type 0
Refuses names prog args ir left n fault =
    FailsAtFile names prog n fault
    ⊎ (FailsAtImage names prog args n fault
    ⊎ (FailsAtPlaces names prog args ir n fault
    ⊎ FailsAtInput names prog args ir left n fault))
