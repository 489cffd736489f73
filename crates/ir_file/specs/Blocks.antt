-- Files of blocks: what is read of one, and why nothing is.
use Rattle.std.specs.Prelude.{◌≡◌, ◌⊎◌, ℕ, ◌<◌, ◌≤◌, List, length, take, All, Option, Some, None, Result, Ok, Err, Vec, IfSome, IsSomeAnd, ⊤}
use Rattle.std.specs.declared.alloc.Global.{Global}
use Rattle.std.specs.FinMap.{get}
use Rattle.ir_syntax.specs.declared.block.Block.{Block}
use Rattle.ir_syntax.specs.Typed.{IsWellTyped}
use Rattle.ir_text.specs.Text.{HasText, text}
use Rattle.ir_text.specs.Faults.{IsBehind, IsPlace}
use Rattle.ir_text.specs.declared.fault.TextFault.{TextFault}
use Rattle.mx_outside.specs.Causes.{Rose}
use Rattle.mx_outside.specs.Names.{NameMap}
use Rattle.ir_file.specs.Untyped.{IsUntyped}
use Rattle.ir_file.specs.declared.fault.IrFault.{IrFault}
use Rattle.ir_file.specs.declared.fault.IrFault.TheVariants.{Absent, Memory, ReadFault, Text, TooLong}

-- a text of blocks has at most 256 MiB
abbrev pub text_limit : ℕ
text_limit = 268435456

-- the bytes are the text of these blocks, each of which is well typed
pub record AreBlocksOf (bytes : List ℕ) (blocks : List Block) : Type 0 where
  pub have : All HasText blocks
  pub text : bytes ≡ text blocks
  pub typed : All IsWellTyped blocks

-- the bytes stop here being the beginning of a text
pub record IsNoText (bytes : List ℕ) (fault : TextFault) : Type 0 where
  pub at : ℕ
  pub place : IsPlace bytes at
  pub behind : IsBehind (take at bytes) fault

-- the bytes are a text, whose first line that isn't well typed begins here
pub record IsWrongText (bytes : List ℕ) (fault : TextFault) : Type 0 where
  pub blocks : List Block
  pub have : All HasText blocks
  pub text : bytes ≡ text blocks
  pub untyped : IsUntyped blocks fault.line
  pub first : fault.column ≡ 1

-- where these bytes are wrong: types count once all of them are a text
abbrev pub IsTextFault : List ℕ → TextFault → Type 0
IsTextFault bytes fault = IsNoText bytes fault ⊎ IsWrongText bytes fault

-- these are the bytes of the file of this name, where names are told
abbrev pub IsFileOf : Option NameMap → List ℕ → List ℕ → Type 0
IsFileOf names name bytes = IfSome names (λ m. get m name ≡ Some bytes)

-- the file of this name is within the limit and has the text of these blocks
pub record AreBlocksIn (names : Option NameMap) (name : List ℕ) (blocks : List Block) : Type 0 where
  pub bytes : List ℕ
  pub file : IsFileOf names name bytes
  pub within : length bytes ≤ text_limit
  pub are : AreBlocksOf bytes blocks

-- the file of this name is within the limit, and wrong here
pub record IsFaultIn (names : Option NameMap) (name : List ℕ) (fault : TextFault) : Type 0 where
  pub bytes : List ℕ
  pub file : IsFileOf names name bytes
  pub within : length bytes ≤ text_limit
  pub wrong : IsTextFault bytes fault

-- no file has this name
abbrev pub IsAbsent : Option NameMap → List ℕ → Type 0
IsAbsent names name = IfSome names (λ m. get m name ≡ None)

abbrev pub IsTooLong : Option NameMap → List ℕ → Type 0
IsTooLong names name = IfSome names (λ m. (bytes : List ℕ) × (get m name ≡ Some bytes) × (text_limit < length bytes))

-- the file of this name can't be read, by the count of faults before and after
abbrev pub RefusesFile : Option NameMap → List ℕ → (before now : ℕ) → IrFault → Type 0
RefusesFile names name before now ReadFault = Rose before now
RefusesFile names name before now Absent = (now ≡ before) × IsAbsent names name
RefusesFile names name before now TooLong = (now ≡ before) × IsTooLong names name
RefusesFile names name before now (Text f) = ⊥
RefusesFile names name before now (Memory e) = now ≡ before

-- the bytes aren't the text of blocks that are well typed
abbrev pub RefusesText : List ℕ → IrFault → Type 0
RefusesText bytes ReadFault = ⊥
RefusesText bytes Absent = ⊥
RefusesText bytes TooLong = ⊥
RefusesText bytes (Text f) = IsTextFault bytes f
RefusesText bytes (Memory e) = ⊤

-- the file of this name can't be read, or isn't such a text
abbrev pub RefusesBlocks : Option NameMap → List ℕ → (before now : ℕ) → IrFault → Type 0
RefusesBlocks names name before now ReadFault = RefusesFile names name before now ReadFault
RefusesBlocks names name before now Absent = RefusesFile names name before now Absent
RefusesBlocks names name before now TooLong = RefusesFile names name before now TooLong
RefusesBlocks names name before now (Text f) = (now ≡ before) × IsFaultIn names name f
RefusesBlocks names name before now (Memory e) = now ≡ before

-- names are told, and the file of this name holds the text of these blocks
pub record HoldsBlocks (names : Option NameMap) (name : List ℕ) (blocks : List Block) : Type 0 where
  pub bytes : List ℕ
  pub file : IsSomeAnd names (λ m. get m name ≡ Some bytes)
  pub within : length bytes ≤ text_limit
  pub are : AreBlocksOf bytes blocks

-- these blocks are given, unless reading failed or memory ran out
abbrev pub AreGiven : List Block → Result (Vec Block Global) IrFault → Type 0
AreGiven blocks (Ok v) = v.items ≡ blocks
AreGiven blocks (Err ReadFault) = ⊤
AreGiven blocks (Err Absent) = ⊥
AreGiven blocks (Err TooLong) = ⊥
AreGiven blocks (Err (Text f)) = ⊥
AreGiven blocks (Err (Memory e)) = ⊤
