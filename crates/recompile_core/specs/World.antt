-- What a call finds and leaves outside.
use Rattle.std.specs.Prelude.{ℕ, List, Option}
use Rattle.mx_outside.specs.Names.{NameMap}
use Rattle.ir_runner.specs.Outputs.{Written}

-- files: the names with their bytes, where they are told, and the counts of faults of reading and of writing
pub record FilesNow : Type 0 where
  pub names : Option NameMap
  pub reads : ℕ
  pub writes : ℕ

abbrev pub files_now : {F : Type 0} → (F → Option NameMap) → (F → ℕ) → (F → ℕ) → F → FilesNow
files_now names reads writes f = record { names = names f; reads = reads f; writes = writes f }

-- the input: the bytes that are left, where they are told, and the count of faults
pub record InputNow : Type 0 where
  pub left : Option (List ℕ)
  pub faults : ℕ

abbrev pub input_now : {I : Type 0} → (I → Option (List ℕ)) → (I → ℕ) → I → InputNow
input_now left faults i = record { left = left i; faults = faults i }

-- files and input before a call and after it, and the two sinks
pub record World : Type 0 where
  pub files : FilesNow
  pub files_after : FilesNow
  pub input : InputNow
  pub input_after : InputNow
  pub out : Written
  pub err : Written
