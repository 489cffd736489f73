-- Sources, sinks and files in memory as plain values, and each of them after one call.
use Rattle.std.specs.Prelude.{ℕ, ◌+◌, ◌-◌, ◌^◌, ◌==◌, min, Bool, true, false, if◌then◌else◌, List, [], ◌++◌, length, take, drop, Result, Ok, Err, refl}
use Rattle.std.specs.List.{list_any}
use Rattle.std.specs.Coded.{Coded, code_by, coded×, coded_list, coded_ℕ}
use Rattle.std.specs.FinMap.{insert}
use Rattle.mx_outside.specs.declared.fault.FilesFault.{FilesFault}
use Rattle.mx_outside.specs.declared.fault.FilesFault.TheVariants.{Failed, Absent, TooLong, Memory}
use Rattle.mx_outside.specs.Names.{NameMap, names_code}

-- one more, up to the end of a `u64`
abbrev pub one_more : ℕ → ℕ
one_more n = min (n + 1) (2 ^ 64 - 1)

-- whether the call after `calls` others is among those that fail
abbrev pub next_fails : List ℕ → ℕ → Bool
next_fails failing calls = list_any (λ call. call == one_more calls) failing

-- a source in memory: the bytes that are left, the numbers of the calls that fail, the greatest piece of one call, the calls made and the faults counted
pub record SourceData : Type 0 where
  pub left : List ℕ
  pub failing : List ℕ
  pub piece : ℕ
  pub calls : ℕ
  pub faults : ℕ

-- a source with these bytes left, before any call
abbrev pub new_source : List ℕ → List ℕ → ℕ → SourceData
new_source bytes failing piece = record { left = bytes; failing = failing; piece = piece; calls = 0; faults = 0 }

-- how many bytes the next call moves into a buffer of this length, if it doesn't fail
abbrev pub source_count : SourceData → ℕ → ℕ
source_count s room = min s.piece (min room (length s.left))

-- a source after one more call with this answer
abbrev pub source_after : {E : Type 0} → SourceData → Result ℕ E → SourceData
source_after s (Ok n) = record { left = drop n s.left; failing = s.failing; piece = s.piece; calls = one_more s.calls; faults = s.faults }
source_after s (Err e) = record { left = s.left; failing = s.failing; piece = s.piece; calls = one_more s.calls; faults = one_more s.faults }

-- a sink in memory: the bytes that it holds, and the rest as of a source
pub record SinkData : Type 0 where
  pub held : List ℕ
  pub failing : List ℕ
  pub piece : ℕ
  pub calls : ℕ
  pub faults : ℕ

-- a sink that holds nothing, before any call
abbrev pub new_sink : List ℕ → ℕ → SinkData
new_sink failing piece = record { held = []; failing = failing; piece = piece; calls = 0; faults = 0 }

-- a sink after one more call to write these bytes, with this answer
abbrev pub sink_after : {E : Type 0} → SinkData → List ℕ → Result ℕ E → SinkData
sink_after s bytes (Ok n) = record { held = s.held ++ take n bytes; failing = s.failing; piece = s.piece; calls = one_more s.calls; faults = s.faults }
sink_after s bytes (Err e) = record { held = s.held; failing = s.failing; piece = s.piece; calls = one_more s.calls; faults = one_more s.faults }

-- files in memory: names with their bytes, the numbers of the calls that fail, the calls made, reads and writes together, and the faults of each kind
pub record FilesData : Type 0 where
  pub names : NameMap
  pub failing : List ℕ
  pub calls : ℕ
  pub read_faults : ℕ
  pub write_faults : ℕ

-- files under these names, before any call
abbrev pub new_files : NameMap → List ℕ → FilesData
new_files names failing = record { names = names; failing = failing; calls = 0; read_faults = 0; write_faults = 0 }

-- how proofs tell such files apart: by the tuple of their fields
abbrev pub files_code : Coded FilesData
files_code =
    code_by (NameMap × (List ℕ × (ℕ × (ℕ × ℕ)))) (coded× names_code (coded× (coded_list coded_ℕ) (coded× coded_ℕ (coded× coded_ℕ coded_ℕ))))
    (λ f. (f.names, (f.failing, (f.calls, (f.read_faults, f.write_faults)))))
    (λ t. record { names = t.0; failing = t.1.0; calls = t.1.1.0; read_faults = t.1.1.1.0; write_faults = t.1.1.1.1 })
    (λ _. refl)

-- whether a read failed
abbrev pub is_failed : {T : Type 0} → Result T FilesFault → Bool
is_failed (Ok x) = false
is_failed (Err Failed) = true
is_failed (Err Absent) = false
is_failed (Err TooLong) = false
is_failed (Err (Memory e)) = false

-- files after one more call to read, which failed or not
abbrev pub files_after_read : FilesData → Bool → FilesData
files_after_read f failed = record { names = f.names; failing = f.failing; calls = one_more f.calls; read_faults = if failed then one_more f.read_faults else f.read_faults; write_faults = f.write_faults }

-- files after one more call to write these bytes under this name, with this answer
abbrev pub files_after_write : {E : Type 0} → FilesData → List ℕ → List ℕ → Result (Unit {0}) E → FilesData
files_after_write f name bytes (Ok u) = record { names = insert f.names name bytes; failing = f.failing; calls = one_more f.calls; read_faults = f.read_faults; write_faults = f.write_faults }
files_after_write f name bytes (Err e) = record { names = f.names; failing = f.failing; calls = one_more f.calls; read_faults = f.read_faults; write_faults = one_more f.write_faults }
