-- What the objects over the operating system are: a stream or the system's files, and counts of faults.
use Rattle.std.specs.Prelude.{ℕ}
use Rattle.mx_outside.specs.declared.real.RealSource.{RealSource}
use Rattle.mx_outside.specs.declared.real.RealSink.{RealSink}
use Rattle.mx_outside.specs.declared.real.RealFiles.{RealFiles}

-- the reader of a source
abbrev pub source_reader : {R : Type 0} → RealSource R → R
source_reader s = s.reader

-- how many faults a source counted
abbrev pub source_faults : {R : Type 0} → RealSource R → ℕ
source_faults s = s.faults

-- the writer of a sink
abbrev pub sink_writer : {W : Type 0} → RealSink W → W
sink_writer s = s.writer

-- how many faults a sink counted
abbrev pub sink_faults : {W : Type 0} → RealSink W → ℕ
sink_faults s = s.faults

-- how many faults of reading files counted
abbrev pub files_read_faults : {F : Type 0} → RealFiles F → ℕ
files_read_faults f = f.read_faults

-- how many faults of writing files counted
abbrev pub files_write_faults : {F : Type 0} → RealFiles F → ℕ
files_write_faults f = f.write_faults
