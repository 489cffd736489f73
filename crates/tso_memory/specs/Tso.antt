-- x86-TSO memory (Owens, Sarkar and Sewell 2009): one memory, and a store buffer for each of 64 threads.
use Rattle.std.specs.Prelude.{ℕ, Bool, true, false, List, [], ◌∷◌, ◌++◌, slice_index_or, slice_set, replicate}
use Rattle.tso_memory.specs.declared.write.PendingWrite.{PendingWrite}
use Rattle.tso_memory.specs.declared.change.Change.{Change}
use Rattle.tso_memory.specs.Piece.{PieceData}
use Rattle.tso_memory.specs.Memory.{Memory, memory_of, byte_of, number_from, put_bytes}
use Rattle.tso_memory.specs.Buffer.{seen, bytes_of_write}
use Rattle.tso_memory.specs.Change.{changed}
use Rattle.byteorder.specs.Endian.{little_bytes}

pub record TsoState : Type 0 where
  pub memory : Memory
  pub buffers : List (List PendingWrite)

-- the waiting writes of a thread, the oldest first
abbrev pub buffer_of : TsoState → ℕ → List PendingWrite
buffer_of s t = slice_index_or s.buffers t []

abbrev pub with_buffer : TsoState → ℕ → List PendingWrite → TsoState
with_buffer s t ps = record s { buffers = slice_set s.buffers t ps }

-- the byte that a thread sees at an address: by its own last write that covers it, else memory's
abbrev pub seen_by : TsoState → ℕ → ℕ → ℕ
seen_by s t x = seen (buffer_of s t) x (byte_of s.memory x)

-- a write joins a thread's buffer
abbrev pub stored : TsoState → ℕ → PendingWrite → TsoState
stored s t p = with_buffer s t (buffer_of s t ++ p ∷ [])

-- the oldest of a thread's writes goes to memory
abbrev pub flushed : TsoState → ℕ → List PendingWrite → TsoState
flushed s t [] = s
flushed s t (p ∷ ps) = record (with_buffer s t ps) { memory = put_bytes s.memory p.at (bytes_of_write p) }

abbrev pub is_none_waiting : List PendingWrite → Bool
is_none_waiting [] = true
is_none_waiting (p ∷ ps) = false

-- memory itself with these bytes from an address on
abbrev pub poked : TsoState → ℕ → List ℕ → TsoState
poked s x bs = record s { memory = put_bytes s.memory x bs }

-- memory's own number in w bytes from an address
abbrev pub memory_number : TsoState → ℕ → ℕ → ℕ
memory_number s n x = number_from (byte_of s.memory) n x

-- a locked exchange reads and writes memory itself
abbrev pub exchanged : TsoState → ℕ → ℕ → Change → TsoState
exchanged s n x change = poked s x (little_bytes n (changed change n (memory_number s n x)))

-- the pieces' memory, and 64 empty buffers
abbrev pub start_of : List PieceData → TsoState
start_of ps = record { memory = memory_of ps; buffers = replicate 64 [] }
