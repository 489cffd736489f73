-- What comes of a request, and the words in which the functions of the library are told.
use Rattle.std.specs.Prelude.{ℕ, ◌+◌, ◌%◌, ◌^◌, false, List, [], ◌∷◌, slice_index, Option, Some, None}
use Rattle.byteorder.specs.Endian.{little_bytes}
use Rattle.tso_memory.specs.declared.access.Access.TheVariants.{Load, Store}
use Rattle.tso_memory.specs.Memory.{Memory, byte_of, may, first_denied, number_from, put_bytes}
use Rattle.lib_table.specs.declared.ask.Ask.{Ask}
use Rattle.lib_table.specs.declared.answer.Called.{Called}
use Rattle.lib_table.specs.declared.answer.Called.TheVariants.{Back}
use Rattle.lib_table.specs.declared.answer.BadKind.{BadKind}
use Rattle.lib_table.specs.declared.answer.BadKind.TheVariants.{Access}
use Rattle.lib_table.specs.Library.{LibraryData}

-- It is done, with the library and the memory after it; it waits for another thread; or the run ends.
pub data RowResult : Type 0 where
  Done : (library : LibraryData) (memory : Memory) (called : Called) → RowResult
  Waits : RowResult
  Bad : (kind : BadKind) → RowResult

-- the arguments of a call: rdi, rsi, rdx, rcx, r8
abbrev pub a1 : Ask → ℕ
a1 ask = slice_index ask.args 0

abbrev pub a2 : Ask → ℕ
a2 ask = slice_index ask.args 1

abbrev pub a3 : Ask → ℕ
a3 ask = slice_index ask.args 2

abbrev pub a4 : Ask → ℕ
a4 ask = slice_index ask.args 3

abbrev pub a5 : Ask → ℕ
a5 ask = slice_index ask.args 4

-- the first three of them
abbrev pub sync_args : Ask → List ℕ
sync_args ask = a1 ask ∷ a2 ask ∷ a3 ask ∷ []

-- the lowest 32 bits, as of an argument of type int
abbrev pub low_32 : ℕ → ℕ
low_32 x = x % 2 ^ 32

-- the call returns a value: it goes on at the return address, with that off the stack
abbrev pub returned : Ask → ℕ → ℕ → Called
returned ask back value = Back value ((ask.rsp + 8) % 2 ^ 64) back false

-- a call that returns a value and changes nothing else
abbrev pub answer : LibraryData → Memory → Ask → ℕ → ℕ → RowResult
answer l m ask back value = Done l m (returned ask back value)

-- an access that may be refused at an address, and what comes of it if it isn't
abbrev pub unless_denied : Option ℕ → RowResult → RowResult
unless_denied None r = r
unless_denied (Some x) r = Bad (Access x)

-- the first of n bytes from an address that lacks R, or W
abbrev pub unreadable : Memory → ℕ → ℕ → Option ℕ
unreadable m a n = first_denied (may m Load) a n

abbrev pub unwritable : Memory → ℕ → ℕ → Option ℕ
unwritable m a n = first_denied (may m Store) a n

-- the number in eight bytes, and memory with a number in eight bytes
abbrev pub word_at : Memory → ℕ → ℕ
word_at m a = number_from (byte_of m) 8 a

abbrev pub put_word : Memory → ℕ → ℕ → Memory
put_word m a v = put_bytes m a (little_bytes 8 v)
