-- Input and output: POSIX read and write on descriptors 0, 1 and 2. How many bytes one call moves, and how many are kept, is this project's own.
use Rattle.std.specs.Prelude.{ℕ, ◌+◌, ◌==◌, ◌||◌, not, nat_lt, min, if◌then◌else◌, length, take}
use Rattle.tso_memory.specs.Memory.{Memory, bytes_from, put_bytes}
use Rattle.lib_table.specs.declared.ask.Ask.{Ask}
use Rattle.lib_table.specs.declared.limits.TheConstants.{FAILED, MAX_BYTES, MAX_OUTPUT}
use Rattle.lib_table.specs.Library.{LibraryData, with_input, with_output}
use Rattle.lib_table.specs.Outcome.{RowResult, Done, a1, a2, a3, low_32, returned, answer, unless_denied, unreadable, unwritable}

-- the next n bytes of the input go to a2
abbrev pub given : LibraryData → Memory → Ask → ℕ → ℕ → RowResult
given l m ask back n = unless_denied (unwritable m (a2 ask) n) (Done (with_input l n) (put_bytes m (a2 ask) (take n l.input)) (returned ask back n))

-- read(a1, a2, a3): from descriptor 0 alone, and no bytes at the input's end
unfoldable pub read : LibraryData → Memory → Ask → ℕ → RowResult
read l m ask back =
    if not (low_32 (a1 ask) == 0) then answer l m ask back FAILED
    else given l m ask back (min (min (a3 ask) MAX_BYTES) (length l.input))

-- n bytes from a2 on are appended, where both outputs have room for them
abbrev pub appended : LibraryData → Memory → Ask → ℕ → ℕ → RowResult
appended l m ask back n =
    if nat_lt MAX_OUTPUT (length l.out1 + length l.out2 + n) then answer l m ask back FAILED
    else unless_denied (unreadable m (a2 ask) n) (Done (with_output l (low_32 (a1 ask)) (bytes_from m (a2 ask) n)) m (returned ask back n))

-- write(a1, a2, a3): to descriptors 1 and 2 alone
unfoldable pub write : LibraryData → Memory → Ask → ℕ → RowResult
write l m ask back =
    if not (low_32 (a1 ask) == 1 || low_32 (a1 ask) == 2) then answer l m ask back FAILED
    else appended l m ask back (min (a3 ask) MAX_BYTES)
