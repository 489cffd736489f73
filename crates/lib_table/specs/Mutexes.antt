-- Mutexes of the normal kind: POSIX pthread_mutex_init, lock, trylock, unlock and destroy. A mutex is its address; the bytes there are neither read nor written, so one that was never initialised is free. This rule, and the limit on held ones, are this project's own.
use Rattle.std.specs.Prelude.{ℕ, ◌==◌, not, nat_le, if◌then◌else◌}
use Rattle.std.specs.FinMap.{len}
use Rattle.tso_memory.specs.Memory.{Memory}
use Rattle.lib_table.specs.declared.ask.Ask.{Ask}
use Rattle.lib_table.specs.declared.limits.TheConstants.{MAX_HELD, EAGAIN, EBUSY, EINVAL, EPERM}
use Rattle.lib_table.specs.Library.{LibraryData, is_held, is_held_by, with_held, without_held}
use Rattle.lib_table.specs.Outcome.{RowResult, Done, Waits, a1, a2, returned, answer}

-- pthread_mutex_init(a1, a2): attributes other than null aren't valid
unfoldable pub init : LibraryData → Memory → Ask → ℕ → RowResult
init l m ask back =
    if not (a2 ask == 0) then answer l m ask back EINVAL
    else if is_held l (a1 ask) then answer l m ask back EBUSY
    else answer l m ask back 0

-- thread t takes a mutex that none holds
abbrev pub taken : LibraryData → Memory → ℕ → Ask → ℕ → RowResult
taken l m t ask back = if nat_le MAX_HELD (len l.held) then answer l m ask back EAGAIN else Done (with_held l (a1 ask) t) m (returned ask back 0)

-- pthread_mutex_lock(a1): it waits while any thread holds the mutex, the caller too
unfoldable pub lock : LibraryData → Memory → ℕ → Ask → ℕ → RowResult
lock l m t ask back = if is_held l (a1 ask) then Waits else taken l m t ask back

-- pthread_mutex_trylock(a1)
unfoldable pub trylock : LibraryData → Memory → ℕ → Ask → ℕ → RowResult
trylock l m t ask back = if is_held l (a1 ask) then answer l m ask back EBUSY else taken l m t ask back

-- pthread_mutex_unlock(a1): only the holder may
unfoldable pub unlock : LibraryData → Memory → ℕ → Ask → ℕ → RowResult
unlock l m t ask back = if is_held_by l (a1 ask) t then Done (without_held l (a1 ask)) m (returned ask back 0) else answer l m ask back EPERM

-- pthread_mutex_destroy(a1)
unfoldable pub destroy : LibraryData → Memory → Ask → ℕ → RowResult
destroy l m ask back = if is_held l (a1 ask) then answer l m ask back EBUSY else answer l m ask back 0
