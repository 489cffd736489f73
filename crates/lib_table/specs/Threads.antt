-- Threads: POSIX pthread_create, pthread_join and pthread_self. Ids are this project's own.
use Rattle.std.specs.Prelude.{ℕ, ◌-◌, ◌==◌, not, if◌then◌else◌, Option, Some, None}
use Rattle.tso_memory.specs.Memory.{Memory}
use Rattle.callbacks.specs.declared.Frame.{Frame}
use Rattle.lib_table.specs.declared.ask.Ask.{Ask}
use Rattle.lib_table.specs.declared.answer.Called.TheVariants.{Over}
use Rattle.lib_table.specs.declared.answer.BadKind.TheVariants.{Door}
use Rattle.lib_table.specs.declared.life.Life.{Life}
use Rattle.lib_table.specs.declared.life.Life.TheVariants.{Unborn, Live, Ended, Joined}
use Rattle.lib_table.specs.declared.limits.TheConstants.{EAGAIN, EDEADLK, EINVAL, ESRCH}
use Rattle.address_space.specs.declared.TheConstants.{END_DOOR}
use Rattle.address_space.specs.Addresses.{top}
use Rattle.address_space.specs.Slots.{slot_of}
use Rattle.lib_table.specs.Library.{LibraryData, life_at, with_life, with_joined, new_thread, id_of}
use Rattle.lib_table.specs.Outcome.{RowResult, Done, Waits, Bad, a1, a2, a3, a4, returned, answer, unless_denied, unwritable, put_word}

-- the place of a new thread's return address: the eight bytes below the top of its slot's stack
abbrev pub first_rsp : ℕ → ℕ
first_rsp u = top (slot_of u) - 8

-- a new thread is born: its id goes to a1, and its start function returns to END_DOOR
abbrev pub born : Memory → Ask → ℕ → ℕ × LibraryData → RowResult
born m ask back n =
    unless_denied (unwritable m (a1 ask) 8)
    (unless_denied (unwritable m (first_rsp n.0) 8)
    (Done n.1 (put_word (put_word m (a1 ask) (id_of n.0)) (first_rsp n.0) END_DOOR) (returned ask back 0)))

abbrev pub born_if : LibraryData → Memory → Ask → ℕ → Option (ℕ × LibraryData) → RowResult
born_if l m ask back None = answer l m ask back EAGAIN
born_if l m ask back (Some n) = born m ask back n

-- pthread_create(a1, a2, a3, a4): attributes other than null aren't valid; EAGAIN where every slot has a live or ended thread
unfoldable pub create : LibraryData → Memory → Ask → ℕ → RowResult
create l m ask back =
    if not (a2 ask == 0) then answer l m ask back EINVAL
    else born_if l m ask back (new_thread l (a3 ask) (a4 ask))

-- the value of thread u goes to a2, where that isn't null
abbrev pub joined : LibraryData → Memory → Ask → ℕ → ℕ → ℕ → RowResult
joined l m ask back u value =
    if not (a2 ask == 0)
    then unless_denied (unwritable m (a2 ask) 8) (Done (with_joined l u) (put_word m (a2 ask) value) (returned ask back 0))
    else Done (with_joined l u) m (returned ask back 0)

-- thread t joins thread u, whose life is this
abbrev pub joining : LibraryData → Memory → ℕ → Ask → ℕ → ℕ → Life → RowResult
joining l m t ask back u Unborn = answer l m ask back ESRCH
joining l m t ask back u (Live start argument) = if u == t then answer l m ask back EDEADLK else Waits
joining l m t ask back u (Ended value) = joined l m ask back u value
joining l m t ask back u Joined = answer l m ask back ESRCH

-- pthread_join(a1, a2): ESRCH where a1 is no id of a thread that was born and not joined, EDEADLK at the own id; it waits until the thread ended
unfoldable pub join : LibraryData → Memory → ℕ → Ask → ℕ → RowResult
join l m t ask back = if a1 ask == 0 then answer l m ask back ESRCH else joining l m t ask back (a1 ask - 1) (life_at l (a1 ask - 1))

-- pthread_self()
unfoldable pub self_id : LibraryData → Memory → ℕ → Ask → ℕ → RowResult
self_id l m t ask back = answer l m ask back (id_of t)

-- a thread ends with the value that its start function returned; thread 0 has none, and a search under way returns elsewhere
abbrev pub ended : LibraryData → Memory → ℕ → Ask → Option Frame → RowResult
ended l m t ask None = if t == 0 then Bad Door else Done (with_life l t (Ended ask.rax)) m Over
ended l m t ask (Some f) = Bad Door

-- a return to END_DOOR
unfoldable pub end_door : LibraryData → Memory → ℕ → Ask → RowResult
end_door l m t ask = ended l m t ask ask.top
