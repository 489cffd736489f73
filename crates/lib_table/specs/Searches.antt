-- Calls back: `bsearch` of the C standard (C17, 7.22.5.1) with its comparator, and the return of a comparator or of the routine of POSIX pthread_once.
use Rattle.std.specs.Prelude.{ℕ, ◌+◌, ◌-◌, ◌%◌, ◌^◌, ◌==◌, true, nat_le, if◌then◌else◌, Option, Some, None, ℤ}
use Rattle.std.specs.Int.{w32, cast_signed}
use Rattle.tso_memory.specs.Memory.{Memory}
use Rattle.callbacks.specs.declared.Frame.{Frame}
use Rattle.callbacks.specs.declared.Next.{Next}
use Rattle.callbacks.specs.declared.Next.TheVariants as next
use Rattle.callbacks.specs.Frame.{probing, resumed}
use Rattle.lib_table.specs.declared.ask.Ask.{Ask}
use Rattle.lib_table.specs.declared.answer.Called.TheVariants.{Back, Probe}
use Rattle.lib_table.specs.declared.answer.BadKind.TheVariants.{Depth, Door}
use Rattle.lib_table.specs.declared.limits.TheConstants.{MAX_FRAMES}
use Rattle.address_space.specs.declared.TheConstants.{CALL_DOOR}
use Rattle.lib_table.specs.Library.{LibraryData, with_rooms}
use Rattle.sync_more.specs.declared.state.Control.TheVariants as control
use Rattle.sync_more.specs.Once.{with_control}
use Rattle.lib_table.specs.Outcome.{RowResult, Done, Bad, a1, a2, a3, a4, a5, low_32, answer, unless_denied, unwritable, put_word}

-- where the comparator finds its return address
abbrev pub probe_rsp : Frame → ℕ
probe_rsp f = (f.rsp + (2 ^ 64 - 16)) % 2 ^ 64

-- A search goes on with a probe, for which the comparator's return address is written, or ends: then `bsearch` returns.
abbrev pub searching : LibraryData → Memory → Frame → Next → RowResult
searching l m f (next.Probe place) = unless_denied (unwritable m (probe_rsp f) 8) (Done l (put_word m (probe_rsp f) CALL_DOOR) (Probe f place))
searching l m f (next.Done place) = Done l m (Back place ((f.rsp + 8) % 2 ^ 64) f.back true)

abbrev pub searching_on : LibraryData → Memory → Frame × Next → RowResult
searching_on l m s = searching l m s.0 s.1

-- a new search among all the elements
abbrev pub new_frame : Ask → ℕ → Frame
new_frame ask back = record { key = a1 ask; base = a2 ask; lo = 0; hi = a3 ask; size = a4 ask; compar = a5 ask; rsp = ask.rsp; back = back; control = None }

-- bsearch(a1, a2, a3, a4, a5): the key, the elements, how many there are, their size, and the comparator
unfoldable pub search_for : LibraryData → Memory → Ask → ℕ → RowResult
search_for l m ask back =
    if a3 ask == 0 then answer l m ask back 0
    else if nat_le MAX_FRAMES ask.depth then Bad Depth
    else searching_on l m (probing (new_frame ask back))

-- what a comparator of type int (*)(..) answers
abbrev pub comparison : Ask → ℤ
comparison ask = cast_signed w32 (low_32 ask.rax)

-- the routine of a control ran
abbrev pub after_routine : LibraryData → Option ℕ → LibraryData
after_routine l None = l
after_routine l (Some c) = with_rooms l (with_control l.rooms c control.Done)

abbrev pub compared : LibraryData → Memory → Ask → Option Frame → RowResult
compared l m ask None = Bad Door
compared l m ask (Some f) = searching_on (after_routine l f.control) m (resumed f (comparison ask))

-- a return to CALL_DOOR
unfoldable pub call_door : LibraryData → Memory → Ask → RowResult
call_door l m ask = compared l m ask ask.top
