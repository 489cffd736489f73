-- Condition variables: POSIX pthread_cond_init, destroy, wait, signal and broadcast. There are no spurious wakes, and the first sleeper is woken first; both are this project's own.
use Rattle.std.specs.Prelude.{ℕ, ◌==◌, Bool, false, not, if◌then◌else◌, List, [], ◌∷◌, ◌++◌, take, drop, Option, Some, None, is_some}
use Rattle.std.specs.Ordering.{nat_cmp}
use Rattle.std.specs.FinMap.{FinMap, get, insert, remove}
use Rattle.sync_more.specs.declared.ask.Outcome.TheVariants.{Answer, Sleep, Wake, Waits}
use Rattle.sync_more.specs.declared.limits.TheConstants.{EBUSY, EINVAL, EPERM}
use Rattle.sync_more.specs.declared.state.Phase.{Phase}
use Rattle.sync_more.specs.declared.state.Phase.TheVariants.{Asleep, Woken, AtBarrier, Passed}
use Rattle.sync_more.specs.declared.state.Sleepers.{Sleepers}
use Rattle.sync_more.specs.Rooms.{RoomsData, Reply, told, phase_of, without_phase, with_phases}

abbrev pub has_sleeper : RoomsData → ℕ → Bool
has_sleeper r c = is_some (get r.sleepers c)

-- pthread_cond_init(c, attributes): attributes other than null aren't valid
unfoldable pub cond_init : RoomsData → ℕ → ℕ → Reply
cond_init r c attributes =
    if not (attributes == 0) then told r (Answer EINVAL)
    else if has_sleeper r c then told r (Answer EBUSY)
    else told r (Answer 0)

-- pthread_cond_destroy(c)
unfoldable pub cond_destroy : RoomsData → ℕ → Reply
cond_destroy r c = if has_sleeper r c then told r (Answer EBUSY) else told r (Answer 0)

-- those who sleep at a condition variable; where none does, none, who may let go of any mutex
abbrev pub sleepers_or_none : Option Sleepers → ℕ → Sleepers
sleepers_or_none None mutex = record { mutex = mutex; threads = [] }
sleepers_or_none (Some s) mutex = s

abbrev pub and_last : Sleepers → ℕ → Sleepers
and_last s t = record { mutex = s.mutex; threads = s.threads ++ t ∷ [] }

-- thread t is the last who sleeps at c
abbrev pub fallen_asleep : RoomsData → ℕ → ℕ → ℕ → RoomsData
fallen_asleep r t c mutex = record r { sleepers = insert r.sleepers c (and_last (sleepers_or_none (get r.sleepers c) mutex) t); phases = insert r.phases t Asleep }

abbrev pub is_another : Option Sleepers → ℕ → Bool
is_another None mutex = false
is_another (Some s) mutex = not (s.mutex == mutex)

-- thread t, which neither sleeps nor was woken, comes to sleep, if it holds the mutex and the others let go of the same
abbrev pub lies_down : RoomsData → ℕ → ℕ → ℕ → Bool → Reply
lies_down r t c mutex holds =
    if not holds then told r (Answer EPERM)
    else if is_another (get r.sleepers c) mutex then told r (Answer EINVAL)
    else told (fallen_asleep r t c mutex) Sleep

-- a thread that was woken goes on once the mutex is free
abbrev pub gets_up : RoomsData → ℕ → ℕ → Bool → Reply
gets_up r t mutex free = if free then told (without_phase r t) (Wake mutex) else told r Waits

abbrev pub sleeps_or_wakes : Option Phase → RoomsData → ℕ → ℕ → ℕ → Bool → Bool → Reply
sleeps_or_wakes (Some Asleep) r t c mutex holds free = told r Waits
sleeps_or_wakes (Some (Woken m)) r t c mutex holds free = gets_up r t m free
sleeps_or_wakes (Some AtBarrier) r t c mutex holds free = lies_down r t c mutex holds
sleeps_or_wakes (Some (Passed round)) r t c mutex holds free = lies_down r t c mutex holds
sleeps_or_wakes None r t c mutex holds free = lies_down r t c mutex holds

-- pthread_cond_wait(c, mutex)
unfoldable pub cond_wait : RoomsData → ℕ → ℕ → ℕ → Bool → Bool → Reply
cond_wait r t c mutex holds free = sleeps_or_wakes (phase_of r t) r t c mutex holds free

-- with these threads at c, where none slept
abbrev pub with_line : FinMap nat_cmp Sleepers → ℕ → ℕ → List ℕ → FinMap nat_cmp Sleepers
with_line sleepers c mutex [] = sleepers
with_line sleepers c mutex (t ∷ ts) = insert sleepers c (record { mutex = mutex; threads = t ∷ ts })

-- of those who sleep at c the first ones are woken, and the last ones stay
abbrev pub woken : RoomsData → ℕ → ℕ → List ℕ → List ℕ → RoomsData
woken r c mutex firsts lasts = record r { sleepers = with_line (remove r.sleepers c) c mutex lasts; phases = with_phases r.phases firsts (Woken mutex) }

abbrev pub signalled : RoomsData → ℕ → Option Sleepers → RoomsData
signalled r c None = r
signalled r c (Some s) = woken r c s.mutex (take 1 s.threads) (drop 1 s.threads)

abbrev pub all_woken : RoomsData → ℕ → Option Sleepers → RoomsData
all_woken r c None = r
all_woken r c (Some s) = woken r c s.mutex s.threads []

-- pthread_cond_signal(c): the first sleeper is woken, if there is one
unfoldable pub cond_signal : RoomsData → ℕ → Reply
cond_signal r c = told (signalled r c (get r.sleepers c)) (Answer 0)

-- pthread_cond_broadcast(c): all sleepers are woken
unfoldable pub cond_broadcast : RoomsData → ℕ → Reply
cond_broadcast r c = told (all_woken r c (get r.sleepers c)) (Answer 0)
