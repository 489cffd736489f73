-- Barriers: POSIX pthread_barrier_init, wait and destroy. Each opening ends a round, and no round comes twice; the last thread to arrive gets the answer PTHREAD_BARRIER_SERIAL_THREAD.
use Rattle.std.specs.Prelude.{ℕ, ◌+◌, ◌-◌, ◌%◌, ◌^◌, ◌==◌, ◌||◌, Bool, false, not, nat_lt, if◌then◌else◌, [], ◌∷◌, ◌++◌, length, Option, Some, None, option_map}
use Rattle.std.specs.FinMap.{get, insert, remove}
use Rattle.sync_more.specs.declared.ask.Outcome.TheVariants.{Answer, Sleep, Waits}
use Rattle.sync_more.specs.declared.limits.TheConstants.{EBUSY, EINVAL, SERIAL_THREAD}
use Rattle.sync_more.specs.declared.state.Phase.{Phase}
use Rattle.sync_more.specs.declared.state.Phase.TheVariants.{Asleep, Woken, AtBarrier, Passed}
use Rattle.sync_more.specs.declared.state.Barrier.{Barrier}
use Rattle.sync_more.specs.Rooms.{RoomsData, Reply, told, phase_of, without_phase, with_phases}

abbrev pub is_awaited : Option Barrier → Bool
is_awaited None = false
is_awaited (Some b) = nat_lt 0 (length b.waiters)

-- a barrier in a new round, which none arrived in
abbrev pub with_new_round : RoomsData → ℕ → ℕ → RoomsData
with_new_round r b count = record r { barriers = insert r.barriers b (record { count = count; waiters = []; round = r.rounds }); rounds = r.rounds + 1 }

-- the lowest 32 bits, as of an argument of type unsigned int
abbrev pub low_32 : ℕ → ℕ
low_32 x = x % 2 ^ 32

-- pthread_barrier_init(b, attributes, count): attributes other than null and a count of 0 aren't valid
unfoldable pub barrier_init : RoomsData → ℕ → ℕ → ℕ → Reply
barrier_init r b attributes count =
    if not (attributes == 0) || low_32 count == 0 then told r (Answer EINVAL)
    else if is_awaited (get r.barriers b) then told r (Answer EBUSY)
    else told (with_new_round r b (low_32 count)) (Answer 0)

-- thread t joins those who wait at the barrier
abbrev pub joined : RoomsData → ℕ → ℕ → Barrier → RoomsData
joined r t b barrier = record r { barriers = insert r.barriers b (record barrier { waiters = barrier.waiters ++ t ∷ [] }); phases = insert r.phases t AtBarrier }

-- the barrier opens: all who wait there pass it in its round
abbrev pub opened : RoomsData → ℕ → Barrier → RoomsData
opened r b barrier = let next = with_new_round r b barrier.count in record next { phases = with_phases r.phases barrier.waiters (Passed barrier.round) }

-- thread t arrives; it is the last where count - 1 others wait
abbrev pub arrived : RoomsData → ℕ → ℕ → Option Barrier → Reply
arrived r t b None = told r (Answer EINVAL)
arrived r t b (Some barrier) = if nat_lt (length barrier.waiters) (barrier.count - 1) then told (joined r t b barrier) Sleep else told (opened r b barrier) (Answer SERIAL_THREAD)

abbrev pub arrives_or_passes : Option Phase → RoomsData → ℕ → ℕ → Reply
arrives_or_passes (Some AtBarrier) r t b = told r Waits
arrives_or_passes (Some (Passed round)) r t b = told (without_phase r t) (Answer 0)
arrives_or_passes (Some Asleep) r t b = arrived r t b (get r.barriers b)
arrives_or_passes (Some (Woken mutex)) r t b = arrived r t b (get r.barriers b)
arrives_or_passes None r t b = arrived r t b (get r.barriers b)

-- pthread_barrier_wait(b)
unfoldable pub barrier_wait : RoomsData → ℕ → ℕ → Reply
barrier_wait r t b = arrives_or_passes (phase_of r t) r t b

abbrev pub destroyed : RoomsData → ℕ → Option Barrier → Reply
destroyed r b None = told r (Answer EINVAL)
destroyed r b (Some barrier) = if nat_lt 0 (length barrier.waiters) then told r (Answer EBUSY) else told (record r { barriers = remove r.barriers b }) (Answer 0)

-- pthread_barrier_destroy(b)
unfoldable pub barrier_destroy : RoomsData → ℕ → Reply
barrier_destroy r b = destroyed r b (get r.barriers b)

abbrev pub barrier_round : RoomsData → ℕ → Option ℕ
barrier_round r b = option_map (λ barrier. barrier.round) (get r.barriers b)

abbrev pub passed_or : Option Phase → Option ℕ → Option ℕ
passed_or (Some (Passed round)) there = Some round
passed_or (Some AtBarrier) there = there
passed_or (Some Asleep) there = there
passed_or (Some (Woken mutex)) there = there
passed_or None there = there

-- the round that thread t passed, where it passed one, else the barrier's
unfoldable pub round_at : RoomsData → ℕ → ℕ → Option ℕ
round_at r t b = passed_or (phase_of r t) (barrier_round r b)
