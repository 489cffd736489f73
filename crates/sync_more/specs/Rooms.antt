-- Where threads wait: who sleeps at which condition variable, the barriers, the controls, and the phase of each thread. Objects are their addresses, whose bytes are neither read nor written, and objects of different kinds may have one address.
use Rattle.std.specs.Prelude.{ℕ, ◌≤◌, Bool, true, false, List, [], ◌∷◌, length, Option, IfSome}
use Rattle.std.specs.Ordering.{nat_cmp}
use Rattle.std.specs.FinMap.{FinMap, empty, get, insert, remove}
use Rattle.sync_more.specs.declared.ask.Outcome.{Outcome}
use Rattle.sync_more.specs.declared.ask.Outcome.TheVariants as outcome
use Rattle.sync_more.specs.declared.state.Phase.{Phase}
use Rattle.sync_more.specs.declared.state.Sleepers.{Sleepers}
use Rattle.sync_more.specs.declared.state.Barrier.{Barrier}
use Rattle.sync_more.specs.declared.state.Control.{Control}

-- The sleepers by condition variable: their one mutex, and the threads, first come first; none is kept where none sleeps. The barriers, with their count, those who arrived, first come first, and the round. The controls that run or are done. The phase of each thread's number; none where it waits for nothing. And how many rounds were drawn.
pub record RoomsData : Type 0 where
  pub sleepers : FinMap nat_cmp Sleepers
  pub barriers : FinMap nat_cmp Barrier
  pub controls : FinMap nat_cmp Control
  pub phases : FinMap nat_cmp Phase
  pub rounds : ℕ

-- the rooms, and for how many calls there is room
pub record RoomsView : Type 0 where
  pub state : RoomsData
  pub room : ℕ

-- nothing is there, and no thread waits
abbrev pub no_rooms : RoomsData
no_rooms = record { sleepers = empty; barriers = empty; controls = empty; phases = empty; rounds = 0 }

-- what came of a call: the rooms after it, and what it answers
pub record Reply : Type 0 where
  pub rooms : RoomsData
  pub outcome : Outcome

-- a call that changes nothing
abbrev pub told : RoomsData → Outcome → Reply
told r o = record { rooms = r; outcome = o }

abbrev pub is_waiting : Outcome → Bool
is_waiting (outcome.Answer value) = false
is_waiting outcome.Sleep = false
is_waiting (outcome.Wake mutex) = false
is_waiting outcome.Begin = false
is_waiting outcome.Deep = false
is_waiting outcome.Waits = true

-- the call wasn't carried out
abbrev pub is_refused : Outcome → Bool
is_refused (outcome.Answer value) = false
is_refused outcome.Sleep = false
is_refused (outcome.Wake mutex) = false
is_refused outcome.Begin = false
is_refused outcome.Deep = true
is_refused outcome.Waits = true

-- phases

abbrev pub phase_of : RoomsData → ℕ → Option Phase
phase_of r t = get r.phases t

abbrev pub without_phase : RoomsData → ℕ → RoomsData
without_phase r t = record r { phases = remove r.phases t }

-- all these threads have one phase from now on
abbrev pub with_phases : FinMap nat_cmp Phase → List ℕ → Phase → FinMap nat_cmp Phase
with_phases phases [] p = phases
with_phases phases (t ∷ ts) p = with_phases (insert phases t p) ts p

-- No line of sleepers, or of those who wait at a barrier, is longer than this.
abbrev pub SleepersUpTo : ℕ → FinMap nat_cmp Sleepers → Type 0
SleepersUpTo n sleepers = (c : ℕ) → IfSome (get sleepers c) (λ s. length s.threads ≤ n)

abbrev pub WaitersUpTo : ℕ → FinMap nat_cmp Barrier → Type 0
WaitersUpTo n barriers = (b : ℕ) → IfSome (get barriers b) (λ barrier. length barrier.waiters ≤ n)
