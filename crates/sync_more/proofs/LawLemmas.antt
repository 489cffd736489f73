-- Laws of the table: how the count of rounds grows, and which calls change a control.
use Rattle.std.proofs.Common.{◌≡◌, ℕ, ◌+◌, ◌≤◌, Bool, true, false, cond, List, Option, Some, None, refl, arith, rules}
use Rattle.std.specs.FinMap.{get}
use Rattle.sync_more.specs.declared.ask.SyncName.{SyncName}
use Rattle.sync_more.specs.declared.ask.SyncName.TheVariants.{CondInit, CondDestroy, CondWait, CondSignal, CondBroadcast, BarrierInit, BarrierWait, BarrierDestroy, Once}
use Rattle.sync_more.specs.declared.state.Phase.{Phase}
use Rattle.sync_more.specs.declared.state.Phase.TheVariants.{Asleep, Woken, AtBarrier, Passed}
use Rattle.sync_more.specs.declared.state.Sleepers.{Sleepers}
use Rattle.sync_more.specs.declared.state.Barrier.{Barrier}
use Rattle.sync_more.specs.declared.state.Control.{Control}
use Rattle.sync_more.specs.declared.state.Control.TheVariants.{Running, Done}
use Rattle.sync_more.specs.Rooms.{RoomsData, Reply, phase_of}
use Rattle.sync_more.specs.Conditions.{cond_init, cond_destroy, cond_wait, cond_signal, cond_broadcast, gets_up, lies_down, sleeps_or_wakes, signalled, all_woken}
use Rattle.sync_more.specs.Barriers.{barrier_init, barrier_wait, barrier_destroy, arrived, arrives_or_passes, destroyed}
use Rattle.sync_more.specs.Once.{once, begun_unless}
use Rattle.sync_more.specs.Row.{row, a1}

-- What a reply leaves of the rooms' other parts: the controls stay, and at most one round is drawn.
pub record Keeps (r : RoomsData) (x : Reply) : Type 0 where
  pub controls : x.rooms.controls ≡ r.controls
  pub rounds : x.rooms.rounds ≤ r.rounds + 1

kept : (r : RoomsData) (x : Reply) → x.rooms.controls ≡ r.controls → x.rooms.rounds ≡ r.rounds → Keeps r x
kept r x c n = record { controls = c; rounds = omega (arith, n) }

drawn : (r : RoomsData) (x : Reply) → x.rooms.controls ≡ r.controls → x.rooms.rounds ≡ r.rounds + 1 → Keeps r x
drawn r x c n = record { controls = c; rounds = omega (arith, n) }

keeps-if : (r : RoomsData) (b : Bool) (x y : Reply) → Keeps r x → Keeps r y → Keeps r (cond b x y)
keeps-if r true x y p q = p
keeps-if r false x y p q = q

lies_down-keeps : (r : RoomsData) (t c mutex : ℕ) (holds : Bool) → Keeps r (lies_down r t c mutex holds)
lies_down-keeps r t c mutex holds = search (keeps-if, kept, drawn, rules)

gets_up-keeps : (r : RoomsData) (t mutex : ℕ) (free : Bool) → Keeps r (gets_up r t mutex free)
gets_up-keeps r t mutex free = search (keeps-if, kept, drawn, rules)

wait-keeps : (o : Option Phase) (r : RoomsData) (t c mutex : ℕ) (holds free : Bool) → Keeps r (sleeps_or_wakes o r t c mutex holds free)
wait-keeps (Some Asleep) r t c mutex holds free = kept r _ refl refl
wait-keeps (Some (Woken m)) r t c mutex holds free = gets_up-keeps r t m free
wait-keeps (Some AtBarrier) r t c mutex holds free = lies_down-keeps r t c mutex holds
wait-keeps (Some (Passed round)) r t c mutex holds free = lies_down-keeps r t c mutex holds
wait-keeps None r t c mutex holds free = lies_down-keeps r t c mutex holds

arrived-keeps : (o : Option Barrier) (r : RoomsData) (t b : ℕ) → Keeps r (arrived r t b o)
arrived-keeps None r t b = kept r _ refl refl
arrived-keeps (Some x) r t b = search (keeps-if, kept, drawn, rules)

pass-keeps : (o : Option Phase) (r : RoomsData) (t b : ℕ) → Keeps r (arrives_or_passes o r t b)
pass-keeps (Some AtBarrier) r t b = kept r _ refl refl
pass-keeps (Some (Passed round)) r t b = kept r _ refl refl
pass-keeps (Some Asleep) r t b = arrived-keeps (get r.barriers b) r t b
pass-keeps (Some (Woken mutex)) r t b = arrived-keeps (get r.barriers b) r t b
pass-keeps None r t b = arrived-keeps (get r.barriers b) r t b

destroyed-keeps : (o : Option Barrier) (r : RoomsData) (b : ℕ) → Keeps r (destroyed r b o)
destroyed-keeps None r b = kept r _ refl refl
destroyed-keeps (Some x) r b = search (keeps-if, kept, drawn, rules)

signal-keeps : (o : Option Sleepers) (r : RoomsData) (c : ℕ) → ((signalled r c o).controls ≡ r.controls) × ((signalled r c o).rounds ≡ r.rounds)
signal-keeps None r c = (refl, refl)
signal-keeps (Some s) r c = (refl, refl)

broadcast-keeps : (o : Option Sleepers) (r : RoomsData) (c : ℕ) → ((all_woken r c o).controls ≡ r.controls) × ((all_woken r c o).rounds ≡ r.rounds)
broadcast-keeps None r c = (refl, refl)
broadcast-keeps (Some s) r c = (refl, refl)

-- no call but pthread_once changes a control, and each draws one round at most
pub row-keeps : (r : RoomsData) (t : ℕ) (name : SyncName) (args : List ℕ) (holds free : Bool) → (name ≡ Once → ⊥) → Keeps r (row r t name args holds free)
unfolding cond_init cond_destroy cond_wait cond_signal cond_broadcast barrier_init barrier_wait barrier_destroy
row-keeps r t CondInit args holds free h = search (keeps-if, kept, drawn, rules)
row-keeps r t CondDestroy args holds free h = search (keeps-if, kept, drawn, rules)
row-keeps r t CondWait args holds free h = wait-keeps (phase_of r t) r t _ _ holds free
row-keeps r t CondSignal args holds free h = let k = signal-keeps (get r.sleepers (a1 args)) r (a1 args) in kept r _ k.0 k.1
row-keeps r t CondBroadcast args holds free h = let k = broadcast-keeps (get r.sleepers (a1 args)) r (a1 args) in kept r _ k.0 k.1
row-keeps r t BarrierInit args holds free h = search (keeps-if, kept, drawn, rules)
row-keeps r t BarrierWait args holds free h = pass-keeps (phase_of r t) r t _
row-keeps r t BarrierDestroy args holds free h = destroyed-keeps (get r.barriers (a1 args)) r _
row-keeps r t Once args holds free h = absurd (h refl)

once-rounds : (o : Option Control) (r : RoomsData) (t control : ℕ) (free : Bool) → (begun_unless o r t control free).rooms.rounds ≡ r.rounds
once-rounds (Some Done) r t control free = refl
once-rounds (Some (Running owner)) r t control free = refl
once-rounds None r t control true = refl
once-rounds None r t control false = refl

-- each call draws one round at most
pub row-rounds : (r : RoomsData) (t : ℕ) (name : SyncName) (args : List ℕ) (holds free : Bool) → (row r t name args holds free).rooms.rounds ≤ r.rounds + 1
unfolding once
row-rounds r t CondInit args holds free = (row-keeps r t CondInit args holds free (λ e. absurd cc)).rounds
row-rounds r t CondDestroy args holds free = (row-keeps r t CondDestroy args holds free (λ e. absurd cc)).rounds
row-rounds r t CondWait args holds free = (row-keeps r t CondWait args holds free (λ e. absurd cc)).rounds
row-rounds r t CondSignal args holds free = (row-keeps r t CondSignal args holds free (λ e. absurd cc)).rounds
row-rounds r t CondBroadcast args holds free = (row-keeps r t CondBroadcast args holds free (λ e. absurd cc)).rounds
row-rounds r t BarrierInit args holds free = (row-keeps r t BarrierInit args holds free (λ e. absurd cc)).rounds
row-rounds r t BarrierWait args holds free = (row-keeps r t BarrierWait args holds free (λ e. absurd cc)).rounds
row-rounds r t BarrierDestroy args holds free = (row-keeps r t BarrierDestroy args holds free (λ e. absurd cc)).rounds
row-rounds r t Once args holds free = omega (arith, once-rounds (get r.controls (a1 args)) r t (a1 args) free)
