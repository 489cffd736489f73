-- Which calls wait.
use Rattle.std.proofs.Common.{◌≡◌, ℕ, Bool, true, false, cond, List, Option, Some, None, refl, rules}
use Rattle.sync_more.specs.declared.ask.SyncName.{SyncName}
use Rattle.sync_more.specs.declared.ask.SyncName.TheVariants.{CondInit, CondDestroy, CondWait, CondSignal, CondBroadcast, BarrierInit, BarrierWait, BarrierDestroy, Once}
use Rattle.sync_more.specs.declared.state.Barrier.{Barrier}
use Rattle.sync_more.specs.Rooms.{RoomsData, Reply, is_waiting}
use Rattle.sync_more.specs.Conditions.{cond_init, cond_destroy, cond_signal, cond_broadcast}
use Rattle.sync_more.specs.Barriers.{barrier_init, barrier_destroy, destroyed}
use Rattle.sync_more.specs.Row.{waits}

goes-if : (b : Bool) (r s : Reply) → is_waiting r.outcome ≡ false → is_waiting s.outcome ≡ false → is_waiting (cond b r s).outcome ≡ false
goes-if true r s p q = p
goes-if false r s p q = q

destroyed-goes : (r : RoomsData) (b : ℕ) (o : Option Barrier) → is_waiting (destroyed r b o).outcome ≡ false
destroyed-goes r b None = refl
destroyed-goes r b (Some x) = search (goes-if, rules)

-- no call waits but those of pthread_cond_wait, pthread_barrier_wait and pthread_once
pub others-go : (r : RoomsData) (t : ℕ) (name : SyncName) (args : List ℕ) (holds free : Bool) → (name ≡ CondWait → ⊥) → (name ≡ BarrierWait → ⊥) → (name ≡ Once → ⊥) → waits r t name args holds free ≡ false
unfolding cond_init cond_destroy cond_signal cond_broadcast barrier_init barrier_destroy
others-go r t CondInit args holds free p q s = search (goes-if, rules)
others-go r t CondDestroy args holds free p q s = search (goes-if, rules)
others-go r t CondWait args holds free p q s = absurd (p refl)
others-go r t CondSignal args holds free p q s = refl
others-go r t CondBroadcast args holds free p q s = refl
others-go r t BarrierInit args holds free p q s = search (goes-if, rules)
others-go r t BarrierWait args holds free p q s = absurd (q refl)
others-go r t BarrierDestroy args holds free p q s = search (destroyed-goes, rules)
others-go r t Once args holds free p q s = absurd (s refl)
