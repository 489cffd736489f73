-- What a change of several tables makes of the rooms.
use Rattle.std.proofs.Common.{◌≡◌, ℕ, ◌+◌, List, [], ◌∷◌, ◌++◌, Option, Some, IfSome, ap, subst, ◌∙◌}
use Rattle.std.specs.Ordering.{nat_cmp}
use Rattle.std.specs.FinMap.{FinMap, get, insert, remove}
use Rattle.sync_more.specs.declared.state.Phase.{Phase}
use Rattle.sync_more.specs.declared.state.Phase.TheVariants.{Asleep, AtBarrier, Passed}
use Rattle.sync_more.specs.declared.state.Sleepers.{Sleepers}
use Rattle.sync_more.specs.declared.state.Barrier.{Barrier}
use Rattle.sync_more.specs.Rooms.{RoomsData, with_phases}
use Rattle.sync_more.specs.Conditions.{fallen_asleep, sleepers_or_none}
use Rattle.sync_more.specs.Barriers.{joined, opened}
use Rattle.sync_more.proofs.MapLemmas.{insert-removed}

pub is_asleep : (r : RoomsData) (t c mutex : ℕ) (s : Sleepers) (ts : List ℕ) (taken put : FinMap nat_cmp Sleepers) (phases : FinMap nat_cmp Phase) →
    s ≡ sleepers_or_none (get r.sleepers c) mutex → taken ≡ remove r.sleepers c → ts ≡ s.threads ++ t ∷ [] → put ≡ insert taken c (record { mutex = s.mutex; threads = ts }) →
    phases ≡ insert r.phases t Asleep →
    ◌≡◌ {A = RoomsData} (record { sleepers = put; barriers = r.barriers; controls = r.controls; phases = phases; rounds = r.rounds }) (fallen_asleep r t c mutex)
is_asleep r t c mutex s ts taken put phases is took line puts phased =
    let there = sleepers_or_none (get r.sleepers c) mutex in
    let lines : put ≡ insert r.sleepers c (record { mutex = there.mutex; threads = there.threads ++ t ∷ [] }) =
    puts
    ∙ ap (λ (m : FinMap nat_cmp Sleepers). insert m c (record { mutex = s.mutex; threads = ts })) took
    ∙ insert-removed r.sleepers c (record { mutex = s.mutex; threads = ts })
    ∙ ap (λ (us : List ℕ). insert r.sleepers c (record { mutex = s.mutex; threads = us })) line
    ∙ ap (λ (x : Sleepers). insert r.sleepers c (record { mutex = x.mutex; threads = x.threads ++ t ∷ [] })) is in
    λ i. record { sleepers = lines i; barriers = r.barriers; controls = r.controls; phases = phased i; rounds = r.rounds }

pub is_joined : (r : RoomsData) (t b : ℕ) (x : Barrier) (ts : List ℕ) (taken put : FinMap nat_cmp Barrier) (phases : FinMap nat_cmp Phase) →
    Some x ≡ get r.barriers b → taken ≡ remove r.barriers b → ts ≡ x.waiters ++ t ∷ [] → put ≡ insert taken b (record { count = x.count; waiters = ts; round = x.round }) →
    phases ≡ insert r.phases t AtBarrier →
    IfSome (get r.barriers b) (λ barrier. ◌≡◌ {A = RoomsData} (record { sleepers = r.sleepers; barriers = put; controls = r.controls; phases = phases; rounds = r.rounds }) (joined r t b barrier))
is_joined r t b x ts taken put phases is took line puts phased =
    let lines : put ≡ insert r.barriers b (record { count = x.count; waiters = x.waiters ++ t ∷ []; round = x.round }) =
    puts
    ∙ ap (λ (m : FinMap nat_cmp Barrier). insert m b (record { count = x.count; waiters = ts; round = x.round })) took
    ∙ insert-removed r.barriers b (record { count = x.count; waiters = ts; round = x.round })
    ∙ ap (λ (us : List ℕ). insert r.barriers b (record { count = x.count; waiters = us; round = x.round })) line in
    subst (λ (o : Option Barrier). IfSome o (λ barrier. ◌≡◌ {A = RoomsData} (record { sleepers = r.sleepers; barriers = put; controls = r.controls; phases = phases; rounds = r.rounds }) (joined r t b barrier))) is
    (λ i. record { sleepers = r.sleepers; barriers = lines i; controls = r.controls; phases = phased i; rounds = r.rounds })

pub is_opened : (r : RoomsData) (b : ℕ) (x : Barrier) (ts : List ℕ) (none : List ℕ) (taken put : FinMap nat_cmp Barrier) (phases : FinMap nat_cmp Phase) →
    Some x ≡ get r.barriers b → taken ≡ remove r.barriers b → none ≡ [] → put ≡ insert taken b (record { count = x.count; waiters = none; round = r.rounds }) →
    ts ≡ x.waiters → phases ≡ with_phases r.phases ts (Passed x.round) →
    IfSome (get r.barriers b) (λ barrier. ◌≡◌ {A = RoomsData} (record { sleepers = r.sleepers; barriers = put; controls = r.controls; phases = phases; rounds = r.rounds + 1 }) (opened r b barrier))
is_opened r b x ts none taken put phases is took line puts those phased =
    let lines : put ≡ insert r.barriers b (record { count = x.count; waiters = []; round = r.rounds }) =
    puts
    ∙ ap (λ (m : FinMap nat_cmp Barrier). insert m b (record { count = x.count; waiters = none; round = r.rounds })) took
    ∙ insert-removed r.barriers b (record { count = x.count; waiters = none; round = r.rounds })
    ∙ ap (λ (us : List ℕ). insert r.barriers b (record { count = x.count; waiters = us; round = r.rounds })) line in
    let all : phases ≡ with_phases r.phases x.waiters (Passed x.round) = phased ∙ ap (λ (us : List ℕ). with_phases r.phases us (Passed x.round)) those in
    subst (λ (o : Option Barrier). IfSome o (λ barrier. ◌≡◌ {A = RoomsData} (record { sleepers = r.sleepers; barriers = put; controls = r.controls; phases = phases; rounds = r.rounds + 1 }) (opened r b barrier))) is
    (λ i. record { sleepers = r.sleepers; barriers = lines i; controls = r.controls; phases = all i; rounds = r.rounds + 1 })
