-- What comes of the calls of condition variables, barriers and once.
use Rattle.std.proofs.Common.{◌≡◌, ℕ, ◌+◌, ◌-◌, ◌%◌, ◌^◌, nat_lt, Bool, true, false, cond, ◌&&◌, not, List, ◌∷◌, Option, Some, None, refl, sym, ap, ◌∙◌, rules}
use Rattle.std.specs.Prelude.{option_map}
use Rattle.std.specs.FinMap.{get}
use Rattle.tso_memory.specs.Memory.{Memory}
use Rattle.sync_more.specs.declared.ask.SyncName.{SyncName}
use Rattle.sync_more.specs.declared.ask.SyncName.TheVariants.{CondInit, CondDestroy, CondWait, CondSignal, CondBroadcast, BarrierInit, BarrierWait, BarrierDestroy, Once}
use Rattle.sync_more.specs.declared.ask.Outcome.{Outcome}
use Rattle.sync_more.specs.declared.ask.Outcome.TheVariants as outcome
use Rattle.sync_more.specs.declared.state.Phase.{Phase}
use Rattle.sync_more.specs.declared.state.Phase.TheVariants.{Asleep, Woken, AtBarrier, Passed}
use Rattle.sync_more.specs.declared.state.Barrier.{Barrier}
use Rattle.sync_more.specs.declared.state.Control.{Control}
use Rattle.sync_more.specs.declared.state.Control.TheVariants as control
use Rattle.sync_more.specs.Rooms.{RoomsData, Reply, is_waiting, phase_of, told}
use Rattle.sync_more.specs.Conditions.{cond_init, cond_destroy, cond_signal, cond_broadcast, gets_up, lies_down, sleeps_or_wakes}
use Rattle.sync_more.specs.Conditions as conditions
use Rattle.sync_more.specs.Barriers.{barrier_init, barrier_wait, barrier_destroy, arrived, arrives_or_passes, destroyed}
use Rattle.sync_more.specs.Once.{begun_unless, is_run, is_running}
use Rattle.sync_more.specs.Once as onces
use Rattle.sync_more.specs.Row.{a1, row}
use Rattle.lib_table.specs.declared.ask.Ask.{Ask}
use Rattle.lib_table.specs.declared.answer.BadKind.{BadKind}
use Rattle.lib_table.specs.declared.answer.BadKind.TheVariants.{Access, Depth}
use Rattle.address_space.specs.declared.TheConstants.{CALL_DOOR}
use Rattle.lib_table.specs.declared.answer.Called.TheVariants.{Probe}
use Rattle.lib_table.specs.declared.limits.TheConstants.{MAX_FRAMES}
use Rattle.lib_table.specs.Library.{LibraryData, is_held_by, with_held, without_held, with_rooms}
use Rattle.lib_table.specs.Outcome.{Done, Bad, a2, put_word, returned, sync_args, unless_denied, unwritable}
use Rattle.lib_table.specs.Searches.{probe_rsp}
use Rattle.lib_table.specs.Sync.{comes_to, cond_wait, is_simple, is_simple_name, is_takeable, is_wake, obstacle, once, once_frame, replied, replied_letting_go}

-- ---- outcomes

-- a thread that goes on with its mutex
pub comes_to-wake : (l asleep : LibraryData) (m : Memory) (t : ℕ) (ask : Ask) (back : ℕ) (o : Outcome) → is_wake o ≡ true → comes_to l asleep m t ask back o ≡ Done (with_held l (a2 ask) t) m (returned ask back 0)
comes_to-wake l asleep m t ask back (outcome.Answer value) h = absurd cc
comes_to-wake l asleep m t ask back outcome.Sleep h = absurd cc
comes_to-wake l asleep m t ask back (outcome.Wake mutex) h = refl
comes_to-wake l asleep m t ask back outcome.Begin h = absurd cc
comes_to-wake l asleep m t ask back outcome.Deep h = absurd cc
comes_to-wake l asleep m t ask back outcome.Waits h = absurd cc

-- where the thread didn't come to sleep
pub comes_to-awake : (l asleep : LibraryData) (m : Memory) (t : ℕ) (ask : Ask) (back : ℕ) (o : Outcome) → (o ≡ outcome.Sleep → ⊥) → comes_to l asleep m t ask back o ≡ comes_to l l m t ask back o
comes_to-awake l asleep m t ask back (outcome.Answer value) h = refl
comes_to-awake l asleep m t ask back outcome.Sleep h = absurd (h refl)
comes_to-awake l asleep m t ask back (outcome.Wake mutex) h = refl
comes_to-awake l asleep m t ask back outcome.Begin h = refl
comes_to-awake l asleep m t ask back outcome.Deep h = refl
comes_to-awake l asleep m t ask back outcome.Waits h = refl

simple-if : (b : Bool) (p q : Reply) → is_simple p.outcome ≡ true → is_simple q.outcome ≡ true → is_simple (cond b p q).outcome ≡ true
simple-if true p q g h = g
simple-if false p q g h = h

-- ---- calls that ask for no mutex and begin no routine

simple_arrived : (r : RoomsData) (t b : ℕ) (o : Option Barrier) → is_simple (arrived r t b o).outcome ≡ true
simple_arrived r t b None = refl
simple_arrived r t b (Some barrier) = search (simple-if, rules)

simple_arrives : (o : Option Phase) (r : RoomsData) (t b : ℕ) → is_simple (arrives_or_passes o r t b).outcome ≡ true
simple_arrives (Some AtBarrier) r t b = refl
simple_arrives (Some (Passed round)) r t b = refl
simple_arrives (Some Asleep) r t b = simple_arrived r t b (get r.barriers b)
simple_arrives (Some (Woken mutex)) r t b = simple_arrived r t b (get r.barriers b)
simple_arrives None r t b = simple_arrived r t b (get r.barriers b)

simple_destroyed : (r : RoomsData) (b : ℕ) (o : Option Barrier) → is_simple (destroyed r b o).outcome ≡ true
simple_destroyed r b None = refl
simple_destroyed r b (Some barrier) = search (simple-if, rules)

pub simple-row : (r : RoomsData) (t : ℕ) (name : SyncName) (args : List ℕ) (holds free : Bool) → is_simple_name name ≡ true → is_simple (row r t name args holds free).outcome ≡ true
unfolding cond_init cond_destroy cond_signal cond_broadcast barrier_init barrier_wait barrier_destroy
simple-row r t CondInit args holds free h = search (simple-if, rules)
simple-row r t CondDestroy args holds free h = search (simple-if, rules)
simple-row r t CondWait args holds free h = absurd cc
simple-row r t CondSignal args holds free h = refl
simple-row r t CondBroadcast args holds free h = refl
simple-row r t BarrierInit args holds free h = search (simple-if, rules)
simple-row r t BarrierWait args holds free h = simple_arrives (phase_of r t) r t (a1 args)
simple-row r t BarrierDestroy args holds free h = simple_destroyed r (a1 args) (get r.barriers (a1 args))
simple-row r t Once args holds free h = absurd cc

-- ---- cond_wait

lies-simple : (r : RoomsData) (t c mutex : ℕ) (holds : Bool) → is_simple (lies_down r t c mutex holds).outcome ≡ true
lies-simple r t c mutex holds = search (simple-if, rules)

simple-no_wake : (o : Outcome) → is_simple o ≡ true → is_wake o ≡ false
simple-no_wake (outcome.Answer value) h = refl
simple-no_wake outcome.Sleep h = refl
simple-no_wake (outcome.Wake mutex) h = absurd cc
simple-no_wake outcome.Begin h = absurd cc
simple-no_wake outcome.Deep h = absurd cc
simple-no_wake outcome.Waits h = refl

-- whether a thread in this phase goes on, by whether it would wait without the mutex and with it
goes_on : (o : Option Phase) (r : RoomsData) (t c mutex : ℕ) (holds free : Bool)
    → (free && (is_waiting (sleeps_or_wakes o r t c mutex false false).outcome && not (is_waiting (sleeps_or_wakes o r t c mutex false true).outcome))) ≡ is_wake (sleeps_or_wakes o r t c mutex holds free).outcome
goes_on (Some Asleep) r t c mutex holds true = refl
goes_on (Some Asleep) r t c mutex holds false = refl
goes_on (Some (Woken m)) r t c mutex holds true = refl
goes_on (Some (Woken m)) r t c mutex holds false = refl
goes_on (Some AtBarrier) r t c mutex holds true = sym (simple-no_wake _ (lies-simple r t c mutex holds))
goes_on (Some AtBarrier) r t c mutex holds false = sym (simple-no_wake _ (lies-simple r t c mutex holds))
goes_on (Some (Passed round)) r t c mutex holds true = sym (simple-no_wake _ (lies-simple r t c mutex holds))
goes_on (Some (Passed round)) r t c mutex holds false = sym (simple-no_wake _ (lies-simple r t c mutex holds))
goes_on None r t c mutex holds true = sym (simple-no_wake _ (lies-simple r t c mutex holds))
goes_on None r t c mutex holds false = sym (simple-no_wake _ (lies-simple r t c mutex holds))

pub wakes-when : (r : RoomsData) (t : ℕ) (args : List ℕ) (holds free : Bool)
    → (free && (is_waiting (row r t CondWait args false false).outcome && not (is_waiting (row r t CondWait args false true).outcome))) ≡ is_wake (row r t CondWait args holds free).outcome
unfolding conditions.cond_wait
wakes-when r t args holds free = goes_on (phase_of r t) r t _ _ holds free

sleeps_simply : (o : Option Phase) (r : RoomsData) (t c mutex : ℕ) (holds free : Bool) → is_wake (sleeps_or_wakes o r t c mutex holds free).outcome ≡ false → is_simple (sleeps_or_wakes o r t c mutex holds free).outcome ≡ true
sleeps_simply (Some Asleep) r t c mutex holds free h = refl
sleeps_simply (Some (Woken m)) r t c mutex holds true h = absurd cc
sleeps_simply (Some (Woken m)) r t c mutex holds false h = refl
sleeps_simply (Some AtBarrier) r t c mutex holds free h = lies-simple r t c mutex holds
sleeps_simply (Some (Passed round)) r t c mutex holds free h = lies-simple r t c mutex holds
sleeps_simply None r t c mutex holds free h = lies-simple r t c mutex holds

-- a call by which the thread doesn't go on with its mutex
pub no_wake-simple : (r : RoomsData) (t : ℕ) (args : List ℕ) (holds free : Bool) → is_wake (row r t CondWait args holds free).outcome ≡ false → is_simple (row r t CondWait args holds free).outcome ≡ true
unfolding conditions.cond_wait
no_wake-simple r t args holds free h = sleeps_simply (phase_of r t) r t _ _ holds free h

-- ---- once

unless_begun : (o : Option Control) (r : RoomsData) (t c : ℕ) → ((begun_unless o r t c true).outcome ≡ outcome.Begin → ⊥) → is_simple (begun_unless o r t c true).outcome ≡ true
unless_begun (Some control.Done) r t c h = refl
unless_begun (Some (control.Running owner)) r t c h = refl
unless_begun None r t c h = absurd (h refl)

-- a call that begins no routine, where it could
pub no_begin-simple : (r : RoomsData) (t : ℕ) (args : List ℕ) (holds : Bool) → ((row r t Once args holds true).outcome ≡ outcome.Begin → ⊥) → is_simple (row r t Once args holds true).outcome ≡ true
unfolding onces.once
no_begin-simple r t args holds h = unless_begun (get r.controls _) r t _ h

unless_deep : (o : Option Control) (r : RoomsData) (t c : ℕ) → ((begun_unless o r t c false).outcome ≡ outcome.Deep → ⊥) → is_simple (begun_unless o r t c false).outcome ≡ true
unless_deep (Some control.Done) r t c h = refl
unless_deep (Some (control.Running owner)) r t c h = refl
unless_deep None r t c h = absurd (h refl)

-- a call that would begin no routine, where it can't
pub no_deep-simple : (r : RoomsData) (t : ℕ) (args : List ℕ) (holds : Bool) → ((row r t Once args holds false).outcome ≡ outcome.Deep → ⊥) → is_simple (row r t Once args holds false).outcome ≡ true
unfolding onces.once
no_deep-simple r t args holds h = unless_deep (get r.controls _) r t _ h

same_reply : (o : Option Control) (r : RoomsData) (t c : ℕ) (free : Bool) → ((begun_unless o r t c false).outcome ≡ outcome.Deep → ⊥) → begun_unless o r t c free ≡ begun_unless o r t c false
same_reply (Some control.Done) r t c free h = refl
same_reply (Some (control.Running owner)) r t c free h = refl
same_reply None r t c free h = absurd (h refl)

-- it then replies alike whether or not a routine can be begun
pub no_deep-same : (r : RoomsData) (t : ℕ) (args : List ℕ) (holds free : Bool) → ((row r t Once args holds false).outcome ≡ outcome.Deep → ⊥) → row r t Once args holds free ≡ row r t Once args holds false
unfolding onces.once
no_deep-same r t args holds free h = same_reply (get r.controls _) r t _ free h

begins : (o : Option Control) (r : RoomsData) (t c : ℕ) → (begun_unless o r t c false).outcome ≡ outcome.Deep → (begun_unless o r t c true).outcome ≡ outcome.Begin
begins (Some control.Done) r t c h = absurd cc
begins (Some (control.Running owner)) r t c h = absurd cc
begins None r t c h = refl

-- where it can't begin a routine for which there would be room, it begins it where it can
pub deep-begins : (r : RoomsData) (t : ℕ) (args : List ℕ) (holds : Bool) → (row r t Once args holds false).outcome ≡ outcome.Deep → (row r t Once args holds true).outcome ≡ outcome.Begin
unfolding onces.once
deep-begins r t args holds h = begins (get r.controls _) r t _ h

-- ---- rows of the library

-- a call of cond_wait by which the thread neither goes on with its mutex nor comes to sleep, or one that waits
pub cond_wait-awake : (l l' : LibraryData) (m : Memory) (t : ℕ) (ask : Ask) (back : ℕ) (args : List ℕ) (holds free : Bool) (o : Outcome)
    → args ≡ sync_args ask → holds ≡ is_held_by l (a2 ask) t → free ≡ is_takeable l (a2 ask)
    → row l.rooms t CondWait args holds free ≡ told l'.rooms o → l' ≡ with_rooms l l'.rooms → (o ≡ outcome.Sleep → ⊥)
    → cond_wait l m t ask back ≡ comes_to l' l' m t ask back o
unfolding cond_wait
cond_wait-awake l l' m t ask back args holds free o same_args same_holds same_free is kept awake =
    let reply : row l.rooms t CondWait (sync_args ask) (is_held_by l (a2 ask) t) (is_takeable l (a2 ask)) ≡ told l'.rooms o =
    ap (λ x. row l.rooms t CondWait x (is_held_by l (a2 ask) t) (is_takeable l (a2 ask))) (sym same_args)
    ∙ (ap (λ x. row l.rooms t CondWait args x (is_takeable l (a2 ask))) (sym same_holds)
    ∙ (ap (λ x. row l.rooms t CondWait args holds x) (sym same_free) ∙ is)) in
    ap (replied_letting_go l m t ask back) reply
    ∙ (comes_to-awake (with_rooms l l'.rooms) (without_held (with_rooms l l'.rooms) (a2 ask)) m t ask back o awake
    ∙ ap (λ x. comes_to x x m t ask back o) (sym kept))

once_bad : (l : LibraryData) (m : Memory) (t : ℕ) (ask : Ask) (back : ℕ) (kind : BadKind) (free : Bool) (u : Option ℕ)
    → unwritable m ((ask.rsp + (2 ^ 64 - 16)) % 2 ^ 64) 8 ≡ u
    → cond free (option_map (λ x. Access x) u) (Some Depth) ≡ Some kind → (row l.rooms t Once (sync_args ask) false false).outcome ≡ outcome.Deep
    → replied l m t ask back (row l.rooms t Once (sync_args ask) false free) ≡ Bad kind
once_bad l m t ask back kind false u e k deep =
    let reply = row l.rooms t Once (sync_args ask) false false in
    let same : Depth ≡ kind = cc in
    ap (comes_to (with_rooms l reply.rooms) (with_rooms l reply.rooms) m t ask back) deep ∙ ap (λ x. Bad x) same
once_bad l m t ask back kind true None e k deep = absurd cc
once_bad l m t ask back kind true (Some x) e k deep =
    let reply = row l.rooms t Once (sync_args ask) false true in
    let same : Access x ≡ kind = cc in
    ap (comes_to (with_rooms l reply.rooms) (with_rooms l reply.rooms) m t ask back) (deep-begins l.rooms t (sync_args ask) false deep)
    ∙ (ap (λ v. unless_denied v (Done (with_rooms l reply.rooms) (put_word m (probe_rsp (once_frame ask back)) CALL_DOOR) (Probe (once_frame ask back) (a2 ask)))) e ∙ ap (λ y. Bad y) same)

-- a routine that can't be begun
pub once-deep : (l : LibraryData) (m : Memory) (t : ℕ) (ask : Ask) (back : ℕ) (kind : BadKind) (args : List ℕ) → args ≡ sync_args ask → obstacle m ask ≡ Some kind
    → (row l.rooms t Once args false false).outcome ≡ outcome.Deep → once l m t ask back ≡ Bad kind
unfolding once
once-deep l m t ask back kind args same k deep =
    once_bad l m t ask back kind (nat_lt ask.depth MAX_FRAMES) (unwritable m ((ask.rsp + (2 ^ 64 - 16)) % 2 ^ 64) 8) refl k (ap (λ x. (row l.rooms t Once x false false).outcome) (sym same) ∙ deep)

-- a call of once that begins no routine in any case
pub once-other : (l l' : LibraryData) (m : Memory) (t : ℕ) (ask : Ask) (back : ℕ) (args : List ℕ) (o : Outcome) → args ≡ sync_args ask
    → row l.rooms t Once args false false ≡ told l'.rooms o → l' ≡ with_rooms l l'.rooms → (o ≡ outcome.Deep → ⊥) → once l m t ask back ≡ comes_to l' l' m t ask back o
unfolding once
once-other l l' m t ask back args o same is kept other =
    let reply : row l.rooms t Once (sync_args ask) false (nat_lt ask.depth MAX_FRAMES) ≡ told l'.rooms o =
    ap (λ x. row l.rooms t Once x false (nat_lt ask.depth MAX_FRAMES)) (sym same)
    ∙ (no_deep-same l.rooms t args false (nat_lt ask.depth MAX_FRAMES) (λ e. other (ap (λ (p : Reply). p.outcome) (sym is) ∙ e)) ∙ is) in
    ap (replied l m t ask back) reply ∙ ap (λ x. comes_to x x m t ask back o) (sym kept)

runs_by : (o : Option Control) (r : RoomsData) (t c : ℕ) → is_waiting (begun_unless o r t c false).outcome ≡ is_run o
runs_by (Some control.Done) r t c = refl
runs_by (Some (control.Running owner)) r t c = refl
runs_by None r t c = refl

-- a call of once waits where the control's routine runs
pub runs-when : (r : RoomsData) (t c : ℕ) (args : List ℕ) → is_waiting (row r t Once (c ∷ args) false false).outcome ≡ is_running r c
unfolding onces.once
runs-when r t c args = runs_by (get r.controls c) r t c
