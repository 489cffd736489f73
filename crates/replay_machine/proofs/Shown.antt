-- The threads that live or have ended, one after another.
use Rattle.std.proofs.Common.{◌≡◌, ℕ, zero, suc, ◌+◌, ◌-◌, ◌<◌, ◌≤◌, ◌^◌, Bool, true, false, List, [], ◌∷◌, ◌++◌, Option, Some, None, refl, sym, ap, ◌∙◌, arith, length, take, add-one}
use Rattle.std.specs.Prelude.{if◌then◌else◌, slice_get, nat_lt}
use Rattle.std.proofs.Common.{⊎_elim}
use Rattle.std.proofs.lemmas.Bool.{cases_eq}
use Rattle.address_space.specs.Slots.{slot_of}
use Rattle.lib_table.specs.Library.{is_kept, is_thread, life_at}
use Rattle.lib_table.specs.declared.life.Life.{Life}
use Rattle.lib_table.specs.declared.life.Life.TheVariants as life
use Rattle.tso_memory.specs.declared.write.PendingWrite.{PendingWrite}
use Rattle.machine_model.specs.State.{Machine}
use Rattle.replay_machine.specs.declared.view.ThreadView.{ThreadView}
use Rattle.replay_machine.specs.Views.{IsNext, lesser, numbered, thread_view, threads_below, threads_of, view_in}

-- ---- the least number of a thread

-- the least number from one on that passes, among those of the slots below s
abbrev pub IsLeast : (ℕ → Bool) → ℕ → ℕ → Option ℕ → Type 0
IsLeast p s from None = (u : ℕ) → slot_of u < s → from ≤ u → p u ≡ false
IsLeast p s from (Some t) = (from ≤ t) × (p t ≡ true) × ((u : ℕ) → slot_of u < s → from ≤ u → u < t → p u ≡ false)

abbrev pub kept : Machine → ℕ → Bool
kept m u = is_kept (life_at m.library u)

-- what a slot has
abbrev pub Has : (ℕ → Bool) → ℕ → Option ℕ → Type 0
Has p s o = (u : ℕ) → slot_of u ≡ s → is_thread o u ≡ p u

pub no_slot : (p : ℕ → Bool) (from : ℕ) → IsLeast p 0 from None
no_slot p from = λ u lt le. absurd (omega arith)

-- no thread of the slot passes from this number on
adds_none : (p : ℕ → Bool) (s from : ℕ) (o : Option ℕ) → ((u : ℕ) → slot_of u ≡ s → from ≤ u → p u ≡ false) → IsLeast p s from o → IsLeast p (s + 1) from o
adds_none p s from None none h = λ u lt le. ⊎_elim (λ e. none u e le) (λ ne. h u (omega arith) le) (cases_eq (slot_of u) s)
adds_none p s from (Some t) none h = (h.0, h.1, λ u lt le below. ⊎_elim (λ e. none u e le) (λ ne. h.2 u (omega arith) le below) (cases_eq (slot_of u) s))

pub none_kept : (p : ℕ → Bool) (s from : ℕ) (o : Option ℕ) → Has p s None → IsLeast p s from o → IsLeast p (s + 1) from o
none_kept p s from o has h = adds_none p s from o (λ u e le. sym (has u e)) h

other : (t u : ℕ) → (t ≡ u → ⊥) → is_thread (Some t) u ≡ false
other t u ne = grind arith

pub kept_lower : (p : ℕ → Bool) (s from t : ℕ) (o : Option ℕ) → Has p s (Some t) → t < from → IsLeast p s from o → IsLeast p (s + 1) from o
kept_lower p s from t o has lt h = adds_none p s from o (λ u e le. sym (has u e) ∙ other t u (λ same. omega arith)) h

itself : (t : ℕ) → is_thread (Some t) t ≡ true
itself t = grind arith

pub kept_here : (p : ℕ → Bool) (s from t : ℕ) (o : Option ℕ) → slot_of t ≡ s → Has p s (Some t) → from ≤ t → IsLeast p s from o → IsLeast p (s + 1) from (Some (lesser o t))
kept_here p s from t None at has le h = (
  le,
  sym (has t at) ∙ itself t,
  λ u lt ge below. ⊎_elim (λ e. sym (has u e) ∙ other t u (λ same. omega arith)) (λ ne. h u (omega arith) ge) (cases_eq (slot_of u) s),
)
kept_here p s from t (Some v) at has le h =
    elim (nat_lt v t) as (λ b. nat_lt v t ≡ b → IsLeast p (s + 1) from (Some (if b then v else t))) [
      | true ↦ λ e. let vt : v < t = grind arith in (h.0, h.1, λ u lt ge below. ⊎_elim (λ e. sym (has u e) ∙ other t u (λ same. omega arith)) (λ ne. h.2 u (omega arith) ge below) (cases_eq (slot_of u) s))
      | false ↦ λ e. let tv : t ≤ v = grind arith in (le, sym (has t at) ∙ itself t, λ u lt ge below. ⊎_elim (λ e. sym (has u e) ∙ other t u (λ same. omega arith)) (λ ne. h.2 u (omega arith) ge (omega arith)) (cases_eq (slot_of u) s))
    ] refl

in_a_slot : (u : ℕ) → slot_of u < 64
unfolding slot_of
in_a_slot u = omega arith

pub all_slots : (m : Machine) (from : ℕ) (o : Option ℕ) → IsLeast (kept m) 64 from o → IsNext m from o
all_slots m from None h = λ u le. h u (in_a_slot u) le
all_slots m from (Some t) h = (h.0, h.1, λ u le below. h.2 u (in_a_slot u) le below)

-- ---- waiting writes

pub no_write_yet : (writes : List PendingWrite) → [] ≡ take 0 writes
no_write_yet [] = refl
no_write_yet (w ∷ writes) = refl

take_next : (writes : List PendingWrite) (i : ℕ) (w : PendingWrite) → slice_get writes i ≡ Some w → take (suc i) writes ≡ take i writes ++ w ∷ []
take_next [] zero w h = absurd (let e : None ≡ Some w = h in cc)
take_next [] (suc i) w h = absurd (let e : None ≡ Some w = h in cc)
take_next (x ∷ writes) zero w h = let same : x ≡ w = cc in ap (λ y. y ∷ []) same
take_next (x ∷ writes) (suc i) w h = ap (λ y. x ∷ y) (take_next writes i w h)

pub write_more : (writes : List PendingWrite) (i : ℕ) (w : PendingWrite) → slice_get writes i ≡ Some w → take i writes ++ w ∷ [] ≡ take (i + 1) writes
write_more writes i w h = sym (ap (λ n. take n writes) (add-one i) ∙ take_next writes i w h)

pub all_writes : (writes : List PendingWrite) → take (length writes) writes ≡ writes
all_writes [] = refl
all_writes (x ∷ writes) = ap (λ y. x ∷ y) (all_writes writes)

pub is_there : (writes : List PendingWrite) (i : ℕ) → i < length writes → slice_get writes i ≡ None → ⊥
is_there [] i lt h = omega arith
is_there (x ∷ writes) zero lt h = let e : Some x ≡ None = h in cc
is_there (x ∷ writes) (suc i) lt h = is_there writes i (omega arith) h

-- ---- all threads

shows_none : (m : Machine) (s : ℕ) (l : Life) → is_kept l ≡ false → view_in m s l ≡ None
shows_none m s life.Unborn h = refl
shows_none m s (life.Live start argument) h = absurd (let e : true ≡ false = h in cc)
shows_none m s (life.Ended value) h = absurd (let e : true ≡ false = h in cc)
shows_none m s life.Joined h = refl

pub none_below : (m : Machine) → [] ≡ threads_below m 0
unfolding threads_below
none_below m = refl

pub nil_right : (A : Type 0) (l : List A) → l ++ [] ≡ l
nil_right A [] = refl
nil_right A (x ∷ l) = ap (λ y. x ∷ y) (nil_right A l)

-- numbers of threads that show nothing add nothing
gap : (m : Machine) (from k : ℕ) → ((u : ℕ) → from ≤ u → u < from + k → kept m u ≡ false) → threads_below m (from + k) ≡ threads_below m from
unfolding threads_below
gap m from zero none = let at : from + 0 ≡ from = omega arith in ap (threads_below m) at
gap m from (suc k) none =
    let last : thread_view m (from + k) ≡ None = shows_none m (slot_of (from + k)) (life_at m.library (from + k)) (none (from + k) (omega arith) (omega arith)) in
    let at : from + suc k ≡ suc (from + k) = omega arith in
    let more : threads_below m (from + suc k) ≡ threads_below m (from + k) ++ numbered (from + k) (thread_view m (from + k)) = ap (threads_below m) at in
    let nothing : threads_below m (from + k) ++ numbered (from + k) (thread_view m (from + k)) ≡ threads_below m (from + k) ++ [] = ap (λ x. threads_below m (from + k) ++ numbered (from + k) x) last in
    more ∙ nothing ∙ nil_right (ℕ × ThreadView) (threads_below m (from + k)) ∙ gap m from k (λ u le lt. none u le (omega arith))

gap_to : (m : Machine) (from n : ℕ) → from ≤ n → ((u : ℕ) → from ≤ u → u < n → kept m u ≡ false) → threads_below m n ≡ threads_below m from
gap_to m from n le none =
    let at : n ≡ from + (n - from) = omega arith in
    ap (threads_below m) at ∙ gap m from (n - from) (λ u ge lt. none u ge (omega arith))

-- the next thread
pub one_more : (m : Machine) (from t : ℕ) (threads : List (ℕ × ThreadView)) → threads ≡ threads_below m from → IsNext m from (Some t) → threads ++ numbered t (thread_view m t) ≡ threads_below m (t + 1)
unfolding threads_below
one_more m from t threads so next =
    ap (λ x. x ++ numbered t (thread_view m t)) (so ∙ sym (gap_to m from t next.0 next.2)) ∙ ap (threads_below m) (sym (add-one t))

pub no_others : (m : Machine) (from : ℕ) (threads : List (ℕ × ThreadView)) → threads ≡ threads_below m from → from ≤ 2 ^ 32 → IsNext m from None → threads ≡ threads_of m
no_others m from threads so le next = so ∙ sym (gap_to m from (2 ^ 32) le (λ u ge lt. next u ge))
