-- All slots: a fact of each of them, and of the lists of waiting writes.
use Rattle.std.proofs.Common.{◌≡◌, ℕ, zero, suc, ◌+◌, ◌<◌, ◌≤◌, ◌&&◌, Bool, true, false, List, [], ◌∷◌, length, refl, arith}
use Rattle.std.specs.Prelude.{is_some, slice_index_or}
use Rattle.std.specs.List.{list_all, range_with_len}
use Rattle.tso_memory.specs.declared.write.PendingWrite.{PendingWrite}
use Rattle.tso_memory.specs.Tso.{is_none_waiting}
use Rattle.lib_table.specs.declared.life.Life.{Life}
use Rattle.lib_table.specs.declared.life.Life.TheVariants.{Unborn, Live, Ended, Joined}
use Rattle.lib_table.specs.Library.{LibraryData, is_running, live_number, slot_at, thread_in}
use Rattle.machine_model.specs.State.{slots}
use Rattle.machine_model.specs.Step.{is_in_use}

number_runs : (u : ℕ) (life : Life) → is_some (live_number u life) ≡ is_running life
number_runs u Unborn = refl
number_runs u (Live a b) = refl
number_runs u (Ended v) = refl
number_runs u Joined = refl

-- a thread lives in a slot where the slot has a thread's number
pub lives_in : (l : LibraryData) (s : ℕ) → is_some (thread_in l s) ≡ is_in_use l s
lives_in l s = number_runs _ (slot_at l s).life

-- each number passes
pub all_pass : (p : ℕ → Bool) (a n : ℕ) → ((u : ℕ) → a ≤ u → u < a + n → p u ≡ true) → list_all p (range_with_len a n) ≡ true
all_pass p a zero h = refl
all_pass p a (suc n) h = rw (h a (omega arith) (omega arith), all_pass p (a + 1) n (λ u le lt. h u (omega arith) (omega arith))) refl

-- one doesn't
pub one_fails : (p : ℕ → Bool) (a n u : ℕ) → a ≤ u → u < a + n → p u ≡ false → list_all p (range_with_len a n) ≡ false
one_fails p a zero u le lt h = absurd (omega arith)
one_fails p a (suc n) u le lt h =
    elim (p a) as (λ b. p a ≡ b → (b && list_all p (range_with_len (a + 1) n)) ≡ false) [
      | false ↦ λ e. refl
      | true ↦ λ e. one_fails p (a + 1) n u (later a u le e h) (omega arith) h
    ] refl
  where
    later : (a u : ℕ) → a ≤ u → p a ≡ true → p u ≡ false → a + 1 ≤ u
    later a u le e h = grind arith

pub all_lists : (bs : List (List PendingWrite)) (n : ℕ) → length bs ≡ n → ((u : ℕ) → u < n → is_none_waiting (slice_index_or bs u []) ≡ true) → list_all is_none_waiting bs ≡ true
all_lists [] n e h = refl
all_lists (b ∷ bs) n e h = rw (h 0 (omega arith), all_lists bs (length bs) refl (λ u lt. h (suc u) (omega arith))) refl

pub one_list : (bs : List (List PendingWrite)) (u : ℕ) → u < length bs → is_none_waiting (slice_index_or bs u []) ≡ false → list_all is_none_waiting bs ≡ false
one_list [] u lt h = absurd (omega arith)
one_list (b ∷ bs) zero lt h = rw h refl
one_list (b ∷ bs) (suc u) lt h =
    elim (is_none_waiting b) as (λ x. (x && list_all is_none_waiting bs) ≡ false) [ false ↦ refl | true ↦ one_list bs u (omega arith) h ]

pub all_slots : (p : ℕ → Bool) → ((u : ℕ) → u < 64 → p u ≡ true) → list_all p slots ≡ true
unfolding slots
all_slots p h = all_pass p 0 64 (λ u _ lt. h u (omega arith))

pub one_slot : (p : ℕ → Bool) (u : ℕ) → u < 64 → p u ≡ false → list_all p slots ≡ false
unfolding slots
one_slot p u lt h = one_fails p 0 64 u (omega arith) (omega arith) h
