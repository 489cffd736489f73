-- In which slot a request bears a thread, and what it leaves of the others' cores.
use Rattle.std.proofs.Common.{◌≡◌, ◌≢◌, ℕ, zero, suc, ◌+◌, ◌<◌, ◌≤◌, Bool, true, false, cond, Option, Some, None, refl, sym, ap, ◌∙◌, arith, inl, inr, not, ◌&&◌, length}
use Rattle.std.specs.Prelude.{find}
use Rattle.std.specs.List.{range_with_len}
use Rattle.std.proofs.lemmas.Bool.{cases_eq}
use Rattle.std.proofs.lemmas.List.{get_or-set_other, get_or-set_same}
use Rattle.std.proofs.lemmas.Option.{none-some, same_Some}
use Rattle.address_space.specs.Slots.{slot_of}
use Rattle.lib_table.specs.declared.ask.Ask.{Ask}
use Rattle.lib_table.specs.declared.slot.Slot.{Slot}
use Rattle.lib_table.specs.Library.{LibraryData, birth, is_live, is_running, next_number}
use Rattle.machine_model.specs.State.{Machine, core_at, no_core, slots}
use Rattle.machine_model.specs.Step.{born_core, is_in_use, newborn, with_birth}
use Rattle.machine_model.proofs.Independence.{find_passes}
use Rattle.machine_laws.proofs.Requests.{Changed}
use Rattle.machine_laws.proofs.SlotMoves.{SlotMoves, IsKept, IsBegun, IsOver, IsFreed, slot_moves}

-- a thread lives in the slot afterwards, and none did before
abbrev pub is_fresh : LibraryData → LibraryData → ℕ → Bool
is_fresh before after s = is_in_use after s && not (is_in_use before s)

-- a number that passes is found, or one before it
found : (p : ℕ → Bool) (a n s : ℕ) → a ≤ s → s < a + n → p s ≡ true → find p (range_with_len a n) ≡ None → ⊥
found p a zero s le lt h e = absurd (omega arith)
found p a (suc n) s le lt h e =
    elim (p a) as (λ b. p a ≡ b → cond b (Some a) (find p (range_with_len (a + 1) n)) ≡ None → ⊥) [
      | true ↦ λ _ q. none-some a (sym q)
      | false ↦ λ k q. found p (a + 1) n s (past p a s le k h) (omega arith) h q
    ] refl e
  where
    past : (p : ℕ → Bool) (a s : ℕ) → a ≤ s → p a ≡ false → p s ≡ true → a + 1 ≤ s
    past p a s le k h =
        elim (cases_eq a s) [
          | inl same ↦ absurd (let e : false ≡ true = sym k ∙ ap p same ∙ h in cc)
          | inr other ↦ omega arith
        ]

in_slots : (p : ℕ → Bool) (s : ℕ) → s < 64 → p s ≡ true → find p slots ≡ None → ⊥
unfolding slots
in_slots p s low h e = found p 0 64 s (omega arith) (omega arith) h e

both_true : (a b : Bool) → (a && not b) ≡ true → (a ≡ true) × (b ≡ false)
both_true true false h = (refl, refl)
both_true true true h = absurd (let e : false ≡ true = h in cc)
both_true false b h = absurd (let e : false ≡ true = h in cc)

clash : {P : Type 0} (b : Bool) → b ≡ true → b ≡ false → P
clash b p q = absurd (let e : true ≡ false = sym p ∙ q in cc)

-- a thread is born in the slot of the next number alone
fresh_number : (l after : LibraryData) (t : ℕ) (ask : Ask) (s : ℕ) → SlotMoves l after t ask s → is_fresh l after s ≡ true → (u : ℕ) × (next_number l ≡ Some u) × (s ≡ slot_of u)
fresh_number l after t ask s (IsKept same) h =
    let q = both_true (is_in_use after s) (is_in_use l s) h in
    clash (is_in_use after s) q.0 (ap (λ (x : Slot). is_running x.life) same ∙ q.1)
fresh_number l after t ask s (IsBegun u number here before now what) h = (u, number, here)
fresh_number l after t ask s (IsOver own before now what top other) h =
    clash (is_in_use after s) (both_true (is_in_use after s) (is_in_use l s) h).0 (ap (λ (x : Slot). is_running x.life) now)
fresh_number l after t ask s (IsFreed value before now what) h =
    clash (is_in_use after s) (both_true (is_in_use after s) (is_in_use l s) h).0 (ap (λ (x : Slot). is_running x.life) now)

same_slot : (o : Option ℕ) (s v u w : ℕ) → o ≡ Some u → o ≡ Some w → s ≡ slot_of u → v ≡ slot_of w → v ≡ s
same_slot o s v u w p q a b = b ∙ ap slot_of (same_Some w u (sym q ∙ p)) ∙ sym a

pub newborn_here : (l after : LibraryData) (t : ℕ) (ask : Ask) (s : ℕ) → length l.slots ≡ 64 → is_live l t ≡ true → Changed l t ask after → s < 64 → is_fresh l after s ≡ true → newborn l after ≡ Some s
newborn_here l after t ask s sized live h low new =
    elim (newborn l after) as (λ o. newborn l after ≡ o → o ≡ Some s) [
      | None ↦ λ e. absurd (in_slots (is_fresh l after) s low new e)
      | Some v ↦ λ e.
          let here = fresh_number l after t ask s (slot_moves l after t ask s sized live h) new in
          let there = fresh_number l after t ask v (slot_moves l after t ask v sized live h) (find_passes (is_fresh l after) slots v e) in
          ap (λ x. Some x) (same_slot (next_number l) s v here.0 there.0 here.1 there.1 here.2 there.2)
    ] refl

pub newborn_elsewhere : (l after : LibraryData) (s v : ℕ) → is_fresh l after s ≡ false → newborn l after ≡ Some v → s ≢ v
newborn_elsewhere l after s v old e same =
    let p = find_passes (is_fresh l after) slots v e in
    let q : true ≡ false = sym p ∙ ap (is_fresh l after) (sym same) ∙ old in
    cc

-- ---- cores

core_elsewhere_by : (m : Machine) (o : Option ℕ) (s : ℕ) → ((v : ℕ) → o ≡ Some v → s ≢ v) → core_at (with_birth m o) s ≡ core_at m s
core_elsewhere_by m None s h = refl
core_elsewhere_by m (Some v) s h = get_or-set_other m.cores v s (born_core v (birth m.library v)) no_core (h v refl)

-- where no thread is born in a slot its core stays
pub core_stays : (m : Machine) (l after : LibraryData) (s : ℕ) → is_fresh l after s ≡ false → core_at (with_birth m (newborn l after)) s ≡ core_at m s
core_stays m l after s old = core_elsewhere_by m (newborn l after) s (λ v e. newborn_elsewhere l after s v old e)

-- where one is, it is that with which the thread is born
pub core_born : (m : Machine) (o : Option ℕ) (s : ℕ) → s < length m.cores → o ≡ Some s → core_at (with_birth m o) s ≡ born_core s (birth m.library s)
core_born m o s low e = ap (λ x. core_at (with_birth m x) s) e ∙ get_or-set_same m.cores s (born_core s (birth m.library s)) no_core low

pub birth_library : (m : Machine) (o : Option ℕ) → (with_birth m o).library ≡ m.library
birth_library m None = refl
birth_library m (Some s) = refl
