-- Laws of lives: a change of one thread's life leaves the life of every other number as it was.
use Rattle.std.proofs.Common.{◌≡◌, ◌≢◌, ℕ, suc, ◌+◌, ◌<◌, Bool, true, false, cond, length, get_or, set, Option, Some, None, refl, sym, ap, ◌∙◌, inl, inr, arith, get_or-set_same, get_or-set_other}
use Rattle.std.specs.Prelude.{◌==◌, option_map}
use Rattle.std.proofs.lemmas.Bool.{cases_eq, cases_lt}
use Rattle.std.proofs.lemmas.Bool.Decides.{nat_tests}
use Rattle.std.proofs.lemmas.List.Quantifiers.{position-Some}
use Rattle.address_space.specs.Slots.{slot_of, generation_of, number_in}
use Rattle.address_space.proofs.Numbers.{number_back, slot_below, slot_back, generation_back}
use Rattle.lib_table.specs.declared.life.Life.{Life}
use Rattle.lib_table.specs.declared.life.Life.TheVariants.{Unborn, Live, Ended, Joined}
use Rattle.lib_table.specs.declared.slot.Slot.{Slot}
use Rattle.lib_table.specs.Library.{LibraryData, free_slot, is_free, is_kept, is_thread, is_unborn, kept_in, life_at, life_in, new_slot, next_number, number_at, slot_at, with_joined, with_life}
use Rattle.lib_table.proofs.SlotLemmas.{kept-own}

-- ---- within a slot

pub life-at_own : (s : Slot) → life_in s s.generation ≡ s.life
unfolding life_in
life-at_own s = grind (arith, nat_tests)

pub life-below : (s : Slot) (g : ℕ) → g < s.generation → life_in s g ≡ Joined
unfolding life_in
life-below s g below = grind (arith, nat_tests, below)

pub life-above : (s : Slot) (g : ℕ) → s.generation < g → life_in s g ≡ Unborn
unfolding life_in
life-above s g above = grind (arith, nat_tests, above)

-- the slot's life changes
slot_same : (s n : Slot) (g : ℕ) → n.generation ≡ s.generation → g ≢ s.generation → life_in n g ≡ life_in s g
slot_same s n g same other =
    elim (cases_lt g s.generation) [
      | inl below ↦ life-below n g (omega (arith, same)) ∙ sym (life-below s g below)
      | inr le ↦ let above : s.generation < g = omega (arith, le, other) in life-above n g (omega (arith, same)) ∙ sym (life-above s g above)
    ]

-- the slot goes on to its next number
slot_next : (s n : Slot) (g : ℕ) → n.generation ≡ suc s.generation → n.life ≡ Unborn → g ≢ s.generation → life_in n g ≡ life_in s g
slot_next s n g next free other =
    elim (cases_lt g s.generation) [
      | inl below ↦ life-below n g (omega (arith, next)) ∙ sym (life-below s g below)
      | inr le ↦
          let above : s.generation < g = omega (arith, le, other) in
          elim (cases_lt n.generation g) [
            | inl far ↦ life-above n g far ∙ sym (life-above s g above)
            | inr near ↦
                let own : g ≡ n.generation = omega (arith, next, above, near) in
                ap (life_in n) own ∙ (life-at_own n ∙ (free ∙ sym (life-above s g above)))
          ]
    ]

-- ---- over all slots

same_number : (u v : ℕ) → slot_of v ≡ slot_of u → generation_of v ≡ generation_of u → v ≡ u
unfolding slot_of generation_of
same_number u v s g = omega (arith, s, g)

-- The slot at s becomes n, which gives each of its numbers but that of the generation g the life that it had.
others : (l : LibraryData) (u v : ℕ) (n : Slot) → ((g : ℕ) → g ≢ generation_of u → life_in n g ≡ life_in (slot_at l (slot_of u)) g) → length l.slots ≡ 64 → v ≢ u
    → life_in (get_or (set l.slots (slot_of u) n) (slot_of v) new_slot) (generation_of v) ≡ life_at l v
others l u v n kept few other =
    let low : slot_of u < length l.slots = omega (arith, slot_below u, few) in
    elim (cases_lt (slot_of v) (slot_of u)) [
      | inl below ↦
          let apart : slot_of v ≢ slot_of u = omega (arith, below) in
          ap (λ (x : Slot). life_in x (generation_of v)) (get_or-set_other l.slots (slot_of u) (slot_of v) n new_slot apart)
      | inr le ↦ elim (cases_lt (slot_of u) (slot_of v)) [
        | inl above ↦
            let apart : slot_of v ≢ slot_of u = omega (arith, above) in
            ap (λ (x : Slot). life_in x (generation_of v)) (get_or-set_other l.slots (slot_of u) (slot_of v) n new_slot apart)
        | inr ge ↦
            let one : slot_of v ≡ slot_of u = omega (arith, le, ge) in
            let far : generation_of v ≢ generation_of u = λ e. other (same_number u v one e) in
            ap (λ s. life_in (get_or (set l.slots (slot_of u) n) s new_slot) (generation_of v)) one
            ∙ (ap (λ (x : Slot). life_in x (generation_of v)) (get_or-set_same l.slots (slot_of u) n new_slot low)
            ∙ (kept (generation_of v) far ∙ ap (λ s. life_in (slot_at l s) (generation_of v)) (sym one)))
      ]
    ]

-- the slot's number is the least that wasn't joined
abbrev pub IsNext : LibraryData → ℕ → Type 0
IsNext l u = (slot_at l (slot_of u)).generation ≡ generation_of u

-- a live or ended thread is the least of its slot that wasn't joined
pub kept-next : (l : LibraryData) (u : ℕ) → is_kept (life_at l u) ≡ true → IsNext l u
kept-next l u kept = sym (kept-own (slot_at l (slot_of u)) (generation_of u) kept).0

pub with_life-own : (l : LibraryData) (u : ℕ) (life : Life) → length l.slots ≡ 64 → life_at (with_life l u life) u ≡ life
with_life-own l u life few =
    let n : Slot = record { generation = generation_of u; life = life } in
    ap (λ (x : Slot). life_in x (generation_of u)) (get_or-set_same l.slots (slot_of u) n new_slot (omega (arith, slot_below u, few))) ∙ life-at_own n

pub with_life-other : (l : LibraryData) (u v : ℕ) (life : Life) → length l.slots ≡ 64 → IsNext l u → v ≢ u → life_at (with_life l u life) v ≡ life_at l v
with_life-other l u v life few next other =
    let n : Slot = record { generation = generation_of u; life = life } in
    others l u v n (λ g far. slot_same (slot_at l (slot_of u)) n g (sym next) (λ e. far (e ∙ next))) few other

pub with_joined-own : (l : LibraryData) (u : ℕ) → length l.slots ≡ 64 → life_at (with_joined l u) u ≡ Joined
with_joined-own l u few =
    let n : Slot = record { generation = generation_of u + 1; life = Unborn } in
    ap (λ (x : Slot). life_in x (generation_of u)) (get_or-set_same l.slots (slot_of u) n new_slot (omega (arith, slot_below u, few))) ∙ life-below n (generation_of u) (omega arith)

pub with_joined-other : (l : LibraryData) (u v : ℕ) → length l.slots ≡ 64 → IsNext l u → v ≢ u → life_at (with_joined l u) v ≡ life_at l v
with_joined-other l u v few next other =
    let n : Slot = record { generation = generation_of u + 1; life = Unborn } in
    others l u v n (λ g far. slot_next (slot_at l (slot_of u)) n g (omega (arith, next)) refl (λ e. far (e ∙ next))) few other

number_from : (l : LibraryData) (u : ℕ) (o : Option ℕ) → free_slot l ≡ o → option_map (number_at l) o ≡ Some u → length l.slots ≡ 64 → IsNext l u × (life_at l u ≡ Unborn)
number_from l u None is e few = absurd cc
number_from l u (Some s) is e few =
    let found = position-Some is_free l.slots s new_slot is in
    let low : s < 64 = omega (arith, found.0, few) in
    let g = (slot_at l s).generation in
    let number : number_in s g ≡ u = cc in
    let slot : slot_of u ≡ s = ap slot_of (sym number) ∙ slot_back s g low in
    let generation : generation_of u ≡ g = ap generation_of (sym number) ∙ generation_back s g low in
    let free : (slot_at l s).life ≡ Unborn = unborn_is (slot_at l s).life found.1 in (
      ap (λ x. (slot_at l x).generation) slot ∙ sym generation,
      ap (λ x. life_in (slot_at l x) (generation_of u)) slot ∙ (ap (life_in (slot_at l s)) generation ∙ (life-at_own (slot_at l s) ∙ free)),
    )
  where
    unborn_is : (life : Life) → is_unborn life ≡ true → life ≡ Unborn
    unborn_is Unborn h = refl
    unborn_is (Live start argument) h = absurd cc
    unborn_is (Ended value) h = absurd cc
    unborn_is Joined h = absurd cc

-- the number of the next thread is unborn, and the least of its slot that wasn't joined
pub next-unborn : (l : LibraryData) (u : ℕ) → next_number l ≡ Some u → length l.slots ≡ 64 → IsNext l u × (life_at l u ≡ Unborn)
next-unborn l u e few = number_from l u (free_slot l) refl e few

-- ---- the thread in a slot

number_if : (k : Bool) (o u : ℕ) → is_thread (cond k (Some o) None) u ≡ cond k (o == u) false
number_if true o u = refl
number_if false o u = refl

if_same : (k : Bool) (o u : ℕ) → o ≡ u → cond k (o == u) false ≡ k
if_same true o u e = grind (arith, nat_tests)
if_same false o u e = refl

if_other : (k : Bool) (o u : ℕ) → o ≢ u → cond k (o == u) false ≡ false
if_other true o u ne = grind (arith, nat_tests)
if_other false o u ne = refl

not_true : (b : Bool) → (b ≡ true → ⊥) → b ≡ false
not_true true far = absurd (far refl)
not_true false far = refl

-- of a slot's numbers the one that is told, and no other, lives or has ended
pub kept_in-only : (l : LibraryData) (s u : ℕ) → slot_of u ≡ s → is_thread (kept_in l s) u ≡ is_kept (life_at l u)
kept_in-only l s u at =
    let x = slot_at l s in
    let low : s < 64 = omega (arith, slot_below u, at) in
    let there : life_at l u ≡ life_in x (generation_of u) = ap (λ y. life_in (slot_at l y) (generation_of u)) at in
    number_if (is_kept x.life) (number_in s x.generation) u ∙ elim (cases_eq (generation_of u) x.generation) [
      | inl same ↦
          let number : number_in s x.generation ≡ u = ap (λ y. number_in y x.generation) (sym at) ∙ (ap (number_in (slot_of u)) (sym same) ∙ number_back u) in
          let own : life_in x (generation_of u) ≡ x.life = ap (life_in x) same ∙ life-at_own x in
          if_same (is_kept x.life) (number_in s x.generation) u number ∙ sym (ap is_kept (there ∙ own))
      | inr other ↦
          let apart : number_in s x.generation ≢ u = λ e. other (ap generation_of (sym e) ∙ generation_back s x.generation low) in
          if_other (is_kept x.life) (number_in s x.generation) u apart ∙ sym (not_true (is_kept (life_at l u)) (λ k. other (kept-own x (generation_of u) (ap is_kept (sym there) ∙ k)).0))
    ]

pub kept_in-there : (l : LibraryData) (s n : ℕ) (slot : Slot) → slot ≡ slot_at l s → is_kept slot.life ≡ true → n ≡ number_in s slot.generation → kept_in l s ≡ Some n
kept_in-there l s n slot at kept number =
    ap (λ (k : Bool). cond k (Some (number_at l s)) None) (ap (λ (x : Slot). is_kept x.life) (sym at) ∙ kept)
    ∙ ap Some (ap (λ (x : Slot). number_in s x.generation) (sym at) ∙ sym number)

pub kept_in-none : (l : LibraryData) (s : ℕ) (slot : Slot) → slot ≡ slot_at l s → is_kept slot.life ≡ false → kept_in l s ≡ None
kept_in-none l s slot at free = ap (λ (k : Bool). cond k (Some (number_at l s)) None) (ap (λ (x : Slot). is_kept x.life) (sym at) ∙ free)
