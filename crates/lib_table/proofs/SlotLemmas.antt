-- Numbers of threads, slots and lives.
use Rattle.std.proofs.Common.{◌≡◌, ℕ, ◌^◌, ◌<◌, Bool, true, false, cond, List, ◌∷◌, suc, replicate, subst, length, get_or, Some, refl, sym, ap, ◌∙◌, arith}
use Rattle.std.specs.List.{All, list_all, position}
use Rattle.std.proofs.lemmas.List.Sums.{AllPass-from_list_all}
use Rattle.std.proofs.lemmas.List.{get_or_default, length-replicate}
use Rattle.std.proofs.lemmas.List.Elements.{All-cons, All-replicate}
use Rattle.std.proofs.lemmas.Bool.Decides.{nat_tests}
use Rattle.std.proofs.lemmas.List.Quantifiers.{position-Some}
use Rattle.address_space.specs.Slots.{number_in}
use Rattle.lib_table.specs.declared.life.Life.{Life}
use Rattle.lib_table.specs.declared.life.Life.TheVariants.{Unborn, Live, Ended, Joined}
use Rattle.lib_table.specs.declared.slot.Slot.{Slot}
use Rattle.lib_table.specs.Library.{LibraryData, HasNumbers, IsSlot, has_number, is_free, is_kept, is_unborn, life_in, new_slot, slot_at}

-- the number of the first free slot fits
pub free-fits : (l : LibraryData) (slots : List Slot) (s : ℕ) (slot : Slot) → l.slots ≡ slots → length slots ≡ 64 → HasNumbers l → position is_free slots ≡ Some s → slot ≡ get_or slots s slot → slot.generation < 2 ^ 26
unfolding number_in
free-fits l slots s slot same few has is at =
    let found = position-Some is_free slots s new_slot is in
    let low : s < 64 = omega (arith, found.0, few) in
    let here : slot_at l s ≡ slot = ap (λ (x : List Slot). get_or x s new_slot) same ∙ (get_or_default slots s new_slot slot found.0 ∙ sym at) in
    let free : is_free (slot_at l s) ≡ true = ap (λ (x : List Slot). is_free (get_or x s new_slot)) same ∙ found.1 in
    let fits = has s low free in
    let number : slot.generation ≡ (slot_at l s).generation = ap (λ (x : Slot). x.generation) (sym here) in
    omega (arith, fits, number)

kept_if : (below same : Bool) (life : Life) → is_kept (cond below Joined (cond same life Unborn)) ≡ true → (below ≡ false) × (same ≡ true) × (is_unborn life ≡ false)
kept_if true same life h = absurd cc
kept_if false true Unborn h = absurd cc
kept_if false true (Live start argument) h = (refl, refl, refl)
kept_if false true (Ended value) h = (refl, refl, refl)
kept_if false true Joined h = absurd cc
kept_if false false life h = absurd cc

-- a number that lives or has ended is the slot's own
pub kept-own : (s : Slot) (g : ℕ) → is_kept (life_in s g) ≡ true → (g ≡ s.generation) × (is_free s ≡ false)
unfolding life_in
kept-own s g h = let parts = kept_if _ _ s.life h in (grind (arith, nat_tests, parts.1), parts.2)

-- the slots at first
pub first-slots : (slots : List Slot) (s : Slot) (n : ℕ) → slots ≡ s ∷ replicate n new_slot → IsSlot s → (length slots ≡ suc n) × All IsSlot slots
first-slots slots s n same here = (
  ap length same ∙ ap suc (length-replicate n new_slot),
  subst (All IsSlot) (sym same) (All-cons IsSlot s (replicate n new_slot) here (All-replicate IsSlot n new_slot (record { number = λ e. absurd cc; kept = refl }))),
)

number_by : (s : Slot) (slot : ℕ) → slot < 64 → has_number s ≡ true → is_free s ≡ true → number_in slot s.generation < 2 ^ 32
unfolding number_in
number_by s slot low has free =
    let few : s.generation < 2 ^ 26 = grind (arith, nat_tests, has, free) in
    omega (arith, few)

-- what is computed slot by slot
pub numbers-computed : (l : LibraryData) (slots : List Slot) → l.slots ≡ slots → length slots ≡ 64 → list_all has_number slots ≡ true → HasNumbers l
numbers-computed l slots same few all s low free =
    let number : ℕ = number_in s (slot_at l s).generation in
    let has : has_number (slot_at l s) ≡ true = ap (λ (x : List Slot). has_number (get_or x s new_slot)) same ∙ AllPass-from_list_all has_number slots all s new_slot (omega (arith, few)) in
    number_by (slot_at l s) s low has free
