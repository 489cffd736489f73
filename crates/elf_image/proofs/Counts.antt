-- Segments that rise by address, and how many of them have one address.
use Rattle.std.proofs.Common.{◌≡◌, ℕ, zero, suc, ◌+◌, ◌-◌, ◌<◌, ◌≤◌, Bool, true, false, List, [], ◌∷◌, length, get_or, count_by, refl, arith}
use Rattle.std.specs.Prelude.{All, AllPairs}
use Rattle.std.specs.List.Sorted.{IsNonDecreasingBy}
use Rattle.std.proofs.lemmas.Bool.Decides.{nat_tests}
use Rattle.std.proofs.lemmas.Grind.{common_steps}
use Rattle.elf_image.specs.declared.header.ProgramHeader.{ProgramHeader}
use Rattle.elf_image.specs.Elf.{holds}

module _ {X : Type 0} (p : X → Bool) where
  count_none : (xs : List X) → All (λ x. p x ≡ false) xs → count_by p xs ≡ 0
  count_none [] none = refl
  count_none (x ∷ xs) none = grind (arith, common_steps, none 0 x (omega arith), count_none xs (λ k d lt. none (suc k) d (omega arith)))

  count_one : (xs : List X) (i : ℕ) (d : X) → i < length xs → p (get_or xs i d) ≡ true → 0 < count_by p xs
  count_one [] i d lt is = absurd (omega (arith, lt))
  count_one (x ∷ xs) zero d lt is = grind (arith, common_steps, is)
  count_one (x ∷ xs) (suc i) d lt is = grind (arith, common_steps, count_one xs i d (omega arith) is)

  -- two elements pass
  pub count_two : (xs : List X) (i j : ℕ) (d : X) → i < j → j < length xs → p (get_or xs i d) ≡ true → p (get_or xs j d) ≡ true → 1 < count_by p xs
  count_two [] i j d lt in_range is js = absurd (omega (arith, in_range))
  count_two (x ∷ xs) i zero d lt in_range is js = absurd (omega (arith, lt))
  count_two (x ∷ xs) zero (suc j) d lt in_range is js = grind (arith, common_steps, is, count_one xs j d (omega arith) js)
  count_two (x ∷ xs) (suc i) (suc j) d lt in_range is js = grind (arith, common_steps, count_two xs i j d (omega arith) (omega arith) is js)

-- the first ends where the second begins, or below
abbrev pub EndsBelow : ProgramHeader → ProgramHeader → Type 0
EndsBelow g h = g.vaddr + g.memsz ≤ h.vaddr

-- no address is in two of them
pub count_apart : (a : ℕ) (hs : List ProgramHeader) → AllPairs EndsBelow hs → count_by (holds a) hs ≤ 1
count_apart a [] apart = omega arith
count_apart a (h ∷ hs) apart =
    let later = count_apart a hs (λ i j d lt in_range. apart (suc i) (suc j) d (omega arith) (omega arith)) in
    let none : holds a h ≡ true → count_by (holds a) hs ≡ 0 = λ here. count_none (holds a) hs (λ k d lt. grind (arith, nat_tests, here, apart 0 (suc k) d (omega arith) (omega arith))) in
    grind (arith, common_steps, later, none)

-- neighbours that end below each other, among segments that rise
pub apart_from_neighbours : (hs : List ProgramHeader) → IsNonDecreasingBy (λ h. h.vaddr) hs → ((k : ℕ) (d : ProgramHeader) → k + 1 < length hs → EndsBelow (get_or hs k d) (get_or hs (k + 1) d)) → AllPairs EndsBelow hs
apart_from_neighbours hs rising neighbours i j d lt in_range = omega (arith, neighbours i d (omega arith), rising (i + 1) j d (omega arith) in_range)

-- where the second begins before the first ends, both have its first address
pub touch : (hs : List ProgramHeader) (i j : ℕ) (d : ProgramHeader) → IsNonDecreasingBy (λ h. h.vaddr) hs → All (λ h. 0 < h.memsz) hs → i < j → j < length hs → (get_or hs j d).vaddr - (get_or hs i d).vaddr < (get_or hs i d).memsz → (a : ℕ) × (1 < count_by (holds a) hs)
touch hs i j d rising occupied lt in_range meets =
    let a = (get_or hs j d).vaddr in
    let some = occupied j d in_range in
    let up = rising i j d (omega arith) in_range in
    (a, count_two (holds a) hs i j d lt in_range (grind (arith, nat_tests)) (grind (arith, nat_tests)))

-- no two neighbours touch
pub apart : (hs : List ProgramHeader) → IsNonDecreasingBy (λ h. h.vaddr) hs → ((k : ℕ) (d : ProgramHeader) → k + 1 < length hs → EndsBelow (get_or hs k d) (get_or hs (k + 1) d)) → (a : ℕ) → 1 < count_by (holds a) hs → ⊥
apart hs rising neighbours a two = omega (arith, two, count_apart a hs (apart_from_neighbours hs rising neighbours))
