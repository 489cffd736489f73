-- Pieces in another order are the same memory.
use Rattle.std.proofs.Common.{◌≡◌, ℕ, zero, suc, ◌<◌, ◌≤◌, ◌^◌, Bool, true, false, List, [], ◌∷◌, length, count_by, cond, Some, None, refl, sym, ap, ◌∙◌, inl, inr, arith}
use Rattle.std.specs.Cmp.{nat_cmp_total}
use Rattle.std.specs.FinMap.{get, same_map, nat_cmp-IsAntisymmetric}
use Rattle.std.specs.List.{list_any}
use Rattle.std.specs.List.Sorted.{IsPermutation}
use mathlib.Core.Bool.{false≢true}
use Rattle.std.proofs.lemmas.Bool.{cases_Bool}
use Rattle.std.proofs.lemmas.Grind.{common_steps}
use Rattle.std.proofs.lemmas.List.{get_or_default}
use Rattle.std.proofs.lemmas.List.Elements.{All-from_get_or}
use Rattle.std.proofs.lemmas.List.Folds.{Any-from_list_any, list_any_at}
use Rattle.std.proofs.lemmas.List.Sorted.{All-permutation, Contains-permutation, list_any-IsPermutation, sum_by-IsPermutation}
use Rattle.tso_memory.specs.Piece.{PieceData, end_of, has, piece_at, no_piece, AreApart, AreLow}
use Rattle.tso_memory.specs.Memory.{memory_of, cell_of}
use Rattle.tso_memory.proofs.MemoryLemmas.{memory_at, memory_none}

-- ---- how many pieces have an address

count_none : (p : PieceData → Bool) (ps : List PieceData) → ((i : ℕ) → i < length ps → p (piece_at ps i) ≡ false) → count_by p ps ≡ 0
count_none p [] none = refl
count_none p (q ∷ ps) none = grind (arith, common_steps, none 0 (omega arith), count_none p ps (λ i lt. none (suc i) (omega arith)))

count_one : (p : PieceData → Bool) (ps : List PieceData) (i : ℕ) → i < length ps → p (piece_at ps i) ≡ true → 0 < count_by p ps
count_one p [] i lt is = absurd (omega (arith, lt))
count_one p (q ∷ ps) zero lt is = grind (arith, common_steps, is)
count_one p (q ∷ ps) (suc i) lt is = grind (arith, common_steps, count_one p ps i (omega arith) is)

count_two : (p : PieceData → Bool) (ps : List PieceData) (i j : ℕ) → i < j → j < length ps → p (piece_at ps i) ≡ true → p (piece_at ps j) ≡ true → 1 < count_by p ps
count_two p [] i j less lt is js = absurd (omega (arith, lt))
count_two p (q ∷ ps) i zero less lt is js = absurd (omega (arith, less))
count_two p (q ∷ ps) zero (suc j) less lt is js = grind (arith, common_steps, is, count_one p ps j (omega arith) js)
count_two p (q ∷ ps) (suc i) (suc j) less lt is js = grind (arith, common_steps, count_two p ps i j (omega arith) (omega arith) is js)

other_fails : (b : Bool) → (b ≡ true → ⊥) → b ≡ false
other_fails true never = absurd (never refl)
other_fails false never = refl

count_apart : (x : ℕ) (ps : List PieceData) → AreApart ps → count_by (λ p. has p x) ps ≤ 1
count_apart x [] apart = omega arith
count_apart x (p ∷ ps) apart =
    let later = count_apart x ps (λ i j less lt. apart (suc i) (suc j) (omega arith) (omega arith)) in
    let none : has p x ≡ true → count_by (λ q. has q x) ps ≡ 0 = λ here. count_none (λ q. has q x) ps (λ k lt. other_fails (has (piece_at ps k) x) (λ there. apart 0 (suc k) (omega arith) (omega arith) x here there)) in
    grind (arith, common_steps, later, none)

module _ (ps qs : List PieceData) (moved : IsPermutation ps qs) where
  pub apart_permuted : AreApart ps → AreApart qs
  apart_permuted apart = λ i j less lt x in_i in_j.
      let two = count_two (λ p. has p x) qs i j less lt in_i in_j in
      let same : count_by (λ p. has p x) qs ≡ count_by (λ p. has p x) ps = sum_by-IsPermutation (λ p. cond (has p x) 1 0) ps qs moved in
      omega (arith, two, same, count_apart x ps apart)

  pub low_permuted : AreLow ps → AreLow qs
  low_permuted low = λ i lt. All-permutation (λ p. end_of p ≤ 2 ^ 47) ps qs moved (All-from_get_or (λ p. end_of p ≤ 2 ^ 47) ps no_piece low) i no_piece lt

  -- the byte at an address that a piece has
  found : AreApart ps → (y : ℕ) → list_any (λ p. has p y) ps ≡ true → get (memory_of ps) y ≡ get (memory_of qs) y
  found apart y some =
      let there = Any-from_list_any (λ p. has p y) ps some in
      let p = there.1 in
      let here : piece_at ps there.0 ≡ p = get_or_default ps there.0 no_piece p there.2 ∙ there.3 in
      let other = Contains-permutation ps qs p moved (there.0, there.2, there.3) in
      let same : piece_at qs other.0 ≡ p = get_or_default qs other.0 no_piece p other.1 ∙ other.2 in
      memory_at ps there.0 y apart there.2 (ap (λ (q : PieceData). has q y) here ∙ there.4)
      ∙ (ap (λ (q : PieceData). Some (cell_of q y)) (here ∙ sym same)
      ∙ sym (memory_at qs other.0 y (apart_permuted apart) other.1 (ap (λ (q : PieceData). has q y) same ∙ there.4)))

  -- no byte at another
  absent : (rs : List PieceData) (y : ℕ) → list_any (λ p. has p y) rs ≡ false → get (memory_of rs) y ≡ None
  absent rs y none = memory_none rs y (λ i lt. other_fails (has (piece_at rs i) y) (λ is. false≢true (sym none ∙ list_any_at (λ p. has p y) rs i no_piece lt is)))

  pub memory_permuted : AreApart ps → memory_of qs ≡ memory_of ps
  memory_permuted apart =
      same_map nat_cmp_total nat_cmp-IsAntisymmetric _ _ (λ y. elim (cases_Bool (list_any (λ p. has p y) ps)) [
        | inl some ↦ sym (found apart y some)
        | inr none ↦ absent qs y (sym (list_any-IsPermutation (λ p. has p y) ps qs moved) ∙ none) ∙ sym (absent ps y none)
      ])
