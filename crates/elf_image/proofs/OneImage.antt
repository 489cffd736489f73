-- Places that rise by address are told by which they are.
use Rattle.std.proofs.Common.{◌≡◌, ℕ, zero, suc, ◌<◌, ◌↔◌, List, [], ◌∷◌, refl, sym, ap, ◌∙◌, subst, arith, length}
use Rattle.std.specs.Prelude.{slice_index_or}
use Rattle.std.specs.List.{AllPairs, Contains}
use Rattle.elf_image.specs.declared.place.LibPlace.{LibPlace}
use Rattle.elf_image.specs.Layout.{ImageData, IsBelow}
use Rattle.elf_image.specs.Library.{library_places}
use Rattle.elf_image.specs.Loading.{AreInOrder, IsImageOf}
use Rattle.elf_image.proofs.Places.{rising_tail}

-- the first lies below each later one
first_below : (y : LibPlace) (ys : List LibPlace) (x : LibPlace) (k : ℕ) → AllPairs IsBelow (y ∷ ys) → k < length ys → slice_index_or ys k x ≡ x → y.at < x.at
first_below y ys x k rising lt e = subst (λ (z : LibPlace). y.at < z.at) e (rising 0 (suc k) x (omega arith) (omega arith))

-- each list's first is in the other
one_first : (x y : LibPlace) (xs ys : List LibPlace) → AllPairs IsBelow (x ∷ xs) → AllPairs IsBelow (y ∷ ys) → (k j : ℕ) → k < length (y ∷ ys) → slice_index_or (y ∷ ys) k x ≡ x → j < length (x ∷ xs) → slice_index_or (x ∷ xs) j y ≡ y → x ≡ y
one_first x y xs ys rx ry zero j lt e ltj ej = sym e
one_first x y xs ys rx ry (suc k) zero lt e ltj ej = ej
one_first x y xs ys rx ry (suc k) (suc j) lt e ltj ej =
    let a = first_below y ys x k ry (omega arith) e in
    let b = first_below x xs y j rx (omega arith) ej in
    absurd (omega arith)

later_one : (x p : LibPlace) (ys : List LibPlace) (k : ℕ) → x.at < p.at → k < length (x ∷ ys) → slice_index_or (x ∷ ys) k p ≡ p → Contains ys p
later_one x p ys zero below lt e = let same : x.at < x.at = subst (λ (z : LibPlace). x.at < z.at) (sym e) below in absurd (omega arith)
later_one x p ys (suc k) below lt e = (k, omega arith, e)

in_rest : (x p : LibPlace) (xs ys : List LibPlace) → AllPairs IsBelow (x ∷ xs) → (Contains (x ∷ xs) p → Contains (x ∷ ys) p) → Contains xs p → Contains ys p
in_rest x p xs ys rising all c =
    let there = all (suc c.0, omega arith, c.2) in
    later_one x p ys there.0 (first_below x xs p c.0 rising c.1 c.2) there.1 there.2

same_places : (xs ys : List LibPlace) → AllPairs IsBelow xs → AllPairs IsBelow ys → ((p : LibPlace) → Contains xs p ↔ Contains ys p) → xs ≡ ys
same_places [] [] rx ry h = refl
same_places [] (y ∷ ys) rx ry h = let c = (h y).1 (0, omega arith, refl) in absurd (omega arith)
same_places (x ∷ xs) [] rx ry h = let c = (h x).0 (0, omega arith, refl) in absurd (omega arith)
same_places (x ∷ xs) (y ∷ ys) rx ry h =
    let here = (h x).0 (0, omega arith, refl) in
    let there = (h y).1 (0, omega arith, refl) in
    let e = one_first x y xs ys rx ry here.0 there.0 here.1 here.2 there.1 there.2 in
    let rising = subst (λ z. AllPairs IsBelow (z ∷ ys)) (sym e) ry in
    let same = subst (λ z. (p : LibPlace) → Contains (x ∷ xs) p ↔ Contains (z ∷ ys) p) (sym e) h in
    ap (λ zs. x ∷ zs) (same_places xs ys (rising_tail x xs rx) (rising_tail x ys rising) (λ p. (in_rest x p xs ys rx (same p).0, in_rest x p ys xs rising (same p).1)))
    ∙ ap (λ z. z ∷ ys) e

both_ways : (places xs ys : List LibPlace) → AreInOrder places xs → AreInOrder places ys → (p : LibPlace) → Contains xs p ↔ Contains ys p
both_ways places xs ys a b p = (λ c. (b.same p).1 ((a.same p).0 c), λ c. (a.same p).1 ((b.same p).0 c))

same_parts : (m n : ImageData) → m.entry ≡ n.entry → m.segments ≡ n.segments → m.entries ≡ n.entries → m ≡ n
same_parts m n e s p = ap (λ x. record m { entry = x }) e ∙ ap (λ x. record { entry = n.entry; segments = x; entries = m.entries }) s ∙ ap (λ x. record n { entries = x }) p

pub one_image : (bytes : List ℕ) (m n : ImageData) → IsImageOf bytes m → IsImageOf bytes n → m ≡ n
one_image bytes m n a b =
    same_parts m n (a.entry ∙ sym b.entry) (a.segments ∙ sym b.segments)
    (same_places m.entries n.entries a.entries.rising b.entries.rising (both_ways (library_places bytes) m.entries n.entries a.entries b.entries))
