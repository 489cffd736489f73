-- What is found in a list, and where.
use Rattle.std.proofs.Common.{◌≡◌, ℕ, suc, ◌+◌, ◌^◌, ◌<◌, ◌≤◌, ◌&&◌, nat_lt, nat_le, cond, Bool, true, false, List, [], ◌∷◌, length, get_or, Some, None, refl, sym, subst, ◌∙◌, arith}
use Rattle.std.specs.Prelude.{All, Contains, find}
use Rattle.std.specs.List.{list_any, position, position_or_len}
use mathlib.Core.Bool.{false≢true}
use Rattle.std.proofs.lemmas.Bool.Decides.{nat_tests}
use Rattle.std.proofs.lemmas.Option.{none-some, same_Some}
use Rattle.std.proofs.lemmas.List.Sums.{fails_before_first}
use Rattle.std.proofs.lemmas.List.Folds.{list_any_none, list_any_at}
use Rattle.std.proofs.lemmas.List.Quantifiers.{position-Some}
use Rattle.elf_image.specs.Layout.{SegmentData, IsSegment, IsWithin, segment_at}

-- what is found stands in the list, and passes
pub found_where : {X : Type 0} (p : X → Bool) (xs : List X) (x : X) → find p xs ≡ Some x → Contains xs x × (p x ≡ true)
found_where p [] x e = absurd (none-some x e)
found_where {X} p (y ∷ ys) x e = by (p y) refl e (λ later. found_where p ys x later)
  where
    by : (b : Bool) → p y ≡ b → cond b (Some y) (find p ys) ≡ Some x → (find p ys ≡ Some x → Contains ys x × (p x ≡ true)) → Contains (y ∷ ys) x × (p x ≡ true)
    by true is found rest =
        let same : y ≡ x = same_Some y x found in
        ((0, omega arith, same), subst (λ (z : X). p z ≡ true) same is)
    by false is found rest =
        let there = rest found in
        ((suc there.0.0, omega (arith, there.0.1), there.0.2), there.1)

-- a segment that is found has the address
pub segment_found : (a : ℕ) (segments : List SegmentData) (s : SegmentData) → Some s ≡ segment_at a segments → IsWithin a s
segment_found a segments s e =
    let is = (found_where (λ (t : SegmentData). nat_le t.at a && nat_lt a (t.at + t.size)) segments s (sym e)).1 in
    (grind (arith, nat_tests, is), grind (arith, nat_tests, is))

pub segment_there : (a : ℕ) (segments : List SegmentData) (s : SegmentData) → Some s ≡ segment_at a segments → Contains segments s
segment_there a segments s e = (found_where (λ (t : SegmentData). nat_le t.at a && nat_lt a (t.at + t.size)) segments s (sym e)).0

-- no segment is so high
pub none_above : (a : ℕ) (segments : List SegmentData) → All IsSegment segments → 2 ^ 47 ≤ a → None ≡ segment_at a segments
none_above a [] full high = refl
none_above a (s ∷ segments) full high =
    let canonical : s.at + s.size ≤ 2 ^ 47 = (full 0 s (omega arith)).canonical in
    let rest = none_above a segments (λ k d lt. full (suc k) d (omega arith)) high in
    let fails : (nat_le s.at a && nat_lt a (s.at + s.size)) ≡ false = grind (arith, nat_tests, canonical) in
    rw fails rest

-- ---- the first that passes a test

module _ {X : Type 0} (test : X → Bool) (xs : List X) where
  pub none_passes : position test xs ≡ None → list_any test xs ≡ false
  none_passes none = list_any_none test xs (λ k d lt.
      let past : length xs ≤ position_or_len test xs = grind (arith, nat_tests, none) in
      fails_before_first test xs k d (omega arith))

  pub one_passes : (n : ℕ) → position test xs ≡ Some n → (d : X) → list_any test xs ≡ true
  one_passes n some d = let at = position-Some test xs n d some in list_any_at test xs n d at.0 at.1

  -- what none does, each fails
  pub each_fails : list_any test xs ≡ false → (k : ℕ) (d : X) → k < length xs → test (get_or xs k d) ≡ false
  each_fails none k d lt = by (test (get_or xs k d)) refl
    where
      by : (b : Bool) → test (get_or xs k d) ≡ b → b ≡ false
      by true is = absurd (false≢true (sym none ∙ list_any_at test xs k d lt is))
      by false is = refl

  pub position_is : (n : ℕ) → position test xs ≡ Some n → n ≡ position_or_len test xs
  position_is n some = grind (arith, nat_tests, some)
