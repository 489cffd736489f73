-- The segment that is found holds the address.
use Rattle.std.proofs.Common.{◌≡◌, ℕ, ◌+◌, ◌<◌, ◌≤◌, Bool, true, false, ◌&&◌, List, [], ◌∷◌, Option, Some, refl, arith}
use Rattle.std.specs.Prelude.{nat_le, nat_lt, if◌then◌else◌}
use Rattle.std.specs.List.{find}
use Rattle.std.proofs.lemmas.Option.{none-some}
use Rattle.std.proofs.lemmas.Bool.Decides.{nat_tests}
use Rattle.elf_image.specs.Layout.{SegmentData, segment_at}

found-by : {X : Type 0} (b : Bool) (test : X → Bool) (y x : X) (rest : Option X) → test y ≡ b → (rest ≡ Some x → test x ≡ true) → (if b then Some y else rest) ≡ Some x → test x ≡ true
found-by true test y x rest e next h = let same : y ≡ x = cc in rw (← same) e
found-by false test y x rest e next h = next h

-- what is found passes the test
pub found-passes : {X : Type 0} (test : X → Bool) (xs : List X) (x : X) → find test xs ≡ Some x → test x ≡ true
found-passes test [] x h = absurd (none-some x h)
found-passes test (y ∷ ys) x h = found-by (test y) test y x (find test ys) refl (found-passes test ys x) h

pub segment_found : (a : ℕ) (segments : List SegmentData) (s : SegmentData) → segment_at a segments ≡ Some s → (s.at ≤ a) × (a < s.at + s.size)
segment_found a segments s h =
    let p : (nat_le s.at a && nat_lt a (s.at + s.size)) ≡ true = found-passes (λ s. nat_le s.at a && nat_lt a (s.at + s.size)) segments s h in
    grind (arith, nat_tests, p)
