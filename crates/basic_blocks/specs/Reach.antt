-- What is reached from code places: the least set that has them and all direct successors.
use Rattle.std.specs.Prelude.{ℕ, ◌<◌, Bool, ◌==◌, List, length, IsTrue}
use Rattle.std.specs.List.{list_any}
use Rattle.std.specs.List.Sorted.{IsStrictlySortedBy}
use Rattle.std.specs.Ordering.{nat_cmp}
use Rattle.elf_image.specs.Layout.{ImageData}
use Rattle.basic_blocks.specs.Places.{is_code_place}
use Rattle.basic_blocks.specs.Span.{successors}

abbrev pub is_among : List ℕ → ℕ → Bool
is_among places a = list_any (λ x. x == a) places

-- a set has those roots that are code places
abbrev pub HasRoots : ImageData → List ℕ → (ℕ → Bool) → Type 0
HasRoots image roots set = (a : ℕ) → IsTrue (is_among roots a) → IsTrue (is_code_place image a) → IsTrue (set a)

-- a set has all direct successors of its members
abbrev pub IsClosed : ImageData → (ℕ → Bool) → Type 0
IsClosed image set = (a b : ℕ) → IsTrue (set a) → IsTrue (is_among (successors image a) b) → IsTrue (set b)

-- each place is in every closed set with the roots
abbrev pub IsReached : ImageData → List ℕ → List ℕ → Type 0
IsReached image roots places = (set : ℕ → Bool) → HasRoots image roots set → IsClosed image set → (a : ℕ) → IsTrue (is_among places a) → IsTrue (set a)

-- the places, by rising address, are the least closed set with the roots
pub record IsReach (image : ImageData) (roots places : List ℕ) : Type 0 where
  pub ordered : IsStrictlySortedBy nat_cmp places
  pub rooted : HasRoots image roots (is_among places)
  pub closed : IsClosed image (is_among places)
  pub least : IsReached image roots places

-- every closed set with the roots has more than that many places
abbrev pub IsReachAbove : ImageData → List ℕ → ℕ → Type 0
IsReachAbove image roots limit = (places : List ℕ) × IsStrictlySortedBy nat_cmp places × (limit < length places) × IsReached image roots places
