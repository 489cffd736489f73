-- How far a search for all that is reached has come.
use Rattle.std.specs.Prelude.{◌≡◌, ℕ, ◌+◌, ◌≤◌, ◌⊎◌, List, length, ◌||◌, IsTrue}
use Rattle.elf_image.specs.Layout.{ImageData}
use Rattle.basic_blocks.specs.Span.{successors}
use Rattle.basic_blocks.specs.Reach.{is_among, HasRoots, IsReached}

-- Places are met, if they weren't, and each new one is to be left: from those that were met and were to be left, to those now.
pub record Meets (places met todo met_now todo_now : List ℕ) : Type 0 where
  pub has : (a : ℕ) → is_among met_now a ≡ (is_among met a || is_among places a)
  pub stays : (a : ℕ) → IsTrue (is_among todo a) → IsTrue (is_among todo_now a)
  pub fresh : (a : ℕ) → IsTrue (is_among met_now a) → IsTrue (is_among met a) ⊎ IsTrue (is_among todo_now a)
  pub within : (a : ℕ) → IsTrue (is_among todo_now a) → IsTrue (is_among todo a) ⊎ IsTrue (is_among met_now a)
  pub count : length todo_now + length met ≡ length todo + length met_now
  pub grows : length met ≤ length met_now

-- The places that are met are reached from the roots, and have the successors of each of them that isn't to be left.
pub record IsMet (image : ImageData) (roots met todo : List ℕ) : Type 0 where
  pub rooted : HasRoots image roots (is_among met)
  pub closed : (a b : ℕ) → IsTrue (is_among met a) → IsTrue (is_among (successors image a) b) → IsTrue (is_among todo a) ⊎ IsTrue (is_among met b)
  pub within : (a : ℕ) → IsTrue (is_among todo a) → IsTrue (is_among met a)
  pub least : IsReached image roots met
