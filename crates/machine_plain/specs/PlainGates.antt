-- What the plain, slow program keeps of a walk that is gated.
use Rattle.std.specs.Prelude.{◌≡◌, ℕ, Bool, true, false, if◌then◌else◌, List, [], ◌∷◌, ◌++◌, take, Option, Some, None, IsTrue, not}
use Rattle.std.specs.List.{count_by}
use Rattle.elf_image.specs.Layout.{ImageData}
use Rattle.machine_plain.specs.declared.gate.PlainLatest.{PlainLatest}
use Rattle.machine_plain.specs.declared.gate.PlainLatest.TheVariants as kept
use Rattle.machine_model.specs.Gated.{Latest, Other, Missed, Growing}
use Rattle.basic_blocks.specs.Span.{successors}
use Rattle.basic_blocks.specs.Reach.{is_among, HasRoots, IsReached}

-- a place more, where it isn't there
abbrev pub with_place : List ℕ → ℕ → List ℕ
with_place places a = if is_among places a then places else places ++ a ∷ []

unfoldable pub with_places : List ℕ → List ℕ → List ℕ
with_places places [] = places
with_places places (a ∷ more) = with_places (with_place places a) more

-- the places are reached from the root, and the successors of the first i are among them
pub record IsClosure (image : ImageData) (root : ℕ) (places : List ℕ) (i : ℕ) : Type 0 where
  pub rooted : HasRoots image (root ∷ []) (is_among places)
  pub closed : (a b : ℕ) → IsTrue (is_among (take i places) a) → IsTrue (is_among (successors image a) b) → IsTrue (is_among places b)
  pub least : IsReached image (root ∷ []) places

-- ---- beside the walk

-- where something led, if it did
abbrev pub led_to : {A : Type 0} → Bool → A → Option A
led_to b x = if b then Some x else None

-- what a thread's entries were lately, as the program keeps it
abbrev pub latest_of : PlainLatest → Latest
latest_of kept.Other = Other
latest_of (kept.Missed target) = Missed target
latest_of (kept.Growing target) = Growing target

-- how many of the places are new
abbrev pub new_places : List ℕ → List ℕ → ℕ
new_places grown places = count_by (λ p. not (is_among grown p)) places
