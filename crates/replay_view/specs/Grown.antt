-- The grown places as they are kept: in the order in which they grew, and as a set.
use Rattle.std.specs.Prelude.{◌≡◌, ℕ, Bool, not, List, if◌then◌else◌, Option, Some, None}
use Rattle.std.specs.List.{count_by}
use Rattle.std.specs.Ordering.{nat_cmp}
use Rattle.std.specs.BTreeSet.{BTreeSet, contains}
use Rattle.basic_blocks.specs.Reach.{is_among}

-- the set has the places
abbrev pub HasPlaces : BTreeSet ℕ → List ℕ → Type 0
HasPlaces set places = (a : ℕ) → contains nat_cmp set a ≡ is_among places a

-- where something led, if it did
abbrev pub led_to : {A : Type 0} → Bool → A → Option A
led_to b x = if b then Some x else None

-- how many of the places are new
abbrev pub new_places : List ℕ → List ℕ → ℕ
new_places grown places = count_by (λ p. not (is_among grown p)) places
