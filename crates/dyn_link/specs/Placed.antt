-- Slots and the segments that have them.
use Rattle.std.specs.Prelude.{◌≡◌, ℕ, ◌+◌, ◌<◌, ◌≤◌, List, length, Some, slice_index_or}
use Rattle.std.specs.BTreeMap.{BTreeMap, get}
use Rattle.std.specs.Ordering.{nat_cmp}
use Rattle.elf_image.specs.Layout.{SegmentData}
use Rattle.dyn_link.specs.declared.slot.Place.{Place}

-- the map has the number of each segment at its first address
abbrev pub AreNumbers : List SegmentData → BTreeMap ℕ ℕ → Type 0
AreNumbers segments m = (k : ℕ) (d : SegmentData) → k < length segments → get nat_cmp m (slice_index_or segments k d).at ≡ Some k

-- the segment of this number has the slot's eight bytes
pub record IsPlaced (segments : List SegmentData) (p : Place) : Type 0 where
  pub there : p.segment < length segments
  pub from : (d : SegmentData) → (slice_index_or segments p.segment d).at ≤ p.binding.slot
  pub to : (d : SegmentData) → p.binding.slot + 8 ≤ (slice_index_or segments p.segment d).at + (slice_index_or segments p.segment d).size
