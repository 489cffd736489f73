-- The segments of an image in the order of their addresses.
use Rattle.std.specs.Prelude.{◌≡◌, ◌↔◌, ℕ, ◌<◌, ◌≤◌, List, length, Contains, slice_index_or}
use Rattle.std.specs.List.Sorted.{IsNonDecreasingBy}
use Rattle.elf_image.specs.declared.index.Start.{Start}
use Rattle.elf_image.specs.Layout.{SegmentData, ImageData, IsImage}

-- a segment has the number, and begins at the address
abbrev pub IsStart : List SegmentData → Start → Type 0
IsStart segments s = (s.number < length segments) × ((d : SegmentData) → s.at ≡ (slice_index_or segments s.number d).at)

-- the starts of all segments
abbrev pub AreStarts : List Start → List SegmentData → Type 0
AreStarts starts segments = (s : Start) → Contains starts s ↔ IsStart segments s

-- the same, rising by address
pub record IsIndex (starts : List Start) (segments : List SegmentData) : Type 0 where
  pub rising : IsNonDecreasingBy (λ s. s.at) starts
  pub each : AreStarts starts segments

-- an image, and the index of its segments
pub record IsIndexed (m : ImageData) (starts : List Start) : Type 0 where
  pub image : IsImage m
  pub index : IsIndex starts m.segments

-- so many of the starts are at or below the address
pub record IsCountBy (starts : List Start) (a p : ℕ) : Type 0 where
  pub bound : p ≤ length starts
  pub before : (k : ℕ) (d : Start) → k < p → (slice_index_or starts k d).at ≤ a
  pub after : (k : ℕ) (d : Start) → p ≤ k → k < length starts → a < (slice_index_or starts k d).at
