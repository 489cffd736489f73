-- Segments and images as contracts see them, and the facts that every image keeps.
use Rattle.std.specs.Prelude.{◌≡◌, ℕ, ◌+◌, ◌^◌, ◌<◌, ◌≤◌, nat_lt, nat_le, ◌==◌, Bool, false, ◌&&◌, IsTrue, List, length, find, sum_by, All, AllPairs, Any, Option}
use Rattle.std.specs.Option.{option_map}
use Rattle.elf_image.specs.declared.place.Function.{Function}
use Rattle.elf_image.specs.declared.place.LibPlace.{LibPlace}

-- a part of the address space, its rights and its bytes
pub record SegmentData : Type 0 where
  pub at : ℕ
  pub size : ℕ
  pub r : Bool
  pub w : Bool
  pub x : Bool
  pub bytes : List ℕ

-- the address is in the segment
abbrev pub IsWithin : ℕ → SegmentData → Type 0
IsWithin a s = (s.at ≤ a) × (a < s.at + s.size)

-- no address is in both segments
abbrev pub IsApart : SegmentData → SegmentData → Type 0
IsApart s t = (a : ℕ) → IsWithin a s → ¬ IsWithin a t

-- every byte stands there, there is one, the addresses are those of a user's half, and none can be both written and run
pub record IsSegment (s : SegmentData) : Type 0 where
  pub filled : length s.bytes ≡ s.size
  pub occupied : 0 < s.size
  pub canonical : s.at + s.size ≤ 2 ^ 47
  pub protected : (s.w && s.x) ≡ false

-- a program in memory: where it begins, what stands there, and where the library's functions are
pub record ImageData : Type 0 where
  pub entry : ℕ
  pub segments : List SegmentData
  pub entries : List LibPlace

-- the first has the lower address
abbrev pub IsBelow : LibPlace → LibPlace → Type 0
IsBelow p q = p.at < q.at

-- the address is in a segment whose bytes can be run
abbrev pub IsExecutable : ℕ → List SegmentData → Type 0
IsExecutable a segments = Any (λ s. IsTrue s.x × IsWithin a s) segments

pub record IsImage (m : ImageData) : Type 0 where
  pub segments : All IsSegment m.segments
  pub apart : AllPairs IsApart m.segments
  pub size : sum_by (λ s. s.size) m.segments ≤ 67108864
  pub rising : AllPairs IsBelow m.entries
  pub entry : IsExecutable m.entry m.segments

-- the segment that has the address
abbrev pub segment_at : ℕ → List SegmentData → Option SegmentData
segment_at a segments = find (λ s. nat_le s.at a && nat_lt a (s.at + s.size)) segments

-- the function of the library that is called at the address
abbrev pub function_at : ℕ → List LibPlace → Option Function
function_at a entries = option_map (λ p. p.function) (find (λ p. p.at == a) entries)
