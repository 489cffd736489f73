-- The addresses of segments, and those that two of them share.
use Rattle.std.specs.Prelude.{◌≡◌, ℕ, ◌+◌, ◌<◌, ◌≤◌, ◌≢◌, nat_lt, nat_le, Bool, ◌&&◌, if◌then◌else◌, IsTrue, List, [], ◌∷◌, length, count_by, Contains, Option, Some, None, MatchOption, slice_index_or}
use Rattle.elf_image.specs.declared.header.ProgramHeader.{ProgramHeader}
use Rattle.elf_image.specs.declared.overlap.Span.{Span}
use Rattle.elf_image.specs.Elf.{is_segment}
use Rattle.elf_image.specs.Loading.{Overlaps}

-- the address is one of the span's
abbrev pub meets : ℕ → Span → Bool
meets a s = nat_le s.at a && nat_lt a s.end

abbrev pub span : ℕ → ProgramHeader → Span
span n h = record { number = n; at = h.vaddr; end = h.vaddr + h.memsz }

-- the spans of the segments among the headers, which are numbered from n on
abbrev pub spans_from : ℕ → List ProgramHeader → List Span
spans_from n [] = []
spans_from n (h ∷ hs) = if is_segment h then span n h ∷ spans_from (n + 1) hs else spans_from (n + 1) hs

-- an address of the span is in more than one
abbrev pub IsShared : List Span → Span → Type 0
IsShared spans s = (a : ℕ) × IsTrue (meets a s) × (1 < count_by (meets a) spans)

-- of those before i, the greatest end, and 0 where there is none
pub record IsTop (spans : List Span) (i top : ℕ) : Type 0 where
  pub above : (k : ℕ) (d : Span) → k < i → (slice_index_or spans k d).end ≤ top
  pub reached : (d : Span) → 0 < top → (k : ℕ) × (k < i) × ((slice_index_or spans k d).end ≡ top)

-- the least number of a shared span among those before i
abbrev pub IsLeastBefore : List Span → ℕ → ℕ → Type 0
IsLeastBefore spans i n =
    ((d : Span) → (k : ℕ) × (k < i) × ((slice_index_or spans k d).number ≡ n) × IsShared spans (slice_index_or spans k d))
    × ((k : ℕ) (d : Span) → k < i → IsShared spans (slice_index_or spans k d) → n ≤ (slice_index_or spans k d).number)

abbrev pub LeastBefore : List Span → ℕ → Option ℕ → Type 0
LeastBefore spans i least = MatchOption least ((k : ℕ) (d : Span) → k < i → ¬ IsShared spans (slice_index_or spans k d)) (IsLeastBefore spans i)

-- the least of the number and, where the test holds, another
abbrev pub lower : Option ℕ → Bool → ℕ → Option ℕ
lower None b m = if b then Some m else None
lower (Some n) b m = Some (if b && nat_lt m n then m else n)

-- two segments share an address, and no two that do so come before them
abbrev pub IsFirstOverlap : List ProgramHeader → ℕ → ℕ → Type 0
IsFirstOverlap headers n m = Overlaps headers n m × ((i j : ℕ) → Overlaps headers i j → (n ≤ i) × (n ≡ i → m ≤ j))
