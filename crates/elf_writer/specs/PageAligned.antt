-- Segments that an operating system can map page by page.
use Rattle.std.specs.Prelude.{◌≡◌, ℕ, ◌%◌, List, All}
use Rattle.elf_image.specs.Elf.{segment_headers}

-- the offset of each segment in the file is its address, modulo a page of 4096 bytes
abbrev pub IsPageAligned : List ℕ → Type 0
IsPageAligned bytes = All (λ h. h.offset % 4096 ≡ h.vaddr % 4096) (segment_headers bytes)
