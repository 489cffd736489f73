-- Where a block goes on that ends without a transfer.
use Rattle.std.specs.Prelude.{◌≡◌, ℕ, ◌+◌, ◌%◌, ◌^◌, ◌<◌, false, List, [], ◌∷◌, length}
use Rattle.elf_image.specs.Layout.{ImageData}
use Rattle.basic_blocks.specs.Placed.{Placed}
use Rattle.basic_blocks.specs.Span.{block_at}
use Rattle.basic_blocks.specs.Bytes.{bytes_of}

-- the address after the last of instructions, or this one where there are none
abbrev pub next_after : ℕ → List Placed → ℕ
next_after a [] = a
next_after a (p ∷ ps) = next_after p.next ps

-- the next place after a block is so many bytes further as the block has
abbrev pub GoesOnAfterItsBytes : Type 0
GoesOnAfterItsBytes = (image : ImageData) (a : ℕ) → a < 2 ^ 64 → next_after a (block_at image a) ≡ (a + length (bytes_of image (block_at image a))) % 2 ^ 64
