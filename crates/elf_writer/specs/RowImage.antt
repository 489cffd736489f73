-- The image in which the worked programs stand.
use Rattle.std.specs.Prelude.{ℕ, ◌+◌, ◌-◌, nat_lt, nat_le, ◌&&◌, Bool, true, false, List, [], ◌∷◌, length, map, slice_index, unwrap_or, find}
use Rattle.std.specs.List.{range_with_len}
use Rattle.std.specs.Option.{option_map}
use Rattle.elf_image.specs.Layout.{ImageData}
use Rattle.elf_image.specs.declared.place.Function.TheVariants.{PthreadCreate, PthreadJoin, PthreadSelf, MutexInit, MutexLock, MutexTrylock, MutexUnlock, MutexDestroy, Bsearch, Read, Write, Exit, CondInit, CondDestroy, CondWait, CondSignal, CondBroadcast, BarrierInit, BarrierWait, BarrierDestroy, Once}
use Rattle.elf_image.specs.declared.place.LibPlace.{LibPlace}
use Rattle.elf_writer.specs.declared.rows.Piece.{Piece}

-- the piece has the address
abbrev pub has : ℕ → Piece → Bool
has a p = nat_le p.at a && nat_lt a (p.at + length p.bytes.now)

-- the byte at the address: that of the first piece that has it, else the filling
abbrev pub byte_at : List Piece → ℕ → ℕ → ℕ
byte_at pieces filling a = unwrap_or (option_map (λ p. slice_index p.bytes.now (a - p.at)) (find (has a) pieces)) filling

-- the bytes of a segment from the address on
unfoldable pub row_bytes : List Piece → ℕ → ℕ → List ℕ
row_bytes pieces filling start = map (byte_at pieces filling) (range_with_len start 4096)

-- where the library's functions are called
abbrev pub row_places : List LibPlace
row_places =
    record { at = 0x40_1e00; function = CondInit }
    ∷ record { at = 0x40_1e10; function = CondDestroy }
    ∷ record { at = 0x40_1e20; function = CondWait }
    ∷ record { at = 0x40_1e30; function = CondSignal }
    ∷ record { at = 0x40_1e40; function = CondBroadcast }
    ∷ record { at = 0x40_1e50; function = BarrierInit }
    ∷ record { at = 0x40_1e60; function = BarrierWait }
    ∷ record { at = 0x40_1e70; function = BarrierDestroy }
    ∷ record { at = 0x40_1e80; function = Once }
    ∷ record { at = 0x40_1f00; function = Exit }
    ∷ record { at = 0x40_1f10; function = Write }
    ∷ record { at = 0x40_1f20; function = Read }
    ∷ record { at = 0x40_1f30; function = PthreadCreate }
    ∷ record { at = 0x40_1f40; function = PthreadJoin }
    ∷ record { at = 0x40_1f50; function = PthreadSelf }
    ∷ record { at = 0x40_1f60; function = MutexInit }
    ∷ record { at = 0x40_1f70; function = MutexLock }
    ∷ record { at = 0x40_1f80; function = MutexTrylock }
    ∷ record { at = 0x40_1f90; function = MutexUnlock }
    ∷ record { at = 0x40_1fa0; function = MutexDestroy }
    ∷ record { at = 0x40_1fb0; function = Bsearch }
    ∷ []

-- code that is CC where no piece stands, and data that is 0 there
unfoldable pub row_data : List Piece → ImageData
row_data pieces = record {
  entry = 0x40_1000;
  segments =
      record { at = 0x40_1000; size = 4096; r = true; w = false; x = true; bytes = row_bytes pieces 0xcc 0x40_1000 }
      ∷ record { at = 0x40_2000; size = 4096; r = true; w = true; x = false; bytes = row_bytes pieces 0 0x40_2000 }
      ∷ [];
  entries = row_places;
}
