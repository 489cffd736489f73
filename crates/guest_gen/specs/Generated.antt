-- The image of the generated program.
use Rattle.std.specs.Prelude.{◌≡◌, ℕ, ◌+◌, ◌%◌, ◌≤◌, List, [], ◌∷◌, length, map}
use Rattle.std.specs.List.{flat_map, range_with_len}
use Rattle.byteorder.specs.Endian.{little_bytes}
use Rattle.elf_image.specs.Layout.{ImageData}
use Rattle.elf_writer.specs.declared.rows.Piece.{Piece}
use Rattle.elf_writer.specs.RowImage.{row_data}
use Rattle.guest_gen.specs.Program.{main_lines, worker_lines}
use Rattle.guest_gen.specs.Spelling.{IsSpelled}

-- what the i-th thread adds in each round, from the first one, 1, on
abbrev pub step_of : ℕ → ℕ → ℕ
step_of number i = (number + i) % 251 + 1

-- those of all threads, eight bytes each
abbrev pub steps : ℕ → ℕ → List ℕ
steps number threads = flat_map (λ i. little_bytes 8 (step_of number i)) (range_with_len 1 threads)

-- The image in which the worked programs stand, with these bytes in it: from 0x401000 and 0x401100 the two functions, spelled one after another and each in its room, and from 0x402100 what the threads add. Elsewhere the code is CC and the data 0.
pub record IsGenerated (number threads rounds : ℕ) (m : ImageData) : Type 0 where
  pub main : List ℕ
  pub worker : List ℕ
  pub main_spelled : IsSpelled 0x401000 (main_lines threads) main
  pub worker_spelled : IsSpelled 0x401100 (worker_lines rounds) worker
  pub main_room : length main ≤ 0x100
  pub worker_room : length worker ≤ 0xf00
  pub pieces : List Piece
  pub standing : map {B = ℕ × List ℕ} (λ (p : Piece). (p.at, p.bytes.now)) pieces ≡ (0x401000, main) ∷ (0x401100, worker) ∷ (0x402100, steps number threads) ∷ []
  pub image : m ≡ row_data pieces
