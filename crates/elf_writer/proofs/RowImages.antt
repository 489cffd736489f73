-- The row image is an image.
use Rattle.std.proofs.Common.{◌≡◌, ℕ, ◌<◌, Bool, true, false, ◌&&◌, nat_lt, List, [], ◌∷◌, ◌++◌, length, refl, suc, zero, arith}
use Rattle.std.specs.Prelude.{All, AllPairs}
use Rattle.std.proofs.lemmas.Bool.Decides.{nat_tests}
use Rattle.std.proofs.lemmas.List.FromFn.{length-map-range_with_len}
use Rattle.std.proofs.lemmas.List.Elements.{All-nil, All-cons, All-weaker}
use Rattle.elf_image.specs.Layout.{SegmentData, IsApart, IsSegment, IsBelow, IsImage}
use Rattle.elf_image.specs.declared.place.LibPlace.{LibPlace}
use Rattle.elf_writer.specs.declared.rows.Piece.{Piece}
use Rattle.elf_writer.specs.RowImage.{byte_at, row_bytes, row_places, row_data}

-- each place is above the one before it, and the first above the number
rises : ℕ → List LibPlace → Bool
rises low [] = true
rises low (p ∷ ps) = nat_lt low p.at && rises p.at ps

all_above : (low : ℕ) (ps : List LibPlace) → rises low ps ≡ true → All (λ p. low < p.at) ps
unfolding rises
all_above low [] up = All-nil (λ p. low < p.at)
all_above low (p ∷ ps) up =
    let first : low < p.at = grind (arith, nat_tests, up) in
    let others : rises p.at ps ≡ true = grind (arith, up) in
    All-cons (λ p. low < p.at) p ps first (All-weaker (λ q. p.at < q.at) (λ q. low < q.at) (λ q above. omega arith) ps (all_above p.at ps others))

all_rise : (low : ℕ) (ps : List LibPlace) → rises low ps ≡ true → AllPairs IsBelow ps
unfolding rises
all_rise low [] up i j d lt in_range = absurd (omega (arith, in_range))
all_rise low (p ∷ ps) up i zero d lt in_range = absurd (omega (arith, lt))
all_rise low (p ∷ ps) up zero (suc j) d lt in_range = all_above p.at ps (grind (arith, up)) j d (omega arith)
all_rise low (p ∷ ps) up (suc i) (suc j) d lt in_range = all_rise p.at ps (grind (arith, up)) i j d (omega arith) (omega arith)

-- two segments that are apart
two_apart : (s t : SegmentData) → IsApart s t → AllPairs IsApart (s ∷ t ∷ [])
two_apart s t far i zero d lt in_range = absurd (omega (arith, lt))
two_apart s t far zero (suc zero) d lt in_range = far
two_apart s t far (suc i) (suc zero) d lt in_range = absurd (omega arith)
two_apart s t far i (suc (suc j)) d lt in_range = absurd (omega arith)

length-row_bytes : (pieces : List Piece) (filling start : ℕ) → length (row_bytes pieces filling start) ≡ 4096
unfolding row_bytes
length-row_bytes pieces filling start = length-map-range_with_len (byte_at pieces filling) start 4096

pub code_is : (pieces : List Piece) → IsSegment (record { at = 0x40_1000; size = 4096; r = true; w = false; x = true; bytes = row_bytes pieces 0xcc 0x40_1000 })
code_is pieces = record { filled = length-row_bytes pieces 0xcc 0x40_1000; occupied = omega arith; canonical = omega arith; protected = refl }

pub data_is : (pieces : List Piece) → IsSegment (record { at = 0x40_2000; size = 4096; r = true; w = true; x = false; bytes = row_bytes pieces 0 0x40_2000 })
data_is pieces = record { filled = length-row_bytes pieces 0 0x40_2000; occupied = omega arith; canonical = omega arith; protected = refl }

pub row_is : (pieces : List Piece) → IsImage (row_data pieces)
unfolding row_data rises
row_is pieces =
    let code : SegmentData = record { at = 0x40_1000; size = 4096; r = true; w = false; x = true; bytes = row_bytes pieces 0xcc 0x40_1000 } in
    let data' : SegmentData = record { at = 0x40_2000; size = 4096; r = true; w = true; x = false; bytes = row_bytes pieces 0 0x40_2000 } in
    record {
      segments = All-cons IsSegment code (data' ∷ []) (code_is pieces) (All-cons IsSegment data' [] (data_is pieces) (All-nil IsSegment));
      apart = two_apart code data' (λ a in_code in_data. omega (arith, in_code.1, in_data.0));
      size = omega arith;
      rising = all_rise 0 row_places refl;
      entry = (0, code, omega arith, refl, (refl, (omega arith, omega arith)));
    }

pub row_has_two : (pieces : List Piece) → length (row_data pieces).segments ≡ 2
unfolding row_data
row_has_two pieces = refl

-- what is pushed is the row image
pub row_made : (pieces : List Piece) (code data' : List ℕ) (none one two : List SegmentData) (places : List LibPlace)
    → code ≡ row_bytes pieces 0xcc 0x40_1000 → data' ≡ row_bytes pieces 0 0x40_2000 → none ≡ []
    → one ≡ none ++ record { at = 0x40_1000; size = 4096; r = true; w = false; x = true; bytes = code } ∷ []
    → two ≡ one ++ record { at = 0x40_2000; size = 4096; r = true; w = true; x = false; bytes = data' } ∷ []
    → places ≡ row_places → record { entry = 0x40_1000; segments = two; entries = places } ≡ row_data pieces
unfolding row_data
row_made pieces code data' none one two places code_is data_is none_is one_is two_is places_are = rw (two_is, one_is, none_is, code_is, data_is, places_are) refl
