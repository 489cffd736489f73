-- Faults in their order: which are ruled out so far, and which is the first.
use Rattle.std.proofs.Common.{◌≡◌, ℕ, ◌+◌, ◌<◌, ◌≤◌, ◌&&◌, true, false, List, length, get_or, Some, None, sym, refl, ◌∙◌, inl, inr, ⊎_elim, arith}
use Rattle.std.specs.Prelude.{All}
use Rattle.std.specs.List.{list_any, position, position_or_len}
use mathlib.Core.Bool.{Bool, false≢true}
use Rattle.std.proofs.lemmas.Bool.Decides.{nat_tests}
use Rattle.std.proofs.lemmas.List.Quantifiers.{position-Some}
use Rattle.std.proofs.lemmas.List.Sums.{fails_before_first}
use Rattle.std.proofs.lemmas.List.Folds.{list_any_none, list_any_at}
use Rattle.elf_image.specs.declared.fault.ElfFault.{ElfFault}
use Rattle.elf_image.specs.declared.fault.ElfFault.TheVariants.{Short, NotElf64, Kind, Headers, Dynamic, Segment, WriteExec, Overlap, Size, Symbols, LibClash, Entry}
use Rattle.elf_image.specs.declared.header.ProgramHeader.{ProgramHeader}
use Rattle.elf_image.specs.declared.linking.Linking.{Linking}
use Rattle.elf_image.specs.Elf.{program_headers, segment_headers, is_segment, is_writable, is_executable, symbol_table, symbol_table_number}
use Rattle.elf_image.specs.First.{number_of, first_of, second_of, IsNoLater, IsFirstFault}
use Rattle.elf_image.specs.Loading.{Fits, IsShort, IsNotElf64, HasWrongKind, HasBadHeaders, IsUnlinkable, is_bad_load, is_write_exec, IsHeader, HasBadSegment, HasWriteExec, HasOverlap, IsTooLarge, HasBadSymbols, is_bad_if_there, HasClash, HasNoEntry, IsFaultyAs}
use Rattle.elf_image.specs.Sound.{NoneUpTo, IsFirstClash}
use Rattle.elf_image.specs.Spans.{IsFirstOverlap}

-- ---- the first header that passes a test

abbrev pub no_header : ProgramHeader
no_header = record { kind = 0; flags = 0; offset = 0; vaddr = 0; filesz = 0; memsz = 0 }

not_both : {b : Bool} → b ≡ false → b ≡ true → ⊥
not_both fails passes = false≢true (sym fails ∙ passes)

-- by what a test gives
pub by_test : {C : Type 0} (b : Bool) → (b ≡ true → C) → (b ≡ false → C) → C
by_test true passes fails = passes refl
by_test false passes fails = fails refl

module _ (test : ProgramHeader → Bool) (hs : List ProgramHeader) where
  pub all_fail : position test hs ≡ None → All (λ h. test h ≡ false) hs
  all_fail none k d lt =
      let past : length hs ≤ position_or_len test hs = grind (arith, nat_tests, none) in
      fails_before_first test hs k d (omega arith)

  pub any_fails : position test hs ≡ None → list_any test hs ≡ false
  any_fails none = list_any_none test hs (all_fail none)

  pub no_header_passes : position test hs ≡ None → (n : ℕ) → IsHeader test hs n → ⊥
  no_header_passes none n passes = not_both (all_fail none n no_header passes.0) (passes.1 no_header)

  pub passes_first : (n : ℕ) → position test hs ≡ Some n → IsHeader test hs n
  passes_first n some = ((position-Some test hs n no_header some).0, λ d. (position-Some test hs n d some).1)

  pub passes_least : (n m : ℕ) → position test hs ≡ Some n → IsHeader test hs m → n ≤ m
  passes_least n m some passes = grind (arith, not_before)
    where
      not_before : m < n → ⊥
      not_before lt = not_both ((position-Some test hs n no_header some).2 m lt) (passes.1 no_header)

-- ---- what is ruled out

module _ (linking : Linking) (bytes : List ℕ) where
  pub up_to_0 : NoneUpTo linking bytes 0
  up_to_0 Short fits = omega arith
  up_to_0 f fits = omega arith

  pub up_to_1 : NoneUpTo linking bytes 0 → (IsShort bytes → ⊥) → NoneUpTo linking bytes 1
  up_to_1 before none Short fits = absurd (none fits)
  up_to_1 before none f fits = omega arith

  pub up_to_2 : NoneUpTo linking bytes 1 → (IsNotElf64 bytes → ⊥) → NoneUpTo linking bytes 2
  up_to_2 before none NotElf64 fits = absurd (none fits)
  up_to_2 before none f fits = let more = before f fits in omega arith

  pub up_to_3 : NoneUpTo linking bytes 2 → (HasWrongKind bytes → ⊥) → NoneUpTo linking bytes 3
  up_to_3 before none Kind fits = absurd (none fits)
  up_to_3 before none f fits = let more = before f fits in omega arith

  pub up_to_4 : NoneUpTo linking bytes 3 → ((n : ℕ) → HasBadHeaders bytes n → ⊥) → NoneUpTo linking bytes 4
  up_to_4 before none (Headers n) fits = absurd (none n fits)
  up_to_4 before none f fits = let more = before f fits in omega arith

  pub up_to_5 : NoneUpTo linking bytes 4 → (IsUnlinkable linking bytes → ⊥) → NoneUpTo linking bytes 5
  up_to_5 before none Dynamic fits = absurd (none fits)
  up_to_5 before none f fits = let more = before f fits in omega arith

  pub up_to_6 : NoneUpTo linking bytes 5 → ((n : ℕ) → HasBadSegment bytes n → ⊥) → NoneUpTo linking bytes 6
  up_to_6 before none (Segment n) fits = absurd (none n fits)
  up_to_6 before none f fits = let more = before f fits in omega arith

  pub up_to_7 : NoneUpTo linking bytes 6 → ((n : ℕ) → HasWriteExec bytes n → ⊥) → NoneUpTo linking bytes 7
  up_to_7 before none (WriteExec n) fits = absurd (none n fits)
  up_to_7 before none f fits = let more = before f fits in omega arith

  pub up_to_8 : NoneUpTo linking bytes 7 → ((n m : ℕ) → HasOverlap bytes n m → ⊥) → NoneUpTo linking bytes 8
  up_to_8 before none (Overlap n m) fits = absurd (none n m fits)
  up_to_8 before none f fits = let more = before f fits in omega arith

  pub up_to_9 : NoneUpTo linking bytes 8 → (IsTooLarge bytes → ⊥) → NoneUpTo linking bytes 9
  up_to_9 before none Size fits = absurd (none fits)
  up_to_9 before none f fits = let more = before f fits in omega arith

  pub up_to_10 : NoneUpTo linking bytes 9 → (is_bad_if_there bytes (symbol_table bytes) ≡ false) → NoneUpTo linking bytes 10
  up_to_10 before none (Symbols n) fits = absurd (not_both none fits.1)
  up_to_10 before none f fits = let more = before f fits in omega arith

  pub up_to_11 : NoneUpTo linking bytes 10 → ((a : ℕ) → HasClash linking bytes a → ⊥) → NoneUpTo linking bytes 11
  up_to_11 before none (LibClash a) fits = absurd (none a fits)
  up_to_11 before none f fits = let more = before f fits in omega arith

  pub none_fits : NoneUpTo linking bytes 11 → (HasNoEntry bytes → ⊥) → IsFaultyAs linking bytes → ⊥
  none_fits before none (Entry, fits) = none fits
  none_fits before none (f, fits) = let more = before f fits in omega arith

  -- ---- the first

  -- a fault that names nothing
  pub first_alone : (f : ElfFault) (k : ℕ) → number_of f ≡ k + 1 → first_of f ≡ 0 → second_of f ≡ 0 → NoneUpTo linking bytes k → Fits linking bytes f → IsFirstFault linking bytes f
  first_alone f k number first second before fits = record {
    fits = fits;
    first = λ g other. record {
      number = omega (arith, before g other);
      first = λ same. omega arith;
      second = λ same named. omega arith;
    };
  }

  -- a fault that names one thing, of which the others of its number name none below
  first_named : (f : ElfFault) (k : ℕ) → number_of f ≡ k + 1 → second_of f ≡ 0 → NoneUpTo linking bytes k → Fits linking bytes f → ((g : ElfFault) → Fits linking bytes g → number_of f ≡ number_of g → first_of f ≤ first_of g) → IsFirstFault linking bytes f
  first_named f k number second before fits least = record {
    fits = fits;
    first = λ g other. record {
      number = omega (arith, before g other);
      first = λ same. least g other same;
      second = λ same named. omega arith;
    };
  }

  pub first_headers : (n : ℕ) → NoneUpTo linking bytes 3 → HasBadHeaders bytes n → ((m : ℕ) → HasBadHeaders bytes m → n ≤ m) → IsFirstFault linking bytes (Headers n)
  first_headers n before fits least = first_named (Headers n) 3 refl refl before fits below
    where
      below : (g : ElfFault) → Fits linking bytes g → number_of (Headers n) ≡ number_of g → n ≤ first_of g
      below (Headers m) other same = least m other
      below g other same = omega arith

  pub first_segment : (n : ℕ) → NoneUpTo linking bytes 5 → HasBadSegment bytes n → ((m : ℕ) → HasBadSegment bytes m → n ≤ m) → IsFirstFault linking bytes (Segment n)
  first_segment n before fits least = first_named (Segment n) 5 refl refl before fits below
    where
      below : (g : ElfFault) → Fits linking bytes g → number_of (Segment n) ≡ number_of g → n ≤ first_of g
      below (Segment m) other same = least m other
      below g other same = omega arith

  pub first_write_exec : (n : ℕ) → NoneUpTo linking bytes 6 → HasWriteExec bytes n → ((m : ℕ) → HasWriteExec bytes m → n ≤ m) → IsFirstFault linking bytes (WriteExec n)
  first_write_exec n before fits least = first_named (WriteExec n) 6 refl refl before fits below
    where
      below : (g : ElfFault) → Fits linking bytes g → number_of (WriteExec n) ≡ number_of g → n ≤ first_of g
      below (WriteExec m) other same = least m other
      below g other same = omega arith

  pub first_overlap : (n m : ℕ) → NoneUpTo linking bytes 7 → IsFirstOverlap (program_headers bytes) n m → IsFirstFault linking bytes (Overlap n m)
  first_overlap n m before is = record { fits = is.0; first = λ g other. below g other }
    where
      below : (g : ElfFault) → Fits linking bytes g → IsNoLater (Overlap n m) g
      below (Overlap i j) other = record { number = omega arith; first = λ same. (is.1 i j other).0; second = λ same named. (is.1 i j other).1 named }
      below g other = let more = before g other in record { number = omega arith; first = λ same. omega arith; second = λ same named. omega arith }

  pub first_symbols : (n : ℕ) → NoneUpTo linking bytes 9 → HasBadSymbols bytes n → IsFirstFault linking bytes (Symbols n)
  first_symbols n before fits = first_named (Symbols n) 9 refl refl before fits below
    where
      below : (g : ElfFault) → Fits linking bytes g → number_of (Symbols n) ≡ number_of g → n ≤ first_of g
      below (Symbols m) other same = let here = fits.0 in let there = other.0 in omega arith
      below g other same = omega arith

  pub first_clash : (a : ℕ) → NoneUpTo linking bytes 10 → HasClash linking bytes a → ((b : ℕ) → HasClash linking bytes b → a ≤ b) → IsFirstFault linking bytes (LibClash a)
  first_clash a before fits least = first_named (LibClash a) 10 refl refl before fits below
    where
      below : (g : ElfFault) → Fits linking bytes g → number_of (LibClash a) ≡ number_of g → a ≤ first_of g
      below (LibClash b) other same = least b other
      below g other same = omega arith
