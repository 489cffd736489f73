-- What is loaded from bytes without a fault is an image.
use Rattle.std.proofs.Common.{◌≡◌, ℕ, ◌+◌, ◌-◌, ◌<◌, Bool, true, false, ◌&&◌, nat_lt, List, length, map, get_or, drop, replicate, sum_by, count_by, sym, refl, ap, ◌∙◌, inl, inr, arith, length-append, length-take, length-drop}
use mathlib.Core.Bool.{false≢true}
use Rattle.std.specs.Prelude.{All, AllPairs}
use Rattle.std.specs.List.{list_any}
use Rattle.std.proofs.lemmas.Bool.{cases_lt}
use Rattle.std.proofs.lemmas.Bool.Decides.{nat_tests}
use Rattle.std.proofs.lemmas.Grind.{common_steps}
use Rattle.std.proofs.lemmas.List.{get_or-map, length-map, length-replicate}
use Rattle.std.proofs.lemmas.List.Elements.{All-map, All-weaker, All-filter, filter_passes}
use Rattle.std.proofs.lemmas.List.Folds.{list_any_at, Any-from_list_any, fold-map}
use Rattle.elf_image.specs.declared.header.ProgramHeader.{ProgramHeader}
use Rattle.elf_image.specs.declared.linking.Linking.{Linking}
use Rattle.elf_image.specs.declared.place.LibPlace.{LibPlace}
use Rattle.elf_image.specs.Elf.{passes_end, part, program_headers, segment_headers, is_load, is_writable, is_executable, holds}
use Rattle.elf_image.specs.Layout.{IsApart, IsSegment, IsExecutable, IsBelow, IsImage}
use Rattle.elf_image.specs.Loading.{is_bad_load, segment_of}
use Rattle.elf_image.specs.Sound.{IsLoadable, HasLoads}
use Rattle.elf_image.proofs.Counts.{count_two}
use Rattle.elf_image.proofs.Order.{no_header}

-- a test that no element passes
none_pass : {X : Type 0} (p : X → Bool) (xs : List X) → list_any p xs ≡ false → All (λ x. p x ≡ false) xs
none_pass p xs none k d lt = cond_false (p (get_or xs k d)) (λ yes. false≢true (sym none ∙ list_any_at p xs k d lt yes))
  where
    cond_false : (b : Bool) → (b ≡ true → ⊥) → b ≡ false
    cond_false true never = absurd (never refl)
    cond_false false never = refl

-- each segment's header can be loaded
pub loadable : (linking : Linking) (bytes : List ℕ) → HasLoads linking bytes → All (IsLoadable bytes) (segment_headers bytes)
unfolding segment_headers
loadable linking bytes sound k d lt =
    let test = λ (h : ProgramHeader). is_load h && nat_lt 0 h.memsz in
    let h = get_or (segment_headers bytes) k d in
    let passes : test h ≡ true = filter_passes test (program_headers bytes) k d lt in
    let good : is_bad_load bytes h ≡ false = All-filter test (λ h. is_bad_load bytes h ≡ false) (program_headers bytes) (none_pass (is_bad_load bytes) (program_headers bytes) sound.loads) k d lt in
    let safe : (is_writable h && is_executable h) ≡ false = none_pass (λ h. is_writable h && is_executable h) (segment_headers bytes) sound.protected k d lt in
    loadable_one h passes good safe
  where
    loadable_one : (h : ProgramHeader) → (is_load h && nat_lt 0 h.memsz) ≡ true → is_bad_load bytes h ≡ false → (is_writable h && is_executable h) ≡ false → IsLoadable bytes h
    loadable_one h passes good safe = record {
      in_file = grind (arith, nat_tests, passes, good);
      filled = grind (arith, nat_tests, passes, good);
      occupied = grind (arith, nat_tests, passes);
      canonical = grind (arith, nat_tests, passes, good);
      protected = safe;
    }

-- as many bytes as the range has, where it doesn't pass the file's end
length_part : (offset size : ℕ) (bytes : List ℕ) → passes_end offset size bytes ≡ false → length (part offset size bytes) ≡ size
length_part offset size bytes inside = grind (arith, nat_tests, common_steps, length-take size (drop offset bytes), length-drop offset bytes)

segment_is : (bytes : List ℕ) (h : ProgramHeader) → IsLoadable bytes h → IsSegment (segment_of bytes h)
segment_is bytes h good = record {
  filled = omega (arith, good.filled, length-append (part h.offset h.filesz bytes) (replicate (h.memsz - h.filesz) 0), length_part h.offset h.filesz bytes good.in_file, length-replicate {A = ℕ} (h.memsz - h.filesz) 0);
  occupied = good.occupied;
  canonical = good.canonical;
  protected = good.protected;
}

-- where no address is in two segments, every two are apart
apart_is : (bytes : List ℕ) (hs : List ProgramHeader) → ((a : ℕ) → 1 < count_by (holds a) hs → ⊥) → AllPairs IsApart (map (segment_of bytes) hs)
apart_is bytes hs once i j d lt in_range a in_i in_j =
    let j_lt : j < length hs = omega (arith, length-map hs (segment_of bytes)) in
    let at_i = get_or-map (segment_of bytes) hs i no_header d (omega arith) in
    let at_j = get_or-map (segment_of bytes) hs j no_header d j_lt in
    let held_i = rw at_i at in_i in
    let held_j = rw at_j at in_j in
    once a (count_two (holds a) hs i j no_header lt j_lt (grind (arith, nat_tests, held_i.0, held_i.1)) (grind (arith, nat_tests, held_j.0, held_j.1)))

size_is : (bytes : List ℕ) (hs : List ProgramHeader) → sum_by (λ s. s.size) (map (segment_of bytes) hs) ≡ sum_by (λ h. h.memsz) hs
size_is bytes hs = fold-map (λ a s. a + s.size) (segment_of bytes) 0 hs

entry_is : (bytes : List ℕ) (hs : List ProgramHeader) (a : ℕ) → list_any (λ h. is_executable h && holds a h) hs ≡ true → IsExecutable a (map (segment_of bytes) hs)
entry_is bytes hs a some =
    let found = Any-from_list_any (λ h. is_executable h && holds a h) hs some in
    let h = found.1 in
    let passes = found.4 in
    (found.0, segment_of bytes h, omega (arith, found.2, length-map hs (segment_of bytes)), get_or-map (segment_of bytes) hs found.0 h (segment_of bytes h) found.2 ∙ ap (segment_of bytes) found.3, (grind (arith, nat_tests, passes), (grind (arith, nat_tests, passes), grind (arith, nat_tests, passes))))

pub image_is : (linking : Linking) (bytes : List ℕ) (loads : List ProgramHeader) (entry : ℕ) (entries : List LibPlace) → loads ≡ segment_headers bytes → HasLoads linking bytes → list_any (λ h. is_executable h && holds entry h) loads ≡ true → AllPairs IsBelow entries → IsImage (record { entry = entry; segments = map (segment_of bytes) loads; entries = entries })
image_is linking bytes loads entry entries is sound runs rising = record {
  segments = All-map IsSegment (segment_of bytes) loads (All-weaker (IsLoadable bytes) (λ h. IsSegment (segment_of bytes h)) (λ h good. segment_is bytes h good) loads (rw is (loadable linking bytes sound)));
  apart = apart_is bytes loads (λ a two. sound.apart (a, rw (← is) two));
  size = rw (size_is bytes loads) (elim (cases_lt 67108864 (sum_by (λ h. h.memsz) loads)) [
    | inl large ↦ absurd (sound.small (rw (← is) large))
    | inr small ↦ small
  ]);
  rising = rising;
  entry = entry_is bytes loads entry runs;
}
