-- Segments that are loaded from the written headers and bytes.
use Rattle.std.proofs.Common.{◌≡◌, ℕ, ◌+◌, ◌-◌, ◌*◌, ◌%◌, ◌^◌, ◌<◌, ◌≤◌, Bool, true, false, cond, ◌&&◌, ◌||◌, nat_lt, nat_le, ◌==◌, List, [], ◌∷◌, ◌++◌, length, map, get_or, replicate, bit_and, sum_by, count_by, sym, refl, ap, ◌∙◌, suc, arith, length-append, append_assoc}
use Rattle.std.specs.Prelude.{All, AllPairs, filter, not, if◌then◌else◌}
use Rattle.std.specs.List.{list_any}
use Rattle.std.proofs.lemmas.Bool.Decides.{nat_tests}
use Rattle.std.proofs.lemmas.Grind.{common_steps}
use Rattle.std.proofs.lemmas.List.{length-replicate, append-nil}
use Rattle.std.proofs.lemmas.List.Elements.{All-head, All-tail, All-nil, All-cons, All-map, All-same, All-weaker}
use Rattle.std.proofs.lemmas.List.Folds.{fold-map, list_any_none, list_any-from_Any}
use Rattle.elf_image.specs.Layout.{SegmentData, IsSegment, IsApart, IsExecutable}
use Rattle.elf_image.specs.Elf as elf
use Rattle.elf_image.specs.Elf.{part, is_load, is_dynamic, is_readable, is_writable, is_executable, holds, passes_end}
use Rattle.elf_image.specs.Loading.{segment_of, is_bad_load}
use Rattle.elf_image.specs.Sound.{HasSegments}
use Rattle.elf_writer.specs.PageAligned.{IsPageAligned}
use Rattle.elf_writer.specs.ElfFile.{Placed, placed, contents, gap, flags_of, program_bytes}
use Rattle.elf_writer.proofs.ElfReading.{part_found, ProgramReads, program_reads}

-- ---- rights

flags_from : Bool → Bool → Bool → ℕ
flags_from r w x = (if r then 4 else 0) + (if w then 2 else 0) + (if x then 1 else 0)

flags_small : (r w x : Bool) → flags_from r w x < 8
unfolding flags_from
flags_small true true true = omega arith
flags_small true true false = omega arith
flags_small true false true = omega arith
flags_small true false false = omega arith
flags_small false true true = omega arith
flags_small false true false = omega arith
flags_small false false true = omega arith
flags_small false false false = omega arith

reads_r : (r w x : Bool) → not (bit_and (flags_from r w x) 4 == 0) ≡ r
unfolding flags_from
reads_r true true true = refl
reads_r true true false = refl
reads_r true false true = refl
reads_r true false false = refl
reads_r false true true = refl
reads_r false true false = refl
reads_r false false true = refl
reads_r false false false = refl

reads_w : (r w x : Bool) → not (bit_and (flags_from r w x) 2 == 0) ≡ w
unfolding flags_from
reads_w true true true = refl
reads_w true true false = refl
reads_w true false true = refl
reads_w true false false = refl
reads_w false true true = refl
reads_w false true false = refl
reads_w false false true = refl
reads_w false false false = refl

reads_x : (r w x : Bool) → not (bit_and (flags_from r w x) 1 == 0) ≡ x
unfolding flags_from
reads_x true true true = refl
reads_x true true false = refl
reads_x true false true = refl
reads_x true false false = refl
reads_x false true true = refl
reads_x false true false = refl
reads_x false false true = refl
reads_x false false false = refl

flags_are : (s : SegmentData) → flags_of s ≡ flags_from s.r s.w s.x
unfolding flags_of flags_from
flags_are s = refl

-- ---- where the bytes of a segment stand

-- the segment's bytes stand at its offset, and its numbers fit their fields
pub record IsPlaced (bytes : List ℕ) (p : Placed) : Type 0 where
  pub stands : part p.offset p.segment.size bytes ≡ p.segment.bytes
  pub inside : p.offset + p.segment.size ≤ length bytes
  pub offset : p.offset < 2 ^ 64
  pub aligned : p.offset % 4096 ≡ p.segment.at % 4096
  pub segment : IsSegment p.segment

gap_small : (end at : ℕ) → gap end at < 4096
unfolding gap
gap_small end at = omega arith

gap_aligns : (end at : ℕ) → (end + gap end at) % 4096 ≡ at % 4096
unfolding gap
gap_aligns end at = omega arith

pub all_placed : (ss : List SegmentData) (a bytes : List ℕ) (end : ℕ) → bytes ≡ a ++ contents end ss → length a ≡ end → All IsSegment ss → end + (2 ^ 47 + 4096) * length ss ≤ 2 ^ 64 → All (IsPlaced bytes) (placed end ss)
all_placed [] a bytes end is at good small = All-nil (IsPlaced bytes)
all_placed (s ∷ ss) a bytes end is at good small =
    let zeros : List ℕ = replicate (gap end s.at) 0 in
    let offset : ℕ = end + gap end s.at in
    let first : IsSegment s = All-head IsSegment s ss good in
    let near : gap end s.at < 4096 = gap_small end s.at in
    let high : s.size ≤ 2 ^ 47 = omega (arith, first.canonical) in
    let wide : length zeros ≡ gap end s.at = length-replicate (gap end s.at) 0 in
    let front : length (a ++ zeros) ≡ offset = omega (arith, length-append a zeros) in
    let past : length ((a ++ zeros) ++ s.bytes) ≡ offset + s.size = omega (arith, length-append (a ++ zeros) s.bytes, first.filled) in
    let more : List ℕ = contents (offset + s.size) ss in
    let split : bytes ≡ (a ++ zeros) ++ (s.bytes ++ more) = is ∙ sym (append_assoc a zeros (s.bytes ++ more)) in
    let again : bytes ≡ ((a ++ zeros) ++ s.bytes) ++ more = split ∙ sym (append_assoc (a ++ zeros) s.bytes more) in
    All-cons (IsPlaced bytes) (record { offset = offset; segment = s }) (placed (offset + s.size) ss)
    (record {
      stands = ap (part offset s.size) split ∙ part_found (a ++ zeros) s.bytes more offset s.size front first.filled;
      inside = omega (arith, ap length again, length-append ((a ++ zeros) ++ s.bytes) more);
      offset = omega arith;
      aligned = gap_aligns end s.at;
      segment = first;
    })
    (all_placed ss ((a ++ zeros) ++ s.bytes) bytes (offset + s.size) again past (All-tail IsSegment s ss good) (omega arith))

-- ---- one header

pub reads_placed : (bytes : List ℕ) (p : Placed) → IsPlaced bytes p → ProgramReads p
reads_placed bytes p here = program_reads p (rw (flags_are p.segment) (flags_small p.segment.r p.segment.w p.segment.x)) here.offset (omega (arith, here.segment.canonical)) (omega (arith, here.segment.canonical))

pub segment_back : (bytes : List ℕ) (p : Placed) → IsPlaced bytes p → segment_of bytes (elf.program_header (program_bytes p) 0) ≡ p.segment
segment_back bytes p here =
    let reads = reads_placed bytes p here in
    let none : p.segment.size - p.segment.size ≡ 0 = omega arith in
    let whole : part p.offset p.segment.size bytes ++ [] ≡ p.segment.bytes = append-nil (part p.offset p.segment.size bytes) ∙ here.stands in
    rw (reads.flags, reads.offset, reads.vaddr, reads.filesz, reads.memsz, flags_are p.segment, reads_r p.segment.r p.segment.w p.segment.x, reads_w p.segment.r p.segment.w p.segment.x, reads_x p.segment.r p.segment.w p.segment.x, none, whole) refl

-- ---- all headers

-- a filter that every element passes
kept : {X : Type 0} (p : X → Bool) (xs : List X) → All (λ x. p x ≡ true) xs → filter p xs ≡ xs
kept p [] all = refl
kept p (x ∷ xs) all = grind (arith, All-head (λ x. p x ≡ true) x xs all, kept p xs (All-tail (λ x. p x ≡ true) x xs all))

any_map : {X Y : Type 0} (p : Y → Bool) (f : X → Y) (xs : List X) → list_any p (map f xs) ≡ list_any (λ x. p (f x)) xs
any_map p f [] = refl
any_map p f (x ∷ xs) = ap (λ b. p (f x) || b) (any_map p f xs)

-- the address is in the segment
within : ℕ → SegmentData → Bool
within a s = nat_le s.at a && nat_lt a (s.at + s.size)

none_within : (a : ℕ) (ss : List SegmentData) → All (λ s. within a s ≡ false) ss → count_by (within a) ss ≡ 0
none_within a [] none = refl
none_within a (s ∷ ss) none = grind (arith, common_steps, All-head (λ s. within a s ≡ false) s ss none, none_within a ss (All-tail (λ s. within a s ≡ false) s ss none))

-- no address is in two segments that are apart
one_within : (a : ℕ) (ss : List SegmentData) → AllPairs IsApart ss → count_by (within a) ss ≤ 1
unfolding within
one_within a [] apart = omega arith
one_within a (s ∷ ss) apart =
    let later = one_within a ss (λ i j d lt in_range. apart (suc i) (suc j) d (omega arith) (omega arith)) in
    let outside : within a s ≡ true → (t : SegmentData) → IsApart s t → within a t ≡ false = λ here t far. grind (arith, nat_tests, here, far a) in
    let none : within a s ≡ true → count_by (within a) ss ≡ 0 = λ here. none_within a ss (λ k d lt. outside here (get_or ss k d) (apart 0 (suc k) d (omega arith) (omega arith))) in
    grind (arith, common_steps, later, none)

enters : ℕ → SegmentData → Bool
enters a s = s.x && within a s

some_enters : (a : ℕ) (ss : List SegmentData) → IsExecutable a ss → list_any (enters a) ss ≡ true
unfolding enters within
some_enters a ss some = list_any-from_Any (enters a) ss (some.0, some.1, some.2, some.3, grind (arith, nat_tests, some.4.0, some.4.1))

module _ (bytes : List ℕ) (ps : List Placed) (all : All (IsPlaced bytes) ps) where
  -- what is read of each header
  each : (P : Placed → Type 0) → ((p : Placed) → IsPlaced bytes p → P p) → All P ps
  each P given = All-weaker (IsPlaced bytes) P given ps all

  none_dynamic : list_any is_dynamic (map (λ p. elf.program_header (program_bytes p) 0) ps) ≡ false
  none_dynamic = list_any_none is_dynamic _ (All-map (λ h. is_dynamic h ≡ false) (λ p. elf.program_header (program_bytes p) 0) ps (each (λ p. is_dynamic (elf.program_header (program_bytes p) 0) ≡ false) (λ p here. rw (reads_placed bytes p here).kind refl)))

  none_bad : list_any (is_bad_load bytes) (map (λ p. elf.program_header (program_bytes p) 0) ps) ≡ false
  none_bad = list_any_none (is_bad_load bytes) _ (All-map (λ h. is_bad_load bytes h ≡ false) (λ p. elf.program_header (program_bytes p) 0) ps (each (λ p. is_bad_load bytes (elf.program_header (program_bytes p) 0) ≡ false) loads))
    where
      loads : (p : Placed) → IsPlaced bytes p → is_bad_load bytes (elf.program_header (program_bytes p) 0) ≡ false
      loads p here =
          let reads = reads_placed bytes p here in
          let inside = here.inside in
          let canonical = here.segment.canonical in
          rw (reads.kind, reads.offset, reads.vaddr, reads.filesz, reads.memsz) (grind (arith, nat_tests))

  all_kept : filter (λ h. is_load h && nat_lt 0 h.memsz) (map (λ p. elf.program_header (program_bytes p) 0) ps) ≡ map (λ p. elf.program_header (program_bytes p) 0) ps
  all_kept = kept _ _ (All-map (λ h. (is_load h && nat_lt 0 h.memsz) ≡ true) (λ p. elf.program_header (program_bytes p) 0) ps (each (λ p. (is_load (elf.program_header (program_bytes p) 0) && nat_lt 0 (elf.program_header (program_bytes p) 0).memsz) ≡ true) passes))
    where
      passes : (p : Placed) → IsPlaced bytes p → (is_load (elf.program_header (program_bytes p) 0) && nat_lt 0 (elf.program_header (program_bytes p) 0).memsz) ≡ true
      passes p here =
          let reads = reads_placed bytes p here in
          let occupied = here.segment.occupied in
          rw (reads.kind, reads.memsz) (grind (arith, nat_tests))

  none_both : list_any (λ h. is_writable h && is_executable h) (map (λ p. elf.program_header (program_bytes p) 0) ps) ≡ false
  none_both = list_any_none (λ h. is_writable h && is_executable h) _ (All-map (λ h. (is_writable h && is_executable h) ≡ false) (λ p. elf.program_header (program_bytes p) 0) ps (each (λ p. (is_writable (elf.program_header (program_bytes p) 0) && is_executable (elf.program_header (program_bytes p) 0)) ≡ false) (λ p here. ap (λ (s : SegmentData). s.w && s.x) (segment_back bytes p here) ∙ here.segment.protected)))

all_back : (bytes : List ℕ) (ps : List Placed) → All (IsPlaced bytes) ps → map (segment_of bytes) (map (λ p. elf.program_header (program_bytes p) 0) ps) ≡ map (λ p. p.segment) ps
all_back bytes [] all = refl
all_back bytes (p ∷ ps) all =
    let first : segment_of bytes (elf.program_header (program_bytes p) 0) ≡ p.segment = segment_back bytes p (All-head (IsPlaced bytes) p ps all) in
    let others : map (segment_of bytes) (map (λ p. elf.program_header (program_bytes p) 0) ps) ≡ map (λ p. p.segment) ps = all_back bytes ps (All-tail (IsPlaced bytes) p ps all) in
    cc

module _ (bytes : List ℕ) (ps : List Placed) (ss : List SegmentData) (read : elf.program_headers bytes ≡ map (λ p. elf.program_header (program_bytes p) 0) ps) (all : All (IsPlaced bytes) ps) (same : map (λ p. p.segment) ps ≡ ss) where
  headers_are : elf.segment_headers bytes ≡ map (λ p. elf.program_header (program_bytes p) 0) ps
  unfolding elf.segment_headers
  headers_are = ap (filter (λ h. is_load h && nat_lt 0 h.memsz)) read ∙ all_kept bytes ps all

  -- the segments that are loaded are those that were written
  pub segments_are : map (segment_of bytes) (elf.segment_headers bytes) ≡ ss
  segments_are = ap (map (segment_of bytes)) headers_are ∙ all_back bytes ps all ∙ same

  pub segments_sound : AllPairs IsApart ss → sum_by (λ s. s.size) ss ≤ 67108864 → HasSegments bytes
  unfolding within
  segments_sound apart small = record {
    static = ap (list_any is_dynamic) read ∙ none_dynamic bytes ps all;
    loads = ap (list_any (is_bad_load bytes)) read ∙ none_bad bytes ps all;
    protected = ap (list_any (λ h. is_writable h && is_executable h)) headers_are ∙ none_both bytes ps all;
    small = λ large. absurd (omega (arith, large, small, total));
    apart = λ (a, two). absurd (omega (arith, two, one_within a ss apart, count a));
  }
    where
      total : sum_by (λ h. h.memsz) (elf.segment_headers bytes) ≡ sum_by (λ s. s.size) ss
      total = sym (fold-map (λ a s. a + s.size) (segment_of bytes) 0 (elf.segment_headers bytes)) ∙ ap (sum_by (λ s. s.size)) segments_are

      count : (a : ℕ) → count_by (holds a) (elf.segment_headers bytes) ≡ count_by (within a) ss
      count a = sym (fold-map (λ n s. n + cond (within a s) 1 0) (segment_of bytes) 0 (elf.segment_headers bytes)) ∙ ap (count_by (within a)) segments_are

  pub entry_found : (a : ℕ) → IsExecutable a ss → list_any (λ h. is_executable h && holds a h) (elf.segment_headers bytes) ≡ true
  unfolding enters within
  entry_found a some = sym (any_map (enters a) (segment_of bytes) (elf.segment_headers bytes)) ∙ ap (list_any (enters a)) segments_are ∙ some_enters a ss some

  pub all_aligned : IsPageAligned bytes
  all_aligned = All-same (λ h. h.offset % 4096 ≡ h.vaddr % 4096) (elf.segment_headers bytes) (map (λ p. elf.program_header (program_bytes p) 0) ps) headers_are (All-map (λ h. h.offset % 4096 ≡ h.vaddr % 4096) (λ p. elf.program_header (program_bytes p) 0) ps (each bytes ps all (λ p. (elf.program_header (program_bytes p) 0).offset % 4096 ≡ (elf.program_header (program_bytes p) 0).vaddr % 4096) (λ p here. let reads = reads_placed bytes p here in rw (reads.offset, reads.vaddr) here.aligned)))
