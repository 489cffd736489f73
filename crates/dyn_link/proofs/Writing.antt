-- Slots written into segments.
use Rattle.std.proofs.Common.{◌≡◌, ◌≢◌, ℕ, ◌+◌, ◌-◌, ◌<◌, ◌≤◌, ◌&&◌, nat_lt, nat_le, cond, Bool, true, false, List, [], ◌∷◌, ◌++◌, length, map, take, drop, set, get_or, refl, sym, ap, subst, ◌∙◌, inl, inr, arith, length-set, length-append, length-drop}
use Rattle.std.specs.Prelude.{All, AllPairs, fold, sum_by}
use Rattle.byteorder.specs.Endian.{little_bytes}
use Rattle.std.proofs.lemmas.Bool.{cases_lt, cases_eq}
use Rattle.std.proofs.lemmas.Bool.Decides.{nat_tests}
use Rattle.std.proofs.lemmas.List.{get_or_default, get_or-map, get_or-set_same, get_or-set_other, same_lists, length-map, drop-drop, drop_all, append-nil, length-take-le}
use Rattle.std.proofs.lemmas.List.Elements.{All-set}
use Rattle.std.proofs.lemmas.List.Folds.{fold-map}
use Rattle.std.proofs.lemmas.List.Sums.{fold_push}
use Rattle.elf_image.specs.declared.place.LibPlace.{LibPlace}
use Rattle.elf_image.specs.Layout.{SegmentData, ImageData, IsSegment, IsApart, IsWithin, IsBelow, IsExecutable, IsImage}
use Rattle.dyn_link.specs.declared.binding.Binding.{Binding}
use Rattle.dyn_link.specs.declared.slot.Place.{Place}
use Rattle.dyn_link.specs.Bound.{held, with_number, written, bound_segments}
use Rattle.dyn_link.specs.Placed.{IsPlaced}

-- ---- the bytes of a segment

-- a part of the bytes written from its front on
pub bytes_written : (k n : ℕ) (xs buf : List ℕ) → buf ≡ little_bytes 8 n ++ drop 8 (drop k xs) → take k xs ++ (buf ++ drop (length xs - k) (drop k xs)) ≡ take k xs ++ (little_bytes 8 n ++ drop (k + 8) xs)
bytes_written k n xs buf is =
    let none : drop (length xs - k) (drop k xs) ≡ [] = drop_all (length xs - k) (drop k xs) (omega (arith, length-drop k xs)) in
    let rest : drop 8 (drop k xs) ≡ drop (k + 8) xs = drop-drop 8 k xs in
    let e : buf ++ [] ≡ buf = append-nil buf in
    rw (none, e, is, rest) refl

pub length_written : (k n : ℕ) (xs : List ℕ) → k + 8 ≤ length xs → length (take k xs ++ (little_bytes 8 n ++ drop (k + 8) xs)) ≡ length xs
length_written k n xs fits = omega (arith, length-append (take k xs) (little_bytes 8 n ++ drop (k + 8) xs), length-append (little_bytes 8 n) (drop (k + 8) xs), length-take-le k xs (omega arith), length-drop (k + 8) xs)

pub segment_written : (k n : ℕ) (v s : SegmentData) (bs : List ℕ) → v ≡ s → bs ≡ take k v.bytes ++ (little_bytes 8 n ++ drop (k + 8) v.bytes) → record v { bytes = bs } ≡ with_number k n s
segment_written k n v s bs is e =
    let with_bytes : List ℕ → SegmentData = λ b. record v { bytes = b } in
    subst (λ (t : SegmentData). with_bytes bs ≡ with_number k n t) is (ap with_bytes e)

-- ---- one slot

by_test : {C : Type 0} (b : Bool) → (b ≡ true → C) → (b ≡ false → C) → C
by_test true holds fails = holds refl
by_test false holds fails = fails refl

written_out : (b : Binding) (s : SegmentData) → (IsWithin b.slot s → ⊥) → written b s ≡ s
unfolding written
written_out b s out =
    let fails : (nat_le s.at b.slot && nat_lt b.slot (s.at + s.size)) ≡ false =
    by_test (nat_le s.at b.slot && nat_lt b.slot (s.at + s.size)) (λ is. absurd (out (grind (arith, nat_tests, is), grind (arith, nat_tests, is)))) (λ f. f) in
    rw fails refl

written_in : (b : Binding) (s : SegmentData) → IsWithin b.slot s → written b s ≡ with_number (b.slot - s.at) (held b.function) s
unfolding written
written_in b s within =
    let holds : (nat_le s.at b.slot && nat_lt b.slot (s.at + s.size)) ≡ true = grind (arith, nat_tests, within.0, within.1) in
    rw holds refl

module _ (segments : List SegmentData) (p : Place) (placed : IsPlaced segments p) (apart : AllPairs IsApart segments) where
  slot_within : (d : SegmentData) → IsWithin p.binding.slot (get_or segments p.segment d)
  slot_within d = (placed.from d, omega (arith, placed.to d))

  others : (k : ℕ) (d : SegmentData) → k < length segments → k ≢ p.segment → written p.binding (get_or segments k d) ≡ get_or segments k d
  others k d lt other = written_out p.binding (get_or segments k d) (λ within. elim (cases_lt k p.segment) [
    | inl less ↦ apart k p.segment d less placed.there p.binding.slot within (slot_within d)
    | inr rest ↦ apart p.segment k d (omega arith) lt p.binding.slot (slot_within d) within
  ])

  -- a write into the segment of the slot is the write of the slot
  pub set_written : (s new : SegmentData) → s ≡ get_or segments p.segment s → new ≡ with_number (p.binding.slot - s.at) (held p.binding.function) s → set segments p.segment new ≡ map (written p.binding) segments
  set_written s new is e = same_lists (set segments p.segment new) (map (written p.binding) segments) lengths each
    where
      lengths : length (set segments p.segment new) ≡ length (map (written p.binding) segments)
      lengths = length-set segments p.segment new ∙ sym (length-map segments (written p.binding))

      here : (d : SegmentData) → new ≡ written p.binding (get_or segments p.segment d)
      here d =
          let same : s ≡ get_or segments p.segment d = is ∙ get_or_default segments p.segment s d placed.there in
          e ∙ (sym (written_in p.binding s (subst (IsWithin p.binding.slot) (sym same) (slot_within d))) ∙ ap (written p.binding) same)

      each : (k : ℕ) (d : SegmentData) → k < length (set segments p.segment new) → get_or (set segments p.segment new) k d ≡ get_or (map (written p.binding) segments) k d
      each k d lt =
          let in_list : k < length segments = omega (arith, lt, length-set segments p.segment new) in
          let mapped : get_or (map (written p.binding) segments) k d ≡ written p.binding (get_or segments k d) = get_or-map (written p.binding) segments k d d in_list in
          elim (cases_eq k p.segment) [
            | inl same ↦
                let at : get_or (set segments p.segment new) p.segment d ≡ new = get_or-set_same segments p.segment new d placed.there in
                rw same (at ∙ (here d ∙ sym (get_or-map (written p.binding) segments p.segment d d placed.there)))
            | inr other ↦ get_or-set_other segments p.segment k new d other ∙ (sym (others k d in_list other) ∙ sym mapped)
          ]

  pub set_whole : (new : SegmentData) → IsSegment new → All IsSegment segments → All IsSegment (set segments p.segment new)
  set_whole new whole full = All-set IsSegment segments p.segment new whole full

-- ---- many slots

pub bound_none : (segments : List SegmentData) → segments ≡ bound_segments segments []
unfolding bound_segments
bound_none segments = refl

pub bound_more : (segments : List SegmentData) (bs : List Binding) (b : Binding) → bound_segments segments (bs ++ b ∷ []) ≡ map (written b) (bound_segments segments bs)
unfolding bound_segments
bound_more segments bs b = fold_push (λ ss x. map (written x) ss) segments bs b

-- ---- what stays: addresses, sizes and rights

abbrev pub shape : SegmentData → SegmentData
shape s = record s { bytes = [] }

shape_by : (t : Bool) (k n : ℕ) (s : SegmentData) → shape (cond t (with_number k n s) s) ≡ shape s
shape_by true k n s = refl
shape_by false k n s = refl

shape_written : (b : Binding) (s : SegmentData) → shape (written b s) ≡ shape s
unfolding written
shape_written b s = shape_by (nat_le s.at b.slot && nat_lt b.slot (s.at + s.size)) (b.slot - s.at) (held b.function) s

shapes_written : (b : Binding) (segments : List SegmentData) → map shape (map (written b) segments) ≡ map shape segments
shapes_written b [] = refl
shapes_written b (s ∷ segments) =
    let first = shape_written b s in
    let rest = shapes_written b segments in
    cc

pub shapes_bound : (segments : List SegmentData) (bs : List Binding) → map shape (bound_segments segments bs) ≡ map shape segments
unfolding bound_segments
shapes_bound segments [] = refl
shapes_bound segments (b ∷ bs) = shapes_bound (map (written b) segments) bs ∙ shapes_written b segments

module _ (xs ys : List SegmentData) (same : map shape xs ≡ map shape ys) where
  pub same_length : length xs ≡ length ys
  same_length = sym (length-map xs shape) ∙ (ap length same ∙ length-map ys shape)

  same_shape : (i : ℕ) (d : SegmentData) → i < length ys → shape (get_or xs i d) ≡ shape (get_or ys i d)
  same_shape i d lt =
      let there : i < length xs = omega (arith, same_length) in
      sym (get_or-map shape xs i d d there) ∙ (ap (λ (zs : List SegmentData). get_or zs i d) same ∙ get_or-map shape ys i d d lt)

  pub same_at : (i : ℕ) (d : SegmentData) → i < length ys → (get_or xs i d).at ≡ (get_or ys i d).at
  same_at i d lt = ap (λ (s : SegmentData). s.at) (same_shape i d lt)

  pub same_size : (i : ℕ) (d : SegmentData) → i < length ys → (get_or xs i d).size ≡ (get_or ys i d).size
  same_size i d lt = ap (λ (s : SegmentData). s.size) (same_shape i d lt)

  same_x : (i : ℕ) (d : SegmentData) → i < length ys → (get_or xs i d).x ≡ (get_or ys i d).x
  same_x i d lt = ap (λ (s : SegmentData). s.x) (same_shape i d lt)

  within_too : (a i : ℕ) (d : SegmentData) → i < length ys → IsWithin a (get_or xs i d) → IsWithin a (get_or ys i d)
  within_too a i d lt within = (omega (arith, within.0, same_at i d lt), omega (arith, within.1, same_at i d lt, same_size i d lt))

  pub apart_too : AllPairs IsApart ys → AllPairs IsApart xs
  apart_too apart i j d less lt a first second =
      let there : j < length ys = omega (arith, same_length) in
      apart i j d less there a (within_too a i d (omega arith) first) (within_too a j d there second)

  pub placed_too : (p : Place) → IsPlaced ys p → IsPlaced xs p
  placed_too p placed = record {
    there = omega (arith, placed.there, same_length);
    from = λ d. omega (arith, placed.from d, same_at p.segment d placed.there);
    to = λ d. omega (arith, placed.to d, same_at p.segment d placed.there, same_size p.segment d placed.there);
  }

  sizes_too : sum_by (λ s. s.size) xs ≡ sum_by (λ s. s.size) ys
  sizes_too =
      let add : ℕ → SegmentData → ℕ = λ n s. n + s.size in
      sym (fold-map add shape 0 xs) ∙ (ap (fold add 0) same ∙ fold-map add shape 0 ys)

  executable_too : (a : ℕ) → IsExecutable a ys → IsExecutable a xs
  executable_too a runs =
      let k = runs.0 in
      let s = runs.1 in
      let there : k < length xs = omega (arith, runs.2, same_length) in
      let x : (get_or xs k s).x ≡ s.x = same_x k s runs.2 ∙ ap (λ (t : SegmentData). t.x) runs.3 in
      let at : (get_or xs k s).at ≡ s.at = same_at k s runs.2 ∙ ap (λ (t : SegmentData). t.at) runs.3 in
      let size : (get_or xs k s).size ≡ s.size = same_size k s runs.2 ∙ ap (λ (t : SegmentData). t.size) runs.3 in
      (k, get_or xs k s, there, get_or_default xs k (get_or xs k s) s there, (x ∙ runs.4.0, (omega (arith, at, runs.4.1.0), omega (arith, at, size, runs.4.1.1))))

-- the image with its slots written is an image
pub bound_image : (m : ImageData) (bs : List Binding) (segments : List SegmentData) (entries : List LibPlace) → IsImage m → segments ≡ bound_segments m.segments bs → All IsSegment segments → AllPairs IsBelow entries → IsImage (record { entry = m.entry; segments = segments; entries = entries })
bound_image m bs segments entries image bound whole rising =
    let same : map shape segments ≡ map shape m.segments = ap (map shape) bound ∙ shapes_bound m.segments bs in
    record {
      segments = whole;
      apart = apart_too segments m.segments same image.apart;
      size = omega (arith, sizes_too segments m.segments same, image.size);
      rising = rising;
      entry = executable_too segments m.segments same m.entry image.entry;
    }
