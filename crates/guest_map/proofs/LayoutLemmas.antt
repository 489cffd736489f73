-- The pieces of the first memory share no address and lie below 2^47.
use Rattle.std.proofs.Common.{◌≡◌, ℕ, zero, suc, ◌+◌, ◌-◌, ◌<◌, ◌≤◌, Bool, true, false, List, [], ◌∷◌, length, map, get_or, None, sym, ap, ◌∙◌, inl, inr, arith, length-append}
use Rattle.std.specs.Prelude.{position}
use Rattle.std.specs.List.{position_or_len}
use Rattle.std.proofs.lemmas.Option.{none-some}
use Rattle.std.proofs.lemmas.Bool.{cases_lt, cases_Bool}
use Rattle.std.proofs.lemmas.Bool.Decides.{nat_tests}
use Rattle.std.proofs.lemmas.List.{get_or_append_left, get_or-append_right, get_or-map, length-map}
use Rattle.elf_image.specs.Layout.{SegmentData, ImageData, IsApart, IsSegment, IsImage}
use Rattle.tso_memory.specs.Piece.{PieceData, end_of, has, piece_at, no_piece, ShareNone, AreApart, AreLow}
use Rattle.guest_map.specs.Layout.{meets_reserved, IsAccepted, piece_of, stacks, pieces}
use Rattle.guest_map.proofs.StackLemmas.{IsStack, stack_at, length-stacks}

-- where no place is found none passes
none_before : {X : Type 0} (p : X → Bool) (xs : List X) → length xs ≤ position_or_len p xs → (k : ℕ) (d : X) → k < length xs → p (get_or xs k d) ≡ false
none_before p [] past k d lt = absurd (omega arith)
none_before p (x ∷ xs) past k d lt = elim (cases_Bool (p x)) [
  | inl hit ↦ absurd (passes p x xs past hit)
  | inr miss ↦ fails p x xs past miss (none_before p xs) k d lt
]
  where
    passes : {X : Type 0} (p : X → Bool) (x : X) (xs : List X) → length (x ∷ xs) ≤ position_or_len p (x ∷ xs) → p x ≡ true → ⊥
    passes p x xs past hit = omega (arith, rw hit at past)

    fails : {X : Type 0} (p : X → Bool) (x : X) (xs : List X) → length (x ∷ xs) ≤ position_or_len p (x ∷ xs) → p x ≡ false → (length xs ≤ position_or_len p xs → (k : ℕ) (d : X) → k < length xs → p (get_or xs k d) ≡ false) → (k : ℕ) (d : X) → k < length (x ∷ xs) → p (get_or (x ∷ xs) k d) ≡ false
    fails p x xs past miss rest zero d lt = miss
    fails p x xs past miss rest (suc k) d lt = rest (omega (arith, rw miss at past)) k d (omega arith)

none_passes : {X : Type 0} (p : X → Bool) (xs : List X) → position p xs ≡ None → (k : ℕ) (d : X) → k < length xs → p (get_or xs k d) ≡ false
none_passes p xs none = elim (cases_lt (position_or_len p xs) (length xs)) [
  | inl found ↦ absurd (none-some (position_or_len p xs) (sym none ∙ (grind (arith, nat_tests))))
  | inr past ↦ none_before p xs past
]

has_from : (p : PieceData) (x : ℕ) → has p x ≡ true → p.at ≤ x
has_from p x h = grind (arith, nat_tests)

has_to : (p : PieceData) (x : ℕ) → has p x ≡ true → x < end_of p
has_to p x h = grind (arith, nat_tests)

no_segment : SegmentData
no_segment = record { at = 0; size = 0; r = false; w = false; x = false; bytes = [] }

-- a segment beside the reserved addresses shares none with a stack
beside_stack : (s : SegmentData) (q : PieceData) (t : ℕ) → IsSegment s → meets_reserved s ≡ false → t < 64 → IsStack t q → ShareNone (piece_of s) q
beside_stack s q t seg free lt is x in_s in_q =
    let from_s = has_from (piece_of s) x in_s in
    let to_s = has_to (piece_of s) x in_s in
    let from_q = has_from q x in_q in
    let to_q = has_to q x in_q in
    apart_by s.at s.size x (omega (arith, from_s)) (omega (arith, to_s, seg.filled)) (omega (arith, from_q, is.from)) (omega (arith, to_q, is.to, lt)) free
  where
    apart_by : (at size x : ℕ) → at ≤ x → x < at + size → 0x700000000000 ≤ x → x < 0x700001000000 → meets_reserved (record { at = at; size = size; r = false; w = false; x = false; bytes = [] }) ≡ false → ⊥
    apart_by at size x a b c d free = grind (arith, nat_tests)

segments_apart : (s t : SegmentData) → IsSegment s → IsSegment t → IsApart s t → ShareNone (piece_of s) (piece_of t)
segments_apart s t one two apart x in_s in_t =
    apart x
    (has_from (piece_of s) x in_s, omega (arith, has_to (piece_of s) x in_s, one.filled))
    (has_from (piece_of t) x in_t, omega (arith, has_to (piece_of t) x in_t, two.filled))

stacks_apart : (p q : PieceData) (t u : ℕ) → t < u → IsStack t p → IsStack u q → ShareNone p q
stacks_apart p q t u lt one two x in_p in_q = omega (arith, has_to p x in_p, has_from q x in_q, one.to, two.from, lt)

-- the pieces of an image that is accepted
module _ (image : ImageData) (args : List (List ℕ)) (sound : IsImage image) (ok : IsAccepted image args) where
  abbrev count : ℕ
  count = length image.segments

  all : length (pieces image args) ≡ count + 64
  all = omega (arith, length-append (map piece_of image.segments) (stacks args), length-map image.segments piece_of, length-stacks args)

  at_segment : (i : ℕ) → i < count → piece_at (pieces image args) i ≡ piece_of (get_or image.segments i no_segment)
  at_segment i lt =
      get_or_append_left (map piece_of image.segments) (stacks args) no_piece i (omega (arith, lt, length-map image.segments piece_of))
      ∙ get_or-map piece_of image.segments i no_segment no_piece lt

  at_stack : (i : ℕ) → count ≤ i → i < count + 64 → IsStack (i - count) (piece_at (pieces image args) i)
  at_stack i from to = rw (get_or-append_right (map piece_of image.segments) (stacks args) count i no_piece (length-map image.segments piece_of) from) (stack_at args ok.1 (i - count) (omega (arith, from, to)))

  segment_is : (i : ℕ) → i < count → IsSegment (get_or image.segments i no_segment)
  segment_is i lt = sound.segments i no_segment lt

  is_free : (i : ℕ) → i < count → meets_reserved (get_or image.segments i no_segment) ≡ false
  is_free i lt = none_passes meets_reserved image.segments ok.0 i no_segment lt

  pub pieces_low : AreLow (pieces image args)
  pieces_low i lt = elim (cases_lt i count) [
    | inl seg ↦ omega (arith, ap end_of (at_segment i seg), (segment_is i seg).canonical, (segment_is i seg).filled)
    | inr st ↦ omega (arith, (at_stack i st (omega (arith, lt, all))).to, lt, all)
  ]

  pub pieces_apart : AreApart (pieces image args)
  pieces_apart i j lt within = elim (cases_lt j count) [
    | inl both ↦ rw (at_segment i (omega (arith, lt, both)), at_segment j both) (segments_apart _ _ (segment_is i (omega (arith, lt, both))) (segment_is j both) (sound.apart i j no_segment lt both))
    | inr second ↦ elim (cases_lt i count) [
      | inl first ↦ rw (at_segment i first) (beside_stack _ (piece_at (pieces image args) j) (j - count) (segment_is i first) (is_free i first) (omega (arith, within, all)) (at_stack j second (omega (arith, within, all))))
      | inr neither ↦ stacks_apart (piece_at (pieces image args) i) (piece_at (pieces image args) j) (i - count) (j - count) (omega (arith, lt, neither)) (at_stack i neither (omega (arith, lt, within, all))) (at_stack j second (omega (arith, within, all)))
    ]
  ]
