-- The index of segments, and what is found by it.
use Rattle.std.proofs.Common.{◌≡◌, ℕ, zero, suc, ◌+◌, ◌-◌, ◌<◌, ◌≤◌, ◌&&◌, nat_lt, nat_le, Bool, true, false, List, [], ◌∷◌, ◌++◌, length, get_or, Some, None, refl, sym, ap, subst, ◌∙◌, inl, inr, ⊎_elim, arith}
use Rattle.std.specs.Prelude.{All, AllPairs, Contains, sum_by, ◌↔◌}
use mathlib.Core.Bool.{false≢true}
use Rattle.std.specs.List.Sorted.{IsNonDecreasingBy, IsPermutation}
use Rattle.std.proofs.lemmas.Bool.{cases_lt}
use Rattle.std.proofs.lemmas.Bool.Decides.{nat_tests}
use Rattle.std.proofs.lemmas.Grind.{common_steps}
use Rattle.std.specs.List.{slice_get}
use Rattle.std.proofs.lemmas.List.{get_or_default}
use Rattle.std.proofs.lemmas.List.Folds.{find_at}
use Rattle.std.proofs.lemmas.List.Sums.{position_or_len_is}
use Rattle.std.proofs.lemmas.Option.{slice_get-get_or, slice_get_past}
use Rattle.std.proofs.lemmas.List.Elements.{Contains-get_or, Contains-append_left, Contains-push, Contains-push_cases}
use Rattle.std.proofs.lemmas.List.Sorted.{Contains-permutation, IsPermutation-sym}
use Rattle.elf_image.specs.declared.index.Start.{Start}
use Rattle.elf_image.specs.Layout.{SegmentData, ImageData, IsApart, IsSegment, IsWithin, IsImage, segment_at}
use Rattle.elf_image.specs.Index.{IsStart, AreStarts, IsIndex, IsCountBy}

-- the starts of the first n segments
abbrev pub StartsBefore : List Start → List SegmentData → ℕ → Type 0
StartsBefore starts segments n = (s : Start) → Contains starts s ↔ (IsStart segments s × (s.number < n))

pub none_before : (starts : List Start) (segments : List SegmentData) → starts ≡ [] → StartsBefore starts segments 0
none_before starts segments e s = ((λ there. absurd (omega (arith, there.1, ap length e))), (λ is. absurd (omega (arith, is.1))))

same_start : (s t : Start) → s.at ≡ t.at → s.number ≡ t.number → s ≡ t
same_start s t at number =
    let make : ℕ → ℕ → Start = λ n k. record { at = n; number = k } in
    ap (λ (n : ℕ). make n s.number) at ∙ ap (make t.at) number

-- one more
pub one_more : (starts new : List Start) (segments : List SegmentData) (n : ℕ) (g : SegmentData) → n < length segments → g ≡ get_or segments n g → new ≡ starts ++ record { at = g.at; number = n } ∷ [] → StartsBefore starts segments n → StartsBefore new segments (n + 1)
one_more starts new segments n g lt is pushed before s = rw pushed (there, back)
  where
    t : Start
    t = record { at = g.at; number = n }

    at_is : (d : SegmentData) → g.at ≡ (get_or segments n d).at
    at_is d = ap (λ (x : SegmentData). x.at) (is ∙ get_or_default segments n g d lt)

    there : Contains (starts ++ t ∷ []) s → IsStart segments s × (s.number < n + 1)
    there h =
        let new : IsStart segments t × (t.number < n + 1) = ((lt, (λ d. at_is d)), omega arith) in
        ⊎_elim (λ old. let was = (before s).0 old in (was.0, omega (arith, was.1))) (λ e. subst (λ (x : Start). IsStart segments x × (x.number < n + 1)) e new) (Contains-push_cases starts t s h)

    back : IsStart segments s × (s.number < n + 1) → Contains (starts ++ t ∷ []) s
    back h = elim (cases_lt s.number n) [
      | inl earlier ↦ Contains-append_left starts (t ∷ []) s ((before s).1 (h.0, earlier))
      | inr rest ↦
          let number : s.number ≡ n = omega (arith, h.1) in
          let at : s.at ≡ g.at = h.0.1 g ∙ (ap (λ (k : ℕ). (get_or segments k g).at) number ∙ sym (at_is g)) in
          subst (Contains (starts ++ t ∷ [])) (sym (same_start s t at number)) (Contains-push starts t)
    ]

pub all_before : (starts : List Start) (segments : List SegmentData) (n : ℕ) → length segments ≤ n → StartsBefore starts segments n → AreStarts starts segments
all_before starts segments n past before s = ((λ there. ((before s).0 there).0), (λ is. (before s).1 (is, omega (arith, is.0))))

pub starts_permuted : (xs ys : List Start) (segments : List SegmentData) → IsPermutation xs ys → AreStarts xs segments → AreStarts ys segments
starts_permuted xs ys segments moved are s = ((λ there. (are s).0 (Contains-permutation ys xs s (IsPermutation-sym xs ys moved) there)), (λ is. Contains-permutation xs ys s moved ((are s).1 is)))

-- ---- what is found

fails : (b : Bool) → (b ≡ true → ⊥) → b ≡ false
fails true never = absurd (never refl)
fails false never = refl

abbrev pub no_start : Start
no_start = record { at = 0; number = 0 }

no_segment : SegmentData
no_segment = record { at = 0; size = 0; r = false; w = false; x = false; bytes = [] }

-- the segment has the address
has : ℕ → SegmentData → Bool
has a s = nat_le s.at a && nat_lt a (s.at + s.size)

module _ (segments : List SegmentData) (a : ℕ) where
  -- a segment that has it, where no other does
  one_found : (n : ℕ) → n < length segments → has a (get_or segments n no_segment) ≡ true → ((k : ℕ) → k < n → has a (get_or segments k no_segment) ≡ true → ⊥) → segment_at a segments ≡ Some (get_or segments n no_segment)
  unfolding has
  one_found n lt is other =
      find_at (has a) segments
      ∙ (ap (slice_get segments) (position_or_len_is (has a) segments n no_segment (omega arith) (λ k less. fails (has a (get_or segments k no_segment)) (other k less)) (λ _. is))
      ∙ slice_get-get_or segments n no_segment lt)

  none_found : ((k : ℕ) → k < length segments → has a (get_or segments k no_segment) ≡ true → ⊥) → segment_at a segments ≡ None
  unfolding has
  none_found other =
      find_at (has a) segments
      ∙ (ap (slice_get segments) (position_or_len_is (has a) segments (length segments) no_segment (omega arith) (λ k less. fails (has a (get_or segments k no_segment)) (other k less)) (λ lt. absurd (omega (arith, lt))))
      ∙ slice_get_past segments (length segments) (omega arith))

  within : (s : SegmentData) → has a s ≡ true → IsWithin a s
  unfolding has
  within s is = (grind (arith, nat_tests, is), grind (arith, nat_tests, is))

  here : (s : SegmentData) → s.at ≤ a → a < s.at + s.size → has a s ≡ true
  unfolding has
  here s from to = grind (arith, nat_tests)

module _ (segments : List SegmentData) (starts : List Start) (apart : AllPairs IsApart segments) (full : All IsSegment segments) (index : IsIndex starts segments) (a p : ℕ) (count : IsCountBy starts a p) where
  -- the start of a segment that begins at the address or below is among those
  start_of : (k : ℕ) → k < length segments → (get_or segments k no_segment).at ≤ a → (q : ℕ) × (q < p) × ((get_or starts q no_start).number ≡ k) × ((get_or starts q no_start).at ≡ (get_or segments k no_segment).at)
  start_of k lt below =
      let g = get_or segments k no_segment in
      let s : Start = record { at = g.at; number = k } in
      let there : Contains starts s = (index.each s).1 (lt, (λ d. ap (λ (x : SegmentData). x.at) (get_or_default segments k no_segment d lt))) in
      let is : get_or starts there.0 no_start ≡ s = get_or_default starts there.0 no_start s there.1 ∙ there.2 in
      elim (cases_lt there.0 p) [
        | inl before ↦ (there.0, before, ap (λ (x : Start). x.number) is, ap (λ (x : Start). x.at) is)
        | inr rest ↦ absurd (omega (arith, count.after there.0 no_start rest there.1, ap (λ (x : Start). x.at) is, below))
      ]

  -- no segment begins so low
  pub nothing_found : p ≡ 0 → None ≡ segment_at a segments
  nothing_found empty = sym (none_found segments a (λ k lt is. let start = start_of k lt (within segments a (get_or segments k no_segment) is).0 in omega (arith, start.1, empty)))

  module _ (some : 0 < p) where
    abbrev pub last : Start
    last = get_or starts (p - 1) no_start

    last_is : IsStart segments last
    last_is = (index.each last).0 (Contains-get_or starts (p - 1) no_start (omega (arith, count.bound)))

    pub last_in_range : last.number < length segments
    last_in_range = last_is.0

    -- the segment that begins last among those that begin at the address or below
    module _ (g : SegmentData) (is : g ≡ get_or segments last.number g) where
      same : g ≡ get_or segments last.number no_segment
      same = is ∙ get_or_default segments last.number g no_segment last_is.0

      at_is : last.at ≡ g.at
      at_is = last_is.1 no_segment ∙ ap (λ (x : SegmentData). x.at) (sym same)

      pub last_below : g.at ≤ a
      last_below = omega (arith, at_is, count.before (p - 1) no_start (omega arith))

      pub last_found : a < g.at + g.size → Some g ≡ segment_at a segments
      last_found to =
          let holds : has a (get_or segments last.number no_segment) ≡ true = subst (λ (x : SegmentData). has a x ≡ true) same (here segments a g last_below to) in
          ap (λ (x : SegmentData). Some x) same ∙ sym (one_found segments a last.number last_is.0 holds (λ k less other. apart k last.number no_segment less last_is.0 a (within segments a (get_or segments k no_segment) other) (within segments a (get_or segments last.number no_segment) holds)))

      pub last_misses : g.at + g.size ≤ a → None ≡ segment_at a segments
      last_misses past = sym (none_found segments a none)
        where
          none : (k : ℕ) → k < length segments → has a (get_or segments k no_segment) ≡ true → ⊥
          none k lt holds =
              let k_has = within segments a (get_or segments k no_segment) holds in
              let start = start_of k lt k_has.0 in
              let below : (get_or starts start.0 no_start).at ≤ last.at = index.rising start.0 (p - 1) no_start (omega (arith, start.1)) (omega (arith, count.bound)) in
              let first : IsWithin g.at (get_or segments k no_segment) = (omega (arith, below, start.3, at_is), omega (arith, last_below, k_has.1)) in
              let size : 0 < (get_or segments last.number no_segment).size = (full last.number no_segment last_is.0).occupied in
              let e_at : (get_or segments last.number no_segment).at ≡ g.at = ap (λ (x : SegmentData). x.at) (sym same) in
              let second : IsWithin g.at (get_or segments last.number no_segment) = (omega (arith, e_at), omega (arith, e_at, size)) in
              elim (cases_lt k last.number) [
                | inl less ↦ apart k last.number no_segment less last_is.0 g.at first second
                | inr rest ↦ elim (cases_lt last.number k) [
                  | inl more ↦ apart last.number k no_segment more lt g.at second first
                  | inr rest' ↦
                      let e : k ≡ last.number = omega arith in
                      let e_size : (get_or segments k no_segment) ≡ g = ap (λ (n : ℕ). get_or segments n no_segment) e ∙ sym same in
                      omega (arith, past, k_has.1, ap (λ (x : SegmentData). x.at) e_size, ap (λ (x : SegmentData). x.size) e_size)
                ]
              ]

-- each segment has a byte
pub few_segments : (segments : List SegmentData) → All IsSegment segments → length segments ≤ sum_by (λ s. s.size) segments
few_segments [] full = omega arith
few_segments (s ∷ segments) full =
    let first : 0 < s.size = (full 0 s (omega arith)).occupied in
    grind (arith, common_steps, first, few_segments segments (λ k d lt. full (suc k) d (omega arith)))
