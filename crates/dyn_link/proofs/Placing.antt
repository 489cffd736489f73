-- The segment of a slot, by its number.
use Rattle.std.proofs.Common.{◌≡◌, ◌≢◌, ℕ, ◌+◌, ◌<◌, ◌≤◌, ◌||◌, ◌&&◌, not, nat_le, Bool, true, false, List, length, get_or, Option, Some, None, refl, sym, ap, subst, ◌∙◌, inl, inr, arith, Bor}
use Rattle.std.specs.Prelude.{All, AllPairs}
use Rattle.std.specs.BTreeMap.{BTreeMap, get, is_at, Updates}
use Rattle.std.specs.List.{list_any}
use Rattle.std.specs.Option.{option_copied, IsSome}
use Rattle.std.specs.Ordering.{nat_cmp}
use mathlib.Core.Bool.{false≢true}
use Rattle.std.proofs.lemmas.Bool.{cases_lt}
use Rattle.std.proofs.lemmas.Bool.Decides.{nat_tests}
use Rattle.std.proofs.lemmas.List.{get_or_default}
use Rattle.std.proofs.lemmas.Option.{none-some, same_Some}
use Rattle.elf_image.specs.Layout.{SegmentData, IsSegment, IsApart, segment_at}
use Rattle.dyn_link.specs.declared.binding.Binding.{Binding}
use Rattle.dyn_link.specs.declared.relocation.Relocation.{Relocation}
use Rattle.dyn_link.specs.Placed.{AreNumbers, IsPlaced}
use Rattle.dyn_link.specs.Relocations.{is_slot, is_bad_relocation, is_bound_kind, has_name, symbol_record}
use Rattle.dyn_link.proofs.Finding.{segment_found, segment_there, each_fails}

-- a key is at no other
pub not_at : (a b : ℕ) → b ≢ a → is_at (nat_cmp a) b ≡ false
not_at a b other = grind (arith, nat_tests, other)

-- one more segment's number
pub numbers_more : (segments : List SegmentData) (m new : BTreeMap ℕ ℕ) (i at : ℕ) → All IsSegment segments → AllPairs IsApart segments → i < length segments → ((d : SegmentData) → (get_or segments i d).at ≡ at) → Updates nat_cmp m new at (Some i) → ((k : ℕ) (d : SegmentData) → k < i → get nat_cmp m (get_or segments k d).at ≡ Some k) → (k : ℕ) (d : SegmentData) → k < i + 1 → get nat_cmp new (get_or segments k d).at ≡ Some k
numbers_more segments m new i at full apart lt at_is updates before k d less = elim (cases_lt k i) [
  | inl earlier ↦
      let differs : (get_or segments k d).at ≢ at = λ same.
      apart k i d earlier lt at
      (omega (arith, same), omega (arith, same, (full k d (omega arith)).occupied))
      (omega (arith, at_is d), omega (arith, at_is d, (full i d lt).occupied)) in
      updates.2 (get_or segments k d).at (not_at at (get_or segments k d).at differs) ∙ before k d earlier
  | inr rest ↦
      let e : k ≡ i = omega arith in
      let here : get nat_cmp new (get_or segments i d).at ≡ Some i = rw (at_is d) updates.1 in
      subst (λ (n : ℕ). get nat_cmp new (get_or segments n d).at ≡ Some n) (sym e) here
]

-- what is copied is there
pub copied_there : (r : Option (Bor ℕ)) (k : ℕ) → option_copied r ≡ Some k → IsSome r
copied_there None k e = absurd (none-some k e)
copied_there (Some x) k e = refl

-- the number of a segment that is found
module _ (segments : List SegmentData) (m : BTreeMap ℕ ℕ) (a : ℕ) (s : SegmentData) (numbers : AreNumbers segments m) (found : Some s ≡ segment_at a segments) where
  pub number_of : ℕ
  number_of = (segment_there a segments s found).0

  pub number_there : get nat_cmp m s.at ≡ Some number_of
  unfolding number_of
  number_there =
      let there = segment_there a segments s found in
      subst (λ (t : SegmentData). get nat_cmp m t.at ≡ Some there.0) there.2 (numbers there.0 s there.1)

  in_range : number_of < length segments
  unfolding number_of
  in_range = (segment_there a segments s found).1

  is_there : (d : SegmentData) → get_or segments number_of d ≡ s
  unfolding number_of
  is_there d = let there = segment_there a segments s found in get_or_default segments there.0 d s there.1 ∙ there.2

  slot_fits : is_slot segments a ≡ true → a + 8 ≤ s.at + s.size
  unfolding is_slot
  slot_fits slot =
      let fits : (s.w && nat_le (a + 8) (s.at + s.size)) ≡ true = rw (← found) at slot in
      grind (arith, nat_tests, fits)

  pub is_placed : (b : Binding) (n : ℕ) → b.slot ≡ a → is_slot segments a ≡ true → get nat_cmp m s.at ≡ Some n → IsPlaced segments (record { segment = n; binding = b })
  is_placed b n slot_is slot number =
      let same : number_of ≡ n = same_Some number_of n (sym number_there ∙ number) in
      let placed : IsPlaced segments (record { segment = number_of; binding = b }) = record {
        there = in_range;
        from = λ d. omega (arith, ap (λ (t : SegmentData). t.at) (is_there d), (segment_found a segments s found).0, slot_is);
        to = λ d. omega (arith, ap (λ (t : SegmentData). t.at) (is_there d), ap (λ (t : SegmentData). t.size) (is_there d), slot_fits slot, slot_is);
      } in
      subst (λ (k : ℕ). IsPlaced segments (record { segment = k; binding = b })) same placed

-- ---- relocations that aren't bad

good_slot : (a b c : Bool) → (a || not b || c) ≡ false → b ≡ true
good_slot a true c e = refl
good_slot true false c e = absurd (false≢true (sym e))
good_slot false false c e = absurd (false≢true (sym e))

pub slot_of_good : (segments : List SegmentData) (text : List ℕ) (symbols : ℕ) (rs : List Relocation) → list_any (is_bad_relocation segments text symbols) rs ≡ false → (k : ℕ) (d : Relocation) → k < length rs → is_slot segments (get_or rs k d).slot ≡ true
unfolding is_bad_relocation
slot_of_good segments text symbols rs none k d lt =
    let r = get_or rs k d in
    good_slot (not (is_bound_kind r)) (is_slot segments r.slot) (not (has_name text (symbol_record segments symbols r))) (each_fails (is_bad_relocation segments text symbols) rs none k d lt)
