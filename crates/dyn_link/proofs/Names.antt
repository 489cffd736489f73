-- Names and where they end.
use Rattle.std.proofs.Common.{◌≡◌, ◌≢◌, ℕ, ◌+◌, ◌-◌, ◌<◌, ◌≤◌, ◌==◌, nat_lt, true, false, List, length, get_or, drop, sym, ap, ◌∙◌, inl, inr, arith, length-drop}
use Rattle.std.proofs.lemmas.Bool.{cases_lt}
use Rattle.std.proofs.lemmas.Bool.Decides.{nat_tests}
use Rattle.std.proofs.lemmas.List.{get_or-drop, get_or_default}
use Rattle.std.proofs.lemmas.List.Folds.{list_any_none, list_any_at}
use Rattle.dyn_link.specs.Relocations.{is_ended}

-- a name is ended where it begins before the end of the last one
pub ended_before : (text : List ℕ) (end : ℕ) → end ≤ length text → (0 < end → get_or text (end - 1) 0 ≡ 0) → ((k : ℕ) → k < length text → end ≤ k → get_or text k 0 ≢ 0) → (k : ℕ) → is_ended text k ≡ nat_lt k end
unfolding is_ended
ended_before text end within last behind k = elim (cases_lt k end) [
  | inl lt ↦
      let zero_at : get_or (drop k text) (end - 1 - k) 0 ≡ 0 =
      get_or-drop k text (end - 1 - k) 0 ∙ (ap (λ (n : ℕ). get_or text n 0) (let e : k + (end - 1 - k) ≡ end - 1 = omega arith in e) ∙ last (omega arith)) in
      let passes : (get_or (drop k text) (end - 1 - k) 0 == 0) ≡ true = grind (arith, nat_tests, zero_at) in
      let in_range : end - 1 - k < length (drop k text) = omega (arith, length-drop k text) in
      let before : nat_lt k end ≡ true = grind (arith, nat_tests) in
      list_any_at (λ (b : ℕ). b == 0) (drop k text) (end - 1 - k) 0 in_range passes ∙ sym before
  | inr rest ↦
      let after : nat_lt k end ≡ false = grind (arith, nat_tests) in
      list_any_none (λ (b : ℕ). b == 0) (drop k text) (λ j d lt. fails j d lt rest) ∙ sym after
]
  where
    fails : (j d : ℕ) → j < length (drop k text) → end ≤ k → (get_or (drop k text) j d == 0) ≡ false
    fails j d lt rest =
        let in_text : k + j < length text = omega (arith, length-drop k text) in
        let e : get_or (drop k text) j d ≡ get_or text (k + j) d = get_or-drop k text j d in
        let same : get_or text (k + j) d ≡ get_or text (k + j) 0 = get_or_default text (k + j) d 0 in_text in
        let other : get_or text (k + j) 0 ≢ 0 = behind (k + j) in_text (omega arith) in
        grind (arith, nat_tests, e, same, other)
