-- The steps of a search, and by an induction on the number of probes what they come to.
use Rattle.std.proofs.Common.{None, ◌≡◌, ◌≢◌, ℕ, zero, suc, ◌+◌, ◌-◌, ◌*◌, ◌^◌, ◌<◌, ◌≤◌, Bool, cond, ℤ, pos, negsuc, refl, sym, ap, subst, ◌∙◌, arith, inl, inr}
use Rattle.std.specs.Prelude.{◌<ℤ◌}
use Rattle.std.proofs.Math.Nat.{pow-suc, pow-zero}
use Rattle.std.proofs.lemmas.Bool.{cases_lt, lt-ltb, le-ltb}
use Rattle.std.proofs.lemmas.Int.{ints}
use Rattle.callbacks.specs.declared.Frame.{Frame}
use Rattle.callbacks.specs.declared.Next.{Next}
use Rattle.callbacks.specs.declared.Next.TheVariants.{Probe, Done}
use Rattle.callbacks.specs.Frame.{middle, element, probe, probing, resumed, resumed_for, searched}
use Rattle.callbacks.specs.Search.{answer_on, search_after, IsOrdered, Finds}

pub searched_below : (f : Frame) (a : ℤ) → a <ℤ pos 0 → searched f a ≡ probing (record f { hi = middle f })
unfolding searched
searched_below f (negsuc n) h = refl
searched_below f (pos zero) h = absurd (omega (arith, ints))
searched_below f (pos (suc n)) h = absurd (omega (arith, ints))

pub searched_above : (f : Frame) (a : ℤ) → pos 0 <ℤ a → searched f a ≡ probing (record f { lo = middle f + 1 })
unfolding searched
searched_above f (negsuc n) h = absurd (omega (arith, ints))
searched_above f (pos zero) h = absurd (omega (arith, ints))
searched_above f (pos (suc n)) h = refl

pub searched_equal : (f : Frame) (a : ℤ) → a ≡ pos 0 → searched f a ≡ (f, Done (element f (middle f)))
unfolding searched
searched_equal f a e = ap (searched f) e

-- an answer within a search
pub resumed_search : (f : Frame) (a : ℤ) → f.control ≡ None → resumed f a ≡ searched f a
unfolding resumed
resumed_search f a e = ap (λ c. resumed_for c f a) e

probe_some : (f : Frame) → f.lo < f.hi → probe f ≡ Probe (element f (middle f))
unfolding probe
probe_some f h = ap (λ (b : Bool). cond b (Probe (element f (middle f))) (Done 0)) (lt-ltb f.lo f.hi h)

probe_none : (f : Frame) → f.hi ≤ f.lo → probe f ≡ Done 0
unfolding probe
probe_none f h = ap (λ (b : Bool). cond b (Probe (element f (middle f))) (Done 0)) (le-ltb f.lo f.hi h)

after_end : (probes : ℕ) (compare : ℕ → ℤ) (f : Frame) (n : Next) (place : ℕ) → n ≡ Done place → search_after probes compare (f, n) ≡ Done place
unfolding search_after answer_on
after_end zero compare f n place e = e
after_end (suc probes) compare f n place e = ap (answer_on compare (search_after probes compare) f) e

after_probe : (probes : ℕ) (compare : ℕ → ℤ) (f : Frame) (n : Next) (place : ℕ) → n ≡ Probe place → search_after (suc probes) compare (f, n) ≡ search_after probes compare (resumed f (compare place))
unfolding search_after answer_on
after_probe probes compare f n place e = ap (answer_on compare (search_after probes compare) f) e

-- no element is left
finds_none : (probes : ℕ) (compare : ℕ → ℤ) (f : Frame) → f.hi ≤ f.lo → Finds compare f (search_after probes compare (probing f))
finds_none probes compare f h = inr (λ i low high. absurd (omega arith), after_end probes compare f (probe f) 0 (probe_none f h))

-- the middle lies among the elements that are left, and halves them
record IsMiddle (lo hi m : ℕ) : Type 0 where
  pub low : lo ≤ m
  pub high : m < hi
  pub before : 2 * (m - lo) ≤ hi - lo
  pub behind : hi - lo ≤ 2 * (m - lo) + 1

middle_is : (f : Frame) → f.lo < f.hi → IsMiddle f.lo f.hi (middle f)
middle_is f h = record { low = omega arith; high = omega arith; before = omega arith; behind = omega arith }

-- what is found before the middle is found, where nothing from it on compares equal
widen_hi : (compare : ℕ → ℤ) (f : Frame) (m : ℕ) (next : Next) → m ≤ f.hi → ((i : ℕ) → m ≤ i → i < f.hi → compare (element f i) ≢ pos 0)
    → Finds compare (record f { hi = m }) next → Finds compare f next
widen_hi compare f m next within others (inl (i, low, high, equal, is)) = inl (i, low, omega arith, equal, is)
widen_hi compare f m next within others (inr (none, is)) =
    inr (λ i low high. elim (cases_lt i m) [ inl lt ↦ none i low lt | inr le ↦ others i le high ], is)

widen_lo : (compare : ℕ → ℤ) (f : Frame) (m : ℕ) (next : Next) → f.lo ≤ m → ((i : ℕ) → f.lo ≤ i → i < m → compare (element f i) ≢ pos 0)
    → Finds compare (record f { lo = m }) next → Finds compare f next
widen_lo compare f m next within others (inl (i, low, high, equal, is)) = inl (i, omega arith, high, equal, is)
widen_lo compare f m next within others (inr (none, is)) =
    inr (λ i low high. elim (cases_lt i m) [ inl lt ↦ others i low lt | inr le ↦ none i le high ], is)

below_not_equal : (a : ℤ) → a <ℤ pos 0 → a ≢ pos 0
below_not_equal a h e = absurd (omega (arith, ints, e))

above_not_equal : (a : ℤ) → pos 0 <ℤ a → a ≢ pos 0
above_not_equal a h e = absurd (omega (arith, ints, e))

step : (probes : ℕ) (compare : ℕ → ℤ) (f : Frame) → f.control ≡ None → f.lo < f.hi → f.hi < f.lo + 2 ^ suc probes → IsOrdered compare f
    → ((g : Frame) → g.control ≡ None → g.hi < g.lo + 2 ^ probes → IsOrdered compare g → Finds compare g (search_after probes compare (probing g)))
    → (a : ℤ) → compare (element f (middle f)) ≡ a → Finds compare f (search_after (suc probes) compare (probing f))
step probes compare f free some few order go_on (negsuc n) e =
    let m = middle_is f some in
    let few' : f.hi < f.lo + 2 ^ probes * 2 = omega (arith, pow-suc 2 probes) in
    let negative : compare (element f (middle f)) <ℤ pos 0 = omega (arith, ints, e) in
    let next = after_probe probes compare f (probe f) (element f (middle f)) (probe_some f some) ∙ ap (search_after probes compare) (resumed_search f (compare (element f (middle f))) free ∙ searched_below f (compare (element f (middle f))) negative) in
    let small : middle f < f.lo + 2 ^ probes = omega (arith, m.low, m.high, m.before) in
    let order' : IsOrdered compare (record f { hi = middle f }) = record {
      above = λ i j low ij high. order.above i j low ij (omega (arith, m.high));
      below = λ i j low ij high. order.below i j low ij (omega (arith, m.high));
    } in
    subst (Finds compare f) (sym next)
    (widen_hi compare f (middle f) _ (omega (arith, m.high)) (λ i le high. below_not_equal _ (order.below (middle f) i m.low le high negative)) (go_on (record f { hi = middle f }) free small order'))
step probes compare f free some few order go_on (pos zero) e =
    let m = middle_is f some in
    let next = after_probe probes compare f (probe f) (element f (middle f)) (probe_some f some) ∙ ap (search_after probes compare) (resumed_search f (compare (element f (middle f))) free ∙ searched_equal f (compare (element f (middle f))) e)
    ∙ after_end probes compare f (Done (element f (middle f))) (element f (middle f)) refl in
    inl (middle f, m.low, m.high, e, next)
step probes compare f free some few order go_on (pos (suc n)) e =
    let m = middle_is f some in
    let few' : f.hi < f.lo + 2 ^ probes * 2 = omega (arith, pow-suc 2 probes) in
    let positive : pos 0 <ℤ compare (element f (middle f)) = omega (arith, ints, e) in
    let next = after_probe probes compare f (probe f) (element f (middle f)) (probe_some f some) ∙ ap (search_after probes compare) (resumed_search f (compare (element f (middle f))) free ∙ searched_above f (compare (element f (middle f))) positive) in
    let small : f.hi < (middle f + 1) + 2 ^ probes = omega (arith, m.low, m.high, m.behind) in
    let order' : IsOrdered compare (record f { lo = middle f + 1 }) = record {
      above = λ i j low ij high. order.above i j (omega (arith, m.low)) ij high;
      below = λ i j low ij high. order.below i j (omega (arith, m.low)) ij high;
    } in
    subst (Finds compare f) (sym next)
    (widen_lo compare f (middle f + 1) _ (omega (arith, m.low)) (λ i low lt. above_not_equal _ (order.above i (middle f) low (omega arith) m.high positive)) (go_on (record f { lo = middle f + 1 }) free small order'))

-- so many probes are enough for fewer than 2 to their number of elements
pub finds_within : (probes : ℕ) (compare : ℕ → ℤ) (f : Frame) → f.control ≡ None → f.hi < f.lo + 2 ^ probes → IsOrdered compare f → Finds compare f (search_after probes compare (probing f))
finds_within zero compare f free few order = finds_none zero compare f (omega (arith, pow-zero 2))
finds_within (suc probes) compare f free few order =
    elim (cases_lt f.lo f.hi) [
      | inl some ↦ step probes compare f free some few order (λ g free' few' order'. finds_within probes compare g free' few' order') (compare (element f (middle f))) refl
      | inr none ↦ finds_none (suc probes) compare f none
    ]
