-- Functions that are bound, among places that rise by address.
use Rattle.std.proofs.Common.{◌≡◌, ℕ, ◌+◌, ◌-◌, ◌<◌, ◌≤◌, true, false, List, [], ◌∷◌, ◌++◌, length, map, take, get_or, Option, Some, None, ◌⊎◌, Ok, Err, refl, sym, ap, subst, ◌∙◌, inl, inr, ⊎_elim, arith, append_assoc}
use Rattle.std.specs.Prelude.{All, AllPairs, Contains}
use mathlib.Core.Bool.{false≢true}
use Rattle.std.specs.List.{insert, cons_option}
use Rattle.std.specs.List.Sorted.{IsBinarySearchResult, IsNonDecreasingBy}
use Rattle.std.specs.Option.{option_map}
use Rattle.std.specs.Ordering.{nat_cmp, ordering_index}
use Rattle.std.proofs.lemmas.Cmp.{ranked}
use Rattle.std.proofs.lemmas.Bool.{cases_lt, cases_eq}
use Rattle.std.proofs.lemmas.Bool.Decides.{nat_tests}
use Rattle.std.proofs.lemmas.List.{map_more, append-nil}
use Rattle.std.proofs.lemmas.List.Edits.{length-insert, get_or-insert_below, get_or-insert_at, get_or-insert_above}
use Rattle.std.proofs.lemmas.List.Elements.{Contains-get_or, Contains-append_left, Contains-append_right, Contains-append_cases, Contains-push, Contains-push_cases, All-contains, All-nil, All-cons, filter_map-append}
use Rattle.std.proofs.lemmas.List.Sorted.{IsPermutation-insert, Contains-permutation, IsPermutation-sym}
use Rattle.elf_image.specs.declared.linking.Linking.TheVariants.{Dynamic as Linked}
use Rattle.elf_image.specs.declared.place.Function.{Function}
use Rattle.elf_image.specs.declared.place.Function.TheVariants.{PthreadCreate, PthreadJoin, PthreadSelf, MutexInit, MutexLock, MutexTrylock, MutexUnlock, MutexDestroy, Bsearch, Read, Write, Exit, CondInit, CondDestroy, CondWait, CondSignal, CondBroadcast, BarrierInit, BarrierWait, BarrierDestroy, Once}
use Rattle.elf_image.specs.declared.place.LibPlace.{LibPlace}
use Rattle.elf_image.specs.Layout.{IsBelow}
use Rattle.elf_image.specs.Loading.{AreInOrder, HasNoneKept, is_kept}
use Rattle.dyn_link.specs.declared.binding.Binding.{Binding}
use Rattle.elf_image.specs.Library.{functions}
use Rattle.dyn_link.specs.declared.slot.Place.{Place}
use Rattle.dyn_link.specs.Bound.{place_of, address_of, place_for, bound_places}
use Rattle.dyn_link.specs.Entries.{IsOwn}

-- a place is its address and its function
same_place : (a b : LibPlace) → a.at ≡ b.at → a.function ≡ b.function → a ≡ b
same_place a b at function =
    let make : ℕ → Function → LibPlace = λ n f. record { at = n; function = f } in
    ap (λ (n : ℕ). make n a.function) at ∙ ap (make b.at) function

-- ---- the addresses of functions

place_below : (f : Function) → place_of f < 21
place_below PthreadCreate = omega arith
place_below PthreadJoin = omega arith
place_below PthreadSelf = omega arith
place_below MutexInit = omega arith
place_below MutexLock = omega arith
place_below MutexTrylock = omega arith
place_below MutexUnlock = omega arith
place_below MutexDestroy = omega arith
place_below Bsearch = omega arith
place_below Read = omega arith
place_below Write = omega arith
place_below Exit = omega arith
place_below CondInit = omega arith
place_below CondDestroy = omega arith
place_below CondWait = omega arith
place_below CondSignal = omega arith
place_below CondBroadcast = omega arith
place_below BarrierInit = omega arith
place_below BarrierWait = omega arith
place_below BarrierDestroy = omega arith
place_below Once = omega arith

at_place : (f : Function) → get_or functions (place_of f) Once ≡ f
at_place PthreadCreate = refl
at_place PthreadJoin = refl
at_place PthreadSelf = refl
at_place MutexInit = refl
at_place MutexLock = refl
at_place MutexTrylock = refl
at_place MutexUnlock = refl
at_place MutexDestroy = refl
at_place Bsearch = refl
at_place Read = refl
at_place Write = refl
at_place Exit = refl
at_place CondInit = refl
at_place CondDestroy = refl
at_place CondWait = refl
at_place CondSignal = refl
at_place CondBroadcast = refl
at_place BarrierInit = refl
at_place BarrierWait = refl
at_place BarrierDestroy = refl
at_place Once = refl

-- no two functions have one address
same_function : (f g : Function) → address_of f ≡ address_of g → f ≡ g
unfolding address_of
same_function f g e =
    let places : place_of f ≡ place_of g = omega (arith, e) in
    sym (at_place f) ∙ (ap (λ (n : ℕ). get_or functions n Once) places ∙ at_place g)

kept_address : (f : Function) → is_kept Linked (address_of f) ≡ true
unfolding address_of
kept_address f = let below = place_below f in grind (arith, nat_tests, below)

-- ---- what stands at them

own_place : (g : Function) → IsOwn (place_for g)
own_place g f e = same_function g f e

own_free : (p : LibPlace) → is_kept Linked p.at ≡ false → IsOwn p
own_free p free f e = absurd (false≢true (sym free ∙ (ap (is_kept Linked) e ∙ kept_address f)))

own_one : (o : Option Function) (ps : List LibPlace) → All IsOwn ps → All IsOwn (cons_option (option_map place_for o) ps)
own_one None ps own = own
own_one (Some f) ps own = All-cons IsOwn (place_for f) ps (own_place f) own

own_bound : (bs : List Binding) → All IsOwn (bound_places bs)
own_bound [] = All-nil IsOwn
own_bound (b ∷ bs) = own_one b.function (bound_places bs) (own_bound bs)

-- all that was put in order
pub own_so_far : (first es : List LibPlace) (bs : List Binding) → HasNoneKept first → AreInOrder (first ++ bound_places bs) es → All IsOwn es
own_so_far first es bs free order k d lt =
    let there = (order.same (get_or es k d)).0 (Contains-get_or es k d lt) in
    ⊎_elim
    (λ old. own_free (get_or es k d) (All-contains (λ (p : LibPlace). is_kept Linked p.at ≡ false) first (get_or es k d) free old))
    (λ new. All-contains IsOwn (bound_places bs) (get_or es k d) (own_bound bs) new)
    (Contains-append_cases first (bound_places bs) (get_or es k d) there)

-- ---- one more

module _ (first es : List LibPlace) (order : AreInOrder first es) where
  step_order : (p : LibPlace) (new : List LibPlace) → AreInOrder (es ++ p ∷ []) new → AreInOrder (first ++ p ∷ []) new
  step_order p new added = record {
    rising = added.rising;
    same = λ q. (
      (λ h. ⊎_elim (λ old. Contains-append_left first (p ∷ []) q ((order.same q).0 old)) (λ e. subst (Contains (first ++ p ∷ [])) e (Contains-push first p)) (Contains-push_cases es p q ((added.same q).0 h))),
      (λ h. (added.same q).1 (⊎_elim (λ old. Contains-append_left es (p ∷ []) q ((order.same q).1 old)) (λ e. subst (Contains (es ++ p ∷ [])) e (Contains-push es p)) (Contains-push_cases first p q h))),
    );
  }

bound_places_more : (places : List Place) (i : ℕ) (d : Place) → i < length places → bound_places (map (λ p. p.binding) (take (i + 1) places)) ≡ bound_places (map (λ p. p.binding) (take i places)) ++ cons_option (option_map place_for (get_or places i d).binding.function) []
bound_places_more places i d lt =
    let binding_of : Place → Binding = λ p. p.binding in
    let more : map binding_of (take (i + 1) places) ≡ map binding_of (take i places) ++ (get_or places i d).binding ∷ [] = map_more binding_of places i d lt in
    ap bound_places more ∙ filter_map-append (λ (b : Binding). option_map place_for b.function) (map binding_of (take i places)) ((get_or places i d).binding ∷ [])

module _ (first es : List LibPlace) (places : List Place) (i : ℕ) (d : Place) (lt : i < length places) (order : AreInOrder (first ++ bound_places (map (λ p. p.binding) (take i places))) es) where
  pub functions_more : (f : Function) (new : List LibPlace) → (get_or places i d).binding.function ≡ Some f → AreInOrder (es ++ place_for f ∷ []) new → AreInOrder (first ++ bound_places (map (λ p. p.binding) (take (i + 1) places))) new
  functions_more f new is added =
      let before = bound_places (map (λ p. p.binding) (take i places)) in
      let more : bound_places (map (λ p. p.binding) (take (i + 1) places)) ≡ before ++ place_for f ∷ [] = bound_places_more places i d lt ∙ ap (λ (o : Option Function). before ++ cons_option (option_map place_for o) []) is in
      let split : first ++ bound_places (map (λ p. p.binding) (take (i + 1) places)) ≡ (first ++ before) ++ place_for f ∷ [] = ap (λ (xs : List LibPlace). first ++ xs) more ∙ sym (append_assoc first before (place_for f ∷ [])) in
      subst (λ (xs : List LibPlace). AreInOrder xs new) (sym split) (step_order (first ++ before) es order (place_for f) new added)

  pub functions_same : (get_or places i d).binding.function ≡ None → AreInOrder (first ++ bound_places (map (λ p. p.binding) (take (i + 1) places))) es
  functions_same is =
      let before = bound_places (map (λ p. p.binding) (take i places)) in
      let more : bound_places (map (λ p. p.binding) (take (i + 1) places)) ≡ before = bound_places_more places i d lt ∙ (ap (λ (o : Option Function). before ++ cons_option (option_map place_for o) []) is ∙ append-nil before) in
      subst (λ (xs : List LibPlace). AreInOrder (first ++ xs) es) (sym more) order

pub in_order_none : (es : List LibPlace) → AllPairs IsBelow es → AreInOrder (es ++ []) es
in_order_none es rising = subst (λ (xs : List LibPlace). AreInOrder xs es) (sym (append-nil es)) (record { rising = rising; same = λ q. (λ h. h, λ h. h) })

-- ---- where a binary search ends

module _ (a : ℕ) (ps : List LibPlace) (rising : AllPairs IsBelow ps) where
  comparisons_rise : IsNonDecreasingBy (λ p. ordering_index (nat_cmp p.at a)) ps
  comparisons_rise i j d le lt =
      let same : (i ≡ j) → (get_or ps i d).at ≡ (get_or ps j d).at = λ e. ap (λ n. (get_or ps n d).at) e in
      grind (arith, nat_tests, same, rising i j d)

  module _ (i : ℕ) where
    found_at : IsBinarySearchResult (λ p. nat_cmp p.at a) ps (Ok i) → (d : LibPlace) → (get_or ps i d).at ≡ a
    found_at equal d = ranked (get_or ps i d).at a _ (sym (equal d))

    module _ (parted : IsBinarySearchResult (λ p. nat_cmp p.at a) ps (Err i)) where
      before : (k : ℕ) (d : LibPlace) → k < i → (get_or ps k d).at < a
      before k d lt = ranked (get_or ps k d).at a _ (sym ((parted comparisons_rise).0 k d (omega arith) lt))

      after : (k : ℕ) (d : LibPlace) → i ≤ k → k < length ps → a < (get_or ps k d).at
      after k d le lt = ranked (get_or ps k d).at a _ (sym ((parted comparisons_rise).1 k d le lt))

module _ (es : List LibPlace) (p : LibPlace) (rising : AllPairs IsBelow es) where
  -- the place is there
  pub there_already : (i : ℕ) → i < length es → IsBinarySearchResult (λ q. nat_cmp q.at p.at) es (Ok i) → ((d : LibPlace) → (get_or es i d).at ≡ p.at → (get_or es i d).function ≡ p.function) → AreInOrder (es ++ p ∷ []) es
  there_already i lt equal own =
      let at = found_at p.at es rising i equal p in
      let same : get_or es i p ≡ p = same_place (get_or es i p) p at (own p at) in
      let there : Contains es p = subst (Contains es) same (Contains-get_or es i p lt) in
      record {
        rising = rising;
        same = λ q. (λ h. Contains-append_left es (p ∷ []) q h, λ h. ⊎_elim (λ old. old) (λ e. subst (Contains es) e there) (Contains-push_cases es p q h));
      }

  module _ (i : ℕ) (le : i ≤ length es) (parted : IsBinarySearchResult (λ q. nat_cmp q.at p.at) es (Err i)) where
    below : (k : ℕ) (d : LibPlace) → k < i → (get_or (insert es i p) k d).at ≡ (get_or es k d).at
    below k d lt = ap (λ (q : LibPlace). q.at) (get_or-insert_below es i p d k lt le)

    here : (k : ℕ) (d : LibPlace) → k ≡ i → (get_or (insert es i p) k d).at ≡ p.at
    here k d is = ap (λ (q : LibPlace). q.at) (ap (λ (n : ℕ). get_or (insert es i p) n d) is ∙ get_or-insert_at es i p d le)

    above : (k : ℕ) (d : LibPlace) → i < k → (get_or (insert es i p) k d).at ≡ (get_or es (k - 1) d).at
    above k d lt =
        let e : k ≡ k - 1 + 1 = omega arith in
        ap (λ (q : LibPlace). q.at) (ap (λ (n : ℕ). get_or (insert es i p) n d) e ∙ get_or-insert_above es i p d (k - 1) (omega arith) le)

    insert_rises : AllPairs IsBelow (insert es i p)
    insert_rises j k d less lt =
        let size = length-insert es i p le in
        elim (cases_lt k i) [
          | inl k_below ↦ omega (arith, below j d (omega arith), below k d k_below, rising j k d less (omega arith))
          | inr rest ↦ elim (cases_eq k i) [
            | inl k_here ↦ omega (arith, below j d (omega arith), here k d k_here, before p.at es rising i parted j d (omega arith))
            | inr k_not ↦
                let k_above : i < k = omega arith in
                elim (cases_lt j i) [
                  | inl j_below ↦ omega (arith, below j d j_below, above k d k_above, rising j (k - 1) d (omega arith) (omega arith))
                  | inr rest' ↦ elim (cases_eq j i) [
                    | inl j_here ↦ omega (arith, here j d j_here, above k d k_above, after p.at es rising i parted (k - 1) d (omega arith) (omega arith))
                    | inr j_not ↦ omega (arith, above j d (omega arith), above k d k_above, rising (j - 1) (k - 1) d (omega arith) (omega arith))
                  ]
                ]
          ]
        ]

    -- the place is put between those below and those above
    pub inserted : AreInOrder (es ++ p ∷ []) (insert es i p)
    inserted = record {
      rising = insert_rises;
      same = λ q. (
        (λ h. ⊎_elim (λ e. subst (Contains (es ++ p ∷ [])) e (Contains-push es p)) (λ old. Contains-append_left es (p ∷ []) q old) (cons_cases q (Contains-permutation (insert es i p) (p ∷ es) q (IsPermutation-sym (p ∷ es) (insert es i p) (IsPermutation-insert es i p)) h))),
        (λ h. Contains-permutation (p ∷ es) (insert es i p) q (IsPermutation-insert es i p) (⊎_elim (λ old. Contains-append_right (p ∷ []) es q old) (λ e. subst (Contains (p ∷ es)) e (Contains-append_left (p ∷ []) es p (Contains-push [] p))) (Contains-push_cases es p q h))),
      );
    }
      where
        cons_cases : (q : LibPlace) → Contains (p ∷ es) q → (p ≡ q) ⊎ Contains es q
        cons_cases q h = ⊎_elim (λ one. ⊎_elim (λ none. absurd (omega (arith, none.1))) (λ e. inl e) (Contains-push_cases [] p q one)) (λ old. inr old) (Contains-append_cases (p ∷ []) es q h)
