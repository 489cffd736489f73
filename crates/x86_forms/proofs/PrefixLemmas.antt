-- What a row takes of prefixes are prefix bytes, and tell which rows they choose.
use Rattle.std.proofs.Common.{◌≡◌, ℕ, ◌+◌, ◌<◌, ◌/◌, Bool, true, false, cond, ◌||◌, List, [], ◌∷◌, ◌++◌, length, inl, inr, refl, sym, subst, arith}
use Rattle.std.specs.Prelude.{nat_eq, nat_le}
use Rattle.std.specs.List.{list_all}
use Rattle.std.proofs.lemmas.Bool.{and_parts, or_cases, or_from, or_left, or_right, both_ways, eqb-true, ne_eqb, false_from_ne_true, cases_Bool}
use Rattle.std.proofs.lemmas.List.Sums.{sum_by-cons}
use Rattle.x86_forms.specs.declared.rows.Prefixes.{Prefixes}
use Rattle.x86_forms.specs.declared.rows.Prefixes.TheVariants.{Sized, Bare, Locked, Mixed, Track, Repeated}
use Rattle.x86_forms.specs.Operands.{is_rex}
use Rattle.x86_forms.specs.Spelling.{count, has, allows, mark_of, is_rex_part, escape_bytes}
use Rattle.x86_forms.specs.Reading.{is_prefix, prefix_count, rex_len, escape_len, mark_in}
use Rattle.x86_forms.proofs.Cuts.{weaker}

single : (k : ℕ) → is_prefix k ≡ true → (b : ℕ) → nat_eq b k ≡ true → is_prefix b ≡ true
single k h b e = let x : b ≡ k = eqb-true b k e in subst (λ n. is_prefix n ≡ true) (sym x) h

double : (k l : ℕ) → is_prefix k ≡ true → is_prefix l ≡ true → (b : ℕ) → (nat_eq b k || nat_eq b l) ≡ true → is_prefix b ≡ true
double k l h i b e = elim (or_cases _ _ e) [ inl x ↦ single k h b x | inr x ↦ single l i b x ]

pub are_prefixes : (pr : Prefixes) (ps : List ℕ) → allows pr ps ≡ true → list_all is_prefix ps ≡ true
unfolding allows
are_prefixes Sized ps e = weaker _ is_prefix (single 0x66 refl) ps e
are_prefixes Bare [] e = refl
are_prefixes Bare (b ∷ bs) e = absurd (let x = eqb-true _ _ e in omega (arith, x))
are_prefixes Locked ps e = weaker _ is_prefix (double 0x66 0xF0 refl refl) ps (and_parts _ _ e).0
are_prefixes Mixed ps e = weaker _ is_prefix (double 0x66 0x2E refl refl) ps e
are_prefixes Track ps e = weaker _ is_prefix (single 0x3E refl) ps (and_parts _ _ e).0
are_prefixes Repeated ps e = weaker _ is_prefix (single 0xF3 refl) ps (and_parts _ _ e).0

-- ---- which mark they have

has_none : (x : ℕ) (p : ℕ → Bool) → p x ≡ false → (ps : List ℕ) → list_all p ps ≡ true → has x ps ≡ false
has_none x p h [] e = refl
has_none x p h (b ∷ bs) e =
    let a = and_parts (p b) (list_all p bs) e in
    or_from _ _ (false_from_ne_true (nat_eq b x) (λ t. both_ways (p x) h (subst (λ n. p n ≡ true) (eqb-true b x t) a.0))) (has_none x p h bs a.1)

has_some : (x : ℕ) (ps : List ℕ) → 0 < count x ps → has x ps ≡ true
has_some x [] h = absurd (omega (arith, h))
has_some x (b ∷ bs) h =
    let one : ℕ → ℕ = λ y. cond (nat_eq y x) 1 0 in
    let s : count x (b ∷ bs) ≡ one b + count x bs = sum_by-cons {X = ℕ} one b bs in
    elim (cases_Bool (nat_eq b x)) [
      | inl t ↦ or_left _ _ t
      | inr f ↦ (let z : one b ≡ 0 = rw f refl in or_right _ _ (has_some x bs (omega (arith, s, z, h))))
    ]

pub mark_is : (pr : Prefixes) (ps : List ℕ) → allows pr ps ≡ true → mark_in ps ≡ mark_of pr
unfolding allows mark_in
mark_is Sized ps e = rw (has_none 0xF0 _ refl ps e, has_none 0xF3 _ refl ps e) refl
mark_is Bare [] e = refl
mark_is Bare (b ∷ bs) e = absurd (let x = eqb-true _ _ e in omega (arith, x))
mark_is Locked ps e =
    let a = and_parts (list_all (λ b. nat_eq b 0x66 || nat_eq b 0xF0) ps) (nat_eq (count 0xF0 ps) 1) e in
    let one : count 0xF0 ps ≡ 1 = eqb-true _ _ a.1 in
    let f : has 0xF0 ps ≡ true = has_some 0xF0 ps (omega (arith, one)) in
    rw f refl
mark_is Mixed ps e = rw (has_none 0xF0 _ refl ps e, has_none 0xF3 _ refl ps e) refl
mark_is Track ps e =
    let a = and_parts (list_all (λ b. nat_eq b 0x3E) ps) (nat_le (length ps) 1) e in
    rw (has_none 0xF0 _ refl ps a.0, has_none 0xF3 _ refl ps a.0) refl
mark_is Repeated [] e = absurd (both_ways false refl e)
mark_is Repeated (b ∷ bs) e =
    let a = and_parts (list_all (λ x. nat_eq x 0xF3) (b ∷ bs)) (nat_eq (length (b ∷ bs)) 1) e in
    let h = and_parts (nat_eq b 0xF3) (list_all (λ x. nat_eq x 0xF3) bs) a.0 in
    let f : has 0xF3 (b ∷ bs) ≡ true = or_left _ _ h.0 in
    rw (has_none 0xF0 (λ x. nat_eq x 0xF3) refl (b ∷ bs) a.0, f) refl

-- ---- reading them again

pub counted_again : (ps t : List ℕ) → list_all is_prefix ps ≡ true → prefix_count t ≡ 0 → length ps ≡ prefix_count (ps ++ t)
unfolding prefix_count
counted_again [] t e z = sym z
counted_again (b ∷ bs) t e z =
    let a = and_parts (is_prefix b) (list_all is_prefix bs) e in
    let i : length bs ≡ prefix_count (bs ++ t) = counted_again bs t a.1 z in
    rw a.0 (omega (arith, i))

pub no_prefix : (b : ℕ) (t : List ℕ) → is_prefix b ≡ false → prefix_count (b ∷ t) ≡ 0
unfolding prefix_count
no_prefix b t e = rw e refl

rex_no_prefix : (x : ℕ) → is_rex x ≡ true → is_prefix x ≡ false
rex_no_prefix x e =
    let q : x / 16 ≡ 4 = eqb-true _ _ e in
    or_from _ _ (ne_eqb x 0x66 (λ h. omega (arith, q, h))) (or_from _ _ (ne_eqb x 0xF0 (λ h. omega (arith, q, h))) (or_from _ _ (ne_eqb x 0x2E (λ h. omega (arith, q, h))) (or_from _ _ (ne_eqb x 0x3E (λ h. omega (arith, q, h))) (ne_eqb x 0xF3 (λ h. omega (arith, q, h))))))

pub rex_again : (rex t : List ℕ) → is_rex_part rex ≡ true → rex_len t ≡ 0 → length rex ≡ rex_len (rex ++ t)
unfolding rex_len
rex_again [] t e z = sym z
rex_again (x ∷ []) t e z = rw e refl
rex_again (x ∷ y ∷ more) t e z = absurd (both_ways false refl e)

pub rex_opens : (rex t : List ℕ) → is_rex_part rex ≡ true → prefix_count t ≡ 0 → prefix_count (rex ++ t) ≡ 0
rex_opens [] t e z = z
rex_opens (x ∷ []) t e z = no_prefix x t (rex_no_prefix x e)
rex_opens (x ∷ y ∷ more) t e z = absurd (both_ways false refl e)

-- ---- what was read

pub rex_taken : (rex t : List ℕ) → length rex ≡ rex_len (rex ++ t) → is_rex_part rex ≡ true
unfolding rex_len
rex_taken [] t e = refl
rex_taken (x ∷ []) t e =
    elim (cases_Bool (is_rex x)) [
      | inl h ↦ h
      | inr h ↦ (let z : 1 ≡ 0 = rw h at e in absurd (omega (arith, z)))
    ]
rex_taken (x ∷ y ∷ more) t e =
    elim (cases_Bool (is_rex x)) [
      | inl h ↦ (let z : length (x ∷ y ∷ more) ≡ 1 = rw h at e in absurd (omega (arith, z)))
      | inr h ↦ (let z : length (x ∷ y ∷ more) ≡ 0 = rw h at e in absurd (omega (arith, z)))
    ]

pub escape_taken : (es t : List ℕ) → length es ≡ escape_len (es ++ t) → es ≡ escape_bytes (nat_eq (length es) 1)
unfolding escape_len
escape_taken [] t e = refl
escape_taken (x ∷ []) t e =
    elim (cases_Bool (nat_eq x 0x0F)) [
      | inl h ↦ (let z : x ≡ 0x0F = eqb-true _ _ h in rw z refl)
      | inr h ↦ (let z : 1 ≡ 0 = rw h at e in absurd (omega (arith, z)))
    ]
escape_taken (x ∷ y ∷ more) t e =
    elim (cases_Bool (nat_eq x 0x0F)) [
      | inl h ↦ (let z : length (x ∷ y ∷ more) ≡ 1 = rw h at e in absurd (omega (arith, z)))
      | inr h ↦ (let z : length (x ∷ y ∷ more) ≡ 0 = rw h at e in absurd (omega (arith, z)))
    ]
