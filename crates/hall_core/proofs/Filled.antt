-- The hall before the first step.
use Rattle.std.proofs.Common.{◌≡◌, ℕ, ◌+◌, ◌≤◌, ◌^◌, true, false, cond, ◌==◌, ◌||◌, List, [], ◌∷◌, ◌++◌, length, replicate, Option, Some, None, refl, sym, ap, ◌∙◌, subst, arith, inl, inr}
use Rattle.std.specs.Prelude.{is_some}
use Rattle.std.specs.FinMap as finmap
use Rattle.std.specs.FinMap.{FinMap, get-empty, get-insert, len-empty, len-insert}
use Rattle.std.specs.Ordering.{nat_cmp}
use Rattle.std.specs.Cmp.{nat_cmp_total, unsigned_tied}
use Rattle.std.proofs.lemmas.Bool.{cases_lt}
use Rattle.std.proofs.lemmas.List.{get_or-replicate, get_or_past, length-map, length-replicate, map-append, append_assoc}
use Rattle.std.proofs.lemmas.Option.{none-some}
use Rattle.elf_image.specs.Layout.{ImageData}
use Rattle.guest_map.specs.Layout.{pieces}
use Rattle.lib_table.specs.declared.ask.Ask.{Ask}
use Rattle.lib_table.specs.Library as library
use Rattle.lib_table.specs.Library.{LibraryData}
use Rattle.journal_pack.specs.declared.entry.Entry.{Entry}
use Rattle.tso_memory.specs.Tso as tso
use Rattle.tso_memory.specs.Tso.{TsoState}
use Rattle.basic_blocks.specs.Reach.{is_among}
use Rattle.machine_model.specs.CaseData.{CaseData}
use Rattle.machine_model.specs.State.{start}
use Rattle.machine_model.specs.Gated.{Leads, begin}
use Rattle.machine_model.specs.Comes.{both_of, walk_on}
use Rattle.machine_model.specs.Own.{HasNoRepeats}
use Rattle.hall_core.specs.Shared.{SharedState}
use Rattle.hall_core.specs.Hall.{AreFilled, AreGrown, FitTheirPlaces, HallData, IsHall, Placed, block_in, mark_in, places_of}

after_none : (xs ys : List ℕ) → HasNoRepeats (xs ++ ys) → HasNoRepeats ys
after_none [] ys h = h
after_none (x ∷ xs) ys h = after_none xs ys h.1

no_mark : (n s : ℕ) (ask : Ask) → mark_in (replicate n None) s ≡ Some ask → ⊥
no_mark n s ask h =
    elim (cases_lt s n) [
      | inl lt ↦ none-some _ (sym (get_or-replicate n s None None lt) ∙ h)
      | inr le ↦ none-some _ (sym (get_or_past (replicate n None) s None (subst (λ x. x ≤ s) (sym (length-replicate n None)) le)) ∙ h)
    ]

module _ {B : Type 0} where
  -- a block stands at each of the places and at no other
  has_block : (ps : List (Placed B)) (a : ℕ) → is_some (block_in ps a) ≡ is_among (places_of ps) a
  has_block [] a = refl
  has_block (p ∷ ps) a = elim (p.0 == a) as (λ b. is_some (cond b (Some p.1.value) (block_in ps a)) ≡ (b || is_among (places_of ps) a)) [ true ↦ refl | false ↦ has_block ps a ]

  none_there : (ps : List (Placed B)) (a : ℕ) → is_among (places_of ps) a ≡ false → block_in ps a ≡ None
  none_there ps a h = by (block_in ps a) (has_block ps a ∙ h)
    where
      by : (o : Option B) → is_some o ≡ false → o ≡ None
      by None e = refl
      by (Some b) e = absurd (cc)

  pub filled_none : AreFilled {B = B} [] finmap.empty
  filled_none = record { each = λ a. get-empty {X = B} nat_cmp a; count = len-empty nat_cmp B }

  -- a block that was taken from the end stands before those that were taken earlier
  pub popped : (xs ys rest whole : List (Placed B)) (p : Placed B) → ys ≡ xs ++ p ∷ [] → ys ++ rest ≡ whole → xs ++ p ∷ rest ≡ whole
  popped xs ys rest whole p e w = sym (append_assoc xs (p ∷ []) rest) ∙ subst (λ z. z ++ rest ≡ whole) e w

  pub new_place : (whole xs : List (Placed B)) (p : Placed B) (ps : List (Placed B)) (blocks : FinMap nat_cmp B) → HasNoRepeats (places_of whole) → xs ++ p ∷ ps ≡ whole → AreFilled ps blocks → finmap.get blocks p.0 ≡ None
  new_place whole xs p ps blocks apart is filled =
      let h : HasNoRepeats (places_of (xs ++ p ∷ ps)) = subst (λ z. HasNoRepeats (places_of z)) (sym is) apart in
      filled.each p.0 ∙ none_there ps p.0 (after_none (places_of xs) (places_of (p ∷ ps)) (subst HasNoRepeats (map-append (λ (z : Placed B). z.0) xs (p ∷ ps)) h)).0

  pub filled_more : (p : Placed B) (ps : List (Placed B)) (blocks : FinMap nat_cmp B) → AreFilled ps blocks → finmap.get blocks p.0 ≡ None → AreFilled (p ∷ ps) (finmap.insert blocks p.0 p.1.value)
  filled_more p ps blocks filled new = record {
    each = λ a. get-insert nat_cmp_total blocks p.0 p.1.value a ∙ ap (λ t. cond t (Some p.1.value) (finmap.get blocks a)) (unsigned_tied a p.0 ∙ turned a p.0) ∙ ap (λ o. cond (p.0 == a) (Some p.1.value) o) (filled.each a);
    count = len-insert nat_cmp_total blocks p.0 p.1.value ∙ ap (λ o. cond (is_some o) (finmap.len blocks) (finmap.len blocks + 1)) new ∙ ap (λ n. n + 1) filled.count ∙ omega arith;
  }
    where
      turned : (x a : ℕ) → (x == a) ≡ (a == x)
      turned x a = grind arith

  grown_filled : (first : List ℕ) (ps : List (Placed B)) (blocks : FinMap nat_cmp B) → places_of ps ≡ first → AreFilled ps blocks → AreGrown first blocks
  grown_filled first ps blocks same filled = record {
    each = λ a. ap is_some (filled.each a) ∙ has_block ps a ∙ ap (λ z. is_among z a) same;
    count = filled.count ∙ sym (length-map ps (λ (z : Placed B). z.0)) ∙ ap length same;
  }

  pub hall_at_start : (fits : ImageData → ℕ → B → Type 0) (c : CaseData) (ps : List (Placed B)) (blocks : FinMap nat_cmp B) (spare : ℕ) → c.limit ≤ 2 ^ 27 → places_of ps ≡ c.first → FitTheirPlaces fits c.image ps → AreFilled ps blocks → IsHall fits (record { case = c; journal = []; blocks = blocks; marks = replicate 64 None; spare = spare }) (record { tso = tso.start_of (pieces c.image c.args); library = library.start_of c.input; steps = 0; ending = None })
  unfolding both_of walk_on begin start Leads
  hall_at_start fits c ps blocks spare limit same right filled = record {
    leads = refl;
    shared = refl;
    grown = grown_filled c.first ps blocks same filled;
    right = λ a b e. right a b (sym (filled.each a) ∙ e);
    marks = λ s ask e. absurd (no_mark 64 s ask e);
    marked = length-replicate {A = Option Ask} 64 None;
    limit = limit;
  }

  -- what is laid out, made and filled is a hall
  pub hall_from : (fits : ImageData → ℕ → B → Type 0) (c : CaseData) (ps : List (Placed B)) (blocks : FinMap nat_cmp B) (journal : List Entry) (marks : List (Option Ask)) (spare : ℕ) (s : SharedState) (memory : TsoState) (table : LibraryData) → c.limit ≤ 2 ^ 27 → places_of ps ≡ c.first → FitTheirPlaces fits c.image ps → AreFilled ps blocks → journal ≡ [] → marks ≡ replicate 64 None → s ≡ record { tso = memory; library = table; steps = 0; ending = None } → memory ≡ tso.start_of (pieces c.image c.args) → table ≡ library.start_of c.input → IsHall fits (record { case = c; journal = journal; blocks = blocks; marks = marks; spare = spare }) s
  hall_from fits c ps blocks journal marks spare s memory table limit same right filled none unmarked is laid begun =
      let h : HallData B = record { case = c; journal = []; blocks = blocks; marks = replicate 64 None; spare = spare } in
      let a = hall_at_start fits c ps blocks spare limit same right filled in
      let b = subst (λ (x : LibraryData). IsHall fits h (record { tso = tso.start_of (pieces c.image c.args); library = x; steps = 0; ending = None })) (sym begun) a in
      let d = subst (λ (x : TsoState). IsHall fits h (record { tso = x; library = table; steps = 0; ending = None })) (sym laid) b in
      let e = subst (λ (x : SharedState). IsHall fits h x) (sym is) d in
      let f = subst (λ (x : List (Option Ask)). IsHall fits (record h { marks = x }) s) (sym unmarked) e in
      subst (λ (x : List Entry). IsHall fits (record { case = c; journal = x; blocks = blocks; marks = marks; spare = spare }) s) (sym none) f
