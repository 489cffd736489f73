-- Each kind of step on the lock's table keeps the rule.
use Rattle.std.proofs.Common.{rules, ◌≡◌, ◌≢◌, ℕ, zero, suc, ◌+◌, ◌*◌, ◌%◌, ◌^◌, ◌<◌, ◌≤◌, ◌⊎◌, eqb, Bool, true, false, List, [], ◌∷◌, ◌++◌, map, length, get_or, set, sym, refl, ap, ◌∙◌, subst, inl, inr, ⊎_elim, arith, length-set, get_or-set_same, get_or-set_other, eq-eqb, ne_eqb, Option, Some, None, is_some}
use mathlib.Core.Logic.{dite}
use mathlib.Core.Path.{Path}
use mathlib.Core.Option.{some, none, some-injective, some-ne-none}
use native.Mathlib.Decide.{ℕ_discrete}
use lib.ListN.{get_elem?}
use lib.Seq.{set-get_or}
use prog.Atomic.{either}
use Rattle.atomic_table.specs.Table.{State, Me, Step, step, Act, keeps, stepped, Allows, Splits, Joins, Final, Seen, rest}
use Rattle.atomic_table.specs.Table as table
use Rattle.atomic_table.proofs.Lists.{at_set, set_here, set_else, set_again, at_longer, at_snoc}
use Rattle.turn_lock.specs.declared.view.View.{View}
use Rattle.turn_lock.specs.Journal.{Adds}
use Rattle.turn_lock.specs.Rule.{fresh, idle, holding, spent, unnumbered, gathered, IsIdle, IsHolding, HasNumber, Apart, Extends, Fits, EachFits, Ruled, Won, number_of, seen_of, case_of, takes, gives, draws, numbered_by}
use Rattle.turn_lock.proofs.Entries.{own-adds, starts-trans}
use Rattle.turn_lock.proofs.Lists.{inside, one_at, at_append}

module _ {T : Type 0} where
  -- a seat that stands for no more numbers than before leaves the numbers apart
  pub apart_set : (views : List (View T)) (id : ℕ) (v w : View T) → get_elem? views id ≡ some v → ((n : ℕ) → HasNumber w n → HasNumber v n) → Apart views → Apart (set views id w)
  apart_set views id v w at less apart i j n a b p q x y = ⊎_elim
      (λ (s : (i ≡ id) × (w ≡ a)). ⊎_elim
      (λ (t : (j ≡ id) × (w ≡ b)). s.0 ∙ sym t.0)
      (λ (t : (j ≢ id) × (get_elem? views j ≡ some b)). s.0 ∙ apart id j n v b at t.1 (less n (subst (λ (z : View T). HasNumber z n) (sym s.1) x)) y)
      (at_set views id j w b q))
      (λ (s : (i ≢ id) × (get_elem? views i ≡ some a)). ⊎_elim
      (λ (t : (j ≡ id) × (w ≡ b)). apart i id n a v s.1 at x (less n (subst (λ (z : View T). HasNumber z n) (sym t.1) y)) ∙ sym t.0)
      (λ (t : (j ≢ id) × (get_elem? views j ≡ some b)). apart i j n a b s.1 t.1 x y)
      (at_set views id j w b q))
      (at_set views id i w a p)

  -- what holds of the seat that moved, and of each other seat as it was, holds of all after
  pub each_set : (P : ℕ → View T → Type 0) (views : List (View T)) (id : ℕ) (w : View T) → P id w → ((j : ℕ) (v : View T) → j ≢ id → get_elem? views j ≡ some v → P j v)
      → (j : ℕ) (v : View T) → get_elem? (set views id w) j ≡ some v → P j v
  each_set P views id w mine others j v e = ⊎_elim
      (λ (t : (j ≡ id) × (w ≡ v)). subst (λ (x : ℕ × View T). P x.0 x.1) (λ i. (sym t.0 i, t.1 i)) mine)
      (λ (t : (j ≢ id) × (get_elem? views j ≡ some v)). others j v t.0 t.1)
      (at_set views id j w v e)

  idle_with : (fresh : Option T) (passes : List (ℕ × T)) (holds : Bool) (cs : List (ℕ × Option T)) → length cs ≡ 0 → is_some fresh ≡ false → length passes ≡ 1 → holds ≡ false
      → (n : ℕ) × (x : T) × Path (Me (Option T) (View T)) (record { fresh = fresh; passes = passes; holds = holds }, cs) (idle n x, [])
  idle_with (Some y) ps h cs a b c d = absurd (cc)
  idle_with None [] h cs a b c d = absurd (omega arith)
  idle_with None (p ∷ q ∷ ps) h cs a b c d = absurd (omega arith)
  idle_with None (p ∷ []) true cs a b c d = absurd (cc)
  idle_with None (p ∷ []) false (x ∷ xs) a b c d = absurd (omega arith)
  idle_with None (p ∷ []) false [] a b c d = (p.0, p.1, refl)

  -- a seat with one number and nothing else, as plain data
  pub idle_of : (me : Me (Option T) (View T)) → IsIdle me → (n : ℕ) × (x : T) × (me ≡ (idle n x, []))
  idle_of me h = idle_with me.0.fresh me.0.passes me.0.holds me.1 h.0 h.1 h.2 h.3

  holding_with : (fresh : Option T) (passes : List (ℕ × T)) (holds : Bool) (cs : List (ℕ × Option T)) → map (λ (x : ℕ × Option T). x.0) cs ≡ 0 ∷ [] → map (λ (x : ℕ × Option T). is_some x.1) cs ≡ false ∷ []
      → is_some fresh ≡ false → length passes ≡ 1 → holds ≡ true → (n : ℕ) × (y : T) × Path (Me (Option T) (View T)) (record { fresh = fresh; passes = passes; holds = holds }, cs) (holding n y, (0, None) ∷ [])
  holding_with (Some y) ps h cs a b c d e = absurd (cc)
  holding_with None [] h cs a b c d e = absurd (omega arith)
  holding_with None (p ∷ q ∷ ps) h cs a b c d e = absurd (omega arith)
  holding_with None (p ∷ []) false cs a b c d e = absurd (cc)
  holding_with None (p ∷ []) true [] a b c d e = absurd (cc)
  holding_with None (p ∷ []) true (x ∷ y ∷ xs) a b c d e = absurd (cc)
  holding_with None (p ∷ []) true ((k, Some y) ∷ []) a b c d e = absurd (cc)
  holding_with None (p ∷ []) true ((k, None) ∷ []) a b c d e = let z : k ≡ 0 = cc in (p.0, p.1, λ i. (holding p.0 p.1, (z i, None) ∷ []))

  -- a seat that has the turn, as plain data
  pub holding_of : (me : Me (Option T) (View T)) → IsHolding me → (n : ℕ) × (y : T) × (me ≡ (holding n y, (0, None) ∷ []))
  holding_of me h = holding_with me.0.fresh me.0.passes me.0.holds me.1 h.0 h.1 h.2 h.3 h.4

  -- the slot that was taken last
  pub front : (me : Me (Option T) (View T)) (v : View T) (y : T) → me ≡ (v, (0, Some y) ∷ []) → me.1 ≡ (0, Some y) ∷ rest me.1
  front me v y e = subst (λ (z : Me (Option T) (View T)). z.1 ≡ (0, Some y) ∷ rest z.1) (sym e) refl

  -- a seat with one number has no other
  pub number_is : (n m : ℕ) (x : T) (i : ℕ) (p : ℕ × T) → get_elem? ((n, x) ∷ []) i ≡ some p → p.0 ≡ m → n ≡ m
  number_is n m x zero p e is = ap (λ (z : ℕ × T). z.0) (some-injective (n, x) p e) ∙ is
  number_is n m x (suc i) p e is = absurd (some-ne-none p (sym e))

  -- a seat that stands for nothing has no number
  none_of : {Z : Type 0} (v : View T) (n : ℕ) → v.passes ≡ [] → HasNumber v n → Z
  none_of v n empty h = absurd (some-ne-none h.1 (sym (subst (λ (z : List (ℕ × T)). get_elem? z h.0 ≡ some h.1) empty h.2)))

  same_number : (n : ℕ) (x y : T) (v w : View T) → v.passes ≡ (n, x) ∷ [] → w.passes ≡ (n, y) ∷ [] → (m : ℕ) → HasNumber w m → HasNumber v m
  same_number n x y v w a b m h = (
    0,
    (n, x),
    subst (λ (z : List (ℕ × T)). get_elem? z 0 ≡ some (n, x)) (sym a) refl,
    number_is n m y h.0 h.1 (subst (λ (z : List (ℕ × T)). get_elem? z h.0 ≡ some h.1) b h.2) h.3,
  )

  -- of two seats, one with the turn and one without it
  free : (views : List (View T)) (v u : View T) (i j : ℕ) → get_elem? views i ≡ some v → get_elem? views j ≡ some u → v.holds ≡ false → u.holds ≡ true → j ≡ i → ⊥
  free views v u i j at there idles has e = let same : v ≡ u = one_at views i v u at (subst (λ (k : ℕ). get_elem? views k ≡ some u) e there) in
      let holds : v.holds ≡ u.holds = ap (λ (z : View T). z.holds) same in absurd (cc)

  -- a seat that gets the number i, which no seat has, leaves the numbers apart
  apart_new : (views : List (View T)) (id i : ℕ) (x : T) (w : View T) → w.passes ≡ (i, x) ∷ [] → ((j : ℕ) (v : View T) (n : ℕ) → get_elem? views j ≡ some v → HasNumber v n → n < i)
      → Apart views → Apart (set views id w)
  apart_new views id i x w is below apart j k n a b p q has has' = ⊎_elim
      (λ (s : (j ≡ id) × (w ≡ a)). ⊎_elim
      (λ (t : (k ≡ id) × (w ≡ b)). s.0 ∙ sym t.0)
      (λ (t : (k ≢ id) × (get_elem? views k ≡ some b)). absurd (clash a n k b s.1 has t.1 has'))
      (at_set views id k w b q))
      (λ (s : (j ≢ id) × (get_elem? views j ≡ some a)). ⊎_elim
      (λ (t : (k ≡ id) × (w ≡ b)). absurd (clash b n j a t.1 has' s.1 has))
      (λ (t : (k ≢ id) × (get_elem? views k ≡ some b)). apart j k n a b s.1 t.1 has has')
      (at_set views id k w b q))
      (at_set views id j w a p)
    where
      clash : (c : View T) (m l : ℕ) (d : View T) → w ≡ c → HasNumber c m → get_elem? views l ≡ some d → HasNumber d m → ⊥
      clash c m l d same h there h' = let one : i ≡ m = number_is i m x h.0 h.1 (subst (λ (z : List (ℕ × T)). get_elem? z h.0 ≡ some h.1) (ap (λ (z : View T). z.passes) (sym same) ∙ is) h.2) h.3 in
          let less = below l d m there h' in omega arith

  -- where a number of the seat j was before another seat was taken in
  abbrev Was : List (View T) → ℕ → ℕ → ℕ → ℕ → Type 0
  Was views id other j n = (j ≢ other) × ((k : ℕ) × (u : View T) × (get_elem? views k ≡ some u) × HasNumber u n × ((k ≡ j) ⊎ ((j ≡ id) × (k ≡ other))))

  was : (views : List (View T)) (id other : ℕ) (v w : View T) → get_elem? views id ≡ some v → get_elem? views other ≡ some w → (j n : ℕ) (u : View T)
      → get_elem? (set (set views id (gathered v w)) other spent) j ≡ some u → HasNumber u n → Was views id other j n
  was views id other v w at there j n u e h = ⊎_elim
      (λ (s : (j ≡ other) × (spent ≡ u)). none_of {Z = Was views id other j n} spent n refl (subst (λ (z : View T). HasNumber z n) (sym s.1) h))
      (λ (s : (j ≢ other) × (get_elem? (set views id (gathered v w)) j ≡ some u)). (
        s.0,
        ⊎_elim
            (λ (t : (j ≡ id) × (gathered v w ≡ u)). let h' = subst (λ (z : View T). HasNumber z n) (sym t.1) h in ⊎_elim
            (λ (o : (k : ℕ) × (get_elem? w.passes k ≡ some h'.1)). (other, w, there, (o.0, h'.1, o.1, h'.3), inr (t.0, refl)))
            (λ (o : (k : ℕ) × (get_elem? v.passes k ≡ some h'.1)). (id, v, at, (o.0, h'.1, o.1, h'.3), inl (sym t.0)))
            (at_append w.passes v.passes h'.0 h'.1 h'.2))
            (λ (t : (j ≢ id) × (get_elem? views j ≡ some u)). (j, u, t.1, h, inl refl))
            (at_set views id j (gathered v w) u s.1),
      ))
      (at_set (set views id (gathered v w)) other j spent u e)

  -- a seat that takes in another leaves the numbers apart
  apart_joined : (views : List (View T)) (id other : ℕ) (v w : View T) → get_elem? views id ≡ some v → get_elem? views other ≡ some w → Apart views → Apart (set (set views id (gathered v w)) other spent)
  apart_joined views id other v w at there apart i j n a b p q x y = let f = was views id other v w at there i n a p x in let g = was views id other v w at there j n b q y in
      let e : f.1.0 ≡ g.1.0 = apart f.1.0 g.1.0 n f.1.1 g.1.1 f.1.2 g.1.2 f.1.3 g.1.3 in ⊎_elim
      (λ (l : f.1.0 ≡ i). ⊎_elim (λ (m : g.1.0 ≡ j). sym l ∙ (e ∙ m)) (λ (m : (j ≡ id) × (g.1.0 ≡ other)). absurd (f.0 (sym l ∙ (e ∙ m.1)))) g.1.4)
      (λ (l : (i ≡ id) × (f.1.0 ≡ other)). ⊎_elim (λ (m : g.1.0 ≡ j). absurd (g.0 (sym m ∙ (sym e ∙ l.1)))) (λ (m : (j ≡ id) × (g.1.0 ≡ other)). l.0 ∙ sym m.0) g.1.4)
      f.1.4

module _ {T C E : Type 0} (case : T → C) (entries : T → List E) (number : E → ℕ) where
  abbrev St : Type 0
  St = State (Option T) (View T)

  abbrev M : Type 0
  M = Me (Option T) (View T)

  abbrev Rule : ℕ → St → Type 0
  Rule limit s = Ruled case entries number limit s

  abbrev More : T → T → ℕ → Type 0
  More now x n = Extends case entries number now x n

  more_self : (x : T) (n : ℕ) → More x x n
  more_self x n = record { same_case = refl; begins = ([], search rules); same_own = refl }

  -- what a seat with one number knows
  fits_one : (now x : T) (drawn n : ℕ) (b : Bool) → n < drawn → More now x n → Fits case entries number now drawn (record { fresh = None; passes = (n, x) ∷ []; holds = b })
  fits_one now x drawn n b below more = record {
    unnumbered = λ y e. absurd (cc);
    numbered = at;
  }
    where
      at : (i : ℕ) (p : ℕ × T) → get_elem? ((n, x) ∷ []) i ≡ some p → (p.0 < drawn) × More now p.1 p.0
      at zero p e = subst (λ (z : ℕ × T). (z.0 < drawn) × More now z.1 z.0) (some-injective (n, x) p e) (below, more)
      at (suc i) p e = absurd (some-ne-none p (sym e))

  -- a step that changes nothing
  unmoved : (limit : ℕ) (s : St) → Rule limit s → (i id : ℕ) (me : M) → get_elem? s.views id ≡ some me.0 → Rule limit (stepped s i (get_or s.words i 0) id me.1 me.0 keeps)
  unmoved limit s r i id me at = subst (λ (z : List ℕ × List (View T)). Rule limit record { words = z.0; homes = s.homes; views = z.1 })
      (λ k. (sym (set-get_or s.words i 0) k, sym (set_again s.views id me.0 at) k)) r

  abbrev Steps : ℕ → St → ℕ → ℕ → ℕ → M → (M → Type 0) → Type 0
  Steps limit s i n id me then = (w : View T) × (a : Act (Option T)) × table.Valid s.homes me.1 a × Rule limit (stepped s i n id me.1 w a) × then (w, table.carried_after me.1 a)

  -- the turn is won where word 0 is even
  wins : (limit : ℕ) (s : St) → Rule limit s → (id n : ℕ) (x : T) (old : ℕ) → get_elem? s.views id ≡ some (idle n x) → old % 2 ≡ 0 → get_or s.words 0 0 ≡ old
      → Steps limit s 0 (old + 1) id (idle n x, []) (Won case entries number (idle n x, []))
  wins limit s r id n x old at even is = let two = r.two in let now : T = r.now in let w : View T = holding n now in let mine = (r.each id (idle n x) at).numbered 0 (n, x) refl in
      let word : get_or (set s.words 0 (old + 1)) 0 0 ≡ old + 1 = get_or-set_same s.words 0 (old + 1) 0 (omega arith) in
      let drawn : get_or (set s.words 0 (old + 1)) 1 0 ≡ get_or s.words 1 0 = get_or-set_other s.words 0 1 (old + 1) 0 (λ e. omega arith) in
      ⊎_elim
      (λ (home : (get_or s.words 0 0 ≡ 2 * length (entries now)) × (get_elem? s.homes 0 ≡ some (some (Some now)))). (
        w,
        table.takes 0 (Some now),
        home.1,
        record {
          now = now;
          holder = id;
          two = length-set s.words 0 (old + 1) ∙ two;
          one = length-set s.homes 0 none ∙ r.one;
          few = subst (λ (z : ℕ). z ≤ limit) (sym drawn) r.few;
          short = r.short;
          place = inr (omega arith, (w, set_here s.views id w (inside s.views id (idle n x) at), refl));
          each = subst (λ (z : ℕ). EachFits case entries number now z (set s.views id w)) (sym drawn)
              (each_set (λ j v. Fits case entries number now (get_or s.words 1 0) v) s.views id w (fits_one now now (get_or s.words 1 0) n true mine.0 (more_self now n)) (λ j v _. r.each j v));
          alone = each_set (λ j v. v.holds ≡ true → (j ≡ id) × (get_or (set s.words 0 (old + 1)) 0 0 ≡ 2 * length (entries now) + 1) × ((p : ℕ × T) × (get_elem? v.passes 0 ≡ some p) × (p.1 ≡ now)))
              s.views id w (λ _. (refl, omega arith, ((n, now), refl, refl))) (λ j v other there has. let a = r.alone j v there has in absurd (omega arith));
          apart = apart_set s.views id (idle n x) w at (same_number n x now (idle n x) w refl refl) r.apart;
        },
        (now, refl, record { same_case = ap Some (sym mine.1.same_case); begins = mine.1.begins; same_own = mine.1.same_own }, r.short),
      ))
      (λ (out : (get_or s.words 0 0 ≡ 2 * length (entries now) + 1) × ((v : View T) × (get_elem? s.views r.holder ≡ some v) × (v.holds ≡ true))). absurd (omega arith))
      r.place

  -- the compare-exchange of `take`
  pub taking : (limit slots id old : ℕ) (me : M) → IsIdle me → old % 2 ≡ 0
      → Allows (Rule limit) slots id me 0 (λ z. either (eqb z old) (old + 1) z) (takes case entries number (step slots 0 old (old + 1) none) me)
  taking limit slots id old me is_idle even s r _ at _ = let z : ℕ = get_or s.words 0 0 in let is = idle_of me is_idle in dite (ℕ_discrete z old)
      (λ hit. let at' = subst (λ (m : M). get_elem? s.views id ≡ some m.0) is.2 at in
      let won = wins limit s r id is.0 is.1 old at' even hit in
      let won' : Steps limit s 0 (old + 1) id me (Won case entries number me) = subst (λ (m : M). Steps limit s 0 (old + 1) id m (Won case entries number m)) (sym is.2) won in (
        won'.0,
        won'.1,
        won'.2,
        subst (λ b. Rule limit (stepped s 0 (either b (old + 1) z) id me.1 won'.0 won'.1)) (sym (eq-eqb z old hit)) won'.3,
        ((λ _. won'.4), λ not. absurd (not hit)),
      ))
      (λ miss. (
        me.0,
        keeps,
        tt,
        subst (λ b. Rule limit (stepped s 0 (either b (old + 1) z) id me.1 me.0 keeps)) (sym (ne_eqb z old miss)) (unmoved limit s r 0 id me at),
        ((λ hit. absurd (miss hit)), λ _. refl),
      ))

  -- what others know of the value stays where entries of one number come behind its journal
  grows : (now next x : T) (n m : ℕ) → More now x m → case next ≡ case now → Adds number n (entries now) (entries next) → m ≢ n → More next x m
  grows now next x n m more same adds other = record {
    same_case = same ∙ more.same_case;
    begins = starts-trans number (entries x) (entries now) (entries next) (adds.0, adds.1) more.begins;
    same_own = own-adds number n m (entries now) (entries next) other adds ∙ more.same_own;
  }

  -- the swap of `give`
  pub giving : (limit slots id next n : ℕ) (x y : T) → case x ≡ case y → Adds number n (entries y) (entries x) → length (entries x) < 2 ^ 62 → next ≡ 2 * length (entries x)
      → Allows (Rule limit) slots id (holding n y, (0, Some x) ∷ []) 0 (λ _. next) (gives (step slots 0 next 0 none) (holding n y, (0, Some x) ∷ []))
  giving limit slots id next n x y same adds few is s r _ at _ = let two = r.two in let one = r.one in let w : View T = idle n x in let drawn : ℕ = get_or s.words 1 0 in
      let here = r.alone id (holding n y) at refl in
      let taken : y ≡ r.now = ap (λ (p : ℕ × T). p.1) (some-injective (n, y) here.2.0 here.2.1) ∙ here.2.2 in
      let same' : case x ≡ case r.now = same ∙ ap case taken in
      let adds' : Adds number n (entries r.now) (entries x) = subst (λ (z : T). Adds number n (entries z) (entries x)) taken adds in
      let mine = (r.each id (holding n y) at).numbered 0 (n, y) refl in
      let still : get_or (set s.words 0 next) 1 0 ≡ drawn = get_or-set_other s.words 0 1 next 0 (λ e. omega arith) in (
        w,
        table.gives,
        tt,
        record {
          now = x;
          holder = id;
          two = length-set s.words 0 next ∙ two;
          one = length-set s.homes 0 (some (Some x)) ∙ one;
          few = subst (λ (z : ℕ). z ≤ limit) (sym still) r.few;
          short = few;
          place = inl (get_or-set_same s.words 0 next 0 (omega arith) ∙ is, set_here s.homes 0 (some (Some x)) (omega arith));
          each = subst (λ (z : ℕ). EachFits case entries number x z (set s.views id w)) (sym still)
              (each_set (λ j v. Fits case entries number x drawn v) s.views id w (fits_one x x drawn n false mine.0 (more_self x n))
              (λ j v other there. let f = r.each j v there in record {
                unnumbered = λ z e m above. grows r.now x z n m (f.unnumbered z e m above) same' adds' (λ h. let b = mine.0 in omega arith);
                numbered = λ i p e. let k = f.numbered i p e in
                    (k.0, grows r.now x p.1 n p.0 k.1 same' adds' (λ h. other (r.apart j id n v (holding n y) there at (i, p, e, h) (0, (n, y), refl, refl))));
              }));
          alone = each_set (λ j v. v.holds ≡ true → (j ≡ id) × (get_or (set s.words 0 next) 0 0 ≡ 2 * length (entries x) + 1) × ((p : ℕ × T) × (get_elem? v.passes 0 ≡ some p) × (p.1 ≡ x)))
              s.views id w (λ has. absurd (cc)) (λ j v other there has. let a = r.alone j v there has in absurd (other (a.0 ∙ sym here.0)));
          apart = apart_set s.views id (holding n y) w at (same_number n y x (holding n y) w refl refl) r.apart;
        },
        refl,
      )

  -- the same, for a seat that has the turn, after the value was put into its slot
  pub giving_held : (limit slots id next : ℕ) (x : T) (me m : M) → IsHolding me → m ≡ (me.0, (0, Some x) ∷ rest me.1) → case_of case me.0 ≡ Some (case x)
      → Adds number (number_of me.0) (seen_of entries me.0) (entries x) → length (entries x) < 2 ^ 62 → next ≡ 2 * length (entries x)
      → Allows (Rule limit) slots id m 0 (λ _. next) (gives (step slots 0 next 0 none) m)
  giving_held limit slots id next x me m out moved same adds few is = let h = holding_of me out in
      let moved' : m ≡ (holding h.0 h.1, (0, Some x) ∷ []) = moved ∙ ap (λ (z : M). (z.0, (0, Some x) ∷ rest z.1)) h.2 in
      let same' : Some (case h.1) ≡ Some (case x) = subst (λ (z : M). case_of case z.0 ≡ Some (case x)) h.2 same in
      let same'' : case x ≡ case h.1 = cc in
      let adds' : Adds number h.0 (entries h.1) (entries x) = subst (λ (z : M). Adds number (number_of z.0) (seen_of entries z.0) (entries x)) h.2 adds in
      subst (λ (z : M). Allows (Rule limit) slots id z 0 (λ _. next) (gives (step slots 0 next 0 none) z)) (sym moved') (giving limit slots id next h.0 x h.1 same'' adds' few is)

  -- a second seat with no number, in `make`
  pub splitting : (limit id : ℕ) (v : View T) → Splits (Rule limit) id v v (unnumbered v)
  splitting limit id v s r at = let w : View T = unnumbered v in let drawn : ℕ = get_or s.words 1 0 in
      subst (λ (z : List (View T)). Rule limit record { words = s.words; homes = s.homes; views = z ++ w ∷ [] }) (sym (set_again s.views id v at)) record {
        now = r.now;
        holder = r.holder;
        two = r.two;
        one = r.one;
        few = r.few;
        short = r.short;
        place = ⊎_elim (λ (a : (get_or s.words 0 0 ≡ 2 * length (entries r.now)) × (get_elem? s.homes 0 ≡ some (some (Some r.now)))). inl a)
            (λ (b : (get_or s.words 0 0 ≡ 2 * length (entries r.now) + 1) × ((u : View T) × (get_elem? s.views r.holder ≡ some u) × (u.holds ≡ true))).
            inr (b.0, (b.1.0, at_longer s.views (w ∷ []) r.holder b.1.0 b.1.1, b.1.2))) r.place;
        each = λ j u e. ⊎_elim (λ (old : get_elem? s.views j ≡ some u). r.each j u old)
            (λ (new : w ≡ u). subst (λ (z : View T). Fits case entries number r.now drawn z) new
            record { unnumbered = (r.each id v at).unnumbered; numbered = λ i p h. absurd (some-ne-none p (sym h)) })
            (at_snoc s.views w u j e);
        alone = λ j u e has. ⊎_elim (λ (old : get_elem? s.views j ≡ some u). r.alone j u old has)
            (λ (new : w ≡ u). let no : false ≡ u.holds = ap (λ (z : View T). z.holds) new in absurd (cc)) (at_snoc s.views w u j e);
        apart = λ i j n a b p q x y. ⊎_elim
            (λ (old : get_elem? s.views i ≡ some a). ⊎_elim (λ (old' : get_elem? s.views j ≡ some b). r.apart i j n a b old old' x y)
            (λ (new : w ≡ b). none_of w n refl (subst (λ (z : View T). HasNumber z n) (sym new) y)) (at_snoc s.views w b j q))
            (λ (new : w ≡ a). none_of w n refl (subst (λ (z : View T). HasNumber z n) (sym new) x)) (at_snoc s.views w a i p);
      }

  -- what a seat knows stays where one more number is given out
  fits_more : (now : T) (drawn : ℕ) (v : View T) → Fits case entries number now drawn v → Fits case entries number now (drawn + 1) v
  fits_more now drawn v f = record {
    unnumbered = λ x e n above. f.unnumbered x e n (omega arith);
    numbered = λ i p e. let k = f.numbered i p e in let below = k.0 in (omega arith, k.1);
  }

  -- the number is drawn where word 1 is as expected
  numbers : (limit : ℕ) (s : St) → Rule limit s → (id i : ℕ) (x : T) → get_elem? s.views id ≡ some (fresh x) → i < limit → get_or s.words 1 0 ≡ i
      → Steps limit s 1 (i + 1) id (fresh x, []) (λ m. m ≡ (idle i x, []))
  numbers limit s r id i x at below is = let two = r.two in let now : T = r.now in let w : View T = idle i x in let mine = r.each id (fresh x) at in
      let same : get_or (set s.words 1 (i + 1)) 0 0 ≡ get_or s.words 0 0 = get_or-set_other s.words 1 0 (i + 1) 0 (λ e. omega arith) in
      let drawn : get_or (set s.words 1 (i + 1)) 1 0 ≡ i + 1 = get_or-set_same s.words 1 (i + 1) 0 (omega arith) in
      let known : (j : ℕ) (v : View T) → get_elem? s.views j ≡ some v → Fits case entries number now i v = subst (λ (z : ℕ). EachFits case entries number now z s.views) is r.each in (
        w,
        keeps,
        tt,
        record {
          now = now;
          holder = r.holder;
          two = length-set s.words 1 (i + 1) ∙ two;
          one = r.one;
          few = omega arith;
          short = r.short;
          place = ⊎_elim (λ (a : (get_or s.words 0 0 ≡ 2 * length (entries now)) × (get_elem? s.homes 0 ≡ some (some (Some now)))). inl (same ∙ a.0, a.1))
              (λ (b : (get_or s.words 0 0 ≡ 2 * length (entries now) + 1) × ((u : View T) × (get_elem? s.views r.holder ≡ some u) × (u.holds ≡ true))). inr (
                same ∙ b.0,
                (
                  b.1.0,
                  set_else s.views id r.holder w (λ e. free s.views (fresh x) b.1.0 id r.holder at b.1.1 refl b.1.2 e) ∙ b.1.1,
                  b.1.2,
                ),
              )) r.place;
          each = subst (λ (z : ℕ). EachFits case entries number now z (set s.views id w)) (sym drawn)
              (each_set (λ j v. Fits case entries number now (i + 1) v) s.views id w
              (fits_one now x (i + 1) i false (omega arith) (mine.unnumbered x refl i (omega arith))) (λ j v _ there. fits_more now i v (known j v there)));
          alone = each_set (λ j v. v.holds ≡ true → (j ≡ r.holder) × (get_or (set s.words 1 (i + 1)) 0 0 ≡ 2 * length (entries now) + 1) × ((p : ℕ × T) × (get_elem? v.passes 0 ≡ some p) × (p.1 ≡ now)))
              s.views id w (λ has. absurd (cc)) (λ j v _ there has. let a = r.alone j v there has in (a.0, same ∙ a.1, a.2));
          apart = apart_new s.views id i x w refl (λ j v n there has. let k = (known j v there).numbered has.0 has.1 has.2 in let b = k.0 in let e = has.3 in omega arith) r.apart;
        },
        refl,
      )

  -- the compare-exchange of `make`
  pub drawing : (limit slots id i : ℕ) (x : T) (me : M) → me ≡ (fresh x, []) → i < limit
      → Allows (Rule limit) slots id me 1 (λ z. either (eqb z i) (i + 1) z) (draws (step slots 1 i (i + 1) none) me)
  drawing limit slots id i x me is below s r _ at _ = let z : ℕ = get_or s.words 1 0 in dite (ℕ_discrete z i)
      (λ hit. let at' = subst (λ (m : M). get_elem? s.views id ≡ some m.0) is at in let new = numbers limit s r id i x at' below hit in
      let new' : Steps limit s 1 (i + 1) id me (λ m. m ≡ (numbered_by i me.0.fresh me.0, me.1)) =
      subst (λ (y : M). Steps limit s 1 (i + 1) id y (λ m. m ≡ (numbered_by i y.0.fresh y.0, y.1))) (sym is) new in (
        new'.0,
        new'.1,
        new'.2,
        subst (λ b. Rule limit (stepped s 1 (either b (i + 1) z) id me.1 new'.0 new'.1)) (sym (eq-eqb z i hit)) new'.3,
        ((λ _. new'.4), λ not. absurd (not hit)),
      ))
      (λ miss. (
        me.0,
        keeps,
        tt,
        subst (λ b. Rule limit (stepped s 1 (either b (i + 1) z) id me.1 me.0 keeps)) (sym (ne_eqb z i miss)) (unmoved limit s r 1 id me at),
        ((λ hit. absurd (miss hit)), λ _. refl),
      ))

  -- a seat takes in what another stands for, in `close`
  pub joining : (limit id : ℕ) (v : View T) (other : ℕ) (w : View T) → v.holds ≡ false → w.holds ≡ false → Joins (Rule limit) id v other w (gathered v w) spent
  joining limit id v other w free_v free_w s r at ne there = let both : View T = gathered v w in let vs : List (View T) = set s.views id both in let now : T = r.now in let drawn : ℕ = get_or s.words 1 0 in
      let at_other : get_elem? s.views other ≡ some w = sym (set_else s.views id other both ne) ∙ there in record {
        now = now;
        holder = r.holder;
        two = r.two;
        one = r.one;
        few = r.few;
        short = r.short;
        place = ⊎_elim (λ (a : (get_or s.words 0 0 ≡ 2 * length (entries now)) × (get_elem? s.homes 0 ≡ some (some (Some now)))). inl a)
            (λ (b : (get_or s.words 0 0 ≡ 2 * length (entries now) + 1) × ((u : View T) × (get_elem? s.views r.holder ≡ some u) × (u.holds ≡ true))). inr (
              b.0,
              (
                b.1.0,
                set_else vs other r.holder spent (λ e. free s.views w b.1.0 other r.holder at_other b.1.1 free_w b.1.2 e)
                    ∙ (set_else s.views id r.holder both (λ e. free s.views v b.1.0 id r.holder at b.1.1 free_v b.1.2 e) ∙ b.1.1),
                b.1.2,
              ),
            )) r.place;
        each = each_set (λ j u. Fits case entries number now drawn u) vs other spent
            record { unnumbered = λ x e. absurd (cc); numbered = λ i p e. absurd (some-ne-none p (sym e)) }
            (λ j u _. each_set (λ k z. Fits case entries number now drawn z) s.views id both
            record {
              unnumbered = (r.each id v at).unnumbered;
              numbered = λ i p e. ⊎_elim (λ (t : (k : ℕ) × (get_elem? w.passes k ≡ some p)). (r.each other w at_other).numbered t.0 p t.1)
                  (λ (t : (k : ℕ) × (get_elem? v.passes k ≡ some p)). (r.each id v at).numbered t.0 p t.1) (at_append w.passes v.passes i p e);
            }
            (λ k z _. r.each k z) j u);
        alone = each_set (λ j u. u.holds ≡ true → (j ≡ r.holder) × (get_or s.words 0 0 ≡ 2 * length (entries now) + 1) × ((p : ℕ × T) × (get_elem? u.passes 0 ≡ some p) × (p.1 ≡ now))) vs other spent
            (λ has. absurd (cc))
            (λ j u _. each_set (λ k z. z.holds ≡ true → (k ≡ r.holder) × (get_or s.words 0 0 ≡ 2 * length (entries now) + 1) × ((p : ℕ × T) × (get_elem? z.passes 0 ≡ some p) × (p.1 ≡ now)))
            s.views id both (λ has. absurd (cc)) (λ k z _. r.alone k z) j u);
        apart = apart_joined s.views id other v w at at_other r.apart;
      }

  -- at the end the value is in its slot, where one seat without the turn stands for every number
  pub closing : (limit id : ℕ) (v : View T) (words : List ℕ) (xs : List (Option T)) → ((n : ℕ) → n < limit → HasNumber v n) → v.holds ≡ false → Final (Seen (Rule limit) id v) words xs
      → (y : T) × (get_elem? xs 0 ≡ some (Some y)) × ((i : ℕ) (p : ℕ × T) → get_elem? v.passes i ≡ some p → More y p.1 p.0)
  closing limit id v words xs all free_v f = let s = f.0 in let r = f.1.0 in let at = f.1.1 in
      ⊎_elim
      (λ (home : (get_or s.words 0 0 ≡ 2 * length (entries r.now)) × (get_elem? s.homes 0 ≡ some (some (Some r.now)))).
      (r.now, f.4 0 (Some r.now) home.1, λ i p e. ((r.each id v at).numbered i p e).1))
      (λ (out : (get_or s.words 0 0 ≡ 2 * length (entries r.now) + 1) × ((u : View T) × (get_elem? s.views r.holder ≡ some u) × (u.holds ≡ true))).
      let u = out.1.0 in let there = out.1.1 in let has = r.alone r.holder u there out.1.2 in let p = has.2.0 in
      let below = ((r.each r.holder u there).numbered 0 p has.2.1).0 in let few = r.few in
      let e : id ≡ r.holder = r.apart id r.holder p.0 v u at there (all p.0 (omega arith)) (0, p, has.2.1, refl) in
      absurd (free s.views v u id r.holder at there free_v out.1.2 (sym e)))
      r.place
