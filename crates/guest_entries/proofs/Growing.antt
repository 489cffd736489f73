-- Growth after a thread's miss, entry by entry.
use Rattle.std.proofs.Common.{◌≡◌, ℕ, zero, suc, ◌+◌, ◌<◌, ◌≤◌, Bool, true, false, cond, List, [], ◌∷◌, ◌++◌, Option, Some, None, Result, Ok, Err, drop, get_or, refl, sym, ap, ◌∙◌, subst, arith, nat_le, not, ◌==◌, ◌⊎◌, inl, inr, length}
use Rattle.std.specs.Prelude.{IsErr, IsSome, OnOk, count_by, is_some, option_and_then}
use Rattle.std.specs.List.Sorted.{IsStrictlySortedBy}
use Rattle.std.specs.Ordering.{nat_cmp}
use Rattle.std.specs.declared.alloc.AllocError.{AllocError}
use Rattle.std.proofs.lemmas.Bool.Decides.{nat_tests}
use Rattle.std.proofs.lemmas.List.{drop_more, get_or-set_other}
use Rattle.std.specs.FinMap as map
use Rattle.std.specs.declared.alloc.Global.{Global}
use Rattle.std.specs.declared.sync.Arc.{Arc}
use Rattle.std.proofs.lemmas.List.Sums.{length-filter}
use Rattle.std.proofs.lemmas.Map.Keys.{sorted_tail}
use Rattle.address_space.specs.Slots.{slot_of}
use Rattle.ir_syntax.specs.declared.block.Block.{Block}
use Rattle.basic_blocks.specs.Places.{is_code_place}
use Rattle.basic_blocks.specs.Reach.{IsReach, IsReachAbove, is_among}
use Rattle.journal_pack.specs.declared.entry.Entry.{Entry}
use Rattle.journal_pack.specs.declared.entry.Entry.TheVariants.{Grow}
use Rattle.machine_model.specs.CaseData.{CaseData}
use Rattle.machine_model.specs.Gated.{Both, IsGrowth, IsWithinReach, Latest, Spot, Stand, most_grown, spot_at}
use Rattle.machine_model.specs.Serial.{Turn, grow_all, grow_if, grow_reach, make, ungrown}
use Rattle.machine_model.proofs.Comes.{both_more}
use Rattle.machine_model.proofs.Gates.{not_grown_yet}
use Rattle.machine_model.proofs.OwnKinds.{grow_own}
use Rattle.machine_model.proofs.Reaches.{one_reach, or_second}
use Rattle.machine_model.proofs.SerialGated.{Among}
use Rattle.hall_core.specs.declared.hall.HallGrow.{HallGrow}
use Rattle.hall_core.specs.declared.hall.HallGrow.TheVariants.{Grown}
use Rattle.hall_core.specs.Hall.{Comes, GrowOutcome, HallData, added, both, grown, with_block}
use Rattle.guest_parts.specs.Guest.{GuestData, IsGoing, IsWith, LeavesGrown}
use Rattle.guest_parts.proofs.Entries.{grow_leaves}
use Rattle.guest_parts.proofs.Turns.{made}
use Rattle.guest_entries.specs.Entered.{turn_in}
use Rattle.guest_entries.specs.Growth.{AreOnward, Does, Grew, GrewEach, GrewReach, GrewTarget, InGrowth, IsTargetGrown}
use Rattle.guest_entries.proofs.Adding.{free_none, free_one, free_then}
use Rattle.guest_entries.proofs.Begins.{full_or_begins, grow_all_begins, grow_reach_begins}
use Rattle.guest_entries.proofs.Grown.{among_head, among_tail, reached_code, too_many, ungrown_above, ungrown_in, ungrown_less, ungrown_out}

le_true : (a b : ℕ) → a ≤ b → nat_le a b ≡ true
le_true a b h = grind (arith, nat_tests)

le_false : (a b : ℕ) → b < a → nat_le a b ≡ false
le_false a b h = grind (arith, nat_tests)

-- ---- one entry more of a turn

-- what follows an entry
pub does_then : (result : Result (Unit {0}) AllocError) (c : CaseData) (e : Entry) (f : Turn → Option Turn) (old mid new : HallData Block) (ages : List ℕ) → make c e (turn_in old ages) ≡ Some (turn_in mid ages) → Does result f mid new ages → Does result (λ s. option_and_then f (make c e s)) old new ages
does_then (Ok u) c e f old mid new ages m h = ap (option_and_then f) m ∙ h
does_then (Err x) c e f old mid new ages m h = λ y p. h y (sym (ap (option_and_then f) m) ∙ p)

-- ---- what growth leaves

pub grew_none : (h : HallData Block) (t a : ℕ) (g : GuestData) (d : Stand) → InGrowth h t a g d → Grew h h t a g d
grew_none h t a g d i = record { case = refl; growth = i; within = λ x m. m; free = free_none t h.journal; marks = λ s ne. refl }

pub grew_then : (old mid new : HallData Block) (t a : ℕ) (g : GuestData) (d : Stand) → Grew old mid t a g d → Grew mid new t a g d → Grew old new t a g d
grew_then old mid new t a g d p q = record {
  case = q.case ∙ p.case;
  growth = q.growth;
  within = λ x m. q.within x (p.within x m);
  free = free_then t old.journal mid.journal new.journal p.free q.free;
  marks = λ s ne. q.marks s ne ∙ p.marks s ne;
}

-- room for entries is no part of it
grew_room : (h v : HallData Block) (n t a : ℕ) (g : GuestData) (d : Stand) → v ≡ record h { spare = n } → InGrowth h t a g d → Grew h v t a g d
grew_room h v n t a g d e i =
    subst (λ (z : HallData Block). Grew h z t a g d) (sym e) (record {
      case = refl;
      growth = record { additive = i.additive; going = i.going; with = i.with; latest = i.latest };
      within = λ x m. m;
      free = free_none t h.journal;
      marks = λ s ne. refl;
    })

-- a place that isn't grown, of which there may be one more
record IsNext (h : HallData Block) (t a : ℕ) (g : GuestData) (d : Stand) (x : ℕ) : Type 0 where
  growth : InGrowth h t a g d
  place : is_code_place h.case.image x ≡ true
  new : is_among (grown h) x ≡ false
  few : length (grown h) < most_grown

next_leaves : (h : HallData Block) (t a : ℕ) (g : GuestData) (d : Stand) (x : ℕ) → IsNext h t a g d x → LeavesGrown h.case (both h) t x g d
next_leaves h t a g d x i = grow_leaves h.case (both h) t g d i.growth.going i.growth.with x i.growth.additive i.place i.new i.few

-- it may be grown where it is the target of the thread's latest miss, or within its reach
next_comes : (h : HallData Block) (t a : ℕ) (g : GuestData) (d : Stand) (x : ℕ) → IsNext h t a g d x → (x ≡ a) ⊎ ((is_among (grown h) a ≡ true) × IsWithinReach h.case.image (grown h) a x) → Comes h (Grow t x)
next_comes h t a g d x i ok =
    let l = next_leaves h t a g d x i in
    record { next = l.next; step = l.comes; allowed = subst (λ (z : Latest). IsGrowth h.case.image (grown h) x z) (sym i.growth.latest) ok }

-- what growing it leaves
pub record GrewOne (h : HallData Block) (t a : ℕ) (g : GuestData) (d : Stand) (x : ℕ) (b : Block) : Type 0 where
  pub grew : Grew h (with_block (added h (Grow t x)) x b) t a g d
  pub more : grown (with_block (added h (Grow t x)) x b) ≡ x ∷ grown h
  pub is : make h.case (Grow t x) (turn_in h g.ages) ≡ Some (turn_in (with_block (added h (Grow t x)) x b) g.ages)

grew_one : (h : HallData Block) (t a : ℕ) (g : GuestData) (d : Stand) (x : ℕ) (b : Block) → IsNext h t a g d x → GrewOne h t a g d x b
grew_one h t a g d x b i =
    let e = Grow t x in
    let l = next_leaves h t a g d x i in
    let at : both (added h e) ≡ l.next = both_more h.case h.journal e l.next l.comes in
    let own = grow_own h.case (both h) l.next t x i.growth.going.whole l.comes in
    record {
      grew = record {
        case = refl;
        growth = record {
          additive = i.growth.additive;
          going = subst (λ (z : Both). IsGoing z t) (sym at) l.going;
          with = subst (λ (z : Both). IsWith h.case z t g d) (sym at) l.with;
          latest = ap (λ (z : Both). (spot_at z.gate (slot_of t)).latest) at ∙ ap (λ (z : Spot). z.latest) own.1 ∙ i.growth.latest;
        };
        within = λ p m. ap (λ (z : Both). is_among z.gate.grown p) at ∙ ap (λ z. is_among z p) l.grown ∙ or_second (x == p) (is_among (grown h) p) m;
        free = free_one t h.journal e refl;
        marks = λ s ne. get_or-set_other h.marks (slot_of t) s None None ne;
      };
      more = ap (λ (z : Both). z.gate.grown) at ∙ l.grown;
      is = made h.case e (both h) l.next h.journal g.ages l.comes ∙ ap (λ (z : Both). Some (record { both = z; journal = h.journal ++ e ∷ []; ages = g.ages; waiting = false })) (sym at);
    }

-- ---- the places that are reached

-- Between two of the places: those before are grown, and growing these that are left is all that is left to do.
pub record Midway (old now : HallData Block) (t a : ℕ) (places rest : List ℕ) (g : GuestData) (d : Stand) : Type 0 where
  pub grew : Grew old now t a g d
  pub fits : length (grown now) + length (ungrown (grown now) places) ≤ most_grown
  pub room : length (ungrown (grown now) rest) ≤ now.spare
  pub sorted : IsStrictlySortedBy nat_cmp rest
  pub among : Among rest places
  pub left : grow_all old.case t (ungrown (grown now) rest) (turn_in now g.ages) ≡ grow_all old.case t (ungrown (grown old) places) (turn_in old g.ages)

pub mid_first : (old : HallData Block) (t a : ℕ) (places : List ℕ) (g : GuestData) (d : Stand) → length (ungrown (grown old) places) ≤ old.spare → AreOnward old t a places g d → Midway old old t a places places g d
mid_first old t a places g d room o = record {
  grew = grew_none old t a g d o.target.growth;
  fits = o.fits;
  room = room;
  sorted = o.reach.ordered;
  among = λ x m. m;
  left = refl;
}

some_left : (now : List ℕ) (places : List ℕ) (x : ℕ) → is_among now x ≡ false → is_among places x ≡ true → length now + length (ungrown now places) ≤ most_grown → length now < most_grown
some_left now places x new m fits = let n = ungrown_less now places x new m in omega (arith, n, fits)

mid_next : (old now : HallData Block) (t a x : ℕ) (places rest : List ℕ) (g : GuestData) (d : Stand) → AreOnward old t a places g d → Midway old now t a places (x ∷ rest) g d → is_among (grown now) x ≡ false → IsNext now t a g d x
mid_next old now t a x places rest g d o m new =
    let there = m.among x (among_head x rest) in
    record {
      growth = m.grew.growth;
      place = ap (λ (c : CaseData). is_code_place c.image x) m.grew.case ∙ reached_code old.case.image (a ∷ []) places o.reach x there;
      new = new;
      few = some_left (grown now) places x new there m.fits;
    }

-- an ungrown one of them may be grown
pub mid_comes : (old now : HallData Block) (t a x : ℕ) (places rest : List ℕ) (g : GuestData) (d : Stand) → AreOnward old t a places g d → Midway old now t a places (x ∷ rest) g d → is_among (grown now) x ≡ false → Comes now (Grow t x)
mid_comes old now t a x places rest g d o m new =
    let few : length (grown now) + count_by (λ p. not (is_among (grown now) p)) places ≤ most_grown = subst (λ n. length (grown now) + n ≤ most_grown) (length-filter (λ p. not (is_among (grown now) p)) places) m.fits in
    next_comes now t a g d x (mid_next old now t a x places rest g d o m new) (inr (
      m.grew.within a o.target.target,
      record {
        places = places;
        reach = subst (λ (c : CaseData). IsReach c.image (a ∷ []) places) (sym m.grew.case) o.reach;
        member = m.among x (among_head x rest);
        fits = few;
      },
    ))

pub mid_room : (old now : HallData Block) (t a x : ℕ) (places rest : List ℕ) (g : GuestData) (d : Stand) → Midway old now t a places (x ∷ rest) g d → is_among (grown now) x ≡ false → 0 < now.spare
mid_room old now t a x places rest g d m new = let n = ap length (ungrown_out (grown now) rest x new) in let r = m.room in omega (arith, n, r)

pub mid_place : (old now : HallData Block) (t a x : ℕ) (places rest : List ℕ) (g : GuestData) (d : Stand) → AreOnward old t a places g d → Midway old now t a places (x ∷ rest) g d → is_code_place now.case.image x ≡ true
mid_place old now t a x places rest g d o m = ap (λ (c : CaseData). is_code_place c.image x) m.grew.case ∙ reached_code old.case.image (a ∷ []) places o.reach x (m.among x (among_head x rest))

mid_over : (old now : HallData Block) (t a x : ℕ) (places rest : List ℕ) (g : GuestData) (d : Stand) → Midway old now t a places (x ∷ rest) g d → is_among (grown now) x ≡ true → Midway old now t a places rest g d
mid_over old now t a x places rest g d m there =
    let same = ungrown_in (grown now) rest x there in
    record {
      grew = m.grew;
      fits = m.fits;
      room = subst (λ l. length l ≤ now.spare) same m.room;
      sorted = sorted_tail nat_cmp x rest m.sorted;
      among = among_tail x rest places m.among;
      left = ap (λ l. grow_all old.case t l (turn_in now g.ages)) (sym same) ∙ m.left;
    }

first_grown : (c : CaseData) (t x : ℕ) (rest : List ℕ) (s n : Turn) → make c (Grow t x) s ≡ Some n → grow_all c t (x ∷ rest) s ≡ grow_all c t rest n
unfolding grow_all
first_grown c t x rest s n h = ap (option_and_then (grow_all c t rest)) h

mid_grown : (old now : HallData Block) (t a x : ℕ) (places rest : List ℕ) (g : GuestData) (d : Stand) (b : Block) → AreOnward old t a places g d → Midway old now t a places (x ∷ rest) g d → is_among (grown now) x ≡ false → Midway old (with_block (added now (Grow t x)) x b) t a places rest g d
mid_grown old now t a x places rest g d b o m new =
    let v = grew_one now t a g d x b (mid_next old now t a x places rest g d o m new) in
    let after = with_block (added now (Grow t x)) x b in
    let out = ungrown_out (grown now) rest x new in
    let same : ungrown (grown after) rest ≡ ungrown (grown now) rest = ap (λ l. ungrown l rest) v.more ∙ ungrown_above (grown now) rest x m.sorted in
    let one : make old.case (Grow t x) (turn_in now g.ages) ≡ Some (turn_in after g.ages) = ap (λ (c : CaseData). make c (Grow t x) (turn_in now g.ages)) (sym m.grew.case) ∙ v.is in
    let less = ungrown_less (grown now) places x new (m.among x (among_head x rest)) in
    let long = ap length out in
    let room = m.room in
    let fits = m.fits in
    record {
      grew = grew_then old now after t a g d m.grew v.grew;
      fits = subst (λ l. length l + length (ungrown l places) ≤ most_grown) (sym v.more) (omega (arith, less, fits));
      room = subst (λ l. length l ≤ after.spare) (sym same) (omega (arith, long, room));
      sorted = sorted_tail nat_cmp x rest m.sorted;
      among = among_tail x rest places m.among;
      left = ap (λ l. grow_all old.case t l (turn_in after g.ages)) same ∙ sym (first_grown old.case t x (ungrown (grown now) rest) (turn_in now g.ages) (turn_in after g.ages) one) ∙ ap (λ l. grow_all old.case t l (turn_in now g.ages)) (sym out) ∙ m.left;
    }

-- one place further
pub mid_on : (old now after : HallData Block) (t a x : ℕ) (places rest : List ℕ) (g : GuestData) (d : Stand) (b : Block) (in_it : Bool) → is_among (grown now) x ≡ in_it → after ≡ cond in_it now (with_block (added now (Grow t x)) x b) → AreOnward old t a places g d → Midway old now t a places (x ∷ rest) g d → Midway old after t a places rest g d
mid_on old now after t a x places rest g d b true there is o m = subst (λ (z : HallData Block). Midway old z t a places rest g d) (sym is) (mid_over old now t a x places rest g d m there)
mid_on old now after t a x places rest g d b false there is o m = subst (λ (z : HallData Block). Midway old z t a places rest g d) (sym is) (mid_grown old now t a x places rest g d b o m there)

no_more : (c : CaseData) (t : ℕ) (s : Turn) → grow_all c t [] s ≡ Some s
unfolding grow_all
no_more c t s = refl

-- after the last one
pub mid_last : (old now : HallData Block) (t a : ℕ) (places rest : List ℕ) (g : GuestData) (d : Stand) → rest ≡ [] → Midway old now t a places rest g d → GrewEach (Ok tt) old now t a places g d
mid_last old now t a places rest g d none m = (
  m.grew,
  sym (ap (λ l. grow_all old.case t (ungrown (grown now) l) (turn_in now g.ages)) (sym none) ∙ m.left) ∙ no_more old.case t (turn_in now g.ages),
)

-- where memory was wanting
pub mid_err : (old now after : HallData Block) (t a : ℕ) (places rest : List ℕ) (g : GuestData) (d : Stand) (e : AllocError) → after ≡ now → Midway old now t a places rest g d → GrewEach (Err e) old after t a places g d
mid_err old now after t a places rest g d e same m =
    subst (λ (z : HallData Block). GrewEach (Err e) old z t a places g d) (sym same) (m.grew, λ x p. grow_all_begins old.case t (ungrown (grown now) rest) (turn_in now g.ages) x (m.left ∙ p))

-- ---- by index

-- before the place with this index
abbrev pub MidAt : HallData Block → HallData Block → ℕ → List ℕ → ℕ → Type 0
MidAt old now t places i = (a : ℕ) (g : GuestData) (d : Stand) → AreOnward old t a places g d → Midway old now t a places (drop i places) g d

abbrev pub Onward : HallData Block → ℕ → List ℕ → Type 0
Onward old t places = (a : ℕ) × (g : GuestData) × (d : Stand) × AreOnward old t a places g d

abbrev at : List ℕ → ℕ → ℕ
at places i = get_or places i 0

pub at_first : (old : HallData Block) (t : ℕ) (places : List ℕ) → length (ungrown (grown old) places) ≤ old.spare → MidAt old old t places 0
at_first old t places room = λ a g d o. mid_first old t a places g d room o

at_here : (old now : HallData Block) (t : ℕ) (places : List ℕ) (i a : ℕ) (g : GuestData) (d : Stand) → i < length places → MidAt old now t places i → AreOnward old t a places g d → Midway old now t a places (at places i ∷ drop (i + 1) places) g d
at_here old now t places i a g d lt m o = subst (λ l. Midway old now t a places l g d) (drop_more places i 0 lt) (m a g d o)

pub at_comes : (old now : HallData Block) (t : ℕ) (places : List ℕ) (i : ℕ) → i < length places → MidAt old now t places i → Onward old t places → is_among (grown now) (at places i) ≡ false → Comes now (Grow t (at places i))
at_comes old now t places i lt m o new = mid_comes old now t o.0 (at places i) places (drop (i + 1) places) o.1 o.2 o.3 (at_here old now t places i o.0 o.1 o.2 lt m o.3) new

pub at_room : (old now : HallData Block) (t : ℕ) (places : List ℕ) (i : ℕ) → i < length places → MidAt old now t places i → Onward old t places → is_among (grown now) (at places i) ≡ false → 0 < now.spare
at_room old now t places i lt m o new = mid_room old now t o.0 (at places i) places (drop (i + 1) places) o.1 o.2 (at_here old now t places i o.0 o.1 o.2 lt m o.3) new

pub at_place : (old now : HallData Block) (t : ℕ) (places : List ℕ) (i : ℕ) → i < length places → MidAt old now t places i → Onward old t places → is_code_place now.case.image (at places i) ≡ true
at_place old now t places i lt m o = mid_place old now t o.0 (at places i) places (drop (i + 1) places) o.1 o.2 o.3 (at_here old now t places i o.0 o.1 o.2 lt m o.3)

pub at_next : (old now after : HallData Block) (t : ℕ) (places : List ℕ) (i : ℕ) (b : Block) → i < length places → after ≡ cond (is_among (grown now) (at places i)) now (with_block (added now (Grow t (at places i))) (at places i) b) → MidAt old now t places i → MidAt old after t places (i + 1)
at_next old now after t places i b lt is m = λ a g d o. mid_on old now after t a (at places i) places (drop (i + 1) places) g d b (is_among (grown now) (at places i)) refl is o (at_here old now t places i a g d lt m o)

drop_all : (xs : List ℕ) (i : ℕ) → length xs ≤ i → drop i xs ≡ []
drop_all [] zero h = refl
drop_all [] (suc i) h = refl
drop_all (x ∷ xs) zero h = absurd (omega arith)
drop_all (x ∷ xs) (suc i) h = drop_all xs i (omega arith)

pub at_last : (old now : HallData Block) (t : ℕ) (places : List ℕ) (i a : ℕ) (g : GuestData) (d : Stand) → length places ≤ i → MidAt old now t places i → AreOnward old t a places g d → GrewEach (Ok tt) old now t a places g d
at_last old now t places i a g d le m o = mid_last old now t a places (drop i places) g d (drop_all places i le) (m a g d o)

pub at_err : (old now after : HallData Block) (t : ℕ) (places : List ℕ) (i a : ℕ) (g : GuestData) (d : Stand) (e : AllocError) → after ≡ now → MidAt old now t places i → AreOnward old t a places g d → GrewEach (Err e) old after t a places g d
at_err old now after t places i a g d e same m o = mid_err old now after t a places (drop i places) g d e same (m a g d o)

-- what holds of each error holds of an answer that is one
pub on_err : (P : Result (Unit {0}) AllocError → Type 0) → ((e : AllocError) → P (Err e)) → (result : Result (Unit {0}) AllocError) → IsErr result → P result
on_err P h (Ok u) e = absurd (let f : false ≡ true = e in cc)
on_err P h (Err x) e = h x

-- ---- a grown place has a block

outcome_some : (there : Option Block) (b back : Arc Block Global) (result : Result (Unit {0}) (HallGrow Block)) → result ≡ Err (Grown back) → GrowOutcome there b result → IsSome there
outcome_some there b back result e h = (subst (GrowOutcome there b) e h).0

none_some : (there : Option Block) → IsSome there → is_some there ≡ false → ⊥
none_some None h e = let f : false ≡ true = h in cc
none_some (Some b) h e = let f : true ≡ false = e in cc

pub not_there : (h : HallData Block) (t a : ℕ) (b back : Arc Block Global) (result : Result (Unit {0}) (HallGrow Block)) → Comes h (Grow t a) → ((x : ℕ) → is_some (map.get h.blocks x) ≡ is_among (grown h) x) → result ≡ Err (Grown back) → GrowOutcome (map.get h.blocks a) b result → ⊥
not_there h t a b back result comes grown_are e outcome =
    none_some (map.get h.blocks a) (outcome_some (map.get h.blocks a) b back result e outcome) (grown_are a ∙ not_grown_yet h.case (both h) comes.next t a comes.step)

-- ---- all of the reach, or nothing

-- all of it, where it fits
reach_fits : (c : CaseData) (t : ℕ) (places : List ℕ) (s : Turn) → length s.both.gate.grown + length (ungrown s.both.gate.grown places) ≤ most_grown → grow_reach c t places s ≡ grow_all c t (ungrown s.both.gate.grown places) s
reach_fits c t places s h = ap (grow_if c t (ungrown s.both.gate.grown places) s) (le_true (length s.both.gate.grown + length (ungrown s.both.gate.grown places)) most_grown h)

-- nothing, where it doesn't
reach_past : (c : CaseData) (t : ℕ) (places : List ℕ) (s : Turn) → most_grown < length s.both.gate.grown + length (ungrown s.both.gate.grown places) → grow_reach c t places s ≡ Some s
reach_past c t places s h = ap (grow_if c t (ungrown s.both.gate.grown places) s) (le_false (length s.both.gate.grown + length (ungrown s.both.gate.grown places)) most_grown h)

pub unfit_reach : (h : HallData Block) (t a : ℕ) (places : List ℕ) (g : GuestData) (d : Stand) → IsTargetGrown h t a g d → IsReach h.case.image (a ∷ []) places → most_grown < length (grown h) + length (ungrown (grown h) places) → GrewReach (Ok tt) h h t a g d
unfit_reach h t a places g d i reach past = (
  grew_none h t a g d i.growth,
  λ all right.
      ap (λ l. grow_reach h.case t l (turn_in h g.ages)) (one_reach h.case.image (a ∷ []) (all a) places (right a) reach) ∙ reach_past h.case t places (turn_in h g.ages) past,
)

pub unbounded_reach : (h : HallData Block) (t a : ℕ) (g : GuestData) (d : Stand) → InGrowth h t a g d → IsReachAbove h.case.image (a ∷ []) 65536 → GrewReach (Ok tt) h h t a g d
unbounded_reach h t a g d i above = (
  grew_none h t a g d i,
  λ all right. reach_past h.case t (all a) (turn_in h g.ages) (too_many h.case.image a (grown h) (all a) above (right a)),
)

pub wanting_reach : (h after : HallData Block) (t a : ℕ) (g : GuestData) (d : Stand) (e : AllocError) → after ≡ h → InGrowth h t a g d → GrewReach (Err e) h after t a g d
wanting_reach h after t a g d e same i =
    subst (λ (z : HallData Block). GrewReach (Err e) h z t a g d) (sym same) (grew_none h t a g d i, λ all right x p. grow_reach_begins h.case t (all a) (turn_in h g.ages) x p)

-- room was made
pub roomy : (h v : HallData Block) (n t a : ℕ) (places : List ℕ) (g : GuestData) (d : Stand) → v ≡ record h { spare = n } → IsTargetGrown h t a g d → IsReach h.case.image (a ∷ []) places → length (grown h) + length (ungrown (grown h) places) ≤ most_grown → AreOnward v t a places g d
roomy h v n t a places g d e i reach fits =
    subst (λ (z : HallData Block). AreOnward z t a places g d) (sym e) (record {
      target = record { growth = record { additive = i.growth.additive; going = i.growth.going; with = i.growth.with; latest = i.growth.latest }; target = i.target };
      reach = reach;
      fits = fits;
    })

does_by : (result : Result (Unit {0}) AllocError) (f k : Turn → Option Turn) (old mid new : HallData Block) (ages : List ℕ) → turn_in old ages ≡ turn_in mid ages → f (turn_in old ages) ≡ k (turn_in old ages) → Does result k mid new ages → Does result f old new ages
does_by (Ok u) f k old mid new ages same is h = is ∙ ap k same ∙ h
does_by (Err e) f k old mid new ages same is h = λ x p. h x (sym (ap k same) ∙ sym is ∙ p)

-- and each place was grown
pub each_reach : (result : Result (Unit {0}) AllocError) (h v new : HallData Block) (n t a : ℕ) (places : List ℕ) (g : GuestData) (d : Stand) → v ≡ record h { spare = n } → IsTargetGrown h t a g d → IsReach h.case.image (a ∷ []) places → length (grown h) + length (ungrown (grown h) places) ≤ most_grown → GrewEach result v new t a places g d → GrewReach result h new t a g d
each_reach result h v new n t a places g d e i reach fits q = (
  grew_then h v new t a g d (grew_room h v n t a g d e i.growth) q.0,
  λ all right.
      let same : turn_in h g.ages ≡ turn_in v g.ages = ap (λ (z : HallData Block). turn_in z g.ages) (sym e) in
      let does : Does result (grow_all h.case t (ungrown (grown h) places)) v new g.ages = subst (λ (z : HallData Block). Does result (grow_all z.case t (ungrown (grown z) places)) v new g.ages) e q.1 in
      does_by result (grow_reach h.case t (all a)) (grow_all h.case t (ungrown (grown h) places)) h v new g.ages same (ap (λ l. grow_reach h.case t l (turn_in h g.ages)) (one_reach h.case.image (a ∷ []) (all a) places (right a) reach) ∙ reach_fits h.case t places (turn_in h g.ages) fits) does,
)

-- ---- the target

-- it may be grown
target_next : (h : HallData Block) (t a : ℕ) (g : GuestData) (d : Stand) → InGrowth h t a g d → is_code_place h.case.image a ≡ true → is_among (grown h) a ≡ false → length (grown h) < most_grown → IsNext h t a g d a
target_next h t a g d i place new few = record { growth = i; place = place; new = new; few = few }

pub target_comes : (h : HallData Block) (t a : ℕ) (g : GuestData) (d : Stand) → InGrowth h t a g d → is_code_place h.case.image a ≡ true → is_among (grown h) a ≡ false → length (grown h) < most_grown → Comes h (Grow t a)
target_comes h t a g d i place new few = next_comes h t a g d a (target_next h t a g d i place new few) (inl refl)

-- what holds before the rest of its reach
pub target_there : (h v : HallData Block) (t a : ℕ) (g : GuestData) (d : Stand) (b : Block) → v ≡ with_block (added h (Grow t a)) a b → InGrowth h t a g d → is_code_place h.case.image a ≡ true → is_among (grown h) a ≡ false → length (grown h) < most_grown → IsTargetGrown v t a g d
target_there h v t a g d b e i place new few =
    let o = grew_one h t a g d a b (target_next h t a g d i place new few) in
    subst (λ (z : HallData Block). IsTargetGrown z t a g d) (sym e) (record { growth = o.grew.growth; target = ap (λ l. is_among l a) o.more ∙ among_head a (grown h) })

pub reach_after : (h v : HallData Block) (t a : ℕ) (b : Block) (places read : List ℕ) → v ≡ with_block (added h (Grow t a)) a b → read ≡ places → IsReach h.case.image (a ∷ []) places → IsReach v.case.image (a ∷ []) read
reach_after h v t a b places read e same reach =
    subst (λ (z : HallData Block). IsReach z.case.image (a ∷ []) read) (sym e) (subst (λ l. IsReach h.case.image (a ∷ []) l) (sym same) reach)

pub above_after : (h v : HallData Block) (t a : ℕ) (b : Block) → v ≡ with_block (added h (Grow t a)) a b → IsReachAbove h.case.image (a ∷ []) 65536 → IsReachAbove v.case.image (a ∷ []) 65536
above_after h v t a b e above = subst (λ (z : HallData Block). IsReachAbove z.case.image (a ∷ []) 65536) (sym e) above

kept_there : (result : Result (Unit {0}) AllocError) (P : Type 0) → P → OnOk result P
kept_there (Ok u) P p = p
kept_there (Err e) P p = tt

pub target_then : (result : Result (Unit {0}) AllocError) (h v new : HallData Block) (t a : ℕ) (g : GuestData) (d : Stand) (b : Block) → v ≡ with_block (added h (Grow t a)) a b → InGrowth h t a g d → is_code_place h.case.image a ≡ true → is_among (grown h) a ≡ false → length (grown h) < most_grown → GrewReach result v new t a g d → GrewTarget result h new t a g d
target_then result h v new t a g d b e i place new_place few q =
    let o = grew_one h t a g d a b (target_next h t a g d i place new_place few) in
    let w = with_block (added h (Grow t a)) a b in
    let r : GrewReach result w new t a g d = subst (λ (z : HallData Block). GrewReach result z new t a g d) e q in
    let there : is_among (grown w) a ≡ true = ap (λ l. is_among l a) o.more ∙ among_head a (grown h) in (
      grew_then h w new t a g d o.grew r.0,
      kept_there result (is_among (grown new) a ≡ true) (r.0.within a there),
      λ reach right. does_then result h.case (Grow t a) (grow_reach h.case t (reach a)) h w new g.ages o.is (r.1 reach right),
    )

pub wanting_target : (h after : HallData Block) (t a : ℕ) (g : GuestData) (d : Stand) (e : AllocError) → after ≡ h → InGrowth h t a g d → GrewTarget (Err e) h after t a g d
wanting_target h after t a g d e same i =
    subst (λ (z : HallData Block). GrewTarget (Err e) h z t a g d) (sym same) (grew_none h t a g d i, tt, λ reach right x p. full_or_begins h.case reach t a (turn_in h g.ages) x false p)
