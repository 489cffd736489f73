-- The end of a turn: waiting writes that are too old go to memory.
use Rattle.std.proofs.Common.{◌≡◌, ℕ, suc, ◌+◌, ◌<◌, true, false, List, [], ◌∷◌, length, map, Some, None, refl, sym, ap, ◌∙◌, subst, arith, inl, inr, nat_lt}
use Rattle.std.specs.Prelude.{option_and_then, slice_get}
use Rattle.std.proofs.lemmas.Option.{none-some, same_Some}
use Rattle.address_space.specs.Slots.{slot_of}
use Rattle.ir_syntax.specs.declared.block.Block.{Block}
use Rattle.journal_pack.specs.declared.entry.Entry.TheVariants.{Flush}
use Rattle.machine_model.specs.CaseData.{CaseData}
use Rattle.machine_model.specs.Gated.{Both, Latest, Other, Stand, advance, after_flush, rest_of, spot_at, stand_at}
use Rattle.machine_model.specs.Own.{IsWhole}
use Rattle.machine_model.specs.Ready.{HasGrown}
use Rattle.machine_model.specs.Serial.{Turn, flush, flush_if, flush_old, is_missing, settle, settled}
use Rattle.machine_model.proofs.OwnKinds.{flush_own, flush_waits}
use Rattle.machine_model.proofs.SerialGated.{made}
use Rattle.hall_core.specs.Hall.{HallData, both}
use Rattle.guest_parts.specs.Guest.{GuestData, IsGoing, IsWith}
use Rattle.guest_steps.specs.Ages.{is_too_old}
use Rattle.guest_entries.specs.Entered.{FlushedBy, OthersKeepMarks, SettledBy, turn_in}
use Rattle.guest_entries.proofs.Flushed.{OneBy, Stands}

-- ---- the oldest write

pub too_old_some : (hold age : ℕ) (ages : List ℕ) → slice_get ages 0 ≡ Some age → is_too_old hold ages ≡ nat_lt hold age
too_old_some hold age [] e = absurd (none-some age e)
too_old_some hold age (a ∷ ages) e = ap (nat_lt hold) (same_Some a age e)

pub too_old_none : (hold : ℕ) (ages : List ℕ) → slice_get ages 0 ≡ None → is_too_old hold ages ≡ false
too_old_none hold [] e = refl
too_old_none hold (a ∷ ages) e = absurd (none-some a (sym e))

pub too_old_waits : (hold : ℕ) (ages : List ℕ) → is_too_old hold ages ≡ true → 0 < length ages
too_old_waits hold [] e = absurd (let no : false ≡ true = e in cc)
too_old_waits hold (a ∷ ages) e = omega arith

-- ---- what flushes leave of a thread that isn't right after a miss

after_flush_other : (l : Latest) → l ≡ Other → after_flush l ≡ Other
after_flush_other l e = ap after_flush e

flush_grown : (c : CaseData) (b n : Both) (t : ℕ) → IsWhole b → advance c b (Flush t) ≡ Some n → HasGrown c.image b (slot_of t) → HasGrown c.image n (slot_of t)
flush_grown c b n t whole p h =
    let w = flush_waits c b n t p in
    let v = flush_own c b n t w.0 w.1 whole p w.2 in
    by_latest h v.0.stand v.2 v.0.latest
  where
    by_latest : HasGrown c.image b (slot_of t) → stand_at n (slot_of t) ≡ stand_at b (slot_of t) → n.gate.grown ≡ b.gate.grown → (spot_at n.gate (slot_of t)).latest ≡ after_flush (spot_at b.gate (slot_of t)).latest → HasGrown c.image n (slot_of t)
    by_latest (inl other) stand grown latest = inl (latest ∙ after_flush_other (spot_at b.gate (slot_of t)).latest other)
    by_latest (inr there) stand grown latest = inr (ap (λ d. is_missing c.image n.gate.grown d) stand ∙ ap (λ g. is_missing c.image g (stand_at b (slot_of t))) grown ∙ there)

pub flushed_grown : (c : CaseData) (t : ℕ) (s x : Turn) → IsWhole s.both → flush c t s ≡ Some x → HasGrown c.image s.both (slot_of t) → HasGrown c.image x.both (slot_of t)
flushed_grown c t s x whole p h =
    let m = made c (Flush t) (record s { ages = rest_of s.ages }) x p in
    subst (λ (y : Turn). HasGrown c.image y.both (slot_of t)) m.is (flush_grown c s.both m.both t whole m.came h)

-- ---- the end of a turn, under way

old_on : (c : CaseData) (t hold : ℕ) (ages : List ℕ) (s x : Turn) → is_too_old hold ages ≡ true → flush c t s ≡ Some x → flush_old c t hold ages s ≡ flush_old c t hold (rest_of ages) x
unfolding flush_old
old_on c t hold [] s x too p = absurd (let no : false ≡ true = too in cc)
old_on c t hold (a ∷ ages) s x too p = ap (flush_if c t (flush_old c t hold ages) s) too ∙ ap (option_and_then (flush_old c t hold ages)) p

old_done : (c : CaseData) (t hold : ℕ) (ages : List ℕ) (s : Turn) → is_too_old hold ages ≡ false → flush_old c t hold ages s ≡ Some s
unfolding flush_old
old_done c t hold [] s young = refl
old_done c t hold (a ∷ ages) s young = ap (flush_if c t (flush_old c t hold ages) s) young

-- so far, and these ages are left
pub record Settling (old new : HallData Block) (t hold : ℕ) (g : GuestData) (ages : List ℕ) (d : Stand) : Type 0 where
  pub case : new.case ≡ old.case
  pub going : IsGoing (both new) t
  pub with : IsWith old.case (both new) t (record g { ages = ages }) d
  pub grown : (both new).gate.grown ≡ (both old).gate.grown
  pub settled : HasGrown old.case.image (both old) (slot_of t) → HasGrown old.case.image (both new) (slot_of t)
  pub goes_on : settle old.case t hold (turn_in old g.ages) ≡ flush_old old.case t hold ages (turn_in new ages)
  pub marks : OthersKeepMarks old new t

-- whatever guest stands with the thread
abbrev pub SettlingBy : HallData Block → HallData Block → ℕ → ℕ → List ℕ → List ℕ → Type 0
SettlingBy h n t hold old ages = (g : GuestData) (d : Stand) → IsGoing (both h) t → IsWith h.case (both h) t g d → g.ages ≡ old → Settling h n t hold g ages d

pub older_count : (ages : List ℕ) → length (map (λ a. a + 1) ages) ≡ length ages
older_count [] = refl
older_count (a ∷ ages) = ap suc (older_count ages)

pub settling_starts : (h : HallData Block) (t hold : ℕ) (old ages : List ℕ) → ages ≡ map (λ a. a + 1) old → SettlingBy h h t hold old ages
settling_starts h t hold old ages older = λ g d going w same. record {
  case = refl;
  going = going;
  with = record { ahead = w.ahead; few = w.few; stands = w.stands; frames = w.frames; ages = ap length older ∙ older_count old ∙ ap length (sym same) ∙ w.ages };
  grown = refl;
  settled = λ x. x;
  goes_on = ap (settled h.case t hold (turn_in h g.ages)) going.going ∙ ap (λ (l : List ℕ). flush_old h.case t hold (map (λ a. a + 1) l) (turn_in h (map (λ a. a + 1) l))) same ∙ ap (λ (l : List ℕ). flush_old h.case t hold l (turn_in h l)) (sym older);
  marks = λ s ne. refl;
}

pub settling_stands : (h n : HallData Block) (t hold : ℕ) (old ages : List ℕ) → SettlingBy h n t hold old ages → Stands h t old → Stands n t ages
settling_stands h n t hold old ages f s =
    let x = f s.0 s.1 s.2 s.3 s.4 in
    (record s.0 { ages = ages }, s.1, x.going, subst (λ (c : CaseData). IsWith c (both n) t (record s.0 { ages = ages }) s.1) (sym x.case) x.with, refl)

one_settled : (h n m : HallData Block) (t hold : ℕ) (g : GuestData) (ages : List ℕ) (d : Stand) → is_too_old hold ages ≡ true → Settling h n t hold g ages d → FlushedBy n m t (record g { ages = ages }) (rest_of ages) d → Settling h m t hold g (rest_of ages) d
one_settled h n m t hold g ages d too s f =
    let is : flush h.case t (turn_in n ages) ≡ Some (turn_in m (rest_of ages)) = subst (λ (c : CaseData). flush c t (turn_in n ages) ≡ Some (turn_in m (rest_of ages))) s.case f.is_flush in
    record {
      case = f.case ∙ s.case;
      going = f.going;
      with = subst (λ (c : CaseData). IsWith c (both m) t (record g { ages = rest_of ages }) d) s.case f.with;
      grown = f.grown ∙ s.grown;
      settled = λ x. flushed_grown h.case t (turn_in n ages) (turn_in m (rest_of ages)) s.going.whole is (s.settled x);
      goes_on = s.goes_on ∙ old_on h.case t hold ages (turn_in n ages) (turn_in m (rest_of ages)) too is;
      marks = λ u ne. f.marks u ne ∙ s.marks u ne;
    }

pub settling_on : (h n m : HallData Block) (t hold : ℕ) (old ages rest : List ℕ) → is_too_old hold ages ≡ true → rest ≡ rest_of ages → SettlingBy h n t hold old ages → OneBy n m t ages rest → SettlingBy h m t hold old rest
settling_on h n m t hold old ages rest too is f one = λ g d going w same.
    let x = f g d going w same in
    let y = one (record g { ages = ages }) d x.going (subst (λ (c : CaseData). IsWith c (both n) t (record g { ages = ages }) d) (sym x.case) x.with) refl in
    subst (λ (l : List ℕ). Settling h m t hold g l d) (sym is) (one_settled h n m t hold g ages d too x (subst (λ (l : List ℕ). FlushedBy n m t (record g { ages = ages }) l d) is y))

pub settling_ends : (h n : HallData Block) (t hold : ℕ) (old ages : List ℕ) (g : GuestData) (d : Stand) → is_too_old hold ages ≡ false → SettlingBy h n t hold old ages → IsGoing (both h) t → IsWith h.case (both h) t g d → g.ages ≡ old → SettledBy h n t hold g ages d
settling_ends h n t hold old ages g d young f going w same =
    let x = f g d going w same in
    record {
      case = x.case;
      going = x.going;
      with = x.with;
      grown = x.grown;
      settled = x.settled;
      is_settled = x.goes_on ∙ old_done h.case t hold ages (turn_in n ages) young;
      marks = x.marks;
    }
