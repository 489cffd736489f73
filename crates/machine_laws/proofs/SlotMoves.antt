-- What becomes of one slot by a request.
use Rattle.std.proofs.Common.{◌≡◌, ◌≢◌, ℕ, ◌+◌, ◌<◌, true, false, List, Some, None, refl, sym, ap, ◌∙◌, arith, inl, inr, slice_set, slice_index_or, length}
use Rattle.std.proofs.lemmas.Bool.{cases_eq}
use Rattle.std.proofs.lemmas.List.{get_or-set_other, get_or-set_same}
use Rattle.address_space.specs.Slots.{slot_of, generation_of}
use Rattle.address_space.proofs.Numbers.{slot_below}
use Rattle.elf_image.specs.declared.place.Function.TheVariants as function
use Rattle.lib_table.specs.declared.ask.Ask.{Ask}
use Rattle.lib_table.specs.declared.ask.Asked.TheVariants.{Lib, EndDoor}
use Rattle.lib_table.specs.declared.life.Life.{Life}
use Rattle.lib_table.specs.declared.life.Life.TheVariants.{Unborn, Live, Ended, Joined}
use Rattle.lib_table.specs.declared.slot.Slot.{Slot}
use Rattle.lib_table.specs.Library.{LibraryData, is_kept, is_live, is_running, life_at, life_in, new_slot, next_number, slot_at}
use Rattle.lib_table.specs.Outcome.{a3, a4}
use Rattle.lib_table.proofs.LifeLaws.{IsNext, kept-next, life-at_own, next-unborn}
use Rattle.machine_laws.specs.Lives.{LifeChange, Keeps, Bears, Ends, Joins, HasCause, lives_after}
use Rattle.machine_laws.proofs.Requests.{Changed}

-- a slot is as it was; the next thread is born in it; its thread ends; or the one that ended in it is joined
pub data SlotMoves (l after : LibraryData) (t : ℕ) (ask : Ask) (s : ℕ) : Type 0 where
  IsKept : (same : slot_at after s ≡ slot_at l s) → SlotMoves l after t ask s
  IsBegun : (u : ℕ) → (number : next_number l ≡ Some u) → (here : s ≡ slot_of u) → (before : (slot_at l s).life ≡ Unborn) → (now : slot_at after s ≡ record { generation = (slot_at l s).generation; life = Live (a3 ask) (a4 ask) }) → (what : ask.what ≡ Lib function.PthreadCreate) → SlotMoves l after t ask s
  IsOver : (own : s ≡ slot_of t) → (before : is_running (slot_at l s).life ≡ true) → (now : slot_at after s ≡ record { generation = (slot_at l s).generation; life = Ended ask.rax }) → (what : ask.what ≡ EndDoor) → (top : ask.top ≡ None) → (other : t ≢ 0) → SlotMoves l after t ask s
  IsFreed : (value : ℕ) → (before : (slot_at l s).life ≡ Ended value) → (now : slot_at after s ≡ record { generation = (slot_at l s).generation + 1; life = Unborn }) → (what : ask.what ≡ Lib function.PthreadJoin) → SlotMoves l after t ask s

kept_if_runs : (life : Life) → is_running life ≡ true → is_kept life ≡ true
kept_if_runs Unborn h = absurd (let e : false ≡ true = h in cc)
kept_if_runs (Live a b) h = refl
kept_if_runs (Ended v) h = absurd (let e : false ≡ true = h in cc)
kept_if_runs Joined h = absurd (let e : false ≡ true = h in cc)

-- a live number is its slot's own
pub live_next : (l : LibraryData) (t : ℕ) → is_live l t ≡ true → IsNext l t
live_next l t live = kept-next l t (kept_if_runs (life_at l t) live)

-- where a number is its slot's own, its life is the slot's
pub own_life : (l : LibraryData) (u : ℕ) → IsNext l u → life_at l u ≡ (slot_at l (slot_of u)).life
own_life l u next = ap (life_in (slot_at l (slot_of u))) (sym next) ∙ life-at_own (slot_at l (slot_of u))

set_here : (xs ys : List Slot) (i s : ℕ) (y : Slot) → ys ≡ slice_set xs i y → i < length xs → s ≡ i → slice_index_or ys s new_slot ≡ y
set_here xs ys i s y e lt here = ap (λ z. slice_index_or z s new_slot) e ∙ ap (λ k. slice_index_or (slice_set xs i y) k new_slot) here ∙ get_or-set_same xs i y new_slot lt

set_elsewhere : (xs ys : List Slot) (i s : ℕ) (y : Slot) → ys ≡ slice_set xs i y → s ≢ i → slice_index_or ys s new_slot ≡ slice_index_or xs s new_slot
set_elsewhere xs ys i s y e other = ap (λ z. slice_index_or z s new_slot) e ∙ get_or-set_other xs i s y new_slot other

slot_with : (a b : ℕ) (life : Life) → a ≡ b → ◌≡◌ {A = Slot} (record { generation = a; life = life }) (record { generation = b; life = life })
slot_with a b life e = ap (λ g. record { generation = g; life = life }) e

-- the generation of a slot that is told by a number
generation_at : (l : LibraryData) (u s : ℕ) → IsNext l u → s ≡ slot_of u → generation_of u ≡ (slot_at l s).generation
generation_at l u s next here = sym next ∙ ap (λ k. (slot_at l k).generation) (sym here)

life_here : (l : LibraryData) (u s : ℕ) (life : Life) → IsNext l u → s ≡ slot_of u → life_at l u ≡ life → (slot_at l s).life ≡ life
life_here l u s life next here e = ap (λ k. (slot_at l k).life) here ∙ sym (own_life l u next) ∙ e

room : (l : LibraryData) (u : ℕ) → length l.slots ≡ 64 → slot_of u < length l.slots
room l u sized = omega (arith, slot_below u, sized)

moves_by : (l after : LibraryData) (t : ℕ) (ask : Ask) (s : ℕ) (x : LifeChange) → length l.slots ≡ 64 → is_live l t ≡ true → HasCause l t ask x → after.slots ≡ (lives_after l t ask x).slots → SlotMoves l after t ask s
moves_by l after t ask s Keeps sized live cause e = IsKept (ap (λ z. slice_index_or z s new_slot) e)
moves_by l after t ask s (Bears u) sized live cause e =
    let next = next-unborn l u cause.1 sized in
    elim (cases_eq s (slot_of u)) [
      | inl here ↦ IsBegun u cause.1 here (life_here l u s Unborn next.0 here next.1) (set_here l.slots after.slots (slot_of u) s _ e (room l u sized) here ∙ slot_with _ _ _ (generation_at l u s next.0 here)) cause.0
      | inr other ↦ IsKept (set_elsewhere l.slots after.slots (slot_of u) s _ e other)
    ]
moves_by l after t ask s Ends sized live cause e =
    let next = live_next l t live in
    elim (cases_eq s (slot_of t)) [
      | inl here ↦ IsOver here (ap is_running (ap (λ k. (slot_at l k).life) here ∙ sym (own_life l t next)) ∙ live) (set_here l.slots after.slots (slot_of t) s _ e (room l t sized) here ∙ slot_with _ _ _ (generation_at l t s next here)) cause.0 cause.1 cause.2
      | inr other ↦ IsKept (set_elsewhere l.slots after.slots (slot_of t) s _ e other)
    ]
moves_by l after t ask s (Joins u) sized live cause e =
    let next = kept-next l u (ap is_kept cause.2) in
    elim (cases_eq s (slot_of u)) [
      | inl here ↦ IsFreed cause.0 (life_here l u s (Ended cause.0) next here cause.2) (set_here l.slots after.slots (slot_of u) s _ e (room l u sized) here ∙ slot_with _ _ _ (ap (λ g. g + 1) (generation_at l u s next here))) cause.1
      | inr other ↦ IsKept (set_elsewhere l.slots after.slots (slot_of u) s _ e other)
    ]

pub slot_moves : (l after : LibraryData) (t : ℕ) (ask : Ask) (s : ℕ) → length l.slots ≡ 64 → is_live l t ≡ true → Changed l t ask after → SlotMoves l after t ask s
slot_moves l after t ask s sized live h = moves_by l after t ask s h.change sized live h.cause h.slots
