-- In which slot a thread was born, and the slots that stay.
use Rattle.std.proofs.Common.{◌≡◌, ℕ, zero, suc, ◌+◌, ◌-◌, ◌<◌, ◌≤◌, Bool, true, false, cond, not, List, [], ◌∷◌, Some, None, refl, sym, ap, ◌∙◌, arith, length, get_or, slice_set, ◌&&◌}
use Rattle.std.specs.Prelude.{IsSome, slice_get, find}
use Rattle.std.specs.List.{range_with_len}
use Rattle.std.proofs.lemmas.Grind.{common_steps}
use Rattle.std.proofs.lemmas.Bool.{cases_eq}
use Rattle.std.proofs.Common.{⊎_elim}
use Rattle.callbacks.specs.declared.Frame.{Frame}
use Rattle.lib_table.specs.declared.ask.Ask.{Ask}
use Rattle.lib_table.specs.declared.ask.Asked.{Asked}
use Rattle.lib_table.specs.declared.ask.Asked.TheVariants.{Lib, EndDoor, CallDoor}
use Rattle.lib_table.specs.declared.answer.Called.{Called}
use Rattle.lib_table.specs.declared.answer.Called.TheVariants.{Probe}
use Rattle.lib_table.specs.Library.{LibraryData}
use Rattle.lib_table.specs.Outcome.{Done}
use Rattle.lib_table.specs.Row.{row}
use Rattle.tso_memory.specs.Memory.{Memory}
use Rattle.x86_model.specs.declared.cpu.Cpu.{Cpu}
use Rattle.machine_model.proofs.RowLives.{row_stays}
use Rattle.machine_model.specs.Frames.{HasRoom, IsAnswer}
use Rattle.machine_model.specs.State.{Core, slots}
use Rattle.machine_model.specs.Step.{ask_of, is_in_use, newborn, frames_before}
use Rattle.std.proofs.Common.{subst, length-take}

pub as_many_slots : (l after : LibraryData) (m n : Memory) (t : ℕ) (ask : Ask) (called : Called) → length l.slots ≡ 64 → row l m t ask ≡ Done after n called → length after.slots ≡ 64
as_many_slots l after m n t ask called sized e = (row_stays l after m n t 0 ask called sized e).count ∙ sized

-- ---- the calls back of one thread

some_top : (frames : List Frame) → IsSome (slice_get frames (length frames - 1)) → 0 < length frames
some_top [] h = absurd (let e : false ≡ true = h in cc)
some_top (f ∷ frames) h = omega arith

-- a probe has room
pub room_before : (core : Core) (what : Asked) → HasRoom what (ask_of core what) → length core.frames ≤ 16 → length (frames_before what core.frames) < 16
room_before core (Lib f) room few = room
room_before core EndDoor room few = absurd room
room_before core CallDoor room few =
    let some = some_top core.frames room in
    let n = length-take (length core.frames - 1) core.frames in
    grind (arith, common_steps)

pub room_answered : (core next : Core) (cpu : Cpu) (what : Asked) (answer : Called) (frame : Frame) (place : ℕ) → IsAnswer what (ask_of (record core { cpu = cpu }) what) answer → answer ≡ Probe frame place → next.frames ≡ core.frames → length core.frames ≤ 16 → length (frames_before what next.frames) < 16
room_answered core next cpu what answer frame place fits is same few =
    let h : IsAnswer what (ask_of (record core { cpu = cpu }) what) (Probe frame place) = subst (IsAnswer what (ask_of (record core { cpu = cpu }) what)) is fits in
    subst (λ x. length (frames_before what x) < 16) (sym same) (room_before (record core { cpu = cpu }) what h.1 few)

-- ---- the slots in use

pub used_more : (uses : List Bool) (s : ℕ) (r : Bool) (p : ℕ → Bool) → s < length uses → r ≡ p s → ((u : ℕ) → u < s → get_or uses u false ≡ p u) → (u : ℕ) → u < s + 1 → get_or (slice_set uses s r) u false ≡ p u
used_more uses s r p lt is h u below =
    ⊎_elim
    (λ e. let at : get_or (slice_set uses s r) u false ≡ r = grind (arith, common_steps) in at ∙ is ∙ ap p (sym e))
    (λ ne. let at : get_or (slice_set uses s r) u false ≡ get_or uses u false = grind (arith, common_steps) in at ∙ h u (omega arith))
    (cases_eq u s)

-- ---- the first that passes

pub find_first : (p : ℕ → Bool) (a n u : ℕ) → a ≤ u → u < a + n → p u ≡ true → ((v : ℕ) → a ≤ v → v < u → p v ≡ false) → find p (range_with_len a n) ≡ Some u
find_first p a zero u le lt h none = absurd (omega arith)
find_first p a (suc n) u le lt h none =
    elim (p a) as (λ b. p a ≡ b → cond b (Some a) (find p (range_with_len (a + 1) n)) ≡ Some u) [
      | true ↦ λ e. ap Some (first a u le e none)
      | false ↦ λ e. find_first p (a + 1) n u (later a u le e h) (omega arith) h (λ v l r. none v (omega arith) r)
    ] refl
  where
    first : (a u : ℕ) → a ≤ u → p a ≡ true → ((v : ℕ) → a ≤ v → v < u → p v ≡ false) → a ≡ u
    first a u le e none = grind (arith, none a)

    later : (a u : ℕ) → a ≤ u → p a ≡ false → p u ≡ true → a + 1 ≤ u
    later a u le e h = grind arith

pub find_none : (p : ℕ → Bool) (a n : ℕ) → ((v : ℕ) → a ≤ v → v < a + n → p v ≡ false) → find p (range_with_len a n) ≡ None
find_none p a zero none = refl
find_none p a (suc n) none = rw (none a (omega arith) (omega arith)) (find_none p (a + 1) n (λ v l r. none v (omega arith) (omega arith)))

anew : (a b c : Bool) → b ≡ c → (a && not b) ≡ (a && not c)
anew a b c e = ap (λ x. a && not x) e

pub is_newborn : (before : List Bool) (l now : LibraryData) (t : ℕ) → ((u : ℕ) → u < 64 → get_or before u false ≡ is_in_use l u) → t < 64 → (is_in_use now t && not (get_or before t false)) ≡ true → ((u : ℕ) → u < t → (is_in_use now u && not (get_or before u false)) ≡ false) → newborn l now ≡ Some t
unfolding slots
is_newborn before l now t e lt h none =
    find_first (λ u. is_in_use now u && not (is_in_use l u)) 0 64 t (omega arith) (omega arith)
    (sym (anew (is_in_use now t) _ _ (e t lt)) ∙ h)
    (λ v _ r. sym (anew (is_in_use now v) _ _ (e v (omega arith))) ∙ none v r)

pub no_newborn : (before : List Bool) (l now : LibraryData) → ((u : ℕ) → u < 64 → get_or before u false ≡ is_in_use l u) → ((u : ℕ) → u < 64 → (is_in_use now u && not (get_or before u false)) ≡ false) → newborn l now ≡ None
unfolding slots
no_newborn before l now e none =
    find_none (λ u. is_in_use now u && not (is_in_use l u)) 0 64
    (λ v _ r. sym (anew (is_in_use now v) _ _ (e v (omega arith))) ∙ none v (omega arith))

pub as_long : (uses : List Bool) (s : ℕ) (r : Bool) → length (slice_set uses s r) ≡ length uses
as_long uses s r = grind (arith, common_steps)
