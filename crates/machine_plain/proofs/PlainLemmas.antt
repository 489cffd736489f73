-- What the plain program rests on, beside the definitions.
use Rattle.std.proofs.Common.{◌≡◌, ℕ, zero, suc, ◌+◌, ◌-◌, ◌<◌, ◌≤◌, Bool, true, false, cond, not, List, [], ◌∷◌, ◌++◌, Option, Some, None, refl, sym, ap, ◌∙◌, subst, arith, length, map, get_or, length-take, replicate, slice_set, add-one, ◌&&◌, ◌||◌}
use Rattle.std.specs.Prelude.{IsSome, is_none, is_some, nat_le, slice_get, slice_index_or, find, option_and_then}
use Rattle.std.proofs.lemmas.Bool.Decides.{nat_tests}
use Rattle.tso_memory.specs.declared.write.PendingWrite.{PendingWrite}
use Rattle.tso_memory.specs.Tso.{is_none_waiting}
use Rattle.journal_pack.specs.declared.entry.Entry.{Entry}
use Rattle.machine_model.specs.CaseData.{CaseData}
use Rattle.std.specs.List.{list_all, range_with_len}
use Rattle.std.proofs.lemmas.Grind.{common_steps}
use Rattle.std.proofs.lemmas.List.{map-append}
use Rattle.lib_table.specs.declared.ask.Asked.{Asked}
use Rattle.lib_table.specs.declared.ask.Asked.TheVariants.{Lib, EndDoor, CallDoor}
use Rattle.callbacks.specs.declared.Frame.{Frame}
use Rattle.lib_table.specs.declared.answer.Called.{Called}
use Rattle.lib_table.specs.declared.answer.Called.TheVariants.{Probe}
use Rattle.elf_image.specs.Layout.{ImageData}
use Rattle.x86_model.specs.declared.cpu.Cpu.{Cpu}
use Rattle.x86_model.specs.Want.{want}
use Rattle.machine_model.specs.Frames.{HasRoom, IsAnswer}
use Rattle.lib_table.specs.declared.ask.Ask.{Ask}
use Rattle.lib_table.specs.declared.life.Life.{Life}
use Rattle.lib_table.specs.declared.life.Life.TheVariants.{Unborn, Live, Ended, Joined}
use Rattle.lib_table.specs.Library.{LibraryData, is_running, live_number, slot_at, thread_in}
use Rattle.guest_map.specs.declared.start.Start.{Start}
use Rattle.guest_map.specs.Layout.{start_of as map_start}
use Rattle.lib_table.specs.Library.{start_of as library_start}
use Rattle.tso_memory.specs.Tso.{TsoState}
use Rattle.lib_table.specs.Outcome.{Done}
use Rattle.lib_table.specs.Row.{row}
use Rattle.tso_memory.specs.Memory.{Memory}
use Rattle.machine_model.proofs.RowLives.{row_stays}
use Rattle.machine_model.specs.State.{Core, Machine, entering, no_core, slots, start}
use Rattle.journal_pack.specs.Entry.{private_of, thread_of}
use Rattle.machine_model.specs.Step.{admits, after_private, ask_of, cpu_at, is_in_use, lives, newborn, privately, slot_in, step, step_from, frames_before}

pub as_many_slots : (l after : LibraryData) (m n : Memory) (t : ℕ) (ask : Ask) (called : Called) → length l.slots ≡ 64 → row l m t ask ≡ Done after n called → length after.slots ≡ 64
as_many_slots l after m n t ask called sized e = (row_stays l after m n t 0 ask called sized e).count ∙ sized

some_top : (frames : List Frame) → IsSome (slice_get frames (length frames - 1)) → 0 < length frames
some_top [] h = absurd (let e : false ≡ true = h in cc)
some_top (f ∷ frames) h = omega arith

-- a probe has room
pub room_before : (core : Core) (what : Asked) → HasRoom what (ask_of core what) → length core.frames ≤ 16 → length (frames_before what core.frames) < 16
room_before core (Lib f) room few = room
room_before core EndDoor room few = absurd room
room_before core CallDoor room few =
    let some = some_top core.frames room in
    let n = length-take (length core.frames - 1) core.frames in
    grind (arith, common_steps)

-- ---- numbers in order

pub range_more : (a n : ℕ) → range_with_len a (n + 1) ≡ range_with_len a n ++ (a + n) ∷ []
range_more a n = rw (add-one n) (by_suc a n)
  where
    by_suc : (a n : ℕ) → range_with_len a (suc n) ≡ range_with_len a n ++ (a + n) ∷ []
    by_suc a zero = ap (λ x. x ∷ []) (omega arith)
    by_suc a (suc n) = ap (λ x. a ∷ x) (by_suc (a + 1) n ∙ ap (λ x. range_with_len (a + 1) n ++ x ∷ []) (omega arith))

pub mapped_more : (p : ℕ → Bool) (n : ℕ) → map p (range_with_len 0 (n + 1)) ≡ map p (range_with_len 0 n) ++ p n ∷ []
mapped_more p n = ap (map p) (range_more 0 n) ∙ map-append p (range_with_len 0 n) ((0 + n) ∷ []) ∙ ap (λ x. map p (range_with_len 0 n) ++ p x ∷ []) (omega arith)

-- the first that passes
pub find_first : (p : ℕ → Bool) (a n u : ℕ) → a ≤ u → u < a + n → p u ≡ true → ((v : ℕ) → a ≤ v → v < u → p v ≡ false) → find p (range_with_len a n) ≡ Some u
find_first p a zero u le lt h none = absurd (omega arith)
find_first p a (suc n) u le lt h none =
    elim (p a) as (λ b. p a ≡ b → cond b (Some a) (find p (range_with_len (a + 1) n)) ≡ Some u) [
      | true ↦ λ e. ap Some (first a u le e none)
      | false ↦ λ e. find_first p (a + 1) n u (later a u le e h) (omega arith) h (λ v l r. none v (omega arith) r)
    ] refl
  where
    first : (a u : ℕ) → a ≤ u → p a ≡ true → ((v : ℕ) → a ≤ v → v < u → p v ≡ false) → a ≡ u
    first a u le e none = grind (arith, none a)

    later : (a u : ℕ) → a ≤ u → p a ≡ false → p u ≡ true → a + 1 ≤ u
    later a u le e h = grind arith

pub find_none : (p : ℕ → Bool) (a n : ℕ) → ((v : ℕ) → a ≤ v → v < a + n → p v ≡ false) → find p (range_with_len a n) ≡ None
find_none p a zero none = refl
find_none p a (suc n) none = rw (none a (omega arith) (omega arith)) (find_none p (a + 1) n (λ v l r. none v (omega arith) (omega arith)))

-- ---- who is born

get_or-range : (p : ℕ → Bool) (a n u : ℕ) → u < n → get_or (map p (range_with_len a n)) u false ≡ p (a + u)
get_or-range p a zero u lt = absurd (omega arith)
get_or-range p a (suc n) zero lt = ap p (omega arith)
get_or-range p a (suc n) (suc u) lt = get_or-range p (a + 1) n u (omega arith) ∙ ap p (omega arith)

lived : (p : ℕ → Bool) (before : List Bool) (u : ℕ) → before ≡ map p slots → u < 64 → get_or before u false ≡ p u
unfolding slots
lived p before u e lt = ap (λ x. get_or x u false) e ∙ get_or-range p 0 64 u lt ∙ ap p (omega arith)

anew : (a b c : Bool) → b ≡ c → (a && not b) ≡ (a && not c)
anew a b c e = ap (λ x. a && not x) e

pub is_newborn : (before : List Bool) (l now : LibraryData) (t : ℕ) → before ≡ map (is_in_use l) slots → t < 64 → (is_in_use now t && not (get_or before t false)) ≡ true → ((u : ℕ) → u < t → (is_in_use now u && not (get_or before u false)) ≡ false) → newborn l now ≡ Some t
unfolding slots
is_newborn before l now t e lt h none =
    find_first (λ u. is_in_use now u && not (is_in_use l u)) 0 64 t (omega arith) (omega arith)
    (sym (anew (is_in_use now t) _ _ (lived (is_in_use l) before t e lt)) ∙ h)
    (λ v _ r. sym (anew (is_in_use now v) _ _ (lived (is_in_use l) before v e (omega arith))) ∙ none v r)

pub no_newborn : (before : List Bool) (l now : LibraryData) → before ≡ map (is_in_use l) slots → ((u : ℕ) → u < 64 → (is_in_use now u && not (get_or before u false)) ≡ false) → newborn l now ≡ None
unfolding slots
no_newborn before l now e none =
    find_none (λ u. is_in_use now u && not (is_in_use l u)) 0 64
    (λ v _ r. sym (anew (is_in_use now v) _ _ (lived (is_in_use l) before v e (omega arith))) ∙ none v (omega arith))

-- ---- a probe's search

pub room_answered : (core next : Core) (cpu : Cpu) (what : Asked) (answer : Called) (frame : Frame) (place : ℕ) → IsAnswer what (ask_of (record core { cpu = cpu }) what) answer → answer ≡ Probe frame place → next.frames ≡ core.frames → length core.frames ≤ 16 → length (frames_before what next.frames) < 16
room_answered core next cpu what answer frame place fits is same few =
    let h : IsAnswer what (ask_of (record core { cpu = cpu }) what) (Probe frame place) = subst (IsAnswer what (ask_of (record core { cpu = cpu }) what)) is fits in
    subst (λ x. length (frames_before what x) < 16) (sym same) (room_before (record core { cpu = cpu }) what h.1 few)

-- ---- private steps

pub one_private : (image : ImageData) (n : ℕ) (cpu at next : Cpu) → after_private image n cpu ≡ Some at → privately (want image at) ≡ Some next → after_private image (n + 1) cpu ≡ Some next
unfolding after_private
one_private image n cpu at next e w = rw (add-one n) (ap (option_and_then (λ x. privately (want image x))) e ∙ w)

not_private : (image : ImageData) (n : ℕ) (cpu at : Cpu) → after_private image n cpu ≡ Some at → privately (want image at) ≡ None → after_private image (suc n) cpu ≡ None
unfolding after_private
not_private image n cpu at e w = ap (option_and_then (λ x. privately (want image x))) e ∙ w

still_none : (image : ImageData) (n more : ℕ) (cpu : Cpu) → after_private image n cpu ≡ None → after_private image (more + n) cpu ≡ None
unfolding after_private
still_none image n zero cpu e = let z : zero + n ≡ n = omega arith in ap (λ x. after_private image x cpu) z ∙ e
still_none image n (suc more) cpu e = ap (λ x. after_private image x cpu) (by_suc more n) ∙ ap (option_and_then (λ x. privately (want image x))) (still_none image n more cpu e)
  where
    by_suc : (a b : ℕ) → suc a + b ≡ suc (a + b)
    by_suc a b = omega arith

pub never_private : (image : ImageData) (n k : ℕ) (cpu at : Cpu) → after_private image n cpu ≡ Some at → privately (want image at) ≡ None → n < k → after_private image k cpu ≡ None
never_private image n k cpu at e w lt = let z : k ≡ (k - suc n) + suc n = omega arith in ap (λ x. after_private image x cpu) z ∙ still_none image (suc n) (k - suc n) cpu (not_private image n cpu at e w)

-- ---- an entry

pub is_step : (c : CaseData) (m : Machine) (e : Entry) (cpu : Cpu) → m.ending ≡ None → lives m (thread_of e) ≡ true → private_of e ≤ 4096 → after_private c.image (private_of e) (cpu_at m (slot_in e)) ≡ Some cpu → step c m e ≡ step_from c m e cpu
unfolding step
is_step c m e cpu going live few p =
    let a : is_none m.ending ≡ true = ap is_none going in
    let b : nat_le (private_of e) 4096 ≡ true = grind (arith, nat_tests) in
    let ok : admits m e ≡ true = ap (λ x. x && lives m (thread_of e) && nat_le (private_of e) 4096) a ∙ ap (λ x. true && x && nat_le (private_of e) 4096) live ∙ b in
    ap (λ x. cond x (option_and_then (step_from c m e) (after_private c.image (private_of e) (cpu_at m (slot_in e)))) None) ok ∙ ap (option_and_then (step_from c m e)) p

pub not_admitted : (c : CaseData) (m : Machine) (e : Entry) → admits m e ≡ false → step c m e ≡ None
unfolding step
not_admitted c m e h = ap (λ x. cond x (option_and_then (step_from c m e) (after_private c.image (private_of e) (cpu_at m (slot_in e)))) None) h

none_anyway : {A : Type 0} (b : Bool) (o : Option A) → o ≡ None → cond b o None ≡ None
none_anyway true o h = h
none_anyway false o h = refl

pub not_so_private : (c : CaseData) (m : Machine) (e : Entry) → after_private c.image (private_of e) (cpu_at m (slot_in e)) ≡ None → step c m e ≡ None
unfolding step
not_so_private c m e h = none_anyway (admits m e) _ (ap (option_and_then (step_from c m e)) h)

pub not_named : (c : CaseData) (m : Machine) (e : Entry) → lives m (thread_of e) ≡ false → step c m e ≡ None
not_named c m e h = not_admitted c m e (named_not (is_none m.ending) (lives m (thread_of e)) (nat_le (private_of e) 4096) h)
  where
    named_not : (a b d : Bool) → b ≡ false → (a && b && d) ≡ false
    named_not true true d h = absurd (let e : true ≡ false = h in cc)
    named_not true false d h = refl
    named_not false b d h = refl

pub too_private : (c : CaseData) (m : Machine) (e : Entry) → 4096 < private_of e → step c m e ≡ None
too_private c m e h = not_admitted c m e (few_not (is_none m.ending) (lives m (thread_of e)) (nat_le (private_of e) 4096) (grind (arith, nat_tests)))
  where
    few_not : (a b d : Bool) → d ≡ false → (a && b && d) ≡ false
    few_not true true d h = h
    few_not true false d h = refl
    few_not false b d h = refl

abbrev machine_with : List Core → TsoState → LibraryData → Machine
machine_with cores memory library = record { cores = cores; tso = memory; library = library; steps = 0; ending = None }

-- the machine before the first step, part by part
pub started : (c : CaseData) (cores : List Core) (memory : TsoState) (library : LibraryData) (s : Start) (input : List ℕ) → s ≡ map_start c.image c.args → cores ≡ slice_set (replicate 64 no_core) 0 (record { cpu = entering c.image s.rsp; frames = [] }) → memory ≡ s.memory → library ≡ library_start input → input ≡ c.input → machine_with cores memory library ≡ start c
unfolding start
started c cores memory library s input e f g h k = rw (f, g, h, k, e) refl

pub nothing_there : {A : Type 0} (o : Option A) → is_some o ≡ false → o ≡ None
nothing_there None e = refl
nothing_there (Some x) e = absurd (let h : true ≡ false = e in cc)
