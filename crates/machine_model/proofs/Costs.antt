-- What an entry costs: of the steps that are left, the waiting writes, the places that may be grown, and the one ending.
use Rattle.std.proofs.Common.{◌≡◌, ℕ, ◌+◌, ◌-◌, ◌*◌, ◌<◌, ◌≤◌, Bool, true, false, List, [], ◌∷◌, ◌++◌, Option, Some, None, refl, sym, ap, ◌∙◌, subst, slice_set, slice_index_or, length, sum_by, arith, length-append, inl, inr, nat_lt, nat_le, ◌&&◌}
use Rattle.std.specs.Prelude.{is_none}
use Rattle.std.proofs.lemmas.Bool.{cases_lt}
use Rattle.std.proofs.lemmas.Bool.Decides.{nat_tests}
use Rattle.std.proofs.lemmas.List.{set_past, get_or_past}
use Rattle.std.proofs.lemmas.List.Sums.{sum_by-set}
use Rattle.std.proofs.lemmas.Option.{option_and_then_some, none-some, same_Some, cond_some}
use Rattle.elf_image.specs.Layout.{ImageData}
use Rattle.lib_table.specs.declared.ask.Asked.{Asked}
use Rattle.lib_table.specs.declared.ask.Asked.TheVariants.{Lib}
use Rattle.lib_table.specs.Outcome.{RowResult, Done, Waits, Bad}
use Rattle.tso_memory.specs.declared.change.Change.{Change}
use Rattle.tso_memory.specs.declared.write.PendingWrite.{PendingWrite}
use Rattle.tso_memory.specs.Buffer.{pending, size_of}
use Rattle.tso_memory.specs.declared.access.Access.TheVariants as access
use Rattle.tso_memory.specs.Tso.{is_none_waiting}
use Rattle.x86_model.specs.declared.cpu.Cpu.{Cpu}
use Rattle.x86_model.specs.declared.want.Want.{Want}
use Rattle.x86_model.specs.declared.want.Want.TheVariants as wants
use Rattle.x86_model.specs.Want.{want}
use Rattle.machine_model.specs.declared.ending.RunEnd.{RunEnd}
use Rattle.journal_pack.specs.declared.entry.Entry.{Entry}
use Rattle.journal_pack.specs.declared.entry.Entry.TheVariants.{Ev, Tick, Flush, Wait, Miss, Grow, Over, Full, Dead}
use Rattle.address_space.specs.Slots.{slot_of}
use Rattle.journal_pack.specs.Entry.{private_of, thread_of}
use Rattle.machine_model.specs.CaseData.{CaseData}
use Rattle.machine_model.specs.Conversions.{memory_width_of, memory_change_of, asked_at}
use Rattle.machine_model.specs.State.{Core, Machine, with_core, list_at, start}
use Rattle.machine_model.specs.Step.{loaded, stored, exchanged, flushed, newborn, with_birth, row_at, core_with, served, serving, carried_out, later, missed, refused, slot_in, admits, lives, after_private, cpu_at, step_from, step}
use Rattle.machine_model.specs.Gated.{Gate, Spot, Both, Stand, most_grown, spot_at, spot_last, spot_after, gate_with, gated_steps, pass, with_gate, with_machine, advance, begin, Leads, IsGated}
use Rattle.machine_model.proofs.Independence.{if_some}

abbrev pub waiting : Machine → ℕ
waiting m = sum_by length m.tso.buffers

abbrev pub open_by : Option RunEnd → ℕ
open_by None = 1
open_by (Some e) = 0

-- what the machine can still do: two entries for each step, a flush of each write, an ending
abbrev pub due : CaseData → Machine → ℕ
due c m = 2 * (c.limit - m.steps) + waiting m + open_by m.ending

abbrev pub room : Gate → ℕ
room g = most_grown - length g.grown

abbrev pub left_of : CaseData → Both → ℕ
left_of c b = due c b.machine + room b.gate

-- ---- lists of writes

store_waits : (bs : List (List PendingWrite)) (t : ℕ) (w : PendingWrite) → sum_by length (slice_set bs t (slice_index_or bs t [] ++ w ∷ [])) ≤ sum_by length bs + 1
store_waits bs t w =
    elim (cases_lt t (length bs)) [
      | inl lt ↦ let h = sum_by-set length bs t (slice_index_or bs t [] ++ w ∷ []) [] lt in let n = length-append (slice_index_or bs t []) (w ∷ []) in omega arith
      | inr le ↦ let e = ap (sum_by length) (set_past bs t (slice_index_or bs t [] ++ w ∷ []) le) in omega arith
    ]

flush_waits : (bs : List (List PendingWrite)) (t : ℕ) (w : PendingWrite) (ws : List PendingWrite) → slice_index_or bs t [] ≡ w ∷ ws → sum_by length (slice_set bs t ws) + 1 ≡ sum_by length bs
flush_waits bs t w ws e =
    elim (cases_lt t (length bs)) [
      | inl lt ↦ let h = sum_by-set length bs t ws [] lt in let n = ap length e in omega arith
      | inr le ↦ absurd (let h : [] ≡ w ∷ ws = sym (get_or_past bs t [] le) ∙ e in cc)
    ]

-- ---- the machine

-- as many steps, and at most one write more
record Adds (m n : Machine) : Type 0 where
  steps : n.steps ≡ m.steps
  waits : waiting n ≤ waiting m + 1

adds_loaded : (m : Machine) (t : ℕ) (cpu : Cpu) (a n : ℕ) (o : Option ℕ) → Adds m (loaded m t cpu a n o)
adds_loaded m t cpu a n None = record { steps = refl; waits = omega arith }
adds_loaded m t cpu a n (Some x) = record { steps = refl; waits = omega arith }

adds_stored : (m : Machine) (t : ℕ) (cpu : Cpu) (write : PendingWrite) (next : Cpu) (o : Option ℕ) → Adds m (stored m t cpu write next o)
adds_stored m t cpu write next None = record { steps = refl; waits = store_waits m.tso.buffers (slot_of t) write }
adds_stored m t cpu write next (Some x) = record { steps = refl; waits = omega arith }

adds_exchanged : (m : Machine) (t : ℕ) (cpu : Cpu) (a n : ℕ) (change : Change) (o : Option ℕ) → Adds m (exchanged m t cpu a n change o)
adds_exchanged m t cpu a n change None = record { steps = refl; waits = omega arith }
adds_exchanged m t cpu a n change (Some x) = record { steps = refl; waits = omega arith }

adds_birth : (m n : Machine) (o : Option ℕ) → Adds m n → Adds m (with_birth n o)
adds_birth m n None l = l
adds_birth m n (Some v) l = record { steps = l.steps; waits = l.waits }

adds_served : (m n : Machine) (t : ℕ) (core : Core) (what : Asked) (r : RowResult) → served m t core what r ≡ Some n → Adds m n
adds_served m n t core what (Done after memory answer) p = subst (λ x. Adds m x) (same_Some _ n p) (adds_birth m _ (newborn m.library after) (record { steps = refl; waits = omega arith }))
adds_served m n t core what Waits p = absurd (none-some n p)
adds_served m n t core what (Bad kind) p = subst (λ x. Adds m x) (same_Some _ n p) (record { steps = refl; waits = omega arith })

adds_serving : (m n : Machine) (t : ℕ) (core : Core) (what : Asked) → serving m t core what ≡ Some n → Adds m n
adds_serving m n t core what p = adds_served m n t core what (row_at m t core what) ((if_some (is_none_waiting (list_at m (slot_of t))) _ n p).1)

adds_carried : (w : Want) (m n : Machine) (t : ℕ) (cpu : Cpu) → carried_out w m t cpu ≡ Some n → Adds m n
adds_carried (wants.Private next) m n t cpu p = absurd (none-some n p)
adds_carried (wants.Load a w) m n t cpu p = subst (λ x. Adds m x) (same_Some _ n p) (adds_loaded m t cpu a (size_of (memory_width_of w)) (refused m access.Load a (size_of (memory_width_of w))))
adds_carried (wants.Store a w value next) m n t cpu p = subst (λ x. Adds m x) (same_Some _ n p) (adds_stored m t cpu (pending a (memory_width_of w) value) next (refused m access.Store a (size_of (memory_width_of w))))
adds_carried (wants.Fence next) m n t cpu p = subst (λ x. Adds m x) (cond_some (is_none_waiting (list_at m (slot_of t))) _ n p).1 (record { steps = refl; waits = omega arith })
adds_carried (wants.Locked a w change) m n t cpu p = subst (λ x. Adds m x) (cond_some (is_none_waiting (list_at m (slot_of t))) _ n p).1 (adds_exchanged m t cpu a (size_of (memory_width_of w)) (memory_change_of change) (refused m access.Locked a (size_of (memory_width_of w))))
adds_carried (wants.Call f) m n t cpu p = adds_serving m n t (core_with m t cpu) (Lib f) p
adds_carried (wants.Door d) m n t cpu p = adds_serving m n t (core_with m t cpu) (asked_at d) p
adds_carried (wants.Bad kind) m n t cpu p = subst (λ x. Adds m x) (same_Some _ n p) (record { steps = refl; waits = omega arith })

-- ---- entries

-- growth is paid for by the gate
abbrev paid : Entry → ℕ
paid (Grow t a) = 0
paid _ = 1

open_le : (o : Option RunEnd) → open_by o ≤ 1
open_le None = omega arith
open_le (Some e) = omega arith

lt_of : (a b : ℕ) → nat_lt a b ≡ true → a < b
lt_of a b h = grind (arith, nat_tests)

pub both_of : (a b : Bool) → (a && b) ≡ true → (a ≡ true) × (b ≡ true)
both_of true true h = (refl, refl)
both_of true false h = absurd (let e : false ≡ true = h in cc)
both_of false true h = absurd (let e : false ≡ true = h in cc)
both_of false false h = absurd (let e : false ≡ true = h in cc)

due_flushed : (c : CaseData) (m n : Machine) (t : ℕ) (ws : List PendingWrite) → list_at m t ≡ ws → flushed m t ws ≡ Some n → due c n + 1 ≤ due c m
due_flushed c m n t [] e p = absurd (none-some n p)
due_flushed c m n t (w ∷ ws) e p = subst (λ x. due c x + 1 ≤ due c m) (same_Some _ n p) (let h = flush_waits m.tso.buffers t w ws e in omega arith)

due_missed : (c : CaseData) (strict : Bool) (m : Machine) (s t : ℕ) (core : Core) (k source target : ℕ) → open_by m.ending ≡ 1 → m.steps + k < c.limit → due c (missed strict (later (with_core m s core) (k + 1)) (record { thread = t; source = source; target = target })) + 1 ≤ due c m
due_missed c true m s t core k source target going below = omega arith
due_missed c false m s t core k source target going below = omega arith

due_from : (c : CaseData) (m n : Machine) (e : Entry) (cpu : Cpu) → open_by m.ending ≡ 1 → step_from c m e cpu ≡ Some n → due c n + paid e ≤ due c m
due_from c m n (Ev t k) cpu going p =
    let q = if_some _ _ n p in
    let below = lt_of (m.steps + k) c.limit q.0 in
    let a : Adds (later m (k + 1)) n = adds_carried (want c.image cpu) (later m (k + 1)) n t cpu q.1 in
    let h = open_le n.ending in
    omega (arith, a.steps, a.waits)
due_from c m n (Tick t k) cpu going p =
    let q = cond_some _ _ n p in
    let b = both_of _ _ q.0 in
    let some = lt_of 0 k b.0 in
    let below = lt_of (m.steps + k) c.limit b.1 in
    subst (λ x. due c x + 1 ≤ due c m) q.1 (omega arith)
due_from c m n (Flush t) cpu going p = due_flushed c m n (slot_of t) (list_at m (slot_of t)) refl p
due_from c m n (Wait t k) cpu going p =
    let q = cond_some _ _ n p in
    let b = both_of _ _ (both_of _ _ (both_of _ _ q.0).0).0 in
    let some = lt_of 0 k b.0 in
    let below = lt_of (m.steps + k) c.limit b.1 in
    subst (λ x. due c x + 1 ≤ due c m) q.1 (omega arith)
due_from c m n (Miss t k source target) cpu going p =
    let q = cond_some _ _ n p in
    let b = (both_of _ _ (both_of _ _ (both_of _ _ q.0).0).0).0 in
    subst (λ x. due c x + 1 ≤ due c m) q.1 (due_missed c c.strict m (slot_of t) t _ k source target going (lt_of (m.steps + k) c.limit b))
due_from c m n (Grow t a) cpu going p = subst (λ x. due c x + 0 ≤ due c m) (cond_some _ _ n p).1 (omega arith)
due_from c m n (Over t k) cpu going p = subst (λ x. due c x + 1 ≤ due c m) (cond_some _ _ n p).1 (omega arith)
due_from c m n (Full t) cpu going p = subst (λ x. due c x + 1 ≤ due c m) (cond_some _ _ n p).1 (omega arith)
due_from c m n Dead cpu going p = subst (λ x. due c x + 1 ≤ due c m) (cond_some _ _ n p).1 (omega arith)

goes_on : (o : Option RunEnd) (a b : Bool) → (is_none o && a && b) ≡ true → open_by o ≡ 1
goes_on None a b h = refl
goes_on (Some e) a b h = absurd (let e : false ≡ true = h in cc)

due_step : (c : CaseData) (m n : Machine) (e : Entry) → step c m e ≡ Some n → due c n + paid e ≤ due c m
unfolding step
due_step c m n e p =
    let q = if_some (admits m e) _ n p in
    option_and_then_some (step_from c m e) (after_private c.image (private_of e) (cpu_at m (slot_in e))) n q.1
    (λ cpu _ r. due_from c m n e cpu (goes_on m.ending (lives m (thread_of e)) (nat_le (private_of e) 4096) q.0) r)

-- ---- the gate

room_with : (e : Entry) (g : Gate) (spot : Spot) (image : ImageData) (after : Cpu) (before : Spot) (s : Stand) → spot_last image g.grown e after before s ≡ Some spot → room (gate_with e g spot) + 1 ≤ room g + paid e
room_with (Ev t k) g spot image after before s p = omega arith
room_with (Tick t k) g spot image after before s p = omega arith
room_with (Flush t) g spot image after before s p = omega arith
room_with (Wait t k) g spot image after before s p = omega arith
room_with (Miss t k source target) g spot image after before s p = omega arith
room_with (Grow t a) g spot image after before s p = let h : length g.grown < 65536 = lt_of (length g.grown) 65536 (both_of _ _ (cond_some _ _ spot p).0).1 in omega arith
room_with (Over t k) g spot image after before s p = omega arith
room_with (Full t) g spot image after before s p = omega arith
room_with Dead g spot image after before s p = omega arith

room_pass : (image : ImageData) (e : Entry) (before after : Cpu) (g n : Gate) → pass image e before after g ≡ Some n → room n + 1 ≤ room g + paid e
unfolding pass
room_pass image e before after g n p =
    option_and_then_some (λ spot. Some (gate_with e g spot)) (spot_after image g.grown e before after (spot_at g (slot_in e))) n p (λ spot q r.
    option_and_then_some (spot_last image g.grown e after (spot_at g (slot_in e))) (gated_steps image g.grown (private_of e) (record { cpu = before; left = (spot_at g (slot_in e)).left })) spot q (λ s _ w.
    subst (λ x. room x + 1 ≤ room g + paid e) (same_Some _ n r) (room_with e g spot image after (spot_at g (slot_in e)) s w)))

-- ---- whole journals

-- what an advance is made of
pub record Came (c : CaseData) (b n : Both) (e : Entry) : Type 0 where
  pub stepped : step c b.machine e ≡ Some n.machine
  pub passed : pass c.image e (cpu_at b.machine (slot_in e)) (cpu_at n.machine (slot_in e)) b.gate ≡ Some n.gate

pub came : (c : CaseData) (b n : Both) (e : Entry) → advance c b e ≡ Some n → Came c b n e
unfolding advance
came c b n e p =
    option_and_then_some (with_machine c b e) (step c b.machine e) n p (λ m s q.
    option_and_then_some (λ g. Some (with_gate m g)) (pass c.image e (cpu_at b.machine (slot_in e)) (cpu_at m (slot_in e)) b.gate) n q (λ g r w.
    subst (λ x. Came c b x e) (same_Some _ n w) (record { stepped = s; passed = r })))

pub costs : (c : CaseData) (b n : Both) (e : Entry) → advance c b e ≡ Some n → left_of c n + 1 ≤ left_of c b
costs c b n e p =
    let h = came c b n e p in
    let d = due_step c b.machine n.machine e h.stepped in
    let r = room_pass c.image e (cpu_at b.machine (slot_in e)) (cpu_at n.machine (slot_in e)) b.gate n.gate h.passed in
    omega arith

pub all_costs : (c : CaseData) (b n : Both) (es : List Entry) → Leads c b es n → length es + left_of c n ≤ left_of c b
unfolding Leads
all_costs c b n [] p = subst (λ x. 0 + left_of c x ≤ left_of c b) p (omega arith)
all_costs c b n (e ∷ es) p =
    let first = costs c b p.0 e p.1 in
    let rest = all_costs c p.0 n es p.3 in
    omega arith

start_due : (c : CaseData) → left_of c (begin c) ≤ 2 * c.limit + 65537
unfolding begin start
start_due c = omega arith

pub bounded : (c : CaseData) (journal : List Entry) → IsGated c journal → length journal ≤ 2 * c.limit + 65537
bounded c journal g = let h = all_costs c (begin c) g.0 journal g.1 in let s = start_due c in omega arith
