-- Gated journals: longer ones, growth, and what entries of other threads leave.
use Rattle.std.proofs.Common.{◌≡◌, ◌≢◌, ℕ, zero, suc, ◌<◌, Bool, true, false, cond, List, [], ◌∷◌, ◌++◌, Some, refl, sym, ap, ◌∙◌, subst, arith, ◌==◌, ◌||◌, not, length, slice_index_or, Contains}
use Rattle.std.specs.Prelude.{option_and_then}
use Rattle.std.proofs.lemmas.List.{get_or-set_other}
use Rattle.std.proofs.lemmas.Option.{option_and_then_some, same_Some, cond_some}
use Rattle.elf_image.specs.Layout.{ImageData}
use Rattle.address_space.specs.Slots.{slot_of}
use Rattle.lib_table.specs.declared.slot.Slot.{Slot}
use Rattle.lib_table.specs.Library.{is_running}
use Rattle.x86_model.specs.declared.cpu.Cpu.{Cpu}
use Rattle.x86_model.specs.Want.{want}
use Rattle.journal_pack.specs.declared.entry.Entry.{Entry}
use Rattle.journal_pack.specs.declared.entry.Entry.TheVariants.{Ev, Tick, Flush, Wait, Miss, Grow, Over, Full, Dead}
use Rattle.machine_model.specs.CaseData.{CaseData}
use Rattle.machine_model.specs.State.{Machine, Thread, thread_at}
use Rattle.basic_blocks.specs.Places.{is_code_place}
use Rattle.machine_model.specs.Step.{cpu_at, is_in_use, slot_in, step, privately}
use Rattle.basic_blocks.specs.Reach.{is_among}
use Rattle.machine_model.specs.Play.{walk, play, own}
use Rattle.machine_model.specs.Gated.{Gate, Spot, Both, Stand, no_spot, spot_at, entered, within_block, between_blocks, moved_on, gated_step, gated_steps, spot_last, spot_after, grown_by, gate_with, pass, IsAllowed, with_gate, with_machine, advance, begin, Leads, IsGated, Within, stand_at, Untouched}
use Rattle.machine_model.proofs.Costs.{came, both_of}
use Rattle.machine_model.proofs.Independence.{HasSlots, leaves, threads_stay, lists_stay}
use Rattle.machine_model.proofs.Sizes.{slots_stay}

-- ---- longer journals

pub leads_on : (c : CaseData) (b m n : Both) (xs ys : List Entry) → Leads c b xs m → Leads c m ys n → Leads c b (xs ++ ys) n
unfolding Leads
leads_on c b m n [] ys p q = subst (λ x. Leads c x ys n) (sym p) q
leads_on c b m n (e ∷ xs) ys p q = (p.0, p.1, p.2, leads_on c p.0 m n xs ys p.3 q)

pub leads_one : (c : CaseData) (b n : Both) (e : Entry) → advance c b e ≡ Some n → IsAllowed c.image b.gate e → Leads c b (e ∷ []) n
unfolding Leads
leads_one c b n e p q = (n, p, q, refl)

pub leads_more : (c : CaseData) (b m n : Both) (es : List Entry) (e : Entry) → Leads c b es m → advance c m e ≡ Some n → IsAllowed c.image m.gate e → Leads c b (es ++ e ∷ []) n
leads_more c b m n es e p q r = leads_on c b m n es (e ∷ []) p (leads_one c m n e q r)

-- where a part of the way ends
pub record Halfway (c : CaseData) (b n : Both) (xs ys : List Entry) : Type 0 where
  pub middle : Both
  pub before : Leads c b xs middle
  pub after : Leads c middle ys n

pub halfway : (c : CaseData) (b n : Both) (xs ys : List Entry) → Leads c b (xs ++ ys) n → Halfway c b n xs ys
unfolding Leads
halfway c b n [] ys p = record { middle = b; before = refl; after = p }
halfway c b n (e ∷ xs) ys p =
    let h = halfway c p.0 n xs ys p.3 in
    record { middle = h.middle; before = (p.0, p.1, p.2, h.before); after = h.after }

pub leads_walk : (c : CaseData) (b n : Both) (es : List Entry) → Leads c b es n → walk (step c) b.machine es ≡ Some n.machine
unfolding Leads walk
leads_walk c b n [] p = ap (λ x. Some x.machine) p
leads_walk c b n (e ∷ es) p = ap (option_and_then (λ next. walk (step c) next es)) (came c b p.0 e p.1).stepped ∙ leads_walk c p.0 n es p.3

pub leads_play : (c : CaseData) (n : Both) (es : List Entry) → Leads c (begin c) es n → play c es ≡ Some n.machine
unfolding play begin
leads_play c n es p = leads_walk c (begin c) n es p

pub gated_before : (c : CaseData) (xs ys : List Entry) → IsGated c (xs ++ ys) → IsGated c xs
gated_before c xs ys g = let h = halfway c (begin c) g.0 xs ys g.1 in (h.middle, h.before)

-- one way leads to one place
pub leads_same : (c : CaseData) (b m n : Both) (es : List Entry) → Leads c b es m → Leads c b es n → m ≡ n
unfolding Leads
leads_same c b m n [] p q = sym p ∙ q
leads_same c b m n (e ∷ es) p q =
    let same : p.0 ≡ q.0 = same_Some p.0 q.0 (sym p.1 ∙ q.1) in
    leads_same c p.0 m n es p.3 (subst (λ x. Leads c x es n) (sym same) q.3)

pub advances : (c : CaseData) (b : Both) (m : Machine) (g : Gate) (e : Entry) → step c b.machine e ≡ Some m → pass c.image e (cpu_at b.machine (slot_in e)) (cpu_at m (slot_in e)) b.gate ≡ Some g → advance c b e ≡ Some (with_gate m g)
unfolding advance
advances c b m g e s p = ap (option_and_then (with_machine c b e)) s ∙ ap (option_and_then (λ g. Some (with_gate m g))) p

-- ---- growth

within_grown : (e : Entry) (grown : List ℕ) → Within grown (grown_by e grown)
within_grown (Ev t k) grown a h = h
within_grown (Tick t k) grown a h = h
within_grown (Flush t) grown a h = h
within_grown (Wait t k) grown a h = h
within_grown (Miss t k source target) grown a h = h
within_grown (Grow t b) grown a h = elim (b == a) as (λ x. (x || is_among grown a) ≡ true) [ true ↦ refl | false ↦ h ]
within_grown (Over t k) grown a h = h
within_grown (Full t) grown a h = h
within_grown Dead grown a h = h

-- what an entry leaves of the gate
pub record Passes (old new : Gate) (e : Entry) : Type 0 where
  pub spot : (u : ℕ) → u ≢ slot_in e → spot_at new u ≡ spot_at old u
  pub grown : new.grown ≡ grown_by e old.grown

pub passes : (image : ImageData) (e : Entry) (before after : Cpu) (g n : Gate) → pass image e before after g ≡ Some n → Passes g n e
unfolding pass
passes image e before after g n p =
    option_and_then_some (λ spot. Some (gate_with e g spot)) (spot_after image g.grown e before after (spot_at g (slot_in e))) n p
    (λ spot _ q. subst (λ x. Passes g x e) (same_Some _ n q) (record { spot = λ u ne. get_or-set_other g.spots (slot_in e) u spot no_spot ne; grown = refl }))

pub grown_after : (c : CaseData) (b n : Both) (e : Entry) → advance c b e ≡ Some n → n.gate.grown ≡ grown_by e b.gate.grown
grown_after c b n e p = (passes c.image e _ _ b.gate n.gate (came c b n e p).passed).grown

pub grows : (c : CaseData) (b n : Both) (es : List Entry) → Leads c b es n → Within b.gate.grown n.gate.grown
unfolding Leads
grows c b n [] p a h = subst (λ x. is_among x.gate.grown a ≡ true) p h
grows c b n (e ∷ es) p a h =
    grows c p.0 n es p.3 a (subst (λ x. is_among x a ≡ true) (sym (grown_after c b p.0 e p.1)) (within_grown e b.gate.grown a h))

same_place : (a : ℕ) → (a == a) ≡ true
same_place a = grind arith

grown_has : (a t : ℕ) (grown : List ℕ) → is_among (grown_by (Grow t a) grown) a ≡ true
grown_has a t grown = ap (λ x. x || is_among grown a) (same_place a)

-- each place that an entry grows is grown afterwards
pub grown_then : (c : CaseData) (b n : Both) (es : List Entry) (a t k : ℕ) → Leads c b es n → k < length es → slice_index_or es k (Grow t a) ≡ Grow t a → is_among n.gate.grown a ≡ true
unfolding Leads
grown_then c b n [] a t k p lt at = absurd (omega arith)
grown_then c b n (e ∷ es) a t zero p lt at =
    grows c p.0 n es p.3 a (rw (grown_after c b p.0 e p.1, at) (grown_has a t b.gate.grown))
grown_then c b n (e ∷ es) a t (suc k) p lt at = grown_then c p.0 n es a t k p.3 (omega arith) at

is_not : (b : Bool) → not b ≡ true → b ≡ false
is_not true h = absurd (let e : false ≡ true = h in cc)
is_not false h = refl

pass_grow : (image : ImageData) (t a : ℕ) (before after : Cpu) (g n : Gate) → pass image (Grow t a) before after g ≡ Some n → is_among g.grown a ≡ false
unfolding pass
pass_grow image t a before after g n p =
    option_and_then_some (λ spot. Some (gate_with (Grow t a) g spot)) (spot_after image g.grown (Grow t a) before after (spot_at g (slot_of t))) n p (λ spot q _.
    option_and_then_some (spot_last image g.grown (Grow t a) after (spot_at g (slot_of t))) (gated_steps image g.grown 0 (record { cpu = before; left = (spot_at g (slot_of t)).left })) spot q (λ s _ w.
    is_not _ (both_of _ _ (cond_some _ _ spot w).0).0))

-- where a place may be grown, it isn't yet
pub not_grown_yet : (c : CaseData) (b n : Both) (t a : ℕ) → advance c b (Grow t a) ≡ Some n → is_among b.gate.grown a ≡ false
not_grown_yet c b n t a p = pass_grow c.image t a _ _ b.gate n.gate (came c b n (Grow t a) p).passed

clash : {b : Bool} → b ≡ false → b ≡ true → ⊥
clash p q = let e : false ≡ true = sym p ∙ q in cc

not_at_first : (b : Bool) → (b ≡ true → ⊥) → b ≡ false
not_at_first true f = absurd (f refl)
not_at_first false f = refl

-- the same place isn't grown twice, nor one that was there at first
pub grown_once : (c : CaseData) (before after : List Entry) (t a : ℕ) → IsGated c (before ++ Grow t a ∷ after) → (is_among c.first a ≡ false) × ((u : ℕ) → ¬ Contains before (Grow u a))
unfolding Leads begin
grown_once c before after t a g =
    let h = halfway c (begin c) g.0 before (Grow t a ∷ after) g.1 in
    let not_yet : is_among h.middle.gate.grown a ≡ false = not_grown_yet c h.middle h.after.0 t a h.after.1 in (
      not_at_first (is_among c.first a) (λ e. clash not_yet (grows c (begin c) h.middle before h.before a e)),
      λ u inside. clash not_yet (grown_then c (begin c) h.middle before a u inside.0 h.before inside.1 inside.2),
    )

-- ---- entries of other threads

untouched_itself : (b : Both) (t : ℕ) → Untouched b b t
untouched_itself b t = record { thread = refl; writes = refl; spot = refl; grown = λ a h. h }

untouched_chain : {a b c : Both} {t : ℕ} → Untouched a b t → Untouched b c t → Untouched a c t
untouched_chain p q = record { thread = q.thread ∙ p.thread; writes = q.writes ∙ p.writes; spot = q.spot ∙ p.spot; grown = λ x h. q.grown x (p.grown x h) }

pub untouched_by : (c : CaseData) (b n : Both) (e : Entry) (s : ℕ) → HasSlots b.machine → advance c b e ≡ Some n → s ≢ slot_in e → is_in_use b.machine.library s ≡ true → Untouched b n s
untouched_by c b n e s sized p ne live =
    let h = came c b n e p in
    record {
      thread = threads_stay c b.machine n.machine e sized h.stepped s ne live;
      writes = lists_stay c b.machine n.machine e sized h.stepped s ne;
      spot = (passes c.image e _ _ b.gate n.gate h.passed).spot s ne;
      grown = λ a g. subst (λ x. is_among x a ≡ true) (sym (grown_after c b n e p)) (within_grown e b.gate.grown a g);
    }

live_on : (c : CaseData) (b n : Both) (e : Entry) (s : ℕ) → HasSlots b.machine → advance c b e ≡ Some n → s ≢ slot_in e → is_in_use b.machine.library s ≡ true → is_in_use n.machine.library s ≡ true
live_on c b n e s sized p ne live = ap (λ (x : Slot). is_running x.life) ((leaves c b.machine n.machine e sized (came c b n e p).stepped).lives s ne live) ∙ live

-- without an entry of t the first isn't one, nor is one among the rest
cons_nil : {A : Type 0} {P : Type 0} (x : A) (xs : List A) → x ∷ xs ≡ [] → P
cons_nil x xs e = absurd (grind arith)

own_none : (t : ℕ) (e : Entry) (es : List Entry) → own t (e ∷ es) ≡ [] → (t ≢ slot_in e) × (own t es ≡ [])
own_none t e es none =
    elim (slot_in e == t) as (λ b. (slot_in e == t) ≡ b → cond b (e ∷ own t es) (own t es) ≡ [] → (t ≢ slot_in e) × (own t es ≡ [])) [
      | true ↦ λ _ n. cons_nil e (own t es) n
      | false ↦ λ h n. (grind arith, n)
    ] refl none

pub untouched : (c : CaseData) (b n : Both) (s : ℕ) (es : List Entry) → HasSlots b.machine → own s es ≡ [] → is_in_use b.machine.library s ≡ true → Leads c b es n → Untouched b n s
unfolding Leads
untouched c b n s [] sized none live p = subst (λ x. Untouched b x s) p (untouched_itself b s)
untouched c b n s (e ∷ es) sized none live p =
    let parts = own_none s e es none in
    untouched_chain (untouched_by c b p.0 e s sized p.1 parts.0 live) (untouched c p.0 n s es (slots_stay c b.machine p.0.machine e sized (came c b p.0 e p.1).stepped) parts.1 (live_on c b p.0 e s sized p.1 parts.0 live) p.3)

-- ---- private steps after growth

entered_grows : (image : ImageData) (old new : List ℕ) → Within old new → (rip : ℕ) (left l : List ℕ) → within_block image old rip left ≡ Some l → within_block image new rip left ≡ Some l
entered_grows image old new w rip [] l e = let h = cond_some (is_among old rip) _ l e in rw (w rip h.0) (ap (λ x. Some x) h.1)
entered_grows image old new w rip (x ∷ xs) l e = e

by_place : (b : Bool) (image : ImageData) (old new : List ℕ) → Within old new → (rip : ℕ) (left l : List ℕ) → cond b (within_block image old rip left) (between_blocks left) ≡ Some l → cond b (within_block image new rip left) (between_blocks left) ≡ Some l
by_place true image old new w rip left l e = entered_grows image old new w rip left l e
by_place false image old new w rip left l e = e

enters : (image : ImageData) (old new : List ℕ) → Within old new → (rip : ℕ) (left l : List ℕ) → entered image old rip left ≡ Some l → entered image new rip left ≡ Some l
enters image old new w rip left l e = by_place (is_code_place image rip) image old new w rip left l e

step_grows : (image : ImageData) (old new : List ℕ) → Within old new → (s d : Stand) → gated_step image old s ≡ Some d → gated_step image new s ≡ Some d
step_grows image old new w s d e =
    option_and_then_some (moved_on (privately (want image s.cpu))) (entered image old s.cpu.rip s.left) d e (λ left p q.
    ap (option_and_then (moved_on (privately (want image s.cpu)))) (enters image old new w s.cpu.rip s.left left p) ∙ q)

pub steps_grow : (image : ImageData) (old new : List ℕ) → Within old new → (k : ℕ) (s d : Stand) → gated_steps image old k s ≡ Some d → gated_steps image new k s ≡ Some d
unfolding gated_steps
steps_grow image old new w zero s d e = e
steps_grow image old new w (suc k) s d e =
    option_and_then_some (gated_step image old) (gated_steps image old k s) d e (λ x p q.
    ap (option_and_then (gated_step image new)) (steps_grow image old new w k s x p) ∙ step_grows image old new w x d q)

abbrev stand_by : Thread → Spot → Stand
stand_by thread spot = record { cpu = thread.core.cpu; left = spot.left }

-- private steps that may be made in blocks may still be made after entries of other threads
pub ahead_untouched : (c : CaseData) (b n : Both) (s k : ℕ) (d : Stand) → Untouched b n s → gated_steps c.image b.gate.grown k (stand_at b s) ≡ Some d → gated_steps c.image n.gate.grown k (stand_at n s) ≡ Some d
ahead_untouched c b n s k d u e =
    let same : stand_at n s ≡ stand_at b s = ap (λ x. stand_by x (spot_at n.gate s)) u.thread ∙ ap (stand_by (thread_at b.machine s)) u.spot in
    ap (gated_steps c.image n.gate.grown k) same ∙ steps_grow c.image b.gate.grown n.gate.grown u.grown k (stand_at b s) d e

pub ahead_stays : (c : CaseData) (b n : Both) (s k : ℕ) (es : List Entry) (d : Stand) → HasSlots b.machine → own s es ≡ [] → is_in_use b.machine.library s ≡ true → Leads c b es n → gated_steps c.image b.gate.grown k (stand_at b s) ≡ Some d → gated_steps c.image n.gate.grown k (stand_at n s) ≡ Some d
ahead_stays c b n s k es d sized none live p e = ahead_untouched c b n s k d (untouched c b n s es sized none live p) e
