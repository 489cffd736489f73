-- A thread that told its private steps before a call that waits stands at that call.
use Rattle.std.proofs.Common.{◌≡◌, ℕ, zero, suc, ◌<◌, length, Bool, true, false, cond, List, Option, Some, None, refl, sym, subst, ◌∙◌, arith}
use Rattle.std.proofs.lemmas.List.{get_or-set_same}
use Rattle.std.proofs.lemmas.Option.{none-some, option_and_then_some, same_Some}
use Rattle.address_space.proofs.Numbers.{slot_below}
use Rattle.address_space.specs.Slots.{slot_of}
use Rattle.lib_table.specs.declared.ask.Asked.{Asked}
use Rattle.x86_model.specs.Want.{want}
use Rattle.journal_pack.specs.declared.entry.Entry.TheVariants.{Ev, Wait}
use Rattle.machine_model.specs.CaseData.{CaseData}
use Rattle.machine_model.specs.Gated.{Both, Stand, advance, gated_steps, stand_at}
use Rattle.machine_model.specs.Own.{IsAhead, IsWhole}
use Rattle.machine_model.specs.State.{Core, Machine, core_at, list_at, no_core, with_core}
use Rattle.machine_model.specs.Step.{asked_by, core_with, cpu_at, later, waits_at, waits_for, with_cpu}
use Rattle.machine_model.proofs.Own.{made_of}
use Rattle.machine_model.specs.Serial.{AtEvent, Point, Reaches, Turn, act, event, event_by, flush_some, flushed_before, told_waiting}
use Rattle.machine_model.proofs.Reaches.{are_reaches, reach_of}
use Rattle.machine_model.proofs.SerialGated.{made}
use Rattle.ir_syntax.specs.declared.block.Block.{Block}
use Rattle.hall_core.specs.Hall.{HallData, both}
use Rattle.guest_parts.specs.Points.{Acts, point_at, waiting_of}
use Rattle.guest_entries.specs.Entered.{turn_in}
use Rattle.guest_entries.specs.Steps.{instruction_steps}
use Rattle.thread_step.specs.Turned.{StandsAtWait}
use Rattle.thread_step.proofs.Counting.{Before, flushes_before}
use Rattle.thread_step.proofs.Spending.{flushes_nothing, waiting_stays}

asks_same : (m n : Machine) (t : ℕ) (core : Core) (o : Option Asked) → n.library ≡ m.library → n.tso ≡ m.tso → waits_for n t core o ≡ waits_for m t core o
asks_same m n t core None l s = refl
asks_same m n t core (Some what) l s = cc

core_set : (b : Both) (t : ℕ) (core : Core) → IsWhole b → core_at (with_core b.machine (slot_of t) core) (slot_of t) ≡ core
core_set b t core whole =
    let low = slot_below t in
    let lt : slot_of t < length b.machine.cores = omega (arith, low, whole.machine.cores) in
    get_or-set_same b.machine.cores (slot_of t) core no_core lt

some_of : {A : Type 0} (b : Bool) (m n : A) → cond b (Some m) None ≡ Some n → m ≡ n
some_of true m n p = same_Some m n p
some_of false m n p = absurd (none-some n p)

-- the private steps before the call are told: the thread stands where they led
told_stands : (c : CaseData) (b n : Both) (t k : ℕ) (d : Stand) → IsWhole b → IsAhead c b (slot_of t) k d → advance c b (Wait t k) ≡ Some n → waits_at c.image b.machine t d.cpu ≡ true → waits_at c.image n.machine t (cpu_at n.machine (slot_of t)) ≡ true
told_stands c b n t k d whole ahead p waits =
    let h = made_of c b n (Wait t k) p in
    let same : h.stand ≡ d = same_Some h.stand d (sym h.is.ahead ∙ ahead) in
    let m : Machine = later (with_cpu b.machine (slot_of t) d.cpu) k in
    let is : m ≡ n.machine = subst (λ (z : Stand). later (with_cpu b.machine (slot_of t) z.cpu) k ≡ n.machine) same (some_of _ _ n.machine h.is.made) in
    let core : core_at m (slot_of t) ≡ core_with b.machine t d.cpu = core_set b t (core_with b.machine t d.cpu) whole in
    let here : waits_for m t (core_with b.machine t d.cpu) (asked_by (want c.image d.cpu)) ≡ true = asks_same b.machine m t (core_with b.machine t d.cpu) (asked_by (want c.image d.cpu)) refl refl ∙ waits in
    subst (λ (z : Machine). waits_at c.image z t (cpu_at z (slot_of t)) ≡ true) is (subst (λ (x : Core). waits_for m t (record x { cpu = x.cpu }) (asked_by (want c.image x.cpu)) ≡ true) (sym core) here)

-- no private step was made
still_stands : (c : CaseData) (b : Both) (t k : ℕ) (d : Stand) → k ≡ 0 → IsAhead c b (slot_of t) k d → waits_at c.image b.machine t d.cpu ≡ true → waits_at c.image b.machine t (cpu_at b.machine (slot_of t)) ≡ true
unfolding gated_steps
still_stands c b t zero d none ahead waits = subst (λ (z : Stand). waits_at c.image b.machine t z.cpu ≡ true) (sym (same_Some (stand_at b (slot_of t)) d ahead)) waits
still_stands c b t (suc k) d none ahead waits = absurd (omega arith)

-- ---- an event of a turn

abbrev IsStuck : CaseData → ℕ → Turn → Type 0
IsStuck c t x = waits_at c.image x.both.machine t (cpu_at x.both.machine (slot_of t)) ≡ true

told_stuck : (c : CaseData) (t k : ℕ) (d : Stand) (y x : Turn) → IsWhole y.both → IsAhead c y.both (slot_of t) k d → waits_at c.image y.both.machine t d.cpu ≡ true → told_waiting c t k y ≡ Some x → IsStuck c t x
told_stuck c t zero d y x whole ahead waits p = subst (λ (z : Turn). IsStuck c t z) (same_Some (record y { waiting = true }) x p) (still_stands c y.both t zero d refl ahead waits)
told_stuck c t (suc k) d y x whole ahead waits p =
    let m = made c (Wait t (suc k)) (record y { waiting = true }) x p in
    subst (λ (z : Turn). IsStuck c t z) m.is (told_stands c y.both m.both t (suc k) d whole ahead m.came waits)

event_stuck : (c : CaseData) (most t : ℕ) (q : Point) (y x : Turn) (b : Bool) → waits_at c.image y.both.machine t q.stand.cpu ≡ b → Before c most t q.k q.stand y → y.waiting ≡ false → event_by c t q y b ≡ Some x → x.waiting ≡ true → IsStuck c t x
event_stuck c most t q y x true is h before p waiting = told_stuck c t q.k q.stand y x h.whole h.ahead is p
event_stuck c most t q y x false is h before p waiting = absurd (let no : true ≡ false = sym waiting ∙ waiting_stays c (Ev t q.k) _ x p ∙ before in cc)

act_stuck : (c : CaseData) (reach : Reaches) (most t : ℕ) (q : Point) (s x : Turn) → Before c most t q.k q.stand s → s.waiting ≡ false → act c reach t q s AtEvent ≡ Some x → x.waiting ≡ true → IsStuck c t x
act_stuck c reach most t q s x h before p waiting =
    let n = flushed_before (want c.image q.stand.cpu) (length (list_at s.both.machine (slot_of t))) in
    option_and_then_some (event c t q) (flush_some c t n s) x p (λ y f e.
    event_stuck c most t q y x (waits_at c.image y.both.machine t q.stand.cpu) refl (flushes_before c most t q.k n q.stand s y h f) ((flushes_nothing c t n s y f).waiting ∙ before) e waiting)

-- a thread that came to a call that waits stands there
pub waits_stuck : (h new : HallData Block) (t k : ℕ) (ages after : List ℕ) (d : Stand) → IsWhole (both h) → IsAhead h.case (both h) (slot_of t) k d → new.case ≡ h.case → Acts h.case t (point_at k d) (turn_in h ages) AtEvent (waiting_of (both new) new.journal after) → StandsAtWait new t
waits_stuck h new t k ages after d whole ahead case acts =
    let before : Before h.case (instruction_steps h.case h.journal) t k d (turn_in h ages) = record { counted = record { told = refl; steps = omega arith }; whole = whole; ahead = ahead } in
    let stuck = act_stuck h.case (reach_of h.case.image) (instruction_steps h.case h.journal) t (point_at k d) (turn_in h ages) (waiting_of (both new) new.journal after) before refl (acts (reach_of h.case.image) (are_reaches h.case.image)) refl in
    subst (λ (c : CaseData). waits_at c.image (both new).machine t (cpu_at (both new).machine (slot_of t)) ≡ true) (sym case) stuck
