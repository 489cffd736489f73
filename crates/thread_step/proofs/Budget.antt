-- What an entry of a turn costs of its budget, exactly.
use Rattle.std.proofs.Common.{◌≡◌, ℕ, zero, suc, ◌+◌, Bool, true, false, cond, List, [], ◌∷◌, length, Some, None, sym, ap, ◌∙◌, arith}
use Rattle.std.proofs.lemmas.List.Sums.{sum_by-append, sum_by-cons}
use Rattle.std.proofs.lemmas.Option.{none-some, option_and_then_some, same_Some}
use Rattle.address_space.specs.Slots.{slot_of}
use Rattle.x86_model.specs.Want.{want}
use Rattle.journal_pack.specs.declared.entry.Entry.{Entry}
use Rattle.journal_pack.specs.declared.entry.Entry.TheVariants.{Ev, Miss, Over, Tick, Wait}
use Rattle.machine_model.specs.CaseData.{CaseData}
use Rattle.machine_model.specs.Gated.{Both, advance}
use Rattle.machine_model.specs.Serial.{AtEvent, AtLimit, AtMiss, AtMost, GoesOn, Point, Reaches, Rule, Turn, act, after_miss, event, event_by, flush_some, flushed_before, make, told_waiting}
use Rattle.machine_model.specs.State.{Machine, list_at}
use Rattle.machine_model.specs.Step.{waits_at}
use Rattle.machine_model.proofs.Own.{made_of}
use Rattle.machine_model.proofs.SerialGated.{made}
use Rattle.thread_step.specs.Costs.{Spends, cost_of, costs}
use Rattle.thread_step.proofs.Spending.{after_miss_nothing, flushes_nothing, waiting_stays}

-- ---- what was added

pub spends_costs : (t most few : ℕ) (a b : List Entry) (p : Spends t most few a b) → costs b ≡ costs a + costs p.entries
spends_costs t most few a b p = let all = sum_by-append cost_of a p.entries in let is = ap costs p.journal in omega (arith, all, is)

pub nothing_costs : (t few : ℕ) (a b : List Entry) → Spends t 0 few a b → costs b ≡ costs a
nothing_costs t few a b p =
    let all = spends_costs t 0 few a b p in
    let none = p.spent.costs in
    omega (arith, all, none)

make_costs : (c : CaseData) (e : Entry) (s x : Turn) → make c e s ≡ Some x → costs x.journal ≡ costs s.journal + cost_of e
make_costs c e s x p =
    let m = made c e s x p in
    let all = sum_by-append cost_of s.journal (e ∷ []) in
    let one = sum_by-cons cost_of e [] in
    let is = ap (λ (y : Turn). costs y.journal) (sym m.is) in
    omega (arith, all, one, is)

-- ---- the limit

some_is : (b : Bool) (m n : Machine) → cond b (Some m) None ≡ Some n → m ≡ n
some_is true m n p = same_Some m n p
some_is false m n p = absurd (none-some n p)

-- a run that comes to its limit ends
over_ends : (c : CaseData) (b n : Both) (t k : ℕ) → advance c b (Over t k) ≡ Some n → n.machine.ending ≡ None → ⊥
over_ends c b n t k p going =
    let h = made_of c b n (Over t k) p in
    let is = some_is _ _ n.machine h.is.made in
    let ending = ap (λ (m : Machine). m.ending) is in
    none-some _ (sym going ∙ sym ending)

-- ---- what a thread does at a point

told_waits : (c : CaseData) (t k : ℕ) (s x : Turn) → told_waiting c t k s ≡ Some x → x.waiting ≡ true
told_waits c t zero s x p = ap (λ (y : Turn). y.waiting) (sym (same_Some (record s { waiting = true }) x p))
told_waits c t (suc k) s x p = waiting_stays c (Wait t (suc k)) (record s { waiting = true }) x p

event_costs : (c : CaseData) (t : ℕ) (q : Point) (s x : Turn) (b : Bool) → event_by c t q s b ≡ Some x → x.waiting ≡ false → costs x.journal ≡ costs s.journal + 1
event_costs c t q s x true p on = absurd (let no : true ≡ false = sym (told_waits c t q.k s x p) ∙ on in cc)
event_costs c t q s x false p on = make_costs c (Ev t q.k) _ x p

-- where the thread doesn't wait and the run goes on, it costs one
pub act_costs : (c : CaseData) (reach : Reaches) (t : ℕ) (q : Point) (s x : Turn) (r : Rule) → act c reach t q s r ≡ Some x → x.waiting ≡ false → x.both.machine.ending ≡ None → costs x.journal ≡ costs s.journal + 1
act_costs c reach t q s x AtLimit p on going =
    let m = made c (Over t q.k) s x p in
    absurd (over_ends c s.both m.both t q.k m.came (ap (λ (y : Turn). y.both.machine.ending) m.is ∙ going))
act_costs c reach t q s x AtMiss p on going = option_and_then_some (after_miss c reach t q.stand.cpu.rip c.strict) (make c (Miss t q.k q.stand.cpu.last q.stand.cpu.rip) s) x p (λ y a b.
    let one = make_costs c (Miss t q.k q.stand.cpu.last q.stand.cpu.rip) s y a in
    let rest = nothing_costs t 0 y.journal x.journal (after_miss_nothing c reach t q.stand.cpu.rip c.strict y x b).free in
    omega (arith, one, rest))
act_costs c reach t q s x AtMost p on going = make_costs c (Tick t q.k) s x p
act_costs c reach t q s x AtEvent p on going = option_and_then_some (event c t q) (flush_some c t (flushed_before (want c.image q.stand.cpu) (length (list_at s.both.machine (slot_of t)))) s) x p (λ y a b.
    let first = nothing_costs t 0 s.journal y.journal (flushes_nothing c t (flushed_before (want c.image q.stand.cpu) (length (list_at s.both.machine (slot_of t)))) s y a).free in
    let one = event_costs c t q y x (waits_at c.image y.both.machine t q.stand.cpu) b on in
    omega (arith, first, one))
act_costs c reach t q s x GoesOn p on going = absurd (none-some x p)
