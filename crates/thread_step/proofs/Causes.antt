-- Why a turn ended: what its steps and its end say together.
use Rattle.std.proofs.Common.{◌≡◌, ◌≢◌, ℕ, ◌+◌, ◌<◌, ◌≤◌, List, ◌++◌, inl, inr, Some, refl, sym, subst, ap, ◌∙◌, arith}
use Rattle.std.proofs.lemmas.List.Sums.{sum_by-append}
use Rattle.address_space.specs.Slots.{slot_of}
use Rattle.journal_pack.specs.declared.entry.Entry.{Entry}
use Rattle.turn_lock.specs.declared.pass.Pass.{Pass}
use Rattle.machine_model.specs.Play.{own}
use Rattle.machine_model.specs.State.{thread_in}
use Rattle.hall_core.specs.Hall.{machine}
use Rattle.thread_step.specs.declared.guest.Guest.{Guest}
use Rattle.thread_step.specs.declared.rules.Turned.{Turned}
use Rattle.thread_step.specs.declared.rules.Turned.TheVariants.{Ended, Idle, Memory, Ran, Waiting}
use Rattle.thread_step.specs.declared.worker.Stepped.{Stepped}
use Rattle.thread_step.specs.declared.worker.Stepped.TheVariants as stepped
use Rattle.thread_step.specs.Context.{BudgetIs, Cause, EndsWith, Further, GoesOn, HallOf, Lived, Runs, Saw, SteppedIn, TurnedBy, cost_in, wait_in}
use Rattle.thread_step.specs.Costs.{Spends, cost_of, costs, slot_costs}
use Rattle.thread_step.proofs.Budget.{spends_costs}
use Rattle.thread_step.proofs.Furthering.{all_own, further_more, further_none, further_then, goes_nowhere, goes_then, none_added, own_all, own_append}

-- ---- what the slot's entries cost

costs_stay : (s : ℕ) (h n : HallOf) → GoesOn s h n → slot_costs s n.journal ≡ slot_costs s h.journal
costs_stay s h n g = ap costs (none_added s h n g)

costs_on : (s t most few : ℕ) (old new : List Entry) → slot_of t ≡ s → (p : Spends t most few old new) → slot_costs s new ≡ slot_costs s old + costs p.entries
costs_on s t most few old new slot p =
    let is = ap costs (ap (own s) p.journal ∙ own_append s old p.entries ∙ ap (λ j. own s old ++ j) (own_all s p.entries (all_own s t p.entries slot p.spent.own))) in
    let all = sum_by-append cost_of (own s old) p.entries in
    omega (arith, is, all)

-- a turn's end costs nothing
pub end_costs : (s t few : ℕ) (h mid new : HallOf) → slot_of t ≡ s → GoesOn s h mid → Spends t 0 few mid.journal new.journal → slot_costs s new.journal ≡ slot_costs s h.journal
end_costs s t few h mid new slot g p =
    let first = costs_stay s h mid g in
    let rest = costs_on s t 0 few mid.journal new.journal slot p in
    let none = p.spent.costs in
    omega (arith, first, rest, none)

budget_same : (a : Stepped) (most b c m n : ℕ) → n + b ≡ c + m → BudgetIs a most b c → BudgetIs a most m n
budget_same stepped.On most b c m n e q = omega (arith, e, q)
budget_same stepped.Waits most b c m n e q = omega (arith, e, q)
budget_same stepped.Gone most b c m n e q = tt
budget_same stepped.Ended most b c m n e q = tt
budget_same (stepped.Memory x) most b c m n e q = tt

-- entries of other slots, and then one step of the thread
pub step_budget : (a : Stepped) (p : Pass HallOf) (s t most few : ℕ) (h mid new n : HallOf) → slot_of t ≡ s → GoesOn s h mid → Spends t most few mid.journal new.journal → Saw p new → Saw p n → BudgetIs a 1 (costs mid.journal) (costs new.journal) → BudgetIs a 1 (slot_costs s h.journal) (slot_costs s n.journal)
step_budget a p s t most few h mid new n slot g spends saw same q =
    let first = costs_stay s h mid g in
    let rest = costs_on s t most few mid.journal new.journal slot spends in
    let all = spends_costs t most few mid.journal new.journal spends in
    let seen = ap (slot_costs s) (sym same.journal ∙ saw.journal) in
    budget_same a 1 (costs mid.journal) (costs new.journal) (slot_costs s h.journal) (slot_costs s n.journal) (omega (arith, first, rest, all, seen)) q

-- after steps on which the thread went on, one on which it doesn't
pub budget_then : (a : Stepped) (i budget b m x : ℕ) → i < budget → a ≢ stepped.On → m ≡ b + i → BudgetIs a 1 m x → BudgetIs a budget b x
budget_then stepped.On i budget b m x less ne e q = absurd (ne refl)
budget_then stepped.Waits i budget b m x less ne e q = omega (arith, less, e, q)
budget_then stepped.Gone i budget b m x less ne e q = tt
budget_then stepped.Ended i budget b m x less ne e q = tt
budget_then (stepped.Memory y) i budget b m x less ne e q = tt

-- ---- the first look

pub lived_by : (s t most few : ℕ) (p : Pass HallOf) (h new : HallOf) (g : Guest) → g.slot ≡ s → Saw p h → Runs h t g → Further s t most few h new → Lived s t h new
lived_by s t most few p h new g slot saw runs f = record {
  first = h;
  goes = goes_nowhere s h saw.leads;
  going = runs.going;
  lives = subst (λ z. thread_in (machine h) z ≡ Some t) slot runs.lives;
  rest = f.more;
  journal = f.journal;
}

lived_since : (s t : ℕ) (h n new : HallOf) → GoesOn s h n → Lived s t n new → Lived s t h new
lived_since s t h n new g l = record { first = l.first; goes = goes_then s h n l.first g l.goes; going = l.going; lives = l.lives; rest = l.rest; journal = l.journal }

-- ---- steps and turns

few_cost : (a : Stepped) → cost_in a ≤ 1
few_cost stepped.On = omega arith
few_cost stepped.Waits = omega arith
few_cost stepped.Gone = omega arith
few_cost stepped.Ended = omega arith
few_cost (stepped.Memory e) = omega arith

-- a step more
pub stepped_then : (a : Stepped) (p : Pass HallOf) (s t i budget : ℕ) (g : Guest) (h n : HallOf) → i < budget → g.slot ≡ s → Further s t i 0 h n → SteppedIn a p t (cost_in a) (wait_in a) g n → SteppedIn a p t budget (wait_in a) g h
stepped_then a p s t i budget g h n less slot f q =
    let few = few_cost a in
    record {
      hall = q.hall;
      saw = q.saw;
      stepped = q.stepped;
      further = further_more g.slot t (i + cost_in a) budget (0 + wait_in a) (wait_in a) h q.hall (omega (arith, less, few)) (omega arith) (further_then g.slot t i (cost_in a) 0 (wait_in a) h n q.hall (subst (λ z. Further z t i 0 h n) (sym slot) f) q.further);
    }

-- where entries of other slots alone were added before
cause_since : (a : Turned) (t most : ℕ) (h n new : HallOf) (g : Guest) → GoesOn g.slot h n → Cause a t most n new g → Cause a t most h new g
cause_since Ran t most h n new g goes q =
    let same = costs_stay g.slot h n goes in
    record {
      going = q.going;
      lived = lived_since g.slot t h n new goes q.lived;
      why = elim q.why [
        | inl e ↦ inl (omega (arith, e, same))
        | inr dead ↦ inr dead
      ];
    }
cause_since Waiting t most h n new g goes q =
    let same = costs_stay g.slot h n goes in
    record { going = q.going; lived = lived_since g.slot t h n new goes q.lived; lives = q.lives; stuck = q.stuck; empty = q.empty; told = q.told; left = omega (arith, q.left, same) }
cause_since Ended t most h n new g goes q = q
cause_since Idle t most h n new g goes q = (q.0, q.1, q.2 ∙ none_added g.slot h n goes)
cause_since (Memory e) t most h n new g goes q = q

-- where steps of a thread that lived spent the budget before
cause_then : (a : Turned) (t budget : ℕ) (h n new : HallOf) (g : Guest) → a ≢ Idle → Lived g.slot t h new → slot_costs g.slot n.journal ≡ slot_costs g.slot h.journal + budget → Cause a t 0 n new g → Cause a t budget h new g
cause_then Ran t budget h n new g ne lived spent q = record {
  going = q.going;
  lived = lived;
  why = elim q.why [
    | inl e ↦ inl (omega (arith, e, spent))
    | inr dead ↦ inr dead
  ];
}
cause_then Waiting t budget h n new g ne lived spent q = record { going = q.going; lived = lived; lives = q.lives; stuck = q.stuck; empty = q.empty; told = q.told; left = omega (arith, q.left, spent) }
cause_then Ended t budget h n new g ne lived spent q = q
cause_then Idle t budget h n new g ne lived spent q = absurd (ne refl)
cause_then (Memory e) t budget h n new g ne lived spent q = q

pub end_cause : (a : Turned) (t : ℕ) (h new : HallOf) (g : Guest) → Lived g.slot t h new → slot_costs g.slot new.journal ≡ slot_costs g.slot h.journal → EndsWith a new → Cause a t 0 h new g
end_cause Ran t h new g lived none q = record { going = q; lived = lived; why = inl (omega (arith, none)) }
end_cause Waiting t h new g lived none q = absurd q
end_cause Ended t h new g lived none q = q
end_cause Idle t h new g lived none q = absurd q
end_cause (Memory e) t h new g lived none q = tt

pub turned_since : (a : Turned) (p : Pass HallOf) (t most : ℕ) (g : Guest) (h n : HallOf) → GoesOn g.slot h n → TurnedBy a p t most g n → TurnedBy a p t most g h
turned_since a p t most g h n goes q = record {
  hall = q.hall;
  saw = q.saw;
  left = q.left;
  slot = q.slot;
  further = further_more g.slot t (0 + most) most (0 + 1) 1 h q.hall (omega arith) (omega arith) (further_then g.slot t 0 most 0 1 h n q.hall (further_none g.slot t h n goes) q.further);
  cause = cause_since a t most h n q.hall g goes q.cause;
}

-- after steps of the thread that spent the budget
pub turned_then : (a : Turned) (p back : Pass HallOf) (t budget : ℕ) (g before : Guest) (h n : HallOf) → a ≢ Idle → before.slot ≡ g.slot → Saw back h → Runs h t before → Further g.slot t budget 0 h n → slot_costs g.slot n.journal ≡ slot_costs g.slot h.journal + budget → TurnedBy a p t 0 g n → TurnedBy a p t budget g h
turned_then a p back t budget g before h n ne slot saw runs f spent q =
    let all = further_then g.slot t budget 0 0 1 h n q.hall f q.further in
    record {
      hall = q.hall;
      saw = q.saw;
      left = q.left;
      slot = q.slot;
      further = further_more g.slot t (budget + 0) budget (0 + 1) 1 h q.hall (omega arith) (omega arith) all;
      cause = cause_then a t budget h n q.hall g ne (lived_by g.slot t (budget + 0) (0 + 1) back h q.hall before slot saw runs all) spent q.cause;
    }
