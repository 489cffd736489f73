use Rattle.std.proofs.Common.{◌≡◌, ◌+◌, ◌-◌}
use Rattle.turn_lock.specs.Lock.{lock_id}
use Rattle.turn_lock.specs.Words.{lock_of, pass_number}
use Rattle.guest_parts.specs.Running.{Rises}
use Rattle.thread_step.specs.Context.{Further, HallOf, Saw, WorksIn}
use Rattle.thread_step.specs.Costs.{slot_costs}
use Rattle.thread_step.specs.Counts.{slot_steps}
use Rattle.thread_step.proofs.worker.steps.Given as goal

pub record OnTheWay (Lock Number Slot Works Count Budget : Type 0) : Type 0 where
  pub lock : Lock
  pub number : Number
  pub slot : Slot
  pub works : Works
  pub count : Count
  pub budget : Budget

abbrev pub invariant-loop-i : goal.invariant-loop-i
invariant-loop-i g l = OnTheWay
    (lock_of l.pass ≡ lock_id l.lock)
    (pass_number l.pass ≡ pass_number l.initial.pass)
    (l.guest.slot ≡ l.initial.guest.slot)
    ((h : HallOf) → WorksIn (lock_id l.lock) l.initial.pass l.t l.initial.guest h → (n : HallOf) × WorksIn (lock_id l.lock) l.pass l.t l.guest n × Further l.initial.guest.slot l.t l._i 0 h n)
    ((h n : HallOf) → WorksIn (lock_id l.lock) l.initial.pass l.t l.initial.guest h → Saw l.pass n → Rises (g.N.Engine.count l.initial.engine) (g.N.Engine.count l.engine) ((slot_steps n.case l.initial.guest.slot n.journal + l.guest.own.k) - (slot_steps h.case l.initial.guest.slot h.journal + l.initial.guest.own.k)))
    ((h n : HallOf) → WorksIn (lock_id l.lock) l.initial.pass l.t l.initial.guest h → Saw l.pass n → slot_costs l.initial.guest.slot n.journal ≡ slot_costs l.initial.guest.slot h.journal + l._i)
