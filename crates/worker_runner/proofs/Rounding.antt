-- Rounds of workers: the contexts after a round, and what was written so far.
use Rattle.std.proofs.Common.{◌≡◌, ℕ, ◌+◌, ◌-◌, ◌<◌, ◌≤◌, ◌⊎◌, inl, inr, ◌++◌, false, List, [], drop, length, slice_index_or, take, Option, sym, subst, ap, ◌∙◌, arith, append-nil}
use Rattle.std.specs.Prelude.{All}
use Rattle.std.proofs.lemmas.List.{drop_all, take_all}
use Rattle.atomic_table.specs.Seated.{TableId}
use Rattle.turn_lock.specs.declared.pass.Pass.{Pass}
use Rattle.machine_model.specs.CaseData.{CaseData}
use Rattle.ir_runner.specs.Outputs.{Gains, HoldsPart, Written, written}
use Rattle.ir_runner.proofs.Sinks.{gains_nothing, gains_on, holds_on}
use Rattle.thread_step.specs.declared.context.Context.{Context}
use Rattle.thread_step.specs.declared.guest.Guest.{Guest}
use Rattle.thread_step.specs.declared.rules.Rules.{Rules}
use Rattle.thread_step.specs.declared.rules.Turned.{Turned}
use Rattle.thread_step.specs.declared.rules.Turned.TheVariants.{Ran, Waiting, Ended, Idle, Memory}
use Rattle.thread_step.specs.Context.{HallOf, IsContext, Saw, TookTurn, context_slot}
use Rattle.thread_step.specs.Guest.{IsLeft, IsReady}
use Rattle.thread_step.specs.Turned.{AreRules}
use Rattle.worker_runner.specs.declared.round.Worker.{Worker}
use Rattle.worker_runner.specs.declared.watch.Over.{Over}
use Rattle.worker_runner.specs.declared.watch.Over.TheVariants as over
use Rattle.worker_runner.specs.declared.watch.Place.{Place}
use Rattle.worker_runner.specs.Rounds.{AreHeld, AreReady, EndIs, HadMemory, IsHeldAt, IsReadyAt}
use Rattle.worker_runner.specs.Watched.{Grew, IsPlace, OverIs, library_of}
use Rattle.guest_parts.specs.Running.{Rises}
use Rattle.guest_steps.proofs.Striding.{rises_then}
use Rattle.thread_step.proofs.Counting.{rises_less}
use Rattle.thread_step.specs.Context.{context_steps}
use Rattle.thread_step.specs.Counts.{slot_steps}
use Rattle.worker_runner.specs.Counts.{AreCounted, CountsIts, HasCounted}
use Rattle.worker_runner.specs.Workers.{CameBack, MayGo, TookIts}

-- ---- contexts

ready_again : (a : Turned) (h : HallOf) (g : Guest) → HadMemory a → IsLeft a h g → IsReady h g
ready_again Ran h g had left = left
ready_again Waiting h g had left = left
ready_again Ended h g had left = left
ready_again Idle h g had left = left
ready_again (Memory e) h g had left = absurd had

ready_on : (key : TableId) (c : CaseData) (k : ℕ) (old new : Context) (a : Turned) → IsReadyAt key c k old → TookIts key old new a → HadMemory a → IsReadyAt key c k new
ready_on key c k old new a x took had =
    let t = took x.hall x.context in
    record {
      hall = t.hall;
      context = record { pass = t.pass; there = t.there; holds = record { lock = t.lock; number = t.number; saw = t.saw; ready = ready_again a t.hall new.guest had t.left } };
      case = t.case ∙ x.case;
      its = t.slot ∙ x.its;
    }

held_on : (key : TableId) (c : CaseData) (k : ℕ) (old new : Context) (a : Turned) → IsReadyAt key c k old → TookIts key old new a → IsHeldAt key c k new
held_on key c k old new a x took =
    let t = took x.hall x.context in
    record { pass = t.pass; there = t.there; lock = t.lock; number = t.number ∙ t.slot ∙ x.its; hall = t.hall; saw = t.saw; case = t.case ∙ x.case }

-- one turn
pub one_turn : (key : TableId) (most : ℕ) (old new : Context) (a : Turned) → ((h : HallOf) → IsContext key old h → TookTurn a key most old new h) → TookIts key old new a
one_turn key most old new a took h ctx =
    let t = took h ctx in
    let b = t.turned.1 in
    record { pass = t.pass; there = t.there; lock = t.lock; number = t.number; slot = t.slot; hall = b.hall; saw = b.saw; case = b.further.case; left = b.left }

-- after a turn that ended by its budget another may follow
pub context_again : (key : TableId) (old new : Context) (h : HallOf) → (t : CameBack Ran key old new h) → IsContext key new t.hall
context_again key old new h t = record { pass = t.pass; there = t.there; holds = record { lock = t.lock; number = t.number; saw = t.saw; ready = t.left } }

pub took_then : (key : TableId) (old mid new : Context) (a : Turned) → TookIts key old mid Ran → TookIts key mid new a → TookIts key old new a
took_then key old mid new a first then h ctx =
    let m = first h ctx in
    let t = then m.hall (context_again key old mid h m) in
    record { pass = t.pass; there = t.there; lock = t.lock; number = t.number; slot = t.slot ∙ m.slot; hall = t.hall; saw = t.saw; case = t.case ∙ m.case; left = t.left }

pub counts_then : (key : TableId) (a b e : ℕ) (old mid new : Context) → TookIts key old mid Ran → CountsIts key a b old mid → CountsIts key b e mid new → CountsIts key a e old new
counts_then key a b e old mid new first p q h n pass ctx there saw =
    let m = first h ctx in
    let one = p h m.hall m.pass ctx m.there m.saw in
    let two = subst (λ s. Rises b e ((slot_steps n.case s n.journal + context_steps new) - (slot_steps m.hall.case s m.hall.journal + context_steps mid))) m.slot (q m.hall n pass (context_again key old mid h m) there saw) in
    rises_then a b e (slot_steps h.case (context_slot old) h.journal + context_steps old) (slot_steps m.hall.case (context_slot old) m.hall.journal + context_steps mid) (slot_steps n.case (context_slot old) n.journal + context_steps new) one two

pub may_go_on : (key : TableId) (r : Rules) (old new : Context) → TookIts key old new Ran → MayGo key r old → MayGo key r new
may_go_on key r old new took go =
    let t = took go.0 go.1 in
    (t.hall, context_again key old new go.0 t, subst (λ z. AreRules z r) (sym t.case) go.2)

held_ready : (key : TableId) (c : CaseData) (k : ℕ) (ctx : Context) → IsReadyAt key c k ctx → IsHeldAt key c k ctx
held_ready key c k ctx x =
    let q = x.context in
    record { pass = q.pass; there = q.there; lock = q.holds.lock; number = q.holds.number ∙ x.its; hall = x.hall; saw = q.holds.saw; case = x.case }

-- a worker took its turns, or nothing was done with it
abbrev pub DidOne : {N : Type 0} → TableId → (N → ℕ) → Worker N → Worker N → Type 0
DidOne key count old new = (TookIts key old.ctx new.ctx new.turned × CountsIts key (count old.engine) (count new.engine) old.ctx new.ctx) ⊎ (new ≡ old)

counted_on : (key : TableId) (c : CaseData) (k a b : ℕ) (old new : Context) → IsReadyAt key c k old → HasCounted a k old → CountsIts key a b old new → HasCounted b k new
counted_on key c k a b old new x had its = λ n p there saw.
    let before = had x.hall x.context.pass x.context.there x.context.holds.saw in
    let after = subst (λ s. Rises a b ((slot_steps n.case s n.journal + context_steps new) - (slot_steps x.hall.case s x.hall.journal + context_steps old))) x.its (its x.hall n p x.context there saw) in
    let last = slot_steps n.case k n.journal + context_steps new in
    let less : last ≤ last - 0 = omega arith in
    rises_less 0 b (last - 0) last less (rises_then 0 a b 0 (slot_steps x.hall.case k x.hall.journal + context_steps old) last (rises_less 0 a (slot_steps x.hall.case k x.hall.journal + context_steps old) (slot_steps x.hall.case k x.hall.journal + context_steps old - 0) (omega arith) before) after)

module _ {N : Type 0} (key : TableId) (c : CaseData) where
  pub all_go : (r : Rules) (ws : List (Worker N)) → AreReady key c ws → AreRules c r → All (λ w. MayGo key r w.ctx) ws
  all_go r ws ready rules = λ k d less. let x = ready.1 k d less in (x.hall, x.context, subst (λ z. AreRules z r) (sym x.case) rules)

  pub all_held : (ws : List (Worker N)) → AreReady key c ws → AreHeld key c ws
  all_held ws ready = (ready.0, λ k d less. held_ready key c k (slice_index_or ws k d).ctx (ready.1 k d less))

  module _ (count_of : N → ℕ) (ws vs : List (Worker N)) (ready : AreReady key c ws) (count : length vs ≡ length ws) (took : (k : ℕ) (d : Worker N) → k < length ws → DidOne key count_of (slice_index_or ws k d) (slice_index_or vs k d)) where
    pub all_ready_on : ((k : ℕ) (d : Worker N) → k < length vs → HadMemory (slice_index_or vs k d).turned) → AreReady key c vs
    all_ready_on had = (
      count ∙ ready.0,
      λ k d less.
          let before = subst (λ n. k < n) count less in
          elim (took k d before) [
            | inl did ↦ ready_on key c k (slice_index_or ws k d).ctx (slice_index_or vs k d).ctx (slice_index_or vs k d).turned (ready.1 k d before) did.0 (had k d less)
            | inr same ↦ subst (λ (w : Worker N). IsReadyAt key c k w.ctx) (sym same) (ready.1 k d before)
          ],
    )

    pub all_held_on : AreHeld key c vs
    all_held_on = (
      count ∙ ready.0,
      λ k d less.
          let before = subst (λ n. k < n) count less in
          elim (took k d before) [
            | inl did ↦ held_on key c k (slice_index_or ws k d).ctx (slice_index_or vs k d).ctx (slice_index_or vs k d).turned (ready.1 k d before) did.0
            | inr same ↦ held_ready key c k (slice_index_or vs k d).ctx (subst (λ (w : Worker N). IsReadyAt key c k w.ctx) (sym same) (ready.1 k d before))
          ],
    )

    pub all_counted_on : AreCounted count_of ws → AreCounted count_of vs
    all_counted_on had = λ k d less.
        let before = subst (λ n. k < n) count less in
        elim (took k d before) [
          | inl did ↦ counted_on key c k (count_of (slice_index_or ws k d).engine) (count_of (slice_index_or vs k d).engine) (slice_index_or ws k d).ctx (slice_index_or vs k d).ctx (ready.1 k d before) (had k d before) did.1
          | inr same ↦ subst (λ (w : Worker N). HasCounted (count_of w.engine) k w.ctx) (sym same) (had k d before)
        ]

  -- a run under way
  pub record Mid (workers : List (Worker N)) (p : Pass HallOf) (at : Place) (one two : Written) : Type 0 where
    pub hall : HallOf
    pub saw : Saw p hall
    pub case : hall.case ≡ c
    pub place : IsPlace at hall
    pub ready : AreReady key c workers
    pub first : Gains one (library_of hall).out1
    pub second : Gains two (library_of hall).out2

-- ---- what was written

module _ {O E : Type 0} (fo : O → ℕ) (ho : O → Option (List ℕ)) (fe : E → ℕ) (he : E → Option (List ℕ)) where
  module _ (o0 o1 o2 : O) (e0 e1 e2 : E) (h n : HallOf) (g : Grew h n) (first : Gains (written fo ho o0 o1) (library_of h).out1) (second : Gains (written fe he e0 e1) (library_of h).out2) where
    pub ends : (a : Over) → OverIs a h n (written fo ho o1 o2) (written fe he e1 e2) → EndIs a n (written fo ho o0 o2) (written fe he e0 e2)
    ends over.On q = (gains_on fo ho o0 o1 o2 (library_of h).out1 (library_of n).out1 g.first false g.first_is first q.out, gains_on fe he e0 e1 e2 (library_of h).out2 (library_of n).out2 g.second false g.second_is second q.err)
    ends over.Ended q = (gains_on fo ho o0 o1 o2 (library_of h).out1 (library_of n).out1 g.first false g.first_is first q.0.out, gains_on fe he e0 e1 e2 (library_of h).out2 (library_of n).out2 g.second false g.second_is second q.0.err, q.1)
    ends (over.Stopped f s) q = (q.0, gains_on fo ho o0 o1 o2 (library_of h).out1 (library_of n).out1 g.first f g.first_is first q.1.out, gains_on fe he e0 e1 e2 (library_of h).out2 (library_of n).out2 g.second s g.second_is second q.1.err)
    ends (over.Memory e) q = (holds_on fo ho o0 o1 o2 (library_of h).out1 (library_of n).out1 g.first g.first_is first q.0, holds_on fe he e0 e1 e2 (library_of h).out2 (library_of n).out2 g.second g.second_is second q.1)

  -- a part is the whole, too
  pub whole_part : (o0 o1 : O) (bytes : List ℕ) → Gains (written fo ho o0 o1) bytes → HoldsPart (written fo ho o0 o1) bytes
  whole_part o0 o1 bytes q = holds_on fo ho o0 o1 o1 bytes bytes [] (sym (append-nil bytes)) q (gains_nothing fo ho o1)

-- a list whose slots were all written through a slice
pub same_slice : {X : Type 0} (n : ℕ) (new old : List X) → length new ≡ length old → n ≡ length old → take n (new ++ drop (length new) old) ≡ new
same_slice n new old count is =
    ap (λ xs. take n (new ++ xs)) (drop_all (length new) old (omega (arith, count))) ∙ ap (take n) (append-nil new) ∙ take_all n new (omega (arith, count, is))
