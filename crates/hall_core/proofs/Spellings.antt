-- Entries that may come have spellings.
use Rattle.std.proofs.Common.{ℕ, ◌<◌, ◌≤◌, ◌^◌, arith}
use Rattle.std.proofs.lemmas.Option.{cond_some}
use Rattle.journal_pack.specs.Entry.{IsSteps, IsThread}
use Rattle.journal_pack.specs.declared.entry.Entry.TheVariants.{Tick, Wait}
use Rattle.machine_model.proofs.Costs as costs
use Rattle.machine_model.proofs.Own.{lt_of, made_of}
use Rattle.hall_core.specs.Hall.{Comes, HallData, both}

pub steps_spelled : (t k : ℕ) → t < 2 ^ 32 → k ≤ 4096 → IsThread t × IsSteps 0 k
steps_spelled t k low few = ((omega arith, low), (omega arith, omega arith))

pub more_spelled : (t k : ℕ) → t < 2 ^ 32 → 0 < k → k ≤ 4096 → IsThread t × IsSteps 1 k
more_spelled t k low some few = ((omega arith, low), (omega arith, omega arith))

module _ {B : Type 0} where
  -- private steps alone are one at least
  pub tick_private : (h : HallData B) (t k : ℕ) → Comes h (Tick t k) → 0 < k
  tick_private h t k comes =
      let e = made_of h.case (both h) comes.next (Tick t k) comes.step in
      lt_of 0 k (costs.both_of _ _ (cond_some _ _ comes.next.machine e.is.made).0).0

  pub wait_private : (h : HallData B) (t k : ℕ) → Comes h (Wait t k) → 0 < k
  wait_private h t k comes =
      let e = made_of h.case (both h) comes.next (Wait t k) comes.step in
      lt_of 0 k (costs.both_of _ _ (costs.both_of _ _ (costs.both_of _ _ (cond_some _ _ comes.next.machine e.is.made).0).0).0).0
