-- The entries that tell private steps, or end the run at the limit.
use Rattle.std.proofs.Common.{◌≡◌, ℕ, ◌+◌, ◌≤◌, refl, arith}
use Rattle.journal_pack.specs.declared.entry.Entry.TheVariants.{Over, Tick}
use Rattle.ir_syntax.specs.declared.block.Block.{Block}
use Rattle.machine_model.specs.Gated.{Stand}
use Rattle.machine_model.specs.Serial.{AtLimit, AtMost}
use Rattle.hall_core.specs.Hall.{HallData, added, both}
use Rattle.guest_parts.specs.Points.{point_at}
use Rattle.guest_parts.proofs.Entries.{over_leaves, tick_leaves}
use Rattle.guest_parts.proofs.Turns.{over_acts, tick_acts}
use Rattle.guest_steps.specs.declared.own.Own.{Own}
use Rattle.guest_steps.specs.declared.stretch.Came.TheVariants as came
use Rattle.guest_steps.specs.Kept.{Table}
use Rattle.guest_entries.specs.Entered.{AlongIn, Entered}
use Rattle.guest_steps.specs.Own.{data_of}
use Rattle.guest_steps.specs.Stretched.{StopsAt}
use Rattle.guest_entries.proofs.Entering.{Left, entered_by, grown_tick, left_ended, left_with}

module _ (h : HallData Block) (t : ℕ) (own : Own) (table : Table) (d : Stand) (along : AlongIn h t own table d) where
  pub over_left : h.case.limit ≤ (both h).machine.steps + own.k → Left h.case (both h) t (Over t own.k) (record own { k = 0 }) table
  over_left limit = left_ended h.case (both h) t (Over t own.k) (record own { k = 0 }) table (over_leaves h.case (both h) t (data_of own) d along.going along.with limit)

  pub over_entered : (new : HallData Block) → h.case.limit ≤ (both h).machine.steps + own.k → new ≡ added h (Over t own.k) → Entered h new t own (record own { k = 0 }) table d AtLimit
  over_entered new limit is =
      let left = over_left limit in
      entered_by h new t own (record own { k = 0 }) table d (Over t own.k) AtLimit left refl is (over_acts h.case t (point_at own.k d) (both h) left.next h.journal own.ages left.comes) refl (λ f. f)

  pub tick_left : StopsAt came.Most h.case (both h) own d → Left h.case (both h) t (Tick t own.k) (record own { k = 0 }) table
  tick_left at =
      let l = tick_leaves h.case (both h) t (data_of own) d along.going along.with (omega (arith, at.1)) at.0 in
      left_with h.case (both h) t (Tick t own.k) (record own { k = 0 }) table l along.under along.kept (grown_tick h.case (both h) l.next t own.k along.going.whole l.comes)

  pub tick_entered : (new : HallData Block) → StopsAt came.Most h.case (both h) own d → new ≡ added h (Tick t own.k) → Entered h new t own (record own { k = 0 }) table d AtMost
  tick_entered new at is =
      let left = tick_left at in
      entered_by h new t own (record own { k = 0 }) table d (Tick t own.k) AtMost left refl is (tick_acts h.case t (point_at own.k d) (both h) left.next h.journal own.ages left.comes) refl (λ f. f)
