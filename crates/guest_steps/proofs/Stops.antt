-- Where a guest stops after the block under way was run.
use Rattle.std.proofs.Common.{◌≡◌, ℕ, ◌+◌, ◌-◌, ◌<◌, ◌≤◌, ◌≢◌, Bool, true, false, cond, [], Option, Some, None, Ok, Err, refl, sym, subst, ap, arith}
use Rattle.std.specs.Prelude.{min, nat_le, ◌==◌, if◌then◌else◌, IsErr, Result}
use Rattle.std.specs.declared.alloc.AllocError.{AllocError}
use Rattle.std.proofs.lemmas.Bool.{eqb-false, eqb-true, leb-true, leb-false}
use Rattle.machine_model.specs.CaseData.{CaseData}
use Rattle.machine_model.specs.Gated.{Both, Stand}
use Rattle.lib_table.specs.declared.ask.Asked.{Asked}
use Rattle.guest_parts.proofs.CallEntries.{asks_with}
use Rattle.guest_parts.proofs.Turns.{not_missing}
use Rattle.guest_steps.specs.declared.own.Own.{Own}
use Rattle.guest_steps.specs.declared.own.Position.{Position}
use Rattle.guest_steps.specs.declared.own.Position.TheVariants.{Between}
use Rattle.guest_steps.specs.declared.stretch.Came.{Came}
use Rattle.guest_steps.specs.declared.stretch.Came.TheVariants as came
use Rattle.guest_steps.specs.declared.stretch.Went.{Went}
use Rattle.guest_steps.specs.declared.stretch.Went.TheVariants as went
use Rattle.guest_steps.specs.Kept.{Table}
use Rattle.guest_steps.specs.Own.{Along, data_of, position_of}
use Rattle.guest_steps.proofs.Moves.{moves_on, stays}
use Rattle.guest_steps.specs.Stretched.{CameIs, IsAsked, Moved, OneIs, StretchIs, WentIs, WentWithin, parts_for, stop_of}

module _ (c : CaseData) (b : Both) (t : ℕ) (old new : Own) (table : Table) (d : Stand) (left : ℕ) (is : left ≡ c.limit - b.machine.steps) where
  at_most : (v : Bool) → nat_le left new.k ≡ v → new.k ≡ min left 4096 → WentIs went.Most c b t old new table d → CameIs (cond v came.Limit came.Most) c b t old new table d
  at_most true e few w = (w.0, w.1, omega (arith, is, leb-true left new.k e))
  at_most false e few w = let over : new.k < left = omega (arith, leb-false left new.k e) in (w.0, w.1, (omega (arith, is, over), omega (arith, few, over), w.2))

  stopped : (r : Went) → WentIs r c b t old new table d → WentWithin r new.k (min left 4096) → OneIs (Ok (stop_of r new.k left)) c b t old new table d
  stopped went.Nowhere w few = (d, w)
  stopped went.Left w few = w
  stopped went.Most w few = at_most (nat_le left new.k) refl few w
  stopped (went.Asks r) w few = (w.0, w.1, w.2, (record { below = omega (arith, is, few); few = omega (arith, few) }, w.3))

  pub block_ran : (most : ℕ) (r : Went) (o : Option Came) → old.k < left → most ≡ min left 4096 → WentIs r c b t old new table d → WentWithin r new.k most → o ≡ stop_of r new.k left → OneIs (Ok o) c b t old new table d
  block_ran most r o room same w few e = subst (λ x. OneIs (Ok x) c b t old new table d) (sym e) (stopped r w (subst (WentWithin r new.k) same few))

-- ---- from a guest that is elsewhere, with the same steps, calls back and waiting writes

module _ (c : CaseData) (b : Both) (t : ℕ) (own : Own) (at : Position) (new : Own) (table : Table) (d : Stand) where
  moved_from : (last : Own) (e : Stand) → Moved c b t (record own { at = at }) last table d e → Moved c b t own last table d e
  moved_from last e m = record { gated = m.gated; along = m.along; later = m.later; below = m.below; frames = m.frames; ages = m.ages }

  came_from : (r : Came) → CameIs r c b t (record own { at = at }) new table d → CameIs r c b t own new table d
  came_from came.Limit w = (w.0, moved_from new w.0 w.1, w.2)
  came_from came.Most w = (w.0, moved_from new w.0 w.1, w.2)
  came_from (came.Missing a) w = (w.0, moved_from new w.0 w.1, w.2)
  came_from (came.Library a what) w = (w.0, moved_from new w.0 w.1, w.2)
  came_from (came.Asks r) w = (w.0, w.1, moved_from (record new { state = w.0 }) w.1 w.2, w.3)

  pub one_from : (o : Option Came) → OneIs (Ok o) c b t (record own { at = at }) new table d → OneIs (Ok o) c b t own new table d
  one_from None w = (w.0, moved_from new w.0 w.1)
  one_from (Some r) w = came_from r w

pub one_failed : (c : CaseData) (b : Both) (t : ℕ) (own new : Own) (table : Table) (d : Stand) (r : Result (Option Came) AllocError) → IsErr r → (e : Stand) × Moved c b t own new table d e → OneIs r c b t own new table d
one_failed c b t own new table d (Ok o) is h = absurd (let no : false ≡ true = is in cc)
one_failed c b t own new table d (Err x) is h = h

pub begun_moved : (c : CaseData) (b : Both) (t : ℕ) (own new : Own) (table : Table) (d : Stand) → new ≡ record own { at = new.at } → Along c b t new table d → Moved c b t own new table d d
begun_moved c b t own new table d e h = stays c b t own new table table d h (ap (λ (z : Own). z.k) e) (ap (λ (z : Own). z.frames) e) (ap (λ (z : Own). z.ages) e)

-- a thread that asks the library
pub call_came : (c : CaseData) (b : Both) (t : ℕ) (own new : Own) (table : Table) (d : Stand) (a : ℕ) (what : Asked) (r : Came) → Moved c b t own new table d d → b.machine.steps + new.k < c.limit → new.at ≡ Between a → IsAsked c.image a what → r ≡ (if new.k == 4096 then came.Most else came.Library a what) → CameIs r c b t own new table d
call_came c b t own new table d a what r m room at asks is = subst (λ x. CameIs x c b t own new table d) (sym is) (by (new.k == 4096) refl)
  where
    by : (v : Bool) → (new.k == 4096) ≡ v → CameIs (cond v came.Most (came.Library a what)) c b t own new table d
    by true e = (d, m, (room, eqb-true new.k 4096 e, not_missing c.image b.gate.grown d [] (asks_with c b t (data_of new) d a what m.along.with (ap position_of at, asks)).enters))
    by false e = let other : new.k ≢ 4096 = eqb-false new.k 4096 e in let few : new.k ≤ 4096 = m.along.with.few in (d, m, (record { below = room; few = omega (arith, other, few) }, at, asks))

-- ---- after other private steps

module _ (c : CaseData) (b : Both) (t : ℕ) (own mid new : Own) (table left : Table) (d e : Stand) (m : Moved c b t own mid table d e) where
  more : (last : Own) (f : Stand) → Moved c b t mid last left e f → Moved c b t own last left d f
  more last f n = moves_on c b t own mid last table left d e f m n

  pub moved_more : (f : Stand) × Moved c b t mid new left e f → (f : Stand) × Moved c b t own new left d f
  moved_more w = (w.0, more new w.0 w.1)

  pub came_more : (r : Came) → CameIs r c b t mid new left e → CameIs r c b t own new left d
  came_more came.Limit w = (w.0, more new w.0 w.1, w.2)
  came_more came.Most w = (w.0, more new w.0 w.1, w.2)
  came_more (came.Missing a) w = (w.0, more new w.0 w.1, w.2)
  came_more (came.Library a what) w = (w.0, more new w.0 w.1, w.2)
  came_more (came.Asks r) w = (w.0, w.1, more (record new { state = w.0 }) w.1 w.2, w.3)

pub stretch_failed : (c : CaseData) (b : Both) (t : ℕ) (own new : Own) (table : Table) (d : Stand) (r : Result Came AllocError) → IsErr r → (e : Stand) × Moved c b t own new table d e → StretchIs r c b t own new table d
stretch_failed c b t own new table d (Ok o) is h = absurd (let no : false ≡ true = is in cc)
stretch_failed c b t own new table d (Err x) is h = h

pub failed_parts : (r : Result Came AllocError) (j : ℕ) → IsErr r → j ≡ parts_for r j
failed_parts (Ok o) j is = absurd (let no : false ≡ true = is in cc)
failed_parts (Err x) j is = refl

pub more_parts : (r : Came) (i j k : ℕ) → k ≡ i + j → parts_for (Ok r) k ≡ i + parts_for (Ok r) j
more_parts came.Limit i j k e = e
more_parts came.Most i j k e = e
more_parts (came.Missing a) i j k e = e
more_parts (came.Library a what) i j k e = e
more_parts (came.Asks r) i j k e = omega (arith, e)
