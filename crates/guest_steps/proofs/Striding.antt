-- A guest that goes ahead by private steps.
use Rattle.std.proofs.Common.{◌≡◌, ℕ, ◌-◌, ◌≤◌, inl, inr, length, Some, sym, ap, arith, ◌∙◌}
use Rattle.address_space.specs.Slots.{slot_of}
use Rattle.machine_model.specs.CaseData.{CaseData}
use Rattle.machine_model.specs.Gated.{Both, Stand, gated_steps, stand_at}
use Rattle.guest_parts.specs.Running.{Rises}
use Rattle.guest_parts.specs.Standing.{StandsIn}
use Rattle.guest_steps.specs.declared.own.Own.{Own}
use Rattle.guest_steps.specs.Ahead.{Strode}
use Rattle.guest_steps.specs.Kept.{AreKept, Table}
use Rattle.guest_steps.specs.Own.{Along, IsUnder, position_of}
use Rattle.guest_steps.proofs.Moves.{steps_more}

no_steps : (c : CaseData) (b : Both) (j : ℕ) (d : Stand) → j ≡ 0 → gated_steps c.image b.gate.grown j d ≡ Some d
unfolding gated_steps
no_steps c b j d e = ap (λ i. gated_steps c.image b.gate.grown i d) e

module _ (c : CaseData) (b : Both) (t : ℕ) where
  pub stands_still : (own new : Own) (left : Table) (d : Stand) → Along c b t new left d → new.k ≡ own.k → new.ages ≡ own.ages → Strode c b t own new left d d
  stands_still own new left d h k ages = record { gated = no_steps c b (new.k - own.k) d (omega (arith, k)); along = h; later = omega (arith, k); ages = ages }

  pub strides : (own new : Own) (table left : Table) (d e : Stand) → Along c b t own table d → gated_steps c.image b.gate.grown (new.k - own.k) d ≡ Some e → own.k ≤ new.k → new.k ≤ 4096 → StandsIn c.image b.gate.grown (position_of new.at) new.last new.state e → IsUnder c.image new.at → AreKept c.image b.gate.grown left → new.frames ≡ own.frames → new.ages ≡ own.ages → Strode c b t own new left d e
  strides own new table left d e h gated later few stands under kept frames ages = record {
    gated = gated;
    along = record {
      going = h.going;
      with = record {
        ahead = steps_more c.image b.gate.grown own.k (new.k - own.k) new.k (stand_at b (slot_of t)) d e (omega (arith, later)) h.with.ahead gated;
        few = few;
        stands = stands;
        frames = h.with.frames ∙ ap (λ f. f.items) (sym frames);
        ages = ap length ages ∙ h.with.ages;
      };
      under = under;
      kept = kept;
    };
    later = later;
    ages = ages;
  }

  pub strode_then : (own mid new : Own) (table left : Table) (d e f : Stand) → Strode c b t own mid table d e → Strode c b t mid new left e f → Strode c b t own new left d f
  strode_then own mid new table left d e f p q = record {
    gated = steps_more c.image b.gate.grown (mid.k - own.k) (new.k - mid.k) (new.k - own.k) d e f (omega (arith, p.later, q.later)) p.gated q.gated;
    along = q.along;
    later = omega (arith, p.later, q.later);
    ages = q.ages ∙ p.ages;
  }

-- ---- counts

pub rises_then : (a b c x y z : ℕ) → Rises a b (y - x) → Rises b c (z - y) → Rises a c (z - x)
rises_then a b c x y z (inl p) (inl q) = inl (omega (arith, p, q))
rises_then a b c x y z (inl p) (inr full) = inr full
rises_then a b c x y z (inr full) (inl q) = inr (omega (arith, full, q))
rises_then a b c x y z (inr full) (inr more) = inr more
