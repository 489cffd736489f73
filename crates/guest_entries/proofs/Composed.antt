-- A step of a turn before which waiting writes go to memory.
use Rattle.std.proofs.Common.{◌≡◌, ℕ, Bool, cond, List, length, Option, sym, subst, ap, arith, ◌∙◌}
use Rattle.std.specs.Prelude.{nat_le}
use Rattle.address_space.specs.Slots.{slot_of}
use Rattle.guest_state.specs.declared.virtual_state.Virtual.{Virtual}
use Rattle.ir_syntax.specs.declared.block.Block.{Block}
use Rattle.ir_syntax.specs.declared.request.Request.{Request}
use Rattle.x86_model.specs.declared.want.Want.{Want}
use Rattle.x86_model.specs.Want.{want}
use Rattle.machine_model.specs.CaseData.{CaseData}
use Rattle.machine_model.specs.Gated.{Both, Stand}
use Rattle.machine_model.specs.Ready.{HasGrown}
use Rattle.machine_model.specs.Serial.{AtEvent, Turn, flush_some, flushed_before}
use Rattle.machine_model.specs.State.{list_at}
use Rattle.hall_core.specs.Hall.{HallData, both}
use Rattle.guest_parts.specs.Points.{Acts, point_at}
use Rattle.guest_parts.specs.Requests.{IsWanted}
use Rattle.guest_steps.specs.declared.own.Own.{Own}
use Rattle.guest_steps.specs.Ages.{AreAges}
use Rattle.guest_steps.specs.Kept.{AreKept, Table}
use Rattle.guest_entries.specs.Entered.{AlongIn, Asking, Entered, FlushedSome, turn_in}
use Rattle.guest_steps.specs.Own.{Along, data_of}
use Rattle.guest_steps.specs.Stretched.{AsksAt}
use Rattle.guest_entries.proofs.Accesses.{acts_flushed}

-- a guest stands with its thread as before
pub along_flushed : (h n : HallData Block) (t m : ℕ) (own : Own) (ages : List ℕ) (table : Table) (d : Stand) → AlongIn h t own table d → FlushedSome h n t m (data_of own) ages d → AlongIn n t (record own { ages = ages }) table d
along_flushed h n t m own ages table d a f = subst (λ c. Along c (both n) t (record own { ages = ages }) table d) (sym f.case) (record {
  going = f.going;
  with = f.with;
  under = a.under;
  kept = subst (λ g. AreKept h.case.image g table) (sym f.grown) a.kept;
})

asks_with : (c : CaseData) (b : Both) (own : Own) (ages : List ℕ) (r : Request) (d : Stand) (e : CaseData) (n : Both) → e ≡ c → n.gate.grown ≡ b.gate.grown → AsksAt c b own r d → AsksAt e n (record own { ages = ages }) r d
asks_with c b own ages r d e n same grown a = record {
  kept = a.kept;
  part = a.part;
  at = a.at;
  piece = a.piece;
  rest = a.rest;
  there = a.there;
  wanted = subst (λ (k : CaseData). IsWanted r k.image n.gate.grown a.piece a.kept.block a.part own.last own.state d) (sym same) (subst (λ g. IsWanted r c.image g a.piece a.kept.block a.part own.last own.state d) (sym grown) a.wanted);
  public = a.public;
}

pub asking_flushed : (h n : HallData Block) (t m : ℕ) (own : Own) (ages : List ℕ) (table : Table) (v : Virtual) (d : Stand) (r : Request) → Asking h t own table v d r → FlushedSome h n t m (data_of (record own { state = v })) ages d → Asking n t (record own { ages = ages }) table v d r
asking_flushed h n t m own ages table v d r q f = record {
  along = along_flushed h n t m (record own { state = v }) ages table d q.along f;
  room = record { below = omega (arith, q.room.below, f.steps, ap (λ (c : CaseData). c.limit) f.case); few = q.room.few };
  asks = asks_with h.case (both h) own ages r d n.case (both n) f.case f.grown q.asks;
}

abbrev flush_of : HallData Block → ℕ → ℕ → List ℕ → Option Turn
flush_of h t m ages = flush_some h.case t m (turn_in h ages)

pub entered_flushed : (h n last : HallData Block) (t m : ℕ) (own before after : Own) (ages : List ℕ) (table left : Table) (d : Stand) (w : Want) → before.ages ≡ own.ages → FlushedSome h n t m (data_of before) ages d → want h.case.image d.cpu ≡ w → flushed_before w (length (list_at (both h).machine (slot_of t))) ≡ m → flushed_before w (length (list_at (both n).machine (slot_of t))) ≡ 0 → (AreAges 255 own.ages → AreAges 255 ages) → Entered n last t (record own { ages = ages }) after left d AtEvent → Entered h last t own after left d AtEvent
entered_flushed h n last t m own before after ages table left d w same f e count none young q = record {
  case = q.case ∙ f.case;
  acts = acts_flushed h.case t m (point_at own.k d) (turn_in h own.ages) (turn_in n ages) (turn_in last after.ages) w e count (ap (λ z. flush_of h t m z) (sym same) ∙ f.are_flushes) none (subst (λ c. Acts c t (point_at own.k d) (turn_in n ages) AtEvent (turn_in last after.ages)) f.case q.acts);
  on = λ going live. let x = q.on going live in (x.0, subst (λ (c : CaseData). HasGrown c.image (both last) (slot_of t)) f.case x.1);
  gone = q.gone;
  told = q.told;
  fresh = λ y. q.fresh (young y);
  marks = λ s ne. q.marks s ne ∙ f.marks s ne;
}

abbrev one_if : Bool → ℕ
one_if b = cond b 1 0

pub room_count : (a b : ℕ) → a ≡ b → ◌≡◌ {A = ℕ} (cond (nat_le 64 a) 1 0) (cond (nat_le 64 b) 1 0)
room_count a b e = ap (λ n. one_if (nat_le 64 n)) e
