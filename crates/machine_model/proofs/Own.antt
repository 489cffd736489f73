-- What an entry leaves of the thread that it names.
use Rattle.std.proofs.Common.{◌≡◌, ℕ, zero, suc, ◌<◌, ◌≤◌, Bool, true, false, List, Option, Some, None, refl, sym, ap, ◌∙◌, subst, arith, ◌&&◌, nat_lt, nat_le}
use Rattle.std.specs.Prelude.{option_and_then, is_none}
use Rattle.std.proofs.lemmas.Bool.Decides.{nat_tests}
use Rattle.std.proofs.lemmas.Option.{option_and_then_some, none-some, same_Some}
use Rattle.elf_image.specs.Layout.{ImageData}
use Rattle.x86_model.specs.declared.cpu.Cpu.{Cpu}
use Rattle.x86_model.specs.Want.{want}
use Rattle.journal_pack.specs.declared.entry.Entry.{Entry}
use Rattle.journal_pack.specs.Entry.{private_of, thread_of}
use Rattle.machine_model.specs.declared.ending.RunEnd.{RunEnd}
use Rattle.machine_model.specs.CaseData.{CaseData}
use Rattle.machine_model.specs.State.{Machine}
use Rattle.machine_model.specs.Step.{admits, after_private, cpu_at, lives, privately, slot_in, step, step_from}
use Rattle.machine_model.specs.Gated.{Both, Gate, Spot, Stand, advance, begin, entered, gate_with, gated_step, gated_steps, moved_on, pass, spot_at, spot_last, stand_at, with_gate, Leads}
use Rattle.machine_model.specs.Own.{IsMade, IsWhole}
use Rattle.machine_model.proofs.Costs.{came, both_of}
use Rattle.machine_model.proofs.Gates.{advances}
use Rattle.machine_model.proofs.Independence.{if_some}
use Rattle.machine_model.proofs.SerialGated.{spots_from, spots_stay, spotted}
use Rattle.machine_model.proofs.Sizes.{sized_stays, sized_played}
use Rattle.machine_model.proofs.Gates.{leads_play}

-- ---- gated private steps are private steps

one_private : (image : ImageData) (grown : List ℕ) (s d : Stand) → gated_step image grown s ≡ Some d → privately (want image s.cpu) ≡ Some d.cpu
one_private image grown s d p =
    option_and_then_some (moved_on (privately (want image s.cpu))) (entered image grown s.cpu.rip s.left) d p (λ left _ q. by_next (privately (want image s.cpu)) left q)
  where
    by_next : (o : Option Cpu) (left : List ℕ) → moved_on o left ≡ Some d → o ≡ Some d.cpu
    by_next None left q = absurd (none-some d q)
    by_next (Some next) left q = ap (λ (x : Stand). Some x.cpu) (same_Some _ d q)

pub steps_private : (image : ImageData) (grown : List ℕ) (k : ℕ) (s d : Stand) → gated_steps image grown k s ≡ Some d → after_private image k s.cpu ≡ Some d.cpu
unfolding gated_steps after_private
steps_private image grown zero s d p = ap (λ (x : Stand). Some x.cpu) (same_Some s d p)
steps_private image grown (suc k) s d p =
    option_and_then_some (gated_step image grown) (gated_steps image grown k s) d p (λ x q r.
    ap (option_and_then (λ next. privately (want image next))) (steps_private image grown k s x q) ∙ one_private image grown x d r)

-- ---- an entry, and what it is made of

private_then : (image : ImageData) (k : ℕ) (s d : Cpu) (x : Cpu) → after_private image k s ≡ Some d → after_private image k s ≡ Some x → x ≡ d
private_then image k s d x p q = same_Some x d (sym q ∙ p)

goes_on : (o : Option RunEnd) (a b : Bool) → (is_none o && a && b) ≡ true → (o ≡ None) × (a ≡ true) × (b ≡ true)
goes_on None a b h = let p = both_of a b h in (refl, p.0, p.1)
goes_on (Some e) a b h = absurd (let e : false ≡ true = h in cc)

pub le_of : (a b : ℕ) → nat_le a b ≡ true → a ≤ b
le_of a b h = grind (arith, nat_tests)

pub le_test : (a b : ℕ) → a ≤ b → nat_le a b ≡ true
le_test a b h = grind (arith, nat_tests)

pub lt_of : (a b : ℕ) → nat_lt a b ≡ true → a < b
lt_of a b h = grind (arith, nat_tests)

pub lt_test : (a b : ℕ) → a < b → nat_lt a b ≡ true
lt_test a b h = grind (arith, nat_tests)

-- what was made
pub record Entered (c : CaseData) (b n : Both) (e : Entry) : Type 0 where
  pub stand : Stand
  pub spot : Spot
  pub is : IsMade c b e stand n.machine spot
  pub gate : n.gate ≡ gate_with e b.gate spot

pub made_of : (c : CaseData) (b n : Both) (e : Entry) → advance c b e ≡ Some n → Entered c b n e
unfolding step
made_of c b n e p =
    let s = spotted c b n e p in
    let q = if_some (admits b.machine e) _ n.machine (came c b n e p).stepped in
    let g = goes_on b.machine.ending (lives b.machine (thread_of e)) (nat_le (private_of e) 4096) q.0 in
    let there = steps_private c.image b.gate.grown (private_of e) (stand_at b (slot_in e)) s.stand s.ahead in
    option_and_then_some (step_from c b.machine e) (after_private c.image (private_of e) (cpu_at b.machine (slot_in e))) n.machine q.1 (λ cpu r w.
    let same : cpu ≡ s.stand.cpu = same_Some cpu s.stand.cpu (sym r ∙ there) in
    record {
      stand = s.stand;
      spot = s.spot;
      is = record {
        going = g.0;
        live = g.1;
        few = le_of (private_of e) 4096 g.2;
        ahead = s.ahead;
        made = subst (λ x. step_from c b.machine e x ≡ Some n.machine) same w;
        last = s.last;
      };
      gate = s.same;
    })

step_made : (c : CaseData) (m n : Machine) (e : Entry) (cpu : Cpu) → admits m e ≡ true → after_private c.image (private_of e) (cpu_at m (slot_in e)) ≡ Some cpu → step_from c m e cpu ≡ Some n → step c m e ≡ Some n
unfolding step
step_made c m n e cpu a p q = rw (a, p) q

pass_made : (image : ImageData) (e : Entry) (before after : Cpu) (g : Gate) (d : Stand) (spot : Spot) → gated_steps image g.grown (private_of e) (record { cpu = before; left = (spot_at g (slot_in e)).left }) ≡ Some d → spot_last image g.grown e after (spot_at g (slot_in e)) d ≡ Some spot → pass image e before after g ≡ Some (gate_with e g spot)
unfolding pass
pass_made image e before after g d spot p q = rw (p, q) refl

pub advance_made : (c : CaseData) (b : Both) (e : Entry) (d : Stand) (m : Machine) (spot : Spot) → IsMade c b e d m spot → advance c b e ≡ Some (with_gate m (gate_with e b.gate spot))
advance_made c b e d m spot h =
    let few = le_test (private_of e) 4096 h.few in
    let a : admits b.machine e ≡ true = rw (h.going, h.live, few) refl in
    let there = steps_private c.image b.gate.grown (private_of e) (stand_at b (slot_in e)) d h.ahead in
    advances c b m (gate_with e b.gate spot) e (step_made c b.machine m e d.cpu a there h.made) (pass_made c.image e (cpu_at b.machine (slot_in e)) (cpu_at m (slot_in e)) b.gate d spot h.ahead h.last)

-- ---- whole machines

pub whole_from : (c : CaseData) (n : Both) (es : List Entry) → Leads c (begin c) es n → IsWhole n
whole_from c n es p = record { machine = sized_played c es n.machine (leads_play c n es p); spots = spots_from c n es p }

pub whole_stays : (c : CaseData) (b n : Both) (e : Entry) → IsWhole b → advance c b e ≡ Some n → IsWhole n
whole_stays c b n e h p = record { machine = sized_stays c b.machine n.machine e h.machine (came c b n e p).stepped; spots = spots_stay c b n e p ∙ h.spots }

-- the same as one statement
pub made_told : (c : CaseData) (b n : Both) (e : Entry) → advance c b e ≡ Some n → (d : Stand) × (spot : Spot) × IsMade c b e d n.machine spot × (n.gate ≡ gate_with e b.gate spot)
made_told c b n e p = let h = made_of c b n e p in (h.stand, h.spot, h.is, h.gate)
