-- What an entry comes to, from what is known before anything changes.
use Rattle.std.proofs.Common.{◌≡◌, ℕ, ◌≤◌, Bool, true, false, cond, List, Option, Some, None, refl, sym, ap, ◌∙◌, subst, ◌&&◌, ◌↔◌, slice_set}
use Rattle.std.specs.Prelude.{IfSome, IfNone, is_none, is_some, nat_le, option_and_then, option_map, IsTrue}
use Rattle.std.proofs.lemmas.Bool.Decides.{nat_tests}
use Rattle.std.proofs.Common.{arith}
use Rattle.std.proofs.lemmas.Option.{none-some}
use Rattle.elf_image.specs.Layout.{ImageData}
use Rattle.x86_model.specs.declared.cpu.Cpu.{Cpu}
use Rattle.x86_model.specs.declared.want.Want.{Want}
use Rattle.x86_model.specs.Want.{want}
use Rattle.journal_pack.specs.Entry.{private_of, thread_of}
use Rattle.journal_pack.specs.declared.entry.Entry.{Entry}
use Rattle.journal_pack.specs.declared.entry.Entry.TheVariants.{Ev, Tick, Flush, Wait, Miss, Grow, Over, Full, Dead}
use Rattle.machine_model.specs.CaseData.{CaseData}
use Rattle.machine_model.specs.State.{Machine, is_live}
use Rattle.machine_model.specs.Step.{admits, after_private, answered, cpu_at, lives, slot_in, step, step_from}
use Rattle.machine_model.specs.Gated.{Both, Gate, Spot, Stand, IsAllowed, advance, entered, gate_with, gated_steps, grown_by, onward, pass, spot_after, spot_at, spot_last, spot_with, with_gate, with_machine, Other}
use Rattle.replay_view.specs.Follow.{IsTaken, MayCome}
use Rattle.replay_view.specs.declared.gate.Position.{Position}
use Rattle.replay_view.specs.Gates.{position_of, settled}
use Rattle.replay_machine.specs.Machines.{crowds, is_crowded, overfills_by}
use Rattle.replay_view.specs.Moments.{IsBarred, IsBegun, IsPlaced, gated_from}

-- ---- no step

pub not_admitted : (c : CaseData) (m : Machine) (e : Entry) → admits m e ≡ false → step c m e ≡ None
unfolding step
not_admitted c m e h = ap (λ x. cond x (option_and_then (step_from c m e) (after_private c.image (private_of e) (cpu_at m (slot_in e)))) None) h

none_anyway : {A : Type 0} (b : Bool) (o : Option A) → o ≡ None → cond b o None ≡ None
none_anyway true o h = h
none_anyway false o h = refl

pub not_so_private : (c : CaseData) (m : Machine) (e : Entry) → after_private c.image (private_of e) (cpu_at m (slot_in e)) ≡ None → step c m e ≡ None
unfolding step
not_so_private c m e h = none_anyway (admits m e) _ (ap (option_and_then (step_from c m e)) h)

nothing_there : {A : Type 0} (o : Option A) → is_some o ≡ false → o ≡ None
nothing_there None e = refl
nothing_there (Some x) e = absurd (let h : true ≡ false = e in cc)

pub not_standing : (c : CaseData) (m : Machine) (e : Entry) (cpu : Cpu) → after_private c.image (private_of e) (cpu_at m (slot_in e)) ≡ Some cpu → is_some (step_from c m e cpu) ≡ false → step c m e ≡ None
unfolding step
not_standing c m e cpu p h = none_anyway (admits m e) _ (ap (option_and_then (step_from c m e)) p ∙ nothing_there (step_from c m e cpu) h)

-- ---- a step

pub stepped : (c : CaseData) (m : Machine) (e : Entry) (cpu : Cpu) (wanted : Want) → IsBegun c m e cpu wanted → step c m e ≡ step_from c m e cpu
unfolding step
stepped c m e cpu wanted b = ap (λ x. cond x (option_and_then (step_from c m e) (after_private c.image (private_of e) (cpu_at m (slot_in e)))) None) b.admits ∙ ap (option_and_then (step_from c m e)) b.private

pub stood : (c : CaseData) (m : Machine) (e : Entry) (cpu : Cpu) (wanted : Want) → IsBegun c m e cpu wanted → is_some (step c m e) ≡ true
stood c m e cpu wanted b = ap is_some (stepped c m e cpu wanted b) ∙ b.stands

first_of_three : (a b d : Bool) → (a && b && d) ≡ true → a ≡ true
first_of_three true b d h = refl
first_of_three false b d h = h

second_of_three : (a b d : Bool) → (a && b && d) ≡ true → b ≡ true
second_of_three true true d h = refl
second_of_three true false d h = h
second_of_three false b d h = absurd (let e : false ≡ true = h in cc)

third_of_three : (a b d : Bool) → (a && b && d) ≡ true → d ≡ true
third_of_three true true d h = h
third_of_three true false d h = absurd (let e : false ≡ true = h in cc)
third_of_three false b d h = absurd (let e : false ≡ true = h in cc)

nothing_yet : {A : Type 0} (o : Option A) → is_none o ≡ true → o ≡ None
nothing_yet None e = refl
nothing_yet (Some x) e = absurd (let h : false ≡ true = e in cc)

pub going : (c : CaseData) (m : Machine) (e : Entry) (cpu : Cpu) (wanted : Want) → IsBegun c m e cpu wanted → m.ending ≡ None
going c m e cpu wanted b = nothing_yet m.ending (first_of_three (is_none m.ending) (lives m (thread_of e)) (nat_le (private_of e) 4096) b.admits)

le_from_test : (n k : ℕ) → nat_le n k ≡ true → n ≤ k
le_from_test n k h = grind (arith, nat_tests)

pub few : (c : CaseData) (m : Machine) (e : Entry) (cpu : Cpu) (wanted : Want) → IsBegun c m e cpu wanted → private_of e ≤ 4096
few c m e cpu wanted b = le_from_test _ _ (third_of_three (is_none m.ending) (lives m (thread_of e)) (nat_le (private_of e) 4096) b.admits)

pub living : (c : CaseData) (m : Machine) (e : Entry) (cpu : Cpu) (wanted : Want) (t : ℕ) → IsBegun c m e cpu wanted → thread_of e ≡ Some t → is_live m t ≡ true
living c m e cpu wanted t b named = sym (ap (lives m) named) ∙ second_of_three (is_none m.ending) (lives m (thread_of e)) (nat_le (private_of e) 4096) b.admits

-- a growth leaves the machine as it is
pub unless : {A : Type 0} (b : Bool) (x : A) → is_some (cond b (Some x) None) ≡ true → Some x ≡ cond b (Some x) None
unless true x h = refl
unless false x h = absurd (let e : false ≡ true = h in cc)

-- ---- positions

-- an entry's last step doesn't decide whether it may come
settles_event : (o : Option (List ℕ)) (mid : Option ℕ) → option_and_then (λ left. Some (spot_with (onward mid left) Other)) o ≡ option_map (λ s. spot_with (onward mid s.left) s.latest) (option_and_then (λ left. Some (spot_with (onward (Some 0) left) Other)) o)
settles_event None mid = refl
settles_event (Some left) mid = refl

itself : (o : Option Spot) → o ≡ option_map (λ s. s) o
itself None = refl
itself (Some s) = refl

pub settles : (image : ImageData) (grown : List ℕ) (e : Entry) (x after : Cpu) (spot : Spot) (s : Stand) → spot_last image grown e after spot s ≡ option_map (settled e after.mid) (spot_last image grown e (answered x 0) spot s)
settles image grown (Ev t k) x after spot s = settles_event (entered image grown s.cpu.rip s.left) after.mid
settles image grown (Tick t k) x after spot s = refl
settles image grown (Flush t) x after spot s = refl
settles image grown (Wait t k) x after spot s = refl
settles image grown (Miss t k source target) x after spot s = itself _
settles image grown (Grow t a) x after spot s = itself _
settles image grown (Over t k) x after spot s = refl
settles image grown (Full t) x after spot s = itself _
settles image grown Dead x after spot s = refl

settles_from : (image : ImageData) (grown : List ℕ) (e : Entry) (x after : Cpu) (spot : Spot) (o : Option Stand) → option_and_then (spot_last image grown e after spot) o ≡ option_map (settled e after.mid) (option_and_then (spot_last image grown e (answered x 0) spot) o)
settles_from image grown e x after spot None = refl
settles_from image grown e x after spot (Some s) = settles image grown e x after spot s

pub settles_after : (image : ImageData) (grown : List ℕ) (e : Entry) (before x after : Cpu) (spot : Spot) → spot_after image grown e before after spot ≡ option_map (settled e after.mid) (spot_after image grown e before (answered x 0) spot)
settles_after image grown e before x after spot = settles_from image grown e x after spot (gated_steps image grown (private_of e) (record { cpu = before; left = spot.left }))

-- ---- an entry that may come

there : {A : Type 0} (o : Option A) → is_some o ≡ true → (x : A) × (o ≡ Some x)
there None h = absurd (let e : false ≡ true = h in cc)
there (Some x) h = (x, refl)

-- the gate after an entry
abbrev gate_after : Both → Entry → Spot → Machine → Gate
gate_after b e spot m = gate_with e b.gate (settled e (cpu_at m (slot_in e)).mid spot)

pub passed : (c : CaseData) (b : Both) (e : Entry) (spot : Spot) (m : Machine) → IsPlaced c b e spot → pass c.image e (cpu_at b.machine (slot_in e)) (cpu_at m (slot_in e)) b.gate ≡ Some (gate_after b e spot m)
unfolding pass
passed c b e spot m p =
    let after : Cpu = cpu_at m (slot_in e) in
    let here : spot_after c.image b.gate.grown e (cpu_at b.machine (slot_in e)) after (spot_at b.gate (slot_in e)) ≡ Some (settled e after.mid spot) =
    settles_after c.image b.gate.grown e (cpu_at b.machine (slot_in e)) after after (spot_at b.gate (slot_in e)) ∙ ap (option_map (settled e after.mid)) (sym (p.leaves after)) in
    ap (option_and_then (λ s. Some (gate_with e b.gate s))) here

pub advanced : (c : CaseData) (b : Both) (e : Entry) (cpu : Cpu) (wanted : Want) (spot : Spot) (m : Machine) → IsBegun c b.machine e cpu wanted → IsPlaced c b e spot → Some m ≡ step_from c b.machine e cpu → advance c b e ≡ Some (with_gate m (gate_after b e spot m))
unfolding advance
advanced c b e cpu wanted spot m begun placed made =
    ap (option_and_then (with_machine c b e)) (stepped c b.machine e cpu wanted begun ∙ sym made) ∙ ap (option_and_then (λ g. Some (with_gate m g))) (passed c b e spot m placed)

pub comes : (c : CaseData) (b : Both) (e : Entry) (cpu : Cpu) (wanted : Want) (spot : Spot) → IsBegun c b.machine e cpu wanted → IsPlaced c b e spot → (n : Both) × MayCome c b e n
comes c b e cpu wanted spot begun placed =
    let m = there (step_from c b.machine e cpu) begun.stands in
    (with_gate m.0 (gate_after b e spot m.0), record { step = advanced c b e cpu wanted spot m.0 begun placed (sym m.1); allowed = placed.allowed })

pub crowding : (c : CaseData) (m : Machine) (e : Entry) (cpu : Cpu) (wanted : Want) → IsBegun c m e cpu wanted → is_crowded c.image m e ≡ overfills_by m e wanted
crowding c m e cpu wanted begun = ap (λ o. crowds m e (option_map (want c.image) o)) begun.private ∙ ap (overfills_by m e) (sym begun.wants)

pub crowded : (c : CaseData) (m : Machine) (e : Entry) (cpu : Cpu) (wanted : Want) → IsBegun c m e cpu wanted → overfills_by m e wanted ≡ true → is_crowded c.image m e ≡ true
crowded c m e cpu wanted begun h = crowding c m e cpu wanted begun ∙ h

-- the machine and the gate after an entry that is taken
pub taken : (c : CaseData) (b n : Both) (e : Entry) (cpu : Cpu) (wanted : Want) (spot : Spot) → IsBegun c b.machine e cpu wanted → IsPlaced c b e spot → overfills_by b.machine e wanted ≡ false → Some n.machine ≡ step_from c b.machine e cpu → n.gate ≡ gate_after b e spot n.machine → IsTaken c b e n
taken c b n e cpu wanted spot begun placed room made gate = record {
  comes = record { step = advanced c b e cpu wanted spot n.machine begun placed made ∙ ap (λ g. Some (with_gate n.machine g)) (sym gate); allowed = placed.allowed };
  room = crowding c b.machine e cpu wanted begun ∙ room;
}

-- ---- an entry that may not come

pub barred_by_rule : (c : CaseData) (b : Both) (e : Entry) → IsTrue false ↔ IsAllowed c.image b.gate e → IsBarred c b e
barred_by_rule c b e h n may = let none : false ≡ true = h.1 may.allowed in cc

no_pass : (c : CaseData) (b : Both) (e : Entry) → ((m : Machine) → pass c.image e (cpu_at b.machine (slot_in e)) (cpu_at m (slot_in e)) b.gate ≡ None) → advance c b e ≡ None
unfolding advance
no_pass c b e h = each (step c b.machine e)
  where
    each : (o : Option Machine) → option_and_then (with_machine c b e) o ≡ None
    each None = refl
    each (Some m) = ap (option_and_then (λ g. Some (with_gate m g))) (h m)

barred : (c : CaseData) (b : Both) (e : Entry) → ((m : Machine) → pass c.image e (cpu_at b.machine (slot_in e)) (cpu_at m (slot_in e)) b.gate ≡ None) → IsBarred c b e
barred c b e h n may = none-some n (sym (no_pass c b e h) ∙ may.step)

pub barred_by_steps : (c : CaseData) (b : Both) (e : Entry) → None ≡ gated_from c b e → IsBarred c b e
unfolding pass
barred_by_steps c b e h =
    barred c b e (λ m. ap (λ o. option_and_then (λ s. Some (gate_with e b.gate s)) (option_and_then (spot_last c.image b.gate.grown e (cpu_at m (slot_in e)) (spot_at b.gate (slot_in e))) o)) (sym h))

pub barred_at_last : (c : CaseData) (b : Both) (e : Entry) (s : Stand) → Some s ≡ gated_from c b e → ((after : Cpu) → None ≡ spot_last c.image b.gate.grown e (answered after 0) (spot_at b.gate (slot_in e)) s) → IsBarred c b e
unfolding pass
barred_at_last c b e s made h =
    barred c b e (λ m.
    let after : Cpu = cpu_at m (slot_in e) in
    let none : spot_last c.image b.gate.grown e after (spot_at b.gate (slot_in e)) s ≡ None = settles c.image b.gate.grown e after after (spot_at b.gate (slot_in e)) s ∙ ap (option_map (settled e after.mid)) (sym (h after)) in
    ap (λ o. option_and_then (λ x. Some (gate_with e b.gate x)) (option_and_then (spot_last c.image b.gate.grown e after (spot_at b.gate (slot_in e))) o)) (sym made)
    ∙ ap (option_and_then (λ x. Some (gate_with e b.gate x))) none)

pub placed : (c : CaseData) (b : Both) (e : Entry) (s : Stand) (spot : Spot) → Some s ≡ gated_from c b e → ((after : Cpu) → Some spot ≡ spot_last c.image b.gate.grown e (answered after 0) (spot_at b.gate (slot_in e)) s) → IsAllowed c.image b.gate e → IsPlaced c b e spot
placed c b e s spot made h allowed = record {
  leaves = λ after. h after ∙ ap (option_and_then (spot_last c.image b.gate.grown e (answered after 0) (spot_at b.gate (slot_in e)))) made;
  allowed = allowed;
}

-- ---- what the program has found out

abbrev with_spot : Gate → ℕ → Spot → Gate
with_spot g s spot = record g { spots = slice_set g.spots s spot }

pub gate_settled : (b : Both) (e : Entry) (spot after : Spot) (m : Machine) (now new : Gate) (slot : ℕ) (cpu : Cpu) → now ≡ record b.gate { grown = grown_by e b.gate.grown } → slot ≡ slot_in e → cpu ≡ cpu_at m slot → after ≡ settled e cpu.mid spot → new ≡ record now { spots = slice_set now.spots slot after } → new ≡ gate_with e b.gate (settled e (cpu_at m (slot_in e)).mid spot)
gate_settled b e spot after m now new slot cpu h s k a n =
    let cpus : cpu ≡ cpu_at m (slot_in e) = k ∙ ap (cpu_at m) s in
    let afters : after ≡ settled e (cpu_at m (slot_in e)).mid spot = a ∙ ap (λ (x : Cpu). settled e x.mid spot) cpus in
    n ∙ ap (λ (g : Gate). with_spot g slot after) h ∙ ap (λ x. with_spot (record b.gate { grown = grown_by e b.gate.grown }) x after) s ∙ ap (with_spot (record b.gate { grown = grown_by e b.gate.grown }) (slot_in e)) afters

pub placed_if : (c : CaseData) (b : Both) (e : Entry) (s : Stand) (o : Option Position) → Some s ≡ gated_from c b e → IsAllowed c.image b.gate e → ((after : Cpu) → option_map (position_of c.image) o ≡ spot_last c.image b.gate.grown e (answered after 0) (spot_at b.gate (slot_in e)) s) → IfSome o (λ x. IsPlaced c b e (position_of c.image x))
placed_if c b e s (Some x) made allowed h = placed c b e s (position_of c.image x) made h allowed
placed_if c b e s None made allowed h = tt

pub barred_if : (c : CaseData) (b : Both) (e : Entry) (s : Stand) (o : Option Position) → Some s ≡ gated_from c b e → ((after : Cpu) → option_map (position_of c.image) o ≡ spot_last c.image b.gate.grown e (answered after 0) (spot_at b.gate (slot_in e)) s) → IfNone o (IsBarred c b e)
barred_if c b e s (Some x) made h = tt
barred_if c b e s None made h = barred_at_last c b e s made h

-- the same where image, grown places, position and stand are known by other names
pub last_is : (c : CaseData) (b : Both) (e : Entry) (s stand : Stand) (o : Option Position) (image : ImageData) (grown : List ℕ) (spot : Spot) → image ≡ c.image → grown ≡ b.gate.grown → spot ≡ spot_at b.gate (slot_in e) → s ≡ stand → ((after : Cpu) → option_map (position_of image) o ≡ spot_last image grown e (answered after 0) spot s) → (after : Cpu) → option_map (position_of c.image) o ≡ spot_last c.image b.gate.grown e (answered after 0) (spot_at b.gate (slot_in e)) stand
last_is c b e s stand o image grown spot i g p q h after =
    subst (λ x. option_map (position_of x) o ≡ spot_last x b.gate.grown e (answered after 0) (spot_at b.gate (slot_in e)) stand) i
    (subst (λ x. option_map (position_of image) o ≡ spot_last image x e (answered after 0) (spot_at b.gate (slot_in e)) stand) g
    (subst (λ x. option_map (position_of image) o ≡ spot_last image grown e (answered after 0) x stand) p
    (subst (λ x. option_map (position_of image) o ≡ spot_last image grown e (answered after 0) spot x) q (h after))))

pub allowed_in : (c : CaseData) (b : Both) (e : Entry) (image : ImageData) (g : Gate) → image ≡ c.image → g ≡ b.gate → IsAllowed image g e → IsAllowed c.image b.gate e
allowed_in c b e image g i s h = subst (λ x. IsAllowed x b.gate e) i (subst (λ x. IsAllowed image x e) s h)
