-- What turns and rounds of the serial order add to a run.
use Rattle.std.proofs.Common.{◌≡◌, ℕ, ◌≤◌, Bool, true, false, List, [], ◌∷◌, ◌++◌, Option, Some, None, refl, sym, ap, ◌∙◌, subst, arith, length, length-append}
use Rattle.std.proofs.lemmas.List.{append_assoc}
use Rattle.std.proofs.lemmas.Option.{none-some, same_Some}
use Rattle.journal_pack.specs.declared.entry.Entry.{Entry}
use Rattle.journal_pack.specs.declared.entry.Entry.TheVariants.{Dead}
use Rattle.machine_model.specs.CaseData.{CaseData}
use Rattle.machine_model.specs.Gated.{Both, Leads, advance}
use Rattle.machine_model.specs.Play.{walk}
use Rattle.machine_model.specs.Serial.{AreReaches, Reaches, Rules, Run, dead_if, one_turn, round, rounds, with_dead}
use Rattle.machine_model.proofs.Gates.{leads_one}
use Rattle.machine_model.proofs.SerialGated.{Follows, RunsAlong, follows_itself, one_turn_goes, origin_at, round_goes, rounds_goes, spots_on, walk_keeps}

-- a run began with another one
pub record Adds (c : CaseData) (run next : Run) : Type 0 where
  pub more : List Entry
  pub journal : next.journal ≡ run.journal ++ more
  pub leads : Leads c run.both more next.both
  pub spots : length next.both.gate.spots ≡ 64

adds_by : (c : CaseData) (run next : Run) → Follows c (origin_at run) next.both next.journal → Adds c run next
adds_by c run next h = record { more = h.more; journal = sym h.added; leads = h.leads; spots = spots_on c run.both next.both h.more h.leads ∙ h.spots }

pub turn_adds : (c : CaseData) (reach : Reaches) (r : Rules) (run next : Run) (s : ℕ) → AreReaches c.image reach → length run.both.gate.spots ≡ 64 → one_turn c reach r run s ≡ Some next → Adds c run next
turn_adds c reach r run next s right spots p = adds_by c run next (one_turn_goes c (origin_at run) reach r run next s right (follows_itself c run.both run.journal spots) p)

pub walk_adds : (c : CaseData) (reach : Reaches) (r : Rules) (run next : Run) (es : List ℕ) → AreReaches c.image reach → length run.both.gate.spots ≡ 64 → walk (one_turn c reach r) run es ≡ Some next → Adds c run next
walk_adds c reach r run next es right spots p = adds_by c run next (walk_keeps (RunsAlong c (origin_at run)) (one_turn c reach r) (λ x y s a q. one_turn_goes c (origin_at run) reach r x y s right a q) run next es (follows_itself c run.both run.journal spots) p)

with_dead_adds : (c : CaseData) (run next : Run) (o : Option Both) → length run.both.gate.spots ≡ 64 → advance c run.both Dead ≡ o → with_dead run o ≡ Some next → Adds c run next
with_dead_adds c run next None spots came p = absurd (none-some next p)
with_dead_adds c run next (Some n) spots came p =
    let leads : Leads c run.both (Dead ∷ []) n = leads_one c run.both n Dead came tt in
    subst (Adds c run) (same_Some _ next p) (record { more = Dead ∷ []; journal = refl; leads = leads; spots = spots_on c run.both n (Dead ∷ []) leads ∙ spots })

pub dead_adds : (c : CaseData) (run next : Run) (b : Bool) → length run.both.gate.spots ≡ 64 → dead_if c run b ≡ Some next → Adds c run next
dead_adds c run next true spots p = with_dead_adds c run next (advance c run.both Dead) spots refl p
dead_adds c run next false spots p = subst (Adds c run) (same_Some run next p) (adds_by c run run (follows_itself c run.both run.journal spots))

pub round_adds : (c : CaseData) (reach : Reaches) (r : Rules) (run next : Run) → AreReaches c.image reach → length run.both.gate.spots ≡ 64 → round c reach r run ≡ Some next → Adds c run next
round_adds c reach r run next right spots p = adds_by c run next (round_goes c (origin_at run) reach r run next right (follows_itself c run.both run.journal spots) p)

pub rounds_add : (c : CaseData) (reach : Reaches) (r : Rules) (n : ℕ) (run next : Run) → AreReaches c.image reach → length run.both.gate.spots ≡ 64 → rounds c reach r n run ≡ Some next → Adds c run next
rounds_add c reach r n run next right spots p = adds_by c run next (rounds_goes c (origin_at run) reach r n run next right (follows_itself c run.both run.journal spots) p)

pub adds_length : (c : CaseData) (run next : Run) → Adds c run next → length run.journal ≤ length next.journal
adds_length c run next a = let e = ap length a.journal in let l = length-append run.journal a.more in omega (arith, e, l)

leads_none : (c : CaseData) (b n : Both) (more : List Entry) → length more ≡ 0 → Leads c b more n → b ≡ n
unfolding Leads
leads_none c b n [] e p = p
leads_none c b n (x ∷ more) e p = absurd (omega arith)

-- a run that grew by nothing is where it was
pub adds_none : (c : CaseData) (run next : Run) → Adds c run next → length next.journal ≡ length run.journal → run.both ≡ next.both
adds_none c run next a e = let l = ap length a.journal in let m = length-append run.journal a.more in leads_none c run.both next.both a.more (omega (arith, e, l, m)) a.leads

-- what begins with a journal goes on doing so
pub begins_on : (c : CaseData) (run next : Run) (journal : List Entry) → (rest : List Entry) × (run.journal ≡ journal ++ rest) → Adds c run next → (rest : List Entry) × (next.journal ≡ journal ++ rest)
begins_on c run next journal b a = (b.0 ++ a.more, a.journal ∙ ap (λ x. x ++ a.more) b.1 ∙ append_assoc journal b.0 a.more)
