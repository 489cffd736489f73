-- The rules of a turn always name a step.
use Rattle.std.proofs.Common.{◌≡◌, ◌≢◌, ℕ, zero, suc, ◌+◌, ◌<◌, ◌≤◌, ◌⊎◌, inl, inr, Bool, true, false, cond, List, [], ◌∷◌, Option, Some, None, refl, sym, ap, ◌∙◌, subst, arith, ◌==◌, ◌&&◌, not, nat_le}
use Rattle.std.specs.Prelude.{option_and_then}
use Rattle.std.proofs.lemmas.Bool.Decides.{nat_tests}
use Rattle.elf_image.specs.Layout.{ImageData}
use Rattle.x86_model.specs.declared.cpu.Cpu.{Cpu}
use Rattle.x86_model.specs.Want.{want}
use Rattle.basic_blocks.specs.Places.{is_code_place}
use Rattle.basic_blocks.specs.Reach.{is_among}
use Rattle.basic_blocks.specs.Span.{span}
use Rattle.machine_model.specs.CaseData.{CaseData}
use Rattle.machine_model.specs.Step.{privately}
use Rattle.machine_model.specs.Gated.{Both, Stand, between_blocks, entered, gated_step, gated_steps, is_between, moved_on, stand_at, within_block}
use Rattle.machine_model.specs.InBlocks.{IsPlaced}
use Rattle.machine_model.specs.Own.{IsAhead}
use Rattle.machine_model.specs.Serial.{AtEvent, AtLimit, AtMiss, AtMost, GoesOn, Point, Rule, by_limit, by_miss, by_most, by_want, is_missing, next_by, next_point, on_to, point_on, rule_at, stop_from}
use Rattle.machine_model.proofs.InBlocks.{first_left, step_placed}
use Rattle.machine_model.proofs.Own.{le_of}

pub clash : {P : Type 0} (b : Bool) → b ≡ true → b ≡ false → P
clash b p q = absurd (let e : true ≡ false = sym p ∙ q in cc)

-- ---- what a rule says of its point

pub record Below (c : CaseData) (b : Both) (p : Point) : Type 0 where
  pub room : b.machine.steps + p.k < c.limit
  pub there : is_missing c.image b.gate.grown p.stand ≡ false

abbrev pub Says : CaseData → Both → Point → Rule → Type 0
Says c b p AtLimit = c.limit ≤ b.machine.steps + p.k
Says c b p AtMiss = (b.machine.steps + p.k < c.limit) × (is_missing c.image b.gate.grown p.stand ≡ true)
Says c b p AtMost = Below c b p × (p.k ≡ 4096)
Says c b p AtEvent = Below c b p × (p.k ≢ 4096) × (privately (want c.image p.stand.cpu) ≡ None)
Says c b p GoesOn = Below c b p × (p.k ≢ 4096) × ((next : Cpu) × (privately (want c.image p.stand.cpu) ≡ Some next))

not_le : (a b : ℕ) → nat_le a b ≡ false → b < a
not_le a b h = grind (arith, nat_tests)

says_want : (c : CaseData) (b : Both) (p : Point) (o : Option Cpu) → privately (want c.image p.stand.cpu) ≡ o → Below c b p → p.k ≢ 4096 → Says c b p (by_want o)
says_want c b p None e h ne = (h, ne, e)
says_want c b p (Some next) e h ne = (h, ne, (next, e))

says_most : (c : CaseData) (b : Both) (p : Point) (most : Bool) → (p.k == 4096) ≡ most → Below c b p → Says c b p (by_most c p most)
says_most c b p true e h = (h, let q : p.k ≡ 4096 = grind (arith, nat_tests) in q)
says_most c b p false e h = says_want c b p (privately (want c.image p.stand.cpu)) refl h (let q : p.k ≢ 4096 = grind (arith, nat_tests) in q)

says_miss : (c : CaseData) (b : Both) (p : Point) (missing : Bool) → is_missing c.image b.gate.grown p.stand ≡ missing → b.machine.steps + p.k < c.limit → Says c b p (by_miss c p missing)
says_miss c b p true e lt = (lt, e)
says_miss c b p false e lt = says_most c b p (p.k == 4096) refl (record { room = lt; there = e })

says_limit : (c : CaseData) (b : Both) (p : Point) (over : Bool) → nat_le c.limit (b.machine.steps + p.k) ≡ over → Says c b p (by_limit c b p over)
says_limit c b p true e = le_of c.limit (b.machine.steps + p.k) e
says_limit c b p false e = says_miss c b p (is_missing c.image b.gate.grown p.stand) refl (not_le c.limit (b.machine.steps + p.k) e)

pub says : (c : CaseData) (b : Both) (p : Point) → Says c b p (rule_at c b p)
unfolding rule_at
says c b p = says_limit c b p (nat_le c.limit (b.machine.steps + p.k)) refl

pub says_at : (c : CaseData) (b : Both) (p : Point) (r : Rule) → rule_at c b p ≡ r → Says c b p r
says_at c b p r e = subst (Says c b p) e (says c b p)

-- ---- a step can be made

not_true : (b : Bool) → not b ≡ false → b ≡ true
not_true true h = refl
not_true false h = absurd (let e : true ≡ false = h in cc)

within_some : (image : ImageData) (grown : List ℕ) (rip : ℕ) (left : List ℕ) → (is_between left && not (is_among grown rip)) ≡ false → ((x : ℕ) (xs : List ℕ) → left ≡ x ∷ xs → x ≡ rip) → (l : List ℕ) × (within_block image grown rip left ≡ Some l)
within_some image grown rip [] h f = (span image rip, ap (λ b. cond b (Some (span image rip)) None) (not_true (is_among grown rip) h))
within_some image grown rip (x ∷ xs) h f =
    let e : x ≡ rip = f x xs refl in
    let same : (x == rip) ≡ true = grind (arith, nat_tests) in
    (x ∷ xs, ap (λ b. cond b (Some (x ∷ xs)) None) same)

between_some : (left : List ℕ) → ((x : ℕ) (xs : List ℕ) → left ≡ x ∷ xs → ⊥) → (l : List ℕ) × (between_blocks left ≡ Some l)
between_some [] f = ([], refl)
between_some (x ∷ xs) f = absurd (f x xs refl)

entered_by : (image : ImageData) (grown : List ℕ) (d : Stand) (code : Bool) → is_code_place image d.cpu.rip ≡ code → IsPlaced image grown d → (code && is_between d.left && not (is_among grown d.cpu.rip)) ≡ false → (l : List ℕ) × (cond code (within_block image grown d.cpu.rip d.left) (between_blocks d.left) ≡ Some l)
entered_by image grown d true e h there = within_some image grown d.cpu.rip d.left there (λ x xs q. (first_left image grown d x xs h q).0)
entered_by image grown d false e h there = between_some d.left (λ x xs q. clash (is_code_place image d.cpu.rip) (first_left image grown d x xs h q).1 e)

-- where nothing is missing, a step is made somewhere
pub entered_some : (image : ImageData) (grown : List ℕ) (d : Stand) → IsPlaced image grown d → is_missing image grown d ≡ false → (l : List ℕ) × (entered image grown d.cpu.rip d.left ≡ Some l)
entered_some image grown d h there = entered_by image grown d (is_code_place image d.cpu.rip) refl h there

goes_some : (image : ImageData) (grown : List ℕ) (d : Stand) (next : Cpu) → IsPlaced image grown d → is_missing image grown d ≡ false → privately (want image d.cpu) ≡ Some next → (e : Stand) × (gated_step image grown d ≡ Some e)
goes_some image grown d next h there p =
    let l = entered_some image grown d h there in
    (_, ap (option_and_then (moved_on (privately (want image d.cpu)))) l.1 ∙ ap (λ o. moved_on o l.0) p)

-- ---- where a thread stops

-- a point that its thread reaches by private steps
pub record Reached (c : CaseData) (b : Both) (s : ℕ) (p : Point) : Type 0 where
  pub ahead : IsAhead c b s p.k p.stand
  pub few : p.k ≤ 4096
  pub placed : IsPlaced c.image b.gate.grown p.stand

-- one where a rule holds
pub record Stopped (c : CaseData) (b : Both) (s : ℕ) (p q : Point) : Type 0 where
  pub reached : Reached c b s q
  pub stops : rule_at c b q ≢ GoesOn
  pub later : p.k ≤ q.k

next_stops : (c : CaseData) (b : Both) (p : Point) (r : Rule) → r ≢ GoesOn → next_by c b p r ≡ None
next_stops c b p AtLimit h = refl
next_stops c b p AtMiss h = refl
next_stops c b p AtMost h = refl
next_stops c b p AtEvent h = refl
next_stops c b p GoesOn h = absurd (h refl)

one_ahead : (c : CaseData) (b : Both) (s k : ℕ) (d e : Stand) → IsAhead c b s k d → gated_step c.image b.gate.grown d ≡ Some e → IsAhead c b s (k + 1) e
unfolding gated_steps
one_ahead c b s k d e p q =
    let n : k + 1 ≡ suc k = omega arith in
    let more : gated_steps c.image b.gate.grown (suc k) (stand_at b s) ≡ Some e = ap (option_and_then (gated_step c.image b.gate.grown)) p ∙ q in
    subst (λ j. gated_steps c.image b.gate.grown j (stand_at b s) ≡ Some e) (sym n) more

most_stops : (c : CaseData) (b : Both) (p : Point) → p.k ≡ 4096 → rule_at c b p ≢ GoesOn
most_stops c b p all e = (says_at c b p GoesOn e).1 all

is_going : (r : Rule) → (r ≡ GoesOn) ⊎ (r ≢ GoesOn)
is_going AtLimit = inr (λ e. let q : AtLimit ≡ GoesOn = e in cc)
is_going AtMiss = inr (λ e. let q : AtMiss ≡ GoesOn = e in cc)
is_going AtMost = inr (λ e. let q : AtMost ≡ GoesOn = e in cc)
is_going AtEvent = inr (λ e. let q : AtEvent ≡ GoesOn = e in cc)
is_going GoesOn = inl refl

pub stops_there : (c : CaseData) (b : Both) (s n : ℕ) (p : Point) → p.k + n ≡ 4096 → Reached c b s p → Stopped c b s p (stop_from c b n p)
unfolding stop_from next_point
stops_there c b s zero p all h = record { reached = h; stops = most_stops c b p (omega arith); later = omega arith }
stops_there c b s (suc n) p all h =
    elim (is_going (rule_at c b p)) [
      | inl goes ↦
          let f = says_at c b p GoesOn goes in
          let e = goes_some c.image b.gate.grown p.stand f.2.0 h.placed f.0.there f.2.1 in
          let q : Point = record { k = p.k + 1; stand = e.0 } in
          let next : next_by c b p (rule_at c b p) ≡ Some q = ap (next_by c b p) goes ∙ ap (point_on (p.k + 1)) e.1 in
          let r : Reached c b s q = record { ahead = one_ahead c b s p.k p.stand e.0 h.ahead e.1; few = omega arith; placed = step_placed c.image b.gate.grown p.stand e.0 h.placed e.1 } in
          let more = stops_there c b s n q (omega arith) r in
          let same : stop_from c b n q ≡ on_to (stop_from c b n) p (next_by c b p (rule_at c b p)) = ap (on_to (stop_from c b n) p) (sym next) in
          let le : p.k ≤ (stop_from c b n q).k = let m = more.later in omega arith in
          subst (λ x. Stopped c b s p x) same (record { reached = more.reached; stops = more.stops; later = le })
      | inr not_on ↦
          let same : p ≡ on_to (stop_from c b n) p (next_by c b p (rule_at c b p)) = ap (on_to (stop_from c b n) p) (sym (next_stops c b p (rule_at c b p) not_on)) in
          subst (λ x. Stopped c b s p x) same (record { reached = h; stops = not_on; later = omega arith })
    ]
