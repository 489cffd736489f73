-- How often the engine ran.
use Rattle.std.proofs.Common.{◌≡◌, ℕ, ◌+◌, ◌-◌, ◌≤◌, inl, inr, List, [], ◌∷◌, ◌++◌, Option, Some, None, refl, sym, ap, ◌∙◌, subst, arith}
use Rattle.std.specs.Prelude.{IsSome}
use Rattle.ir_syntax.specs.declared.block.Block.{Block}
use Rattle.journal_pack.specs.declared.entry.Entry.{Entry}
use Rattle.journal_pack.specs.declared.entry.Entry.TheVariants.{Dead}
use Rattle.machine_model.specs.CaseData.{CaseData}
use Rattle.machine_model.specs.declared.ending.RunEnd.{RunEnd}
use Rattle.machine_model.specs.Comes.{or_stay, walk_on}
use Rattle.machine_model.specs.Gated.{Both, advance, begin}
use Rattle.hall_core.specs.Hall.{HallData, machine}
use Rattle.guest_parts.specs.Running.{Rises}
use Rattle.guest_parts.proofs.Runs.{rises_on}
use Rattle.guest_entries.specs.Steps.{instruction_steps, steps_from}
use Rattle.ir_runner.specs.Rounds.{HasRun}

steps_append : (c : CaseData) (b : Both) (xs ys : List Entry) → steps_from c b (xs ++ ys) ≡ steps_from c b xs + steps_from c (walk_on c b xs) ys
unfolding steps_from walk_on
steps_append c b [] ys = let e : steps_from c b ys ≡ 0 + steps_from c b ys = omega arith in e
steps_append c b (e ∷ xs) ys =
    let more = steps_append c (or_stay b (advance c b e)) xs ys in
    omega (arith, more)

-- more entries make no fewer steps
pub steps_grow : (c : CaseData) (old new : List Entry) → (entries : List Entry) × (new ≡ old ++ entries) → instruction_steps c old ≤ instruction_steps c new
steps_grow c old new g =
    let e : instruction_steps c new ≡ instruction_steps c old + steps_from c (walk_on c (begin c) old) g.0 = ap (instruction_steps c) g.1 ∙ steps_append c (begin c) old g.0 in
    omega (arith, e)

rises_less : (a b m n : ℕ) → m ≤ n → Rises a b n → Rises a b m
rises_less a b m n le (inl h) = inl (omega (arith, le, h))
rises_less a b m n le (inr h) = inr h

-- what was added to one state's journal by another's
abbrev pub Grew : HallData Block → HallData Block → Type 0
Grew x y = (entries : List Entry) × (y.journal ≡ x.journal ++ entries)

pub ran_nothing : (a : ℕ) (x : HallData Block) → HasRun a a x x
ran_nothing a x = inl (omega arith)

pub ran_then : (a b c : ℕ) (x y z : HallData Block) → y.case ≡ x.case → Grew x y → Grew y z → HasRun a b x y → HasRun b c y z → HasRun a c x z
ran_then a b c x y z case g h p q =
    let here : HasRun b c (record y { case = x.case }) z = subst (λ (k : CaseData). HasRun b c (record y { case = k }) z) case q in
    let m = steps_grow x.case x.journal y.journal g in
    let n = steps_grow x.case y.journal z.journal h in
    rises_on a b c (instruction_steps x.case y.journal - instruction_steps x.case x.journal) (instruction_steps x.case z.journal - instruction_steps x.case y.journal) (instruction_steps x.case z.journal - instruction_steps x.case x.journal) (omega (arith, m, n)) p here

-- no step of an instruction was added
pub ran_same : (a b : ℕ) (x y z : HallData Block) → instruction_steps x.case z.journal ≡ instruction_steps x.case y.journal → HasRun a b x y → HasRun a b x z
ran_same a b x y z e p = subst (λ n. Rises a b (n - instruction_steps x.case x.journal)) (sym e) p

-- a turn of a guest
pub turn_ran : (a b k j : ℕ) (x y : HallData Block) → ((machine x).ending ≡ None → k ≡ 0) → (IsSome (machine x).ending → y ≡ x) → Rises a b ((instruction_steps x.case y.journal + j) - (instruction_steps x.case x.journal + k)) → HasRun a b x y
turn_ran a b k j x y told ended h = turn_ran_by a b k j x y (machine x).ending refl told ended h
  where
    turn_ran_by : (a b k j : ℕ) (x y : HallData Block) (end : Option RunEnd) → (machine x).ending ≡ end → ((machine x).ending ≡ None → k ≡ 0) → (IsSome (machine x).ending → y ≡ x) → Rises a b ((instruction_steps x.case y.journal + j) - (instruction_steps x.case x.journal + k)) → HasRun a b x y
    turn_ran_by a b k j x y None e told ended h = let z = told e in rises_less a b (instruction_steps x.case y.journal - instruction_steps x.case x.journal) _ (omega (arith, z)) h
    turn_ran_by a b k j x y (Some r) e told ended h =
        let same = ap (λ (u : HallData Block). instruction_steps x.case u.journal) (ended (subst IsSome (sym e) refl)) in
        rises_less a b (instruction_steps x.case y.journal - instruction_steps x.case x.journal) _ (omega (arith, same)) h

-- `Dead` makes no step
pub dead_steps : (c : CaseData) (journal : List Entry) → instruction_steps c (journal ++ Dead ∷ []) ≡ instruction_steps c journal
unfolding steps_from
dead_steps c journal = let e = steps_append c (begin c) journal (Dead ∷ []) in omega (arith, e)
