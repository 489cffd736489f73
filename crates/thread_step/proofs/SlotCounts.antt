-- How many steps of instructions the entries of a slot make, and those of all slots.
use Rattle.std.proofs.Common.{◌≡◌, ℕ, zero, suc, ◌+◌, ◌<◌, ◌≤◌, ◌==◌, Bool, true, false, cond, List, [], ◌∷◌, ◌++◌, refl, ap, arith}
use Rattle.std.specs.Prelude.{All, if◌then◌else◌}
use Rattle.std.proofs.lemmas.Bool.{eqb-false}
use Rattle.std.proofs.lemmas.Bool.Decides.{nat_tests}
use Rattle.std.proofs.lemmas.List.Elements.{All-head, All-tail}
use Rattle.address_space.proofs.Numbers.{slot_below}
use Rattle.address_space.specs.Slots.{slot_of}
use Rattle.journal_pack.specs.declared.entry.Entry.{Entry}
use Rattle.journal_pack.specs.declared.entry.Entry.TheVariants.{Ev, Tick, Flush, Wait, Miss, Grow, Over, Full, Dead}
use Rattle.machine_model.specs.CaseData.{CaseData}
use Rattle.machine_model.specs.Comes.{or_stay, walk_on}
use Rattle.machine_model.specs.Gated.{Both, advance, begin}
use Rattle.machine_model.specs.Play.{own}
use Rattle.machine_model.specs.State.{Machine}
use Rattle.machine_model.specs.Step.{slot_in}
use Rattle.guest_entries.specs.Steps.{entry_steps, instruction_steps, steps_from}
use Rattle.thread_step.specs.Counts.{slot_steps, slot_steps_from, slots_steps}

-- ---- one list after another

steps_append : (c : CaseData) (b : Both) (xs ys : List Entry) → steps_from c b (xs ++ ys) ≡ steps_from c b xs + steps_from c (walk_on c b xs) ys
unfolding steps_from walk_on
steps_append c b [] ys = omega arith
steps_append c b (x ∷ xs) ys = let on = steps_append c (or_stay b (advance c b x)) xs ys in omega (arith, on)

slot_append : (c : CaseData) (s : ℕ) (b : Both) (xs ys : List Entry) → slot_steps_from c s b (xs ++ ys) ≡ slot_steps_from c s b xs + slot_steps_from c s (walk_on c b xs) ys
unfolding slot_steps_from walk_on
slot_append c s b [] ys = omega arith
slot_append c s b (x ∷ xs) ys = let on = slot_append c s (or_stay b (advance c b x)) xs ys in omega (arith, on)

-- ---- entries of other slots, and of the slot alone

none_by : (c : CaseData) (s : ℕ) (b : Both) (e : Entry) (es : List Entry) (k : Bool) → (slot_in e == s) ≡ k → cond k (e ∷ own s es) (own s es) ≡ [] → (own s es ≡ [] → slot_steps_from c s (or_stay b (advance c b e)) es ≡ 0) → slot_steps_from c s b (e ∷ es) ≡ 0
unfolding slot_steps_from
none_by c s b e es true is q on = absurd (let no : e ∷ own s es ≡ [] = q in cc)
none_by c s b e es false is q on = rw is (let rest = on q in omega (arith, rest))

slot_none : (c : CaseData) (s : ℕ) (b : Both) (es : List Entry) → own s es ≡ [] → slot_steps_from c s b es ≡ 0
unfolding slot_steps_from
slot_none c s b [] none = refl
slot_none c s b (e ∷ es) none = none_by c s b e es (slot_in e == s) refl none (slot_none c s (or_stay b (advance c b e)) es)

slot_all : (c : CaseData) (s : ℕ) (b : Both) (es : List Entry) → All (λ e. slot_in e ≡ s) es → slot_steps_from c s b es ≡ steps_from c b es
unfolding slot_steps_from steps_from
slot_all c s b [] all = refl
slot_all c s b (e ∷ es) all =
    let q : slot_in e ≡ s = All-head (λ x. slot_in x ≡ s) e es all in
    let here : (slot_in e == s) ≡ true = grind (arith, nat_tests) in
    rw here (ap (λ n. entry_steps c.image b.machine e + n) (slot_all c s (or_stay b (advance c b e)) es (All-tail (λ x. slot_in x ≡ s) e es all)))

-- entries of other slots leave the slot's steps
pub slot_stays : (c : CaseData) (s : ℕ) (journal es : List Entry) → own s es ≡ [] → slot_steps c s (journal ++ es) ≡ slot_steps c s journal
slot_stays c s journal es none =
    let whole = slot_append c s (begin c) journal es in
    let rest = slot_none c s (walk_on c (begin c) journal) es none in
    omega (arith, whole, rest)

-- entries of the slot alone make the slot's steps and all steps more by the same
pub slot_rises : (c : CaseData) (s : ℕ) (journal es : List Entry) → All (λ e. slot_in e ≡ s) es → slot_steps c s (journal ++ es) + instruction_steps c journal ≡ slot_steps c s journal + instruction_steps c (journal ++ es)
slot_rises c s journal es all =
    let here = slot_append c s (begin c) journal es in
    let whole = steps_append c (begin c) journal es in
    let same = slot_all c s (walk_on c (begin c) journal) es all in
    omega (arith, here, whole, same)

-- a journal without entries makes none
pub slot_begins : (c : CaseData) (s : ℕ) → slot_steps c s [] ≡ 0
unfolding slot_steps_from
slot_begins c s = refl

-- ---- all slots

-- the slots below n, from a state on
slots_from : CaseData → ℕ → Both → List Entry → ℕ
slots_from c zero b es = 0
slots_from c (suc n) b es = slots_from c n b es + slot_steps_from c n b es

-- x for the one of the numbers below n that is k
picked : ℕ → ℕ → ℕ → ℕ
picked zero k x = 0
picked (suc n) k x = picked n k x + (if k == n then x else 0)

picks_by : (n k x : ℕ) (b : Bool) → (k == n) ≡ b → k < suc n → (k < n → x ≤ picked n k x) → x ≤ picked (suc n) k x
unfolding picked
picks_by n k x true is less on = rw is (omega arith)
picks_by n k x false is less on = let ne = eqb-false k n is in let few = on (omega (arith, less, ne)) in rw is (omega (arith, few))

picks : (n k x : ℕ) → k < n → x ≤ picked n k x
picks zero k x less = absurd (omega arith)
picks (suc n) k x less = picks_by n k x (k == n) refl less (picks n k x)

slots_cons : (c : CaseData) (n : ℕ) (b : Both) (e : Entry) (es : List Entry) → slots_from c n b (e ∷ es) ≡ picked n (slot_in e) (entry_steps c.image b.machine e) + slots_from c n (or_stay b (advance c b e)) es
unfolding slot_steps_from picked slots_from
slots_cons c zero b e es = omega arith
slots_cons c (suc n) b e es = let on = slots_cons c n b e es in omega (arith, on)

-- an entry's steps are among those of the slots
entry_within : (c : CaseData) (m : Machine) (e : Entry) → entry_steps c.image m e ≤ picked 64 (slot_in e) (entry_steps c.image m e)
entry_within c m (Ev t k) = picks 64 (slot_of t) (entry_steps c.image m (Ev t k)) (slot_below t)
entry_within c m (Tick t k) = picks 64 (slot_of t) k (slot_below t)
entry_within c m (Flush t) = omega arith
entry_within c m (Wait t k) = picks 64 (slot_of t) k (slot_below t)
entry_within c m (Miss t k source target) = picks 64 (slot_of t) k (slot_below t)
entry_within c m (Grow t a) = omega arith
entry_within c m (Over t k) = picks 64 (slot_of t) k (slot_below t)
entry_within c m (Full t) = omega arith
entry_within c m Dead = omega arith

within_from : (c : CaseData) (b : Both) (es : List Entry) → steps_from c b es ≤ slots_from c 64 b es
unfolding steps_from
within_from c b [] = omega arith
within_from c b (e ∷ es) =
    let first = entry_within c b.machine e in
    let on = within_from c (or_stay b (advance c b e)) es in
    let both = slots_cons c 64 b e es in
    omega (arith, first, on, both)

slots_are : (c : CaseData) (n : ℕ) (journal : List Entry) → slots_from c n (begin c) journal ≡ slots_steps c n journal
unfolding slots_steps slots_from
slots_are c zero journal = refl
slots_are c (suc n) journal = let on = slots_are c n journal in omega (arith, on)

-- each step is one of a slot's
pub slots_make_all : (c : CaseData) (journal : List Entry) → instruction_steps c journal ≤ slots_steps c 64 journal
slots_make_all c journal =
    let within = within_from c (begin c) journal in
    let same = slots_are c 64 journal in
    omega (arith, within, same)
