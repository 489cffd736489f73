-- One entry of a gated walk, part by part.
use Rattle.std.proofs.Common.{◌≡◌, ◌≢◌, ℕ, zero, suc, ◌+◌, ◌-◌, ◌<◌, ◌≤◌, ◌⊎◌, ◌↔◌, inl, inr, Bool, true, false, not, List, [], ◌∷◌, ◌++◌, Option, Some, None, refl, sym, ap, ◌∙◌, subst, arith, length, take, drop, get_or, set, add-one}
use Rattle.std.specs.Prelude.{◌==◌, nat_le, nat_lt, slice_index_or, slice_set, IsTrue, ⊤, option_and_then}
use Rattle.std.specs.List.{count_by, remove}
use Rattle.std.proofs.lemmas.List.{take_all, set_past}
use Rattle.std.proofs.lemmas.List.Sums.{count_by_more_yes, count_by_more_no}
use Rattle.std.proofs.lemmas.Bool.Decides.{nat_tests}
use Rattle.elf_image.specs.Layout.{ImageData}
use Rattle.x86_model.specs.declared.cpu.Cpu.{Cpu}
use Rattle.x86_model.specs.Want.{want}
use Rattle.journal_pack.specs.declared.entry.Entry.{Entry}
use Rattle.journal_pack.specs.declared.entry.Entry.TheVariants.{Ev}
use Rattle.basic_blocks.specs.Places.{is_code_place}
use Rattle.journal_pack.specs.Entry.{private_of}
use Rattle.machine_model.specs.Step.{privately, slot_in}
use Rattle.basic_blocks.specs.Span.{span}
use Rattle.basic_blocks.specs.Reach.{is_among, IsReach}
use Rattle.machine_model.specs.Gated.{Gate, Spot, Stand, moved_on, Other, spot_at, spot_with, is_between, rest_of, within_block, between_blocks, entered, onward, gated_step, gated_steps, spot_last, gate_with, pass, most_grown, IsWithinReach}
use Rattle.machine_plain.specs.PlainGates.{led_to, new_places}
use Rattle.machine_plain.proofs.Closures.{one_reach}

-- ---- counts

some_left : (n : ℕ) → (suc n == 0) ≡ false
some_left n = grind (arith, nat_tests)

pub between_is : (left : List ℕ) → (length left == 0) ≡ is_between left
between_is [] = refl
between_is (x ∷ xs) = some_left (length xs)

pub new_yes : (grown places : List ℕ) (count i d : ℕ) → i < length places → is_among grown (get_or places i d) ≡ false → (count ≡ new_places grown (take i places)) × (count ≤ i) → (count + 1 ≡ new_places grown (take (i + 1) places)) × (count + 1 ≤ i + 1)
new_yes grown places count i d lt new h =
    let yes : not (is_among grown (get_or places i d)) ≡ true = rw new refl in
    (ap (λ n. n + 1) h.0 ∙ sym (count_by_more_yes (λ p. not (is_among grown p)) places i d lt yes), omega (arith, h.1))

pub new_no : (grown places : List ℕ) (count i d : ℕ) → i < length places → is_among grown (get_or places i d) ≡ true → (count ≡ new_places grown (take i places)) × (count ≤ i) → (count ≡ new_places grown (take (i + 1) places)) × (count ≤ i + 1)
new_no grown places count i d lt old h =
    let no : not (is_among grown (get_or places i d)) ≡ false = rw old refl in
    (h.0 ∙ sym (count_by_more_no (λ p. not (is_among grown p)) places i d lt no), omega (arith, h.1))

pub new_all : (grown places : List ℕ) (count i : ℕ) → length places ≤ i → (count ≡ new_places grown (take i places)) × (count ≤ i) → count ≡ new_places grown places
new_all grown places count i le h = h.0 ∙ ap (new_places grown) (take_all i places le)

pub fit_together : (n c : ℕ) → n ≤ 65536 → nat_le c (65536 - n) ≡ nat_le (n + c) most_grown
fit_together n c le = grind (arith, nat_tests)

pub too_many : (n c : ℕ) → 65536 < n → false ≡ nat_le (n + c) most_grown
too_many n c lt = grind (arith, nat_tests)

-- ---- growth

no_way : (X : Type 0) → (X → ⊥) → IsTrue false ↔ X
no_way X h = (λ e. let none : false ≡ true = e in cc, λ x. absurd (h x))

le_from_test : (n m : ℕ) → nat_le n m ≡ true → n ≤ m
le_from_test n m h = grind (arith, nat_tests)

test_from_le : (n m : ℕ) → n ≤ m → nat_le n m ≡ true
test_from_le n m h = grind (arith, nat_tests)

pub reaches_if_it_fits : (image : ImageData) (grown places : List ℕ) (g a : ℕ) (fits : Bool) → IsReach image (g ∷ []) places → is_among places a ≡ true → fits ≡ nat_le (length grown + new_places grown places) most_grown → IsTrue fits ↔ IsWithinReach image grown g a
reaches_if_it_fits image grown places g a fits reach member is = (
  λ h. record { places = places; reach = reach; member = member; fits = le_from_test _ _ (sym is ∙ h) },
  λ w. is ∙ test_from_le _ _ (subst (λ x. length grown + new_places grown x ≤ most_grown) (one_reach image (g ∷ []) w.places places w.reach reach) w.fits),
)

pub not_reached : (image : ImageData) (grown places : List ℕ) (g a : ℕ) → IsReach image (g ∷ []) places → is_among places a ≡ false → IsTrue false ↔ IsWithinReach image grown g a
not_reached image grown places g a reach absent =
    no_way _ (λ w. let none : false ≡ true = sym absent ∙ subst (λ x. is_among x a ≡ true) (one_reach image (g ∷ []) w.places places w.reach reach) w.member in cc)

pub growth_of_target : (a g : ℕ) (X : Type 0) → a ≡ g → IsTrue true ↔ ((a ≡ g) ⊎ X)
growth_of_target a g X e = (λ h. inl e, λ h. refl)

pub growth_of_none : (a g : ℕ) (there : Bool) (X : Type 0) → a ≢ g → there ≡ false → IsTrue false ↔ ((a ≡ g) ⊎ (IsTrue there × X))
growth_of_none a g there X ne absent = no_way _ (λ h. elim h [ inl e ↦ ne e | inr w ↦ (let none : false ≡ true = sym absent ∙ w.0 in cc) ])

pub growth_of_reach : (a g : ℕ) (there b : Bool) (X : Type 0) → a ≢ g → there ≡ true → IsTrue b ↔ X → IsTrue b ↔ ((a ≡ g) ⊎ (IsTrue there × X))
growth_of_reach a g there b X ne is h = (λ t. inr (is, h.0 t), λ w. elim w [ inl e ↦ absurd (ne e) | inr p ↦ h.1 p.1 ])

pub no_growth : IsTrue false ↔ ⊥
no_growth = no_way ⊥ (λ h. h)

pub always : IsTrue true ↔ ⊤
always = (λ h. tt, λ h. refl)

-- ---- steps in blocks

pub block_under_way : (image : ImageData) (grown : List ℕ) (rip : ℕ) (left : List ℕ) (d : ℕ) → (length left == 0) ≡ false → led_to (slice_index_or left 0 d == rip) left ≡ within_block image grown rip left
block_under_way image grown rip [] d some = let none : true ≡ false = some in cc
block_under_way image grown rip (x ∷ xs) d some = refl

pub block_not_grown : (image : ImageData) (grown : List ℕ) (rip : ℕ) (left : List ℕ) → (length left == 0) ≡ true → is_among grown rip ≡ false → None ≡ within_block image grown rip left
block_not_grown image grown rip [] none absent = rw absent refl
block_not_grown image grown rip (x ∷ xs) none absent = let some : false ≡ true = sym (some_left (length xs)) ∙ none in cc

pub block_entered : (image : ImageData) (grown : List ℕ) (rip : ℕ) (left new : List ℕ) → (length left == 0) ≡ true → is_among grown rip ≡ true → new ≡ span image rip → Some new ≡ within_block image grown rip left
block_entered image grown rip [] new none there is = rw there (ap Some is)
block_entered image grown rip (x ∷ xs) new none there is = let some : false ≡ true = sym (some_left (length xs)) ∙ none in cc

pub code_entered : (image : ImageData) (grown : List ℕ) (rip : ℕ) (left : List ℕ) (o : Option (List ℕ)) → is_code_place image rip ≡ true → o ≡ within_block image grown rip left → o ≡ entered image grown rip left
code_entered image grown rip left o code h = rw code h

pub door_entered : (image : ImageData) (grown : List ℕ) (rip : ℕ) (left : List ℕ) (b : Bool) → is_code_place image rip ≡ false → b ≡ is_between left → led_to b left ≡ entered image grown rip left
door_entered image grown rip [] b code is = rw (code, is) refl
door_entered image grown rip (x ∷ xs) b code is = rw (code, is) refl

pub first_left : (left : List ℕ) → remove left 0 ≡ rest_of left
first_left [] = refl
first_left (x ∷ xs) = refl

pub none_to_leave : (left : List ℕ) → (length left == 0) ≡ true → left ≡ rest_of left
none_to_leave [] none = refl
none_to_leave (x ∷ xs) none = let some : false ≡ true = sym (some_left (length xs)) ∙ none in cc

pub step_made : (image : ImageData) (grown : List ℕ) (s : Stand) (cpu next : Cpu) (left : List ℕ) → cpu ≡ s.cpu → Some left ≡ entered image grown s.cpu.rip s.left → privately (want image cpu) ≡ Some next → moved_on (Some next) left ≡ gated_step image grown s
step_made image grown s cpu next left same stands private = rw (← stands, ← same, private) refl

pub step_not_entered : (image : ImageData) (grown : List ℕ) (s : Stand) → None ≡ entered image grown s.cpu.rip s.left → None ≡ gated_step image grown s
step_not_entered image grown s stands = rw (← stands) refl

pub step_not_private : (image : ImageData) (grown : List ℕ) (s : Stand) (cpu : Cpu) (left : List ℕ) → cpu ≡ s.cpu → Some left ≡ entered image grown s.cpu.rip s.left → privately (want image cpu) ≡ None → None ≡ gated_step image grown s
step_not_private image grown s cpu left same stands private = rw (← stands, ← same, private) refl

stuck_on : (image : ImageData) (grown : List ℕ) (j k : ℕ) (s : Stand) → gated_steps image grown k s ≡ None → gated_steps image grown (j + k) s ≡ None
unfolding gated_steps
stuck_on image grown zero k s h = let e : zero + k ≡ k = omega arith in rw e h
stuck_on image grown (suc j) k s h = let e : suc j + k ≡ suc (j + k) = omega arith in rw (e, stuck_on image grown j k s h) refl

pub one_gated : (image : ImageData) (grown : List ℕ) (k : ℕ) (s now next : Stand) → Some now ≡ gated_steps image grown k s → Some next ≡ gated_step image grown now → Some next ≡ gated_steps image grown (k + 1) s
unfolding gated_steps
one_gated image grown k s now next made step = rw (add-one, ← made) step

pub one_stuck : (image : ImageData) (grown : List ℕ) (k n : ℕ) (s now : Stand) → k < n → Some now ≡ gated_steps image grown k s → None ≡ gated_step image grown now → None ≡ gated_steps image grown n s
unfolding gated_steps
one_stuck image grown k n s now below made step =
    let here : gated_steps image grown (suc k) s ≡ None = rw (← made) (sym step) in
    let e : n ≡ n - suc k + suc k = omega arith in
    rw e (sym (stuck_on image grown (n - suc k) (suc k) s here))

-- ---- entries

pub event_made : (image : ImageData) (grown : List ℕ) (t k : ℕ) (after : Cpu) (spot : Spot) (s : Stand) (left : List ℕ) → Some left ≡ entered image grown s.cpu.rip s.left → Some (spot_with (onward after.mid left) Other) ≡ spot_last image grown (Ev t k) after spot s
event_made image grown t k after spot s left stands = rw (← stands) refl

pub event_not_entered : (image : ImageData) (grown : List ℕ) (t k : ℕ) (after : Cpu) (spot : Spot) (s : Stand) → None ≡ entered image grown s.cpu.rip s.left → None ≡ spot_last image grown (Ev t k) after spot s
event_not_entered image grown t k after spot s stands = rw (← stands) refl

pub nothing_set : (spots : List Spot) (t : ℕ) (spot : Spot) → length spots ≤ t → spots ≡ slice_set spots t spot
nothing_set spots t spot le = sym (set_past spots t spot le)

pub passed : (image : ImageData) (e : Entry) (before after : Cpu) (g : Gate) (spot last : Spot) (s : Stand) → spot ≡ spot_at g (slot_in e) → Some s ≡ gated_steps image g.grown (private_of e) (record { cpu = before; left = spot.left }) → Some last ≡ spot_last image g.grown e after spot s → Some (gate_with e g last) ≡ pass image e before after g
unfolding pass
passed image e before after g spot last s is made after_it = rw (← is, ← made, ← after_it) refl

pub not_stepped : (image : ImageData) (e : Entry) (before after : Cpu) (g : Gate) (spot : Spot) → spot ≡ spot_at g (slot_in e) → None ≡ gated_steps image g.grown (private_of e) (record { cpu = before; left = spot.left }) → None ≡ pass image e before after g
unfolding pass
not_stepped image e before after g spot is stuck = rw (← is, ← stuck) refl

pub not_last : (image : ImageData) (e : Entry) (before after : Cpu) (g : Gate) (spot : Spot) (s : Stand) → spot ≡ spot_at g (slot_in e) → Some s ≡ gated_steps image g.grown (private_of e) (record { cpu = before; left = spot.left }) → None ≡ spot_last image g.grown e after spot s → None ≡ pass image e before after g
unfolding pass
not_last image e before after g spot s is made stuck = rw (← is, ← made, ← stuck) refl
