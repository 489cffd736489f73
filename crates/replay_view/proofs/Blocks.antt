-- Blocks under way, and private steps in them.
use Rattle.std.proofs.Common.{◌≡◌, ℕ, zero, suc, ◌+◌, ◌-◌, ◌<◌, Bool, true, false, List, [], ◌∷◌, Option, Some, None, refl, sym, ap, ◌∙◌, arith, add-one, ◌&&◌}
use Rattle.std.specs.Prelude.{◌==◌, nat_lt, option_and_then}
use Rattle.std.proofs.lemmas.Bool.Decides.{nat_tests}
use Rattle.elf_image.specs.Layout.{ImageData}
use Rattle.x86_forms.specs.declared.instructions.Instr.{Instr}
use Rattle.x86_model.specs.declared.cpu.Cpu.{Cpu}
use Rattle.x86_model.specs.Want.{want}
use Rattle.journal_pack.specs.declared.entry.Entry.TheVariants.{Ev}
use Rattle.basic_blocks.specs.Places.{instr_at, is_code_place}
use Rattle.machine_model.specs.Step.{after_private, answered, privately}
use Rattle.basic_blocks.specs.Span.{span}
use Rattle.basic_blocks.specs.Reach.{is_among}
use Rattle.machine_model.specs.Gated.{Spot, Stand, moved_on, Other, spot_with, is_between, within_block, entered, onward, gated_step, gated_steps, spot_last}
use Rattle.replay_view.specs.Gates.{addresses_from}
use Rattle.replay_view.specs.Grown.{led_to}
use Rattle.replay_view.proofs.Rests.{first_left, none_left, nothing_left}
use Rattle.replay_view.proofs.Wants.{code_at}

-- ---- blocks

some_room : (n : ℕ) (b : Bool) → (nat_lt 0 (suc n) && b) ≡ b
some_room n b = let lt : nat_lt 0 (suc n) ≡ true = grind (arith, nat_tests) in ap (λ x. x && b) lt

no_room : (b : Bool) → (nat_lt 0 0 && b) ≡ true → ⊥
no_room b h = let no : false ≡ true = h in cc

at_first : (image : ImageData) (grown : List ℕ) (n a rip : ℕ) (left rest : List ℕ) → left ≡ a ∷ rest → led_to (nat_lt 0 (suc n) && (a == rip)) left ≡ within_block image grown rip left
at_first image grown n a rip left rest e = ap (λ b. led_to b left) (some_room n (a == rip)) ∙ first_led image grown a rip left rest e
  where
    first_led : (image : ImageData) (grown : List ℕ) (a rip : ℕ) (left rest : List ℕ) → left ≡ a ∷ rest → led_to (a == rip) left ≡ within_block image grown rip left
    first_led image grown a rip left rest e = rw e refl

-- what is left is gone on with at its first address
pub block_under_way : (image : ImageData) (grown : List ℕ) (n a rip : ℕ) → is_between (addresses_from image n a) ≡ false → led_to (nat_lt 0 n && (a == rip)) (addresses_from image n a) ≡ within_block image grown rip (addresses_from image n a)
block_under_way image grown zero a rip some = absurd (let no : true ≡ false = sym (ap is_between (none_left image a)) ∙ some in cc)
block_under_way image grown (suc n) a rip some =
    elim (instr_at image a) as (λ o. instr_at image a ≡ o → led_to (nat_lt 0 (suc n) && (a == rip)) (addresses_from image (suc n) a) ≡ within_block image grown rip (addresses_from image (suc n) a)) [
      | None ↦ λ e. absurd (let no : true ≡ false = sym (ap is_between (nothing_left image (suc n) a e)) ∙ some in cc)
      | Some x ↦ λ e. at_first image grown n a rip _ _ (first_left image n a x e)
    ] refl

pub block_not_grown : (image : ImageData) (grown : List ℕ) (rip : ℕ) (left : List ℕ) → is_between left ≡ true → is_among grown rip ≡ false → None ≡ within_block image grown rip left
block_not_grown image grown rip [] none absent = rw absent refl
block_not_grown image grown rip (x ∷ xs) none absent = absurd (let no : false ≡ true = none in cc)

pub block_entered : (image : ImageData) (grown : List ℕ) (rip : ℕ) (left new : List ℕ) → is_between left ≡ true → is_among grown rip ≡ true → new ≡ span image rip → Some new ≡ within_block image grown rip left
block_entered image grown rip [] new none there is = rw there (ap Some is)
block_entered image grown rip (x ∷ xs) new none there is = absurd (let no : false ≡ true = none in cc)

pub code_entered : (image : ImageData) (grown : List ℕ) (rip : ℕ) (left : List ℕ) (o : Option (List ℕ)) → is_code_place image rip ≡ true → o ≡ within_block image grown rip left → o ≡ entered image grown rip left
code_entered image grown rip left o code h = rw code h

pub door_entered : (image : ImageData) (grown : List ℕ) (rip : ℕ) (left : List ℕ) (b : Bool) → is_code_place image rip ≡ false → b ≡ is_between left → led_to b left ≡ entered image grown rip left
door_entered image grown rip [] b code is = rw (code, is) refl
door_entered image grown rip (x ∷ xs) b code is = rw (code, is) refl

-- ---- where an instruction stands

pub instr_entered : (image : ImageData) (grown : List ℕ) (rip : ℕ) (left : List ℕ) (o : Option (List ℕ)) (x : Instr × ℕ) → instr_at image rip ≡ Some x → o ≡ within_block image grown rip left → o ≡ entered image grown rip left
instr_entered image grown rip left o x e h = code_entered image grown rip left o (code_at image rip x e) h

same_place : (a b : ℕ) → (a == b) ≡ true → a ≡ b
same_place a b h = grind (arith, nat_tests)

itself : (a : ℕ) → (a == a) ≡ true
itself a = grind (arith, nat_tests)

first_is : (image : ImageData) (grown : List ℕ) (a : ℕ) (left rest : List ℕ) → left ≡ a ∷ rest → Some left ≡ within_block image grown a left
first_is image grown a left rest e = rw e (rw (itself a) refl)

goes_on : (image : ImageData) (grown : List ℕ) (n a rip : ℕ) (x : Instr × ℕ) → instr_at image rip ≡ Some x → a ≡ rip → Some (addresses_from image (suc n) a) ≡ within_block image grown rip (addresses_from image (suc n) a)
goes_on image grown n a rip x e same = rw same (first_is image grown rip (addresses_from image (suc n) rip) _ (first_left image n rip x e))

pub instr_under_way : (image : ImageData) (grown : List ℕ) (n a rip : ℕ) (x : Instr × ℕ) → instr_at image rip ≡ Some x → (nat_lt 0 n && (a == rip)) ≡ true → Some (addresses_from image n a) ≡ entered image grown rip (addresses_from image n a)
instr_under_way image grown zero a rip x e h = absurd (no_room (a == rip) h)
instr_under_way image grown (suc n) a rip x e h = instr_entered image grown rip _ _ x e (goes_on image grown n a rip x e (same_place a rip (sym (some_room n (a == rip)) ∙ h)))

pub stands_there : (n a rip : ℕ) → (nat_lt 0 n && (a == rip)) ≡ true → (a ≡ rip) × (0 < n)
stands_there zero a rip h = absurd (no_room (a == rip) h)
stands_there (suc n) a rip h = (same_place a rip (sym (some_room n (a == rip)) ∙ h), omega arith)

pub step_made : (image : ImageData) (grown : List ℕ) (s : Stand) (next : Cpu) (left new : List ℕ) → Some left ≡ entered image grown s.cpu.rip s.left → privately (want image s.cpu) ≡ Some next → new ≡ onward next.mid left → Some (record { cpu = next; left = new }) ≡ gated_step image grown s
step_made image grown s next left new stands private e =
    ap (λ l. Some (record { cpu = next; left = l })) e ∙ ap (λ o. moved_on o left) (sym private) ∙ ap (option_and_then (moved_on (privately (want image s.cpu)))) stands

-- where no step may be made, none is
pub step_refused : (image : ImageData) (grown : List ℕ) (s : Stand) → None ≡ entered image grown s.cpu.rip s.left → None ≡ gated_step image grown s
step_refused image grown s stands = ap (option_and_then (moved_on (privately (want image s.cpu)))) stands

-- ---- private steps

pub one_private : (image : ImageData) (n : ℕ) (cpu at next : Cpu) → after_private image n cpu ≡ Some at → privately (want image at) ≡ Some next → after_private image (n + 1) cpu ≡ Some next
unfolding after_private
one_private image n cpu at next e w = rw (add-one n) (ap (option_and_then (λ x. privately (want image x))) e ∙ w)

not_private : (image : ImageData) (n : ℕ) (cpu at : Cpu) → after_private image n cpu ≡ Some at → privately (want image at) ≡ None → after_private image (suc n) cpu ≡ None
unfolding after_private
not_private image n cpu at e w = ap (option_and_then (λ x. privately (want image x))) e ∙ w

still_none : (image : ImageData) (n more : ℕ) (cpu : Cpu) → after_private image n cpu ≡ None → after_private image (more + n) cpu ≡ None
unfolding after_private
still_none image n zero cpu e = let z : zero + n ≡ n = omega arith in ap (λ x. after_private image x cpu) z ∙ e
still_none image n (suc more) cpu e = ap (λ x. after_private image x cpu) (by_suc more n) ∙ ap (option_and_then (λ x. privately (want image x))) (still_none image n more cpu e)
  where
    by_suc : (a b : ℕ) → suc a + b ≡ suc (a + b)
    by_suc a b = omega arith

pub never_private : (image : ImageData) (n k : ℕ) (cpu at : Cpu) → after_private image n cpu ≡ Some at → privately (want image at) ≡ None → n < k → after_private image k cpu ≡ None
never_private image n k cpu at e w lt = let z : k ≡ (k - suc n) + suc n = omega arith in ap (λ x. after_private image x cpu) z ∙ still_none image (suc n) (k - suc n) cpu (not_private image n cpu at e w)

pub one_gated : (image : ImageData) (grown : List ℕ) (k : ℕ) (s : Stand) (now next : Option Stand) → now ≡ gated_steps image grown k s → next ≡ option_and_then (gated_step image grown) now → next ≡ gated_steps image grown (k + 1) s
unfolding gated_steps
one_gated image grown k s now next made step = rw (add-one, ← made) step

pub first_run : (image : ImageData) (grown : List ℕ) (s : Stand) → Some s ≡ gated_steps image grown 0 s
unfolding gated_steps
first_run image grown s = refl

pub first_private : (image : ImageData) (cpu : Cpu) → after_private image 0 cpu ≡ Some cpu
unfolding after_private
first_private image cpu = refl

-- ---- entries

pub event_begun : (image : ImageData) (grown : List ℕ) (t k : ℕ) (after : Cpu) (spot : Spot) (s : Stand) (left : List ℕ) → Some left ≡ entered image grown s.cpu.rip s.left → Some (spot_with left Other) ≡ spot_last image grown (Ev t k) (answered after 0) spot s
event_begun image grown t k after spot s left stands = rw (← stands) refl

pub event_refused : (image : ImageData) (grown : List ℕ) (t k : ℕ) (after : Cpu) (spot : Spot) (s : Stand) → None ≡ entered image grown s.cpu.rip s.left → None ≡ spot_last image grown (Ev t k) (answered after 0) spot s
event_refused image grown t k after spot s stands = rw (← stands) refl
