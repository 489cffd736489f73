-- Where the threads of a gated journal stand in their blocks.
use Rattle.std.proofs.Common.{◌≡◌, ◌≢◌, ℕ, zero, suc, ◌+◌, ◌%◌, ◌^◌, ◌⊎◌, inl, inr, Bool, true, false, cond, List, [], ◌∷◌, ◌++◌, Option, Some, None, refl, sym, ap, ◌∙◌, subst, arith, ◌==◌, slice_index_or}
use Rattle.std.proofs.lemmas.Bool.Decides.{nat_tests}
use Rattle.std.proofs.lemmas.List.{append_assoc}
use Rattle.std.proofs.lemmas.Option.{option_and_then_some, none-some, same_Some, cond_some}
use Rattle.elf_image.specs.Layout.{ImageData}
use Rattle.x86_forms.specs.declared.instructions.Instr.{Instr}
use Rattle.x86_forms.specs.Groups.{is_transfer}
use Rattle.x86_model.specs.declared.cpu.Cpu.{Cpu}
use Rattle.x86_model.specs.declared.want.Want.{Want}
use Rattle.x86_model.specs.declared.want.Want.TheVariants as wants
use Rattle.x86_model.specs.Want.{running, want, want_of}
use Rattle.basic_blocks.specs.Places.{is_code_place, instr_at}
use Rattle.basic_blocks.specs.Placed.{Placed}
use Rattle.basic_blocks.specs.Reach.{is_among}
use Rattle.basic_blocks.specs.Span.{block_from, block_up_to, placed, span}
use Rattle.machine_model.specs.Step.{privately}
use Rattle.machine_model.specs.Gated.{Stand, Within, between_blocks, entered, gated_step, gated_steps, moved_on, onward, rest_of, within_block}
use Rattle.machine_model.specs.InBlocks.{IsPlaced, IsUnderWay, addresses}
use Rattle.machine_model.proofs.Finishing.{IsFinished, IsRequest, LeadsOn, want_code, want_of_leads, want_request}

-- ---- before a step

same_of : (x a : ℕ) → (x == a) ≡ true → x ≡ a
same_of x a h = grind (arith, nat_tests)

first_of_span : (image : ImageData) (grown : List ℕ) (rip : ℕ) (l : List ℕ) → is_among grown rip ≡ true → span image rip ≡ l → IsUnderWay image grown rip l
first_of_span image grown rip l g e = record { place = rip; grown_place = g; done = []; whole = sym e; count = 64; here = sym e }

within_way : (image : ImageData) (grown : List ℕ) (rip : ℕ) (left l : List ℕ) → ((left ≡ []) ⊎ IsUnderWay image grown rip left) → within_block image grown rip left ≡ Some l → IsUnderWay image grown rip l
within_way image grown rip [] l h p = let q = cond_some (is_among grown rip) (span image rip) l p in first_of_span image grown rip l q.0 q.1
within_way image grown rip (x ∷ xs) l (inl none) p = absurd (let e : x ∷ xs ≡ [] = none in cc)
within_way image grown rip (x ∷ xs) l (inr way) p = subst (λ z. IsUnderWay image grown rip z) (cond_some (x == rip) (x ∷ xs) l p).1 way

-- at a code place the step is made in a block under way
pub under_way : (image : ImageData) (grown : List ℕ) (d : Stand) (l : List ℕ) → is_code_place image d.cpu.rip ≡ true → IsPlaced image grown d → entered image grown d.cpu.rip d.left ≡ Some l → IsUnderWay image grown d.cpu.rip l
under_way image grown d l code h p =
    within_way image grown d.cpu.rip d.left l h (ap (λ b. cond b (within_block image grown d.cpu.rip d.left) (between_blocks d.left)) (sym code) ∙ p)

between_none : (left l : List ℕ) → between_blocks left ≡ Some l → (l ≡ []) × (left ≡ [])
between_none [] l p = (sym (same_Some [] l p), refl)
between_none (x ∷ xs) l p = absurd (none-some l p)

-- elsewhere it is made between blocks
pub between : (image : ImageData) (grown : List ℕ) (d : Stand) (l : List ℕ) → is_code_place image d.cpu.rip ≡ false → entered image grown d.cpu.rip d.left ≡ Some l → (l ≡ []) × (d.left ≡ [])
between image grown d l code p = between_none d.left l (ap (λ b. cond b (within_block image grown d.cpu.rip d.left) (between_blocks d.left)) (sym code) ∙ p)

-- ---- after an instruction

-- the step leaves these registers
abbrev pub Leaves : Want → Cpu → Type 0
Leaves (wants.Private y) x = y ≡ x
Leaves (wants.Load a w) x = ⊥
Leaves (wants.Store a w value y) x = y ≡ x
Leaves (wants.Fence y) x = y ≡ x
Leaves (wants.Locked a w change) x = ⊥
Leaves (wants.Call f) x = ⊥
Leaves (wants.Door d) x = ⊥
Leaves (wants.Bad kind) x = ⊥

finished_by : (w : Want) (transfer : Bool) (next : ℕ) (x : Cpu) → LeadsOn transfer next w → Leaves w x → IsFinished transfer next x
finished_by (wants.Private y) transfer next x h e = subst (IsFinished transfer next) e h
finished_by (wants.Load a w) transfer next x h e = absurd e
finished_by (wants.Store a w value y) transfer next x h e = subst (IsFinished transfer next) e h
finished_by (wants.Fence y) transfer next x h e = subst (IsFinished transfer next) e h
finished_by (wants.Locked a w change) transfer next x h e = absurd e
finished_by (wants.Call f) transfer next x h e = absurd e
finished_by (wants.Door d) transfer next x h e = absurd e
finished_by (wants.Bad kind) transfer next x h e = absurd e

cons_eq : (x : ℕ) (xs ys : List ℕ) → xs ≡ ys → x ∷ xs ≡ x ∷ ys
cons_eq x xs ys e = ap (λ z. x ∷ z) e

rest_eq : (l m : List ℕ) → l ≡ m → rest_of l ≡ rest_of m
rest_eq l m e = ap rest_of e

-- what is left after an instruction that is no transfer, or is one
after_by : (image : ImageData) (grown : List ℕ) (way_place : ℕ) (rip m : ℕ) (p : Placed) (done l : List ℕ) (transfer : Bool) (x : Cpu) → is_among grown way_place ≡ true → done ++ l ≡ span image way_place → IsFinished transfer p.next x → l ≡ addresses (p ∷ cond transfer [] (block_up_to image m p.next)) → IsPlaced image grown (record { cpu = x; left = rest_of l })
after_by image grown g rip m p done l true x among whole f e = inl (rest_eq l _ e)
after_by image grown g rip m p done l false x among whole f e =
    let rest : rest_of l ≡ addresses (block_up_to image m p.next) = rest_eq l _ e in
    let split : l ≡ p.at ∷ rest_of l = e ∙ cons_eq p.at _ _ (sym rest) in
    inr (record {
      place = g;
      grown_place = among;
      done = done ++ p.at ∷ [];
      whole = append_assoc done (p.at ∷ []) (rest_of l) ∙ ap (λ z. done ++ z) (sym split) ∙ whole;
      count = m;
      here = rest ∙ ap (λ r. addresses (block_up_to image m r)) (sym (f.1 refl));
    })

after_count : (image : ImageData) (grown : List ℕ) (g rip n : ℕ) (done l : List ℕ) (i : Instr × ℕ) (x : Cpu) → is_among grown g ≡ true → done ++ l ≡ span image g → instr_at image rip ≡ Some i → IsFinished (is_transfer i.0) ((rip + i.1) % 2 ^ 64) x → l ≡ addresses (block_up_to image n rip) → IsPlaced image grown (record { cpu = x; left = rest_of l })
unfolding block_up_to
after_count image grown g rip zero done l i x among whole there f e = inl (rest_eq l [] e)
after_count image grown g rip (suc m) done l i x among whole there f e =
    after_by image grown g rip m (placed rip i) done l (is_transfer i.0) x among whole f (e ∙ ap (λ o. addresses (block_from (block_up_to image m) rip o)) there)

after_instr_by : (image : ImageData) (grown : List ℕ) (s x : Cpu) (l : List ℕ) (o : Option (Instr × ℕ)) → instr_at image s.rip ≡ o → IsUnderWay image grown s.rip l → Leaves (running o s) x → IsPlaced image grown (record { cpu = x; left = onward x.mid l })
after_instr_by image grown s x l None there h e = absurd e
after_instr_by image grown s x l (Some i) there h e =
    let next = (s.rip + i.1) % 2 ^ 64 in
    let f : IsFinished (is_transfer i.0) next x = finished_by (want_of i.0 next s) (is_transfer i.0) next x (want_of_leads i.0 next s) e in
    let done : onward x.mid l ≡ rest_of l = ap (λ o. onward o l) f.0 in
    subst (λ z. IsPlaced image grown (record { cpu = x; left = z })) (sym done) (after_count image grown h.place s.rip h.count h.done l i x h.grown_place h.whole there f h.here)

-- an instruction that is finished leads to the next address of the block, or between blocks
pub after_instr : (image : ImageData) (grown : List ℕ) (s x : Cpu) (l : List ℕ) → is_code_place image s.rip ≡ true → IsUnderWay image grown s.rip l → Leaves (want image s) x → IsPlaced image grown (record { cpu = x; left = onward x.mid l })
after_instr image grown s x l code h e =
    after_instr_by image grown s x l (instr_at image s.rip) refl h (subst (λ w. Leaves w x) (want_code image s code) e)

private_leaves : (w : Want) (x : Cpu) → privately w ≡ Some x → Leaves w x
private_leaves (wants.Private y) x e = same_Some y x e
private_leaves (wants.Load a w) x e = absurd (none-some x e)
private_leaves (wants.Store a w value y) x e = absurd (none-some x e)
private_leaves (wants.Fence y) x e = absurd (none-some x e)
private_leaves (wants.Locked a w change) x e = absurd (none-some x e)
private_leaves (wants.Call f) x e = absurd (none-some x e)
private_leaves (wants.Door d) x e = absurd (none-some x e)
private_leaves (wants.Bad kind) x e = absurd (none-some x e)

leaves_code : (w : Want) (x : Cpu) → Leaves w x → IsRequest w → ⊥
leaves_code (wants.Private y) x e r = r
leaves_code (wants.Load a w) x e r = r
leaves_code (wants.Store a w value y) x e r = r
leaves_code (wants.Fence y) x e r = r
leaves_code (wants.Locked a w change) x e r = r
leaves_code (wants.Call f) x e r = e
leaves_code (wants.Door d) x e r = e
leaves_code (wants.Bad kind) x e r = r

-- a step that finishes something is made at a code place
pub leaves_placed : (image : ImageData) (grown : List ℕ) (d : Stand) (x : Cpu) (l : List ℕ) → IsPlaced image grown d → entered image grown d.cpu.rip d.left ≡ Some l → Leaves (want image d.cpu) x → IsPlaced image grown (record { cpu = x; left = onward x.mid l })
leaves_placed image grown d x l h p e = by_place (is_code_place image d.cpu.rip) refl
  where
    by_place : (b : Bool) → is_code_place image d.cpu.rip ≡ b → IsPlaced image grown (record { cpu = x; left = onward x.mid l })
    by_place true code = after_instr image grown d.cpu x l code (under_way image grown d l code h p) e
    by_place false code = absurd (leaves_code (want image d.cpu) x e (want_request image d.cpu code))

-- ---- private steps

moved_by : (o : Option Cpu) (l : List ℕ) (d : Stand) → moved_on o l ≡ Some d → (x : Cpu) × (o ≡ Some x) × (record { cpu = x; left = onward x.mid l } ≡ d)
moved_by None l d p = absurd (none-some d p)
moved_by (Some x) l d p = (x, refl, same_Some _ d p)

pub step_placed : (image : ImageData) (grown : List ℕ) (s d : Stand) → IsPlaced image grown s → gated_step image grown s ≡ Some d → IsPlaced image grown d
step_placed image grown s d h p =
    option_and_then_some (moved_on (privately (want image s.cpu))) (entered image grown s.cpu.rip s.left) d p (λ l q r.
    let m = moved_by (privately (want image s.cpu)) l d r in
    subst (λ z. IsPlaced image grown z) m.2 (leaves_placed image grown s m.0 l h q (private_leaves (want image s.cpu) m.0 m.1)))

pub steps_placed : (image : ImageData) (grown : List ℕ) (k : ℕ) (s d : Stand) → IsPlaced image grown s → gated_steps image grown k s ≡ Some d → IsPlaced image grown d
unfolding gated_steps
steps_placed image grown zero s d h p = subst (λ z. IsPlaced image grown z) (same_Some s d p) h
steps_placed image grown (suc k) s d h p =
    option_and_then_some (gated_step image grown) (gated_steps image grown k s) d p (λ x q r. step_placed image grown x d (steps_placed image grown k s x h q) r)

pub placed_grows : (image : ImageData) (old new : List ℕ) (d : Stand) → Within old new → IsPlaced image old d → IsPlaced image new d
placed_grows image old new d w (inl none) = inl none
placed_grows image old new d w (inr h) = inr (record { place = h.place; grown_place = w h.place h.grown_place; done = h.done; whole = h.whole; count = h.count; here = h.here })

-- in a block under way rip is the first address that is left
first_by : (image : ImageData) (rip n : ℕ) (i : Option (Instr × ℕ)) (x : ℕ) (xs : List ℕ) → x ∷ xs ≡ addresses (block_from (block_up_to image n) rip i) → (x ≡ rip) × (i ≢ None)
first_by image rip n None x xs e = absurd (let q : x ∷ xs ≡ [] = e in cc)
first_by image rip n (Some i) x xs e = (ap (λ z. slice_index_or z 0 0) e, λ q. absurd (let r : Some i ≡ None = q in cc))

first_count : (image : ImageData) (rip n x : ℕ) (xs : List ℕ) → x ∷ xs ≡ addresses (block_up_to image n rip) → (x ≡ rip) × (instr_at image rip ≢ None)
unfolding block_up_to
first_count image rip zero x xs e = absurd (let q : x ∷ xs ≡ [] = e in cc)
first_count image rip (suc n) x xs e = first_by image rip n (instr_at image rip) x xs e

instr_code : (image : ImageData) (rip : ℕ) (b : Bool) → is_code_place image rip ≡ b → instr_at image rip ≢ None → b ≡ true
unfolding instr_at
instr_code image rip true e h = refl
instr_code image rip false e h = absurd (h (rw e refl))

pub first_left : (image : ImageData) (grown : List ℕ) (d : Stand) (x : ℕ) (xs : List ℕ) → IsPlaced image grown d → d.left ≡ x ∷ xs → (x ≡ d.cpu.rip) × (is_code_place image d.cpu.rip ≡ true)
first_left image grown d x xs (inl none) e = absurd (let q : x ∷ xs ≡ [] = sym e ∙ none in cc)
first_left image grown d x xs (inr h) e =
    let f = first_count image d.cpu.rip h.count x xs (sym e ∙ h.here) in
    (f.0, instr_code image d.cpu.rip (is_code_place image d.cpu.rip) refl f.1)
