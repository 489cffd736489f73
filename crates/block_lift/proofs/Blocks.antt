-- The instructions of a block: they stand where they are said to, follow one another, and their parts are typed.
use Rattle.std.proofs.Common.{◌≡◌, ℕ, zero, suc, ◌+◌, ◌-◌, ◌%◌, ◌^◌, ◌<◌, Bool, true, false, ap, sym, subst, refl, ◌∙◌, List, [], ◌∷◌, ◌++◌, length, take, Option, Some, None, arith, append_assoc, append-nil}
use Rattle.std.proofs.lemmas.Bool.{and_parts, and_from}
use Rattle.std.proofs.lemmas.List.{length-set}
use Rattle.std.specs.Prelude.{if◌then◌else◌, ◌||◌, IfSome, ◌≤◌, ◌↔◌}
use Rattle.std.specs.Option.{is_none}
use Rattle.elf_image.specs.Layout.{ImageData, function_at}
use Rattle.ir_syntax.specs.declared.block.Block.{Block}
use Rattle.ir_syntax.specs.declared.block.Part.{Part}
use Rattle.ir_syntax.specs.declared.line.Op.{Op}
use Rattle.ir_syntax.specs.declared.line.Op.TheVariants.{Get, GetHigh, Put, PutHigh, Const, Ea, Calc, FlagOf, FlagZero, Cond, Pick, Zext, Sext, Cut}
use Rattle.ir_syntax.specs.declared.line.PartEnd.{PartEnd}
use Rattle.ir_syntax.specs.declared.line.PartEnd.TheVariants as ends
use Rattle.ir_syntax.specs.Typed.{IsWellTyped, Types, are_parts_typed, are_typed, goes_on, is_empty, types_after, types_after_all, types_after_end, types_after_part, unwritten}
use Rattle.ir_meaning.specs.Live.{kept_parts}
use Rattle.x86_forms.specs.declared.instructions.Instr.{Instr}
use Rattle.x86_forms.specs.Groups.{is_transfer}
use Rattle.x86_forms.specs.Laws.{SpelledFits}
use Rattle.x86_forms.specs.Limits.{InstrFits}
use Rattle.x86_forms.specs.Reading.{read}
use Rattle.x86_forms.specs.Spelling.{Spells}
use Rattle.x86_forms.proofs.Cuts.{test_some}
use Rattle.x86_model.specs.declared.cpu.Cpu.{Cpu}
use Rattle.x86_model.specs.declared.want.Door.{Door}
use Rattle.x86_model.specs.declared.want.Want.{Want}
use Rattle.x86_model.specs.Want.{code_from, door_at, standing, want, want_of}
use Rattle.basic_blocks.specs.Placed.{Placed}
use Rattle.basic_blocks.specs.Places.{is_code_place}
use Rattle.basic_blocks.specs.Places.{instr_at}
use Rattle.basic_blocks.specs.Span.{block_at, block_from, block_up_to, block_with, placed}
use Rattle.lift_table.specs.LiftLines.{alone}
use Rattle.lift_table.specs.LiftTable.{lifted}
use Rattle.lift_table.specs.Follow.{Lifts}
use Rattle.lift_table.specs.Faithful.{block_parts, lifted_all, takes_answer}
use Rattle.basic_blocks.specs.Bytes.{bytes_of, front}
use Rattle.lift_table.specs.Block.{IsFaithful, IsFaithfulTo, block_of, lifted_block}
use Rattle.block_lift.specs.Liftable.{ArePlaced, IsPlaced}
use Rattle.block_lift.specs.Steps.{going_on, unstripped, unstripped_block}
use Rattle.block_lift.proofs.Following.{AreRun, IsWhole, LeadsTo, WantsAt, are_faithful}
use Rattle.block_lift.proofs.Ready.{Typed, kinds}
use Rattle.block_lift.proofs.Typing.{GoesOn, Good, good}

abbrev pub block_with_all : ℕ → List ℕ → List Part → Block
block_with_all a code parts = record { at = a; code = code; parts = parts }

-- ---- one instruction

none_is : {A : Type 0} (o : Option A) → is_none o ≡ true → o ≡ None
none_is None e = refl
none_is (Some x) e = absurd (cc)

wants_at_rip : (image : ImageData) (s : Cpu) (x : Instr × ℕ) → instr_at image s.rip ≡ Some x → want image s ≡ want_of x.0 ((s.rip + x.1) % 2 ^ 64) s
unfolding want instr_at
wants_at_rip image s x h =
    let both = test_some (is_code_place image s.rip) (read (code_from image.segments s.rip)) x h in
    let place = and_parts (is_none (door_at s.rip)) _ both.0 in
    ap (λ (d : Option Door). standing d (function_at s.rip image.entries) (read (code_from image.segments s.rip)) s) (none_is (door_at s.rip) place.0)
    ∙ ap (λ f. standing None f (read (code_from image.segments s.rip)) s) (none_is (function_at s.rip image.entries) place.1)
    ∙ ap (λ (r : Option (Instr × ℕ)). standing None None r s) both.1

wants_there : (image : ImageData) (a : ℕ) (x : Instr × ℕ) → instr_at image a ≡ Some x → WantsAt (want image) (placed a x)
wants_there image a x h s e = subst (λ (b : ℕ). instr_at image b ≡ Some x → want image s ≡ want_of x.0 ((b + x.1) % 2 ^ 64) s) e (wants_at_rip image s x) h

-- ---- how a block begins

begins : (image : ImageData) (n a : ℕ) → block_up_to image (suc n) a ≡ block_from (block_up_to image n) a (instr_at image a)
unfolding block_up_to
begins image n a = refl

pub none_begins : (image : ImageData) (n a : ℕ) → instr_at image a ≡ None → block_up_to image (suc n) a ≡ []
none_begins image n a e = begins image n a ∙ ap (block_from (block_up_to image n) a) e

some_begins : (image : ImageData) (n a : ℕ) (x : Instr × ℕ) → instr_at image a ≡ Some x → block_up_to image (suc n) a ≡ block_with (block_up_to image n) (placed a x)
some_begins image n a x e = begins image n a ∙ ap (block_from (block_up_to image n) a) e

rest_is : (image : ImageData) (n a : ℕ) (transfer : Bool) → (if transfer then [] else block_up_to image n a) ≡ going_on image n (if transfer then None else Some a)
rest_is image n a true = refl
rest_is image n a false = refl

pub begins_with : (image : ImageData) (n a : ℕ) (x : Instr × ℕ) (on : Option ℕ) → instr_at image a ≡ Some x → on ≡ (if is_transfer x.0 then None else Some ((a + x.1) % 2 ^ 64)) → block_up_to image (suc n) a ≡ placed a x ∷ going_on image n on
begins_with image n a x on e t =
    some_begins image n a x e ∙ ap (λ (l : List Placed). placed a x ∷ l) (rest_is image n ((a + x.1) % 2 ^ 64) (is_transfer x.0) ∙ ap (going_on image n) (sym t))

-- ---- bytes and parts onto those before them

pub pushed_code : (image : ImageData) (a : ℕ) (x : Instr × ℕ) (new old : List ℕ) (ps : List Placed) → instr_at image a ≡ Some x → new ≡ old ++ take x.1 (code_from image.segments a) → new ++ bytes_of image ps ≡ old ++ bytes_of image (placed a x ∷ ps)
pushed_code image a x new old ps e h =
    ap (λ (l : List ℕ). l ++ bytes_of image ps) h ∙ append_assoc old (take x.1 (code_from image.segments a)) (bytes_of image ps)
    ∙ ap (λ (o : Option (Instr × ℕ)). old ++ (front (code_from image.segments a) o ++ bytes_of image ps)) (sym e)

pub pushed_parts : (a : ℕ) (x : Instr × ℕ) (new old : List Part) (ps : List Placed) → new ≡ old ++ lifted x.0 ((a + x.1) % 2 ^ 64) → new ++ lifted_all ps ≡ old ++ lifted_all (placed a x ∷ ps)
pushed_parts a x new old ps h =
    ap (λ (l : List Part). l ++ lifted_all ps) h ∙ append_assoc old (lifted x.0 ((a + x.1) % 2 ^ 64)) (lifted_all ps)

pub placed_one : (a : ℕ) (x : Instr × ℕ) → InstrFits x.0 → IsPlaced (placed a x)
placed_one a x fits = record { instr = fits; next = omega arith }

-- ---- the loop over 64 instructions

left_over : (i : ℕ) → i < 64 → suc (64 - (i + 1)) ≡ 64 - i
left_over i h = omega arith

pub span_goes_on : {A : Type 0} (F : List Placed → List A) (image : ImageData) (a next i : ℕ) (old new X : List A) → ((n : ℕ) → new ++ F (block_up_to image n next) ≡ old ++ F (block_up_to image (suc n) a)) → i < 64 → old ++ F (block_up_to image (64 - i) a) ≡ X → new ++ F (block_up_to image (64 - (i + 1)) next) ≡ X
span_goes_on F image a next i old new X step h inv = step (64 - (i + 1)) ∙ ap (λ (k : ℕ). old ++ F (block_up_to image k a)) (left_over i h) ∙ inv

pub span_ends : {A : Type 0} (F : List Placed → List A) (image : ImageData) (a i : ℕ) (old new X : List A) → F [] ≡ [] → ((n : ℕ) → new ++ [] ≡ old ++ F (block_up_to image (suc n) a)) → i < 64 → old ++ F (block_up_to image (64 - i) a) ≡ X → new ≡ X
span_ends F image a i old new X none step h inv = sym (append-nil new) ∙ step (64 - (i + 1)) ∙ ap (λ (k : ℕ). old ++ F (block_up_to image k a)) (left_over i h) ∙ inv

pub placed_ends : (image : ImageData) (a i : ℕ) (X : Type 0) → ((n : ℕ) → ArePlaced (block_up_to image (suc n) a)) → i < 64 → (ArePlaced (block_up_to image (64 - i) a) → X) → X
placed_ends image a i X step h inv = inv (subst (λ (k : ℕ). ArePlaced (block_up_to image k a)) (left_over i h) (step (64 - (i + 1))))

pub placed_goes_on : (image : ImageData) (a next i : ℕ) (X : Type 0) → ((n : ℕ) → ArePlaced (block_up_to image n next) → ArePlaced (block_up_to image (suc n) a)) → i < 64 → (ArePlaced (block_up_to image (64 - i) a) → X) → ArePlaced (block_up_to image (64 - (i + 1)) next) → X
placed_goes_on image a next i X step h inv p = inv (subst (λ (k : ℕ). ArePlaced (block_up_to image k a)) (left_over i h) (step (64 - (i + 1)) p))

nothing_left : (i : ℕ) → 64 ≤ i → 64 - i ≡ 0
nothing_left i h = omega arith

no_block : (image : ImageData) (a : ℕ) → block_up_to image 0 a ≡ []
unfolding block_up_to
no_block image a = refl

over : (image : ImageData) (a i : ℕ) → 64 ≤ i → block_up_to image (64 - i) a ≡ []
over image a i h = ap (λ (k : ℕ). block_up_to image k a) (nothing_left i h) ∙ no_block image a

pub span_full : {A : Type 0} (F : List Placed → List A) (image : ImageData) (a i : ℕ) (old X : List A) → F [] ≡ [] → 64 ≤ i → old ++ F (block_up_to image (64 - i) a) ≡ X → old ≡ X
span_full {A = A} F image a i old X none h inv =
    sym (append-nil old) ∙ ap (λ (l : List A). old ++ l) (sym none) ∙ ap (λ (l : List Placed). old ++ F l) (sym (over image a i h)) ∙ inv

pub placed_full : (image : ImageData) (a i : ℕ) (X : Type 0) → 64 ≤ i → (ArePlaced (block_up_to image (64 - i) a) → X) → X
placed_full image a i X h inv = inv (subst ArePlaced (sym (over image a i h)) tt)

-- ---- instructions that follow one another

-- an instruction before others is no transfer, and they begin at the address after it
abbrev Leads : Bool → ℕ → List Placed → Type 0
Leads transfer next [] = Unit {0}
Leads transfer next (j ∷ js) = (transfer ≡ false) × (next ≡ j.at)

abbrev pub Chained : (Cpu → Want) → List Placed → Type 0
Chained wants [] = Unit {0}
Chained wants (i ∷ is) = WantsAt wants i × IsPlaced i × Leads (is_transfer i.instr) i.next is × Chained wants is

leads_from : (image : ImageData) (n a : ℕ) (o : Option (Instr × ℕ)) (transfer : Bool) → transfer ≡ false → Leads transfer a (block_from (block_up_to image n) a o)
leads_from image n a None transfer e = tt
leads_from image n a (Some x) transfer e = (e, refl)

leads : (image : ImageData) (n a : ℕ) (transfer : Bool) → transfer ≡ false → Leads transfer a (block_up_to image n a)
unfolding block_up_to
leads image zero a transfer e = tt
leads image (suc n) a transfer e = leads_from image n a (instr_at image a) transfer e

-- what is left after an instruction
abbrev left_if : Bool → List Placed → List Placed
left_if transfer is = if transfer then [] else is

chained_rest : (image : ImageData) (n a : ℕ) (kind transfer : Bool) → kind ≡ transfer → ArePlaced (left_if transfer (block_up_to image n a)) → ((b : ℕ) → ArePlaced (block_up_to image n b) → Chained (want image) (block_up_to image n b))
    → Leads kind a (left_if transfer (block_up_to image n a)) × Chained (want image) (left_if transfer (block_up_to image n a))
chained_rest image n a kind true e h more = (tt, tt)
chained_rest image n a kind false e h more = (leads image n a kind e, more a h)

chained_from : (image : ImageData) (n a : ℕ) (o : Option (Instr × ℕ)) → instr_at image a ≡ o → ArePlaced (block_from (block_up_to image n) a o) → ((b : ℕ) → ArePlaced (block_up_to image n b) → Chained (want image) (block_up_to image n b)) → Chained (want image) (block_from (block_up_to image n) a o)
chained_from image n a None e h more = tt
chained_from image n a (Some x) e h more =
    let rest = chained_rest image n ((a + x.1) % 2 ^ 64) (is_transfer x.0) (is_transfer x.0) refl h.1 more in
    (wants_there image a x e, h.0, rest.0, rest.1)

chained : (image : ImageData) (n a : ℕ) → ArePlaced (block_up_to image n a) → Chained (want image) (block_up_to image n a)
unfolding block_up_to
chained image zero a h = tt
chained image (suc n) a h = chained_from image n a (instr_at image a) refl h (chained image n)

-- ---- parts that follow the thread

leads_to : (end : PartEnd) (transfer : Bool) (next : ℕ) (is : List Placed) → GoesOn transfer end → Leads transfer next is → LeadsTo end next is
leads_to end transfer next [] g l = tt
leads_to end transfer next (j ∷ js) g l = (g l.0, l.1)

whole : (T : Types) (ls : List Part) (transfer : Bool) (next : ℕ) (is : List Placed) → Good T ls transfer → Leads transfer next is → IsWhole ls next is
whole T [] transfer next is g l = absurd g
whole T (p ∷ []) transfer next is g l = (g.0, leads_to p.end transfer next is g.2 l)
whole T (p ∷ q ∷ []) transfer next is g l = (g.0, g.2, leads_to q.end transfer next is g.4 l)
whole T (p ∷ q ∷ r ∷ ls) transfer next is g l = absurd g

placed_good : (i : Placed) (a b c d e f g h : Option ℕ) → IsPlaced i → Good (kinds a b c d e f g h) (lifted i.instr i.next) (is_transfer i.instr)
placed_good i a b c d e f g h p = good i.instr i.next a b c d e f g h p.instr p.next

abbrev AllLift : Type 0
AllLift = (i : Instr) (next : ℕ) → InstrFits i → Lifts i next

are_run : AllLift → (wants : Cpu → Want) (is : List Placed) → Chained wants is → AreRun wants is
are_run lifts wants [] h = tt
are_run lifts wants (i ∷ is) h =
    (h.0, lifts i.instr i.next h.1.instr, whole _ (lifted i.instr i.next) (is_transfer i.instr) i.next is (placed_good i None None None None None None None None h.1) h.2, are_run lifts wants is h.3)

faithful_to : (image : ImageData) (a : ℕ) (is : List Placed) → AreRun (want image) is → IsFaithfulTo image (block_of image a is) is
faithful_to image a [] h = refl
faithful_to image a (i ∷ is) h = (refl, are_faithful (want image) (i ∷ is) h)

pub lifted_faithful : AllLift → (image : ImageData) (a : ℕ) → ArePlaced (block_at image a) → IsFaithful image (lifted_block image a)
lifted_faithful lifts image a h = faithful_to image a (block_at image a) (are_run lifts (want image) (block_at image a) (chained image 64 a h))

-- ---- types

line_keeps : (T : Types) (o : Op) → length (types_after T o) ≡ length T
line_keeps T (Get w t r) = length-set T t _
line_keeps T (GetHigh t r) = length-set T t _
line_keeps T (Put w r t) = refl
line_keeps T (PutHigh r t) = refl
line_keeps T (Const w t n) = length-set T t _
line_keeps T (Ea t base index scale n) = length-set T t _
line_keeps T (Calc family w t a b) = length-set T t _
line_keeps T (FlagOf flag family w a b) = refl
line_keeps T (FlagZero flag) = refl
line_keeps T (Cond t c) = length-set T t _
line_keeps T (Pick w t c a b) = length-set T t _
line_keeps T (Zext from w t a) = length-set T t _
line_keeps T (Sext from w t a) = length-set T t _
line_keeps T (Cut from w t a) = length-set T t _

lines_keep : (T : Types) (os : List Op) → length (types_after_all T os) ≡ length T
lines_keep T [] = refl
lines_keep T (o ∷ os) = lines_keep (types_after T o) os ∙ line_keeps T o

end_keeps : (T : Types) (end : PartEnd) → length (types_after_end T end) ≡ length T
end_keeps T ends.Tick = refl
end_keeps T (ends.Load w t a) = length-set T t _
end_keeps T (ends.Store w a t) = refl
end_keeps T (ends.StoreGo a t to) = refl
end_keeps T ends.Fence = refl
end_keeps T (ends.Locked kind w t a s) = length-set T t _
end_keeps T (ends.LockedCmpxchg w t a c s) = length-set T t _
end_keeps T (ends.Divide signed w t) = refl
end_keeps T (ends.Go to) = refl
end_keeps T (ends.Branch c taken other) = refl
end_keeps T ends.BadCode = refl

part_keeps : (T : Types) (p : Part) → length (types_after_part T p) ≡ length T
part_keeps T p = end_keeps (types_after_all T p.ops) p.end ∙ lines_keep T p.ops

answer_goes_on : (end : PartEnd) → takes_answer end ≡ true → goes_on end ≡ true
answer_goes_on (ends.Load w t a) e = refl
answer_goes_on (ends.Locked kind w t a b) e = refl
answer_goes_on (ends.LockedCmpxchg w t a c b) e = refl
answer_goes_on end e = let no : ⊥ = cc in absurd no

last_or_on : (last transfer on : Bool) → (last ≡ false → transfer ≡ false) → (transfer ≡ false → on ≡ true) → (last || on) ≡ true
last_or_on true transfer on h g = refl
last_or_on false transfer on h g = g (h refl)

part_before : (T : Types) (p : Part) (rest : List Part) → Typed T p → (is_empty rest || goes_on p.end) ≡ true → are_parts_typed (types_after_part T p) rest ≡ true → are_parts_typed T (p ∷ rest) ≡ true
part_before T p rest t on more = and_from _ _ (and_from (are_typed T p.ops) _ t.ops (and_from _ _ t.ends on)) more

good_typed : (T : Types) (ls rest : List Part) (transfer : Bool) → length T ≡ 8 → Good T ls transfer → (is_empty rest ≡ false → transfer ≡ false) → ((U : Types) → length U ≡ 8 → are_parts_typed U rest ≡ true) → are_parts_typed T (ls ++ rest) ≡ true
good_typed T [] rest transfer len g on more = absurd g
good_typed T (p ∷ []) rest transfer len g on more = part_before T p rest g.1 (last_or_on (is_empty rest) transfer (goes_on p.end) on g.2) (more (types_after_part T p) (part_keeps T p ∙ len))
good_typed T (p ∷ q ∷ []) rest transfer len g on more =
    part_before T p (q ∷ rest) g.1 (answer_goes_on p.end g.0)
    (part_before (types_after_part T p) q rest g.3 (last_or_on (is_empty rest) transfer (goes_on q.end) on g.4) (more _ (part_keeps (types_after_part T p) q ∙ part_keeps T p ∙ len)))
good_typed T (p ∷ q ∷ r ∷ ls) rest transfer len g on more = absurd g

-- what holds of any eight types
eight_types : (P : Types → Type 0) → ((a b c d e f g h : Option ℕ) → P (kinds a b c d e f g h)) → (T : Types) → length T ≡ 8 → P T
eight_types P each [] len = absurd (omega arith)
eight_types P each (a ∷ []) len = absurd (omega arith)
eight_types P each (a ∷ b ∷ []) len = absurd (omega arith)
eight_types P each (a ∷ b ∷ c ∷ []) len = absurd (omega arith)
eight_types P each (a ∷ b ∷ c ∷ d ∷ []) len = absurd (omega arith)
eight_types P each (a ∷ b ∷ c ∷ d ∷ e ∷ []) len = absurd (omega arith)
eight_types P each (a ∷ b ∷ c ∷ d ∷ e ∷ f ∷ []) len = absurd (omega arith)
eight_types P each (a ∷ b ∷ c ∷ d ∷ e ∷ f ∷ g ∷ []) len = absurd (omega arith)
eight_types P each (a ∷ b ∷ c ∷ d ∷ e ∷ f ∷ g ∷ h ∷ []) len = each a b c d e f g h
eight_types P each (a ∷ b ∷ c ∷ d ∷ e ∷ f ∷ g ∷ h ∷ i ∷ rest) len = absurd (omega arith)

leads_on : (transfer : Bool) (next : ℕ) (is : List Placed) → Leads transfer next is → is_empty (lifted_all is) ≡ false → transfer ≡ false
leads_on transfer next [] l e = absurd (cc)
leads_on transfer next (j ∷ js) l e = l.0

all_typed : (wants : Cpu → Want) (is : List Placed) → Chained wants is → (T : Types) → length T ≡ 8 → are_parts_typed T (lifted_all is) ≡ true
all_typed wants [] h = λ T len. refl
all_typed wants (i ∷ is) h =
    eight_types (λ (T : Types). are_parts_typed T (lifted i.instr i.next ++ lifted_all is) ≡ true)
    (λ a b c d e f g k. good_typed (kinds a b c d e f g k) (lifted i.instr i.next) (lifted_all is) (is_transfer i.instr) refl (placed_good i a b c d e f g k h.1) (leads_on (is_transfer i.instr) i.next is h.2) (all_typed wants is h.3))

some_part : (T : Types) (ls rest : List Part) (transfer : Bool) → Good T ls transfer → is_empty (ls ++ rest) ≡ false
some_part T [] rest transfer g = absurd g
some_part T (p ∷ ls) rest transfer g = refl

counted : (ps : List Part) → is_empty ps ≡ false → 0 < length ps
counted [] e = absurd (cc)
counted (p ∷ ps) e = omega arith

typed_blocks : (wants : Cpu → Want) (at : ℕ) (code : List ℕ) (is : List Placed) → Chained wants is → IsWellTyped (record { at = at; code = code; parts = unstripped is })
typed_blocks wants at code [] h = (omega arith, refl)
typed_blocks wants at code (i ∷ is) h = (
  counted (lifted_all (i ∷ is)) (some_part _ (lifted i.instr i.next) (lifted_all is) (is_transfer i.instr) (placed_good i None None None None None None None None h.1)),
  all_typed wants (i ∷ is) h unwritten refl,
)

pub unstripped_typed : (image : ImageData) (a : ℕ) → ArePlaced (block_at image a) → IsWellTyped (unstripped_block image a)
unstripped_typed image a h = typed_blocks (want image) a (bytes_of image (block_at image a)) (block_at image a) (chained image 64 a h)

-- ---- where no instruction stands

abbrev pub TrapIfEmpty : List Part → List Part
TrapIfEmpty ps = if is_empty ps then alone [] ends.BadCode else ps

trap_or_parts : (wants : Cpu → Want) (is : List Placed) → Chained wants is → TrapIfEmpty (lifted_all is) ≡ unstripped is
trap_or_parts wants [] h = refl
trap_or_parts wants (i ∷ is) h =
    ap (λ (b : Bool). if b then alone [] ends.BadCode else lifted_all (i ∷ is)) (some_part _ (lifted i.instr i.next) (lifted_all is) (is_transfer i.instr) (placed_good i None None None None None None None None h.1))

pub trapped : (image : ImageData) (a : ℕ) (ps qs : List Part) → ArePlaced (block_at image a) → ps ≡ lifted_all (block_at image a) → qs ≡ (if is_empty ps then alone [] ends.BadCode else ps) → qs ≡ unstripped (block_at image a)
trapped image a ps qs h e q = q ∙ ap TrapIfEmpty e ∙ trap_or_parts (want image) (block_at image a) (chained image 64 a h)

pub same_block : (a : ℕ) (c d : List ℕ) (ps qs : List Part) → c ≡ d → ps ≡ qs → block_with_all a c ps ≡ block_with_all a d qs
same_block a c d ps qs e f = ap (λ (x : List ℕ). block_with_all a x ps) e ∙ ap (block_with_all a d) f

-- ---- the block without its dead puts

kept_unstripped : (is : List Placed) → kept_parts (unstripped is) ≡ block_parts is
kept_unstripped [] = refl
kept_unstripped (i ∷ is) = refl

pub stripped_is : (image : ImageData) (a : ℕ) (b r : Block) → b ≡ unstripped_block image a → r ≡ record b { parts = kept_parts b.parts } → r ≡ lifted_block image a
stripped_is image a b r e f = f ∙ ap (λ (x : Block). block_with_all x.at x.code (kept_parts x.parts)) e ∙ ap (block_with_all a (bytes_of image (block_at image a))) (kept_unstripped (block_at image a))
