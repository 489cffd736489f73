-- The last instruction of a block, and where it may go on.
use Rattle.std.proofs.Common.{◌≡◌, ℕ, zero, suc, ◌+◌, ◌-◌, ◌<◌, ◌≤◌, ◌%◌, ◌^◌, true, false, List, [], ◌∷◌, ◌++◌, Option, Some, None, refl, sym, ap, ◌∙◌, arith}
use Rattle.std.proofs.lemmas.List.Elements.{filter-append}
use Rattle.std.specs.Prelude.{filter}
use Rattle.std.specs.List.{last_or}
use Rattle.elf_image.specs.Layout.{ImageData}
use Rattle.x86_forms.specs.declared.instructions.Instr.{Instr}
use Rattle.x86_forms.specs.Groups.{is_transfer}
use Rattle.basic_blocks.specs.Places.{instr_at, is_code_place}
use Rattle.basic_blocks.specs.Span.{block_up_to, block_at, successors, targets, targets_after}
use Rattle.basic_blocks.specs.Placed.{Placed}
use Rattle.additive_lift.specs.Exits.{ending, listed, exits_of}
use Rattle.additive_lift.specs.declared.exits.Exits.{Exits}

one_left : (k : ℕ) → k < 64 → 64 - k ≡ suc (64 - (k + 1))
one_left k h = omega arith

pub walk_goes_on : (image : ImageData) (k at : ℕ) (i : Instr) (len : ℕ) (last all : Option (Instr × ℕ)) → k < 64 → instr_at image at ≡ Some (i, len) → is_transfer i ≡ false → ending last (block_up_to image (64 - k) at) ≡ all → ending (Some (i, (at + len) % 2 ^ 64)) (block_up_to image (64 - (k + 1)) ((at + len) % 2 ^ 64)) ≡ all
unfolding block_up_to
walk_goes_on image k at i len last all lt there more h =
    let here : ending last (block_up_to image (64 - k) at) ≡ ending (Some (i, (at + len) % 2 ^ 64)) (block_up_to image (64 - (k + 1)) ((at + len) % 2 ^ 64)) = rw (one_left k lt, there, more) refl in
    sym here ∙ h

pub walk_ends : (image : ImageData) (k at : ℕ) (i : Instr) (len : ℕ) (last all : Option (Instr × ℕ)) → k < 64 → instr_at image at ≡ Some (i, len) → is_transfer i ≡ true → ending last (block_up_to image (64 - k) at) ≡ all → Some (i, (at + len) % 2 ^ 64) ≡ all
unfolding block_up_to
walk_ends image k at i len last all lt there over h =
    let here : ending last (block_up_to image (64 - k) at) ≡ Some (i, (at + len) % 2 ^ 64) = rw (one_left k lt, there, over) refl in
    sym here ∙ h

pub walk_stops : (image : ImageData) (k at : ℕ) (last all : Option (Instr × ℕ)) → k < 64 → instr_at image at ≡ None → ending last (block_up_to image (64 - k) at) ≡ all → last ≡ all
unfolding block_up_to
walk_stops image k at last all lt there h =
    let here : ending last (block_up_to image (64 - k) at) ≡ last = rw (one_left k lt, there) refl in
    sym here ∙ h

pub walk_full : (image : ImageData) (k at : ℕ) (last all : Option (Instr × ℕ)) → 64 ≤ k → ending last (block_up_to image (64 - k) at) ≡ all → last ≡ all
unfolding block_up_to
walk_full image k at last all le h =
    let e : 64 - k ≡ zero = omega arith in
    let here : ending last (block_up_to image (64 - k) at) ≡ last = rw e refl in
    sym here ∙ h

-- ---- where the last instruction may go on

short : Option Placed → Option (Instr × ℕ)
short None = None
short (Some p) = Some (p.instr, p.next)

ending_last : (o : Option Placed) (ps : List Placed) → ending (short o) ps ≡ short (last_or o ps)
unfolding short
ending_last o [] = refl
ending_last o (p ∷ ps) = ending_last (Some p) ps

targets_by : Option (Instr × ℕ) → List ℕ
targets_by None = []
targets_by (Some x) = targets x.0 x.1

last_targets : (o : Option Placed) → targets_by (short o) ≡ targets_after o
unfolding short targets_by
last_targets None = refl
last_targets (Some p) = refl

all_targets : (ps : List Placed) → targets_by (ending None ps) ≡ targets_after (last_or None ps)
unfolding short
all_targets ps = ap targets_by (ending_last None ps) ∙ last_targets (last_or None ps)

pub exits_are : (image : ImageData) (a : ℕ) (i : Instr) (next : ℕ) (all kept : Exits) → ending None (block_at image a) ≡ Some (i, next) → exits_of all ≡ targets i next → listed kept.first ≡ filter (is_code_place image) (listed all.first) → listed kept.second ≡ filter (is_code_place image) (listed all.second) → exits_of kept ≡ successors image a
unfolding targets_by
exits_are image a i next all kept e t f s =
    ap (λ x. x ++ listed kept.second) f
    ∙ ap (λ x. filter (is_code_place image) (listed all.first) ++ x) s
    ∙ sym (filter-append (is_code_place image) (listed all.first) (listed all.second))
    ∙ ap (filter (is_code_place image)) (t ∙ sym (ap targets_by e) ∙ all_targets (block_at image a))

pub no_exits : (image : ImageData) (a : ℕ) (kept : List ℕ) → ending None (block_at image a) ≡ None → kept ≡ [] → kept ≡ successors image a
unfolding targets_by
no_exits image a kept e k = k ∙ ap (filter (is_code_place image)) (sym (ap targets_by e) ∙ all_targets (block_at image a))
