-- Strings that spell lines, one more at a time.
use Rattle.std.proofs.Common.{◌≡◌, ℕ, ◌+◌, ◌≤◌, List, [], ◌∷◌, ◌++◌, length, drop, sym, ap, subst, arith, ◌∙◌}
use Rattle.std.specs.List.{concat, AllByRecursion}
use Rattle.std.proofs.lemmas.List.{length-append}
use Rattle.std.proofs.lemmas.Grind.{common_steps}
use Rattle.guest_gen.specs.declared.line.Line.{Line}
use Rattle.guest_gen.specs.declared.line.Line.TheVariants.{Label, Plain, Call, Jne}
use Rattle.guest_gen.specs.Spelling.{SpellsLine, label_after, AreSpelled, IsSpelled, CanStand, most, most_of}

-- whatever strings spell the lines that are left, those of the bytes so far and they spell all lines
abbrev pub Rest : ℕ → List Line → ℕ → List ℕ → List Line → Type 0
Rest start lines label bytes left = (more : List (List ℕ)) → AreSpelled label (start + length bytes) left more → (all : List (List ℕ)) × AreSpelled start start lines all × (concat all ≡ bytes ++ concat more)

pub rest_init : (start : ℕ) (lines : List Line) (bytes : List ℕ) → bytes ≡ [] → Rest start lines start bytes lines
rest_init start lines bytes e more h =
    let size : length bytes ≡ 0 = ap length e in
    let at : start + length bytes ≡ start = omega (arith, size) in
    (more, subst (λ (n : ℕ). AreSpelled start n lines more) at h, ap (λ (b : List ℕ). b ++ concat more) (sym e))

pub rest_more : (start : ℕ) (lines : List Line) (label : ℕ) (bytes : List ℕ) (line : Line) (left : List Line) (s new : List ℕ) → Rest start lines label bytes (line ∷ left) → SpellsLine label (start + length bytes + length s) line s → new ≡ bytes ++ s → Rest start lines (label_after label (start + length bytes) line) new left
rest_more start lines label bytes line left s new r spelled e more h =
    let size : length new ≡ length bytes + length s = ap length e ∙ length-append bytes s in
    let at : start + length new ≡ start + length bytes + length s = omega (arith, size) in
    let found = r (s ∷ more) (spelled, subst (λ (n : ℕ). AreSpelled (label_after label (start + length bytes) line) n left more) at h) in
    let join : bytes ++ (s ++ concat more) ≡ new ++ concat more = grind (arith, common_steps, e) in
    (found.0, found.1, found.2 ∙ join)

pub rest_end : (start : ℕ) (lines : List Line) (label : ℕ) (bytes : List ℕ) → Rest start lines label bytes [] → IsSpelled start lines bytes
rest_end start lines label bytes r =
    let found = r [] tt in
    let all : bytes ++ [] ≡ bytes = grind (arith, common_steps) in
    record { strings = found.0; each = found.1; joined = sym (found.2 ∙ all) }

-- ---- sizes, and what can stand

pub most_left : (lines : List Line) (i : ℕ) (line : Line) (left : List Line) → drop i lines ≡ line ∷ left → most_of (drop i lines) ≡ most line + most_of left
most_left lines i line left e = ap most_of e

pub can_left : (lines : List Line) (i : ℕ) (line : Line) (left : List Line) → drop i lines ≡ line ∷ left → AllByRecursion CanStand (drop i lines) → CanStand line × AllByRecursion CanStand left
can_left lines i line left e h = subst (AllByRecursion CanStand) e h

-- a label's address never passes the line behind it
pub label_behind : (label at : ℕ) (line : Line) → label ≤ at → label_after label at line ≤ at
label_behind label at Label h = omega arith
label_behind label at (Plain i) h = h
label_behind label at (Call address) h = h
label_behind label at Jne h = h
