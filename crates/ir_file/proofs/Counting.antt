-- How many lines the text of parts and of blocks has.
use Rattle.std.proofs.Common.{◌≡◌, ℕ, zero, suc, ◌+◌, ◌==◌, ◌≤◌, Bool, true, false, List, [], ◌∷◌, ◌++◌, length, take, codes, refl, sym, ap, subst, ◌∙◌, append_assoc, arith, if◌then◌else◌}
use Rattle.std.specs.List.{flat_map}
use Rattle.std.proofs.lemmas.List.{append-nil, length-take-le}
use Rattle.std.proofs.lemmas.List.Sums.{sum_by-cons}
use Rattle.ir_syntax.specs.declared.block.Block.{Block}
use Rattle.ir_syntax.specs.declared.block.Part.{Part}
use Rattle.ir_syntax.specs.declared.line.Op.{Op}
use Rattle.ir_text.specs.Faults.{line_from}
use Rattle.ir_text.specs.Text.{block_text, code_text, end_text, hex, lined, op_text, part_text, spaced, text}
use Rattle.ir_file.specs.Lines.{before_in, before_line, block_line, lines_of_block, lines_of_blocks, lines_of_part, lines_of_parts}
use Rattle.ir_file.proofs.Plain.{block_line_line, end_line, op_line}

-- these bytes have so many newlines
abbrev pub Counts : ℕ → List ℕ → Type 0
Counts k s = (n : ℕ) (rest : List ℕ) → line_from n (s ++ rest) ≡ line_from (n + k) rest

none : Counts 0 []
none n rest = ap (λ (m : ℕ). line_from m rest) (omega arith)

both : (j k : ℕ) (s t : List ℕ) → Counts j s → Counts k t → Counts (j + k) (s ++ t)
both j k s t hs ht n rest = ap (line_from n) (append_assoc s t rest) ∙ hs n (t ++ rest) ∙ ht (n + j) rest ∙ ap (λ (m : ℕ). line_from m rest) (omega arith)

counts_as : (j k : ℕ) (s : List ℕ) → j ≡ k → Counts j s → Counts k s
counts_as j k s e h = subst (λ (m : ℕ). Counts m s) e h

pub ops_count : (os : List Op) → Counts (length os) (flat_map op_text os)
ops_count [] = none
ops_count (o ∷ os) = counts_as (1 + length os) (suc (length os)) (flat_map op_text (o ∷ os)) (omega arith) (both 1 (length os) (op_text o) (flat_map op_text os) (op_line o) (ops_count os))

part_count : (p : Part) → Counts (length p.ops + 1) (part_text p)
part_count p = both (length p.ops) 1 (flat_map op_text p.ops) (end_text p.end) (ops_count p.ops) (end_line p.end)

parts_count : (ps : List Part) → Counts (lines_of_parts ps) (flat_map part_text ps)
parts_count [] = none
parts_count (p ∷ ps) =
    counts_as (lines_of_part p + lines_of_parts ps) (lines_of_parts (p ∷ ps)) (flat_map part_text (p ∷ ps)) (sym (sum_by-cons lines_of_part p ps))
    (both (lines_of_part p) (lines_of_parts ps) (part_text p) (flat_map part_text ps) (part_count p) (parts_count ps))

-- a block's text is its line, its parts, and `end`
block_whole : (b : Block) → block_line b ++ (flat_map part_text b.parts ++ codes "end\n") ≡ block_text b
block_whole b = regroup (codes "block ") (spaced (hex b.at)) (lined (code_text b.code)) (flat_map part_text b.parts ++ codes "end\n")
  where
    regroup : (x y z w : List ℕ) → (x ++ (y ++ z)) ++ w ≡ x ++ (y ++ (z ++ w))
    regroup x y z w = simp append_assoc

block_count : (b : Block) → Counts (lines_of_block b) (block_text b)
block_count b =
    subst (Counts (lines_of_block b)) (block_whole b)
    (counts_as (1 + (lines_of_parts b.parts + 1)) (lines_of_block b) (block_line b ++ (flat_map part_text b.parts ++ codes "end\n")) (omega arith)
    (both 1 (lines_of_parts b.parts + 1) (block_line b) (flat_map part_text b.parts ++ codes "end\n") (block_line_line b)
    (both (lines_of_parts b.parts) 1 (flat_map part_text b.parts) (codes "end\n") (parts_count b.parts) (λ n rest. refl))))

blocks_count : (bs : List Block) → Counts (lines_of_blocks bs) (flat_map block_text bs)
blocks_count [] = none
blocks_count (b ∷ bs) =
    counts_as (lines_of_block b + lines_of_blocks bs) (lines_of_blocks (b ∷ bs)) (flat_map block_text (b ∷ bs)) (sym (sum_by-cons lines_of_block b bs))
    (both (lines_of_block b) (lines_of_blocks bs) (block_text b) (flat_map block_text bs) (block_count b) (blocks_count bs))

text_count : (bs : List Block) → Counts (1 + lines_of_blocks bs) (text bs)
text_count bs = both 1 (lines_of_blocks bs) (codes "ir 1\n") (flat_map block_text bs) (λ n rest. refl) (blocks_count bs)

-- ---- a text has no more lines than bytes

line_within : (s : List ℕ) (n : ℕ) → line_from n s ≤ n + length s
line_within [] n = omega arith
line_within (c ∷ cs) n = by (c == 10) (line_from (n + 1) cs) (line_from n cs) (line_within cs (n + 1)) (line_within cs n)
  where
    by : (b : Bool) (more same : ℕ) → more ≤ (n + 1) + length cs → same ≤ n + length cs → (if b then more else same) ≤ n + suc (length cs)
    by true more same hm hs = omega (arith, hm)
    by false more same hm hs = omega (arith, hs)

count_within : (k : ℕ) (s : List ℕ) → Counts k s → k ≤ length s
count_within k s h =
    let e : line_from 0 s ≡ 0 + k = ap (line_from 0) (sym (append-nil s)) ∙ h 0 [] in
    omega (arith, e, line_within s 0)

pub lines_within : (bs : List Block) → lines_of_blocks bs + 1 ≤ length (text bs)
lines_within bs = let h : 1 + lines_of_blocks bs ≤ length (text bs) = count_within (1 + lines_of_blocks bs) (text bs) (text_count bs) in omega (arith, h)

-- ---- before a line

-- line k of part i is one of these parts'; of no parts it is 0 of 0
abbrev pub IsInside : List Part → ℕ → ℕ → Type 0
IsInside [] i k = (i ≡ 0) × (k ≡ 0)
IsInside (p ∷ ps) zero k = k ≤ length p.ops
IsInside (p ∷ ps) (suc i) k = IsInside ps i k

before_count : (ps : List Part) (i k : ℕ) → IsInside ps i k → Counts (lines_of_parts (take i ps) + k) (before_in ps i k)
before_count [] i k h = counts_as 0 (lines_of_parts (take i []) + k) [] (subst (λ (j : ℕ). 0 ≡ lines_of_parts (take j []) + k) (sym h.0) (omega (arith, h.1))) none
before_count (p ∷ ps) zero k h = counts_as (length (take k p.ops)) (0 + k) (flat_map op_text (take k p.ops)) (omega (arith, length-take-le k p.ops h)) (ops_count (take k p.ops))
before_count (p ∷ ps) (suc i) k h =
    counts_as (lines_of_part p + (lines_of_parts (take i ps) + k)) (lines_of_parts (take (suc i) (p ∷ ps)) + k) (part_text p ++ before_in ps i k) (omega (arith, sum_by-cons lines_of_part p (take i ps)))
    (both (lines_of_part p) (lines_of_parts (take i ps) + k) (part_text p) (before_in ps i k) (part_count p) (before_count ps i k h))

-- so many lines are within the block's
pub inside_within : (ps : List Part) (i k : ℕ) → IsInside ps i k → (i ≤ length ps) × (lines_of_parts (take i ps) + k ≤ lines_of_parts ps)
inside_within [] i k h = (omega (arith, h.0), subst (λ (j : ℕ). lines_of_parts (take j []) + k ≤ 0) (sym h.0) (omega (arith, h.1)))
inside_within (p ∷ ps) zero k h = (omega arith, omega (arith, sum_by-cons lines_of_part p ps, h))
inside_within (p ∷ ps) (suc i) k h =
    let r = inside_within ps i k h in
    (omega (arith, r.0), omega (arith, r.1, sum_by-cons lines_of_part p ps, sum_by-cons lines_of_part p (take i ps)))

-- the line behind what stands before a line
pub line_at : (before : List Block) (block : Block) (i k : ℕ) → IsInside block.parts i k → (lines_of_blocks before + 2) + ((lines_of_parts (take i block.parts) + k) + 1) ≡ line_from 1 (before_line before block i k)
line_at before block i k h =
    let front = block_line block ++ before_in block.parts i k in
    let lines = lines_of_parts (take i block.parts) + k in
    let own : Counts (1 + lines) front = both 1 lines (block_line block) (before_in block.parts i k) (block_line_line block) (before_count block.parts i k h) in
    let all : Counts ((1 + lines_of_blocks before) + (1 + lines)) (before_line before block i k) = both (1 + lines_of_blocks before) (1 + lines) (text before) front (text_count before) own in
    let e : line_from 1 (before_line before block i k) ≡ 1 + ((1 + lines_of_blocks before) + (1 + lines)) = ap (line_from 1) (sym (append-nil (before_line before block i k))) ∙ all 1 [] in
    omega (arith, e)
