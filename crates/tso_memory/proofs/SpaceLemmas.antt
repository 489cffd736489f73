-- What an address space finds, checks and adds.
use Rattle.std.proofs.Common.{◌≡◌, ℕ, zero, suc, ◌-◌, ◌<◌, ◌≤◌, ◌^◌, Bool, true, false, IsTrue, List, [], ◌∷◌, length, get_or, Option, Some, None, refl, sym, ap, ◌∙◌, inl, inr, arith}
use Rattle.std.specs.List.{insert}
use Rattle.std.specs.Cmp.{nat_cmp_total}
use Rattle.std.specs.FinMap.{get, same_map, nat_cmp-IsAntisymmetric}
use Rattle.std.proofs.lemmas.Bool.{cases_lt, cases_Bool}
use Rattle.tso_memory.specs.declared.access.Access.{Access}
use Rattle.tso_memory.specs.declared.access.Access.TheVariants.{Load, Store, Locked}
use Rattle.tso_memory.specs.Piece.{PieceData, end_of, has, piece_at, ShareNone, IsLaidOut}
use Rattle.tso_memory.specs.Memory.{Cell, Memory, memory_of, add_cells, permits, may, first_denied, cell_of}
use Rattle.tso_memory.proofs.PieceLemmas.{read_piece}
use Rattle.tso_memory.proofs.MemoryLemmas.{cell_in, cell_in-out, has_in, has_from, has_to, other_has_not, memory_at, memory_none, laid_apart, get-memory_cons, get-add_cells}

-- where no piece has an address, nothing stands there
pub absent_get : (qs ps : List PieceData) (m : Memory) (x : ℕ) → qs ≡ ps → memory_of ps ≡ m → ((i : ℕ) → i < length qs → has (piece_at qs i) x ≡ false) → get m x ≡ None
absent_get qs ps m x d v none = ap (λ (n : Memory). get n x) (sym v ∙ ap memory_of (sym d)) ∙ memory_none qs x none

-- where a piece has an address, its byte and rights stand there
pub found_get : (qs ps : List PieceData) (m : Memory) (p : PieceData) (i x : ℕ) → qs ≡ ps → memory_of ps ≡ m → IsLaidOut ps → p ≡ get_or ps i p → (i < length qs) × (has (piece_at qs i) x ≡ true) → get m x ≡ Some (cell_of p x)
found_get qs ps m p i x d v h e f =
    let within : i < length ps = omega (arith, f.0, ap length d) in
    let same : p ≡ piece_at ps i = read_piece ps i p within e in
    let inside : has (piece_at ps i) x ≡ true = ap (λ (rs : List PieceData). has (piece_at rs i) x) (sym d) ∙ f.1 in
    ap (λ (n : Memory). get n x) (sym v) ∙ (memory_at ps i x (laid_apart ps h) within inside ∙ ap (λ (q : PieceData). Some (cell_of q x)) (sym same))

-- the same at each address of the piece
pub found_run : (qs ps : List PieceData) (m : Memory) (p : PieceData) (i x y : ℕ) → qs ≡ ps → memory_of ps ≡ m → IsLaidOut ps → p ≡ get_or ps i p → (i < length qs) × (has (piece_at qs i) x ≡ true) → p.at ≤ y → y < end_of p → get m y ≡ Some (cell_of p y)
found_run qs ps m p i x y d v h e f from to =
    let within : i < length ps = omega (arith, f.0, ap length d) in
    let same : p ≡ piece_at qs i = read_piece ps i p within e ∙ ap (λ (rs : List PieceData). piece_at rs i) (sym d) in
    found_get qs ps m p i y d v h e (f.0, ap (λ (q : PieceData). has q y) (sym same) ∙ has_in p y from to)

pub denied_nothing : (allowed : ℕ → Bool) (a n : ℕ) → n ≡ 0 → None ≡ first_denied allowed a n
unfolding first_denied
denied_nothing allowed a n e = rw e refl

pub permits_none : (access : Access) → permits access None ≡ false
permits_none Load = refl
permits_none Store = refl
permits_none Locked = refl

abbrev pub all_may : Memory → Access → ℕ → ℕ → Type 0
all_may m access a x = (y : ℕ) → a ≤ y → y < x → may m access y ≡ true

-- a run that may be accessed after one that may
pub may_more : (m : Memory) (access : Access) (a x z : ℕ) → all_may m access a x → all_may m access x z → all_may m access a z
may_more m access a x z first rest = λ y from to. elim (cases_lt y x) [ inl below ↦ first y from below | inr above ↦ rest y above to ]

-- a fact of a piece that is put in and of each that is there is one of each after
pub each_insert : (P : PieceData → Type 0) (ps : List PieceData) (i : ℕ) (p : PieceData) → P p → ((j : ℕ) → j < length ps → P (piece_at ps j)) → (j : ℕ) → j < length (insert ps i p) → P (piece_at (insert ps i p) j)
each_insert P ps zero p here each zero within = here
each_insert P ps zero p here each (suc j) within = each j (omega arith)
each_insert P [] (suc i) p here each zero within = here
each_insert P [] (suc i) p here each (suc j) within = absurd (omega arith)
each_insert P (q ∷ ps) (suc i) p here each zero within = each 0 (omega arith)
each_insert P (q ∷ ps) (suc i) p here each (suc j) within = each_insert P ps i p here (λ k far. each (suc k) (omega arith)) j (omega arith)

laid_cons : (p : PieceData) (ps : List PieceData) → p.at < end_of p → end_of p ≤ 2 ^ 47 → ((j : ℕ) → j < length ps → end_of p ≤ (piece_at ps j).at) → IsLaidOut ps → IsLaidOut (p ∷ ps)
laid_cons p ps filled low before h = record { in_order = order; filled = full; low = below }
  where
    order : (i j : ℕ) → i < j → j < length (p ∷ ps) → end_of (piece_at (p ∷ ps) i) ≤ (piece_at (p ∷ ps) j).at
    order i zero less within = absurd (omega arith)
    order zero (suc j) less within = before j (omega arith)
    order (suc i) (suc j) less within = h.in_order i j (omega arith) (omega arith)

    full : (i : ℕ) → i < length (p ∷ ps) → (piece_at (p ∷ ps) i).at < end_of (piece_at (p ∷ ps) i)
    full zero within = filled
    full (suc i) within = h.filled i (omega arith)

    below : (i : ℕ) → i < length (p ∷ ps) → end_of (piece_at (p ∷ ps) i) ≤ 2 ^ 47
    below zero within = low
    below (suc i) within = h.low i (omega arith)

laid_rest : (p : PieceData) (ps : List PieceData) → IsLaidOut (p ∷ ps) → IsLaidOut ps
laid_rest p ps h = record {
  in_order = λ i j less within. h.in_order (suc i) (suc j) (omega arith) (omega arith);
  filled = λ i within. h.filled (suc i) (omega arith);
  low = λ i within. h.low (suc i) (omega arith);
}

-- a piece between its neighbours
laid_insert : (ps : List PieceData) (i : ℕ) (p : PieceData) → IsLaidOut ps → i ≤ length ps → p.at < end_of p → end_of p ≤ 2 ^ 47 → ((j : ℕ) → j < i → end_of (piece_at ps j) ≤ p.at) → ((j : ℕ) → i ≤ j → j < length ps → end_of p ≤ (piece_at ps j).at) → IsLaidOut (insert ps i p)
laid_insert ps zero p h within filled low before after = laid_cons p ps filled low (λ j far. after j (omega arith) far) h
laid_insert [] (suc i) p h within filled low before after = absurd (omega arith)
laid_insert (q ∷ ps) (suc i) p h within filled low before after =
    laid_cons q (insert ps i p) (h.filled 0 (omega arith)) (h.low 0 (omega arith))
    (each_insert (λ r. end_of q ≤ r.at) ps i p (before 0 (omega arith)) (λ j far. h.in_order 0 (suc j) (omega arith) (omega arith)))
    (laid_insert ps i p (laid_rest q ps h) (omega arith) filled low (λ j less. before (suc j) (omega arith)) (λ j from far. after (suc j) (omega arith) (omega arith)))

share_none : (ps : List PieceData) (p : PieceData) → IsLaidOut ps → ((x : ℕ) → IsTrue (has p x) → get (memory_of ps) x ≡ None) → (j : ℕ) → j < length ps → ShareNone (piece_at ps j) p
share_none ps p h apart j within = λ x in_j in_p. let none = apart x in_p in let some = memory_at ps j x (laid_apart ps h) within in_j in cc

-- a piece whose addresses are free goes between those that begin before it and those that begin after it
pub laid_add : (ps : List PieceData) (i : ℕ) (p : PieceData) → IsLaidOut ps → i ≤ length ps → p.at < end_of p → end_of p ≤ 2 ^ 47 → ((j : ℕ) → j < i → (piece_at ps j).at ≤ p.at) → ((j : ℕ) → i ≤ j → j < length ps → p.at < (piece_at ps j).at) → ((x : ℕ) → IsTrue (has p x) → get (memory_of ps) x ≡ None) → IsLaidOut (insert ps i p)
laid_add ps i p h within filled low before after apart =
    laid_insert ps i p h within filled low
    (λ j less. elim (cases_lt p.at (end_of (piece_at ps j))) [
      | inl over ↦ absurd (share_none ps p h apart j (omega arith) p.at (has_in (piece_at ps j) p.at (before j less) over) (has_in p p.at (omega arith) filled))
      | inr fine ↦ fine
    ])
    (λ j from far. elim (cases_lt (piece_at ps j).at (end_of p)) [
      | inl over ↦ absurd (share_none ps p h apart j far (piece_at ps j).at (has_in (piece_at ps j) (piece_at ps j).at (omega arith) (h.filled j far)) (has_in p (piece_at ps j).at (omega (arith, after j from far)) over))
      | inr fine ↦ fine
    ])

cell_in-swap : (p q : PieceData) (y : ℕ) (o : Option Cell) → ShareNone q p → cell_in q y (cell_in p y o) ≡ cell_in p y (cell_in q y o)
cell_in-swap p q y o apart = elim (cases_Bool (has p y)) [
  | inl in_p ↦ let out : has q y ≡ false = other_has_not q p y apart in_p in cell_in-out q y (cell_in p y o) out ∙ ap (cell_in p y) (sym (cell_in-out q y o out))
  | inr out ↦ ap (cell_in q y) (cell_in-out p y o out) ∙ sym (cell_in-out p y (cell_in q y o) out)
]

get-memory_insert : (ps : List PieceData) (i : ℕ) (p : PieceData) (y : ℕ) → i ≤ length ps → ((j : ℕ) → j < length ps → ShareNone (piece_at ps j) p) → get (memory_of (insert ps i p)) y ≡ cell_in p y (get (memory_of ps) y)
get-memory_insert ps zero p y within apart = get-memory_cons p ps y
get-memory_insert [] (suc i) p y within apart = absurd (omega arith)
get-memory_insert (q ∷ ps) (suc i) p y within apart =
    get-memory_cons q (insert ps i p) y
    ∙ (ap (cell_in q y) (get-memory_insert ps i p y (omega arith) (λ j far. apart (suc j) (omega arith)))
    ∙ (cell_in-swap p q y (get (memory_of ps) y) (apart 0 (omega arith)) ∙ ap (cell_in p y) (sym (get-memory_cons q ps y))))

-- its cells come to the memory
pub memory_add : (ps : List PieceData) (i : ℕ) (p : PieceData) → IsLaidOut ps → i ≤ length ps → ((x : ℕ) → IsTrue (has p x) → get (memory_of ps) x ≡ None) → memory_of (insert ps i p) ≡ add_cells (memory_of ps) p.at p.r p.w p.bytes
memory_add ps i p h within apart = same_map nat_cmp_total nat_cmp-IsAntisymmetric _ _ (λ y. get-memory_insert ps i p y within (share_none ps p h apart) ∙ sym (get-add_cells p.bytes (memory_of ps) p.at p.r p.w y))

pub add_nothing : (m : Memory) (a : ℕ) (r w : Bool) (bs : List ℕ) → bs ≡ [] → add_cells m a r w bs ≡ m
unfolding add_cells
add_nothing m a r w bs e = rw e refl

-- an address that a piece has lies in it
pub found_place : (qs ps : List PieceData) (p : PieceData) (i x : ℕ) → qs ≡ ps → p ≡ get_or ps i p → (i < length qs) × (has (piece_at qs i) x ≡ true) → (p.at ≤ x) × (x < end_of p)
found_place qs ps p i x d e f =
    let within : i < length ps = omega (arith, f.0, ap length d) in
    let same : p ≡ piece_at qs i = read_piece ps i p within e ∙ ap (λ (rs : List PieceData). piece_at rs i) (sym d) in
    let inside : has p x ≡ true = ap (λ (q : PieceData). has q x) same ∙ f.1 in
    (has_from p x inside, has_to p x inside)

-- from an address that a piece has, all to the piece's end may be accessed where its rights suffice
pub run_may : (qs ps : List PieceData) (m : Memory) (p : PieceData) (i x : ℕ) (access : Access) → qs ≡ ps → memory_of ps ≡ m → IsLaidOut ps → p ≡ get_or ps i p → (i < length qs) × (has (piece_at qs i) x ≡ true) → ((b : ℕ) → permits access (Some (record { byte = b; r = p.r; w = p.w })) ≡ true) → all_may m access x (end_of p)
run_may qs ps m p i x access d v h e f rights = λ y from to.
    let place = found_place qs ps p i x d e f in
    ap (permits access) (found_run qs ps m p i x y d v h e f (omega (arith, place.0)) to) ∙ rights (get_or p.bytes (y - p.at) 0)
