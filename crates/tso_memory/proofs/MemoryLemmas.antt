-- What stands at an address of a memory after bytes are put into it, and in the memory of pieces.
use Rattle.std.proofs.Common.{◌≡◌, ℕ, zero, suc, ◌+◌, ◌-◌, ◌<◌, ◌≤◌, Bool, true, false, cond, ◌==◌, List, [], ◌∷◌, length, get_or, set, Option, Some, None, refl, sym, ap, subst, ◌∙◌, ◌⊎◌, inl, inr, arith, add-zero}
use Rattle.std.specs.Ordering.{nat_cmp}
use Rattle.std.specs.Cmp.{unsigned_tied, nat_cmp_total}
use Rattle.std.specs.FinMap.{get, insert, get-insert, get-empty, same_map, nat_cmp-IsAntisymmetric}
use Rattle.std.proofs.lemmas.Bool.Decides.{nat_tests}
use Rattle.std.proofs.lemmas.Bool.{cases_eq, cases_Bool, cases_lt, eqb-true, cond_both}
use Rattle.std.proofs.lemmas.List.{get_or-set_same, get_or-set_other, length-set}
use Rattle.byteorder.specs.Endian.{little_from}
use Rattle.tso_memory.specs.Piece.{PieceData, end_of, has, piece_at, no_piece, ShareNone, AreApart, IsLaidOut, with_bytes}
use Rattle.tso_memory.specs.Memory.{Cell, Memory, with_cell, put_byte, put_bytes, add_cells, memory_of, first_denied, number_from, written, put_at, cell_of}

get-with_cell : (m : Memory) (x b y : ℕ) (o : Option Cell) → get m x ≡ o → get (with_cell m x b o) y ≡ cond (y == x) (written o b) (get m y)
get-with_cell m x b y None e = cond_both (y == x) None (get m y) (λ o. get m y ≡ o) (λ t. ap (get m) (eqb-true y x t) ∙ e) (λ t. refl)
get-with_cell m x b y (Some c) e = get-insert nat_cmp_total m x (record c { byte = b }) y ∙ ap (λ t. cond t (Some (record c { byte = b })) (get m y)) (unsigned_tied y x)

get-put_byte : (m : Memory) (x b y : ℕ) → get (put_byte m x b) y ≡ cond (y == x) (written (get m x) b) (get m y)
get-put_byte m x b y = get-with_cell m x b y (get m x) refl

pub put_at-in : (a : ℕ) (bs : List ℕ) (y : ℕ) (o : Option Cell) → a ≤ y → y < a + length bs → put_at a bs y o ≡ written o (get_or bs (y - a) 0)
put_at-in a bs y o from to = grind (arith, nat_tests)

pub put_at-out : (a : ℕ) (bs : List ℕ) (y : ℕ) (o : Option Cell) → (y < a) ⊎ (a + length bs ≤ y) → put_at a bs y o ≡ o
put_at-out a bs y o out = grind (arith, nat_tests)

-- an address is in a run of n from a, or before it or after it
pub where_is : (a n y : ℕ) → ((a ≤ y) × (y < a + n)) ⊎ ((y < a) ⊎ (a + n ≤ y))
where_is a n y = elim (cases_lt y a) [ inl below ↦ inr (inl below) | inr from ↦ elim (cases_lt y (a + n)) [ inl to ↦ inl (from, to) | inr past ↦ inr (inr past) ] ]

put_at-cons : (a b y : ℕ) (bs : List ℕ) (o p : Option Cell) → (y ≡ a → p ≡ written o b) → ((y ≡ a → ⊥) → p ≡ o) → put_at (a + 1) bs y p ≡ put_at a (b ∷ bs) y o
put_at-cons a b y bs o p here other = elim (cases_eq y a) [
  | inl e ↦ put_at-out (a + 1) bs y p (inl (omega arith)) ∙ (here e ∙ (let z : y - a ≡ zero = omega arith in ap (λ k. written o (get_or (b ∷ bs) k 0)) (sym z)) ∙ sym (put_at-in a (b ∷ bs) y o (omega arith) (omega arith)))
  | inr ne ↦ elim (where_is (a + 1) (length bs) y) [
    | inl in_it ↦ put_at-in (a + 1) bs y p in_it.0 in_it.1 ∙ (ap (λ q. written q (get_or bs (y - (a + 1)) 0)) (other ne) ∙ (let z : y - a ≡ suc (y - (a + 1)) = omega arith in ap (λ k. written o (get_or (b ∷ bs) k 0)) (sym z)) ∙ sym (put_at-in a (b ∷ bs) y o (omega arith) (omega arith)))
    | inr out ↦ put_at-out (a + 1) bs y p out ∙ (other ne ∙ sym (put_at-out a (b ∷ bs) y o (beside a y (length bs) ne out)))
  ]
]
  where
    beside : (a y n : ℕ) → (y ≡ a → ⊥) → (y < a + 1) ⊎ (a + 1 + n ≤ y) → (y < a) ⊎ (a + suc n ≤ y)
    beside a y n ne (inl below) = inl (omega arith)
    beside a y n ne (inr past) = inr (omega arith)

pub get-put_bytes : (bs : List ℕ) (m : Memory) (a y : ℕ) → get (put_bytes m a bs) y ≡ put_at a bs y (get m y)
unfolding put_bytes
get-put_bytes [] m a y = sym (put_at-out a [] y (get m y) (nothing a y))
  where
    nothing : (a y : ℕ) → (y < a) ⊎ (a + 0 ≤ y)
    nothing a y = elim (cases_lt y a) [ inl below ↦ inl below | inr from ↦ inr (omega arith) ]
get-put_bytes (b ∷ bs) m a y =
    get-put_bytes bs (put_byte m a b) (a + 1) y
    ∙ put_at-cons a b y bs (get m y) (get (put_byte m a b) y) (λ e. get-put_byte m a b y ∙ (rw e (grind (arith, nat_tests)))) (λ ne. get-put_byte m a b y ∙ (grind (arith, nat_tests)))

-- what stands at y once a piece is there, by what stood there
abbrev pub cell_in : PieceData → ℕ → Option Cell → Option Cell
cell_in p y o = cond (has p y) (Some (cell_of p y)) o

pub has_in : (p : PieceData) (y : ℕ) → p.at ≤ y → y < end_of p → has p y ≡ true
has_in p y from to = grind (arith, nat_tests)

pub has_out : (p : PieceData) (y : ℕ) → (y < p.at) ⊎ (end_of p ≤ y) → has p y ≡ false
has_out p y out = grind (arith, nat_tests)

pub has_from : (p : PieceData) (y : ℕ) → has p y ≡ true → p.at ≤ y
has_from p y h = grind (arith, nat_tests)

pub has_to : (p : PieceData) (y : ℕ) → has p y ≡ true → y < end_of p
has_to p y h = grind (arith, nat_tests)

pub cell_in-in : (p : PieceData) (y : ℕ) (o : Option Cell) → has p y ≡ true → cell_in p y o ≡ Some (cell_of p y)
cell_in-in p y o h = rw h refl

pub cell_in-out : (p : PieceData) (y : ℕ) (o : Option Cell) → has p y ≡ false → cell_in p y o ≡ o
cell_in-out p y o h = rw h refl

get-insert_cell : (m : Memory) (x y : ℕ) (c : Cell) → get (insert m x c) y ≡ cond (y == x) (Some c) (get m y)
get-insert_cell m x y c = get-insert nat_cmp_total m x c y ∙ ap (λ t. cond t (Some c) (get m y)) (unsigned_tied y x)

pub no_place : (a y : ℕ) → (y < a) ⊎ (a + 0 ≤ y)
no_place a y = elim (cases_lt y a) [ inl below ↦ inl below | inr from ↦ inr (omega arith) ]

beside : (a y n : ℕ) → (y ≡ a → ⊥) → (y < a + 1) ⊎ (a + 1 + n ≤ y) → (y < a) ⊎ (a + suc n ≤ y)
beside a y n ne (inl below) = inl (omega arith)
beside a y n ne (inr past) = inr (omega arith)

pub get-add_cells : (bs : List ℕ) (m : Memory) (a : ℕ) (r w : Bool) (y : ℕ) → get (add_cells m a r w bs) y ≡ cell_in (record { at = a; r = r; w = w; bytes = bs }) y (get m y)
unfolding add_cells
get-add_cells [] m a r w y = sym (cell_in-out (record { at = a; r = r; w = w; bytes = [] }) y (get m y) (has_out (record { at = a; r = r; w = w; bytes = [] }) y (no_place a y)))
get-add_cells (b ∷ bs) m a r w y =
    let all : PieceData = record { at = a; r = r; w = w; bytes = b ∷ bs } in
    let rest : PieceData = record { at = a + 1; r = r; w = w; bytes = bs } in
    let before = get-insert_cell (add_cells m (a + 1) r w bs) a y (record { byte = b; r = r; w = w }) in
    elim (cases_eq y a) [
      | inl e ↦ before ∙ (let t : (y == a) ≡ true = grind (arith, nat_tests) in let z : y - a ≡ zero = omega arith in
          let h : has all y ≡ true = has_in all y (omega arith) (omega arith) in
          rw t (ap (λ k. Some (record { byte = get_or (b ∷ bs) k 0; r = r; w = w })) (sym z) ∙ sym (cell_in-in all y (get m y) h)))
      | inr ne ↦ before ∙ (let t : (y == a) ≡ false = grind (arith, nat_tests) in rw t (get-add_cells bs m (a + 1) r w y ∙ elim (where_is (a + 1) (length bs) y) [
        | inl in_it ↦ let z : y - a ≡ suc (y - (a + 1)) = omega arith in
            cell_in-in rest y (get m y) (has_in rest y in_it.0 in_it.1)
            ∙ (ap (λ k. Some (record { byte = get_or (b ∷ bs) k 0; r = r; w = w })) (sym z)
            ∙ sym (cell_in-in all y (get m y) (has_in all y (omega arith) (omega arith))))
        | inr out ↦ cell_in-out rest y (get m y) (has_out rest y out) ∙ sym (cell_in-out all y (get m y) (has_out all y (beside a y (length bs) ne out)))
      ]))
    ]

pub get-memory_cons : (p : PieceData) (ps : List PieceData) (y : ℕ) → get (memory_of (p ∷ ps)) y ≡ cell_in p y (get (memory_of ps) y)
unfolding memory_of
get-memory_cons p ps y = get-add_cells p.bytes (memory_of ps) p.at p.r p.w y

-- no address is two pieces', of the rest
pub apart_rest : (p : PieceData) (ps : List PieceData) → AreApart (p ∷ ps) → AreApart ps
apart_rest p ps h = λ i j below within. h (suc i) (suc j) (omega arith) (omega arith)

pub other_has_not : (p q : PieceData) (y : ℕ) → ShareNone p q → has q y ≡ true → has p y ≡ false
other_has_not p q y h in_q = elim (cases_Bool (has p y)) [ inl in_p ↦ absurd (h y in_p in_q) | inr out ↦ out ]

pub memory_at : (ps : List PieceData) (i y : ℕ) → AreApart ps → i < length ps → has (piece_at ps i) y ≡ true → get (memory_of ps) y ≡ Some (cell_of (piece_at ps i) y)
memory_at [] i y apart within h = absurd (omega arith)
memory_at (p ∷ ps) zero y apart within h = get-memory_cons p ps y ∙ cell_in-in p y (get (memory_of ps) y) h
memory_at (p ∷ ps) (suc i) y apart within h =
    get-memory_cons p ps y
    ∙ (cell_in-out p y (get (memory_of ps) y) (other_has_not p (piece_at ps i) y (apart 0 (suc i) (omega arith) within) h)
    ∙ memory_at ps i y (apart_rest p ps apart) (omega arith) h)

pub memory_none : (ps : List PieceData) (y : ℕ) → ((i : ℕ) → i < length ps → has (piece_at ps i) y ≡ false) → get (memory_of ps) y ≡ None
unfolding memory_of
memory_none [] y none = get-empty nat_cmp y
memory_none (p ∷ ps) y none = get-memory_cons p ps y ∙ (cell_in-out p y (get (memory_of ps) y) (none 0 (omega arith)) ∙ memory_none ps y (λ i within. none (suc i) (omega arith)))

-- the bytes of a piece with others from place k on
pub record IsSplice (old : List ℕ) (k : ℕ) (bs new : List ℕ) : Type 0 where
  pub same_length : length new ≡ length old
  pub fits : k + length bs ≤ length old
  pub inside : (j : ℕ) → k ≤ j → j < k + length bs → get_or new j 0 ≡ get_or bs (j - k) 0
  pub outside : (j : ℕ) → (j < k) ⊎ (k + length bs ≤ j) → get_or new j 0 ≡ get_or old j 0

cell_in-splice : (p : PieceData) (k : ℕ) (bs new : List ℕ) (y : ℕ) (o : Option Cell) → IsSplice p.bytes k bs new → cell_in (with_bytes p new) y o ≡ put_at (p.at + k) bs y (cell_in p y o)
cell_in-splice p k bs new y o s = elim (where_is p.at (length p.bytes) y) [
  | inl in_p ↦
      let before : cell_in (with_bytes p new) y o ≡ Some (cell_of (with_bytes p new) y) = cell_in-in (with_bytes p new) y o (has_in (with_bytes p new) y in_p.0 (omega (arith, s.same_length))) in
      let after : cell_in p y o ≡ Some (cell_of p y) = cell_in-in p y o (has_in p y in_p.0 in_p.1) in
      before ∙ (elim (where_is (p.at + k) (length bs) y) [
        | inl in_bs ↦
            let byte : get_or new (y - p.at) 0 ≡ get_or bs (y - p.at - k) 0 = s.inside (y - p.at) (omega arith) (omega arith) in
            let place : y - p.at - k ≡ y - (p.at + k) = omega arith in
            ap (λ b. Some (record { byte = b; r = p.r; w = p.w })) (byte ∙ ap (λ j. get_or bs j 0) place)
            ∙ (sym (ap (λ q. written q (get_or bs (y - (p.at + k)) 0)) after) ∙ sym (put_at-in (p.at + k) bs y (cell_in p y o) in_bs.0 in_bs.1))
        | inr out ↦
            let byte : get_or new (y - p.at) 0 ≡ get_or p.bytes (y - p.at) 0 = s.outside (y - p.at) (beyond p.at k (length bs) y in_p.0 out) in
            ap (λ b. Some (record { byte = b; r = p.r; w = p.w })) byte ∙ (sym after ∙ sym (put_at-out (p.at + k) bs y (cell_in p y o) out))
      ])
  | inr out ↦
      cell_in-out (with_bytes p new) y o (has_out (with_bytes p new) y (same_out p.at (length p.bytes) (length new) y s.same_length out))
      ∙ (sym (cell_in-out p y o (has_out p y out)) ∙ sym (put_at-out (p.at + k) bs y (cell_in p y o) (inner_out p.at k (length bs) (length p.bytes) y s.fits out)))
]
  where
    beyond : (a k n y : ℕ) → a ≤ y → (y < a + k) ⊎ (a + k + n ≤ y) → (y - a < k) ⊎ (k + n ≤ y - a)
    beyond a k n y from (inl below) = inl (omega arith)
    beyond a k n y from (inr past) = inr (omega arith)

    same_out : (a n m y : ℕ) → m ≡ n → (y < a) ⊎ (a + n ≤ y) → (y < a) ⊎ (a + m ≤ y)
    same_out a n m y e (inl below) = inl below
    same_out a n m y e (inr past) = inr (omega arith)

    inner_out : (a k n m y : ℕ) → k + n ≤ m → (y < a) ⊎ (a + m ≤ y) → (y < a + k) ⊎ (a + k + n ≤ y)
    inner_out a k n m y e (inl below) = inl (omega arith)
    inner_out a k n m y e (inr past) = inr (omega arith)

cell_in-put_at : (p : PieceData) (a : ℕ) (bs : List ℕ) (y : ℕ) (o : Option Cell) → ((z : ℕ) → a ≤ z → z < a + length bs → has p z ≡ false) → cell_in p y (put_at a bs y o) ≡ put_at a bs y (cell_in p y o)
cell_in-put_at p a bs y o apart = elim (where_is a (length bs) y) [
  | inl in_it ↦ let out : has p y ≡ false = apart y in_it.0 in_it.1 in cell_in-out p y (put_at a bs y o) out ∙ sym (ap (put_at a bs y) (cell_in-out p y o out))
  | inr out ↦ ap (cell_in p y) (put_at-out a bs y o out) ∙ sym (put_at-out a bs y (cell_in p y o) out)
]

-- a splice into a piece puts its bytes into the memory
pub memory_splice : (ps : List PieceData) (i k : ℕ) (bs new : List ℕ) → AreApart ps → i < length ps → IsSplice (piece_at ps i).bytes k bs new → memory_of (set ps i (with_bytes (piece_at ps i) new)) ≡ put_bytes (memory_of ps) ((piece_at ps i).at + k) bs
memory_splice ps i k bs new apart within s = same_map nat_cmp_total nat_cmp-IsAntisymmetric _ _ (λ y. at_each ps i k bs new y apart within s ∙ sym (get-put_bytes bs (memory_of ps) ((piece_at ps i).at + k) y))
  where
    at_each : (ps : List PieceData) (i k : ℕ) (bs new : List ℕ) (y : ℕ) → AreApart ps → i < length ps → IsSplice (piece_at ps i).bytes k bs new → get (memory_of (set ps i (with_bytes (piece_at ps i) new))) y ≡ put_at ((piece_at ps i).at + k) bs y (get (memory_of ps) y)
    at_each [] i k bs new y apart within s = absurd (omega arith)
    at_each (p ∷ ps) zero k bs new y apart within s =
        get-memory_cons (with_bytes p new) ps y ∙ (cell_in-splice p k bs new y (get (memory_of ps) y) s ∙ sym (ap (put_at (p.at + k) bs y) (get-memory_cons p ps y)))
    at_each (p ∷ ps) (suc i) k bs new y apart within s =
        let q = piece_at ps i in
        get-memory_cons p (set ps i (with_bytes q new)) y
        ∙ (ap (cell_in p y) (at_each ps i k bs new y (apart_rest p ps apart) (omega arith) s)
        ∙ (cell_in-put_at p (q.at + k) bs y (get (memory_of ps) y) (λ z from to. other_has_not p q z (apart 0 (suc i) (omega arith) within) (has_in q z (omega arith) (omega (arith, s.fits))))
        ∙ sym (ap (put_at (q.at + k) bs y) (get-memory_cons p ps y))))

-- pieces in order share no address
pub laid_apart : (ps : List PieceData) → IsLaidOut ps → AreApart ps
laid_apart ps h = λ i j below within x in_i in_j. absurd (omega (arith, has_to (piece_at ps i) x in_i, has_from (piece_at ps j) x in_j, h.in_order i j below within))

same_ends : (ps : List PieceData) (i j : ℕ) (new : List ℕ) → i < length ps → length new ≡ length (piece_at ps i).bytes → ((piece_at (set ps i (with_bytes (piece_at ps i) new)) j).at ≡ (piece_at ps j).at) × (end_of (piece_at (set ps i (with_bytes (piece_at ps i) new)) j) ≡ end_of (piece_at ps j))
same_ends ps i j new within same = elim (cases_eq j i) [
  | inl e ↦ rw e (let s = get_or-set_same ps i (with_bytes (piece_at ps i) new) no_piece within in (ap (λ p. p.at) s, ap end_of s ∙ ap (λ n. (piece_at ps i).at + n) same))
  | inr ne ↦ let s = get_or-set_other ps i j (with_bytes (piece_at ps i) new) no_piece ne in (ap (λ p. p.at) s, ap end_of s)
]

-- a splice moves no piece
pub laid_splice : (ps : List PieceData) (i : ℕ) (new : List ℕ) → IsLaidOut ps → i < length ps → length new ≡ length (piece_at ps i).bytes → IsLaidOut (set ps i (with_bytes (piece_at ps i) new))
laid_splice ps i new h within same = record {
  in_order = λ j k below far. let m : k < length ps = omega (arith, length-set ps i (with_bytes (piece_at ps i) new)) in omega (arith, h.in_order j k below m, (same_ends ps i j new within same).1, (same_ends ps i k new within same).0);
  filled = λ j far. let m : j < length ps = omega (arith, length-set ps i (with_bytes (piece_at ps i) new)) in omega (arith, h.filled j m, (same_ends ps i j new within same).0, (same_ends ps i j new within same).1);
  low = λ j far. let m : j < length ps = omega (arith, length-set ps i (with_bytes (piece_at ps i) new)) in omega (arith, h.low j m, (same_ends ps i j new within same).1);
}

-- no access is refused where each byte may be accessed
pub first_denied-none : (allowed : ℕ → Bool) (x n : ℕ) → ((y : ℕ) → x ≤ y → y < x + n → allowed y ≡ true) → first_denied allowed x n ≡ None
unfolding first_denied
first_denied-none allowed x zero h = refl
first_denied-none allowed x (suc n) h = rw (h x (omega arith) (omega arith)) (first_denied-none allowed (x + 1) n (λ y from to. h y (omega arith) (omega arith)))

-- and else at the first byte that may not
pub first_denied-some : (allowed : ℕ → Bool) (x n y : ℕ) → x ≤ y → y < x + n → ((z : ℕ) → x ≤ z → z < y → allowed z ≡ true) → allowed y ≡ false → first_denied allowed x n ≡ Some y
unfolding first_denied
first_denied-some allowed x zero y from to h shut = absurd (omega arith)
first_denied-some allowed x (suc n) y from to h shut = elim (cases_eq y x) [
  | inl e ↦ let here : allowed x ≡ false = subst (λ z. allowed z ≡ false) e shut in rw here (ap Some (sym e))
  | inr ne ↦ rw (h x (omega arith) (omega arith)) (first_denied-some allowed (x + 1) n y (omega arith) (omega arith) (λ z f t. h z (omega arith) t) shut)
]

-- the number in bytes that a list gives
pub number_from-little : (n i : ℕ) (byte : ℕ → ℕ) (x : ℕ) (xs : List ℕ) → ((k : ℕ) → k < n → byte (x + k) ≡ get_or xs (i + k) 0) → number_from byte n x ≡ little_from i n xs
unfolding number_from
number_from-little zero i byte x xs h = refl
number_from-little (suc n) i byte x xs h =
    let here : byte x ≡ get_or xs i 0 = subst (λ y. byte y ≡ get_or xs i 0) (add-zero x) (subst (λ j. byte (x + 0) ≡ get_or xs j 0) (add-zero i) (h 0 (omega arith))) in
    let rest : number_from byte n (x + 1) ≡ little_from (suc i) n xs = number_from-little n (suc i) byte (x + 1) xs (λ k within. let a : x + 1 + k ≡ x + suc k = omega arith in let b : suc i + k ≡ i + suc k = omega arith in rw (a, b) (h (suc k) (omega arith))) in
    rw (here, rest) refl

-- the number depends on its bytes alone
pub number_from-same : (n : ℕ) (f g : ℕ → ℕ) (x : ℕ) → ((y : ℕ) → x ≤ y → y < x + n → f y ≡ g y) → number_from f n x ≡ number_from g n x
unfolding number_from
number_from-same zero f g x h = refl
number_from-same (suc n) f g x h = rw (h x (omega arith) (omega arith), number_from-same n f g (x + 1) (λ y from to. h y (omega arith) (omega arith))) refl
